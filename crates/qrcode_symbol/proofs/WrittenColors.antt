-- Rows written as colours.
use Rattle.std.proofs.Common.{◌≡◌, ℕ, suc, ◌+◌, ◌-◌, ◌*◌, ◌/◌, ◌%◌, ◌^◌, ◌<◌, ◌≤◌, List, ◌++◌, length, take, length-take, slice_index_or, ap, ◌∙◌, inl, inr, arith}
use Rattle.std.specs.Int.{w64, to_le_bytes}
use Rattle.std.proofs.lemmas.Bool.Decides.{leb_tells, nat_tests}
use Rattle.std.proofs.lemmas.List.{length-append, get_or_append_left, get_or-append-add, get_or-take}
use Rattle.qrcode_types.specs.Colors.{color_of}
use Rattle.qrcode_types.specs.declared.types.Color.{Color}
use Rattle.qrcode_types.specs.declared.types.Color.TheVariants.{Light}
use Rattle.qrcode_penalty.specs.Rows.{is_set}
use Rattle.qrcode_penalty.proofs.Places.{has_shr}
use Rattle.qrcode_symbol.specs.Unpacking.{IsRowWritten}
use Rattle.qrcode_symbol.proofs.MaskRows.{has_mod}

-- byte k of a word
byte_is : (n k : ℕ) → k < 8 → slice_index_or (to_le_bytes w64 n) k 0 ≡ n / 2 ^ (8 * k) % 2 ^ 8
byte_is n k h1 = grind (arith, nat_tests)

-- a bit of a word is in one of its bytes
pub bit_in_byte : (n x : ℕ) → x < 64 → is_set (slice_index_or (to_le_bytes w64 n) (x / 8) 0) (x % 8) ≡ is_set n x
bit_in_byte n x h =
    let turn : x % 8 + 8 * (x / 8) ≡ x = omega arith in
    ap (λ b. is_set b (x % 8)) (byte_is n (x / 8) (omega arith))
    ∙ has_mod (n / 2 ^ (8 * (x / 8))) 8 (x % 8) (omega arith)
    ∙ has_shr n (8 * (x / 8)) (x % 8)
    ∙ ap (is_set n) turn

-- a bit of the part of a line that is left
pub word_at : (rest word line a x : ℕ) → x < 64 → word ≡ rest % 2 ^ 64 → rest ≡ line / 2 ^ a → is_set word x ≡ is_set line (a + x)
word_at rest word line a x h e f =
    let turn : x + a ≡ a + x = omega arith in
    ap (λ n. is_set n x) e ∙ has_mod rest 64 x h ∙ ap (λ n. is_set n x) f ∙ has_shr line a x ∙ ap (is_set line) turn

-- the colours of the first `count` bits of a word, appended
pub chunk_written : (word count : ℕ) (old chunk new : List Color) → new ≡ old ++ take count chunk → count ≤ 64 → length chunk ≡ 64
    → ((x : ℕ) → x < 64 → slice_index_or chunk x Light ≡ color_of (is_set word x)) → IsRowWritten word count old new
chunk_written word count old chunk new is small long are =
    let part : List Color = take count chunk in
    let size : length part ≡ count = omega (arith, length-take count chunk, long, small) in
    record {
      size = ap length is ∙ length-append old part ∙ ap (λ n. length old + n) size;
      before = λ i h. ap (λ l. slice_index_or l i Light) is ∙ get_or_append_left old part Light i h;
      shown = λ x h.
          ap (λ l. slice_index_or l (length old + x) Light) is ∙ get_or-append-add old part x Light ∙ get_or-take count chunk x Light h ∙ are x (omega (arith, h, small));
    }

-- the next bits of a line, appended
pub row_more : (line word a b : ℕ) (old mid new : List Color) → IsRowWritten line a old mid → IsRowWritten word b mid new
    → ((x : ℕ) → x < b → is_set word x ≡ is_set line (a + x)) → IsRowWritten line (a + b) old new
row_more line word a b old mid new first next same = record {
  size = omega (arith, first.size, next.size);
  before = λ i h. next.before i (omega (arith, h, first.size)) ∙ first.before i h;
  shown = λ x h. elim (leb_tells (suc x) a) [
    | inl p ↦ next.before (length old + x) (omega (arith, p.1, first.size)) ∙ first.shown x (omega (arith, p.1))
    | inr p ↦
        let i = x - a in
        let e : length old + x ≡ length mid + i = omega (arith, p.1, first.size) in
        let turn : a + i ≡ x = omega (arith, p.1) in
        let low : i < b = omega (arith, h, p.1) in
        ap (λ n. slice_index_or new n Light) e ∙ next.shown i low ∙ ap color_of (same i low ∙ ap (is_set line) turn)
  ];
}
