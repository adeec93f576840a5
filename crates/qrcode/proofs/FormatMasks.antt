-- The mask that the format word of a square names.
use Rattle.std.proofs.Common.{◌≡◌, ℕ, ℤ, ◌+◌, ◌-◌, ◌*◌, ◌%◌, ◌==◌, Bool, true, false, get_or, refl, ap, ◌∙◌, arith, IsTrue, List, if◌then◌else◌}
use Rattle.std.proofs.lemmas.Bool.{eqb-true}
use Rattle.qrcode_types.specs.Bits.{has_bit, number_bits}
use Rattle.qrcode_types.specs.Colors.{is_dark}
use Rattle.qrcode_types.specs.Polynomials.{remainder_from, remainder}
use Rattle.qrcode_types.specs.Versions.{has_level}
use Rattle.qrcode_types.specs.declared.types.Version.{Version}
use Rattle.qrcode_types.specs.declared.types.Version.TheVariants.{Normal, Micro}
use Rattle.qrcode_types.specs.declared.types.EcLevel.{EcLevel}
use Rattle.qrcode_types.specs.declared.types.Color.{Color}
use Rattle.qrcode_layout.specs.Masks.{mask_number, micro_mask_number, exists_in, nth_mask}
use Rattle.qrcode_layout.specs.Patterns.{format_copies}
use Rattle.qrcode_layout.specs.Stream.{color_at}
use Rattle.qrcode_layout.specs.Words.{with_check_bits, format_bits, format_word}
use Rattle.qrcode_layout.specs.declared.masks.MaskPattern.{MaskPattern}
use Rattle.qrcode_layout.proofs.Below.{passes_below, below}
use Rattle.qrcode_layout.proofs.Formats.{mask_number-lt, format_bits_small}
use Rattle.qrcode_layout.proofs.MaskLists.{number_lt, nth_of_number}
use Rattle.qrcode_layout.proofs.WordTables.{word}
use Rattle.qrcode_symbol.specs.Symbol.{HasPatterns}

-- a bit as a number
abbrev one_if : Bool → ℕ
one_if b = if b then 1 else 0

-- the number of the mask from three bits of a Normal format word, and from two of a Micro one
abbrev in_normal : ℕ → ℕ
in_normal w = 4 * (1 - one_if (has_bit w 12)) + 2 * one_if (has_bit w 11) + (1 - one_if (has_bit w 10))

abbrev in_micro : ℕ → ℕ
in_micro w = 2 * one_if (has_bit w 11) + (1 - one_if (has_bit w 10))

all_normal : passes_below (λ i. in_normal (word 0x5412 i) == i % 8) 32 ≡ true
unfolding word with_check_bits remainder remainder_from
all_normal = refl

all_micro : passes_below (λ i. in_micro (word 0x4445 i) == i % 4) 32 ≡ true
unfolding word with_check_bits remainder remainder_from
all_micro = refl

-- the bit of a module in row 8
abbrev bit : Version → List Color → ℕ → ℕ
bit v s x = one_if (is_dark (color_at v s x 8))

-- in a Normal symbol the modules give the number of its mask
pub normal_mask : (v : Version) (n : ℤ) (l : EcLevel) (k : MaskPattern) (s : List Color) (a b c : ℕ) → v ≡ Normal n → a ≡ bit v s 2 → b ≡ bit v s 3 → c ≡ bit v s 4
    → IsTrue (has_level v l) → IsTrue (exists_in v k) → HasPatterns v l k s → nth_mask v (4 * (1 - a) + 2 * b + (1 - c)) ≡ k
unfolding format_copies format_word word number_bits
normal_mask (Micro m) n l k s a b c is x y z has exists p = absurd (cc)
normal_mask (Normal m) n l k s a b c is x y z has exists p =
    let v = Normal m in
    let i = format_bits v l k in
    let e = p.format.0 in
    let first : bit v s 2 ≡ one_if (has_bit (word 0x5412 i) 12) = ap (λ bs. one_if (get_or bs 2 false)) e in
    let middle : bit v s 3 ≡ one_if (has_bit (word 0x5412 i) 11) = ap (λ bs. one_if (get_or bs 3 false)) e in
    let last : bit v s 4 ≡ one_if (has_bit (word 0x5412 i) 10) = ap (λ bs. one_if (get_or bs 4 false)) e in
    let said = eqb-true _ _ (below (λ i. in_normal (word 0x5412 i) == i % 8) 32 all_normal i (format_bits_small v l k has exists)) in
    let number : 4 * (1 - a) + 2 * b + (1 - c) ≡ mask_number k = omega (arith, x, y, z, first, middle, last, said, mask_number-lt k) in
    ap (nth_mask v) number ∙ nth_of_number v k exists

-- and in a Micro symbol
pub micro_mask : (v : Version) (n : ℤ) (l : EcLevel) (k : MaskPattern) (s : List Color) (b c : ℕ) → v ≡ Micro n → b ≡ bit v s 4 → c ≡ bit v s 5
    → IsTrue (has_level v l) → IsTrue (exists_in v k) → HasPatterns v l k s → nth_mask v (2 * b + (1 - c)) ≡ k
unfolding format_copies format_word word number_bits
micro_mask (Normal m) n l k s b c is y z has exists p = absurd (cc)
micro_mask (Micro m) n l k s b c is y z has exists p =
    let v = Micro m in
    let i = format_bits v l k in
    let e = p.format.0 in
    let first : bit v s 4 ≡ one_if (has_bit (word 0x4445 i) 11) = ap (λ bs. one_if (get_or bs 3 false)) e in
    let last : bit v s 5 ≡ one_if (has_bit (word 0x4445 i) 10) = ap (λ bs. one_if (get_or bs 4 false)) e in
    let said = eqb-true _ _ (below (λ i. in_micro (word 0x4445 i) == i % 4) 32 all_micro i (format_bits_small v l k has exists)) in
    let number : 2 * b + (1 - c) ≡ micro_mask_number k = omega (arith, y, z, first, last, said, number_lt v k exists) in
    ap (nth_mask v) number ∙ nth_of_number v k exists
