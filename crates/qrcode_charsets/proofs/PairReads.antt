-- What the code writes and reads of Shift JIS.
use Rattle.std.proofs.Common.{◌≡◌, ℕ, ◌≤◌, List, [], ◌∷◌, ◌++◌, append_assoc, IsTrue, Option, Some, None, refl, sym, ap, ◌∙◌, arith, inl, inr}
use Rattle.std.specs.Prelude.{map, chars, encode_utf8, IsUtf8, MatchOption}
use Rattle.std.specs.Char.{IsScalar}
use Rattle.std.proofs.lemmas.Bool.{lt-ltb, le-ltb, le-leb}
use Rattle.std.proofs.lemmas.List.{map_push}
use Rattle.std.proofs.Math.Utf8.{low_scalar}
use Rattle.qrcode_types.specs.Characters.{is_lead}
use Rattle.qrcode_charsets.specs.Charsets.{IsWritten, Has}
use Rattle.qrcode_charsets.specs.Codes.{code_bytes}
use Rattle.qrcode_charsets.specs.ShiftJis.{pair_character, shift_jis_characters}
use Rattle.qrcode_charsets.specs.declared.sets.Charset.TheVariants.{ShiftJis}
use Rattle.qrcode_charsets.specs.declared.texts.CharBytes.{CharBytes}
use Rattle.qrcode_charsets.proofs.PairCodes.{IsFirst, first_code, single_is, pair_is, no_code, no_single}
use Rattle.qrcode_charsets.proofs.Writings.{chars_push}

-- what is found of a character that takes no single byte
pub pair_found : (x : ℕ) (r : Option CharBytes) → 128 ≤ x → ¬ ((0xFF61 ≤ x) × (x ≤ 0xFF9F))
    → MatchOption r ((b c : ℕ) → IsTrue (is_lead b) → ¬ (pair_character b c ≡ Some x)) (λ code. shift_jis_characters (code_bytes code) ≡ Some x ∷ [])
    → MatchOption r (¬ Has ShiftJis (x ∷ [])) (λ code. IsWritten ShiftJis (x ∷ []) (code_bytes code))
pair_found x None high wide h = λ has. no_code x (no_single x high wide) h has.0 has.1
pair_found x (Some code) high wide h = h

high_scalar : (x : ℕ) → 0xE000 ≤ x → x ≤ 0xFFFF → IsScalar x
high_scalar x h k = rw (le-ltb x 0xD800 (omega (arith, h)), le-leb 0xE000 x h, lt-ltb x 0x11_0000 (omega (arith, k))) refl

-- a character of bytes is one of Unicode
pub code_scalar : (bytes : List ℕ) (x : ℕ) (rest : List (Option ℕ)) → shift_jis_characters bytes ≡ Some x ∷ rest → IsScalar x
code_scalar bytes x rest e = elim (first_code bytes x rest e) [
  | IsFirst.Single b more j own after ↦ elim (single_is b x own) [ inl p ↦ low_scalar x (omega (arith, p.0, p.1)) | inr p ↦ high_scalar x (omega (arith, p.0, p.2)) (omega (arith, p.1, p.2)) ]
  | IsFirst.Pair b c more j lead own after ↦ elim ((pair_is b c x own).range) [
    | inl low ↦ low_scalar x (omega (arith, low.1))
    | inr more ↦ elim more [ inl middle ↦ high_scalar x middle.0 (omega (arith, middle.1)) | inr high ↦ high_scalar x (omega (arith, high.0)) high.1 ]
  ]
]

-- one more character is read
pub read_next : (old new place next all : List ℕ) (x : ℕ) → IsUtf8 old → new ≡ old ++ encode_utf8 x → shift_jis_characters place ≡ Some x ∷ shift_jis_characters next
    → map Some (chars old) ++ shift_jis_characters place ≡ shift_jis_characters all → map Some (chars new) ++ shift_jis_characters next ≡ shift_jis_characters all
read_next old new place next all x utf8 pushed own before =
    let s = shift_jis_characters next in
    let read : chars new ≡ chars old ++ (x ∷ []) = ap chars pushed ∙ chars_push old x utf8 (code_scalar place x s own) in
    ap (λ (z : List ℕ). map Some z ++ s) read ∙ ap (λ (z : List (Option ℕ)). z ++ s) (map_push Some (chars old) x) ∙ append_assoc (map Some (chars old)) (Some x ∷ []) s
    ∙ ap (λ (z : List (Option ℕ)). map Some (chars old) ++ z) (sym own) ∙ before
