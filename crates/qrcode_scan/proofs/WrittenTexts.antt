-- What a set wrote is shown.
use Rattle.std.proofs.Common.{◌≡◌, inl, ℕ, ◌+◌, ◌-◌, ◌^◌, true, List, [], ◌∷◌, ◌++◌, length, take, drop, Option, Some, None, refl, sym, subst, ap₂, ◌∙◌, arith}
use Rattle.std.proofs.lemmas.Bool.{true≢false}
use Rattle.std.specs.Prelude.{min}
use Rattle.qrcode_types.specs.declared.types.Mode.{Mode}
use Rattle.qrcode_types.specs.declared.types.Mode.TheVariants.{Numeric, Alphanumeric, Byte, Kanji}
use Rattle.qrcode_bits.specs.ModeSets.{is_among}
use Rattle.qrcode_charsets.specs.Charsets.{designator, IsWritten}
use Rattle.qrcode_charsets.specs.Eci.{IsTextUnder}
use Rattle.qrcode_charsets.specs.Fronts.{charset_modes}
use Rattle.qrcode_charsets.specs.declared.sets.Charset.{Charset}
use Rattle.qrcode_charsets.specs.declared.sets.Charset.TheVariants.{Unmarked, Utf8, OneByte, ShiftJis}
use Rattle.qrcode_charsets.proofs.Designated.{under_one_way, written_under}
use Rattle.qrcode_charsets.proofs.Writings.{written-nil}
use Rattle.qrcode_reader.specs.declared.spell.headers.Header.TheVariants.{Eci, Fnc1First, Fnc1Second, StructuredAppend}
use Rattle.qrcode_reader.specs.declared.spell.parts.Part.{Part}
use Rattle.qrcode_reader.specs.declared.spell.parts.Part.TheVariants.{Front, Bytes}
use Rattle.qrcode_scan.specs.Texts.{is_readable, IsShownFrom, IsShownText}

abbrev pub front_of : Option ℕ → List Part  -- what is read before the segments of a text in a set with this designator, if it has one
front_of None = []
front_of (Some n) = Front (Eci n) ∷ []

abbrev pub AreSegmentsIn : Charset → List Part → Type 0  -- segments only, in modes that write text in the set
AreSegmentsIn c [] = Unit
AreSegmentsIn c (Front h ∷ parts) = ⊥
AreSegmentsIn c (Bytes m k ∷ parts) = (is_among (charset_modes c) m ≡ true) × AreSegmentsIn c parts

-- a mode that writes text in a set is readable under its designator
readable : (c : Charset) (m : Mode) → is_among (charset_modes c) m ≡ true → is_readable m (designator c) ≡ true
readable c Numeric h = refl
readable c Alphanumeric h = refl
readable c Byte h = refl
readable ShiftJis Kanji h = refl
readable Unmarked Kanji h = absurd (true≢false (sym h))
readable Utf8 Kanji h = absurd (true≢false (sym h))
readable (OneByte p) Kanji h = absurd (true≢false (sym h))

-- segments of the whole bytes under one designator are shown as their text
segments_shown : (c : Charset) (count : ℕ) (segments : List Part) (text bytes : List ℕ) → AreSegmentsIn c segments → IsTextUnder (designator c) text bytes
    → IsShownFrom (length bytes) (designator c) count segments bytes text
segments_shown c count [] text bytes are is = (inl refl, is)
segments_shown c count (Front h ∷ parts) text bytes are is = absurd are
segments_shown c count (Bytes m k ∷ parts) text bytes are is = (readable c m are.0, segments_shown c (min (count + k) (2 ^ 64 - 1)) parts text bytes are.1 is)

behind_front : (c : Charset) (n : Option ℕ) → n ≡ designator c → (segments : List Part) (text bytes : List ℕ) → IsShownFrom (length bytes) (designator c) 0 segments bytes text
    → IsShownFrom (length bytes) None 0 (front_of n ++ segments) bytes text
behind_front c None e segments text bytes h = subst (λ d. IsShownFrom (length bytes) d 0 segments bytes text) (sym e) h
behind_front c (Some n) e segments text bytes h =
    ([], text, refl, omega arith, written-nil Unmarked, subst (λ d. IsShownFrom (length bytes) d 0 segments bytes text) (sym e) h)

pub written_shown : (c : Charset) (segments : List Part) (text bytes : List ℕ) → AreSegmentsIn c segments → IsWritten c text bytes → IsShownText (front_of (designator c) ++ segments) bytes text
written_shown c segments text bytes are written = behind_front c (designator c) refl segments text bytes (segments_shown c 0 segments text bytes are (written_under c text bytes written))

pub one_text : (size : ℕ) (n : Option ℕ) (count : ℕ) (parts : List Part) (own text others : List ℕ) → IsShownFrom size n count parts own text → IsShownFrom size n count parts own others → others ≡ text
one_text size n count [] own text others s t = under_one_way n text others own s.1 t.1
one_text size n count (Bytes m k ∷ parts) own text others s t = one_text size n (min (count + k) (2 ^ 64 - 1)) parts own text others s.1 t.1
one_text size n count (Front (Eci e) ∷ parts) own text others s t =
    let first = under_one_way n s.0 t.0 (take count own) s.4 t.4 in
    let rest = one_text size (Some e) 0 parts (drop count own) s.1 t.1 s.5 t.5 in
    t.2 ∙ ap₂ (λ (a b : List ℕ). a ++ b) first rest ∙ sym s.2
one_text size n count (Front Fnc1First ∷ parts) own text others s t = one_text size n count parts own text others s t
one_text size n count (Front (Fnc1Second i) ∷ parts) own text others s t = one_text size n count parts own text others s t
one_text size n count (Front (StructuredAppend place last parity) ∷ parts) own text others s t = one_text size n count parts own text others s t
