-- Texts of bytes under designators.
use Rattle.std.proofs.Common.{◌≡◌, ◌==◌, ℕ, Bool, true, false, List, [], ◌∷◌, Some, None, refl, sym, ap, subst}
use Rattle.std.specs.Prelude.{not, nat_lt, ◌&&◌, if◌then◌else◌}
use Rattle.std.specs.List.{list_all}
use Rattle.std.proofs.lemmas.Bool.{and_from}
use Rattle.qrcode_charsets.specs.Charsets.{page_designator, IsWritten}
use Rattle.qrcode_charsets.specs.Eci.{has_seven_bits, is_taken, is_variant, set_number, BytesAreUnderOneWay, WrittenTextsAreUnder}
use Rattle.qrcode_charsets.specs.declared.sets.Charset.TheVariants.{Unmarked, Utf8, OneByte, ShiftJis}
use Rattle.qrcode_charsets.specs.declared.sets.CodePage.{CodePage}
use Rattle.qrcode_charsets.specs.declared.sets.CodePage.TheVariants.{Latin1, Latin2, Latin3, Latin4, Cyrillic, Arabic, Greek, Hebrew, Latin5, Latin6, Thai, Latin7, Latin8, Latin9, Latin10, Windows1250, Windows1251, Windows1252, Windows1256}
use Rattle.qrcode_charsets.proofs.Marks.{same_set}
use Rattle.qrcode_charsets.proofs.Writings.{read_one_way}

-- the designator of a set of one byte means this set, with all bytes
means_itself : (p : CodePage) → (has_seven_bits (page_designator p) ≡ false) × (set_number (page_designator p) ≡ page_designator p)
means_itself Latin1 = (refl, refl)
means_itself Latin2 = (refl, refl)
means_itself Latin3 = (refl, refl)
means_itself Latin4 = (refl, refl)
means_itself Cyrillic = (refl, refl)
means_itself Arabic = (refl, refl)
means_itself Greek = (refl, refl)
means_itself Hebrew = (refl, refl)
means_itself Latin5 = (refl, refl)
means_itself Latin6 = (refl, refl)
means_itself Thai = (refl, refl)
means_itself Latin7 = (refl, refl)
means_itself Latin8 = (refl, refl)
means_itself Latin9 = (refl, refl)
means_itself Latin10 = (refl, refl)
means_itself Windows1250 = (refl, refl)
means_itself Windows1251 = (refl, refl)
means_itself Windows1252 = (refl, refl)
means_itself Windows1256 = (refl, refl)

all_taken : (n : ℕ) (bytes : List ℕ) → has_seven_bits n ≡ false → list_all (is_taken n) bytes ≡ true
all_taken n [] h = refl
all_taken n (b ∷ bytes) h =
    and_from (is_taken n b) (list_all (is_taken n) bytes) (ap (λ (t : Bool). if t then nat_lt b 128 && not (n == 170 && is_variant b) else true) h) (all_taken n bytes h)

pub written_under : WrittenTextsAreUnder
written_under Unmarked text bytes w = w
written_under Utf8 text bytes w = (all_taken 26 bytes refl, (Utf8, (refl, w)))
written_under (OneByte p) text bytes w = let own = means_itself p in (all_taken (page_designator p) bytes own.0, (OneByte p, (ap Some (sym own.1), w)))
written_under ShiftJis text bytes w = (all_taken 20 bytes refl, (ShiftJis, (refl, w)))

pub under_one_way : BytesAreUnderOneWay
under_one_way None text others bytes a b = read_one_way Unmarked text others bytes a b
under_one_way (Some n) text others bytes a b =
    let same = same_set b.1.0 a.1.0 (set_number n) b.1.1.0 a.1.1.0 in
    read_one_way a.1.0 text others bytes a.1.1.1 (subst (λ c. IsWritten c others bytes) same b.1.1.1)
