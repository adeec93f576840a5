-- Squares whose segments come after FNC1, which is the only header.
use Rattle.std.proofs.Common.{◌≡◌, ℕ, Bool, true, false, List, ◌∷◌, [], ◌++◌, refl, sym, ap, subst, ◌∙◌, append_assoc}
use Rattle.qrcode_types.specs.Bits.{number_bits}
use Rattle.qrcode_types.specs.declared.types.Color.{Color}
use Rattle.qrcode_types.specs.declared.types.EcLevel.{EcLevel}
use Rattle.qrcode_types.specs.declared.types.Version.{Version}
use Rattle.qrcode_layout.specs.declared.masks.MaskPattern.{MaskPattern}
use Rattle.qrcode_gs1.specs.symbol.Characters.{mark}
use Rattle.qrcode_gs1.specs.symbol.Reading.{SpellsMarked, ReadsMarkedOnly}
use Rattle.qrcode_gs1.specs.declared.symbol.Fnc1.{Fnc1}
use Rattle.qrcode_gs1.specs.declared.symbol.Fnc1.TheVariants.{First, Second}
use Rattle.qrcode_gs1.proofs.Readings.{reads_marked_only}
use Rattle.qrcode_reader.specs.Readings.{IsPartsReading}
use Rattle.qrcode_reader.specs.declared.correction.WrongCodeword.{WrongCodeword}
use Rattle.qrcode_reader.specs.declared.spell.parts.Part.{Part}
use Rattle.qrcode_reader.specs.declared.spell.parts.Part.TheVariants.{Front}
use Rattle.qrcode_reader.specs.spell.Parts.{AreParts, BeginsWithHeader}
use Rattle.qrcode_scan.specs.HandedOn.{fnc1, handed_on}
use Rattle.qrcode_scan.specs.Scans.{headers_in}
use Rattle.qrcode_scan.proofs.Plain.{segments_pieces}

-- the bits of FNC1 are its mark
behind_mark : (v : Version) (p : Fnc1) (bits rest : List Bool) → BeginsWithHeader v (fnc1 p) bits rest → bits ≡ mark p ++ rest
behind_mark v First bits rest b = b.whole ∙ ap (λ x. number_bits 4 5 ++ x) (b.argued.whole ∙ ap (λ a. a ++ rest) b.argued.is_argument)
behind_mark v (Second n) bits rest b =
    b.whole ∙ ap (λ x. number_bits 4 9 ++ x) (b.argued.whole ∙ ap (λ a. a ++ rest) b.argued.is_argument.1) ∙ sym (append_assoc (number_bits 4 9) (number_bits 8 n) rest)

-- the bytes passed on after FNC1
behind_fnc1 : (p : Fnc1) (segments : List Part) (bytes : List ℕ) → handed_on false (Front (fnc1 p) ∷ segments) bytes ≡ handed_on true segments bytes
behind_fnc1 First segments bytes = refl
behind_fnc1 (Second n) segments bytes = refl

-- a reader finds these bytes after FNC1
marked_spelled : (v : Version) (bits : List Bool) (bytes : List ℕ) (p : Fnc1) (segments : List Part) → headers_in segments ≡ []
    → AreParts v bits bytes (Front (fnc1 p) ∷ segments) → SpellsMarked v bits p (handed_on false (Front (fnc1 p) ∷ segments) bytes)
marked_spelled v bits bytes p segments none r =
    let u = r.1.2 in
    let begin = u.1.1.0 in
    let s = segments_pieces v r.0 r.1.1 segments none u.1.1.1 in
    let same : bytes ≡ r.1.1 = u.0 ∙ ap (λ chunk. chunk ++ r.1.1) begin.1 in
    record {
      exists = begin.0.exists;
      rest = r.0;
      parted = behind_mark v p bits r.0 begin.0;
      pieces = s.spelled.pieces;
      read = s.spelled.read;
      joined = s.marked ∙ sym (behind_fnc1 p segments bytes ∙ ap (handed_on true segments) same);
    }

-- and finds no others in the square
pub read_marked : (s : List Color) (v : Version) (l : EcLevel) (k : MaskPattern) (bytes : List ℕ) (parts : List Part) (wrong : List WrongCodeword) (p : Fnc1) (segments : List Part)
    → parts ≡ Front (fnc1 p) ∷ segments → headers_in segments ≡ [] → IsPartsReading s v l k bytes parts wrong → ReadsMarkedOnly s p (handed_on false parts bytes)
read_marked s v l k bytes parts wrong p segments are none r =
    reads_marked_only s v l r.bits p (handed_on false parts bytes) r.read.only.found
    (subst (λ ps. SpellsMarked v r.bits p (handed_on false ps bytes)) (sym are) (marked_spelled v r.bits bytes p segments none (subst (AreParts v r.bits bytes) are r.parted)))
