-- What is read of a text in a set is shown.
use Rattle.std.proofs.Common.{◌≡◌, inl, inr, ℕ, ◌+◌, ◌*◌, ◌^◌, ◌<◌, Bool, false, List, [], ◌∷◌, ◌++◌, map, refl, sym, ap, ap₂, subst, ◌∙◌, arith, append_assoc}
use Rattle.std.proofs.lemmas.Bool.{not-true, true≢false}
use Rattle.qrcode_types.specs.Bits.{number_bits}
use Rattle.qrcode_types.specs.Versions.{is_micro}
use Rattle.qrcode_types.specs.declared.types.Version.{Version}
use Rattle.qrcode_types.specs.declared.types.Version.TheVariants.{Normal, Micro}
use Rattle.qrcode_bits.specs.Spelling.{is_end}
use Rattle.qrcode_bits.specs.Written.{Piece}
use Rattle.qrcode_bits.proofs.Packing.{number_bits-cat}
use Rattle.qrcode.proofs.Readings.{bits_are_read_one_way}
use Rattle.qrcode_charsets.specs.Charsets.{designator}
use Rattle.qrcode_charsets.specs.Fronts.{front, charset_modes}
use Rattle.qrcode_charsets.specs.Shown.{ShowsIn}
use Rattle.qrcode_charsets.specs.declared.sets.Charset.{Charset}
use Rattle.qrcode_charsets.proofs.Cuts.{chunks, AreOf}
use Rattle.qrcode_charsets.proofs.Marks.{front_is, unmarked_or}
use Rattle.qrcode_charsets.proofs.Shown.{shown_modes, shown_written}
use Rattle.qrcode_reader.specs.spell.Parts.{AreParts, BeginsWithArgument, BeginsWithHeader}
use Rattle.qrcode_reader.specs.declared.spell.headers.Header.TheVariants.{Eci}
use Rattle.qrcode_reader.specs.declared.spell.parts.Part.{Part}
use Rattle.qrcode_reader.specs.declared.spell.parts.Part.TheVariants.{Front}
use Rattle.qrcode_reader.proofs.Parted.{one_part, part_of, spelled_parts}
use Rattle.qrcode_scan.specs.Texts.{IsShownText, WrittenTextsAreShown}
use Rattle.qrcode_scan.proofs.WrittenTexts.{front_of, written_shown, AreSegmentsIn}

-- bits are read as one list of parts
same_parts : (v : Version) (bits : List Bool) (bytes others : List ℕ) (parts more : List Part) → AreParts v bits bytes parts → AreParts v bits others more → (bytes ≡ others) × (parts ≡ more)
same_parts v bits bytes others [] [] s t = (s.1 ∙ sym t.1, refl)
same_parts v bits bytes others [] (q ∷ more) s t = absurd (true≢false (sym s.0 ∙ t.1.2.1.0))
same_parts v bits bytes others (p ∷ parts) [] s t = absurd (true≢false (sym t.0 ∙ s.1.2.1.0))
same_parts v bits bytes others (p ∷ parts) (q ∷ more) s t =
    let one = one_part v p q bits s.1.0 t.1.0 s.0 t.0 s.1.2.1.1.0 t.1.2.1.1.0 in
    let tail = same_parts v s.0 s.1.1 t.1.1 parts more s.1.2.1.1.1 (subst (λ r. AreParts v r t.1.1 more) (sym one.2) t.1.2.1.1.1) in
    (s.1.2.0 ∙ ap₂ (λ (a b : List ℕ). a ++ b) one.1 tail.0 ∙ sym t.1.2.0, ap₂ (λ (x : Part) (xs : List Part). x ∷ xs) one.0 tail.1)

-- the mode indicator of ECI is no end
not_end : (v : Version) (rest : List Bool) → is_micro v ≡ false → is_end v (number_bits 4 7 ++ rest) ≡ false
unfolding number_bits
not_end (Micro n) rest normal = absurd (true≢false normal)
not_end (Normal n) rest normal = refl

one_byte : (n : ℕ) → n < 2 ^ 7 → number_bits 8 n ≡ number_bits 1 0 ++ number_bits 7 n
one_byte n small = let same : n ≡ 0 * 2 ^ 7 + n = omega arith in ap (number_bits 8) same ∙ number_bits-cat 1 7 0 n small

-- a designator of one byte is read before other parts
eci_before : (v : Version) (n : ℕ) (rest : List Bool) (bytes : List ℕ) (parts : List Part) → n < 2 ^ 7 → is_micro v ≡ false → AreParts v rest bytes parts
    → AreParts v ((number_bits 4 7 ++ number_bits 8 n) ++ rest) bytes (Front (Eci n) ∷ parts)
eci_before v n rest bytes parts small normal h =
    let parted = append_assoc (number_bits 4 7) (number_bits 8 n) rest in
    let argued : BeginsWithArgument (Eci n) (number_bits 8 n ++ rest) rest = record { argument = number_bits 8 n; is_argument = inl (record { at_most = small; whole = one_byte n small }); whole = refl } in
    let header : BeginsWithHeader v (Eci n) ((number_bits 4 7 ++ number_bits 8 n) ++ rest) rest = record { exists = normal; behind = number_bits 8 n ++ rest; argued = argued; whole = parted } in
    (rest, ([], bytes, (refl, (ap (is_end v) parted ∙ not_end v (number_bits 8 n ++ rest) normal, ((header, refl), h)))))

front_parts : (c : Charset) (v : Version) (bits : List Bool) (text : List ℕ) (s : ShowsIn c v bits text) → AreParts v bits (chunks s.pieces) (front_of (designator c) ++ map part_of s.pieces)
front_parts c v bits text s =
    let segments = map part_of s.pieces in
    let behind = spelled_parts v s.rest s.pieces s.read in
    elim (unmarked_or c) [
      | inl first ↦
          subst (λ d. AreParts v bits (chunks s.pieces) (front_of d ++ segments)) (sym (ap designator first))
          (subst (λ b. AreParts v b (chunks s.pieces) segments) (sym (s.parted ∙ ap (λ d. front d ++ s.rest) first)) behind)
      | inr m ↦
          let normal = not-true (is_micro v) (sym (m.normal v) ∙ s.front_exists) in
          subst (λ d. AreParts v bits (chunks s.pieces) (front_of d ++ segments)) (sym m.is)
          (subst (λ b. AreParts v b (chunks s.pieces) (Front (Eci m.number) ∷ segments)) (sym (s.parted ∙ ap (λ x. x ++ s.rest) (front_is c m)))
          (eci_before v m.number s.rest (chunks s.pieces) segments (omega (arith, m.small)) normal behind))
    ]

segments_in : (c : Charset) (ps : List Piece) → AreOf (charset_modes c) ps → AreSegmentsIn c (map part_of ps)
segments_in c [] h = tt
segments_in c (p ∷ ps) h = (h.0, segments_in c ps h.1)

read_shown : (c : Charset) (v : Version) (bits : List Bool) (text bytes : List ℕ) (parts : List Part) → ShowsIn c v bits text → AreParts v bits bytes parts → IsShownText parts bytes text
read_shown c v bits text bytes parts s parted =
    let segments = map part_of s.pieces in
    let same = same_parts v bits (chunks s.pieces) bytes (front_of (designator c) ++ segments) parts (front_parts c v bits text s) parted in
    let own = written_shown c segments text (chunks s.pieces) (segments_in c s.pieces (shown_modes c s.pieces text s.shown)) (shown_written c s.pieces text s.shown) in
    subst (λ p. IsShownText p bytes text) same.1 (subst (λ b. IsShownText (front_of (designator c) ++ segments) b text) same.0 own)

pub texts_shown : WrittenTextsAreShown
texts_shown s text bytes parts q r =
    let same = bits_are_read_one_way s r.version q.version r.level q.level r.bits q.bits r.read q.read in
    read_shown q.set r.version r.bits text bytes parts (subst (λ b. ShowsIn q.set r.version b text) same.2 (subst (λ u. ShowsIn q.set u q.bits text) same.0 q.shown)) r.parted
