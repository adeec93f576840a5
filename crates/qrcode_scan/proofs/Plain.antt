-- Squares without headers, and the bytes passed on for their segments.
use Rattle.std.proofs.Common.{◌≡◌, ℕ, ◌+◌, ◌<◌, Bool, true, false, ◌||◌, min, get_or, List, [], ◌∷◌, ◌++◌, refl, sym, ap, ap₂, subst, ◌∙◌, arith, length, append_assoc, take, drop, flat_map}
use Rattle.std.proofs.lemmas.List.{take_at, drop_at, take_min, drop_min, drop_more}
use Rattle.std.specs.Prelude.{map}
use Rattle.qrcode_types.specs.declared.types.Mode.{Mode}
use Rattle.qrcode_types.specs.declared.types.Color.{Color}
use Rattle.qrcode_types.specs.declared.types.EcLevel.{EcLevel}
use Rattle.qrcode_types.specs.declared.types.Version.{Version}
use Rattle.qrcode_bits.specs.Spelling.{Spells}
use Rattle.qrcode_gs1.specs.symbol.Characters.{shown, shown_in}
use Rattle.qrcode_layout.specs.declared.masks.MaskPattern.{MaskPattern}
use Rattle.qrcode.specs.Reading.{Reads}
use Rattle.qrcode_reader.specs.Positions.{seen, nth_position, IsFirstReading, IsFirstPartsReading}
use Rattle.qrcode_reader.specs.Readings.{IsReading, IsPartsReading, ReadsParts}
use Rattle.qrcode_reader.specs.declared.correction.WrongCodeword.{WrongCodeword}
use Rattle.qrcode_reader.specs.declared.positions.Position.{Position}
use Rattle.qrcode_reader.specs.declared.spell.parts.Part.{Part}
use Rattle.qrcode_reader.specs.declared.spell.parts.Part.TheVariants.{Front, Bytes}
use Rattle.qrcode_reader.specs.spell.Parts.{AreParts, byte_count}
use Rattle.qrcode_reader.proofs.Parted.{part_of, spelled_parts}
use Rattle.qrcode_scan.specs.HandedOn.{is_fnc1, part_on, handed_on}
use Rattle.qrcode_scan.specs.Scans.{headers_in}

-- one more part is passed on
pub handed_more : (is_marked is_next : Bool) (parts : List Part) (i : ℕ) (d : Part) (count : ℕ) (made more chunk rest behind whole : List ℕ) → i < length parts
    → count ≡ byte_count (get_or parts i d) → is_next ≡ is_fnc1 (get_or parts i d)
    → chunk ≡ take (min count (length rest)) rest → behind ≡ drop (min count (length rest)) rest
    → more ≡ made ++ part_on is_marked (get_or parts i d) chunk → made ++ handed_on is_marked (drop i parts) rest ≡ whole
    → more ++ handed_on (is_next || is_marked) (drop (i + 1) parts) behind ≡ whole
handed_more is_marked is_next parts i d count made more chunk rest behind whole inside counts next front back step held =
    let p = get_or parts i d in
    let left : chunk ≡ take (byte_count p) rest = front ∙ take_min count rest ∙ ap (λ n. take n rest) counts in
    let right : behind ≡ drop (byte_count p) rest = back ∙ drop_min count rest ∙ ap (λ n. drop n rest) counts in
    let marks : (is_next || is_marked) ≡ (is_fnc1 p || is_marked) = ap (λ b. b || is_marked) next in
    ap (λ x. x ++ handed_on (is_next || is_marked) (drop (i + 1) parts) behind) (step ∙ ap (λ x. made ++ part_on is_marked p x) left)
    ∙ append_assoc made (part_on is_marked p (take (byte_count p) rest)) (handed_on (is_next || is_marked) (drop (i + 1) parts) behind)
    ∙ ap₂ (λ (b : Bool) (x : List ℕ). made ++ (part_on is_marked p (take (byte_count p) rest) ++ handed_on b (drop (i + 1) parts) x)) marks right
    ∙ ap (λ ps. made ++ handed_on is_marked ps rest) (sym (drop_more parts i d inside)) ∙ held

-- the bytes passed on for a segment and the parts after it
handed_segment : (is_marked : Bool) (m : Mode) (n : ℕ) (bytes chunk more : List ℕ) (parts : List Part) → bytes ≡ chunk ++ more → n ≡ length chunk
    → handed_on is_marked (Bytes m n ∷ parts) bytes ≡ part_on is_marked (Bytes m n) chunk ++ handed_on is_marked parts more
handed_segment is_marked m n bytes chunk more parts whole count =
    ap₂ (λ (x y : List ℕ). part_on is_marked (Bytes m n) x ++ handed_on is_marked parts y)
    (ap (take n) whole ∙ take_at chunk more n (sym count)) (ap (drop n) whole ∙ drop_at chunk more n (sym count))

-- the bits are pieces with these bytes, which are passed on as they are, and after FNC1 as a reader shows the pieces
pub record HavePieces (v : Version) (bits : List Bool) (bytes : List ℕ) (parts : List Part) : Type 0 where
  pub spelled : Spells v bits bytes
  pub plain : handed_on false parts bytes ≡ bytes
  pub marked : flat_map shown spelled.pieces ≡ handed_on true parts bytes

-- the bits of parts without headers are such pieces
pub segments_pieces : (v : Version) (bits : List Bool) (bytes : List ℕ) (parts : List Part) → headers_in parts ≡ [] → AreParts v bits bytes parts → HavePieces v bits bytes parts
segments_pieces v bits bytes [] none r = record { spelled = record { pieces = []; read = r.0; joined = sym r.1 }; plain = sym r.1; marked = refl }
segments_pieces v bits bytes (Front h ∷ parts) none r = absurd (omega (arith, ap length none))
segments_pieces v bits bytes (Bytes m n ∷ parts) none r =
    let chunk = r.1.0 in
    let more = r.1.1 in
    let u = r.1.2 in
    let s = segments_pieces v r.0 more parts none u.1.1.1 in
    record {
      spelled = record {
        pieces = record { mode = m; chunk = chunk } ∷ s.spelled.pieces;
        read = (r.0, (u.1.1.0.0.whole, (u.1.0, (u.1.1.0.0.readable, s.spelled.read))));
        joined = ap (λ x. chunk ++ x) s.spelled.joined ∙ sym u.0;
      };
      plain = handed_segment false m n bytes chunk more parts u.0 u.1.1.0.1 ∙ ap (λ x. chunk ++ x) s.plain ∙ sym u.0;
      marked = ap (λ x. shown_in m chunk ++ x) s.marked ∙ sym (handed_segment true m n bytes chunk more parts u.0 u.1.1.0.1);
    }

-- a square that decodes to bytes has parts
parts_of_bytes : (s : List Color) (bytes : List ℕ) (r : Reads s bytes) → ReadsParts s bytes (map part_of r.spelled.pieces)
parts_of_bytes s bytes r = record {
  version = r.version;
  level = r.level;
  bits = r.bits;
  read = r.read;
  parted = subst (λ b. AreParts r.version r.bits b (map part_of r.spelled.pieces)) r.spelled.joined (spelled_parts r.version r.bits r.spelled.pieces r.spelled.read);
}

-- if the only parts of a square have no headers, their bytes are its only reading
plain_reading : (s : List Color) (v : Version) (l : EcLevel) (k : MaskPattern) (bytes : List ℕ) (parts : List Part) (wrong : List WrongCodeword) → headers_in parts ≡ []
    → IsPartsReading s v l k bytes parts wrong → IsReading s v l k bytes wrong
plain_reading s v l k bytes parts wrong none p =
    let spelled = (segments_pieces v p.bits bytes parts none p.parted).spelled in
    record {
      only = record {
        found = record { version = v; level = l; bits = p.bits; read = p.read.only.found; spelled = spelled };
        only = λ others r. (p.only others (map part_of r.spelled.pieces) (parts_of_bytes s others r)).0;
      };
      bits = p.bits;
      read = p.read;
      spelled = spelled;
    }

-- without headers, the first position in which a square has parts is also the first in which it decodes to bytes
pub first_plain : (w : ℕ) (s : List Color) (p : Position) (i : Bool) (v : Version) (l : EcLevel) (k : MaskPattern) (bytes : List ℕ) (parts : List Part) (wrong : List WrongCodeword)
    → headers_in parts ≡ [] → IsFirstPartsReading w s p i v l k bytes parts wrong → IsFirstReading w s p i v l k bytes wrong
first_plain w s p i v l k bytes parts wrong none f = record {
  read = plain_reading (seen w p i s) v l k bytes parts wrong none f.read;
  number = f.number;
  position = f.position;
  first = λ n tried_n below others r. f.first n tried_n below others (map part_of r.spelled.pieces) (parts_of_bytes (seen w (nth_position n).0 (nth_position n).1 s) others r);
}

-- without headers, the bytes are passed on as they are
pub plain_on : (s : List Color) (v : Version) (l : EcLevel) (k : MaskPattern) (bytes : List ℕ) (parts : List Part) (wrong : List WrongCodeword) → headers_in parts ≡ []
    → IsPartsReading s v l k bytes parts wrong → handed_on false parts bytes ≡ bytes
plain_on s v l k bytes parts wrong none p = (segments_pieces v p.bits bytes parts none p.parted).plain
