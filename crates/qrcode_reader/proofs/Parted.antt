-- The parts of bits begin with their first part.
use Rattle.std.proofs.Common.{◌≡◌, ◌^◌, ◌<◌, ◌-◌, ℕ, ◌++◌, drop, List, [], ◌∷◌, Bool, true, false, length, refl, sym, ap, ap₂, subst, ◌∙◌, arith, append_assoc, append-nil, length-append, true≢false}
use Rattle.std.proofs.Math.Seq.{drop-append_seam}
use Rattle.std.proofs.lemmas.Bool.Decides.{nat_tests}
use Rattle.std.specs.Prelude.{flat_map, map}
use Rattle.std.specs.List.{AllByRecursion}
use Rattle.qrcode_types.specs.Bits.{number_bits}
use Rattle.qrcode_types.specs.Modes.{mode_number}
use Rattle.qrcode_types.specs.declared.types.Version.{Version}
use Rattle.qrcode_types.specs.declared.types.Version.TheVariants.{Normal, Micro}
use Rattle.qrcode_types.specs.declared.types.Mode.{Mode}
use Rattle.qrcode_bits.specs.Written.{Piece}
use Rattle.qrcode_bits.specs.Spelling.{is_end, IsReadAs, Spells}
use Rattle.qrcode_bits.proofs.Numbers.{same_number, length-number_bits}
use Rattle.qrcode_bits.proofs.Spellings.{same_piece, normal_small}
use Rattle.qrcode_reader.specs.spell.Steps.{BeginsWithPiece}
use Rattle.qrcode_reader.specs.declared.spell.headers.Header.{Header}
use Rattle.qrcode_reader.specs.declared.spell.parts.Part.{Part}
use Rattle.qrcode_reader.specs.declared.spell.parts.Part.TheVariants.{Front, Bytes}
use Rattle.qrcode_reader.specs.spell.Parts.{BeginsWithHeader, BeginsWithPart, AreParts, IsBehindParts, HaveNoParts, IsSegment, header_indicator}
use Rattle.qrcode_reader.proofs.Headings.{one_header, small}
use Rattle.qrcode_reader.proofs.Spelled.{piece_shortens}

-- no mode has the indicator of a header
no_mode : (h : Header) (m : Mode) → header_indicator h ≡ 2 ^ mode_number m → ⊥
no_mode h m e = grind (arith, nat_tests)

-- no bits begin both with a header and with a segment
pub header_or_piece : (v : Version) (h : Header) (p : Piece) (bits x y : List Bool) → BeginsWithHeader v h bits x → BeginsWithPiece v bits p y → ⊥
header_or_piece (Micro n) h p bits x y b d = absurd (true≢false b.exists)
header_or_piece (Normal n) h p bits x y b d =
    let i = number_bits 4 (2 ^ mode_number p.mode) in
    let e = sym b.whole ∙ d.whole ∙ append_assoc i _ y in
    no_mode h p.mode (same_number 4 (header_indicator h) (2 ^ mode_number p.mode) b.behind _ (small h) (normal_small p.mode) e).0

-- bits begin with at most one part
pub one_part : (v : Version) (p q : Part) (bits : List Bool) (a b : List ℕ) (x y : List Bool) → BeginsWithPart v p bits a x → BeginsWithPart v q bits b y → (p ≡ q) × (a ≡ b) × (x ≡ y)
one_part v (Front h) (Front k) bits a b x y s t =
    let r = one_header v h k bits x y s.0 t.0 in
    (ap Front r.0, s.1 ∙ sym t.1, r.1)
one_part v (Front h) (Bytes m n) bits a b x y s t = absurd (header_or_piece v h (record { mode = m; chunk = b }) bits x y s.0 t.0)
one_part v (Bytes m n) (Front k) bits a b x y s t = absurd (header_or_piece v k (record { mode = m; chunk = a }) bits y x t.0 s.0)
one_part v (Bytes m n) (Bytes k c) bits a b x y s t =
    let r = same_piece v m k a b x y s.0.readable t.0.readable (sym s.0.whole ∙ t.0.whole) in
    (ap₂ Bytes r.0 (s.1 ∙ ap length r.1 ∙ sym t.1), r.1, r.2)

-- without a header and a piece there is no part
pub no_part : (v : Version) (bits : List Bool) → ((h : Header) (rest : List Bool) → ¬ BeginsWithHeader v h bits rest) → ((p : Piece) (rest : List Bool) → ¬ BeginsWithPiece v bits p rest)
    → (p : Part) (chunk : List ℕ) (rest : List Bool) → ¬ BeginsWithPart v p bits chunk rest
no_part v bits header piece (Front h) chunk rest s = header h rest s.0
no_part v bits header piece (Bytes m n) chunk rest s = piece (record { mode = m; chunk = chunk }) rest s.0

-- a part takes at least one bit
pub part_shortens : (v : Version) (p : Part) (bits : List Bool) (a : List ℕ) (x : List Bool) → BeginsWithPart v p bits a x → length x < length bits
part_shortens v (Front h) bits a x s =
    let i = number_bits 4 (header_indicator h) in
    omega (
      arith,
      ap length s.0.whole,
      length-append i s.0.behind,
      length-number_bits 4 (header_indicator h),
      ap length s.0.argued.whole,
      length-append s.0.argued.argument x,
    )
part_shortens v (Bytes m n) bits a x s = piece_shortens v bits (record { mode = m; chunk = a }) x s.0

-- the bits are a part and the rest
part_front : (v : Version) (p : Part) (bits : List Bool) (a : List ℕ) (x : List Bool) → BeginsWithPart v p bits a x → (front : List Bool) × (bits ≡ front ++ x)
part_front v (Front h) bits a x s =
    let i = number_bits 4 (header_indicator h) in
    (i ++ s.0.argued.argument, s.0.whole ∙ ap (λ (b : List Bool). i ++ b) s.0.argued.whole ∙ sym (append_assoc i s.0.argued.argument x))
part_front v (Bytes m n) bits a x s = (_, s.0.whole)

-- the parts of all bits are those read so far, and then those of the rest
pub record PartsFront (v : Version) (bits : List Bool) (done : List ℕ) (before : List Part) (rest : List Bool) : Type 0 where
  pub sound : (more : List ℕ) (others : List Part) → AreParts v rest more others → AreParts v bits (done ++ more) (before ++ others)
  pub complete : (bytes : List ℕ) (parts : List Part) → AreParts v bits bytes parts
      → (more : List ℕ) × ((others : List Part) × ((bytes ≡ done ++ more) × ((parts ≡ before ++ others) × AreParts v rest more others)))
  pub front : (first : List Bool) × (bits ≡ first ++ rest)
  pub behind : (others : List Part) (last : List Bool) → IsBehindParts v rest others last → IsBehindParts v bits (before ++ others) last

pub nothing_read : (v : Version) (bits : List Bool) → PartsFront v bits [] [] bits
nothing_read v bits = record {
  sound = λ more others s. s;
  complete = λ bytes parts s. (bytes, (parts, (refl, (refl, s))));
  front = ([], refl);
  behind = λ others last s. s;
}

-- the first part of bits that do not end here
record FirstPart (v : Version) (bits : List Bool) (bytes : List ℕ) (parts : List Part) : Type 0 where
  part : Part
  others : List Part
  rest : List Bool
  chunk : List ℕ
  more : List ℕ
  parted : parts ≡ part ∷ others
  joined : bytes ≡ chunk ++ more
  begins : BeginsWithPart v part bits chunk rest
  behind : AreParts v rest more others

first_part : (v : Version) (bits : List Bool) (bytes : List ℕ) (parts : List Part) → is_end v bits ≡ false → AreParts v bits bytes parts → FirstPart v bits bytes parts
first_part v bits bytes [] goes r = absurd (true≢false (sym r.0 ∙ goes))
first_part v bits bytes (p ∷ ps) goes r =
    let t = r.1 in
    let u = t.2 in
    record {
      part = p;
      others = ps;
      rest = r.0;
      chunk = t.0;
      more = t.1;
      parted = refl;
      joined = u.0;
      begins = u.1.1.0;
      behind = u.1.1.1;
    }

-- one more part
pub parts_on : (v : Version) (bits : List Bool) (done : List ℕ) (before : List Part) (rest : List Bool) (p : Part) (chunk : List ℕ) (behind : List Bool) → is_end v rest ≡ false
    → BeginsWithPart v p rest chunk behind → PartsFront v bits done before rest → PartsFront v bits (done ++ chunk) (before ++ p ∷ []) behind
parts_on v bits done before rest p chunk behind goes b f = record {
  sound = λ more others s.
      let all : AreParts v rest (chunk ++ more) (p ∷ others) = (behind, (chunk, more, (refl, (goes, (b, s))))) in
      let r = f.sound (chunk ++ more) (p ∷ others) all in
      subst (λ x. AreParts v bits x ((before ++ p ∷ []) ++ others)) (sym (append_assoc done chunk more))
      (subst (AreParts v bits (done ++ (chunk ++ more))) (sym (append_assoc before (p ∷ []) others)) r);
  complete = λ bytes parts s.
      let r = f.complete bytes parts s in
      let u = r.1.1 in
      let first = first_part v rest r.0 r.1.0 goes u.1.1 in
      let same = one_part v first.part p rest first.chunk chunk first.rest behind first.begins b in (
        first.more,
        (
          first.others,
          (
            u.0 ∙ ap (λ x. done ++ x) (first.joined ∙ ap (λ x. x ++ first.more) same.1) ∙ sym (append_assoc done chunk first.more),
            (
              u.1.0 ∙ ap (λ x. before ++ x) (first.parted ∙ ap (λ (x : Part). x ∷ first.others) same.0) ∙ sym (append_assoc before (p ∷ []) first.others),
              subst (λ x. AreParts v x first.more first.others) same.2 first.behind,
            ),
          ),
        ),
      );
  front =
      let r = part_front v p rest chunk behind b in
      (f.front.0 ++ r.0, f.front.1 ∙ ap (λ (x : List Bool). f.front.0 ++ x) r.1 ∙ sym (append_assoc f.front.0 r.0 behind));
  behind = λ others last s. subst (λ x. IsBehindParts v bits x last) (sym (append_assoc before (p ∷ []) others)) (f.behind (p ∷ others) last (behind, (chunk, (goes, (b, s)))));
}

-- if the bits neither end here nor begin with a part, they have no parts
pub refuses_part : (v : Version) (bits : List Bool) (done : List ℕ) (before : List Part) (rest : List Bool) → is_end v rest ≡ false
    → ((p : Part) (chunk : List ℕ) (behind : List Bool) → ¬ BeginsWithPart v p rest chunk behind) → PartsFront v bits done before rest → HaveNoParts v bits
refuses_part v bits done before rest goes none f bytes parts s =
    let r = f.complete bytes parts s in
    let first = first_part v rest r.0 r.1.0 goes r.1.1.1.1 in
    none first.part first.chunk first.rest first.begins

-- where the bits end, all parts were read
pub parts_end : (v : Version) (bits : List Bool) (done : List ℕ) (before : List Part) (rest : List Bool) → is_end v rest ≡ true → PartsFront v bits done before rest → AreParts v bits done before
parts_end v bits done before rest end f =
    let r = f.sound [] [] (end, refl) in
    subst (λ x. AreParts v bits x before) (append-nil done) (subst (AreParts v bits (done ++ [])) (append-nil before) r)

-- and the bits have no others
pub parts_only : (v : Version) (bits : List Bool) (done : List ℕ) (before : List Part) (rest : List Bool) → is_end v rest ≡ true → PartsFront v bits done before rest
    → (bytes : List ℕ) (parts : List Part) → AreParts v bits bytes parts → (bytes ≡ done) × (parts ≡ before)
parts_only v bits done before rest end f bytes parts s =
    let r = f.complete bytes parts s in
    let u = r.1.1 in
    let none = ended r.0 r.1.0 u.1.1 in
    (u.0 ∙ ap (λ x. done ++ x) none.0 ∙ append-nil done, u.1.0 ∙ ap (λ x. before ++ x) none.1 ∙ append-nil before) where
      ended : (more : List ℕ) (others : List Part) → AreParts v rest more others → (more ≡ []) × (others ≡ [])
      ended more [] t = (t.1, refl)
      ended more (p ∷ others) t = absurd (true≢false (sym end ∙ t.1.2.1.0))

-- and after them the terminator begins
pub parts_behind : (v : Version) (bits : List Bool) (done : List ℕ) (before : List Part) (rest : List Bool) (end : ℕ) → is_end v rest ≡ true → end ≡ length bits - length rest
    → PartsFront v bits done before rest → IsBehindParts v bits before (drop end bits)
parts_behind v bits done before rest end at e f =
    let long : end ≡ length f.front.0 = omega (arith, ap length f.front.1, length-append f.front.0 rest) in
    let last : drop end bits ≡ rest = ap₂ (λ (n : ℕ) (b : List Bool). drop n b) long f.front.1 ∙ drop-append_seam f.front.0 rest in
    subst (λ x. IsBehindParts v bits x (drop end bits)) (append-nil before) (f.behind [] (drop end bits) (at, sym last))

-- a piece as a part
abbrev pub part_of : Piece → Part
part_of p = Bytes p.mode (length p.chunk)

-- bits that decode to pieces have just these as parts
pub spelled_parts : (v : Version) (bits : List Bool) (ps : List Piece) → IsReadAs v bits ps → AreParts v bits (flat_map (λ p. p.chunk) ps) (map part_of ps)
spelled_parts v bits [] r = (r, refl)
spelled_parts v bits (p ∷ ps) r =
    (r.0, (p.chunk, flat_map (λ p. p.chunk) ps, (refl, (r.1.1.0, ((record { readable = r.1.1.1.0; whole = r.1.0 }, refl), spelled_parts v r.0 ps r.1.1.1.1)))))

pub all_segments : (ps : List Piece) → AllByRecursion IsSegment (map part_of ps)
all_segments [] = tt
all_segments (p ∷ ps) = (tt, all_segments ps)

-- if the bits decode to bytes, their parts are segments of these bytes
pub spelled_only : (v : Version) (bits : List Bool) (done : List ℕ) (before : List Part) → ((bytes : List ℕ) (parts : List Part) → AreParts v bits bytes parts → (bytes ≡ done) × (parts ≡ before))
    → (bytes : List ℕ) → Spells v bits bytes → (done ≡ bytes) × AllByRecursion IsSegment before
spelled_only v bits done before only bytes s =
    let r = only (flat_map (λ p. p.chunk) s.pieces) (map part_of s.pieces) (spelled_parts v bits s.pieces s.read) in
    (sym r.0 ∙ s.joined, subst (AllByRecursion IsSegment) r.1 (all_segments s.pieces))
