-- Segments in order: why they cannot be appended, and the symbol of their bits.
use Rattle.std.specs.Prelude.{◌≡◌, List, Result, Ok, Err, IfOk, flat_map}
use Rattle.std.specs.List.{AllByRecursion}
use Rattle.std.proofs.lemmas.List.{append-nil, drop_all}
use Rattle.std.specs.Option.{option_or}
use Rattle.std.proofs.Common.{ℕ, suc, ◌+◌, ◌<◌, ◌≤◌, [], ◌∷◌, ◌++◌, length, get_or, drop, Option, Some, None, refl, subst, sym, ap, ap₂, ◌∙◌, ◌⊎◌, inl, inr, arith, append_assoc, drop-cons, length-append}
use Rattle.qrcode_types.specs.declared.types.EcLevel.{EcLevel}
use Rattle.qrcode_types.specs.declared.types.QrError.{QrError}
use Rattle.qrcode_types.specs.declared.types.QrError.TheVariants.{OutOfMemory}
use Rattle.qrcode_types.specs.declared.types.Version.{Version}
use Rattle.qrcode_bits.specs.BitList.{BitList}
use Rattle.qrcode_bits.specs.Pushes.{Changes, with_bits}
use Rattle.qrcode_bits.specs.Refusals.{terminator_refusal}
use Rattle.qrcode_bits.specs.Spelling.{IsReadBack, SpellsOnly}
use Rattle.qrcode_bits.specs.Written.{Piece, written, terminated}
use Rattle.qrcode.specs.Code.{Code}
use Rattle.qrcode.specs.Reading.{EncodesBits}
use Rattle.goqlanis_request.specs.Segments.{refusal_in, segment_bits, segment_refusal, segments_refusal, written_segments, IsSymbolOfSegments}
use Rattle.goqlanis_request.specs.declared.segments.Segment.{Segment}

-- a successful push had no cause to fail
pub taken_by : (r : Option QrError) (old after new : BitList) (u : Unit {0}) → Changes r old after new (Ok u) → r ≡ None
taken_by None old after new u c = refl
taken_by (Some e) old after new u c = let no = c.refused e refl in absurd cc

-- a push fails for its cause, or because memory runs out
pub refused_by : (r : Option QrError) (old after new : BitList) (e : QrError) → Changes r old after new (Err e) → (e ≡ OutOfMemory) ⊎ (r ≡ Some e)
refused_by None old after new e c = inl (c.accepted refl)
refused_by (Some x) old after new e c = let same = c.refused x refl in inr cc

-- the list has the bits of the first segments, of which none fails, and `rest` follows
abbrev pub LeavesRest : Version → List Segment → BitList → List Segment → Type 0
LeavesRest v all list rest = (list.version ≡ v)
    × ((segments_refusal v 0 all ≡ segments_refusal v (length list.bits) rest) × (written_segments v all ≡ list.bits ++ written_segments v rest))

module _ (v : Version) (all : List Segment) (i : ℕ) (d : Segment) (old : BitList) (inside : i < length all) (before : LeavesRest v all old (drop i all)) where
  here : LeavesRest v all old (get_or all i d ∷ drop (i + 1) all)
  here =
      let same : suc i ≡ i + 1 = omega arith in
      subst (LeavesRest v all old) (drop-cons all i d inside ∙ ap (λ n. get_or all i d ∷ drop n all) same) before

  -- the cause for all is that for the next segment, or else for the rest
  next : (r : Option QrError) → segment_refusal old.version (length old.bits) (get_or all i d) ≡ r
      → segments_refusal v 0 all ≡ option_or r (segments_refusal v (length old.bits + length (segment_bits v (get_or all i d))) (drop (i + 1) all))
  next r is =
      here.1.0
      ∙ ap (λ o. option_or o (segments_refusal v (length old.bits + length (segment_bits v (get_or all i d))) (drop (i + 1) all)))
      (ap (λ w. segment_refusal w (length old.bits) (get_or all i d)) (sym before.0) ∙ is)

  -- if the next segment fails, that is the cause
  pub fails : (l : EcLevel) (e : QrError) → segment_refusal old.version (length old.bits) (get_or all i d) ≡ Some e → refusal_in v l all ≡ Some e
  fails l e is = ap (λ first. option_or first (terminator_refusal v l (length (written_segments v all)))) (next (Some e) is)

  -- one more segment is written
  pub pushed : (new : BitList) → new ≡ with_bits old (segment_bits old.version (get_or all i d)) → segment_refusal old.version (length old.bits) (get_or all i d) ≡ None
      → LeavesRest v all new (drop (i + 1) all)
  pushed new is taken =
      let more = segment_bits v (get_or all i d) in
      let bits : new.bits ≡ old.bits ++ more = ap (λ (l : BitList). l.bits) is ∙ ap (λ w. old.bits ++ segment_bits w (get_or all i d)) before.0 in (
        ap (λ (l : BitList). l.version) is ∙ before.0,
        (
          next None taken ∙ ap (λ n. segments_refusal v n (drop (i + 1) all)) (sym (ap length bits ∙ length-append old.bits more)),
          here.1.1 ∙ sym (append_assoc old.bits more (written_segments v (drop (i + 1) all))) ∙ ap (λ b. b ++ written_segments v (drop (i + 1) all)) (sym bits),
        ),
      )

-- behind the last segment nothing is left
pub ended : (v : Version) (all : List Segment) (i : ℕ) (list : BitList) → length all ≤ i → LeavesRest v all list (drop i all) → LeavesRest v all list []
ended v all i list end left = subst (LeavesRest v all list) (drop_all i all end) left

-- a list with the bits of all segments, none of which fails
module _ (v : Version) (l : EcLevel) (segments : List Segment) (list : BitList) (left : LeavesRest v segments list []) where
  bits : list.bits ≡ written_segments v segments
  bits = sym (left.1.1 ∙ append-nil list.bits)

  -- the cause for the terminator is the cause
  pub at_end : (r : Option QrError) → terminator_refusal list.version l (length list.bits) ≡ r → refusal_in v l segments ≡ r
  at_end r ended =
      ap (λ first. option_or first (terminator_refusal v l (length (written_segments v segments)))) left.1.0
      ∙ ap₂ (λ w n. terminator_refusal w l n) (sym left.0) (ap length (sym bits))
      ∙ ended

  -- a symbol of the terminated bits is the symbol of the segments
  pub symbol_of_segments : (b : BitList) (result : Result Code QrError) → b ≡ record { version = list.version; bits = terminated list.version l list.bits }
      → IfOk result (λ code. code.version ≡ b.version) → IfOk result (λ code. code.level ≡ l) → IfOk result (λ code. EncodesBits b.version l b.bits code.modules)
      → ((pieces : List Piece) → AllByRecursion (IsReadBack list.version) pieces → list.bits ≡ written list.version pieces → SpellsOnly b.version b.bits (flat_map (λ p. p.chunk) pieces))
      → IfOk result (IsSymbolOfSegments l segments)
  symbol_of_segments b (Err e) is version level encodes spelled = tt
  symbol_of_segments b (Ok code) is version level encodes spelled =
      let here : code.version ≡ list.version = version ∙ ap (λ (x : BitList). x.version) is in
      let all : Version → BitList = λ u. record { version = u; bits = terminated u l (written_segments u segments) } in
      let whole : b ≡ all code.version = is ∙ ap₂ (λ u t. record { version = u; bits = terminated u l t }) left.0 bits ∙ ap all (sym (here ∙ left.0)) in
      record {
        level = level;
        encodes = subst (λ (x : BitList). EncodesBits x.version l x.bits code.modules) whole encodes;
        spelled = λ pieces readable told.
            subst (λ (x : BitList). SpellsOnly x.version x.bits (flat_map (λ p. p.chunk) pieces)) whole (spelled pieces (subst (λ u. AllByRecursion (IsReadBack u) pieces) here readable)
            (bits ∙ ap (λ u. written_segments u segments) (sym (here ∙ left.0)) ∙ told ∙ ap (λ u. written u pieces) here));
      }
