-- Pieces that are written one after the other.
use Rattle.std.proofs.Common.{◌≡◌, ℕ, ◌+◌, ◌-◌, ◌≤◌, ◌++◌, Bool, List, [], ◌∷◌, length, take, refl, sym, ap, subst, ◌∙◌, arith, Option, Some, None, length-append, append_assoc, append-nil}
use Rattle.std.specs.Prelude.{slice_get, slice_range, Result, Ok, Err, IsErr, IsErrAnd, IfErr, IfSome}
use Rattle.std.specs.List.{AllByRecursion}
use Rattle.std.specs.Option.{option_or}
use Rattle.std.proofs.lemmas.Grind.{flat_map-append}
use Rattle.std.proofs.Math.Seq.{take-length}
use Rattle.std.proofs.lemmas.List.{map-append, take_at}
use Rattle.std.proofs.lemmas.List.Sums.{sum_by-cons}
use Rattle.qrcode_types.specs.declared.types.Version.{Version}
use Rattle.qrcode_types.specs.declared.types.QrError.{QrError}
use Rattle.qrcode_bits.specs.BitList.{BitList}
use Rattle.qrcode_bits.specs.Pushes.{Changes, PushesAll, with_bits}
use Rattle.qrcode_bits.specs.Segments.{AreInside, cost_of, cost, total_cost}
use Rattle.qrcode_types.specs.Characters.{character_count}
use Rattle.qrcode_bits.specs.Refusals.{piece_refusal, pieces_refusal, IsCause, StopsAtLast}
use Rattle.qrcode_bits.specs.Written.{Piece, written_piece, written, pieces_of}
use Rattle.qrcode_bits.specs.declared.optimize.Segment.{Segment}
use Rattle.qrcode_bits.proofs.Lengths.{length-piece}
use Rattle.qrcode_bits.proofs.SegmentRanges.{length-range}

option_or-None : {A : Type 0} (a b : Option A) → option_or a b ≡ None → (a ≡ None) × (b ≡ None)
option_or-None (Some x) b h = cc
option_or-None None b h = (refl, h)

option_or-both : {A : Type 0} (a b : Option A) → a ≡ None → b ≡ None → option_or a b ≡ None
option_or-both (Some x) b h k = cc
option_or-both None b h k = k

-- appending one piece
refusal-push : (v : Version) (used : ℕ) (ps : List Piece) (p : Piece) → pieces_refusal v used ps ≡ None → piece_refusal v (used + length (written v ps)) p ≡ None → pieces_refusal v used (ps ++ p ∷ []) ≡ None
refusal-push v used [] p h k =
    let e : used + 0 ≡ used = omega arith in
    option_or-both (piece_refusal v used p) None (sym (ap (λ n. piece_refusal v n p) e) ∙ k) refl
refusal-push v used (q ∷ ps) p h k =
    let used' = used + cost_of v q.mode (character_count q.mode (length q.chunk)) in
    let both = option_or-None (piece_refusal v used q) (pieces_refusal v used' ps) h in
    let e : used + length (written v (q ∷ ps)) ≡ used' + length (written v ps) = omega (arith, length-append (written_piece v q) (written v ps), length-piece v q) in
    option_or-both (piece_refusal v used q) (pieces_refusal v used' (ps ++ p ∷ [])) both.0
    (refusal-push v used' ps p both.1 (sym (ap (λ n. piece_refusal v n p) e) ∙ k))

written-push : (v : Version) (ps : List Piece) (p : Piece) → written v (ps ++ p ∷ []) ≡ written v ps ++ written_piece v p
written-push v ps p = flat_map-append (written_piece v) ps (p ∷ []) ∙ ap (λ r. written v ps ++ r) (append-nil (written_piece v p))

abbrev pub piece_of : List ℕ → Segment → Piece
piece_of bytes s = record { mode = s.mode; chunk = slice_range bytes s.begin s.end }

pieces_of-push : (bytes : List ℕ) (ss : List Segment) (s : Segment) → pieces_of bytes (ss ++ s ∷ []) ≡ pieces_of bytes ss ++ piece_of bytes s ∷ []
pieces_of-push bytes ss s = map-append (piece_of bytes) ss (s ∷ [])

total_cost-push : (v : Version) (ss : List Segment) (s : Segment) → total_cost v (ss ++ s ∷ []) ≡ total_cost v ss + cost v s
total_cost-push v [] s = omega (arith, sum_by-cons (cost v) s [])
total_cost-push v (r ∷ ss) s = omega (arith, sum_by-cons (cost v) r (ss ++ s ∷ []), sum_by-cons (cost v) r ss, total_cost-push v ss s)

-- the last of ranges that are inside
pub last_inside : (n : ℕ) (ss : List Segment) (s : Segment) → AreInside n (ss ++ s ∷ []) → (s.begin ≤ s.end) × (s.end ≤ n)
last_inside n [] s h = h.0
last_inside n (r ∷ ss) s h = last_inside n ss s h.1

-- ranges in data that is small enough are small
pub small_inside : (n : ℕ) (ss : List Segment) → n ≤ 134217728 → AreInside n ss → AllByRecursion (λ s. (s.begin ≤ s.end) × (s.end - s.begin ≤ 134217728)) ss
small_inside n [] small h = tt
small_inside n (s ∷ ss) small h = ((h.0.0, omega (arith, h.0.1, small)), small_inside n ss small h.1)

-- appending one segment
pushes_more : (v : Version) (old : List Bool) (bytes : List ℕ) (ss : List Segment) (s : Segment) (now new : List Bool) → s.begin ≤ s.end → s.end ≤ length bytes
    → PushesAll v old bytes ss now → piece_refusal v (length now) (piece_of bytes s) ≡ None → new ≡ now ++ written_piece v (piece_of bytes s) → PushesAll v old bytes (ss ++ s ∷ []) new
pushes_more v old bytes ss s now new ordered inside before taken e =
    let ps = pieces_of bytes ss in
    let p = piece_of bytes s in
    let used : length now ≡ length old + length (written v ps) = ap length before.bits ∙ length-append old (written v ps) in
    record {
      taken = ap (pieces_refusal v (length old)) (pieces_of-push bytes ss s) ∙ refusal-push v (length old) ps p before.taken (sym (ap (λ n. piece_refusal v n p) used) ∙ taken);
      bits = e ∙ ap (λ b. b ++ written_piece v p) before.bits ∙ append_assoc old (written v ps) (written_piece v p) ∙ ap (λ b. old ++ b) (sym (written-push v ps p) ∙ sym (ap (written v) (pieces_of-push bytes ss s)));
      longer = omega (arith, ap length e, length-append now (written_piece v p), length-piece v p, before.longer, total_cost-push v ss s, ap (λ n. cost_of v s.mode (character_count s.mode n)) (length-range bytes s.begin s.end ordered inside));
    }

at_end : {X : Type 0} (xs : List X) (x : X) → slice_get (xs ++ x ∷ []) (length xs) ≡ Some x
at_end [] x = refl
at_end (y ∷ xs) x = at_end xs x

-- a push that succeeds has no cause, and one that fails has its error as cause
not_refused : (r : Option QrError) (old after new : BitList) (u : Unit {0}) → Changes r old after new (Ok u) → r ≡ None
not_refused (Some cause) old after new u h = let same = h.refused cause refl in cc
not_refused None old after new u h = refl

cause_of : (r : Option QrError) (old after new : BitList) (e : QrError) → Changes r old after new (Err e) → IsCause r e
cause_of (Some cause) old after new e h = let same = h.refused cause refl in cc
cause_of None old after new e h = h.accepted refl

-- an error that a `?` passes on
pub handed_on : {T : Type 0} (result : Result T QrError) (e : QrError) (P : QrError → Type 0) → IsErr result × IsErrAnd result (λ x. x ≡ e) → P e → IfErr result P
handed_on (Ok u) e P h p = tt
handed_on (Err x) e P h p = subst P (sym h.1) p

-- the segment after those that were written fails
stops : (v : Version) (old : List Bool) (bytes : List ℕ) (ss : List Segment) (s : Segment) (now : List Bool) (e : QrError)
    → PushesAll v old bytes ss now → IsCause (piece_refusal v (length now) (piece_of bytes s)) e → StopsAtLast v old (pieces_of bytes (ss ++ s ∷ [])) e now
stops v old bytes ss s now e before cause =
    let ps = pieces_of bytes ss in
    let p = piece_of bytes s in
    let front : take (length ps) (ps ++ p ∷ []) ≡ ps = take_at ps (p ∷ []) (length ps) refl in
    subst (λ qs. StopsAtLast v old qs e now) (sym (pieces_of-push bytes ss s)) (record {
      stops = record {
        place = length ps;
        inside = omega (arith, length-append ps (p ∷ []));
        before = ap (pieces_refusal v (length old)) front ∙ before.taken;
        written = before.bits ∙ ap (λ qs. old ++ written v qs) (sym front);
        cause = subst (λ o. IfSome o (λ q. IsCause (piece_refusal v (length now) q) e)) (sym (at_end ps p)) cause;
      };
      last = omega (arith, length-append ps (p ∷ []));
    })

-- a segment that is pushed after others
pub pushes_segment : (v : Version) (old : List Bool) (bytes : List ℕ) (ss : List Segment) (s : Segment) (now new : BitList) (u : Unit {0}) → (s.begin ≤ s.end) × (s.end ≤ length bytes)
    → now.version ≡ v → PushesAll v old bytes ss now.bits
    → Changes (piece_refusal now.version (length now.bits) (piece_of bytes s)) now (with_bits now (written_piece now.version (piece_of bytes s))) new (Ok u)
    → (new.version ≡ v) × PushesAll v old bytes (ss ++ s ∷ []) new.bits
pushes_segment v old bytes ss s now new u range same before pushed =
    let p = piece_of bytes s in
    let taken = not_refused (piece_refusal now.version (length now.bits) p) now (with_bits now (written_piece now.version p)) new u pushed in (
      ap (λ (l : BitList). l.version) pushed.changed ∙ same,
      pushes_more v old bytes ss s now.bits new.bits range.0 range.1 before (sym (ap (λ w. piece_refusal w (length now.bits) p) same) ∙ taken)
          (ap (λ (l : BitList). l.bits) pushed.changed ∙ ap (λ w. now.bits ++ written_piece w p) same),
    )

-- a segment that fails after others
pub refuses_segment : (v : Version) (old : List Bool) (bytes : List ℕ) (ss : List Segment) (s : Segment) (now new : BitList) (e : QrError)
    → now.version ≡ v → PushesAll v old bytes ss now.bits
    → Changes (piece_refusal now.version (length now.bits) (piece_of bytes s)) now (with_bits now (written_piece now.version (piece_of bytes s))) new (Err e)
    → StopsAtLast v old (pieces_of bytes (ss ++ s ∷ [])) e new.bits
refuses_segment v old bytes ss s now new e same before refused =
    let p = piece_of bytes s in
    let cause = cause_of (piece_refusal now.version (length now.bits) p) now (with_bits now (written_piece now.version p)) new e refused in
    let stop = stops v old bytes ss s now.bits e before (subst (λ w. IsCause (piece_refusal w (length now.bits) p) e) same cause) in
    subst (StopsAtLast v old (pieces_of bytes (ss ++ s ∷ [])) e) (sym (ap (λ (l : BitList). l.bits) refused.unchanged)) stop

-- all segments are written, and the push after them fails
pub stops_behind : (v : Version) (old : List Bool) (bytes : List ℕ) (ss : List Segment) (r : Option QrError) (now after new : BitList) (result : Result (Unit {0}) QrError)
    → now.version ≡ v → PushesAll v old bytes ss now.bits → Changes r now after new result
    → IfErr result (λ _. (n : ℕ) × (new ≡ record { version = v; bits = old ++ written v (take n (pieces_of bytes ss)) }))
stops_behind v old bytes ss r now after new (Ok u) same pushed refused = tt
stops_behind v old bytes ss r now after new (Err e) same pushed refused =
    let ps = pieces_of bytes ss in
    let list : Version → List Bool → BitList = λ w b. record { version = w; bits = b } in
    (length ps, refused.unchanged ∙ ap (λ w. list w now.bits) same ∙ ap (list v) (pushed.bits ∙ ap (λ qs. old ++ written v qs) (sym (take-length ps))))
