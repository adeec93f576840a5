use Rattle.std.proofs.Common.{◌≡◌, ◌∙◌, ◌<◌, ℕ, List, [], ◌∷◌, ◌++◌, length, get_or, ap, sym, subst, arith, rules}
use Rattle.std.specs.Prelude.{All, IsFalse}
use Rattle.std.proofs.lemmas.List.{get_or_read}
use Rattle.std.proofs.lemmas.List.Elements.{All-get_or, All-push}
use Rattle.qrcode_scan.specs.Codes.{IsApartFrom, IsMissedOf}
use Rattle.qrcode_scan.specs.declared.codes.Missed as found
use Rattle.qrcode_scan.specs.declared.scanning.Scan.{Scan}
use Rattle.goqlanis_buffers.specs.Missing.{IsToldMissed, IsToldSquare}
use Rattle.goqlanis_buffers.specs.declared.scanning.Missed.{Missed}
use Rattle.goqlanis_buffers.proofs.scanning.missed_in.Goals.{then-not-has_read+in_ok-push, else-not-has_read}
use Rattle.goqlanis_buffers.proofs.scanning.missed_in.Goals as goal

-- one more square of a picture is told of; it was read twice from the list
told_more : (picture : List ℕ) (codes : List Scan) (squares : List found.Missed) (i : ℕ) (seen square : found.Missed) (old new : List Missed) (told : Missed)
    → i < length squares → seen ≡ get_or squares i seen → square ≡ get_or squares i square → All (IsMissedOf picture) squares
    → All (IsApartFrom seen.grid) codes → IsToldSquare square told → All (IsToldMissed picture codes) old → new ≡ old ++ told ∷ []
    → All (IsToldMissed picture codes) new
told_more picture codes squares i seen square old new told below seen_is is are apart of before pushed =
    let same : seen ≡ square = get_or_read squares i seen below seen_is square ∙ sym is in
    let missed = subst (IsMissedOf picture) (sym is) (All-get_or (IsMissedOf picture) squares i square below are) in
    let free = subst (λ (s : found.Missed). All (IsApartFrom s.grid) codes) same apart in
    subst (All (IsToldMissed picture codes)) (sym pushed)
    (All-push (IsToldMissed picture codes) old told before (record { square = square; missed = missed; apart = free; told_of = of }))

pub loop-i-preserved : goal.loop-i-preserved
loop-i-preserved c = λ picture are.
    let before = c.loop-i.invariant picture are in
    let codes = c.args.codes.now.scans.items in
    elim c.if-not-has_read.branch [
      | then-not-has_read+in_ok-push w ↦
          let below : c.loop-i.i < length c.args.codes.now.missed.items = omega arith in
          let unread : IsFalse c.has_read.result = search rules in
          told_more picture codes c.args.codes.now.missed.items c.loop-i.i c.index.result.now w.index-then-not-has_read.result.now c.loop-i.all.items
          c.if-not-has_read.all.items w.told_missed.result below c.index.ensures w.index-then-not-has_read.ensures are
          (c.has_read.ensures.none unread) w.told_missed.ensures before (ap (λ all. all.items) w.all-is ∙ w.in_ok-push.ensures.items)
      | else-not-has_read w ↦ subst (All (IsToldMissed picture codes)) (sym (ap (λ all. all.items) w.all-is)) before
    ]
