use Rattle.std.proofs.Common.{◌≡◌, ℕ, ◌+◌, ◌-◌, ◌<◌, List, [], ◌∷◌, ◌++◌, replicate, get_or, ap, ◌∙◌, sym, subst, arith, append_assoc}
use Rattle.std.proofs.lemmas.List.{replicate-append-replicate, take_all, take_more}
use Rattle.std.proofs.lemmas.List.Elements.{All-get_or}
use Rattle.qrcode_sheets.specs.Zpl.{IsFieldRead}
use Rattle.qrcode_sheets.proofs.zpl.push_digits.Goals as goal

pub loop-i-preserved : goal.loop-i-preserved
loop-i-preserved c =
    let digits = c.args.digits.now in
    let i = c.loop-i.i in
    let next = get_or digits i 0 in
    let digit = c.loop-i.digit in
    let count = c.loop-i.count in
    let left = c.in_ok-count.field-0 in
    let kept = c.loop-i.invariant.1.1 in
    let done : List ℕ = kept.0 in
    let more : List ℕ = replicate (count - left) digit in (
      omega (arith, c.in_ok-count.ensures.at_most.0),
      (
        All-get_or (λ d. d < 16) digits i 0 (omega arith) c.requires,
        (
          done ++ more,
          (
            take_more digits i 0 (omega arith)
                ∙ ap (λ xs. xs ++ next ∷ []) (kept.1.0 ∙ ap (λ xs. done ++ xs) c.in_ok-count.ensures.left)
                ∙ regroup done more left next,
            λ n before is.
                subst (λ xs. IsFieldRead n c.push_ended.new.field.items xs) (append_assoc before done more) (c.in_ok-count.ensures.reads n (before ++ done) (kept.1.1 n before is)),
          ),
        ),
      ),
    )
  where
    regroup : (done more : List ℕ) (left next : ℕ) → (done ++ (more ++ replicate left next)) ++ next ∷ [] ≡ (done ++ more) ++ replicate (left + 1) next
    regroup done more left next =
        append_assoc done (more ++ replicate left next) (next ∷ [])
        ∙ ap (λ xs. done ++ xs) (append_assoc more (replicate left next) (next ∷ []) ∙ ap (λ xs. more ++ xs) (replicate-append-replicate left 1 next))
        ∙ sym (append_assoc done more (replicate (left + 1) next))

pub returns-clause-reads : goal.returns-clause-reads
returns-clause-reads c =
    λ n before is.
    let kept = c.loop-i.invariant.1.1 in
    let run : List ℕ = replicate c.loop-i.count c.loop-i.digit in
    let all : before ++ kept.0 ++ run ≡ before ++ c.args.digits.now = append_assoc before kept.0 run ∙ ap (λ xs. before ++ xs) (sym kept.1.0 ∙ take_all c.loop-i.i c.args.digits.now (omega arith)) in
    subst (λ xs. IsFieldRead n c.push_run.new.field.items xs) all (c.in_ok-push_run.ensures.reads n (before ++ kept.0) (kept.1.1 n before is))
