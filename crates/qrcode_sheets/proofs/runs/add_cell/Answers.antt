use Rattle.std.proofs.Common.{◌≡◌, ◌+◌, ◌++◌, [], ◌∷◌, ◌||◌, Bool, List, ap, ap₂, ◌∙◌, sym, arith}
use Rattle.std.specs.Prelude.{option_to_list}
use Rattle.std.proofs.lemmas.List.{append-nil}
use Rattle.qrcode_sheets.specs.Paths.{is_filled}
use Rattle.qrcode_sheets.specs.declared.runs.Run.{Run}
use Rattle.qrcode_sheets.proofs.FilledRuns.{begun, filled-append, grown}
use Rattle.qrcode_sheets.proofs.runs.add_cell.Goals as goal
use Rattle.qrcode_sheets.proofs.runs.add_cell.Goals.{in-Some+then-last-row+then-last-column, in-Some+else-last-row+in_ok-push, in_default}

pub returns-clause-fills : goal.returns-clause-fills
returns-clause-fills c =
    λ x y.
    let old = c.args.runs.now.items in
    let column = c.args.column in
    let row = c.args.row in
    let one : Run → List Run = λ r. (record { left = r.left; top = r.top; width = r.width + 1 }) ∷ [] in
    let both : List Run → Run → Bool = λ rs r. is_filled rs x y || is_filled (one r) x y in
    ap (λ rs. is_filled rs x y) c.in_ok-push-2.ensures.items
    ∙ filled-append c.match-pop.runs.items (one c.match-pop.run) x y
    ∙ elim c.match-pop.branch [
      | in-Some+then-last-row+then-last-column w ↦
          let last = w.in-Some.last in
          let whole : old ≡ c.pop.new.self.items ++ last ∷ [] = c.pop.ensures.items ∙ ap (λ o. c.pop.new.self.items ++ option_to_list o) w.in-Some.is in
          ap₂ both (ap (λ v. v.items) w.runs-is) w.run-is
          ∙ grown old c.pop.new.self.items last column row (last.width + 1) x y whole (omega (arith, w.if-last-row.true)) (omega (arith, w.if-last-column.true)) (omega arith)
      | in-Some+else-last-row+in_ok-push w ↦
          let last = w.in-Some.last in
          let whole : old ≡ c.pop.new.self.items ++ last ∷ [] = c.pop.ensures.items ∙ ap (λ o. c.pop.new.self.items ++ option_to_list o) w.in-Some.is in
          ap₂ both (ap (λ v. v.items) w.runs-is) w.run-is
          ∙ begun old w.push.new.self.items column row 1 x y (whole ∙ sym w.in_ok-push.ensures.items) (omega arith)
      | in_default w ↦
          ap₂ both (ap (λ v. v.items) w.runs-is) w.run-is
          ∙ begun old c.pop.new.self.items column row 1 x y (c.pop.ensures.items ∙ ap (λ o. c.pop.new.self.items ++ option_to_list o) w.in_default.is ∙ append-nil c.pop.new.self.items) (omega arith)
    ]
