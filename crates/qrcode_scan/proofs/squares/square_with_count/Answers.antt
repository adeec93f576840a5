use Rattle.std.proofs.Common.{◌≡◌, ◌-◌, ◌*◌, ◌/◌, ◌%◌, ℕ, List, sym, subst, ap, ap₂, ◌∙◌, arith}
use Rattle.qrcode_render.specs.Layout.{layout}
use Rattle.qrcode_render.specs.Picture.{picture}
use Rattle.qrcode_types.specs.declared.types.Color.{Color}
use Rattle.qrcode_scan.specs.Wholes.{IsGridAt}
use Rattle.qrcode_scan.proofs.Framed.{fills, quotient_of, remainder_of, sampled_square}
use Rattle.qrcode_scan.proofs.squares.square_with_count.Goals as goal
use Rattle.qrcode_scan.proofs.squares.square_with_count.Goals.{then-scale-count-via-then-scale-count, then-scale-count-via-else-scale-count+then-margin-scale-ne0}

pub returns-then-scale-count-clause-none : goal.returns-then-scale-count-clause-none
returns-then-scale-count-clause-none c =
    λ zone scale modules q is.
    let n = c.args.count in
    let extent = c.sides.result.0 - 2 * c.args.margin in
    let e : extent ≡ scale * n = omega (arith, fills c.args.pixels.now n zone scale c.args.margin modules q is, c.sides.ensures.across) in
    let d : extent / n ≡ scale = quotient_of extent n scale c.requires.count.0 e in
    elim c.then-scale-count.branch [
      | then-scale-count-via-then-scale-count w ↦ w.if-scale-count.true (ap (λ k. k * n) d ∙ sym e)
      | then-scale-count-via-else-scale-count+then-margin-scale-ne0 w ↦
          w.if-margin-scale-ne0.true (ap (λ k. c.args.margin % k) d ∙ remainder_of c.args.margin scale zone q.at_least (sym is))
    ]

pub returns-else-is_shown-clause-none : goal.returns-else-is_shown-clause-none
returns-else-is_shown-clause-none c =
    λ zone scale modules q is.
    let b = c.args.pixels.now in
    let n = c.args.count in
    let margin = c.args.margin in
    let extent = c.sides.result.0 - 2 * margin in
    let items = c.in_ok-colours_at.field-0.items in
    let e : extent ≡ scale * n = omega (arith, fills b n zone scale margin modules q is, c.sides.ensures.across) in
    let d : extent / n ≡ scale = quotient_of extent n scale c.requires.count.0 e in
    let z : margin / (extent / n) ≡ zone = ap (λ k. margin / k) d ∙ quotient_of margin scale zone q.at_least (sym is) in
    let grid : IsGridAt margin margin (extent / n) n c.grid_at.result = c.grid_at.ensures in
    let m : items ≡ modules = c.in_ok-colours_at.ensures.value ∙ sampled_square b n zone scale margin modules _ q is (subst (λ (k : ℕ). IsGridAt margin margin k n c.grid_at.result) d grid) in
    c.is_shown.ensures.other c.if-is_shown.false (
    q.shown
    ∙ ap₂ (λ (k : ℕ) (s : List Color). picture (layout n k scale scale) s) (sym z) (sym m)
    ∙ ap (λ (k : ℕ). picture (layout n (margin / (extent / n)) k k) items) (sym d)
    )
