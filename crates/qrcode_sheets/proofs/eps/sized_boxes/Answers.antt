use Rattle.std.proofs.Common.{◌≡◌, List, ℕ, ◌++◌, string_bytes, ap, ◌∙◌}
use Rattle.std.specs.Prelude.{codes, decimal}
use Rattle.qrcode_sheets.specs.Eps.{eps_boxes}
use Rattle.qrcode_sheets.specs.Paths.{thousandths}
use Rattle.qrcode_sheets.proofs.eps.sized_boxes.Goals as goal

-- The pieces of the text in a row.
pub returns-clause-value : goal.returns-clause-value
unfolding eps_boxes
returns-clause-value c =
    let wide : List ℕ = string_bytes c.in_ok-wide.wide in
    let high : List ℕ = string_bytes c.in_ok-high.high in
    let pieces : string_bytes c.in_ok-format.field-0
    ≡ codes "%!PS-Adobe-3.0 EPSF-3.0\n%%BoundingBox: 0 0 " ++ (decimal c.begun_points-across.result ++ (codes " " ++ (decimal c.begun_points-down.result
    ++ (codes "\n%%HiResBoundingBox: 0 0 " ++ (wide ++ (codes " " ++ (high ++ codes "\n"))))))) = c.in_ok-format.ensures.ok in
    pieces
    ∙ (λ k. codes "%!PS-Adobe-3.0 EPSF-3.0\n%%BoundingBox: 0 0 " ++ (decimal (c.begun_points-across.ensures k) ++ (codes " " ++ (decimal (c.begun_points-down.ensures k)
    ++ (codes "\n%%HiResBoundingBox: 0 0 " ++ ((c.in_ok-wide.ensures.value ∙ ap thousandths c.begun_points.ensures) k ++ (codes " " ++ ((c.in_ok-high.ensures.value ∙ ap thousandths c.begun_points-2.ensures) k ++ codes "\n"))))))))
