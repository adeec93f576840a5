use Rattle.std.proofs.Common.{◌≡◌, ◌*◌, ◌/◌, false, length, get_or, sym, ap, ◌∙◌, arith}
use Rattle.qrcode_scan.proofs.Framed.{first_row, leaves_room, never_dark}
use Rattle.qrcode_scan.proofs.squares.margin_of.Goals as goal

pub returns-in-None-clause-none : goal.returns-in-None-clause-none
returns-in-None-clause-none c =
    let marks = c.marks.ensures.value in
    λ count zone scale column modules q. never_dark c.args.pixels.now count zone scale column modules q
    (λ k inside. ap (λ m. get_or m k false) (sym marks) ∙ c.in-None.ensures.none k (omega (arith, inside, ap length marks)))

pub returns-then-margin-across-clause-value : goal.returns-then-margin-across-clause-value
returns-then-margin-across-clause-value c =
    let marks = c.marks.ensures.value in
    let first = c.in-Some.first in
    λ count zone scale column modules q.
    first_row c.args.pixels.now count zone scale column first modules q (omega (arith, c.in-Some.ensures.inside, ap length marks))
    (ap (λ m. get_or m first false) (sym marks) ∙ c.in-Some.ensures.dark)
    (λ k before. ap (λ m. get_or m k false) (sym marks) ∙ c.in-Some.ensures.first k before)
    ∙ ap (λ n. first / n) (sym c.sides-across.ensures.across)

pub returns-else-margin-across-clause-none : goal.returns-else-margin-across-clause-none
returns-else-margin-across-clause-none c =
    let marks = c.marks.ensures.value in
    let first = c.in-Some.first in
    λ count zone scale column modules q.
    let row : zone * scale ≡ first / c.sides-across.result.0 =
    first_row c.args.pixels.now count zone scale column first modules q (omega (arith, c.in-Some.ensures.inside, ap length marks))
    (ap (λ m. get_or m first false) (sym marks) ∙ c.in-Some.ensures.dark)
    (λ k before. ap (λ m. get_or m k false) (sym marks) ∙ c.in-Some.ensures.first k before)
    ∙ ap (λ n. first / n) (sym c.sides-across.ensures.across)
    in
    omega (arith, leaves_room c.args.pixels.now count zone scale column (first / c.sides-across.result.0) modules q row, c.if-margin-across.false, c.sides-across.ensures.across)
