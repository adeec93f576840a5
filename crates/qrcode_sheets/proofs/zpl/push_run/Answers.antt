use Rattle.std.proofs.Common.{◌≡◌, ◌+◌, ◌*◌, ◌/◌, ◌%◌, ◌++◌, [], ◌∷◌, max, replicate, ap, ◌∙◌, arith}
use Rattle.std.proofs.lemmas.Bool.Decides.{nat_tests}
use Rattle.qrcode_sheets.specs.Zpl.{read, reading}
use Rattle.qrcode_sheets.proofs.ZplFields.{read_digit}
use Rattle.qrcode_sheets.proofs.zpl.push_run.Goals as goal

pub returns-clause-reads : goal.returns-clause-reads
returns-clause-reads c =
    λ n before is.
    let times = c.said-times.result in
    let all : max (20 * (times / 20) + times % 20) 1 ≡ c.args.count = grind (arith, nat_tests, c.said-times.ensures, c.if-count-eq0.false) in
    ap (read n) c.in_ok-push.ensures.items
    ∙ ap (λ d. read n (c.push_ones.new.field.items ++ d ∷ [])) c.hex_digit.ensures
    ∙ read_digit n c.push_ones.new.field.items before (20 * (times / 20) + times % 20) c.args.digit c.requires.is_digit (c.in_ok-push_ones.ensures.reads n (20 * (times / 20)) before (c.in_ok-push_twenties.ensures.reads n before is))
    ∙ ap (λ k. reading 0 (before ++ replicate k c.args.digit)) all
