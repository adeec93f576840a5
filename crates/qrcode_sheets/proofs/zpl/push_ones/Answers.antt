use Rattle.std.proofs.Common.{ap, ◌∙◌, arith}
use Rattle.qrcode_sheets.specs.Zpl.{read}
use Rattle.qrcode_sheets.proofs.ZplFields.{read_ones}
use Rattle.qrcode_sheets.proofs.zpl.push_ones.Goals as goal

pub returns-in_ok-push-clause-reads : goal.returns-in_ok-push-clause-reads
returns-in_ok-push-clause-reads c =
    λ n times before is.
    ap (read n) c.in_ok-push.ensures.items ∙ read_ones n c.args.field.now.items before times c.args.count (omega (arith, c.if-count-gt0.true)) c.requires.at_most is
