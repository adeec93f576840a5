use Rattle.std.proofs.Common.{ap, ◌∙◌, arith}
use Rattle.qrcode_sheets.specs.Zpl.{read}
use Rattle.qrcode_sheets.proofs.ZplFields.{read_twenties}
use Rattle.qrcode_sheets.proofs.zpl.push_twenties.Goals as goal

pub returns-in_ok-push-clause-reads : goal.returns-in_ok-push-clause-reads
returns-in_ok-push-clause-reads c =
    λ n before is.
    ap (read n) c.in_ok-push.ensures.items ∙ read_twenties n c.args.field.now.items before c.args.count (omega (arith, c.if-count-gt0.true)) c.requires.at_most is
