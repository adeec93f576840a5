use Rattle.std.proofs.Common.{ap, sym, ◌∙◌, ◌*◌}
use Rattle.qrcode_types.proofs.BlockTable.{total_ec_length-is, ec_of}
use Rattle.qrcode_types.proofs.tables.Blocks.total_ec_length.Goals as goal

pub returns-clause-of_version : goal.returns-clause-of_version
returns-clause-of_version c = λ v l e. ap (λ n. c.args.self.ec_length * n) c.count.ensures.value ∙ sym (total_ec_length-is v l ∙ ap ec_of e)
