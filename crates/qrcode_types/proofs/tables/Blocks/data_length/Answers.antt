use Rattle.std.proofs.Common.{ap, sym, ◌∙◌, arith}
use Rattle.qrcode_types.proofs.BlockTable.{data_length-is, data_of}
use Rattle.qrcode_types.proofs.tables.Blocks.data_length.Goals as goal

pub returns-clause-value : goal.returns-clause-value
returns-clause-value c = rw c.count.ensures.value (omega arith)

pub returns-clause-of_version : goal.returns-clause-of_version
returns-clause-of_version c = λ v l e. returns-clause-value c ∙ sym (data_length-is v l ∙ ap data_of e)
