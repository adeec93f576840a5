use Rattle.std.proofs.Common.{ap, sym, ◌∙◌, ◌+◌}
use Rattle.qrcode_types.proofs.BlockTable.{length-block_lengths}
use Rattle.qrcode_types.proofs.tables.Blocks.count.Goals as goal

pub returns-clause-of_version : goal.returns-clause-of_version
returns-clause-of_version c = λ v l e. sym (length-block_lengths v l ∙ ap (λ b. b.1 + b.3) e)
