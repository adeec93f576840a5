use Rattle.std.proofs.Common.{◌+◌, ◌*◌, ◌∙◌, arith}
use Rattle.std.proofs.lemmas.Nat.{mul-add-lt}
use Rattle.qrcode_types.specs.Blocks.{count_of}
use Rattle.qrcode_ec.proofs.interleaving.DataBlocks.write_data.Goals as goal

pub returns-clause-rows : goal.returns-clause-rows
returns-clause-rows c = λ i b within exists.
    let count = count_of c.args.self.now.blocks in
    c.write_ends.ensures.unchanged (i * count + b) (omega (arith, mul-add-lt i count b c.args.self.now.blocks.short_length within exists)) ∙ c.write_rows.ensures i b within exists
