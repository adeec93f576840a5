use Rattle.std.proofs.Common.{ap₂, [], slice_index_or, ◌-◌}
use Rattle.qrcode_charsets.specs.Charsets.{page_characters}
use Rattle.qrcode_charsets.proofs.Rows.{same_table}
use Rattle.qrcode_charsets.proofs.sets.CodePage.cell.Goals as goal

pub returns : goal.returns
unfolding page_characters
returns c = ap₂ (λ table n. slice_index_or (slice_index_or table (n - 3) []) c.args.place 0) same_table c.designator.ensures.value
