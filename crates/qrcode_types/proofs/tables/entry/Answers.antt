-- The table of the code is the table of the definitions.
use Rattle.std.proofs.Common.{ap₂, [], slice_index_or}
use Rattle.qrcode_types.specs.Tables.{block_table}
use Rattle.qrcode_types.specs.Versions.{blocks_entry}
use Rattle.qrcode_types.proofs.tables.entry.Goals as goal

pub returns : goal.returns
unfolding block_table blocks_entry
returns c = ap₂ (λ i j. slice_index_or (slice_index_or block_table i []) j (0, 0, 0, 0)) c.row.ensures.value c.number.ensures.value
