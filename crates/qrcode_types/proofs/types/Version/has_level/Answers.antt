-- The pairs of a version and a level are counted by computing.
use Rattle.std.proofs.Common.{refl}
use Rattle.qrcode_types.specs.Tables.{block_table}
use Rattle.qrcode_types.specs.Versions.{blocks_entry, level_count}
use Rattle.qrcode_types.proofs.types.Version.has_level.Goals as goal

pub returns-clause-levels : goal.returns-clause-levels
unfolding level_count blocks_entry block_table
returns-clause-levels c = refl
