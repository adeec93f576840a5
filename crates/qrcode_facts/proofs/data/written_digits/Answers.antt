use Rattle.std.proofs.Common.{[], ◌∷◌, drop, lit<, refl}
use Rattle.qrcode_types.specs.Bits.{number_bits}
use Rattle.qrcode_types.specs.Tables.{block_table}
use Rattle.qrcode_types.specs.Versions.{blocks_entry, block_lengths, data_length, capacity}
use Rattle.qrcode_bits.specs.Written.{padding, ending, terminated}
use Rattle.qrcode_facts.specs.Data.{digits, normal_bits, micro_bits}
use Rattle.qrcode_facts.proofs.data.written_digits.Goals as goal

pub returns-clause-spelled : goal.returns-clause-spelled
unfolding number_bits block_table blocks_entry block_lengths data_length capacity padding ending terminated
returns-clause-spelled c = record {
  pieces = digits ∷ [];
  read = (drop 41 normal_bits, (refl, (refl, (record { mode_exists = refl; writable = refl; counted = lit< tt }, refl))));
  joined = refl;
}

pub returns-clause-micro_spelled : goal.returns-clause-micro_spelled
unfolding number_bits block_table blocks_entry block_lengths data_length capacity padding ending terminated
returns-clause-micro_spelled c = record {
  pieces = digits ∷ [];
  read = (drop 32 micro_bits, (refl, (refl, (record { mode_exists = refl; writable = refl; counted = lit< tt }, refl))));
  joined = refl;
}
