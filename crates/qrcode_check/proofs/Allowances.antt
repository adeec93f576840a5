-- How many wrong codewords a block allows at most, computed for each version.
use Rattle.std.proofs.Common.{◌≡◌, ◌≤◌, nat_le, Bool, true, refl, arith, IsTrue}
use Rattle.std.proofs.lemmas.Bool.{and_parts}
use Rattle.std.proofs.lemmas.Bool.Decides.{nat_tests}
use Rattle.qrcode_types.specs.Tables.{block_table}
use Rattle.qrcode_types.specs.Versions.{has_level, blocks_entry, block_lengths, total_ec_length}
use Rattle.qrcode_types.specs.declared.types.Version.{Version}
use Rattle.qrcode_types.specs.declared.types.EcLevel.{EcLevel}
use Rattle.qrcode_types.specs.declared.types.EcLevel.TheVariants.{L, M, Q, H}
use Rattle.qrcode_layout.proofs.Versions.{all_normal, all_micro, each_version}
use Rattle.qrcode_check.specs.Correction.{allowed_in_block}

few : EcLevel → Version → Bool
few l v = nat_le (allowed_in_block v l) 1000

normals : (l : EcLevel) → all_normal (few l) ≡ true
unfolding few total_ec_length block_lengths blocks_entry block_table
normals L = refl
normals M = refl
normals Q = refl
normals H = refl

micros : (l : EcLevel) → all_micro (few l) ≡ true
unfolding few total_ec_length block_lengths blocks_entry block_table
micros L = refl
micros M = refl
micros Q = refl
micros H = refl

pub few_allowed : (v : Version) (l : EcLevel) → IsTrue (has_level v l) → allowed_in_block v l ≤ 1000
unfolding few
few_allowed v l exists =
    let e : nat_le (allowed_in_block v l) 1000 ≡ true = each_version (few l) (normals l) (micros l) v (and_parts _ _ exists).0 in
    grind (arith, nat_tests)
