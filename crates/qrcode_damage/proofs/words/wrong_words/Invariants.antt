use Rattle.std.proofs.Common.{◌≡◌, ◌+◌, ◌*◌, ◌<◌, ℕ, IsTrue, vec_len}
use Rattle.qrcode_types.specs.Blocks.{count_of, data_length_of}
use Rattle.qrcode_types.specs.Versions.{has_half_codeword}
use Rattle.qrcode_ec.specs.Blocks.{block}
use Rattle.qrcode_damage.specs.Flips.{count_wrong, AreHigh}
use Rattle.qrcode_damage.proofs.words.wrong_words.Given as goal

abbrev pub invariant-loop-b : goal.invariant-loop-b
invariant-loop-b l = record {
  long : vec_len l.words ≡ data_length_of l.blocks + l.blocks.ec_length * count_of l.blocks;
  counted : (k : ℕ) → k < l.b → count_wrong (block l.fn.version l.fn.ec_level l.words.items k) ≡ l.count;
  high : IsTrue (has_half_codeword l.fn.version l.fn.ec_level) → AreHigh l.words.items;
}
