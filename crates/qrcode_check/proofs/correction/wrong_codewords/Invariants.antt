use Rattle.std.proofs.Common.{◌≡◌, map}
use Rattle.std.specs.List.{range_with_len}
use Rattle.qrcode_check.specs.Correction.{wrong_in_block}
use Rattle.qrcode_check.proofs.correction.wrong_codewords.Given as goal

abbrev pub invariant-loop-block : goal.invariant-loop-block
invariant-loop-block l = l.counts.items ≡ map (wrong_in_block l.wrong) (range_with_len 0 l.block)
