use Rattle.std.proofs.Common.{length, get_or, ◌∙◌, arith}
use Rattle.std.proofs.lemmas.Nat.{mul-add-lt}
use Rattle.qrcode_ec.proofs.Columns.{spread_written, spread_kept}
use Rattle.qrcode_ec.proofs.interleaving.spread.Goals as goal

pub bounds-codewords-place : goal.bounds-codewords-place
bounds-codewords-place c =
    omega (arith, c.loop-byte.invariant.at, c.requires.fits, mul-add-lt c.loop-byte.byte-index c.args.step c.args.first (length c.args.bytes.now) c.loop-byte-test.true c.requires.begins)

pub loop-byte-preserved : goal.loop-byte-preserved
loop-byte-preserved c =
    let row = c.loop-byte.byte-index in
    let step = c.args.step in
    let first = c.args.first in
    let old = c.loop-byte.codewords in
    let place = c.loop-byte.place in
    let byte = get_or c.args.bytes.now row 0 in
    let before = c.loop-byte.invariant in
    record {
      at = omega (arith, before.at);
      written = spread_written step first row place c.args.bytes.now old c.requires.begins before.at (bounds-codewords-place c) before.written;
      unchanged = λ i k within other. spread_kept step first row place byte old c.requires.begins before.at i k within other ∙ before.unchanged i k within other;
    }
