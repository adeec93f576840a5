use Rattle.std.proofs.Common.{◌≡◌, ◌*◌, ℕ, length, take, ap, arith}
use Rattle.std.proofs.lemmas.List.{length-take}
use Rattle.qrcode_ec.proofs.interleaving.DataBlocks.write_rows.Goals as goal

pub spread-requires-clause-fits : goal.spread-requires-clause-fits
spread-requires-clause-fits c =
    let short = c.args.self.now.blocks.short_length in
    let bytes = c.block-bytes.result.now in
    let row : length (take short bytes) ≡ short = omega (arith, length-take short bytes, c.block-bytes.ensures.length) in
    omega (arith, ap {B = ℕ} (λ n. n * c.count-count.result) row, ap {B = ℕ} (λ n. short * n) c.count-count.ensures.value, c.requires, c.loop-b.auto.codewords)
