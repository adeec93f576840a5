use Rattle.std.proofs.Common.{◌≤◌, ◌++◌, length, take, subst, arith}
use Rattle.qrcode_ec.specs.Codes.{Vanishes}
use Rattle.qrcode_ec.specs.Interleaving.{data_block}
use Rattle.qrcode_ec.proofs.Bytes.{bytes_from}
use Rattle.qrcode_ec.proofs.Columns.{column, vanishes_more}
use Rattle.qrcode_ec.proofs.interleaving.DataBlocks.write_ec.Goals as goal

pub loop-b-preserved : goal.loop-b-preserved
loop-b-preserved c =
    let blocks = c.args.self.now.blocks in
    let n = blocks.ec_length in
    let count = c.count-count.result in
    let at = c.loop-b.b in
    let bytes = c.args.self.now.bytes.now in
    let ec = c.remainder-ec.result in
    let old = c.loop-b.codewords in
    let new = c.spread.new.codewords in
    let long : n ≤ length ec = omega arith in
    let here : Vanishes (data_block blocks bytes at ++ take n ec) n =
    subst (λ d. Vanishes (data_block blocks bytes at ++ take d ec) d) c.new-divider.ensures
    (subst (λ part. Vanishes (part ++ take c.new-divider.result.degree ec) c.new-divider.result.degree) c.block.ensures.value c.remainder-ec.ensures.vanishes) in
    record {
      all = c.count-count.ensures.value;
      bytes = λ j. omega (arith, c.type_inv.codewords j);
      vanishes = vanishes_more n count at (data_block blocks bytes) ec old new long c.loop-b-test.true here c.spread.ensures.written c.spread.ensures.unchanged c.loop-b.invariant.vanishes;
    }

pub returns-clause-vanishes : goal.returns-clause-vanishes
returns-clause-vanishes c = λ b below.
    subst (λ count. Vanishes (data_block c.args.self.now.blocks c.args.self.now.bytes.now b ++ column c.args.self.now.blocks.ec_length count b c.loop-b.codewords) c.args.self.now.blocks.ec_length)
    c.count-count.ensures.value (c.loop-b.invariant.vanishes b (omega (arith, below, c.count-count.ensures.value)))

pub returns-clause-bytes : goal.returns-clause-bytes
returns-clause-bytes c = bytes_from c.loop-b.codewords c.loop-b.invariant.bytes
