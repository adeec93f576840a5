use Rattle.std.proofs.Common.{string_bytes, ◌∙◌}
use Rattle.qrcode_contents.proofs.GeoReading.{fraction_step, below_step}
use Rattle.qrcode_contents.proofs.geo.push_fraction.Goals as goal

pub loop-index-preserved : goal.loop-index-preserved
loop-index-preserved c = record {
  below = below_step c.loop-index.index c.loop-index.rest c.pow.result c.in_ok-rest.rest c.loop-index-test.true c.pow.ensures c.in_ok-rest.ensures.rest;
  says =
      fraction_step c.loop-index.index c.loop-index.rest c.pow.result c.in_ok-rest.rest (string_bytes c.loop-index.text) (string_bytes c.push_digit.new.text) c.loop-index-test.true c.pow.ensures c.in_ok-rest.ensures.rest c.in_ok-rest.ensures.appends
      ∙ c.loop-index.invariant.says;
}
