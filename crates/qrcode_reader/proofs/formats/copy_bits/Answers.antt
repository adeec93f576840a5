use Rattle.std.proofs.Common.{◌≢◌, ◌<◌, ℕ, length, ap, ◌∙◌, arith, below_more, get_or-set_other, get_or-set_same, length-set}
use Rattle.qrcode_types.specs.Colors.{is_dark}
use Rattle.qrcode_layout.specs.Stream.{color_at}
use Rattle.qrcode_reader.specs.Formats.{copy_place}
use Rattle.qrcode_reader.proofs.Copies.{copied}
use Rattle.qrcode_reader.proofs.formats.copy_bits.Goals as goal

pub loop-i-preserved : goal.loop-i-preserved
loop-i-preserved c = record {
  long = length-set _ _ _ ∙ c.loop-i.invariant.long;
  each = below_more _ _
      (λ k h. let ne : k ≢ c.loop-i.i = omega arith in rw get_or-set_other (c.loop-i.invariant.each k h))
      (let lt : c.loop-i.i < length c.loop-i.bits = omega (arith, c.loop-i.invariant.long) in
      rw get_or-set_same (c.is_dark_at.ensures ∙ ap (λ (p : ℕ × ℕ). is_dark (color_at c.args.version c.args.modules.now p.0 p.1)) c.copy_place.ensures));
}

pub returns : goal.returns
returns c = copied c.args.version c.args.modules.now (copy_place c.args.copy c.args.version) c.loop-i.bits c.loop-i.invariant.long (λ k h. c.loop-i.invariant.each k (omega (arith, h)))
