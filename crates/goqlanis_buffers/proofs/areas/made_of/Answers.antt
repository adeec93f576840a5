use Rattle.std.proofs.Common.{◌≡◌, ◌∙◌, ℕ, Option, Some, None, is_some, refl, sym, ap, ap₂, subst, arith}
use Rattle.std.specs.Int.{from_bool}
use Rattle.std.specs.Prelude.{unwrap_or}
use Rattle.qrcode_damage.specs.Reserves.{IsLeast}
use Rattle.qrcode_damage.proofs.Bounds.{length_counts}
use Rattle.goqlanis_buffers.specs.Areas.{told}
use Rattle.goqlanis_buffers.proofs.areas.made_of.Goals as goal

-- a number that may be missing, in the form that C gets
told_as : (o : Option ℕ) → told (from_bool (is_some o)) (unwrap_or o 0) ≡ o
told_as None = refl
told_as (Some n) = refl

pub returns : goal.returns
returns c = λ version level area h.
    let count = length_counts version level area c.args.reserve.now.touched.items h.counts in
    let same = ap₂ told (ap from_bool c.is_some.ensures) c.unwrap_or.ensures ∙ told_as c.least-least.result in
    record {
      counted = h.counts;
      blocks = omega (arith, count);
      allowed = h.allowed;
      inside = omega (arith, h.inside, count);
      worst = λ b below. h.worst b (omega (arith, below, count));
      first = h.first;
      last = h.last;
      least = subst (IsLeast version level area) (sym same) (c.least-least.ensures version level area h);
    }
