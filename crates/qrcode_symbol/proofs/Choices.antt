-- The first mask with the lowest cost.
use Rattle.std.proofs.Common.{◌≡◌, ℕ, List, ◌-◌, ◌<◌, ◌≤◌, ◌^◌, IsTrue, ap, ◌∙◌, arith}
use Rattle.qrcode_types.specs.declared.types.Version.{Version}
use Rattle.qrcode_layout.specs.Masks.{exists_in, nth_mask, mask_count}
use Rattle.qrcode_layout.specs.declared.masks.MaskPattern.{MaskPattern}
use Rattle.qrcode_layout.proofs.MaskLists.{number_in, number_lt, nth_of_number, number_of_nth, number_order}
use Rattle.qrcode_symbol.specs.Masking.{IsFirstLeastCost}
use Rattle.qrcode_types.specs.declared.types.EcLevel.{EcLevel}
use Rattle.qrcode_symbol.specs.declared.canvas.Module.{Module}
use Rattle.qrcode_symbol.specs.Canvas.{colors_of, with_mask, IsBestMask}
use Rattle.qrcode_symbol.specs.Penalties.{penalty}

-- among the first `count` costs, `least` is the lowest, and `best` the first with it; for none, `least` is an upper bound
pub record LeastBelow (costs : ℕ → ℕ) (count best least : ℕ) : Type 0 where
  pub none : count ≡ 0 → least ≡ 2 ^ 32 - 1
  pub exists : 0 < count → best < count
  pub value : 0 < count → least ≡ costs best
  pub below : (j : ℕ) → j < count → least ≤ costs j
  pub first : (j : ℕ) → j < best → 0 < count → least < costs j

-- the first mask with the lowest cost is the best mask
pub best_of_least : (v : Version) (l : EcLevel) (modules : List Module) (costs : ℕ → ℕ) (i : ℕ) → ((k : ℕ) → costs k ≡ penalty v (colors_of (with_mask v l (nth_mask v k) modules))) →
    IsFirstLeastCost costs (mask_count v) i → IsTrue (exists_in v (nth_mask v i)) → IsBestMask v l modules (nth_mask v i)
best_of_least v l modules costs i are first exists =
    let value : (j : MaskPattern) → IsTrue (exists_in v j) → costs (number_in v j) ≡ penalty v (colors_of (with_mask v l j modules)) =
    λ j h. are (number_in v j) ∙ ap (λ k. penalty v (colors_of (with_mask v l k modules))) (nth_of_number v j h) in
    record {
      exists = exists;
      least = λ j h. omega (arith, first.least (number_in v j) (number_lt v j h), are i, value j h);
      first = λ j h n.
          let before : number_in v j < i = omega (arith, number_order v j (nth_mask v i) h exists n, number_of_nth v i first.exists) in
          omega (arith, first.first (number_in v j) before, are i, value j h);
    }
