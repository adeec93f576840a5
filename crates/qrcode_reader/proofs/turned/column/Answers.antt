use Rattle.std.proofs.Common.{rules, arith, ◌<◌, ◌≢◌, ◌≡◌, ◌≤ℤ◌, nat_abs, subst, ℕ, Bool, ℤ, pos, to_z, of_z, w16, length, sym, ap₂, ◌∙◌, below_more, get_or-set_other, get_or-set_same, length-set}
use Rattle.qrcode_layout.specs.Masks.{turns}
use Rattle.qrcode_layout.specs.declared.masks.MaskPattern.{MaskPattern}
use Rattle.qrcode_reader.proofs.Walked.{signed}
use Rattle.qrcode_reader.proofs.turned.column.Goals as goal

above : (x : ℕ) → pos 0 ≤ℤ pos x
above x = search rules

turned_at : (mask : MaskPattern) (r : Bool) (a b : ℤ) (x y : ℕ) → a ≡ pos x → b ≡ pos y → (pos 0 ≤ℤ a → pos 0 ≤ℤ b → r ≡ turns mask (nat_abs a) (nat_abs b)) → r ≡ turns mask x y
turned_at mask r a b x y ea eb h =
    h (subst (λ (u : ℤ). pos 0 ≤ℤ u) (sym ea) (above x)) (subst (λ (u : ℤ). pos 0 ≤ℤ u) (sym eb) (above y))
    ∙ ap₂ (λ (u w : ℤ). turns mask (nat_abs u) (nat_abs w)) ea eb

pub loop-y-preserved : goal.loop-y-preserved
loop-y-preserved c =
    let a = c.coordinate.result in
    let b = c.coordinate-in-loop-y.result in
    let turned = turned_at c.args.mask c.turns.result (to_z w16 (of_z w16 a)) (to_z w16 (of_z w16 b)) c.args.x c.loop-y.y (signed a c.args.x c.coordinate.ensures c.coordinate.type_inv) (signed b c.loop-y.y c.coordinate-in-loop-y.ensures c.coordinate-in-loop-y.type_inv) c.turns.ensures.inside in
    record {
      long = length-set _ _ _ ∙ c.loop-y.invariant.long;
      each = below_more _ _
          (λ k h. let ne : k ≢ c.loop-y.y = omega arith in rw get_or-set_other (c.loop-y.invariant.each k h))
          (let lt : c.loop-y.y < length c.loop-y.rows = omega (arith, c.loop-y.invariant.long, c.requires.at_most) in rw get_or-set_same turned);
    }

pub returns : goal.returns
returns c = λ y h. c.loop-y.invariant.each y (omega (arith, h))
