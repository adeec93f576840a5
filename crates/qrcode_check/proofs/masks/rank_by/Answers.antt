use Rattle.std.proofs.Common.{ℕ, ◌<◌, ◌∷◌, ◌++◌, [], List, length, map, ap, subst, ◌∙◌, arith}
use Rattle.std.proofs.lemmas.List.{take_all}
use Rattle.qrcode_layout.specs.Masks.{masks_of}
use Rattle.qrcode_layout.specs.declared.masks.MaskPattern.TheVariants.{Checkerboard}
use Rattle.qrcode_layout.specs.declared.masks.MaskPattern.{MaskPattern}
use Rattle.qrcode_symbol.specs.Penalties.{remasked}
use Rattle.qrcode_check.specs.Forms.{counted}
use Rattle.qrcode_check.specs.Masks.{IsRank}
use Rattle.qrcode_check.proofs.Penalties.{masks_more}
use Rattle.qrcode_check.proofs.masks.rank_by.Goals as goal

pub loop-number-preserved : goal.loop-number-preserved
loop-number-preserved c =
    let v = c.args.version in
    let i = c.loop-number.number in
    let one = λ (j : MaskPattern). counted c.args.by v (remasked v c.args.ec_level c.args.mask j c.args.modules.now) in
    let lt : i < length (masks_of v) = omega (arith, c.mask_count-number-end.ensures.value) in
    c.in_ok-push.ensures.items ∙ ap (λ (xs : List ℕ). xs ++ c.in_ok-one.one ∷ []) c.loop-number.invariant
    ∙ masks_more one (masks_of v) i c.in_ok-one.one Checkerboard lt (c.in_ok-one.ensures ∙ ap one c.nth_mask-other.ensures.value)

pub returns : goal.returns
returns c =
    let v = c.args.version in
    let f = λ (j : MaskPattern). counted c.args.by v (remasked v c.args.ec_level c.args.mask j c.args.modules.now) in
    let all = take_all c.loop-number.number (masks_of v) (omega (arith, c.mask_count-number-end.ensures.value)) in
    let numbers = c.deref.ensures.value ∙ c.loop-number.invariant ∙ ap (map f) all in
    subst (λ (p : ℕ). IsRank (map f (masks_of v)) p c.rank_at.result) c.place_of.ensures
    (subst (λ (ns : List ℕ). IsRank ns c.place_of.result c.rank_at.result) numbers c.rank_at.ensures)
