use Rattle.std.proofs.Common.{◌≡◌, ◌*◌, ◌/◌, ◌<◌, ◌++◌, ◌∷◌, [], ℕ, List, length, get_or, ap, ap₂, sym, ◌∙◌, arith}
use Rattle.std.proofs.Math.Nat.{div-lt_iff_lt-mul}
use Rattle.qrcode_types.specs.declared.types.Color.{Color}
use Rattle.qrcode_types.specs.declared.types.Color.TheVariants.{Light}
use Rattle.qrcode_damage.specs.Errors.{is_wrong, opposite_if, flipped}
use Rattle.qrcode_damage.proofs.Flipped.{none_flipped, flipped_more}
use Rattle.qrcode_damage.proofs.errors.flipped.Goals as goal

pub is_wrong-wrong-requires-clause-row : goal.is_wrong-wrong-requires-clause-row
is_wrong-wrong-requires-clause-row c =
    let w = c.side-width.result in
    let i = c.loop-i.i in
    let square : length c.args.modules.now ≡ w * w = c.requires.square ∙ ap (λ n. n * n) (sym c.side-width.ensures.value) in
    let row : i / w < w = (div-lt_iff_lt-mul {k = w} {x = i} {y = w} (omega arith)).1 (omega (arith, square)) in
    omega (arith, row, c.side-width.ensures.value)

pub loop-i-init : goal.loop-i-init
loop-i-init c = c.new-colors.ensures.items ∙ sym (none_flipped c.side-width.result (is_wrong c.args.version c.args.errors.now) c.args.modules.now)

pub loop-i-preserved : goal.loop-i-preserved
loop-i-preserved c =
    let i = c.loop-i.i in
    let s = c.args.modules.now in
    c.in_ok-push.ensures.items
    ∙ ap (λ (xs : List Color). xs ++ c.opposite_if.result ∷ []) c.loop-i.invariant
    ∙ flipped_more c.side-width.result (is_wrong c.args.version c.args.errors.now) s i c.opposite_if.result
    (c.opposite_if.ensures ∙ ap (λ b. opposite_if b (get_or s i Light)) c.is_wrong-wrong.ensures)

pub returns : goal.returns
returns c =
    let all : c.loop-i.i ≡ length c.args.modules.now = omega arith in
    c.loop-i.invariant ∙ ap₂ (λ (w n : ℕ). flipped w (is_wrong c.args.version c.args.errors.now) c.args.modules.now n) c.side-width.ensures.value all
