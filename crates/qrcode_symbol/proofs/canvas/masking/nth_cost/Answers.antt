use Rattle.std.proofs.Common.{ℕ, Bool, ap, sym, subst, ◌∙◌}
use Rattle.qrcode_layout.specs.Words.{format_word}
use Rattle.qrcode_penalty.specs.Rows.{PackedRows, Shows, inside}
use Rattle.qrcode_layout.specs.declared.masks.MaskPattern.{MaskPattern}
use Rattle.qrcode_symbol.specs.Masking.{nth_cost, masked_dark}
use Rattle.qrcode_symbol.specs.Penalties.{penalty_of}
use Rattle.qrcode_symbol.proofs.canvas.masking.nth_cost.Goals as goal

pub square_penalty-requires : goal.square_penalty-requires
square_penalty-requires g c = ap (λ (s : PackedRows). s.width) c.new-square.ensures ∙ c.args.modules.now.side

pub returns-clause-value : goal.returns-clause-value
unfolding nth_cost
returns-clause-value g c =
    let m = c.args.modules.now in
    let v = m.version in
    let masked : MaskPattern → ℕ → ℕ → Bool = λ k. masked_dark v (format_word v m.ec_level k) k m.dark.rows m.free.rows in
    let mask = c.nth_mask.result in
    c.square_penalty.ensures.shown (masked mask) (subst (λ (s : PackedRows). Shows s.width s.rows (masked mask)) (sym c.new-square.ensures) c.mask_rows.ensures.shown)
    ∙ ap (λ (s : PackedRows). penalty_of v (inside s.width (masked mask))) c.new-square.ensures
    ∙ ap (λ (k : MaskPattern). penalty_of v (inside m.width (masked k))) c.nth_mask.ensures.value
