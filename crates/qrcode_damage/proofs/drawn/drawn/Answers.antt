use Rattle.std.proofs.Common.{◌≡◌, ◌-◌, ◌%◌, ◌++◌, ℕ, List, length, slice_index, subst, sym, ap₂, ◌∙◌, arith}
use Rattle.std.proofs.lemmas.List.{take-append-drop}
use Rattle.std.proofs.lemmas.Result.{IfOk-weaker}
use Rattle.qrcode_layout.specs.Masks.{nth_mask}
use Rattle.qrcode_layout.specs.declared.masks.MaskPattern.{MaskPattern}
use Rattle.qrcode_symbol.specs.Canvas.{colors_of}
use Rattle.qrcode_symbol.specs.Symbol.{Carries}
use Rattle.qrcode_damage.proofs.Carried.{drawn_is}
use Rattle.qrcode_damage.proofs.Places.{high_front}
use Rattle.qrcode_damage.proofs.drawn.drawn.Goals as goal

pub returns : goal.returns
returns c =
    let v = c.args.version in
    let l = c.args.ec_level in
    let k = c.nth_mask.result in
    let words = c.args.words.now in
    let front_words = c.split_at.result.0.now in
    let ec = c.split_at.result.1.now in
    let long = c.data_length-data_length.ensures.of_version v l c.blocks_of.ensures in
    let front : length front_words ≡ c.data_length-data_length.result = c.split_at.ensures.front_len in
    let whole : front_words ++ ec ≡ words = ap₂ (λ (xs ys : List ℕ). xs ++ ys) c.split_at.ensures.front c.split_at.ensures.back ∙ take-append-drop c.data_length-data_length.result words in
    IfOk-weaker c.into_colors.result (λ colors. colors.items ≡ colors_of c.apply_mask.new.self.modules) (λ colors. Carries v l words (nth_mask v 0) colors.items)
    (λ colors shown.
    subst (λ (m : MaskPattern). Carries v l words m colors.items) c.nth_mask.ensures.value
    (drawn_is v l k words front_words ec c.in_ok-canvas.canvas c.draw_all_functional_patterns.new.self c.draw_data.new.self c.apply_mask.new.self colors.items
    c.in_ok-canvas.ensures.value c.draw_all_functional_patterns.ensures.after c.draw_data.ensures.after c.draw_data.ensures.carries c.apply_mask.ensures.after shown
    c.requires.exists c.nth_mask.ensures.exists whole (omega (arith, front, long)) (omega (arith, front, long, c.split_at.ensures.back_len, c.requires.length))
    (λ half. subst (λ (xs : List ℕ). slice_index xs (length xs - 1) % 16 ≡ 0) (sym c.split_at.ensures.front) (high_front c.data_length-data_length.result words (c.requires.half half) _))))
    c.into_colors.ensures.value
