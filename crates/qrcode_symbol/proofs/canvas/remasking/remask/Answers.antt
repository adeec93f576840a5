use Rattle.std.proofs.Common.{◌≡◌, ◌≢◌, ℕ, ◌*◌, ◌<◌, ◌/◌, ◌%◌, List, map, length, get_or, arith, ap, sym, subst, ◌∙◌, below_more, get_or-set_other, get_or-set_same}
use Rattle.std.specs.List.{range_with_len}
use Rattle.std.proofs.lemmas.List.{ext_get_or}
use Rattle.std.proofs.lemmas.List.FromFn.{length-map-range_with_len, get_or-map-range_with_len}
use Rattle.qrcode_types.specs.Versions.{side}
use Rattle.qrcode_types.specs.declared.types.Version.{Version}
use Rattle.qrcode_types.specs.declared.types.EcLevel.{EcLevel}
use Rattle.qrcode_types.specs.declared.types.Color.{Color}
use Rattle.qrcode_types.specs.declared.types.Color.TheVariants.{Light}
use Rattle.qrcode_layout.specs.Words.{format_word}
use Rattle.qrcode_layout.specs.declared.masks.MaskPattern.{MaskPattern}
use Rattle.qrcode_symbol.specs.Penalties.{remasked_at, remasked}
use Rattle.qrcode_symbol.specs.Symbol.{IsSymbol}
use Rattle.qrcode_symbol.proofs.Remasked.{is_symbol}
use Rattle.qrcode_symbol.proofs.canvas.remasking.remask.Goals as goal

-- each colour is computed from the old one
all_remasked : (v : Version) (l : EcLevel) (k j : MaskPattern) (s new : List Color) (w word : ℕ) → w ≡ side v → word ≡ format_word v l j → length new ≡ side v * side v
    → ((i : ℕ) → i < w * w → get_or new i Light ≡ remasked_at v word k j (i % w) (i / w) (get_or s i Light)) → new ≡ remasked v l k j s
unfolding remasked
all_remasked v l k j s new w word e f square each =
    let at = λ (i : ℕ). remasked_at v (format_word v l j) k j (i % side v) (i / side v) (get_or s i Light) in
    let here : (i : ℕ) → i < side v * side v → get_or new i Light ≡ at i =
    subst (λ (n : ℕ). (i : ℕ) → i < n * n → get_or new i Light ≡ remasked_at v (format_word v l j) k j (i % n) (i / n) (get_or s i Light)) e
    (subst (λ (n : ℕ). (i : ℕ) → i < w * w → get_or new i Light ≡ remasked_at v n k j (i % w) (i / w) (get_or s i Light)) f each) in
    ext_get_or Light new (map at (range_with_len 0 (side v * side v))) (square ∙ sym (length-map-range_with_len at 0 (side v * side v)))
    (λ i h.
    let lt : i < side v * side v = omega arith in
    here i lt ∙ sym (get_or-map-range_with_len at 0 (side v * side v) i i Light lt (omega arith)))

pub loop-i-preserved : goal.loop-i-preserved
loop-i-preserved c =
    let i = c.loop-i.i in
    let w = c.side-width.result in
    let lt : i < length c.loop-i.modules = omega (arith, ap (λ (n : ℕ). n * n) c.side-width.ensures.value) in
    record {
      done = below_more _ _
          (λ k h. let ne : k ≢ i = omega arith in rw get_or-set_other (c.loop-i.invariant.done k h))
          (rw get_or-set_same
          (c.remasked_at.ensures
          ∙ ap (λ (m : Color). remasked_at c.args.version c.format_word.result c.args.old c.args.mask (i % w) (i / w) m) (c.loop-i.invariant.rest i (omega arith))));
      rest = λ k h. let ne : k ≢ i = omega arith in rw get_or-set_other (c.loop-i.invariant.rest k (omega arith));
    }

pub returns-clause-value : goal.returns-clause-value
returns-clause-value c =
    all_remasked c.args.version c.args.ec_level c.args.old c.args.mask c.args.modules.now c.loop-i.modules c.side-width.result c.format_word.result
    c.side-width.ensures.value c.format_word.ensures (c.loop-i.auto.modules ∙ c.requires.square) (λ i h. c.loop-i.invariant.done i (omega arith))

pub returns-clause-symbol : goal.returns-clause-symbol
returns-clause-symbol c = λ bits symbol.
    subst (IsSymbol c.args.version c.args.ec_level bits c.args.mask) (sym (returns-clause-value c))
    (is_symbol c.args.version c.args.ec_level c.args.old c.args.mask c.args.modules.now bits c.requires.exists symbol)
