use Rattle.std.proofs.Common.{◌≡◌, ℕ, ◌*◌, ◌+◌, ◌++◌, ◌∷◌, [], List, map, slice_index_or, sym, ap, ap₂, ◌∙◌, arith}
use Rattle.std.specs.List.{range_with_len}
use Rattle.std.proofs.lemmas.List.FromFn.{map-range_with_len_more}
use Rattle.qrcode_types.specs.declared.types.Color.{Color}
use Rattle.qrcode_types.specs.declared.types.Color.TheVariants.{Light}
use Rattle.qrcode_reader.specs.Positions.{seen, seen_at, seen_color}
use Rattle.qrcode_reader.proofs.positions.seen.Goals as goal

pub loop-i-preserved : goal.loop-i-preserved
loop-i-preserved c =
    let w = c.args.side in
    let s = c.args.modules.now in
    let at = seen_at w c.args.position c.args.is_inverted s in
    let i = c.loop-i.i in
    c.in_ok-push.ensures.items
    ∙ ap₂ (λ (xs : List Color) (x : Color). xs ++ x ∷ []) c.loop-i.invariant
    (c.seen_color.ensures ∙ ap (λ (p : ℕ × ℕ). seen_color c.args.is_inverted (slice_index_or s (p.1 * w + p.0) Light)) c.place_in_square-column.ensures.value)
    ∙ sym (map-range_with_len_more at 0 i i (omega arith))

pub returns : goal.returns
unfolding seen
returns c =
    let w = c.args.side in
    let all : c.loop-i.i ≡ w * w = omega arith in
    c.loop-i.invariant ∙ ap (λ n. map (seen_at w c.args.position c.args.is_inverted c.args.modules.now) (range_with_len 0 n)) all
