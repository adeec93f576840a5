use Rattle.std.proofs.Common.{◌≡◌, ◌+◌, ◌*◌, [], ◌∷◌, ◌++◌, map, sym, ap, ◌∙◌, arith}
use Rattle.std.specs.List.{range_with_len}
use Rattle.std.proofs.lemmas.List.{map-append}
use Rattle.std.proofs.lemmas.List.FromFn.{map-range_with_len_more}
use Rattle.qrcode_png.specs.Image.{rgba}
use Rattle.goqlanis_request.specs.Overlays.{cross_shade}
use Rattle.goqlanis_request.proofs.overlays.cross_pixels.Goals as goal

pub loop-i-preserved : goal.loop-i-preserved
loop-i-preserved c =
    let i = c.loop-i.i in
    ap (map rgba) c.in_ok-push.ensures.items ∙ map-append rgba c.loop-i.pixels.items (c.cross_pixel.result ∷ [])
    ∙ ap (λ l. l ++ rgba c.cross_pixel.result ∷ []) c.loop-i.invariant
    ∙ ap (λ s. map cross_shade (range_with_len 0 i) ++ s ∷ []) c.cross_pixel.ensures
    ∙ sym (map-range_with_len_more cross_shade 0 i i (let z : 0 + i ≡ i = omega arith in z))

pub returns : goal.returns
returns c =
    let all : c.loop-i.i ≡ 252 * 252 = omega (arith, c.loop-i-test.false, c.loop-i.auto.i-end) in
    c.loop-i.invariant ∙ ap (λ n. map cross_shade (range_with_len 0 n)) all
