use Rattle.std.proofs.Common.{◌≡◌, ◌++◌, ◌∷◌, ◌/◌, ◌%◌, [], List, ℕ, ap, length, map, slice_index_or, ◌∙◌, arith}
use Rattle.std.proofs.lemmas.List.{map-append}
use Rattle.qrcode_png.specs.Image.{Shade as Pixel, rgba}
use Rattle.qrcode_render.specs.Layout.{pixels_across}
use Rattle.qrcode_sheets.specs.Layers.{pixel_bytes, pixel_in, pixel_shade}
use Rattle.qrcode_sheets.specs.Pasted.{shade_with}
use Rattle.qrcode_sheets.specs.Sheets.{light_shade, shade_bytes, sheet_of}
use Rattle.qrcode_sheets.proofs.Layered.{one_more, length_modules, pixel_is, pixels_whole}
use Rattle.qrcode_sheets.proofs.shades.pixels.Goals as goal

pub pixel-own-requires : goal.pixel-own-requires
pixel-own-requires c = ap length (c.deref.ensures.value ∙ c.in_ok-modules.ensures) ∙ length_modules (sheet_of c.args.sheet.now)

pub loop-index-preserved : goal.loop-index-preserved
loop-index-preserved c =
    let t = sheet_of c.args.sheet.now in
    let i = c.loop-index.index in
    let x = i % pixels_across t.at in
    let y = i / pixels_across t.at in
    let own : c.pixel-own.result ≡ pixel_bytes t i =
    c.pixel-own.ensures
    ∙ ap (λ (m : List (List ℕ)). pixel_in t.at (λ i. slice_index_or m i []) (shade_bytes (light_shade t)) x y) (c.deref.ensures.value ∙ c.in_ok-modules.ensures)
    ∙ pixel_is t x y c.args.sheet.now.square in
    let pixel = c.with_inset.result in
    let shows : rgba pixel ≡ pixel_shade t i = c.with_inset.ensures ∙ ap (λ (o : List ℕ). shade_with t.at t.over x y (rgba o)) own in
    ap (map rgba) c.in_ok-push.ensures.items ∙ map-append rgba c.loop-index.pixels.items (pixel ∷ [])
    ∙ ap (λ (l : List Pixel). l ++ rgba pixel ∷ []) c.loop-index.invariant
    ∙ one_more (pixel_shade t) i (rgba pixel) shows

pub returns : goal.returns
returns c = c.loop-index.invariant ∙ pixels_whole (sheet_of c.args.sheet.now) c.loop-index.index _ (omega arith)
