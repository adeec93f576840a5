-- A drawing has one picture, in the formats whose definition is a text or bytes.
use Rattle.std.proofs.Common.{◌≡◌, ◌≢◌, ℕ, suc, ◌/◌, ◌%◌, ◌&&◌, List, [], ◌∷◌, ◌++◌, length, map, drop, get_or, refl, sym, ap, ap₂, ◌∙◌, arith}
use Rattle.std.specs.List.{range_with_len}
use Rattle.std.specs.Prelude.{◌==◌, slice_index_or}
use Rattle.qrcode_types.specs.Colors.{color_of}
use Rattle.qrcode_types.specs.Versions.{side}
use Rattle.qrcode_types.specs.declared.types.Color.{Color}
use Rattle.qrcode_types.specs.declared.types.Color.TheVariants.{Light}
use Rattle.qrcode_render.specs.Drawn.{drawn}
use Rattle.qrcode_sheets.specs.Eps.{eps_paint, eps_rect}
use Rattle.qrcode_sheets.specs.Drawn.{eps_text, IsSheetFile}
use Rattle.qrcode_sheets.specs.Layers.{is_tone, layer, order, shapes_in, unit_layout, AreLayers, AreOver}
use Rattle.qrcode_sheets.specs.Parts.{part_of}
use Rattle.qrcode_sheets.specs.Sheets.{Sheet, eps_ink}
use Rattle.qrcode_sheets.specs.declared.layers.PartInk.{PartInk}
use Rattle.goqlanis_buffers.specs.Drawings.{sheet, IsPictureIn}
use Rattle.goqlanis_buffers.specs.Tints.{ink_paint, Paint}
use Rattle.goqlanis_buffers.specs.declared.pictures.Drawing.{Drawing}
use Rattle.qrcode_sheets.specs.declared.formats.Format.{Format}
use Rattle.qrcode_sheets.specs.declared.formats.Format.TheVariants.{Png, SvgPath, Eps, Pdf, Zpl}

-- a layer depends on the modules, and on which of them get its colour
layer_alike : (t : Sheet) (us ws : List PartInk) (j k : PartInk) → ink_paint j ≡ ink_paint k
    → layer (record t { parts = us }) j ≡ layer (record t { parts = ws }) k
unfolding layer
layer_alike t us ws j k same =
    ap (λ (p : Paint). map (λ i. color_of (is_tone p.tone (slice_index_or t.modules i Light) && order p.part == order (part_of t.version (i % side t.version) (i / side t.version)))) (range_with_len 0 (length t.modules))) same

-- the same colours of parts have one text in EPS
layers_alike : (t : Sheet) (us ws js ks : List PartInk) (a b : List ℕ) → map ink_paint js ≡ map ink_paint ks
    → AreLayers Eps (record t { parts = us }) js a → AreLayers Eps (record t { parts = ws }) ks b → a ≡ b
layers_alike t us ws [] [] a b same x y = x ∙ sym y
layers_alike t us ws [] (k ∷ ks) a b same x y = let none : [] ≡ ink_paint k ∷ map ink_paint ks = same in absurd cc
layers_alike t us ws (j ∷ js) [] a b same x y = let none : ink_paint j ∷ map ink_paint js ≡ [] = same in absurd cc
layers_alike t us ws (j ∷ js) (k ∷ ks) a b same x y =
    let first : ink_paint j ≡ ink_paint k = ap (λ (l : List Paint). get_or l 0 (ink_paint j)) same in
    let rest : map ink_paint js ≡ map ink_paint ks = ap (λ (l : List Paint). drop 1 l) same in
    let text : x.0 ≡ y.0 = x.1.0 ∙ ap₂ (λ (l : List Color) (p : Paint). drawn eps_rect (unit_layout Eps t.at) l (eps_paint (eps_ink p.shade))) (layer_alike t us ws j k first) first ∙ sym y.1.0 in
    x.1.1.1.1 ∙ ap₂ (λ k l. k ++ l) text (layers_alike t us ws js ks x.1.1.0 y.1.1.0 rest x.1.1.1.0 y.1.1.1.0) ∙ sym y.1.1.1.1

over_alike : (t : Sheet) (us ws : List PartInk) (a b : List ℕ) → map ink_paint us ≡ map ink_paint ws
    → AreOver Eps (record t { parts = us }) a → AreOver Eps (record t { parts = ws }) b → a ≡ b
over_alike t us ws a b same x y = x.1.1 ∙ ap (λ l. l ++ shapes_in t.over) (layers_alike t us ws us ws x.0 y.0 same x.1.0 y.1.0) ∙ sym y.1.1

-- a drawing with the same colours of parts has one picture
alike : (f : Format) (t : Sheet) (us ws : List PartInk) (a b : List ℕ) → map ink_paint us ≡ map ink_paint ws → f ≢ Png → f ≢ SvgPath → f ≢ Pdf → f ≢ Zpl
    → IsSheetFile f (record t { parts = us }) a → IsSheetFile f (record t { parts = ws }) b → a ≡ b
alike Eps t us ws a b same no_png no_path no_pdf no_zpl x y = x.1.1 ∙ ap (eps_text t) (over_alike t us ws x.0 y.0 same x.1.0 y.1.0) ∙ sym y.1.1
alike Png t us ws a b same no_png no_path no_pdf no_zpl x y = absurd (no_png refl)
alike SvgPath t us ws a b same no_png no_path no_pdf no_zpl x y = absurd (no_path refl)
alike Zpl t us ws a b same no_png no_path no_pdf no_zpl x y = absurd (no_zpl refl)
alike Pdf t us ws a b same no_png no_path no_pdf no_zpl x y = absurd (no_pdf refl)
alike f t us ws a b same no_png no_path no_pdf no_zpl x y = x ∙ sym y

pub one_picture : (f : Format) (t : Sheet) (a b : List ℕ) → f ≢ Png → f ≢ SvgPath → f ≢ Pdf → f ≢ Zpl → IsSheetFile f t a → IsSheetFile f t b → a ≡ b
one_picture f t a b no_png no_path no_pdf no_zpl x y = alike f t t.parts t.parts a b refl no_png no_path no_pdf no_zpl x y

-- what C asks for has one picture
pub one_answer : (f : Format) (modules : List ℕ) (width : ℕ) (d : Drawing) (a b : List ℕ) → f ≢ Png → f ≢ SvgPath → f ≢ Pdf → f ≢ Zpl
    → IsPictureIn f modules width d a → IsPictureIn f modules width d b → a ≡ b
one_answer f modules width d a b no_png no_path no_pdf no_zpl x y =
    alike f (sheet f modules width d []) x.inks y.inks a b (x.own ∙ sym y.own) no_png no_path no_pdf no_zpl x.shown y.shown
