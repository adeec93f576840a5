use Rattle.std.proofs.Common.{◌≡◌, List, ap, subst, sym, ◌∙◌, arith, map}
use Rattle.std.proofs.lemmas.List.{take_at}
use Rattle.qrcode_penalty.specs.Rows.{PackedRows, Shows}
use Rattle.qrcode_layout.specs.Words.{format_word}
use Rattle.qrcode_symbol.specs.declared.canvas.Module.{Module}
use Rattle.qrcode_symbol.specs.Masking.{is_dark_module, is_free, masked_dark, ShowsModules}
use Rattle.qrcode_symbol.proofs.BestMasks.{best_shown}
use Rattle.qrcode_symbol.proofs.canvas.masking.best_by.Goals as goal

pub returns-clause-best : goal.returns-clause-best
returns-clause-best g c =
    let bits = g.R.PackedRow.bits in
    let v = c.args.version in
    let l = c.args.ec_level in
    let w = c.side-width.result in
    let modules = c.args.modules.items in
    let whole : c.deref.result.now ≡ modules = c.deref.ensures.value in
    let dark = c.pack_rows.new.dark in
    let free = c.pack_rows.new.free in
    let dark_rows : c.new.result.rows ≡ map bits dark = ap (λ (s : PackedRows). s.rows) c.new.ensures ∙ ap (map bits) (c.deref-2.ensures.value ∙ take_at dark _ _ (omega arith)) in
    let free_rows : c.new-2.result.rows ≡ map bits free = ap (λ (s : PackedRows). s.rows) c.new-2.ensures ∙ ap (map bits) (c.deref-3.ensures.value ∙ take_at free _ _ (omega arith)) in
    let darks = subst (λ (ms : List Module). ShowsModules is_dark_module w ms (map bits dark)) whole c.pack_rows.ensures.dark in
    let frees = subst (λ (ms : List Module). ShowsModules is_free w ms (map bits free)) whole c.pack_rows.ensures.free in
    let mask = c.nth_mask.result in
    let rows : c.deref-4.result.now ≡ c.mask_rows.new.masked = c.deref-4.ensures.value ∙ take_at c.mask_rows.new.masked _ _ (omega arith) in
    let shows = subst (λ rs. Shows w (map bits rs) (masked_dark v (format_word v l mask) mask c.new.result.rows c.new-2.result.rows)) (sym rows) c.mask_rows.ensures.shown in
    best_shown v l modules c.unpack_rows.new.colors.items c.new.result.rows c.new-2.result.rows (map bits c.deref-4.result.now) c.least_mask-best.result w mask c.side-width.ensures.value c.nth_mask.ensures.value
    (subst (ShowsModules is_dark_module w modules) (sym dark_rows) darks) (subst (ShowsModules is_free w modules) (sym free_rows) frees)
    c.least_mask-best.ensures c.nth_mask.ensures.exists shows c.in_ok-unpack_rows.ensures.length c.in_ok-unpack_rows.ensures.shown
