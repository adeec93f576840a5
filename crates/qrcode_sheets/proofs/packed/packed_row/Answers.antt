use Rattle.std.proofs.Common.{◌≡◌, ◌+◌, ◌*◌, ◌/◌, [], ◌∷◌, ◌++◌, length, map, ap, ap₂, ◌∙◌, arith, if◌then◌else◌}
use Rattle.std.specs.List.{range_with_len}
use Rattle.std.proofs.lemmas.List.{length-map}
use Rattle.qrcode_sheets.specs.Files.{inked, black_bits_from, black_bytes}
use Rattle.qrcode_render.specs.Grid.{each}
use Rattle.qrcode_render.proofs.Grids.{length-each}
use Rattle.qrcode_sheets.proofs.PackedBits.{bytes_more}
use Rattle.qrcode_sheets.proofs.packed.packed_row.Goals as goal

pub loop-i-preserved : goal.loop-i-preserved
loop-i-preserved c =
    let blacks = inked c.args.marked c.args.other (each c.args.across c.args.marks.now) in
    c.in_ok-push.ensures.items ∙ ap₂ (λ xs b. xs ++ b ∷ []) c.loop-i.invariant c.packed_byte.ensures ∙ bytes_more blacks c.loop-i.i

pub returns-clause-value : goal.returns-clause-value
unfolding black_bytes
returns-clause-value c =
    let pixels = each c.args.across c.args.marks.now in
    let blacks = inked c.args.marked c.args.other pixels in
    let some : length blacks ≡ length c.args.marks.now * c.args.across = length-map pixels (λ m. if m then c.args.marked else c.args.other) ∙ length-each c.args.across c.args.marks.now in
    let end : c.loop-i.i ≡ (length blacks + 7) / 8 = omega (arith, some) in
    c.loop-i.invariant ∙ ap (λ n. map (λ k. black_bits_from blacks (8 * k) 8) (range_with_len 0 n)) end
