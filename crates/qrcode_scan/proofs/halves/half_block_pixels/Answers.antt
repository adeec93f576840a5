use Rattle.std.proofs.Common.{◌≡◌, ◌*◌, ◌/◌, [], List, Bool, length, sym, subst, arith, rules}
use Rattle.qrcode_scan.specs.Halves.{rows_from, without_last}
use Rattle.qrcode_scan.proofs.HalfBlocks.{text_rows}
use Rattle.qrcode_scan.proofs.halves.half_block_pixels.Goals as goal

pub new-requires-clause-length : goal.new-requires-clause-length
new-requires-clause-length c =
    let across = c.width-across.result in
    let halves = c.in_ok-halves.halves.items in
    let marks = c.square_rows-marks.result.items in
    let is : marks ≡ without_last across (rows_from across [] [] halves) = search rules in
    let whole : length marks ≡ across * (length marks / across) =
    subst (λ (ms : List Bool). length ms ≡ across * (length ms / across)) (sym is) (text_rows across halves (omega arith))
    in
    search (whole, rules)
