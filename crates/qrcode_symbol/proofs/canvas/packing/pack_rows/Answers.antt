use Rattle.std.proofs.Common.{◌≡◌, length, ◌+◌, ◌-◌, ◌*◌, take, drop, map, ap, ◌∙◌, arith}
use Rattle.std.proofs.lemmas.List.{length-map}
use Rattle.qrcode_symbol.specs.Masking.{is_dark_module, is_free, packed}
use Rattle.qrcode_penalty.proofs.RowLists.{rows_more}
use Rattle.qrcode_symbol.proofs.RowLists.{shows_packed, fits_packed, modules_of_row}
use Rattle.qrcode_symbol.proofs.canvas.packing.pack_rows.Goals as goal

pub loop-y-preserved : goal.loop-y-preserved
loop-y-preserved g c =
    let bits = g.R.PackedRow.bits in
    let w = c.args.width in
    let y = c.loop-y.y in
    let modules = c.args.modules.now in
    let row : take ((y + 1) * w - y * w) (drop (y * w) modules) ≡ modules_of_row w modules y = let e : (y + 1) * w - y * w ≡ w = omega arith in ap (λ n. take n (drop (y * w) modules)) e in
    record {
      dark = rows_more bits (λ k n. n ≡ packed is_dark_module (modules_of_row w modules k)) c.loop-y.dark y c.pack_row-packed.result.0 (omega arith) c.loop-y.invariant.dark (c.pack_row-packed.ensures.dark ∙ ap (packed is_dark_module) row);
      free = rows_more bits (λ k n. n ≡ packed is_free (modules_of_row w modules k)) c.loop-y.free y c.pack_row-packed.result.1 (omega arith) c.loop-y.invariant.free (c.pack_row-packed.ensures.free ∙ ap (packed is_free) row);
    }

pub returns-clause-dark : goal.returns-clause-dark
returns-clause-dark g c = shows_packed is_dark_module c.args.modules.now c.args.width c.requires.square (map g.R.PackedRow.bits c.loop-y.dark) (λ y h. c.loop-y.invariant.dark y (omega arith))

pub returns-clause-free : goal.returns-clause-free
returns-clause-free g c = shows_packed is_free c.args.modules.now c.args.width c.requires.square (map g.R.PackedRow.bits c.loop-y.free) (λ y h. c.loop-y.invariant.free y (omega arith))

pub returns-clause-dark_square : goal.returns-clause-dark_square
returns-clause-dark_square g c =
    let rows = map g.R.PackedRow.bits c.loop-y.dark in
    let size : length rows ≡ c.args.width = length-map c.loop-y.dark g.R.PackedRow.bits ∙ omega arith in
    record {
      at_least = c.requires.at_least;
      spare = c.requires.room;
      length = size;
      fits = fits_packed is_dark_module c.args.modules.now c.args.width c.requires.square rows (λ y h. c.loop-y.invariant.dark y (omega arith)) size;
    }

pub returns-clause-free_square : goal.returns-clause-free_square
returns-clause-free_square g c =
    let rows = map g.R.PackedRow.bits c.loop-y.free in
    let size : length rows ≡ c.args.width = length-map c.loop-y.free g.R.PackedRow.bits ∙ omega arith in
    record {
      at_least = c.requires.at_least;
      spare = c.requires.room;
      length = size;
      fits = fits_packed is_free c.args.modules.now c.args.width c.requires.square rows (λ y h. c.loop-y.invariant.free y (omega arith)) size;
    }
