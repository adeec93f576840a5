use Rattle.std.proofs.Common.{◌+◌, arith}
use Rattle.qrcode_append.proofs.Borders.{begin_ascends, begin_most}
use Rattle.qrcode_append.proofs.division.part.Goals as goal

pub slice_bounds-result-count : goal.slice_bounds-result-count
slice_bounds-result-count c =
    omega (arith, c.part_begin-begin.ensures, c.part_begin-end.ensures, begin_ascends c.args.manner c.args.bytes.now c.args.count c.args.place (c.args.place + 1) (omega arith) (omega arith))

pub slice_bounds-result-start : goal.slice_bounds-result-start
slice_bounds-result-start c =
    omega (arith, c.part_begin-begin.ensures, c.part_begin-end.ensures, begin_ascends c.args.manner c.args.bytes.now c.args.count c.args.place (c.args.place + 1) (omega arith) (omega arith))

pub slice_bounds-result-end : goal.slice_bounds-result-end
slice_bounds-result-end c =
    omega (
      arith,
      c.part_begin-begin.ensures,
      c.part_begin-end.ensures,
      begin_ascends c.args.manner c.args.bytes.now c.args.count c.args.place (c.args.place + 1) (omega arith) (omega arith),
      begin_most c.args.manner c.args.bytes.now c.args.count (c.args.place + 1) (omega arith) (omega arith),
    )
