use Rattle.std.proofs.Common.{subst, sym, arith}
use Rattle.qrcode_layout.proofs.MaskLists.{number_in, number_lt, nth_of_number}
use Rattle.qrcode_reader.specs.Formats.{NamesFormat}
use Rattle.qrcode_reader.proofs.formats.mask_near.Goals as goal

pub returns-clause-none : goal.returns-clause-none
returns-clause-none c = λ mask named.
    c.loop-number.invariant (number_in c.args.version mask) (omega (arith, number_lt c.args.version mask named.mask_exists, c.mask_count-number-end.ensures.value))
    (subst (NamesFormat c.args.version c.args.first.now c.args.last.now c.args.ec_level) (sym (nth_of_number c.args.version mask named.mask_exists)) named)
