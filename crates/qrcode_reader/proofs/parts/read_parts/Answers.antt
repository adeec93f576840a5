use Rattle.std.proofs.lemmas.Result.{err_from_is_err_and}
use Rattle.qrcode_reader.proofs.PartsRead.{parts_reading, unparted}
use Rattle.qrcode_reader.proofs.parts.read_parts.Goals as goal

pub returns-in_err-parts-clause-causes : goal.returns-in_err-parts-clause-causes
returns-in_err-parts-clause-causes c =
    let r = c.in_ok-read.read in
    let p = err_from_is_err_and c.from_residual-in_err-parts.result c.from_residual-in_err-parts.ensures.1 in
    rw (p.1, p.2) (unparted c.args.modules.now r.version r.ec_level r.bits.items c.deref.result.now _ c.in_ok-read.ensures.value.only c.deref.ensures.value c.in_err-parts.ensures.causes)

pub returns-clause-value : goal.returns-clause-value
returns-clause-value c =
    let r = c.in_ok-read.read in
    parts_reading c.args.modules.now r.version r.ec_level r.mask r.bits.items c.deref.result.now _ _ r.wrong.items c.in_ok-read.ensures.value c.deref.ensures.value c.in_ok-parts.ensures.value c.in_ok-parts.ensures.only
