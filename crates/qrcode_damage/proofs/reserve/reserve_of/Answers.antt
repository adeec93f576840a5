use Rattle.qrcode_damage.specs.Areas.{covers}
use Rattle.qrcode_damage.proofs.Bounds.{is_code_reserve, reads_beside}
use Rattle.qrcode_damage.proofs.reserve.reserve_of.Goals as goal

pub returns-clause-value : goal.returns-clause-value
returns-clause-value c =
    let z = c.args.code.now in
    is_code_reserve c.version.result z.version c.error_correction_level.result z.level (covers c.args.area.now) c.reserve_in.result c.version.ensures.value c.error_correction_level.ensures c.reserve_in.ensures

pub returns-clause-read : goal.returns-clause-read
returns-clause-read c =
    let z = c.args.code.now in
    reads_beside z.version z.level z.modules (covers c.args.area.now) c.reserve_in.result
    (is_code_reserve c.version.result z.version c.error_correction_level.result z.level (covers c.args.area.now) c.reserve_in.result c.version.ensures.value c.error_correction_level.ensures c.reserve_in.ensures)
