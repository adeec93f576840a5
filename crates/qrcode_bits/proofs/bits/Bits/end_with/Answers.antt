use Rattle.std.proofs.Common.{◌≡◌, length, arith}
use Rattle.qrcode_types.specs.declared.types.QrError.TheVariants.{OutOfMemory}
use Rattle.qrcode_types.proofs.BlockTable.{capacity-le}
use Rattle.qrcode_bits.proofs.CutPieces.{cut_inside}
use Rattle.qrcode_bits.proofs.Fitting.{fitting_stop}
use Rattle.qrcode_bits.proofs.Manners.{valid_of}
use Rattle.qrcode_bits.proofs.Several.{handed_on, stops_behind}
use Rattle.qrcode_bits.specs.Refusals.{terminator_refusal}
use Rattle.qrcode_bits.specs.Written.{terminated}
use Rattle.qrcode_bits.proofs.bits.Bits.end_with.Goals as goal

pub push_all-requires : goal.push_all-requires
push_all-requires c = cut_inside c.args.self.now.version c.args.bytes.now c.args.segments.items c.requires.cut

pub returns-in_err-push_all-clause-memory : goal.returns-in_err-push_all-clause-memory
returns-in_err-push_all-clause-memory c =
    let v = c.args.self.now.version in
    let l = c.args.ec_level in
    handed_on c.from_residual.result c.in_err-push_all.field-0.0 (λ e. e ≡ OutOfMemory) c.from_residual.ensures
    (fitting_stop v l c.args.self.now.bits c.args.bytes.now c.args.segments.items c.in_err-push_all.field-0.0 c.push_all.new.self.bits (valid_of v l c.requires.exists) c.requires.cut
    (omega (arith, c.requires.room)) (omega (arith, c.requires.room, capacity-le v l c.requires.exists)) c.in_err-push_all.ensures.stopped)

pub returns-clause-stopped : goal.returns-clause-stopped
returns-clause-stopped c =
    let v = c.args.self.now.version in
    let pushed = c.push_all.new.self in
    stops_behind v c.args.self.now.bits c.args.bytes.now c.args.segments.items (terminator_refusal pushed.version c.args.ec_level (length pushed.bits)) pushed
    (record pushed { bits = terminated pushed.version c.args.ec_level pushed.bits }) c.push_terminator.new.self c.push_terminator.result
    c.in_ok-push_all.ensures.version c.in_ok-push_all.ensures.pushed c.push_terminator.ensures.ends
