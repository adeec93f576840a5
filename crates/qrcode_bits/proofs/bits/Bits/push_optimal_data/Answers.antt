use Rattle.std.proofs.Common.{◌≤◌, arith, subst, IsTrue}
use Rattle.qrcode_types.specs.Versions.{is_valid, capacity}
use Rattle.qrcode_bits.specs.Segments.{total_cost}
use Rattle.qrcode_bits.specs.Cuts.{IsLeastCut}
use Rattle.qrcode_bits.proofs.CutPieces.{cut_pieces}
use Rattle.qrcode_bits.proofs.Fitting.{cut_stop, fitting_stop}
use Rattle.qrcode_bits.proofs.Given.{on_ok, if_err}
use Rattle.qrcode_bits.proofs.Shortness.{fitting_short}
use Rattle.qrcode_bits.proofs.SpelledCuts.{fits_spelled}
use Rattle.qrcode_bits.proofs.bits.Bits.push_optimal_data.Goals as goal
use Rattle.qrcode_bits.proofs.bits.Bits.push_optimal_data.Goals.{After-version-version, In_ok-segments}

valid : (c : After-version-version) → IsTrue (is_valid c.args.self.now.version)
valid c = subst (λ v. IsTrue (is_valid v)) c.version-version.ensures.value c.version-version.ensures.valid

least : (c : In_ok-segments) → IsLeastCut c.args.self.now.version c.args.bytes.now c.in_ok-segments.segments.items
least c = subst (λ v. IsLeastCut v c.args.bytes.now c.in_ok-segments.segments.items) c.version-version.ensures.value c.in_ok-segments.ensures.least

pub returns-clause-pushed : goal.returns-clause-pushed
returns-clause-pushed c =
    let k = (goal.at.returns-clause-pushed c).In_ok-segments in
    let v = c.args.self.now.version in
    let bytes = c.args.bytes.now in
    let ss = c.in_ok-segments.segments.items in
    on_ok c.push_all.result
    (λ pushed. record {
      segments = ss;
      least = least k;
      pushed = pushed;
      joined = c.in_ok-segments.ensures.gives_back.joined;
      readable = λ l fits. (cut_pieces v l bytes ss (valid (goal.at.returns-clause-pushed c).After-version-version) (least k).reached fits).0;
    })
    c.push_all.ensures.pushed

pub returns-clause-causes : goal.returns-clause-causes
returns-clause-causes c = λ cut is_cut.
    let k = (goal.at.returns-clause-causes c).In_ok-segments in
    if_err c.push_all.result
    (λ e stop. cut_stop c.args.self.now.version c.args.self.now.bits c.args.bytes.now c.in_ok-segments.segments.items e c.push_all.new.self.bits (least k).reached stop)
    c.push_all.ensures.stopped

pub returns-clause-accepts : goal.returns-clause-accepts
returns-clause-accepts c = λ level room fits.
    let k = (goal.at.returns-clause-accepts c).In_ok-segments in
    let v = c.args.self.now.version in
    let ss = c.in_ok-segments.segments.items in
    let small : total_cost v ss ≤ capacity v level = omega (arith, (least k).least fits.0 fits.1.0, fits.1.1) in
    if_err c.push_all.result
    (λ e stop. fitting_stop v level c.args.self.now.bits c.args.bytes.now ss e c.push_all.new.self.bits (valid (goal.at.returns-clause-accepts c).After-version-version) (least k).reached small room stop)
    c.push_all.ensures.stopped

pub returns-then-bytes-gt-DATA_LIMIT-clause-accepts : goal.returns-then-bytes-gt-DATA_LIMIT-clause-accepts
returns-then-bytes-gt-DATA_LIMIT-clause-accepts c = λ level room fits.
    absurd (omega (arith, c.if-bytes-gt-DATA_LIMIT.true, fitting_short c.args.self.now.version level c.args.bytes.now fits))

pub returns-then-bytes-gt-DATA_LIMIT-clause-spelled : goal.returns-then-bytes-gt-DATA_LIMIT-clause-spelled
returns-then-bytes-gt-DATA_LIMIT-clause-spelled c = fits_spelled c.args.self.now.version c.args.bytes.now (valid (goal.at.returns-then-bytes-gt-DATA_LIMIT-clause-spelled c).After-version-version)

pub returns-in_err-segments-clause-spelled : goal.returns-in_err-segments-clause-spelled
returns-in_err-segments-clause-spelled c = fits_spelled c.args.self.now.version c.args.bytes.now (valid (goal.at.returns-in_err-segments-clause-spelled c).After-version-version)

pub returns-clause-spelled : goal.returns-clause-spelled
returns-clause-spelled c = fits_spelled c.args.self.now.version c.args.bytes.now (valid (goal.at.returns-clause-spelled c).After-version-version)
