use Rattle.qrcode_bits.proofs.Given.{if_ok}
use Rattle.qrcode_bits.proofs.LeastCuts.{in_all, least_in_all}
use Rattle.qrcode_bits.proofs.SpelledCuts.{fits_spelled}
use Rattle.qrcode_bits.proofs.optimize.least.least_segments.Goals as goal

pub returns-clause-least : goal.returns-clause-least
returns-clause-least c = if_ok c.least_segments_in.result (λ segments least. least_in_all c.args.version c.args.bytes.now segments.items least) c.least_segments_in.ensures.least

pub returns-clause-refusals : goal.returns-clause-refusals
returns-clause-refusals c =
    let known = c.least_segments_in.ensures.refusals in
    record {
      no_cut = λ none. known.no_cut (λ ss in_set. none ss in_set.cut);
      accepts = λ ss cut. known.accepts ss (in_all c.args.version c.args.bytes.now ss cut);
      causes = known.causes;
    }

pub returns-clause-spelled : goal.returns-clause-spelled
returns-clause-spelled c = fits_spelled c.args.version c.args.bytes.now c.requires.valid
