use Rattle.std.proofs.Common.{◌∙◌, List, ℕ, Vec, Global, length, ap, subst, arith, rules}
use Rattle.std.specs.Prelude.{IfOk}
use Rattle.qrcode_bits.specs.Cuts.{IsLeastCutIn}
use Rattle.qrcode_bits.specs.ModeSets.{all_modes}
use Rattle.qrcode_bits.specs.declared.optimize.Segment.{Segment}
use Rattle.qrcode_charsets.proofs.StandCuts.{stand_ins_best, stand_needs}
use Rattle.qrcode_charsets.proofs.StandIns.{stand_length}
use Rattle.qrcode_charsets.proofs.shortest.measuring.pair_segments.Goals as goal

pub returns-in_err-stand_in-clause-refusals : goal.returns-in_err-stand_in-clause-refusals
returns-in_err-stand_in-clause-refusals c =
    stand_needs c.args.version c.requires.written.0 c.args.bytes.now c.from_residual.result c.requires.exists c.requires.written.1 (search rules)

pub least_segments_in-requires-clause-length_at_most : goal.least_segments_in-requires-clause-length_at_most
least_segments_in-requires-clause-length_at_most c =
    omega (arith, ap length c.deref.ensures.value, ap length c.in_ok-stand_in.ensures, stand_length c.requires.written.0 c.args.bytes.now c.requires.written.1, c.requires.length_at_most)

pub returns-clause-best : goal.returns-clause-best
returns-clause-best c =
    let same = c.deref.ensures.value ∙ c.in_ok-stand_in.ensures in
    stand_ins_best (λ (x : Vec Segment Global). x.items) c.args.version c.requires.written.0 c.args.bytes.now c.least_segments_in.result c.requires.written.1
    (subst (λ (b : List ℕ). IfOk c.least_segments_in.result (λ (x : Vec Segment Global). IsLeastCutIn all_modes c.args.version b x.items)) same c.least_segments_in.ensures.least)
