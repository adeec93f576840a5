use Rattle.std.proofs.Common.{rules}
use Rattle.qrcode_bits.proofs.Given.{if_ok}
use Rattle.qrcode_bits.proofs.CutPieces.{gives_back}
use Rattle.qrcode_bits.proofs.Needs.{cut_found}
use Rattle.qrcode_bits.proofs.optimize.least.least_segments_in.Goals as goal

pub returns-in_err-vec-clause-refusals : goal.returns-in_err-vec-clause-refusals
returns-in_err-vec-clause-refusals c = cut_found _ _ c.from_residual.result c.in-Some.ensures.reached (search rules)

pub returns-in-Some-clause-refusals : goal.returns-in-Some-clause-refusals
returns-in-Some-clause-refusals c = record { no_cut = λ none. absurd (none _ c.in-Some.ensures.reached); accepts = λ _ _. tt; causes = tt }

pub returns-clause-gives_back : goal.returns-clause-gives_back
returns-clause-gives_back c = if_ok c.searched_segments.result (λ segments least. gives_back c.args.version c.args.bytes.now segments.items least.reached.cut) c.searched_segments.ensures.least
