use Rattle.std.proofs.Common.{◌∙◌, arith}
use Rattle.qrcode_ec.proofs.Bytes.{bytes_from}
use Rattle.qrcode_reader.proofs.correct.Corrector.candidate.Goals as goal

pub returns-clause-value : goal.returns-clause-value
returns-clause-value c = λ corrected. c.corrected.ensures.value c.args.self.now.divider.degree corrected (record {
  bytes = bytes_from c.args.block.now (λ k. omega (arith, c.type_inv.block k));
  at_most = c.shortest-locator.ensures.at_most;
  short = c.requires.length;
  syndromes = λ i less. c.syndromes-syndromes.ensures i less ∙ c.requires.residue i less;
  shortest = c.shortest-locator.ensures.value;
})
