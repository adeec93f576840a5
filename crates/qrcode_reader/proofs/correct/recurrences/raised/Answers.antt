use Rattle.std.proofs.Common.{◌+◌, refl, inl, inr, sym, ◌∙◌, arith}
use Rattle.std.proofs.lemmas.Bool.{cases_lt}
use Rattle.qrcode_ec.proofs.Syndromes.{zeros_at}
use Rattle.qrcode_reader.proofs.correct.recurrences.raised.Goals as goal

pub loop-j-init : goal.loop-j-init
loop-j-init c = record {
  long = refl;
  zeros = λ j _. zeros_at 72 j;
  below = λ j less. absurd (omega arith);
  behind = λ j _. zeros_at 72 (c.args.exponent + j);
}

pub returns-clause-zeros : goal.returns-clause-zeros
returns-clause-zeros c = c.loop-j.invariant.zeros

pub returns-clause-value : goal.returns-clause-value
returns-clause-value c j = elim (cases_lt j c.args.count) [
  | inl less ↦ c.loop-j.invariant.below j (omega (arith, less))
  | inr most ↦ c.loop-j.invariant.behind j (omega (arith, most)) ∙ sym (c.requires.ends j most)
]
