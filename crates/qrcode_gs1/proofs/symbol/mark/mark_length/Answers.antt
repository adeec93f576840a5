use Rattle.std.proofs.Common.{length, sym, ap, ◌∙◌}
use Rattle.qrcode_gs1.specs.symbol.Characters.{mark}
use Rattle.qrcode_gs1.specs.declared.symbol.Fnc1.{Fnc1}
use Rattle.qrcode_gs1.proofs.Marks.{length-first, length-second}
use Rattle.qrcode_gs1.proofs.symbol.mark.mark_length.Goals as goal

pub returns-in-First-clause-value : goal.returns-in-First-clause-value
returns-in-First-clause-value c = sym (ap (λ (p : Fnc1). length (mark p)) c.in-First.is ∙ length-first)

pub returns-in-Second-clause-value : goal.returns-in-Second-clause-value
returns-in-Second-clause-value c = sym (ap (λ (p : Fnc1). length (mark p)) c.in-Second.is ∙ length-second c.in-Second.field-0)
