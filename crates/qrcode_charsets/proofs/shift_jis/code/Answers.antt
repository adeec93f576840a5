use Rattle.std.proofs.Common.{arith, inl, inr}
use Rattle.qrcode_charsets.proofs.PairCodes.{no_mark}
use Rattle.qrcode_charsets.proofs.PairReads.{pair_found}
use Rattle.qrcode_charsets.proofs.shift_jis.code.Goals as goal

pub returns-then-character-eq92 : goal.returns-then-character-eq92
returns-then-character-eq92 c = λ has.
    no_mark c.args.character (elim c.then-character-eq92.branch [
      | goal.then-character-eq92-via-then-character-eq92 w ↦ inl (omega arith)
      | goal.then-character-eq92-via-else-character-eq92+then-character-eq126 w ↦ inr (omega arith)
    ]) has.0 has.1

pub returns-in_default : goal.returns-in_default
returns-in_default c =
    pair_found c.args.character c.pair_of.result (omega arith)
    (elim c.in_default.branch [
      | goal.in_default-via-then-character-lt65377 w ↦ λ h. omega (arith, h.0)
      | goal.in_default-via-else-character-lt65377+else-character-lt65440 w ↦ λ h. omega (arith, h.1)
    ]) c.pair_of.ensures
