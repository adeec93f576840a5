use Rattle.std.proofs.Common.{ℕ, pos, refl, arith, below_more, inr}
use Rattle.std.proofs.lemmas.Result.{IfOk-weaker}
use Rattle.qrcode_types.specs.declared.types.Version.TheVariants.{Normal}
use Rattle.qrcode_append.specs.Fewest.{IsAmong}
use Rattle.qrcode_append.specs.Symbols.{HoldSeveral}
use Rattle.qrcode_append.proofs.Choices.{some_version, fewest_of, none_counted}
use Rattle.qrcode_append.proofs.choice.encode_among.Goals as goal

pub returns-then-bytes-gt-DATA_LIMIT-clause-causes : goal.returns-then-bytes-gt-DATA_LIMIT-clause-causes
returns-then-bytes-gt-DATA_LIMIT-clause-causes c =
    inr (inr (refl, (some_version c.args.versions c.args.ec_level (omega arith) (omega arith) (omega arith), λ n count among held. omega (arith, held.limit))))

pub returns-in_default-2-clause-symbols : goal.returns-in_default-2-clause-symbols
returns-in_default-2-clause-symbols c =
    IfOk-weaker c.encode_counted.result _ _
    (λ codes made. fewest_of c.args.manner c.args.versions c.args.ec_level c.args.bytes.now c.loop-count.count codes.items made c.loop-count.invariant)
    c.encode_counted.ensures.symbols

pub loop-count-preserved : goal.loop-count-preserved
loop-count-preserved c =
    let P : ℕ → Type 0 = λ k. (n : ℕ) → IsAmong c.args.versions n → ¬ HoldSeveral c.args.manner (Normal (pos n)) c.args.ec_level c.args.bytes.now k in
    let more = below_more P c.loop-count.count (λ k below n among. c.loop-count.invariant k n below among)
    (none_counted c.in-Err-DataTooLong.field-0 c.in-Err-DataTooLong.field-0-is c.in-Err-DataTooLong.ensures.causes) in
    λ k n below among. more k below n among

pub returns-clause-accepts : goal.returns-clause-accepts
returns-clause-accepts c = λ n count among held. absurd (c.loop-count.invariant count n (omega (arith, held.at_most)) among held)

pub returns-clause-causes : goal.returns-clause-causes
returns-clause-causes c =
    inr (inr (refl, (some_version c.args.versions c.args.ec_level (omega arith) (omega arith) (omega arith), λ n count among held. c.loop-count.invariant count n (omega (arith, held.at_most)) among held)))
