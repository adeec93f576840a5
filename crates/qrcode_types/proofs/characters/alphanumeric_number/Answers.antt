use Rattle.std.proofs.Common.{arith}
use Rattle.std.proofs.lemmas.Bool.Decides.{nat_tests}
use Rattle.qrcode_types.proofs.Alphabet.{alphanumeric_number_by_cases}
use Rattle.qrcode_types.proofs.characters.alphanumeric_number.Goals as goal

pub returns-in_default-clause-value : goal.returns-in_default-clause-value
returns-in_default-clause-value c =
    let cases = alphanumeric_number_by_cases c.args.byte (omega arith) in
    grind (arith, nat_tests, cases)

pub returns-in_default-3-clause-value : goal.returns-in_default-3-clause-value
returns-in_default-3-clause-value c =
    let cases = alphanumeric_number_by_cases c.args.byte (omega arith) in
    grind (arith, nat_tests, cases)
