use Rattle.std.proofs.Common.{◌≡◌, ◌<◌, ◌≤◌, ◌^◌, ℕ, Bool, List, length, refl, inr, arith}
use Rattle.std.specs.Prelude.{Err}
use Rattle.qrcode_types.specs.Bits.{number_bits}
use Rattle.qrcode_types.specs.declared.types.Mode.TheVariants.{Alphanumeric}
use Rattle.qrcode_reader.specs.spell.Steps.{AppendsCharacters}
use Rattle.qrcode_reader.specs.declared.spell.refusals.Unspelled.TheVariants.{NotSpelled}
use Rattle.qrcode_reader.proofs.Unspelled.{no_letters}
use Rattle.qrcode_reader.proofs.spell.characters.push_letters.Goals as goal

-- bits that no letters are written as
refused : (group : List Bool) (old new : List ℕ) (n : ℕ) → number_bits (length group) n ≡ group → n < 2 ^ length group → 0 < length group → length group ≤ 11
    → (length group ≡ 11 → 2025 ≤ n) → (length group ≡ 6 → 45 ≤ n) → AppendsCharacters Alphanumeric group old new (Err NotSpelled)
refused group old new n value bound some most eleven six = record { taken = tt; refused = inr (refl, λ bytes. no_letters group n bytes (record { value = value; at_most = bound }) some most eleven six) }

pub returns-in_default-2 : goal.returns-in_default-2
returns-in_default-2 c =
    refused c.args.group.now _ _ c.number_of-number.result c.number_of-number.ensures.value c.number_of-number.ensures.at_most c.requires.at_least c.requires.at_most (λ e. omega (arith, e)) (λ e. omega (arith, e))

pub returns-in_default-3 : goal.returns-in_default-3
returns-in_default-3 c =
    refused c.args.group.now _ _ c.number_of-number.result c.number_of-number.ensures.value c.number_of-number.ensures.at_most c.requires.at_least c.requires.at_most (λ e. omega (arith, e)) (λ e. omega (arith, e))

pub returns-in_default : goal.returns-in_default
returns-in_default c =
    refused c.args.group.now _ _ c.number_of-number.result c.number_of-number.ensures.value c.number_of-number.ensures.at_most c.requires.at_least c.requires.at_most (λ e. omega (arith, e)) (λ e. omega (arith, e))
