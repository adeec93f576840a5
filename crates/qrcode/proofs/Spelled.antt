-- A symbol holds data if some bits that fill it spell the data.
use Rattle.std.proofs.Common.{◌≡◌, ◌⊎◌, ℕ, ◌<◌, List, pos, length, inl, inr, ap, subst, Result, Ok, Err, IfOk, IfErr}
use Rattle.std.specs.Prelude.{IsOkUnless}
use Rattle.qrcode_types.specs.declared.types.Version.{Version}
use Rattle.qrcode_types.specs.declared.types.Version.TheVariants.{Normal}
use Rattle.qrcode_types.specs.declared.types.EcLevel.{EcLevel}
use Rattle.qrcode_types.specs.declared.types.QrError.{QrError}
use Rattle.qrcode_types.specs.declared.types.QrError.TheVariants.{DataTooLong, OutOfMemory}
use Rattle.qrcode_bits.specs.Choice.{Holds, IsLeastHolding, IsRefused}
use Rattle.qrcode_bits.specs.Refusals.{data_limit}
use Rattle.qrcode_bits.proofs.Given.{if_ok}
use Rattle.qrcode_bits.proofs.Manners.{valid_of}
use Rattle.qrcode_bits.proofs.SpelledCuts.{fits_spelled}
use Rattle.qrcode.specs.Acceptance.{CanSpell, IsLeastSpelling, IsChosenSymbol, IsAutomatic}
use Rattle.qrcode.specs.Code.{Code}

module _ (l : EcLevel) (bytes : List ℕ) where
  pub can_spell : (v : Version) → Holds v l bytes → CanSpell v l bytes
  can_spell v holds = record { exists = holds.exists; spelled = (fits_spelled v bytes (valid_of v l holds.exists) l).0 holds.room }

  pub spelled_held : (v : Version) → CanSpell v l bytes → Holds v l bytes
  spelled_held v can = record { exists = can.exists; room = (fits_spelled v bytes (valid_of v l can.exists) l).1 can.spelled }

  least_spelling : (v : Version) → IsLeastHolding l bytes v → IsLeastSpelling l bytes v
  least_spelling v holding = record {
    number = holding.number;
    is = holding.is;
    spells = can_spell v holding.holds;
    least = λ n can. holding.least n (spelled_held (Normal (pos n)) can);
  }

  refuses : (r : Result Code QrError) → IfOk r (λ code. IsLeastSpelling l bytes code.version) → IfErr r (IsRefused l bytes)
      → ((n : ℕ) → ¬ CanSpell (Normal (pos n)) l bytes) → (r ≡ Err DataTooLong) ⊎ (r ≡ Err OutOfMemory)
  refuses (Ok code) least causes none = absurd (none least.number (subst (λ v. CanSpell v l bytes) least.is least.spells))
  refuses (Err e) least causes none = elim causes [ inl memory ↦ inr (ap Err memory) | inr long ↦ inl (ap Err long.0) ]

  -- what a constructor promises in terms of segments, it also promises in terms of bits
  pub automatic : (r : Result Code QrError) → IfOk r (λ code. code.level ≡ l) → IfOk r (λ code. IsChosenSymbol code.version l bytes code.modules)
      → ((n : ℕ) → Holds (Normal (pos n)) l bytes → IsOkUnless r OutOfMemory) → IfErr r (IsRefused l bytes) → (data_limit < length bytes → r ≡ Err DataTooLong)
      → IsAutomatic l bytes r
  automatic r level symbol accepts causes too_long =
      let least = if_ok r (λ code chosen. least_spelling code.version chosen.least_version) symbol in
      record {
        level = level;
        symbol = symbol;
        accepts = accepts;
        causes = causes;
        too_long = too_long;
        least_spelling = least;
        accepts_spelled = λ n can. accepts n (spelled_held (Normal (pos n)) can);
        refuses_unspelled = refuses r least causes;
      }
