-- When a payment has no symbol because memory ran out.
use Rattle.std.specs.Prelude.{◌≡◌, ◌⊎◌}
use Rattle.qrcode_types.specs.declared.types.QrError.TheVariants as code
use Rattle.qrcode_contents.specs.declared.fields.errors.ContentError.TheVariants as content
use Rattle.qrcode_facts.specs.declared.payments.Unmade.{Unmade}
use Rattle.qrcode_facts.specs.declared.payments.Unmade.TheVariants.{Content, Code}

abbrev pub IsWant : Unmade → Type 0  -- memory ran out, for the text or for the symbol
IsWant e = (e ≡ Content content.OutOfMemory) ⊎ (e ≡ Code code.OutOfMemory)
