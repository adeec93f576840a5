-- The messages of errors.
use Rattle.std.specs.Prelude.{ℕ, List, codes}
use Rattle.qrcode_reader.specs.declared.spell.refusals.Unspelled.{Unspelled}
use Rattle.qrcode_reader.specs.declared.spell.refusals.Unspelled.TheVariants.{NotSpelled, OutOfMemory}
use Rattle.qrcode_reader.specs.declared.spell.refusals.Unshown.{Unshown}
use Rattle.qrcode_reader.specs.declared.spell.refusals.Unshown.TheVariants.{NotShown, OutOfMemory as NoMemory}

abbrev pub refusal_text : Unspelled → List ℕ
refusal_text NotSpelled = codes "the bits spell no bytes"
refusal_text OutOfMemory = codes "out of memory"

abbrev pub unshown_of : Unspelled → Unshown  -- bits that do not decode show nothing
unshown_of NotSpelled = NotShown
unshown_of OutOfMemory = NoMemory

abbrev pub unshown_text : Unshown → List ℕ
unshown_text NotShown = codes "the bits are no text in UTF-8"
unshown_text NoMemory = codes "out of memory"
