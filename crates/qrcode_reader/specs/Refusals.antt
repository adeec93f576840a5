-- The messages of errors.
use Rattle.std.specs.Prelude.{ℕ, List, ◌++◌, codes, decimal}
use Rattle.qrcode_reader.specs.declared.spell.refusals.Unspelled as spelling
use Rattle.qrcode_reader.specs.declared.spell.refusals.Unshown as showing
use Rattle.qrcode_reader.specs.declared.refusals.Unread.{Unread}
use Rattle.qrcode_reader.specs.declared.refusals.UnreadText.{UnreadText}
use Rattle.qrcode_reader.specs.declared.refusals.UnreadText.TheVariants.{NoBits, NotShown}
use Rattle.qrcode_reader.specs.declared.refusals.Unread.TheVariants.{NoSuchSide, NoFormat, Damaged, NotSpelled, OutOfMemory}

abbrev pub refusal_text : Unread → List ℕ
refusal_text NoSuchSide = codes "no version has so many modules"
refusal_text NoFormat = codes "no format word is near both of its copies"
refusal_text (Damaged block) = codes "too many errors in block " ++ decimal block
refusal_text NotSpelled = codes "the bits spell no bytes"
refusal_text OutOfMemory = codes "out of memory"

abbrev pub unread_of : spelling.Unspelled → Unread  -- the error for a square whose bits decode to no bytes
unread_of spelling.TheVariants.NotSpelled = NotSpelled
unread_of spelling.TheVariants.OutOfMemory = OutOfMemory

abbrev pub text_refusal : UnreadText → List ℕ
text_refusal (NoBits e) = refusal_text e
text_refusal NotShown = codes "the bits are no text in UTF-8"

abbrev pub unread_text_of : showing.Unshown → UnreadText  -- the error for a square whose bits show no text
unread_text_of showing.TheVariants.NotShown = NotShown
unread_text_of showing.TheVariants.OutOfMemory = NoBits OutOfMemory
