use Rattle.std.proofs.Common.{◌≡◌, Some, take}
use Rattle.std.specs.Prelude.{map, chars, string_bytes}
use Rattle.qrcode_charsets.specs.Charsets.{character}
use Rattle.qrcode_charsets.proofs.sets.CodePage.decode.Given as goal

abbrev pub invariant-loop-byte : goal.invariant-loop-byte
invariant-loop-byte l = map (character l.self) (take l.byte-index l.bytes) ≡ map Some (chars (string_bytes l.text))
