use Rattle.std.proofs.Common.{◌≡◌, ◌++◌, take}
use Rattle.qrcode_gs1.specs.symbol.Characters.{written_characters}
use Rattle.qrcode_gs1.proofs.symbol.characters.push_characters.Given as goal

abbrev pub invariant-loop-byte : goal.invariant-loop-byte
invariant-loop-byte l = l.written.items ≡ l.fn.written.items ++ written_characters l.mode (take l.byte-index l.bytes)
