use Rattle.std.proofs.Common.{◌≡◌, ◌++◌, take, string_bytes}
use Rattle.qrcode_contents.specs.fields.Links.{part_text}
use Rattle.qrcode_contents.proofs.fields.links.push_part.Given as goal

abbrev pub invariant-loop-byte : goal.invariant-loop-byte
invariant-loop-byte l = string_bytes l.text ≡ string_bytes l.initial.text ++ part_text l.part (take l.byte-index l.bytes)
