use Rattle.std.proofs.Common.{◌≡◌, fold, take}
use Rattle.qrcode_contents.specs.fields.Objects.{crc_step}
use Rattle.qrcode_contents.proofs.fields.objects.crc.Given as goal

abbrev pub invariant-loop-byte : goal.invariant-loop-byte
invariant-loop-byte l = l.register ≡ fold crc_step 0xffff (take l.byte-index l.bytes)
