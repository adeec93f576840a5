use Rattle.std.proofs.Common.{sym, arith}
use Rattle.qrcode_types.proofs.Writing.{are_bytes, bytes_are_written}
use Rattle.qrcode_types.proofs.characters.can_write.Goals as goal

pub returns-in-Byte : goal.returns-in-Byte
returns-in-Byte c =
    let bytes = c.args.bytes.now in
    rw c.in-Byte.is (sym (bytes_are_written bytes (are_bytes bytes (λ i. omega (arith, c.type_inv.bytes i)))))
