use Rattle.std.proofs.Common.{take, get_or, arith, append_assoc}
use Rattle.std.proofs.lemmas.List.{take_more}
use Rattle.qrcode_bits.proofs.Packing.{bits_of-push}
use Rattle.qrcode_bits.proofs.bits.written.push_bytes.Goals as goal

pub loop-byte-preserved : goal.loop-byte-preserved
loop-byte-preserved c =
    let bytes = c.args.bytes.now in
    let at = c.loop-byte.byte-index in
    record {
      bits = rw (c.push_number.ensures.bits, c.from.ensures, c.loop-byte.invariant.bits, append_assoc, take_more bytes at 0 (omega arith), bits_of-push (take at bytes) (get_or bytes at 0));
      room = omega arith;
    }
