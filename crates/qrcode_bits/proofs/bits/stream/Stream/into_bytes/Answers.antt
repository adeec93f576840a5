use Rattle.std.proofs.Common.{◌≡◌, ◌+◌, ◌-◌, ◌*◌, ◌%◌, ◌^◌, ◌++◌, false, replicate, ap, sym, ◌∙◌, arith, append_assoc, append-nil}
use Rattle.qrcode_types.specs.Bits.{number_bits, bits_of}
use Rattle.qrcode_bits.proofs.Packing.{no_bits, number_bits-filled}
use Rattle.std.proofs.lemmas.Nat.{shl_whole}
use Rattle.qrcode_bits.proofs.bits.stream.Stream.into_bytes.Goals as goal

pub returns : goal.returns
returns c =
    let bytes = c.self.inside.bytes.items in
    let count = c.self.inside.rest_len in
    let rest = c.self.inside.rest in
    let zeros = (8 - count) % 8 in
    let pushed = c.push_whole_bytes.new.bytes.items in
    let number = rest * 2 ^ zeros % 2 ^ 64 in
    let old : bits_of bytes ++ number_bits count rest ≡ c.args.self.bits = ap (λ v. v.bits) c.self.view_is in
    let none : c.push_whole_bytes.result ≡ 0 = omega (arith, c.push_whole_bytes.ensures.at_most, c.push_whole_bytes.ensures.length) in
    let whole : bits_of pushed ++ number_bits c.push_whole_bytes.result number ≡ bits_of bytes ++ number_bits (count + zeros) number = c.push_whole_bytes.ensures.bits in
    let kept : number ≡ rest * 2 ^ zeros = shl_whole rest count zeros 64 c.self.invariant.1 (omega (arith, c.self.invariant.0)) in (
      zeros,
      omega arith,
      sym (append-nil (bits_of pushed)) ∙ ap (λ r. bits_of pushed ++ r) (sym (ap (λ n. number_bits n number) none ∙ no_bits number)) ∙ whole
          ∙ ap (λ r. bits_of bytes ++ r) (ap (λ n. number_bits (count + zeros) n) kept ∙ number_bits-filled rest count zeros)
          ∙ sym (append_assoc (bits_of bytes) (number_bits count rest) (replicate zeros false))
          ∙ ap (λ r. r ++ replicate zeros false) old,
    )
