use Rattle.std.proofs.Common.{◌≡◌, ◌+◌, ◌++◌, ◌∷◌, [], IfSome, take, get_or, subst, sym, ap, ap₂, ◌∙◌, add-one, arith}
use Rattle.std.proofs.Math.Seq.{take-suc}
use Rattle.std.proofs.lemmas.List.{take_all, append-nil}
use Rattle.std.proofs.lemmas.List.Concat.{flat_map-append}
use Rattle.qrcode_types.specs.Bits.{bits_of, number_bits}
use Rattle.qrcode_types.specs.Versions.{capacity}
use Rattle.qrcode_reader.proofs.bits.data_bits.Goals as goal

pub loop-byte-preserved : goal.loop-byte-preserved
loop-byte-preserved c =
    let bytes = c.args.bytes.now in
    let k = c.loop-byte.byte-index in
    let byte = get_or bytes k 0 in
    let longer : take (k + 1) bytes ≡ take k bytes ++ byte ∷ [] = rw (add-one, take-suc bytes k 0 c.loop-byte-test.true) in
    c.in_ok-push_byte.ensures ∙ ap (λ xs. xs ++ number_bits 8 byte) c.loop-byte.invariant
    ∙ sym (ap bits_of longer ∙ flat_map-append (number_bits 8) (take k bytes) (byte ∷ []) ∙ ap (λ xs. bits_of (take k bytes) ++ xs) (append-nil (number_bits 8 byte)))

pub returns : goal.returns
returns c =
    let most = subst (λ o. IfSome o (λ n. n ≡ capacity c.args.version c.args.ec_level)) c.unwrap.ensures c.capacity.ensures.value in
    record { value = c.truncate.ensures.items ∙ ap₂ take most (c.loop-byte.invariant ∙ ap bits_of (take_all c.loop-byte.byte-index c.args.bytes.now (omega arith))) }
