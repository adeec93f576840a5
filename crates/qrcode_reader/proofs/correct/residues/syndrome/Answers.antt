use Rattle.std.proofs.Common.{◌≡◌, ◌+◌, ◌++◌, ◌∷◌, [], take, get_or, sym, ap, ap₂, ◌∙◌, add-one, arith}
use Rattle.std.proofs.Math.Seq.{take-suc}
use Rattle.std.specs.Int.Bits.{bit_xor}
use Rattle.qrcode_ec.specs.Field.{product}
use Rattle.qrcode_ec.specs.Codes.{syndrome}
use Rattle.qrcode_ec.proofs.Syndromes.{syndrome_nil, syndrome_last}
use Rattle.qrcode_reader.proofs.correct.residues.syndrome.Goals as goal

pub loop-byte-init : goal.loop-byte-init
loop-byte-init c = sym (syndrome_nil c.args.i)

pub loop-byte-preserved : goal.loop-byte-preserved
loop-byte-preserved c =
    let block = c.args.block.now in
    let k = c.loop-byte.byte-index in
    let i = c.args.i in
    let byte = get_or block k 0 in
    let longer : take (k + 1) block ≡ take k block ++ byte ∷ [] = rw (add-one, take-suc block k 0 c.loop-byte-test.true) in
    ap (λ x. bit_xor x byte) (c.product.ensures.value ∙ ap₂ product c.power-point.ensures.value c.loop-byte.invariant)
    ∙ sym (syndrome_last i byte (take k block) (omega (arith, c.type_inv.block k)))
    ∙ ap (syndrome i) (sym longer)
