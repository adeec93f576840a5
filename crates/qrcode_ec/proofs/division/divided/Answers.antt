use Rattle.std.proofs.Common.{◌≡◌, ◌+◌, ◌∷◌, [], ◌++◌, List, ℕ, take, get_or, bit_xor, refl, subst, sym, add-one, arith}
use Rattle.std.proofs.Math.Seq.{take-suc}
use Rattle.std.proofs.lemmas.List.{take_all}
use Rattle.qrcode_ec.specs.Codes.{Vanishes}
use Rattle.qrcode_ec.proofs.Bytes.{bytes_from}
use Rattle.qrcode_ec.specs.Dividing.{IsRegister}
use Rattle.qrcode_ec.proofs.Registers.{first_register, next_register}
use Rattle.qrcode_ec.proofs.Syndromes.{zeros_at, vanishes_behind}
use Rattle.qrcode_ec.proofs.division.divided.Goals as goal

pub loop-byte-init : goal.loop-byte-init
loop-byte-init c = first_register c.args.degree 72 _ refl (zeros_at 72)

pub loop-byte-preserved : goal.loop-byte-preserved
loop-byte-preserved c =
    let n = c.args.degree in
    let message = c.args.bytes.now in
    let i = c.loop-byte.byte-index in
    let byte = get_or message i 0 in
    let longer : take (i + 1) message ≡ take i message ++ byte ∷ [] = rw (add-one, take-suc message i 0 c.loop-byte-test.true) in
    subst (λ (done : List ℕ). IsRegister n 72 done c.advance.new.register) (sym longer)
    (next_register n 72 n byte (bit_xor byte (get_or c.loop-byte.register 0 0)) (take i message) c.loop-byte.register c.advance.new.register c.args.generator.now c.requires.generator
    (omega arith) (omega (arith, c.requires.at_most)) (omega arith) (omega arith) (omega (arith, c.type_inv.bytes i)) refl c.advance.array_long c.advance.ensures.below c.advance.ensures.behind c.loop-byte.invariant)

pub returns-clause-vanishes : goal.returns-clause-vanishes
returns-clause-vanishes c =
    let n = c.args.degree in
    let register = c.loop-byte.register in
    let done = take c.loop-byte.byte-index c.args.bytes.now in
    subst (λ (done : List ℕ). Vanishes (done ++ take n register) n) (take_all c.loop-byte.byte-index c.args.bytes.now (omega arith))
    (vanishes_behind n done register (omega (arith, c.loop-byte.invariant.long, c.requires.at_most)) c.loop-byte.invariant.ends c.loop-byte.invariant.vanishes)

pub returns-clause-bytes : goal.returns-clause-bytes
returns-clause-bytes c = bytes_from c.loop-byte.register c.loop-byte.invariant.bytes
