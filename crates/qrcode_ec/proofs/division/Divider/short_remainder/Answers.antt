use Rattle.std.proofs.Common.{◌≡◌, suc, bit_xor, ◌+◌, ◌<◌, ◌∷◌, [], ◌++◌, List, ℕ, take, get_or, refl, subst, sym, ap, ◌∙◌, add-one, arith}
use Rattle.std.proofs.Math.Seq.{take-suc}
use Rattle.std.proofs.lemmas.List.{take_all, get_or_past}
use Rattle.qrcode_ec.specs.Codes.{Vanishes}
use Rattle.qrcode_ec.proofs.Bytes.{bytes_from}
use Rattle.qrcode_ec.proofs.Lanes.{get_or-zeros}
use Rattle.qrcode_ec.specs.Dividing.{IsRegister}
use Rattle.qrcode_ec.proofs.Registers.{first_register, next_register, by_rows, vanishes_in_room}
use Rattle.qrcode_ec.proofs.Syndromes.{zeros_at}
use Rattle.qrcode_ec.proofs.division.Divider.short_remainder.Goals as goal

pub loop-byte-init : goal.loop-byte-init
loop-byte-init c = first_register c.args.self.now.degree 32 _ refl (zeros_at 32)

pub loop-byte-preserved : goal.loop-byte-preserved
loop-byte-preserved c =
    let divider = c.args.self.now in
    let message = c.args.bytes.now in
    let i = c.loop-byte.byte-index in
    let byte = get_or message i 0 in
    let old = c.loop-byte.register in
    let new = c.advanced-register.result in
    let long = c.advanced-register.ensures.length in
    let longer : take (i + 1) message ≡ take i message ++ byte ∷ [] = rw (add-one, take-suc message i 0 c.loop-byte-test.true) in
    subst (λ (done : List ℕ). IsRegister divider.degree 32 done new) (sym longer)
    (next_register divider.degree 32 32 byte c.from-factor.result (take i message) old new divider.generator divider.multiples.generates
    c.requires (omega arith) (omega arith) (omega arith) (omega (arith, c.type_inv.bytes i)) c.from-factor.ensures long
    (by_rows divider.degree 32 byte c.from-factor.result (take i message) old new divider.generator divider.low divider.high divider.multiples (omega (arith, c.type_inv.bytes i)) c.from-factor.ensures c.loop-byte.invariant (λ j less. c.advanced-register.ensures.value j less ∙ ap (bit_xor (get_or old (suc j) 0)) (c.sum.ensures.value j less)))
    (λ j past. get_or_past new j 0 (omega (arith, long)) ∙ sym (get_or_past old j 0 (omega (arith, c.loop-byte.invariant.long)))) c.loop-byte.invariant)

pub returns-clause-vanishes : goal.returns-clause-vanishes
returns-clause-vanishes c =
    let n = c.args.self.now.degree in
    subst (λ (done : List ℕ). Vanishes (done ++ take n c.in_room.result) n) (take_all c.loop-byte.byte-index c.args.bytes.now (omega arith))
    (vanishes_in_room n (take c.loop-byte.byte-index c.args.bytes.now) c.loop-byte.register c.in_room.result c.requires c.loop-byte.invariant c.in_room.ensures)

pub returns-clause-bytes : goal.returns-clause-bytes
returns-clause-bytes c =
    let register = c.loop-byte.register in
    bytes_from c.in_room.result (λ k. subst (λ x. x < 256) (sym (ap (λ (row : List ℕ). get_or row k 0) c.in_room.ensures ∙ get_or-zeros register 40 k)) (c.loop-byte.invariant.bytes k))
