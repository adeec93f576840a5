use Rattle.std.proofs.Common.{◌≡◌, drop, ap, ◌∙◌, arith}
use Rattle.std.proofs.lemmas.List.{length-drop}
use Rattle.qrcode_types.proofs.Writing.{are_bytes}
use Rattle.qrcode_gs1.specs.symbol.Fewest.{headers_of}
use Rattle.qrcode_gs1.specs.declared.symbol.costs.RestCosts.{RestCosts}
use Rattle.qrcode_gs1.proofs.Bounds.{fewest}
use Rattle.qrcode_gs1.proofs.Cuts.{bytes_few, costs_few, headers_small, some_least}
use Rattle.qrcode_gs1.proofs.symbol.least.fewest_bits.Goals as goal

pub with_byte_before-costs-requires-clause-rest : goal.with_byte_before-costs-requires-clause-rest
with_byte_before-costs-requires-clause-rest c =
    let are = are_bytes c.args.bytes.now (λ k. omega (arith, c.type_inv.bytes k)) in
    costs_few (headers_of c.args.version) c.args.bytes.now c.loop-i.i c.loop-i.costs c.loop-i.invariant.rest (headers_small c.args.version c.requires.normal).byte are c.requires.length_at_most

pub returns-clause-least : goal.returns-clause-least
returns-clause-least c =
    let v = c.args.version in
    let bytes = c.args.bytes.now in
    let some = some_least v bytes (are_bytes bytes (λ k. omega (arith, c.type_inv.bytes k))) in
    let start : c.loop-i.i ≡ 0 = omega arith in
    (some.0, (some.1.0, ap (λ (r : RestCosts). r.start.bits) c.loop-i.invariant.rest ∙ ap (λ k. fewest (headers_of v) (drop k bytes)) start ∙ some.1.1))

pub returns-clause-at_most : goal.returns-clause-at_most
returns-clause-at_most c =
    let v = c.args.version in
    let bytes = c.args.bytes.now in
    let i = c.loop-i.i in
    omega (arith, ap (λ (r : RestCosts). r.start.bits) c.loop-i.invariant.rest, bytes_few (headers_of v) (drop i bytes) (headers_small v c.requires.normal).byte, length-drop i bytes, c.requires.length_at_most)
