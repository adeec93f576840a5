use Rattle.std.proofs.Common.{◌≡◌, ◌++◌, length, take, subst, sym, ap, ◌∙◌, arith}
use Rattle.std.proofs.lemmas.List.{length-take-le, length-append}
use Rattle.qrcode_types.specs.Bits.{AreBytes}
use Rattle.qrcode_ec.specs.Codes.{Vanishes}
use Rattle.qrcode_ec.proofs.Bytes.{bytes_from, bytes_append, take_bytes}
use Rattle.qrcode_ec.proofs.Distances.{one_code, distance_above}
use Rattle.qrcode_ec.proofs.create_error_correction_code.Goals as goal

ec_long : (c : goal.In_ok-from_slice) → length c.in_ok-from_slice.field-0.items ≡ c.args.ec_code_size
ec_long c = ap length c.in_ok-from_slice.ensures.items ∙ length-take-le c.args.ec_code_size c.remainder-ec.result (omega arith)

ec_bytes : (c : goal.In_ok-from_slice) → AreBytes c.in_ok-from_slice.field-0.items
ec_bytes c = subst AreBytes (sym c.in_ok-from_slice.ensures.items) (take_bytes c.args.ec_code_size c.remainder-ec.result c.remainder-ec.ensures.bytes)

pub returns-clause-vanishes : goal.returns-clause-vanishes
returns-clause-vanishes c =
    subst (λ ec. Vanishes (c.args.bytes.now ++ ec) c.args.ec_code_size) (sym c.in_ok-from_slice.ensures.items)
    (subst (λ n. Vanishes (c.args.bytes.now ++ take n c.remainder-ec.result) n) c.new.ensures c.remainder-ec.ensures.vanishes)

pub returns-clause-only : goal.returns-clause-only
returns-clause-only c = λ other b long v.
    one_code c.args.ec_code_size c.args.bytes.now other c.in_ok-from_slice.field-0.items b (ec_bytes c) long (ec_long c) (omega arith) v (returns-clause-vanishes c)

pub returns-clause-distance : goal.returns-clause-distance
returns-clause-distance c = λ short.
    let ec = c.in_ok-from_slice.field-0.items in
    let message = c.args.bytes.now in
    distance_above c.args.ec_code_size (message ++ ec) (bytes_append message ec (bytes_from message (λ k. omega (arith, c.type_inv.bytes k))) (ec_bytes c))
    (omega (arith, length-append message ec, ec_long c)) (returns-clause-vanishes c)
