use Rattle.std.proofs.Common.{◌≡◌, pos, nat_abs, to_z, of_z, w16, arith, rules}
use Rattle.std.proofs.lemmas.Result.{IfErr-weaker}
use Rattle.qrcode_types.specs.declared.types.Version.TheVariants.{Normal}
use Rattle.qrcode_append.proofs.Choices.{one_refused}
use Rattle.qrcode_append.proofs.choice.encode_as.Goals as goal

pub returns-clause-accepts : goal.returns-clause-accepts
returns-clause-accepts c =
    let n = nat_abs (to_z w16 (of_z w16 c.in-Normal.number)) in
    let same : c.args.version ≡ Normal (pos n) = search rules in
    rw same (λ count held. c.encode_among.ensures.accepts n count (omega arith, omega arith) held)

pub returns-clause-causes : goal.returns-clause-causes
returns-clause-causes c =
    let n = nat_abs (to_z w16 (of_z w16 c.in-Normal.number)) in
    let same : c.args.version ≡ Normal (pos n) = search rules in
    rw same (IfErr-weaker _ _ _ (one_refused c.args.manner n c.args.ec_level c.args.bytes.now) c.encode_among.ensures.causes)
