use Rattle.std.proofs.Common.{w16, pos, ap, sym, ◌∙◌, arith}
use denote.Enum.Bare.{differs_true}
use Rattle.std.proofs.lemmas.Int.{to_z_pos}
use Rattle.qrcode_types.specs.declared.types.Version.TheVariants.{Normal}
use Rattle.goqlanis_buffers.specs.contracts.answers.Refusal.{the_type}
use Rattle.goqlanis_buffers.specs.declared.answers.Refusal.TheVariants.{NoRoom}
use Rattle.goqlanis_buffers.proofs.Least.{in_none, least_held, lasting, named_normal, no_room_more}
use Rattle.goqlanis_buffers.proofs.segments.smallest_version.Goals as goal

pub returns-in-Ok : goal.returns-in-Ok
returns-in-Ok c =
    let number = c.loop-number.number in
    let named = ap Normal (to_z_pos w16 number (omega (arith, c.loop-number-test.true))) in
    let least = least_held number _ c.in-Some.ec_level c.args.segments.now named (record { exists = c.in-Ok.ensures.exists; taken = c.in-Ok.ensures.taken; room = c.in-Ok.ensures.room }) c.loop-number.invariant.1 in
    let by_number = named_normal number c.loop-number.invariant.0 (omega (arith, c.loop-number-test.true)) in record {
      made = (c.in-Some.ec_level, (Normal (pos number), (sym c.level_named.ensures.value ∙ c.in-Some.is, (by_number, least))));
      causes = tt;
    }

pub returns-in-Err : goal.returns-in-Err
returns-in-Err c =
    let number = c.loop-number.number in
    let named = ap Normal (to_z_pos w16 number (omega (arith, c.loop-number-test.true))) in
    let last = lasting number c.args.level _ c.in-Some.ec_level c.args.segments.now c.in-Err.refusal named c.loop-number.invariant.0 (omega (arith, c.loop-number-test.true))
    (sym c.level_named.ensures.value ∙ c.in-Some.is) (differs_true the_type c.in-Err.refusal NoRoom (sym c.if-ne.ensures)) c.in-Err.ensures.causes c.loop-number.invariant.1 in
    record { made = tt; causes = last }

pub loop-number-preserved : goal.loop-number-preserved
loop-number-preserved c =
    let number = c.loop-number.number in
    let named = ap Normal (to_z_pos w16 number (omega (arith, c.loop-number-test.true))) in (
      omega arith,
      no_room_more number _ c.in-Some.ec_level c.args.segments.now _ named c.loop-number.invariant.0 (omega (arith, c.loop-number-test.true)) c.if-ne.ensures
          c.in-Err.ensures.causes c.loop-number.invariant.1,
    )

pub returns : goal.returns
returns c =
    let none = in_none c.args.level c.loop-number.number c.in-Some.ec_level c.args.segments.now (sym c.level_named.ensures.value ∙ c.in-Some.is)
    (omega (arith, c.loop-number-test.false)) c.loop-number.invariant.1 in
    record { made = tt; causes = none }
