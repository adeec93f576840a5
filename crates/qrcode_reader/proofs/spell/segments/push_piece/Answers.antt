use Rattle.std.proofs.Common.{sym, subst, arith, refl, inl, inr}
use Rattle.std.proofs.lemmas.Result.{err_from_is_err_and}
use Rattle.qrcode_types.specs.Modes.{mode_bits_count}
use Rattle.qrcode_reader.specs.spell.Steps.{BeginsWithNumber}
use Rattle.qrcode_reader.proofs.Fronts.{no_indicator, no_mode, no_piece, is_piece}
use Rattle.qrcode_reader.proofs.spell.segments.push_piece.Goals as goal
use Rattle.qrcode_reader.proofs.spell.segments.push_piece.Goals.{In-Some}

begins : (c : In-Some) → BeginsWithNumber (mode_bits_count c.args.version) c.args.bits.now c.in-Some.number c.in-Some.behind.now
begins c = rw (sym c.mode_bits_count.ensures) c.in-Some.ensures.value

pub returns-in_default : goal.returns-in_default
returns-in_default c = record {
  taken = tt;
  refused = inr (refl, no_indicator c.args.version c.args.bits.now (omega (arith, c.mode_bits_count.ensures, c.in_default.ensures.too_short)));
}

pub returns-in_default-mode_of : goal.returns-in_default-mode_of
returns-in_default-mode_of c = record {
  taken = tt;
  refused = inr (refl, no_mode c.args.version c.args.bits.now c.in-Some.number c.in-Some.behind.now (begins (goal.at.returns-in_default-mode_of c).In-Some) c.in_default-mode_of.ensures.none);
}

pub returns-in_err-rest : goal.returns-in_err-rest
returns-in_err-rest c =
    let k = (goal.at.returns-in_err-rest c).In-Some in
    let p = err_from_is_err_and c.from_residual.result c.from_residual.ensures.1 in
    rw (p.1, p.2) (record {
      taken = tt;
      refused = elim c.in_err-rest.ensures.refused [
        | inl memory ↦ inl memory
        | inr none ↦ inr (none.0, no_piece c.args.version c.args.bits.now c.in-Some.number c.in-Some.behind.now c.in-Some-mode_of.mode (begins k) c.in-Some-mode_of.ensures.some.1 none.1)
      ];
    })

pub returns : goal.returns
returns c =
    let t = c.in_ok-rest.ensures.taken in
    let b = subst (λ n. BeginsWithNumber (mode_bits_count c.args.version) c.args.bits.now n c.in-Some.behind.now) (sym c.in-Some-mode_of.ensures.some.1) (begins (goal.at.returns c).In-Some) in
    record {
      taken = (t.0, is_piece c.args.version c.args.bits.now c.in-Some-mode_of.mode c.in-Some.behind.now t.0 c.in_ok-rest.rest.now c.in-Some-mode_of.ensures.some.0 b t.1, t.2);
      refused = tt;
    }
