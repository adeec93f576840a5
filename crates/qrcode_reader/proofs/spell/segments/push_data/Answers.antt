use Rattle.std.proofs.Common.{◌≡◌, ◌<◌, length, sym, ap, subst, ◌∙◌, arith, refl, inl, inr}
use Rattle.std.proofs.lemmas.Result.{err_from_is_err_and}
use Rattle.qrcode_types.specs.Modes.{length_bits_count}
use Rattle.qrcode_reader.specs.spell.Steps.{BeginsWithNumber}
use Rattle.qrcode_reader.proofs.Fronts.{no_count, no_room, no_data, is_data}
use Rattle.qrcode_reader.proofs.spell.segments.push_data.Goals as goal
use Rattle.qrcode_reader.proofs.spell.segments.push_data.Goals.{In-Some, In-Some-front}

begins : (c : In-Some) → BeginsWithNumber (length_bits_count c.args.mode c.args.version) c.args.bits.now c.in-Some.count c.in-Some.behind.now
begins c = rw (sym c.length_bits_count.ensures.value) c.in-Some.ensures.value

pub returns-in_default : goal.returns-in_default
returns-in_default c = record {
  taken = tt;
  refused = inr (refl, no_count c.args.version c.args.mode c.args.bits.now (omega (arith, c.length_bits_count.ensures.value, c.in_default.ensures.too_short)));
}

pub returns-in_default-front : goal.returns-in_default-front
returns-in_default-front c =
    let k = (goal.at.returns-in_default-front c).In-Some in
    record {
      taken = tt;
      refused = inr (refl, no_room c.args.version c.args.mode c.args.bits.now c.in-Some.count c.in-Some.behind.now (begins k) (omega (arith, c.data_bits_count.ensures, c.in_default-front.ensures.too_short)));
    }

pub returns-in_err-push_characters : goal.returns-in_err-push_characters
returns-in_err-push_characters c =
    let k = (goal.at.returns-in_err-push_characters c).In-Some in
    let p = err_from_is_err_and c.from_residual-in_err-push_characters.result c.from_residual-in_err-push_characters.ensures.1 in
    let parts = c.in-Some-front.ensures.parts in
    rw (p.1, p.2) (record {
      taken = tt;
      refused = elim c.in_err-push_characters.ensures.refused [
        | inl memory ↦ inl memory
        | inr none ↦ inr (none.0, no_data c.args.version c.args.mode c.args.bits.now c.in-Some.count c.in-Some.behind.now c.in-Some-front.characters.now c.in-Some-front.rest.now (begins k) parts.1 (parts.0 ∙ c.data_bits_count.ensures) none.1)
      ];
    })

pub returns : goal.returns
returns c =
    let k = (goal.at.returns c).In-Some in
    let parts = c.in-Some-front.ensures.parts in
    let t = c.in_ok-push_characters.ensures.taken in
    record {
      taken = (
        t.0,
        is_data c.args.version c.args.mode c.args.bits.now c.in-Some.count c.in-Some.behind.now c.in-Some-front.characters.now c.in-Some-front.rest.now t.0 (begins k) parts.1
            (parts.0 ∙ c.data_bits_count.ensures) t.1,
        t.2 ∙ ap (λ x. Rattle.std.proofs.Common.◌++◌ x t.0) c.in_ok-reserve.ensures.items,
      );
      refused = tt;
    }
