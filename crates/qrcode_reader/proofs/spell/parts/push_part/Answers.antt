use Rattle.std.proofs.Common.{inl, inr}
use Rattle.std.proofs.lemmas.Result.{err_from_is_err_and}
use Rattle.qrcode_reader.proofs.Parted.{no_part}
use Rattle.qrcode_reader.proofs.spell.parts.push_part.Goals as goal

pub returns-in_err-mode : goal.returns-in_err-mode
returns-in_err-mode c =
    let p = err_from_is_err_and c.from_residual.result c.from_residual.ensures.1 in
    rw (p.1, p.2) (record {
      taken = tt;
      refused = elim c.in_err-mode.ensures.refused [
        | inl memory ↦ inl memory
        | inr none ↦ inr (none.0, no_part c.args.version c.args.bits.now c.in_default.ensures.none none.1)
      ];
    })
