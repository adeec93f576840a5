use Rattle.std.proofs.Common.{Some, None, sym, ◌∙◌}
use Rattle.qrcode_damage.proofs.Wrong.{wrong_by_index}
use Rattle.qrcode_damage.proofs.errors.Errors.is_wrong.Goals as goal

pub returns-in-Some : goal.returns-in-Some
returns-in-Some c =
    c.is_format_wrong.ensures
    ∙ sym (wrong_by_index c.args.version c.args.self.now c.args.x c.args.y (Some c.in-Some.i) (sym c.format_index.ensures.value ∙ c.in-Some.is))

pub returns-in-None : goal.returns-in-None
returns-in-None c =
    c.is_other_wrong.ensures ∙ sym (wrong_by_index c.args.version c.args.self.now c.args.x c.args.y None (sym c.format_index.ensures.value ∙ c.in-None.is))
