use Rattle.std.proofs.Common.{is_some, sym, ap, ◌∙◌}
use Rattle.qrcode_damage.proofs.Wrong.{other_is}
use Rattle.qrcode_damage.proofs.patterns.is_pattern_place.Goals as goal

pub returns : goal.returns
returns c =
    c.is_functional_place.ensures
    ∙ other_is c.args.version c.args.x c.args.y (ap is_some (sym c.format_index.ensures.value) ∙ sym c.is_some.ensures ∙ c.if-is_some.false)
    (sym c.is_version_place.ensures ∙ c.if-is_version_place.false)
