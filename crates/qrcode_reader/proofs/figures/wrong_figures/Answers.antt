use Rattle.std.proofs.Common.{sym, ap, ◌∙◌}
use Rattle.qrcode_reader.specs.Figures.{wrong_of}
use Rattle.qrcode_reader.proofs.PatternKinds.{normal_kinds}
use Rattle.qrcode_reader.proofs.figures.wrong_figures.Goals as goal

pub returns-clause-finder : goal.returns-clause-finder
returns-clause-finder c =
    let v = c.args.version in
    c.wrong_of-2.ensures.value
    ∙ ap (wrong_of v c.args.modules.now) (normal_kinds v c.side-2.result c.normal_figures-figures.result (sym c.is_micro.ensures ∙ c.if-is_micro.false) c.side-2.ensures.value c.normal_figures-figures.ensures).0
