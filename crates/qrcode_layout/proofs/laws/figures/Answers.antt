use Rattle.qrcode_layout.proofs.Agreements.{figures_fit, figures_agree, format_places_are_no_patterns}
use Rattle.qrcode_layout.proofs.laws.figures.Goals as goal

pub returns-clause-fit : goal.returns-clause-fit
returns-clause-fit c = figures_fit

pub returns-clause-agree : goal.returns-clause-agree
returns-clause-agree c = figures_agree

pub returns-clause-apart : goal.returns-clause-apart
returns-clause-apart c = format_places_are_no_patterns
