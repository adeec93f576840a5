use Rattle.qrcode_layout.proofs.WordLaws.{version_words_are_apart, format_words_are_apart}
use Rattle.qrcode_layout.proofs.laws.words.Goals as goal

pub returns-clause-versions : goal.returns-clause-versions
returns-clause-versions c = version_words_are_apart

pub returns-clause-formats : goal.returns-clause-formats
returns-clause-formats c = format_words_are_apart
