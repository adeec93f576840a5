use Rattle.qrcode_layout.proofs.WordTables.{normal_word, micro_word}
use Rattle.qrcode_layout.proofs.words.format_word.Goals as goal

pub returns-in-Normal : goal.returns-in-Normal
returns-in-Normal c = normal_word _ _ _ _ _ c.in-Normal.is c.requires.level c.requires.mask c.word_index-index.ensures

pub returns-in-Micro : goal.returns-in-Micro
returns-in-Micro c = micro_word _ _ _ _ _ c.in-Micro.is c.requires.level c.requires.mask c.word_index-index.ensures
