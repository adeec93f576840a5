use Rattle.std.proofs.Common.{refl}
use Rattle.qrcode_layout.specs.Figures.{figures, centres}
use Rattle.qrcode_layout.specs.Patterns.{dark_module, pattern, format_copies, format_index, is_functional_place}
use Rattle.qrcode_layout.specs.Stream.{zigzag_place, zigzag, free_places}
use Rattle.qrcode_facts.proofs.symbols.free_places.Goals as goal

pub returns-clause-normal : goal.returns-clause-normal
unfolding figures centres dark_module pattern format_copies format_index is_functional_place zigzag_place zigzag free_places
returns-clause-normal c = refl

pub returns-clause-micro : goal.returns-clause-micro
unfolding figures centres dark_module pattern format_copies format_index is_functional_place zigzag_place zigzag free_places
returns-clause-micro c = refl
