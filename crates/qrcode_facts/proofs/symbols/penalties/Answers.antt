use Rattle.std.proofs.Common.{refl}
use Rattle.qrcode_types.specs.Polynomials.{remainder_from, remainder}
use Rattle.qrcode_layout.specs.Words.{with_check_bits, format_word}
use Rattle.qrcode_layout.specs.Figures.{figures, centres}
use Rattle.qrcode_layout.specs.Patterns.{dark_module, pattern, format_copies, format_index}
use Rattle.qrcode_penalty.specs.Penalty.{sum_below, run_length, run_penalty, is_finder_like, finder_penalty_at, finder_penalty, block_penalty_at, block_penalty, dark_count, dark_count_in, balance_penalty, normal_penalty, light_count, micro_penalty}
use Rattle.qrcode_symbol.specs.Penalties.{penalty, remasked_at, remasked}
use Rattle.qrcode_facts.proofs.symbols.penalties.Goals as goal

pub returns-clause-light : goal.returns-clause-light
unfolding sum_below run_length run_penalty is_finder_like finder_penalty_at finder_penalty block_penalty_at block_penalty dark_count dark_count_in balance_penalty normal_penalty
returns-clause-light c = refl

pub returns-clause-normal : goal.returns-clause-normal
unfolding remainder_from remainder with_check_bits format_word figures centres dark_module pattern format_copies format_index sum_below run_length run_penalty is_finder_like finder_penalty_at finder_penalty block_penalty_at block_penalty dark_count dark_count_in balance_penalty normal_penalty penalty remasked_at remasked
returns-clause-normal c = refl

pub returns-clause-micro : goal.returns-clause-micro
unfolding remainder_from remainder with_check_bits format_word figures centres dark_module pattern format_copies format_index sum_below light_count micro_penalty penalty remasked_at remasked
returns-clause-micro c = refl
