-- The masks of the printed symbols are the first of lowest penalty.
use Rattle.std.proofs.Common.{pos, lit<, lit≤, arith, true≢false, sym}
use Rattle.qrcode_types.specs.Polynomials.{remainder_from, remainder}
use Rattle.qrcode_types.specs.declared.types.Version.TheVariants.{Normal, Micro}
use Rattle.qrcode_types.specs.declared.types.EcLevel.TheVariants.{L, M}
use Rattle.qrcode_layout.specs.Words.{with_check_bits, format_word}
use Rattle.qrcode_layout.specs.Figures.{figures, centres}
use Rattle.qrcode_layout.specs.Patterns.{dark_module, pattern, format_copies, format_index}
use Rattle.qrcode_layout.specs.declared.masks.MaskPattern.TheVariants.{Checkerboard, HorizontalLines, VerticalLines, DiagonalLines, LargeCheckerboard, Fields, Diamonds, Meadow}
use Rattle.qrcode_penalty.specs.Penalty.{sum_below, run_length, run_penalty, is_finder_like, finder_penalty_at, finder_penalty, block_penalty_at, block_penalty, dark_count, dark_count_in, balance_penalty, normal_penalty, light_count, micro_penalty}
use Rattle.qrcode_symbol.specs.Penalties.{penalty, remasked_at, remasked, IsFirstLeast}
use Rattle.qrcode_facts.specs.Squares.{normal_square, micro_square}

pub normal : IsFirstLeast (Normal (pos 1)) M VerticalLines normal_square
unfolding remainder_from remainder with_check_bits format_word figures centres dark_module pattern format_copies format_index sum_below run_length run_penalty is_finder_like finder_penalty_at finder_penalty block_penalty_at block_penalty dark_count dark_count_in balance_penalty normal_penalty light_count micro_penalty penalty remasked_at remasked
normal = record {
  least = elim [ Checkerboard ↦ λ _. lit≤ tt | HorizontalLines ↦ λ _. lit≤ tt | VerticalLines ↦ λ _. lit≤ tt | DiagonalLines ↦ λ _. lit≤ tt | LargeCheckerboard ↦ λ _. lit≤ tt | Fields ↦ λ _. lit≤ tt | Diamonds ↦ λ _. lit≤ tt | Meadow ↦ λ _. lit≤ tt ];
  first = elim [ Checkerboard ↦ λ _ _. lit< tt | HorizontalLines ↦ λ _ _. lit< tt | VerticalLines ↦ λ _ h. absurd (omega (arith, h)) | DiagonalLines ↦ λ _ h. absurd (omega (arith, h)) | LargeCheckerboard ↦ λ _ h. absurd (omega (arith, h)) | Fields ↦ λ _ h. absurd (omega (arith, h)) | Diamonds ↦ λ _ h. absurd (omega (arith, h)) | Meadow ↦ λ _ h. absurd (omega (arith, h)) ];
}

pub micro : IsFirstLeast (Micro (pos 2)) L LargeCheckerboard micro_square
unfolding remainder_from remainder with_check_bits format_word figures centres dark_module pattern format_copies format_index sum_below run_length run_penalty is_finder_like finder_penalty_at finder_penalty block_penalty_at block_penalty dark_count dark_count_in balance_penalty normal_penalty light_count micro_penalty penalty remasked_at remasked
micro = record {
  least = elim [ Checkerboard ↦ λ h. absurd (true≢false (sym h)) | HorizontalLines ↦ λ _. lit≤ tt | VerticalLines ↦ λ h. absurd (true≢false (sym h)) | DiagonalLines ↦ λ h. absurd (true≢false (sym h)) | LargeCheckerboard ↦ λ _. lit≤ tt | Fields ↦ λ h. absurd (true≢false (sym h)) | Diamonds ↦ λ _. lit≤ tt | Meadow ↦ λ _. lit≤ tt ];
  first = elim [ Checkerboard ↦ λ h _. absurd (true≢false (sym h)) | HorizontalLines ↦ λ _ _. lit< tt | VerticalLines ↦ λ h _. absurd (true≢false (sym h)) | DiagonalLines ↦ λ h _. absurd (true≢false (sym h)) | LargeCheckerboard ↦ λ _ h. absurd (omega (arith, h)) | Fields ↦ λ h _. absurd (true≢false (sym h)) | Diamonds ↦ λ _ h. absurd (omega (arith, h)) | Meadow ↦ λ _ h. absurd (omega (arith, h)) ];
}
