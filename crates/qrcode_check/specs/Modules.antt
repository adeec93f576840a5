-- Wrong modules of patterns.
use Rattle.std.specs.Prelude.{◌≡◌, ◌==◌, ◌&&◌, ℕ, ◌+◌, ◌*◌, nat_abs, Bool, List, [], drop, sum_by, count_by}
use Rattle.qrcode_types.specs.Bits.{number_bits, bit_distance}
use Rattle.qrcode_types.specs.Versions.{capacity, total_ec_length}
use Rattle.qrcode_types.specs.declared.types.Color.{Color}
use Rattle.qrcode_types.specs.declared.types.Version.{Version}
use Rattle.qrcode_types.specs.declared.types.Version.TheVariants.{Normal, Micro}
use Rattle.qrcode_types.specs.declared.types.EcLevel.{EcLevel}
use Rattle.qrcode_layout.specs.declared.figures.Figure.{Figure}
use Rattle.qrcode_layout.specs.declared.masks.MaskPattern.{MaskPattern}
use Rattle.qrcode_layout.specs.Figures.{alignments, version_figures}
use Rattle.qrcode_layout.specs.Patterns.{format_copies}
use Rattle.qrcode_layout.specs.Words.{format_word}
use Rattle.qrcode_layout.specs.Stream.{stream}
use Rattle.qrcode_symbol.specs.Symbol.{bits_at}
use Rattle.qrcode_reader.specs.Figures.{wrong_of, finder_figures, timing_figures, dark_figures}
use Rattle.qrcode_check.specs.declared.modules.WrongModules.{WrongModules}

abbrev pub word_figures_of : Version → List Figure  -- the copies of the version word
word_figures_of (Normal n) = version_figures (4 * nat_abs n + 17)
word_figures_of (Micro n) = []

-- how many bits of all copies of the format word are not those of the level and mask
abbrev pub wrong_format : Version → EcLevel → MaskPattern → List Color → ℕ
wrong_format v l k s = sum_by (λ places. bit_distance (bits_at v s places) (number_bits 15 (format_word v l k))) (format_copies v)

-- how many remainder bits are not zero
abbrev pub wrong_remainder : Version → EcLevel → MaskPattern → List Color → ℕ
wrong_remainder v l k s = count_by (λ b. b) (drop (capacity v l + 8 * total_ec_length v l) (stream v k s))

-- how many modules of each kind are wrong
pub record AreWrongModules (v : Version) (l : EcLevel) (k : MaskPattern) (s : List Color) (w : WrongModules) : Type 0 where
  pub finder : w.finder ≡ wrong_of v s (finder_figures v)
  pub alignment : w.alignment ≡ wrong_of v s (alignments v)
  pub timing : w.timing ≡ wrong_of v s (timing_figures v)
  pub format : w.format ≡ wrong_format v l k s + wrong_of v s (dark_figures v)
  pub version : w.version ≡ wrong_of v s (word_figures_of v)
  pub remainder : w.remainder ≡ wrong_remainder v l k s

abbrev pub are_right : WrongModules → Bool  -- no module is wrong
are_right w = w.finder == 0 && (w.alignment == 0 && (w.timing == 0 && (w.format == 0 && (w.version == 0 && w.remainder == 0))))
