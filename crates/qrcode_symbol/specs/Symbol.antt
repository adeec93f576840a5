-- What makes a square the symbol of some bits, and how much damage it survives.
use Rattle.std.specs.Prelude.{◌≡◌, ◌+◌, ◌*◌, ◌/◌, ◌<◌, ◌≤◌, ℕ, Bool, not, List, length, map, drop, IfSome, IsTrue}
use Rattle.std.specs.List.{list_all, AllZip, AllByRecursion}
use Rattle.qrcode_types.specs.Bits.{number_bits, bit_distance}
use Rattle.qrcode_types.specs.Colors.{is_dark}
use Rattle.qrcode_types.specs.Versions.{side, capacity, ec_length, total_ec_length}
use Rattle.qrcode_types.specs.declared.types.Version.{Version}
use Rattle.qrcode_types.specs.declared.types.EcLevel.{EcLevel}
use Rattle.qrcode_types.specs.declared.types.Color.{Color}
use Rattle.qrcode_ec.specs.Codes.{Vanishes, distance}
use Rattle.qrcode_ec.specs.Blocks.{codewords, blocks, data_bits}
use Rattle.qrcode_layout.specs.Words.{format_word}
use Rattle.qrcode_layout.specs.Patterns.{pattern, format_copies}
use Rattle.qrcode_layout.specs.Stream.{color_at, stream}
use Rattle.qrcode_layout.specs.declared.masks.MaskPattern.{MaskPattern}

-- the bits at these places
abbrev pub bits_at : Version → List Color → List (ℕ × ℕ) → List Bool
bits_at v s places = map (λ p. is_dark (color_at v s p.0 p.1)) places

-- the blocks in a square under a mask
abbrev pub blocks_in : Version → EcLevel → MaskPattern → List Color → List (List ℕ)
blocks_in v l k s = blocks v l (codewords v l (stream v k s))

-- a square with the functional patterns, and with the format word in each of its copies
pub record HasPatterns (v : Version) (l : EcLevel) (k : MaskPattern) (s : List Color) : Type 0 where
  pub square : length s ≡ side v * side v
  pub pattern : (x y : ℕ) → x < side v → y < side v → IfSome (pattern v x y) (λ c. color_at v s x y ≡ c)
  pub format : AllByRecursion (λ places. bits_at v s places ≡ number_bits 15 (format_word v l k)) (format_copies v)

-- the bits of the stream after the codewords are zero
abbrev pub HasZeroRemainder : Version → EcLevel → MaskPattern → List Color → Type 0
HasZeroRemainder v l k s = IsTrue (list_all not (drop (capacity v l + 8 * total_ec_length v l) (stream v k s)))

-- a square of these codewords under a mask: with patterns, format word, the codewords in order, and a remainder of zeros
pub record Carries (v : Version) (l : EcLevel) (words : List ℕ) (k : MaskPattern) (s : List Color) : Type 0 where
  pub patterns : HasPatterns v l k s
  pub holds : codewords v l (stream v k s) ≡ words
  pub remainder : HasZeroRemainder v l k s

-- s are the colours, in row order, of the symbol that holds the bits under mask k
pub record IsSymbol (v : Version) (l : EcLevel) (bits : List Bool) (k : MaskPattern) (s : List Color) : Type 0 where
  pub patterns : HasPatterns v l k s
  pub holds : data_bits v l (blocks_in v l k s) ≡ bits
  pub vanishes : AllByRecursion (λ b. Vanishes b (ec_length v l)) (blocks_in v l k s)
  pub remainder : HasZeroRemainder v l k s

-- a square of the same size that differs in at most three bits of each copy of the format word and, in each block, in at most half as many codewords
-- as it has for error correction
pub record IsDamaged (v : Version) (l : EcLevel) (k : MaskPattern) (s other : List Color) : Type 0 where
  pub square : length other ≡ length s
  pub format : AllByRecursion (λ places. bit_distance (bits_at v s places) (bits_at v other places) ≤ 3) (format_copies v)
  pub blocks : AllZip (λ b c. distance b c ≤ ec_length v l / 2) (blocks_in v l k s) (blocks_in v l k other)
