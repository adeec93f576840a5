-- Words that the standard prints, and the lists of versions, levels, masks and modes that the rows go through.
use Rattle.std.specs.Prelude.{ℕ, pos, nat_le, ◌&&◌, Bool, true, List, [], ◌∷◌}
use Rattle.std.specs.List.{list_all}
use Rattle.qrcode_types.specs.Bits.{number_bits, bit_distance}
use Rattle.qrcode_types.specs.declared.types.EcLevel.{EcLevel}
use Rattle.qrcode_types.specs.declared.types.EcLevel.TheVariants.{L, M, Q, H}
use Rattle.qrcode_types.specs.declared.types.Mode.{Mode}
use Rattle.qrcode_types.specs.declared.types.Mode.TheVariants.{Numeric, Alphanumeric, Byte, Kanji}
use Rattle.qrcode_types.specs.declared.types.Version.{Version}
use Rattle.qrcode_types.specs.declared.types.Version.TheVariants.{Normal, Micro}
use Rattle.qrcode_layout.specs.declared.masks.MaskPattern.{MaskPattern}
use Rattle.qrcode_layout.specs.declared.masks.MaskPattern.TheVariants.{Checkerboard, HorizontalLines, VerticalLines, DiagonalLines, LargeCheckerboard, Fields, Diamonds, Meadow}

-- the format words of Normal: one line for each of the levels M, L, H and Q, with a word for each mask
abbrev pub normal_words : List ℕ
normal_words =
    0x5412 ∷ 0x5125 ∷ 0x5e7c ∷ 0x5b4b ∷ 0x45f9 ∷ 0x40ce ∷ 0x4f97 ∷ 0x4aa0 ∷
    0x77c4 ∷ 0x72f3 ∷ 0x7daa ∷ 0x789d ∷ 0x662f ∷ 0x6318 ∷ 0x6c41 ∷ 0x6976 ∷
    0x1689 ∷ 0x13be ∷ 0x1ce7 ∷ 0x19d0 ∷ 0x0762 ∷ 0x0255 ∷ 0x0d0c ∷ 0x083b ∷
    0x355f ∷ 0x3068 ∷ 0x3f31 ∷ 0x3a06 ∷ 0x24b4 ∷ 0x2183 ∷ 0x2eda ∷ 0x2bed ∷ []

-- the format words of Micro: one line for each version and level, with a word for each mask
abbrev pub micro_words : List ℕ
micro_words =
    0x4445 ∷ 0x4172 ∷ 0x4e2b ∷ 0x4b1c ∷
    0x55ae ∷ 0x5099 ∷ 0x5fc0 ∷ 0x5af7 ∷
    0x6793 ∷ 0x62a4 ∷ 0x6dfd ∷ 0x68ca ∷
    0x7678 ∷ 0x734f ∷ 0x7c16 ∷ 0x7921 ∷
    0x06de ∷ 0x03e9 ∷ 0x0cb0 ∷ 0x0987 ∷
    0x1735 ∷ 0x1202 ∷ 0x1d5b ∷ 0x186c ∷
    0x2508 ∷ 0x203f ∷ 0x2f66 ∷ 0x2a51 ∷
    0x34e3 ∷ 0x31d4 ∷ 0x3e8d ∷ 0x3bba ∷ []

abbrev pub version_words : List ℕ  -- the version words of Normal 7 to Normal 40
version_words =
    0x07c94 ∷ 0x085bc ∷ 0x09a99 ∷ 0x0a4d3 ∷ 0x0bbf6 ∷ 0x0c762 ∷ 0x0d847 ∷ 0x0e60d ∷
    0x0f928 ∷ 0x10b78 ∷ 0x1145d ∷ 0x12a17 ∷ 0x13532 ∷ 0x149a6 ∷ 0x15683 ∷ 0x168c9 ∷
    0x177ec ∷ 0x18ec4 ∷ 0x191e1 ∷ 0x1afab ∷ 0x1b08e ∷ 0x1cc1a ∷ 0x1d33f ∷ 0x1ed75 ∷
    0x1f250 ∷ 0x209d5 ∷ 0x216f0 ∷ 0x228ba ∷ 0x2379f ∷ 0x24b0b ∷ 0x2542e ∷ 0x26a64 ∷
    0x27541 ∷ 0x28c69 ∷ []

abbrev pub masks : List MaskPattern  -- the masks in the order of their numbers
masks = Checkerboard ∷ HorizontalLines ∷ VerticalLines ∷ DiagonalLines ∷ LargeCheckerboard ∷ Fields ∷ Diamonds ∷ Meadow ∷ []

abbrev pub micro_masks : List MaskPattern  -- the masks of Micro in the order of their numbers there
micro_masks = HorizontalLines ∷ LargeCheckerboard ∷ Diamonds ∷ Meadow ∷ []

abbrev pub levels : List EcLevel  -- the levels in the order of their two bits
levels = M ∷ L ∷ H ∷ Q ∷ []

-- the pairs of a Micro version and a level, in the order of their three bits
abbrev pub micro_pairs : List (ℕ × EcLevel)
micro_pairs = (1, L) ∷ (2, L) ∷ (2, M) ∷ (3, L) ∷ (3, M) ∷ (4, L) ∷ (4, M) ∷ (4, Q) ∷ []

-- any two of the numbers differ in at least that many of their eighteen lowest bits
abbrev pub are_apart : ℕ → List ℕ → Bool
are_apart least [] = true
are_apart least (w ∷ ws) = list_all (λ u. nat_le least (bit_distance (number_bits 18 w) (number_bits 18 u))) ws && are_apart least ws

abbrev pub modes : List Mode  -- the modes in the order of the standard's tables
modes = Numeric ∷ Alphanumeric ∷ Byte ∷ Kanji ∷ []

abbrev pub band_ends : List Version  -- the first and the last version of each band
band_ends = Normal (pos 1) ∷ Normal (pos 9) ∷ Normal (pos 10) ∷ Normal (pos 26) ∷ Normal (pos 27) ∷ Normal (pos 40) ∷ []

abbrev pub micro_versions : List Version  -- the versions of Micro
micro_versions = Micro (pos 1) ∷ Micro (pos 2) ∷ Micro (pos 3) ∷ Micro (pos 4) ∷ []

abbrev pub ends_of_pairs : List ℕ  -- Kanji pairs at the ends of the ranges of first and second bytes
ends_of_pairs = 0x8140 ∷ 0x817e ∷ 0x8180 ∷ 0x81fc ∷ 0x9f40 ∷ 0x9ffc ∷ 0xe040 ∷ 0xe07e ∷ 0xea80 ∷ 0xeafc ∷ 0xeb40 ∷ 0xeb7e ∷ 0xeb80 ∷ 0xebbf ∷ []

abbrev pub beside_pairs : List ℕ  -- two bytes next to these ranges, which are no Kanji pair
beside_pairs = 0x8040 ∷ 0x80fc ∷ 0x813f ∷ 0x817f ∷ 0x81fd ∷ 0x9ffd ∷ 0xa040 ∷ 0xdffc ∷ 0xe03f ∷ 0xea7f ∷ 0xeafd ∷ 0xeb3f ∷ 0xeb7f ∷ 0xebc0 ∷ 0xec40 ∷ []
