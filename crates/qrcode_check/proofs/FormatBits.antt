-- The wrong bits of the copies of the format word.
use Rattle.std.proofs.Common.{◌≡◌, ◌+◌, ℕ, List, Bool, true, false, length, map, ap, ap₂, ◌∙◌, arith}
use Rattle.std.specs.List.{range_with_len}
use Rattle.std.proofs.lemmas.List.{length-map}
use Rattle.std.proofs.lemmas.List.FromFn.{length-map-range_with_len}
use Rattle.qrcode_types.specs.Bits.{number_bits, bit_distance}
use Rattle.qrcode_types.specs.Colors.{is_dark}
use Rattle.qrcode_types.specs.Versions.{is_micro}
use Rattle.qrcode_types.specs.declared.types.Version.{Version}
use Rattle.qrcode_types.specs.declared.types.Version.TheVariants.{Normal, Micro}
use Rattle.qrcode_types.specs.declared.types.EcLevel.{EcLevel}
use Rattle.qrcode_types.specs.declared.types.Color.{Color}
use Rattle.qrcode_layout.specs.Patterns.{format_copies}
use Rattle.qrcode_layout.specs.Stream.{color_at}
use Rattle.qrcode_layout.specs.Words.{format_word}
use Rattle.qrcode_layout.specs.declared.masks.MaskPattern.{MaskPattern}
use Rattle.qrcode_symbol.specs.Symbol.{bits_at}
use Rattle.qrcode_reader.specs.Formats.{copy_place}
use Rattle.qrcode_reader.specs.declared.formats.FormatCopy.{FormatCopy}
use Rattle.qrcode_reader.specs.declared.formats.FormatCopy.TheVariants.{First, Last}
use Rattle.qrcode_check.specs.Modules.{wrong_format}

-- the bits of a copy
abbrev pub copy_at : FormatCopy → Version → List Color → List Bool
copy_at c v s = bits_at v s (map (copy_place c v) (range_with_len 0 15))

long : (c : FormatCopy) (v : Version) (s : List Color) (bits : List Bool) → bits ≡ copy_at c v s → length bits ≡ 15
long c v s bits e = ap length e ∙ length-map (map (copy_place c v) (range_with_len 0 15)) (λ (p : ℕ × ℕ). is_dark (color_at v s p.0 p.1)) ∙ length-map-range_with_len (copy_place c v) 0 15

-- in how many bits a copy differs from a word
pub copy_is : (c : FormatCopy) (v : Version) (s : List Color) (bits : List Bool) (w word d : ℕ) → bits ≡ copy_at c v s → w ≡ word → d ≡ bit_distance bits (number_bits (length bits) w)
    → d ≡ bit_distance (copy_at c v s) (number_bits 15 word)
copy_is c v s bits w word d e f h =
    h ∙ ap (λ (n : ℕ). bit_distance bits (number_bits n w)) (long c v s bits e) ∙ ap₂ (λ (b : List Bool) (x : ℕ). bit_distance b (number_bits 15 x)) e f

-- the wrong bits of all copies
pub micro_format : (v : Version) (l : EcLevel) (k : MaskPattern) (s : List Color) (d : ℕ) → is_micro v ≡ true → d ≡ bit_distance (copy_at First v s) (number_bits 15 (format_word v l k)) → d ≡ wrong_format v l k s
unfolding format_copies
micro_format (Normal n) l k s d micro e = absurd (cc)
micro_format (Micro n) l k s d micro e = omega (arith, e)

pub normal_format : (v : Version) (l : EcLevel) (k : MaskPattern) (s : List Color) (d e : ℕ) → is_micro v ≡ false → d ≡ bit_distance (copy_at First v s) (number_bits 15 (format_word v l k))
    → e ≡ bit_distance (copy_at Last v s) (number_bits 15 (format_word v l k)) → d + e ≡ wrong_format v l k s
unfolding format_copies
normal_format (Micro n) l k s d e normal f g = absurd (cc)
normal_format (Normal n) l k s d e normal f g = omega (arith, f, g)
