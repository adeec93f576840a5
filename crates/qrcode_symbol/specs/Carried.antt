-- What the constructors draw on a new canvas.
use Rattle.std.specs.Prelude.{◌≡◌, ◌-◌, ◌%◌, ℕ, List, ◌++◌, length, slice_index, IsTrue}
use Rattle.qrcode_types.specs.Versions.{has_level, has_half_codeword, data_length, total_ec_length}
use Rattle.qrcode_types.specs.declared.types.Version.{Version}
use Rattle.qrcode_types.specs.declared.types.EcLevel.{EcLevel}
use Rattle.qrcode_layout.specs.Masks.{exists_in}
use Rattle.qrcode_layout.specs.declared.masks.MaskPattern.{MaskPattern}
use Rattle.qrcode_symbol.specs.Canvas.{Drawing, blank, colors_of, drawn_bits, with_bits_drawn, with_patterns, with_mask}
use Rattle.qrcode_symbol.specs.declared.canvas.Module.{Module}
use Rattle.qrcode_symbol.specs.Symbol.{Carries}

-- the low half of a half codeword is zero
abbrev pub HasZeroHalf : Version → EcLevel → List ℕ → Type 0
HasZeroHalf v l bytes = IsTrue (has_half_codeword v l) → slice_index bytes (length bytes - 1) % 16 ≡ 0

-- Data and error correction bytes of the right lengths, drawn over the patterns of a new canvas, form a square that carries them, under each mask.
abbrev pub CarriesAll : Drawing → List ℕ → List ℕ → Drawing → Type 0
CarriesAll old bytes ec new =
    let v = old.version in let l = old.level in
    IsTrue (has_level v l) → old.modules ≡ with_patterns v (blank v) → length bytes ≡ data_length v l → length ec ≡ total_ec_length v l → HasZeroHalf v l bytes
    → (k : MaskPattern) → IsTrue (exists_in v k) → Carries v l (bytes ++ ec) k (colors_of (with_mask v l k new.modules))

-- the modules of a new canvas after its patterns and codewords are drawn
abbrev pub drawn_modules : Version → EcLevel → List ℕ → List ℕ → List Module
drawn_modules v l bytes ec = with_bits_drawn v (drawn_bits v l bytes ec) (with_patterns v (blank v))

-- codewords of the right lengths, drawn on a new canvas, form a square that carries them, under each mask
abbrev pub AreCarried : Version → EcLevel → List ℕ → List ℕ → Type 0
AreCarried v l bytes ec =
    length bytes ≡ data_length v l → length ec ≡ total_ec_length v l → HasZeroHalf v l bytes
    → (k : MaskPattern) → IsTrue (exists_in v k) → Carries v l (bytes ++ ec) k (colors_of (with_mask v l k (drawn_modules v l bytes ec)))
