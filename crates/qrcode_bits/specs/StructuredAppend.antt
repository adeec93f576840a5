-- Data that is split over several symbols (structured append, ISO/IEC 18004:2006, 8).
use Rattle.std.specs.Prelude.{◌≡◌, ℕ, ◌<◌, ◌==◌, bit_xor, false, Bool, List, [], ◌∷◌, ◌++◌, if◌then◌else◌}
use Rattle.qrcode_types.specs.Bits.{number_bits}
use Rattle.qrcode_types.specs.Versions.{is_micro}
use Rattle.qrcode_types.specs.declared.types.Version.{Version}
use Rattle.qrcode_bits.specs.Spelling.{Spells}

abbrev pub parity : List ℕ → ℕ  -- the XOR of all bytes
parity [] = 0
parity (b ∷ bytes) = bit_xor b (parity bytes)

-- The mode indicator 0011; the places of the symbol and of the last one, from 0, in four bits each; and the parity of the
-- whole data in eight.
unfoldable pub append_header : ℕ → ℕ → ℕ → List Bool
append_header place last parity = number_bits 4 3 ++ (number_bits 4 place ++ (number_bits 4 last ++ number_bits 8 parity))

-- the bits before the segments: the header of a symbol that is one of several; nothing if it is the only one
abbrev pub append_front : ℕ → ℕ → ℕ → List Bool
append_front place last parity = if last == 0 then [] else append_header place last parity

-- the bits decode to these bytes, as the symbol `place` of 0 to `last`; Micro has no such header
pub record SpellsPart (v : Version) (bits : List Bool) (place last parity : ℕ) (bytes : List ℕ) : Type 0 where
  pub exists : 0 < last → is_micro v ≡ false
  pub rest : List Bool
  pub parted : bits ≡ append_front place last parity ++ rest
  pub spelled : Spells v rest bytes
