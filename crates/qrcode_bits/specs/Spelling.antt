-- Which bytes bits decode to.
use Rattle.std.specs.Prelude.{◌≡◌, ℕ, ◌^◌, ◌<◌, not, Bool, List, [], ◌∷◌, ◌++◌, length, take, flat_map, IsTrue, IsFalse}
use Rattle.std.specs.List.{list_all}
use Rattle.qrcode_types.specs.Modes.{has_mode, length_bits_count}
use Rattle.qrcode_types.specs.Versions.{capacity, terminator_length}
use Rattle.qrcode_types.specs.declared.types.Version.{Version}
use Rattle.qrcode_types.specs.declared.types.EcLevel.{EcLevel}
use Rattle.qrcode_types.specs.Characters.{can_write, character_count}
use Rattle.qrcode_bits.specs.Written.{Piece, written_piece}

-- The pieces end here: the bits begin with the terminator, or with as much of it as is left. In Micro, the terminator looks like
-- an empty Numeric segment, so such a segment is an end. Other empty segments, and all those of Normal, are not.
abbrev pub is_end : Version → List Bool → Bool
is_end v bits = list_all not (take (terminator_length v) bits)

pub record IsReadable (v : Version) (p : Piece) : Type 0 where  -- a piece that a reader of the version accepts; it may be empty
  pub mode_exists : IsTrue (has_mode v p.mode)
  pub writable : IsTrue (can_write p.mode p.chunk)
  pub counted : character_count p.mode (length p.chunk) < 2 ^ length_bits_count p.mode v

pub record IsReadBack (v : Version) (p : Piece) : Type 0 where  -- such a piece that does not look like an end
  pub readable : IsReadable v p
  pub goes_on : IsFalse (is_end v (written_piece v p))

-- the bits are the pieces one after the other, none of which looks like an end, and then an end
abbrev pub IsReadAs : Version → List Bool → List Piece → Type 0
IsReadAs v bits [] = IsTrue (is_end v bits)
IsReadAs v bits (p ∷ pieces) = (rest : List Bool) × ((bits ≡ written_piece v p ++ rest) × (IsFalse (is_end v bits) × (IsReadable v p × IsReadAs v rest pieces)))

pub record Spells (v : Version) (bits : List Bool) (bytes : List ℕ) : Type 0 where  -- the bits decode to these bytes
  pub pieces : List Piece
  pub read : IsReadAs v bits pieces
  pub joined : flat_map (λ p. p.chunk) pieces ≡ bytes

abbrev pub IsSpelled : Version → EcLevel → List ℕ → Type 0  -- some bits that fill the symbol decode to the data
IsSpelled v l bytes = (bits : List Bool) × ((length bits ≡ capacity v l) × Spells v bits bytes)

-- the bits decode to these bytes, and to no others
pub record SpellsOnly (v : Version) (bits : List Bool) (bytes : List ℕ) : Type 0 where
  pub found : Spells v bits bytes
  pub only : (others : List ℕ) → Spells v bits others → others ≡ bytes
