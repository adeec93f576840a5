-- Which characters a reader shows for bits.
use Rattle.std.specs.Prelude.{◌≡◌, ◌⊎◌, ℕ, Bool, List, [], ◌∷◌, ◌++◌, encode_utf8_all, IsTrue}
use Rattle.std.specs.Str.{all_scalars}
use Rattle.qrcode_types.specs.declared.types.Version.{Version}
use Rattle.qrcode_bits.specs.Manners.{front, has_front}
use Rattle.qrcode_bits.specs.ModeSets.{is_among, text_modes}
use Rattle.qrcode_bits.specs.Spelling.{IsReadAs}
use Rattle.qrcode_bits.specs.Written.{Piece}
use Rattle.qrcode_bits.specs.declared.bits.manner.Manner.TheVariants.{MarkedText}

-- A reader decodes the bytes of a segment as UTF-8; so it shows digits and letters as themselves. Nothing is said about Kanji
-- segments, which readers decode as Shift JIS.
pub record IsPieceShown (p : Piece) (text : List ℕ) : Type 0 where
  pub mode : IsTrue (is_among text_modes p.mode)
  pub characters : IsTrue (all_scalars text)
  pub utf8 : encode_utf8_all text ≡ p.chunk

abbrev pub ArePiecesShown : List Piece → List ℕ → Type 0  -- each segment is shown on its own, one after the other
ArePiecesShown [] text = text ≡ []
ArePiecesShown (p ∷ pieces) text = (first rest : List ℕ) × ((text ≡ first ++ rest) × (IsPieceShown p first × ArePiecesShown pieces rest))

abbrev pub IsFront : Version → List Bool → Type 0  -- before the segments there is nothing, or the ECI designator 26 (UTF-8)
IsFront v bits = (bits ≡ []) ⊎ (IsTrue (has_front v MarkedText) × (bits ≡ front MarkedText))

-- a reader shows these characters for the bits
pub record Shows (v : Version) (bits : List Bool) (text : List ℕ) : Type 0 where
  pub before : List Bool
  pub rest : List Bool
  pub is_front : IsFront v before
  pub parted : bits ≡ before ++ rest
  pub pieces : List Piece
  pub read : IsReadAs v rest pieces
  pub shown : ArePiecesShown pieces text

-- a reader shows these characters for the bits, and no others
pub record ShowsOnly (v : Version) (bits : List Bool) (text : List ℕ) : Type 0 where
  pub found : Shows v bits text
  pub only : (others : List ℕ) → Shows v bits others → others ≡ text
