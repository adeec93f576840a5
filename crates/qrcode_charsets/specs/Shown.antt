-- Which characters a reader shows that follows ECI designators.
use Rattle.std.specs.Prelude.{◌≡◌, ℕ, Bool, List, [], ◌∷◌, ◌++◌, IsTrue}
use Rattle.qrcode_types.specs.declared.types.Version.{Version}
use Rattle.qrcode_types.specs.declared.types.EcLevel.{EcLevel}
use Rattle.qrcode_types.specs.declared.types.Color.{Color}
use Rattle.qrcode_layout.specs.declared.masks.MaskPattern.{MaskPattern}
use Rattle.qrcode_symbol.specs.Symbol.{IsDamaged}
use Rattle.qrcode_symbol.specs.Reading.{ReadsBits}
use Rattle.qrcode_bits.specs.ModeSets.{is_among}
use Rattle.qrcode_bits.specs.Spelling.{IsReadAs}
use Rattle.qrcode_bits.specs.Written.{Piece}
use Rattle.qrcode.specs.Drawing.{IsMaskOf}
use Rattle.qrcode_charsets.specs.Charsets.{IsWritten}
use Rattle.qrcode_charsets.specs.Fronts.{front, has_front, charset_modes}
use Rattle.qrcode_charsets.specs.declared.sets.Charset.{Charset}

-- A reader decodes the bytes of a segment in the set. Nothing is said about segments in other modes than those of the set.
pub record IsPieceShown (c : Charset) (p : Piece) (text : List ℕ) : Type 0 where
  pub mode : IsTrue (is_among (charset_modes c) p.mode)
  pub written : IsWritten c text p.chunk

abbrev pub ArePiecesShown : Charset → List Piece → List ℕ → Type 0  -- each segment is shown on its own, one after the other
ArePiecesShown c [] text = text ≡ []
ArePiecesShown c (p ∷ pieces) text = (first rest : List ℕ) × ((text ≡ first ++ rest) × (IsPieceShown c p first × ArePiecesShown c pieces rest))

-- a reader shows these characters for the bits: before the segments there is what names the set, and they are decoded in it
pub record ShowsIn (c : Charset) (v : Version) (bits : List Bool) (text : List ℕ) : Type 0 where
  pub front_exists : IsTrue (has_front v c)
  pub rest : List Bool
  pub parted : bits ≡ front c ++ rest
  pub pieces : List Piece
  pub read : IsReadAs v rest pieces
  pub shown : ArePiecesShown c pieces text

-- it shows these characters in this set, and no others in this or any other set
pub record ShowsOnlyIn (c : Charset) (v : Version) (bits : List Bool) (text : List ℕ) : Type 0 where
  pub found : ShowsIn c v bits text
  pub only : (other : Charset) (others : List ℕ) → ShowsIn other v bits others → others ≡ text

pub record ShowsText (s : List Color) (text : List ℕ) : Type 0 where  -- a reader shows text for the square s
  pub version : Version
  pub level : EcLevel
  pub bits : List Bool
  pub read : ReadsBits s version level bits
  pub set : Charset
  pub shown : ShowsIn set version bits text

pub record ShowsTextOnly (s : List Color) (text : List ℕ) : Type 0 where  -- it shows text, and nothing else
  pub found : ShowsText s text
  pub only : (others : List ℕ) → ShowsText s others → others ≡ text

-- for each square within the promised damage a reader shows these characters, and no others
pub record IsShownAs (v : Version) (l : EcLevel) (text : List ℕ) (s : List Color) : Type 0 where
  pub mask : MaskPattern
  pub is_mask : IsMaskOf v l mask s
  pub shown : (other : List Color) → IsDamaged v l mask s other → ShowsTextOnly other text
