-- What several squares decode to.
use Rattle.std.specs.Prelude.{◌≡◌, ℕ, suc, ◌-◌, ◌<◌, ◌++◌, false, Bool, List, [], ◌∷◌, length, flat_map, slice_index_or}
use Rattle.qrcode_types.specs.Versions.{is_micro}
use Rattle.qrcode_types.specs.declared.types.Version.{Version}
use Rattle.qrcode_types.specs.declared.types.EcLevel.{EcLevel}
use Rattle.qrcode_types.specs.declared.types.Color.{Color}
use Rattle.qrcode_symbol.specs.Reading.{ReadsBits}
use Rattle.qrcode_bits.specs.Shown.{Shows}
use Rattle.qrcode_bits.specs.StructuredAppend.{parity, append_front, SpellsPart}

abbrev pub EachAt : {X : Type 0} → (ℕ → X → Type 0) → List X → Type 0  -- P holds of each item and its place, from 0
EachAt P [] = Unit {0}
EachAt P (x ∷ xs) = P 0 x × EachAt (λ place. P (suc place)) xs

-- the square decodes to these bytes, as the symbol `place` of 0 to `last`
pub record ReadsPart (s : List Color) (place last parity : ℕ) (bytes : List ℕ) : Type 0 where
  pub version : Version
  pub level : EcLevel
  pub bits : List Bool
  pub read : ReadsBits s version level bits
  pub spelled : SpellsPart version bits place last parity bytes

-- a reader shows these characters, as those of the symbol `place` of 0 to `last`
pub record ShowsPart (s : List Color) (place last parity : ℕ) (text : List ℕ) : Type 0 where
  pub version : Version
  pub level : EcLevel
  pub bits : List Bool
  pub read : ReadsBits s version level bits
  pub exists : 0 < last → is_micro version ≡ false
  pub rest : List Bool
  pub parted : bits ≡ append_front place last parity ++ rest
  pub shown : Shows version rest text

-- a reader shows these characters, and no others
pub record ShowsPartOnly (s : List Color) (place last parity : ℕ) (text : List ℕ) : Type 0 where
  pub found : ShowsPart s place last parity text
  pub only : (others : List ℕ) → ShowsPart s place last parity others → others ≡ text

-- Squares in the order of their places decode to data: each to the part at its place, of as many parts as squares and with the
-- parity of the data; and the parts one after the other are the data.
pub record ReadsSeveral (squares : List (List Color)) (bytes : List ℕ) : Type 0 where
  pub parts : List (List ℕ)
  pub counted : length parts ≡ length squares
  pub read : EachAt (λ place s. ReadsPart s place (length squares - 1) (parity bytes) (slice_index_or parts place [])) squares
  pub joined : flat_map (λ part. part) parts ≡ bytes

-- the squares decode to these bytes, and to no others
pub record ReadsSeveralOnly (squares : List (List Color)) (bytes : List ℕ) : Type 0 where
  pub found : ReadsSeveral squares bytes
  pub only : (others : List ℕ) → ReadsSeveral squares others → others ≡ bytes
