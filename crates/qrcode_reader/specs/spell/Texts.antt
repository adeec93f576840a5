-- The steps of decoding text.
use Rattle.std.specs.Prelude.{◌≡◌, ◌⊎◌, ◌++◌, flat_map, ℕ, Bool, List, Result, IfOk, IfErr}
use Rattle.std.specs.Borrow.{Bor}
use Rattle.qrcode_types.specs.declared.types.Version.{Version}
use Rattle.qrcode_bits.specs.Shown.{IsFront, IsPieceShown, ArePiecesShown, Shows}
use Rattle.qrcode_bits.specs.Spelling.{IsReadAs}
use Rattle.qrcode_bits.specs.Written.{Piece}
use Rattle.qrcode_reader.specs.declared.spell.refusals.Unshown.{Unshown}
use Rattle.qrcode_reader.specs.declared.spell.refusals.Unshown.TheVariants.{NotShown, OutOfMemory}
use Rattle.qrcode_reader.specs.spell.Steps.{BeginsWithPiece}

-- the bits are segments with these bytes, all of which a reader shows, and a terminator
pub record ShowsSegments (v : Version) (bits : List Bool) (bytes : List ℕ) : Type 0 where
  pub pieces : List Piece
  pub read : IsReadAs v bits pieces
  pub text : List ℕ
  pub shown : ArePiecesShown pieces text
  pub joined : flat_map (λ p. p.chunk) pieces ≡ bytes

-- rest is what follows ECI 26 (UTF-8), or all bits if they do not begin with it
pub record IsBehindFront (v : Version) (bits rest : List Bool) : Type 0 where
  pub before : List Bool
  pub is_front : IsFront v before
  pub parted : bits ≡ before ++ rest
  pub complete : (text : List ℕ) → Shows v bits text → (bytes : List ℕ) × ShowsSegments v rest bytes

-- The bytes of the first piece, which a reader shows, are appended, and the rest is returned; or the bits begin with no such piece; or memory ran
-- out.
pub record AppendsText (v : Version) (bits : List Bool) (old new : List ℕ) (result : Result (Bor (List Bool)) Unshown) : Type 0 where
  pub taken : IfOk result (λ rest. (p : Piece) × (text : List ℕ) × BeginsWithPiece v bits p rest.now × IsPieceShown p text × (new ≡ old ++ p.chunk))
  pub refused : IfErr result (λ e. (e ≡ OutOfMemory) ⊎ ((e ≡ NotShown) × ((p : Piece) (rest : List Bool) (text : List ℕ) → BeginsWithPiece v bits p rest → ¬ IsPieceShown p text)))
