-- Why pictures do not decode.
use Rattle.std.proofs.Common.{◌≡◌, ◌*◌, ℕ, Bool, List, length, sym, subst, ◌⊎◌, inl, inr, refl}
use Rattle.qrcode_types.specs.declared.types.Color.{Color}
use Rattle.qrcode_render.specs.Bitmap.{Bitmap}
use Rattle.qrcode_reader.specs.Positions.{seen}
use Rattle.qrcode_reader.specs.Readings.{IsPartsCause, ReadsParts}
use Rattle.qrcode_reader.specs.declared.positions.Position.{Position}
use Rattle.qrcode_reader.specs.declared.spell.parts.Part.{Part}
use Rattle.qrcode_reader.specs.declared.refusals.Unread as reading
use Rattle.qrcode_scan.specs.Scans.{IsLeastSquareIn, IsNotClean, IsSeenAs, IsUnreadIn, IsUnreadPicture, IsUnseen, HasNoWhole, unread_as}
use Rattle.qrcode_scan.specs.declared.scanning.ScanError.{ScanError}
use Rattle.qrcode_scan.specs.declared.scanning.ScanError.TheVariants.{Unscanned, Png, Jpeg, NoSquare, NoSymbol, OutOfMemory}

abbrev pub HasNone : ℕ → List Color → Type 0
HasNone side modules = (p : Position) (is_inverted : Bool) (bytes : List ℕ) (parts : List Part) → ¬ ReadsParts (seen side p is_inverted modules) bytes parts

-- the square in a plain margin does not decode
pub unread_square : (b : Bitmap) (count zone scale : ℕ) (modules : List Color) (e : reading.Unread) → IsLeastSquareIn b count zone scale modules
    → (e ≡ reading.TheVariants.OutOfMemory) ⊎ (IsPartsCause modules e × ((side : ℕ) → side * side ≡ length modules → HasNone side modules)) → IsUnreadIn b (unread_as count e)
unread_square b count zone scale modules e square why = elim why [
  | inl memory ↦ subst (λ e. IsUnreadIn b (unread_as count e)) (sym memory) tt
  | inr other ↦ caused e other.0 (other.1 count (sym square.square.square))
] where
  caused : (e : reading.Unread) → IsPartsCause modules e → HasNone count modules → IsUnreadIn b (unread_as count e)
  caused reading.TheVariants.NoSuchSide cause none = record { zone = zone; scale = scale; modules = modules; square = square; cause = cause; none = none }
  caused reading.TheVariants.NoFormat cause none = record { zone = zone; scale = scale; modules = modules; square = square; cause = cause; none = none }
  caused (reading.TheVariants.Damaged n) cause none = record { zone = zone; scale = scale; modules = modules; square = square; cause = cause; none = none }
  caused reading.TheVariants.NotSpelled cause none = record { zone = zone; scale = scale; modules = modules; square = square; cause = cause; none = none }
  caused reading.TheVariants.OutOfMemory cause none = tt

-- no square of whole pixels decodes, if memory did not run out
no_whole : (b : Bitmap) (e : ScanError) → ¬ (e ≡ OutOfMemory) → (e ≡ OutOfMemory) ⊎ HasNoWhole b → HasNoWhole b
no_whole b e other (inl memory) = absurd (other memory)
no_whole b e other (inr none) = none

-- the pixels of a picture do not decode
pub unread_picture : (bytes : List ℕ) (b : Bitmap) (i : Bool) (e : ScanError) → IsSeenAs bytes b i → IsUnreadIn b e → (e ≡ OutOfMemory) ⊎ HasNoWhole b → IsUnreadPicture bytes e
unread_picture bytes b i (Unscanned e) seen unread none = absurd unread
unread_picture bytes b i (Png e) seen unread none = absurd unread
unread_picture bytes b i Jpeg seen unread none = absurd unread
unread_picture bytes b i NoSquare seen unread none =
    record { pixels = b; is_inverted = i; seen = seen; unread = unread; none = no_whole b NoSquare (λ e. cc) none }
unread_picture bytes b i (NoSymbol count e) seen unread none =
    record { pixels = b; is_inverted = i; seen = seen; unread = unread; none = no_whole b (NoSymbol count e) (λ e. cc) none }
unread_picture bytes b i OutOfMemory seen unread none = tt

-- no square in a plain margin decodes, unless memory ran out
pub not_clean : (b : Bitmap) (e : ScanError) → IsUnreadIn b e → ¬ (e ≡ OutOfMemory) → IsNotClean b
not_clean b (Unscanned e) unread other = absurd unread
not_clean b (Png e) unread other = absurd unread
not_clean b Jpeg unread other = absurd unread
not_clean b NoSquare unread other = inl unread
not_clean b (NoSymbol count e) unread other = inr (count, (e, unread))
not_clean b OutOfMemory unread other = absurd (other refl)

-- a picture without pixels does not decode
pub unseen_picture : (bytes : List ℕ) (e : ScanError) → IsUnseen bytes e → IsUnreadPicture bytes e
unseen_picture bytes (Unscanned e) unseen = unseen
unseen_picture bytes (Png e) unseen = unseen
unseen_picture bytes Jpeg unseen = unseen
unseen_picture bytes NoSquare unseen = absurd unseen
unseen_picture bytes (NoSymbol count e) unseen = absurd unseen
unseen_picture bytes OutOfMemory unseen = tt
