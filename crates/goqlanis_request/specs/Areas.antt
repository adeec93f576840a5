-- The area of a symbol that a logo may cover, and why there is none.
use Rattle.std.specs.Prelude.{◌≡◌, ◌⊎◌, ◌/◌, ◌<◌, ◌≤◌, min, pos, ℕ, Option, Some, None, IsTrue}
use Rattle.qrcode_types.specs.Versions.{side, ec_length, has_level, level_number}
use Rattle.qrcode_types.specs.declared.types.EcLevel.{EcLevel}
use Rattle.qrcode_types.specs.declared.types.Version.{Version}
use Rattle.qrcode_types.specs.declared.types.Version.TheVariants.{Normal}
use Rattle.qrcode_damage.specs.Rectangles.{in_proportion, centred, only, Fits, IsLargest, LeavesPatterns, NoneLarger}
use Rattle.qrcode_damage.specs.Refusals.{IsExcess}
use Rattle.qrcode_damage.specs.declared.areas.Rectangle.{Rectangle}
use Rattle.qrcode_damage.specs.declared.rectangles.Wish.{Wish}
use Rattle.goqlanis_request.specs.Elements.{number_of_normal}
use Rattle.goqlanis_request.specs.declared.areas.LogoError.{LogoError}
use Rattle.goqlanis_request.specs.declared.areas.LogoError.TheVariants.{Outside, Patterns, Excess, NoRoom, OutOfMemory}
use Rattle.goqlanis_request.specs.declared.areas.LogoSize.{LogoSize}
use Rattle.goqlanis_request.specs.declared.areas.LogoSize.TheVariants.{Largest, Modules, Percent}
use Rattle.goqlanis_request.specs.declared.areas.LogoWish.{LogoWish}

abbrev pub wish_for : LogoWish → ℕ → Wish  -- the wish for a rectangle that leaves `reserve` correctable codewords in each block
wish_for w reserve = record { across = w.across; down = w.down; reserve = reserve; kept = w.kept }

abbrev pub size_in : Version → LogoSize → Option ℕ  -- the requested modules along the longer side; None for the largest area
size_in v Largest = None
size_in v (Modules n) = Some n
size_in v (Percent part) = Some (in_proportion (side v) (min part 100) 100)

abbrev pub middle : Version → LogoWish → ℕ → Rectangle  -- the rectangle in the middle with `size` modules along its longer side
middle v w size = centred v (wish_for w 0) size

abbrev pub half_wish : Version → EcLevel → LogoWish → Wish  -- the wish to leave half of the errors that each block can correct
half_wish v l w = wish_for w (ec_length v l / 4)

-- r is the area of the requested size: in the middle, whatever it shows can be corrected, and it leaves the patterns alone
pub record IsSized (v : Version) (l : EcLevel) (w : LogoWish) (size : ℕ) (r : Rectangle) : Type 0 where
  pub at_least : 1 ≤ size
  pub inside : size ≤ side v
  pub middle : r ≡ middle v w size
  pub fits : Fits v l (wish_for w 0) (only r)

-- r is the area of a logo: the largest in the middle that leaves half of the error correction, or the one of the requested size
abbrev pub IsAreaOf : Version → EcLevel → LogoWish → Option ℕ → Rectangle → Type 0
IsAreaOf v l w None r = IsLargest v l (half_wish v l w) r
IsAreaOf v l w (Some size) r = IsSized v l w size r

-- why there is no area of the requested size
abbrev pub IsRefusedAt : Version → EcLevel → LogoWish → ℕ → LogoError → Type 0
IsRefusedAt v l w size Outside = (size ≡ 0) ⊎ (side v < size)
IsRefusedAt v l w size Patterns = ¬ LeavesPatterns w.kept v (only (middle v w size))
IsRefusedAt v l w size (Excess e) = IsExcess v l (only (middle v w size)) e
IsRefusedAt v l w size NoRoom = ⊥
IsRefusedAt v l w size OutOfMemory = ⊥

abbrev pub IsRefusedOf : Version → EcLevel → LogoWish → Option ℕ → LogoError → Type 0  -- why there is no area
IsRefusedOf v l w None e = (e ≡ NoRoom) × NoneLarger v l (half_wish v l w) 0
IsRefusedOf v l w (Some size) e = IsRefusedAt v l w size e

-- the version has the level, and their symbols have such an area
abbrev pub HasArea : Version → EcLevel → LogoWish → Type 0
HasArea v l w = IsTrue (has_level v l) × ((r : Rectangle) × IsAreaOf v l w (size_in v w.size) r)

-- the version has no such area at any higher level whose number is below n
abbrev pub NoHigher : Version → EcLevel → LogoWish → ℕ → Type 0
NoHigher v l w n = (h : EcLevel) → level_number l < level_number h → level_number h < n → ¬ HasArea v h w

-- h is the lowest higher level at which the version has such an area
pub record IsLowest (v : Version) (l : EcLevel) (w : LogoWish) (h : EcLevel) : Type 0 where
  pub higher : level_number l < level_number h
  pub area : HasArea v h w
  pub none_lower : NoHigher v l w (level_number h)

-- no larger Normal version below n has such an area at the level
abbrev pub NoLarger : Version → EcLevel → LogoWish → ℕ → Type 0
NoLarger v l w n = (larger : ℕ) → number_of_normal v < larger → larger < n → ¬ HasArea (Normal (pos larger)) l w

-- u is the smallest larger Normal version that has such an area at the level
pub record IsSmallest (v : Version) (l : EcLevel) (w : LogoWish) (u : Version) : Type 0 where
  pub number : ℕ
  pub normal : u ≡ Normal (pos number)
  pub larger : number_of_normal v < number
  pub area : HasArea u l w
  pub none_smaller : NoLarger v l w number

-- found is the version at the lowest higher level that has such an area; if no level has, the smallest larger Normal version at the level
abbrev pub IsRoomier : Version → EcLevel → LogoWish → Version × EcLevel → Type 0
IsRoomier v l w found = ((found.0 ≡ v) × IsLowest v l w found.1) ⊎ ((found.1 ≡ l) × (IsSmallest v l w found.0 × NoHigher v l w 4))
