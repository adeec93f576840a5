-- Rectangles in the middle of a symbol.
use Rattle.std.specs.Prelude.{◌≡◌, ◌+◌, ◌-◌, ◌*◌, ◌/◌, ◌%◌, ◌<◌, ◌≤◌, nat_le, pos, ◌||◌, ◌&&◌, max, ℕ, Bool, false, [], ◌∷◌, ◌++◌}
use Rattle.std.specs.List.{list_any}
use Rattle.qrcode_types.specs.Versions.{side}
use Rattle.qrcode_types.specs.declared.types.Version.{Version}
use Rattle.qrcode_types.specs.declared.types.Version.TheVariants.{Normal, Micro}
use Rattle.qrcode_types.specs.declared.types.EcLevel.{EcLevel}
use Rattle.qrcode_layout.specs.Figures.{has, normal_figures, normal_format_figures, micro_figures, micro_format_figures, word_figures}
use Rattle.qrcode_layout.specs.Patterns.{is_functional_place}
use Rattle.qrcode_damage.specs.Areas.{covers}
use Rattle.qrcode_damage.specs.Reserves.{Leaves}
use Rattle.qrcode_damage.specs.declared.areas.Rectangle.{Rectangle}
use Rattle.qrcode_damage.specs.declared.rectangles.Kept.{Kept}
use Rattle.qrcode_damage.specs.declared.rectangles.Kept.TheVariants.{AllPatterns, ButAlignment}
use Rattle.qrcode_damage.specs.declared.rectangles.Wish.{Wish}

-- the place belongs to format or version information, or to a function pattern other than an alignment pattern
abbrev pub is_firm : Version → ℕ → ℕ → Bool
is_firm (Normal n) x y =
    let w = side (Normal n) in
    list_any (λ f. has f x y) (normal_format_figures w ++ normal_figures w) || (nat_le 45 w && list_any (λ f. has f x y) (word_figures w))
is_firm (Micro n) x y = list_any (λ f. has f x y) (micro_format_figures ++ micro_figures (side (Micro n)))

abbrev pub is_kept : Kept → Version → ℕ → ℕ → Bool  -- the area must not have this place
is_kept AllPatterns v x y = is_functional_place v x y
is_kept ButAlignment v x y = is_firm v x y

abbrev pub shows : Kept → Version → (ℕ → ℕ → Bool) → ℕ → ℕ → Bool  -- the area has a place that it must not have
shows kept v area x y = area x y && is_kept kept v x y

abbrev pub LeavesPatterns : Kept → Version → (ℕ → ℕ → Bool) → Type 0
LeavesPatterns kept v area = (x y : ℕ) → x < side v → y < side v → shows kept v area x y ≡ false

-- the largest odd number of modules that is at most size * part / whole, or 1
abbrev pub in_proportion : ℕ → ℕ → ℕ → ℕ
in_proportion size part whole = let n = size * part / whole in max 1 (n - 1 + n % 2)

abbrev pub longer : Wish → ℕ
longer wish = max (max wish.across wish.down) 1

-- the central rectangle of the wished ratio whose longer side has `size` modules, or one less if that is even
abbrev pub centred : Version → Wish → ℕ → Rectangle
centred v wish size =
    let width = in_proportion size wish.across (longer wish) in
    let height = in_proportion size wish.down (longer wish) in
    record { left = (side v - width) / 2; top = (side v - height) / 2; width = width; height = height }

abbrev pub only : Rectangle → ℕ → ℕ → Bool  -- the area of one rectangle
only r = covers (r ∷ [])

-- the area leaves the reserve of the wish, and has no place of its patterns or of format and version information
pub record Fits (v : Version) (l : EcLevel) (wish : Wish) (area : ℕ → ℕ → Bool) : Type 0 where
  pub leaves : Leaves v l area wish.reserve
  pub patterns : LeavesPatterns wish.kept v area

-- no central rectangle fits whose longer side is odd and has more than `size` modules
abbrev pub NoneLarger : Version → EcLevel → Wish → ℕ → Type 0
NoneLarger v l wish size = (larger : ℕ) → size < larger → larger ≤ side v → larger % 2 ≡ 1 → ¬ Fits v l wish (only (centred v wish larger))

-- r is a central rectangle with an odd longer side and fits, and no larger one does
pub record IsLargest (v : Version) (l : EcLevel) (wish : Wish) (r : Rectangle) : Type 0 where
  pub size : ℕ
  pub odd : size % 2 ≡ 1
  pub inside : size ≤ side v
  pub centred : r ≡ centred v wish size
  pub fits : Fits v l wish (only r)
  pub none_larger : NoneLarger v l wish size

-- in Normal n the central rectangle fits whose longer side is part / whole of the symbol's side
abbrev pub FitsPart : EcLevel → Wish → ℕ → ℕ → ℕ → Type 0
FitsPart l wish part whole n = let v = Normal (pos n) in Fits v l wish (only (centred v wish (in_proportion (side v) part whole)))

abbrev pub NoneSmaller : EcLevel → Wish → ℕ → ℕ → ℕ → Type 0  -- it fits in no smaller version
NoneSmaller l wish part whole n = (smaller : ℕ) → 1 ≤ smaller → smaller < n → ¬ FitsPart l wish part whole smaller
