-- Lists of grids that are tried: what pushes do to them, and the squares that they have.
use Rattle.std.proofs.Common.{◌≡◌, ◌⊎◌, ◌*◌, ℕ, ◌+◌, ◌-◌, ◌/◌, ◌%◌, ◌==◌, ◌<◌, ◌≤◌, ◌++◌, ◌∷◌, [], inl, inr, Bool, List, Option, Some, None, length, ap, ap₂, refl, sym, subst, ◌∙◌, arith, length-append, if◌then◌else◌}
use Rattle.std.specs.Prelude.{Any, IfNone, IfSome}
use Rattle.std.proofs.lemmas.Bool.{cases_lt}
use Rattle.std.proofs.lemmas.Bool.Decides.{nat_tests}
use Rattle.std.proofs.lemmas.List.{get_or_append_left}
use Rattle.std.proofs.lemmas.List.Elements.{All-push}
use Rattle.std.proofs.lemmas.List.Quantifiers.{Any-push, all_pairs_push}
use Rattle.qrcode_render.specs.Bitmap.{Bitmap}
use Rattle.qrcode_scan.specs.Wholes.{AreSame, ArePatterned, BeginsAt, HasMany, HasPatterns, IsGridAt, IsGridOf, IsPatterned, IsPushed, IsRing, IsSought, IsTriedIn, IsWholeIn, Whole, corner_start, count_of, light_column, light_row, ring_start}
use Rattle.qrcode_scan.specs.declared.grids.Grid.{Grid}
use Rattle.qrcode_scan.proofs.ExactSquares.{begins_above}

-- where the finder pattern in a square's corner begins, in pixels from its first one on
far_of : (w : Whole) (scale version far : ℕ) (last mine : Bool) → w.scale ≡ scale → w.version ≡ version → mine ≡ last → far ≡ corner_start last (17 + 4 * version) * scale
    → corner_start mine (count_of w) * w.scale ≡ far
far_of w scale version far last mine at_scale at_version same is =
    ap₂ (λ (c s : ℕ). c * s) (ap₂ (λ (d : Bool) (v : ℕ). corner_start d (17 + 4 * v)) same at_version) at_scale ∙ sym is

-- where a square begins, by the first light pixel of that finder pattern
start_of : (mine product far scale own place : ℕ) → mine + (product + own) ≡ place + scale → product ≡ far → own ≡ scale → place - far ≡ mine
start_of mine product far scale own place e f g = omega (arith, e, f, g)

-- the grid from there on is that of the square
pub grid_of : (b : Bitmap) (w : Whole) (g : Grid) (x y scale version column row : ℕ) (r l : Bool) → column ≡ corner_start r (17 + 4 * version) * scale
    → row ≡ corner_start l (17 + 4 * version) * scale → IsGridAt (x - column) (y - row) scale (17 + 4 * version) g
    → IsSought b (x + scale) (y + scale) scale version r l w → IsGridOf w g
grid_of b w g x y scale version column row r l across down at is =
    let c = corner_start w.is_right (count_of w) * w.scale in
    let d = corner_start w.is_lower (count_of w) * w.scale in
    let left = start_of w.left c column scale w.scale x is.begins.column (far_of w scale version column r w.is_right is.size is.number is.right across) is.size in
    let top = start_of w.top d row scale w.scale y is.begins.row (far_of w scale version row l w.is_lower is.size is.number is.lower down) is.size in
    record {
      count = at.count ∙ ap (λ (v : ℕ). 17 + 4 * v) (sym is.number);
      left = at.left ∙ ap₂ (λ (m s : ℕ). m + s / 2) left (sym is.size);
      top = at.top ∙ ap₂ (λ (m s : ℕ). m + s / 2) top (sym is.size);
      across = at.across ∙ sym is.size;
      down = at.down ∙ sym is.size;
      lean = at.lean;
      fall = at.fall;
      parts = at.parts;
    }

-- an element of a list is one of a longer list
pub any_left : {X : Type 0} (P : X → Type 0) (xs ys : List X) → Any P xs → Any P (xs ++ ys)
any_left P xs ys any =
    let k = any.0 in
    let x = any.1 in
    (k, x, omega (arith, any.2, length-append xs ys), get_or_append_left xs ys x k any.2 ∙ any.3, any.4)

-- a longer list of grids has what it had
found_left : (w : Whole) (xs ys : List Grid) → IsTriedIn xs w → IsTriedIn (xs ++ ys) w
found_left w xs ys (inl many) = inl (omega (arith, many, length-append xs ys))
found_left w xs ys (inr any) = inr (any_left (IsGridOf w) xs ys any)

-- the same grid is that of the same square
same_place : (w : Whole) (g h : Grid) → AreSame h g → IsGridOf w g → IsGridOf w h
same_place w g h same at = grind (arith, same, at)

-- a push keeps what is found
pub push_keeps : (w : Whole) (old new : List Grid) (grid : Option Grid) → IsPushed old grid new → IsTriedIn old w → IsTriedIn new w
push_keeps w old new None is found = subst (λ xs. IsTriedIn xs w) (sym is) found
push_keeps w old new (Some g) (inl same) found = subst (λ xs. IsTriedIn xs w) (sym same.0) found
push_keeps w old new (Some g) (inr more) found = subst (λ xs. IsTriedIn xs w) (sym more.0) (found_left w old (g ∷ []) found)

-- and finds the square of its grid
push_finds : (w : Whole) (old new : List Grid) (g : Grid) → IsPushed old (Some g) new → IsGridOf w g → IsTriedIn new w
push_finds w old new g (inl same) at =
    subst (λ xs. IsTriedIn xs w) (sym same.0) (elim same.1 [
      | inl many ↦ inl many
      | inr known ↦ inr (known.0, known.1, known.2, known.3, same_place w g known.1 known.4 at)
    ])
push_finds w old new g (inr more) at = subst (λ xs. IsTriedIn xs w) (sym more.0) (inr (Any-push (IsGridOf w) old g at))

-- all grids still have patterns, and are different
pub push_patterned : (b : Bitmap) (old new : List Grid) (grid : Option Grid) → ArePatterned b old → IfSome grid (IsPatterned b) → IsPushed old grid new → ArePatterned b new
push_patterned b old new None are has is = subst (ArePatterned b) (sym is) are
push_patterned b old new (Some g) are has (inl same) = subst (ArePatterned b) (sym same.0) are
push_patterned b old new (Some g) are has (inr more) =
    subst (ArePatterned b) (sym more.0) (record {
      patterned = All-push (IsPatterned b) old g are.patterned has;
      different = all_pairs_push (λ (g h : Grid). ¬ AreSame g h) old g are.different (λ k d inside. more.1 k d inside);
    })

-- the same ring, by other numbers
pub ring_there : (b : Bitmap) (x y scale p q : ℕ) → p ≡ x → q ≡ y → IsRing b x y scale → IsRing b p q scale
ring_there b x y scale p q e f ring = subst (λ (m : ℕ). IsRing b m q scale) (sym e) (subst (λ (m : ℕ). IsRing b x m scale) (sym f) ring)

-- where the ring of a finder pattern begins, in a grid that begins so far before the pattern
ring_place : (place far scale : ℕ) → far ≤ place → (place - far) + (far + scale) ≡ place + scale
ring_place place far scale fits = omega (arith, fits)

-- a grid with finder patterns, from the ring in one
pub grid_patterned : (b : Bitmap) (g : Grid) (x y scale version column row : ℕ) (r l : Bool) → column ≡ corner_start r (17 + 4 * version) * scale
    → row ≡ corner_start l (17 + 4 * version) * scale → column ≤ x → row ≤ y → IsGridAt (x - column) (y - row) scale (17 + 4 * version) g → HasPatterns b g r l
    → IsRing b (x + scale) (y + scale) scale → IsPatterned b g
grid_patterned b g x y scale version column row r l across down left top at has ring =
    let far : (last : Bool) → corner_start last g.count * scale ≡ corner_start last (17 + 4 * version) * scale = λ last. ap (λ (n : ℕ). corner_start last n * scale) at.count in
    record {
      x = x - column;
      y = y - row;
      scale = scale;
      is_right = r;
      is_lower = l;
      place = record { count = refl; left = at.left; top = at.top; across = at.across; down = at.down; lean = at.lean; fall = at.fall; parts = at.parts };
      patterns = has;
      ring =
          ring_there b (x + scale) (y + scale) scale (ring_start (x - column) r g.count scale) (ring_start (y - row) l g.count scale)
          (ap (λ (m : ℕ). (x - column) + (m + scale)) (far r ∙ sym across) ∙ ring_place x column scale left)
          (ap (λ (m : ℕ). (y - row) + (m + scale)) (far l ∙ sym down) ∙ ring_place y row scale top) ring;
    }

-- the number of a version and a corner, in the order of the search
abbrev pub flag : Bool → ℕ
flag b = if b then 1 else 0

abbrev pub number_of : Whole → ℕ
number_of w = 4 * (w.version - 1) + 2 * flag w.is_lower + flag w.is_right

flag_small : (b : Bool) → flag b ≤ 1
flag_small b = grind arith

flag_is : (b : Bool) (n : ℕ) → flag b ≡ n → b ≡ (n == 1)
flag_is b n is = grind (arith, nat_tests, is)

numbered : (v i : ℕ) (r l : Bool) → 1 ≤ v → 4 * (v - 1) + 2 * flag l + flag r ≡ i → (v ≡ 1 + i / 4) × (r ≡ (i % 2 == 1)) × (l ≡ (i / 2 % 2 == 1))
numbered v i r l some is =
    let right = flag_small r in
    let lower = flag_small l in
    (omega (arith, some, is, right, lower), flag_is r (i % 2) (omega (arith, is, right)), flag_is l (i / 2 % 2) (omega (arith, is, right, lower)))

-- a size and a corner of a finder pattern: if there is a grid, it is that of each such square; if not, there is none
size_tried : (b : Bitmap) (old new : List Grid) (x y scale version : ℕ) (r l : Bool) (grid : Option Grid) (w : Whole) → IsPushed old grid new
    → IfSome grid (λ g. (v : Whole) → IsSought b x y scale version r l v → IsGridOf v g) → IfNone grid ((v : Whole) → ¬ IsSought b x y scale version r l v)
    → IsSought b x y scale version r l w → IsTriedIn new w
size_tried b old new x y scale version r l None w pushed value none is = absurd (none w is)
size_tried b old new x y scale version r l (Some g) w pushed value none is = push_finds w old new g pushed (value w is)

-- one more size and corner
pub sizes_more : (b : Bitmap) (old new : List Grid) (x y scale i : ℕ) (grid : Option Grid) → IsPushed old grid new
    → IfSome grid (λ g. (v : Whole) → IsSought b x y scale (1 + i / 4) (i % 2 == 1) (i / 2 % 2 == 1) v → IsGridOf v g)
    → IfNone grid ((v : Whole) → ¬ IsSought b x y scale (1 + i / 4) (i % 2 == 1) (i / 2 % 2 == 1) v)
    → ((w : Whole) → BeginsAt b w x y → w.scale ≡ scale → number_of w < i → IsTriedIn old w)
    → (w : Whole) → BeginsAt b w x y → w.scale ≡ scale → number_of w < i + 1 → IsTriedIn new w
sizes_more b old new x y scale i grid pushed value none before w at same below = elim (cases_lt (number_of w) i) [
  | inl less ↦ push_keeps w old new grid pushed (before w at same less)
  | inr late ↦
      let n = numbered w.version i w.is_right w.is_lower at.whole.version.0 (omega (arith, below, late)) in
      size_tried b old new x y scale (1 + i / 4) (i % 2 == 1) (i / 2 % 2 == 1) grid w pushed value none
      (record { begins = at; size = same; number = n.0; right = n.1; lower = n.2 })
]

-- the same place, by other numbers
pub begins_there : (b : Bitmap) (w : Whole) (x y p q : ℕ) → p ≡ x → q ≡ y → BeginsAt b w x y → BeginsAt b w p q
begins_there b w x y p q e f at = record { whole = at.whole; column = at.column ∙ sym e; row = at.row ∙ sym f }

-- one more pixel of a row
pub row_more : (b : Bitmap) (old new : List Grid) (x y : ℕ) → ((w : Whole) → IsTriedIn old w → IsTriedIn new w) → ((w : Whole) → BeginsAt b w x y → IsTriedIn new w)
    → ((w : Whole) (k : ℕ) → k < x → BeginsAt b w k y → IsTriedIn old w) → (w : Whole) (k : ℕ) → k < x + 1 → BeginsAt b w k y → IsTriedIn new w
row_more b old new x y kept here before w k below at = elim (cases_lt k x) [
  | inl less ↦ kept w (before w k less at)
  | inr late ↦ here w (begins_there b w k y x y (omega (arith, below, late)) refl at)
]

-- one more row
pub rows_more : (b : Bitmap) (old new : List Grid) (y : ℕ) → ((w : Whole) → IsTriedIn old w → IsTriedIn new w) → ((w : Whole) (k : ℕ) → BeginsAt b w k y → IsTriedIn new w)
    → ((w : Whole) (j k : ℕ) → j < y → BeginsAt b w k j → IsTriedIn old w) → (w : Whole) (j k : ℕ) → j < y + 1 → BeginsAt b w k j → IsTriedIn new w
rows_more b old new y kept here before w j k below at = elim (cases_lt j y) [
  | inl less ↦ kept w (before w j k less at)
  | inr late ↦ here w k (begins_there b w k j k y refl (omega (arith, below, late)) at)
]

-- no grids yet
pub none_patterned : (b : Bitmap) (grids : List Grid) → grids ≡ [] → ArePatterned b grids
none_patterned b grids none =
    subst (ArePatterned b) (sym none) (record { patterned = λ k d inside. absurd (omega (arith, inside)); different = λ i j d lt within. absurd (omega (arith, lt, within)) })

-- all squares are found
pub all_found : (b : Bitmap) (grids : List Grid) → ArePatterned b grids → ((w : Whole) (j k : ℕ) → j < b.down → BeginsAt b w k j → IsTriedIn grids w)
    → (w : Whole) → IsWholeIn b w → HasMany b ⊎ Any (IsGridOf w) grids
all_found b grids are found w is = elim (found w (light_row w) (light_column w) (begins_above b w is) (record { whole = is; column = refl; row = refl })) [
  | inl many ↦ inl (grids, (many, are))
  | inr any ↦ inr any
]

-- or there are 1,024
pub many_found : (b : Bitmap) (grids : List Grid) → ArePatterned b grids → 1024 ≤ length grids → (w : Whole) → IsWholeIn b w → HasMany b ⊎ Any (IsGridOf w) grids
many_found b grids are many = λ w is. inl (grids, (many, are))
