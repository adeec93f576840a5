-- The codes in a picture.
use Rattle.std.proofs.Common.{◌≡◌, ◌*◌, ◌⊎◌, ◌+◌, ◌-◌, ◌<◌, ◌≤◌, ◌++◌, ◌∷◌, ◌∙◌, [], ℕ, Bool, List, Some, None, All, length, take, drop, get_or, ap, refl, sym, subst, inl, inr, arith}
use Rattle.std.proofs.lemmas.List.Elements.{All-append, All-cons, All-drop, All-nil, All-push, All-take, All-weaker}
use Rattle.std.specs.Prelude.{AllPairs, Any, insert}
use Rattle.qrcode_types.specs.declared.types.Color.{Color}
use Rattle.qrcode_render.specs.Bitmap.{Bitmap}
use Rattle.qrcode_scan.specs.Grids.{IsSampled}
use Rattle.qrcode_reader.specs.Readings.{IsPartsCause}
use Rattle.qrcode_scan.specs.declared.grids.Grid.{Grid}
use Rattle.qrcode_reader.specs.declared.refusals.Unread as reading
use Rattle.std.proofs.lemmas.List.Quantifiers.{all_pairs_push}
use Rattle.std.proofs.lemmas.List.Edits.{get_or-insert_at, get_or-insert_below, get_or-insert_above, length-insert}
use Rattle.std.proofs.lemmas.Bool.{cases_lt}
use Rattle.std.proofs.lemmas.List.{get_or_read}
use Rattle.qrcode_scan.specs.Codes.{AreApart, AreOther, AreTwo, AreCodesIn, FindsWholes, HasGrid, IsApartFrom, IsCodeIn, IsFoundAs, IsFoundBy, IsMissedIn, IsMissedOf, IsProbable, Overlaps}
use Rattle.qrcode_scan.specs.Scans.{IsScanRead, HasNoWhole, IsScanOf, IsSeenAs, IsSquareOf}
use Rattle.qrcode_scan.specs.Wholes.{HasMany, IsGridOf, ShowsCode, Whole}
use Rattle.qrcode_scan.specs.declared.scanning.Scan.{Scan}
use Rattle.qrcode_scan.specs.declared.codes.Codes.{Codes}
use Rattle.qrcode_scan.specs.declared.codes.Missed.{Missed}
use Rattle.qrcode_scan.specs.declared.codes.PixelBounds.{PixelBounds}
use Rattle.qrcode_scan.specs.declared.codes.Found.{Found}
use Rattle.qrcode_scan.specs.declared.codes.Found.TheVariants.{Nothing, Missed as MissedAt}
use Rattle.qrcode_scan.proofs.Sampled.{sampled_length}
use Rattle.qrcode_scan.proofs.WhyUnread.{HasNone}

-- AllPairs still holds with an item put in that stands in the relation with each other one
pairs_insert : {X : Type 0} (R : X → X → Type 0) → ((x y : X) → R x y → R y x) → (xs : List X) (n : ℕ) (y : X) → n ≤ length xs → AllPairs R xs
    → ((k : ℕ) (d : X) → k < length xs → R (get_or xs k d) y) → AllPairs R (insert xs n y)
pairs_insert {X} R swap xs n y fits h new i j d lt within =
    elim (cases_lt j n) [
      | inl jn ↦ both (below i (omega (arith, lt, jn))) (below j jn) (h i j d lt (omega (arith, jn, fits)))
      | inr nj ↦ elim (cases_lt n j) [
        | inr jn ↦
            let same : j ≡ n = omega (arith, nj, jn) in
            both (below i (omega (arith, lt, same))) (ap (λ k. get_or (insert xs n y) k d) same ∙ at) (new i d (omega (arith, lt, same, fits)))
        | inl after ↦
            let inside : j - 1 < length xs = omega (arith, long, within, after) in
            elim (cases_lt i n) [
              | inl before ↦ both (below i before) (above j after) (h i (j - 1) d (omega (arith, before, after)) inside)
              | inr ni ↦ elim (cases_lt n i) [
                | inl behind ↦ both (above i behind) (above j after) (h (i - 1) (j - 1) d (omega (arith, lt, behind)) inside)
                | inr here ↦
                    let same : i ≡ n = omega (arith, ni, here) in
                    both (ap (λ k. get_or (insert xs n y) k d) same ∙ at) (above j after) (swap _ _ (new (j - 1) d inside))
              ]
            ]
      ]
    ] where
      both : {a b u v : X} → a ≡ u → b ≡ v → R u v → R a b
      both {a} {b} {u} {v} e f r = subst (λ w. R w b) (sym e) (subst (λ w. R u w) (sym f) r)

      long : length (insert xs n y) ≡ length xs + 1
      long = length-insert xs n y fits

      at : get_or (insert xs n y) n d ≡ y
      at = get_or-insert_at xs n y d fits

      below : (k : ℕ) → k < n → get_or (insert xs n y) k d ≡ get_or xs k d
      below k low = get_or-insert_below xs n y d k low fits

      above : (k : ℕ) → n < k → get_or (insert xs n y) k d ≡ get_or xs (k - 1) d
      above k low =
          let more : k ≡ (k - 1) + 1 = omega (arith, low) in
          ap (λ m. get_or (insert xs n y) m d) more ∙ get_or-insert_above xs n y d (k - 1) (omega (arith, low)) fits

-- an item that is put in is there, and so are the others
pub any_inserted : {X : Type 0} (P : X → Type 0) (xs ys : List X) (y : X) → (n : ℕ) × (n ≤ length xs) × (ys ≡ insert xs n y) → P y → Any P ys
any_inserted P xs ys y put p =
    subst (Any P) (sym put.2) (put.0, y, omega (arith, length-insert xs put.0 y put.1, put.1), get_or-insert_at xs put.0 y y put.1, p)

pub any_kept : {X : Type 0} (P : X → Type 0) (xs ys : List X) (y : X) → (n : ℕ) × (n ≤ length xs) × (ys ≡ insert xs n y) → Any P xs → Any P ys
any_kept P xs ys y put any =
    let long = length-insert xs put.0 y put.1 in
    subst (Any P) (sym put.2) (elim (cases_lt any.0 put.0) [
      | inl before ↦ (any.0, any.1, omega (arith, long, any.2), get_or-insert_below xs put.0 y any.1 any.0 before put.1 ∙ any.3, any.4)
      | inr late ↦ (any.0 + 1, any.1, omega (arith, long, any.2), get_or-insert_above xs put.0 y any.1 any.0 late put.1 ∙ any.3, any.4)
    ])

-- two codes are two in either order
apart_swapped : (p q : PixelBounds) → AreApart p q → AreApart q p
apart_swapped p q apart = grind (arith, apart)

two_swapped : (x y : Scan) → AreTwo x y → AreTwo y x
two_swapped x y two g is h other = apart_swapped _ _ (two h other g is)

-- no codes yet
pub no_code : (b : Bitmap) (i : Bool) (codes : Codes) → codes.scans.items ≡ [] → codes.missed.items ≡ [] → AreCodesIn b i codes
no_code b i codes none no_missed =
    record {
      scans = subst (All (IsCodeIn b i)) (sym none) (All-nil (IsCodeIn b i));
      missed = subst (All (IsMissedIn b)) (sym no_missed) (All-nil (IsMissedIn b));
      once = subst (AllPairs AreTwo) (sym none) (λ i j d lt within. absurd (omega (arith, within)));
      told_once = subst (AllPairs AreOther) (sym no_missed) (λ i j d lt within. absurd (omega (arith, within)));
    }

-- only the code in a plain margin
pub only_code : (b : Bitmap) (i : Bool) (codes : Codes) (scan : Scan) → codes.scans.items ≡ scan ∷ [] → codes.missed.items ≡ [] → IsSquareOf scan b → scan.grid ≡ None
    → scan.is_inverted ≡ i → IsScanRead scan → AreCodesIn b i codes
only_code b i codes scan same no_missed square clean inverted read = record {
  scans = subst (All (IsCodeIn b i)) (sym same)
      (All-cons (IsCodeIn b i) scan [] (record { inverted = inverted; square = record { found = inl (clean, square) }; read = read }) (All-nil (IsCodeIn b i)));
  missed = subst (All (IsMissedIn b)) (sym no_missed) (All-nil (IsMissedIn b));
  once = subst (AllPairs AreTwo) (sym same) (λ i j d lt within. absurd (omega (arith, lt, within)));
  told_once = subst (AllPairs AreOther) (sym no_missed) (λ i j d lt within. absurd (omega (arith, within)));
}

-- one more code, decoded or not
pub code_added : (b : Bitmap) (i : Bool) (old new : Codes) (x : Scan) (g : Grid) → (n : ℕ) × (n ≤ length old.scans.items) × (new.scans.items ≡ insert old.scans.items n x)
    → new.missed.items ≡ old.missed.items → IsCodeIn b i x → x.grid ≡ Some g → All (IsApartFrom g) old.scans.items
    → AreCodesIn b i old → AreCodesIn b i new
code_added b i old new x g same as_before code is apart are =
    let n = same.0 in
    let xs = old.scans.items in
    record {
      once = subst (AllPairs AreTwo) (sym same.2)
          (pairs_insert AreTwo two_swapped xs n x same.1 are.once
          (λ k d inside h new_is. subst (λ q. IsApartFrom q (get_or xs k d)) (some_same (sym is ∙ new_is)) (apart k d inside)));
      scans = subst (All (IsCodeIn b i)) (sym same.2)
          (All-append (IsCodeIn b i) (take n xs) (x ∷ drop n xs) (All-take (IsCodeIn b i) n xs are.scans)
          (All-cons (IsCodeIn b i) x (drop n xs) code (All-drop (IsCodeIn b i) n xs are.scans)));
      missed = subst (All (IsMissedIn b)) (sym as_before) are.missed;
      told_once = subst (AllPairs AreOther) (sym as_before) are.told_once;
    } where
      some_same : {h other : Grid} → Some h ≡ Some other → h ≡ other
      some_same e = cc

pub missed_added : (b : Bitmap) (i : Bool) (old new : Codes) (x : Missed)
    → (new.missed.items ≡ old.missed.items) ⊎ ((new.missed.items ≡ old.missed.items ++ x ∷ []) × All (λ m. AreOther m x) old.missed.items)
    → new.scans.items ≡ old.scans.items → IsMissedIn b x → AreCodesIn b i old → AreCodesIn b i new
missed_added b i old new x same as_before missed are = record {
  once = subst (AllPairs AreTwo) (sym as_before) are.once;
  scans = subst (All (IsCodeIn b i)) (sym as_before) are.scans;
  missed = elim same [
    | inl e ↦ subst (All (IsMissedIn b)) (sym e) are.missed
    | inr e ↦ subst (All (IsMissedIn b)) (sym e.0) (All-push (IsMissedIn b) old.missed.items x are.missed missed)
  ];
  told_once = elim same [
    | inl e ↦ subst (AllPairs AreOther) (sym e) are.told_once
    | inr e ↦ subst (AllPairs AreOther) (sym e.0) (all_pairs_push AreOther old.missed.items x are.told_once e.1)
  ];
}

-- a square in a grid that does not decode
pub missed_code : (b : Bitmap) (g : Grid) (modules : List Color) (e : reading.Unread) → IsSampled b g modules → ¬ (e ≡ reading.TheVariants.OutOfMemory)
    → (e ≡ reading.TheVariants.OutOfMemory) ⊎ (IsPartsCause modules e × ((side : ℕ) → side * side ≡ length modules → HasNone side modules))
    → IsProbable e → IsMissedIn b (record { grid = g; cause = e })
missed_code b g modules e sampled other why probable = elim why [
  | inl memory ↦ absurd (other memory)
  | inr both ↦ record { modules = modules; sampled = sampled; cause = both.0; probable = probable; none = both.1 g.count (sampled_length b g modules sampled) }
]

-- what is told of it
pub missed_told : (b : Bitmap) (i : Bool) (g : Grid) (m : Missed) (found : Found) → (IsProbable m.cause → IsMissedIn b m)
    → (found ≡ Nothing) ⊎ ((found ≡ MissedAt m) × IsProbable m.cause) → IsFoundAs b i found × HasGrid g found
missed_told b i g m found is told = elim told [
  | inl e ↦ subst (λ f. IsFoundAs b i f × HasGrid g f) (sym e) (tt, tt)
  | inr e ↦ subst (λ f. IsFoundAs b i f × HasGrid g f) (sym e.0) (is e.1, tt)
]

-- the codes of a picture's pixels are those of the picture
pub scans_of : (bytes : List ℕ) (b : Bitmap) (i : Bool) (codes : Codes) → IsSeenAs bytes b i → AreCodesIn b i codes → All (IsScanOf bytes) codes.scans.items
scans_of bytes b i codes seen are =
    All-weaker (IsCodeIn b i) (IsScanOf bytes)
    (λ scan code. record { pixels = b; seen = subst (IsSeenAs bytes b) (sym code.inverted) seen; square = code.square; read = code.read }) codes.scans.items are.scans

pub missed_of : (bytes : List ℕ) (b : Bitmap) (i : Bool) (codes : Codes) → IsSeenAs bytes b i → AreCodesIn b i codes → All (IsMissedOf bytes) codes.missed.items
missed_of bytes b i codes seen are =
    All-weaker (IsMissedIn b) (IsMissedOf bytes) (λ m missed. record { pixels = b; is_inverted = i; seen = seen; missed = missed }) codes.missed.items are.missed

-- a code in a plain margin is in the way of all others
pub clean_whole : (b : Bitmap) (scans : List Scan) (scan : Scan) → scans ≡ scan ∷ [] → scan.grid ≡ None → FindsWholes b scans
clean_whole b scans scan same clean = λ w shows. inr (subst (Any (IsFoundBy w)) (sym same) (0, scan, omega arith, refl, inr (inr clean)))

-- if there is no code, no square of whole pixels decodes
pub whole_none : (b : Bitmap) (scans : List Scan) → length scans ≡ 0 → FindsWholes b scans → HasNoWhole b
whole_none b scans none finds = λ w shows. elim (finds w shows) [
  | inl many ↦ many
  | inr any ↦ absurd (omega (arith, any.2, none))
]

-- the grids of squares of whole pixels have been looked at, up to a number
abbrev pub AreLookedAt : Bitmap → List Grid → List Scan → ℕ → Type 0
AreLookedAt b grids scans n = (k : ℕ) → k < n → (d : Grid) (w : Whole) → ShowsCode b w → IsGridOf w (get_or grids k d) → Any (IsFoundBy w) scans

-- one more of them
pub looked_more : (b : Bitmap) (grids : List Grid) (old new : List Scan) (i : ℕ) (item : Grid) → i < length grids → item ≡ get_or grids i item
    → ((w : Whole) → Any (IsFoundBy w) old → Any (IsFoundBy w) new) → ((w : Whole) → ShowsCode b w → IsGridOf w item → Any (IsFoundBy w) new) → AreLookedAt b grids old i
    → AreLookedAt b grids new (i + 1)
looked_more b grids old new i item inside is kept here before k low d w shows at = elim (cases_lt k i) [
  | inl less ↦ kept w (before k less d w shows at)
  | inr late ↦
      let same : k ≡ i = omega (arith, low, late) in
      here w shows (subst (IsGridOf w) (sym (get_or_read grids i item inside is d)) (subst (λ n. IsGridOf w (get_or grids n d)) same at))
]

-- all of them
pub looked_at_all : (b : Bitmap) (grids : List Grid) (scans : List Scan) → ((w : Whole) → ShowsCode b w → HasMany b ⊎ Any (IsGridOf w) grids)
    → AreLookedAt b grids scans (length grids) → FindsWholes b scans
looked_at_all b grids scans tried all = λ w shows. elim (tried w shows) [
  | inl many ↦ inl many
  | inr any ↦ inr (all any.0 any.2 any.1 w shows (subst (IsGridOf w) (sym any.3) any.4))
]

-- a code that shares pixels with a square's grid is in its way
pub shared_any : (w : Whole) (g : Grid) (scans : List Scan) → IsGridOf w g → Any (Overlaps g) scans → Any (IsFoundBy w) scans
shared_any w g scans at any = (any.0, any.1, any.2, any.3, inr (inl (g, (at, any.4))))
