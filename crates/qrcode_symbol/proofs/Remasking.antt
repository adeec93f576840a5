-- A square's colours under one mask determine those under another.
use Rattle.std.proofs.Common.{◌≡◌, ℕ, suc, ◌+◌, ◌-◌, ◌*◌, ◌/◌, ◌%◌, ◌<◌, ◌≤◌, Bool, true, false, not, List, [], ◌∷◌, length, map, slice_index_or, slice_set, Option, Some, None, if◌then◌else◌, refl, ap, sym, ◌∙◌, arith, inl, inr, subst, true≢false, length-set}
use Rattle.std.specs.List.{range_with_len, filter, AllByRecursion}
use Rattle.std.proofs.Math.ListN.{get_or-map}
use Rattle.std.proofs.lemmas.List.{ext_get_or, get_or-replicate, get_or-set_same, get_or-set_other, get_or_past, length-map}
use Rattle.std.proofs.lemmas.List.FromFn.{get_or-map-range_with_len, length-map-range_with_len}
use Rattle.std.proofs.lemmas.Bool.Decides.{leb_tells, eqb_tells, nat_tests}
use Rattle.qrcode_types.specs.Bits.{has_bit}
use Rattle.qrcode_types.specs.Colors.{is_dark, color_of}
use Rattle.qrcode_types.specs.Versions.{side}
use Rattle.qrcode_types.specs.declared.types.Version.{Version}
use Rattle.qrcode_types.specs.declared.types.EcLevel.{EcLevel}
use Rattle.qrcode_types.specs.declared.types.Color.{Color}
use Rattle.qrcode_types.specs.declared.types.Color.TheVariants.{Light}
use Rattle.qrcode_penalty.specs.Penalty.{same}
use Rattle.qrcode_layout.specs.Masks.{turns, turned_if}
use Rattle.qrcode_layout.specs.Words.{format_word}
use Rattle.qrcode_layout.specs.Patterns.{pattern, format_index, dark_module}
use Rattle.qrcode_layout.specs.Stream.{zigzag}
use Rattle.qrcode_layout.specs.declared.masks.MaskPattern.{MaskPattern}
use Rattle.qrcode_layout.proofs.Agreements.{no_dark_module}
use Rattle.qrcode_symbol.specs.declared.canvas.Module.{Module}
use Rattle.qrcode_symbol.specs.declared.canvas.Module.TheVariants.{Empty, Masked, Unmasked}
use Rattle.qrcode_symbol.specs.Canvas.{blank, color_of_module, colors_of, is_empty, masked_module, mask_module, pattern_module, with_patterns, put_bits, empty_places, with_bits_drawn, with_mask, IsBestMask}
use Rattle.qrcode_symbol.specs.Penalties.{penalty, remasked, remasked_at, IsFirstLeast}
use Rattle.qrcode_symbol.specs.Masking.{is_free}
use Rattle.qrcode_symbol.proofs.MaskedSquares.{module_is, module_of, with_mask_at, length_with_mask}

-- a module after bits are drawn: if it was not empty it is unchanged, otherwise a mask can reverse it
record IsKept (before : List Module) (i : ℕ) (m : Module) : Type 0 where
  stays : is_empty (slice_index_or before i Empty) ≡ false → m ≡ slice_index_or before i Empty
  free : is_empty (slice_index_or before i Empty) ≡ true → is_free m ≡ true

empty_free : (m : Module) → is_empty m ≡ true → is_free m ≡ true
empty_free m h1 = grind (arith, nat_tests)

set_free : (ms : List Module) (p : ℕ) (c : Color) → is_free (slice_index_or (slice_set ms p (Unmasked c)) p Empty) ≡ true
set_free ms p c =
    elim (leb_tells (suc p) (length ms)) [
      | inl r ↦ ap is_free (get_or-set_same ms p (Unmasked c) Empty (omega (arith, r.1)))
      | inr r ↦ ap is_free (get_or_past (slice_set ms p (Unmasked c)) p Empty (omega (arith, r.1, length-set {A = Module})))
    ]

set_kept : (before : List Module) (i p : ℕ) (c : Color) (ms : List Module) → is_empty (slice_index_or before p Empty) ≡ true → IsKept before i (slice_index_or ms i Empty) → IsKept before i (slice_index_or (slice_set ms p (Unmasked c)) i Empty)
set_kept before i p c ms empty kept =
    elim (eqb_tells i p) [
      | inl q ↦ record {
        stays = λ e. absurd (true≢false (sym (ap (λ n. is_empty (slice_index_or before n Empty)) q.1 ∙ empty) ∙ e));
        free = λ e. ap (λ n. is_free (slice_index_or (slice_set ms p (Unmasked c)) n Empty)) q.1 ∙ set_free ms p c;
      }
      | inr q ↦ subst (IsKept before i) (sym (get_or-set_other ms p i (Unmasked c) Empty (λ e. q.1 e))) kept
    ]

put_kept : (before : List Module) (i : ℕ) (places : List ℕ) (bits : List Bool) (ms : List Module) → AllByRecursion (λ p. is_empty (slice_index_or before p Empty) ≡ true) places →
    IsKept before i (slice_index_or ms i Empty) → IsKept before i (slice_index_or (put_bits places bits ms) i Empty)
put_kept before i [] bits ms all kept = kept
put_kept before i (p ∷ places) [] ms all kept = kept
put_kept before i (p ∷ places) (b ∷ bits) ms all kept =
    put_kept before i places bits (slice_set ms p (Unmasked (color_of b))) all.1 (set_kept before i p (color_of b) ms all.0 kept)

filter_step : (test : ℕ → Bool) (x : ℕ) (rest : List ℕ) (b : Bool) → test x ≡ b → AllByRecursion (λ x. test x ≡ true) rest → AllByRecursion (λ x. test x ≡ true) (if b then x ∷ rest else rest)
filter_step test x rest true e all = (e, all)
filter_step test x rest false e all = all

filter_all : (test : ℕ → Bool) (xs : List ℕ) → AllByRecursion (λ x. test x ≡ true) (filter test xs)
filter_all test [] = tt
filter_all test (x ∷ xs) = filter_step test x (filter test xs) (test x) refl (filter_all test xs)

drawn_kept : (v : Version) (bits : List Bool) (before : List Module) (i : ℕ) → IsKept before i (slice_index_or (with_bits_drawn v bits before) i Empty)
unfolding with_bits_drawn
drawn_kept v bits before i =
    put_kept before i (empty_places v before) bits before (filter_all (λ i. is_empty (slice_index_or before i Empty)) (map (λ p. p.1 * side v + p.0) (zigzag v)))
    (record { stays = λ e. refl; free = empty_free (slice_index_or before i Empty) })

patterns_at : (v : Version) (i : ℕ) → i < side v * side v → slice_index_or (with_patterns v (blank v)) i Empty ≡ pattern_module v (i % side v) (i / side v) Empty
unfolding with_patterns
patterns_at v i h =
    get_or-map-range_with_len (λ i. pattern_module v (i % side v) (i / side v) (slice_index_or (blank v) i Empty)) 0 (side v * side v) i i Empty h (omega arith)
    ∙ ap (pattern_module v (i % side v) (i / side v)) (get_or-replicate (side v * side v) i Empty Empty h)

abbrev base : Option Color → Option ℕ → Module
base p o = elim p [ Some c ↦ Masked c | None ↦ elim o [ Some i ↦ Masked Light | None ↦ Empty ] ]

-- the colour under another mask, by what is at its place
abbrev pub remask_of : ℕ → Option ℕ → Option Color → Bool → Bool → Color → Color
remask_of word o p tk tj c = elim o [ Some i ↦ color_of (has_bit word (14 - i)) | None ↦ elim p [ Some c' ↦ c | None ↦ color_of (turned_if (not (same tk tj)) (is_dark c)) ] ]

turn_empty : (tk tj : Bool) → turned_if (not (same tk tj)) (is_dark (color_of tk)) ≡ tj
turn_empty tk tj = grind (arith, nat_tests)

turn_again : (tk tj b : Bool) → turned_if (not (same tk tj)) (is_dark (color_of (turned_if tk b))) ≡ turned_if tj b
turn_again tk tj b = grind (arith, nat_tests)

remask_place : (wk wj : ℕ) (o : Option ℕ) (p d : Option Color) (tk tj : Bool) (m : Module) → (p ≡ None → d ≡ None) → (is_empty (base p o) ≡ false → m ≡ base p o) → (is_empty (base p o) ≡ true → is_free m ≡ true) →
    remask_of wj o p tk tj (color_of_module (module_of wk o d tk m)) ≡ color_of_module (module_of wj o d tj m)
remask_place wk wj (Some i) p d tk tj m h stays free = refl
remask_place wk wj None (Some c) (Some e) tk tj m h stays free = refl
remask_place wk wj None (Some c) None tk tj m h stays free =
    ap (λ m. color_of_module (masked_module tk m)) (stays refl) ∙ sym (ap (λ m. color_of_module (masked_module tj m)) (stays refl))
remask_place wk wj None None (Some c) tk tj m h stays free = let e = h refl in cc
remask_place wk wj None None None tk tj Empty h stays free = ap color_of (turn_empty tk tj)
remask_place wk wj None None None tk tj (Masked c) h stays free = let e = free refl in cc
remask_place wk wj None None None tk tj (Unmasked c) h stays free = ap color_of (turn_again tk tj (is_dark c))

module _ (v : Version) (l : EcLevel) (modules : List Module) (bits : List Bool) (drawn : modules ≡ with_bits_drawn v bits (with_patterns v (blank v))) where
  kept_at : (i : ℕ) → IsKept (with_patterns v (blank v)) i (slice_index_or modules i Empty)
  kept_at i = subst (λ (ms : List Module). IsKept (with_patterns v (blank v)) i (slice_index_or ms i Empty)) (sym drawn) (drawn_kept v bits (with_patterns v (blank v)) i)

  remasked_place : (k j : MaskPattern) (i : ℕ) → i < side v * side v →
      remasked_at v (format_word v l j) k j (i % side v) (i / side v) (slice_index_or (colors_of (with_mask v l k modules)) i Light) ≡ color_of_module (mask_module v (format_word v l j) j (i % side v) (i / side v) (slice_index_or modules i Empty))
  unfolding remasked_at
  remasked_place k j i h =
      let x = i % side v in
      let y = i / side v in
      let m = slice_index_or modules i Empty in
      let before = slice_index_or (with_patterns v (blank v)) i Empty in
      let e : before ≡ base (pattern v x y) (format_index v x y) = patterns_at v i h in
      let color : slice_index_or (colors_of (with_mask v l k modules)) i Light ≡ color_of_module (mask_module v (format_word v l k) k x y m) =
      get_or-map color_of_module (with_mask v l k modules) i Empty ∙ ap color_of_module (with_mask_at v l modules k i h) in
      ap (remask_of (format_word v l j) (format_index v x y) (pattern v x y) (turns k x y) (turns j x y)) (color ∙ ap color_of_module (module_is v (format_word v l k) k x y m))
      ∙ remask_place (format_word v l k) (format_word v l j) (format_index v x y) (pattern v x y) (dark_module v x y) (turns k x y) (turns j x y) m
      (no_dark_module v x y)
      (λ f. (kept_at i).stays (ap is_empty e ∙ f) ∙ e)
      (λ f. (kept_at i).free (ap is_empty e ∙ f))
      ∙ ap color_of_module (sym (module_is v (format_word v l j) j x y m))

  remasked_same : (k j : MaskPattern) → remasked v l k j (colors_of (with_mask v l k modules)) ≡ colors_of (with_mask v l j modules)
  unfolding remasked
  remasked_same k j =
      let s = colors_of (with_mask v l k modules) in
      let at = λ (i : ℕ). remasked_at v (format_word v l j) k j (i % side v) (i / side v) (slice_index_or s i Light) in
      let size : length (map at (range_with_len 0 (side v * side v))) ≡ side v * side v = length-map-range_with_len at 0 (side v * side v) in
      ext_get_or Light (map at (range_with_len 0 (side v * side v))) (colors_of (with_mask v l j modules)) (size ∙ sym (length-map (with_mask v l j modules) color_of_module ∙ length_with_mask v l modules j)) (λ i h.
      let inside : i < side v * side v = omega arith in
      get_or-map-range_with_len at 0 (side v * side v) i i Light inside (omega arith)
      ∙ remasked_place k j i inside
      ∙ sym (get_or-map color_of_module (with_mask v l j modules) i Empty ∙ ap color_of_module (with_mask_at v l modules j i inside)))

  -- the best mask is the first with the lowest penalty, judged by the colours alone
  pub first_least_of : (k : MaskPattern) → IsBestMask v l modules k → IsFirstLeast v l k (colors_of (with_mask v l k modules))
  first_least_of k best = record {
    least = λ j h. subst (λ (s : List Color). penalty v (colors_of (with_mask v l k modules)) ≤ penalty v s) (sym (remasked_same k j)) (best.least j h);
    first = λ j h n. subst (λ (s : List Color). penalty v (colors_of (with_mask v l k modules)) < penalty v s) (sym (remasked_same k j)) (best.first j h n);
  }
