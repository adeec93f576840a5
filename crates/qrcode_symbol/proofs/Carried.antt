-- What is drawn on a new canvas and masked carries its codewords.
use Rattle.std.proofs.Common.{◌≡◌, ℕ, zero, suc, ◌+◌, ◌-◌, ◌*◌, ◌<◌, Bool, true, false, not, ◌||◌, List, [], ◌∷◌, ◌++◌, map, length, get_or, arith, sym, ap, subst, refl, ◌∙◌, Option, Some, None, slice_get, unwrap_or, is_some, IsTrue, IfSome, replicate, length-append}
use Rattle.std.specs.List.{range_with_len, All, list_all}
use Rattle.std.proofs.lemmas.Option.{unwrap_or-slice_get}
use Rattle.std.proofs.lemmas.List.{length-replicate, ext_get_or, length-map, get_or-map, drop_at}
use Rattle.std.proofs.lemmas.List.Elements.{All-filter, filter_passes, All-weaker, All-from_recursion, recursion_from_All}
use Rattle.std.proofs.lemmas.List.FromFn.{get_or-map-range_with_len, length-map-range_with_len}
use Rattle.std.proofs.lemmas.Bool.Decides.{nat_tests}
use Rattle.qrcode_types.specs.Bits.{has_bit, number_bits, AreBytes}
use Rattle.qrcode_types.specs.Colors.{is_dark, color_of}
use Rattle.qrcode_types.specs.Versions.{side, is_valid, has_level, capacity, data_length, total_ec_length, remainder_bits}
use Rattle.qrcode_types.specs.declared.types.Version.{Version}
use Rattle.qrcode_types.specs.declared.types.EcLevel.{EcLevel}
use Rattle.qrcode_types.specs.declared.types.Color.{Color}
use Rattle.qrcode_types.specs.declared.types.Color.TheVariants.{Light}
use Rattle.qrcode_layout.specs.Masks.{turns, turned_if}
use Rattle.qrcode_layout.specs.Words.{format_word}
use Rattle.qrcode_layout.specs.Patterns.{is_functional_place, pattern, format_index, dark_module, format_copies}
use Rattle.qrcode_layout.specs.Stream.{zigzag, zigzag_place, free_places, stream, color_at}
use Rattle.qrcode_layout.specs.Laws.{IsInside, IsFormatCopy}
use Rattle.qrcode_layout.specs.declared.masks.MaskPattern.{MaskPattern}
use Rattle.qrcode_layout.proofs.Formats.{valid_of}
use Rattle.qrcode_layout.proofs.Zigzag.{walk_is_inside}
use Rattle.qrcode_layout.proofs.FormatPlaces.{format_copies_are_indexed}
use Rattle.qrcode_layout.proofs.Agreements.{format_places_are_no_patterns, dark_module_is_in_the_pattern, no_dark_module}
use Rattle.qrcode_layout.proofs.FreeCounts.{free_places_are_filled}
use Rattle.qrcode_symbol.specs.Canvas.{color_of_module, colors_of, is_empty, masked_module, mask_module, empty_places, with_bits_drawn, with_patterns, with_mask, blank, drawn_bits}
use Rattle.qrcode_symbol.specs.Carried.{HasZeroHalf}
use Rattle.qrcode_symbol.specs.Symbol.{bits_at, HasPatterns, Carries}
use Rattle.qrcode_symbol.specs.declared.canvas.Module.{Module}
use Rattle.qrcode_symbol.specs.declared.canvas.Module.TheVariants.{Empty, Masked}
use Rattle.qrcode_symbol.proofs.MaskedSquares.{module_is, dark_color}
use Rattle.qrcode_symbol.proofs.BitLists.{length_number_bits, number_bits_at}
use Rattle.qrcode_symbol.proofs.Codewords.{codewords_drawn, length_drawn}
use Rattle.qrcode_symbol.proofs.Filled.{drawn_at, filled_at, filled_other, free_is_empty}
use Rattle.qrcode_symbol.proofs.Functional.{length_patterned, patterned_place}
use Rattle.qrcode_symbol.proofs.Mapped.{length_mapped, mapped_place}

colors_at : (m : List Module) (i : ℕ) → get_or (colors_of m) i Light ≡ color_of_module (get_or m i Empty)
colors_at [] i = refl
colors_at (x ∷ m) zero = refl
colors_at (x ∷ m) (suc i) = colors_at m i

-- the colour of a place after the mask
color_is : (v : Version) (l : EcLevel) (k : MaskPattern) (m : List Module) (x y : ℕ) → x < side v → y < side v
    → color_at v (colors_of (with_mask v l k m)) x y ≡ color_of_module (mask_module v (format_word v l k) k x y (get_or m (y * side v + x) Empty))
unfolding with_mask
color_is v l k m x y xl yl =
    colors_at (with_mask v l k m) (y * side v + x) ∙ ap color_of_module (mapped_place v (mask_module v (format_word v l k) k) m x y xl yl)

-- a module after the mask, by what is at its place
after : (f : Option ℕ) (d : Option Color) (word : ℕ) (t : Bool) (m : Module) → Module
after f d word t m = elim f as (λ _. Module) [ Some i ↦ Masked (color_of (has_bit word (14 - i))) | None ↦ elim d as (λ _. Module) [ Some c ↦ Masked c | None ↦ masked_module t m ] ]

after_is : (v : Version) (word : ℕ) (k : MaskPattern) (x y : ℕ) (m : Module) → mask_module v word k x y m ≡ after (format_index v x y) (dark_module v x y) word (turns k x y) m
unfolding after
after_is v word k x y m = module_is v word k x y m

at_format : (f : Option ℕ) (d : Option Color) (word : ℕ) (t : Bool) (m : Module) (i : ℕ) → f ≡ Some i → is_dark (color_of_module (after f d word t m)) ≡ has_bit word (14 - i)
unfolding after
at_format f d word t m i e = rw e (dark_color (has_bit word (14 - i)))

at_pattern : (d : Option Color) (word : ℕ) (t : Bool) (c : Color) → ((e : Color) → d ≡ Some e → e ≡ c) → color_of_module (after None d word t (Masked c)) ≡ c
unfolding after
at_pattern None word t c same = refl
at_pattern (Some e) word t c same = same e refl

at_free : (f : Option ℕ) (d : Option Color) (word : ℕ) (t : Bool) (m : Module) → f ≡ None → d ≡ None → after f d word t m ≡ masked_module t m
unfolding after
at_free f d word t m e h = rw (e, h) refl

-- a place with a pattern has no bit of the format word
pub no_format : (v : Version) (x y : ℕ) (c : Color) → IsTrue (is_valid v) → pattern v x y ≡ Some c → format_index v x y ≡ None
no_format v x y c valid e = go (format_index v x y) refl where
  go : (f : Option ℕ) → format_index v x y ≡ f → f ≡ None
  go None h = refl
  go (Some i) h = let none : pattern v x y ≡ None = format_places_are_no_patterns v x y i valid h in cc

-- the bits drawn on a new canvas with its patterns
abbrev pub drawn : Version → List Bool → List Module
drawn v bits = with_bits_drawn v bits (with_patterns v (blank v))

in_pattern : (f : Option ℕ) (p : Option Color) (m : Module) (c : Color) → p ≡ Some c → elim p as (λ _. Module) [ Some c ↦ Masked c | None ↦ elim f as (λ _. Module) [ Some i ↦ Masked Light | None ↦ m ] ] ≡ Masked c
in_pattern f p m c e = rw e refl

patterns_stand : (v : Version) (l : EcLevel) (k : MaskPattern) (bits : List Bool) (x y : ℕ) → IsTrue (is_valid v) → x < side v → y < side v
    → IfSome (pattern v x y) (λ c. color_at v (colors_of (with_mask v l k (drawn v bits))) x y ≡ c)
patterns_stand v l k bits x y valid xl yl = go (pattern v x y) refl where
  go : (p : Option Color) → pattern v x y ≡ p → IfSome p (λ c. color_at v (colors_of (with_mask v l k (with_bits_drawn v bits (with_patterns v (blank v))))) x y ≡ c)
  go None e = tt
  go (Some c) e =
      let i : ℕ = y * side v + x in
      let new = with_patterns v (blank v) in
      let here : get_or new i Empty ≡ Masked c = patterned_place v x y xl yl ∙ in_pattern (format_index v x y) (pattern v x y) Empty c e in
      let stays : get_or (with_bits_drawn v bits new) i Empty ≡ Masked c = filled_other v bits new i (ap is_empty here) ∙ here in
      let dark = λ (d : Color) (h : dark_module v x y ≡ Some d). let p : pattern v x y ≡ Some d = dark_module_is_in_the_pattern v x y d valid h in let same : d ≡ c = cc in same in
      color_is v l k (with_bits_drawn v bits new) x y xl yl
      ∙ ap (λ (m : Module). color_of_module (mask_module v (format_word v l k) k x y m)) stays
      ∙ ap color_of_module (after_is v (format_word v l k) k x y (Masked c))
      ∙ ap (λ (f : Option ℕ). color_of_module (after f (dark_module v x y) (format_word v l k) (turns k x y) (Masked c))) (no_format v x y c valid e)
      ∙ at_pattern (dark_module v x y) (format_word v l k) (turns k x y) c dark

format_stands : (v : Version) (l : EcLevel) (k : MaskPattern) (m : List Module) (places : List (ℕ × ℕ)) → IsFormatCopy v places
    → bits_at v (colors_of (with_mask v l k m)) places ≡ number_bits 15 (format_word v l k)
format_stands v l k m places copy =
    let word = format_word v l k in
    let bit : ℕ × ℕ → Bool = λ p. is_dark (color_at v (colors_of (with_mask v l k m)) p.0 p.1) in
    ext_get_or false (map bit places) (number_bits 15 word) (length-map places bit ∙ copy.count ∙ sym (length_number_bits 15 word))
    (λ i h.
    let lt : i < 15 = omega (arith, length-map places bit, copy.count, h) in
    let p : ℕ × ℕ = get_or places i (0, 0) in
    let at = copy.inside i lt in
    get_or-map bit places i (0, 0) false (omega (arith, copy.count))
    ∙ ap is_dark (color_is v l k m p.0 p.1 at.0 at.1 ∙ ap color_of_module (after_is v word k p.0 p.1 (get_or m (p.1 * side v + p.0) Empty)))
    ∙ at_format (format_index v p.0 p.1) (dark_module v p.0 p.1) word (turns k p.0 p.1) (get_or m (p.1 * side v + p.0) Empty) i (copy.index i lt)
    ∙ sym (number_bits_at 15 word i lt))

has_patterns : (v : Version) (l : EcLevel) (k : MaskPattern) (bits : List Bool) → IsTrue (is_valid v) → HasPatterns v l k (colors_of (with_mask v l k (drawn v bits)))
unfolding with_mask
has_patterns v l k bits valid = record {
  square = length-map (with_mask v l k (drawn v bits)) color_of_module ∙ length_mapped v (mask_module v (format_word v l k) k) (drawn v bits);
  pattern = λ x y xl yl. patterns_stand v l k bits x y valid xl yl;
  format = recursion_from_All _ (format_copies v) (All-weaker (IsFormatCopy v) _ (λ places copy. format_stands v l k (drawn v bits) places copy) (format_copies v)
      (All-from_recursion (IsFormatCopy v) (format_copies v) (format_copies_are_indexed v valid)));
}

-- masking twice changes nothing; an empty module reads as 0
turned_back : (t : Bool) (o : Option Bool) → turned_if t (is_dark (color_of_module (masked_module t (drawn_at o Empty)))) ≡ unwrap_or o false
turned_back t o = grind (arith, nat_tests)

neither : (p : Option Color) (f : Option ℕ) → (is_some p || is_some f) ≡ false → (p ≡ None) × (f ≡ None)
neither p f h1 = grind (arith, nat_tests)

pub not_true : (b : Bool) → not b ≡ true → b ≡ false
not_true b h1 = grind (arith, nat_tests)

pub free_nothing : (v : Version) (x y : ℕ) → is_functional_place v x y ≡ false → (pattern v x y ≡ None) × (format_index v x y ≡ None)
unfolding is_functional_place
free_nothing v x y e = neither (pattern v x y) (format_index v x y) e

pub free_inside : (v : Version) → IsTrue (is_valid v) → All (λ p. IsInside v p.0 p.1) (free_places v)
unfolding free_places zigzag
free_inside v valid =
    All-filter (λ p. not (is_functional_place v p.0 p.1)) (λ p. IsInside v p.0 p.1) (map (zigzag_place v) (range_with_len 0 (side v * (side v - 1))))
    (λ i d h.
    let lt : i < side v * (side v - 1) = subst (λ (n : ℕ). i < n) (length-map-range_with_len (zigzag_place v) 0 (side v * (side v - 1))) h in
    subst (λ (p : ℕ × ℕ). IsInside v p.0 p.1) (sym (get_or-map-range_with_len (zigzag_place v) 0 (side v * (side v - 1)) i i d lt (omega arith))) (walk_is_inside v i valid lt))

pub free_free : (v : Version) → All (λ p. not (is_functional_place v p.0 p.1) ≡ true) (free_places v)
unfolding free_places
free_free v = filter_passes (λ p. not (is_functional_place v p.0 p.1)) (zigzag v)

-- the stream has the bits, then zeros
stream_at : (v : Version) (l : EcLevel) (k : MaskPattern) (bits : List Bool) (i : ℕ) → IsTrue (is_valid v) → i < length (free_places v)
    → get_or (stream v k (colors_of (with_mask v l k (drawn v bits)))) i false ≡ get_or bits i false
unfolding stream
stream_at v l k bits i valid lt =
    let new = with_patterns v (blank v) in
    let p : ℕ × ℕ = get_or (free_places v) i (0, 0) in
    let read : ℕ × ℕ → Bool = λ p. turned_if (turns k p.0 p.1) (is_dark (color_at v (colors_of (with_mask v l k (with_bits_drawn v bits new))) p.0 p.1)) in
    let index : ℕ × ℕ → ℕ = λ p. p.1 * side v + p.0 in
    let at = free_inside v valid i (0, 0) lt in
    let free = free_nothing v p.0 p.1 (not_true (is_functional_place v p.0 p.1) (free_free v i (0, 0) lt)) in
    let many : length (empty_places v new) ≡ length (free_places v) = ap length (free_is_empty v valid) ∙ length-map (free_places v) index in
    let there : get_or (empty_places v new) i 0 ≡ p.1 * side v + p.0 = ap (λ (l : List ℕ). get_or l i 0) (free_is_empty v valid) ∙ get_or-map index (free_places v) i (0, 0) 0 lt in
    let bit : get_or (with_bits_drawn v bits new) (p.1 * side v + p.0) Empty ≡ drawn_at (slice_get bits i) Empty =
    ap (λ (q : ℕ). get_or (with_bits_drawn v bits new) q Empty) (sym there) ∙ filled_at v bits new i valid (length_patterned v) (omega arith) in
    let masked : mask_module v (format_word v l k) k p.0 p.1 (drawn_at (slice_get bits i) Empty) ≡ masked_module (turns k p.0 p.1) (drawn_at (slice_get bits i) Empty) =
    after_is v (format_word v l k) k p.0 p.1 (drawn_at (slice_get bits i) Empty)
    ∙ at_free (format_index v p.0 p.1) (dark_module v p.0 p.1) (format_word v l k) (turns k p.0 p.1) (drawn_at (slice_get bits i) Empty) free.1 (no_dark_module v p.0 p.1 free.0) in
    get_or-map read (free_places v) i (0, 0) false lt
    ∙ ap (λ (c : Color). turned_if (turns k p.0 p.1) (is_dark c))
    (color_is v l k (with_bits_drawn v bits new) p.0 p.1 at.0 at.1 ∙ ap (λ (m : Module). color_of_module (mask_module v (format_word v l k) k p.0 p.1 m)) bit ∙ ap color_of_module masked)
    ∙ turned_back (turns k p.0 p.1) (slice_get bits i)
    ∙ unwrap_or-slice_get bits i false

zeros_at : (n i : ℕ) → get_or (replicate n false) i false ≡ false
zeros_at zero i = refl
zeros_at (suc n) zero = refl
zeros_at (suc n) (suc i) = zeros_at n i

padded_at : (bits : List Bool) (n i : ℕ) → get_or (bits ++ replicate n false) i false ≡ get_or bits i false
padded_at [] n i = zeros_at n i
padded_at (b ∷ bits) n zero = refl
padded_at (b ∷ bits) n (suc i) = padded_at bits n i

length_stream : (v : Version) (k : MaskPattern) (s : List Color) → length (stream v k s) ≡ length (free_places v)
unfolding stream
length_stream v k s = length-map (free_places v) (λ p. turned_if (turns k p.0 p.1) (is_dark (color_at v s p.0 p.1)))

stream_is : (v : Version) (l : EcLevel) (k : MaskPattern) (bits : List Bool) (n : ℕ) → IsTrue (is_valid v) → length (free_places v) ≡ length bits + n
    → stream v k (colors_of (with_mask v l k (drawn v bits))) ≡ bits ++ replicate n false
stream_is v l k bits n valid e =
    let s = stream v k (colors_of (with_mask v l k (drawn v bits))) in
    let len : length s ≡ length (free_places v) = length_stream v k (colors_of (with_mask v l k (drawn v bits))) in
    ext_get_or false s (bits ++ replicate n false) (len ∙ e ∙ sym (length-append bits (replicate n false) ∙ ap (λ (r : ℕ). length bits + r) (length-replicate n false)))
    (λ i h. stream_at v l k bits i valid (omega (arith, len, h)) ∙ sym (padded_at bits n i))

all_zeros : (n : ℕ) → list_all not (replicate n false) ≡ true
all_zeros zero = refl
all_zeros (suc n) = all_zeros n

-- the theorem of the constructors
pub carried : (v : Version) (l : EcLevel) (bytes ec : List ℕ) (k : MaskPattern) → IsTrue (has_level v l) → AreBytes bytes → AreBytes ec → length bytes ≡ data_length v l → length ec ≡ total_ec_length v l
    → HasZeroHalf v l bytes → Carries v l (bytes ++ ec) k (colors_of (with_mask v l k (drawn v (drawn_bits v l bytes ec))))
carried v l bytes ec k level b c p q half =
    let valid = valid_of v l level in
    let bits = drawn_bits v l bytes ec in
    let len = length_drawn v l bytes ec p q in
    let rest = replicate (remainder_bits v) false in
    let is : stream v k (colors_of (with_mask v l k (drawn v bits))) ≡ bits ++ rest =
    stream_is v l k bits (remainder_bits v) valid (free_places_are_filled v l level ∙ ap (λ (n : ℕ). n + remainder_bits v) (sym len)) in
    record {
      patterns = has_patterns v l k bits valid;
      holds = rw is (codewords_drawn v l bytes ec rest b c p q half);
      remainder = rw (is, drop_at bits rest (capacity v l + 8 * total_ec_length v l) len) (all_zeros (remainder_bits v));
    }
