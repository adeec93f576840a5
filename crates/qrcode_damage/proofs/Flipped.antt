-- A square in which some modules are reversed: exactly the codewords and bits with such a module differ.
use Rattle.std.proofs.Common.{◌≡◌, ℕ, ◌+◌, ◌-◌, ◌*◌, ◌<◌, ◌≤◌, not, Bool, true, false, cond, List, [], ◌∷◌, ◌++◌, length, map, drop, get_or, slice_index, refl, sym, ap, ap₂, ◌∙◌, arith, IsTrue, length-append}
use Rattle.std.specs.List.{AllByRecursion, count_by, range_with_len}
use Rattle.std.proofs.lemmas.Nat.{div-mul-add, mod-mul-add, mul-add-lt}
use Rattle.std.proofs.lemmas.Bool.{not-true}
use Rattle.std.proofs.lemmas.Bool.Decides.{nat_tests}
use Rattle.std.proofs.lemmas.List.{get_or-drop}
use Rattle.std.proofs.lemmas.List.FromFn.{get_or-map-range_with_len, length-map-range_with_len, map-range_with_len_more}
use Rattle.qrcode_types.specs.Colors.{is_dark}
use Rattle.qrcode_types.specs.Versions.{is_valid, side, block_lengths, ec_length, data_length, capacity, total_ec_length}
use Rattle.qrcode_types.specs.declared.types.Version.{Version}
use Rattle.qrcode_types.specs.declared.types.EcLevel.{EcLevel}
use Rattle.qrcode_types.specs.declared.types.Color.{Color}
use Rattle.qrcode_types.specs.declared.types.Color.TheVariants.{Light}
use Rattle.qrcode_ec.specs.Blocks.{codewords, block, blocks, interleaved_place}
use Rattle.qrcode_ec.specs.Codes.{distance}
use Rattle.qrcode_layout.specs.Laws.{IsInside, IsFormatCopy}
use Rattle.qrcode_layout.specs.Masks.{turns, turned_if, nth_mask}
use Rattle.qrcode_layout.specs.Patterns.{format_copies, is_functional_place}
use Rattle.qrcode_layout.specs.Stream.{color_at, stream, zigzag, free_places}
use Rattle.qrcode_layout.specs.declared.masks.MaskPattern.{MaskPattern}
use Rattle.qrcode_layout.proofs.FormatPlaces.{format_copies_are_indexed}
use Rattle.qrcode_damage.specs.Areas.{marks, block_in}
use Rattle.qrcode_damage.proofs.Beside.{distance_at_most, counted, zip_range, all_with, all_mapped}
use Rattle.qrcode_damage.proofs.Marked.{SameUnmarked, SameWord, UnmarkedSame, WordSame, unmarked_words, words_unmarked, codewords_related, none_in_block, all_in_block}
use Rattle.qrcode_damage.proofs.Shown.{streams_related, copy_inside}
use Rattle.qrcode_damage.specs.Damage.{IsWrongBy, wrong_bits, pattern_places, version_copies, has_version_word, upper_place, lower_place}
use Rattle.qrcode_damage.specs.Errors.{is_free_wrong, is_wrong, opposite_if, flipped_module, flipped, AreErrors}
use Rattle.qrcode_damage.specs.declared.damage.Damage.{Damage}
use Rattle.qrcode_damage.specs.declared.errors.Errors.{Errors}
use Rattle.qrcode_damage.proofs.Counted.{all_along, bits_flipped, all_pass, map_alike, none_at}
use Rattle.qrcode_damage.proofs.Wrong.{free_wrong, patterns_counted, patterns_inside, formats_counted, versions_counted}

-- Step by step.

pub none_flipped : (w : ℕ) (wrong : ℕ → ℕ → Bool) (s : List Color) → flipped w wrong s 0 ≡ []
unfolding flipped
none_flipped w wrong s = refl

pub flipped_more : (w : ℕ) (wrong : ℕ → ℕ → Bool) (s : List Color) (i : ℕ) (color : Color) → color ≡ flipped_module w wrong s i
    → flipped w wrong s i ++ color ∷ [] ≡ flipped w wrong s (i + 1)
unfolding flipped
flipped_more w wrong s i color is =
    ap (λ (c : Color). map (flipped_module w wrong s) (range_with_len 0 i) ++ c ∷ []) is ∙ sym (map-range_with_len_more (flipped_module w wrong s) 0 i i (omega arith))

-- other is the square s with the wrong modules reversed
pub record IsFlipped (v : Version) (wrong : ℕ → ℕ → Bool) (s other : List Color) : Type 0 where
  pub valid : IsTrue (is_valid v)
  pub whole : length s ≡ side v * side v
  pub is : other ≡ flipped (side v) wrong s (length s)

long : (v : Version) (wrong : ℕ → ℕ → Bool) (s other : List Color) → IsFlipped v wrong s other → length other ≡ length s
unfolding flipped
long v wrong s other f = ap length f.is ∙ length-map-range_with_len (flipped_module (side v) wrong s) 0 (length s)

color_flipped : (v : Version) (wrong : ℕ → ℕ → Bool) (s other : List Color) → IsFlipped v wrong s other → (x y : ℕ) → x < side v → y < side v
    → color_at v other x y ≡ opposite_if (wrong x y) (color_at v s x y)
unfolding flipped
color_flipped v wrong s other f x y i j =
    let w = side v in
    let n = y * w + x in
    ap (λ (t : List Color). color_at v t x y) f.is
    ∙ get_or-map-range_with_len (flipped_module w wrong s) 0 (length s) n n Light (omega (arith, mul-add-lt y w x w j i, f.whole)) (omega arith)
    ∙ ap₂ (λ (a b : ℕ). opposite_if (wrong a b) (get_or s n Light)) (mod-mul-add y w x i) (div-mul-add y w x i)

-- Codewords.

differs : (a t : Bool) (c : Color) → turned_if t (is_dark c) ≡ turned_if t (is_dark (opposite_if a c)) → a ≡ false
differs a t c e = grind (arith, nat_tests)

length_block : (v : Version) (l : EcLevel) (words others : List ℕ) (b : ℕ) → length (block v l words b) ≡ length (block v l others b)
unfolding block
length_block v l words others b = same_long words ∙ sym (same_long others) where
  same_long : (words : List ℕ) → length (block v l words b) ≡ slice_index (block_lengths v l) b + ec_length v l
  same_long words =
      let f = λ (i : ℕ). slice_index words (interleaved_place (block_lengths v l) i b) in
      let g = λ (i : ℕ). slice_index words (data_length v l + i * length (block_lengths v l) + b) in
      let n = slice_index (block_lengths v l) b in
      length-append (map f (range_with_len 0 n)) (map g (range_with_len 0 (ec_length v l)))
      ∙ ap₂ (λ x y. x + y) (length-map-range_with_len f 0 n) (length-map-range_with_len g 0 (ec_length v l))

-- exactly the codewords with a wrong module differ
distance_is : (v : Version) (l : EcLevel) (k : MaskPattern) (wrong : ℕ → ℕ → Bool) (s other : List Color) → IsFlipped v wrong s other
    → (b : ℕ) → distance (block_in v l k s b) (block_in v l k other b) ≡ counted (block v l (codewords v l (marks v wrong)) b)
distance_is v l k wrong s other f b =
    let m = codewords v l (marks v wrong) in
    let ws = codewords v l (stream v k s) in
    let os = codewords v l (stream v k other) in
    let color = color_flipped v wrong s other f in
    let same = none_in_block v l m ws os b
    (codewords_related SameUnmarked SameWord unmarked_words v l (marks v wrong) (stream v k s) (stream v k other)
    (streams_related SameUnmarked v k wrong s other f.valid (λ e. refl)
    (λ x y i j right. ap (λ c. turned_if (turns k x y) (is_dark c)) (sym (color x y i j ∙ ap (λ a. opposite_if a (color_at v s x y)) right))))) in
    let far = all_in_block v l m ws os b
    (codewords_related UnmarkedSame WordSame words_unmarked v l (marks v wrong) (stream v k s) (stream v k other)
    (streams_related UnmarkedSame v k wrong s other f.valid (λ e. refl)
    (λ x y i j e. differs (wrong x y) (turns k x y) (color_at v s x y) (e ∙ ap (λ c. turned_if (turns k x y) (is_dark c)) (color x y i j))))) in
    let near = distance_at_most (block v l m b) (block_in v l k s b) (block_in v l k other b) (length_block v l ws m b) in
    omega (arith, near, far, same)

-- the free places have the bits of the square that was drawn
marks_are : (v : Version) (e : Errors) → marks v (is_wrong v e) ≡ stream v (nth_mask v 0) e.codewords.items
unfolding marks stream free_places
marks_are v e =
    let free = λ (p : ℕ × ℕ). not (is_functional_place v p.0 p.1) in
    map_alike (λ (p : ℕ × ℕ). is_wrong v e p.0 p.1) (λ p. is_free_wrong v e p.0 p.1) (free_places v)
    (all_mapped (λ p. free p ≡ true) (λ p. is_wrong v e p.0 p.1 ≡ is_free_wrong v e p.0 p.1) (free_places v)
    (λ p h. free_wrong v e p.0 p.1 (not-true (is_functional_place v p.0 p.1) h)) (all_pass free (zigzag v)))

block_counted : (v : Version) (l : EcLevel) (d : Damage) (e : Errors) → AreErrors v l d e → (b : ℕ) → b < length (block_lengths v l)
    → counted (block v l (codewords v l (marks v (is_wrong v e))) b) ≡ d.codewords
block_counted v l d e are b below =
    ap (λ (ws : List ℕ). counted (block v l ws b)) (ap (codewords v l) (marks_are v e) ∙ are.drawn.holds) ∙ are.codewords b below

-- Bits of words.

dark_if : (a : Bool) (c : Color) → is_dark (opposite_if a c) ≡ turned_if a (is_dark c)
dark_if a c = grind (arith, nat_tests)

bits_wrong : (v : Version) (wrong : ℕ → ℕ → Bool) (s other : List Color) → IsFlipped v wrong s other → (places : List (ℕ × ℕ)) → AllByRecursion (λ p. IsInside v p.0 p.1) places
    → wrong_bits v s other places ≡ count_by (λ p. wrong p.0 p.1) places
bits_wrong v wrong s other f places inside =
    let dark = λ (t : List Color) (p : ℕ × ℕ). is_dark (color_at v t p.0 p.1) in
    bits_flipped (λ (p : ℕ × ℕ). wrong p.0 p.1) (dark s) (dark other) places
    (all_mapped (λ p. IsInside v p.0 p.1) (λ p. dark other p ≡ turned_if (wrong p.0 p.1) (dark s p)) places
    (λ p i. ap is_dark (color_flipped v wrong s other f p.0 p.1 i.0 i.1) ∙ dark_if (wrong p.0 p.1) (color_at v s p.0 p.1)) inside)

formats_inside : (v : Version) → IsTrue (is_valid v) → AllByRecursion (λ places. AllByRecursion (λ p. IsInside v p.0 p.1) places) (format_copies v)
formats_inside v valid =
    all_mapped (IsFormatCopy v) (λ places. AllByRecursion (λ p. IsInside v p.0 p.1) places) (format_copies v) (copy_inside v) (format_copies_are_indexed v valid)

versions_inside : (v : Version) → AllByRecursion (λ places. AllByRecursion (λ p. IsInside v p.0 p.1) places) (version_copies v)
unfolding version_copies
versions_inside v = go (has_version_word v) refl where
  go : (b : Bool) → has_version_word v ≡ b
      → AllByRecursion (λ places. AllByRecursion (λ p. IsInside v p.0 p.1) places)
      (cond b (map (upper_place (side v)) (range_with_len 0 18) ∷ map (lower_place (side v)) (range_with_len 0 18) ∷ []) [])
  go true has =
      let wide : 45 ≤ side v = grind (arith, nat_tests) in (
        all_along (λ p. IsInside v p.0 p.1) (upper_place (side v)) 0 18 (λ i below. (omega arith, omega arith)),
        (all_along (λ p. IsInside v p.0 p.1) (lower_place (side v)) 0 18 (λ i below. (omega arith, omega arith)), tt),
      )
  go false none = tt

-- The rest.

-- after the codewords, both streams are the same
rest_right : (v : Version) (l : EcLevel) (k : MaskPattern) (d : Damage) (e : Errors) (s other : List Color) → AreErrors v l d e → IsFlipped v (is_wrong v e) s other
    → (i : ℕ) → capacity v l + 8 * total_ec_length v l ≤ i → get_or (stream v k s) i false ≡ get_or (stream v k other) i false
rest_right v l k d e s other are f i behind =
    let wrong = is_wrong v e in
    let n = capacity v l + 8 * total_ec_length v l in
    let zeros = stream v (nth_mask v 0) e.codewords.items in
    let back : n + (i - n) ≡ i = omega arith in
    let unmarked : get_or (marks v wrong) i false ≡ false =
    ap (λ (bits : List Bool). get_or bits i false) (marks_are v e)
    ∙ ap (λ j. get_or zeros j false) (sym back) ∙ sym (get_or-drop n zeros (i - n) false) ∙ none_at (drop n zeros) (i - n) are.drawn.remainder in
    (streams_related SameUnmarked v k wrong s other f.valid (λ e. refl)
    (λ x y a b right. ap (λ c. turned_if (turns k x y) (is_dark c)) (sym (color_flipped v wrong s other f x y a b ∙ ap (λ t. opposite_if t (color_at v s x y)) right)))).each i unmarked

pub wrong_by : (v : Version) (l : EcLevel) (k : MaskPattern) (d : Damage) (e : Errors) (s other : List Color)
    → AreErrors v l d e → IsFlipped v (is_wrong v e) s other → IsWrongBy v l k d s other
unfolding blocks
wrong_by v l k d e s other errors f =
    let wrong = is_wrong v e in
    let inside = λ (places : List (ℕ × ℕ)). AllByRecursion (λ p. IsInside v p.0 p.1) places in
    let number = λ (places : List (ℕ × ℕ)). count_by (λ p. wrong p.0 p.1) places in
    record {
      square = long v wrong s other f;
      blocks = zip_range (λ b c. distance b c ≡ d.codewords) (block_in v l k s) (block_in v l k other) 0 (length (block_lengths v l))
          (λ b below. distance_is v l k wrong s other f b ∙ block_counted v l d e errors b (omega arith));
      format = all_with inside (λ places. number places ≡ d.format_bits) (λ places. wrong_bits v s other places ≡ d.format_bits) (format_copies v)
          (λ places i n. bits_wrong v wrong s other f places i ∙ n) (formats_inside v f.valid) (formats_counted v l d e f.valid errors);
      version = all_with inside (λ places. number places ≡ d.version_bits) (λ places. wrong_bits v s other places ≡ d.version_bits) (version_copies v)
          (λ places i n. bits_wrong v wrong s other f places i ∙ n) (versions_inside v) (versions_counted v l d e f.valid errors);
      patterns = bits_wrong v wrong s other f (pattern_places v) (patterns_inside v) ∙ patterns_counted v l d e f.valid errors;
      remainder = rest_right v l k d e s other errors f;
    }
