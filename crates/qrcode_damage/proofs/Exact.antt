-- If every module of an area is inverted, every codeword that the area touches is wrong.
use Rattle.std.proofs.Common.{◌≡◌, ℕ, ◌+◌, ◌*◌, ◌/◌, ◌%◌, ◌<◌, ◌≤◌, Bool, true, false, true≢false, List, [], IsTrue, length, map, get_or, refl, sym, ap, ap₂, ◌∙◌, arith, subst}
use Rattle.std.specs.List.{count_by, range_with_len}
use Rattle.std.proofs.lemmas.Nat.{div-mul-add, mod-mul-add, mul-add-lt}
use Rattle.std.proofs.lemmas.List.FromFn.{get_or-map-range_with_len, length-map-range_with_len}
use Rattle.std.proofs.lemmas.List.Elements.{AllZip-get_or}
use Rattle.qrcode_types.specs.Colors.{is_dark, opposite}
use Rattle.qrcode_types.specs.Bits.{bit_distance}
use Rattle.qrcode_types.specs.Versions.{is_valid, side, block_lengths, ec_length}
use Rattle.qrcode_types.specs.declared.types.Version.{Version}
use Rattle.qrcode_types.specs.declared.types.EcLevel.{EcLevel}
use Rattle.qrcode_types.specs.declared.types.Color.{Color}
use Rattle.qrcode_types.specs.declared.types.Color.TheVariants.{Light, Dark}
use Rattle.qrcode_ec.specs.Blocks.{codewords, blocks}
use Rattle.qrcode_ec.specs.Codes.{distance}
use Rattle.qrcode_layout.specs.Laws.{IsInside, IsFormatCopy}
use Rattle.qrcode_layout.specs.Masks.{turns, turned_if}
use Rattle.qrcode_layout.specs.Patterns.{format_copies}
use Rattle.qrcode_layout.specs.Stream.{color_at, stream}
use Rattle.qrcode_layout.specs.declared.masks.MaskPattern.{MaskPattern}
use Rattle.qrcode_layout.proofs.FormatPlaces.{format_copies_are_indexed}
use Rattle.qrcode_symbol.specs.Symbol.{bits_at, IsDamaged}
use Rattle.qrcode_damage.specs.Areas.{marks, touched, block_in, AgreesOutside}
use Rattle.qrcode_damage.specs.Laws.{AreaIsExact}
use Rattle.qrcode_damage.proofs.Beside.{bits_at_least, all_with, all_mapped}
use Rattle.qrcode_damage.proofs.Marked.{UnmarkedSame, WordSame, words_unmarked, codewords_related, all_in_block}
use Rattle.qrcode_damage.proofs.Shown.{streams_related, copy_inside}

abbrev turned_color : Bool → Color → Color
turned_color true c = opposite c
turned_color false c = c

-- the square with each module of the area inverted
turned_at : Version → (ℕ → ℕ → Bool) → List Color → ℕ → Color
turned_at v area s i = turned_color (area (i % side v) (i / side v)) (get_or s i Light)

turned : Version → (ℕ → ℕ → Bool) → List Color → List Color
turned v area s = map (turned_at v area s) (range_with_len 0 (length s))

color_turned : (v : Version) (area : ℕ → ℕ → Bool) (s : List Color) (x y : ℕ) → length s ≡ side v * side v → x < side v → y < side v
    → color_at v (turned v area s) x y ≡ turned_color (area x y) (color_at v s x y)
unfolding turned turned_at
color_turned v area s x y square i j =
    let w = side v in
    let n = y * w + x in
    get_or-map-range_with_len (turned_at v area s) 0 (length s) n n Light (omega (arith, mul-add-lt y w x w j i, square)) (omega arith)
    ∙ ap₂ (λ (a b : ℕ). turned_color (area a b) (get_or s n Light)) (mod-mul-add y w x i) (div-mul-add y w x i)

agrees : (v : Version) (area : ℕ → ℕ → Bool) (s : List Color) → length s ≡ side v * side v → AgreesOutside v area s (turned v area s)
unfolding turned
agrees v area s square = record {
  square = length-map-range_with_len (turned_at v area s) 0 (length s);
  same = λ x y i j out. sym (color_turned v area s x y square i j ∙ ap (λ b. turned_color b (color_at v s x y)) out);
}

-- an inverted module differs
shows : (a t : Bool) (c : Color) → turned_if t (is_dark c) ≡ turned_if t (is_dark (turned_color a c)) → a ≡ false
shows false t c e = refl
shows true true Light e = absurd (true≢false e)
shows true true Dark e = absurd (true≢false (sym e))
shows true false Light e = absurd (true≢false (sym e))
shows true false Dark e = absurd (true≢false e)

shown_at : (v : Version) (area : ℕ → ℕ → Bool) (s : List Color) (t : Bool) (x y : ℕ) → length s ≡ side v * side v → x < side v → y < side v
    → turned_if t (is_dark (color_at v s x y)) ≡ turned_if t (is_dark (color_at v (turned v area s) x y)) → area x y ≡ false
shown_at v area s t x y square i j e = shows (area x y) t (color_at v s x y) (e ∙ ap (λ c. turned_if t (is_dark c)) (color_turned v area s x y square i j))

block_far : (v : Version) (l : EcLevel) (k : MaskPattern) (area : ℕ → ℕ → Bool) (s : List Color) → IsTrue (is_valid v) → length s ≡ side v * side v → (b : ℕ)
    → touched v l area b ≤ distance (block_in v l k s b) (block_in v l k (turned v area s) b)
unfolding touched
block_far v l k area s valid square b =
    let other = turned v area s in
    all_in_block v l (codewords v l (marks v area)) (codewords v l (stream v k s)) (codewords v l (stream v k other)) b
    (codewords_related UnmarkedSame WordSame words_unmarked v l (marks v area) (stream v k s) (stream v k other)
    (streams_related UnmarkedSame v k area s other valid (λ e. refl) (λ x y i j. shown_at v area s (turns k x y) x y square i j)))

format_far : (v : Version) (area : ℕ → ℕ → Bool) (s : List Color) → length s ≡ side v * side v → (places : List (ℕ × ℕ)) → IsFormatCopy v places
    → bit_distance (bits_at v s places) (bits_at v (turned v area s) places) ≤ 3 → count_by (λ p. area p.0 p.1) places ≤ 3
format_far v area s square places copy few =
    let m = λ (p : ℕ × ℕ). area p.0 p.1 in
    let f = λ (s : List Color) (p : ℕ × ℕ). is_dark (color_at v s p.0 p.1) in
    let other = turned v area s in
    let all = all_mapped (λ p. IsInside v p.0 p.1) (λ p. f s p ≡ f other p → m p ≡ false) places (λ p i. shown_at v area s false p.0 p.1 square i.0 i.1) (copy_inside v places copy) in
    omega (arith, bits_at_least m (f s) (f other) places all, few)

-- damage, block by block
block_damaged : (v : Version) (l : EcLevel) (k : MaskPattern) (s other : List Color) → IsDamaged v l k s other → (b : ℕ) → b < length (block_lengths v l)
    → distance (block_in v l k s b) (block_in v l k other b) ≤ ec_length v l / 2
unfolding blocks
block_damaged v l k s other d b below =
    let n = length (block_lengths v l) in
    let f = block_in v l k s in
    let g = block_in v l k other in
    let at = AllZip-get_or (λ (x y : List ℕ). distance x y ≤ ec_length v l / 2) (map f (range_with_len 0 n)) (map g (range_with_len 0 n)) b [] [] d.blocks (omega (arith, length-map-range_with_len f 0 n)) in
    subst (λ (x : List ℕ). distance x (g b) ≤ ec_length v l / 2) (get_or-map-range_with_len f 0 n b b [] below (omega arith))
    (subst (λ (y : List ℕ). distance (get_or (map f (range_with_len 0 n)) b []) y ≤ ec_length v l / 2) (get_or-map-range_with_len g 0 n b b [] below (omega arith)) at)

pub area_is_exact : AreaIsExact
area_is_exact v l k area s valid square h =
    let other = turned v area s in
    let d = h other (agrees v area s square) in
    record {
      blocks = λ b below. omega (arith, block_far v l k area s valid square b, block_damaged v l k s other d b below);
      format = all_with (IsFormatCopy v) (λ places. bit_distance (bits_at v s places) (bits_at v other places) ≤ 3) (λ places. count_by (λ p. area p.0 p.1) places ≤ 3)
          (format_copies v) (format_far v area s square) (format_copies_are_indexed v valid) d.format;
    }
