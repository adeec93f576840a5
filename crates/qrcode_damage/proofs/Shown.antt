-- An area that touches few codewords and few places of the format word may show anything.
use Rattle.std.proofs.Common.{◌≡◌, ℕ, ◌+◌, ◌-◌, ◌*◌, ◌/◌, ◌<◌, ◌≤◌, ◌||◌, not, nat_lt, Bool, true, false, List, length, map, slice_index, refl, sym, ap, ap₂, ◌∙◌, arith, subst, IsTrue, length-append}
use Rattle.std.specs.List.{AllByRecursion, count_by, range_with_len}
use Rattle.std.proofs.lemmas.Bool.{and_parts}
use Rattle.std.proofs.lemmas.List.{get_or_default}
use Rattle.std.proofs.lemmas.List.FromFn.{get_or-map-range_with_len, length-map-range_with_len}
use Rattle.std.proofs.lemmas.List.Elements.{recursion_from_All, All-filter}
use Rattle.qrcode_types.specs.Colors.{is_dark}
use Rattle.qrcode_types.specs.Bits.{bit_distance}
use Rattle.qrcode_types.specs.Versions.{is_valid, is_micro, side, block_lengths, ec_length, data_length}
use Rattle.qrcode_types.specs.declared.types.Version.{Version}
use Rattle.qrcode_types.specs.declared.types.EcLevel.{EcLevel}
use Rattle.qrcode_types.specs.declared.types.Color.{Color}
use Rattle.qrcode_ec.specs.Blocks.{codewords, block, blocks, interleaved_place}
use Rattle.qrcode_ec.specs.Codes.{distance}
use Rattle.qrcode_layout.specs.Masks.{turns, turned_if, micro_mask_number}
use Rattle.qrcode_layout.specs.Laws.{IsInside, IsFormatCopy}
use Rattle.qrcode_layout.specs.Patterns.{format_copies, is_functional_place}
use Rattle.qrcode_layout.specs.Stream.{color_at, zigzag_place, zigzag, free_places, stream}
use Rattle.qrcode_layout.specs.declared.masks.MaskPattern.{MaskPattern}
use Rattle.qrcode_layout.proofs.Zigzag.{walk_is_inside}
use Rattle.qrcode_layout.proofs.FormatPlaces.{format_copies_are_indexed}
use Rattle.qrcode_symbol.specs.Symbol.{bits_at, IsDamaged}
use Rattle.qrcode.specs.Reading.{EncodesBits}
use Rattle.qrcode_damage.specs.Areas.{marks, touched, marked_block, block_in, wrong_beside, is_lost, MayShowAnything, AgreesOutside, IsWithinReserve}
use Rattle.qrcode_damage.specs.Laws.{AreaIsDamage, ReserveIsDamage, AreaIsRead, AreaKeepsBits, ReserveIsRead}
use Rattle.qrcode_damage.proofs.Beside.{distance_at_most, bits_at_most, count_same, zip_range, all_with, all_mapped}
use Rattle.qrcode_damage.proofs.Marked.{AreRelated, SameUnmarked, SameWord, unmarked_words, maps_related, codewords_related, none_in_block}

-- The reserve.

length_block : (v : Version) (l : EcLevel) (words others : List ℕ) (b : ℕ) → length (block v l words b) ≡ length (block v l others b)
unfolding block
length_block v l words others b = same_long words ∙ sym (same_long others) where
  same_long : (words : List ℕ) → length (block v l words b) ≡ slice_index (block_lengths v l) b + ec_length v l
  same_long words =
      let f = λ (i : ℕ). slice_index words (interleaved_place (block_lengths v l) i b) in
      let g = λ (i : ℕ). slice_index words (data_length v l + i * length (block_lengths v l) + b) in
      let n = slice_index (block_lengths v l) b in
      length-append (map f (range_with_len 0 n)) (map g (range_with_len 0 (ec_length v l)))
      ∙ ap₂ (λ x y. x + y) (length-map-range_with_len f 0 n) (length-map-range_with_len g 0 (ec_length v l))

-- a block differs in no more codewords than are touched or wrong beside the area
block_near : (v : Version) (l : EcLevel) (k : MaskPattern) (area : ℕ → ℕ → Bool) (s other : List Color) (b : ℕ)
    → distance (block_in v l k s b) (block_in v l k other b) ≤ touched v l area b + wrong_beside v l k area s other b
unfolding touched wrong_beside
block_near v l k area s other b =
    distance_at_most (marked_block v l area b) (block_in v l k s b) (block_in v l k other b)
    (length_block v l (codewords v l (stream v k s)) (codewords v l (marks v area)) b)

format_near : (v : Version) (area : ℕ → ℕ → Bool) (s other : List Color) (places : List (ℕ × ℕ)) → count_by (is_lost v area s other) places ≤ 3
    → bit_distance (bits_at v s places) (bits_at v other places) ≤ 3
format_near v area s other places h =
    let dark = λ (s : List Color) (p : ℕ × ℕ). is_dark (color_at v s p.0 p.1) in
    omega (arith, bits_at_most (λ (p : ℕ × ℕ). area p.0 p.1) (dark s) (dark other) places, h)

pub reserve_is_damage : ReserveIsDamage
unfolding blocks
reserve_is_damage v l k area s other h = record {
  square = h.square;
  format = all_mapped (λ places. count_by (is_lost v area s other) places ≤ 3) (λ places. bit_distance (bits_at v s places) (bits_at v other places) ≤ 3)
      (format_copies v) (format_near v area s other) h.format;
  blocks = zip_range (λ b c. distance b c ≤ ec_length v l / 2) (block_in v l k s) (block_in v l k other) 0 (length (block_lengths v l))
      (λ b below. omega (arith, block_near v l k area s other b, h.blocks b (omega arith)));
}

-- What agrees outside the area.

free_inside : (v : Version) → IsTrue (is_valid v) → AllByRecursion (λ p. IsInside v p.0 p.1) (free_places v)
unfolding free_places zigzag
free_inside v valid =
    let n = side v * (side v - 1) in
    recursion_from_All (λ p. IsInside v p.0 p.1) (free_places v)
    (All-filter (λ p. not (is_functional_place v p.0 p.1)) (λ p. IsInside v p.0 p.1) (zigzag v)
    (λ t d below.
    let less : t < n = omega (arith, length-map-range_with_len (zigzag_place v) 0 n) in
    subst (λ (p : ℕ × ℕ). IsInside v p.0 p.1) (sym (get_or-map-range_with_len (zigzag_place v) 0 n t t d less (omega arith))) (walk_is_inside v t valid less)))

-- outside the area, two squares have the same colour at a place
abbrev same_at : Version → (ℕ → ℕ → Bool) → List Color → List Color → ℕ × ℕ → Type 0
same_at v area s other p = area p.0 p.1 ≡ false → color_at v s p.0 p.1 ≡ color_at v other p.0 p.1

pub all_same : (v : Version) (area : ℕ → ℕ → Bool) (s other : List Color) (places : List (ℕ × ℕ)) → AgreesOutside v area s other
    → AllByRecursion (λ p. IsInside v p.0 p.1) places → AllByRecursion (same_at v area s other) places
all_same v area s other places a inside = all_mapped (λ p. IsInside v p.0 p.1) (same_at v area s other) places (λ p i. a.same p.0 p.1 i.0 i.1) inside

-- the marks of the area, and two squares whose colours are related by them at each place inside
pub streams_related : (R : Bool → Bool → Bool → Type 0) (v : Version) (k : MaskPattern) (area : ℕ → ℕ → Bool) (s other : List Color) → IsTrue (is_valid v) → R false false false
    → ((x y : ℕ) → x < side v → y < side v → R (area x y) (turned_if (turns k x y) (is_dark (color_at v s x y))) (turned_if (turns k x y) (is_dark (color_at v other x y))))
    → AreRelated false R (marks v area) (stream v k s) (stream v k other)
unfolding marks stream
streams_related R v k area s other valid none h =
    let places = free_places v in
    let m = λ (p : ℕ × ℕ). area p.0 p.1 in
    let f = λ (s : List Color) (p : ℕ × ℕ). turned_if (turns k p.0 p.1) (is_dark (color_at v s p.0 p.1)) in
    maps_related false R m (f s) (f other) places none
    (all_mapped (λ p. IsInside v p.0 p.1) (λ p. R (m p) (f s p) (f other p)) places (λ p i. h p.0 p.1 i.0 i.1) (free_inside v valid))

none_beside : (v : Version) (l : EcLevel) (k : MaskPattern) (area : ℕ → ℕ → Bool) (s other : List Color) → IsTrue (is_valid v) → AgreesOutside v area s other
    → (b : ℕ) → wrong_beside v l k area s other b ≡ 0
unfolding wrong_beside
none_beside v l k area s other valid a b =
    none_in_block v l (codewords v l (marks v area)) (codewords v l (stream v k s)) (codewords v l (stream v k other)) b
    (codewords_related SameUnmarked SameWord unmarked_words v l (marks v area) (stream v k s) (stream v k other)
    (streams_related SameUnmarked v k area s other valid (λ e. refl) (λ x y i j out. ap (λ c. turned_if (turns k x y) (is_dark c)) (a.same x y i j out))))

lost_in_area : (v : Version) (area : ℕ → ℕ → Bool) (s other : List Color) (p : ℕ × ℕ) → same_at v area s other p → area p.0 p.1 ≡ is_lost v area s other p
lost_in_area v area s other p same = go (area p.0 p.1) refl where
  unturned : (b : Bool) → false ≡ turned_if b b
  unturned true = refl
  unturned false = refl

  go : (b : Bool) → area p.0 p.1 ≡ b → area p.0 p.1 ≡ is_lost v area s other p
  go true e = e ∙ sym (ap (λ x. x || turned_if (is_dark (color_at v s p.0 p.1)) (is_dark (color_at v other p.0 p.1))) e)
  go false e =
      e ∙ unturned (is_dark (color_at v s p.0 p.1)) ∙ ap (λ c. turned_if (is_dark (color_at v s p.0 p.1)) (is_dark c)) (same e)
      ∙ sym (ap (λ x. x || turned_if (is_dark (color_at v s p.0 p.1)) (is_dark (color_at v other p.0 p.1))) e)

pub copy_inside : (v : Version) (places : List (ℕ × ℕ)) → IsFormatCopy v places → AllByRecursion (λ p. IsInside v p.0 p.1) places
copy_inside v places copy =
    recursion_from_All (λ p. IsInside v p.0 p.1) places
    (λ i d below. subst (λ (p : ℕ × ℕ). IsInside v p.0 p.1) (get_or_default places i (0, 0) d below) (copy.inside i (omega (arith, copy.count))))

format_lost : (v : Version) (area : ℕ → ℕ → Bool) (s other : List Color) → AgreesOutside v area s other → (places : List (ℕ × ℕ)) → IsFormatCopy v places
    → count_by (λ p. area p.0 p.1) places ≤ 3 → count_by (is_lost v area s other) places ≤ 3
format_lost v area s other a places copy few =
    let m = λ (p : ℕ × ℕ). area p.0 p.1 in
    let same = all_same v area s other places a (copy_inside v places copy) in
    let equal = all_mapped (same_at v area s other) (λ p. m p ≡ is_lost v area s other p) places (lost_in_area v area s other) same in
    subst (λ n. n ≤ 3) (count_same m (is_lost v area s other) places equal) few

-- a square that agrees outside of such an area is within its reserve
within : (v : Version) (l : EcLevel) (k : MaskPattern) (area : ℕ → ℕ → Bool) (s other : List Color) → IsTrue (is_valid v)
    → MayShowAnything v l area → AgreesOutside v area s other → IsWithinReserve v l k area s other
within v l k area s other valid may a = record {
  square = a.square;
  blocks = λ b below. omega (arith, none_beside v l k area s other valid a b, may.blocks b below);
  format = all_with (IsFormatCopy v) (λ places. count_by (λ p. area p.0 p.1) places ≤ 3) (λ places. count_by (is_lost v area s other) places ≤ 3)
      (format_copies v) (format_lost v area s other a) (format_copies_are_indexed v valid) may.format;
}

pub area_is_damage : AreaIsDamage
area_is_damage v l k area s other valid may a = reserve_is_damage v l k area s other (within v l k area s other valid may a)

pub reserve_is_read : ReserveIsRead
reserve_is_read v l bits bytes area s other encodes h = encodes.read other (reserve_is_damage v l encodes.encodes.mask area s other h)

-- the symbol of bits within its promised damage
symbol_damaged : (v : Version) (l : EcLevel) (bits : List Bool) (area : ℕ → ℕ → Bool) (s other : List Color) → (encodes : EncodesBits v l bits s)
    → MayShowAnything v l area → AgreesOutside v area s other → IsDamaged v l encodes.mask s other
symbol_damaged v l bits area s other encodes may a =
    let k = encodes.mask in
    let valid = (and_parts (is_valid v) (not (is_micro v) || nat_lt (micro_mask_number k) 4) encodes.mask_exists).0 in
    area_is_damage v l k area s other valid may a

pub area_is_read : AreaIsRead
area_is_read v l bits bytes area s other encodes may a = encodes.read other (symbol_damaged v l bits area s other encodes.encodes may a)

pub area_keeps_bits : AreaKeepsBits
area_keeps_bits v l bits area s other encodes may a = encodes.read other (symbol_damaged v l bits area s other encodes may a)
