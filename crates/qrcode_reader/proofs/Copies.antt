-- The copies of the format word.
use Rattle.std.proofs.Common.{◌≡◌, ◌<◌, ◌≤◌, ℕ, ◌+◌, List, [], ◌∷◌, Bool, false, map, length, get_or, take, drop, subst, ◌-◌, sym, ap, ◌∙◌, arith, ext_get_or}
use Rattle.std.specs.List.{range_with_len}
use Rattle.std.proofs.lemmas.List.FromFn.{length-map-range_with_len, get_or-map-range_with_len}
use Rattle.std.proofs.lemmas.Simd.{map-map}
use Rattle.std.proofs.lemmas.Bool.Decides.{nat_tests}
use Rattle.std.proofs.lemmas.List.{take_all}
use Rattle.qrcode_types.specs.Bits.{has_bit, number_bits, bit_distance}
use Rattle.qrcode_types.specs.Colors.{is_dark}
use Rattle.qrcode_types.specs.declared.types.Version.{Version}
use Rattle.qrcode_types.specs.declared.types.Version.TheVariants.{Normal, Micro}
use Rattle.qrcode_types.specs.declared.types.EcLevel.{EcLevel}
use Rattle.qrcode_types.specs.declared.types.Color.{Color}
use Rattle.qrcode_layout.specs.Patterns.{format_copies}
use Rattle.qrcode_layout.specs.Stream.{color_at}
use Rattle.qrcode_layout.specs.declared.masks.MaskPattern.{MaskPattern}
use Rattle.qrcode_symbol.specs.Symbol.{bits_at}
use Rattle.qrcode_reader.specs.Formats.{NamesFormat, HasFormat, first_copy, last_copy}

-- bits that are those at fifteen places, one by one
pub copied : (v : Version) (s : List Color) (f : ℕ → ℕ × ℕ) (bits : List Bool) → length bits ≡ 15
    → ((k : ℕ) → k < 15 → get_or bits k false ≡ is_dark (color_at v s (f k).0 (f k).1)) → bits ≡ bits_at v s (map f (range_with_len 0 15))
copied v s f bits l each =
    let g = λ (k : ℕ). is_dark (color_at v s (f k).0 (f k).1) in
    let same : map g (range_with_len 0 15) ≡ bits_at v s (map f (range_with_len 0 15)) = sym (map-map (λ (p : ℕ × ℕ). is_dark (color_at v s p.0 p.1)) f (range_with_len 0 15)) in
    ext_get_or false bits (map g (range_with_len 0 15)) (l ∙ sym (length-map-range_with_len g 0 15))
    (λ k h. each k (omega (arith, h, l)) ∙ sym (get_or-map-range_with_len g 0 15 k k false (omega (arith, h, l)) (omega arith)))
    ∙ same

-- a format near the first and the last copy is near all copies
named_by_all : (v : Version) (s : List Color) (l : EcLevel) (k : MaskPattern)
    → NamesFormat v (bits_at v s (map (first_copy v) (range_with_len 0 15))) (bits_at v s (map (last_copy v) (range_with_len 0 15))) l k → HasFormat v s l k
unfolding format_copies
named_by_all (Normal v) s l k n = record { exists = n.exists; mask_exists = n.mask_exists; near = (n.first_near, (n.last_near, tt)) }
named_by_all (Micro v) s l k n = record { exists = n.exists; mask_exists = n.mask_exists; near = (n.first_near, tt) }

pub has_format : (v : Version) (s : List Color) (l : EcLevel) (k : MaskPattern) (first last : List Bool) → first ≡ bits_at v s (map (first_copy v) (range_with_len 0 15))
    → last ≡ bits_at v s (map (last_copy v) (range_with_len 0 15)) → NamesFormat v first last l k → HasFormat v s l k
has_format v s l k first last e f n =
    named_by_all v s l k (subst (λ (b : List Bool). NamesFormat v (bits_at v s (map (first_copy v) (range_with_len 0 15))) b l k) f (subst (λ (b : List Bool). NamesFormat v b last l k) e n))

-- and the other way round
named_by_both : (v : Version) (s : List Color) (l : EcLevel) (k : MaskPattern) → HasFormat v s l k
    → NamesFormat v (bits_at v s (map (first_copy v) (range_with_len 0 15))) (bits_at v s (map (last_copy v) (range_with_len 0 15))) l k
unfolding format_copies
named_by_both (Normal v) s l k h = record { exists = h.exists; mask_exists = h.mask_exists; first_near = h.near.0; last_near = h.near.1.0 }
named_by_both (Micro v) s l k h = record { exists = h.exists; mask_exists = h.mask_exists; first_near = h.near.0; last_near = h.near.0 }

pub names_format : (v : Version) (s : List Color) (l : EcLevel) (k : MaskPattern) (first last : List Bool) → first ≡ bits_at v s (map (first_copy v) (range_with_len 0 15))
    → last ≡ bits_at v s (map (last_copy v) (range_with_len 0 15)) → HasFormat v s l k → NamesFormat v first last l k
names_format v s l k first last e f h =
    subst (λ (b : List Bool). NamesFormat v first b l k) (sym f) (subst (λ (b : List Bool). NamesFormat v b (bits_at v s (map (last_copy v) (range_with_len 0 15))) l k) (sym e) (named_by_both v s l k h))

-- one more bit
distance_more : (a b : Bool) (us ws : List Bool) → bit_distance (a ∷ us) (b ∷ ws) ≡ bit_distance (a ∷ []) (b ∷ []) + bit_distance us ws
distance_more a b us ws = grind (arith, nat_tests)

-- the bits after the first
behind_is : (bit : Bool) (more : List Bool) → take (length (bit ∷ more) - 1) (drop 1 (bit ∷ more)) ≡ more
behind_is bit more = take_all (length (bit ∷ more) - 1) more (omega arith)

pub length_behind : (rest : List Bool) → 1 ≤ length rest → length (take (length rest - 1) (drop 1 rest)) + 1 ≡ length rest
length_behind [] some = absurd (omega arith)
length_behind (bit ∷ more) some = omega (arith, ap length (behind_is bit more))

-- the first bit is counted
pub distance_step : (rest : List Bool) (word count add total : ℕ) → 1 ≤ length rest
    → add ≡ bit_distance (get_or rest 0 false ∷ []) (has_bit word (length (take (length rest - 1) (drop 1 rest))) ∷ [])
    → count + bit_distance rest (number_bits (length rest) word) ≡ total
    → count + add + bit_distance (take (length rest - 1) (drop 1 rest)) (number_bits (length (take (length rest - 1) (drop 1 rest))) word) ≡ total
unfolding number_bits
distance_step [] word count add total some e h = absurd (omega arith)
distance_step (bit ∷ more) word count add total some e h =
    let b = behind_is bit more in
    let one : add ≡ bit_distance (bit ∷ []) (has_bit word (length more) ∷ []) = e ∙ ap (λ (r : List Bool). bit_distance (bit ∷ []) (has_bit word (length r) ∷ [])) b in
    let rest : bit_distance (take (length (bit ∷ more) - 1) (drop 1 (bit ∷ more))) (number_bits (length (take (length (bit ∷ more) - 1) (drop 1 (bit ∷ more)))) word) ≡ bit_distance more (number_bits (length more) word) =
    ap (λ (r : List Bool). bit_distance r (number_bits (length r) word)) b in
    omega (arith, one, rest, h, distance_more bit (has_bit word (length more)) more (number_bits (length more) word))
