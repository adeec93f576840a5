-- Steps of the zigzag, and their marks.
use Rattle.std.proofs.Common.{◌≡◌, ◌≢◌, ℕ, ◌+◌, ◌-◌, ◌*◌, ◌/◌, ◌%◌, ◌<◌, ◌≤◌, Bool, true, false, not, cond, [], ◌∷◌, ◌++◌, map, refl, sym, ap, ap₂, ◌∙◌, arith, subst}
use Rattle.std.specs.List.{range_with_len, filter, count_by}
use Rattle.std.proofs.Math.Nat.{div-lt_iff_lt-mul}
use Rattle.std.proofs.lemmas.Bool.{eq-eqb, ne_eqb}
use Rattle.std.proofs.lemmas.List.{map-append}
use Rattle.std.proofs.lemmas.List.FromFn.{filter_of_map_range_with_len_more, sum_by-map-range_with_len_more}
use Rattle.qrcode_types.specs.Versions.{side}
use Rattle.qrcode_types.specs.declared.types.Version.{Version}
use Rattle.qrcode_layout.specs.Patterns.{is_functional_place}
use Rattle.qrcode_layout.specs.Stream.{zigzag_place, zigzag, free_places, right_column}
use Rattle.qrcode_layout.proofs.Zigzag.{half, side_odd}
use Rattle.qrcode_damage.specs.Areas.{marks}
use Rattle.qrcode_damage.specs.Counting.{area_marks, mark_at}

pair_lt : (h t : ℕ) → t < (2 * h + 1) * (2 * h) → t / (2 * (2 * h + 1)) < h
pair_lt h t lt = (div-lt_iff_lt-mul {k = 2 * (2 * h + 1)} {x = t} {y = h} (omega arith)).1 (omega arith)

pair_small : (w h t : ℕ) → w ≡ 2 * h + 1 → t < w * (w - 1) → 2 * (t / (2 * w)) + 3 ≤ w
pair_small w h t e lt =
    subst (λ (k : ℕ). t < k * (k - 1) → 2 * (t / (2 * k)) + 3 ≤ k) (sym e)
    (λ below. let less : 2 * h + 1 - 1 ≡ 2 * h = omega arith in omega (arith, pair_lt h t (rw less at below)))
    lt

-- the pair of a step has room for both columns
pub pair_fits : (v : Version) (w t : ℕ) → w ≡ side v → t < side v * (side v - 1) → 2 * (t / (2 * w)) + 3 ≤ w
pair_fits v w t e lt = subst (λ (k : ℕ). 2 * (t / (2 * k)) + 3 ≤ k) (sym e) (pair_small (side v) (half v) t (side_odd v) lt)

pub upwards : (v : Version) (w t column : ℕ) → w ≡ side v → column ≡ right_column v (t / (2 * w)) → t / (2 * w) % 2 ≡ 0
    → ◌≡◌ {A = ℕ × ℕ} (column - t % (2 * w) % 2, w - 1 - t % (2 * w) / 2) (zigzag_place v t)
unfolding zigzag_place
upwards v w t column e c z =
    let at = λ (k : ℕ). column ≡ right_column v (t / (2 * k)) → t / (2 * k) % 2 ≡ 0
    → ◌≡◌ {A = ℕ × ℕ} (column - t % (2 * k) % 2, k - 1 - t % (2 * k) / 2) (zigzag_place v t) in
    subst at (sym e)
    (λ same even. let k = side v in
    ap₂ (λ (x y : ℕ). (x, y)) (ap (λ (n : ℕ). n - t % (2 * k) % 2) same)
    (sym (ap (λ (b : Bool). cond {A = ℕ} b (k - 1 - t % (2 * k) / 2) (t % (2 * k) / 2)) (eq-eqb (t / (2 * k) % 2) 0 even))))
    c z

pub downwards : (v : Version) (w t column : ℕ) → w ≡ side v → column ≡ right_column v (t / (2 * w)) → t / (2 * w) % 2 ≢ 0
    → ◌≡◌ {A = ℕ × ℕ} (column - t % (2 * w) % 2, t % (2 * w) / 2) (zigzag_place v t)
unfolding zigzag_place
downwards v w t column e c z =
    let at = λ (k : ℕ). column ≡ right_column v (t / (2 * k)) → t / (2 * k) % 2 ≢ 0
    → ◌≡◌ {A = ℕ × ℕ} (column - t % (2 * k) % 2, t % (2 * k) / 2) (zigzag_place v t) in
    subst at (sym e)
    (λ same odd. let k = side v in
    ap₂ (λ (x y : ℕ). (x, y)) (ap (λ (n : ℕ). n - t % (2 * k) % 2) same)
    (sym (ap (λ (b : Bool). cond {A = ℕ} b (k - 1 - t % (2 * k) / 2) (t % (2 * k) / 2)) (ne_eqb (t / (2 * k) % 2) 0 odd))))
    c z

pub none_marked : (v : Version) (area : ℕ → ℕ → Bool) → area_marks v area 0 ≡ []
unfolding area_marks
none_marked v area = refl

-- appending one step
pub marked_more : (v : Version) (area : ℕ → ℕ → Bool) (t : ℕ) → area_marks v area (t + 1) ≡ area_marks v area t ++ mark_at v area (zigzag_place v t)
unfolding area_marks
marked_more v area t =
    let m = λ (p : ℕ × ℕ). area p.0 p.1 in
    let free = λ (p : ℕ × ℕ). not (is_functional_place v p.0 p.1) in
    let x = zigzag_place v t in
    let before = filter free (map (zigzag_place v) (range_with_len 0 t)) in
    ap (map m) (filter_of_map_range_with_len_more free (zigzag_place v) 0 t t (omega arith))
    ∙ map-append m before (cond (free x) (x ∷ []) [])
    ∙ ap (λ r. map m before ++ r) (go m x (free x)) where
      go : (m : ℕ × ℕ → Bool) (x : ℕ × ℕ) (b : Bool) → map m (cond b (x ∷ []) []) ≡ cond b (m x ∷ []) []
      go m x true = refl
      go m x false = refl

pub all_marked : (v : Version) (area : ℕ → ℕ → Bool) (t : ℕ) → t ≡ side v * (side v - 1) → area_marks v area t ≡ marks v area
unfolding area_marks marks free_places zigzag
all_marked v area t e = ap (λ n. map (λ (p : ℕ × ℕ). area p.0 p.1) (filter (λ (p : ℕ × ℕ). not (is_functional_place v p.0 p.1)) (map (zigzag_place v) (range_with_len 0 n)))) e

-- counting one place more
pub count_more : {X : Type 0} (p : X → Bool) (f : ℕ → X) (n : ℕ) → count_by p (map f (range_with_len 0 (n + 1))) ≡ count_by p (map f (range_with_len 0 n)) + cond (p (f n)) 1 0
count_more p f n = sum_by-map-range_with_len_more (λ x. cond {A = ℕ} (p x) 1 0) f 0 n n (omega arith)

pub count_step : {X : Type 0} (p : X → Bool) (f : ℕ → X) (n count : ℕ) (b : Bool) → count ≡ count_by p (map f (range_with_len 0 n)) → p (f n) ≡ b
    → count + cond b 1 0 ≡ count_by p (map f (range_with_len 0 (n + 1)))
count_step p f n count b e s = ap₂ (λ x y. x + cond {A = ℕ} y 1 0) e (sym s) ∙ sym (count_more p f n)
