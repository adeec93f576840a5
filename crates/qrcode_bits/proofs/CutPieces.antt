-- The pieces of a cut make up the data, and if they fit a symbol, a reader accepts them.
use Rattle.std.proofs.Common.{◌≡◌, ℕ, zero, suc, ◌+◌, ◌-◌, ◌/◌, ◌^◌, ◌≤◌, ◌<◌, true, List, [], ◌∷◌, ◌++◌, length, take, drop, length-append, refl, sym, ap, ap₂, ◌∙◌, arith, subst, true≢false, IsTrue}
use Rattle.std.specs.Prelude.{flat_map, slice_range}
use Rattle.std.specs.List.{AllByRecursion}
use Rattle.std.proofs.lemmas.List.{drop-drop, take_all}
use Rattle.std.proofs.lemmas.List.Sums.{sum_by-cons}
use Rattle.qrcode_types.specs.Versions.{is_valid, capacity}
use Rattle.qrcode_types.specs.Modes.{has_mode, length_bits_count}
use Rattle.qrcode_types.specs.Characters.{are_kanji, can_write, character_count}
use Rattle.qrcode_types.specs.declared.types.Version.{Version}
use Rattle.qrcode_types.specs.declared.types.EcLevel.{EcLevel}
use Rattle.qrcode_types.specs.declared.types.Mode.{Mode}
use Rattle.qrcode_types.specs.declared.types.Mode.TheVariants.{Numeric, Alphanumeric, Byte, Kanji}
use Rattle.qrcode_types.proofs.LengthFields.{counts_fit}
use Rattle.qrcode_bits.specs.Segments.{cost_of, cost, total_cost, Tile, AreInside}
use Rattle.qrcode_bits.specs.Written.{Piece, written_piece, written, pieces_of}
use Rattle.qrcode_bits.specs.Spelling.{IsReadBack}
use Rattle.qrcode_bits.specs.Cuts.{IsCut, GiveBack}
use Rattle.qrcode_bits.specs.declared.optimize.Segment.{Segment}
use Rattle.qrcode_bits.proofs.Endings.{read_back}
use Rattle.qrcode_bits.proofs.Lengths.{length-piece}
use Rattle.qrcode_bits.proofs.SegmentRanges.{length-range, tile_le}

take_split : (m n : ℕ) (ys : List ℕ) → take m ys ++ take n (drop m ys) ≡ take (m + n) ys
take_split zero n ys = ap (λ k. take k ys) (let z : n ≡ 0 + n = omega arith in z)
take_split (suc m) n [] = nothing n ∙ ap (λ k. take k []) (let z : suc (m + n) ≡ suc m + n = omega arith in z) where
  nothing : (k : ℕ) → take {A = ℕ} k [] ≡ []
  nothing zero = refl
  nothing (suc k) = refl
take_split (suc m) n (y ∷ ys) = ap (λ (zs : List ℕ). y ∷ zs) (take_split m n ys) ∙ ap (λ k. take k (y ∷ ys)) (let z : suc (m + n) ≡ suc m + n = omega arith in z)

pub split_range : (xs : List ℕ) (a b c : ℕ) → a ≤ b → b ≤ c → slice_range xs a b ++ slice_range xs b c ≡ slice_range xs a c
split_range xs a b c h k =
    let e : a + (b - a) ≡ b = omega arith in
    let f : drop b xs ≡ drop (b - a) (drop a xs) = ap (λ i. drop i xs) (sym e) ∙ sym (drop-drop (b - a) a xs) in
    let z : (b - a) + (c - b) ≡ c - a = omega arith in
    ap (λ ys. take (b - a) (drop a xs) ++ take (c - b) ys) f ∙ take_split (b - a) (c - b) (drop a xs) ∙ ap (λ i. take i (drop a xs)) z

pub pieces_bytes : (bytes : List ℕ) (from : ℕ) (ss : List Segment) (to : ℕ) → Tile from ss to → flat_map (λ p. p.chunk) (pieces_of bytes ss) ≡ slice_range bytes from to
pieces_bytes bytes from [] to t = ap (λ i. take i (drop from bytes)) (let z : 0 ≡ to - from = omega arith in z)
pieces_bytes bytes from (s ∷ ss) to t =
    let l = tile_le s.end ss to t.1.1 in
    ap (λ ys. slice_range bytes s.begin s.end ++ ys) (pieces_bytes bytes s.end ss to t.1.1) ∙ split_range bytes s.begin s.end to (omega (arith, t.1.0)) l ∙ ap (λ i. slice_range bytes i to) t.0

some_pair : (a : List ℕ) → are_kanji a ≡ true → 0 < length a → 0 < length a / 2
some_pair [] h l = absurd (omega arith)
some_pair (a ∷ []) h l = absurd (true≢false (sym h))
some_pair (a ∷ b ∷ u) h l = omega arith

pub some_character : (m : Mode) (a : List ℕ) → can_write m a ≡ true → 0 < length a → 0 < character_count m (length a)
some_character Numeric a h l = omega arith
some_character Alphanumeric a h l = omega arith
some_character Byte a h l = omega arith
some_character Kanji a h l = some_pair a h l

pub readable : (v : Version) (l : EcLevel) (bytes : List ℕ) (from : ℕ) (ss : List Segment) (to : ℕ) → IsTrue (is_valid v) → Tile from ss to → to ≤ length bytes
    → AllByRecursion (λ s. IsTrue (has_mode v s.mode)) ss → AllByRecursion (λ s. IsTrue (can_write s.mode (slice_range bytes s.begin s.end))) ss
    → total_cost v ss ≤ capacity v l → AllByRecursion (IsReadBack v) (pieces_of bytes ss)
readable v l bytes from [] to h t k a b fits = tt
readable v l bytes from (s ∷ ss) to h t k a b fits =
    let le = tile_le s.end ss to t.1.1 in
    let len = length-range bytes s.begin s.end (omega (arith, t.1.0)) (omega (arith, le)) in
    let all = sum_by-cons (cost v) s ss in
    let own : cost_of v s.mode (character_count s.mode (s.end - s.begin)) ≤ capacity v l = omega (arith, all, fits) in
    let rest : total_cost v ss ≤ capacity v l = omega (arith, all, fits) in (
      read_back v (record { mode = s.mode; chunk = slice_range bytes s.begin s.end }) h (record {
        mode_exists = a.0;
        writable = b.0;
        counted = subst (λ n. character_count s.mode n < 2 ^ length_bits_count s.mode v) (sym len) ((counts_fit s.mode v h).fits l (character_count s.mode (s.end - s.begin)) own);
      }) (some_character s.mode (slice_range bytes s.begin s.end) b.0 (omega (arith, len, t.1))),
      readable v l bytes s.end ss to h t.1.1 k a.1 b.1 rest,
    )

pub length-written : (v : Version) (bytes : List ℕ) (from : ℕ) (ss : List Segment) (to : ℕ) → Tile from ss to → to ≤ length bytes → length (written v (pieces_of bytes ss)) ≡ total_cost v ss
length-written v bytes from [] to t k = refl
length-written v bytes from (s ∷ ss) to t k =
    let le = tile_le s.end ss to t.1.1 in
    let len = length-range bytes s.begin s.end (omega (arith, t.1.0)) (omega (arith, le)) in
    let p : Piece = record { mode = s.mode; chunk = slice_range bytes s.begin s.end } in
    length-append (written_piece v p) (written v (pieces_of bytes ss))
    ∙ ap₂ (λ x y. x + y) (length-piece v p ∙ ap (λ n. cost_of v s.mode (character_count s.mode n)) len) (length-written v bytes s.end ss to t.1.1 k)
    ∙ sym (sum_by-cons (cost v) s ss)

-- the pieces of a cut that fits a symbol: a reader accepts them, they fit, and they make up the data
pub cut_pieces : (v : Version) (l : EcLevel) (bytes : List ℕ) (ss : List Segment) → IsTrue (is_valid v) → IsCut v bytes ss → total_cost v ss ≤ capacity v l
    → AllByRecursion (IsReadBack v) (pieces_of bytes ss) × (length (written v (pieces_of bytes ss)) ≤ capacity v l) × (flat_map (λ p. p.chunk) (pieces_of bytes ss) ≡ bytes)
cut_pieces v l bytes ss h cut fits =
    let le : length bytes ≤ length bytes = omega arith in (
      readable v l bytes 0 ss (length bytes) h cut.tiles le cut.modes cut.writable fits,
      omega (arith, length-written v bytes 0 ss (length bytes) cut.tiles le, fits),
      pieces_bytes bytes 0 ss (length bytes) cut.tiles ∙ take_all (length bytes - 0) bytes (omega arith),
    )

inside_from : (n from : ℕ) (ss : List Segment) → Tile from ss n → AreInside n ss
inside_from n from [] t = tt
inside_from n from (s ∷ ss) t = ((omega (arith, t.1.0), tile_le s.end ss n t.1.1), inside_from n s.end ss t.1.1)

pub cut_inside : (v : Version) (bytes : List ℕ) (ss : List Segment) → IsCut v bytes ss → AreInside (length bytes) ss
cut_inside v bytes ss cut = inside_from (length bytes) 0 ss cut.tiles

pub cut_joined : (v : Version) (bytes : List ℕ) (ss : List Segment) → IsCut v bytes ss → flat_map (λ p. p.chunk) (pieces_of bytes ss) ≡ bytes
cut_joined v bytes ss cut = pieces_bytes bytes 0 ss (length bytes) cut.tiles ∙ take_all (length bytes - 0) bytes (omega arith)

pieces_writable : (bytes : List ℕ) (ss : List Segment) → AllByRecursion (λ s. IsTrue (can_write s.mode (slice_range bytes s.begin s.end))) ss → AllByRecursion (λ p. IsTrue (can_write p.mode p.chunk)) (pieces_of bytes ss)
pieces_writable bytes [] w = tt
pieces_writable bytes (s ∷ ss) w = (w.0, pieces_writable bytes ss w.1)

pub gives_back : (v : Version) (bytes : List ℕ) (ss : List Segment) → IsCut v bytes ss → GiveBack bytes ss
gives_back v bytes ss cut = record { inside = cut_inside v bytes ss cut; joined = cut_joined v bytes ss cut; writable = pieces_writable bytes ss cut.writable }
