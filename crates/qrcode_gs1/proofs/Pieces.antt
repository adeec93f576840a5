-- The pieces of a cut, as they are written and as they are read.
use Rattle.std.proofs.Common.{◌≡◌, ℕ, zero, suc, ◌+◌, ◌-◌, ◌*◌, ◌<◌, ◌≤◌, List, [], ◌∷◌, ◌++◌, length, get_or, take, drop, refl, sym, ap, ap₂, subst, ◌∙◌, arith, length-append, IsTrue, w16, to_z}
use Rattle.std.specs.Prelude.{flat_map, slice_range, pos}
use Rattle.std.specs.List.{AllByRecursion}
use Rattle.std.proofs.lemmas.Int.{to_z_pos}
use Rattle.std.proofs.lemmas.List.{take_all, take-append-le, drop-append-le, length-drop}
use Rattle.std.proofs.Math.Seq.{drop-append_seam}
use Rattle.std.proofs.lemmas.Bool.Decides.{nat_tests}
use Rattle.qrcode_types.specs.Characters.{can_write}
use Rattle.qrcode_types.specs.Modes.{has_mode, data_bits_count}
use Rattle.qrcode_types.specs.Versions.{capacity}
use Rattle.qrcode_types.specs.declared.types.EcLevel.{EcLevel}
use Rattle.qrcode_types.specs.declared.types.Version.{Version}
use Rattle.qrcode_types.specs.declared.types.Mode.{Mode}
use Rattle.qrcode_types.specs.declared.types.Version.TheVariants.{Normal}
use Rattle.qrcode_bits.specs.Cuts.{IsCut}
use Rattle.qrcode_bits.specs.Segments.{Tile, AreInside, total_cost}
use Rattle.qrcode_bits.specs.Written.{Piece, pieces_of, written}
use Rattle.qrcode_bits.specs.declared.optimize.Segment.{Segment}
use Rattle.qrcode_bits.proofs.CutPieces.{pieces_bytes, length-written}
use Rattle.qrcode_bits.proofs.SegmentRanges.{length-range, tile_le, tile-push}
use Rattle.qrcode_bits.proofs.Shortness.{capacity_at_most}
use Rattle.qrcode_gs1.specs.symbol.Characters.{characters_for, written_characters, shown, marked_pieces}
use Rattle.qrcode_gs1.specs.symbol.Cuts.{IsMarkedCut, AreCharacters, marked_cost}
use Rattle.qrcode_gs1.specs.symbol.Symbols.{HoldsMarked}
use Rattle.qrcode_gs1.specs.declared.symbol.Fnc1.{Fnc1}
use Rattle.qrcode_gs1.proofs.Cuts.{AreStanding, cost_first, segment_costs}
use Rattle.qrcode_gs1.proofs.Shown.{characters_written, chunk_shown}

all_modes_in : (n : ℕ) (ss : List Segment) → AllByRecursion (λ s. IsTrue (has_mode (Normal (pos n)) s.mode)) ss
all_modes_in n [] = tt
all_modes_in n (s ∷ ss) = (refl, all_modes_in n ss)

pieces_written : (bytes : List ℕ) (ss : List Segment) → AreStanding bytes ss → AllByRecursion (λ p. IsTrue (can_write p.mode p.chunk)) (marked_pieces bytes ss)
pieces_written bytes [] are = tt
pieces_written bytes (s ∷ ss) are = (characters_written s.mode (slice_range bytes s.begin s.end) are.0, pieces_written bytes ss are.1)

ranges_written : (bytes : List ℕ) (ss : List Segment) → AllByRecursion (λ p. IsTrue (can_write p.mode p.chunk)) (pieces_of bytes ss) → AllByRecursion (λ s. IsTrue (can_write s.mode (slice_range bytes s.begin s.end))) ss
ranges_written bytes [] are = tt
ranges_written bytes (s ∷ ss) are = (are.0, ranges_written bytes ss are.1)

-- the characters that a cut writes are cut by their ranges
pub written_cut : (n : ℕ) (bytes : List ℕ) (ss : List Segment) (w : List ℕ) (ranges : List Segment) → IsMarkedCut bytes ss → AreCharacters bytes ss w ranges → IsCut (Normal (pos n)) w ranges
written_cut n bytes ss w ranges cut are = record {
  tiles = are.tiles;
  modes = all_modes_in n ranges;
  writable = ranges_written w ranges (subst (AllByRecursion (λ p. IsTrue (can_write p.mode p.chunk))) (sym are.pieces) (pieces_written bytes ss cut.standing));
}

-- and the ranges take as many bits as the cut
pub written_cost : (n : ℕ) (bytes : List ℕ) (ss : List Segment) (w : List ℕ) (ranges : List Segment) → AreCharacters bytes ss w ranges → total_cost (Normal (pos n)) ranges ≡ marked_cost (Normal (pos n)) bytes ss
written_cost n bytes ss w ranges are =
    sym (length-written (Normal (pos n)) w 0 ranges (length w) are.tiles (omega arith)) ∙ ap (λ ps. length (written (Normal (pos n)) ps)) are.pieces

pieces_shown : (bytes : List ℕ) (ss : List Segment) → AreStanding bytes ss → flat_map shown (marked_pieces bytes ss) ≡ flat_map (λ p. p.chunk) (pieces_of bytes ss)
pieces_shown bytes [] are = refl
pieces_shown bytes (s ∷ ss) are = ap₂ (λ (x y : List ℕ). x ++ y) (chunk_shown s.mode (slice_range bytes s.begin s.end) are.0) (pieces_shown bytes ss are.1)

-- a reader gets the bytes back from the pieces
pub cut_shown : (bytes : List ℕ) (ss : List Segment) → IsMarkedCut bytes ss → flat_map shown (marked_pieces bytes ss) ≡ bytes
cut_shown bytes ss cut = pieces_shown bytes ss cut.standing ∙ pieces_bytes bytes 0 ss (length bytes) cut.tiles ∙ take_all (length bytes - 0) bytes (omega arith)

-- a range within the first of two lists
range_before : (xs more : List ℕ) (a b : ℕ) → a ≤ b → b ≤ length xs → slice_range (xs ++ more) a b ≡ slice_range xs a b
range_before xs more a b ordered inside =
    ap (take (b - a)) (drop-append-le a xs more (omega (arith, ordered, inside))) ∙ take-append-le (b - a) (drop a xs) more (omega (arith, length-drop a xs, inside))

pieces_before : (w more : List ℕ) (from : ℕ) (ss : List Segment) (to : ℕ) → Tile from ss to → to ≤ length w → pieces_of (w ++ more) ss ≡ pieces_of w ss
pieces_before w more from [] to t inside = refl
pieces_before w more from (s ∷ ss) to t inside =
    let le = tile_le s.end ss to t.1.1 in
    ap₂ (λ (chunk : List ℕ) (ps : List Piece). (let p : Piece = record { mode = s.mode; chunk = chunk } in p) ∷ ps)
    (range_before w more s.begin s.end (omega (arith, t.1.0)) (omega (arith, le, inside))) (pieces_before w more s.end ss to t.1.1 inside)

pieces_last : (w : List ℕ) (ss : List Segment) (s : Segment) → pieces_of w (ss ++ s ∷ []) ≡ pieces_of w ss ++ (let p : Piece = record { mode = s.mode; chunk = slice_range w s.begin s.end } in p) ∷ []
pieces_last w [] s = refl
pieces_last w (r ∷ ss) s = ap (λ ps. (let p : Piece = record { mode = r.mode; chunk = slice_range w r.begin r.end } in p) ∷ ps) (pieces_last w ss s)

marked_last : (bytes : List ℕ) (ss : List Segment) (s : Segment)
    → marked_pieces bytes (ss ++ s ∷ []) ≡ marked_pieces bytes ss ++ (let p : Piece = record { mode = s.mode; chunk = written_characters s.mode (slice_range bytes s.begin s.end) } in p) ∷ []
marked_last bytes [] s = refl
marked_last bytes (r ∷ ss) s = ap (λ ps. (let p : Piece = record { mode = r.mode; chunk = written_characters r.mode (slice_range bytes r.begin r.end) } in p) ∷ ps) (marked_last bytes ss s)

-- a range at the end
range_last : (w chunk : List ℕ) → slice_range (w ++ chunk) (length w) (length w + length chunk) ≡ chunk
range_last w chunk =
    let z : length w + length chunk - length w ≡ length chunk = omega arith in
    ap₂ take z (drop-append_seam w chunk) ∙ take_all (length chunk) chunk (omega arith)

-- the characters of one more segment
pub characters_more : (bytes : List ℕ) (ss : List Segment) (s : Segment) (w : List ℕ) (ranges : List Segment) → AreCharacters bytes ss w ranges → 0 < length (written_characters s.mode (slice_range bytes s.begin s.end))
    → let chunk = written_characters s.mode (slice_range bytes s.begin s.end) in
    let range : Segment = record { mode = s.mode; begin = length w; end = length w + length chunk } in
    AreCharacters bytes (ss ++ s ∷ []) (w ++ chunk) (ranges ++ range ∷ [])
characters_more bytes ss s w ranges are some =
    let chunk = written_characters s.mode (slice_range bytes s.begin s.end) in
    let range : Segment = record { mode = s.mode; begin = length w; end = length w + length chunk } in
    record {
      tiles = subst (Tile 0 (ranges ++ range ∷ [])) (sym (length-append w chunk)) (tile-push 0 ranges range are.tiles (omega (arith, some)));
      pieces = pieces_last (w ++ chunk) ranges range
          ∙ ap₂ (λ (ps : List Piece) (c : List ℕ). ps ++ (let p : Piece = record { mode = s.mode; chunk = c } in p) ∷ []) (pieces_before w chunk 0 ranges (length w) are.tiles (omega arith) ∙ are.pieces) (range_last w chunk)
          ∙ sym (marked_last bytes ss s);
    }

some_for : (m : Mode) (b : ℕ) → 0 < length (characters_for m b)
some_for m b = grind (arith, nat_tests)

-- there are at least as many characters as bytes
pub characters_some : (m : Mode) (bytes : List ℕ) → length bytes ≤ length (written_characters m bytes)
characters_some m [] = omega arith
characters_some m (b ∷ bytes) = omega (arith, length-append (characters_for m b) (written_characters m bytes), some_for m b, characters_some m bytes)

-- the segments of a tiling are not empty, and lie inside
pub tile_at : (from : ℕ) (ss : List Segment) (to i : ℕ) (d : Segment) → Tile from ss to → i < length ss → ((get_or ss i d).begin < (get_or ss i d).end) × ((get_or ss i d).end ≤ to)
tile_at from [] to i d t inside = absurd (omega arith)
tile_at from (s ∷ ss) to zero d t inside = (t.1.0, tile_le s.end ss to t.1.1)
tile_at from (s ∷ ss) to (suc i) d t inside = tile_at s.end ss to i d t.1.1 (omega (arith, inside))

pub tiles_inside : (n from : ℕ) (ss : List Segment) → Tile from ss n → AreInside n ss
tiles_inside n from [] t = tt
tiles_inside n from (s ∷ ss) t = ((omega (arith, t.1.0), tile_le s.end ss n t.1.1), tiles_inside n s.end ss t.1.1)

-- a character takes at least three bits
least_bits : (m : Mode) (n : ℕ) → 3 * n ≤ data_bits_count m n
least_bits m n = grind (arith, nat_tests)

cost_long : (v : Version) (bytes : List ℕ) (from : ℕ) (ss : List Segment) → Tile from ss (length bytes) → AreStanding bytes ss → 3 * length bytes ≤ 3 * from + marked_cost v bytes ss
cost_long v bytes from [] t are = omega (arith, t)
cost_long v bytes from (s ∷ ss) t are =
    let chunk = slice_range bytes s.begin s.end in
    let inside = tile_le s.end ss (length bytes) t.1.1 in
    omega (
      arith,
      t.0,
      t.1.0,
      length-range bytes s.begin s.end (omega (arith, t.1.0)) inside,
      characters_some s.mode chunk,
      least_bits s.mode (length (written_characters s.mode chunk)),
      cost_first v bytes s ss,
      segment_costs v bytes s t.1.0 inside are.0,
      cost_long v bytes s.end ss t.1.1 are.1,
    )

-- if a version holds bytes, it has three bits for each
pub held_short : (p : Fnc1) (l : EcLevel) (bytes : List ℕ) (n : ℕ) → HoldsMarked p l bytes n → 3 * length bytes ≤ capacity (Normal (pos n)) l
held_short p l bytes n holds = omega (arith, cost_long (Normal (pos n)) bytes 0 holds.segments holds.cut.tiles holds.cut.standing, holds.room)

-- so there are few of them
pub held_few : (p : Fnc1) (l : EcLevel) (bytes : List ℕ) (n : ℕ) → HoldsMarked p l bytes n → length bytes ≤ 23648
held_few p l bytes n holds = omega (arith, held_short p l bytes n holds, capacity_at_most (Normal (pos n)) l)

-- the version of a small number
pub version_is : (n : ℕ) → n ≤ 40 → Normal (to_z w16 n) ≡ Normal (pos n)
version_is n most = ap Normal (to_z_pos w16 n (omega (arith, most)))
