-- The bits that cuts take, and a shortest cut.
use Rattle.std.proofs.Common.{◌≡◌, ℕ, zero, suc, ◌+◌, ◌-◌, ◌*◌, ◌<◌, ◌≤◌, false, true, true≢false, List, [], ◌∷◌, ◌++◌, length, drop, get_or, refl, sym, ap, ◌∙◌, arith, nat_abs, length-append, IsTrue, inl, inr, subst}
use Rattle.std.specs.Prelude.{slice_range}
use Rattle.std.specs.List.{AllByRecursion}
use Rattle.std.proofs.lemmas.Bool.{cases_lt}
use Rattle.std.proofs.lemmas.List.{drop_all, drop_more, length-drop}
use Rattle.std.proofs.lemmas.List.Folds.{drop_split}
use Rattle.qrcode_types.specs.Bits.{AreBytes}
use Rattle.qrcode_types.specs.Modes.{data_bits_count, by_band}
use Rattle.qrcode_types.specs.Versions.{is_micro}
use Rattle.qrcode_types.specs.declared.types.Version.{Version}
use Rattle.qrcode_types.specs.declared.types.Version.TheVariants.{Normal, Micro}
use Rattle.qrcode_types.specs.declared.types.Mode.{Mode}
use Rattle.qrcode_types.specs.declared.types.Mode.TheVariants.{Numeric, Alphanumeric, Byte, Kanji}
use Rattle.qrcode_bits.specs.Refusals.{data_limit}
use Rattle.qrcode_bits.specs.Segments.{Tile}
use Rattle.qrcode_bits.specs.Tokens.{first_byte}
use Rattle.qrcode_bits.specs.Written.{Piece, written_piece, written}
use Rattle.qrcode_bits.specs.declared.optimize.Segment.{Segment}
use Rattle.qrcode_bits.proofs.Lengths.{length-piece}
use Rattle.qrcode_bits.proofs.SegmentRanges.{length-range, tile_le, all-drop}
use Rattle.qrcode_gs1.specs.symbol.Characters.{written_characters, marked_pieces, can_stand}
use Rattle.qrcode_gs1.specs.symbol.Cuts.{IsMarkedCut, IsLeastMarkedCut, marked_cost}
use Rattle.qrcode_gs1.specs.symbol.Fewest.{AreFew, AreAllFew, AreSmall, headers_of, step, costs_of}
use Rattle.qrcode_gs1.specs.declared.symbol.costs.RestCosts.{RestCosts}
use Rattle.qrcode_gs1.specs.declared.symbol.costs.Headers.{Headers}
use Rattle.qrcode_gs1.specs.declared.symbol.costs.Start.{Start}
use Rattle.qrcode_gs1.proofs.Steps.{left}
use Rattle.qrcode_gs1.proofs.Bounds.{header_of, fewest, segment_least, may_end, start_least}
use Rattle.qrcode_gs1.proofs.Reached.{IsFirst, first_at, parts_of}

-- each segment can write its bytes so that a reader gets them back
abbrev pub AreStanding : List ℕ → List Segment → Type 0
AreStanding bytes ss = AllByRecursion (λ s. IsTrue (can_stand s.mode (slice_range bytes s.begin s.end))) ss

-- the bits of a segment
abbrev pub piece_bits : Version → List ℕ → Segment → ℕ
piece_bits v bytes s = header_of (headers_of v) s.mode + data_bits_count s.mode (length (written_characters s.mode (slice_range bytes s.begin s.end)))

abbrev piece : Mode → List ℕ → Piece
piece m chunk = record { mode = m; chunk = written_characters m chunk }

length-written : (v : Version) (m : Mode) (chunk : List ℕ) → 0 < length chunk → can_stand m chunk ≡ true
    → length (written_piece v (piece m chunk)) ≡ header_of (headers_of v) m + data_bits_count m (length (written_characters m chunk))
length-written v Numeric chunk some can = length-piece v (piece Numeric chunk)
length-written v Alphanumeric chunk some can = length-piece v (piece Alphanumeric chunk)
length-written v Byte chunk some can = length-piece v (piece Byte chunk)
length-written v Kanji [] some can = absurd (omega arith)
length-written v Kanji (b ∷ chunk) some can = absurd (true≢false (sym can))

-- a segment takes the bits of its header and its characters
pub segment_costs : (v : Version) (bytes : List ℕ) (s : Segment) → s.begin < s.end → s.end ≤ length bytes → can_stand s.mode (slice_range bytes s.begin s.end) ≡ true
    → length (written_piece v (piece s.mode (slice_range bytes s.begin s.end))) ≡ piece_bits v bytes s
segment_costs v bytes s some inside can = length-written v s.mode (slice_range bytes s.begin s.end) (omega (arith, length-range bytes s.begin s.end (omega (arith, some)) inside, some)) can

-- one more segment in front, and one more at the end
pub cost_first : (v : Version) (bytes : List ℕ) (s : Segment) (ss : List Segment) → marked_cost v bytes (s ∷ ss) ≡ length (written_piece v (piece s.mode (slice_range bytes s.begin s.end))) + marked_cost v bytes ss
cost_first v bytes s ss = length-append (written_piece v (piece s.mode (slice_range bytes s.begin s.end))) (written v (marked_pieces bytes ss))

pub cost_last : (v : Version) (bytes : List ℕ) (ss : List Segment) (s : Segment) → marked_cost v bytes (ss ++ s ∷ []) ≡ marked_cost v bytes ss + length (written_piece v (piece s.mode (slice_range bytes s.begin s.end)))
cost_last v bytes [] s = omega (arith, cost_first v bytes s [])
cost_last v bytes (r ∷ ss) s = omega (arith, cost_first v bytes r (ss ++ s ∷ []), cost_first v bytes r ss, cost_last v bytes ss s)

-- no segments of the rest take fewer bits than are counted
least_from : (v : Version) (bytes : List ℕ) (from : ℕ) (ss : List Segment) → Tile from ss (length bytes) → AreStanding bytes ss → fewest (headers_of v) (drop from bytes) ≤ marked_cost v bytes ss
least_from v bytes from [] t are = omega (arith, ap (fewest (headers_of v)) (drop_all from bytes (omega (arith, t))))
least_from v bytes from (s ∷ ss) t are =
    let h = headers_of v in
    let chunk = slice_range bytes s.begin s.end in
    let rest = drop s.end bytes in
    let inside = tile_le s.end ss (length bytes) t.1.1 in
    let count = length-range bytes s.begin s.end (omega (arith, t.1.0)) inside in
    let parted : drop from bytes ≡ chunk ++ rest = ap (λ n. drop n bytes) (sym t.0) ∙ drop_split bytes s.begin s.end (omega (arith, t.1.0)) in
    omega (
      arith,
      ap (fewest h) parted,
      segment_least h s.mode chunk rest (omega (arith, count, t.1.0)) are.0,
      cost_first v bytes s ss,
      segment_costs v bytes s t.1.0 inside are.0,
      least_from v bytes s.end ss t.1.1 are.1,
    )

-- a cut that takes the counted bits is a shortest one
pub least_is : (v : Version) (bytes : List ℕ) (ss : List Segment) → IsMarkedCut bytes ss → marked_cost v bytes ss ≡ fewest (headers_of v) bytes → IsLeastMarkedCut v bytes ss
least_is v bytes ss cut is = record { reached = cut; least = λ others other. omega (arith, is, least_from v bytes 0 others other.tiles other.standing) }

-- segments from a place on that take the counted bits
record CutFrom (v : Version) (bytes : List ℕ) (from : ℕ) : Type 0 where
  segments : List Segment
  tiles : Tile from segments (length bytes)
  standing : AreStanding bytes segments
  cost : marked_cost v bytes segments ≡ fewest (headers_of v) (drop from bytes)

end_cut : (v : Version) (bytes : List ℕ) (from : ℕ) → from ≡ length bytes → CutFrom v bytes from
end_cut v bytes from e = record { segments = []; tiles = e; standing = tt; cost = sym (ap (fewest (headers_of v)) (drop_all from bytes (omega (arith, e)))) }

more_cut : (v : Version) (bytes : List ℕ) (from : ℕ) (s : Start) → IsFirst (headers_of v) bytes from s → CutFrom v bytes (from + s.taken) → CutFrom v bytes from
more_cut v bytes from s f c =
    let first : Segment = record { mode = s.mode; begin = from; end = from + s.taken } in
    record {
      segments = first ∷ c.segments;
      tiles = (refl, (omega (arith, f.some), c.tiles));
      standing = (f.stands, c.standing);
      cost = omega (arith, cost_first v bytes first c.segments, segment_costs v bytes first (omega (arith, f.some)) f.inside f.stands, f.adds, c.cost);
    }

cut_from : (v : Version) (bytes : List ℕ) → AreBytes bytes → (fuel from : ℕ) → from ≤ length bytes → length bytes ≤ from + fuel → CutFrom v bytes from
cut_from v bytes are zero from low high = end_cut v bytes from (omega (arith, low, high))
cut_from v bytes are (suc fuel) from low high =
    let s = (costs_of (headers_of v) (drop from bytes)).start in
    elim (cases_lt from (length bytes)) [
      | inl less ↦ let f = first_at (headers_of v) bytes from are less in more_cut v bytes from s f (cut_from v bytes are fuel (from + s.taken) f.inside (omega (arith, f.some, high)))
      | inr end ↦ end_cut v bytes from (omega (arith, low, end))
    ]

-- some cut takes the counted bits, and is a shortest one
pub some_least : (v : Version) (bytes : List ℕ) → AreBytes bytes → (ss : List Segment) × (IsLeastMarkedCut v bytes ss × (fewest (headers_of v) bytes ≡ marked_cost v bytes ss))
some_least v bytes are =
    let c = cut_from v bytes are (length bytes) 0 (omega arith) (omega arith) in
    (c.segments, (least_is v bytes c.segments (record { tiles = c.tiles; standing = c.standing }) c.cost, sym c.cost))

-- headers are short
by_band_most : (v small middle large most : ℕ) → small ≤ most → middle ≤ most → large ≤ most → by_band v small middle large ≤ most
by_band_most v small middle large most a b c = grind arith

pub headers_small : (v : Version) → is_micro v ≡ false → AreSmall (headers_of v)
headers_small (Normal v) normal = record {
  numeric = omega (arith, by_band_most (nat_abs v) 10 12 14 16 (omega arith) (omega arith) (omega arith));
  alphanumeric = omega (arith, by_band_most (nat_abs v) 9 11 13 16 (omega arith) (omega arith) (omega arith));
  byte = omega (arith, by_band_most (nat_abs v) 8 16 16 16 (omega arith) (omega arith) (omega arith));
}
headers_small (Micro v) normal = absurd (true≢false normal)

-- each byte takes at most a header and eight bits
pub bytes_few : (h : Headers) (bytes : List ℕ) → h.byte ≤ 20 → fewest h bytes ≤ 28 * length bytes
bytes_few h [] byte = omega arith
bytes_few h (b ∷ bytes) byte = omega (arith, start_least h b (first_byte bytes) (costs_of h bytes) Byte refl, may_end h bytes Byte 0, bytes_few h bytes byte)

-- so the counts do not overflow
rest_few : (h : Headers) (bytes : List ℕ) → h.byte ≤ 20 → AreBytes bytes → length bytes ≤ data_limit → AreAllFew (costs_of h bytes)
rest_few h bytes byte are limit =
    let few : (m : Mode) (n : ℕ) → AreFew (left (costs_of h bytes) m n) = λ m n.
    let p = parts_of h bytes are m n in
    record { bits = omega (arith, may_end h bytes m n, bytes_few h bytes byte, limit); taken = omega (arith, p.count, ap length p.parted, length-append p.chunk p.rest, limit) } in
    record {
      start = record { bits = omega (arith, bytes_few h bytes byte, limit); taken = omega arith };
      digits = few Numeric 0;
      one_digit = few Numeric 1;
      two_digits = few Numeric 2;
      letters = few Alphanumeric 0;
      odd_letter = few Alphanumeric 1;
      bytes = few Byte 0;
    }

-- nor do those of the data from a place on
pub costs_few : (h : Headers) (bytes : List ℕ) (i : ℕ) (costs : RestCosts) → costs ≡ costs_of h (drop i bytes) → h.byte ≤ 20 → AreBytes bytes → length bytes ≤ data_limit → AreAllFew costs
costs_few h bytes i costs is byte are limit =
    subst AreAllFew (sym is) (rest_few h (drop i bytes) byte (all-drop (λ n. n < 256) i bytes are) (omega (arith, length-drop i bytes, limit)))

-- the counts at a place, from those after the byte there
pub counted_back : (h : Headers) (bytes : List ℕ) (i : ℕ) → 1 ≤ i → i ≤ length bytes
    → step h (get_or bytes (i - 1) 0) (first_byte (drop i bytes)) (costs_of h (drop i bytes)) ≡ costs_of h (drop (i - 1) bytes)
counted_back h bytes i some inside =
    let next : i - 1 + 1 ≡ i = omega arith in
    let more = drop_more bytes (i - 1) 0 (omega arith) ∙ ap (λ k. get_or bytes (i - 1) 0 ∷ drop k bytes) next in
    sym (ap (costs_of h) more)

pub first_back : (bytes : List ℕ) (i : ℕ) → 1 ≤ i → i ≤ length bytes → get_or bytes (i - 1) 0 ≡ first_byte (drop (i - 1) bytes)
first_back bytes i some inside = sym (ap first_byte (drop_more bytes (i - 1) 0 (omega arith)))
