-- For sparse data in Normal versions, a single Byte segment is a least cut.
use Rattle.std.proofs.Common.{◌≡◌, ℕ, ◌+◌, ◌-◌, ◌*◌, ◌<◌, ◌≤◌, nat_le, Bool, true, false, List, [], ◌∷◌, length, get_or, drop, refl, sym, ap, ◌∙◌, arith, inl, inr, IsTrue, true≢false, ℤ}
use Rattle.std.specs.Prelude.{slice_range}
use Rattle.std.specs.List.{list_all}
use Rattle.std.proofs.lemmas.Bool.{and_parts, cases_Bool, cases_lt, leb-true}
use Rattle.std.proofs.lemmas.List.{take_all, get_or-take, get_or-drop}
use Rattle.std.proofs.Math.ListN.{get_or-eq_default}
use Rattle.std.proofs.lemmas.List.Folds.{list_all_at}
use Rattle.std.proofs.lemmas.List.Sums.{sum_by-cons}
use Rattle.qrcode_types.specs.Versions.{is_valid, is_micro}
use Rattle.qrcode_types.specs.Modes.{has_mode, length_bits_count}
use Rattle.qrcode_types.specs.Characters.{is_digit, is_alphanumeric, is_kanji, are_kanji, can_write, character_count}
use Rattle.qrcode_types.specs.declared.types.Version.{Version}
use Rattle.qrcode_types.specs.declared.types.Version.TheVariants.{Normal, Micro}
use Rattle.qrcode_types.specs.declared.types.Mode.{Mode}
use Rattle.qrcode_types.specs.declared.types.Mode.TheVariants.{Numeric, Alphanumeric, Byte, Kanji}
use Rattle.qrcode_types.proofs.Writing.{are_bytes, bytes_are_written}
use Rattle.qrcode_bits.specs.Segments.{cost, cost_of, total_cost, Tile}
use Rattle.qrcode_bits.specs.Cuts.{IsLeastCutIn}
use Rattle.qrcode_bits.specs.ModeSets.{is_among}
use Rattle.qrcode_bits.specs.Sparse.{is_dense, IsSparse}
use Rattle.qrcode_bits.specs.declared.optimize.mode_sets.Modes.{Modes}
use Rattle.qrcode_bits.specs.declared.optimize.Segment.{Segment}
use Rattle.qrcode_bits.proofs.LeastCuts.{AreWritable}
use Rattle.qrcode_bits.proofs.SegmentRanges.{length-range, tile_le}
use Rattle.qrcode_bits.proofs.TokenKinds.{above_letters, low_no_pair}
use Rattle.qrcode_bits.proofs.VersionModes.{digits_length, long_digits}

-- a byte of a range
at_range : (bytes : List ℕ) (a b k : ℕ) → k < b - a → get_or (slice_range bytes a b) k 0 ≡ get_or bytes (a + k) 0
at_range bytes a b k before = get_or-take (b - a) (drop a bytes) k 0 before ∙ get_or-drop a bytes k 0

-- a test that all bytes of a range pass, each byte passes
passes : (p : ℕ → Bool) (bytes : List ℕ) (a b i : ℕ) → list_all p (slice_range bytes a b) ≡ true → a ≤ i → i < b → b ≤ length bytes → p (get_or bytes i 0) ≡ true
passes p bytes a b i all after before inside =
    let e : a + (i - a) ≡ i = omega (arith, after) in
    let here = at_range bytes a b (i - a) (omega (arith, after, before)) ∙ ap (λ n. get_or bytes n 0) e in
    let place : i - a < length (slice_range bytes a b) = omega (arith, after, before, length-range bytes a b (omega (arith, after, before)) inside) in
    elim (cases_Bool (p (get_or bytes i 0))) [
      | inl passed ↦ passed
      | inr failed ↦ absurd (true≢false (sym all ∙ list_all_at p (slice_range bytes a b) (i - a) 0 place (ap p here ∙ failed)))
    ]

-- an alphanumeric byte is at most `Z`
low_letter : (b : ℕ) → b < 129 → is_alphanumeric b ≡ true → b ≤ 90
low_letter b small letter = elim (cases_lt 90 b) [ inl above ↦ absurd (true≢false (sym letter ∙ above_letters b (omega (arith, small)) above)) | inr low ↦ low ]

low_digit : (b : ℕ) → is_digit b ≡ true → b ≤ 90
low_digit b digit = omega (arith, leb-true b 57 (and_parts (nat_le 48 b) (nat_le b 57) digit).1)

no_pairs : (chunk : List ℕ) → 0 < length chunk → get_or chunk 0 0 < 129 → are_kanji chunk ≡ true → ⊥
no_pairs [] some low pairs = omega (arith, some)
no_pairs (b ∷ []) some low pairs = true≢false (sym pairs)
no_pairs (b ∷ c ∷ more) some low pairs = true≢false (sym (and_parts (is_kanji b c) (are_kanji more) pairs).0 ∙ low_no_pair b c low)

-- four neighbours that are not dense are not all at most `Z`
not_four : (a b c d : ℕ) → is_dense a b c d ≡ false → a ≤ 90 → b ≤ 90 → c ≤ 90 → d ≤ 90 → ⊥
not_four a b c d e = grind arith

short : (bytes : List ℕ) (a b : ℕ) → IsSparse bytes → b ≤ length bytes → ((i : ℕ) → a ≤ i → i < b → get_or bytes i 0 ≤ 90) → b - a ≤ 3
short bytes a b sparse inside low =
    elim (cases_lt 3 (b - a)) [
      | inl long ↦ absurd (not_four (get_or bytes a 0) (get_or bytes (a + 1) 0) (get_or bytes (a + 2) 0) (get_or bytes (a + 3) 0)
          (sparse.apart a (omega (arith, long, inside))) (low a (omega arith) (omega (arith, long))) (low (a + 1) (omega arith) (omega (arith, long))) (low (a + 2) (omega arith) (omega (arith, long))) (low (a + 3) (omega arith) (omega (arith, long))))
      | inr few ↦ few
    ]

-- lower bounds for the bits of a range, and for those of a range with a byte above `Z`
abbrev Takes : ℤ → Mode → List ℕ → ℕ → ℕ → ℕ → Type 0
Takes n m bytes a b bits = (8 * (b - a) ≤ bits) × ((i : ℕ) → a ≤ i → i < b → 90 < get_or bytes i 0 → 8 * (b - a) + (4 + length_bits_count Byte (Normal n)) ≤ bits)

-- a range without bytes above `Z`
low_takes : (n : ℤ) (m : Mode) (bytes : List ℕ) (a b bits : ℕ) → ((i : ℕ) → a ≤ i → i < b → get_or bytes i 0 ≤ 90) → 8 * (b - a) ≤ bits → Takes n m bytes a b bits
low_takes n m bytes a b bits low few = (few, λ i after before high. absurd (omega (arith, high, low i after before)))

piece : (n : ℤ) (m : Mode) (bytes : List ℕ) (a b : ℕ) → IsTrue (is_valid (Normal n)) → IsSparse bytes → a < b → b ≤ length bytes → can_write m (slice_range bytes a b) ≡ true
    → Takes n m bytes a b (cost_of (Normal n) m (character_count m (b - a)))
piece n Numeric bytes a b valid sparse some inside w =
    let low : (i : ℕ) → a ≤ i → i < b → get_or bytes i 0 ≤ 90 = λ i after before. low_digit (get_or bytes i 0) (passes is_digit bytes a b i w after before inside) in
    low_takes n Numeric bytes a b _ low (omega (arith, some, long_digits n valid, short bytes a b sparse inside low))
piece n Alphanumeric bytes a b valid sparse some inside w =
    let low : (i : ℕ) → a ≤ i → i < b → get_or bytes i 0 ≤ 90 = λ i after before. low_letter (get_or bytes i 0) (sparse.low i (omega (arith, before, inside))) (passes is_alphanumeric bytes a b i w after before inside) in
    low_takes n Alphanumeric bytes a b _ low (omega (arith, some, long_digits n valid, digits_length (Normal n) Alphanumeric valid, short bytes a b sparse inside low))
piece n Byte bytes a b valid sparse some inside w = (omega arith, λ i after before high. omega arith)
piece n Kanji bytes a b valid sparse some inside w =
    let e : a + 0 ≡ a = omega arith in
    let first = at_range bytes a b 0 (omega (arith, some)) ∙ ap (λ n. get_or bytes n 0) e in
    absurd (no_pairs (slice_range bytes a b) (omega (arith, length-range bytes a b (omega (arith, some)) inside, some)) (omega (arith, first, sparse.low a (omega (arith, some, inside)))) w)

tiles : (n : ℤ) (bytes : List ℕ) (from : ℕ) (ss : List Segment) → IsTrue (is_valid (Normal n)) → IsSparse bytes → Tile from ss (length bytes) → AreWritable bytes ss
    → Takes n Byte bytes from (length bytes) (total_cost (Normal n) ss)
tiles n bytes from [] valid sparse t w = (omega (arith, t), λ i after before high. absurd (omega (arith, t, after, before)))
tiles n bytes from (s ∷ ss) valid sparse t w =
    let inside = tile_le s.end ss (length bytes) t.1.1 in
    let here = piece n s.mode bytes s.begin s.end valid sparse t.1.0 inside w.0 in
    let rest = tiles n bytes s.end ss valid sparse t.1.1 w.1 in
    let sum = sum_by-cons (cost (Normal n)) s ss in (
      omega (arith, t.0, t.1.0, inside, here.0, rest.0, sum),
      λ i after before high. elim (cases_lt i s.end) [
        | inl first ↦ omega (arith, t.0, t.1.0, inside, here.1 i (omega (arith, t.0, after)) first high, rest.0, sum)
        | inr later ↦ omega (arith, t.0, t.1.0, inside, here.0, rest.1 i later before high, sum)
      ],
    )

-- one of the first four bytes is above `Z`
some_high : (bytes : List ℕ) → IsSparse bytes → 3 < length bytes → (i : ℕ) × ((i < length bytes) × (90 < get_or bytes i 0))
some_high bytes sparse some =
    elim (cases_lt 90 (get_or bytes 0 0)) [
      | inl high ↦ (0, (omega (arith, some), high))
      | inr a ↦ elim (cases_lt 90 (get_or bytes 1 0)) [
        | inl high ↦ (1, (omega (arith, some), high))
        | inr b ↦ elim (cases_lt 90 (get_or bytes 2 0)) [
          | inl high ↦ (2, (omega (arith, some), high))
          | inr c ↦ (
            3,
            (
              some,
              elim (cases_lt 90 (get_or bytes 3 0)) [
                | inl high ↦ high
                | inr d ↦ absurd (not_four (get_or bytes 0 0) (get_or bytes 1 0) (get_or bytes 2 0) (get_or bytes 3 0) (sparse.apart 0 some) a b c d)
              ],
            ),
          )
        ]
      ]
    ]

has_bytes : (v : Version) → is_micro v ≡ false → has_mode v Byte ≡ true
has_bytes (Normal n) normal = refl
has_bytes (Micro n) normal = absurd (true≢false normal)

takes_least : (v : Version) (bytes : List ℕ) (ss : List Segment) → IsTrue (is_valid v) → is_micro v ≡ false → IsSparse bytes → 3 < length bytes → Tile 0 ss (length bytes) → AreWritable bytes ss
    → cost_of v Byte (length bytes) ≤ total_cost v ss
takes_least (Normal n) bytes ss valid normal sparse some t w =
    let high = some_high bytes sparse some in
    omega (arith, (tiles n bytes 0 ss valid sparse t w).1 high.0 (omega arith) high.1.0 high.1.1)
takes_least (Micro n) bytes ss valid normal sparse some t w = absurd (true≢false normal)

below : (bytes : List ℕ) → IsSparse bytes → (i : ℕ) → get_or bytes i 0 < 256
below bytes sparse i = elim (cases_lt i (length bytes)) [ inl inside ↦ omega (arith, sparse.low i inside) | inr past ↦ omega (arith, get_or-eq_default bytes 0 past) ]

pub bytes_least : (set : Modes) (v : Version) (bytes : List ℕ) → IsTrue (is_valid v) → IsTrue (is_among set Byte) → is_micro v ≡ false → 3 < length bytes → IsSparse bytes
    → IsLeastCutIn set v bytes (record { mode = Byte; begin = 0; end = length bytes } ∷ [])
bytes_least set v bytes valid among normal some sparse =
    let whole : Segment = record { mode = Byte; begin = 0; end = length bytes } in
    let are = are_bytes bytes (below bytes sparse) in
    record {
      reached = record {
        cut = record {
          tiles = (refl, (omega (arith, some), refl));
          modes = (has_bytes v normal, tt);
          writable = (ap (can_write Byte) (take_all (length bytes - 0) bytes (omega arith)) ∙ bytes_are_written bytes are, tt);
        };
        among = (among, tt);
      };
      least = λ others in_set. omega (arith, sum_by-cons (cost v) whole [], takes_least v bytes others valid normal sparse some in_set.cut.tiles in_set.cut.writable);
    }
