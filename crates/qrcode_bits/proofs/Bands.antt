-- The bands of Normal versions, within which a cut takes the same bits.
use Rattle.std.proofs.Common.{◌≡◌, ℕ, zero, suc, ◌+◌, ◌-◌, ◌*◌, ◌≤◌, Bool, true, ◌&&◌, List, [], ◌∷◌, length, refl, ap, subst, ◌∙◌, arith, pos, IsTrue, inl, inr}
use Rattle.std.specs.Prelude.{nat_le, slice_range}
use Rattle.std.specs.List.{AllByRecursion}
use Rattle.std.proofs.lemmas.Bool.{agree_below, agree_below_at, and_parts, cases_lt, leb-true, le-leb, lt-leb}
use Rattle.std.proofs.lemmas.Bool.Decides.{nat_tests}
use Rattle.std.proofs.lemmas.List.Sums.{sum_by-cons}
use Rattle.std.proofs.lemmas.List.{take_all}
use Rattle.qrcode_types.specs.Tables.{block_table}
use Rattle.qrcode_types.specs.Bits.{AreBytes}
use Rattle.qrcode_types.specs.Versions.{is_valid, has_level, capacity, blocks_entry}
use Rattle.qrcode_types.specs.Modes.{has_mode, by_band, length_bits_count}
use Rattle.qrcode_types.specs.Characters.{can_write}
use Rattle.qrcode_types.specs.declared.types.Version.TheVariants.{Normal}
use Rattle.qrcode_types.specs.declared.types.EcLevel.{EcLevel}
use Rattle.qrcode_types.specs.declared.types.EcLevel.TheVariants.{L, M, Q, H}
use Rattle.qrcode_types.specs.declared.types.Mode.{Mode}
use Rattle.qrcode_types.specs.declared.types.Mode.TheVariants.{Numeric, Alphanumeric, Byte, Kanji}
use Rattle.qrcode_types.proofs.BlockTable.{capacity_ascends}
use Rattle.qrcode_types.proofs.Writing.{bytes_are_written}
use Rattle.qrcode_bits.specs.Segments.{cost, total_cost}
use Rattle.qrcode_bits.specs.Cuts.{IsCut, IsCutIn}
use Rattle.qrcode_bits.specs.ModeSets.{is_among}
use Rattle.qrcode_bits.specs.Manners.{modes_of}
use Rattle.qrcode_bits.specs.declared.optimize.Segment.{Segment}
use Rattle.qrcode_bits.specs.declared.bits.manner.Manner.{Manner}
use Rattle.qrcode_bits.specs.declared.bits.manner.Manner.TheVariants.{Bytes, Text, MarkedText}

-- each Normal version has all levels
abbrev has_all : ℕ → Bool
has_all n = let v = Normal (pos (suc n)) in has_level v L && (has_level v M && (has_level v Q && has_level v H))

all_levels : agree_below has_all (λ n. true) 40 ≡ true
unfolding blocks_entry block_table
all_levels = refl

pub normal_level : (n : ℕ) (l : EcLevel) → 1 ≤ n → n ≤ 40 → IsTrue (has_level (Normal (pos n)) l)
normal_level zero l h k = absurd (omega arith)
normal_level (suc n) l h k =
    let v = Normal (pos (suc n)) in
    let a = and_parts (has_level v L) (has_level v M && (has_level v Q && has_level v H)) (agree_below_at has_all (λ n. true) 40 n all_levels (omega arith)) in
    let b = and_parts (has_level v M) (has_level v Q && has_level v H) a.1 in
    let c = and_parts (has_level v Q) (has_level v H) b.1 in
    elim l as (λ l. IsTrue (has_level v l)) [ L ↦ a.0 | M ↦ b.0 | Q ↦ c.0 | H ↦ c.1 ]

pub normal_number : (n : ℕ) (l : EcLevel) → IsTrue (has_level (Normal (pos n)) l) → (1 ≤ n) × (n ≤ 40)
normal_number n l has =
    let valid = and_parts (is_valid (Normal (pos n))) _ has in
    let within = and_parts (nat_le 1 n) (nat_le n 40) valid.0 in
    (leb-true 1 n within.0, leb-true n 40 within.1)

-- the last version of a band
abbrev pub last_of : ℕ → ℕ
last_of n = by_band n 9 26 40

band_same : (n a b c : ℕ) → n ≤ 40 → by_band (last_of n) a b c ≡ by_band n a b c
band_same n a b c h = elim (cases_lt 9 n) [
  | inr low ↦ let e = le-leb n 9 low in rw e refl
  | inl high ↦
      let e = lt-leb n 9 high in
      elim (cases_lt 26 n) [
        | inr low ↦ let f = le-leb n 26 low in rw (e, f) refl
        | inl top ↦ let f = lt-leb n 26 top in rw (e, f) refl
      ]
]

width_same : (n : ℕ) (m : Mode) → n ≤ 40 → length_bits_count m (Normal (pos (last_of n))) ≡ length_bits_count m (Normal (pos n))
width_same n Numeric h = band_same n 10 12 14 h
width_same n Alphanumeric h = band_same n 9 11 13 h
width_same n Byte h = band_same n 8 16 16 h
width_same n Kanji h = band_same n 8 10 12 h

pub cost_same : (n : ℕ) (ss : List Segment) → n ≤ 40 → total_cost (Normal (pos (last_of n))) ss ≡ total_cost (Normal (pos n)) ss
cost_same n [] h = refl
cost_same n (s ∷ ss) h = omega (arith, sum_by-cons (cost (Normal (pos (last_of n)))) s ss, sum_by-cons (cost (Normal (pos n))) s ss, width_same n s.mode h, cost_same n ss h)

normal_modes : (n : ℕ) (ss : List Segment) → AllByRecursion (λ s. IsTrue (has_mode (Normal (pos n)) s.mode)) ss
normal_modes n [] = tt
normal_modes n (s ∷ ss) = (refl, normal_modes n ss)

-- a cut in one Normal version is a cut in every other
pub cut_in : (m n : ℕ) (bytes : List ℕ) (ss : List Segment) → IsCut (Normal (pos m)) bytes ss → IsCut (Normal (pos n)) bytes ss
cut_in m n bytes ss cut = record { tiles = cut.tiles; modes = normal_modes n ss; writable = cut.writable }

pub capacity_rises : (l : EcLevel) (m n : ℕ) → 1 ≤ m → m ≤ n → n ≤ 40 → capacity (Normal (pos m)) l ≤ capacity (Normal (pos n)) l
capacity_rises l m n some le most = elim (cases_lt m n) [
  | inl lt ↦ omega (arith, capacity_ascends l m n some lt most)
  | inr ge ↦ let e : m ≡ n = omega (arith, ge, le) in subst (λ k. capacity (Normal (pos m)) l ≤ capacity (Normal (pos k)) l) e (omega arith)
]

-- the versions between one and the last of its band are in the same band
pub same_band : (first k : ℕ) → first ≤ k → k ≤ last_of first → last_of k ≡ last_of first
same_band first k low high = elim (cases_lt 9 first) [
  | inr small ↦
      let e = le-leb first 9 small in
      let f : last_of first ≡ 9 = rw e refl in
      let g = le-leb k 9 (omega (arith, f)) in
      rw (e, g) refl
  | inl more ↦
      let e = lt-leb first 9 more in
      let e' = lt-leb k 9 (omega arith) in
      elim (cases_lt 26 first) [
        | inr middle ↦
            let h = le-leb first 26 middle in
            let f : last_of first ≡ 26 = rw (e, h) refl in
            let g = le-leb k 26 (omega (arith, f)) in
            rw (e, e', h, g) refl
        | inl top ↦
            let h = lt-leb first 26 top in
            let g = lt-leb k 26 (omega arith) in
            rw (e, e', h, g) refl
      ]
]

pub last_of-most : (n : ℕ) → last_of n ≤ 40
last_of-most n = grind (arith, nat_tests)

-- ---- a cut of any bytes
byte_among : (m : Manner) → IsTrue (is_among (modes_of m) Byte)
byte_among m = elim m as (λ m. IsTrue (is_among (modes_of m) Byte)) [ Bytes ↦ refl | Text ↦ refl | MarkedText ↦ refl ]

pub byte_cut_as : (m : Manner) (n : ℕ) (bytes : List ℕ) → AreBytes bytes → (ss : List Segment) × (IsCutIn (modes_of m) (Normal (pos n)) bytes ss × (total_cost (Normal (pos n)) ss ≤ 8 * length bytes + 20))
byte_cut_as m n [] are = ([], (record { cut = record { tiles = refl; modes = tt; writable = tt }; among = tt }, omega arith))
byte_cut_as m n (b ∷ bytes) are =
    let all = b ∷ bytes in
    let s : Segment = record { mode = Byte; begin = 0; end = length all } in
    let whole : slice_range all 0 (length all) ≡ all = take_all (length all - 0) all (omega arith) in (
      s ∷ [],
      (
        record {
          cut = record {
            tiles = (refl, (omega arith, refl));
            modes = (refl, tt);
            writable = (ap (can_write Byte) whole ∙ bytes_are_written all are, tt);
          };
          among = (byte_among m, tt);
        },
        omega (arith, sum_by-cons (cost (Normal (pos n))) s [], wide n),
      ),
    ) where
      wide : (n : ℕ) → by_band n 8 16 16 ≤ 16
      wide n = grind (arith, nat_tests)
