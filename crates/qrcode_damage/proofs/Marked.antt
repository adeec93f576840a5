-- A relation that holds bit by bit between three streams, of marks and of two squares, holds codeword by codeword.
use Rattle.std.proofs.Common.{◌≡◌, ℕ, zero, suc, ◌+◌, ◌-◌, ◌*◌, ◌/◌, ◌<◌, ◌≤◌, Bool, true, false, cond, List, [], ◌∷◌, ◌++◌, length, map, take, drop, get_or, slice_index, min, refl, sym, ap, ap₂, ◌∙◌, arith, subst, inl, inr, length-append, append-nil}
use Rattle.std.specs.List.{range_with_len, AllByRecursion, fold}
use Rattle.std.proofs.lemmas.Bool.{cases_lt}
use Rattle.std.proofs.lemmas.List.{get_or-take, get_or-drop, get_or_past, length-map, length-take, length-drop, get_or_append_left, get_or-append_right}
use Rattle.std.proofs.lemmas.List.FromFn.{length-map-range_with_len, get_or-map-range_with_len}
use Rattle.qrcode_types.specs.Bits.{number_of, byte_at, bytes_of}
use Rattle.qrcode_types.specs.Versions.{capacity, block_lengths, ec_length, data_length, total_ec_length}
use Rattle.qrcode_types.specs.declared.types.Version.{Version}
use Rattle.qrcode_types.specs.declared.types.EcLevel.{EcLevel}
use Rattle.qrcode_ec.specs.Blocks.{codewords, block, interleaved_place}
use Rattle.qrcode_ec.specs.Codes.{distance}
use Rattle.qrcode_damage.specs.Areas.{differing_beside}
use Rattle.qrcode_damage.proofs.Beside.{beside_maps, counted, counted_maps}

-- three lists of one length, whose items are related place by place
pub record AreRelated {X : Type 0} (d : X) (R : X → X → X → Type 0) (marks items others : List X) : Type 0 where
  pub long : length items ≡ length marks
  pub as_long : length others ≡ length marks
  pub each : (i : ℕ) → R (get_or marks i d) (get_or items i d) (get_or others i d)

carry : {X : Type 0} (R : X → X → X → Type 0) (a b c x y z : X) → a ≡ x → b ≡ y → c ≡ z → R x y z → R a b c
carry {X} R a b c x y z e f g r = subst (λ (t : X). R t b c) (sym e) (subst (λ (t : X). R x t c) (sym f) (subst (λ (t : X). R x y t) (sym g) r))

-- items that three functions compute from the same places
pub maps_related : {P X : Type 0} (d : X) (R : X → X → X → Type 0) (m f g : P → X) (places : List P) → R d d d → AllByRecursion (λ p. R (m p) (f p) (g p)) places
    → AreRelated d R (map m places) (map f places) (map g places)
maps_related {P} {X} d R m f g places none h = record {
  long = length-map places f ∙ sym (length-map places m);
  as_long = length-map places g ∙ sym (length-map places m);
  each = at places h;
} where
  at : (places : List P) → AllByRecursion (λ p. R (m p) (f p) (g p)) places → (i : ℕ) → R (get_or (map m places) i d) (get_or (map f places) i d) (get_or (map g places) i d)
  at [] h i = none
  at (p ∷ places) h zero = h.0
  at (p ∷ places) h (suc i) = at places h.1 i

take_related : {X : Type 0} (d : X) (R : X → X → X → Type 0) (n : ℕ) (m b c : List X) → R d d d → AreRelated d R m b c → AreRelated d R (take n m) (take n b) (take n c)
take_related d R n m b c none a = record {
  long = length-take n b ∙ ap (λ k. min n k) a.long ∙ sym (length-take n m);
  as_long = length-take n c ∙ ap (λ k. min n k) a.as_long ∙ sym (length-take n m);
  each = λ i. elim (cases_lt i n) [
    | inl l ↦ carry R _ _ _ _ _ _ (get_or-take n m i d l) (get_or-take n b i d l) (get_or-take n c i d l) (a.each i)
    | inr g ↦ carry R _ _ _ _ _ _ (get_or_past (take n m) i d (omega (arith, length-take n m))) (get_or_past (take n b) i d (omega (arith, length-take n b))) (get_or_past (take n c) i d (omega (arith, length-take n c))) none
  ];
}

drop_related : {X : Type 0} (d : X) (R : X → X → X → Type 0) (n : ℕ) (m b c : List X) → AreRelated d R m b c → AreRelated d R (drop n m) (drop n b) (drop n c)
drop_related d R n m b c a = record {
  long = length-drop n b ∙ ap (λ k. k - n) a.long ∙ sym (length-drop n m);
  as_long = length-drop n c ∙ ap (λ k. k - n) a.as_long ∙ sym (length-drop n m);
  each = λ i. carry R _ _ _ _ _ _ (get_or-drop n m i d) (get_or-drop n b i d) (get_or-drop n c i d) (a.each (n + i));
}

append_related : {X : Type 0} (d : X) (R : X → X → X → Type 0) (m b c n e o : List X) → AreRelated d R m b c → AreRelated d R n e o → AreRelated d R (m ++ n) (b ++ e) (c ++ o)
append_related d R m b c n e o p q = record {
  long = omega (arith, length-append b e, length-append m n, p.long, q.long);
  as_long = omega (arith, length-append c o, length-append m n, p.as_long, q.as_long);
  each = λ i. elim (cases_lt i (length m)) [
    | inl l ↦ carry R _ _ _ _ _ _ (get_or_append_left m n d i l) (get_or_append_left b e d i (omega (arith, p.long, l))) (get_or_append_left c o d i (omega (arith, p.as_long, l))) (p.each i)
    | inr g ↦ carry R _ _ _ _ _ _ (get_or-append_right m n (length m) i d refl g) (get_or-append_right b e (length m) i d p.long g) (get_or-append_right c o (length m) i d p.as_long g) (q.each (i - length m))
  ];
}

-- a relation of bits, and one of bytes that follows from it
pub record Carries (R : Bool → Bool → Bool → Type 0) (S : ℕ → ℕ → ℕ → Type 0) : Type 0 where
  pub no_bits : R false false false
  pub no_bytes : S 0 0 0
  pub bytes : (m b c : List Bool) → ((i : ℕ) → R (get_or m i false) (get_or b i false) (get_or c i false)) → (i : ℕ) → S (byte_at m i) (byte_at b i) (byte_at c i)

bytes_related : (R : Bool → Bool → Bool → Type 0) (S : ℕ → ℕ → ℕ → Type 0) → Carries R S → (m b c : List Bool) → AreRelated false R m b c → AreRelated 0 S (bytes_of m) (bytes_of b) (bytes_of c)
unfolding bytes_of
bytes_related R S k m b c a =
    let n = (length m + 7) / 8 in
    let len = λ (s : List Bool). length-map-range_with_len (byte_at s) 0 ((length s + 7) / 8) in
    let lb : (length b + 7) / 8 ≡ n = ap (λ k. (k + 7) / 8) a.long in
    let lc : (length c + 7) / 8 ≡ n = ap (λ k. (k + 7) / 8) a.as_long in
    let at = λ (s : List Bool) (i : ℕ) (l : i < (length s + 7) / 8). get_or-map-range_with_len (byte_at s) 0 ((length s + 7) / 8) i i 0 l (omega arith) in
    let past = λ (s : List Bool) (i : ℕ) (g : (length s + 7) / 8 ≤ i). get_or_past (map (byte_at s) (range_with_len 0 ((length s + 7) / 8))) i 0 (omega (arith, len s, g)) in
    record {
      long = len b ∙ lb ∙ sym (len m);
      as_long = len c ∙ lc ∙ sym (len m);
      each = λ i. elim (cases_lt i n) [
        | inl l ↦ carry S _ _ _ _ _ _ (at m i l) (at b i (subst (λ k. i < k) (sym lb) l)) (at c i (subst (λ k. i < k) (sym lc) l)) (k.bytes m b c a.each i)
        | inr g ↦ carry S _ _ _ _ _ _ (past m i g) (past b i (subst (λ k. k ≤ i) (sym lb) g)) (past c i (subst (λ k. k ≤ i) (sym lc) g)) k.no_bytes
      ];
    }

pub codewords_related : (R : Bool → Bool → Bool → Type 0) (S : ℕ → ℕ → ℕ → Type 0) → Carries R S → (v : Version) (l : EcLevel) (m b c : List Bool) → AreRelated false R m b c
    → AreRelated 0 S (codewords v l m) (codewords v l b) (codewords v l c)
unfolding codewords
codewords_related R S both v l m b c a =
    let n = capacity v l in
    let k = 8 * total_ec_length v l in
    append_related 0 S (bytes_of (take n m)) (bytes_of (take n b)) (bytes_of (take n c)) (bytes_of (take k (drop n m))) (bytes_of (take k (drop n b))) (bytes_of (take k (drop n c)))
    (bytes_related R S both (take n m) (take n b) (take n c) (take_related false R n m b c both.no_bits a))
    (bytes_related R S both (take k (drop n m)) (take k (drop n b)) (take k (drop n c)) (take_related false R k (drop n m) (drop n b) (drop n c) both.no_bits (drop_related false R n m b c a)))

-- Numbers and their bits.

abbrev next : ℕ → Bool → ℕ
next n bit = 2 * n + cond {A = ℕ} bit 1 0

zero_before : (acc : ℕ) (bits : List Bool) → fold next acc bits ≡ 0 → acc ≡ 0
zero_before acc [] e = e
zero_before acc (b ∷ bits) e = omega (arith, zero_before (next acc b) bits e)

zero_bit : (acc : ℕ) (b : Bool) → next acc b ≡ 0 → b ≡ false
zero_bit acc true e = absurd (omega arith)
zero_bit acc false e = refl

-- a number is zero only if all its bits are
zero_bits : (acc : ℕ) (bits : List Bool) → fold next acc bits ≡ 0 → (j : ℕ) → get_or bits j false ≡ false
zero_bits acc [] e j = refl
zero_bits acc (b ∷ bits) e zero = zero_bit acc b (zero_before (next acc b) bits e)
zero_bits acc (b ∷ bits) e (suc j) = zero_bits (next acc b) bits e j

same_next : (m n : ℕ) (b c : Bool) → next m b ≡ next n c → (m ≡ n) × (b ≡ c)
same_next m n true true e = (omega arith, refl)
same_next m n false false e = (omega arith, refl)
same_next m n true false e = absurd (omega arith)
same_next m n false true e = absurd (omega arith)

-- and two numbers of as many bits are the same only if their bits are
same_bits : (m n : ℕ) (bs cs : List Bool) → length bs ≡ length cs → fold next m bs ≡ fold next n cs → (m ≡ n) × ((j : ℕ) → get_or bs j false ≡ get_or cs j false)
same_bits m n [] [] l e = (e, λ j. refl)
same_bits m n [] (c ∷ cs) l e = absurd (omega arith)
same_bits m n (b ∷ bs) [] l e = absurd (omega arith)
same_bits m n (b ∷ bs) (c ∷ cs) l e =
    let rest = same_bits (next m b) (next n c) bs cs (omega arith) e in
    let first = same_next m n b c rest.0 in
    (first.0, at first.1 rest.1) where
      at : b ≡ c → ((j : ℕ) → get_or bs j false ≡ get_or cs j false) → (j : ℕ) → get_or (b ∷ bs) j false ≡ get_or (c ∷ cs) j false
      at e h zero = e
      at e h (suc j) = h j

same_map : {X : Type 0} (f g : ℕ → X) (a n : ℕ) → ((j : ℕ) → j < a + n → f j ≡ g j) → map f (range_with_len a n) ≡ map g (range_with_len a n)
same_map f g a zero h = refl
same_map {X} f g a (suc n) h = ap₂ (λ (x : X) (xs : List X). x ∷ xs) (h a (omega arith)) (same_map f g (a + 1) n (λ j l. h j (omega arith)))

eight_at : (f : ℕ → Bool) (j : ℕ) → j < 8 → get_or (map f (range_with_len 0 8)) j false ≡ f j
eight_at f j l = get_or-map-range_with_len f 0 8 j j false l (omega arith)

-- What is not marked is the same.

abbrev pub SameUnmarked : Bool → Bool → Bool → Type 0
SameUnmarked m b c = m ≡ false → b ≡ c

abbrev pub SameWord : ℕ → ℕ → ℕ → Type 0
SameWord m b c = m ≡ 0 → b ≡ c

pub unmarked_words : Carries SameUnmarked SameWord
unfolding byte_at number_of
unmarked_words = record {
  no_bits = λ e. refl;
  no_bytes = λ e. refl;
  bytes = λ m b c h i e.
      let f = λ (s : List Bool) (j : ℕ). get_or s (8 * i + j) false in
      ap number_of (same_map (f b) (f c) 0 8 (λ j l. h (8 * i + j) (sym (eight_at (f m) j l) ∙ zero_bits 0 (map (f m) (range_with_len 0 8)) e j)));
}

-- What is the same is not marked.

abbrev pub UnmarkedSame : Bool → Bool → Bool → Type 0
UnmarkedSame m b c = b ≡ c → m ≡ false

abbrev pub WordSame : ℕ → ℕ → ℕ → Type 0
WordSame m b c = b ≡ c → m ≡ 0

pub words_unmarked : Carries UnmarkedSame WordSame
unfolding byte_at number_of
words_unmarked = record {
  no_bits = λ e. refl;
  no_bytes = λ e. refl;
  bytes = λ m b c h i e.
      let f = λ (s : List Bool) (j : ℕ). get_or s (8 * i + j) false in
      let same = (same_bits 0 0 (map (f b) (range_with_len 0 8)) (map (f c) (range_with_len 0 8)) (length-map-range_with_len (f b) 0 8 ∙ sym (length-map-range_with_len (f c) 0 8)) e).1 in
      ap number_of (same_map (f m) (λ j. false) 0 8 (λ j l. h (8 * i + j) (sym (eight_at (f b) j l) ∙ same j ∙ eight_at (f c) j l)));
}

-- if all unmarked codewords are the same, no codeword of a block differs beside the marks
pub none_in_block : (v : Version) (l : EcLevel) (m w o : List ℕ) (b : ℕ) → AreRelated 0 SameWord m w o → differing_beside (block v l m b) (block v l w b) (block v l o b) ≡ 0
unfolding block
none_in_block v l m w o b a =
    let lengths = block_lengths v l in
    let front = range_with_len 0 (slice_index lengths b) in
    let ec = range_with_len 0 (ec_length v l) in
    let f = λ (s : List ℕ) (i : ℕ). slice_index s (interleaved_place lengths i b) in
    let g = λ (s : List ℕ) (i : ℕ). slice_index s (data_length v l + i * length lengths + b) in
    beside_maps (f m) (f w) (f o) (map (g m) ec) (map (g w) ec) (map (g o) ec) front (λ i. a.each (interleaved_place lengths i b))
    (let none : differing_beside [] [] [] ≡ 0 = refl in last (g m) (g w) (g o) ec (λ i. a.each (data_length v l + i * length lengths + b))) where
      last : (h f g : ℕ → ℕ) (places : List ℕ) → ((n : ℕ) → h n ≡ 0 → f n ≡ g n) → differing_beside (map h places) (map f places) (map g places) ≡ 0
      last h f g places e =
          let none = beside_maps h f g [] [] [] places e refl in
          ap (λ xs. differing_beside xs (map f places) (map g places)) (sym (append-nil (map h places)))
          ∙ ap (λ xs. differing_beside (map h places ++ []) xs (map g places)) (sym (append-nil (map f places)))
          ∙ ap (λ xs. differing_beside (map h places ++ []) (map f places ++ []) xs) (sym (append-nil (map g places))) ∙ none

-- if all marked codewords differ, at least as many differ as are marked
pub all_in_block : (v : Version) (l : EcLevel) (m w o : List ℕ) (b : ℕ) → AreRelated 0 WordSame m w o → counted (block v l m b) ≤ distance (block v l w b) (block v l o b)
unfolding block
all_in_block v l m w o b a =
    let lengths = block_lengths v l in
    let front = range_with_len 0 (slice_index lengths b) in
    let ec = range_with_len 0 (ec_length v l) in
    let f = λ (s : List ℕ) (i : ℕ). slice_index s (interleaved_place lengths i b) in
    let g = λ (s : List ℕ) (i : ℕ). slice_index s (data_length v l + i * length lengths + b) in
    counted_maps (f m) (f w) (f o) (map (g m) ec) (map (g w) ec) (map (g o) ec) front (λ i. a.each (interleaved_place lengths i b))
    (last (g m) (g w) (g o) ec (λ i. a.each (data_length v l + i * length lengths + b))) where
      last : (h f g : ℕ → ℕ) (places : List ℕ) → ((n : ℕ) → f n ≡ g n → h n ≡ 0) → counted (map h places) ≤ distance (map f places) (map g places)
      last h f g places e =
          subst (λ xs. counted xs ≤ distance (map f places) (map g places)) (append-nil (map h places))
          (subst (λ xs. counted (map h places ++ []) ≤ distance xs (map g places)) (append-nil (map f places))
          (subst (λ xs. counted (map h places ++ []) ≤ distance (map f places ++ []) xs) (append-nil (map g places)) (counted_maps h f g [] [] [] places e (omega arith))))
