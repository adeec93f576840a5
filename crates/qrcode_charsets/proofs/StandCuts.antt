-- The shortest segments of bytes that stand in for Shift JIS divide no code.
use Rattle.std.proofs.Common.{◌≡◌, ◌⊎◌, ℕ, zero, suc, ◌+◌, ◌-◌, ◌≤◌, Bool, true, ◌&&◌, List, [], ◌∷◌, ◌++◌, length, take, drop, length-append, append_assoc, Option, Some, Result, Ok, Err, IfOk, IfErr, IsTrue, refl, sym, ap, ap₂, subst, ◌∙◌, arith, inl, inr, true≢false}
use Rattle.std.specs.Prelude.{map, slice_range, IsOkUnless}
use Rattle.std.specs.List.{list_all}
use Rattle.std.proofs.lemmas.Bool.{and_parts}
use Rattle.std.proofs.lemmas.Bool.Decides.{nat_tests}
use Rattle.std.proofs.lemmas.List.{take_at, drop_at, drop-drop, length-drop, drop_all, take_all}
use Rattle.qrcode_types.specs.Characters.{is_digit, is_alphanumeric, is_lead, is_kanji, are_kanji, can_write}
use Rattle.qrcode_types.specs.Modes.{has_mode}
use Rattle.qrcode_types.specs.declared.types.Mode.{Mode}
use Rattle.qrcode_types.specs.declared.types.Mode.TheVariants.{Numeric, Alphanumeric, Byte, Kanji}
use Rattle.qrcode_types.specs.declared.types.QrError.{QrError}
use Rattle.qrcode_types.specs.declared.types.QrError.TheVariants.{UnsupportedCharacterSet, OutOfMemory}
use Rattle.qrcode_types.specs.declared.types.Version.{Version}
use Rattle.qrcode_bits.specs.Cuts.{IsCutIn, IsLeastCutIn, NeedsCut}
use Rattle.qrcode_bits.specs.ModeSets.{all_modes}
use Rattle.qrcode_bits.specs.Segments.{Tile}
use Rattle.qrcode_bits.specs.Written.{pieces_of}
use Rattle.qrcode_bits.specs.declared.optimize.Segment.{Segment}
use Rattle.qrcode_bits.proofs.ApartCuts.{Apart, is_byte, apart_rest, least_apart}
use Rattle.qrcode_bits.proofs.LeastCuts.{AreWritable}
use Rattle.qrcode_bits.proofs.SegmentRanges.{tile_le}
use Rattle.qrcode_charsets.specs.Charsets.{IsWritten}
use Rattle.qrcode_charsets.specs.Fronts.{has_front}
use Rattle.qrcode_charsets.specs.Laid.{IsBestCut}
use Rattle.qrcode_charsets.specs.ShiftJis.{single_character, pair_character, stand_in}
use Rattle.qrcode_charsets.specs.Shown.{ArePiecesShown}
use Rattle.qrcode_charsets.specs.declared.sets.Charset.TheVariants.{ShiftJis}
use Rattle.qrcode_charsets.proofs.PairCodes.{AreCodes, IsFirst, first_code, none_left, single_first, pair_first, single_plain}
use Rattle.qrcode_charsets.proofs.StandIns.{stand_single, stand_pair, stand_both, stand_length, write_same, all_among, no_pairs, digit_high, letter_high, bytes_same}

-- ---- where the first bytes of a text end
record IsSplit (text bytes : List ℕ) (n : ℕ) : Type 0 where
  first : List ℕ
  rest : List ℕ
  xs : List ℕ
  ys : List ℕ
  parted : text ≡ first ++ rest
  joined : bytes ≡ xs ++ ys
  length : length xs ≡ n
  own : AreCodes first xs
  after : AreCodes rest ys

-- they end within a code
record IsThrough (bytes : List ℕ) (n : ℕ) : Type 0 where
  us : List ℕ
  vs : List ℕ
  joined : stand_in bytes ≡ us ++ (0x81 ∷ 0xFC ∷ vs)
  length : length us + 1 ≡ n

no_bytes : (text bytes : List ℕ) → AreCodes text bytes → IsSplit text bytes 0
no_bytes text bytes e = record { first = []; rest = text; xs = []; ys = bytes; parted = refl; joined = refl; length = refl; own = refl; after = e }

with_single : (b x : ℕ) (more text bytes : List ℕ) (n : ℕ) → bytes ≡ b ∷ more → single_character b ≡ Some x → IsSplit text more n → IsSplit (x ∷ text) bytes (suc n)
with_single b x more text bytes n j own s = record {
  first = x ∷ s.first;
  rest = s.rest;
  xs = b ∷ s.xs;
  ys = s.ys;
  parted = ap (λ (z : List ℕ). x ∷ z) s.parted;
  joined = j ∙ ap (λ (z : List ℕ). b ∷ z) s.joined;
  length = omega (arith, s.length);
  own = single_first b s.xs (single_plain b x own) ∙ ap₂ (λ (o : Option ℕ) (os : List (Option ℕ)). o ∷ os) own s.own;
  after = s.after;
}

with_pair : (b c x : ℕ) (more text bytes : List ℕ) (n : ℕ) → bytes ≡ b ∷ c ∷ more → is_lead b ≡ true → pair_character b c ≡ Some x → IsSplit text more n → IsSplit (x ∷ text) bytes (suc (suc n))
with_pair b c x more text bytes n j lead own s = record {
  first = x ∷ s.first;
  rest = s.rest;
  xs = b ∷ c ∷ s.xs;
  ys = s.ys;
  parted = ap (λ (z : List ℕ). x ∷ z) s.parted;
  joined = j ∙ ap (λ (z : List ℕ). b ∷ c ∷ z) s.joined;
  length = omega (arith, s.length);
  own = pair_first b c s.xs lead ∙ ap₂ (λ (o : Option ℕ) (os : List (Option ℕ)). o ∷ os) own s.own;
  after = s.after;
}

split_at : (text bytes : List ℕ) (n : ℕ) → AreCodes text bytes → n ≤ length bytes → IsSplit text bytes n ⊎ IsThrough bytes n
split_at text bytes zero e h = inl (no_bytes text bytes e)
split_at [] bytes (suc n) e h = absurd (omega (arith, h, ap length (none_left bytes e)))
split_at (x ∷ text) bytes (suc n) e h = by_code (λ more k g i. split_at text more k g i) n h (first_code bytes x (map Some text) e) where
  by_code : ((more : List ℕ) (k : ℕ) → AreCodes text more → k ≤ length more → IsSplit text more k ⊎ IsThrough more k) → (n : ℕ) → suc n ≤ length bytes → IsFirst bytes x (map Some text) → IsSplit (x ∷ text) bytes (suc n) ⊎ IsThrough bytes (suc n)
  by_code ih n h (IsFirst.Single b more j own after) = elim (ih more n after (omega (arith, h, ap length j))) [
    | inl s ↦ inl (with_single b x more text bytes n j own s)
    | inr t ↦
        inr (record {
          us = b ∷ t.us;
          vs = t.vs;
          joined = ap stand_in j ∙ stand_single b more (single_plain b x own) ∙ ap (λ (z : List ℕ). b ∷ z) t.joined;
          length = omega (arith, t.length);
        })
  ]
  by_code ih zero h (IsFirst.Pair b c more j lead own after) = inr (record { us = []; vs = stand_in more; joined = ap stand_in j ∙ stand_pair b c more lead; length = refl })
  by_code ih (suc n) h (IsFirst.Pair b c more j lead own after) = elim (ih more n after (omega (arith, h, ap length j))) [
    | inl s ↦ inl (with_pair b c x more text bytes n j lead own s)
    | inr t ↦
        inr (record {
          us = 0x81 ∷ 0xFC ∷ t.us;
          vs = t.vs;
          joined = ap stand_in j ∙ stand_pair b c more lead ∙ ap (λ (z : List ℕ). 0x81 ∷ 0xFC ∷ z) t.joined;
          length = omega (arith, t.length);
        })
  ]

-- those that Kanji mode can write end a code
kanji_split : (text bytes : List ℕ) (n : ℕ) → AreCodes text bytes → n ≤ length bytes → are_kanji (take n (stand_in bytes)) ≡ true → IsSplit text bytes n
kanji_split text bytes zero e h w = no_bytes text bytes e
kanji_split [] bytes (suc n) e h w = absurd (omega (arith, h, ap length (none_left bytes e)))
kanji_split (x ∷ text) bytes (suc n) e h w = by_code (λ more k g i j. kanji_split text more k g i j) n h w (first_code bytes x (map Some text) e) where
  by_code : ((more : List ℕ) (k : ℕ) → AreCodes text more → k ≤ length more → are_kanji (take k (stand_in more)) ≡ true → IsSplit text more k) → (n : ℕ) → suc n ≤ length bytes → are_kanji (take (suc n) (stand_in bytes)) ≡ true → IsFirst bytes x (map Some text) → IsSplit (x ∷ text) bytes (suc n)
  by_code ih n h w (IsFirst.Single b more j own after) =
      let plain = single_plain b x own in
      let same = ap (λ (z : List ℕ). are_kanji (take (suc n) (stand_in z))) j ∙ ap (λ (z : List ℕ). are_kanji (take (suc n) z)) (stand_single b more plain) in
      absurd (true≢false (sym w ∙ same ∙ no_pairs b (take n (stand_in more)) plain))
  by_code ih zero h w (IsFirst.Pair b c more j lead own after) =
      let same = ap (λ (z : List ℕ). are_kanji (take 1 (stand_in z))) j ∙ ap (λ (z : List ℕ). are_kanji (take 1 z)) (stand_pair b c more lead) in
      absurd (true≢false (sym w ∙ same))
  by_code ih (suc n) h w (IsFirst.Pair b c more j lead own after) =
      let same : are_kanji (take (suc (suc n)) (stand_in bytes)) ≡ (is_kanji 0x81 0xFC && are_kanji (take n (stand_in more))) =
      ap (λ (z : List ℕ). are_kanji (take (suc (suc n)) (stand_in z))) j ∙ ap (λ (z : List ℕ). are_kanji (take (suc (suc n)) z)) (stand_pair b c more lead) in
      with_pair b c x more text bytes n j lead own
      (ih more n after (omega (arith, h, ap length j)) (and_parts (is_kanji 0x81 0xFC) (are_kanji (take n (stand_in more))) (sym same ∙ w)).1)

regroup : (us vs : List ℕ) → us ++ (0x81 ∷ 0xFC ∷ vs) ≡ (us ++ (0x81 ∷ [])) ++ (0xFC ∷ vs)
regroup us vs = sym (append_assoc us (0x81 ∷ []) (0xFC ∷ vs))

front_is : (bytes : List ℕ) (n : ℕ) (h : IsThrough bytes n) → take n (stand_in bytes) ≡ h.us ++ (0x81 ∷ [])
front_is bytes n h = ap (take n) (h.joined ∙ regroup h.us h.vs) ∙ take_at (h.us ++ (0x81 ∷ [])) (0xFC ∷ h.vs) n (omega (arith, length-append h.us (0x81 ∷ []), h.length))

last_passes : (p : ℕ → Bool) (us vs : List ℕ) (b : ℕ) → list_all p (us ++ (b ∷ vs)) ≡ true → p b ≡ true
last_passes p [] vs b h = (and_parts (p b) (list_all p vs) h).0
last_passes p (u ∷ us) vs b h = last_passes p us vs b (and_parts (p u) (list_all p (us ++ (b ∷ vs))) h).1

-- segments in other modes do not end within a code, nor begin there
ends : (m : Mode) (us : List ℕ) → ¬ (m ≡ Byte) → ¬ (m ≡ Kanji) → ¬ (can_write m (us ++ (0x81 ∷ [])) ≡ true)
ends Numeric us byte other w = true≢false (sym (last_passes is_digit us [] 0x81 w) ∙ digit_high 0x81 (omega arith))
ends Alphanumeric us byte other w = true≢false (sym (last_passes is_alphanumeric us [] 0x81 w) ∙ letter_high 0x81 (omega arith))
ends Byte us byte other w = byte refl
ends Kanji us byte other w = other refl

begins : (m : Mode) (vs : List ℕ) → ¬ (m ≡ Byte) → ¬ (can_write m (0xFC ∷ vs) ≡ true)
begins Numeric vs byte w = true≢false (sym (and_parts (is_digit 0xFC) (list_all is_digit vs) w).0 ∙ digit_high 0xFC (omega arith))
begins Alphanumeric vs byte w = true≢false (sym (and_parts (is_alphanumeric 0xFC) (list_all is_alphanumeric vs) w).0 ∙ letter_high 0xFC (omega arith))
begins Byte vs byte w = byte refl
begins Kanji vs byte w = true≢false (sym w ∙ no_pairs 0xFC vs refl)

is_kanji_mode : (m : Mode) → (m ≡ Kanji) ⊎ (¬ (m ≡ Kanji))
is_kanji_mode m = grind (arith, nat_tests)

-- ---- segments of the text
record IsWalked (bytes text : List ℕ) (ss : List Segment) : Type 0 where
  shown : ArePiecesShown ShiftJis (pieces_of bytes ss) text
  writable : AreWritable bytes ss

no_characters : (text : List ℕ) → AreCodes text [] → text ≡ []
no_characters [] e = refl
no_characters (x ∷ text) e = cc

module _ (bytes : List ℕ) where
  -- a segment in Byte mode that ends within a code has no next one
  next_through : (from : ℕ) (s : Segment) (ss : List Segment) (text : List ℕ) → AreCodes text (drop from bytes) → drop from (stand_in bytes) ≡ stand_in (drop from bytes) → Tile from (s ∷ ss) (length bytes)
      → AreWritable (stand_in bytes) (s ∷ ss) → Apart (s ∷ ss) → s.mode ≡ Byte → ¬ IsThrough (drop from bytes) (s.end - from)
  next_through from s [] text e same t w apart byte h =
      omega (arith, h.length, ap length h.joined, length-append h.us (0x81 ∷ 0xFC ∷ h.vs), stand_length text (drop from bytes) e, length-drop from bytes, t.0, t.1.0, t.1.1)
  next_through from s (u ∷ ss) text e same t w apart byte h =
      let d = drop from bytes in
      let n = s.end - from in
      let after = t.1.1 in
      let k = u.end - u.begin - 1 in
      let at : from + n ≡ u.begin = omega (arith, t.0, t.1.0, after.0) in
      let size : u.end - u.begin ≡ suc k = omega (arith, after.1.0) in
      let left : drop u.begin (stand_in bytes) ≡ 0xFC ∷ h.vs =
      ap (λ i. drop i (stand_in bytes)) (sym at) ∙ sym (drop-drop n from (stand_in bytes)) ∙ ap (drop n) (same ∙ h.joined ∙ regroup h.us h.vs)
      ∙ drop_at (h.us ++ (0x81 ∷ [])) (0xFC ∷ h.vs) n (omega (arith, length-append h.us (0x81 ∷ []), h.length)) in
      let chunk : slice_range (stand_in bytes) u.begin u.end ≡ 0xFC ∷ take k h.vs = ap (λ i. take i (drop u.begin (stand_in bytes))) size ∙ ap (take (suc k)) left in
      elim (is_byte u.mode) [
        | inl second ↦ apart.0 (byte, second)
        | inr narrow ↦ begins u.mode (take k h.vs) narrow (sym (ap (can_write u.mode) chunk) ∙ w.1.0)
      ]

  -- where the bytes of the first segment end
  first_end : (from : ℕ) (s : Segment) (ss : List Segment) (text : List ℕ) → AreCodes text (drop from bytes) → drop from (stand_in bytes) ≡ stand_in (drop from bytes) → Tile from (s ∷ ss) (length bytes)
      → AreWritable (stand_in bytes) (s ∷ ss) → Apart (s ∷ ss) → IsSplit text (drop from bytes) (s.end - from)
  first_end from s ss text e same t w apart =
      let d = drop from bytes in
      let n = s.end - from in
      let inside : n ≤ length d = omega (arith, length-drop from bytes, tile_le s.end ss (length bytes) t.1.1, t.0, t.1.0) in
      let own : slice_range (stand_in bytes) s.begin s.end ≡ take n (stand_in d) =
      ap (λ k. take (s.end - k) (drop k (stand_in bytes))) t.0 ∙ ap (take n) same in
      let can : can_write s.mode (take n (stand_in d)) ≡ true = sym (ap (can_write s.mode) own) ∙ w.0 in
      elim (is_kanji_mode s.mode) [
        | inl kanji ↦ kanji_split text d n e inside (subst (λ m. can_write m (take n (stand_in d)) ≡ true) kanji can)
        | inr other ↦ elim (split_at text d n e inside) [
          | inl found ↦ found
          | inr through ↦ elim (is_byte s.mode) [
            | inr narrow ↦ absurd (ends s.mode through.us narrow other (sym (ap (can_write s.mode) (front_is d n through)) ∙ can))
            | inl byte ↦ absurd (next_through from s ss text e same t w apart byte through)
          ]
        ]
      ]

  walk : (from : ℕ) (ss : List Segment) (text : List ℕ) → AreCodes text (drop from bytes) → drop from (stand_in bytes) ≡ stand_in (drop from bytes) → Tile from ss (length bytes)
      → AreWritable (stand_in bytes) ss → Apart ss → IsWalked bytes text ss
  walk from [] text e same t w apart =
      let none : drop from bytes ≡ [] = ap (λ k. drop k bytes) t ∙ drop_all (length bytes) bytes (omega arith) in
      record { shown = no_characters text (subst (AreCodes text) none e); writable = tt }
  walk from (s ∷ ss) text e same t w apart =
      let p = first_end from s ss text e same t w apart in
      let d = drop from bytes in
      let n = s.end - from in
      let at : from + n ≡ s.end = omega (arith, t.0, t.1.0) in
      let chunk : slice_range bytes s.begin s.end ≡ p.xs = ap (λ k. take (s.end - k) (drop k bytes)) t.0 ∙ ap (take n) p.joined ∙ take_at p.xs p.ys n p.length in
      let left : drop s.end bytes ≡ p.ys = ap (λ k. drop k bytes) (sym at) ∙ sym (drop-drop n from bytes) ∙ ap (drop n) p.joined ∙ drop_at p.xs p.ys n p.length in
      let stood : stand_in d ≡ stand_in p.xs ++ stand_in p.ys = ap stand_in p.joined ∙ stand_both p.first p.xs p.ys p.own in
      let long : length (stand_in p.xs) ≡ n = stand_length p.first p.xs p.own ∙ p.length in
      let stand_chunk : slice_range (stand_in bytes) s.begin s.end ≡ stand_in p.xs =
      ap (λ k. take (s.end - k) (drop k (stand_in bytes))) t.0 ∙ ap (take n) (same ∙ stood) ∙ take_at (stand_in p.xs) (stand_in p.ys) n long in
      let stand_left : drop s.end (stand_in bytes) ≡ stand_in p.ys =
      ap (λ k. drop k (stand_in bytes)) (sym at) ∙ sym (drop-drop n from (stand_in bytes)) ∙ ap (drop n) (same ∙ stood) ∙ drop_at (stand_in p.xs) (stand_in p.ys) n long in
      let rest = walk s.end ss p.rest (subst (AreCodes p.rest) (sym left) p.after) (stand_left ∙ ap stand_in (sym left)) t.1.1 w.1 (apart_rest s ss apart) in
      record {
        shown = (p.first, p.rest, (p.parted, (record { mode = all_among s.mode; written = subst (AreCodes p.first) (sym chunk) p.own }, rest.shown)));
        writable = (ap (can_write s.mode) chunk ∙ write_same s.mode p.first p.xs p.own ∙ sym (ap (can_write s.mode) stand_chunk) ∙ w.0, rest.writable);
      }

pub stand_in_best : (v : Version) (text bytes : List ℕ) (ss : List Segment) → IsWritten ShiftJis text bytes → IsLeastCutIn all_modes v (stand_in bytes) ss → IsBestCut ShiftJis v bytes ss
stand_in_best v text bytes ss w least =
    let cut = least.reached.cut in
    let tiles = subst (Tile 0 ss) (stand_length text bytes w) cut.tiles in
    let walked = λ (other : List ℕ) (is : AreCodes other bytes). walk bytes 0 ss other is refl tiles cut.writable (least_apart all_modes refl v (stand_in bytes) ss least) in
    record {
      cut = record { tiles = tiles; modes = cut.modes; writable = (walked text w).writable };
      laid = least.reached;
      shown = λ other is. (walked other is).shown;
      least = least.least;
    }

pub stand_ins_best : {V : Type 0} (items : V → List Segment) (v : Version) (text bytes : List ℕ) (r : Result V QrError) → IsWritten ShiftJis text bytes → IfOk r (λ x. IsLeastCutIn all_modes v (stand_in bytes) (items x))
    → IfOk r (λ x. IsBestCut ShiftJis v bytes (items x))
stand_ins_best items v text bytes (Ok x) w least = stand_in_best v text bytes _ w least
stand_ins_best items v text bytes (Err e) w least = tt

-- ---- memory may run out
-- one segment of all bytes, or none if there are no bytes
abbrev as_one : List ℕ → List Segment
as_one [] = []
as_one (b ∷ bytes) = record { mode = Byte; begin = 0; end = length (b ∷ bytes) } ∷ []

has_byte_mode : (v : Version) → IsTrue (has_front v ShiftJis) → IsTrue (has_mode v Byte)
has_byte_mode v h = grind (arith, nat_tests)

memory_only : {A : Type 0} (r : Result A QrError) → IsOkUnless r OutOfMemory → IfErr r (λ e. (e ≡ UnsupportedCharacterSet) ⊎ (e ≡ OutOfMemory))
memory_only (Ok x) h = tt
memory_only (Err e) h = inr h

any_cut : (v : Version) (bytes : List ℕ) → IsTrue (has_mode v Byte) → can_write Byte bytes ≡ true → IsCutIn all_modes v bytes (as_one bytes)
any_cut v [] has can = record { cut = record { tiles = refl; modes = tt; writable = tt }; among = tt }
any_cut v (b ∷ bytes) has can =
    let every = b ∷ bytes in
    let same : slice_range every 0 (length every) ≡ every = take_all (length every - 0) every (omega arith) in
    record { cut = record { tiles = (refl, (omega arith, refl)); modes = (has, tt); writable = (ap (can_write Byte) same ∙ can, tt) }; among = (refl, tt) }

pub stand_needs : {A : Type 0} (v : Version) (text bytes : List ℕ) (r : Result A QrError) → IsTrue (has_front v ShiftJis) → IsWritten ShiftJis text bytes → IsOkUnless r OutOfMemory
    → NeedsCut (IsCutIn all_modes v (stand_in bytes)) r
stand_needs v text bytes r has w memory = record {
  no_cut = λ none. absurd (none (as_one (stand_in bytes)) (any_cut v (stand_in bytes) (has_byte_mode v has) (bytes_same text bytes w).1));
  accepts = λ ss cut. memory;
  causes = memory_only r memory;
}
