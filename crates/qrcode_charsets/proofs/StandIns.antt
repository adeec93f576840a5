-- Segments of Shift JIS, found in bytes that stand in for it.
use Rattle.std.proofs.Common.{◌≡◌, ◌⊎◌, ℕ, ◌+◌, ◌^◌, ◌<◌, ◌≤◌, nat_lt, Bool, true, false, ◌&&◌, ◌||◌, List, [], ◌∷◌, ◌++◌, length, drop, get_or, length-append, Some, refl, sym, ap, ap₂, subst, ◌∙◌, arith, inl, inr, true≢false, add-one, drop-cons}
use Rattle.std.specs.Prelude.{map}
use Rattle.std.specs.List.{AllByRecursion, list_all}
use Rattle.std.proofs.lemmas.Bool.{cases_lt, lt-ltb, lt-leb, le-leb, ne_eqb, cond-true, cond-false}
use Rattle.std.proofs.lemmas.List.{drop_all}
use Rattle.std.proofs.lemmas.Bool.Decides.{nat_tests}
use Rattle.qrcode_types.specs.Characters.{is_between, is_digit, is_alphanumeric, is_lead, is_kanji, are_kanji, can_write, character_count}
use Rattle.qrcode_types.specs.Modes.{length_bits_count}
use Rattle.qrcode_types.specs.declared.types.Mode.{Mode}
use Rattle.qrcode_types.specs.declared.types.Mode.TheVariants.{Numeric, Alphanumeric, Byte, Kanji}
use Rattle.qrcode_types.specs.declared.types.Version.{Version}
use Rattle.qrcode_bits.specs.Cuts.{IsCutIn}
use Rattle.qrcode_bits.specs.ModeSets.{is_among, all_modes}
use Rattle.qrcode_bits.specs.Segments.{cost_of, total_cost}
use Rattle.qrcode_bits.specs.Spelling.{IsReadable}
use Rattle.qrcode_bits.specs.Written.{Piece, written_piece, written}
use Rattle.qrcode_bits.specs.declared.optimize.Segment.{Segment}
use Rattle.qrcode_bits.proofs.Lengths.{length-piece}
use Rattle.qrcode_bits.proofs.TokenKinds.{alphanumeric_low}
use Rattle.qrcode_charsets.specs.Charsets.{IsWritten}
use Rattle.qrcode_charsets.specs.Laid.{cut_bytes}
use Rattle.qrcode_charsets.specs.ShiftJis.{pair_character, stand_in}
use Rattle.qrcode_charsets.specs.Shown.{ArePiecesShown}
use Rattle.qrcode_charsets.specs.declared.sets.Charset.{Charset}
use Rattle.qrcode_charsets.specs.declared.sets.Charset.TheVariants.{Unmarked, Utf8, OneByte, ShiftJis}
use Rattle.qrcode_charsets.proofs.Cuts.{chunks, AreOf, pieces_cut}
use Rattle.qrcode_charsets.proofs.PairCodes.{AreCodes, IsFirst, first_code, none_left, single_is, single_plain, pair_is, IsSingle}
use Rattle.qrcode_charsets.proofs.PairTable.{lead_range, no_row}

-- ---- code by code
pub stand_single : (b : ℕ) (more : List ℕ) → is_lead b ≡ false → stand_in (b ∷ more) ≡ b ∷ stand_in more
stand_single b [] plain = refl
stand_single b (c ∷ more) plain = cond-false (is_lead b) _ _ plain

pub stand_pair : (b c : ℕ) (more : List ℕ) → is_lead b ≡ true → stand_in (b ∷ c ∷ more) ≡ 0x81 ∷ 0xFC ∷ stand_in more
stand_pair b c more lead = cond-true (is_lead b) _ _ lead

pub stand_both : (text xs ys : List ℕ) → AreCodes text xs → stand_in (xs ++ ys) ≡ stand_in xs ++ stand_in ys
stand_both [] xs ys e = let none = none_left xs e in ap (λ (z : List ℕ). stand_in (z ++ ys)) none ∙ sym (ap (λ (z : List ℕ). stand_in z ++ stand_in ys) none)
stand_both (x ∷ text) xs ys e = by_code (λ more h. stand_both text more ys h) (first_code xs x (map Some text) e) where
  by_code : ((more : List ℕ) → AreCodes text more → stand_in (more ++ ys) ≡ stand_in more ++ stand_in ys) → IsFirst xs x (map Some text) → stand_in (xs ++ ys) ≡ stand_in xs ++ stand_in ys
  by_code ih (IsFirst.Single b more j own after) =
      let plain = single_plain b x own in
      ap (λ (z : List ℕ). stand_in (z ++ ys)) j ∙ stand_single b (more ++ ys) plain ∙ ap (λ (z : List ℕ). b ∷ z) (ih more after)
      ∙ sym (ap (λ (z : List ℕ). stand_in z ++ stand_in ys) j ∙ ap (λ (z : List ℕ). z ++ stand_in ys) (stand_single b more plain))
  by_code ih (IsFirst.Pair b c more j lead own after) =
      ap (λ (z : List ℕ). stand_in (z ++ ys)) j ∙ stand_pair b c (more ++ ys) lead ∙ ap (λ (z : List ℕ). 0x81 ∷ 0xFC ∷ z) (ih more after)
      ∙ sym (ap (λ (z : List ℕ). stand_in z ++ stand_in ys) j ∙ ap (λ (z : List ℕ). z ++ stand_in ys) (stand_pair b c more lead))

pub stand_length : (text xs : List ℕ) → AreCodes text xs → length (stand_in xs) ≡ length xs
stand_length [] xs e = let none = none_left xs e in ap (λ (z : List ℕ). length (stand_in z)) none ∙ sym (ap length none)
stand_length (x ∷ text) xs e = by_code (λ more h. stand_length text more h) (first_code xs x (map Some text) e) where
  by_code : ((more : List ℕ) → AreCodes text more → length (stand_in more) ≡ length more) → IsFirst xs x (map Some text) → length (stand_in xs) ≡ length xs
  by_code ih (IsFirst.Single b more j own after) =
      let s = ap (λ (z : List ℕ). length (stand_in z)) j ∙ ap (length {A = ℕ}) (stand_single b more (single_plain b x own)) in
      omega (arith, s, ap length j, ih more after)
  by_code ih (IsFirst.Pair b c more j lead own after) =
      let s = ap (λ (z : List ℕ). length (stand_in z)) j ∙ ap (length {A = ℕ}) (stand_pair b c more lead) in
      omega (arith, s, ap length j, ih more after)

pub length-cut_bytes : (c : Charset) (text bytes : List ℕ) → IsWritten c text bytes → length (cut_bytes c bytes) ≡ length bytes
length-cut_bytes Unmarked text bytes w = refl
length-cut_bytes Utf8 text bytes w = refl
length-cut_bytes (OneByte p) text bytes w = refl
length-cut_bytes ShiftJis text bytes w = stand_length text bytes w

-- ---- what a mode can write
lead_high : (b : ℕ) → is_lead b ≡ true → 128 ≤ b
lead_high b lead = elim (lead_range b lead) [ inl low ↦ omega (arith, low.0) | inr high ↦ omega (arith, high.0) ]

-- a test that only bytes of ASCII pass
all_same : (p : ℕ → Bool) → ((b : ℕ) → 128 ≤ b → p b ≡ false) → (text xs : List ℕ) → AreCodes text xs → list_all p xs ≡ list_all p (stand_in xs)
all_same p high [] xs e = let none = none_left xs e in ap (list_all p) none ∙ sym (ap (λ (z : List ℕ). list_all p (stand_in z)) none)
all_same p high (x ∷ text) xs e = by_code (λ more h. all_same p high text more h) (first_code xs x (map Some text) e) where
  by_code : ((more : List ℕ) → AreCodes text more → list_all p more ≡ list_all p (stand_in more)) → IsFirst xs x (map Some text) → list_all p xs ≡ list_all p (stand_in xs)
  by_code ih (IsFirst.Single b more j own after) =
      ap (list_all p) j ∙ ap (λ t. p b && t) (ih more after) ∙ sym (ap (λ (z : List ℕ). list_all p (stand_in z)) j ∙ ap (list_all p) (stand_single b more (single_plain b x own)))
  by_code ih (IsFirst.Pair b c more j lead own after) =
      ap (list_all p) j ∙ ap (λ t. t && list_all p (c ∷ more)) (high b (lead_high b lead))
      ∙ sym (ap (λ (z : List ℕ). list_all p (stand_in z)) j ∙ ap (list_all p) (stand_pair b c more lead) ∙ ap (λ t. t && list_all p (0xFC ∷ stand_in more)) (high 0x81 (omega arith)))

pub digit_high : (b : ℕ) → 128 ≤ b → is_digit b ≡ false
digit_high b h = rw (le-leb 48 b (omega (arith, h)), lt-leb b 57 (omega (arith, h))) refl

pub letter_high : (b : ℕ) → 128 ≤ b → is_alphanumeric b ≡ false
letter_high b h = by_value (is_alphanumeric b) refl where
  by_value : (t : Bool) → is_alphanumeric b ≡ t → is_alphanumeric b ≡ false
  by_value true e = absurd (omega (arith, h, alphanumeric_low b e))
  by_value false e = e

pub bytes_same : (text xs : List ℕ) → AreCodes text xs → (can_write Byte xs ≡ true) × (can_write Byte (stand_in xs) ≡ true)
bytes_same [] xs e = let none = none_left xs e in (ap (can_write Byte) none, ap (λ (z : List ℕ). can_write Byte (stand_in z)) none)
bytes_same (x ∷ text) xs e = by_code (λ more h. bytes_same text more h) (first_code xs x (map Some text) e) where
  small : (b : ℕ) → b < 256 → nat_lt b 256 ≡ true
  small b h = lt-ltb b 256 h

  single_small : (b : ℕ) → IsSingle b x → b < 256
  single_small b h = grind (arith, nat_tests)

  lead_small : (b : ℕ) → is_lead b ≡ true → b < 256
  lead_small b lead = elim (lead_range b lead) [ inl low ↦ omega (arith, low.1) | inr high ↦ omega (arith, high.1) ]

  by_code : ((more : List ℕ) → AreCodes text more → (can_write Byte more ≡ true) × (can_write Byte (stand_in more) ≡ true)) → IsFirst xs x (map Some text) → (can_write Byte xs ≡ true) × (can_write Byte (stand_in xs) ≡ true)
  by_code ih (IsFirst.Single b more j own after) =
      let r = ih more after in
      let s = small b (single_small b (single_is b x own)) in (
        ap (can_write Byte) j ∙ ap₂ ◌&&◌ s r.0,
        ap (λ (z : List ℕ). can_write Byte (stand_in z)) j ∙ ap (can_write Byte) (stand_single b more (single_plain b x own)) ∙ ap₂ ◌&&◌ s r.1,
      )
  by_code ih (IsFirst.Pair b c more j lead own after) =
      let r = ih more after in (
        ap (can_write Byte) j ∙ ap₂ ◌&&◌ (small b (lead_small b lead)) (ap₂ ◌&&◌ (small c (omega (arith, (pair_is b c x own).most))) r.0),
        ap (λ (z : List ℕ). can_write Byte (stand_in z)) j ∙ ap (can_write Byte) (stand_pair b c more lead) ∙ r.1,
      )

-- a byte that is no lead begins no pairs
pub no_pairs : (b : ℕ) (ys : List ℕ) → is_lead b ≡ false → are_kanji (b ∷ ys) ≡ false
unfolding is_kanji
no_pairs b [] plain = refl
no_pairs b (c ∷ ys) plain = by_range (cases_lt b 0x81) where
  not_lead : is_lead b ≡ true → ⊥
  not_lead e = true≢false (sym e ∙ plain)

  by_range : (b < 0x81) ⊎ (0x81 ≤ b) → are_kanji (b ∷ c ∷ ys) ≡ false
  by_range (inl low) = rw (lt-leb 0x81 b low, lt-leb 0xE0 b (omega (arith, low)), ne_eqb b 0xEB (λ e. omega (arith, e, low))) refl
  by_range (inr some) = elim (cases_lt 0x9F b) [
    | inr small ↦ absurd (not_lead (rw (le-leb 0x81 b some, le-leb b 0x9F small) refl))
    | inl large ↦ elim (cases_lt b 0xE0) [
      | inl below ↦ rw (le-leb 0x81 b some, lt-leb b 0x9F large, lt-leb 0xE0 b below, ne_eqb b 0xEB (λ e. omega (arith, e, below))) refl
      | inr from ↦ elim (cases_lt 0xEB b) [
        | inr within ↦ absurd (not_lead (rw (le-leb 0x81 b some, lt-leb b 0x9F large, le-leb 0xE0 b from, le-leb b 0xEB within) refl))
        | inl above ↦ rw (le-leb 0x81 b some, lt-leb b 0x9F large, le-leb 0xE0 b from, lt-leb b 0xEA (omega (arith, above)), ne_eqb b 0xEB (λ e. omega (arith, e, above))) refl
      ]
    ]
  ]

-- Kanji mode can write each pair
pair_kanji : (b c x : ℕ) → is_lead b ≡ true → pair_character b c ≡ Some x → is_kanji b c ≡ true
unfolding is_kanji
pair_kanji b c x lead own =
    let p = pair_is b c x own in
    let second : (is_between 0x40 0x7E c || is_between 0x80 0xFC c) ≡ true = trail_is c p.trail p.most p.column in
    elim (lead_range b lead) [
      | inl low ↦ rw (le-leb 0x81 b low.0, le-leb b 0x9F low.1, second) refl
      | inr high ↦ elim (cases_lt 0xEA b) [
        | inl top ↦ absurd (no_row b c x own (omega (arith, top, high.1)))
        | inr within ↦ rw (le-leb 0x81 b (omega (arith, high.0)), lt-leb b 0x9F (omega (arith, high.0)), le-leb 0xE0 b high.0, le-leb b 0xEA within, second) refl
      ]
    ]
  where
    trail_is : (c : ℕ) → 0x40 ≤ c → c ≤ 0xFC → ¬ (c ≡ 0x7F) → (is_between 0x40 0x7E c || is_between 0x80 0xFC c) ≡ true
    trail_is c low most hole = elim (cases_lt 0x7E c) [
      | inr small ↦ rw (le-leb 0x40 c low, le-leb c 0x7E small) refl
      | inl large ↦ rw (le-leb 0x40 c low, lt-leb c 0x7E large, le-leb 0x80 c (omega (arith, large, hole)), le-leb c 0xFC most) refl
    ]

pairs_same : (text xs : List ℕ) → AreCodes text xs → are_kanji xs ≡ are_kanji (stand_in xs)
unfolding is_kanji
pairs_same [] xs e = let none = none_left xs e in ap are_kanji none ∙ sym (ap (λ (z : List ℕ). are_kanji (stand_in z)) none)
pairs_same (x ∷ text) xs e = by_code (λ more h. pairs_same text more h) (first_code xs x (map Some text) e) where
  by_code : ((more : List ℕ) → AreCodes text more → are_kanji more ≡ are_kanji (stand_in more)) → IsFirst xs x (map Some text) → are_kanji xs ≡ are_kanji (stand_in xs)
  by_code ih (IsFirst.Single b more j own after) =
      let plain = single_plain b x own in
      ap are_kanji j ∙ no_pairs b more plain ∙ sym (ap (λ (z : List ℕ). are_kanji (stand_in z)) j ∙ ap are_kanji (stand_single b more plain) ∙ no_pairs b (stand_in more) plain)
  by_code ih (IsFirst.Pair b c more j lead own after) =
      ap are_kanji j ∙ ap₂ ◌&&◌ (pair_kanji b c x lead own) (ih more after)
      ∙ sym (ap (λ (z : List ℕ). are_kanji (stand_in z)) j ∙ ap are_kanji (stand_pair b c more lead))

pub write_same : (m : Mode) (text xs : List ℕ) → AreCodes text xs → can_write m xs ≡ can_write m (stand_in xs)
write_same Numeric text xs e = all_same is_digit digit_high text xs e
write_same Alphanumeric text xs e = all_same is_alphanumeric letter_high text xs e
write_same Byte text xs e = let r = bytes_same text xs e in r.0 ∙ sym r.1
write_same Kanji text xs e = pairs_same text xs e

-- ---- pieces of a text are a cut of the bytes in its place
stand_piece : Piece → Piece
stand_piece p = record { mode = p.mode; chunk = stand_in p.chunk }

record AreStood (v : Version) (text : List ℕ) (ps : List Piece) : Type 0 where
  readable : AllByRecursion (IsReadable v) (map stand_piece ps)
  modes : AreOf all_modes (map stand_piece ps)
  joined : chunks (map stand_piece ps) ≡ stand_in (chunks ps)
  length : length (written v (map stand_piece ps)) ≡ length (written v ps)

pub all_among : (m : Mode) → is_among all_modes m ≡ true
all_among m = grind (arith, nat_tests)

stood : (v : Version) (text : List ℕ) (ps : List Piece) → AllByRecursion (IsReadable v) ps → ArePiecesShown ShiftJis ps text → AreStood v text ps
unfolding stand_piece
stood v text [] h shown = record { readable = tt; modes = tt; joined = refl; length = refl }
stood v text (p ∷ ps) h shown =
    let first = shown.0 in
    let own = shown.2.1.0.written in
    let rest = stood v shown.1 ps h.1 shown.2.1.1 in
    let same : length (stand_in p.chunk) ≡ length p.chunk = stand_length first p.chunk own in
    let piece : length (written_piece v (stand_piece p)) ≡ length (written_piece v p) =
    length-piece v (stand_piece p) ∙ ap (λ n. cost_of v p.mode (character_count p.mode n)) same ∙ sym (length-piece v p) in
    record {
      readable = (
        record {
          mode_exists = h.0.mode_exists;
          writable = sym (write_same p.mode first p.chunk own) ∙ h.0.writable;
          counted = subst (λ n. character_count p.mode n < 2 ^ length_bits_count p.mode v) (sym same) h.0.counted;
        },
        rest.readable,
      );
      modes = (all_among p.mode, rest.modes);
      joined = ap (λ (z : List ℕ). stand_in p.chunk ++ z) rest.joined ∙ sym (stand_both first p.chunk (chunks ps) own);
      length = omega (arith, piece, rest.length, length-append (written_piece v (stand_piece p)) (written v (map stand_piece ps)), length-append (written_piece v p) (written v ps));
    }

pub stand_in_cut : (v : Version) (text : List ℕ) (ps : List Piece) → AllByRecursion (IsReadable v) ps → ArePiecesShown ShiftJis ps text
    → (segments : List Segment) × (IsCutIn all_modes v (stand_in (chunks ps)) segments × (total_cost v segments ≤ length (written v ps)))
stand_in_cut v text ps h shown =
    let s = stood v text ps h shown in
    let made = pieces_cut all_modes v (map stand_piece ps) s.readable s.modes in
    (made.0, (subst (λ b. IsCutIn all_modes v b made.0) s.joined made.1.0, omega (arith, made.1.1, s.length)))

drop_one : (bytes : List ℕ) (i : ℕ) → i < length bytes → drop i bytes ≡ get_or bytes i 0 ∷ drop (i + 1) bytes
drop_one bytes i inside = rw (add-one, drop-cons bytes i 0 inside) refl

-- what stands in for the bytes from a place on
pub next_pair : (bytes : List ℕ) (i : ℕ) → i + 1 < length bytes → is_lead (get_or bytes i 0) ≡ true → stand_in (drop i bytes) ≡ 0x81 ∷ 0xFC ∷ stand_in (drop (i + 2) bytes)
next_pair bytes i inside lead =
    let first = drop_one bytes i (omega (arith, inside)) in
    let second = drop_one bytes (i + 1) inside in
    let two : i + 1 + 1 ≡ i + 2 = omega arith in
    ap stand_in (first ∙ ap (λ (x : List ℕ). get_or bytes i 0 ∷ x) (second ∙ ap (λ k. get_or bytes (i + 1) 0 ∷ drop k bytes) two)) ∙ stand_pair (get_or bytes i 0) (get_or bytes (i + 1) 0) (drop (i + 2) bytes) lead

pub next_single : (bytes : List ℕ) (i : ℕ) → i < length bytes → is_lead (get_or bytes i 0) ≡ false ⊎ (i + 1 ≡ length bytes) → stand_in (drop i bytes) ≡ get_or bytes i 0 ∷ stand_in (drop (i + 1) bytes)
next_single bytes i inside h =
    let first = drop_one bytes i inside in
    elim h [
      | inl plain ↦ ap stand_in first ∙ stand_single (get_or bytes i 0) (drop (i + 1) bytes) plain
      | inr last ↦
          let none : drop (i + 1) bytes ≡ [] = drop_all (i + 1) bytes (omega (arith, last)) in
          ap stand_in (first ∙ ap (λ (x : List ℕ). get_or bytes i 0 ∷ x) none) ∙ sym (ap (λ (x : List ℕ). get_or bytes i 0 ∷ stand_in x) none)
    ]
