-- The runs cover the bytes, and each mode can write its run.
use Rattle.std.proofs.Common.{◌≡◌, ℕ, ◌+◌, ◌-◌, ◌<◌, Bool, true, false, List, [], ◌∷◌, ◌++◌, length, take, drop, refl, sym, ◌∙◌, ap, subst, cond, arith, length-append, append_assoc}
use Rattle.std.proofs.lemmas.Bool.{lt-ltb}
use Rattle.std.specs.Prelude.{nat_lt}
use Rattle.std.proofs.lemmas.List.{append-nil}
use Rattle.std.proofs.Math.Seq.{take-append_seam, drop-append_seam}
use Rattle.std.proofs.lemmas.Bool.Decides.{nat_tests}
use Rattle.qrcode_types.specs.declared.types.Mode.{Mode}
use Rattle.qrcode_types.specs.Bits.{AreBytes}
use Rattle.qrcode_types.specs.Characters.{is_digit, is_alphanumeric, is_lead, is_kanji, can_write}
use Rattle.qrcode_bits.specs.declared.optimize.Segment.{Segment}
use Rattle.qrcode_bits.specs.declared.optimize.Kind.{Kind}
use Rattle.qrcode_bits.specs.declared.optimize.Kind.TheVariants.{Pair, LoneLead, Digit, Letter, Other}
use Rattle.qrcode_bits.specs.Runs.{mode_of, width, single_kind, kinds, go_together, goes_on, first_from, runs_from, runs}
use Rattle.qrcode_bits.specs.Segments.{Tile}
use Rattle.qrcode_bits.proofs.RunSteps.{segment, together-same}
use Rattle.qrcode_bits.proofs.SegmentRanges.{write_none}
use Rattle.qrcode_bits.proofs.LeastCuts.{AreWritable}

-- the segments' bytes, joined, are the bytes, and each mode can write its own
abbrev pub Cuts : ℕ → List ℕ → List Segment → Type 0
Cuts place bytes [] = bytes ≡ []
Cuts place bytes (s ∷ ss) = (xs ys : List ℕ) × (bytes ≡ xs ++ ys) × (s.begin ≡ place) × (s.end ≡ place + length xs) × (0 < length xs) × (can_write s.mode xs ≡ true) × Cuts s.end ys ss

abbrev BeginsWith : Mode → List Segment → Type 0
BeginsWith m [] = ⊥
BeginsWith m (s ∷ ss) = s.mode ≡ m

begins-moved : (m : Mode) (place : ℕ) (ss : List Segment) → BeginsWith m ss → BeginsWith m (first_from place ss)
begins-moved m place [] h = h
begins-moved m place (s ∷ ss) h = h

begins-cases : (k : Kind) (place end : ℕ) (ss : List Segment) (on : Bool) → (on ≡ true → BeginsWith (mode_of k) ss) → BeginsWith (mode_of k) (cond on (first_from place ss) (segment k place end ∷ ss))
begins-cases k place end ss true h = begins-moved (mode_of k) place ss (h refl)
begins-cases k place end ss false h = refl

-- the first run has the mode of the first token
begins : (k : Kind) (place : ℕ) (ks : List Kind) → BeginsWith (mode_of k) (runs_from place (k ∷ ks))
begins k place [] = refl
begins k place (j ∷ js) = begins-cases k place (place + width k) (runs_from (place + width k) (j ∷ js)) (go_together k j) (λ e. subst (λ i. BeginsWith (mode_of i) (runs_from (place + width k) (j ∷ js))) (sym (together-same k j e)) (begins j (place + width k) js))

begins-on : (k : Kind) (place : ℕ) (ks : List Kind) → goes_on k ks ≡ true → BeginsWith (mode_of k) (runs_from place ks)
begins-on k place [] e = cc
begins-on k place (j ∷ js) e = subst (λ i. BeginsWith (mode_of i) (runs_from place (j ∷ js))) (sym (together-same k j e)) (begins j place js)

-- a mode that can write some bytes can also write a token of its kind before them
abbrev Writes : Kind → List ℕ → Type 0
Writes k token = (xs : List ℕ) → can_write (mode_of k) xs ≡ true → can_write (mode_of k) (token ++ xs) ≡ true

cuts-longer : (k : Kind) (place : ℕ) (token rest : List ℕ) (ss : List Segment) → Writes k token → length token ≡ width k → BeginsWith (mode_of k) ss → Cuts (place + width k) rest ss → Cuts place (token ++ rest) (first_from place ss)
cuts-longer k place token rest [] w n b h = absurd b
cuts-longer k place token rest (s ∷ ss) w n b (xs, ys, e, begin, end, some, valid, more) = (
  token ++ xs,
  ys,
  ap (λ l. token ++ l) e ∙ sym (append_assoc token xs ys),
  refl,
  omega (arith, end, n, length-append token xs),
  omega (arith, some, length-append token xs),
  subst (λ m. can_write m (token ++ xs) ≡ true) (sym b) (w xs (subst (λ m. can_write m xs ≡ true) b valid)),
  more,
)

cuts-alone : (k : Kind) (place : ℕ) (token rest : List ℕ) (ss : List Segment) → Writes k token → length token ≡ width k → 0 < width k → Cuts (place + width k) rest ss → Cuts place (token ++ rest) (segment k place (place + width k) ∷ ss)
cuts-alone k place token rest ss w n some h =
    (token, rest, refl, refl, omega (arith, n), omega (arith, n, some), subst (λ l. can_write (mode_of k) l ≡ true) (append-nil token) (w [] (write_none (mode_of k))), h)

width-some : (k : Kind) → 0 < width k
width-some k = grind (arith, nat_tests)

cuts-cases : (k : Kind) (place : ℕ) (token rest : List ℕ) (ss : List Segment) (on : Bool) → (on ≡ true → BeginsWith (mode_of k) ss) → Writes k token → length token ≡ width k → Cuts (place + width k) rest ss
    → Cuts place (token ++ rest) (cond on (first_from place ss) (segment k place (place + width k) ∷ ss))
cuts-cases k place token rest ss true b w n h = cuts-longer k place token rest ss w n (b refl) h
cuts-cases k place token rest ss false b w n h = cuts-alone k place token rest ss w n (width-some k) h

cuts-token : (k : Kind) (place : ℕ) (token rest : List ℕ) (ks : List Kind) → Writes k token → length token ≡ width k → Cuts (place + width k) rest (runs_from (place + width k) ks) → Cuts place (token ++ rest) (runs_from place (k ∷ ks))
cuts-token k place token rest ks w n h = cuts-cases k place token rest (runs_from (place + width k) ks) (goes_on k ks) (begins-on k (place + width k) ks) w n h

-- a single byte is written in its kind's mode
single-cases : (b : ℕ) (lead digit letter : Bool) → nat_lt b 256 ≡ true → is_digit b ≡ digit → is_alphanumeric b ≡ letter
    → Writes (cond lead LoneLead (cond digit Digit (cond letter Letter Other))) (b ∷ []) × (1 ≡ width (cond lead LoneLead (cond digit Digit (cond letter Letter Other))))
single-cases b true digit letter small d a = (λ xs h. rw small h, refl)
single-cases b false true letter small d a = (λ xs h. rw d h, refl)
single-cases b false false true small d a = (λ xs h. rw a h, refl)
single-cases b false false false small d a = (λ xs h. rw small h, refl)

abbrev single : (b : ℕ) → nat_lt b 256 ≡ true → Writes (single_kind b) (b ∷ []) × (1 ≡ width (single_kind b))
single b small = single-cases b (is_lead b) (is_digit b) (is_alphanumeric b) small refl refl

cuts-single : (place b : ℕ) (rest : List ℕ) (ks : List Kind) → nat_lt b 256 ≡ true → ((p : ℕ) → Cuts p rest (runs_from p ks)) → Cuts place (b ∷ rest) (runs_from place (single_kind b ∷ ks))
cuts-single place b rest ks small h = let w = single b small in cuts-token (single_kind b) place (b ∷ []) rest ks w.0 w.1 (h (place + width (single_kind b)))

cuts-pair : (place b c : ℕ) (rest : List ℕ) (ks : List Kind) → is_kanji b c ≡ true → Cuts (place + 2) rest (runs_from (place + 2) ks) → Cuts place (b ∷ c ∷ rest) (runs_from place (Pair ∷ ks))
cuts-pair place b c rest ks e h = cuts-token Pair place (b ∷ c ∷ []) rest ks (λ xs g. rw e g) refl h

cuts-two : (place b c : ℕ) (more : List ℕ) (pair : Bool) → is_kanji b c ≡ pair → nat_lt b 256 ≡ true → ((p : ℕ) → Cuts p more (runs_from p (kinds more))) → ((p : ℕ) → Cuts p (c ∷ more) (runs_from p (kinds (c ∷ more))))
    → Cuts place (b ∷ c ∷ more) (runs_from place (elim pair [ true ↦ Pair ∷ kinds more | false ↦ single_kind b ∷ kinds (c ∷ more) ]))
cuts-two place b c more true e small h g = cuts-pair place b c more (kinds more) e (h (place + 2))
cuts-two place b c more false e small h g = cuts-single place b (c ∷ more) (kinds (c ∷ more)) small g

-- the runs cut the bytes
pub runs-cut : (bytes : List ℕ) → AreBytes bytes → (place : ℕ) → Cuts place bytes (runs_from place (kinds bytes))
runs-cut [] h place = refl
runs-cut (b ∷ []) h place = cuts-single place b [] [] (lt-ltb b 256 h.0) (λ p. refl)
runs-cut (b ∷ c ∷ more) h place = cuts-two place b c more (is_kanji b c) refl (lt-ltb b 256 h.0) (runs-cut more h.1.1) (runs-cut (c ∷ more) h.1)

-- the runs tile the bytes
tile-cases : (k : Kind) (place to : ℕ) (ss : List Segment) (on : Bool) → (on ≡ true → BeginsWith (mode_of k) ss) → 0 < width k → Tile (place + width k) ss to → Tile place (cond on (first_from place ss) (segment k place (place + width k) ∷ ss)) to
tile-cases k place to [] true b w h = absurd (b refl)
tile-cases k place to (s ∷ ss) true b w h = (refl, (omega (arith, h.0, h.1.0), h.1.1))
tile-cases k place to ss false b w h = (refl, (omega (arith, w), h))

abbrev widths : List Kind → ℕ
widths [] = 0
widths (k ∷ ks) = width k + widths ks

kinds-tile : (place : ℕ) (ks : List Kind) → Tile place (runs_from place ks) (place + widths ks)
kinds-tile place [] = omega arith
kinds-tile place (k ∷ ks) =
    tile-cases k place (place + (width k + widths ks)) (runs_from (place + width k) ks) (goes_on k ks) (begins-on k (place + width k) ks) (width-some k)
    (subst (λ n. Tile (place + width k) (runs_from (place + width k) ks) n) (omega arith) (kinds-tile (place + width k) ks))

single-width : (lead digit letter : Bool) → width (cond lead LoneLead (cond digit Digit (cond letter Letter Other))) ≡ 1
single-width lead digit letter = grind (arith, nat_tests)

widths-two : (b c : ℕ) (more : List ℕ) (pair : Bool) → widths (kinds more) ≡ length more → widths (kinds (c ∷ more)) ≡ length (c ∷ more) → widths (elim pair [ true ↦ Pair ∷ kinds more | false ↦ single_kind b ∷ kinds (c ∷ more) ]) ≡ length (b ∷ c ∷ more)
widths-two b c more true h g = omega (arith, h)
widths-two b c more false h g = let w : width (single_kind b) ≡ 1 = single-width (is_lead b) (is_digit b) (is_alphanumeric b) in omega (arith, g, w)

widths-kinds : (bytes : List ℕ) → widths (kinds bytes) ≡ length bytes
widths-kinds [] = refl
widths-kinds (b ∷ []) = let w : width (single_kind b) ≡ 1 = single-width (is_lead b) (is_digit b) (is_alphanumeric b) in omega (arith, w)
widths-kinds (b ∷ c ∷ more) = widths-two b c more (is_kanji b c) (widths-kinds more) (widths-kinds (c ∷ more))

pub runs-tile : (place : ℕ) (bytes : List ℕ) → Tile place (runs_from place (kinds bytes)) (place + length bytes)
runs-tile place bytes = subst (λ n. Tile place (runs_from place (kinds bytes)) (place + n)) (widths-kinds bytes) (kinds-tile place (kinds bytes))

-- the same for bytes after others
pub valid-from-cuts : (before bytes : List ℕ) (ss : List Segment) → Cuts (length before) bytes ss → AreWritable (before ++ bytes) ss
valid-from-cuts before bytes [] h = tt
valid-from-cuts before bytes (s ∷ ss) (xs, ys, e, begin, end, some, valid, more) =
    let n : s.end - s.begin ≡ length xs = omega (arith, begin, end) in
    let after : drop s.begin (before ++ bytes) ≡ xs ++ ys = ap (λ m. drop m (before ++ bytes)) begin ∙ (ap (λ l. drop (length before) (before ++ l)) e ∙ drop-append_seam before (xs ++ ys)) in
    let part : take (s.end - s.begin) (drop s.begin (before ++ bytes)) ≡ xs = ap (λ m. take m (drop s.begin (before ++ bytes))) n ∙ (ap (λ l. take (length xs) l) after ∙ take-append_seam xs ys) in
    let place : s.end ≡ length (before ++ xs) = omega (arith, end, length-append before xs) in
    let whole : (before ++ xs) ++ ys ≡ before ++ bytes = append_assoc before xs ys ∙ ap (λ l. before ++ l) (sym e) in
    (subst (λ l. can_write s.mode l ≡ true) (sym part) valid, subst (λ l. AreWritable l ss) whole (valid-from-cuts (before ++ xs) ys ss (subst (λ m. Cuts m ys ss) place more)))

pub runs-valid : (bytes : List ℕ) → AreBytes bytes → AreWritable bytes (runs bytes)
runs-valid bytes h = valid-from-cuts [] bytes (runs bytes) (runs-cut bytes h 0)
