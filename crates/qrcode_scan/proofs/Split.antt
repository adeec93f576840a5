-- What follows a picture is the end of its file.
use Rattle.std.proofs.Common.{◌≡◌, ℕ, ◌+◌, ◌-◌, ◌*◌, ◌==◌, ◌&&◌, ◌||◌, nat_le, Bool, List, [], ◌∷◌, ◌++◌, true, false, if◌then◌else◌, not, arith, refl, sym, ap, ◌∙◌, drop, take, append_assoc, append-nil, length-append}
use Rattle.std.proofs.lemmas.List.{take-append-drop, length-take}
use Rattle.qrcode_types.specs.Characters.{is_digit}
use Rattle.qrcode_scan.specs.Heads.{after_space, digits_from, is_white, is_ended, sides_of, greatest_of, HasSides}
use Rattle.qrcode_scan.specs.Files.{bits_length}
use Rattle.qrcode_scan.specs.Several.{behind_plain, behind_raster, behind_figures, behind_bits, behind_greys, grey_length, has_sides, IsCut}

-- without width and height the test fails
pub no_sides : (file : List ℕ) → ¬ HasSides file → has_sides file ≡ false
no_sides file none = grind (arith, none)

abbrev pub EndsIn : List ℕ → List ℕ → Type 0  -- the bytes end in rest
EndsIn bytes rest = (before : List ℕ) × (bytes ≡ before ++ rest)

through : {a b c : List ℕ} → EndsIn a b → EndsIn b c → EndsIn a c
through {c} x y = (x.0 ++ y.0, x.1 ∙ ap (λ l. x.0 ++ l) y.1 ∙ sym (append_assoc x.0 y.0 c))

more : (c : ℕ) {a b : List ℕ} → EndsIn a b → EndsIn (c ∷ a) b
more c x = (c ∷ x.0, ap (λ l. c ∷ l) x.1)

whole : (a : List ℕ) → EndsIn a a
whole a = ([], refl)

nothing : (a : List ℕ) → EndsIn a []
nothing a = (a, sym (append-nil a))

dropped : (n : ℕ) (a : List ℕ) → EndsIn a (drop n a)
dropped n a = (take n a, sym (take-append-drop n a))

choice : (t : Bool) {a b c : List ℕ} → EndsIn a b → EndsIn a c → EndsIn a (if t then b else c)
choice true x y = x
choice false x y = y

space_ends : (within : Bool) (bytes : List ℕ) → EndsIn bytes (after_space within bytes)
unfolding after_space
space_ends within [] = whole []
space_ends true (c ∷ rest) = more c (space_ends (not (c == 10)) rest)
space_ends false (c ∷ rest) = choice (c == 35) (more c (space_ends true rest)) (choice (is_white c) (more c (space_ends false rest)) (whole (c ∷ rest)))

digits_end : (n : ℕ) (bytes : List ℕ) → EndsIn bytes (digits_from n bytes).1
unfolding digits_from
digits_end n [] = whole []
digits_end n (c ∷ rest) = elim (is_digit c) as (λ t. EndsIn (c ∷ rest) (if t then digits_from (10 * n + (c - 48)) rest else (n, c ∷ rest)).1) [
  | true ↦ more c (digits_end (10 * n + (c - 48)) rest)
  | false ↦ whole (c ∷ rest)
]

number_ends : (bytes : List ℕ) → EndsIn bytes (digits_from 0 (after_space false bytes)).1
number_ends bytes = through (space_ends false bytes) (digits_end 0 (after_space false bytes))

plain_ends : (count : ℕ) (bytes : List ℕ) → EndsIn bytes (behind_plain count bytes)
unfolding behind_plain
plain_ends count [] = whole []
plain_ends count (c ∷ rest) =
    choice (count == 0) (whole (c ∷ rest)) (choice (c == 48 || c == 49) (more c (plain_ends (count - 1) rest))
    (choice (is_white c) (more c (plain_ends count rest)) (nothing (c ∷ rest))))

raster_ends : (count : ℕ) (rest : List ℕ) → EndsIn rest (behind_raster count rest)
raster_ends count rest = choice (is_ended rest) (through (dropped 1 rest) (dropped count (drop 1 rest))) (nothing rest)

sides_end : (file : List ℕ) → EndsIn (drop 2 file) (sides_of file).2
sides_end file =
    let across = digits_from 0 (after_space false (drop 2 file)) in
    through (number_ends (drop 2 file)) (number_ends across.1)

spaced : {a b : List ℕ} → EndsIn a b → EndsIn a (after_space false b)
spaced {b} x = through x (space_ends false b)

pub figures_end : (file : List ℕ) → EndsIn (drop 2 file) (after_space false (behind_figures file))
figures_end file =
    let s = sides_of file in
    spaced (choice (has_sides file) (through (sides_end file) (plain_ends (s.0 * s.1) s.2)) (nothing (drop 2 file)))

pub bits_end : (file : List ℕ) → EndsIn (drop 2 file) (after_space false (behind_bits file))
bits_end file = spaced (choice (has_sides file) (through (sides_end file) (raster_ends (bits_length file) (sides_of file).2)) (nothing (drop 2 file)))

pub greys_end : (file : List ℕ) → EndsIn (drop 2 file) (after_space false (behind_greys file))
greys_end file =
    let s = sides_of file in
    let greatest = greatest_of file in
    let known = has_sides file && (nat_le 1 greatest.0 && nat_le greatest.0 65535) in
    spaced (choice known (through (sides_end file) (through (number_ends s.2) (raster_ends (s.0 * s.1 * grey_length greatest.0) greatest.1)))
    (nothing (drop 2 file)))

-- the file is cut before what a call returned
pub cut_as : (file behind found rest : List ℕ) → EndsIn (drop 2 file) (after_space false behind) → found ≡ behind → rest ≡ after_space false found → IsCut file rest
cut_as file behind found rest x is_behind is_rest =
    let first = take 2 file ++ x.0 in
    let ends = x.1 ∙ ap (λ l. x.0 ++ l) (sym (is_rest ∙ ap (after_space false) is_behind)) in (
      first,
      sym (take-append-drop 2 file) ∙ ap (λ l. take 2 file ++ l) ends ∙ sym (append_assoc (take 2 file) x.0 rest),
      λ some. omega (arith, some, length-append (take 2 file) x.0, length-take 2 file),
    )

-- or behind it
pub cut_behind : (file : List ℕ) → IsCut file []
cut_behind file = (file, sym (append-nil file), λ some. some)
