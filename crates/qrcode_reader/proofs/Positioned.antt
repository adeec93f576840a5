-- Squares in other positions.
use Rattle.std.proofs.Common.{◌≡◌, ◌≢◌, ◌+◌, ◌*◌, ◌/◌, ◌%◌, ◌<◌, ◌≤◌, ℕ, Bool, true, false, List, length, get_or, refl, sym, ap, subst, ◌∙◌, arith, IsTrue, if◌then◌else◌, inl, inr}
use Rattle.std.proofs.lemmas.Bool.{cases_order, cond_both}
use Rattle.std.proofs.lemmas.Bool.Decides.{nat_tests}
use Rattle.std.proofs.lemmas.List.FromFn.{fill_by_all, length-map-range_with_len}
use Rattle.std.proofs.lemmas.Nat.{div-add-mod'}
use Rattle.qrcode_types.specs.Versions.{is_valid, side}
use Rattle.qrcode_types.specs.declared.types.Version.{Version}
use Rattle.qrcode_types.specs.declared.types.EcLevel.{EcLevel}
use Rattle.qrcode_types.specs.declared.types.Color.{Color}
use Rattle.qrcode_types.specs.declared.types.Color.TheVariants.{Light}
use Rattle.qrcode_symbol.specs.Reading.{ReadsBits}
use Rattle.qrcode.specs.Reading.{Reads}
use Rattle.qrcode.proofs.Sides.{valid_of, same_version, same_root}
use Rattle.qrcode_reader.specs.Figures.{has_finders}
use Rattle.qrcode_reader.specs.Positions.{seen, seen_at, seen_color, nth_position, turn}
use Rattle.qrcode_reader.specs.declared.positions.Position.{Position}
use Rattle.qrcode_reader.specs.declared.positions.Position.TheVariants.{Upright, TurnedLeft, UpsideDown, TurnedRight, Mirrored, Flipped, Transposed, Antitransposed}

-- a square in another position has as many modules
pub length-seen : (w : ℕ) (p : Position) (is_inverted : Bool) (s : List Color) → length (seen w p is_inverted s) ≡ w * w
unfolding seen
length-seen w p is_inverted s = length-map-range_with_len (seen_at w p is_inverted s) 0 (w * w)

-- in any position a square decodes only in the version with its side
pub version_seen : (u v : Version) (l : EcLevel) (bits : List Bool) (p : Position) (is_inverted : Bool) (s : List Color) → IsTrue (is_valid u) → ReadsBits (seen (side u) p is_inverted s) v l bits → v ≡ u
version_seen u v l bits p is_inverted s valid q =
    same_version v u (valid_of v l q.exists) valid (same_root (side v) (side u) (sym q.square ∙ length-seen (side u) p is_inverted s))

-- each turn belongs to one position
turn_number : (has : Bool) (n at : ℕ) → n < 16 → (if has then n else n + 16) ≡ at → at % 16 ≡ n
turn_number has n at below e = grind (arith, nat_tests)

-- the positions before turn t + 1 are those before turn t and the one whose turn t is
pub turns_more : (v : Version) (w : ℕ) (s : List Color) (P : ℕ → Type 0) (at : ℕ) → ((n : ℕ) → n < 16 → turn v w s n < at → P n)
    → (turn v w s (at % 16) ≡ at → P (at % 16)) → (n : ℕ) → n < 16 → turn v w s n < at + 1 → P n
turns_more v w s P at before here n below less = elim (cases_order (turn v w s n) at) [
  | inl e ↦ let m = turn_number (has_finders v (seen w (nth_position n).0 (nth_position n).1 s)) n at below e in subst P m (here (subst (λ k. turn v w s k ≡ at) (sym m) e))
  | inr o ↦ elim o [ inl l ↦ before n below l | inr g ↦ absurd (omega (arith, less, g)) ]
]

-- what follows once position 0, the square as given, has been tried
pub first_turn_more : (v : Version) (w : ℕ) (s : List Color) (P : Type 0) (at : ℕ) → (turn v w s 0 < at → P) → (turn v w s (at % 16) ≡ at → at % 16 ≡ 0 → P) → turn v w s 0 < at + 1 → P
first_turn_more v w s P at before here less =
    turns_more v w s (λ n. n ≡ 0 → P) at (λ n below sooner zero. before (subst (λ k. turn v w s k < at) zero sooner)) here 0 (omega arith) less refl

-- each turn is below 32
pub turn_below : (v : Version) (w : ℕ) (s : List Color) (n most : ℕ) → n < 16 → 32 ≤ most → turn v w s n < most
turn_below v w s n most below enough = cond_both (has_finders v (seen w (nth_position n).0 (nth_position n).1 s)) n (n + 16) (λ k. k < most) (λ e. omega (arith, below, enough)) (λ e. omega (arith, below, enough))

-- modules of no version decode in no position
pub no_version : (s : List Color) → ((v : Version) → IsTrue (is_valid v) → length s ≢ side v * side v) → (w : ℕ) → w * w ≡ length s → (p : Position) (is_inverted : Bool)
    → (v : Version) (l : EcLevel) (bits : List Bool) → ¬ ReadsBits (seen w p is_inverted s) v l bits
no_version s none w square p is_inverted v l bits read = none v (valid_of v l read.exists) (sym square ∙ sym (length-seen w p is_inverted s) ∙ read.square)

pub unread_of_no_version : (s : List Color) → ((v : Version) → IsTrue (is_valid v) → length s ≢ side v * side v) → (w : ℕ) → w * w ≡ length s → (p : Position) (is_inverted : Bool) (bytes : List ℕ)
    → ¬ Reads (seen w p is_inverted s) bytes
unread_of_no_version s none w square p is_inverted bytes reads = no_version s none w square p is_inverted reads.version reads.level reads.bits reads.read

same_color : (c : Color) → seen_color false c ≡ c
same_color c = grind (arith, nat_tests)

-- upright and not inverted, a square is as it is
pub seen_upright : (w : ℕ) (s : List Color) → w * w ≡ length s → seen w Upright false s ≡ s
unfolding seen
seen_upright w s square = sym (fill_by_all (seen_at w Upright false s) s (w * w) Light (sym square) (λ k inside.
    let e : k / w * w + k % w ≡ k = omega (arith, div-add-mod' k w) in
    sym (same_color (get_or s (k / w * w + k % w) Light) ∙ ap (λ n. get_or s n Light) e)))

-- what holds in each numbered position holds in all
pub in_all : (P : Position → Bool → Type 0) → ((n : ℕ) → n < 16 → P (nth_position n).0 (nth_position n).1) → (p : Position) (is_inverted : Bool) → P p is_inverted
in_all P each Upright false = each 0 (omega arith)
in_all P each TurnedLeft false = each 1 (omega arith)
in_all P each UpsideDown false = each 2 (omega arith)
in_all P each TurnedRight false = each 3 (omega arith)
in_all P each Mirrored false = each 4 (omega arith)
in_all P each Flipped false = each 5 (omega arith)
in_all P each Transposed false = each 6 (omega arith)
in_all P each Antitransposed false = each 7 (omega arith)
in_all P each Upright true = each 8 (omega arith)
in_all P each TurnedLeft true = each 9 (omega arith)
in_all P each UpsideDown true = each 10 (omega arith)
in_all P each TurnedRight true = each 11 (omega arith)
in_all P each Mirrored true = each 12 (omega arith)
in_all P each Flipped true = each 13 (omega arith)
in_all P each Transposed true = each 14 (omega arith)
in_all P each Antitransposed true = each 15 (omega arith)
