-- The masks of a version are at their numbers in its list.
use Rattle.std.proofs.Common.{◌≡◌, ℕ, ◌<◌, Bool, ◌||◌, nat_le, nat_lt, ◌==◌, IsTrue, pos, negsuc, refl, ap, arith, inl, inr}
use Rattle.std.proofs.lemmas.Bool.{or_cases, eqb-true, ltb-true, leb-true}
use Rattle.qrcode_types.specs.declared.types.Version.{Version}
use Rattle.qrcode_types.specs.declared.types.Version.TheVariants.{Normal, Micro}
use Rattle.qrcode_layout.specs.Masks.{mask_number, micro_mask_number, exists_in, mask_count, nth_mask}
use Rattle.qrcode_layout.specs.declared.masks.MaskPattern.{MaskPattern}
use Rattle.qrcode_layout.specs.declared.masks.MaskPattern.TheVariants.{Checkerboard, HorizontalLines, VerticalLines, DiagonalLines, LargeCheckerboard, Fields, Diamonds, Meadow}
use Rattle.qrcode_layout.proofs.Below.{passes_below, below}
use Rattle.qrcode_layout.proofs.Formats.{mask_number-lt, micro_mask}

-- the number of a mask in a version
abbrev pub number_in : Version → MaskPattern → ℕ
number_in (Normal v) k = mask_number k
number_in (Micro v) k = micro_mask_number k

-- the numbers of the masks that a version has are below their count
pub number_lt : (v : Version) (k : MaskPattern) → IsTrue (exists_in v k) → number_in v k < mask_count v
number_lt (Normal n) k h = mask_number-lt k
number_lt (Micro (pos n)) k h = micro_mask n k h
number_lt (Micro (negsuc n)) k h = absurd (cc)

-- a mask that the version has is at its number in the list
pub nth_of_number : (v : Version) (k : MaskPattern) → IsTrue (exists_in v k) → nth_mask v (number_in v k) ≡ k
nth_of_number (Normal n) Checkerboard h = refl
nth_of_number (Normal n) HorizontalLines h = refl
nth_of_number (Normal n) VerticalLines h = refl
nth_of_number (Normal n) DiagonalLines h = refl
nth_of_number (Normal n) LargeCheckerboard h = refl
nth_of_number (Normal n) Fields h = refl
nth_of_number (Normal n) Diamonds h = refl
nth_of_number (Normal n) Meadow h = refl
nth_of_number (Micro n) HorizontalLines h = refl
nth_of_number (Micro n) LargeCheckerboard h = refl
nth_of_number (Micro n) Diamonds h = refl
nth_of_number (Micro n) Meadow h = refl
nth_of_number (Micro n) k h = absurd (omega (arith, number_lt (Micro n) k h))

-- the masks are numbered through
pub number_of_nth : (v : Version) (i : ℕ) → i < mask_count v → number_in v (nth_mask v i) ≡ i
number_of_nth (Normal n) i h = eqb-true _ _ (below (λ j. mask_number (nth_mask (Normal (pos 1)) j) == j) 8 refl i h)
number_of_nth (Micro n) i h = eqb-true _ _ (below (λ j. micro_mask_number (nth_mask (Micro (pos 1)) j) == j) 4 refl i h)

-- of two masks of Micro the later has the greater number in Normal
abbrev in_order : ℕ → ℕ → Bool
in_order i j = nat_lt i j || nat_le (mask_number (nth_mask (Micro (pos 1)) j)) (mask_number (nth_mask (Micro (pos 1)) i))

-- the masks of a version follow one another by their numbers in Normal
pub number_order : (v : Version) (j k : MaskPattern) → IsTrue (exists_in v j) → IsTrue (exists_in v k) → mask_number j < mask_number k → number_in v j < number_in v k
number_order (Normal n) j k p q h = h
number_order (Micro n) j k p q h =
    let a = number_in (Micro n) j in
    let b = number_in (Micro n) k in
    let test = below (in_order a) 4 (below (λ i. passes_below (in_order i) 4) 4 refl a (number_lt (Micro n) j p)) b (number_lt (Micro n) k q) in
    elim (or_cases (nat_lt a b) _ test) [
      | inl less ↦ ltb-true a b less
      | inr late ↦ absurd (omega (arith, h, leb-true _ _ late, ap mask_number (nth_of_number (Micro n) j p), ap mask_number (nth_of_number (Micro n) k q)))
    ]
