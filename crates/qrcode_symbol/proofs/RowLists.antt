-- Lists of rows as lists of numbers.
use Rattle.std.proofs.Common.{◌≡◌, ◌&&◌, ℕ, ap₂, bit_and, bit_xor, ◌+◌, ◌*◌, ◌^◌, ◌<◌, Bool, List, length, take, drop, slice_index_or, ap, sym, ◌∙◌, arith, subst, length-take, length-drop}
use Rattle.std.proofs.lemmas.Nat.{mul-add-lt, xor_lt, and_le_l}
use Rattle.std.proofs.lemmas.List.{get_or-take, get_or-drop}
use Rattle.std.proofs.lemmas.Bool.Decides.{nat_tests}
use Rattle.qrcode_penalty.specs.Rows.{is_set, dark_in, FitsWidth}
use Rattle.qrcode_penalty.proofs.Places.{differ, has_and, has_xor}
use Rattle.qrcode_penalty.proofs.RowLists.{rows_fit}
use Rattle.qrcode_layout.specs.Masks.{turns, turned_if}
use Rattle.qrcode_layout.specs.declared.masks.MaskPattern.{MaskPattern}
use Rattle.qrcode_symbol.specs.declared.canvas.Module.{Module}
use Rattle.qrcode_symbol.specs.declared.canvas.Module.TheVariants.{Empty}
use Rattle.qrcode_symbol.specs.Masking.{packed, ShowsModules, IsTurnedRow}
use Rattle.qrcode_symbol.proofs.PackedLists.{packed_lt, has_packed}

-- the modules of row y
abbrev pub modules_of_row : ℕ → List Module → ℕ → List Module
modules_of_row w modules y = take w (drop (y * w) modules)

-- packed rows show the modules
module _ (test : Module → Bool) (modules : List Module) (w : ℕ) (square : length modules ≡ w * w) (rows : List ℕ)
    (are : (y : ℕ) → y < w → slice_index_or rows y 0 ≡ packed test (modules_of_row w modules y)) where
  long_row : (x y : ℕ) → x < w → y < w → x < length (modules_of_row w modules y)
  long_row x y h l =
      let inside : y * w + x < w * w = mul-add-lt y w x w l h in
      simp (length-take, length-drop) (omega (arith, inside, square))

  pub shows_packed : ShowsModules test w modules rows
  unfolding dark_in
  shows_packed = λ x y h l.
      sym (ap (λ n. is_set n x) (are y l) ∙ has_packed test (modules_of_row w modules y) x Empty (long_row x y h l)
      ∙ ap test (get_or-take w (drop (y * w) modules) x Empty h ∙ get_or-drop (y * w) modules x Empty))

  pub fits_packed : length rows ≡ w → ((y : ℕ) → FitsWidth w (slice_index_or rows y 0))
  fits_packed e = rows_fit rows w e (λ y h. subst (λ (n : ℕ). n < 2 ^ w) (sym (are y h)) (packed_lt test (modules_of_row w modules y) w (omega (arith, length-take w (drop (y * w) modules)))))

differ_turned : (t d : Bool) → differ d t ≡ turned_if t d
differ_turned t d = grind (arith, nat_tests)

-- a row whose free places are reversed by a mask
pub turned_at : (d f m x : ℕ) (t : Bool) → is_set m x ≡ t → is_set (bit_xor d (bit_and f m)) x ≡ turned_if (is_set f x && t) (is_set d x)
turned_at d f m x t e =
    has_xor d (bit_and f m) x
    ∙ ap (differ (is_set d x)) (has_and f m x ∙ ap (λ b. is_set f x && b) e)
    ∙ differ_turned (is_set f x && t) (is_set d x)

-- a row computed so is the row of the mask
pub turned_row_is : (w : ℕ) (mask : MaskPattern) (dark free : List ℕ) (k row d f m : ℕ) → d ≡ slice_index_or dark k 0 → f ≡ slice_index_or free k 0 → row ≡ bit_xor d (bit_and f m)
    → d < 2 ^ w → f < 2 ^ w → ((x : ℕ) → x < w → is_set m x ≡ turns mask x k) → IsTurnedRow w mask dark free k row
unfolding dark_in
turned_row_is w mask dark free k row d f m p q e dark_ends free_ends turned = record {
  shows = λ x h.
      ap (λ n. is_set n x) e ∙ turned_at d f m x (turns mask x k) (turned x h)
      ∙ ap₂ (λ (a b : ℕ). turned_if (is_set b x && turns mask x k) (is_set a x)) p q;
  ends = subst (λ (n : ℕ). n < 2 ^ w) (sym e) (xor_lt w d (bit_and f m) dark_ends (omega (arith, and_le_l f m, free_ends)));
}
