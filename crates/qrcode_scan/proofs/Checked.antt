-- Checks of a picture's codes.
use Rattle.std.proofs.Common.{◌∙◌, ◌*◌, ◌++◌, ◌∷◌, [], ℕ, List, All, sym, ap, inl, inr}
use Rattle.std.specs.List.{AllZip}
use Rattle.std.proofs.lemmas.List.Elements.{All-weaker}
use Rattle.qrcode_scan.specs.Checked.{HasSquare}
use Rattle.qrcode_scan.specs.Scans.{IsScanOf}
use Rattle.qrcode_scan.specs.declared.scanning.Scan.{Scan}
use Rattle.qrcode_scan.proofs.Sampled.{sampled_length}

-- one pair more
pub zip_more : {A B : Type 0} (R : A → B → Type 0) (xs : List A) (ys : List B) (x : A) (y : B) → AllZip R xs ys → R x y → AllZip R (xs ++ x ∷ []) (ys ++ y ∷ [])
zip_more R [] [] x y all r = (r, tt)
zip_more R [] (z ∷ ys) x y all r = absurd all
zip_more R (w ∷ xs) [] x y all r = absurd all
zip_more R (w ∷ xs) (z ∷ ys) x y all r = (all.0, zip_more R xs ys x y all.1 r)

-- the square of a decoded code has as many modules as its side says
has_square : (bytes : List ℕ) (scan : Scan) → IsScanOf bytes scan → HasSquare scan
has_square bytes scan is = elim is.square.found [
  | inl clean ↦ sym clean.1.square.square
  | inr found ↦
      let g = found.0.0 in
      let s = found.0.1.1 in
      ap (λ (n : ℕ). n * n) s.count ∙ sampled_length _ g scan.square.modules.items s.sampled
]

pub have_squares : (bytes : List ℕ) (scans : List Scan) → All (IsScanOf bytes) scans → All HasSquare scans
have_squares bytes scans all = All-weaker (IsScanOf bytes) HasSquare (has_square bytes) scans all
