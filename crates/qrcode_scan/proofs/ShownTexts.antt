-- The text of a code, part by part.
use Rattle.std.proofs.Common.{◌≡◌, ℕ, ◌≤◌, ◌-◌, true, List, [], ◌∷◌, ◌++◌, length, take, drop, get_or, Option, Some, None, refl, sym, subst, ap₂, arith, append_assoc}
use Rattle.std.specs.List.{IsSplitAt}
use Rattle.std.proofs.lemmas.List.{take_rest}
use Rattle.qrcode_charsets.specs.Eci.{IsTextUnder}
use Rattle.qrcode_reader.specs.declared.spell.headers.Header.TheVariants.{Eci}
use Rattle.qrcode_reader.specs.declared.spell.parts.Part.{Part}
use Rattle.qrcode_reader.specs.declared.spell.parts.Part.TheVariants.{Front}
use Rattle.qrcode_scan.specs.Texts.{IsPushed, IsShownFrom, IsShownText}

-- Some parts of a code are read: with the text of the others, their text is that of the code, which has no text if the others have none.
pub record IsAlong (all : List Part) (bytes : List ℕ) (n : Option ℕ) (count : ℕ) (parts : List Part) (own text : List ℕ) : Type 0 where
  pub whole : (more : List ℕ) → IsShownFrom (length bytes) n count parts own more → IsShownText all bytes (text ++ more)
  pub rest : (shown : List ℕ) → IsShownText all bytes shown → (more : List ℕ) × IsShownFrom (length bytes) n count parts own more

pub begins : (all : List Part) (bytes : List ℕ) → IsAlong all bytes None 0 all bytes []
begins all bytes = record { whole = λ more h. h; rest = λ shown h. (shown, h) }

module _ {all : List Part} {bytes : List ℕ} {n : Option ℕ} {count : ℕ} {own text : List ℕ} where
  pub after_run : {parts : List Part} {e : ℕ} (first : List ℕ) → IsAlong all bytes n count (Front (Eci e) ∷ parts) own text → count ≤ length own → IsTextUnder n first (take count own)
      → IsAlong all bytes (Some e) 0 parts (drop count own) (text ++ first)
  after_run first along inside is = record {
    whole = λ more h. subst (IsShownText all bytes) (sym (append_assoc text first more)) (along.whole (first ++ more) (first, more, refl, inside, is, h));
    rest = λ shown h. let r = along.rest shown h in (r.1.1, r.1.5);
  }

pub first_part : (xs : List Part) (d p : Part) → 1 ≤ length xs → get_or xs 0 d ≡ p → xs ≡ p ∷ take (length xs - 1) (drop 1 xs)
first_part [] d p some is = absurd (omega (arith, some))
first_part (x ∷ xs) d p some is = ap₂ (λ (a : Part) (b : List Part). a ∷ b) is (sym (take_rest (x ∷ xs) 1))

-- a run up to the next designator is read
pub after_eci : {all : List Part} {bytes : List ℕ} {n : Option ℕ} {count : ℕ} {own text : List ℕ} {e : ℕ} (rest behind : List Part) (run after new : List ℕ) → rest ≡ Front (Eci e) ∷ behind
    → IsAlong all bytes n count rest own text → IsSplitAt own count run after → IsPushed n run text new true → IsAlong all bytes (Some e) 0 behind after new
after_eci {all = all} {bytes = bytes} {n = n} {count = count} {own = own} {text = text} {e = e} rest behind run after new is along split pushed =
    let here = subst (λ r. IsAlong all bytes n count r own text) is along in
    let read = subst (IsTextUnder n pushed.0) split.1 pushed.1 in
    let done = after_run pushed.0 here split.0 read in
    subst (λ a. IsAlong all bytes (Some e) 0 behind a new) (sym split.2) (subst (IsAlong all bytes (Some e) 0 behind (drop count own)) (sym pushed.2) done)
