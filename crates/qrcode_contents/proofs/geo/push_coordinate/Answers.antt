use Rattle.std.proofs.Common.{◌≡◌, ℕ, ◌/◌, ◌%◌, ◌++◌, List, decimal, ℤ, unsigned_abs, append_assoc, rules, lit<}
use Rattle.std.proofs.lemmas.Nat.{mod_below}
use Rattle.std.proofs.lemmas.Result.{on_ok_weaker}
use Rattle.qrcode_contents.specs.Geo.{fraction_text, sign_text, coordinate_text}
use Rattle.qrcode_contents.proofs.geo.push_coordinate.Goals as goal

grouped : (t s d f : List ℕ) → ((t ++ s) ++ d) ++ f ≡ t ++ (s ++ (d ++ f))
grouped t s d f = simp append_assoc

-- a sign, whole degrees and a fraction, appended one by one
pushed : (z : ℤ) (n : ℕ) (s t t₁ t₂ t₃ : List ℕ) → n ≡ unsigned_abs z → s ≡ sign_text z → t₁ ≡ t ++ s → t₂ ≡ t₁ ++ decimal (n / 1000000) → t₃ ≡ t₂ ++ fraction_text (n % 1000000) → t₃ ≡ t ++ coordinate_text z
unfolding coordinate_text
pushed z n s t t₁ t₂ t₃ is signed h₁ h₂ h₃ =
    rw (h₃, h₂, h₁, signed, is) (grouped t (sign_text z) (decimal (unsigned_abs z / 1000000)) (fraction_text (unsigned_abs z % 1000000)))

pub push_fraction-requires : goal.push_fraction-requires
push_fraction-requires c = mod_below _ 1000000 (lit< tt)

pub returns-clause-appends : goal.returns-clause-appends
returns-clause-appends c =
    on_ok_weaker c.push_fraction.result
    (pushed c.args.millionths c.unsigned_abs-magnitude.result c.sign.result.now _ _ _ _ (search rules) (search rules) c.in_ok-push_str.ensures.bytes c.in_ok-write.ensures.bytes)
    c.push_fraction.ensures.appends
