use Rattle.std.proofs.Common.{◌≡◌, ℕ, suc, ◌+◌, ◌≤◌, ◌&&◌, Bool, true, false, List, [], ◌∷◌, length, nat_eq, refl, ap, ◌∙◌, arith, cond}
use Rattle.std.specs.List.{count_by, list_all}
use Rattle.std.proofs.lemmas.Bool.{eq-eqb, ne_eqb, eqb-true, eqb-false}
use Rattle.std.proofs.lemmas.List.Sums.{count_by-le-length, sum_by-cons}
use Rattle.qrcode_types.specs.Characters.{is_digit}
use Rattle.qrcode_bits.proofs.digits.are_digits.Goals as goal

-- one more, which passes or not
one_more : (b all : Bool) (n m : ℕ) → n ≤ m → nat_eq n m ≡ all → nat_eq (cond b 1 0 + n) (suc m) ≡ (b && all)
one_more true true n m most e = eq-eqb _ _ (omega (arith, eqb-true n m e))
one_more true false n m most e = ne_eqb _ _ (λ same. eqb-false n m e (omega (arith, same)))
one_more false all n m most e = ne_eqb _ _ (λ same. omega (arith, same, most))

-- all pass where as many do as there are
counted : (p : ℕ → Bool) (xs : List ℕ) → nat_eq (count_by p xs) (length xs) ≡ list_all p xs
counted p [] = refl
counted p (x ∷ xs) = ap (λ n. nat_eq n (suc (length xs))) (sum_by-cons (λ y. cond (p y) 1 0) x xs) ∙ one_more (p x) (list_all p xs) (count_by p xs) (length xs) (count_by-le-length p xs) (counted p xs)

pub returns : goal.returns
returns c = ap (λ n. nat_eq n (length c.args.bytes.now)) c.count_digits.ensures ∙ counted is_digit c.args.bytes.now
