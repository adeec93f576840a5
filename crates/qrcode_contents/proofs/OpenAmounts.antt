-- Amounts and moments that may be left open.
use Rattle.std.proofs.Common.{◌≡◌, ℕ, Bool, Option, Some, None, Decides, nat_eq, refl, ap}
use Rattle.std.specs.Option.{option_eq}
use Rattle.std.proofs.lemmas.Bool.Decides.{Decides-eqb}

-- two options are equal by `==` exactly if they are the same, given this for their values
pub options_equal : {A : Type 0} (E : A → A → Bool) → ((x y : A) → Decides (E x y) (x ≡ y)) → (a b : Option A) → Decides (option_eq E a b) (a ≡ b)
options_equal E decides None None = ((λ is. refl), (λ e. refl))
options_equal E decides None (Some y) = ((λ is. cc), (λ e. cc))
options_equal E decides (Some x) None = ((λ is. cc), (λ e. cc))
options_equal E decides (Some x) (Some y) = ((λ is. ap Some ((decides x y).0 is)), (λ e. (decides x y).1 (let same : x ≡ y = cc in same)))

-- two amounts that may be left open are equal by `==` exactly if they are the same
pub amounts_equal : (a b : Option ℕ) → Decides (option_eq nat_eq a b) (a ≡ b)
amounts_equal a b = options_equal nat_eq Decides-eqb a b
