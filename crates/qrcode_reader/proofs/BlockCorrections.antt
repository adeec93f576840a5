-- The shortest recurrence of the syndromes gives the errors.
use Rattle.std.proofs.Common.{◌≡◌, ◌≢◌, ℕ, zero, suc, ◌+◌, ◌-◌, ◌*◌, ◌<◌, ◌≤◌, inl, inr, sym, ap, ◌∙◌, arith, subst, List, length, get_or}
use Rattle.std.proofs.lemmas.Bool.{cases_eq}
use Rattle.std.specs.Int.Bits.{bit_xor, xor_self, xor_lt, xor_zero_r}
use Rattle.qrcode_ec.specs.Field.{product, power}
use Rattle.qrcode_ec.specs.Codes.{syndrome, Corrects}
use Rattle.qrcode_ec.proofs.Bytes.{byte_at}
use Rattle.qrcode_ec.proofs.Xor.{same_from_xor}
use Rattle.qrcode_ec.proofs.Products.{product_lt, product_comm, product_zero_l, product_zero_r, product_xor_l}
use Rattle.qrcode_ec.proofs.Powers.{no_zero_divisor}
use Rattle.qrcode_reader.specs.correct.Polynomials.{combined, value_at, EndsAt, IsDivision}
use Rattle.qrcode_reader.specs.correct.Recurrences.{Follow, FollowShortest}
use Rattle.qrcode_reader.specs.correct.Errors.{error_at, IsLocator}
use Rattle.qrcode_reader.proofs.Sums.{combined_same, combined_none, combined_swap, combined_lt}
use Rattle.qrcode_reader.proofs.Locators.{zero_or_some, product_some, value_rest, other_zero, weight, locator, locator_ends, locator_leads, locator_zero, locator_some, without, without_here, without_other, weight_without}
use Rattle.qrcode_reader.proofs.Moments.{moments, combined_moments, moments_none, moments_one, moments_errors, weight_errors}

-- f is the shortest recurrence of the moments, and there are few errors
pub record Known (m n d : ℕ) (f : List ℕ) (errors : ℕ → ℕ) : Type 0 where
  pub short : m ≤ 255
  pub bytes : (l : ℕ) → errors l < 256
  pub few : weight m errors + weight m errors ≤ n
  pub shortest : FollowShortest (moments m errors) n d f

-- a product that is zero since either factor is
product_none : (a b : ℕ) → (0 < a → b ≡ 0) → product a b ≡ 0
product_none a b none = elim (zero_or_some a) [
  | inl nothing ↦ ap (λ x. product x b) nothing ∙ product_zero_l b
  | inr some ↦ ap (product a) (none some) ∙ product_zero_r a
]

-- a polynomial that is zero at all errors is a recurrence
follows : (m n d : ℕ) (f : List ℕ) (errors : ℕ → ℕ) → get_or f d 0 ≡ 1 → EndsAt f (d + 1) → ((l : ℕ) → l < m → 0 < errors l → value_at f l ≡ 0)
    → Follow (moments m errors) n d f
follows m n d f errors leads ends none = record {
  leads = leads;
  ends = ends;
  zero = λ i _. combined_moments f m errors i
      ∙ moments_none m (λ l. product (errors l) (value_at f l)) i (λ l below. product_none (errors l) (value_at f l) (none l below));
}

-- so the degree of the shortest is at most the number of errors
degree_at_most : (m n d : ℕ) (f : List ℕ) (errors : ℕ → ℕ) → Known m n d f errors → d ≤ weight m errors
degree_at_most m n d f errors is =
    is.shortest.least (weight m errors) (locator m errors)
    (follows m n (weight m errors) (locator m errors) errors (locator_leads m errors) (locator_ends m errors) (locator_zero m errors))

-- it is zero at each error: combined with the polynomial that is zero at the others, it leaves just this error
zero_at_error : (m n d : ℕ) (f : List ℕ) (errors : ℕ → ℕ) (p : ℕ) → Known m n d f errors → p < m → 0 < errors p → value_at f p ≡ 0
zero_at_error m n d f errors p is below some =
    let others = without p errors in
    let g = locator m others in
    let follow = is.shortest.follow in
    let left = λ (l : ℕ). product (errors l) (value_at g l) in
    let values = moments m errors in
    let small = degree_at_most m n d f errors is in
    let none : combined g (combined f values) 0 ≡ 0 =
    combined_none g (combined f values) 0 (weight m others + 1) (locator_ends m others)
    (λ j l. follow.zero (0 + j) (omega (arith, is.few, small, weight_without m p errors below some))) in
    let alone : combined f (moments m left) 0 ≡ product (left p) (value_at f p) =
    combined_moments f m left 0
    ∙ moments_one m p (λ l. product (left l) (value_at f l)) below (product_lt (left p) (value_at f p))
    (λ l less other. ap (λ x. product x (value_at f l))
    (product_none (errors l) (value_at g l) (λ h. locator_zero m others l less (subst (λ x. 0 < x) (sym (without_other p l errors other)) h)))
    ∙ product_zero_l (value_at f l)) in
    no_zero_divisor (left p) (value_at f p)
    (product_some (errors p) (value_at g p) some (is.bytes p) (locator_some m others p is.short (omega (arith, is.short)) (without_here p errors)) (combined_lt g (λ j. power (p * j)) 0))
    (product_lt (errors p) (value_at g p)) (combined_lt f (λ j. power (p * j)) 0)
    (sym alone ∙ sym (combined_same (d + 1) f (combined g values) (moments m left) 0 follow.ends (λ j _. combined_moments g m errors (0 + j)))
    ∙ sym (combined_swap g f values 0) ∙ none)

-- ---- at one place
-- if its value at a place is not zero, there is no error
pub no_error : (m n d : ℕ) (f q : List ℕ) (errors : ℕ → ℕ) (p value : ℕ) → Known m n d f errors → p < m → value < 256
    → IsDivision f (power p) q value → 0 < value → errors p ≡ 0
no_error m n d f q errors p value is below byte divided some = elim (zero_or_some (errors p)) [
  | inl none ↦ none
  | inr wrong ↦ absurd (omega (arith, some, sym (value_rest f q p value byte divided) ∙ zero_at_error m n d f errors p is below wrong))
]

quotient_zero : (m n d : ℕ) (f q : List ℕ) (errors : ℕ → ℕ) (p l : ℕ) → Known m n d f errors → p < m → IsDivision f (power p) q 0
    → l < m → l ≢ p → 0 < errors l → value_at q l ≡ 0
quotient_zero m n d f q errors p l is below divided less other some =
    other_zero f q p l (omega (arith, is.short)) (omega (arith, is.short)) other divided (zero_at_error m n d f errors l is less some)

-- if the quotient is zero there too, there is no error: the quotient would be a shorter recurrence
pub no_slope : (m n d : ℕ) (f q : List ℕ) (errors : ℕ → ℕ) (p : ℕ) → Known m n d f errors → p < m
    → IsDivision f (power p) q 0 → EndsAt q d → value_at q p ≡ 0 → errors p ≡ 0
no_slope m n zero f q errors p is below divided ends none =
    let one : ◌≡◌ {A = ℕ} 1 0 = sym is.shortest.follow.leads ∙ divided.at 0 ∙ ap (λ x. bit_xor 0 (product (power p) x)) (ends 0 (omega arith)) ∙ ap (bit_xor 0) (product_zero_r (power p)) in
    absurd (omega arith)
no_slope m n (suc d) f q errors p is below divided ends none = elim (zero_or_some (errors p)) [
  | inl right ↦ right
  | inr wrong ↦
      let leads : get_or q d 0 ≡ 1 =
      sym (xor_zero_r (get_or q d 0)) ∙ sym (divided.at (suc d) ∙ ap (bit_xor (get_or q d 0)) (ap (product (power p)) (ends (suc d) (omega arith)) ∙ product_zero_r (power p)))
      ∙ is.shortest.follow.leads in
      let shorter = is.shortest.least d q (follows m n d q errors leads (λ j l. ends j (omega arith)) (λ l less some.
      elim (cases_eq l p) [ inl same ↦ ap (value_at q) same ∙ none | inr other ↦ quotient_zero m n (suc d) f q errors p l is below divided less other some ])) in
      absurd (omega arith)
]

-- otherwise the error is the quotient of two values
pub one_error : (m n d : ℕ) (f q : List ℕ) (errors : ℕ → ℕ) (p : ℕ) → Known m n d f errors → p < m
    → IsDivision f (power p) q 0 → combined q (moments m errors) 0 ≡ product (errors p) (value_at q p)
one_error m n d f q errors p is below divided =
    combined_moments q m errors 0
    ∙ moments_one m p (λ l. product (errors l) (value_at q l)) below (product_lt (errors p) (value_at q p))
    (λ l less other. product_none (errors l) (value_at q l) (quotient_zero m n d f q errors p l is below divided less other))

-- a factor that is not zero can be cancelled
pub cancelled : (a b c : ℕ) → a < 256 → b < 256 → 0 < c → c < 256 → product a c ≡ product b c → a ≡ b
cancelled a b c small less some byte same =
    same_from_xor a b (no_zero_divisor c (bit_xor a b) some byte (xor_lt 8 a b small less)
    (product_comm c (bit_xor a b) ∙ product_xor_l a b c ∙ ap (λ x. bit_xor x (product b c)) same ∙ xor_self (product b c)))

-- ---- a block that can be corrected
follow_same : (xs ys : ℕ → ℕ) (n d : ℕ) (f : List ℕ) → ((i : ℕ) → i < n → xs i ≡ ys i) → Follow xs n d f → Follow ys n d f
follow_same xs ys n d f same is = record {
  leads = is.leads;
  ends = is.ends;
  zero = λ i l. combined_same (d + 1) f ys xs i is.ends (λ j below. sym (same (i + j) (omega arith))) ∙ is.zero i l;
}

pub values_are : (block : List ℕ) (values : ℕ → ℕ) (n d : ℕ) (f corrected : List ℕ) → IsLocator block values n d f → Corrects block n corrected
    → (i : ℕ) → i < n → values i ≡ moments (length block) (error_at block corrected) i
values_are block values n d f corrected is corrects i below =
    is.syndromes i below ∙ sym (moments_errors i block corrected corrects.equal_length ∙ ap (bit_xor (syndrome i block)) (corrects.vanishes i below) ∙ xor_zero_r (syndrome i block))

pub known : (block : List ℕ) (values : ℕ → ℕ) (n d : ℕ) (f corrected : List ℕ) → IsLocator block values n d f → Corrects block n corrected
    → Known (length block) n d f (error_at block corrected)
known block values n d f corrected is corrects =
    let same = values_are block values n d f corrected is corrects in
    let m = length block in
    let errors = error_at block corrected in
    record {
      short = is.short;
      bytes = λ l. xor_lt 8 (get_or block (m - 1 - l) 0) (get_or corrected (m - 1 - l) 0) (byte_at block (m - 1 - l) is.bytes) (byte_at corrected (m - 1 - l) corrects.bytes);
      few = omega (arith, weight_errors block corrected corrects.equal_length, corrects.near);
      shortest = record {
        follow = follow_same values (moments m errors) n d f same is.shortest.follow;
        least = λ other g follow. is.shortest.least other g (follow_same (moments m errors) values n other g (λ i below. sym (same i below)) follow);
      };
    }
