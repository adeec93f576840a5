-- The steps of the search for the shortest recurrence, and why it is the shortest.
use Rattle.std.proofs.Common.{◌≡◌, ℕ, zero, suc, ◌+◌, ◌-◌, ◌<◌, ◌≤◌, List, ◌∷◌, length, get_or, replicate, refl, inl, inr, sym, ap, ap₂, ◌∙◌, arith}
use Rattle.std.proofs.lemmas.Bool.{cases_lt}
use Rattle.std.specs.Int.Bits.{bit_xor, xor_self, xor_zero_r}
use Rattle.qrcode_ec.specs.Field.{product}
use Rattle.qrcode_ec.proofs.Products.{product_zero_r}
use Rattle.qrcode_ec.proofs.Syndromes.{zeros_at}
use Rattle.qrcode_reader.specs.correct.Polynomials.{combined}
use Rattle.qrcode_reader.specs.correct.Recurrences.{FollowShortest, IsSearch}
use Rattle.qrcode_reader.proofs.Sums.{combined_sum, combined_raised, combined_swap, combined_leads, combined_none, combined_lt}

-- the start, before the first value
pub search_first : (values : ℕ → ℕ) → IsSearch values 0 0 (1 ∷ replicate 71 0) (replicate 72 0) 1
search_first values = record {
  at_most = omega arith;
  follow = record { leads = refl; ends = λ j l. behind_one j l; zero = λ i l. absurd (omega arith) };
  ends = λ j _. zeros_at 72 j;
  before = λ i l. absurd (omega arith);
  last = λ i l. absurd (omega arith);
  long_current = refl;
  long_earlier = refl;
  some = omega arith;
}
  where
    behind_one : (j : ℕ) → 0 + 1 ≤ j → get_or {A = ℕ} (1 ∷ replicate 71 0) j 0 ≡ 0
    behind_one zero l = absurd (omega arith)
    behind_one (suc j) l = zeros_at 71 j

-- if the next value follows the polynomial, nothing changes
pub search_kept : (values : ℕ → ℕ) (n d : ℕ) (f b : List ℕ) (scale : ℕ) → IsSearch values n d f b scale → combined f values (n - d) ≡ 0
    → IsSearch values (n + 1) d f b scale
search_kept values n d f b scale is none = record {
  at_most = omega (arith, is.at_most);
  follow = record {
    leads = is.follow.leads;
    ends = is.follow.ends;
    zero = λ i l. elim (cases_lt (i + d) n) [
      | inl before ↦ is.follow.zero i before
      | inr here ↦ ap (combined f values) (let e : i ≡ n - d = omega arith in e) ∙ none
    ];
  };
  ends = λ j l. is.ends j (omega arith);
  before = is.before;
  last = is.last;
  long_current = is.long_current;
  long_earlier = is.long_earlier;
  some = is.some;
}

-- zero plus a multiple of zero, and an error plus its correction
both_zero : (q x y : ℕ) → x ≡ 0 → y ≡ 0 → bit_xor x (product q y) ≡ 0
both_zero q x y a b = ap₂ bit_xor a (ap (product q) b ∙ product_zero_r q)

both_same : (q x y e s : ℕ) → x ≡ e → y ≡ s → product q s ≡ e → bit_xor x (product q y) ≡ 0
both_same q x y e s a b c = ap₂ bit_xor a (ap (product q) b ∙ c) ∙ xor_self e

-- if it does not, and the degree is large enough, the polynomial is corrected by the earlier one
pub search_corrected : (values : ℕ → ℕ) (n d : ℕ) (f b raised new : List ℕ) (scale error q : ℕ) → IsSearch values n d f b scale
    → n < d + d → combined f values (n - d) ≡ error → product q scale ≡ error
    → ((j : ℕ) → j < d + d - n - 1 → get_or raised j 0 ≡ 0) → ((j : ℕ) → get_or raised (d + d - n - 1 + j) 0 ≡ get_or b j 0)
    → length new ≡ 72 → ((j : ℕ) → get_or new j 0 ≡ bit_xor (get_or f j 0) (product q (get_or raised j 0)))
    → IsSearch values (n + 1) d new b scale
search_corrected values n d f b raised new scale error q is great is_error is_quotient zeros at long sum =
    let s = d + d - n - 1 in
    let ends : (j : ℕ) → d ≤ j → get_or raised j 0 ≡ 0 = λ j l.
    ap (λ k. get_or raised k 0) (let e : j ≡ s + (j - s) = omega (arith, is.at_most) in e) ∙ at (j - s) ∙ is.ends (j - s) (omega (arith, is.at_most)) in
    record {
      at_most = omega (arith, is.at_most);
      follow = record {
        leads = sum d ∙ ap₂ bit_xor is.follow.leads (ap (product q) (ends d (omega arith)) ∙ product_zero_r q) ∙ xor_zero_r 1;
        ends = λ j l. sum j ∙ both_zero q (get_or f j 0) (get_or raised j 0) (is.follow.ends j l) (ends j (omega arith));
        zero = λ i l.
            combined_sum q f raised new values i sum
            ∙ elim (cases_lt (i + d) n) [
              | inl before ↦
                  both_zero q (combined f values i) (combined raised values i) (is.follow.zero i before)
                  (combined_raised s b raised values i zeros at ∙ is.before (i + s) (omega arith))
              | inr here ↦
                  both_same q (combined f values i) (combined raised values i) error scale
                  (ap (combined f values) (let e : i ≡ n - d = omega arith in e) ∙ is_error)
                  (combined_raised s b raised values i zeros at ∙ is.last (i + s) (omega arith)) is_quotient
            ];
      };
      ends = λ j l. is.ends j (omega arith);
      before = is.before;
      last = is.last;
      long_current = long;
      long_earlier = is.long_earlier;
      some = is.some;
    }

-- if it does not, and the degree is too small, the degree grows
pub search_grown : (values : ℕ → ℕ) (n d : ℕ) (f b raised new : List ℕ) (scale error q : ℕ) → IsSearch values n d f b scale
    → d + d ≤ n → combined f values (n - d) ≡ error → 0 < error → product q scale ≡ error
    → ((j : ℕ) → j < n + 1 - d - d → get_or raised j 0 ≡ 0) → ((j : ℕ) → get_or raised (n + 1 - d - d + j) 0 ≡ get_or f j 0)
    → length new ≡ 72 → ((j : ℕ) → get_or new j 0 ≡ bit_xor (get_or raised j 0) (product q (get_or b j 0)))
    → IsSearch values (n + 1) (n + 1 - d) new f error
search_grown values n d f b raised new scale error q is few is_error some is_quotient zeros at long sum =
    let t = n + 1 - d - d in
    let d' = n + 1 - d in
    record {
      at_most = omega arith;
      follow = record {
        leads = sum d'
            ∙ ap₂ bit_xor (ap (λ k. get_or raised k 0) (let e : d' ≡ t + d = omega arith in e) ∙ at d ∙ is.follow.leads)
            (ap (product q) (is.ends d' (omega arith)) ∙ product_zero_r q) ∙ xor_zero_r 1;
        ends = λ j l. sum j
            ∙ both_zero q (get_or raised j 0) (get_or b j 0)
            (ap (λ k. get_or raised k 0) (let e : j ≡ t + (j - t) = omega arith in e) ∙ at (j - t) ∙ is.follow.ends (j - t) (omega arith))
            (is.ends j (omega arith));
        zero = λ i l.
            combined_sum q raised b new values i sum
            ∙ elim (cases_lt (i + 1) d) [
              | inl before ↦
                  both_zero q (combined raised values i) (combined b values i)
                  (combined_raised t f raised values i zeros at ∙ is.follow.zero (i + t) (omega arith)) (is.before i before)
              | inr here ↦
                  both_same q (combined raised values i) (combined b values i) error scale
                  (combined_raised t f raised values i zeros at ∙ ap (combined f values) (let e : i + t ≡ n - d = omega arith in e) ∙ is_error)
                  (is.last i (omega arith)) is_quotient
            ];
      };
      ends = λ j l. is.follow.ends j (omega arith);
      before = λ i l. is.follow.zero i (omega arith);
      last = λ i l. ap (combined f values) (let e : i ≡ n - d = omega arith in e) ∙ is_error;
      long_current = long;
      long_earlier = is.long_current;
      some = some;
    }

-- the result is the shortest: a shorter one, combined with the earlier polynomial, would give both zero and the scale
pub search_shortest : (values : ℕ → ℕ) (n d : ℕ) (f b : List ℕ) (scale : ℕ) → IsSearch values n d f b scale → FollowShortest values n d f
search_shortest values n d f b scale is = record {
  follow = is.follow;
  least = λ other g follow. elim (cases_lt other d) [
    | inr most ↦ most
    | inl less ↦
        let s = d - 1 - other in
        let one = combined_leads other g (combined b values) s follow.leads follow.ends (combined_lt b values) (λ j l. is.before (s + j) (omega arith))
        ∙ is.last (s + other) (omega arith) in
        let none = combined_none b (combined g values) s (n + 1 - d) (λ j l. is.ends j (omega arith)) (λ j l. follow.zero (s + j) (omega arith)) in
        let same : scale ≡ 0 = sym one ∙ combined_swap g b values s ∙ none in
        absurd (omega (arith, is.some))
  ];
}
