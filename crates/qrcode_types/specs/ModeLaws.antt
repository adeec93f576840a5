-- The order of modes is a partial order, and no two different modes compare as equal.
use Rattle.std.specs.Prelude.{◌≡◌, Bool, true, false, not, ◌&&◌, ◌||◌, Option, Some, None, refl}
use Rattle.std.proofs.Common.{ap}
use Rattle.std.proofs.Math.Bool.{beq}
use Rattle.std.proofs.lemmas.Bool.{and_parts}
use Rattle.std.specs.declared.cmp.Ordering.{Ordering}
use Rattle.std.specs.declared.cmp.Ordering.TheVariants.{Less, Equal, Greater}
use Rattle.std.specs.Cmp.{IsPartialOrder, booleans_Decides}
use Rattle.std.specs.Ordering.{ordering_reverse, is_eq, is_lt, is_some_and}
use Rattle.std.specs.Option.{option_map}
use Rattle.qrcode_types.specs.Modes.{is_at_most, order_by, mode_order}
use Rattle.qrcode_types.specs.declared.types.Mode.{Mode}
use Rattle.qrcode_types.specs.declared.types.Mode.TheVariants.{Numeric, Alphanumeric, Byte, Kanji}

abbrev pub for_all : (Mode → Bool) → Bool  -- the test passes for every mode
for_all test = test Numeric && (test Alphanumeric && (test Byte && test Kanji))

pub at_each : (test : Mode → Bool) → for_all test ≡ true → (m : Mode) → test m ≡ true
at_each test e =
    let first = and_parts (test Numeric) (test Alphanumeric && (test Byte && test Kanji)) e in
    let second = and_parts (test Alphanumeric) (test Byte && test Kanji) first.1 in
    let third = and_parts (test Byte) (test Kanji) second.1 in
    elim [ Numeric ↦ first.0 | Alphanumeric ↦ second.0 | Byte ↦ third.0 | Kanji ↦ third.1 ]

abbrev is_below : Mode → Mode → Bool  -- how two modes compare, as two tests: less, and equal
is_below a b = is_some_and is_lt (mode_order a b)

abbrev is_same : Mode → Mode → Bool
is_same a b = is_some_and is_eq (mode_order a b)

less_from : (o : Option Ordering) → is_some_and is_lt o ≡ true → o ≡ Some Less
less_from None e = cc
less_from (Some Less) e = refl
less_from (Some Equal) e = cc
less_from (Some Greater) e = cc

equal_from : (o : Option Ordering) → is_some_and is_eq o ≡ true → o ≡ Some Equal
equal_from None e = cc
equal_from (Some Less) e = cc
equal_from (Some Equal) e = refl
equal_from (Some Greater) e = cc

order_by-swapped : (p q : Bool) → order_by p q ≡ option_map ordering_reverse (order_by q p)
order_by-swapped true true = refl
order_by-swapped true false = refl
order_by-swapped false true = refl
order_by-swapped false false = refl

from_implied : (p q r : Bool) → (not (p && q) || r) ≡ true → p ≡ true → q ≡ true → r ≡ true
from_implied true true r e p q = e
from_implied true false r e p q = cc
from_implied false b r e p q = cc

is_below-trans : (x y z : Mode) → (not (is_below x y && is_below y z) || is_below x z) ≡ true
is_below-trans x y z =
    let test : Mode → Mode → Mode → Bool = λ x y z. not (is_below x y && is_below y z) || is_below x z in
    at_each (test x y) (at_each (λ y. for_all (test x y)) (at_each (λ x. for_all (λ y. for_all (test x y))) refl x) y) z

mode_trans : (x y z : Mode) → mode_order x y ≡ Some Less → mode_order y z ≡ Some Less → mode_order x z ≡ Some Less
mode_trans x y z p q =
    less_from (mode_order x z) (from_implied (is_below x y) (is_below y z) (is_below x z) (is_below-trans x y z) (ap (is_some_and is_lt) p) (ap (is_some_and is_lt) q))

same_mode : (x y : Mode) → is_same x y ≡ true → x ≡ y  -- modes that compare as equal are the same
same_mode Numeric y = elim y as (λ y. is_same Numeric y ≡ true → Numeric ≡ y) [ Numeric ↦ λ e. refl | Alphanumeric ↦ λ e. cc | Byte ↦ λ e. cc | Kanji ↦ λ e. cc ]
same_mode Alphanumeric y = elim y as (λ y. is_same Alphanumeric y ≡ true → Alphanumeric ≡ y) [ Numeric ↦ λ e. cc | Alphanumeric ↦ λ e. refl | Byte ↦ λ e. cc | Kanji ↦ λ e. cc ]
same_mode Byte y = elim y as (λ y. is_same Byte y ≡ true → Byte ≡ y) [ Numeric ↦ λ e. cc | Alphanumeric ↦ λ e. cc | Byte ↦ λ e. refl | Kanji ↦ λ e. cc ]
same_mode Kanji y = elim y as (λ y. is_same Kanji y ≡ true → Kanji ≡ y) [ Numeric ↦ λ e. cc | Alphanumeric ↦ λ e. cc | Byte ↦ λ e. cc | Kanji ↦ λ e. refl ]

-- a test that agrees with `is_same` on `for_all` modes agrees with it on any two
pub mode_ties : (equal : Mode → Mode → Bool) → for_all (λ x. for_all (λ y. beq (equal x y) (is_same x y))) ≡ true → (x y : Mode) → equal x y ≡ is_same x y
mode_ties equal e x y =
    let agree = at_each (λ y. beq (equal x y) (is_same x y)) (at_each (λ x. for_all (λ y. beq (equal x y) (is_same x y))) e x) y in
    (booleans_Decides (equal x y) (is_same x y)).0 agree

pub mode_laws : IsPartialOrder is_same mode_order
mode_laws = record {
  antisymm = λ x y. order_by-swapped (is_at_most x y) (is_at_most y x);
  trans = mode_trans;
  matches_eq = λ x y. (equal_from (mode_order x y), λ e. ap (is_some_and is_eq) e);
  congr = λ x y z e. ap (λ m. mode_order m z) (same_mode x y e);
}
