use Rattle.std.proofs.Common.{◌≡◌, ◌+◌, ◌-◌, ◌/◌, ◌%◌, ◌<◌, ◌≤◌, ◌++◌, ◌∷◌, [], ℕ, nat_lt, Bool, true, false, cond, List, length, sym, ap, subst, ◌∙◌, arith, true≢false}
use Rattle.std.proofs.lemmas.Bool.Decides.{nat_tests}
use Rattle.qrcode_types.specs.Versions.{side}
use Rattle.qrcode_damage.specs.Damage.{is_pattern_place}
use Rattle.qrcode_damage.specs.Errors.{is_set}
use Rattle.qrcode_damage.specs.Flips.{count_wrong}
use Rattle.qrcode_damage.proofs.Ahead.{ahead_all, ahead_next, bit_as_number, others_more}
use Rattle.qrcode_damage.proofs.Places.{flip_more}
use Rattle.qrcode_damage.proofs.patterns.wrong_patterns.Goals.{then-is_pattern, else-is_pattern}
use Rattle.qrcode_damage.proofs.patterns.wrong_patterns.Goals as goal

-- what follows a choice: a place is chosen only if it is one and some are left, and enough places are ahead for those left
record IsChoice (place chosen : Bool) (left ahead : ℕ) : Type 0 where
  some : cond {A = ℕ} chosen 1 0 ≤ left
  enough : left - cond {A = ℕ} chosen 1 0 ≤ ahead - cond {A = ℕ} place 1 0
  only : place ≡ false → chosen ≡ false

at_place : (place chosen : Bool) (left ahead k : ℕ) → place ≡ true → k < ahead → left ≤ ahead → chosen ≡ nat_lt k left → IsChoice place chosen left ahead
at_place place chosen left ahead k is below few e =
    record { some = grind (arith, nat_tests); enough = grind (arith, nat_tests); only = λ none. absurd (true≢false (sym is ∙ none)) }

beside : (place chosen : Bool) (left ahead : ℕ) → place ≡ false → left ≤ ahead → chosen ≡ false → IsChoice place chosen left ahead
beside place chosen left ahead is few e = record { some = grind (arith, nat_tests); enough = grind (arith, nat_tests); only = λ none. e }

pub loop-i-init : goal.loop-i-init
loop-i-init c = record {
  long = omega (arith, c.new-bytes.ensures.len);
  counted = omega (arith, ap count_wrong c.new-bytes.ensures.items);
  ahead = c.pattern_count-ahead.ensures ∙ sym (ahead_all c.args.version);
  left = omega (arith, c.pattern_count-ahead.ensures, c.requires.at_most);
  others = λ j none. ap (λ (bytes : List ℕ). is_set bytes j) c.new-bytes.ensures.items;
}

pub below-requires : goal.below-requires
below-requires c =
    omega (
      arith,
      c.loop-i.invariant.ahead,
      ahead_next c.args.version c.loop-i.i c.side-width.result true c.side-width.ensures.value c.loop-i-test.true (sym c.if-is_pattern.true ∙ c.is_pattern_place-is_pattern.ensures),
    )

pub loop-i-preserved : goal.loop-i-preserved
loop-i-preserved c =
    let v = c.args.version in
    let i = c.loop-i.i in
    let bytes = c.loop-i.bytes.items in
    let x = c.flip.result in
    let place = c.is_pattern_place-is_pattern.result in
    let chosen = c.if-is_pattern.is_wrong in
    let before = c.loop-i.invariant in
    let choice : IsChoice place chosen c.loop-i.left c.loop-i.ahead = elim c.if-is_pattern.branch [
      | then-is_pattern w ↦ at_place place chosen c.loop-i.left c.loop-i.ahead w.below.result w.if-is_pattern.true w.below.ensures before.left w.is_wrong-is
      | else-is_pattern w ↦ beside place chosen c.loop-i.left c.loop-i.ahead w.if-is_pattern.false before.left (w.is_wrong-is ∙ w.if-is_pattern.false)
    ] in
    let next = ahead_next v i c.side-width.result place c.side-width.ensures.value c.loop-i-test.true c.is_pattern_place-is_pattern.ensures in
    let long : length bytes ≡ i = omega (arith, before.long) in
    let gone = c.from-left.ensures ∙ bit_as_number chosen in
    let passed = c.from-ahead.ensures ∙ bit_as_number place in
    record {
      long = omega (arith, before.long, c.in_ok-push.ensures.len);
      counted = ap (λ (bs : List ℕ). count_wrong bs + (c.loop-i.left - c.from-left.result)) c.in_ok-push.ensures.items
          ∙ ap (λ n. count_wrong (bytes ++ x ∷ []) + (c.loop-i.left - n)) gone
          ∙ flip_more bytes x c.loop-i.left c.args.count chosen c.flip.ensures.wrong before.counted choice.some;
      ahead = omega (arith, before.ahead, next, passed);
      left = omega (arith, choice.enough, gone, passed);
      others = subst (λ (bs : List ℕ). (j : ℕ) → is_pattern_place v (j % side v) (j / side v) ≡ false → is_set bs j ≡ false) (sym c.in_ok-push.ensures.items)
          (others_more (λ (j : ℕ). is_pattern_place v (j % side v) (j / side v)) bytes x before.others
          (λ none. c.flip.ensures.wrong ∙ choice.only
          (c.is_pattern_place-is_pattern.ensures ∙ ap (λ w. is_pattern_place v (i % w) (i / w)) c.side-width.ensures.value
          ∙ ap (λ k. is_pattern_place v (k % side v) (k / side v)) (sym long) ∙ none)));
    }
