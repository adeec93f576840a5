use Rattle.std.proofs.Common.{ℕ, List, subst, sym, arith}
use Rattle.qrcode_layout.specs.Masks.{nth_mask}
use Rattle.qrcode_symbol.specs.Symbol.{Carries}
use Rattle.qrcode_damage.specs.Flips.{AreHigh}
use Rattle.qrcode_damage.proofs.Refused.{at_most_18}
use Rattle.qrcode_damage.proofs.damage.chosen_errors.Goals as goal

pub drawn-requires-clause-half : goal.drawn-requires-clause-half
drawn-requires-clause-half c = λ half. subst AreHigh (sym c.deref.ensures.value) (c.in_ok-words.ensures.half half)

pub flips-requires-3 : goal.flips-requires-3
flips-requires-3 c = omega (arith, c.requires.room.version, at_most_18 c.args.version)

pub flips-requires-4 : goal.flips-requires-4
flips-requires-4 c = omega (arith, c.requires.room.version, at_most_18 c.args.version)

pub returns : goal.returns
returns c = record {
  words = c.in_ok-words.words.items;
  codewords = c.in_ok-words.ensures.count;
  drawn = subst (λ (ws : List ℕ). Carries c.args.version c.args.ec_level ws (nth_mask c.args.version 0) c.in_ok-codewords.codewords.items) c.deref.ensures.value c.in_ok-codewords.ensures;
  first_format = record { long = omega (arith, c.in_ok-first_format.ensures.length); wrong = c.in_ok-first_format.ensures.count };
  last_format = record { long = omega (arith, c.in_ok-last_format.ensures.length); wrong = c.in_ok-last_format.ensures.count };
  first_version = record { long = omega (arith, c.in_ok-first_version.ensures.length); wrong = c.in_ok-first_version.ensures.count };
  last_version = record { long = omega (arith, c.in_ok-last_version.ensures.length); wrong = c.in_ok-last_version.ensures.count };
  patterns = c.in_ok-patterns.ensures;
}
