use Rattle.std.proofs.Common.{arith, sym}
use Rattle.qrcode_damage.proofs.Places.{shortest_is}
use Rattle.qrcode_damage.proofs.damage.Damage.excess.Goals as goal

pub returns-then-self-codewords-clause-some : goal.returns-then-self-codewords-clause-some
returns-then-self-codewords-clause-some c =
    (sym (shortest_is c.args.version c.args.ec_level c.blocks_of-blocks.result c.blocks_of-blocks.ensures), c.if-self-codewords.true)

pub returns-then-self-gt15-clause-some : goal.returns-then-self-gt15-clause-some
returns-then-self-gt15-clause-some c =
    let shortest = shortest_is c.args.version c.args.ec_level c.blocks_of-blocks.result c.blocks_of-blocks.ensures in
    (omega (arith, shortest, c.if-self-codewords.false), c.if-self-gt15.true)

pub returns-then-self-version_bits-clause-some : goal.returns-then-self-version_bits-clause-some
returns-then-self-version_bits-clause-some c =
    let shortest = shortest_is c.args.version c.args.ec_level c.blocks_of-blocks.result c.blocks_of-blocks.ensures in
    (c.version_word_length-version_bits.ensures, (c.if-self-version_bits.true, (omega (arith, shortest, c.if-self-codewords.false), c.if-self-gt15.false)))

pub returns-then-self-pattern_modules-clause-some : goal.returns-then-self-pattern_modules-clause-some
returns-then-self-pattern_modules-clause-some c =
    let shortest = shortest_is c.args.version c.args.ec_level c.blocks_of-blocks.result c.blocks_of-blocks.ensures in (
      c.pattern_count-pattern_modules.ensures,
      (
        c.if-self-pattern_modules.true,
        (
          omega (arith, shortest, c.if-self-codewords.false),
          (c.if-self-gt15.false, omega (arith, c.version_word_length-version_bits.ensures, c.if-self-version_bits.false)),
        ),
      ),
    )

pub returns-then-self-eq0-clause-none : goal.returns-then-self-eq0-clause-none
returns-then-self-eq0-clause-none c =
    let shortest = shortest_is c.args.version c.args.ec_level c.blocks_of-blocks.result c.blocks_of-blocks.ensures in
    record {
      codewords = omega (arith, shortest, c.if-self-codewords.false);
      format = c.if-self-gt15.false;
      version = omega (arith, c.version_word_length-version_bits.ensures, c.if-self-version_bits.false);
      patterns = omega (arith, c.if-self-eq0.true);
    }

pub returns-clause-none : goal.returns-clause-none
returns-clause-none c =
    let shortest = shortest_is c.args.version c.args.ec_level c.blocks_of-blocks.result c.blocks_of-blocks.ensures in
    record {
      codewords = omega (arith, shortest, c.if-self-codewords.false);
      format = c.if-self-gt15.false;
      version = omega (arith, c.version_word_length-version_bits.ensures, c.if-self-version_bits.false);
      patterns = omega (arith, c.pattern_count-pattern_modules.ensures, c.if-self-pattern_modules.false);
    }
