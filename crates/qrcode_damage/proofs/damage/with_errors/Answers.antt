use Rattle.qrcode_layout.specs.Masks.{nth_mask}
use Rattle.qrcode_layout.proofs.Formats.{valid_of}
use Rattle.qrcode_damage.proofs.Flipped.{wrong_by}
use Rattle.qrcode_damage.proofs.Promised.{wrong_is_read, wrong_keeps_bits}
use Rattle.qrcode_damage.proofs.damage.with_errors.Goals as goal

pub flipped-requires-clause-drawn : goal.flipped-requires-clause-drawn
flipped-requires-clause-drawn c = c.in_ok-errors.ensures.drawn.patterns.square

pub returns-clause-wrong : goal.returns-clause-wrong
returns-clause-wrong c = λ mask.
    let v = c.args.version in
    let l = c.args.ec_level in
    wrong_by v l mask c.args.damage c.in_ok-errors.errors c.args.modules.now c.in_ok-flipped.field-0.items c.in_ok-errors.ensures
    (record { valid = valid_of v l c.requires.exists; whole = c.requires.square; is = c.in_ok-flipped.ensures })

pub returns-clause-square : goal.returns-clause-square
returns-clause-square c = (returns-clause-wrong c (nth_mask c.args.version 0)).square

pub returns-clause-read : goal.returns-clause-read
returns-clause-read c = λ promised bits bytes.
    wrong_is_read c.args.version c.args.ec_level c.args.damage bits bytes c.args.modules.now c.in_ok-flipped.field-0.items (returns-clause-wrong c) promised

pub returns-clause-read_bits : goal.returns-clause-read_bits
returns-clause-read_bits c = λ promised bits.
    wrong_keeps_bits c.args.version c.args.ec_level c.args.damage bits c.args.modules.now c.in_ok-flipped.field-0.items (returns-clause-wrong c) promised
