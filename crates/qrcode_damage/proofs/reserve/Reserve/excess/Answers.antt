use Rattle.std.proofs.Common.{◌≤◌, subst}
use Rattle.qrcode_damage.proofs.Bounds.{all_within, lost_block, no_block_lost}
use Rattle.qrcode_damage.proofs.reserve.Reserve.excess.Goals as goal

pub returns-then-self : goal.returns-then-self
returns-then-self c = λ v l area h. lost_block v l area c.args.self.now h c.if-self.true

pub returns-then-self-gt-FORMAT_ERRORS : goal.returns-then-self-gt-FORMAT_ERRORS
returns-then-self-gt-FORMAT_ERRORS c = λ v l area h. (h.first, (c.if-self-gt-FORMAT_ERRORS.true, no_block_lost v l area c.args.self.now h c.if-self.false))

pub returns-then-self-gt-FORMAT_ERRORS-2 : goal.returns-then-self-gt-FORMAT_ERRORS-2
returns-then-self-gt-FORMAT_ERRORS-2 c = λ v l area h. (
  h.last,
  (
    c.if-self-gt-FORMAT_ERRORS-2.true,
    (no_block_lost v l area c.args.self.now h c.if-self.false, subst (λ n. n ≤ 3) h.first c.if-self-gt-FORMAT_ERRORS.false),
  ),
)

pub returns : goal.returns
returns c = λ v l area h. all_within v l area c.args.self.now h c.if-self.false c.if-self-gt-FORMAT_ERRORS.false c.if-self-gt-FORMAT_ERRORS-2.false
