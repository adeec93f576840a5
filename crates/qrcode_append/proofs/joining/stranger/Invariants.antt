use Rattle.std.proofs.Common.{◌≡◌, drop}
use Rattle.qrcode_append.specs.Joining.{first_stranger}
use Rattle.qrcode_append.proofs.joining.stranger.Given as goal

abbrev pub invariant-loop-index : goal.invariant-loop-index
invariant-loop-index l = first_stranger l.last l.parity l.index (drop l.index l.parts) ≡ first_stranger l.last l.parity 0 l.parts
