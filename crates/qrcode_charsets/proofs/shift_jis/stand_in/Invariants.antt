use Rattle.std.proofs.Common.{◌≡◌, ◌++◌, ◌-◌, ◌≤◌, length, drop}
use Rattle.qrcode_charsets.specs.ShiftJis.{stand_in}
use Rattle.qrcode_charsets.proofs.shift_jis.stand_in.Given as goal

abbrev pub invariant-loop-place : goal.invariant-loop-place
invariant-loop-place l = record {
  inside : l.place ≤ length l.bytes;
  rest : l.made.items ++ stand_in (drop l.place l.bytes) ≡ stand_in l.bytes;
}

abbrev pub decreases-loop-place : goal.decreases-loop-place
decreases-loop-place l = length l.bytes - l.place
