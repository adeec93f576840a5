use Rattle.std.proofs.Common.{◌≤◌, length}
use Rattle.qrcode_scan.proofs.finders.all_centred.Given as goal

abbrev pub invariant-loop-finder : goal.invariant-loop-finder
invariant-loop-finder l = length l.all.items ≤ l.finder-index
