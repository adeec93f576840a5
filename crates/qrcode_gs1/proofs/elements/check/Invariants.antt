use Rattle.std.proofs.Common.{◌≡◌, map, drop}
use Rattle.qrcode_gs1.specs.Items.{item}
use Rattle.qrcode_gs1.specs.Refusals.{refusal_from}
use Rattle.qrcode_gs1.proofs.elements.check.Given as goal

abbrev pub invariant-loop-index : goal.invariant-loop-index
invariant-loop-index l =
    refusal_from l.index (map item (drop l.index l.elements)) ≡ refusal_from 0 (map item l.elements)
