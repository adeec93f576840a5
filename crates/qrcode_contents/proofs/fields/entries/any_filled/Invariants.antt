use Rattle.std.proofs.Common.{◌≡◌, length, map}
use Rattle.std.specs.List.{list_any}
use Rattle.qrcode_contents.specs.fields.Entries.{is_filled}
use Rattle.qrcode_contents.proofs.fields.entries.any_filled.Given as goal

abbrev pub invariant-loop-rest : goal.invariant-loop-rest
invariant-loop-rest l =
    list_any is_filled (map (λ part. part.now) l.rest) ≡ list_any is_filled (map (λ part. part.now) l.parts)

abbrev pub decreases-loop-rest : goal.decreases-loop-rest
decreases-loop-rest l = length l.rest
