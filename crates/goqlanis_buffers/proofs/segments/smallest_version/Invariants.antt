use Rattle.std.proofs.Common.{◌<◌, ◌≤◌, ℕ, pos}
use Rattle.qrcode_types.specs.declared.types.Version.TheVariants.{Normal}
use Rattle.goqlanis_buffers.specs.Segments.{HasNoRoom}
use Rattle.goqlanis_buffers.proofs.segments.smallest_version.Given as goal

-- no smaller version has room for the segments
abbrev pub invariant-loop-number : goal.invariant-loop-number
invariant-loop-number l = (1 ≤ l.number) × ((n : ℕ) → 1 ≤ n → n < l.number → HasNoRoom (Normal (pos n)) l.ec_level l.fn.segments)
