use Rattle.std.proofs.Common.{◌≡◌, map, take}
use Rattle.goqlanis_buffers.specs.Charsets.{charset_number}
use Rattle.goqlanis_buffers.proofs.charsets.sets_numbered.Given as goal

-- the sets so far have these numbers
abbrev pub invariant-loop-place : goal.invariant-loop-place
invariant-loop-place l = map charset_number l.sets.items ≡ take l.place l.fn.numbers
