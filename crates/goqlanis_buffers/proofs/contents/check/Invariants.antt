use Rattle.goqlanis_buffers.specs.Contents.{PassChecks}
use Rattle.goqlanis_buffers.proofs.contents.check.Given as goal

-- the fields so far pass their check
abbrev pub invariant-loop-place : goal.invariant-loop-place
invariant-loop-place l = PassChecks l.fn.count l.fn.given l.place
