use Rattle.std.proofs.Common.{◌≡◌, take}
use Rattle.goqlanis_buffers.specs.Several.{modules_of}
use Rattle.goqlanis_buffers.proofs.several.modules_of.Given as goal

-- the modules of the symbols so far
abbrev pub invariant-loop-code : goal.invariant-loop-code
invariant-loop-code l = l.all.items ≡ modules_of (take l.code-index l.fn.codes)
