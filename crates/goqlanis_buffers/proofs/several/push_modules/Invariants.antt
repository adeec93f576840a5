use Rattle.std.proofs.Common.{◌≡◌, ◌++◌, take}
use Rattle.goqlanis_buffers.specs.Outputs.{module_bytes}
use Rattle.goqlanis_buffers.proofs.several.push_modules.Given as goal

-- the modules so far are appended
abbrev pub invariant-loop-color : goal.invariant-loop-color
invariant-loop-color l = l.all.items ≡ l.initial.all.items ++ module_bytes (take l.color-index l.fn.colors)
