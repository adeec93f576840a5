use Rattle.std.proofs.Common.{◌≡◌, length, take, drop}
use Rattle.goqlanis_buffers.specs.Outputs.{module_bytes}
use Rattle.goqlanis_buffers.proofs.symbols.fill_modules.Given as goal

-- the modules so far are written, and the rest is unchanged
abbrev pub invariant-loop-i : goal.invariant-loop-i
invariant-loop-i l =
    (length l.out ≡ length l.initial.out)
    × ((take l.i l.out ≡ module_bytes (take l.i l.fn.colors)) × (drop l.i l.out ≡ drop l.i l.initial.out))
