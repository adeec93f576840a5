use Rattle.std.proofs.Common.{◌≡◌, length, take}
use Rattle.goqlanis_buffers.specs.Shades.{colors_of}
use Rattle.goqlanis_buffers.proofs.symbols.color_all.Given as goal

-- the modules so far are written
abbrev pub invariant-loop-i : goal.invariant-loop-i
invariant-loop-i l = (length l.colors ≡ length l.initial.colors) × (take l.i l.colors ≡ colors_of (take l.i l.fn.modules))
