-- The canvas after a mutable reference to one of its modules ends.
use Rattle.std.specs.Prelude.{ℤ, slice_set}
use Rattle.std.specs.Borrow.{Lends, MutBor, Fml}
use Rattle.qrcode_symbol.specs.declared.canvas.Module.{Module}
use Rattle.qrcode_symbol.specs.contracts.canvas.Module.{the_row as module_row}
use Rattle.qrcode_symbol.specs.Canvas.{Drawing, module_index}
use Rattle.qrcode_symbol.specs.contracts.canvas.Canvas.{the_row}

-- when the reference r ends, the canvas has its last value at that module, and is otherwise unchanged
abbrev pub LendsModule : MutBor Drawing → ℤ → ℤ → MutBor Module → Fml
LendsModule s x y r = Lends the_row module_row s r (λ m. record s.now { modules = slice_set s.now.modules (module_index s.now.version x y) m })
