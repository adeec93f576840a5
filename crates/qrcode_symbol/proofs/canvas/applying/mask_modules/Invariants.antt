use Rattle.std.proofs.Common.{◌≡◌, ℕ, ◌<◌, ◌≤◌, ◌/◌, ◌%◌, get_or}
use Rattle.qrcode_symbol.specs.Canvas.{mask_module}
use Rattle.qrcode_symbol.specs.declared.canvas.Module.TheVariants.{Empty}
use Rattle.qrcode_symbol.proofs.canvas.applying.mask_modules.Given as goal

abbrev pub invariant-loop-i : goal.invariant-loop-i
invariant-loop-i l = record {
  done : (k : ℕ) → k < l.i → get_or l.modules k Empty ≡ mask_module l.fn.version l.layer.1.1.0 l.fn.mask (k % l.width) (k / l.width) (get_or l.initial.modules k Empty);
  rest : (k : ℕ) → l.i ≤ k → get_or l.modules k Empty ≡ get_or l.initial.modules k Empty;
}
