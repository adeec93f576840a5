use Rattle.std.proofs.Common.{◌≡◌, ℕ, ◌<◌, ◌≤◌, ◌/◌, ◌%◌, get_or}
use Rattle.qrcode_types.specs.declared.types.Color.TheVariants.{Light}
use Rattle.qrcode_symbol.specs.Penalties.{remasked_at}
use Rattle.qrcode_symbol.proofs.canvas.remasking.remask.Given as goal

abbrev pub invariant-loop-i : goal.invariant-loop-i
invariant-loop-i l = record {
  done : (k : ℕ) → k < l.i → get_or l.modules k Light ≡ remasked_at l.fn.version l.layer.1.1.0 l.fn.old l.fn.mask (k % l.width) (k / l.width) (get_or l.initial.modules k Light);
  rest : (k : ℕ) → l.i ≤ k → get_or l.modules k Light ≡ get_or l.initial.modules k Light;
}
