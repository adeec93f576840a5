use Rattle.std.proofs.Common.{◌≡◌, ℕ, ◌<◌, length, slice_index_or}
use Rattle.qrcode_types.specs.Colors.{color_of}
use Rattle.qrcode_types.specs.declared.types.Color.TheVariants.{Light}
use Rattle.qrcode_penalty.specs.Rows.{is_set}
use Rattle.qrcode_symbol.proofs.canvas.unpacking.colors_of.Given as goal

abbrev pub invariant-loop-x : goal.invariant-loop-x
invariant-loop-x l = record {
  length : length l.colors ≡ 64;
  done : (k : ℕ) → k < l.x → slice_index_or l.colors k Light ≡ color_of (is_set l.fn.word k);
}
