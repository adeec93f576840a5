use Rattle.std.proofs.Common.{◌≡◌, ℕ, ◌+◌, ◌*◌, ap, ◌∙◌, arith, below_more, slice_index_or, length, mul_comm, map}
use Rattle.std.proofs.lemmas.Nat.{mul-add-lt}
use Rattle.qrcode_types.specs.Colors.{color_of}
use Rattle.qrcode_penalty.specs.Rows.{is_set, dark_in}
use Rattle.qrcode_penalty.proofs.RowLists.{read}
use Rattle.qrcode_types.specs.declared.types.Color.TheVariants.{Light}
use Rattle.qrcode_symbol.proofs.canvas.unpacking.unpack_rows.Goals as goal

zero_mul : (w : ℕ) → 0 ≡ 0 * w
zero_mul w = omega arith

pub loop-y-init : goal.loop-y-init
loop-y-init g c = record {
  size = ap length c.requires.empty ∙ zero_mul c.args.width;
  shown = λ x y h l. absurd (omega arith);
}

pub loop-y-preserved : goal.loop-y-preserved
unfolding dark_in
loop-y-preserved g c =
    let places = g.R.PackedRow.bits in
    let w = c.args.width in
    let n = c.loop-y.y in
    let old = c.loop-y.colors.items in
    let new = c.unpack_row.new.colors.items in
    let rows = c.args.rows.now in
    let size = c.loop-y.invariant.size in
    let written = c.in_ok-unpack_row.ensures.written in
    let step : (n + 1) * w ≡ n * w + w = grind arith in
    let at = read places rows n c.index-rows-y.result (omega arith) c.index-rows-y.is in
    record {
      size = omega (arith, written.size, size, step);
      shown = λ x y h l.
          let here : n * w + x ≡ length old + x = omega (arith, size) in
          below_more (λ y. slice_index_or new (y * w + x) Light ≡ color_of (dark_in (map places rows) x y)) n
          (λ y m. written.before (y * w + x) (omega (arith, mul-add-lt y w x n m h, mul_comm w n, size)) ∙ c.loop-y.invariant.shown x y h m)
          (ap (λ i. slice_index_or new i Light) here ∙ written.shown x h ∙ ap (λ r. color_of (is_set r x)) at)
          y l;
    }
