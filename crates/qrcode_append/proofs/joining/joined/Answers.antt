use Rattle.std.proofs.Common.{◌≡◌, ◌++◌, ℕ, List, length, sym, ap₂, ◌∙◌, below_more}
use Rattle.qrcode_append.specs.Joining.{parts_at, bytes_at}
use Rattle.qrcode_append.proofs.Shares.{range_more}
use Rattle.qrcode_append.proofs.joining.joined.Goals as goal

pub loop-place-preserved : goal.loop-place-preserved
loop-place-preserved c =
    let parts = c.args.parts.now in
    let found = c.in_ok-part_at.ensures.value in
    record {
      value = c.in_ok-extend_from_slice.ensures.items ∙ ap₂ (λ (xs ys : List ℕ). xs ++ ys) c.loop-place.invariant.value found.1 ∙ sym (range_more (bytes_at parts) c.loop-place.place);
      once = below_more (λ k. length (parts_at parts k) ≡ 1) c.loop-place.place c.loop-place.invariant.once found.0;
    }
