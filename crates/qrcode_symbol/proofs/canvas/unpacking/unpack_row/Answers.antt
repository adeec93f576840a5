use Rattle.std.proofs.Common.{◌≡◌, ◌+◌, ◌*◌, ◌/◌, ◌%◌, ◌^◌, ap, subst, refl, ◌∙◌, arith}
use Rattle.std.proofs.lemmas.Nat.{shr-shr}
use Rattle.qrcode_symbol.specs.Unpacking.{IsRowWritten}
use Rattle.qrcode_symbol.proofs.WrittenColors.{word_at, row_more}
use Rattle.qrcode_symbol.proofs.canvas.unpacking.unpack_row.Goals as goal

pub loop-init : goal.loop-init
loop-init g c = record {
  rest = omega arith;
  written = record {
    size = omega arith;
    before = λ i h. refl;
    shown = λ x h. absurd (omega arith);
  };
}

pub loop-preserved : goal.loop-preserved
loop-preserved g c =
    let places = g.R.PackedRow.bits in
    let line = places c.args.line in
    let k = c.loop.counter in
    let next : 64 * k + 64 ≡ 64 * (k + 1) = omega arith in
    let last : 64 * k + 63 + 1 ≡ 64 * (k + 1) = omega arith in
    let old = c.args.colors.now.items in
    let new = c.append.new.colors.items in
    record {
      rest = c.down-rest.ensures ∙ ap (λ n. n / 2 ^ 1) (c.down.ensures ∙ ap (λ n. n / 2 ^ 63) c.loop.invariant.rest ∙ shr-shr line (64 * k) 63) ∙ shr-shr line (64 * k + 63) 1 ∙ ap (λ n. line / 2 ^ n) last;
      written = subst (λ n. IsRowWritten line n old new) next
          (row_more line c.first_word.result (64 * k) 64 old c.loop.colors.items new c.loop.invariant.written c.in_ok-append.ensures.written
          (λ x h. word_at (places c.loop.rest) c.first_word.result line (64 * k) x h c.first_word.ensures c.loop.invariant.rest));
    }

pub returns-clause-written : goal.returns-clause-written
returns-clause-written g c =
    let places = g.R.PackedRow.bits in
    let line = places c.args.line in
    let k = c.loop.counter in
    let left = c.args.width % 64 in
    let all : 64 * k + left ≡ c.args.width = omega arith in
    let old = c.args.colors.now.items in
    let new = c.append-2.new.colors.items in
    subst (λ n. IsRowWritten line n old new) all
    (row_more line c.first_word-2.result (64 * k) left old c.loop.colors.items new c.loop.invariant.written c.in_ok-append-2.ensures.written
    (λ x h. word_at (places c.loop.rest) c.first_word-2.result line (64 * k) x (omega arith) c.first_word-2.ensures c.loop.invariant.rest))
