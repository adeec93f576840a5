use Rattle.std.proofs.Common.{◌++◌, ap, ap₂, ◌∙◌, sym, append_assoc, append-nil, arith, refl}
use Rattle.std.specs.Char.{len_utf8}
use Rattle.std.specs.Prelude.{string_bytes, encode_utf8, encode_utf8_all}
use Rattle.qrcode_contents.specs.fields.ContentLines.{fold_break, next_column, folded_from}
use Rattle.qrcode_contents.proofs.Folding.{column_after, column_after-more, folded_more}
use Rattle.qrcode_contents.proofs.fields.content_lines.push_folded.Goals as goal

pub loop-character-init : goal.loop-character-init
unfolding folded_from
loop-character-init c = record { at_most = omega arith; column = refl; says = sym (append-nil _) }

pub loop-character-preserved : goal.loop-character-preserved
loop-character-preserved c =
    let cs = c.loop-character.yielded in
    let next = c.in-Some.character in
    let width = len_utf8 next in
    record {
      at_most = c.in_ok-column.ensures.at_most;
      column = c.in_ok-column.ensures.column ∙ ap (λ n. next_column n width) c.loop-character.invariant.column ∙ sym (column_after-more 0 cs next);
      says =
          c.in_ok-column.ensures.appends
          ∙ ap₂ (λ x n. x ++ (fold_break n width ++ encode_utf8 next)) c.loop-character.invariant.says c.loop-character.invariant.column
          ∙ append_assoc (string_bytes c.args.text.now) (folded_from 0 0 (encode_utf8_all cs)) (fold_break (column_after 0 cs) width ++ encode_utf8 next)
          ∙ ap (λ x. string_bytes c.args.text.now ++ x) (sym (folded_more cs next));
    }
