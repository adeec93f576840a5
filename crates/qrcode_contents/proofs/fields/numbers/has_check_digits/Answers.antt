use Rattle.std.proofs.Common.{◌%◌, ◌==◌, take, drop, refl, ap, ap₂, ◌∙◌, sym}
use Rattle.std.specs.Prelude.{fold}
use Rattle.std.proofs.lemmas.List.Sums.{fold-append}
use Rattle.qrcode_contents.specs.fields.Numbers.{with_character}
use Rattle.qrcode_contents.proofs.fields.numbers.has_check_digits.Goals as goal

pub returns : goal.returns
returns c =
    let later = fold with_character 0 c.split_four.result.1.now in
    let bytes = c.args.bytes.now in
    ap (λ r. r == 1) (c.remainder_with-2.ensures.value later (sym (c.remainder_with.ensures.value 0 refl))
    ∙ ap₂ (λ xs ys. fold with_character (fold with_character 0 xs) ys % 97) c.split_four.ensures.later c.split_four.ensures.first
    ∙ ap (λ n. n % 97) (sym (fold-append with_character 0 (drop 4 bytes) (take 4 bytes))))
