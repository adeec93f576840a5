use Rattle.std.proofs.Common.{◌/◌, ◌++◌, string_bytes, ap, ◌∙◌, sym}
use Rattle.std.proofs.lemmas.Fmt.{decimal_digit}
use Rattle.qrcode_contents.proofs.GeoReading.{digit_below, some_first}
use Rattle.qrcode_contents.proofs.geo.push_digit.Goals as goal

pub returns-clause-appends : goal.returns-clause-appends
returns-clause-appends c =
    let n = c.args.number in
    let small = digit_below n c.args.place c.requires.place c.requires.digit in
    c.in_ok-write.ensures.bytes
    ∙ ap (λ x. string_bytes c.args.text.now ++ x) (decimal_digit (n / c.args.place) small ∙ sym (some_first n c.args.place c.if-number-eq0.false))
