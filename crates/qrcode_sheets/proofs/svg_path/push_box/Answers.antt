use Rattle.std.proofs.Common.{◌≡◌, ◌++◌, subst}
use Rattle.std.specs.Prelude.{codes, string_bytes}
use Rattle.std.specs.Fmt.{decimal}
use Rattle.qrcode_sheets.proofs.svg_path.push_box.Goals as goal

pub returns-clause-appends : goal.returns-clause-appends
returns-clause-appends c =
    subst (λ e. string_bytes c.write.new.self ≡ string_bytes c.args.text.now ++ (codes " viewBox=\"0 0 " ++ (decimal c.args.columns ++ (codes " " ++ (decimal c.args.rows ++ e)))))
    c.box_end-end.ensures c.in_ok-write.ensures.bytes
