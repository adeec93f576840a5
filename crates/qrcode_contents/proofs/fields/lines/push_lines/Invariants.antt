use Rattle.std.proofs.Common.{◌≡◌, ◌++◌, map, take, string_bytes}
use Rattle.qrcode_contents.specs.fields.Lines.{later_text}
use Rattle.qrcode_contents.proofs.fields.lines.push_lines.Given as goal

abbrev pub invariant-loop-line : goal.invariant-loop-line
invariant-loop-line l =
    string_bytes l.text ≡ string_bytes l.initial.text ++ later_text (map (λ line. line.now) (take l.line-index l.lines))
