use Rattle.std.proofs.Common.{◌≡◌, [], ◌∷◌, ◌++◌, map, take, string_bytes}
use Rattle.qrcode_contents.specs.fields.ContentLines.{content_text, structured}
use Rattle.qrcode_contents.proofs.fields.content_lines.push_texts.Given as goal

abbrev pub invariant-loop-key : goal.invariant-loop-key
invariant-loop-key l =
    string_bytes l.text
    ≡ string_bytes l.initial.text ++ content_text (map (λ line. (line.0.now, structured (line.1.now ∷ []))) (take l.key-index l.lines))
