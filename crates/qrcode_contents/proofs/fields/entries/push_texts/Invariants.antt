use Rattle.std.proofs.Common.{◌≡◌, ◌++◌, map, take, string_bytes}
use Rattle.std.specs.List.{flat_map}
use Rattle.qrcode_contents.specs.fields.Entries.{single, marked_text}
use Rattle.qrcode_contents.proofs.fields.entries.push_texts.Given as goal

abbrev pub invariant-loop-key : goal.invariant-loop-key
invariant-loop-key l =
    string_bytes l.text
    ≡ string_bytes l.initial.text ++ flat_map marked_text (map (λ entry. single entry.0.now entry.1.now) (take l.key-index l.entries))
