use Rattle.std.proofs.Common.{◌≡◌, ◌∷◌, ◌++◌, map, take, string_bytes}
use Rattle.std.specs.List.{flat_map}
use Rattle.qrcode_contents.specs.fields.Escapes.{escaped}
use Rattle.qrcode_contents.proofs.fields.entries.push_parts.Given as goal

abbrev pub invariant-loop-part : goal.invariant-loop-part
invariant-loop-part l =
    string_bytes l.text
    ≡ string_bytes l.initial.text ++ flat_map (λ later. l.separator ∷ escaped l.escapes later) (map (λ part. part.now) (take l.part-index l.later))
