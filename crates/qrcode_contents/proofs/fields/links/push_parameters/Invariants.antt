use Rattle.std.proofs.Common.{◌≡◌, ◌++◌, length, map, string_bytes}
use Rattle.qrcode_contents.specs.fields.Links.{mark_text, query_text}
use Rattle.qrcode_contents.proofs.fields.links.push_parameters.Given as goal

abbrev pub invariant-loop-rest : goal.invariant-loop-rest
invariant-loop-rest l =
    string_bytes l.text ++ query_text (mark_text l.begun) (map (λ pair. (pair.0.now, pair.1.now)) l.rest)
    ≡ string_bytes l.initial.text ++ query_text (mark_text l.fn.begun) (map (λ pair. (pair.0.now, pair.1.now)) l.parameters)

abbrev pub decreases-loop-rest : goal.decreases-loop-rest
decreases-loop-rest l = length l.rest
