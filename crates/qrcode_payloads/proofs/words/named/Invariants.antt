use Rattle.std.proofs.Common.{◌≡◌, map, length}
use Rattle.qrcode_payloads.specs.Words.{named}
use Rattle.qrcode_payloads.proofs.words.named.Given as goal

abbrev pub decreases-loop-rest : goal.decreases-loop-rest
decreases-loop-rest g l = length l.rest

abbrev pub invariant-loop-rest : goal.invariant-loop-rest
invariant-loop-rest g l =
    named (map (λ word. (word.0.now, word.1)) l.rest) l.text ≡ named (map (λ word. (word.0.now, word.1)) l.words) l.text
