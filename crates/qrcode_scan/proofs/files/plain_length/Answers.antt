use Rattle.std.proofs.Common.{◌≡◌, below_more, rules, arith, true, false, get_or, length, sym}
use Rattle.std.proofs.lemmas.List.Sums.{prefix_len_is}
use Rattle.qrcode_scan.specs.Files.{is_plain}
use Rattle.qrcode_scan.proofs.files.plain_length.Goals as goal

pub loop-i-preserved : goal.loop-i-preserved
loop-i-preserved c =
    let plain : is_plain (get_or c.args.bytes.now c.loop-i.i 0) ≡ true = search rules in
    below_more _ _ c.loop-i.invariant plain

pub returns-then-not-is_plain-clause-value : goal.returns-then-not-is_plain-clause-value
returns-then-not-is_plain-clause-value c =
    let other : is_plain (get_or c.args.bytes.now c.loop-i.i 0) ≡ false = search rules in
    sym (prefix_len_is is_plain c.args.bytes.now c.loop-i.i 0 (omega arith) c.loop-i.invariant (λ _. other))

pub returns-clause-value : goal.returns-clause-value
returns-clause-value c =
    sym (prefix_len_is is_plain c.args.bytes.now (length c.args.bytes.now) 0 (omega arith) (λ k inside. c.loop-i.invariant k (omega (arith, inside))) (λ inside. absurd (omega (arith, inside))))
