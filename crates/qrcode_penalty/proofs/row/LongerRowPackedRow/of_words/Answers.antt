use Rattle.std.proofs.Common.{◌≡◌, ℕ, ◌+◌, ◌*◌, ◌%◌, ◌^◌, ap, ap₂, sym, ◌∙◌, arith}
use Rattle.std.proofs.lemmas.Nat.{mod-pow-add, mod_low, shr_high}
use Rattle.qrcode_penalty.proofs.row.LongerRowPackedRow.of_words.Goals as goal

pub returns : goal.returns
returns g c =
    let n = c.args.high * 2 ^ 64 + c.args.middle in
    let l = c.args.low in
    let r = g.R.PackedRow.room in
    let e : (0 * 2 ^ 64 + c.args.high) * 2 ^ 64 + c.args.middle ≡ n = omega arith in
    ap (λ b. b * 2 ^ 64 + l) (c.of_words.ensures ∙ ap (λ m. m % 2 ^ r) e)
    ∙ sym (mod-pow-add (n * 2 ^ 64 + l) r 64 ∙ ap₂ (λ (a b : ℕ). a % 2 ^ r * 2 ^ 64 + b) (shr_high n 64 l (omega arith)) (mod_low n 64 l (omega arith)))
