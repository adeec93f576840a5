use Rattle.std.proofs.Common.{◌≡◌, ◌<◌, ◌%◌, ◌∷◌, ℕ, zero, suc, [], false, get_or, ◌∙◌, arith}
use Rattle.qrcode_layout.specs.Masks.{turns}
use Rattle.qrcode_symbol.proofs.MaskRows.{periodic}
use Rattle.qrcode_reader.proofs.turned.Turned.new.Goals as goal

-- what holds of each number below six
six : (P : ℕ → Type 0) → P 0 → P 1 → P 2 → P 3 → P 4 → P 5 → (n : ℕ) → n < 6 → P n
six P a b c d e f zero h = a
six P a b c d e f (suc zero) h = b
six P a b c d e f (suc (suc zero)) h = c
six P a b c d e f (suc (suc (suc zero))) h = d
six P a b c d e f (suc (suc (suc (suc zero)))) h = e
six P a b c d e f (suc (suc (suc (suc (suc zero))))) h = f
six P a b c d e f (suc (suc (suc (suc (suc (suc n)))))) h = absurd (omega arith)

pub invariant_of-result-clause-value : goal.invariant_of-result-clause-value
invariant_of-result-clause-value c =
    let k = c.args.mask in
    let columns = c.column.result ∷ c.column-2.result ∷ c.column-3.result ∷ c.column-4.result ∷ c.column-5.result ∷ c.column-6.result ∷ [] in
    λ x y h.
    six (λ n. get_or (get_or columns n []) y false ≡ turns k n y) (c.column.ensures y h) (c.column-2.ensures y h) (c.column-3.ensures y h) (c.column-4.ensures y h) (c.column-5.ensures y h) (c.column-6.ensures y h)
    (x % 6) (omega arith)
    ∙ periodic k x y
