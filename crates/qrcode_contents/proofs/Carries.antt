-- Carries are digits.
use Rattle.std.proofs.Common.{ℕ, zero, suc, ◌<◌, get_or, arith, lit<}
use Rattle.qrcode_contents.specs.fields.Numbers.{carry_table}

-- a carry is a digit
pub carry_below : (k : ℕ) → k < 10 → get_or carry_table k 0 < 10
carry_below zero is = lit< tt
carry_below (suc zero) is = lit< tt
carry_below (suc (suc zero)) is = lit< tt
carry_below (suc (suc (suc zero))) is = lit< tt
carry_below (suc (suc (suc (suc zero)))) is = lit< tt
carry_below (suc (suc (suc (suc (suc zero))))) is = lit< tt
carry_below (suc (suc (suc (suc (suc (suc zero)))))) is = lit< tt
carry_below (suc (suc (suc (suc (suc (suc (suc zero))))))) is = lit< tt
carry_below (suc (suc (suc (suc (suc (suc (suc (suc zero)))))))) is = lit< tt
carry_below (suc (suc (suc (suc (suc (suc (suc (suc (suc zero))))))))) is = lit< tt
carry_below (suc (suc (suc (suc (suc (suc (suc (suc (suc (suc k)))))))))) is = absurd (omega arith)
