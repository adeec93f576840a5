-- The header of a symbol among several, pushed as one number.
use Rattle.std.proofs.Common.{◌≡◌, ℕ, ◌+◌, ◌*◌, ◌^◌, ◌<◌, ◌≤◌, ◌++◌, length, false, ap, ◌∙◌, arith, subst, Some, None, if◌then◌else◌}
use Rattle.std.specs.Prelude.{Result}
use Rattle.std.proofs.lemmas.Bool.{true≢false}
use Rattle.qrcode_types.specs.Bits.{number_bits}
use Rattle.qrcode_types.specs.Versions.{is_micro}
use Rattle.qrcode_types.specs.declared.types.Version.{Version}
use Rattle.qrcode_types.specs.declared.types.Version.TheVariants.{Normal, Micro}
use Rattle.qrcode_types.specs.declared.types.QrError.{QrError}
use Rattle.qrcode_bits.specs.BitList.{BitList}
use Rattle.qrcode_bits.specs.Pushes.{Appends}
use Rattle.qrcode_bits.specs.Refusals.{append_refusal}
use Rattle.qrcode_bits.specs.StructuredAppend.{append_header}
use Rattle.qrcode_bits.proofs.Packing.{number_bits-cat}

-- the fields after the indicator as one number
pub append_fields : (place last parity : ℕ) → place ≤ 15 → last ≤ 15 → parity < 256
    → number_bits 16 (4096 * place + 256 * last + parity) ≡ number_bits 4 place ++ (number_bits 4 last ++ number_bits 8 parity)
append_fields place last parity p l x =
    let e : 4096 * place + 256 * last + parity ≡ place * 2 ^ 12 + (last * 2 ^ 8 + parity) = omega arith in
    ap (number_bits 16) e ∙ number_bits-cat 4 12 place (last * 2 ^ 8 + parity) (omega arith) ∙ ap (λ b. number_bits 4 place ++ b) (number_bits-cat 4 8 last parity (omega arith))

-- and together with the indicator
append_number : (place last parity n : ℕ) → place ≤ 15 → last ≤ 15 → parity < 256 → n ≡ 196608 + 256 * (16 * place + last) + parity → number_bits 20 n ≡ append_header place last parity
unfolding append_header
append_number place last parity n p l x e =
    let f : n ≡ 3 * 2 ^ 16 + (4096 * place + 256 * last + parity) = omega arith in
    ap (number_bits 20) f ∙ number_bits-cat 4 16 3 (4096 * place + 256 * last + parity) (omega arith) ∙ ap (λ b. number_bits 4 3 ++ b) (append_fields place last parity p l x)

-- in a Normal version, the number that is pushed has the bits of the contract
pub append_pushed : (v : Version) (place last parity n : ℕ) (old new : BitList) (result : Result (Unit {0}) QrError) → is_micro v ≡ false → place ≤ 15 → last ≤ 15 → parity < 256
    → n ≡ 196608 + 256 * (16 * place + last) + parity
    → Appends (append_refusal (length old.bits) (Some (number_bits 20 n))) (number_bits 20 n) old new result
    → Appends (append_refusal (length old.bits) (if is_micro v then None else Some (append_header place last parity))) (append_header place last parity) old new result
append_pushed (Micro v) place last parity n old new result m p l x e pushed = absurd (true≢false m)
append_pushed (Normal v) place last parity n old new result m p l x e pushed =
    subst (λ b. Appends (append_refusal (length old.bits) (Some b)) b old new result) (append_number place last parity n p l x e) pushed
