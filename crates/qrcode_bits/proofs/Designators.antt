-- The bits after mode indicators that only Normal versions have.
use Rattle.std.proofs.Common.{◌≡◌, ℕ, ◌+◌, ◌*◌, ◌^◌, ◌<◌, ◌≤◌, ◌++◌, length, false, sym, ap, ◌∙◌, arith, subst, Some}
use Rattle.std.specs.Prelude.{nat_le, Result}
use Rattle.std.specs.Option.{option_map}
use Rattle.std.proofs.lemmas.Bool.{cond-true, cond-false, le-leb, lt-leb, true≢false}
use Rattle.qrcode_types.specs.Bits.{number_bits}
use Rattle.qrcode_types.specs.Versions.{is_micro}
use Rattle.qrcode_types.specs.declared.types.Version.{Version}
use Rattle.qrcode_types.specs.declared.types.Version.TheVariants.{Normal, Micro}
use Rattle.qrcode_types.specs.declared.types.QrError.{QrError}
use Rattle.qrcode_types.specs.declared.types.QrError.TheVariants.{InvalidEciDesignator}
use Rattle.qrcode_bits.specs.BitList.{BitList}
use Rattle.qrcode_bits.specs.Pushes.{Appends}
use Rattle.qrcode_bits.specs.Refusals.{append_refusal, eci_refusal, indicator_bits}
use Rattle.qrcode_bits.specs.Written.{eci_bits}
use Rattle.qrcode_bits.specs.declared.bits.ExtendedMode.TheVariants.{Fnc1Second}
use Rattle.qrcode_bits.proofs.Packing.{number_bits-cat}

-- a mode indicator and the number after it
eci_one : (n : ℕ) → n ≤ 127 → number_bits 12 (1792 + n) ≡ number_bits 4 7 ++ eci_bits n
unfolding eci_bits
eci_one n h =
    number_bits-cat 4 8 7 n (omega arith)
    ∙ ap (λ b. number_bits 4 7 ++ b) (sym (cond-true (nat_le n 127) (number_bits 8 n) _ (le-leb n 127 h)))

eci_two : (n : ℕ) → 127 < n → n ≤ 16383 → number_bits 20 (491520 + n) ≡ number_bits 4 7 ++ eci_bits n
unfolding eci_bits
eci_two n g h =
    ap (number_bits 20) (let e : 491520 + n ≡ 7 * 2 ^ 16 + (2 * 2 ^ 14 + n) = omega arith in e)
    ∙ number_bits-cat 4 16 7 (2 * 2 ^ 14 + n) (omega arith)
    ∙ ap (λ b. number_bits 4 7 ++ b) (number_bits-cat 2 14 2 n (omega arith)
    ∙ sym (cond-true (nat_le n 16383) (number_bits 2 2 ++ number_bits 14 n) _ (le-leb n 16383 h))
    ∙ sym (cond-false (nat_le n 127) (number_bits 8 n) _ (lt-leb n 127 g)))

eci_three : (n : ℕ) → 16383 < n → n ≤ 999999 → number_bits 28 (130023424 + n) ≡ number_bits 4 7 ++ eci_bits n
unfolding eci_bits
eci_three n g h =
    ap (number_bits 28) (let e : 130023424 + n ≡ 7 * 2 ^ 24 + (6 * 2 ^ 21 + n) = omega arith in e)
    ∙ number_bits-cat 4 24 7 (6 * 2 ^ 21 + n) (omega arith)
    ∙ ap (λ b. number_bits 4 7 ++ b) (number_bits-cat 3 21 6 n (omega arith)
    ∙ sym (cond-false (nat_le n 16383) (number_bits 2 2 ++ number_bits 14 n) _ (lt-leb n 16383 g))
    ∙ sym (cond-false (nat_le n 127) (number_bits 8 n) _ (lt-leb n 127 (omega arith))))

-- in a Normal version, the number that is pushed has the bits of the contract
eci_pushed : (v : Version) (n count number : ℕ) (old new : BitList) (result : Result (Unit {0}) QrError) → is_micro v ≡ false → n ≤ 999999
    → number_bits count number ≡ number_bits 4 7 ++ eci_bits n
    → Appends (append_refusal (length old.bits) (Some (number_bits count number))) (number_bits count number) old new result
    → Appends (eci_refusal v (length old.bits) n) (number_bits 4 7 ++ eci_bits n) old new result
eci_pushed (Micro v) n count number old new result m h e p = absurd (true≢false m)
eci_pushed (Normal v) n count number old new result m h e p =
    let bits = number_bits 4 7 ++ eci_bits n in
    let q = subst (λ b. Appends (append_refusal (length old.bits) (Some b)) b old new result) e p in
    subst (λ r. Appends r bits old new result) (sym (cond-true (nat_le n 999999) (append_refusal (length old.bits) (Some bits)) (Some InvalidEciDesignator) (le-leb n 999999 h))) q

pub eci_pushed_one : (v : Version) (n : ℕ) (old new : BitList) (result : Result (Unit {0}) QrError) → is_micro v ≡ false → n ≤ 127
    → Appends (append_refusal (length old.bits) (Some (number_bits 12 (1792 + n)))) (number_bits 12 (1792 + n)) old new result
    → Appends (eci_refusal v (length old.bits) n) (number_bits 4 7 ++ eci_bits n) old new result
eci_pushed_one v n old new result m h p = eci_pushed v n 12 (1792 + n) old new result m (omega arith) (eci_one n h) p

pub eci_pushed_two : (v : Version) (n : ℕ) (old new : BitList) (result : Result (Unit {0}) QrError) → is_micro v ≡ false → 127 < n → n ≤ 16383
    → Appends (append_refusal (length old.bits) (Some (number_bits 20 (491520 + n)))) (number_bits 20 (491520 + n)) old new result
    → Appends (eci_refusal v (length old.bits) n) (number_bits 4 7 ++ eci_bits n) old new result
eci_pushed_two v n old new result m g h p = eci_pushed v n 20 (491520 + n) old new result m (omega arith) (eci_two n g h) p

pub eci_pushed_three : (v : Version) (n : ℕ) (old new : BitList) (result : Result (Unit {0}) QrError) → is_micro v ≡ false → 16383 < n → n ≤ 999999
    → Appends (append_refusal (length old.bits) (Some (number_bits 28 (130023424 + n)))) (number_bits 28 (130023424 + n)) old new result
    → Appends (eci_refusal v (length old.bits) n) (number_bits 4 7 ++ eci_bits n) old new result
eci_pushed_three v n old new result m g h p = eci_pushed v n 28 (130023424 + n) old new result m h (eci_three n g h) p

pub fnc1_second_pushed : (v : Version) (n : ℕ) (old new : BitList) (result : Result (Unit {0}) QrError) → is_micro v ≡ false → n < 256
    → Appends (append_refusal (length old.bits) (Some (number_bits 12 (2304 + n)))) (number_bits 12 (2304 + n)) old new result
    → Appends (append_refusal (length old.bits) (option_map (λ bits. bits ++ number_bits 8 n) (indicator_bits v Fnc1Second))) (number_bits 4 9 ++ number_bits 8 n) old new result
fnc1_second_pushed (Micro v) n old new result m h p = absurd (true≢false m)
fnc1_second_pushed (Normal v) n old new result m h p =
    subst (λ b. Appends (append_refusal (length old.bits) (Some b)) b old new result) (number_bits-cat 4 8 9 n h) p
