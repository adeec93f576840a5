use Rattle.std.proofs.Common.{◌≡◌, ◌-◌, ◌<◌, length, take, get_or, set, get_or-set_other, get_or-set_same, subst, refl, inl, inr, sym, ap, ◌∙◌, arith}
use Rattle.std.proofs.Math.ListN.{length-set}
use Rattle.std.proofs.lemmas.Bool.{cases_eq}
use Rattle.std.proofs.lemmas.Grind.{same_number_lists}
use Rattle.std.proofs.lemmas.List.{get_or-take, length-take-le}
use Rattle.std.specs.Int.Bits.{bit_xor, xor_lt}
use Rattle.qrcode_ec.proofs.Bytes.{bytes_from}
use Rattle.qrcode_ec.proofs.Syndromes.{zeros_at}
use Rattle.qrcode_ec.proofs.Xor.{xor_cancel}
use Rattle.qrcode_reader.proofs.correct.errors.corrected.Goals as goal

pub loop-i-init : goal.loop-i-init
loop-i-init c = record { long = refl; bytes = λ k. subst (λ x. x < 256) (sym (zeros_at 255 k)) (omega arith); below = λ n corrected is corrects k less. absurd (omega arith) }

pub loop-i-preserved : goal.loop-i-preserved
loop-i-preserved c =
    let block = c.args.block.now in
    let i = c.loop-i.i in
    let old = c.loop-i.bytes in
    let m = length block in
    let error = c.error_at.result in
    let here : get_or (set old i (bit_xor (get_or block i 0) error)) i 0 ≡ bit_xor (get_or block i 0) error =
    get_or-set_same old i (bit_xor (get_or block i 0) error) 0 (omega (arith, c.loop-i.invariant.long)) in
    record {
      long = length-set old i (bit_xor (get_or block i 0) error) ∙ c.loop-i.invariant.long;
      bytes = λ k. elim (cases_eq k i) [
        | inl same ↦
            subst (λ x. x < 256) (sym (ap (λ j. get_or (set old i (bit_xor (get_or block i 0) error)) j 0) same ∙ here))
            (xor_lt 8 (get_or block i 0) error (omega (arith, c.type_inv.block i)) (omega arith))
        | inr other ↦ subst (λ x. x < 256) (sym (get_or-set_other old i k (bit_xor (get_or block i 0) error) 0 (λ e. other e))) (c.loop-i.invariant.bytes k)
      ];
      below = λ n corrected is corrects k less. elim (cases_eq k i) [
        | inl same ↦
            ap (λ j. get_or (set old i (bit_xor (get_or block i 0) error)) j 0) same
            ∙ here
            ∙ ap (bit_xor (get_or block i 0)) (c.error_at.ensures.value n block corrected is (omega arith) corrects
            ∙ ap (λ j. bit_xor (get_or block j 0) (get_or corrected j 0)) (let e : m - 1 - (m - 1 - i) ≡ i = omega arith in e))
            ∙ xor_cancel (get_or block i 0) (get_or corrected i 0) ∙ ap (λ j. get_or corrected j 0) (sym same)
        | inr other ↦
            get_or-set_other old i k (bit_xor (get_or block i 0) error) 0 (λ e. other e)
            ∙ c.loop-i.invariant.below n corrected is corrects k (omega (arith, less, other))
      ];
    }

pub returns-clause-bytes : goal.returns-clause-bytes
returns-clause-bytes c = bytes_from c.loop-i.bytes c.loop-i.invariant.bytes

pub returns-clause-value : goal.returns-clause-value
returns-clause-value c = λ n corrected is corrects.
    let m = length c.args.block.now in
    let bytes = c.loop-i.bytes in
    let long : length (take m bytes) ≡ m = length-take-le m bytes (omega (arith, c.loop-i.invariant.long)) in
    same_number_lists (take m bytes) corrected (long ∙ corrects.equal_length)
    (λ k less. get_or-take m bytes k 0 (omega (arith, less, long)) ∙ c.loop-i.invariant.below n corrected is corrects k (omega (arith, less, long)))
