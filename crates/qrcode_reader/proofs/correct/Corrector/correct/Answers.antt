use Rattle.std.proofs.Common.{◌≡◌, ℕ, ◌/◌, ◌≤◌, List, length, take, false, true, subst, sym, ap, ◌∙◌, arith}
use Rattle.qrcode_ec.specs.Codes.{Corrects, Vanishes, distance}
use Rattle.qrcode_ec.proofs.Bytes.{take_bytes}
use Rattle.qrcode_reader.proofs.Remainders.{vanishes_from_zero, distance_self, corrects_itself, only_itself}
use Rattle.qrcode_reader.proofs.correct.Corrector.correct.Goals as goal
use Rattle.qrcode_reader.proofs.correct.Corrector.correct.Goals.{then-wrong-n-via-then-wrong-n, then-wrong-n-via-else-wrong-n+then-not-vanishes}

-- ---- a block without errors
block_vanishes : (c : goal.Then-is_zero) → Vanishes c.args.block.now c.args.self.now.divider.degree
block_vanishes c =
    let n = c.args.self.now.divider.degree in
    vanishes_from_zero n (take n c.residue-residue.result) c.args.block.now c.residue-residue.ensures.value (c.is_zero.ensures.0 c.if-is_zero.true)

pub returns-then-is_zero-clause-value : goal.returns-then-is_zero-clause-value
returns-then-is_zero-clause-value c = corrects_itself c.args.self.now.divider.degree c.args.block.now c.residue-residue.ensures.of_bytes (block_vanishes c)

pub returns-then-is_zero-clause-count : goal.returns-then-is_zero-clause-count
returns-then-is_zero-clause-count c = sym (distance_self c.args.block.now)

pub returns-then-is_zero-clause-only : goal.returns-then-is_zero-clause-only
returns-then-is_zero-clause-only c = λ corrected corrects.
    only_itself c.args.self.now.divider.degree c.args.block.now corrected c.residue-residue.ensures.of_bytes c.requires (block_vanishes c) corrects

-- ---- a block with errors
-- a block that can be corrected is corrected
not_refused : (c : goal.Joined-then-wrong-n) (corrected : List ℕ) → Corrects c.args.block.now c.args.self.now.divider.degree corrected → ⊥
not_refused c corrected corrects =
    let n = c.args.self.now.divider.degree in
    let found = c.candidate-bytes.ensures.value corrected corrects in
    elim c.then-wrong-n.branch [
      | then-wrong-n-via-then-wrong-n w ↦ absurd (omega (arith, w.if-wrong-n.true, c.distance-wrong.ensures, ap (distance c.args.block.now) found, corrects.near))
      | then-wrong-n-via-else-wrong-n+then-not-vanishes w ↦
          let is : false ≡ true = sym w.if-not-vanishes.true ∙ w.vanishes.ensures.value.1 (subst (λ xs. Vanishes xs n) (sym found) corrects.vanishes) in cc
    ]

pub returns-then-wrong-n-clause-accepts : goal.returns-then-wrong-n-clause-accepts
returns-then-wrong-n-clause-accepts c = λ corrected corrects. absurd (not_refused c corrected corrects)

pub returns-then-wrong-n-clause-only : goal.returns-then-wrong-n-clause-only
returns-then-wrong-n-clause-only c = λ corrected corrects. absurd (not_refused c corrected corrects)

pub returns-clause-value : goal.returns-clause-value
returns-clause-value c =
    let n = c.args.self.now.divider.degree in
    let block = c.args.block.now in
    let bytes = take (length block) c.candidate-bytes.result in
    let near : distance block bytes ≤ n / 2 = omega (arith, c.distance-wrong.ensures, c.if-wrong-n.false) in
    subst (Corrects block n) (sym c.copy_from_slice.ensures.after) (record {
      equal_length = sym c.copy_from_slice.ensures.len ∙ ap length c.copy_from_slice.ensures.after;
      bytes = take_bytes (length block) c.candidate-bytes.result c.candidate-bytes.ensures.bytes;
      vanishes = c.vanishes.ensures.value.0 c.if-not-vanishes.false;
      near = near;
    })

pub returns-clause-only : goal.returns-clause-only
returns-clause-only c = λ corrected corrects. sym (c.candidate-bytes.ensures.value corrected corrects) ∙ sym c.copy_from_slice.ensures.after
