use Rattle.std.proofs.Common.{◌≡◌, ◌<◌, ℕ, List, length, IfSome, subst, sym, ◌∙◌, arith, inl, inr}
use Rattle.std.proofs.lemmas.Result.{err_from_is_err_and}
use Rattle.qrcode_types.specs.Blocks.{AreBlocks}
use Rattle.qrcode_types.specs.Versions.{block_lengths, ec_length}
use Rattle.qrcode_ec.specs.Blocks.{block}
use Rattle.qrcode_ec.specs.Codes.{Corrects}
use Rattle.qrcode_reader.specs.Corrected.{AppendsBlock}
use Rattle.qrcode_reader.proofs.Corrections.{none_corrected, corrected_more, first_damaged}
use Rattle.qrcode_reader.proofs.Interleaved.{ec_length_is}
use Rattle.qrcode_reader.proofs.correction.correct_blocks.Goals as goal
use Rattle.qrcode_reader.proofs.correction.correct_blocks.Goals.{After-push}

are_blocks : (c : After-push) → AreBlocks c.args.version c.args.ec_level c.unwrap-blocks.result
are_blocks c = subst (λ o. IfSome o (AreBlocks c.args.version c.args.ec_level)) c.unwrap-blocks.ensures c.of.ensures.value

-- the corrector is that of the blocks
degree : (c : After-push) → c.new-corrector.result.divider.degree ≡ ec_length c.args.version c.args.ec_level
degree c = c.new-corrector.ensures.value ∙ sym (ec_length_is c.args.version c.args.ec_level c.unwrap-blocks.result (are_blocks c))

given : (c : After-push) → c.deref.result.now ≡ block c.args.version c.args.ec_level c.args.words.now c.loop-b.b
given c = c.deref.ensures.value ∙ c.in_ok-block.ensures.value

pub loop-b-init : goal.loop-b-init
loop-b-init c = none_corrected c.args.version c.args.ec_level c.args.words.now c.in_ok-with_capacity.field-0.items c.new.result.items c.in_ok-with_capacity.ensures.items c.new.ensures.items

pub returns-in_err-push-clause-refused : goal.returns-in_err-push-clause-refused
returns-in_err-push-clause-refused c =
    let k = (goal.at.returns-in_err-push-clause-refused c).After-push in
    let v = c.args.version in
    let l = c.args.ec_level in
    let words = c.args.words.now in
    let b = c.loop-b.b in
    let exists : b < length (block_lengths v l) = omega (arith, c.loop-b-test.true, c.count-b-end.ensures.of_version v l (are_blocks k)) in
    let p = err_from_is_err_and c.from_residual-in_err-push.result c.from_residual-in_err-push.ensures.1 in
    rw (p.1, p.2) (elim c.in_err-push.ensures.refused [
      | inl memory ↦ inl memory
      | inr damaged ↦
          let none = subst (λ n. (bytes : List ℕ) → ¬ Corrects (block v l words b) n bytes) (degree k) (subst (λ r. (bytes : List ℕ) → ¬ Corrects r c.new-corrector.result.divider.degree bytes) (given k) damaged.1) in
          inr (b, damaged.0, first_damaged v l words b c.loop-b.corrected.data.items c.loop-b.corrected.wrong.items exists c.loop-b.invariant none)
    ])

pub loop-b-preserved : goal.loop-b-preserved
loop-b-preserved c =
    let k = (goal.at.loop-b-preserved c).After-push in
    let v = c.args.version in
    let l = c.args.ec_level in
    let words = c.args.words.now in
    let old = c.loop-b.corrected in
    let new = c.push.new.self in
    let taken = subst (λ n. AppendsBlock n c.loop-b.b (block v l words c.loop-b.b) old.data.items new.data.items old.wrong.items new.wrong.items) (degree k)
    (subst (λ r. AppendsBlock c.new-corrector.result.divider.degree c.loop-b.b r old.data.items new.data.items old.wrong.items new.wrong.items) (given k) c.in_ok-push.ensures.taken) in
    corrected_more v l words c.loop-b.b old.data.items new.data.items old.wrong.items new.wrong.items c.loop-b.invariant taken
