use Rattle.std.proofs.Common.{◌≡◌, ◌/◌, ◌%◌, slice_index_or, slice_set, refl, ap, ◌∙◌, arith, below_more}
use Rattle.std.proofs.Math.ListN.{length-set}
use Rattle.std.proofs.lemmas.List.{get_or-set_same, get_or-set_other}
use Rattle.qrcode_types.specs.Colors.{color_of}
use Rattle.qrcode_penalty.specs.Rows.{is_set}
use Rattle.qrcode_types.specs.declared.types.Color.TheVariants.{Light}
use Rattle.qrcode_symbol.proofs.WrittenColors.{bit_in_byte}
use Rattle.qrcode_symbol.proofs.canvas.unpacking.colors_of.Goals as goal

pub loop-x-init : goal.loop-x-init
loop-x-init c = record { length = refl; done = λ k h. absurd (omega arith) }

pub loop-x-preserved : goal.loop-x-preserved
unfolding is_set
loop-x-preserved c =
    let i = c.loop-x.x in
    let old = c.loop-x.colors in
    let item = c.color_of.result in
    let here : item ≡ color_of (is_set c.args.word i) = c.color_of.ensures ∙ ap color_of (ap (λ b. is_set b (i % 8)) (ap (λ bs. slice_index_or bs (i / 8) 0) c.to_le_bytes-bytes.ensures) ∙ bit_in_byte c.args.word i (omega arith)) in
    record {
      length = length-set old i item ∙ c.loop-x.invariant.length;
      done = below_more (λ k. slice_index_or (slice_set old i item) k Light ≡ color_of (is_set c.args.word k)) i
          (λ k h. get_or-set_other old i k item Light (λ e. absurd (omega arith)) ∙ c.loop-x.invariant.done k h)
          (get_or-set_same old i item Light (omega (arith, c.loop-x.invariant.length)) ∙ here);
    }

pub returns-clause-length : goal.returns-clause-length
returns-clause-length c = c.loop-x.invariant.length

pub returns-clause-shown : goal.returns-clause-shown
returns-clause-shown c = λ x h. c.loop-x.invariant.done x (omega arith)
