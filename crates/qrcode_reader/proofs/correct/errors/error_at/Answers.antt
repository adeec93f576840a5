use Rattle.std.proofs.Common.{◌+◌, length, slice_index, subst, sym, ap, ◌∙◌, arith}
use Rattle.qrcode_ec.specs.Field.{power, product}
use Rattle.qrcode_reader.specs.correct.Polynomials.{IsDivision}
use Rattle.qrcode_reader.specs.correct.Errors.{error_at}
use Rattle.qrcode_reader.proofs.BlockCorrections.{known, values_are, no_error, no_slope, one_error, cancelled}
use Rattle.qrcode_reader.proofs.Locators.{value_rest}
use Rattle.qrcode_reader.proofs.Moments.{moments}
use Rattle.qrcode_reader.proofs.Sums.{combined_same}
use Rattle.qrcode_reader.proofs.correct.errors.error_at.Goals as goal

pub returns-then-value-ne0 : goal.returns-then-value-ne0
returns-then-value-ne0 c = record {
  value = λ n block corrected is below corrects.
      let s = c.args.locator.now in
      let p = c.args.place in
      let divided = subst (λ x. IsDivision s.current x c.divide-value.result.0 c.divide-value.result.1) c.power-point.ensures.value c.divide-value.ensures.value in
      sym (no_error (length block) n s.degree s.current c.divide-value.result.0 (error_at block corrected) p c.divide-value.result.1
      (known block (slice_index c.args.syndromes.now) n s.degree s.current corrected is corrects) below (omega arith) divided (omega arith));
}

pub returns-then-slope-eq0 : goal.returns-then-slope-eq0
returns-then-slope-eq0 c = record {
  value = λ n block corrected is below corrects.
      let s = c.args.locator.now in
      let q = c.divide-value.result.0 in
      let p = c.args.place in
      let divided = subst (λ x. IsDivision s.current x q c.divide-value.result.1) c.power-point.ensures.value c.divide-value.ensures.value in
      let divided = subst (IsDivision s.current (power p) q) c.if-value-ne0.false divided in
      let again = subst (λ x. IsDivision q x c.divide-slope.result.0 c.divide-slope.result.1) c.power-point.ensures.value c.divide-slope.ensures.value in
      sym (no_slope (length block) n s.degree s.current q (error_at block corrected) p
      (known block (slice_index c.args.syndromes.now) n s.degree s.current corrected is corrects) below divided c.divide-value.ensures.ends
      (value_rest q c.divide-slope.result.0 p c.divide-slope.result.1 (omega arith) again ∙ c.if-slope-eq0.true));
}

pub returns : goal.returns
returns c = record {
  value = λ n block corrected is below corrects.
      let s = c.args.locator.now in
      let q = c.divide-value.result.0 in
      let p = c.args.place in
      let slope = c.divide-slope.result.1 in
      let m = length block in
      let errors = error_at block corrected in
      let values = slice_index c.args.syndromes.now in
      let known = known block values n s.degree s.current corrected is corrects in
      let divided = subst (λ x. IsDivision s.current x q c.divide-value.result.1) c.power-point.ensures.value c.divide-value.ensures.value in
      let divided = subst (IsDivision s.current (power p) q) c.if-value-ne0.false divided in
      let again = subst (λ x. IsDivision q x c.divide-slope.result.0 slope) c.power-point.ensures.value c.divide-slope.ensures.value in
      let same = values_are block values n s.degree s.current corrected is corrects in
      cancelled c.quotient.result (errors p) slope (omega arith) (known.bytes p) (omega arith) (omega arith)
      (c.quotient.ensures ∙ c.combine-height.ensures.value
      ∙ combined_same s.degree q values (moments m errors) 0 c.divide-value.ensures.ends (λ j less. same (0 + j) (omega (arith, is.at_most)))
      ∙ one_error m n s.degree s.current q errors p known below divided
      ∙ ap (product (errors p)) (value_rest q c.divide-slope.result.0 p slope (omega arith) again));
}
