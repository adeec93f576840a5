use Rattle.std.proofs.Common.{◌≡◌, ℕ, List, length, Option, Some, None, ap, refl, sym, subst, ◌∙◌, arith, rules}
use Rattle.std.specs.Prelude.{IfNone, IfSome}
use Rattle.qrcode_types.specs.declared.types.Color.{Color}
use Rattle.goqlanis_buffers.proofs.Fields.{handed_back}
use Rattle.goqlanis_buffers.specs.Answers.{IsAnyReadingCause}
use Rattle.goqlanis_buffers.specs.Outputs.{IsFilled}
use Rattle.goqlanis_buffers.specs.Readings.{found_anywhere, IsReadAnywhere, IsReadNowhere}
use Rattle.goqlanis_buffers.proofs.reading.read_any_into.Goals as goal

-- unpacks `IfNone` of a None, and `IfSome` of a Some
of_none : {A : Type 0} (P : Type 0) (o : Option A) → o ≡ None → IfNone o P → P
of_none P o is h = subst (λ o. IfNone o P) is h

of_some : {A : Type 0} (P : A → Type 0) (o : Option A) (x : A) → o ≡ Some x → IfSome o P → P x
of_some P o x is h = subst (λ o. IfSome o P) is h

pub returns-in-Ok-None : goal.returns-in-Ok-None
returns-in-Ok-None c =
    let none = of_none _ c.in-Ok-None.field-0 c.in-Ok-None.field-0-is c.in-Ok-None.ensures.none in
    record { made = tt; unchanged = refl; causes = subst IsReadNowhere (c.deref.ensures.value ∙ c.in_ok-colors.ensures.value) (record { none = none }) }

pub returns-in_err-put : goal.returns-in_err-put
returns-in_err-put c =
    let any = c.in-Ok-Some in
    let square = of_some _ any.field-0 any.found any.field-0-is any.ensures.square in
    let first = of_some _ any.field-0 any.found any.field-0-is any.ensures.value in
    let read = subst (λ (s : List Color). IsReadAnywhere s (found_anywhere any.found)) (c.deref.ensures.value ∙ c.in_ok-colors.ensures.value)
    (record { side = square.0; square = square.1; read = first square.0 square.1 }) in
    let e = c.in_err-put.ensures in
    handed_back _ _ _ _ _ _ c.from_residual-in_err-put.ensures e.unchanged
    (subst (IsAnyReadingCause c.args.modules.now (length c.args.bytes.now)) (sym e.causes)
    (found_anywhere any.found, (read, omega (arith, e.no_room, ap length c.deref-2.ensures.value))))

pub returns : goal.returns
returns c =
    let any = c.in-Ok-Some in
    let square = of_some _ any.field-0 any.found any.field-0-is any.ensures.square in
    let first = of_some _ any.field-0 any.found any.field-0-is any.ensures.value in
    record {
      made = record {
        found = found_anywhere any.found;
        read = subst (λ (s : List Color). IsReadAnywhere s (found_anywhere any.found)) (c.deref.ensures.value ∙ c.in_ok-colors.ensures.value)
            (record { side = square.0; square = square.1; read = first square.0 square.1 });
        filled = subst (λ (items : List ℕ). IsFilled c.args.bytes.now c.put.new.out items) c.deref-2.ensures.value c.in_ok-put.ensures.filled;
        reported = search rules;
        position_reported = c.position_number.ensures.value;
      };
      unchanged = tt;
      causes = tt;
    }
