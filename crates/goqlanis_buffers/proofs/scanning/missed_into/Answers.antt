use Rattle.std.proofs.Common.{List, length, refl, ap, inr, subst, ◌∙◌, arith}
use Rattle.goqlanis_buffers.proofs.Fields.{put_as}
use Rattle.goqlanis_buffers.specs.Missing.{AreMissed}
use Rattle.goqlanis_buffers.specs.Outputs.{IsFilled}
use Rattle.goqlanis_buffers.specs.declared.scanning.Missed.{Missed}
use Rattle.goqlanis_buffers.proofs.scanning.missed_into.Goals as goal

pub returns : goal.returns
returns c =
    let told = c.in_ok-told.told.items in
    let read = c.in_ok-codes.ensures in
    let are : AreMissed c.args.file.now told = record {
      limited = omega arith;
      codes = c.in_ok-codes.codes.scans.items;
      read = read.value;
      some = read.some;
      whole = read.whole;
      each = c.in_ok-told.ensures c.args.file.now read.missed;
    } in
    let same = c.deref.ensures.value in
    let e = c.put.ensures in
    put_as _ _ _ _ c.deref.result.now _ e.filled e.counted e.unchanged e.causes e.no_room
    (λ count filled counted. record {
      told = told;
      missed = are;
      filled = subst (λ (items : List Missed). IsFilled c.args.missed.now c.put.new.out items) same filled;
      counted = counted ∙ ap length same;
    })
    (λ small. inr (refl, (told, (are, omega (arith, small, ap length same)))))
