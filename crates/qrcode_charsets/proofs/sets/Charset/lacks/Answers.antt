use Rattle.std.proofs.Common.{◌<◌, ◌+◌, [], ◌∷◌, ◌++◌, length, take, refl, sym, ap, subst, ◌∙◌, arith}
use Rattle.std.specs.Prelude.{chars}
use Rattle.std.proofs.lemmas.Iterator.{YieldsList-from_chars}
use Rattle.std.proofs.lemmas.Iterator.Consumers.{YieldsList-so_far, YieldsList-turn, YieldsList-end}
use Rattle.std.proofs.lemmas.List.{map-id, length_push}
use Rattle.std.proofs.lemmas.Str.{length-le-encodes, encodes-chars}
use Rattle.qrcode_charsets.specs.Charsets.{Has}
use Rattle.qrcode_charsets.specs.Codes.{code_bytes}
use Rattle.qrcode_charsets.proofs.Writings.{written-nil, written-append, lacks_first, lacks_whole}
use Rattle.qrcode_charsets.proofs.sets.Charset.lacks.Goals as goal

pub loop-character-init : goal.loop-character-init
loop-character-init c = record { count = refl; has = ([], written-nil c.args.self) }

pub loop-character-preserved : goal.loop-character-preserved
loop-character-preserved c =
    let before = c.loop-character.invariant in
    let yielded = c.loop-character.yielded in
    let here = c.in-Some.character in
    let code = code_bytes c.in-Some-code.field-0 in
    record {
      count = omega (arith, before.count, length_push yielded here);
      has = (before.has.0 ++ code, written-append c.args.self yielded (here ∷ []) before.has.0 code before.has.1 c.in-Some-code.ensures);
    }

pub overflow_add-place : goal.overflow_add-place
overflow_add-place c =
    let text = c.args.text.now in
    let t = YieldsList-turn (YieldsList-from_chars text c.utf8.text cc) c.loop-character.yielded _ c.loop-character.yielded_by _ _ c.in-Some.character c.in-Some.is c.next.ensures.steps in
    omega (arith, t.0, c.loop-character.invariant.count, length-le-encodes (chars text), ap length (encodes-chars text c.utf8.text))

pub returns-in-None-code : goal.returns-in-None-code
returns-in-None-code c =
    let text = c.args.text.now in
    let set = c.args.self in
    let road = YieldsList-from_chars text c.utf8.text cc in
    let n = c.loop-character.invariant.count in
    let t = YieldsList-turn road c.loop-character.yielded _ c.loop-character.yielded_by _ _ c.in-Some.character c.in-Some.is c.next.ensures.steps in
    let so_far = YieldsList-so_far road c.loop-character.yielded _ c.loop-character.yielded_by in
    let front = sym (map-id c.loop-character.yielded) ∙ so_far ∙ ap (λ k. take k (chars text)) (sym n) in
    let first = lacks_first set (chars text) (length c.loop-character.yielded) c.in-Some.character t.0 t.1 c.in-None-code.ensures in
    record {
      has = lacks_whole set (chars text) (length c.loop-character.yielded) c.in-Some.character t.0 t.1 c.in-None-code.ensures;
      first = (
        subst (λ k. k < length (chars text)) (sym n) t.0,
        subst (Has set) front c.loop-character.invariant.has,
        subst (λ k. ¬ Has set (take (k + 1) (chars text))) (sym n) first,
      );
    }

pub returns : goal.returns
returns c =
    let t = YieldsList-end (YieldsList-from_chars c.args.text.now c.utf8.text cc) c.loop-character.yielded _ c.loop-character.yielded_by _ _ c.in-None.is c.next.ensures.steps in
    record { has = subst (Has c.args.self) (sym (map-id c.loop-character.yielded) ∙ t.0) c.loop-character.invariant.has; first = tt }
