use Rattle.std.proofs.Common.{◌<◌, ◌-◌, ◌∷◌, [], drop, length, length-drop, ap, ◌∙◌, sym, subst, arith}
use Rattle.std.specs.Str.{IsUtf8}
use Rattle.std.proofs.lemmas.List.{drop-set}
use Rattle.std.proofs.lemmas.Str.{IsUtf8-append, IsUtf8-from_ascii, IsUtf8-had}
use Rattle.std.proofs.lemmas.Str.Ascii.{IsAscii-cons, IsAscii-nil}
use Rattle.qrcode_render.proofs.backwards.Backwards.byte.Goals as goal

-- An ASCII byte before UTF-8 is UTF-8.
pub invariant_of-self : goal.invariant_of-self
invariant_of-self c =
    let b = c.self.inside in
    let byte = c.args.byte in
    let some : 0 < b.start = omega (arith, ap length c.self.view_is, length-drop b.start b.bytes, c.requires.room) in
    let is = drop-set b.bytes (b.start - 1) byte (omega (arith, some, c.self.invariant.0)) ∙ ap (λ n. byte ∷ drop n b.bytes) (omega (arith, some)) in (
      omega (arith, c.self.invariant.0),
      ∣ subst IsUtf8 (sym is) (IsUtf8-append (byte ∷ []) (drop b.start b.bytes) (IsUtf8-from_ascii _ (IsAscii-cons byte [] c.requires.ascii IsAscii-nil)) (IsUtf8-had _ c.self.invariant.1)) ∣₁,
    )
