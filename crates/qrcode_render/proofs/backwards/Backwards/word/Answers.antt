use Rattle.std.proofs.Common.{◌≡◌, ◌+◌, ◌-◌, ◌≤◌, ◌++◌, drop, take, length, length-drop, drop_at, ap, ap₂, ◌∙◌, sym, subst, arith}
use Rattle.std.specs.Str.{IsUtf8}
use Rattle.std.proofs.lemmas.List.{drop-drop, length-take-le}
use Rattle.std.proofs.lemmas.Str.{IsUtf8-append, IsUtf8-had}
use Rattle.qrcode_render.proofs.backwards.Backwards.word.Goals as goal

-- UTF-8 before UTF-8 is UTF-8.
pub invariant_of-self : goal.invariant_of-self
invariant_of-self c =
    let b = c.self.inside in
    let size = length c.args.word.now in
    let at = b.start - size in
    let room : size ≤ b.start = omega (arith, ap length c.self.view_is, length-drop b.start b.bytes, c.requires) in
    let inside : at ≤ length b.bytes = omega (arith, c.self.invariant.0) in
    let end : at + (b.start - at) ≡ b.start = omega (arith, room) in
    let rest = drop-drop (b.start - at) at b.bytes ∙ ap (λ n. drop n b.bytes) end in
    let is = drop_at (take at b.bytes) _ at (length-take-le at b.bytes inside) ∙ ap₂ (λ word text. word ++ text) (c.copy_from_slice.ensures.after ∙ c.as_bytes.ensures.value) rest in (
      omega (arith, c.self.invariant.0),
      ∣ subst IsUtf8 (sym is) (IsUtf8-append c.args.word.now (drop b.start b.bytes) c.utf8.word (IsUtf8-had _ c.self.invariant.1)) ∣₁,
    )
