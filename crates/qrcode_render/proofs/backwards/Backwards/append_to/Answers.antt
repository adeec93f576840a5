use Rattle.std.proofs.Common.{◌-◌, drop, arith, length, length-drop, take_all, sym, subst}
use Rattle.std.specs.Str.{IsUtf8}
use Rattle.std.proofs.lemmas.Str.{IsUtf8-had}
use Rattle.qrcode_render.proofs.backwards.Backwards.append_to.Goals as goal

pub from_utf8_unchecked-text-requires : goal.from_utf8_unchecked-text-requires
from_utf8_unchecked-text-requires c =
    let b = c.self.inside in
    subst IsUtf8 (sym (take_all (128 - b.start) (drop b.start b.bytes) (omega (arith, length-drop b.start b.bytes)))) (IsUtf8-had _ c.self.invariant.1)
