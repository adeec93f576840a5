use Rattle.std.proofs.Common.{◌≡◌, ◌∙◌, ◌*◌, ℕ, Bool, List, length, sym, ap, subst}
use Rattle.std.proofs.lemmas.List.FromFn.{length-map-range_with_len}
use Rattle.std.proofs.lemmas.Result.{IfOk-weaker, IfErr-weaker}
use Rattle.qrcode_types.specs.Versions.{side}
use Rattle.qrcode_types.specs.declared.types.Color.{Color}
use Rattle.qrcode.proofs.Sides.{same_root}
use Rattle.qrcode_reader.specs.Positions.{seen, seen_at}
use Rattle.qrcode_reader.specs.Readings.{IsBitCause}
use Rattle.qrcode_reader.specs.declared.refusals.Unread.{Unread}
use Rattle.qrcode_reader.specs.declared.positions.Position.{Position}
use Rattle.qrcode_check.specs.Checks.{IsCheck}
use Rattle.qrcode_check.specs.declared.checking.Check.{Check}
use Rattle.qrcode_check.proofs.checking.check_seen.Goals as goal

length_seen : (w : ℕ) (p : Position) (is_inverted : Bool) (s : List Color) → length (seen w p is_inverted s) ≡ w * w
unfolding seen
length_seen w p is_inverted s = length-map-range_with_len (seen_at w p is_inverted s) 0 (w * w)

pub returns : goal.returns
returns c =
    let s = c.args.modules.now in
    let v = c.in-Some.version in
    let turned = λ (w : ℕ). seen w c.args.position c.args.is_inverted s in
    let same : c.deref.result.now ≡ turned (side v) = c.deref.ensures.value ∙ c.in_ok-colors.ensures ∙ ap turned c.side.ensures.value in
    let stands : (w : ℕ) → w * w ≡ length s → c.deref.result.now ≡ turned w = λ w square. same ∙ ap turned (same_root (side v) w (sym c.in-Some.ensures.some.1 ∙ sym square)) in
    record {
      value = IfOk-weaker c.check_square.result (IsCheck c.deref.result.now) (λ (check : Check). (w : ℕ) → w * w ≡ length s → IsCheck (turned w) check)
          (λ check is w square. subst (λ (m : List Color). IsCheck m check) (stands w square) is)
          c.check_square.ensures.value;
      causes = IfErr-weaker c.check_square.result (IsBitCause c.deref.result.now) (λ (e : Unread). (w : ℕ) → w * w ≡ length s → IsBitCause (turned w) e)
          (λ e is w square. subst (λ (m : List Color). IsBitCause m e) (stands w square) is)
          c.check_square.ensures.causes;
      no_side = λ none. absurd (none (side v) (sym c.in-Some.ensures.some.1));
    }

pub returns-in_default-clause-causes : goal.returns-in_default-clause-causes
returns-in_default-clause-causes c =
    λ w square v valid same. c.in_default.ensures.none v valid (sym square ∙ sym (length_seen w c.args.position c.args.is_inverted c.args.modules.now) ∙ same)
