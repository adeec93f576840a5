use Rattle.std.proofs.Common.{◌≡◌, ◌≢◌, ℕ, ◌+◌, ◌%◌, ◌<◌, List, IfSome, IfNone, sym, ap, subst, ◌∙◌, true≢false, inr, arith}
use Rattle.qrcode_types.specs.Versions.{side}
use Rattle.qrcode.proofs.Sides.{same_root}
use Rattle.qrcode_reader.specs.Positions.{seen, nth_position, turn, IsPartlessIn, IsFirstPartsReading}
use Rattle.qrcode_reader.specs.Readings.{IsPartsReading, IsPartsCause, ReadsParts}
use Rattle.qrcode_reader.specs.declared.spell.parts.Part.{Part}
use Rattle.qrcode_reader.proofs.PartsRead.{parts_only_memory}
use Rattle.qrcode_reader.proofs.Positioned.{version_seen, turns_more, first_turn_more, turn_below, seen_upright, no_version, in_all}
use Rattle.qrcode_reader.proofs.positions.read_any_parts.Goals as goal
use Rattle.qrcode_reader.proofs.positions.read_any_parts.Goals.{in-Some-2+in-Err+else-is_memory, in_default-2, then-at-eq0, else-at-eq0}

pub returns-in_default-clause-causes : goal.returns-in_default-clause-causes
returns-in_default-clause-causes c = inr (
  c.in_default.ensures.none,
  λ w square p is_inverted bytes parts reads.
      no_version c.args.modules.now c.in_default.ensures.none w square p is_inverted reads.version reads.level reads.bits reads.read,
)

pub returns-in-Ok-clause-value : goal.returns-in-Ok-clause-value
returns-in-Ok-clause-value c =
    let s = c.args.modules.now in
    let v = c.in-Some.version in
    let view = c.in-Some-2.view in
    let r = c.in-Ok.reading in
    let stands = subst (λ o. IfSome o (λ view. nth_position (c.loop-at.at % 16) ≡ (view.position, view.is_inverted))) c.in-Some-2.is c.in_ok-view.ensures.position in
    let shown = subst (λ o. IfSome o (λ view. view.modules.items ≡ seen (side v) view.position view.is_inverted s)) c.in-Some-2.is c.in_ok-view.ensures.seen in
    let due = subst (λ o. IfSome o (λ view. turn v (side v) s (c.loop-at.at % 16) ≡ c.loop-at.at)) c.in-Some-2.is c.in_ok-view.ensures.turn in
    let read : IsPartsReading (seen (side v) view.position view.is_inverted s) r.version r.ec_level r.mask r.parts.bytes.items r.parts.parts.items r.wrong.items =
    subst (λ m. IsPartsReading m r.version r.ec_level r.mask r.parts.bytes.items r.parts.parts.items r.wrong.items) (c.deref.ensures.value ∙ shown) c.in-Ok.ensures.value in
    λ w square.
    let same = same_root (side v) w (sym c.in-Some.ensures.some.1 ∙ sym square) in
    let version = version_seen v r.version r.ec_level read.bits view.position view.is_inverted s c.in-Some.ensures.some.0 read.read.only.found in
    subst (λ n. IsFirstPartsReading n s view.position view.is_inverted r.version r.ec_level r.mask r.parts.bytes.items r.parts.parts.items r.wrong.items) same (record {
      read = read;
      number = c.loop-at.at % 16;
      position = stands;
      first = λ n below less. c.loop-at.invariant.first n below (subst (λ k. turn v (side v) s n < k) due (subst (λ u. turn u (side v) s n < turn u (side v) s (c.loop-at.at % 16)) version less));
    })

pub loop-at-preserved : goal.loop-at-preserved
loop-at-preserved c =
    let s = c.args.modules.now in
    let v = c.in-Some.version in
    let w = side v in
    let at = c.loop-at.at in
    record {
      first = turns_more v w s (IsPartlessIn w s) at c.loop-at.invariant.first (elim c.match-branch-2.branch [
        | in-Some-2+in-Err+else-is_memory k ↦ λ here bytes parts reads.
            let stands = subst (λ o. IfSome o (λ view. nth_position (at % 16) ≡ (view.position, view.is_inverted))) k.in-Some-2.is c.in_ok-view.ensures.position in
            let shown = subst (λ o. IfSome o (λ view. view.modules.items ≡ seen w view.position view.is_inverted s)) k.in-Some-2.is c.in_ok-view.ensures.seen in
            let here_read = subst (λ t. ReadsParts (seen w t.0 t.1 s) bytes parts) stands reads in
            let memory = parts_only_memory k.deref.result.now k.in-Err.error k.in-Err.ensures.causes bytes parts (subst (λ m. ReadsParts m bytes parts) (sym (k.deref.ensures.value ∙ shown)) here_read) in
            absurd (true≢false (sym (k.is_memory.ensures memory) ∙ k.if-is_memory.false))
        | in_default-2 k ↦ λ here. absurd (subst (λ o. IfNone o (turn v w s (at % 16) ≢ at)) k.in_default-2.is c.in_ok-view.ensures.none here)
      ]);
      why = elim c.match-branch-2.branch [
        | in-Some-2+in-Err+else-is_memory k ↦ elim k.if-at-eq0.branch [
          | then-at-eq0 z ↦ λ less.
              let stands = subst (λ o. IfSome o (λ view. nth_position (at % 16) ≡ (view.position, view.is_inverted))) k.in-Some-2.is c.in_ok-view.ensures.position in
              let shown = subst (λ o. IfSome o (λ view. view.modules.items ≡ seen w view.position view.is_inverted s)) k.in-Some-2.is c.in_ok-view.ensures.seen in
              let upright = ap nth_position (sym z.if-at-eq0.true) ∙ stands in
              let same = k.deref.ensures.value ∙ shown ∙ ap (λ t. seen w t.0 t.1 s) (sym upright) ∙ seen_upright w s (sym c.in-Some.ensures.some.1) in
              subst (IsPartsCause s) (sym (k.why-is ∙ z.why-is)) (subst (λ m. IsPartsCause m k.in-Err.error) same k.in-Err.ensures.causes)
          | else-at-eq0 z ↦ subst (λ e. turn v w s 0 < at + 1 → IsPartsCause s e) (sym (k.why-is ∙ z.why-is))
              (first_turn_more v w s (IsPartsCause s c.loop-at.why) at c.loop-at.invariant.why (λ here zero. absurd (z.if-at-eq0.false zero)))
        ]
        | in_default-2 k ↦ subst (λ e. turn v w s 0 < at + 1 → IsPartsCause s e) (sym k.why-is)
            (first_turn_more v w s (IsPartsCause s c.loop-at.why) at c.loop-at.invariant.why
            (λ here. absurd (subst (λ o. IfNone o (turn v w s (at % 16) ≢ at)) k.in_default-2.is c.in_ok-view.ensures.none here)))
      ];
    }

pub returns-clause-causes : goal.returns-clause-causes
returns-clause-causes c =
    let s = c.args.modules.now in
    let v = c.in-Some.version in
    inr (
      c.loop-at.invariant.why (turn_below v (side v) s 0 c.loop-at.at (omega arith) c.loop-at-test.false),
      λ w square.
          let same = same_root (side v) w (sym c.in-Some.ensures.some.1 ∙ sym square) in
          in_all (λ p is_inverted. (bytes : List ℕ) (parts : List Part) → ¬ ReadsParts (seen w p is_inverted s) bytes parts) (λ n below. subst (λ m. IsPartlessIn m s n) same (c.loop-at.invariant.first n below (turn_below v (side v) s n c.loop-at.at below c.loop-at-test.false))),
    )
