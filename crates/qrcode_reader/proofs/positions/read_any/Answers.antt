use Rattle.std.proofs.Common.{◌≡◌, ◌≢◌, ℕ, ◌%◌, ◌<◌, List, IfSome, IfNone, sym, subst, ◌∙◌, true≢false}
use Rattle.qrcode_types.specs.Versions.{side}
use Rattle.qrcode.specs.Reading.{Reads}
use Rattle.qrcode.proofs.Sides.{same_root}
use Rattle.qrcode_reader.specs.Positions.{seen, nth_position, turn, IsUnreadIn, IsFirstReading}
use Rattle.qrcode_reader.specs.Readings.{IsReading}
use Rattle.qrcode_reader.proofs.Positioned.{version_seen, turns_more, turn_below, unread_of_no_version, in_all}
use Rattle.qrcode_reader.proofs.positions.read_any.Goals as goal
use Rattle.qrcode_reader.proofs.positions.read_any.Goals.{in-Some-2+in-Err+else-is_memory, in_default-2}

pub returns-in_default-clause-none : goal.returns-in_default-clause-none
returns-in_default-clause-none c = unread_of_no_version c.args.modules.now c.in_default.ensures.none

pub returns-in-Ok-clause-value : goal.returns-in-Ok-clause-value
returns-in-Ok-clause-value c =
    let s = c.args.modules.now in
    let v = c.in-Some.version in
    let view = c.in-Some-2.view in
    let r = c.in-Ok.reading in
    let stands = subst (λ o. IfSome o (λ view. nth_position (c.loop-at.at % 16) ≡ (view.position, view.is_inverted))) c.in-Some-2.is c.in_ok-view.ensures.position in
    let shown = subst (λ o. IfSome o (λ view. view.modules.items ≡ seen (side v) view.position view.is_inverted s)) c.in-Some-2.is c.in_ok-view.ensures.seen in
    let due = subst (λ o. IfSome o (λ view. turn v (side v) s (c.loop-at.at % 16) ≡ c.loop-at.at)) c.in-Some-2.is c.in_ok-view.ensures.turn in
    let read : IsReading (seen (side v) view.position view.is_inverted s) r.version r.ec_level r.mask r.data.items r.wrong.items =
    subst (λ m. IsReading m r.version r.ec_level r.mask r.data.items r.wrong.items) (c.deref.ensures.value ∙ shown) c.in-Ok.ensures.value in
    λ w square.
    let same = same_root (side v) w (sym c.in-Some.ensures.some.1 ∙ sym square) in
    let version = version_seen v r.version r.ec_level read.bits view.position view.is_inverted s c.in-Some.ensures.some.0 read.read.only.found in
    subst (λ n. IsFirstReading n s view.position view.is_inverted r.version r.ec_level r.mask r.data.items r.wrong.items) same (record {
      read = read;
      number = c.loop-at.at % 16;
      position = stands;
      first = λ n below less. c.loop-at.invariant n below (subst (λ k. turn v (side v) s n < k) due (subst (λ u. turn u (side v) s n < turn u (side v) s (c.loop-at.at % 16)) version less));
    })

pub loop-at-preserved : goal.loop-at-preserved
loop-at-preserved c =
    let s = c.args.modules.now in
    let v = c.in-Some.version in
    let w = side v in
    let at = c.loop-at.at in
    turns_more v w s (IsUnreadIn w s) at c.loop-at.invariant (elim c.match-branch-2.branch [
      | in-Some-2+in-Err+else-is_memory k ↦ λ here bytes reads.
          let stands = subst (λ o. IfSome o (λ view. nth_position (at % 16) ≡ (view.position, view.is_inverted))) k.in-Some-2.is c.in_ok-view.ensures.position in
          let shown = subst (λ o. IfSome o (λ view. view.modules.items ≡ seen w view.position view.is_inverted s)) k.in-Some-2.is c.in_ok-view.ensures.seen in
          let here_read = subst (λ t. Reads (seen w t.0 t.1 s) bytes) stands reads in
          let memory = k.in-Err.ensures.accepts bytes (subst (λ m. Reads m bytes) (sym (k.deref.ensures.value ∙ shown)) here_read) in
          absurd (true≢false (sym (k.is_memory.ensures memory) ∙ k.if-is_memory.false))
      | in_default-2 k ↦ λ here. absurd (subst (λ o. IfNone o (turn v w s (at % 16) ≢ at)) k.in_default-2.is c.in_ok-view.ensures.none here)
    ])

pub returns-clause-none : goal.returns-clause-none
returns-clause-none c =
    let s = c.args.modules.now in
    let v = c.in-Some.version in
    λ w square.
    let same = same_root (side v) w (sym c.in-Some.ensures.some.1 ∙ sym square) in
    in_all (λ p is_inverted. (bytes : List ℕ) → ¬ Reads (seen w p is_inverted s) bytes) (λ n below. subst (λ m. IsUnreadIn m s n) same (c.loop-at.invariant n below (turn_below v (side v) s n c.loop-at.at below c.loop-at-test.false)))
