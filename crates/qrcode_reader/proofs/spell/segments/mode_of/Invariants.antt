use Rattle.std.proofs.Common.{◌≢◌, ℕ, ◌<◌, IsTrue, get_or}
use Rattle.qrcode_types.specs.Modes.{has_mode, indicator}
use Rattle.qrcode_types.specs.declared.types.Mode.TheVariants.{Numeric}
use Rattle.qrcode_reader.proofs.spell.segments.mode_of.Given as goal

abbrev pub invariant-loop-mode : goal.invariant-loop-mode
invariant-loop-mode l = (k : ℕ) → k < l.mode-index → let mode = get_or l.mode-items k Numeric in
    IsTrue (has_mode l.version mode) → indicator l.version mode ≢ l.number
