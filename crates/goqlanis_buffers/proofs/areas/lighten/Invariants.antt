use Rattle.std.proofs.Common.{◌≡◌, ◌<◌, ◌≤◌, ℕ, length, get_or}
use Rattle.qrcode_damage.specs.Areas.{covers}
use Rattle.goqlanis_buffers.specs.Areas.{covered_byte}
use Rattle.goqlanis_buffers.proofs.areas.lighten.Given as goal

-- the modules so far are light if they lie in the area; the rest is unchanged
abbrev pub invariant-loop-i : goal.invariant-loop-i
invariant-loop-i l =
    (length l.modules ≡ length l.initial.modules)
    × (((j : ℕ) → j < l.i → get_or l.modules j 0 ≡ covered_byte l.fn.width (covers l.fn.area) l.initial.modules j)
    × ((j : ℕ) → l.i ≤ j → get_or l.modules j 0 ≡ get_or l.initial.modules j 0))
