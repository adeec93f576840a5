use Rattle.std.proofs.Common.{◌≡◌, ℕ, ◌<◌, ◌≤◌, List, ◌++◌, replicate, take}
use Rattle.qrcode_sheets.specs.Zpl.{IsFieldRead}
use Rattle.qrcode_sheets.proofs.zpl.push_digits.Given as goal

-- the digits before the run are written
abbrev pub invariant-loop-i : goal.invariant-loop-i
invariant-loop-i l =
    (l.count ≤ 400) × ((l.digit < 16)
    × ((done : List ℕ) × ((take l.i l.digits ≡ done ++ replicate l.count l.digit)
    × ((n : ℕ) (before : List ℕ) → IsFieldRead n l.fn.field.items before → IsFieldRead n l.field.items (before ++ done)))))
