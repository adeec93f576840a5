use Rattle.std.proofs.Common.{◌≡◌, ◌+◌, ◌/◌, ◌%◌, map}
use Rattle.std.specs.List.{range_with_len}
use Rattle.qrcode_scan.specs.Files.{is_black_bit}
use Rattle.qrcode_scan.proofs.files.packed_marks.Given as goal

-- i pixels are unpacked, and the next one is in column x and row y
abbrev pub invariant-loop-i : goal.invariant-loop-i
invariant-loop-i l =
    (l.marks.items ≡ map (λ i. is_black_bit l.bytes ((l.across + 7) / 8) (i % l.across) (i / l.across)) (range_with_len 0 l._i))
    × ((l.x ≡ l._i % l.across) × (l.y ≡ l._i / l.across))
