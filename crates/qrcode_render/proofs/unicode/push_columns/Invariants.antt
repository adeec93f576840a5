use Rattle.std.proofs.Common.{◌≡◌, ◌++◌, false, get_or}
use Rattle.std.specs.List.{flat_map, range_with_len}
use Rattle.std.specs.Prelude.{string_bytes}
use Rattle.qrcode_render.specs.Texts.{column_text}
use Rattle.qrcode_render.proofs.unicode.push_columns.Given as goal

abbrev pub invariant-loop-x : goal.invariant-loop-x
invariant-loop-x l = string_bytes l.text ≡ string_bytes l.fn.text ++ flat_map (λ x. column_text l.marked l.other (get_or l.upper x false) (get_or l.lower x false)) (range_with_len 0 l.x)
