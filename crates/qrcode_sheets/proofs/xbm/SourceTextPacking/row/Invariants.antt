use Rattle.std.proofs.Common.{◌≡◌, ◌++◌, drop}
use Rattle.std.specs.Prelude.{codes}
use Rattle.std.specs.List.{flat_map}
use Rattle.qrcode_sheets.specs.Printers.{hex_pair, turned}
use Rattle.qrcode_sheets.proofs.xbm.SourceTextPacking.row.Given as goal

abbrev pub invariant-loop-i : goal.invariant-loop-i
invariant-loop-i l = l.row.items ++ flat_map (λ b. codes "0x" ++ hex_pair (turned b) ++ codes ",") (drop l.i l.bytes.items) ≡ flat_map (λ b. codes "0x" ++ hex_pair (turned b) ++ codes ",") l.bytes.items
