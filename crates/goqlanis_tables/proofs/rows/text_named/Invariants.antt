use Rattle.std.proofs.Common.{◌≡◌, drop, map}
use Rattle.goqlanis_tables.specs.Rows.{pair_of, text_named}
use Rattle.goqlanis_tables.proofs.rows.text_named.Given as goal

abbrev pub invariant-loop-known : goal.invariant-loop-known
invariant-loop-known l = text_named (map pair_of (drop l.known-index l.pairs)) l.name ≡ text_named (map pair_of l.pairs) l.name
