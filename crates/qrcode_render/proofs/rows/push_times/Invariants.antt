use Rattle.std.proofs.Common.{◌≡◌, ◌++◌}
use Rattle.qrcode_render.specs.Grid.{repeated}
use Rattle.qrcode_render.proofs.rows.push_times.Given as goal

abbrev pub invariant-loop : goal.invariant-loop
invariant-loop l = l.raw.items ≡ l.fn.raw.items ++ repeated l.counter l.text
