-- The bounds of the fields are those of the table.
use Rattle.std.proofs.Common.{subst, sym, arith, rules, IsTrue}
use Rattle.qrcode_types.specs.Versions.{has_level}
use Rattle.qrcode_types.proofs.BlockTable.{bounded, IsBounded}
use Rattle.qrcode_types.proofs.tables.Blocks.of.Goals as goal

pub invariant_of-result : goal.invariant_of-result
invariant_of-result c =
    let has : IsTrue (has_level c.args.version c.args.ec_level) = search rules in
    let b = subst IsBounded (sym c.entry-ec_length.ensures) (bounded c.args.version c.args.ec_level has) in
    record {
      some_ec = omega arith;
      ec_at_most = omega (arith, b.ec_at_most);
      some_blocks = omega (arith, b.some_blocks);
      blocks_at_most = omega (arith, b.blocks_at_most);
      some_data = omega (arith, b.some_data);
      data_at_most = omega (arith, b.data_at_most);
    }
