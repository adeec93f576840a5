use Rattle.std.proofs.Common.{◌≡◌, drop}
use Rattle.qrcode_bits.specs.Tokens.{first_byte}
use Rattle.qrcode_gs1.specs.symbol.Fewest.{headers_of, costs_of}
use Rattle.qrcode_gs1.proofs.symbol.least.fewest_bits.Given as goal

abbrev pub invariant-loop-i : goal.invariant-loop-i
invariant-loop-i l = record {
  rest : l.costs ≡ costs_of (headers_of l.fn.version) (drop l.i l.bytes);
  follows : l.follows ≡ first_byte (drop l.i l.bytes);
}
