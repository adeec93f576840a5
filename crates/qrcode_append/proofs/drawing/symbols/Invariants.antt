use Rattle.std.proofs.Common.{◌≡◌, ◌-◌, length}
use Rattle.qrcode_bits.specs.StructuredAppend.{parity}
use Rattle.qrcode_append.specs.Division.{part}
use Rattle.qrcode_append.specs.Reading.{EachAt}
use Rattle.qrcode_append.specs.Symbols.{IsPartSymbol}
use Rattle.qrcode_append.proofs.drawing.symbols.Given as goal

abbrev pub invariant-loop-place : goal.invariant-loop-place
invariant-loop-place l = record {
  made : length l.codes.items ≡ l.place;
  symbols : EachAt (λ place. IsPartSymbol l.wanted.manner l.wanted.version l.wanted.ec_level place (l.count - 1) (parity l.bytes) (part l.wanted.manner l.bytes l.count place)) l.codes.items;
}
