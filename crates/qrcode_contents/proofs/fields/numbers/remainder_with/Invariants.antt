use Rattle.std.proofs.Common.{◌≡◌, ℕ, ◌%◌, ◌<◌, take}
use Rattle.std.specs.Prelude.{fold}
use Rattle.qrcode_contents.specs.fields.Numbers.{with_character}
use Rattle.qrcode_contents.proofs.fields.numbers.remainder_with.Given as goal

abbrev pub invariant-loop-byte : goal.invariant-loop-byte
invariant-loop-byte l = record {
  below : l.remainder < 97;
  value : (n : ℕ) → n % 97 ≡ l.fn.remainder → l.remainder ≡ fold with_character n (take l.byte-index l.bytes) % 97;
}
