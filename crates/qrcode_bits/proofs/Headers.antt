-- The sizes of mode indicators and length fields.
use Rattle.std.proofs.Common.{ℕ, ◌≤◌, ◌<◌, ◌^◌, IsTrue, arith, pos, negsuc}
use Rattle.std.specs.Prelude.{nat_le}
use Rattle.std.proofs.lemmas.Bool.{and_parts, leb-true}
use Rattle.std.proofs.lemmas.Bool.Decides.{nat_tests}
use Rattle.qrcode_types.specs.Versions.{is_valid}
use Rattle.qrcode_types.specs.Modes.{mode_bits_count, length_bits_count, by_band, indicator, has_mode}
use Rattle.qrcode_types.specs.declared.types.Version.{Version}
use Rattle.qrcode_types.specs.declared.types.Version.TheVariants.{Normal, Micro}
use Rattle.qrcode_types.specs.declared.types.Mode.{Mode}
use Rattle.qrcode_types.specs.declared.types.Mode.TheVariants.{Numeric, Alphanumeric, Byte, Kanji}
use Rattle.qrcode_bits.proofs.Spellings.{indicator-small}

by_band-le : (v a b c : ℕ) → a ≤ b → b ≤ c → c ≤ 16 → by_band v a b c ≤ 16
by_band-le v a b c p q r = grind (arith, nat_tests)

pub record HeaderFits (v : Version) (m : Mode) : Type 0 where
  pub indicator_bits : mode_bits_count v ≤ 4
  pub length_bits : length_bits_count m v ≤ 16
  pub number : IsTrue (has_mode v m) → indicator v m < 2 ^ mode_bits_count v

in_micro : (n : ℕ) (m : Mode) → n ≤ 4 → length_bits_count m (Micro (pos n)) ≤ 16
in_micro n m h1 = grind (arith, nat_tests)

in_normal : (n : ℕ) (m : Mode) → length_bits_count m (Normal (pos n)) ≤ 16
in_normal n Numeric = by_band-le n 10 12 14 (omega arith) (omega arith) (omega arith)
in_normal n Alphanumeric = by_band-le n 9 11 13 (omega arith) (omega arith) (omega arith)
in_normal n Byte = by_band-le n 8 16 16 (omega arith) (omega arith) (omega arith)
in_normal n Kanji = by_band-le n 8 10 12 (omega arith) (omega arith) (omega arith)

pub header_fits : (v : Version) (m : Mode) → IsTrue (is_valid v) → HeaderFits v m
header_fits (Normal (pos n)) m valid = record {
  indicator_bits = omega arith;
  length_bits = in_normal n m;
  number = indicator-small (Normal (pos n)) m;
}
header_fits (Micro (pos n)) m valid =
    let most = leb-true n 4 (and_parts (nat_le 1 n) (nat_le n 4) valid).1 in
    record {
      indicator_bits = omega (arith, most);
      length_bits = in_micro n m most;
      number = indicator-small (Micro (pos n)) m;
    }
header_fits (Normal (negsuc n)) m valid = cc
header_fits (Micro (negsuc n)) m valid = cc
