-- The headers of the modes of a version.
use Rattle.std.proofs.Common.{◌≡◌, ◌+◌, ◌<◌, ◌≤◌, nat_le, pos, negsuc, ℤ, Bool, true, ◌&&◌, IsTrue, refl, arith}
use Rattle.std.proofs.lemmas.Bool.{agree_below, agree_below_at, and_parts, cond_both, cond-true, leb-true}
use Rattle.std.proofs.lemmas.Bool.Decides.{nat_tests}
use Rattle.qrcode_types.specs.Versions.{is_valid}
use Rattle.qrcode_types.specs.Modes.{has_mode, mode_bits_count, length_bits_count}
use Rattle.qrcode_types.specs.ModeLaws.{for_all, at_each}
use Rattle.qrcode_types.specs.declared.types.Version.{Version}
use Rattle.qrcode_types.specs.declared.types.Version.TheVariants.{Normal, Micro}
use Rattle.qrcode_types.specs.declared.types.Mode.{Mode}
use Rattle.qrcode_types.specs.declared.types.Mode.TheVariants.{Numeric}
use Rattle.qrcode_bits.specs.ModeHeaders.{more_than_any, header}
use Rattle.qrcode_bits.specs.LeastBits.{header_in, headers_of}
use Rattle.qrcode_bits.specs.ModeSets.{is_among}
use Rattle.qrcode_bits.specs.declared.optimize.mode_sets.Modes.{Modes}

-- the header of each mode is short enough
abbrev is_short : Version → Mode → Bool
is_short v m = nat_le (mode_bits_count v + length_bits_count m v) 24

-- a test that each of the 44 versions passes
by_tables : (p : Version → Bool) → agree_below (λ n. p (Normal (pos n))) (λ n. true) 41 ≡ true → agree_below (λ n. p (Micro (pos n))) (λ n. true) 5 ≡ true → (v : Version) → IsTrue (is_valid v) → p v ≡ true
by_tables p normal micro (Normal (pos n)) e = agree_below_at (λ n. p (Normal (pos n))) (λ n. true) 41 n normal (omega (arith, leb-true n 40 (and_parts (nat_le 1 n) (nat_le n 40) e).1))
by_tables p normal micro (Micro (pos n)) e = agree_below_at (λ n. p (Micro (pos n))) (λ n. true) 5 n micro (omega (arith, leb-true n 4 (and_parts (nat_le 1 n) (nat_le n 4) e).1))
by_tables p normal micro (Normal (negsuc n)) e = cc
by_tables p normal micro (Micro (negsuc n)) e = cc

all_short : (v : Version) → IsTrue (is_valid v) → for_all (is_short v) ≡ true
all_short = by_tables (λ v. for_all (is_short v)) refl refl

pub header_short : (v : Version) (m : Mode) → IsTrue (is_valid v) → mode_bits_count v + length_bits_count m v ≤ 24
header_short v m valid = leb-true (mode_bits_count v + length_bits_count m v) 24 (at_each (is_short v) (all_short v valid) m)

-- the length field of Numeric is at most two bits longer than that of any other mode
abbrev is_near : Version → Mode → Bool
is_near v m = nat_le (length_bits_count Numeric v) (length_bits_count m v + 2)

all_near : (v : Version) → IsTrue (is_valid v) → for_all (is_near v) ≡ true
all_near = by_tables (λ v. for_all (is_near v)) refl refl

pub digits_length : (v : Version) (m : Mode) → IsTrue (is_valid v) → length_bits_count Numeric v ≤ length_bits_count m v + 2
digits_length v m valid = leb-true (length_bits_count Numeric v) (length_bits_count m v + 2) (at_each (is_near v) (all_near v valid) m)

-- in Normal, the length field of Numeric has at least ten bits
abbrev is_long : Version → Bool
is_long (Normal v) = nat_le 10 (length_bits_count Numeric (Normal v))
is_long (Micro v) = true

all_long : (v : Version) → IsTrue (is_valid v) → is_long v ≡ true
all_long = by_tables is_long refl refl

pub long_digits : (n : ℤ) → IsTrue (is_valid (Normal n)) → 10 ≤ length_bits_count Numeric (Normal n)
long_digits n valid = leb-true 10 (length_bits_count Numeric (Normal n)) (all_long (Normal n) valid)

-- each version has the mode Numeric
pub has_digits : (v : Version) → IsTrue (is_valid v) → has_mode v Numeric ≡ true
has_digits = by_tables (λ v. has_mode v Numeric) refl refl

-- the version has the mode, and it is in the set
abbrev pub allows : Modes → Version → Mode → Bool
allows set v m = has_mode v m && is_among set m

pub header_at : (set : Modes) (v : Version) (m : Mode) → header_in (headers_of set v) m ≡ header set v m
header_at set v m = grind (arith, nat_tests)

pub header_is : (set : Modes) (v : Version) (m : Mode) → allows set v m ≡ true → header set v m ≡ mode_bits_count v + length_bits_count m v
header_is set v m has = cond-true (allows set v m) (mode_bits_count v + length_bits_count m v) more_than_any has

pub header_tells : (set : Modes) (v : Version) (m : Mode) → header set v m < more_than_any → allows set v m ≡ true
header_tells set v m = cond_both (allows set v m) (mode_bits_count v + length_bits_count m v) more_than_any (λ n. n < more_than_any → allows set v m ≡ true) (λ has _. has) (λ lacks below. absurd (omega (arith, below)))

pub header_below : (set : Modes) (v : Version) (m : Mode) → IsTrue (is_valid v) → header set v m < more_than_any → header set v m ≤ 24
header_below set v m valid below = omega (arith, header_is set v m (header_tells set v m below), header_short v m valid)
