-- How many parts and bytes some bits can have at most.
use Rattle.std.proofs.Common.{ℕ, ◌+◌, ◌*◌, ◌≤◌, List, [], ◌∷◌, Bool, length, ap, arith, length-append}
use Rattle.std.specs.List.{AllByRecursion}
use Rattle.qrcode_types.specs.Modes.{data_bits_count}
use Rattle.qrcode_types.specs.Characters.{character_count}
use Rattle.qrcode_types.specs.declared.types.Mode.{Mode}
use Rattle.qrcode_types.specs.declared.types.Mode.TheVariants.{Numeric, Alphanumeric, Byte, Kanji}
use Rattle.qrcode_types.specs.declared.types.Version.{Version}
use Rattle.qrcode_bits.specs.Written.{written_piece}
use Rattle.qrcode_bits.proofs.Lengths.{length-piece}
use Rattle.qrcode_reader.specs.declared.spell.parts.Part.{Part}
use Rattle.qrcode_reader.specs.declared.spell.parts.Part.TheVariants.{Front, Bytes}
use Rattle.qrcode_reader.specs.spell.Parts.{BeginsWithPart, AreParts, byte_count}
use Rattle.qrcode_reader.proofs.Parted.{part_shortens}

data_long : (m : Mode) (n : ℕ) → n ≤ 2 * data_bits_count m (character_count m n) + 1
data_long Numeric n = omega arith
data_long Alphanumeric n = omega arith
data_long Byte n = omega arith
data_long Kanji n = omega arith

-- a part has at most three bytes for each bit that it takes
part_short : (v : Version) (p : Part) (bits : List Bool) (chunk : List ℕ) (rest : List Bool) → BeginsWithPart v p bits chunk rest → length chunk + 3 * length rest ≤ 3 * length bits
part_short v (Front h) bits chunk rest s = omega (arith, part_shortens v (Front h) bits chunk rest s, ap length s.1)
part_short v (Bytes m n) bits chunk rest s =
    omega (
      arith,
      part_shortens v (Bytes m n) bits chunk rest s,
      ap length s.0.whole,
      length-append (written_piece v (record { mode = m; chunk = chunk })) rest,
      length-piece v (record { mode = m; chunk = chunk }),
      data_long m (length chunk),
    )

pub few_parts : (v : Version) (bits : List Bool) (bytes : List ℕ) (parts : List Part) → AreParts v bits bytes parts → length parts ≤ length bits
few_parts v bits bytes [] r = omega arith
few_parts v bits bytes (p ∷ parts) r =
    let t = r.1 in
    let u = t.2 in
    omega (arith, part_shortens v p bits t.0 r.0 u.1.1.0, few_parts v r.0 t.1 parts u.1.1.1)

pub few_bytes : (v : Version) (bits : List Bool) (bytes : List ℕ) (parts : List Part) → AreParts v bits bytes parts → length bytes ≤ 3 * length bits
few_bytes v bits bytes [] r = omega (arith, ap length r.1)
few_bytes v bits bytes (p ∷ parts) r =
    let t = r.1 in
    let u = t.2 in
    omega (arith, ap length u.0, length-append t.0 t.1, part_short v p bits t.0 r.0 u.1.1.0, few_bytes v r.0 t.1 parts u.1.1.1)

byte_count_is : (v : Version) (p : Part) (bits : List Bool) (chunk : List ℕ) (rest : List Bool) → BeginsWithPart v p bits chunk rest → byte_count p ≤ length chunk
byte_count_is v (Front h) bits chunk rest s = omega arith
byte_count_is v (Bytes m n) bits chunk rest s = omega (arith, s.1)

pub short_parts : (v : Version) (bits : List Bool) (bytes : List ℕ) (parts : List Part) (most : ℕ) → 3 * length bits ≤ most → AreParts v bits bytes parts
    → AllByRecursion (λ p. byte_count p ≤ most) parts
short_parts v bits bytes [] most h r = tt
short_parts v bits bytes (p ∷ parts) most h r =
    let t = r.1 in
    let u = t.2 in (
      omega (arith, byte_count_is v p bits t.0 r.0 u.1.1.0, part_short v p bits t.0 r.0 u.1.1.0),
      short_parts v r.0 t.1 parts most (omega (arith, part_shortens v p bits t.0 r.0 u.1.1.0)) u.1.1.1,
    )
