-- Which damage is within the promise.
use Rattle.std.proofs.Common.{◌≡◌, ℕ, ◌/◌, ◌<◌, ◌≤◌, Bool, List, [], length, arith, subst, IsTrue}
use Rattle.std.specs.List.{AllByRecursion}
use Rattle.std.proofs.lemmas.List.Elements.{AllZip-get_or}
use Rattle.std.proofs.lemmas.List.FromFn.{length-map-range_with_len}
use Rattle.qrcode_types.specs.Versions.{has_level, block_lengths, ec_length}
use Rattle.qrcode_types.specs.declared.types.Version.{Version}
use Rattle.qrcode_types.specs.declared.types.Version.TheVariants.{Normal, Micro}
use Rattle.qrcode_types.specs.declared.types.EcLevel.{EcLevel}
use Rattle.qrcode_types.specs.declared.types.Color.{Color}
use Rattle.qrcode_types.proofs.BlockTable.{length-block_lengths, bounded}
use Rattle.qrcode_ec.specs.Codes.{distance}
use Rattle.qrcode_ec.specs.Blocks.{blocks}
use Rattle.qrcode_layout.specs.Patterns.{format_copies}
use Rattle.qrcode_layout.specs.declared.masks.MaskPattern.{MaskPattern}
use Rattle.qrcode_symbol.specs.Symbol.{blocks_in, IsDamaged}
use Rattle.qrcode_symbol.specs.Reading.{ReadsBitsOnly}
use Rattle.qrcode.specs.Reading.{EncodesBits, EncodesBytes, ReadsOnly}
use Rattle.qrcode_damage.specs.Areas.{block_in}
use Rattle.qrcode_damage.proofs.Beside.{all_mapped}
use Rattle.qrcode_damage.specs.Damage.{IsWrongBy, IsPromised, wrong_bits}
use Rattle.qrcode_damage.specs.Laws.{PromiseIsExact}
use Rattle.qrcode_damage.specs.declared.damage.Damage.{Damage}
use Rattle.qrcode_damage.proofs.Counted.{zip_mapped}

pub within : (v : Version) (l : EcLevel) (k : MaskPattern) (d : Damage) (s other : List Color) → IsWrongBy v l k d s other → IsPromised v l d → IsDamaged v l k s other
within v l k d s other wrong promised = record {
  square = wrong.square;
  format = all_mapped (λ places. wrong_bits v s other places ≡ d.format_bits) (λ places. wrong_bits v s other places ≤ 3) (format_copies v)
      (λ places e. omega (arith, e, promised.format)) wrong.format;
  blocks = zip_mapped (λ b c. distance b c ≡ d.codewords) (λ b c. distance b c ≤ ec_length v l / 2) (blocks_in v l k s) (blocks_in v l k other)
      (λ b c e. omega (arith, e, promised.codewords)) wrong.blocks;
}

some_format : (v : Version) (s other : List Color) (n : ℕ) → AllByRecursion (λ places. wrong_bits v s other places ≡ n) (format_copies v)
    → AllByRecursion (λ places. wrong_bits v s other places ≤ 3) (format_copies v) → n ≤ 3
unfolding format_copies
some_format (Normal m) s other n all few = subst (λ (k : ℕ). k ≤ 3) all.0 few.0
some_format (Micro m) s other n all few = subst (λ (k : ℕ). k ≤ 3) all.0 few.0

some_block : (v : Version) (l : EcLevel) (k : MaskPattern) (s : List Color) → IsTrue (has_level v l) → 0 < length (blocks_in v l k s)
unfolding blocks
some_block v l k s has =
    omega (arith, length-map-range_with_len (block_in v l k s) 0 (length (block_lengths v l)), length-block_lengths v l, (bounded v l has).some_blocks)

pub promise_is_exact : PromiseIsExact
promise_is_exact v l k d s other has wrong = (
  within v l k d s other wrong,
  λ damaged.
      let xs = blocks_in v l k s in
      let ys = blocks_in v l k other in
      let same = AllZip-get_or (λ b c. distance b c ≡ d.codewords) xs ys 0 [] [] wrong.blocks (some_block v l k s has) in
      let few = AllZip-get_or (λ b c. distance b c ≤ ec_length v l / 2) xs ys 0 [] [] damaged.blocks (some_block v l k s has) in
      record { codewords = omega (arith, same, few); format = some_format v s other d.format_bits wrong.format damaged.format },
)

-- so within the promise such a square reads as the bytes, and as the bits

pub wrong_is_read : (v : Version) (l : EcLevel) (d : Damage) (bits : List Bool) (bytes : List ℕ) (s other : List Color) → ((k : MaskPattern) → IsWrongBy v l k d s other)
    → IsPromised v l d → EncodesBytes v l bits bytes s → ReadsOnly other bytes
wrong_is_read v l d bits bytes s other wrong promised encodes =
    let k = encodes.encodes.mask in encodes.read other (within v l k d s other (wrong k) promised)

pub wrong_keeps_bits : (v : Version) (l : EcLevel) (d : Damage) (bits : List Bool) (s other : List Color) → ((k : MaskPattern) → IsWrongBy v l k d s other)
    → IsPromised v l d → EncodesBits v l bits s → ReadsBitsOnly other v l bits
wrong_keeps_bits v l d bits s other wrong promised encodes = encodes.read other (within v l encodes.mask d s other (wrong encodes.mask) promised)
