-- A symbol under another mask is read as the same bits and bytes.
use Rattle.std.proofs.Common.{◌≡◌, ℕ, ◌/◌, ◌≤◌, Bool, List, [], ◌∷◌, refl, arith, subst, IsTrue}
use Rattle.std.specs.List.{AllByRecursion, AllZip}
use Rattle.qrcode_types.specs.Bits.{bit_distance}
use Rattle.qrcode_types.specs.Versions.{has_level, ec_length}
use Rattle.qrcode_types.specs.declared.types.Version.{Version}
use Rattle.qrcode_types.specs.declared.types.EcLevel.{EcLevel}
use Rattle.qrcode_types.specs.declared.types.Color.{Color}
use Rattle.qrcode_ec.specs.Codes.{distance}
use Rattle.qrcode_ec.specs.Blocks.{codewords}
use Rattle.qrcode_layout.specs.Masks.{exists_in}
use Rattle.qrcode_layout.specs.Patterns.{format_copies}
use Rattle.qrcode_layout.specs.Stream.{stream}
use Rattle.qrcode_layout.specs.declared.masks.MaskPattern.{MaskPattern}
use Rattle.qrcode_symbol.specs.Symbol.{bits_at, blocks_in, IsSymbol, IsDamaged}
use Rattle.qrcode_symbol.proofs.Codewords.{codewords_are_bytes}
use Rattle.qrcode_bits.specs.Spelling.{Spells}
use Rattle.qrcode.specs.Reading.{EncodesBytes, IsUnderMask}
use Rattle.qrcode.proofs.BlockLists.{blocks-bytes}
use Rattle.qrcode.proofs.Distances.{bit_distance-same, distance-same}
use Rattle.qrcode.proofs.Readings.{bits_are_read_one_way, reads_bits_only, reads_only}

same_formats : (v : Version) (s : List Color) (copies : List (List (ℕ × ℕ))) → AllByRecursion (λ places. bit_distance (bits_at v s places) (bits_at v s places) ≤ 3) copies
same_formats v s [] = tt
same_formats v s (places ∷ copies) = (omega (arith, bit_distance-same (bits_at v s places)), same_formats v s copies)

same_blocks : (n : ℕ) (bs : List (List ℕ)) → AllZip (λ b c. distance b c ≤ n) bs bs
same_blocks n [] = tt
same_blocks n (b ∷ bs) = (omega (arith, distance-same b), same_blocks n bs)

-- an undamaged square is within the bound
undamaged : (v : Version) (l : EcLevel) (k : MaskPattern) (s : List Color) → IsDamaged v l k s s
undamaged v l k s = record {
  square = refl;
  format = same_formats v s (format_copies v);
  blocks = same_blocks (ec_length v l / 2) (blocks_in v l k s);
}

-- the bits of a symbol that encodes bytes spell them
spelled : (v : Version) (l : EcLevel) (bits : List Bool) (bytes : List ℕ) (s : List Color) → EncodesBytes v l bits bytes s → Spells v bits bytes
spelled v l bits bytes s encodes =
    let none = undamaged v l encodes.encodes.mask s in
    let found = (encodes.read s none).found in
    let same = bits_are_read_one_way s v found.version l found.level bits found.bits (encodes.encodes.read s none).found found.read in
    subst (λ (u : Version). Spells u bits bytes) same.0 (subst (λ (b : List Bool). Spells found.version b bytes) same.2 found.spelled)

pub under_mask : (v : Version) (l : EcLevel) (own k : MaskPattern) (s new : List Color) → IsTrue (has_level v l) → IsTrue (exists_in v k)
    → ((bits : List Bool) (j : MaskPattern) → IsTrue (exists_in v j) → IsSymbol v l bits j s → j ≡ own) → ((bits : List Bool) → IsSymbol v l bits own s → IsSymbol v l bits k new)
    → IsUnderMask v l k s new
under_mask v l own k s new level exists only changed =
    let symbol : (j : MaskPattern) (bits : List Bool) → IsTrue (exists_in v j) → IsSymbol v l bits j s → IsSymbol v l bits k new =
    λ j bits has is. changed bits (subst (λ (m : MaskPattern). IsSymbol v l bits m s) (only bits j has is) is) in
    let read = λ (j : MaskPattern) (bits : List Bool) (other : List Color) (has : IsTrue (exists_in v j)) (is : IsSymbol v l bits j s) (damage : IsDamaged v l k new other).
    reads_bits_only v l bits k new level exists (blocks-bytes v l (codewords v l (stream v k new)) (codewords_are_bytes v l (stream v k new))) (symbol j bits has is) other damage in
    record {
      symbol = symbol;
      read_bits = read;
      read_bytes = λ bits bytes other encodes damage.
          let e = encodes.encodes in
          reads_only other v l bits bytes (read e.mask bits other e.mask_exists e.symbol damage).found (spelled v l bits bytes s encodes);
    }
