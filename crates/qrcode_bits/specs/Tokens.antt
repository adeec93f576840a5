-- The kind of the token that begins at a byte.
use Rattle.std.specs.Prelude.{ℕ, if◌then◌else◌, List, [], ◌∷◌}
use Rattle.qrcode_types.specs.Characters.{is_kanji}
use Rattle.qrcode_bits.specs.Runs.{single_kind}
use Rattle.qrcode_bits.specs.declared.optimize.Kind.{Kind}
use Rattle.qrcode_bits.specs.declared.optimize.Kind.TheVariants.{Pair}

abbrev pub kind_at : ℕ → ℕ → Kind  -- the kind of a token by its first byte and the byte after it
kind_at b after = if is_kanji b after then Pair else single_kind b

abbrev pub first_byte : List ℕ → ℕ  -- the first byte, or 0 where there is none, which is no second byte of a pair
first_byte [] = 0
first_byte (b ∷ bytes) = b
