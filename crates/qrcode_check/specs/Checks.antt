-- What a check reports of a square.
use Rattle.std.specs.Prelude.{◌≡◌, ◌==◌, ◌&&◌, ◌||◌, ℕ, Bool, false, List, drop, Option, Some, None, IfSome, IfNone}
use Rattle.std.specs.List.{list_all}
use Rattle.qrcode_types.specs.declared.types.Color.{Color}
use Rattle.qrcode_types.specs.declared.types.Version.{Version}
use Rattle.qrcode_symbol.specs.Penalties.{penalty}
use Rattle.qrcode_reader.specs.Readings.{IsBitReading}
use Rattle.qrcode_reader.specs.spell.Parts.{AreParts, IsBehindParts, HaveNoParts}
use Rattle.qrcode_reader.specs.declared.spell.parts.Part.{Part}
use Rattle.qrcode_reader.specs.declared.correction.WrongCodeword.{WrongCodeword}
use Rattle.qrcode_check.specs.Correction.{wrong_codewords, allowed_in_block, unused_correction}
use Rattle.qrcode_check.specs.Modules.{AreWrongModules, are_right}
use Rattle.qrcode_check.specs.Masks.{stepped_penalty, penalties, mask_place, IsRank}
use Rattle.qrcode_check.specs.Segments.{IsBitUse, NotComparable}
use Rattle.qrcode_check.specs.Forms.{IsReadRank, inside, narrow, narrow_inside}
use Rattle.qrcode_check.specs.Ending.{IsEnding}
use Rattle.qrcode_check.specs.Guesses.{AreGuesses}
use Rattle.qrcode_check.specs.declared.checking.Check.{Check}
use Rattle.qrcode_check.specs.declared.checking.Content.{Content}

-- what is reported of data bits of a version that are headers, segments and an end
pub record IsContent (v : Version) (bits : List Bool) (c : Content) : Type 0 where
  pub bytes : List ℕ
  pub parts : List Part
  pub parted : AreParts v bits bytes parts
  pub used : ℕ
  pub behind : IsBehindParts v bits parts (drop used bits)
  pub ending : IsEnding v used bits c.ending
  pub guesses : AreGuesses parts bytes c.guesses
  pub taken : IfSome c.taken (IsBitUse v bytes parts)
  pub not_taken : IfNone c.taken (NotComparable v bytes parts)

abbrev pub IsContentOf : Version → List Bool → Option Content → Type 0  -- the same, or None if they are not
IsContentOf v bits None = HaveNoParts v bits
IsContentOf v bits (Some c) = IsContent v bits c

pub record IsCheck (s : List Color) (c : Check) : Type 0 where  -- the square is read as bits, and each field reports what its definition says
  pub bits : List Bool
  pub wrong : List WrongCodeword
  pub read : IsBitReading s c.version c.ec_level c.mask bits wrong
  pub counts : c.wrong.items ≡ wrong_codewords c.version c.ec_level wrong
  pub allowed : c.allowed ≡ allowed_in_block c.version c.ec_level
  pub unused : c.unused ≡ unused_correction c.allowed c.wrong.items
  pub modules : AreWrongModules c.version c.ec_level c.mask s c.modules
  pub own : IsRank (penalties penalty c.version c.ec_level c.mask s) (mask_place c.version c.mask) c.own
  pub stepped : IsRank (penalties stepped_penalty c.version c.ec_level c.mask s) (mask_place c.version c.mask) c.stepped
  pub narrow : IsReadRank narrow c.version c.ec_level c.mask s c.narrow
  pub inside : IsReadRank inside c.version c.ec_level c.mask s c.inside
  pub narrow_inside : IsReadRank narrow_inside c.version c.ec_level c.mask s c.narrow_inside
  pub content : IsContentOf c.version bits c.content

abbrev pub is_content_standard : Option Content → Bool  -- nothing in the data departs from the standard
is_content_standard None = false
is_content_standard (Some c) = c.ending.terminator == 0 && c.ending.padding == 0

-- the mask has the lowest penalty by some reading of the standard
abbrev pub has_lowest : Check → Bool
has_lowest c = c.own.lower == 0 || c.stepped.lower == 0 || c.narrow.lower == 0 || c.inside.lower == 0 || c.narrow_inside.lower == 0

-- nothing departs from the standard, which leaves headers and the division into segments to the encoder
abbrev pub is_standard : Check → Bool
is_standard c =
    (list_all (λ n. n == 0) c.wrong.items && are_right c.modules)
    && (has_lowest c && is_content_standard c.content)
