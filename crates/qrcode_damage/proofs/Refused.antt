-- Which counts are refused.
use Rattle.std.proofs.Common.{◌≤◌, arith}
use Rattle.std.proofs.lemmas.Bool.Decides.{nat_tests}
use Rattle.qrcode_types.specs.declared.types.Version.{Version}
use Rattle.qrcode_types.specs.declared.types.EcLevel.{EcLevel}
use Rattle.qrcode_damage.specs.Damage.{HasRoomFor, IsTooMuch, version_word_length}
use Rattle.qrcode_damage.specs.declared.damage.Damage.{Damage}
use Rattle.qrcode_damage.specs.declared.damage.TooMuch.{TooMuch}
use Rattle.qrcode_damage.specs.declared.damage.TooMuch.TheVariants.{Codewords, FormatBits, VersionBits, PatternModules, OutOfMemory}

-- a count that is too large has no room
pub too_much_is_not : (v : Version) (l : EcLevel) (d : Damage) (e : TooMuch) → IsTooMuch v l d e → ¬ HasRoomFor v l d
too_much_is_not v l d (Codewords most) x room = absurd (omega (arith, x.0, x.1, room.codewords))
too_much_is_not v l d FormatBits x room = absurd (omega (arith, x.1, room.format))
too_much_is_not v l d (VersionBits most) x room = absurd (omega (arith, x.0, x.1.0, room.version))
too_much_is_not v l d (PatternModules most) x room = absurd (omega (arith, x.0, x.1.0, room.patterns))
too_much_is_not v l d OutOfMemory x room = x

pub at_most_18 : (v : Version) → version_word_length v ≤ 18
at_most_18 v = grind (arith, nat_tests)
