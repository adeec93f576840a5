-- Texts in character sets that C numbers.
use Rattle.std.specs.Prelude.{◌≡◌, ◌≢◌, ◌⊎◌, ℕ, ◌+◌, ◌==◌, ◌<◌, List, take, length, map, chars, slice_get, Some, unwrap_or, IsUtf8, Result, Err, if◌then◌else◌}
use Rattle.qrcode.specs.Code.{Code}
use Rattle.qrcode_types.specs.declared.types.QrError.{QrError}
use Rattle.qrcode_types.specs.declared.types.QrError.TheVariants.{UnsupportedCharacterSet}
use Rattle.qrcode_charsets.specs.Charsets.{designator, Has}
use Rattle.qrcode_charsets.specs.Shortest.{IsAt, NoneHas}
use Rattle.qrcode_charsets.specs.declared.sets.Charset.{Charset}
use Rattle.qrcode_charsets.specs.declared.sets.TheConstants.{CHARSETS}
use Rattle.goqlanis_request.specs.Charsets.{IsShortestOf, IsShownOrRefused}
use Rattle.goqlanis_buffers.specs.Calls.{Writes}
use Rattle.goqlanis_buffers.specs.Options.{IsAsked, IsOptionsCause}
use Rattle.goqlanis_buffers.specs.Outputs.{IsWrittenAs}
use Rattle.goqlanis_buffers.specs.Segments.{refusal_in}
use Rattle.goqlanis_buffers.specs.Symbols.{IsMasked, IsMaskingCause}
use Rattle.goqlanis_buffers.specs.declared.answers.Fault.{Fault}
use Rattle.goqlanis_buffers.specs.declared.answers.Fault.TheVariants.{At, Other}
use Rattle.goqlanis_buffers.specs.declared.answers.Refusal.{Refusal}
use Rattle.goqlanis_buffers.specs.declared.answers.Refusal.TheVariants as refusals
use Rattle.goqlanis_buffers.specs.declared.options.CodeSettings.{CodeSettings}
use Rattle.goqlanis_buffers.specs.declared.options.Options.{Options}
use Rattle.goqlanis_buffers.specs.declared.symbols.Symbol.{Symbol}

abbrev pub charset_number : Charset → ℕ  -- the number of a set: its ECI designator, or 0 for UTF-8 without one
charset_number c = unwrap_or (designator c) 0

abbrev pub numbers_tried : List ℕ → List ℕ  -- the sets in which a text may be encoded: those with the given numbers, or all that are tried if none is given
numbers_tried numbers = if length numbers == 0 then map charset_number CHARSETS else numbers

-- no set has the number at this index, which is the first such
pub record IsFirstUnknown (numbers : List ℕ) (place : ℕ) : Type 0 where
  pub number : ℕ
  pub at : slice_get numbers place ≡ Some number
  pub sets : List Charset
  pub before : map charset_number sets ≡ take place numbers
  pub unknown : (c : Charset) → charset_number c ≢ number

-- why there are no sets with these numbers: one is unknown, or memory ran out
abbrev pub HasUnknown : List ℕ → Fault → Type 0
HasUnknown numbers (At place refusal) = (refusal ≡ refusals.NoSuchSet) × IsFirstUnknown numbers place
HasUnknown numbers (Other refusal) = refusal ≡ refusals.OutOfMemory

-- each of the sets lacks a character of the text; in the first of them the one at this place is the first
pub record IsLacked (sets : List Charset) (text : List ℕ) (place : ℕ) : Type 0 where
  pub none : NoneHas sets text
  pub set : Charset
  pub first : IsAt sets 0 set
  pub within : place < length text
  pub before : Has set (take place text)
  pub lacks : ¬ Has set (take (place + 1) text)

-- there is no symbol of the text in any of the sets, though one of them has its characters if a mode or ECI is to blame
pub record IsNotCoded (a : CodeSettings) (sets : List Charset) (utf8 : List ℕ) (refusal : Refusal) : Type 0 where
  pub error : QrError
  pub reported : refusal ≡ refusal_in error
  pub cause : IsShownOrRefused a.choice sets a.level utf8 (Err error)
  pub has : error ≡ UnsupportedCharacterSet → ¬ NoneHas sets (chars utf8)

abbrev pub IsUncodedIn : CodeSettings → List Charset → List ℕ → Fault → Type 0  -- why there is none
IsUncodedIn a sets utf8 (At place refusal) = (refusal ≡ refusals.NotInSet) × IsLacked sets (chars utf8) place
IsUncodedIn a sets utf8 (Other refusal) = IsNotCoded a sets utf8 refusal

-- what is asked for, and the sets in which the text may be encoded
pub record IsAskedOf (o : Options) (numbers : List ℕ) (a : CodeSettings) (sets : List Charset) : Type 0 where
  pub named : IsAsked o a
  pub sets_named : map charset_number sets ≡ numbers_tried numbers

-- the symbol of a text that options ask for, in the set with this number, under the mask that they ask for
pub record IsCodedSymbol (o : Options) (numbers utf8 : List ℕ) (number : ℕ) (code : Code) : Type 0 where
  pub asked : CodeSettings
  pub sets : List Charset
  pub named : IsAskedOf o numbers asked sets
  pub text : IsUtf8 utf8
  pub set : Charset
  pub number_is : number ≡ charset_number set
  pub own : Code
  pub made : IsShortestOf asked.choice sets asked.level (chars utf8) set own
  pub masked : IsMasked asked.mask own code

-- the symbol is not written under the mask that options ask for, into a buffer of `room` items
pub record IsNotWritten (o : Options) (numbers utf8 : List ℕ) (room : ℕ) (refusal : Refusal) : Type 0 where
  pub asked : CodeSettings
  pub sets : List Charset
  pub named : IsAskedOf o numbers asked sets
  pub text : IsUtf8 utf8
  pub set : Charset
  pub own : Code
  pub made : IsShortestOf asked.choice sets asked.level (chars utf8) set own
  pub cause : IsMaskingCause asked.mask own room refusal

-- the options are valid, and the text has no symbol in the sets that are asked for
pub record HasNoCode (o : Options) (numbers utf8 : List ℕ) (why : Fault) : Type 0 where
  pub asked : CodeSettings
  pub sets : List Charset
  pub named : IsAskedOf o numbers asked sets
  pub text : IsUtf8 utf8
  pub cause : IsUncodedIn asked sets utf8 why

-- why a text is not encoded in a buffer of `room` items; of an unknown number, with its index; of a lacking character, with its place
abbrev pub IsUncoded : Options → List ℕ → List ℕ → ℕ → Fault → Type 0
IsUncoded o numbers utf8 room (At place refusal) =
    (((a : CodeSettings) × IsAsked o a) × HasUnknown numbers (At place refusal)) ⊎ HasNoCode o numbers utf8 (At place refusal)
IsUncoded o numbers utf8 room (Other refusal) =
    (refusal ≡ refusals.OutOfMemory)
    ⊎ (((bytes : List ℕ) (room : ℕ) → IsOptionsCause o bytes room refusal)
    ⊎ (((refusal ≡ refusals.NotText) × (((a : CodeSettings) × ((sets : List Charset) × IsAskedOf o numbers a sets)) × ¬ IsUtf8 utf8))
    ⊎ (HasNoCode o numbers utf8 (Other refusal) ⊎ IsNotWritten o numbers utf8 room refusal)))

-- writes the symbol of a text in the set with this number
abbrev pub WritesCoded : Options → List ℕ → List ℕ → ℕ → List ℕ → List ℕ → Result Symbol Fault → Type 0
WritesCoded o numbers utf8 number old new result =
    Writes (IsWrittenAs (IsCodedSymbol o numbers utf8 number) old) (IsUncoded o numbers utf8 (length old)) old new result
