-- Data split over several symbols (structured append).
use Rattle.std.specs.Prelude.{◌≡◌, ◌≢◌, ◌≤◌, ◌<◌, ⊤, ℕ, zero, suc, pos, List, [], ◌∷◌, length, flat_map, IsTrue, IsUtf8, Option, Some, None, Result, slice_get}
use Rattle.qrcode_types.specs.declared.types.Version.TheVariants.{Normal}
use Rattle.qrcode_bits.specs.Manners.{is_text}
use Rattle.qrcode_bits.specs.declared.bits.manner.Manner.{Manner}
use Rattle.qrcode_bits.specs.declared.bits.manner.Manner.TheVariants.{Bytes, Text}
use Rattle.qrcode.specs.Code.{Code}
use Rattle.qrcode_append.specs.Fewest.{IsAmong, AreCounted, AreFewest}
use Rattle.qrcode_append.specs.Symbols.{HoldSeveral}
use Rattle.goqlanis_buffers.specs.Names.{level_named}
use Rattle.goqlanis_buffers.specs.Calls.{Writes}
use Rattle.goqlanis_buffers.specs.Outputs.{module_bytes, IsDescribed, IsFilled}
use Rattle.goqlanis_buffers.specs.declared.answers.Refusal.{Refusal}
use Rattle.goqlanis_buffers.specs.declared.answers.Refusal.TheVariants.{NoSuchLevel, NoSuchVersion, NoSuchStruct, NoSuchManner, NoSuchNumber, NotText, NoRoom, SmallBuffer, OutOfMemory}
use Rattle.goqlanis_buffers.specs.declared.several.Named.{Named}
use Rattle.goqlanis_buffers.specs.declared.several.Several.{Several}
use Rattle.goqlanis_buffers.specs.declared.symbols.Symbol.{Symbol}

abbrev pub manner_of : ℕ → Option Manner  -- the manner of a number, in this order from 0 on
manner_of n = slice_get (Bytes ∷ Text ∷ []) n

-- the two numbers are a range of Normal versions
pub record IsRange (s : Several) : Type 0 where
  pub some : 1 ≤ s.min_version
  pub ordered : s.min_version ≤ s.max_version
  pub most : s.max_version ≤ 40

-- what options ask for, besides the count
pub record AreAsked (s : Several) (a : Named) : Type 0 where
  pub size : s.size ≡ 24
  pub level : level_named s.level ≡ Some a.level
  pub manner : manner_of s.manner ≡ Some a.manner
  pub range : IsRange s
  pub versions : a.versions ≡ record { least = s.min_version; greatest = s.max_version }
  pub count : s.count ≤ 16

-- the symbols of as few parts as possible if the count is 0, else of this count
abbrev pub AreOf : ℕ → Named → List ℕ → List Code → Type 0
AreOf zero a bytes codes = AreFewest a.manner a.versions a.level bytes codes
AreOf (suc n) a bytes codes = AreCounted a.manner a.versions a.level bytes (suc n) codes

-- the symbols of data that are asked for; a text is UTF-8
pub record AreSymbolsWith (s : Several) (bytes : List ℕ) (codes : List Code) : Type 0 where
  pub asked : Named
  pub named : AreAsked s asked
  pub text : IsTrue (is_text asked.manner) → IsUtf8 bytes
  pub made : AreOf s.count asked bytes codes

abbrev pub modules_of : List Code → List ℕ  -- the modules of symbols as bytes, symbol after symbol
modules_of codes = flat_map (λ c. module_bytes c.modules) codes

-- symbols that are asked for in a buffer; version, level and width of the first, and so of each; and how many there are
pub record AreWritten (Asked : List Code → Type 0) (old new : List ℕ) (symbol : Symbol) (count : ℕ) : Type 0 where
  pub codes : List Code
  pub asked : Asked codes
  pub filled : IsFilled old new (modules_of codes)
  pub first : Code
  pub at : slice_get codes 0 ≡ Some first
  pub described : IsDescribed first symbol
  pub counted : count ≡ length codes

abbrev pub IsCount : ℕ → ℕ → Type 0  -- the count is the requested one, unless that is 0
IsCount zero count = ⊤
IsCount (suc n) count = count ≡ suc n

-- none of the versions holds the data in this many symbols
abbrev pub AreBeyondSeveral : ℕ → Named → List ℕ → Type 0
AreBeyondSeveral wanted a bytes = (n count : ℕ) → IsAmong a.versions n → IsCount wanted count → ¬ HoldSeveral a.manner (Normal (pos n)) a.level bytes count

-- none of the versions that are asked for holds the data; a text is UTF-8
pub record HaveNoRoom (s : Several) (bytes : List ℕ) : Type 0 where
  pub asked : Named
  pub named : AreAsked s asked
  pub text : IsTrue (is_text asked.manner) → IsUtf8 bytes
  pub none : AreBeyondSeveral s.count asked bytes

-- a text is asked for, but the data is not UTF-8
pub record IsNoText (s : Several) (bytes : List ℕ) : Type 0 where
  pub asked : Named
  pub named : AreAsked s asked
  pub text : IsTrue (is_text asked.manner)
  pub none : ¬ IsUtf8 bytes

-- the struct has the right size, and there is a level with its number; `HasVersions`: and a range of versions; `HasManner`: and a manner
abbrev pub HasSeveralLevel : Several → Type 0
HasSeveralLevel s = (s.size ≡ 24) × (level_named s.level ≢ None)

abbrev pub HasVersions : Several → Type 0
HasVersions s = HasSeveralLevel s × IsRange s

abbrev pub HasManner : Several → Type 0
HasManner s = HasVersions s × (manner_of s.manner ≢ None)

-- why data has no symbols that are asked for, in a buffer of `room` items: the first of these causes that applies
abbrev pub IsSeveralCause : Several → List ℕ → ℕ → Refusal → Type 0
IsSeveralCause s bytes room NoSuchStruct = s.size ≢ 24
IsSeveralCause s bytes room NoSuchLevel = (s.size ≡ 24) × (level_named s.level ≡ None)
IsSeveralCause s bytes room NoSuchVersion = HasSeveralLevel s × (¬ IsRange s)
IsSeveralCause s bytes room NoSuchManner = HasVersions s × (manner_of s.manner ≡ None)
IsSeveralCause s bytes room NoSuchNumber = HasManner s × (16 < s.count)
IsSeveralCause s bytes room NotText = IsNoText s bytes
IsSeveralCause s bytes room NoRoom = HaveNoRoom s bytes
IsSeveralCause s bytes room SmallBuffer = (codes : List Code) × (AreSymbolsWith s bytes codes × (room < length (modules_of codes)))
IsSeveralCause s bytes room OutOfMemory = ⊤
IsSeveralCause s bytes room refusal = ⊥

-- writes the symbols of data that options ask for, so many
abbrev pub WritesSeveral : Several → List ℕ → ℕ → List ℕ → List ℕ → Result Symbol Refusal → Type 0
WritesSeveral s bytes count old new result =
    Writes (λ new symbol. AreWritten (AreSymbolsWith s bytes) old new symbol count) (IsSeveralCause s bytes (length old)) old new result
