-- Encoding with options.
use Rattle.std.specs.Prelude.{◌≡◌, ◌≢◌, ◌-◌, ℕ, List, [], ◌∷◌, ◌==◌, IsTrue, IsUtf8, Option, Some, None, slice_get, if◌then◌else◌}
use Rattle.std.specs.Option.{option_map}
use Rattle.qrcode_types.specs.declared.types.QrError.{QrError}
use Rattle.qrcode_types.specs.declared.types.Version.{Version}
use Rattle.qrcode_bits.specs.Manners.{is_text}
use Rattle.qrcode_bits.specs.declared.bits.manner.Manner.{Manner}
use Rattle.qrcode_bits.specs.declared.bits.manner.Manner.TheVariants.{Bytes, Text, MarkedText}
use Rattle.qrcode.specs.Code.{Code}
use Rattle.goqlanis_request.specs.Masks.{IsMaskless}
use Rattle.goqlanis_request.specs.Symbols.{IsSymbolIn, IsRefusedFor}
use Rattle.goqlanis_request.specs.declared.request.Choice.{Choice}
use Rattle.goqlanis_request.specs.declared.request.Choice.TheVariants.{From, Boosted, At}
use Rattle.goqlanis_buffers.specs.Names.{level_named, version_named}
use Rattle.goqlanis_buffers.specs.Segments.{refusal_in}
use Rattle.goqlanis_buffers.specs.Symbols.{ExceedsRoom, IsMasked}
use Rattle.goqlanis_buffers.specs.declared.answers.Refusal.{Refusal}
use Rattle.goqlanis_buffers.specs.declared.answers.Refusal.TheVariants.{NoSuchLevel, NoSuchVersion, NoSuchStruct, NoSuchManner, NoSuchMask, NotText, SmallBuffer}
use Rattle.goqlanis_buffers.specs.declared.options.CodeSettings.{CodeSettings}
use Rattle.goqlanis_buffers.specs.declared.options.Options.{Options}

abbrev pub manner_named : ℕ → Option Manner  -- the manner of a number, in this order from 0 on
manner_named n = slice_get (Bytes ∷ Text ∷ MarkedText ∷ []) n

abbrev pub from_on : ℕ → Version → Choice  -- the smallest version from v on, at the highest level if `boost` asks for that
from_on boost v = if boost == 0 then From v else Boosted v

abbrev pub choice_named : Options → Option Choice  -- the choice of a version that options make
choice_named o = if o.version == 0 then option_map (from_on o.boost) (version_named o.min_version) else option_map At (version_named o.version)

abbrev pub mask_named : ℕ → Option ℕ  -- the number of the mask that options ask for, if any
mask_named n = if n == 0 then None else Some (n - 1)

-- what options ask for
pub record IsAsked (o : Options) (a : CodeSettings) : Type 0 where
  pub size : o.size ≡ 28
  pub level : level_named o.level ≡ Some a.level
  pub choice : choice_named o ≡ Some a.choice
  pub manner : manner_named o.manner ≡ Some a.manner
  pub mask : mask_named o.mask ≡ a.mask

-- the symbol of data that is asked for, under the mask of the lowest penalty; a text is UTF-8
pub record IsMadeAs (a : CodeSettings) (bytes : List ℕ) (code : Code) : Type 0 where
  pub text : IsTrue (is_text a.manner) → IsUtf8 bytes
  pub made : IsSymbolIn a.choice a.manner a.level bytes code

-- the symbol of data that options ask for, under the mask that they ask for
pub record IsSymbolWith (o : Options) (bytes : List ℕ) (code : Code) : Type 0 where
  pub asked : CodeSettings
  pub named : IsAsked o asked
  pub own : Code
  pub made : IsMadeAs asked bytes own
  pub masked : IsMasked asked.mask own code

-- the version of the symbol has no mask of the number that is asked for
pub record HasNoMask (o : Options) (bytes : List ℕ) : Type 0 where
  pub asked : CodeSettings
  pub named : IsAsked o asked
  pub lacks : IsMaskless asked.mask (IsMadeAs asked bytes)

-- there is no symbol of what is asked for, though a text is UTF-8
pub record HasNoSymbol (o : Options) (bytes : List ℕ) (refusal : Refusal) : Type 0 where
  pub asked : CodeSettings
  pub named : IsAsked o asked
  pub text : IsTrue (is_text asked.manner) → IsUtf8 bytes
  pub error : QrError
  pub reported : refusal ≡ refusal_in error
  pub cause : IsRefusedFor asked.choice asked.manner asked.level bytes error

-- a text is asked for, but the data is not UTF-8
pub record IsNoText (o : Options) (bytes : List ℕ) : Type 0 where
  pub asked : CodeSettings
  pub named : IsAsked o asked
  pub text : IsTrue (is_text asked.manner)
  pub none : ¬ IsUtf8 bytes

-- the struct has the right size, and there is a level with its number; `HasChoice`: and a version
abbrev pub HasLevel : Options → Type 0
HasLevel o = (o.size ≡ 28) × (level_named o.level ≢ None)

abbrev pub HasChoice : Options → Type 0
HasChoice o = HasLevel o × (choice_named o ≢ None)

-- Why there is no symbol of data that options ask for, in a buffer of `room` items: the first of these causes that applies. Those of `HasNoSymbol` are in the
-- order of the constructors.
abbrev pub IsOptionsCause : Options → List ℕ → ℕ → Refusal → Type 0
IsOptionsCause o bytes room NoSuchStruct = o.size ≢ 28
IsOptionsCause o bytes room NoSuchLevel = (o.size ≡ 28) × (level_named o.level ≡ None)
IsOptionsCause o bytes room NoSuchVersion = HasLevel o × (choice_named o ≡ None)
IsOptionsCause o bytes room NoSuchManner = HasChoice o × (manner_named o.manner ≡ None)
IsOptionsCause o bytes room NotText = IsNoText o bytes
IsOptionsCause o bytes room NoSuchMask = HasNoMask o bytes
IsOptionsCause o bytes room SmallBuffer = ExceedsRoom (IsSymbolWith o bytes) room
IsOptionsCause o bytes room refusal = HasNoSymbol o bytes refusal
