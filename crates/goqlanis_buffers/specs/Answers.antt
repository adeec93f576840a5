-- What the calls for C return: 0, or the number of an error; and the cause of each error.
use Rattle.std.specs.Prelude.{◌≡◌, ◌≢◌, ◌⊎◌, ◌+◌, ◌*◌, ◌^◌, ◌<◌, ◌≤◌, ◌-◌, ◌==◌, ⊤, ℕ, pos, List, [], ◌∷◌, length, chars, false, IsTrue, Option, Some, None, slice_get, if◌then◌else◌}
use Rattle.qrcode_types.specs.declared.types.EcLevel.{EcLevel}
use Rattle.qrcode_types.specs.declared.types.Version.{Version}
use Rattle.qrcode_types.specs.declared.types.Version.TheVariants.{Normal}
use Rattle.qrcode.specs.Reading.{ReadsOnly}
use Rattle.qrcode.specs.Texts.{ShowsTextOnly}
use Rattle.qrcode_reader.specs.Readings.{HasNoVersion, HasNoFormat, HasDamagedBlock, ShowsNothing, SpellsNothing}
use Rattle.goqlanis_buffers.specs.Shades.{colors_of}
use Rattle.qrcode_sheets.specs.Formats.{format_numbered}
use Rattle.goqlanis_buffers.specs.Drawings.{has_side, is_sayable, IsPictureIn}
use Rattle.goqlanis_buffers.specs.declared.pictures.Drawing.{Drawing}
use Rattle.qrcode_sheets.specs.declared.formats.Format.{Format}
use Rattle.goqlanis_buffers.specs.Names.{level_named, IsLevelNamed, IsPairCause}
use Rattle.goqlanis_buffers.specs.Readings.{Anywhere, IsReadAnywhere, IsReadNowhere}
use Rattle.goqlanis_buffers.specs.Segments.{HasNoRoom, HaveNoRoom, IsFirstRefused}
use Rattle.goqlanis_buffers.specs.Symbols.{ExceedsRoom, IsSegmentsSymbol}
use Rattle.goqlanis_buffers.specs.Tints.{has_parts, is_plain}
use Rattle.goqlanis_buffers.specs.declared.segments.Segment as by_hand
use Rattle.goqlanis_buffers.specs.declared.answers.Refusal.{Refusal}
use Rattle.goqlanis_buffers.specs.declared.answers.Refusal.TheVariants.{NoSuchLevel, NoSuchVersion, LevelNotInVersion, TooLong, NoMode, NoRoom, SmallBuffer, OutOfMemory, NoSuchFormat, NotSquare, NoSuchSize, NotText, NoSuchKind, NotInMode, NoSuchNumber, NoSuchSide, NoFormat, Damaged, NotSpelled, NoSuchStruct, NoSuchManner, NoSuchMask, NotInFormat, NotShown, NotSeveral, Stranger, Missing, Twice, Parity, NotRead, NoSuchArea, NoSuchContent, NoSuchField, FieldEmpty, FieldTooLong, FieldTooShort, FieldControl, FieldCharacter, FieldCheckDigits, FieldRange, FieldUnused, NoSuchIdentifier, ElementLength, FieldDecimals, FieldWord, NoArea, AreaBlock, AreaFormat, NotPicture, BrokenPicture, NoSquare, LargePicture, NoSuchSet, NotInSet, ManyCodewords, ManyFormatBits, ManyVersionBits, ManyPatternModules}

abbrev pub refusals : List Refusal  -- the errors in the order of their numbers, from 1 to 58
refusals =
    NoSuchLevel ∷ NoSuchVersion ∷ LevelNotInVersion ∷ TooLong ∷ NoMode ∷ NoRoom ∷ SmallBuffer ∷ OutOfMemory ∷
    NoSuchFormat ∷ NotSquare ∷ NoSuchSize ∷ NotText ∷ NoSuchKind ∷ NotInMode ∷ NoSuchNumber ∷
    NoSuchSide ∷ NoFormat ∷ Damaged ∷ NotSpelled ∷ NoSuchStruct ∷ NoSuchManner ∷
    NoSuchMask ∷ NotInFormat ∷ NotShown ∷ NotSeveral ∷ Stranger ∷ Missing ∷ Twice ∷ Parity ∷ NotRead ∷ NoSuchArea ∷
    NoSuchContent ∷ NoSuchField ∷ FieldEmpty ∷ FieldTooLong ∷ FieldTooShort ∷ FieldControl ∷ FieldCharacter ∷ FieldCheckDigits ∷
    FieldRange ∷ FieldUnused ∷ NoSuchIdentifier ∷ ElementLength ∷ FieldDecimals ∷ FieldWord ∷
    NoArea ∷ AreaBlock ∷ AreaFormat ∷ NotPicture ∷ BrokenPicture ∷ NoSquare ∷ LargePicture ∷ NoSuchSet ∷ NotInSet ∷
    ManyCodewords ∷ ManyFormatBits ∷ ManyVersionBits ∷ ManyPatternModules ∷ []

abbrev pub refusal_of : ℕ → Option Refusal  -- the error with a number, if there is one
refusal_of n = if n == 0 then None else slice_get refusals (n - 1)

-- the first segment with an error, in a version that has the level, has this one
abbrev pub IsSegmentCause : ℕ → ℕ → List by_hand.Segment → Refusal → Type 0
IsSegmentCause version level segments refusal = (v : Version) × ((l : EcLevel) × (IsLevelNamed version level v l × IsFirstRefused v segments refusal))

-- why segments are not encoded, other than an error of one segment, into a buffer of `room` items
abbrev pub IsJointCause : ℕ → ℕ → List by_hand.Segment → ℕ → Refusal → Type 0
IsJointCause version level segments room NoRoom = (v : Version) × ((l : EcLevel) × (IsLevelNamed version level v l × HaveNoRoom v l segments))
IsJointCause version level segments room SmallBuffer = ExceedsRoom (IsSegmentsSymbol version level segments) room
IsJointCause version level segments room OutOfMemory = ⊤
IsJointCause version level segments room refusal = IsPairCause version level refusal

-- why segments are not encoded in a version and at a level, into a buffer of `room` items
abbrev pub IsSegmentsCause : ℕ → ℕ → List by_hand.Segment → ℕ → Refusal → Type 0
IsSegmentsCause version level segments room refusal = IsSegmentCause version level segments refusal ⊎ IsJointCause version level segments room refusal

-- an error of one segment, in the first Normal version with room for the segments before it
pub record IsLasting (l : EcLevel) (segments : List by_hand.Segment) (refusal : Refusal) : Type 0 where
  pub number : ℕ
  pub some : 1 ≤ number
  pub most : number ≤ 40
  pub before : (n : ℕ) → 1 ≤ n → n < number → HasNoRoom (Normal (pos n)) l segments
  pub refused : IsFirstRefused (Normal (pos number)) segments refusal

-- why no smallest version of segments is returned at a level: memory ran out; there is no such level; a segment has an error other than lack of room; or no Normal
-- version has room
abbrev pub IsLeastCause : ℕ → List by_hand.Segment → Refusal → Type 0
IsLeastCause level segments refusal =
    (refusal ≡ OutOfMemory)
    ⊎ (((refusal ≡ NoSuchLevel) × (level_named level ≡ None))
    ⊎ ((l : EcLevel) × ((level_named level ≡ Some l) × (((refusal ≢ NoRoom) × IsLasting l segments refusal)
    ⊎ ((refusal ≡ NoRoom) × ((n : ℕ) → 1 ≤ n → n ≤ 40 → HasNoRoom (Normal (pos n)) l segments))))))

-- the struct has the right size, the format exists, and the modules are a square of this width
pub record IsOfSquare (modules : List ℕ) (width : ℕ) (d : Drawing) (f : Format) : Type 0 where
  pub size : d.size ≡ 76
  pub format : format_numbered d.format ≡ Some f
  pub square : length modules ≡ width * width

-- the sides in modules, without and with the quiet zone, the scale and the side in pixels are within their limits
pub record HasSize (width : ℕ) (d : Drawing) (f : Format) : Type 0 where
  pub across : width ≤ 177
  pub side : width + 2 * d.zone < 2 ^ 13
  pub scale_least : 1 ≤ d.scale
  pub scale_most : d.scale < 2 ^ 16
  pub pixels : IsTrue (has_side f (is_plain d) ((width + 2 * d.zone) * d.scale))

-- the bytes are the picture that is asked for
pub record IsPicture (modules : List ℕ) (width : ℕ) (d : Drawing) (bytes : List ℕ) : Type 0 where
  pub named : Format
  pub asked : IsOfSquare modules width d named
  pub sized : HasSize width d named
  pub drawn : IsPictureIn named modules width d bytes

-- why modules of a width are not drawn into a buffer of `room` bytes: the first of these causes that applies
abbrev pub IsDrawingCause : List ℕ → ℕ → Drawing → ℕ → Refusal → Type 0
IsDrawingCause modules width d room NoSuchStruct = d.size ≢ 76
IsDrawingCause modules width d room NoSuchFormat = (d.size ≡ 76) × (format_numbered d.format ≡ None)
IsDrawingCause modules width d room NotSquare = (d.size ≡ 76) × ((format_numbered d.format ≢ None) × (length modules ≢ width * width))
IsDrawingCause modules width d room NoSuchSize = (f : Format) × (IsOfSquare modules width d f × (¬ HasSize width d f))
IsDrawingCause modules width d room NotInFormat = (f : Format) × (IsOfSquare modules width d f × (HasSize width d f × (is_sayable f d ≡ false)))
IsDrawingCause modules width d room NoSuchSide =
    (f : Format) × (IsOfSquare modules width d f × (HasSize width d f × (IsTrue (is_sayable f d) × (has_parts width d ≡ false))))
IsDrawingCause modules width d room SmallBuffer = (bytes : List ℕ) × (IsPicture modules width d bytes × (room < length bytes))
IsDrawingCause modules width d room OutOfMemory =
    (f : Format) × (IsOfSquare modules width d f × (HasSize width d f × (IsTrue (is_sayable f d) × IsTrue (has_parts width d))))
IsDrawingCause modules width d room refusal = ⊥

abbrev pub IsSquareCause : List ℕ → Refusal → Type 0  -- why modules are not decoded to bits
IsSquareCause modules NoSuchSide = HasNoVersion (colors_of modules)
IsSquareCause modules NoFormat = HasNoFormat (colors_of modules)
IsSquareCause modules Damaged = (block : ℕ) × HasDamagedBlock (colors_of modules) block
IsSquareCause modules OutOfMemory = ⊤
IsSquareCause modules refusal = ⊥

abbrev pub IsReadingCause : List ℕ → ℕ → Refusal → Type 0  -- why modules are not decoded into a buffer of `room` bytes
IsReadingCause modules room NotSpelled = SpellsNothing (colors_of modules)
IsReadingCause modules room SmallBuffer = (bytes : List ℕ) × (ReadsOnly (colors_of modules) bytes × (room < length bytes))
IsReadingCause modules room refusal = IsSquareCause modules refusal

-- why modules are not decoded in any position, into a buffer of `room` bytes
abbrev pub IsAnyReadingCause : List ℕ → ℕ → Refusal → Type 0
IsAnyReadingCause modules room NotRead = IsReadNowhere (colors_of modules)
IsAnyReadingCause modules room SmallBuffer = (any : Anywhere) × (IsReadAnywhere (colors_of modules) any × (room < length any.bytes))
IsAnyReadingCause modules room OutOfMemory = ⊤
IsAnyReadingCause modules room refusal = ⊥

abbrev pub IsTextReadingCause : List ℕ → ℕ → Refusal → Type 0  -- why modules are not decoded as a text into a buffer of `room` bytes
IsTextReadingCause modules room NotShown = ShowsNothing (colors_of modules)
IsTextReadingCause modules room SmallBuffer =
    (text : List ℕ) × (ShowsTextOnly (colors_of modules) (chars text) × (room < length text))
IsTextReadingCause modules room refusal = IsSquareCause modules refusal

abbrev pub IsMaskCause : List ℕ → Refusal → Type 0  -- why the mask of modules cannot be read
IsMaskCause modules NoSuchSide = HasNoVersion (colors_of modules)
IsMaskCause modules NoFormat = HasNoFormat (colors_of modules)
IsMaskCause modules OutOfMemory = ⊤
IsMaskCause modules refusal = ⊥
