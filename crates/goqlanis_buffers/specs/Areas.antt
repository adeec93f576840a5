-- What the calls for C report of areas.
use Rattle.std.specs.Prelude.{◌≡◌, ◌≢◌, ◌⊎◌, ◌*◌, ◌/◌, ◌%◌, ◌<◌, ◌≤◌, ◌==◌, ⊤, ℕ, Bool, false, List, length, map, Option, Some, None, Result, slice_index, if◌then◌else◌, IsTrue}
use Rattle.std.specs.List.{range_with_len}
use Rattle.qrcode_types.specs.Versions.{block_lengths, ec_length, side}
use Rattle.qrcode_types.specs.declared.types.Color.{Color}
use Rattle.qrcode_types.specs.declared.types.EcLevel.{EcLevel}
use Rattle.qrcode_types.specs.declared.types.Version.{Version}
use Rattle.qrcode_layout.specs.declared.masks.MaskPattern.{MaskPattern}
use Rattle.qrcode_symbol.specs.Reading.{ReadsBitsOnly}
use Rattle.qrcode.specs.Reading.{EncodesBits, EncodesBytes, ReadsOnly}
use Rattle.qrcode_reader.specs.Formats.{HasFormat}
use Rattle.qrcode_reader.specs.declared.formats.FormatCopy.TheVariants.{First, Last}
use Rattle.goqlanis_buffers.specs.Shades.{colors_of}
use Rattle.qrcode_damage.specs.Areas.{AgreesOutside, KeepsFormat, LeavesReserve, MayShowAnything, covers, is_inside, touched}
use Rattle.qrcode_damage.specs.Counting.{touched_places}
use Rattle.qrcode_damage.specs.Rectangles.{IsLargest, NoneLarger}
use Rattle.qrcode_damage.specs.Refusals.{IsLostBlock}
use Rattle.qrcode_damage.specs.Reserves.{IsLeast}
use Rattle.qrcode_damage.specs.declared.areas.Rectangle.{Rectangle}
use Rattle.qrcode_damage.specs.declared.rectangles.Kept.TheVariants.{AllPatterns, ButAlignment}
use Rattle.qrcode_damage.specs.declared.rectangles.Wish as asked
use Rattle.goqlanis_buffers.specs.Answers.{IsMaskCause}
use Rattle.goqlanis_buffers.specs.Calls.{Tells, Writes}
use Rattle.goqlanis_buffers.specs.Names.{IsLevelNamed, IsPairCause}
use Rattle.goqlanis_buffers.specs.Outputs.{IsFilled}
use Rattle.goqlanis_buffers.specs.declared.answers.Fault.{Fault}
use Rattle.goqlanis_buffers.specs.declared.answers.Fault.TheVariants.{At, Other}
use Rattle.goqlanis_buffers.specs.declared.answers.Refusal.{Refusal}
use Rattle.goqlanis_buffers.specs.declared.answers.Refusal.TheVariants.{AreaBlock, AreaFormat, NoArea, NoSuchArea, NoSuchStruct, OutOfMemory, SmallBuffer}
use Rattle.goqlanis_buffers.specs.declared.areas.AreaUse.{AreaUse}
use Rattle.goqlanis_buffers.specs.declared.areas.Wish.{Wish}

abbrev pub told : ℕ → ℕ → Option ℕ  -- the number n, or none if the flag is 0
told is_there n = if is_there == 0 then None else Some n

-- how many codewords of each block an area touches, and what else it takes of a symbol
pub record IsAreaUse (v : Version) (l : EcLevel) (area : ℕ → ℕ → Bool) (counts : List ℕ) (t : AreaUse) : Type 0 where
  pub counted : counts ≡ map (touched v l area) (range_with_len 0 (length (block_lengths v l)))
  pub blocks : t.blocks ≡ length (block_lengths v l)
  pub allowed : t.allowed ≡ ec_length v l / 2
  pub inside : t.worst < t.blocks
  pub worst : (b : ℕ) → b < t.blocks → touched v l area b ≤ touched v l area t.worst
  pub first : t.first ≡ touched_places v area First
  pub last : t.last ≡ touched_places v area Last
  pub least : IsLeast v l area (told t.may_show_anything t.least)

-- what rectangles take of a symbol of the version and level with these numbers; the counts are at the start of a buffer
pub record IsAreaUseInto (version level : ℕ) (rectangles : List Rectangle) (old new : List ℕ) (t : AreaUse) : Type 0 where
  pub v : Version
  pub l : EcLevel
  pub named : IsLevelNamed version level v l
  pub inside : IsTrue (is_inside (side v) rectangles)
  pub counts : List ℕ
  pub taken : IsAreaUse v l (covers rectangles) counts t
  pub filled : IsFilled old new counts

-- rectangles are not inside a symbol of the version, or there are more of them than modules in the largest symbol
abbrev pub IsNoArea : Version → List Rectangle → Type 0
IsNoArea v rectangles = (is_inside (side v) rectangles ≡ false) ⊎ (31329 < length rectangles)

-- why that is not reported, into a buffer of `room` items: the first of these causes that applies
abbrev pub IsReserveCause : ℕ → ℕ → List Rectangle → ℕ → Refusal → Type 0
IsReserveCause version level rectangles room NoSuchArea =
    (v : Version) × ((l : EcLevel) × (IsLevelNamed version level v l × IsNoArea v rectangles))
IsReserveCause version level rectangles room SmallBuffer =
    (v : Version) × ((l : EcLevel) × (IsLevelNamed version level v l × (IsTrue (is_inside (side v) rectangles) × (room < length (block_lengths v l)))))
IsReserveCause version level rectangles room OutOfMemory = ⊤
IsReserveCause version level rectangles room refusal = IsPairCause version level refusal

abbrev pub WritesReserve : ℕ → ℕ → List Rectangle → List ℕ → List ℕ → Result AreaUse Refusal → Type 0
WritesReserve version level rectangles old new result =
    Writes (IsAreaUseInto version level rectangles old) (IsReserveCause version level rectangles (length old)) old new result

-- what a wish asks for in a symbol; the number 2 ^ 32 - 1 means a reserve of half of the codewords of each block that may be lost
abbrev pub wanted : Version → EcLevel → Wish → asked.Wish
wanted v l w = record {
  across = w.across;
  down = w.down;
  reserve = if w.reserve == 0xffffffff then ec_length v l / 2 / 2 else w.reserve;
  kept = if w.keep_alignment == 0 then ButAlignment else AllPatterns;
}

-- the largest rectangle in the middle of a symbol that satisfies the wish
pub record IsLargestNamed (version level : ℕ) (w : Wish) (r : Rectangle) : Type 0 where
  pub v : Version
  pub l : EcLevel
  pub size : w.size ≡ 20
  pub named : IsLevelNamed version level v l
  pub largest : IsLargest v l (wanted v l w) r

-- why there is none: the first of these causes that applies
abbrev pub IsLargestCause : ℕ → ℕ → Wish → Refusal → Type 0
IsLargestCause version level w NoSuchStruct = w.size ≢ 20
IsLargestCause version level w NoArea =
    (v : Version) × ((l : EcLevel) × ((w.size ≡ 20) × (IsLevelNamed version level v l × NoneLarger v l (wanted v l w) 0)))
IsLargestCause version level w OutOfMemory = ⊤
IsLargestCause version level w refusal = (w.size ≡ 20) × IsPairCause version level refusal

abbrev pub TellsLargest : ℕ → ℕ → Wish → Result Rectangle Refusal → Type 0
TellsLargest version level w result = Tells (IsLargestNamed version level w) (IsLargestCause version level w) result

abbrev pub covered_byte : ℕ → (ℕ → ℕ → Bool) → List ℕ → ℕ → ℕ  -- the module at index i: light if it lies in the area, else unchanged
covered_byte width area modules i = if area (i % width) (i / width) then 0 else slice_index modules i

-- the side of a square and its format information name this version and level
pub record IsOfLevel (s : List Color) (v : Version) (l : EcLevel) : Type 0 where
  pub square : length s ≡ side v * side v
  pub mask : MaskPattern
  pub format : HasFormat v s l mask

-- An area of a square of modules is light and may show anything: if the modules were the symbol of bytes, each square that agrees with the result outside the
-- area decodes to these bytes alone; and if they were that of bits, which may hold headers too, to these bits alone.
pub record IsCovered (rectangles : List Rectangle) (old new : List ℕ) : Type 0 where
  pub v : Version
  pub l : EcLevel
  pub named : IsOfLevel (colors_of old) v l
  pub inside : IsTrue (is_inside (side v) rectangles)
  pub may : MayShowAnything v l (covers rectangles)
  pub same_length : length new ≡ length old
  pub each : (i : ℕ) → i < length old → slice_index new i ≡ covered_byte (side v) (covers rectangles) old i
  pub read : (bits : List Bool) (bytes : List ℕ) (other : List Color) → EncodesBytes v l bits bytes (colors_of old)
      → AgreesOutside v (covers rectangles) (colors_of new) other → ReadsOnly other bytes
  pub read_bits : (bits : List Bool) (other : List Color) → EncodesBits v l bits (colors_of old)
      → AgreesOutside v (covers rectangles) (colors_of new) other → ReadsBitsOnly other v l bits

-- the area lies inside the square, which has this version and level
pub record IsAreaIn (rectangles : List Rectangle) (modules : List ℕ) (v : Version) (l : EcLevel) : Type 0 where
  pub named : IsOfLevel (colors_of modules) v l
  pub inside : IsTrue (is_inside (side v) rectangles)

-- why an area is not covered, other than a block that would lose too much: the first of these causes that applies
abbrev pub IsUncoveredCause : List Rectangle → List ℕ → Refusal → Type 0
IsUncoveredCause rectangles modules NoSuchArea =
    (v : Version) × ((l : EcLevel) × (IsOfLevel (colors_of modules) v l × IsNoArea v rectangles))
IsUncoveredCause rectangles modules AreaFormat =
    (v : Version) × ((l : EcLevel) × (IsAreaIn rectangles modules v l × (LeavesReserve v l (covers rectangles) 0 × ¬ KeepsFormat v (covers rectangles))))
IsUncoveredCause rectangles modules refusal = IsMaskCause modules refusal

-- why an area is not covered; of a block that would lose too much, with its number
abbrev pub IsUncovered : List Rectangle → List ℕ → Fault → Type 0
IsUncovered rectangles modules (At b AreaBlock) =
    (v : Version) × ((l : EcLevel) × (IsAreaIn rectangles modules v l
    × IsLostBlock v l (covers rectangles) b (touched v l (covers rectangles) b) (ec_length v l / 2)))
IsUncovered rectangles modules (At b refusal) = ⊥
IsUncovered rectangles modules (Other refusal) = IsUncoveredCause rectangles modules refusal

-- covers an area of a square of modules, or fails for a cause
abbrev pub CoversArea : List Rectangle → List ℕ → List ℕ → Result (Unit {0}) Fault → Type 0
CoversArea rectangles old new result = Writes (λ new done. IsCovered rectangles old new) (IsUncovered rectangles old) old new result
