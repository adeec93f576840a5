-- The symbol of bytes after FNC1.
use Rattle.std.specs.Prelude.{◌≡◌, ◌⊎◌, ℕ, ◌+◌, ◌≤◌, pos, List, ◌++◌, length, IsTrue}
use Rattle.qrcode_types.specs.Versions.{has_level, capacity}
use Rattle.qrcode_types.specs.declared.types.Version.{Version}
use Rattle.qrcode_types.specs.declared.types.Version.TheVariants.{Normal}
use Rattle.qrcode_types.specs.declared.types.EcLevel.{EcLevel}
use Rattle.qrcode_types.specs.declared.types.QrError.{QrError}
use Rattle.qrcode_types.specs.declared.types.QrError.TheVariants.{DataTooLong, OutOfMemory}
use Rattle.qrcode_types.specs.declared.types.Color.{Color}
use Rattle.qrcode_symbol.specs.Symbol.{IsDamaged}
use Rattle.qrcode_bits.specs.BitList.{BitList}
use Rattle.qrcode_bits.specs.Written.{written, terminated}
use Rattle.qrcode_bits.specs.declared.optimize.Segment.{Segment}
use Rattle.qrcode.specs.Code.{Code}
use Rattle.qrcode.specs.Reading.{EncodesBits}
use Rattle.qrcode_gs1.specs.symbol.Characters.{mark, marked_pieces}
use Rattle.qrcode_gs1.specs.symbol.Cuts.{IsMarkedCut, IsLeastMarkedCut, marked_cost}
use Rattle.qrcode_gs1.specs.symbol.Reading.{SpellsMarked, ReadsMarkedOnly}
use Rattle.qrcode_gs1.specs.declared.symbol.Fnc1.{Fnc1}

-- a Normal version has the level, and room for the mark and some cut
pub record HoldsMarked (p : Fnc1) (l : EcLevel) (bytes : List ℕ) (number : ℕ) : Type 0 where
  pub exists : IsTrue (has_level (Normal (pos number)) l)
  pub segments : List Segment
  pub cut : IsMarkedCut bytes segments
  pub room : length (mark p) + marked_cost (Normal (pos number)) bytes segments ≤ capacity (Normal (pos number)) l

-- the mark and a shortest cut, terminated
pub record IsMarkedList (p : Fnc1) (v : Version) (l : EcLevel) (bytes : List ℕ) (list : BitList) : Type 0 where
  pub version : list.version ≡ v
  pub segments : List Segment
  pub least : IsLeastMarkedCut v bytes segments
  pub bits : list.bits ≡ terminated v l (mark p ++ written v (marked_pieces bytes segments))
  pub full : length list.bits ≡ capacity v l
  pub spelled : SpellsMarked v list.bits p bytes

-- The symbol of the mark and a shortest cut, in the smallest Normal version from this one on that holds them; each
-- symbol within the promised damage decodes to the bytes after that mark, and to no others.
pub record IsMarkedSymbol (from : ℕ) (p : Fnc1) (l : EcLevel) (bytes : List ℕ) (code : Code) : Type 0 where
  pub number : ℕ
  pub at_least : from ≤ number
  pub version : code.version ≡ Normal (pos number)
  pub level : code.level ≡ l
  pub holds : HoldsMarked p l bytes number
  pub least_version : (other : ℕ) → from ≤ other → HoldsMarked p l bytes other → number ≤ other
  pub segments : List Segment
  pub least : IsLeastMarkedCut (Normal (pos number)) bytes segments
  pub encodes : EncodesBits (Normal (pos number)) l (terminated (Normal (pos number)) l (mark p ++ written (Normal (pos number)) (marked_pieces bytes segments))) code.modules
  pub read : (other : List Color) → IsDamaged (Normal (pos number)) l encodes.mask code.modules other → ReadsMarkedOnly other p bytes

-- why there is no symbol: memory ran out, or no Normal version from this one on holds the bytes
abbrev pub IsMarkedRefused : ℕ → Fnc1 → EcLevel → List ℕ → QrError → Type 0
IsMarkedRefused from p l bytes e = (e ≡ OutOfMemory) ⊎ ((e ≡ DataTooLong) × ((number : ℕ) → from ≤ number → ¬ HoldsMarked p l bytes number))
