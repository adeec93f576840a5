-- What headers and segments squares decode to, and that each error has its cause.
use Rattle.std.proofs.Common.{◌≡◌, ℕ, Bool, List, sym, subst, ◌⊎◌}
use Rattle.qrcode_types.specs.declared.types.Version.{Version}
use Rattle.qrcode_types.specs.declared.types.EcLevel.{EcLevel}
use Rattle.qrcode_types.specs.declared.types.Color.{Color}
use Rattle.qrcode_layout.specs.declared.masks.MaskPattern.{MaskPattern}
use Rattle.qrcode_symbol.specs.Reading.{ReadsBitsOnly}
use Rattle.qrcode_reader.specs.spell.Parts.{AreParts, HaveNoParts}
use Rattle.qrcode_reader.specs.declared.spell.parts.Part.{Part}
use Rattle.qrcode_reader.specs.declared.spell.refusals.Unspelled as spelling
use Rattle.qrcode_reader.specs.Refusals.{unread_of}
use Rattle.qrcode_reader.specs.Readings.{IsBitReading, IsPartsReading, IsPartsCause, ReadsParts}
use Rattle.qrcode_reader.specs.declared.correction.WrongCodeword.{WrongCodeword}
use Rattle.qrcode_reader.specs.declared.refusals.Unread.{Unread}
use Rattle.qrcode_reader.specs.declared.refusals.Unread.TheVariants.{NotSpelled, OutOfMemory}
use Rattle.qrcode_reader.proofs.Refused.{only_memory, caused}

-- what a square decodes to, and why to nothing, by its only bits
parts_of_bits : (s : List Color) (v : Version) (l : EcLevel) (bits : List Bool) (bytes : List ℕ) (parts : List Part) → ReadsBitsOnly s v l bits → (q : ReadsParts s bytes parts) → AreParts v bits bytes parts
parts_of_bits s v l bits bytes parts only q =
    let e = only.only q.version q.level q.bits q.read in
    subst (λ b. AreParts v b bytes parts) e.2 (subst (λ u. AreParts u q.bits bytes parts) e.0 q.parted)

-- a square with a cause other than memory does not decode to headers and segments
pub parts_only_memory : (s : List Color) (e : Unread) → IsPartsCause s e → (bytes : List ℕ) (parts : List Part) → ReadsParts s bytes parts → e ≡ OutOfMemory
parts_only_memory s NotSpelled cause bytes parts q = absurd (cause.none bytes parts (parts_of_bits s cause.version cause.level cause.bits bytes parts cause.only q))
parts_only_memory s e cause bytes parts q = only_memory s e cause q.version q.level q.bits q.read

-- if the bits decode to headers and segments, the square does
pub parts_reading : (s : List Color) (v : Version) (l : EcLevel) (k : MaskPattern) (bits given : List Bool) (bytes : List ℕ) (parts : List Part) (wrong : List WrongCodeword) → IsBitReading s v l k bits wrong → given ≡ bits
    → AreParts v given bytes parts → ((others : List ℕ) (more : List Part) → AreParts v given others more → (others ≡ bytes) × (more ≡ parts)) → IsPartsReading s v l k bytes parts wrong
parts_reading s v l k bits given bytes parts wrong read e holds alone = record {
  only = λ others more q. alone others more (subst (λ b. AreParts v b others more) (sym e) (parts_of_bits s v l bits others more read.only q));
  bits = bits;
  read = read;
  parted = subst (λ b. AreParts v b bytes parts) e holds;
}

-- if the bits decode to none, that is the cause
pub unparted : (s : List Color) (v : Version) (l : EcLevel) (bits given : List Bool) (e : spelling.Unspelled) → ReadsBitsOnly s v l bits → given ≡ bits
    → (e ≡ spelling.TheVariants.OutOfMemory) ⊎ ((e ≡ spelling.TheVariants.NotSpelled) × HaveNoParts v given) → IsPartsCause s (unread_of e)
unparted s v l bits given e only same why =
    caused (λ e. IsPartsCause s (unread_of e)) (HaveNoParts v given) spelling.TheVariants.OutOfMemory spelling.TheVariants.NotSpelled e tt
    (λ none. record { version = v; level = l; bits = bits; only = only; none = subst (HaveNoParts v) same none }) why
