-- What squares decode to, and that each error has its cause.
use Rattle.std.proofs.Common.{◌≡◌, ◌*◌, ◌<◌, ℕ, Bool, List, [], length, get_or, take, refl, sym, ap, subst, ◌∙◌, IsTrue, ◌⊎◌, inl, inr}
use Rattle.std.specs.List.{AllZip}
use Rattle.qrcode_types.specs.Bits.{bits_of}
use Rattle.qrcode_types.specs.Versions.{side, capacity, block_lengths, ec_length}
use Rattle.qrcode_types.specs.declared.types.Version.{Version}
use Rattle.qrcode_types.specs.declared.types.EcLevel.{EcLevel}
use Rattle.qrcode_types.specs.declared.types.Color.{Color}
use Rattle.qrcode_ec.specs.Codes.{Corrects}
use Rattle.qrcode_ec.specs.Blocks.{block, blocks, codewords, data_bits}
use Rattle.qrcode_layout.specs.Stream.{stream}
use Rattle.qrcode_layout.specs.declared.masks.MaskPattern.{MaskPattern}
use Rattle.qrcode_symbol.specs.Symbol.{blocks_in, IsDamaged}
use Rattle.qrcode_symbol.specs.Reading.{ReadsBits, ReadsBitsOnly}
use Rattle.qrcode_bits.specs.Spelling.{Spells, SpellsOnly}
use Rattle.qrcode_reader.specs.declared.spell.refusals.Unspelled as spelling
use Rattle.qrcode.specs.Reading.{Reads, EncodesBits, EncodesBytes}
use Rattle.qrcode.proofs.Readings.{same_format, bits_are_read_one_way, reads_only}
use Rattle.qrcode.proofs.Sides.{valid_of, same_version, same_root}
use Rattle.qrcode_reader.specs.Formats.{HasFormat}
use Rattle.qrcode_reader.specs.Corrected.{AreCorrected, IsFirstDamaged}
use Rattle.qrcode_reader.specs.Refusals.{unread_of}
use Rattle.qrcode_reader.specs.Readings.{IsBitReading, IsReading, IsBitCause, IsUnreadCause}
use Rattle.qrcode_reader.specs.declared.correction.WrongCodeword.{WrongCodeword}
use Rattle.qrcode_reader.specs.declared.refusals.Unread.{Unread}
use Rattle.qrcode_reader.specs.declared.refusals.Unread.TheVariants.{NoSuchSide, NoFormat, Damaged, NotSpelled, OutOfMemory}
use Rattle.qrcode_reader.proofs.Corrections.{corrects_at}

-- the corrected blocks of a square are what it decodes to
reads_bits : (s : List Color) (v : Version) (l : EcLevel) (k : MaskPattern) (bytes : List ℕ) (wrong : List WrongCodeword) (bits : List Bool) → length s ≡ side v * side v → HasFormat v s l k
    → (a : AreCorrected v l (codewords v l (stream v k s)) (length (block_lengths v l)) bytes wrong) → bits ≡ take (capacity v l) (bits_of bytes) → ReadsBits s v l bits
unfolding blocks data_bits
reads_bits s v l k bytes wrong bits square format a holds = record {
  exists = format.exists;
  square = square;
  mask = k;
  mask_exists = format.mask_exists;
  format = format.near;
  corrected = a.corrected;
  corrects = a.corrects;
  holds = sym (holds ∙ ap (λ b. take (capacity v l) (bits_of b)) a.holds);
}

pub bit_reading : (s : List Color) (v : Version) (l : EcLevel) (k : MaskPattern) (bytes : List ℕ) (wrong : List WrongCodeword) (bits : List Bool) → length s ≡ side v * side v → HasFormat v s l k
    → AreCorrected v l (codewords v l (stream v k s)) (length (block_lengths v l)) bytes wrong → bits ≡ take (capacity v l) (bits_of bytes) → IsBitReading s v l k bits wrong
unfolding blocks reads_bits
bit_reading s v l k bytes wrong bits square format a holds =
    let found = reads_bits s v l k bytes wrong bits square format a holds in
    record {
      only = record { found = found; only = λ u m others. bits_are_read_one_way s v u l m bits others found };
      mask = refl;
      places = a.places;
    }

-- a square decodes to bits only of the version with its side
on_side : (s : List Color) (u v : Version) (l : EcLevel) (bits : List Bool) → IsTrue (Rattle.qrcode_types.specs.Versions.is_valid u) → length s ≡ side u * side u → ReadsBits s v l bits → ReadsBits s u l bits
on_side s u v l bits valid square q =
    subst (λ w. ReadsBits s w l bits) (sym (same_version u v valid (valid_of v l q.exists) (same_root (side u) (side v) (sym square ∙ q.square)))) q

block_corrects : (s : List Color) (v : Version) (l : EcLevel) (k : MaskPattern) (cs : List (List ℕ)) (b : ℕ) → AllZip (λ r c. Corrects r (ec_length v l) c) (blocks_in v l k s) cs
    → b < length (block_lengths v l) → Corrects (block v l (codewords v l (stream v k s)) b) (ec_length v l) (get_or cs b [])
unfolding blocks
block_corrects s v l k cs b all less = corrects_at v l (codewords v l (stream v k s)) (length (block_lengths v l)) cs b all less

-- a refusal is that memory ran out, or the other one for its cause
pub caused : {E : Type 0} (P : E → Type 0) (Q : Type 0) (memory other e : E) → P memory → (Q → P other) → (e ≡ memory) ⊎ ((e ≡ other) × Q) → P e
caused P Q memory other e m o (inl is) = subst P (sym is) m
caused P Q memory other e m o (inr is) = subst P (sym is.0) (o is.1)

-- a square with a cause other than memory does not decode
pub only_memory : (s : List Color) (e : Unread) → IsBitCause s e → (v : Version) (l : EcLevel) (bits : List Bool) → ReadsBits s v l bits → e ≡ OutOfMemory
only_memory s NoSuchSide cause v l bits q = absurd (cause v (valid_of v l q.exists) q.square)
only_memory s NoFormat cause v l bits q =
    let r = on_side s cause.version v l bits cause.valid cause.square q in
    absurd (cause.none l r.mask (record { exists = r.exists; mask_exists = r.mask_exists; near = r.format }))
only_memory s (Damaged b) cause v l bits q =
    let u = cause.version in
    let f = cause.format in
    let r = on_side s u v l bits (valid_of u cause.level f.exists) cause.square q in
    let same = same_format u s cause.level l cause.mask r.mask f.exists r.exists f.mask_exists r.mask_exists f.near r.format in
    let t = subst (λ m. ReadsBits s u m bits) same.0 r in
    let mask = (same_format u s cause.level cause.level cause.mask t.mask f.exists t.exists f.mask_exists t.mask_exists f.near t.format).1 in
    let all = subst (λ k. AllZip (λ r c. Corrects r (ec_length u cause.level) c) (blocks_in u cause.level k s) t.corrected) mask t.corrects in
    absurd (cause.first.none (get_or t.corrected b []) (block_corrects s u cause.level cause.mask t.corrected b all cause.first.exists))
only_memory s NotSpelled cause v l bits q = absurd cause
only_memory s OutOfMemory cause v l bits q = refl

-- if the blocks cannot be corrected, that is the cause
pub blocked : (s : List Color) (v : Version) (l : EcLevel) (k : MaskPattern) (words : List ℕ) (e : Unread) → length s ≡ side v * side v → HasFormat v s l k → words ≡ codewords v l (stream v k s)
    → (e ≡ OutOfMemory) ⊎ ((b : ℕ) × (e ≡ Damaged b) × IsFirstDamaged v l words b) → IsBitCause s e
blocked s v l k words e square format same refused = elim refused [
  | inl memory ↦ subst (λ e. IsBitCause s e) (sym memory) tt
  | inr found ↦
      let is : IsBitCause s (Damaged found.0) = record { version = v; level = l; mask = k; square = square; format = format; first = subst (λ w. IsFirstDamaged v l w found.0) same found.2 } in
      subst (λ e. IsBitCause s e) (sym found.1) is
]

pub bytes_only_memory : (s : List Color) (e : Unread) → IsUnreadCause s e → (bytes : List ℕ) → Reads s bytes → e ≡ OutOfMemory
bytes_only_memory s NotSpelled cause bytes q =
    let e = cause.only.only q.version q.level q.bits q.read in
    absurd (cause.none bytes (subst (λ b. Spells cause.version b bytes) e.2 (subst (λ v. Spells v q.bits bytes) e.0 q.spelled)))
bytes_only_memory s e cause bytes q = only_memory s e cause q.version q.level q.bits q.read

-- if the bits decode to bytes, the square does
pub reading : (s : List Color) (v : Version) (l : EcLevel) (k : MaskPattern) (bits given : List Bool) (bytes : List ℕ) (wrong : List WrongCodeword) → IsBitReading s v l k bits wrong → given ≡ bits
    → SpellsOnly v given bytes → IsReading s v l k bytes wrong
reading s v l k bits given bytes wrong read e spells =
    let spelled = subst (λ b. Spells v b bytes) e spells.found in
    record {
      only = reads_only s v l bits bytes read.only.found spelled;
      bits = bits;
      read = read;
      spelled = spelled;
    }

-- if the bits decode to no bytes, that is the cause
pub unspelled : (s : List Color) (v : Version) (l : EcLevel) (bits given : List Bool) (e : spelling.Unspelled) → ReadsBitsOnly s v l bits → given ≡ bits
    → (e ≡ spelling.TheVariants.OutOfMemory) ⊎ ((e ≡ spelling.TheVariants.NotSpelled) × ((bytes : List ℕ) → ¬ Spells v given bytes)) → IsUnreadCause s (unread_of e)
unspelled s v l bits given e only same why =
    caused (λ e. IsUnreadCause s (unread_of e)) ((bytes : List ℕ) → ¬ Spells v given bytes) spelling.TheVariants.OutOfMemory spelling.TheVariants.NotSpelled e tt
    (λ none. record { version = v; level = l; bits = bits; only = only; none = subst (λ b. (bytes : List ℕ) → ¬ Spells v b bytes) same none }) why

-- a damaged symbol decodes to the bytes that the symbol encodes
pub given_back : (s : List Color) (v : Version) (l : EcLevel) (k : MaskPattern) (bytes : List ℕ) (wrong : List WrongCodeword) → IsReading s v l k bytes wrong
    → (u : Version) (m : EcLevel) (bits : List Bool) (others : List ℕ) (symbol : List Color) → (encodes : EncodesBytes u m bits others symbol) → IsDamaged u m encodes.encodes.mask symbol s
    → (v ≡ u) × (l ≡ m) × (bytes ≡ others)
given_back s v l k bytes wrong is u m bits others symbol encodes damaged =
    let same = (encodes.encodes.read s damaged).only v l is.bits is.read.only.found in
    (same.0, same.1, (encodes.read s damaged).only bytes is.only.found)

-- a damaged symbol decodes to the bits that the symbol encodes
pub bits_given_back : (s : List Color) (v : Version) (l : EcLevel) (k : MaskPattern) (bits : List Bool) (wrong : List WrongCodeword) → IsBitReading s v l k bits wrong
    → (u : Version) (m : EcLevel) (others : List Bool) (symbol : List Color) → (encodes : EncodesBits u m others symbol) → IsDamaged u m encodes.mask symbol s
    → (v ≡ u) × (l ≡ m) × (bits ≡ others)
bits_given_back s v l k bits wrong is u m others symbol encodes damaged = (encodes.read s damaged).only v l bits is.only.found

-- a damaged symbol of bits has no cause other than memory
pub bits_only_memory : (s : List Color) (e : Unread) → IsBitCause s e → (u : Version) (m : EcLevel) (others : List Bool) (symbol : List Color) → (encodes : EncodesBits u m others symbol)
    → IsDamaged u m encodes.mask symbol s → e ≡ OutOfMemory
bits_only_memory s e cause u m others symbol encodes damaged = only_memory s e cause u m others (encodes.read s damaged).found
