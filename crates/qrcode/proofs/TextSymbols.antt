-- The symbol of a list of bits in a manner.
use Rattle.std.proofs.Common.{◌≡◌, ℕ, ◌≤◌, ◌<◌, ◌++◌, Bool, List, [], sym, subst, ◌∙◌, arith, true≢false, inl, inr, Result, Ok, Err, IfOk}
use Rattle.std.specs.Prelude.{chars, IsUtf8, IsTrue}
use Rattle.qrcode_types.specs.Versions.{capacity, level_number}
use Rattle.qrcode_types.specs.declared.types.Version.{Version}
use Rattle.qrcode_types.specs.declared.types.EcLevel.{EcLevel}
use Rattle.qrcode_types.specs.declared.types.QrError.{QrError}
use Rattle.qrcode_types.specs.declared.types.QrError.TheVariants.{OutOfMemory}
use Rattle.qrcode_types.specs.declared.types.Color.{Color}
use Rattle.qrcode_symbol.specs.Reading.{ReadsBits}
use Rattle.qrcode_bits.specs.BitList.{BitList}
use Rattle.qrcode_bits.specs.Choice.{IsRefusedIn}
use Rattle.qrcode_bits.specs.Encoded.{IsListAs, IsBoostedList}
use Rattle.qrcode_bits.specs.Manners.{is_text, front, HoldsAs, IsLeastFrom}
use Rattle.qrcode_bits.specs.Segments.{total_cost}
use Rattle.qrcode_bits.specs.Shown.{Shows, ShowsOnly}
use Rattle.qrcode_bits.specs.Spelling.{Spells}
use Rattle.qrcode_bits.specs.Written.{written, terminated, pieces_of}
use Rattle.qrcode_bits.specs.declared.bits.manner.Manner.{Manner}
use Rattle.qrcode_bits.proofs.Automatic.{held_short}
use Rattle.qrcode_bits.proofs.CutPieces.{cut_pieces}
use Rattle.qrcode_bits.proofs.Endings.{spells_terminated}
use Rattle.qrcode_bits.proofs.Manners.{valid_of}
use Rattle.qrcode.specs.Code.{Code}
use Rattle.qrcode.specs.Reading.{EncodesBits}
use Rattle.qrcode.specs.Texts.{ShowsTextOnly, IsShownAs, TextsAreShown, IsSymbolAs, IsBoostedAs}
use Rattle.qrcode.proofs.Readings.{bits_are_read_one_way, reads_only}

shows_only : (s : List Color) (v : Version) (l : EcLevel) (bits : List Bool) (text : List ℕ) → ReadsBits s v l bits → ShowsOnly v bits text → ShowsTextOnly s text
shows_only s v l bits text read shown = record {
  found = record { version = v; level = l; bits = bits; read = read; shown = shown.found };
  only = λ others q.
      let same = bits_are_read_one_way s v q.version l q.level bits q.bits read q.read in
      shown.only others (subst (λ b. Shows v b others) same.2 (subst (λ u. Shows u q.bits others) same.0 q.shown));
}

-- if bits are shown as a text, so is their symbol, even damaged
pub shown_bits : TextsAreShown
shown_bits v l bits text s encodes only = record {
  mask = encodes.mask;
  is_mask = record { exists = encodes.mask_exists; patterns = encodes.symbol.patterns; first_least = encodes.first_least };
  shown = λ other damage. shows_only other v l bits text (encodes.read other damage).found only;
}

-- and so is the symbol of a text
pub shown_symbol : (m : Manner) (v : Version) (l : EcLevel) (bytes : List ℕ) (s : List Color) → IsSymbolAs m v l bytes s → IsTrue (is_text m) → IsUtf8 bytes → IsShownAs v l (chars bytes) s
shown_symbol m v l bytes s made text utf8 = record {
  mask = made.encodes.mask;
  is_mask = record { exists = made.encodes.mask_exists; patterns = made.encodes.symbol.patterns; first_least = made.encodes.first_least };
  shown = made.shown text utf8;
}

-- a list with nothing in front spells its data
spelled_as : (m : Manner) (l : EcLevel) (bytes : List ℕ) (list : BitList) → (made : IsListAs m l bytes list) → front m ≡ []
    → Spells list.version (terminated list.version l (front m ++ written list.version (pieces_of bytes made.segments))) bytes
spelled_as m l bytes list made none =
    let v = list.version in
    let ss = made.segments in
    let ps = pieces_of bytes ss in
    let fits = made.holds.room in
    let room : total_cost v ss ≤ capacity v l = omega (arith, made.least.least fits.0 fits.1.0, fits.1.1) in
    let valid = valid_of v l made.holds.exists in
    let pieces = cut_pieces v l bytes ss valid made.least.reached.cut room in
    subst (λ b. Spells v (terminated v l (b ++ written v ps)) bytes) (sym none) (subst (Spells v (terminated v l (written v ps))) pieces.2 (spells_terminated v l ps pieces.0 pieces.1))

-- the symbol of such a list
pub symbol_as : (m : Manner) (l : EcLevel) (bytes : List ℕ) (list : BitList) (s : List Color) → IsListAs m l bytes list → EncodesBits list.version l list.bits s → IsSymbolAs m list.version l bytes s
symbol_as m l bytes list s made given =
    let v = list.version in
    let bits = terminated v l (front m ++ written v (pieces_of bytes made.segments)) in
    let encodes : EncodesBits v l bits s = subst (λ b. EncodesBits v l b s) made.bits given in
    record {
      segments = made.segments;
      least = made.least;
      encodes = encodes;
      shown = λ text utf8 other damage. shows_only other v l bits (chars bytes) (encodes.read other damage).found (subst (λ b. ShowsOnly v b (chars bytes)) made.bits (made.shown text utf8));
      read = λ none other damage. reads_only other v l bits bytes (encodes.read other damage).found (spelled_as m l bytes list made none);
    }

pub code_as : (m : Manner) (l : EcLevel) (bytes : List ℕ) (list : BitList) (code : Result Code QrError) → IsListAs m l bytes list → IfOk code (λ code. code.version ≡ list.version)
    → IfOk code (λ code. EncodesBits list.version l list.bits code.modules) → IfOk code (λ code. IsSymbolAs m code.version l bytes code.modules)
code_as m l bytes list (Err e) made version encodes = tt
code_as m l bytes list (Ok code) made version encodes = subst (λ u. IsSymbolAs m u l bytes code.modules) (sym version) (symbol_as m l bytes list code.modules made encodes)

-- and of the list at the highest level
pub boosted_as : (m : Manner) (from : Version) (l highest : EcLevel) (bytes : List ℕ) (list : BitList) (code : Result Code QrError) → IsBoostedList m from l bytes highest list
    → IfOk code (λ code. code.version ≡ list.version) → IfOk code (λ code. code.level ≡ highest) → IfOk code (λ code. EncodesBits list.version highest list.bits code.modules)
    → IfOk code (IsBoostedAs m from l bytes)
boosted_as m from l highest bytes list (Err e) made version level encodes = tt
boosted_as m from l highest bytes list (Ok code) made version level encodes =
    let symbol = subst (λ h. IsSymbolAs m code.version h bytes code.modules) (sym level)
    (subst (λ u. IsSymbolAs m u highest bytes code.modules) (sym version) (symbol_as m highest bytes list code.modules made.written encodes)) in
    record {
      least_version = subst (IsLeastFrom m from l bytes) (sym version) made.least_version;
      symbol = symbol;
      shown = shown_symbol m code.version code.level bytes code.modules symbol;
      at_least = subst (λ h. level_number l ≤ level_number h) (sym level) made.at_least;
      highest_level = λ other above. subst (λ u. ¬ HoldsAs m u other bytes) (sym version) (made.highest_level other (subst (λ h. level_number h < level_number other) level above));
    }

-- data that fits is rejected only because memory ran out
pub refused_for_memory : (m : Manner) (v : Version) (l : EcLevel) (bytes : List ℕ) (e : QrError) → HoldsAs m v l bytes → e ≡ OutOfMemory → IsRefusedIn m v l bytes e
refused_for_memory m v l bytes e holds memory =
    let valid = valid_of v l holds.exists in
    let short = held_short m v l bytes holds in
    inr (λ no. true≢false (sym valid ∙ no), inr (λ long. omega (arith, short, long), inr (λ no. true≢false (sym holds.front_exists ∙ no), inr (λ none. none holds.room.0 holds.room.1.0, inl memory))))
