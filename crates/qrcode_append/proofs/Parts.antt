-- The list of bits of a part, and its symbol.
use Rattle.std.proofs.Common.{◌≡◌, ℕ, suc, ◌+◌, ◌-◌, ◌*◌, ◌<◌, ◌≤◌, ◌++◌, Bool, false, List, [], ◌∷◌, length, refl, sym, ap, subst, ◌∙◌, arith, inl, Some, None, Result, Ok, Err, IfOk, IsTrue, length-append, append_assoc, if◌then◌else◌}
use Rattle.std.specs.Prelude.{chars, IsUtf8}
use Rattle.std.proofs.lemmas.List.{append_cancel_left}
use Rattle.std.proofs.lemmas.List.Sums.{count_by-le-length}
use Rattle.qrcode_types.specs.Characters.{is_digit}
use Rattle.qrcode_types.specs.Versions.{is_valid, is_micro, has_level, capacity, terminator_length}
use Rattle.qrcode_types.specs.declared.types.Version.{Version}
use Rattle.qrcode_types.specs.declared.types.EcLevel.{EcLevel}
use Rattle.qrcode_types.specs.declared.types.QrError.{QrError}
use Rattle.qrcode_types.specs.declared.types.Color.{Color}
use Rattle.qrcode_symbol.specs.Reading.{ReadsBits}
use Rattle.qrcode_bits.specs.BitList.{BitList}
use Rattle.qrcode_bits.specs.Cuts.{IsCut, IsLeastCutIn}
use Rattle.qrcode_bits.specs.Manners.{modes_of, is_text}
use Rattle.qrcode_bits.specs.Refusals.{append_refusal, bit_limit, data_limit}
use Rattle.qrcode_bits.specs.Segments.{total_cost}
use Rattle.qrcode_bits.specs.StructuredAppend.{parity, append_header, append_front, SpellsPart}
use Rattle.qrcode_bits.specs.Shown.{Shows, ShowsOnly}
use Rattle.qrcode_bits.specs.Spelling.{IsReadAs}
use Rattle.qrcode_bits.specs.Written.{Piece, written, pieces_of, terminated, ending}
use Rattle.qrcode_bits.specs.declared.bits.manner.Manner.{Manner}
use Rattle.qrcode_bits.specs.declared.optimize.Segment.{Segment}
use Rattle.qrcode_bits.proofs.Changed.{append_fits}
use Rattle.qrcode_bits.proofs.CutPieces.{cut_joined, cut_pieces, length-written}
use Rattle.qrcode_bits.proofs.Endings.{read_as, ending-is_end, terminated-ending}
use Rattle.qrcode_bits.proofs.Manners.{valid_of}
use Rattle.qrcode_bits.proofs.Shortness.{least_cut}
use Rattle.qrcode_bits.proofs.ShownOnce.{one_shown}
use Rattle.qrcode_bits.proofs.ShownTexts.{segments_shown}
use Rattle.qrcode.specs.Code.{Code}
use Rattle.qrcode.specs.Reading.{EncodesBits}
use Rattle.qrcode.proofs.Readings.{bits_are_read_one_way}
use Rattle.qrcode_append.specs.Division.{part}
use Rattle.qrcode_append.specs.Reading.{EachAt, ShowsPartOnly}
use Rattle.qrcode_append.specs.Symbols.{front_length, PartFits, HoldSeveral, IsPartList, IsPartSymbol, AreParted}
use Rattle.qrcode_append.proofs.Borders.{parts_joined, part_text}
use Rattle.qrcode_append.proofs.Fronts.{length-header, length-front}
use Rattle.qrcode_append.proofs.Together.{together}

-- the bits after the header of a part: its segments, terminator and padding
behind : Version → EcLevel → ℕ → ℕ → ℕ → List Piece → List Bool
behind v l place last parity ps = written v ps ++ ending (terminator_length v) (length (append_front place last parity ++ written v ps)) (capacity v l)

behind_parted : (v : Version) (l : EcLevel) (place last parity : ℕ) (ps : List Piece) → terminated v l (append_front place last parity ++ written v ps) ≡ append_front place last parity ++ behind v l place last parity ps
unfolding behind
behind_parted v l place last parity ps =
    let front = append_front place last parity in
    terminated-ending v l (front ++ written v ps) ∙ append_assoc front (written v ps) (ending (terminator_length v) (length (front ++ written v ps)) (capacity v l))

-- a reader finds the segments there
behind_read : (v : Version) (l : EcLevel) (place last parity : ℕ) (bytes : List ℕ) (ss : List Segment) → IsTrue (is_valid v) → IsCut v bytes ss → front_length last + total_cost v ss ≤ capacity v l
    → IsReadAs v (behind v l place last parity (pieces_of bytes ss)) (pieces_of bytes ss)
unfolding behind
behind_read v l place last parity bytes ss valid cut room =
    let front = append_front place last parity in
    let ps = pieces_of bytes ss in
    let ready = front ++ written v ps in
    let pieces = cut_pieces v l bytes ss valid cut (omega (arith, room)) in
    let fits : length ready ≤ capacity v l =
    omega (arith, length-append front (written v ps), length-front place last parity, length-written v bytes 0 ss (length bytes) cut.tiles (omega arith), room) in
    read_as v ps (ending (terminator_length v) (length ready) (capacity v l)) pieces.0 (ending-is_end (terminator_length v) (length ready) (capacity v l) fits)

-- the header, a division of the part into segments and the terminator decode to the part
pub part_spelled : (v : Version) (l : EcLevel) (place last parity : ℕ) (bytes : List ℕ) (ss : List Segment) → IsTrue (is_valid v) → is_micro v ≡ false → IsCut v bytes ss
    → front_length last + total_cost v ss ≤ capacity v l → SpellsPart v (terminated v l (append_front place last parity ++ written v (pieces_of bytes ss))) place last parity bytes
part_spelled v l place last parity bytes ss valid normal cut room = record {
  exists = λ _. normal;
  rest = behind v l place last parity (pieces_of bytes ss);
  parted = behind_parted v l place last parity (pieces_of bytes ss);
  spelled = record {
    pieces = pieces_of bytes ss;
    read = behind_read v l place last parity bytes ss valid cut room;
    joined = cut_joined v bytes ss cut;
  };
}

-- and is shown as the part's characters, and as no others
part_shown : (m : Manner) (v : Version) (l : EcLevel) (place last parity : ℕ) (bytes : List ℕ) (ss : List Segment) → IsTrue (is_valid v) → IsTrue (is_text m) → IsUtf8 bytes → IsLeastCutIn (modes_of m) v bytes ss
    → front_length last + total_cost v ss ≤ capacity v l → ShowsOnly v (behind v l place last parity (pieces_of bytes ss)) (chars bytes)
part_shown m v l place last parity bytes ss valid text utf8 least room =
    let rest = behind v l place last parity (pieces_of bytes ss) in
    let found : Shows v rest (chars bytes) = record {
      before = [];
      rest = rest;
      is_front = inl refl;
      parted = refl;
      pieces = pieces_of bytes ss;
      read = behind_read v l place last parity bytes ss valid least.reached.cut room;
      shown = segments_shown m v bytes ss text utf8 least;
    } in
    record { found = found; only = λ others shown. one_shown v rest (chars bytes) others found shown }

-- a square that reads as bits in which a part is shown shows the part only
square_shown : (s : List Color) (v : Version) (l : EcLevel) (bits rest : List Bool) (place last parity : ℕ) (text : List ℕ) → ReadsBits s v l bits → is_micro v ≡ false
    → bits ≡ append_front place last parity ++ rest → ShowsOnly v rest text → ShowsPartOnly s place last parity text
square_shown s v l bits rest place last parity text read normal parted shown = record {
  found = record { version = v; level = l; bits = bits; read = read; exists = λ _. normal; rest = rest; parted = parted; shown = shown.found };
  only = λ others q.
      let front = append_front place last parity in
      let same = bits_are_read_one_way s v q.version l q.level bits q.bits read q.read in
      let behind : q.rest ≡ rest = append_cancel_left front q.rest rest (sym q.parted ∙ same.2 ∙ parted) in
      shown.only others (subst (λ b. Shows v b others) behind (subst (λ u. Shows u q.rest others) same.0 q.shown));
}

-- appending one item
pub each-push : {X : Type 0} (P : ℕ → X → Type 0) (xs : List X) (x : X) → EachAt P xs → P (length xs) x → EachAt P (xs ++ x ∷ [])
each-push P [] x each last = (last, tt)
each-push P (y ∷ xs) x each last = (each.0, each-push (λ place. P (suc place)) xs x each.1 last)

-- a header is accepted if there is room
pub header_taken : (v : Version) (used place last parity : ℕ) → is_micro v ≡ false → used + 20 ≤ bit_limit → append_refusal used (if is_micro v then None else Some (append_header place last parity)) ≡ None
header_taken v used place last parity normal room =
    ap (λ t. append_refusal used (if t then None else Some (append_header place last parity))) normal
    ∙ append_fits used (append_header place last parity) (omega (arith, room, length-header place last parity))

-- the symbol of the list of a part
pub symbol_of : (m : Manner) (v : Version) (l : EcLevel) (place last parity : ℕ) (bytes : List ℕ) (list : BitList) (code : Result Code QrError) → IsTrue (has_level v l) → is_micro v ≡ false
    → PartFits m v bytes (front_length last) (capacity v l) → IsPartList m v l place last parity bytes list → IfOk code (λ code. code.version ≡ list.version) → IfOk code (λ code. code.level ≡ l)
    → IfOk code (λ code. EncodesBits list.version l list.bits code.modules) → IfOk code (IsPartSymbol m v l place last parity bytes)
symbol_of m v l place last parity bytes list (Err e) exists normal fits made version level encodes = tt
symbol_of m v l place last parity bytes list (Ok code) exists normal fits made version level encodes =
    let ps = pieces_of bytes made.segments in
    let bits = terminated v l (append_front place last parity ++ written v ps) in
    let own : EncodesBits v l bits code.modules = subst (λ b. EncodesBits v l b code.modules) made.bits (subst (λ u. EncodesBits u l list.bits code.modules) made.version encodes) in
    let spelled : SpellsPart v bits place last parity bytes = subst (λ b. SpellsPart v b place last parity bytes) made.bits made.spelled in
    let room : front_length last + total_cost v made.segments ≤ capacity v l = omega (arith, made.least.least fits.0 fits.1.0, fits.1.1) in
    record {
      version = version ∙ made.version;
      level = level;
      segments = made.segments;
      least = made.least;
      encodes = own;
      read = λ other damage. record { version = v; level = l; bits = bits; read = (own.read other damage).found; spelled = spelled };
      shown = λ text utf8 other damage.
          square_shown other v l bits (behind v l place last parity ps) place last parity (chars bytes) (own.read other damage).found normal (behind_parted v l place last parity ps)
          (part_shown m v l place last parity bytes made.segments (valid_of v l exists) text utf8 made.least room);
    }

-- the symbols of a count of parts that hold the data
pub parted_of : (m : Manner) (v : Version) (l : EcLevel) (bytes : List ℕ) (count : ℕ) (codes : List Code) → HoldSeveral m v l bytes count
    → length codes ≡ count → EachAt (λ place. IsPartSymbol m v l place (count - 1) (parity bytes) (part m bytes count place)) codes → AreParted m v l bytes codes
parted_of m v l bytes count codes held is symbols =
    let some : 0 < length codes = omega (arith, held.some, is) in
    record {
      held = subst (HoldSeveral m v l bytes) (sym is) held;
      symbols = subst (λ n. EachAt (λ place. IsPartSymbol m v l place (n - 1) (parity bytes) (part m bytes n place)) codes) (sym is) symbols;
      joined = parts_joined m bytes (length codes) some;
      read = λ squares same each. together m bytes (length codes) squares some same each;
      characters = λ text u place inside. part_text m bytes (length codes) place text u inside;
    }

pub pair_ok : {T : Type 0} {P Q R : T → Type 0} (r : Result T QrError) → ((x : T) → P x → Q x → R x) → IfOk r P → IfOk r Q → IfOk r R
pair_ok (Ok x) f p q = f x p q
pair_ok (Err e) f p q = tt

-- if each part fits, the symbols hold the data
pub held_by : (m : Manner) (v : Version) (l : EcLevel) (bytes : List ℕ) (count room : ℕ) → IsTrue (has_level v l) → is_micro v ≡ false → length bytes ≤ data_limit → 0 < count → count ≤ 16 → room ≡ capacity v l
    → ((place : ℕ) → place < count → PartFits m v (part m bytes count place) (front_length (count - 1)) room) → HoldSeveral m v l bytes count
held_by m v l bytes count room exists normal limit some most is fits = record {
  exists = exists;
  normal = normal;
  limit = limit;
  some = some;
  at_most = most;
  room = λ place inside. subst (λ n. PartFits m v (part m bytes count place) (front_length (count - 1)) n) is (fits place inside);
}

-- and the other way round
pub parts_held : (m : Manner) (v : Version) (l : EcLevel) (bytes : List ℕ) (count room : ℕ) → room ≡ capacity v l → HoldSeveral m v l bytes count
    → (place : ℕ) → place < count → PartFits m v (part m bytes count place) (front_length (count - 1)) room
parts_held m v l bytes count room is held place inside = subst (λ n. PartFits m v (part m bytes count place) (front_length (count - 1)) n) (sym is) (held.room place inside)

-- a part with too many bytes does not fit, whatever its segments are
pub too_many : (m : Manner) (v : Version) (bytes : List ℕ) (front room : ℕ) → room < front + 3 * length bytes → ¬ PartFits m v bytes front room
too_many m v bytes front room long fits = omega (arith, least_cut v bytes fits.0 fits.1.0.cut, count_by-le-length is_digit bytes, fits.1.1, long)
