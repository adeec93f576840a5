-- Pieces that a reader accepts are a cut of their bytes.
use Rattle.std.proofs.Common.{◌≡◌, ℕ, ◌+◌, ◌-◌, ◌≤◌, Bool, List, [], ◌∷◌, ◌++◌, length, take, drop, length-append, IsTrue, refl, sym, ap, ap₂, subst, ◌∙◌, arith}
use Rattle.std.specs.Prelude.{flat_map, slice_range}
use Rattle.std.specs.List.{AllByRecursion}
use Rattle.std.proofs.lemmas.List.{take_at, drop-drop, drop_at}
use Rattle.std.proofs.lemmas.List.Sums.{sum_by-cons}
use Rattle.qrcode_types.specs.Characters.{can_write, character_count}
use Rattle.qrcode_types.specs.declared.types.Version.{Version}
use Rattle.qrcode_types.specs.declared.types.Mode.{Mode}
use Rattle.qrcode_bits.specs.Cuts.{IsCutIn}
use Rattle.qrcode_bits.specs.ModeSets.{is_among}
use Rattle.qrcode_bits.specs.Segments.{cost_of, cost, total_cost, Tile}
use Rattle.qrcode_bits.specs.Spelling.{IsReadable, IsReadAs}
use Rattle.qrcode_bits.specs.Written.{Piece, written_piece, written}
use Rattle.qrcode_bits.specs.declared.optimize.Segment.{Segment}
use Rattle.qrcode_bits.specs.declared.optimize.mode_sets.Modes.{Modes}
use Rattle.qrcode_bits.proofs.Lengths.{length-piece}
use Rattle.qrcode_bits.proofs.LeastCuts.{HaveModes, AreAmong, AreWritable}

abbrev pub chunks : List Piece → List ℕ
chunks ps = flat_map (λ p. p.chunk) ps

abbrev pub AreOf : Modes → List Piece → Type 0  -- the pieces are in modes of a set
AreOf set ps = AllByRecursion (λ p. IsTrue (is_among set p.mode)) ps

abbrev piece : Mode → List ℕ → Piece
piece m bytes = record { mode = m; chunk = bytes }

-- segments for the bytes of the pieces, which begin at this place
record CutFrom (set : Modes) (v : Version) (bytes : List ℕ) (from : ℕ) (ps : List Piece) : Type 0 where
  segments : List Segment
  tiles : Tile from segments (from + length (chunks ps))
  modes : HaveModes v segments
  among : AreAmong set segments
  writable : AreWritable bytes segments
  shorter : total_cost v segments ≤ length (written v ps)

-- one more piece before them; an empty one takes no segment
cut_more : (set : Modes) (v : Version) (bytes : List ℕ) (from : ℕ) (m : Mode) (chunk : List ℕ) (ps : List Piece) → IsReadable v (piece m chunk) → IsTrue (is_among set m)
    → drop from bytes ≡ chunk ++ chunks ps → CutFrom set v bytes (from + length chunk) ps → CutFrom set v bytes from (piece m chunk ∷ ps)
cut_more set v bytes from m [] ps h a e rest =
    let z : from + length {A = ℕ} [] ≡ from = omega arith in
    record {
      segments = rest.segments;
      tiles = subst (λ n. Tile n rest.segments (n + length (chunks ps))) z rest.tiles;
      modes = rest.modes;
      among = rest.among;
      writable = rest.writable;
      shorter = omega (arith, rest.shorter, length-append (written_piece v (piece m [])) (written v ps));
    }
cut_more set v bytes from m (b ∷ chunk) ps h a e rest =
    let all = b ∷ chunk in
    let n = length all in
    let s : Segment = record { mode = m; begin = from; end = from + n } in
    let z : from + n - from ≡ n = omega arith in
    let same : slice_range bytes from (from + n) ≡ all = ap₂ take z e ∙ take_at all (chunks ps) n refl in
    let end : from + n + length (chunks ps) ≡ from + length (all ++ chunks ps) = omega (arith, length-append all (chunks ps)) in
    let own : cost v s ≡ length (written_piece v (piece m all)) = ap (λ i. cost_of v m (character_count m i)) z ∙ sym (length-piece v (piece m all)) in
    record {
      segments = s ∷ rest.segments;
      tiles = (refl, (omega arith, subst (Tile (from + n) rest.segments) end rest.tiles));
      modes = (h.mode_exists, rest.modes);
      among = (a, rest.among);
      writable = (ap (can_write m) same ∙ h.writable, rest.writable);
      shorter = omega (arith, sum_by-cons (cost v) s rest.segments, own, rest.shorter, length-append (written_piece v (piece m all)) (written v ps));
    }

cut_from : (set : Modes) (v : Version) (bytes : List ℕ) (from : ℕ) (ps : List Piece) → AllByRecursion (IsReadable v) ps → AreOf set ps → drop from bytes ≡ chunks ps → CutFrom set v bytes from ps
cut_from set v bytes from [] h a e = record { segments = []; tiles = omega arith; modes = tt; among = tt; writable = tt; shorter = omega arith }
cut_from set v bytes from (p ∷ ps) h a e =
    let n = length p.chunk in
    let rest : drop (from + n) bytes ≡ chunks ps = sym (drop-drop n from bytes) ∙ ap (drop n) e ∙ drop_at p.chunk (chunks ps) n refl in
    cut_more set v bytes from p.mode p.chunk ps h.0 a.0 e (cut_from set v bytes (from + n) ps h.1 a.1 rest)

-- they are a cut that takes no more bits
pub pieces_cut : (set : Modes) (v : Version) (ps : List Piece) → AllByRecursion (IsReadable v) ps → AreOf set ps
    → (segments : List Segment) × (IsCutIn set v (chunks ps) segments × (total_cost v segments ≤ length (written v ps)))
pieces_cut set v ps h a =
    let made = cut_from set v (chunks ps) 0 ps h a refl in
    let z : 0 + length (chunks ps) ≡ length (chunks ps) = omega arith in
    (made.segments, (record { cut = record { tiles = subst (Tile 0 made.segments) z made.tiles; modes = made.modes; writable = made.writable }; among = made.among }, made.shorter))

-- the pieces that bits are read as: a reader accepts each of them, and they take no more bits
pub readable_all : (v : Version) (bits : List Bool) (ps : List Piece) → IsReadAs v bits ps → AllByRecursion (IsReadable v) ps
readable_all v bits [] h = tt
readable_all v bits (p ∷ ps) h = (h.1.1.1.0, readable_all v h.0 ps h.1.1.1.1)

pub written_within : (v : Version) (bits : List Bool) (ps : List Piece) → IsReadAs v bits ps → length (written v ps) ≤ length bits
written_within v bits [] h = omega arith
written_within v bits (p ∷ ps) h =
    omega (arith, ap length h.1.0, length-append (written_piece v p) h.0, length-append (written_piece v p) (written v ps), written_within v h.0 ps h.1.1.1.1)
