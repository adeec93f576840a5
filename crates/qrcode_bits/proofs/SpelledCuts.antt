-- Some bits that fill a symbol decode to data exactly if a cut of the data fits it.
use Rattle.std.proofs.Common.{◌≡◌, ℕ, ◌+◌, ◌-◌, ◌≤◌, ◌<◌, Bool, List, [], ◌∷◌, ◌++◌, length, take, drop, refl, sym, ap, ap₂, ◌∙◌, arith, subst, length-append, IsTrue}
use Rattle.std.specs.Prelude.{◌↔◌, flat_map, slice_range}
use Rattle.std.specs.List.{AllByRecursion}
use Rattle.std.proofs.lemmas.List.{take_at, drop-drop, drop_at}
use Rattle.std.proofs.lemmas.List.Sums.{sum_by-cons}
use Rattle.qrcode_types.specs.Versions.{is_valid, capacity}
use Rattle.qrcode_types.specs.Modes.{has_mode}
use Rattle.qrcode_types.specs.Characters.{can_write, character_count}
use Rattle.qrcode_types.specs.declared.types.Version.{Version}
use Rattle.qrcode_types.specs.declared.types.EcLevel.{EcLevel}
use Rattle.qrcode_types.specs.declared.types.Mode.{Mode}
use Rattle.qrcode_bits.specs.Segments.{cost_of, cost, total_cost, Tile}
use Rattle.qrcode_bits.specs.Written.{Piece, written_piece, written, pieces_of, terminated}
use Rattle.qrcode_bits.specs.Spelling.{IsReadable, IsReadAs, Spells, IsSpelled}
use Rattle.qrcode_bits.specs.Cuts.{IsCut, FitsIn}
use Rattle.qrcode_bits.specs.declared.optimize.Segment.{Segment}
use Rattle.qrcode_bits.proofs.Lengths.{length-piece}
use Rattle.qrcode_bits.proofs.Endings.{length-terminated, spells_terminated}
use Rattle.qrcode_bits.proofs.CutPieces.{cut_pieces}

abbrev chunks : List Piece → List ℕ
chunks ps = flat_map (λ p. p.chunk) ps

-- pieces as ranges, the first of which begins at this place
abbrev ranges : ℕ → List Piece → List Segment
ranges from [] = []
ranges from (p ∷ ps) = (record { mode = p.mode; begin = from; end = from + length p.chunk }) ∷ ranges (from + length p.chunk) ps

readable_all : (v : Version) (bits : List Bool) (ps : List Piece) → IsReadAs v bits ps → AllByRecursion (IsReadable v) ps
readable_all v bits [] h = tt
readable_all v bits (p ∷ ps) h = (h.1.1.1.0, readable_all v h.0 ps h.1.1.1.1)

written_within : (v : Version) (bits : List Bool) (ps : List Piece) → IsReadAs v bits ps → length (written v ps) ≤ length bits
written_within v bits [] h = omega arith
written_within v bits (p ∷ ps) h =
    omega (arith, ap length h.1.0, length-append (written_piece v p) h.0, length-append (written_piece v p) (written v ps), written_within v h.0 ps h.1.1.1.1)

-- the pieces that are not empty
abbrev keep : Mode → List ℕ → List Piece → List Piece
keep m [] ps = ps
keep m (b ∷ bytes) ps = (record { mode = m; chunk = b ∷ bytes }) ∷ ps

abbrev kept : List Piece → List Piece
kept [] = []
kept (p ∷ ps) = keep p.mode p.chunk (kept ps)

-- they have the bytes of all, and take no more bits
record AreKept (v : Version) (ps qs : List Piece) : Type 0 where
  readable : AllByRecursion (IsReadable v) qs
  some : AllByRecursion (λ p. 0 < length p.chunk) qs
  joined : chunks qs ≡ chunks ps
  shorter : length (written v qs) ≤ length (written v ps)

keeps : (v : Version) (m : Mode) (bytes : List ℕ) (ps qs : List Piece) → IsReadable v (record { mode = m; chunk = bytes }) → AreKept v ps qs
    → AreKept v ((record { mode = m; chunk = bytes }) ∷ ps) (keep m bytes qs)
keeps v m [] ps qs h k = record {
  readable = k.readable;
  some = k.some;
  joined = k.joined;
  shorter = omega (arith, k.shorter, length-append (written_piece v (record { mode = m; chunk = [] })) (written v ps));
}
keeps v m (b ∷ bytes) ps qs h k =
    let p : Piece = record { mode = m; chunk = b ∷ bytes } in
    record {
      readable = (h, k.readable);
      some = (omega arith, k.some);
      joined = ap (λ x. (b ∷ bytes) ++ x) k.joined;
      shorter = omega (arith, k.shorter, length-append (written_piece v p) (written v ps), length-append (written_piece v p) (written v qs));
    }

kept_are : (v : Version) (ps : List Piece) → AllByRecursion (IsReadable v) ps → AreKept v ps (kept ps)
kept_are v [] h = record { readable = tt; some = tt; joined = refl; shorter = omega arith }
kept_are v (p ∷ ps) h = keeps v p.mode p.chunk ps (kept ps) h.0 (kept_are v ps h.1)

ranges_tile : (from : ℕ) (ps : List Piece) → AllByRecursion (λ p. 0 < length p.chunk) ps → Tile from (ranges from ps) (from + length (chunks ps))
ranges_tile from [] h = omega arith
ranges_tile from (p ∷ ps) h =
    let n = length p.chunk in
    let e : from + n + length (chunks ps) ≡ from + length (chunks (p ∷ ps)) = omega (arith, length-append p.chunk (chunks ps)) in
    (refl, (omega (arith, h.0), subst (Tile (from + n) (ranges (from + n) ps)) e (ranges_tile (from + n) ps h.1)))

ranges_modes : (v : Version) (from : ℕ) (ps : List Piece) → AllByRecursion (IsReadable v) ps → AllByRecursion (λ s. IsTrue (has_mode v s.mode)) (ranges from ps)
ranges_modes v from [] h = tt
ranges_modes v from (p ∷ ps) h = (h.0.mode_exists, ranges_modes v (from + length p.chunk) ps h.1)

ranges_writable : (v : Version) (bytes : List ℕ) (from : ℕ) (ps : List Piece) → AllByRecursion (IsReadable v) ps → drop from bytes ≡ chunks ps
    → AllByRecursion (λ s. IsTrue (can_write s.mode (slice_range bytes s.begin s.end))) (ranges from ps)
ranges_writable v bytes from [] h e = tt
ranges_writable v bytes from (p ∷ ps) h e =
    let n = length p.chunk in
    let z : from + n - from ≡ n = omega arith in
    let same : slice_range bytes from (from + n) ≡ p.chunk = ap₂ take z e ∙ take_at p.chunk (chunks ps) n refl in
    let rest : drop (from + n) bytes ≡ chunks ps = sym (drop-drop n from bytes) ∙ ap (drop n) e ∙ drop_at p.chunk (chunks ps) n refl in
    (ap (can_write p.mode) same ∙ h.0.writable, ranges_writable v bytes (from + n) ps h.1 rest)

ranges_cost : (v : Version) (from : ℕ) (ps : List Piece) → total_cost v (ranges from ps) ≡ length (written v ps)
ranges_cost v from [] = refl
ranges_cost v from (p ∷ ps) =
    let n = length p.chunk in
    let s : Segment = record { mode = p.mode; begin = from; end = from + n } in
    let z : from + n - from ≡ n = omega arith in
    sum_by-cons (cost v) s (ranges (from + n) ps)
    ∙ ap₂ (λ x y. x + y) (ap (λ i. cost_of v p.mode (character_count p.mode i)) z ∙ sym (length-piece v p)) (ranges_cost v (from + n) ps)
    ∙ sym (length-append (written_piece v p) (written v ps))

spells_cut : (v : Version) (bits : List Bool) (bytes : List ℕ) → Spells v bits bytes → FitsIn v bytes (length bits)
spells_cut v bits bytes h =
    let ps = kept h.pieces in
    let k = kept_are v h.pieces (readable_all v bits h.pieces h.read) in
    let whole = k.joined ∙ h.joined in
    let z : 0 + length (chunks ps) ≡ length bytes = omega (arith, ap length whole) in
    let cut : IsCut v bytes (ranges 0 ps) = record {
      tiles = subst (Tile 0 (ranges 0 ps)) z (ranges_tile 0 ps k.some);
      modes = ranges_modes v 0 ps k.readable;
      writable = ranges_writable v bytes 0 ps k.readable (sym whole);
    } in
    (ranges 0 ps, (cut, omega (arith, ranges_cost v 0 ps, k.shorter, written_within v bits h.pieces h.read)))

pub fits_spelled : (v : Version) (bytes : List ℕ) → IsTrue (is_valid v) → (l : EcLevel) → FitsIn v bytes (capacity v l) ↔ IsSpelled v l bytes
fits_spelled v bytes h l = (
  λ fits.
      let ss = fits.0 in
      let r = cut_pieces v l bytes ss h fits.1.0 fits.1.1 in
      let bits = written v (pieces_of bytes ss) in
      (terminated v l bits, (length-terminated v l bits r.1, subst (Spells v (terminated v l bits)) r.2 (spells_terminated v l (pieces_of bytes ss) r.0 r.1))),
  λ held. let r = spells_cut v held.0 bytes held.1.1 in (r.0, (r.1.0, omega (arith, r.1.1, held.1.0))),
)
