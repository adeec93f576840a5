-- The data bits for bytes after FNC1, and how they are read.
use Rattle.std.proofs.Common.{◌≡◌, ℕ, ◌+◌, ◌≤◌, ◌++◌, Bool, List, [], ◌∷◌, length, refl, sym, ap, ap₂, subst, ◌∙◌, arith, true≢false, length-append, append_assoc, IsTrue, Result, Ok, Err, IfOk}
use Rattle.std.specs.Prelude.{flat_map, pos}
use Rattle.std.specs.List.{AllByRecursion}
use Rattle.std.proofs.lemmas.List.{append_cancel_left}
use Rattle.qrcode_types.specs.Versions.{has_level, capacity, terminator_length}
use Rattle.qrcode_types.specs.declared.types.EcLevel.{EcLevel}
use Rattle.qrcode_types.specs.declared.types.Version.{Version}
use Rattle.qrcode_types.specs.declared.types.Version.TheVariants.{Normal}
use Rattle.qrcode_types.specs.declared.types.QrError.{QrError}
use Rattle.qrcode_bits.specs.BitList.{BitList}
use Rattle.qrcode_bits.specs.Spelling.{IsReadAs, IsReadBack}
use Rattle.qrcode_bits.specs.Written.{Piece, written, pieces_of, terminated, ending}
use Rattle.qrcode_bits.specs.declared.optimize.Segment.{Segment}
use Rattle.qrcode_bits.proofs.CutPieces.{cut_pieces}
use Rattle.qrcode_bits.proofs.Endings.{read_as, ending-is_end, terminated-ending}
use Rattle.qrcode_bits.proofs.Manners.{valid_of}
use Rattle.qrcode_bits.proofs.Spellings.{same_piece}
use Rattle.qrcode_bits.proofs.Changed.{list_of}
use Rattle.qrcode_gs1.specs.symbol.Characters.{mark, shown, shown_in, marked_pieces}
use Rattle.qrcode_gs1.specs.symbol.Cuts.{IsMarkedCut, IsLeastMarkedCut, AreCharacters, marked_cost}
use Rattle.qrcode_gs1.specs.symbol.Reading.{SpellsMarked}
use Rattle.qrcode_gs1.specs.symbol.Symbols.{IsMarkedList}
use Rattle.qrcode_gs1.specs.declared.symbol.Fnc1.{Fnc1}
use Rattle.qrcode_gs1.proofs.Pieces.{written_cut, written_cost, cut_shown}

-- the mark and a cut with room, terminated, decode to the bytes
marked_spelled : (p : Fnc1) (n : ℕ) (l : EcLevel) (bytes : List ℕ) (ss : List Segment) (w : List ℕ) (ranges : List Segment) → AreCharacters bytes ss w ranges → IsTrue (has_level (Normal (pos n)) l)
    → IsMarkedCut bytes ss → length (mark p) + marked_cost (Normal (pos n)) bytes ss ≤ capacity (Normal (pos n)) l
    → SpellsMarked (Normal (pos n)) (terminated (Normal (pos n)) l (mark p ++ written (Normal (pos n)) (marked_pieces bytes ss))) p bytes
marked_spelled p n l bytes ss w ranges are exists cut room =
    let v = Normal (pos n) in
    let ps = marked_pieces bytes ss in
    let valid = valid_of v l exists in
    let ready = mark p ++ written v ps in
    let e = ending (terminator_length v) (length ready) (capacity v l) in
    let pieces = cut_pieces v l w ranges valid (written_cut n bytes ss w ranges cut are) (omega (arith, room, written_cost n bytes ss w ranges are)) in
    let readable : AllByRecursion (IsReadBack v) ps = subst (AllByRecursion (IsReadBack v)) are.pieces pieces.0 in
    let fits : length ready ≤ capacity v l = omega (arith, length-append (mark p) (written v ps), room) in
    record {
      exists = refl;
      rest = written v ps ++ e;
      parted = terminated-ending v l ready ∙ append_assoc (mark p) (written v ps) e;
      pieces = ps;
      read = read_as v ps e readable (ending-is_end (terminator_length v) (length ready) (capacity v l) fits);
      joined = cut_shown bytes ss cut;
    }

same_shown : (v : Version) (bits : List Bool) (ps qs : List Piece) → IsReadAs v bits ps → IsReadAs v bits qs → flat_map shown ps ≡ flat_map shown qs
same_shown v bits [] [] a b = refl
same_shown v bits [] (q ∷ qs) a b = absurd (true≢false (sym a ∙ b.1.1.0))
same_shown v bits (p ∷ ps) [] a b = absurd (true≢false (sym b ∙ a.1.1.0))
same_shown v bits (p ∷ ps) (q ∷ qs) a b =
    let r = same_piece v p.mode q.mode p.chunk q.chunk a.0 b.0 a.1.1.1.0 b.1.1.1.0 (sym a.1.0 ∙ b.1.0) in
    let t = subst (λ z. IsReadAs v z qs) (sym r.2) b.1.1.1.1 in
    ap₂ (λ (x y : List ℕ). x ++ y) (ap₂ shown_in r.0 r.1) (same_shown v a.0 ps qs a.1.1.1.1 t)

-- bits decode to only one list of bytes
pub one_marked : (v : Version) (bits : List Bool) (p : Fnc1) (a b : List ℕ) → SpellsMarked v bits p a → SpellsMarked v bits p b → b ≡ a
one_marked v bits p a b s t =
    let same : s.rest ≡ t.rest = append_cancel_left (mark p) s.rest t.rest (sym s.parted ∙ t.parted) in
    sym t.joined ∙ same_shown v s.rest t.pieces s.pieces (subst (λ r. IsReadAs v r t.pieces) (sym same) t.read) s.read ∙ s.joined

-- the data bits of a shortest cut
pub marked_list : (p : Fnc1) (n : ℕ) (l : EcLevel) (bytes : List ℕ) (ss : List Segment) (v : Version) (w : List ℕ) (ranges : List Segment) (r : Result BitList QrError) → v ≡ Normal (pos n)
    → AreCharacters bytes ss w ranges → IsTrue (has_level (Normal (pos n)) l) → IsLeastMarkedCut (Normal (pos n)) bytes ss
    → length (mark p) + marked_cost (Normal (pos n)) bytes ss ≤ capacity (Normal (pos n)) l
    → IfOk r (λ list. list ≡ list_of v (terminated v l (mark p ++ written v (pieces_of w ranges)))) → IfOk r (λ list. length list.bits ≡ capacity v l) → IfOk r (IsMarkedList p (Normal (pos n)) l bytes)
marked_list p n l bytes ss v w ranges (Err e) same are exists least room ended full = tt
marked_list p n l bytes ss v w ranges (Ok list) same are exists least room ended full =
    let u = Normal (pos n) in
    let whole : list ≡ list_of u (terminated u l (mark p ++ written u (marked_pieces bytes ss))) =
    ended ∙ ap₂ (λ (x : Version) (ps : List Piece). list_of x (terminated x l (mark p ++ written x ps))) same are.pieces in
    let bits = ap (λ (b : BitList). b.bits) whole in
    record {
      version = ap (λ (b : BitList). b.version) whole;
      segments = ss;
      least = least;
      bits = bits;
      full = full ∙ ap (λ x. capacity x l) same;
      spelled = subst (λ b. SpellsMarked u b p bytes) (sym bits) (marked_spelled p n l bytes ss w ranges are exists least.reached room);
    }
