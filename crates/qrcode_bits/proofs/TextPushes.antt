-- How a push of a text ends.
use Rattle.std.proofs.lemmas.Bool.{false≢true}
use Rattle.std.proofs.Common.{◌≡◌, ℕ, zero, suc, ◌+◌, ◌<◌, ◌≤◌, ◌++◌, Bool, List, [], ◌∷◌, length, take, refl, sym, ap, ap₂, subst, ◌∙◌, arith, ◌⊎◌, inl, inr, Option, Some, None, IsTrue, false, true≢false, length-append, append_assoc}
use Rattle.std.specs.Prelude.{IsUtf8, chars, slice_get, IfSome, Result, Ok, Err, IsErr, IsErrAnd}
use Rattle.std.specs.Option.{option_or}
use Rattle.qrcode_types.specs.Versions.{is_valid, capacity}
use Rattle.qrcode_types.specs.declared.types.Version.{Version}
use Rattle.qrcode_types.specs.declared.types.EcLevel.{EcLevel}
use Rattle.qrcode_types.specs.declared.types.QrError.{QrError}
use Rattle.qrcode_types.specs.declared.types.QrError.TheVariants.{DataTooLong, UnsupportedCharacterSet, OutOfMemory}
use Rattle.qrcode_types.specs.Characters.{character_count}
use Rattle.qrcode_bits.specs.BitList.{BitList}
use Rattle.qrcode_bits.specs.Cuts.{IsCutIn, IsLeastCutIn}
use Rattle.qrcode_bits.specs.Manners.{is_text, modes_of, front, has_front, HoldsAs}
use Rattle.qrcode_bits.specs.Pushes.{PushesAll}
use Rattle.qrcode_bits.specs.Refusals.{data_limit, bit_limit, piece_refusal, pieces_refusal, IsCause, StopsAt}
use Rattle.qrcode_bits.specs.Segments.{cost_of, total_cost}
use Rattle.qrcode_bits.specs.Shown.{ShowsOnly}
use Rattle.qrcode_bits.specs.Choice.{IfCause}
use Rattle.qrcode_bits.specs.TextPushes.{HasNoRoom, IsRefusedText, PushesText}
use Rattle.qrcode_bits.specs.Written.{Piece, written, written_piece, pieces_of, terminated}
use Rattle.qrcode_bits.specs.declared.bits.manner.Manner.{Manner}
use Rattle.qrcode_bits.specs.declared.optimize.Segment.{Segment}
use Rattle.qrcode_bits.proofs.Automatic.{held_short}
use Rattle.qrcode_bits.proofs.Changed.{list_of, append_fits, append_long}
use Rattle.qrcode_bits.proofs.CutPieces.{cut_pieces, length-written}
use Rattle.qrcode_bits.proofs.Fitting.{cut_stop, readable_stop}
use Rattle.qrcode_bits.proofs.Lengths.{length-piece}
use Rattle.qrcode_bits.proofs.ShownTexts.{segments_shown, list_shown}

-- an error of one piece, after those before it, is the error of all
refusal_at : (v : Version) (used : ℕ) (ps : List Piece) (k : ℕ) (e : QrError) → k < length ps → pieces_refusal v used (take k ps) ≡ None
    → IfSome (slice_get ps k) (λ p. piece_refusal v (used + length (written v (take k ps))) p ≡ Some e) → pieces_refusal v used ps ≡ Some e
refusal_at v used [] k e inside before at = absurd (omega (arith, inside))
refusal_at v used (p ∷ ps) zero e inside before at =
    let same : used + 0 ≡ used = omega arith in
    ap (λ o. option_or o (pieces_refusal v (used + cost_of v p.mode (character_count p.mode (length p.chunk))) ps)) (sym (ap (λ n. piece_refusal v n p) same) ∙ at)
refusal_at v used (p ∷ ps) (suc k) e inside before at =
    let used' = used + cost_of v p.mode (character_count p.mode (length p.chunk)) in
    let both = parts (piece_refusal v used p) (pieces_refusal v used' (take k ps)) before in
    let same : used + length (written v (take (suc k) (p ∷ ps))) ≡ used' + length (written v (take k ps)) = omega (arith, length-append (written_piece v p) (written v (take k ps)), length-piece v p) in
    ap (λ o. option_or o (pieces_refusal v used' ps)) both.0
    ∙ refusal_at v used' ps k e (omega (arith, inside)) both.1 (subst (λ n. IfSome (slice_get ps k) (λ q. piece_refusal v n q ≡ Some e)) same at) where
      parts : (a b : Option QrError) → option_or a b ≡ None → (a ≡ None) × (b ≡ None)
      parts (Some x) b h = cc
      parts None b h = (refl, h)

too_long : (o : Option QrError) → IsCause o DataTooLong → o ≡ Some DataTooLong
too_long (Some cause) is = ap Some (sym is)
too_long None is = cc

-- if a push of pieces stops because one is too long, this is the error of all
stop_refusal : (v : Version) (old : List Bool) (ps : List Piece) (new : List Bool) → StopsAt v old ps DataTooLong new → pieces_refusal v (length old) ps ≡ Some DataTooLong
stop_refusal v old ps new s =
    let used : length new ≡ length old + length (written v (take s.place ps)) = ap length s.written ∙ length-append old (written v (take s.place ps)) in
    refusal_at v (length old) ps s.place DataTooLong s.inside s.before (each (slice_get ps s.place) (length new) _ used s.cause) where
      each : (o : Option Piece) (m n : ℕ) → m ≡ n → IfSome o (λ p. IsCause (piece_refusal v m p) DataTooLong) → IfSome o (λ p. piece_refusal v n p ≡ Some DataTooLong)
      each None m n e h = tt
      each (Some p) m n e h = ap (λ k. piece_refusal v k p) (sym e) ∙ too_long (piece_refusal v m p) h

-- there is no room if a piece is too long
piece_long : (m : Manner) (bytes : List ℕ) (list : BitList) (ss : List Segment) (new : List Bool) → IsLeastCutIn (modes_of m) list.version bytes ss → length list.bits + length (front m) ≤ bit_limit
    → StopsAt list.version (list.bits ++ front m) (pieces_of bytes ss) DataTooLong new → HasNoRoom m bytes list
piece_long m bytes list ss new least room stop =
    let ps = pieces_of bytes ss in (
      ss,
      (
        least,
        ap (λ o. option_or o (pieces_refusal list.version (length list.bits + length (front m)) ps)) (append_fits (length list.bits) (front m) room)
            ∙ ap (λ n. pieces_refusal list.version n ps) (sym (length-append list.bits (front m))) ∙ stop_refusal list.version (list.bits ++ front m) ps new stop,
      ),
    )

-- pushing a text that a symbol holds fails only if memory runs out
held_stop : (m : Manner) (l : EcLevel) (bytes : List ℕ) (list : BitList) (ss : List Segment) (e : QrError) (new : List Bool) → IsTrue (is_valid list.version) → IsLeastCutIn (modes_of m) list.version bytes ss
    → HoldsAs m list.version l bytes → length list.bits + capacity list.version l ≤ bit_limit → StopsAt list.version (list.bits ++ front m) (pieces_of bytes ss) e new → e ≡ OutOfMemory
held_stop m l bytes list ss e new valid least holds room stop =
    let v = list.version in
    let fits = holds.room in
    let short : length (front m) + total_cost v ss ≤ capacity v l = omega (arith, least.least fits.0 fits.1.0, fits.1.1) in
    let pieces = cut_pieces v l bytes ss valid least.reached.cut (omega (arith, short)) in
    let long = length-written v bytes 0 ss (length bytes) least.reached.cut.tiles (omega arith) in
    readable_stop v (list.bits ++ front m) (pieces_of bytes ss) e new pieces.0 (omega (arith, length-append list.bits (front m), long, short, room)) stop

-- the list stays as it was if the push of a text fails
kept : (m : Manner) (bytes : List ℕ) (list : BitList) (e : QrError) (result : Result (Unit {0}) QrError) → IsErr result × IsErrAnd result (λ x. x ≡ e)
    → ((l : EcLevel) → HoldsAs m list.version l bytes → length list.bits + capacity list.version l ≤ bit_limit → e ≡ OutOfMemory) → IsRefusedText m bytes list e → PushesText m bytes list list result
kept m bytes list e (Ok u) is memory cause = absurd (false≢true is.0)
kept m bytes list e (Err x) is memory cause = subst (λ x. PushesText m bytes list list (Err x)) (sym is.1) (record { appends = tt; unchanged = refl; accepts = memory; causes = cause })

-- a text of too many bytes fits no symbol
pub long_text : (m : Manner) (bytes : List ℕ) (list : BitList) → data_limit < length bytes → PushesText m bytes list list (Err DataTooLong)
long_text m bytes list long = record {
  appends = tt;
  unchanged = refl;
  accepts = λ l holds fits. absurd (omega (arith, long, held_short m list.version l bytes holds));
  causes = inl (long, refl);
}

-- in a version that does not allow the front, the push fails
pub unmarked_text : (m : Manner) (bytes : List ℕ) (list : BitList) (v : Version) → v ≡ list.version → length bytes ≤ data_limit → has_front v m ≡ false → PushesText m bytes list list (Err UnsupportedCharacterSet)
unmarked_text m bytes list v same short not_there =
    let no : has_front list.version m ≡ false = subst (λ w. has_front w m ≡ false) same not_there in
    record {
      appends = tt;
      unchanged = refl;
      accepts = λ l holds fits. absurd (true≢false (sym holds.front_exists ∙ no));
      causes = inr (λ long. omega (arith, short, long), inl (no, refl));
    }

-- the causes for a text within the limit, in a version that allows the front
behind_front : (m : Manner) (bytes : List ℕ) (list : BitList) (e : QrError) → length bytes ≤ data_limit → IsTrue (has_front list.version m)
    → IfCause ((ss : List Segment) → ¬ IsCutIn (modes_of m) list.version bytes ss) (e ≡ UnsupportedCharacterSet) ((e ≡ OutOfMemory) ⊎ ((e ≡ DataTooLong) × HasNoRoom m bytes list)) → IsRefusedText m bytes list e
behind_front m bytes list e short has cause = inr (λ long. omega (arith, short, long), inr (λ no. true≢false (sym has ∙ no), cause))

-- a text for which the search for a cut fails
pub uncut_text : (m : Manner) (bytes : List ℕ) (list : BitList) (v : Version) (e : QrError) (result : Result (Unit {0}) QrError) → v ≡ list.version → length bytes ≤ data_limit → IsTrue (has_front v m)
    → (e ≡ UnsupportedCharacterSet) ⊎ (e ≡ OutOfMemory) → (((ss : List Segment) → ¬ IsCutIn (modes_of m) v bytes ss) → e ≡ UnsupportedCharacterSet)
    → ((ss : List Segment) → IsCutIn (modes_of m) v bytes ss → e ≡ OutOfMemory) → IsErr result × IsErrAnd result (λ x. x ≡ e) → PushesText m bytes list list result
uncut_text m bytes list v e result same short has either no_cut memory is =
    let starved = λ (ss : List Segment) (cut : IsCutIn (modes_of m) list.version bytes ss). memory ss (subst (λ w. IsCutIn (modes_of m) w bytes ss) (sym same) cut) in
    let lacking = λ (none : (ss : List Segment) → ¬ IsCutIn (modes_of m) list.version bytes ss). no_cut (λ ss cut. none ss (subst (λ w. IsCutIn (modes_of m) w bytes ss) same cut)) in
    kept m bytes list e result is (λ l holds fits. starved holds.room.0 holds.room.1.0) (behind_front m bytes list e short (subst (λ w. IsTrue (has_front w m)) same has) (elim either [
      | inl lacks ↦ inl (λ ss cut. (let h : UnsupportedCharacterSet ≡ OutOfMemory = sym lacks ∙ starved ss cut in cc), lacks)
      | inr refused ↦ inr (λ none. (let h : UnsupportedCharacterSet ≡ OutOfMemory = sym (lacking none) ∙ refused in cc), inl refused)
    ]))

-- a text for which memory runs out after the search
pub starved_text : (m : Manner) (bytes : List ℕ) (list : BitList) (ss : List Segment) (e : QrError) (result : Result (Unit {0}) QrError) → length bytes ≤ data_limit → IsTrue (has_front list.version m)
    → IsLeastCutIn (modes_of m) list.version bytes ss → e ≡ OutOfMemory → IsErr result × IsErrAnd result (λ x. x ≡ e) → PushesText m bytes list list result
starved_text m bytes list ss e result short has least memory is =
    kept m bytes list e result is (λ l holds fits. memory) (behind_front m bytes list e short has (inr (λ none. none ss least.reached, inl memory)))

-- a list that has no room for the front
pub full_list : (m : Manner) (bytes : List ℕ) (list : BitList) (ss : List Segment) → length bytes ≤ data_limit → IsTrue (has_front list.version m) → IsLeastCutIn (modes_of m) list.version bytes ss
    → bit_limit < length list.bits + length (front m) → PushesText m bytes list list (Err DataTooLong)
full_list m bytes list ss short has least over =
    let refusal = ap (λ o. option_or o (pieces_refusal list.version (length list.bits + length (front m)) (pieces_of bytes ss))) (append_long (length list.bits) (front m) over) in
    record {
      appends = tt;
      unchanged = refl;
      accepts = λ l holds fits. absurd (omega (arith, holds.room.1.1, fits, over));
      causes = behind_front m bytes list DataTooLong short has (inr (λ none. none ss least.reached, inr (refl, (ss, (least, refusal)))));
    }

-- a text of which a piece fails
pub refused_text : (m : Manner) (bytes : List ℕ) (list : BitList) (ss : List Segment) (new : List Bool) (e : QrError) (result : Result (Unit {0}) QrError)
    → IsTrue (is_valid list.version) → length bytes ≤ data_limit → IsTrue (has_front list.version m) → IsLeastCutIn (modes_of m) list.version bytes ss → length list.bits + length (front m) ≤ bit_limit
    → StopsAt list.version (list.bits ++ front m) (pieces_of bytes ss) e new → IsErr result × IsErrAnd result (λ x. x ≡ e) → PushesText m bytes list list result
refused_text m bytes list ss new e result valid short has least room stop is =
    kept m bytes list e result is (λ l holds fits. held_stop m l bytes list ss e new valid least holds fits stop)
    (behind_front m bytes list e short has (inr (λ none. none ss least.reached, cause (cut_stop list.version (list.bits ++ front m) bytes ss e new least.reached.cut stop)))) where
      cause : (e ≡ DataTooLong) ⊎ (e ≡ OutOfMemory) → (e ≡ OutOfMemory) ⊎ ((e ≡ DataTooLong) × HasNoRoom m bytes list)
      cause (inl long) = inr (long, piece_long m bytes list ss new least room (subst (λ e. StopsAt list.version (list.bits ++ front m) (pieces_of bytes ss) e new) long stop))
      cause (inr memory) = inl memory

-- the front and all pieces are written
pub appended_text : (m : Manner) (bytes : List ℕ) (old new : BitList) (ss : List Segment) → IsTrue (is_valid old.version) → IsTrue (has_front old.version m) → IsTrue (is_text m) → IsUtf8 bytes
    → IsLeastCutIn (modes_of m) old.version bytes ss → PushesAll old.version (old.bits ++ front m) bytes ss new.bits → new.version ≡ old.version → PushesText m bytes old new (Ok tt)
appended_text m bytes old new ss valid has text utf8 least pushed version =
    let v = old.version in
    let written = written v (pieces_of bytes ss) in
    let bits : new.bits ≡ old.bits ++ (front m ++ written) = pushed.bits ∙ append_assoc old.bits (front m) written in
    let longer : length new.bits ≡ length old.bits + (length (front m) + total_cost v ss) = omega (arith, pushed.longer, length-append old.bits (front m)) in
    record {
      appends = record {
        segments = ss;
        least = least;
        appended = ap₂ (λ (u : Version) (b : List Bool). list_of u b) version bits;
        longer = longer;
        shown = segments_shown m v bytes ss text utf8 least;
        alone = λ l none fits.
            let first : length old.bits ≡ 0 = ap length none in
            let is : new.bits ≡ front m ++ written = bits ∙ ap (λ b. b ++ (front m ++ written)) none in
            subst (λ b. ShowsOnly v (terminated v l b) (chars bytes)) (sym is) (list_shown m v l bytes ss valid has text utf8 least (omega (arith, longer, first, fits)));
      };
      unchanged = tt;
      accepts = λ l holds fits. tt;
      causes = tt;
    }
