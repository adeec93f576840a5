-- The text of bits begins with the text of their first piece.
use Rattle.std.proofs.Common.{◌≡◌, ◌≢◌, ℕ, ◌++◌, List, [], ◌∷◌, Bool, true, false, refl, sym, ap, subst, ◌∙◌, arith, IsTrue, inl, inr, append_assoc, append-nil, true≢false}
use Rattle.std.specs.Prelude.{flat_map, chars, IsUtf8}
use Rattle.std.proofs.lemmas.List.{append_cancel_left}
use Rattle.qrcode_types.specs.Bits.{number_bits}
use Rattle.qrcode_types.specs.Versions.{is_micro}
use Rattle.qrcode_types.specs.declared.types.Version.{Version}
use Rattle.qrcode_types.specs.declared.types.Version.TheVariants.{Normal, Micro}
use Rattle.qrcode_types.specs.declared.types.Mode.{Mode}
use Rattle.qrcode_types.specs.declared.types.Mode.TheVariants.{Kanji}
use Rattle.qrcode_bits.specs.Manners.{front, has_front}
use Rattle.qrcode_bits.specs.ModeSets.{is_among, text_modes}
use Rattle.qrcode_bits.specs.Shown.{IsPieceShown, ArePiecesShown, Shows, ShowsOnly}
use Rattle.qrcode_bits.specs.Spelling.{is_end, IsReadAs}
use Rattle.qrcode_bits.specs.Written.{Piece, eci_bits}
use Rattle.qrcode_bits.specs.declared.bits.manner.Manner.TheVariants.{MarkedText}
use Rattle.qrcode_bits.proofs.ShownOnce.{shown_chars, one_shown}
use Rattle.qrcode_bits.proofs.Spellings.{same_piece}
use Rattle.qrcode_reader.specs.spell.Steps.{BeginsWithPiece}
use Rattle.qrcode_reader.specs.declared.spell.headers.Header.TheVariants.{Eci}
use Rattle.qrcode_reader.specs.spell.Parts.{IsPrefixed, BeginsWithHeader}
use Rattle.qrcode_reader.specs.spell.Texts.{ShowsSegments, IsBehindFront}
use Rattle.qrcode_reader.proofs.Parted.{header_or_piece}

-- ECI 26 (UTF-8) at the start.

mark : front MarkedText ≡ number_bits 4 7 ++ number_bits 8 26
unfolding eci_bits
mark = refl

-- ECI 26 as a header
mark_header : (v : Version) (rest : List Bool) → is_micro v ≡ false → BeginsWithHeader v (Eci 26) (front MarkedText ++ rest) rest
unfolding eci_bits number_bits
mark_header v rest normal = record {
  exists = normal;
  behind = number_bits 8 26 ++ rest;
  argued = record { argument = number_bits 8 26; is_argument = inl (record { at_most = omega arith; whole = refl }); whole = refl };
  whole = refl;
}

mark_no_end : (v : Version) (rest : List Bool) → is_micro v ≡ false → is_end v (front MarkedText ++ rest) ≡ true → ⊥
unfolding number_bits
mark_no_end (Normal n) rest normal e = true≢false (sym e)
mark_no_end (Micro n) rest normal e = true≢false normal

-- no segments begin like ECI 26
no_mark : (v : Version) (rest : List Bool) (ps : List Piece) → is_micro v ≡ false → IsReadAs v (front MarkedText ++ rest) ps → ⊥
no_mark v rest [] normal r = mark_no_end v rest normal r
no_mark v rest (p ∷ ps) normal r =
    header_or_piece v (Eci 26) p (front MarkedText ++ rest) rest r.0 (mark_header v rest normal) (record { readable = r.1.1.1.0; whole = r.1.0 })

normal_front : (v : Version) → IsTrue (has_front v MarkedText) → is_micro v ≡ false
normal_front (Normal n) h = refl
normal_front (Micro n) h = cc

has_mark : (v : Version) → is_micro v ≡ false → IsTrue (has_front v MarkedText)
has_mark (Normal n) h = refl
has_mark (Micro n) h = absurd (true≢false h)

-- after ECI 26
pub behind_mark : (v : Version) (bits front_bits rest : List Bool) → is_micro v ≡ false → IsPrefixed 4 7 8 26 front_bits → bits ≡ front_bits ++ rest → IsBehindFront v bits rest
behind_mark v bits front_bits rest normal is e =
    let f : bits ≡ front MarkedText ++ rest = e ∙ ap (λ x. x ++ rest) (is.whole ∙ sym mark) in
    record {
      before = front MarkedText;
      is_front = inr (has_mark v normal, refl);
      parted = f;
      complete = λ text s. elim s.is_front [
        | inl none ↦
            let g : s.rest ≡ front MarkedText ++ rest = sym (s.parted ∙ ap (λ x. x ++ s.rest) none) ∙ f in
            absurd (no_mark v rest s.pieces normal (subst (λ x. IsReadAs v x s.pieces) g s.read))
        | inr some ↦
            let g : s.rest ≡ rest = append_cancel_left (front MarkedText) s.rest rest (sym (s.parted ∙ ap (λ x. x ++ s.rest) some.1) ∙ f) in
            (flat_map (λ p. p.chunk) s.pieces, record { pieces = s.pieces; read = subst (λ x. IsReadAs v x s.pieces) g s.read; text = text; shown = s.shown; joined = refl })
      ];
    }

-- no ECI 26 at the start
pub without_mark : (v : Version) (bits : List Bool) → ((rest : List Bool) → is_micro v ≡ false → bits ≢ front MarkedText ++ rest) → IsBehindFront v bits bits
without_mark v bits none = record {
  before = [];
  is_front = inl refl;
  parted = refl;
  complete = λ text s. elim s.is_front [
    | inl e ↦
        let g : s.rest ≡ bits = sym (s.parted ∙ ap (λ x. x ++ s.rest) e) in
        (flat_map (λ p. p.chunk) s.pieces, record { pieces = s.pieces; read = subst (λ x. IsReadAs v x s.pieces) g s.read; text = text; shown = s.shown; joined = refl })
    | inr some ↦ absurd (none s.rest (normal_front v some.0) (s.parted ∙ ap (λ x. x ++ s.rest) some.1))
  ];
}

-- ECI 26 is a prefix and a number
pub mark_prefixed : IsPrefixed 4 7 8 26 (front MarkedText)
mark_prefixed = record { at_most = omega arith; whole = mark }

-- The segments.

-- what all bits show is what was read so far, and then what the rest shows
pub record ShowsFront (v : Version) (bits : List Bool) (done : List ℕ) (rest : List Bool) : Type 0 where
  pub sound : (more : List ℕ) → ShowsSegments v rest more → ShowsSegments v bits (done ++ more)
  pub complete : (bytes : List ℕ) → ShowsSegments v bits bytes → (more : List ℕ) × (bytes ≡ done ++ more) × ShowsSegments v rest more

pub nothing_shown : (v : Version) (bits : List Bool) → ShowsFront v bits [] bits
nothing_shown v bits = record { sound = λ more s. s; complete = λ bytes s. (bytes, refl, s) }

-- the first piece of bits that do not end
record FirstShown (v : Version) (bits : List Bool) (bytes : List ℕ) : Type 0 where
  piece : Piece
  rest : List Bool
  more : List ℕ
  text : List ℕ
  joined : bytes ≡ piece.chunk ++ more
  begins : BeginsWithPiece v bits piece rest
  is_shown : IsPieceShown piece text
  shows : ShowsSegments v rest more

first_shown : (v : Version) (bits : List Bool) (bytes : List ℕ) (ps : List Piece) (text : List ℕ) → is_end v bits ≡ false → IsReadAs v bits ps → ArePiecesShown ps text → flat_map (λ p. p.chunk) ps ≡ bytes
    → FirstShown v bits bytes
first_shown v bits bytes [] text goes r s e = absurd (true≢false (sym r ∙ goes))
first_shown v bits bytes (p ∷ ps) text goes r s e = record {
  piece = p;
  rest = r.0;
  more = flat_map (λ p. p.chunk) ps;
  text = s.0;
  joined = sym e;
  begins = record { readable = r.1.1.1.0; whole = r.1.0 };
  is_shown = s.2.1.0;
  shows = record { pieces = ps; read = r.1.1.1.1; text = s.1; shown = s.2.1.1; joined = refl };
}

-- if the bits neither end here nor begin with a piece that is shown, nothing is shown
pub refuses_shown : (v : Version) (bits : List Bool) (done : List ℕ) (rest : List Bool) → is_end v rest ≡ false
    → ((p : Piece) (behind : List Bool) (text : List ℕ) → BeginsWithPiece v rest p behind → ¬ IsPieceShown p text) → ShowsFront v bits done rest → (bytes : List ℕ) → ¬ ShowsSegments v bits bytes
refuses_shown v bits done rest goes none f bytes s =
    let r = f.complete bytes s in
    let t = r.2 in
    let first = first_shown v rest r.0 t.pieces t.text goes t.read t.shown t.joined in
    none first.piece first.rest first.text first.begins first.is_shown

-- one piece more
pub shows_on : (v : Version) (bits : List Bool) (done : List ℕ) (rest : List Bool) (p : Piece) (text : List ℕ) (behind : List Bool) → is_end v rest ≡ false → BeginsWithPiece v rest p behind
    → IsPieceShown p text → ShowsFront v bits done rest → ShowsFront v bits (done ++ p.chunk) behind
shows_on v bits done rest p text behind goes b is f = record {
  sound = λ more s.
      let all : ShowsSegments v rest (p.chunk ++ more) = record {
        pieces = p ∷ s.pieces;
        read = (behind, (b.whole, (goes, (b.readable, s.read))));
        text = text ++ s.text;
        shown = (text, s.text, (refl, (is, s.shown)));
        joined = ap (λ x. p.chunk ++ x) s.joined;
      } in
      subst (ShowsSegments v bits) (sym (append_assoc done p.chunk more)) (f.sound (p.chunk ++ more) all);
  complete = λ bytes s.
      let r = f.complete bytes s in
      let t = r.2 in
      let first = first_shown v rest r.0 t.pieces t.text goes t.read t.shown t.joined in
      let same = same_piece v first.piece.mode p.mode first.piece.chunk p.chunk first.rest behind first.begins.readable b.readable (sym first.begins.whole ∙ b.whole) in
      (first.more, r.1 ∙ ap (λ x. done ++ x) (first.joined ∙ ap (λ x. x ++ first.more) same.1) ∙ sym (append_assoc done p.chunk first.more), subst (λ x. ShowsSegments v x first.more) same.2 first.shows);
}

-- a piece that is Kanji or not UTF-8 is not shown, and the bits begin with no other piece
pub kanji_hidden : (v : Version) (bits : List Bool) (m : Mode) (chunk : List ℕ) (rest : List Bool) → m ≡ Kanji → BeginsWithPiece v bits (record { mode = m; chunk = chunk }) rest
    → (p : Piece) (behind : List Bool) (text : List ℕ) → BeginsWithPiece v bits p behind → ¬ IsPieceShown p text
kanji_hidden v bits m chunk rest e b p behind text d is =
    let same = same_piece v p.mode m p.chunk chunk behind rest d.readable b.readable (sym d.whole ∙ b.whole) in
    let f : is_among text_modes Kanji ≡ true = subst (λ k. is_among text_modes k ≡ true) (same.0 ∙ e) is.mode in
    true≢false (sym f)

pub no_utf8_hidden : (v : Version) (bits : List Bool) (m : Mode) (chunk : List ℕ) (rest : List Bool) → ¬ IsUtf8 chunk → BeginsWithPiece v bits (record { mode = m; chunk = chunk }) rest
    → (p : Piece) (behind : List Bool) (text : List ℕ) → BeginsWithPiece v bits p behind → ¬ IsPieceShown p text
no_utf8_hidden v bits m chunk rest none b p behind text d is =
    let same = same_piece v p.mode m p.chunk chunk behind rest d.readable b.readable (sym d.whole ∙ b.whole) in
    none (text, (is.characters, is.utf8 ∙ same.1))

-- where the bits end, all was read
shown_end : (v : Version) (bits : List Bool) (done : List ℕ) (rest : List Bool) → is_end v rest ≡ true → ShowsFront v bits done rest → ShowsSegments v bits done
shown_end v bits done rest end f =
    subst (ShowsSegments v bits) (append-nil done) (f.sound [] (record { pieces = []; read = end; text = []; shown = refl; joined = refl }))

-- and so its characters are shown, and no others
pub shows_text : (v : Version) (bits behind : List Bool) (done : List ℕ) (rest : List Bool) → IsBehindFront v bits behind → is_end v rest ≡ true → ShowsFront v behind done rest → ShowsOnly v bits (chars done)
shows_text v bits behind done rest b end f =
    let s = shown_end v behind done rest end f in
    let same : s.text ≡ chars done = shown_chars s.pieces s.text s.shown ∙ ap chars s.joined in
    let found : Shows v bits (chars done) = record {
      before = b.before;
      rest = behind;
      is_front = b.is_front;
      parted = b.parted;
      pieces = s.pieces;
      read = s.read;
      shown = subst (ArePiecesShown s.pieces) same s.shown;
    } in
    record { found = found; only = λ others t. one_shown v bits (chars done) others found t }

-- if nothing is shown after ECI 26, nothing is shown at all
pub hides_text : (v : Version) (bits behind : List Bool) → IsBehindFront v bits behind → ((bytes : List ℕ) → ¬ ShowsSegments v behind bytes) → (text : List ℕ) → ¬ Shows v bits text
hides_text v bits behind b none text s = let r = b.complete text s in none r.0 r.1
