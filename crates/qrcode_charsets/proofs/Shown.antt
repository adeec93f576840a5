-- Bits are shown as one text at most.
use Rattle.std.proofs.Common.{◌≡◌, ◌^◌, ℕ, Bool, true, List, [], ◌∷◌, ◌++◌, Some, sym, ap, subst, ◌∙◌, arith, inl, inr, true≢false, append_assoc}
use Rattle.std.specs.Prelude.{not}
use Rattle.std.proofs.lemmas.List.{append_cancel_left}
use Rattle.std.proofs.lemmas.Bool.Decides.{nat_tests}
use Rattle.qrcode_types.specs.Bits.{number_bits}
use Rattle.qrcode_types.specs.Modes.{mode_number}
use Rattle.qrcode_types.specs.Versions.{is_micro}
use Rattle.qrcode_types.specs.declared.types.Color.{Color}
use Rattle.qrcode_types.specs.declared.types.EcLevel.{EcLevel}
use Rattle.qrcode_types.specs.declared.types.Version.{Version}
use Rattle.qrcode_types.specs.declared.types.Version.TheVariants.{Normal, Micro}
use Rattle.qrcode_types.specs.declared.types.Mode.{Mode}
use Rattle.qrcode_symbol.specs.Reading.{ReadsBits}
use Rattle.qrcode_bits.specs.Spelling.{is_end, IsReadAs}
use Rattle.qrcode_bits.specs.Written.{Piece}
use Rattle.qrcode_bits.proofs.Numbers.{same_number}
use Rattle.qrcode_bits.proofs.Spellings.{normal_small, same_text}
use Rattle.qrcode.specs.Reading.{EncodesBits}
use Rattle.qrcode.proofs.Readings.{bits_are_read_one_way}
use Rattle.qrcode_charsets.specs.Charsets.{IsWritten}
use Rattle.qrcode_charsets.specs.Fronts.{front, charset_modes}
use Rattle.qrcode_charsets.specs.Shown.{ArePiecesShown, ShowsIn, ShowsOnlyIn, ShowsTextOnly, IsShownAs}
use Rattle.qrcode_charsets.specs.declared.sets.Charset.{Charset}
use Rattle.qrcode_charsets.specs.declared.sets.Charset.TheVariants.{Unmarked}
use Rattle.qrcode_charsets.proofs.Cuts.{chunks, AreOf}
use Rattle.qrcode_charsets.proofs.Marks.{IsMarked, unmarked_or, same_set, front_is}
use Rattle.qrcode_charsets.proofs.Writings.{read_one_way, written-nil, written-append}

-- segments that are shown as a text have its bytes, in modes of the set
pub shown_written : (c : Charset) (ps : List Piece) (text : List ℕ) → ArePiecesShown c ps text → IsWritten c text (chunks ps)
shown_written c [] text h = subst (λ t. IsWritten c t []) (sym h) (written-nil c)
shown_written c (p ∷ ps) text h =
    let more = h.2 in
    subst (λ t. IsWritten c t (chunks (p ∷ ps))) (sym more.0) (written-append c h.0 h.1 p.chunk (chunks ps) more.1.0.written (shown_written c ps h.1 more.1.1))

pub shown_modes : (c : Charset) (ps : List Piece) (text : List ℕ) → ArePiecesShown c ps text → AreOf (charset_modes c) ps
shown_modes c [] text h = tt
shown_modes c (p ∷ ps) text h = (h.2.1.0.mode, shown_modes c ps h.1 h.2.1.1)

no_indicator : (m : Mode) → 7 ≡ 2 ^ mode_number m → ⊥
no_indicator m h = grind (arith, nat_tests)

no_end : (n : _) (rest : List Bool) → is_end (Normal n) (number_bits 4 7 ++ rest) ≡ true → ⊥
unfolding number_bits
no_end n rest e = true≢false (sym e)

-- the mode indicator of ECI begins no segment and no end
no_piece : (v : Version) (rest : List Bool) (ps : List Piece) → not (is_micro v) ≡ true → IsReadAs v (number_bits 4 7 ++ rest) ps → ⊥
no_piece (Micro n) rest ps has read = cc
no_piece (Normal n) rest [] has read = no_end n rest read
no_piece (Normal n) rest (p ∷ ps) has read =
    let i = number_bits 4 (2 ^ mode_number p.mode) in
    no_indicator p.mode (same_number 4 7 (2 ^ mode_number p.mode) rest _ (omega arith) (normal_small p.mode) (read.1.0 ∙ append_assoc i _ read.0)).0

-- a set with a designator and one without do not show the same bits
not_both : (c : Charset) (v : Version) (bits : List Bool) (a b : List ℕ) → IsMarked c → ShowsIn Unmarked v bits a → ShowsIn c v bits b → ⊥
not_both c v bits a b m s t =
    let e : s.rest ≡ number_bits 4 7 ++ (number_bits 8 m.number ++ t.rest) =
    sym s.parted ∙ t.parted ∙ ap (λ x. x ++ t.rest) (front_is c m) ∙ append_assoc (number_bits 4 7) (number_bits 8 m.number) t.rest in
    no_piece v (number_bits 8 m.number ++ t.rest) s.pieces (sym (m.normal v) ∙ t.front_exists) (subst (λ z. IsReadAs v z s.pieces) e s.read)

-- in one set, bits are shown as one text
in_one_set : (c : Charset) (v : Version) (bits : List Bool) (a b : List ℕ) → ShowsIn c v bits a → ShowsIn c v bits b → b ≡ a
in_one_set c v bits a b s t =
    let rest : t.rest ≡ s.rest = append_cancel_left (front c) t.rest s.rest (sym t.parted ∙ s.parted) in
    let same : chunks t.pieces ≡ chunks s.pieces = same_text v s.rest t.pieces s.pieces (subst (λ z. IsReadAs v z t.pieces) rest t.read) s.read in
    read_one_way c a b (chunks s.pieces) (shown_written c s.pieces a s.shown) (subst (IsWritten c b) same (shown_written c t.pieces b t.shown))

in_same_set : (c d : Charset) (v : Version) (bits : List Bool) (a b : List ℕ) → d ≡ c → ShowsIn c v bits a → ShowsIn d v bits b → b ≡ a
in_same_set c d v bits a b e s t = in_one_set c v bits a b s (subst (λ x. ShowsIn x v bits b) e t)

pub one_shown : (c d : Charset) (v : Version) (bits : List Bool) (a b : List ℕ) → ShowsIn c v bits a → ShowsIn d v bits b → b ≡ a
one_shown c d v bits a b s t = elim (unmarked_or c) [
  | inl first ↦ elim (unmarked_or d) [
    | inl second ↦ in_same_set c d v bits a b (second ∙ sym first) s t
    | inr marked ↦ absurd (not_both d v bits a b marked (subst (λ x. ShowsIn x v bits a) first s) t)
  ]
  | inr marked ↦ elim (unmarked_or d) [
    | inl second ↦ absurd (not_both c v bits b a marked (subst (λ x. ShowsIn x v bits b) second t) s)
    | inr other ↦
        let first = s.parted ∙ ap (λ x. x ++ s.rest) (front_is c marked) ∙ append_assoc (number_bits 4 7) (number_bits 8 marked.number) s.rest in
        let second = t.parted ∙ ap (λ x. x ++ t.rest) (front_is d other) ∙ append_assoc (number_bits 4 7) (number_bits 8 other.number) t.rest in
        let after = append_cancel_left (number_bits 4 7) _ _ (sym first ∙ second) in
        let number = (same_number 8 marked.number other.number s.rest t.rest (omega (arith, marked.small)) (omega (arith, other.small)) after).0 in
        in_same_set c d v bits a b (same_set d c marked.number (other.is ∙ ap Some (sym number)) marked.is) s t
  ]
]

pub shows_only : (c : Charset) (v : Version) (bits : List Bool) (text : List ℕ) → ShowsIn c v bits text → ShowsOnlyIn c v bits text
shows_only c v bits text shown = record { found = shown; only = λ other others t. one_shown c other v bits text others shown t }

-- the text of a square
shows_text : (s : List Color) (c : Charset) (v : Version) (l : EcLevel) (bits : List Bool) (text : List ℕ) → ReadsBits s v l bits → ShowsIn c v bits text → ShowsTextOnly s text
shows_text s c v l bits text read shown = record {
  found = record { version = v; level = l; bits = bits; read = read; set = c; shown = shown };
  only = λ others q.
      let same = bits_are_read_one_way s v q.version l q.level bits q.bits read q.read in
      one_shown c q.set v bits text others shown (subst (λ b. ShowsIn q.set v b others) same.2 (subst (λ u. ShowsIn q.set u q.bits others) same.0 q.shown));
}

-- if bits are shown as a text, so is their symbol, even damaged
pub symbol_shown : (c : Charset) (v : Version) (l : EcLevel) (bits : List Bool) (text : List ℕ) (s : List Color) → EncodesBits v l bits s → ShowsIn c v bits text → IsShownAs v l text s
symbol_shown c v l bits text s encodes shown = record {
  mask = encodes.mask;
  is_mask = record { exists = encodes.mask_exists; patterns = encodes.symbol.patterns; first_least = encodes.first_least };
  shown = λ other damage. shows_text other c v l bits text (encodes.read other damage).found shown;
}
