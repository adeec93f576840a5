-- Bits are shown as one text at most.
use Rattle.std.proofs.Common.{◌≡◌, ◌^◌, ℕ, Bool, true, List, [], ◌∷◌, ◌++◌, sym, ap, ap₂, ◌∙◌, arith, subst, true≢false, append_assoc, inl, inr, IsTrue}
use Rattle.std.specs.Prelude.{flat_map, encode_utf8_all, chars}
use Rattle.std.specs.Str.{all_scalars}
use Rattle.std.proofs.lemmas.Bool.{and_parts, and_from}
use Rattle.std.proofs.lemmas.List.{append_cancel_left}
use Rattle.std.proofs.lemmas.Str.{chars-encodes, encodes-append}
use Rattle.std.proofs.lemmas.Bool.Decides.{nat_tests}
use Rattle.qrcode_types.specs.Bits.{number_bits}
use Rattle.qrcode_types.specs.Modes.{mode_number}
use Rattle.qrcode_types.specs.declared.types.Version.{Version}
use Rattle.qrcode_types.specs.declared.types.Version.TheVariants.{Normal, Micro}
use Rattle.qrcode_types.specs.declared.types.Mode.{Mode}
use Rattle.qrcode_bits.specs.Manners.{front, has_front}
use Rattle.qrcode_bits.specs.Shown.{ArePiecesShown, Shows}
use Rattle.qrcode_bits.specs.Spelling.{is_end, IsReadAs}
use Rattle.qrcode_bits.specs.Written.{Piece, eci_bits}
use Rattle.qrcode_bits.specs.declared.bits.manner.Manner.TheVariants.{MarkedText}
use Rattle.qrcode_bits.proofs.Numbers.{same_number}
use Rattle.qrcode_bits.proofs.Spellings.{normal_small, same_text}

all_both : (a b : List ℕ) → all_scalars a ≡ true → all_scalars b ≡ true → all_scalars (a ++ b) ≡ true
all_both [] b h k = k
all_both (c ∷ a) b h k = let r = and_parts _ (all_scalars a) h in and_from _ (all_scalars (a ++ b)) r.0 (all_both a b r.1 k)

-- the text that segments are shown as is their bytes in UTF-8
shown_bytes : (ps : List Piece) (text : List ℕ) → ArePiecesShown ps text → encode_utf8_all text ≡ flat_map (λ p. p.chunk) ps
shown_bytes [] text h = ap encode_utf8_all h
shown_bytes (p ∷ ps) text h =
    let more = h.2 in
    ap encode_utf8_all more.0 ∙ encodes-append h.0 h.1 ∙ ap₂ (λ (a b : List ℕ). a ++ b) more.1.0.utf8 (shown_bytes ps h.1 more.1.1)

shown_scalars : (ps : List Piece) (text : List ℕ) → ArePiecesShown ps text → all_scalars text ≡ true
shown_scalars [] text h = ap all_scalars h
shown_scalars (p ∷ ps) text h =
    let more = h.2 in
    ap all_scalars more.0 ∙ all_both h.0 h.1 more.1.0.characters (shown_scalars ps h.1 more.1.1)

-- so they are shown as the characters of their bytes
pub shown_chars : (ps : List Piece) (text : List ℕ) → ArePiecesShown ps text → text ≡ chars (flat_map (λ p. p.chunk) ps)
shown_chars ps text h = sym (chars-encodes text (shown_scalars ps text h)) ∙ ap chars (shown_bytes ps text h)

no_indicator : (m : Mode) → 7 ≡ 2 ^ mode_number m → ⊥
no_indicator m h1 = grind (arith, nat_tests)

no_end : (n : _) (rest : List Bool) → is_end (Normal n) (front MarkedText ++ rest) ≡ true → ⊥
unfolding number_bits
no_end n rest e = true≢false (sym e)

-- an ECI designator is no segment and no end
no_piece : (v : Version) (rest : List Bool) (ps : List Piece) → IsTrue (has_front v MarkedText) → IsReadAs v (front MarkedText ++ rest) ps → ⊥
no_piece (Micro n) rest ps has read = cc
no_piece (Normal n) rest [] has read = no_end n rest read
no_piece (Normal n) rest (p ∷ ps) has read =
    let i = number_bits 4 (2 ^ mode_number p.mode) in
    let e : number_bits 4 7 ++ (eci_bits 26 ++ rest) ≡ _ = sym (append_assoc (number_bits 4 7) (eci_bits 26) rest) ∙ read.1.0 ∙ append_assoc i _ read.0 in
    no_indicator p.mode (same_number 4 7 (2 ^ mode_number p.mode) (eci_bits 26 ++ rest) _ (omega arith) (normal_small p.mode) e).0

-- after the same front there is one text
same_rest : (v : Version) (bits before r s : List Bool) (ps qs : List Piece) (a b : List ℕ) → bits ≡ before ++ r → bits ≡ before ++ s → IsReadAs v r ps → IsReadAs v s qs
    → ArePiecesShown ps a → ArePiecesShown qs b → b ≡ a
same_rest v bits before r s ps qs a b e f p q h k =
    let same : s ≡ r = append_cancel_left before s r (sym f ∙ e) in
    shown_chars qs b k ∙ ap chars (same_text v r qs ps (subst (λ z. IsReadAs v z qs) same q) p) ∙ sym (shown_chars ps a h)

pub one_shown : (v : Version) (bits : List Bool) (a b : List ℕ) → Shows v bits a → Shows v bits b → b ≡ a
one_shown v bits a b s t = elim s.is_front [
  | inl none ↦
      elim t.is_front [
        | inl none' ↦ same_rest v bits [] s.rest t.rest s.pieces t.pieces a b (s.parted ∙ ap (λ x. x ++ s.rest) none) (t.parted ∙ ap (λ x. x ++ t.rest) none') s.read t.read s.shown t.shown
        | inr some' ↦
            let e : s.rest ≡ front MarkedText ++ t.rest = sym (s.parted ∙ ap (λ x. x ++ s.rest) none) ∙ t.parted ∙ ap (λ x. x ++ t.rest) some'.1 in
            absurd (no_piece v t.rest s.pieces some'.0 (subst (λ z. IsReadAs v z s.pieces) e s.read))
      ]
  | inr some ↦
      elim t.is_front [
        | inl none' ↦
            let e : t.rest ≡ front MarkedText ++ s.rest = sym (t.parted ∙ ap (λ x. x ++ t.rest) none') ∙ s.parted ∙ ap (λ x. x ++ s.rest) some.1 in
            absurd (no_piece v s.rest t.pieces some.0 (subst (λ z. IsReadAs v z t.pieces) e t.read))
        | inr some' ↦ same_rest v bits (front MarkedText) s.rest t.rest s.pieces t.pieces a b (s.parted ∙ ap (λ x. x ++ s.rest) some.1) (t.parted ∙ ap (λ x. x ++ t.rest) some'.1) s.read t.read s.shown t.shown
      ]
]
