-- Escaped values are read back, and end at the separator after them.
use Rattle.std.proofs.Common.{◌≡◌, ℕ, ◌==◌, List, [], ◌∷◌, ◌++◌, false, Option, Some, None, refl, ap, ◌∙◌, sym, subst, arith, append_assoc, append-nil}
use Rattle.std.specs.List.{onto_first}
use Rattle.std.proofs.lemmas.Bool.{eq-eqb}
use Rattle.std.proofs.lemmas.Bool.Decides.{nat_tests}
use Rattle.qrcode_contents.specs.declared.fields.escapes.Escapes.{Escapes}
use Rattle.qrcode_contents.specs.fields.Escapes.{letter_of, meant_by, with_letter, escaped, unescaped, unescaped_from, pieces, pieces_from}

-- a byte that needs no escape is no backslash
alone_no_backslash : (e : Escapes) (b : ℕ) → letter_of e b ≡ None → (b == 92) ≡ false
alone_no_backslash e b h = grind (arith, nat_tests)

-- a byte that needs no escape is no semicolon
alone_no_semicolon : (e : Escapes) (b : ℕ) → letter_of e b ≡ None → (b == 59) ≡ false
alone_no_semicolon e b h = grind (arith, nat_tests)

-- a byte that needs no escape is no comma
alone_no_comma : (e : Escapes) (b : ℕ) → letter_of e b ≡ None → (b == 44) ≡ false
alone_no_comma e b h = grind (arith, nat_tests)

-- a letter after a backslash means its byte
letter_means : (e : Escapes) (b letter : ℕ) → letter_of e b ≡ Some letter → meant_by e letter ≡ b
letter_means e b letter h = grind (arith, nat_tests)

unescaped_byte : (e : Escapes) (b : ℕ) (o : Option ℕ) → letter_of e b ≡ o → (bs : List ℕ) → unescaped e (with_letter b o ++ bs) ≡ b ∷ unescaped e bs
unfolding unescaped_from
unescaped_byte e b None is bs = rw (alone_no_backslash e b is) refl
unescaped_byte e b (Some letter) is bs = ap (λ x. x ∷ unescaped e bs) (letter_means e b letter is)

-- escaped bytes mean the bytes
pub unescaped-escaped : (e : Escapes) (bs : List ℕ) → unescaped e (escaped e bs) ≡ bs
unfolding escaped unescaped_from
unescaped-escaped e [] = refl
unescaped-escaped e (b ∷ bs) =
    unescaped_byte e b (letter_of e b) refl (escaped e bs) ∙ ap (λ xs. b ∷ xs) (unescaped-escaped e bs)

-- bytes that end at the next separator, or at the end
pub record IsPiece (separator : ℕ) (piece : List ℕ) : Type 0 where
  pub before : (rest : List ℕ) → pieces separator (piece ++ separator ∷ rest) ≡ piece ∷ pieces separator rest
  pub last : pieces separator piece ≡ piece ∷ []

-- every format escapes the separator
pub record IsEscaped (separator : ℕ) : Type 0 where
  pub no_backslash : (separator == 92) ≡ false
  pub alone : (e : Escapes) (b : ℕ) → letter_of e b ≡ None → (b == separator) ≡ false

pub comma_escaped : IsEscaped 44
comma_escaped = record { no_backslash = refl; alone = alone_no_comma }

pub semicolon_escaped : IsEscaped 59
semicolon_escaped = record { no_backslash = refl; alone = alone_no_semicolon }

pub IsPiece-nil : (s : ℕ) → IsEscaped s → IsPiece s []
unfolding pieces_from
IsPiece-nil s is = record { before = λ rest. rw (is.no_backslash, eq-eqb s s refl) refl; last = refl }

-- one more byte before a piece, neither backslash nor separator
pub IsPiece-cons : (s b : ℕ) (piece : List ℕ) → (b == 92) ≡ false → (b == s) ≡ false → IsPiece s piece → IsPiece s (b ∷ piece)
unfolding pieces_from
IsPiece-cons s b piece no_backslash no_separator is = record {
  before = λ rest. rw (no_backslash, no_separator) (ap (onto_first b) (is.before rest));
  last = rw (no_backslash, no_separator) (ap (onto_first b) is.last);
}

IsPiece-byte : (s : ℕ) → IsEscaped s → (e : Escapes) (b : ℕ) (o : Option ℕ) → letter_of e b ≡ o → (piece : List ℕ) → IsPiece s piece → IsPiece s (with_letter b o ++ piece)
unfolding pieces_from
IsPiece-byte s guarded e b None alone piece is =
    IsPiece-cons s b piece (alone_no_backslash e b alone) (guarded.alone e b alone) is
IsPiece-byte s guarded e b (Some letter) has piece is = record {
  before = λ rest. ap (λ x. onto_first 92 (onto_first letter x)) (is.before rest);
  last = ap (λ x. onto_first 92 (onto_first letter x)) is.last;
}

-- an escaped value before a piece is a piece with it
pub IsPiece-escaped : (s : ℕ) → IsEscaped s → (e : Escapes) (bs piece : List ℕ) → IsPiece s piece → IsPiece s (escaped e bs ++ piece)
unfolding escaped
IsPiece-escaped s guarded e [] piece is = is
IsPiece-escaped s guarded e (b ∷ bs) piece is =
    subst (IsPiece s) (sym (append_assoc (with_letter b (letter_of e b)) (escaped e bs) piece))
    (IsPiece-byte s guarded e b (letter_of e b) refl (escaped e bs ++ piece) (IsPiece-escaped s guarded e bs piece is))

-- an escaped value is a piece
pub IsPiece-value : (s : ℕ) → IsEscaped s → (e : Escapes) (bs : List ℕ) → IsPiece s (escaped e bs)
IsPiece-value s guarded e bs =
    subst (IsPiece s) (append-nil (escaped e bs)) (IsPiece-escaped s guarded e bs [] (IsPiece-nil s guarded))
