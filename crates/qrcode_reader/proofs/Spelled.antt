-- The bytes that bits decode to begin with those of their first piece.
use Rattle.std.proofs.Common.{◌≡◌, ◌<◌, ◌+◌, ℕ, zero, suc, pos, negsuc, ◌++◌, List, [], ◌∷◌, Bool, true, false, length, refl, sym, ap, ap₂, subst, ◌∙◌, arith, IsTrue, IsFalse, append_assoc, length-append, true≢false, ◌⊎◌, inl, inr, Result, Ok, Err, IfErr, IsOkUnless}
use Rattle.std.specs.Prelude.{flat_map}
use Rattle.qrcode_types.specs.Modes.{has_mode, length_bits_count, mode_bits_count}
use Rattle.qrcode_types.specs.declared.types.Version.{Version}
use Rattle.qrcode_types.specs.declared.types.Version.TheVariants.{Normal, Micro}
use Rattle.qrcode_types.specs.declared.types.Mode.{Mode}
use Rattle.qrcode_types.specs.declared.types.Mode.TheVariants.{Numeric, Alphanumeric, Byte, Kanji}
use Rattle.qrcode_bits.specs.Written.{Piece, written_piece}
use Rattle.qrcode_bits.specs.Spelling.{is_end, IsReadAs, Spells}
use Rattle.qrcode_bits.proofs.Lengths.{length-piece}
use Rattle.qrcode_bits.proofs.Spellings.{same_piece}
use Rattle.qrcode_reader.specs.spell.Steps.{BeginsWithPiece}

-- all bits decode to what was read so far, and then to what the rest decodes to
pub record SpellsFront (v : Version) (bits : List Bool) (done : List ℕ) (rest : List Bool) : Type 0 where
  pub sound : (more : List ℕ) → Spells v rest more → Spells v bits (done ++ more)
  pub complete : (bytes : List ℕ) → Spells v bits bytes → (more : List ℕ) × (bytes ≡ done ++ more) × Spells v rest more

pub nothing_done : (v : Version) (bits : List Bool) → SpellsFront v bits [] bits
nothing_done v bits = record {
  sound = λ more s. s;
  complete = λ bytes s. (bytes, refl, s);
}

-- bits that begin with a piece decode to its bytes, and then to what the rest decodes to
spells_more : (v : Version) (bits : List Bool) (p : Piece) (rest : List Bool) (more : List ℕ) → is_end v bits ≡ false → BeginsWithPiece v bits p rest → Spells v rest more → Spells v bits (p.chunk ++ more)
spells_more v bits p rest more goes b s = record {
  pieces = p ∷ s.pieces;
  read = (rest, (b.whole, (goes, (b.readable, s.read))));
  joined = ap (λ x. p.chunk ++ x) s.joined;
}

-- bits that do not end here decode to the bytes of a piece first
record First (v : Version) (bits : List Bool) (bytes : List ℕ) : Type 0 where
  piece : Piece
  rest : List Bool
  more : List ℕ
  joined : bytes ≡ piece.chunk ++ more
  begins : BeginsWithPiece v bits piece rest
  spells : Spells v rest more

first_of : (v : Version) (bits : List Bool) (bytes : List ℕ) (ps : List Piece) → is_end v bits ≡ false → IsReadAs v bits ps → flat_map (λ p. p.chunk) ps ≡ bytes → First v bits bytes
first_of v bits bytes [] goes r e = absurd (true≢false (sym r ∙ goes))
first_of v bits bytes (p ∷ ps) goes r e = record {
  piece = p;
  rest = r.0;
  more = flat_map (λ p. p.chunk) ps;
  joined = sym e;
  begins = record { readable = r.1.1.1.0; whole = r.1.0 };
  spells = record { pieces = ps; read = r.1.1.1.1; joined = refl };
}

-- if the bits neither end here nor begin with a piece, they decode to nothing
pub refuses_piece : (v : Version) (bits : List Bool) (done : List ℕ) (rest : List Bool) → is_end v rest ≡ false → ((p : Piece) (behind : List Bool) → ¬ BeginsWithPiece v rest p behind)
    → SpellsFront v bits done rest → (bytes : List ℕ) → ¬ Spells v bits bytes
refuses_piece v bits done rest goes none f bytes s =
    let r = f.complete bytes s in
    let first = first_of v rest r.0 r.2.pieces goes r.2.read r.2.joined in
    none first.piece first.rest first.begins

-- one more piece
pub spells_on : (v : Version) (bits : List Bool) (done : List ℕ) (rest : List Bool) (p : Piece) (behind : List Bool) → is_end v rest ≡ false → BeginsWithPiece v rest p behind
    → SpellsFront v bits done rest → SpellsFront v bits (done ++ p.chunk) behind
spells_on v bits done rest p behind goes b f = record {
  sound = λ more s. subst (Spells v bits) (sym (append_assoc done p.chunk more)) (f.sound (p.chunk ++ more) (spells_more v rest p behind more goes b s));
  complete = λ bytes s.
      let r = f.complete bytes s in
      let first = first_of v rest r.0 r.2.pieces goes r.2.read r.2.joined in
      let same = same_piece v first.piece.mode p.mode first.piece.chunk p.chunk first.rest behind first.begins.readable b.readable (sym first.begins.whole ∙ b.whole) in
      (first.more, r.1 ∙ ap (λ x. done ++ x) (first.joined ∙ ap (λ x. x ++ first.more) same.1) ∙ sym (append_assoc done p.chunk first.more), subst (λ x. Spells v x first.more) same.2 first.spells);
}

-- where the bits end, all was read
pub spells_end : (v : Version) (bits : List Bool) (done : List ℕ) (rest : List Bool) → is_end v rest ≡ true → SpellsFront v bits done rest → Spells v bits done
spells_end v bits done rest end f = subst (Spells v bits) (Rattle.std.proofs.Common.append-nil done) (f.sound [] (record { pieces = []; read = end; joined = refl }))

-- a mode indicator and a length field take at least one bit
some_field : (v : Version) (m : Mode) → IsTrue (has_mode v m) → 0 < mode_bits_count v + length_bits_count m v
some_field (Normal v) m h = omega arith
some_field (Micro v) Numeric h = omega arith
some_field (Micro v) Alphanumeric h = omega arith
some_field (Micro v) Byte h = omega arith
some_field (Micro (pos zero)) Kanji h = absurd (true≢false (sym h))
some_field (Micro (pos (suc n))) Kanji h = omega arith
some_field (Micro (negsuc n)) Kanji h = omega arith

-- a piece takes at least one bit
pub piece_shortens : (v : Version) (bits : List Bool) (p : Piece) (rest : List Bool) → BeginsWithPiece v bits p rest → length rest < length bits
piece_shortens v bits p rest b = omega (arith, ap length b.whole, length-append (written_piece v p) rest, length-piece v p, some_field v p.mode b.readable.mode_exists)

-- an error whose cause cannot be is that memory ran out
pub memory_only : {T E Q : Type 0} (r : Result T E) (memory other : E) → IfErr r (λ e. (e ≡ memory) ⊎ ((e ≡ other) × Q)) → ¬ Q → IsOkUnless r memory
memory_only (Ok x) memory other cause impossible = tt
memory_only (Err e) memory other cause impossible = elim cause [ inl m ↦ m | inr n ↦ absurd (impossible n.1) ]
