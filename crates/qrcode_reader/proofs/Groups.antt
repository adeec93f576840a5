-- The bits of characters begin with the bits of the first group.
use Rattle.std.proofs.Common.{◌≡◌, ◌≤◌, ◌-◌, ◌+◌, ◌*◌, ℕ, ◌++◌, List, [], ◌∷◌, Bool, true, ◌&&◌, length, refl, sym, ap, ap₂, subst, ◌∙◌, arith, ◌⊎◌, inl, inr, min, append_assoc, append-nil, length-append, true≢false}
use Rattle.std.specs.List.{list_all}
use Rattle.std.specs.Prelude.{nat_lt, flat_map}
use Rattle.std.proofs.lemmas.Bool.{and_parts}
use Rattle.qrcode_types.specs.Bits.{number_bits}
use Rattle.qrcode_types.specs.Modes.{data_bits_count}
use Rattle.qrcode_types.specs.Characters.{is_digit, is_alphanumeric, alphanumeric_number, is_kanji, are_kanji, kanji_number, can_write, character_count}
use Rattle.qrcode_types.specs.declared.types.Mode.{Mode}
use Rattle.qrcode_types.specs.declared.types.Mode.TheVariants.{Numeric, Alphanumeric, Byte, Kanji}
use Rattle.qrcode_bits.specs.Written.{data_bits_in, numeric_bits, alphanumeric_bits, kanji_bits}
use Rattle.qrcode_bits.proofs.Chunks.{same_data}
use Rattle.qrcode_bits.proofs.Lengths.{length-data}
use Rattle.qrcode_bits.proofs.Numbers.{same_front}
use Rattle.qrcode_reader.specs.spell.Steps.{group_bits, AreWrittenAs}
use Rattle.qrcode_reader.proofs.Unspelled.{length_of_written}

-- the first characters, which are written together
record FirstGroup (m : Mode) (bytes : List ℕ) : Type 0 where
  front : List ℕ
  behind : List ℕ
  joined : bytes ≡ front ++ behind
  front_writable : can_write m front ≡ true
  behind_writable : can_write m behind ≡ true
  bits : data_bits_in m bytes ≡ data_bits_in m front ++ data_bits_in m behind
  at_most : length (data_bits_in m front) ≤ group_bits m
  full : (length (data_bits_in m front) ≡ group_bits m) ⊎ (data_bits_in m behind ≡ [])

all_of : (m : Mode) (bytes : List ℕ) → can_write m bytes ≡ true → data_bits_in m [] ≡ [] → can_write m [] ≡ true → length (data_bits_in m bytes) ≤ group_bits m → FirstGroup m bytes
all_of m bytes h none empty l = record {
  front = bytes;
  behind = [];
  joined = sym (append-nil bytes);
  front_writable = h;
  behind_writable = empty;
  bits = sym (append-nil (data_bits_in m bytes)) ∙ ap (λ r. data_bits_in m bytes ++ r) (sym none);
  at_most = l;
  full = inr none;
}

group_of : (m : Mode) (front behind : List ℕ) → can_write m front ≡ true → can_write m behind ≡ true → data_bits_in m (front ++ behind) ≡ data_bits_in m front ++ data_bits_in m behind
    → length (data_bits_in m front) ≡ group_bits m → FirstGroup m (front ++ behind)
group_of m front behind first others bits l = record {
  front = front;
  behind = behind;
  joined = refl;
  front_writable = first;
  behind_writable = others;
  bits = bits;
  at_most = omega (arith, l);
  full = inl l;
}

first_group : (m : Mode) (bytes : List ℕ) → can_write m bytes ≡ true → FirstGroup m bytes
first_group Numeric (a ∷ b ∷ c ∷ more) h =
    let pa = and_parts (is_digit a) (list_all is_digit (b ∷ c ∷ more)) h in
    let pb = and_parts (is_digit b) (list_all is_digit (c ∷ more)) pa.1 in
    let pc = and_parts (is_digit c) (list_all is_digit more) pb.1 in
    group_of Numeric (a ∷ b ∷ c ∷ []) more (ap₂ (λ x y. x && y) pa.0 (ap₂ (λ x y. x && y) pb.0 (ap (λ x. x && true) pc.0))) pc.1
    (ap (λ r. r ++ numeric_bits more) (sym (append-nil (number_bits 10 (100 * (a - 48) + 10 * (b - 48) + (c - 48)))))) (omega (arith, length-data Numeric (a ∷ b ∷ c ∷ [])))
first_group Alphanumeric (a ∷ b ∷ more) h =
    let pa = and_parts (is_alphanumeric a) (list_all is_alphanumeric (b ∷ more)) h in
    let pb = and_parts (is_alphanumeric b) (list_all is_alphanumeric more) pa.1 in
    group_of Alphanumeric (a ∷ b ∷ []) more (ap₂ (λ x y. x && y) pa.0 (ap (λ x. x && true) pb.0)) pb.1 (ap (λ r. r ++ alphanumeric_bits more) (sym (append-nil (number_bits 11 (45 * alphanumeric_number a + alphanumeric_number b))))) (omega (arith, length-data Alphanumeric (a ∷ b ∷ [])))
first_group Byte (a ∷ more) h =
    let pa = and_parts (nat_lt a 256) (list_all (λ b. nat_lt b 256) more) h in
    group_of Byte (a ∷ []) more (ap (λ x. x && true) pa.0) pa.1 (ap (λ r. r ++ flat_map (number_bits 8) more) (sym (append-nil (number_bits 8 a)))) (omega (arith, length-data Byte (a ∷ [])))
first_group Kanji (a ∷ []) h = absurd (true≢false (sym h))
first_group Kanji (a ∷ b ∷ more) h =
    let pa = and_parts (is_kanji a b) (are_kanji more) h in
    group_of Kanji (a ∷ b ∷ []) more (ap (λ x. x && true) pa.0) pa.1 (ap (λ r. r ++ kanji_bits more) (sym (append-nil (number_bits 13 (kanji_number a b))))) (omega (arith, length-data Kanji (a ∷ b ∷ [])))
first_group m bytes h = all_of m bytes h refl refl (omega (arith, length-data m bytes))

-- bytes split like their bits: into those of one group and the rest
pub record Splits (m : Mode) (group behind : List Bool) (bytes : List ℕ) : Type 0 where
  pub front : List ℕ
  pub more : List ℕ
  pub joined : bytes ≡ front ++ more
  pub front_written : AreWrittenAs m group front
  pub more_written : AreWrittenAs m behind more

pub group_splits : (m : Mode) (group behind : List Bool) (bytes : List ℕ) → length group ≡ min (length (group ++ behind)) (group_bits m)
    → AreWrittenAs m (group ++ behind) bytes → Splits m group behind bytes
group_splits m group behind bytes l w =
    let f = first_group m bytes w.writable in
    let e = sym f.bits ∙ w.written in
    let total : length (data_bits_in m f.front) + length (data_bits_in m f.behind) ≡ length (group ++ behind) = sym (length-append (data_bits_in m f.front) (data_bits_in m f.behind)) ∙ ap length e in
    let same : length (data_bits_in m f.front) ≡ length group = elim f.full [
      | inl full ↦ omega (arith, full, total, l)
      | inr none ↦ omega (arith, ap length none, f.at_most, total, l)
    ] in
    let r = same_front (data_bits_in m f.front) group (data_bits_in m f.behind) behind same e in
    record {
      front = f.front;
      more = f.behind;
      joined = f.joined;
      front_written = record { writable = f.front_writable; written = r.0 };
      more_written = record { writable = f.behind_writable; written = r.1 };
    }

-- the number of data bits determines the number of characters
pub same_count : (m : Mode) (a b : ℕ) → data_bits_count m a ≡ data_bits_count m b → a ≡ b
same_count Numeric a b e = omega (arith, e)
same_count Alphanumeric a b e = omega (arith, e)
same_count Byte a b e = omega (arith, e)
same_count Kanji a b e = omega (arith, e)

-- at most one list of bytes is written as these bits
pub one_written : (m : Mode) (bits : List Bool) (a b : List ℕ) → AreWrittenAs m bits a → AreWrittenAs m bits b → a ≡ b
one_written m bits a b p q =
    let counts = same_count m (character_count m (length a)) (character_count m (length b)) (sym (length_of_written m bits a p) ∙ length_of_written m bits b q) in
    (same_data m a b [] [] p.writable q.writable counts (ap (λ r. r ++ []) (p.written ∙ sym q.written))).0

-- no bytes are written as no bits
pub none_written : (m : Mode) → AreWrittenAs m [] []
none_written Numeric = record { writable = refl; written = refl }
none_written Alphanumeric = record { writable = refl; written = refl }
none_written Byte = record { writable = refl; written = refl }
none_written Kanji = record { writable = refl; written = refl }

full_group : (m : Mode) (group behind : List Bool) (chunk more : List ℕ) → length group ≡ group_bits m → AreWrittenAs m group chunk → AreWrittenAs m behind more
    → AreWrittenAs m (group ++ behind) (chunk ++ more)
full_group Numeric group behind (a ∷ b ∷ c ∷ []) more l w v =
    let pa = and_parts (is_digit a) (list_all is_digit (b ∷ c ∷ [])) w.writable in
    let pb = and_parts (is_digit b) (list_all is_digit (c ∷ [])) pa.1 in
    let pc = and_parts (is_digit c) true pb.1 in
    record {
      writable = ap₂ (λ x y. x && y) pa.0 (ap₂ (λ x y. x && y) pb.0 (ap₂ (λ x y. x && y) pc.0 v.writable));
      written = ap₂ (λ (x y : List Bool). x ++ y) (sym (append-nil (number_bits 10 (100 * (a - 48) + 10 * (b - 48) + (c - 48)))) ∙ w.written) v.written;
    }
full_group Alphanumeric group behind (a ∷ b ∷ []) more l w v =
    let pa = and_parts (is_alphanumeric a) (list_all is_alphanumeric (b ∷ [])) w.writable in
    let pb = and_parts (is_alphanumeric b) true pa.1 in
    record {
      writable = ap₂ (λ x y. x && y) pa.0 (ap₂ (λ x y. x && y) pb.0 v.writable);
      written = ap₂ (λ (x y : List Bool). x ++ y) (sym (append-nil (number_bits 11 (45 * alphanumeric_number a + alphanumeric_number b))) ∙ w.written) v.written;
    }
full_group Byte group behind (a ∷ []) more l w v = record {
  writable = ap₂ (λ x y. x && y) (and_parts (nat_lt a 256) true w.writable).0 v.writable;
  written = ap₂ (λ (x y : List Bool). x ++ y) (sym (append-nil (number_bits 8 a)) ∙ w.written) v.written;
}
full_group Kanji group behind (a ∷ b ∷ []) more l w v = record {
  writable = ap₂ (λ x y. x && y) (and_parts (is_kanji a b) true w.writable).0 v.writable;
  written = ap₂ (λ (x y : List Bool). x ++ y) (sym (append-nil (number_bits 13 (kanji_number a b))) ∙ w.written) v.written;
}
full_group Kanji group behind (a ∷ b ∷ c ∷ []) more l w v = absurd (true≢false (sym (and_parts (is_kanji a b) Rattle.std.proofs.Common.false w.writable).1))
full_group m group behind chunk more l w v = absurd (omega (arith, l, length_of_written m group chunk w))

-- a group and the rest are written as their bits in turn, if the group is full or the last
group_joins : (m : Mode) (group behind : List Bool) (chunk more : List ℕ) → length group ≡ min (length (group ++ behind)) (group_bits m)
    → AreWrittenAs m group chunk → AreWrittenAs m behind more → AreWrittenAs m (group ++ behind) (chunk ++ more)
group_joins m group [] chunk more l w v =
    let none : [] ≡ more = one_written m [] [] more (none_written m) v in
    let all : AreWrittenAs m (group ++ []) (chunk ++ []) = rw (append-nil group, append-nil chunk) w in
    subst (λ x. AreWrittenAs m (group ++ []) (chunk ++ x)) none all
group_joins m group (b ∷ behind) chunk more l w v =
    full_group m group (b ∷ behind) chunk more (omega (arith, l, length-append group (b ∷ behind))) w v

-- the bytes of all bits are what was read so far, and then the bytes of the rest
pub record TakesFront (m : Mode) (bits : List Bool) (done : List ℕ) (rest : List Bool) : Type 0 where
  pub sound : (more : List ℕ) → AreWrittenAs m rest more → AreWrittenAs m bits (done ++ more)
  pub complete : (bytes : List ℕ) → AreWrittenAs m bits bytes → (more : List ℕ) × (bytes ≡ done ++ more) × AreWrittenAs m rest more

-- one group more
pub takes_more : (m : Mode) (bits : List Bool) (done : List ℕ) (rest group behind : List Bool) (chunk : List ℕ) → rest ≡ group ++ behind
    → length group ≡ min (length rest) (group_bits m) → AreWrittenAs m group chunk → TakesFront m bits done rest → TakesFront m bits (done ++ chunk) behind
takes_more m bits done rest group behind chunk e l w f =
    let l' : length group ≡ min (length (group ++ behind)) (group_bits m) = l ∙ ap (λ r. min (length r) (group_bits m)) e in
    record {
      sound = λ more v.
          let v' = subst (λ r. AreWrittenAs m r (chunk ++ more)) (sym e) (group_joins m group behind chunk more l' w v) in
          subst (AreWrittenAs m bits) (sym (append_assoc done chunk more)) (f.sound (chunk ++ more) v');
      complete = λ bytes v.
          let r = f.complete bytes v in
          let s = group_splits m group behind r.0 l' (subst (λ x. AreWrittenAs m x r.0) e r.2) in
          let one = one_written m group s.front chunk s.front_written w in
          (s.more, r.1 ∙ ap (λ x. done ++ x) (s.joined ∙ ap (λ x. x ++ s.more) one) ∙ sym (append_assoc done chunk s.more), s.more_written);
    }

-- if no bytes are written as the group, none are written as all bits
pub refuses_group : (m : Mode) (bits : List Bool) (done : List ℕ) (rest group behind : List Bool) → rest ≡ group ++ behind
    → length group ≡ min (length rest) (group_bits m) → ((bytes : List ℕ) → ¬ AreWrittenAs m group bytes) → TakesFront m bits done rest
    → (bytes : List ℕ) → ¬ AreWrittenAs m bits bytes
refuses_group m bits done rest group behind e l none f bytes w =
    let l' : length group ≡ min (length (group ++ behind)) (group_bits m) = l ∙ ap (λ r. min (length r) (group_bits m)) e in
    let r = f.complete bytes w in
    let s = group_splits m group behind r.0 l' (subst (λ x. AreWrittenAs m x r.0) e r.2) in
    none s.front s.front_written

-- a list without items
pub no_items : {X : Type 0} → (xs : List X) → length xs ≡ 0 → xs ≡ []
no_items [] h = refl
no_items (x ∷ xs) h = absurd (omega arith)
