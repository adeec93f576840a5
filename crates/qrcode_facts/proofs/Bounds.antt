-- A text of at most 331 bytes fits Normal 13.
use Rattle.std.proofs.Common.{◌≡◌, ◌∙◌, ℕ, ◌+◌, ◌/◌, ◌%◌, ◌<◌, ◌≤◌, true, pos, List, [], ◌∷◌, ◌++◌, length, IsUtf8, inl, inr, refl, sym, subst, arith, lt-ltb, le-ltb}
use Rattle.std.proofs.lemmas.Bool.{and_parts, cases_lt, cond-true, cond-false}
use Rattle.std.proofs.lemmas.Str.{encode_ascii}
use lib.Utf8.{scalar, scalars, encode, encodes, scalar_cases}
use Rattle.qrcode_types.specs.Tables.{block_table}
use Rattle.qrcode_types.specs.Bits.{AreBytes}
use Rattle.qrcode_types.specs.Versions.{capacity, data_length, block_lengths, blocks_entry}
use Rattle.qrcode_types.specs.declared.types.Version.TheVariants.{Normal}
use Rattle.qrcode_types.specs.declared.types.EcLevel.TheVariants.{M}
use Rattle.qrcode_bits.specs.Manners.{HoldsAs}
use Rattle.qrcode_bits.specs.declared.bits.manner.Manner.TheVariants.{Text}
use Rattle.qrcode_bits.proofs.Bands.{normal_level, byte_cut_as}

-- ---- texts are bytes
two : (c : ℕ) → 128 ≤ c → c < 2048 → encode c ≡ (192 + c / 64) ∷ (128 + c % 64) ∷ []
unfolding encode
two c low high = cond-false _ _ _ (le-ltb c 128 low) ∙ cond-true _ _ _ (lt-ltb c 2048 high)

three : (c : ℕ) → 2048 ≤ c → c < 65536 → encode c ≡ (224 + c / 4096) ∷ (128 + (c / 64) % 64) ∷ (128 + c % 64) ∷ []
unfolding encode
three c low high =
    cond-false _ _ _ (le-ltb c 128 (omega (arith, low))) ∙ cond-false _ _ _ (le-ltb c 2048 low) ∙ cond-true _ _ _ (lt-ltb c 65536 high)

four : (c : ℕ) → 65536 ≤ c → encode c ≡ (240 + c / 262144) ∷ (128 + (c / 4096) % 64) ∷ (128 + (c / 64) % 64) ∷ (128 + c % 64) ∷ []
unfolding encode
four c low =
    cond-false _ _ _ (le-ltb c 128 (omega (arith, low))) ∙ cond-false _ _ _ (le-ltb c 2048 (omega (arith, low))) ∙ cond-false _ _ _ (le-ltb c 65536 low)

scalar_bound : (c : ℕ) → scalar c ≡ true → c < 1114112
scalar_bound c is = elim (scalar_cases c is) [ inl low ↦ omega (arith, low) | inr high ↦ high.1 ]

character_bytes : (c : ℕ) → scalar c ≡ true → AreBytes (encode c)
character_bytes c is = elim (cases_lt c 128) [
  | inl small ↦ subst AreBytes (sym (encode_ascii c small)) (omega (arith, small), tt)
  | inr above ↦ elim (cases_lt c 2048) [
    | inl small ↦ subst AreBytes (sym (two c above small)) (omega (arith, small), (omega arith, tt))
    | inr above ↦ elim (cases_lt c 65536) [
      | inl small ↦ subst AreBytes (sym (three c above small)) (omega (arith, small), (omega arith, (omega arith, tt)))
      | inr above ↦ subst AreBytes (sym (four c above)) (omega (arith, scalar_bound c is), (omega arith, (omega arith, (omega arith, tt))))
    ]
  ]
]

both_bytes : (xs ys : List ℕ) → AreBytes xs → AreBytes ys → AreBytes (xs ++ ys)
both_bytes [] ys first later = later
both_bytes (x ∷ xs) ys first later = (first.0, both_bytes xs ys first.1 later)

text_bytes : (cs : List ℕ) → scalars cs ≡ true → AreBytes (encodes cs)
text_bytes [] all = tt
text_bytes (c ∷ cs) all =
    let each = and_parts (scalar c) (scalars cs) all in
    both_bytes (encode c) (encodes cs) (character_bytes c each.0) (text_bytes cs each.1)

-- ---- Normal 13
bits_held : capacity (Normal (pos 13)) M ≡ 2672
unfolding capacity data_length block_lengths blocks_entry block_table
bits_held = refl

-- it has room for a text of 331 bytes, as bytes
pub text_held : (text : List ℕ) → IsUtf8 text → length text ≤ 331 → HoldsAs Text (Normal (pos 13)) M text
text_held text utf8 small =
    let cut = byte_cut_as Text 13 text (subst AreBytes utf8.1.1 (text_bytes utf8.0 utf8.1.0)) in
    record { exists = normal_level 13 M (omega arith) (omega arith); front_exists = refl; room = (cut.0, (cut.1.0, omega (arith, cut.1.1, bits_held, small))) }
