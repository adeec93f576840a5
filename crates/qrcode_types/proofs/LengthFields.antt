-- If a symbol has room for some number of characters, that number fits the length field.
use Rattle.std.proofs.Common.{◌≡◌, ℕ, zero, suc, ◌+◌, ◌^◌, ◌<◌, ◌≤◌, nat_le, nat_lt, pos, negsuc, Bool, true, ◌&&◌, IsTrue, refl, inl, inr, arith}
use Rattle.std.proofs.lemmas.Bool.{agree_below, agree_below_at, and_parts, cases_lt, leb-true, ltb-true}
use Rattle.std.proofs.lemmas.Bool.Decides.{nat_tests}
use Rattle.qrcode_types.specs.Tables.{block_table}
use Rattle.qrcode_types.specs.Versions.{is_valid, blocks_entry, block_lengths, data_length, capacity}
use Rattle.qrcode_types.specs.Modes.{mode_bits_count, length_bits_count, data_bits_count, CountsFit}
use Rattle.qrcode_types.specs.ModeLaws.{for_all, at_each}
use Rattle.qrcode_types.specs.declared.types.Version.{Version}
use Rattle.qrcode_types.specs.declared.types.Version.TheVariants.{Normal, Micro}
use Rattle.qrcode_types.specs.declared.types.EcLevel.{EcLevel}
use Rattle.qrcode_types.specs.declared.types.EcLevel.TheVariants.{L, M, Q, H}
use Rattle.qrcode_types.specs.declared.types.Mode.{Mode}

-- a symbol has no room for the smallest number of characters that does not fit the length field
abbrev is_enough : Version → EcLevel → Mode → Bool
is_enough v l m =
    let field = length_bits_count m v in
    nat_lt (capacity v l) (mode_bits_count v + field + data_bits_count m (2 ^ field))

-- so at each level and in each mode
abbrev all_enough : Version → Bool
all_enough v = for_all (is_enough v L) && (for_all (is_enough v M) && (for_all (is_enough v Q) && for_all (is_enough v H)))

enough_in : (v : Version) → all_enough v ≡ true → (l : EcLevel) (m : Mode) → IsTrue (is_enough v l m)
enough_in v e =
    let first = and_parts (for_all (is_enough v L)) _ e in
    let second = and_parts (for_all (is_enough v M)) _ first.1 in
    let third = and_parts (for_all (is_enough v Q)) _ second.1 in
    elim [ L ↦ at_each (is_enough v L) first.0 | M ↦ at_each (is_enough v M) second.0 | Q ↦ at_each (is_enough v Q) third.0 | H ↦ at_each (is_enough v H) third.1 ]

in_normal : agree_below (λ n. all_enough (Normal (pos n))) (λ n. true) 41 ≡ true
unfolding capacity data_length block_lengths blocks_entry block_table
in_normal = refl

in_micro : agree_below (λ n. all_enough (Micro (pos (suc n)))) (λ n. true) 4 ≡ true
unfolding capacity data_length block_lengths blocks_entry block_table
in_micro = refl

enough : (v : Version) (l : EcLevel) (m : Mode) → IsTrue (is_valid v) → IsTrue (is_enough v l m)
enough (Normal (pos n)) l m e =
    let below : n < 41 = omega (arith, leb-true n 40 (and_parts (nat_le 1 n) (nat_le n 40) e).1) in
    enough_in (Normal (pos n)) (agree_below_at (λ n. all_enough (Normal (pos n))) (λ n. true) 41 n in_normal below) l m
enough (Normal (negsuc n)) l m e = cc
enough (Micro (pos zero)) l m e = cc
enough (Micro (pos (suc n))) l m e =
    let below : n < 4 = omega (arith, leb-true (suc n) 4 (and_parts (nat_le 1 (suc n)) (nat_le (suc n) 4) e).1) in
    enough_in (Micro (pos (suc n))) (agree_below_at (λ n. all_enough (Micro (pos (suc n)))) (λ n. true) 4 n in_micro below) l m
enough (Micro (negsuc n)) l m e = cc

-- more characters take no fewer bits
data_bits_count-le : (m : Mode) (a b : ℕ) → a ≤ b → data_bits_count m a ≤ data_bits_count m b
data_bits_count-le m a b h1 = grind (arith, nat_tests)

pub counts_fit : (m : Mode) (v : Version) → IsTrue (is_valid v) → CountsFit m v
counts_fit m v valid = record {
  fits = λ l count room. elim (cases_lt count (2 ^ length_bits_count m v)) [
    | inl less ↦ less
    | inr more ↦ absurd (omega (arith, room, ltb-true _ _ (enough v l m valid), data_bits_count-le m (2 ^ length_bits_count m v) count more))
  ];
}
