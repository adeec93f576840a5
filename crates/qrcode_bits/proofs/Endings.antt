-- Pieces that are written and terminated decode to their bytes.
use Rattle.std.proofs.Common.{◌≡◌, ◌^◌, ℕ, zero, suc, ◌+◌, ◌-◌, ◌*◌, ◌/◌, ◌<◌, ◌≤◌, min, Bool, true, false, not, List, [], ◌∷◌, ◌++◌, length, take, get_or, replicate, refl, sym, ap, ◌∙◌, arith, subst, true≢false, append_assoc, length-append, ◌⊎◌, inl, inr, pos, negsuc}
use Rattle.std.specs.Prelude.{IsTrue, flat_map, nat_le}
use Rattle.std.specs.List.{list_all, AllByRecursion}
use Rattle.std.proofs.lemmas.Bool.{and_parts, leb-true, cases_lt}
use Rattle.std.proofs.lemmas.List.{length-replicate, get_or_append_left, get_or-append-add}
use Rattle.std.proofs.lemmas.Bool.Decides.{nat_tests}
use Rattle.qrcode_types.specs.Bits.{number_bits}
use Rattle.qrcode_types.specs.Versions.{is_valid, capacity, terminator_length}
use Rattle.qrcode_types.specs.Modes.{mode_number, indicator, length_bits_count}
use Rattle.qrcode_types.specs.declared.types.Version.{Version}
use Rattle.qrcode_types.specs.declared.types.Version.TheVariants.{Normal, Micro}
use Rattle.qrcode_types.specs.declared.types.EcLevel.{EcLevel}
use Rattle.qrcode_types.specs.declared.types.Mode.{Mode}
use Rattle.qrcode_types.specs.Characters.{character_count}
use Rattle.qrcode_bits.specs.Written.{Piece, written_piece, written, data_bits_in, terminated, ending, padding}
use Rattle.qrcode_bits.specs.Spelling.{is_end, IsReadable, IsReadBack, IsReadAs, Spells, SpellsOnly}
use Rattle.qrcode_bits.proofs.Paddings.{length-padding, padding-nil}
use Rattle.qrcode_bits.proofs.Numbers.{has_one, length-number_bits}
use Rattle.qrcode_bits.proofs.Spellings.{normal_small, one_text}

-- a one among the first t bits
not_zeros : (t : ℕ) (bits : List Bool) (i : ℕ) → i < t → get_or bits i false ≡ true → list_all not (take t bits) ≡ false
not_zeros zero bits i l h = absurd (omega arith)
not_zeros (suc t) [] i l h = absurd (true≢false (sym h))
not_zeros (suc t) (true ∷ bits) i l h = refl
not_zeros (suc t) (false ∷ bits) zero l h = absurd (true≢false (sym h))
not_zeros (suc t) (false ∷ bits) (suc i) l h = not_zeros t bits i (omega arith) h

normal_positive : (m : Mode) → 0 < 2 ^ mode_number m
normal_positive m = grind (arith, nat_tests)

micro_width : (n : ℕ) (m : Mode) → 1 ≤ n → n - 1 + length_bits_count m (Micro (pos n)) ≤ 2 * n + 1
micro_width n m h1 = grind (arith, nat_tests)

-- a piece with characters does not look like an end
goes_on : (v : Version) (p : Piece) → IsTrue (is_valid v) → IsReadable v p → 0 < character_count p.mode (length p.chunk) → is_end v (written_piece v p) ≡ false
goes_on (Micro (negsuc n)) p a h some = absurd (true≢false (sym a))
goes_on (Normal v) p a h some =
    let i = number_bits 4 (2 ^ mode_number p.mode) in
    let n = number_bits (length_bits_count p.mode (Normal v)) (character_count p.mode (length p.chunk)) ++ data_bits_in p.mode p.chunk in
    let one = has_one 4 (2 ^ mode_number p.mode) (normal_small p.mode) (normal_positive p.mode) in
    not_zeros 4 (i ++ n) one.0 one.1 (get_or_append_left i n false one.0 (omega (arith, length-number_bits 4 (2 ^ mode_number p.mode), one.1)) ∙ one.2)
goes_on (Micro (pos v)) p a h some =
    let w = length_bits_count p.mode (Micro (pos v)) in
    let c = character_count p.mode (length p.chunk) in
    let i = number_bits (v - 1) (indicator (Micro (pos v)) p.mode) in
    let n = number_bits w c in
    let d = data_bits_in p.mode p.chunk in
    let one = has_one w c h.counted some in
    let least = leb-true 1 v (and_parts (nat_le 1 v) (nat_le v 4) a).0 in
    let f = get_or-append-add i (n ++ d) one.0 false ∙ get_or_append_left n d false one.0 (omega (arith, length-number_bits w c, one.1)) ∙ one.2 in
    not_zeros (2 * v + 1) (i ++ (n ++ d)) (length i + one.0) (omega (arith, length-number_bits (v - 1) (indicator (Micro (pos v)) p.mode), one.1, micro_width v p.mode least)) f

-- so it is read back
pub read_back : (v : Version) (p : Piece) → IsTrue (is_valid v) → IsReadable v p → 0 < character_count p.mode (length p.chunk) → IsReadBack v p
read_back v p a h some = record { readable = h; goes_on = goes_on v p a h some }

-- bits that are no end are none if more bits follow
longer : (t : ℕ) (bits more : List Bool) → list_all not (take t bits) ≡ false → list_all not (take t (bits ++ more)) ≡ false
longer zero bits more h = absurd (true≢false h)
longer (suc t) [] more h = absurd (true≢false h)
longer (suc t) (true ∷ bits) more h = refl
longer (suc t) (false ∷ bits) more h = longer t bits more h

-- pieces that are read back, and an end
pub read_as : (v : Version) (ps : List Piece) (rest : List Bool) → AllByRecursion (IsReadBack v) ps → is_end v rest ≡ true → IsReadAs v (written v ps ++ rest) ps
read_as v [] rest h e = e
read_as v (p ∷ ps) rest h e =
    let more = written v ps ++ rest in
    let f : written v (p ∷ ps) ++ rest ≡ written_piece v p ++ more = append_assoc (written_piece v p) (written v ps) rest in
    (more, (f, (ap (is_end v) f ∙ longer (terminator_length v) (written_piece v p) more h.0.goes_on, (h.0.readable, read_as v ps rest h.1 e))))

-- zeros for t places, or up to the end of the bits
zeros : (t n : ℕ) (x : List Bool) → (t ≤ n) ⊎ (x ≡ []) → list_all not (take t (replicate n false ++ x)) ≡ true
zeros zero n x h = refl
zeros (suc t) zero x h = elim h [ inl l ↦ absurd (omega arith) | inr e ↦ ap (λ y. list_all not (take (suc t) y)) e ]
zeros (suc t) (suc n) x h = zeros t n x (elim h [ inl l ↦ inl (omega arith) | inr e ↦ inr e ])

-- terminator and padding are an end
pub ending-is_end : (t used room : ℕ) → used ≤ room → list_all not (take t (ending t used room)) ≡ true
unfolding ending
ending-is_end t used room h =
    let z = min (8 * ((min (used + t) room + 7) / 8)) room in
    zeros t (z - used) (padding (room - z)) (elim (cases_lt z room) [
      | inl below ↦ inl (omega arith)
      | inr above ↦ inr (let y : room - z ≡ 0 = omega arith in ap padding y ∙ padding-nil)
    ])

pub length-ending : (t used room : ℕ) → used ≤ room → length (ending t used room) ≡ room - used
unfolding ending
length-ending t used room h =
    let z = min (8 * ((min (used + t) room + 7) / 8)) room in
    omega (arith, length-append (replicate (z - used) false) (padding (room - z)), length-replicate (z - used) false, length-padding (room - z))

pub terminated-ending : (v : Version) (l : EcLevel) (bits : List Bool) → terminated v l bits ≡ bits ++ ending (terminator_length v) (length bits) (capacity v l)
unfolding terminated
terminated-ending v l bits = refl

pub length-terminated : (v : Version) (l : EcLevel) (bits : List Bool) → length bits ≤ capacity v l → length (terminated v l bits) ≡ capacity v l
length-terminated v l bits h =
    let e = ending (terminator_length v) (length bits) (capacity v l) in
    omega (arith, ap length (terminated-ending v l bits), length-append bits e, length-ending (terminator_length v) (length bits) (capacity v l) h)

-- pieces that are read back, terminated, decode to their bytes
pub spells_terminated : (v : Version) (l : EcLevel) (ps : List Piece) → AllByRecursion (IsReadBack v) ps → length (written v ps) ≤ capacity v l
    → Spells v (terminated v l (written v ps)) (flat_map (λ p. p.chunk) ps)
spells_terminated v l ps h fits =
    let bits = written v ps in
    let e = ending (terminator_length v) (length bits) (capacity v l) in
    record {
      pieces = ps;
      read = subst (λ b. IsReadAs v b ps) (sym (terminated-ending v l bits)) (read_as v ps e h (ending-is_end (terminator_length v) (length bits) (capacity v l) fits));
      joined = refl;
    }

pub spells_only_terminated : (v : Version) (l : EcLevel) (ps : List Piece) → AllByRecursion (IsReadBack v) ps → length (written v ps) ≤ capacity v l
    → SpellsOnly v (terminated v l (written v ps)) (flat_map (λ p. p.chunk) ps)
spells_only_terminated v l ps h fits =
    let bits = terminated v l (written v ps) in
    let bytes = flat_map (λ p. p.chunk) ps in
    let found = spells_terminated v l ps h fits in
    record { found = found; only = λ others spelled. one_text v bits bytes others found spelled }
