-- Bits decode to at most one list of bytes.
use Rattle.std.proofs.Common.{◌≡◌, ℕ, zero, suc, ◌-◌, ◌^◌, ◌<◌, Bool, List, [], ◌∷◌, ◌++◌, length, refl, sym, ap, ap₂, ◌∙◌, arith, subst, true≢false, append_assoc}
use Rattle.std.specs.Prelude.{IsTrue, nat_abs, flat_map}
use Rattle.std.proofs.lemmas.Bool.{ltb-true}
use Rattle.std.proofs.lemmas.Bool.Decides.{nat_tests}
use Rattle.qrcode_types.specs.Bits.{number_bits}
use Rattle.qrcode_types.specs.Modes.{has_mode, mode_number, indicator, mode_bits_count, length_bits_count}
use Rattle.qrcode_types.specs.declared.types.Version.{Version}
use Rattle.qrcode_types.specs.declared.types.Version.TheVariants.{Normal, Micro}
use Rattle.qrcode_types.specs.declared.types.Mode.{Mode}
use Rattle.qrcode_types.specs.declared.types.Mode.TheVariants.{Numeric, Alphanumeric, Byte, Kanji}
use Rattle.qrcode_types.specs.Characters.{character_count}
use Rattle.qrcode_bits.specs.Written.{Piece, written_piece, data_bits_in}
use Rattle.qrcode_bits.specs.Spelling.{IsReadable, IsReadAs, Spells}
use Rattle.qrcode_bits.proofs.Numbers.{same_number}
use Rattle.qrcode_bits.proofs.Chunks.{same_data}

pub normal_small : (m : Mode) → 2 ^ mode_number m < 2 ^ 4
normal_small m = grind (arith, nat_tests)

pub indicator-small : (v : Version) (m : Mode) → IsTrue (has_mode v m) → indicator v m < 2 ^ mode_bits_count v
indicator-small (Normal v) m h = normal_small m
indicator-small (Micro v) m h = ltb-true (mode_number m) (2 ^ (nat_abs v - 1)) h

mode_of_normal : ℕ → Mode
mode_of_normal zero = Numeric
mode_of_normal (suc zero) = Numeric
mode_of_normal (suc (suc zero)) = Alphanumeric
mode_of_normal (suc (suc (suc (suc zero)))) = Byte
mode_of_normal _ = Kanji

mode_of_normal-is : (m : Mode) → mode_of_normal (2 ^ mode_number m) ≡ m
unfolding mode_of_normal
mode_of_normal-is m = grind (arith, nat_tests)

mode_of_micro : ℕ → Mode
mode_of_micro zero = Numeric
mode_of_micro (suc zero) = Alphanumeric
mode_of_micro (suc (suc zero)) = Byte
mode_of_micro _ = Kanji

mode_of_micro-is : (m : Mode) → mode_of_micro (mode_number m) ≡ m
unfolding mode_of_micro
mode_of_micro-is m = grind (arith, nat_tests)

-- an indicator determines its mode
pub same_mode : (v : Version) (m n : Mode) → indicator v m ≡ indicator v n → m ≡ n
same_mode (Normal v) m n e = sym (mode_of_normal-is m) ∙ ap mode_of_normal e ∙ mode_of_normal-is n
same_mode (Micro v) m n e = sym (mode_of_micro-is m) ∙ ap mode_of_micro e ∙ mode_of_micro-is n

-- the bits after a mode indicator
behind : Version → Mode → List ℕ → List Bool → List Bool
behind v m a x = number_bits (length_bits_count m v) (character_count m (length a)) ++ (data_bits_in m a ++ x)

same_behind : (v : Version) (m : Mode) (a b : List ℕ) (x y : List Bool)
    → IsReadable v (record { mode = m; chunk = a }) → IsReadable v (record { mode = m; chunk = b })
    → behind v m a x ≡ behind v m b y → (a ≡ b) × (x ≡ y)
unfolding behind
same_behind v m a b x y p q e =
    let r = same_number (length_bits_count m v) (character_count m (length a)) (character_count m (length b)) (data_bits_in m a ++ x) (data_bits_in m b ++ y) p.counted q.counted e in
    same_data m a b x y p.writable q.writable r.0 r.1

parts : (v : Version) (m : Mode) (a : List ℕ) (x : List Bool) → written_piece v (record { mode = m; chunk = a }) ++ x ≡ number_bits (mode_bits_count v) (indicator v m) ++ behind v m a x
unfolding behind
parts v m a x =
    let i = number_bits (mode_bits_count v) (indicator v m) in
    let n = number_bits (length_bits_count m v) (character_count m (length a)) in
    append_assoc i (n ++ data_bits_in m a) x ∙ ap (λ r. i ++ r) (append_assoc n (data_bits_in m a) x)

pub same_piece : (v : Version) (m n : Mode) (a b : List ℕ) (x y : List Bool)
    → IsReadable v (record { mode = m; chunk = a }) → IsReadable v (record { mode = n; chunk = b })
    → written_piece v (record { mode = m; chunk = a }) ++ x ≡ written_piece v (record { mode = n; chunk = b }) ++ y → (m ≡ n) × (a ≡ b) × (x ≡ y)
same_piece v m n a b x y p q e =
    let f = sym (parts v m a x) ∙ e ∙ parts v n b y in
    let r = same_number (mode_bits_count v) (indicator v m) (indicator v n) (behind v m a x) (behind v n b y) (indicator-small v m p.mode_exists) (indicator-small v n q.mode_exists) f in
    let k = same_mode v m n r.0 in
    let q' = subst (λ j. IsReadable v (record { mode = j; chunk = b })) (sym k) q in
    let s = same_behind v m a b x y p q' (r.1 ∙ sym (ap (λ j. behind v j b y) k)) in
    (k, s.0, s.1)

pub same_text : (v : Version) (bits : List Bool) (ps qs : List Piece) → IsReadAs v bits ps → IsReadAs v bits qs → flat_map (λ p. p.chunk) ps ≡ flat_map (λ p. p.chunk) qs
same_text v bits [] [] a b = refl
same_text v bits [] (q ∷ qs) a b = absurd (true≢false (sym a ∙ b.1.1.0))
same_text v bits (p ∷ ps) [] a b = absurd (true≢false (sym b ∙ a.1.1.0))
same_text v bits (p ∷ ps) (q ∷ qs) a b =
    let r = same_piece v p.mode q.mode p.chunk q.chunk a.0 b.0 a.1.1.1.0 b.1.1.1.0 (sym a.1.0 ∙ b.1.0) in
    let t = subst (λ z. IsReadAs v z qs) (sym r.2) b.1.1.1.1 in
    ap₂ (λ (x y : List ℕ). x ++ y) r.1 (same_text v a.0 ps qs a.1.1.1.1 t)

pub one_text : (v : Version) (bits : List Bool) (a b : List ℕ) → Spells v bits a → Spells v bits b → b ≡ a
one_text v bits a b s t = sym t.joined ∙ same_text v bits t.pieces s.pieces t.read s.read ∙ s.joined
