use Rattle.std.proofs.Common.{◌≡◌, ℕ, ◌+◌, ◌*◌, ◌<◌, ◌^◌, ◌++◌, Bool, true, false, List, [], ◌∷◌, take, get_or, refl, sym, ap, ◌∙◌, arith}
use Rattle.std.proofs.lemmas.List.{take_more}
use Rattle.std.proofs.lemmas.Nat.{pow-add}
use Rattle.qrcode_types.specs.Bits.{number_bits}
use Rattle.qrcode_bits.proofs.Packing.{number_bits-cat}
use Rattle.qrcode_reader.proofs.spell.fields.number_of.Goals as goal

pub loop-bit-init : goal.loop-bit-init
unfolding number_bits
loop-bit-init c = record { value = refl; at_most = omega arith }

-- one more bit after those of a number
more : (bits : List Bool) (i n : ℕ) (b : Bool) → number_bits i n ≡ take i bits → i < Rattle.std.proofs.Common.length bits → get_or bits i false ≡ b
    → number_bits (i + 1) (2 * n + mir.Val.bool_byte b) ≡ take (i + 1) bits
unfolding number_bits
more bits i n true e h is = let d : 2 * n + 1 ≡ n * 2 ^ 1 + 1 = omega arith in ap (number_bits (i + 1)) d ∙ number_bits-cat i 1 n 1 (omega arith) ∙ ap (λ r. r ++ true ∷ []) e ∙ ap (λ x. take i bits ++ x ∷ []) (sym is) ∙ sym (take_more bits i false h)
more bits i n false e h is = let d : 2 * n + 0 ≡ n * 2 ^ 1 + 0 = omega arith in ap (number_bits (i + 1)) d ∙ number_bits-cat i 1 n 0 (omega arith) ∙ ap (λ r. r ++ false ∷ []) e ∙ ap (λ x. take i bits ++ x ∷ []) (sym is) ∙ sym (take_more bits i false h)

small : (i n : ℕ) (b : Bool) → n < 2 ^ i → 2 * n + mir.Val.bool_byte b < 2 ^ (i + 1)
small i n true h = omega (arith, h, pow-add 2 i 1)
small i n false h = omega (arith, h, pow-add 2 i 1)

pub loop-bit-preserved : goal.loop-bit-preserved
loop-bit-preserved c =
    let bit = get_or c.args.bits.now c.loop-bit.bit-index false in
    record {
      value = rw (c.from.ensures) (more c.args.bits.now c.loop-bit.bit-index c.loop-bit.number bit c.loop-bit.invariant.value c.loop-bit-test.true refl);
      at_most = rw (c.from.ensures) (small c.loop-bit.bit-index c.loop-bit.number bit c.loop-bit.invariant.at_most);
    }
