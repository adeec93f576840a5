use Rattle.std.proofs.Common.{◌≡◌, ℕ, ◌+◌, ◌*◌, ◌<◌, ◌/◌, ◌%◌, ◌^◌, ◌++◌, [], map, slice_index_or, ap, ap₂, ◌∙◌, sym, refl, append_assoc, arith}
use Rattle.std.specs.List.{range_with_len}
use Rattle.std.proofs.lemmas.List.FromFn.{get_or-map-range_with_len}
use Rattle.qrcode_types.specs.Bits.{number_bits}
use Rattle.qrcode_bits.proofs.Packing.{number_bits-cat}
use Rattle.qrcode_reader.specs.declared.bits.TheConstants.{HALVES}
use Rattle.qrcode_reader.proofs.bits.push_byte.Goals as goal

-- the table `HALVES`
table : map (number_bits 4) (range_with_len 0 16) ≡ HALVES
unfolding number_bits
table = refl

half : (n : ℕ) → n < 16 → slice_index_or HALVES n [] ≡ number_bits 4 n
half n h = ap (λ rows. slice_index_or rows n []) (sym table) ∙ get_or-map-range_with_len (number_bits 4) 0 16 n n [] h (omega arith)

-- the bits of a byte are those of its two halves
halves : (byte high low : ℕ) → byte < 256 → high ≡ byte / 16 → low ≡ byte % 16 → slice_index_or HALVES high [] ++ slice_index_or HALVES low [] ≡ number_bits 8 byte
halves byte high low fits h l =
    let small : low < 16 = omega (arith, l) in
    let whole : high * 2 ^ 4 + low ≡ byte = omega (arith, h, l) in
    ap₂ (λ x y. x ++ y) (half high (omega (arith, h, fits))) (half low small) ∙ sym (number_bits-cat 4 4 high low small) ∙ ap (number_bits 8) whole

pub returns : goal.returns
returns c =
    let bits = c.args.bits.now.items in
    let high = slice_index_or HALVES c.from.result [] in
    let low = slice_index_or HALVES c.from-2.result [] in
    c.in_ok-extend_from_slice-2.ensures.items ∙ ap (λ x. x ++ low) c.in_ok-extend_from_slice.ensures.items ∙ append_assoc bits high low
    ∙ ap (λ x. bits ++ x) (halves c.args.byte c.from.result c.from-2.result c.ranges.byte.fits c.from.ensures c.from-2.ensures)
