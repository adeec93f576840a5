use Rattle.std.proofs.Common.{◌≡◌, ℕ, ◌+◌, ◌*◌, ◌≤◌, Bool, List, length, take, drop, ap, ap₂, ◌∙◌, arith, length-append, length-drop}
use Rattle.std.proofs.lemmas.List.{drop-drop}
use Rattle.qrcode_types.specs.Bits.{number_bits, bit_distance}
use Rattle.qrcode_types.specs.Versions.{padding_byte}
use Rattle.qrcode_bits.proofs.Numbers.{length-number_bits}
use Rattle.qrcode_bits.proofs.Paddings.{padding_bytes, padding_bytes-more}
use Rattle.qrcode_check.proofs.Padded.{byte_more, all_bytes}
use Rattle.qrcode_check.proofs.ending.wrong_padding.Goals as goal

pub split_at-requires : goal.split_at-requires
split_at-requires c = omega (arith, ap length c.loop-i.invariant.rest, length-drop (8 * c.loop-i.i) c.args.bits.now)

pub loop-i-preserved : goal.loop-i-preserved
loop-i-preserved c =
    let bits = c.args.bits.now in
    let i = c.loop-i.i in
    let inside : 8 * i + 8 ≤ length bits = omega arith in
    let byte : c.split_at.result.0.now ≡ take 8 (drop (8 * i) bits) = c.split_at.ensures.front ∙ ap (take 8) c.loop-i.invariant.rest in
    let new = number_bits 8 (padding_byte i) in
    let next : 8 * i + 8 ≡ 8 * (i + 1) = omega arith in
    record {
      value = byte_more bits i c.loop-i.count c.distance-count.result inside c.loop-i.invariant.long c.loop-i.invariant.value
          (c.distance-count.ensures.value ∙ ap (λ (n : ℕ). bit_distance c.split_at.result.0.now (number_bits n c.padding_byte.result)) c.split_at.ensures.front_len
          ∙ ap₂ (λ (x : List Bool) (w : ℕ). bit_distance x (number_bits 8 w)) byte c.padding_byte.ensures);
      rest = c.split_at.ensures.back ∙ ap (drop 8) c.loop-i.invariant.rest ∙ drop-drop 8 (8 * i) bits ∙ ap (λ (n : ℕ). drop n bits) next;
      long = omega (arith, ap length (padding_bytes-more i), length-append (padding_bytes i) new, length-number_bits 8 (padding_byte i), c.loop-i.invariant.long);
      at_most = omega (arith, c.distance-count.ensures.at_most, c.split_at.ensures.front_len, c.loop-i.invariant.at_most);
    }

pub distance-requires : goal.distance-requires
distance-requires c = omega (arith, ap length c.loop-i.invariant.rest, length-drop (8 * c.loop-i.i) c.args.bits.now)

pub overflow_add-result : goal.overflow_add-result
overflow_add-result c = omega (arith, c.distance.ensures.at_most, ap length c.loop-i.invariant.rest, length-drop (8 * c.loop-i.i) c.args.bits.now, c.loop-i.invariant.at_most, c.requires)

pub returns : goal.returns
returns c =
    all_bytes c.args.bits.now c.loop-i.i c.loop-i.count c.distance.result (omega arith) c.loop-i.invariant.long c.loop-i.invariant.value
    (c.distance.ensures.value ∙ ap (λ (r : List Bool). bit_distance r (number_bits (length r) 0)) c.loop-i.invariant.rest)
