use Rattle.std.proofs.Common.{◌≡◌, ◌+◌, ◌-◌, ◌*◌, ◌≤◌, get_or, refl, ap, ◌∙◌, arith, inl, inr}
use Rattle.std.specs.Prelude.{slice_range}
use Rattle.std.proofs.lemmas.Bool.{cases_lt}
use Rattle.qrcode_types.specs.Modes.{data_bits_count}
use Rattle.qrcode_types.specs.Characters.{can_write, character_count, bytes_each}
use Rattle.qrcode_bits.specs.LeastBits.{past_end}
use Rattle.qrcode_bits.specs.declared.optimize.costs.BestStart.{BestStart}
use Rattle.qrcode_types.proofs.Writing.{are_bytes}
use Rattle.qrcode_bits.proofs.FirstSegments.{found_at, some_bytes, less_bytes, counted_back}
use Rattle.qrcode_bits.proofs.optimize.least.first_segment.Goals as goal

pub returns-then-bits-header : goal.returns-then-bits-header
returns-then-bits-header c =
    let bytes = c.args.bytes.now in
    let place = c.args.begin in
    let m = (get_or c.args.starts.now place past_end).mode in
    let count = c.loop-end.count + 1 in
    let end = c.loop-end.end + c.bytes_each-width.result in
    let are = are_bytes bytes (λ k. omega (arith, c.type_inv.bytes k)) in
    let f = found_at c.args.headers bytes c.args.starts.now place c.requires.starts are c.requires.inside in
    let w : c.bytes_each-width.result ≡ bytes_each m = c.bytes_each-width.ensures.value in
    let is : end ≡ place + count * bytes_each m = omega (arith, w, ap (λ n. c.loop-end.count * n) w, c.loop-end.invariant.end) in
    let first : count ≤ f.count = elim (cases_lt f.count count) [
      | inl below ↦ absurd (c.loop-end.invariant.none f.count f.some (omega arith) f.matches)
      | inr above ↦ above
    ] in
    let bytes_in : end - place ≡ count * bytes_each m = omega (arith, is) in
    record {
      begins = refl;
      nonempty = omega (arith, is, less_bytes m 1 count (omega arith), some_bytes m);
      inside = c.loop-end-test.true;
      writable = ap (λ n. can_write m (slice_range bytes place n)) is ∙ f.writable count first;
      adds = omega (
        arith,
        ap (λ (s : BestStart). s.bits) (c.requires.starts.least place (omega arith)),
        ap (λ (s : BestStart). s.bits) (c.requires.starts.least end c.loop-end-test.true),
        c.in_mode-header.ensures,
        c.data_bits_count.ensures,
        ap (data_bits_count m) (ap (character_count m) bytes_in ∙ counted_back m count),
      );
    }

pub unreachable-requires : goal.unreachable-requires
unreachable-requires c =
    let place = c.args.begin in
    let m = (get_or c.args.starts.now place past_end).mode in
    let are = are_bytes c.args.bytes.now (λ k. omega (arith, c.type_inv.bytes k)) in
    let f = found_at c.args.headers c.args.bytes.now c.args.starts.now place c.requires.starts are c.requires.inside in
    let w : c.bytes_each-width.result ≡ bytes_each m = c.bytes_each-width.ensures.value in
    elim (cases_lt c.loop-end.count f.count) [
      | inl above ↦ absurd (omega (arith, w, ap (λ n. c.loop-end.count * n) w, c.loop-end.invariant.end, less_bytes m (c.loop-end.count + 1) f.count (omega arith), f.inside, c.loop-end-test.false))
      | inr below ↦ c.loop-end.invariant.none f.count f.some below f.matches
    ]
