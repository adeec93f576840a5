use Rattle.std.proofs.Common.{◌≡◌, ◌≢◌, ◌<◌, ℕ, List, length, ap, subst, sym, ◌∙◌, arith}
use Rattle.std.proofs.lemmas.List.{with_items_is}
use Rattle.qrcode_types.specs.Blocks.{count_of}
use Rattle.qrcode_ec.specs.Blocks.{block}
use Rattle.qrcode_damage.specs.Flips.{count_wrong, AreHigh}
use Rattle.qrcode_damage.proofs.Places.{counted_more, high_zeros, shortest_is}
use Rattle.qrcode_damage.proofs.words.wrong_words.Goals as goal

pub loop-b-init : goal.loop-b-init
loop-b-init c =
    let zeros = c.in_ok-words.ensures.items_if_clones_equal (λ y e. e) in
    record {
      long = omega (arith, c.in_ok-words.ensures.len, c.data_length.ensures.value, c.total_ec_length.ensures.value);
      counted = λ k less. absurd (omega (arith, less));
      high = λ half. subst AreHigh (sym zeros) (high_zeros _);
    }

pub flips-requires : goal.flips-requires
flips-requires c =
    omega (arith, shortest_is c.args.version c.args.ec_level c.blocks_of-blocks.result c.blocks_of-blocks.ensures, c.length_in.ensures.value, c.requires.at_most)

pub loop-b-preserved : goal.loop-b-preserved
loop-b-preserved c =
    let v = c.args.version in
    let l = c.args.ec_level in
    let b = c.loop-b.b in
    let table = c.blocks_of-blocks.result in
    let are = c.blocks_of-blocks.ensures in
    let words = c.loop-b.words in
    let bytes = c.in_ok-bytes.bytes in
    let new = c.put_block.new.words in
    let below : b < count_of table = omega (arith, c.count-b-end.ensures.value) in
    let back = with_items_is words new (omega (arith, c.put_block.auto.words, c.deref_mut.ensures.len)) in
    let own : block v l new b ≡ bytes.items = c.put_block.ensures.own v l are ∙ c.deref.ensures.value in
    let others = λ (k : ℕ) (under : k < count_of table) (apart : k ≢ b).
    c.put_block.ensures.unchanged v l k are under apart ∙ ap (λ (ws : List ℕ). block v l ws k) c.deref_mut.ensures.value in
    record {
      long = omega (arith, c.loop-b.invariant.long, c.put_block.auto.words, c.deref_mut.ensures.len, ap length back, ap length c.deref_mut.ensures.value);
      counted = λ k less.
          ap (λ (ws : List ℕ). count_wrong (block v l ws k)) back
          ∙ counted_more v l c.args.count (count_of table) b words.items new bytes.items below own c.in_ok-bytes.ensures.count others c.loop-b.invariant.counted k less;
      high = λ half.
          subst AreHigh (sym back)
          (c.put_block.ensures.half (subst AreHigh (sym c.deref_mut.ensures.value) (c.loop-b.invariant.high half))
          (subst AreHigh (sym c.deref.ensures.value) (c.in_ok-bytes.ensures.half (c.has_half_codeword-is_half.ensures ∙ half))));
    }

pub returns-clause-length : goal.returns-clause-length
returns-clause-length c =
    let v = c.args.version in
    let l = c.args.ec_level in
    let are = c.blocks_of-blocks.ensures in
    omega (arith, c.loop-b.invariant.long, c.data_length.ensures.value, c.data_length.ensures.of_version v l are, c.total_ec_length.ensures.value, c.total_ec_length.ensures.of_version v l are)

pub returns-clause-count : goal.returns-clause-count
returns-clause-count c = λ b below.
    let all = c.count-b-end.ensures.of_version c.args.version c.args.ec_level c.blocks_of-blocks.ensures in
    c.loop-b.invariant.counted b (omega (arith, all, below))

pub returns-clause-half : goal.returns-clause-half
returns-clause-half c = c.loop-b.invariant.high
