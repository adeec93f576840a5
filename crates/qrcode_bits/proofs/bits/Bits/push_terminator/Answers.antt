use Rattle.std.proofs.Common.{◌≡◌, ◌≤◌, ◌++◌, arith, length, sym, ap, subst, ◌∙◌}
use Rattle.std.specs.Prelude.{flat_map}
use Rattle.qrcode_types.specs.Versions.{capacity, terminator_length}
use Rattle.qrcode_bits.specs.BitList.{BitList}
use Rattle.qrcode_bits.specs.Written.{written, terminated, ending}
use Rattle.qrcode_bits.specs.Spelling.{SpellsOnly}
use Rattle.qrcode_bits.proofs.Changed.{list_of, changed, terminator_fits}
use Rattle.qrcode_bits.proofs.Endings.{terminated-ending, length-terminated, spells_only_terminated}
use Rattle.qrcode_bits.proofs.bits.Bits.push_terminator.Goals as goal
use Rattle.qrcode_bits.proofs.bits.Bits.push_terminator.Goals.{Else-used-capacity, After-push_ending}

room : (c : Else-used-capacity) → length c.args.self.now.bits ≤ capacity c.args.self.now.version c.args.ec_level
room c = omega (arith, c.in_ok-capacity.ensures.value, c.len-used.ensures.value, c.if-used-capacity.false)

-- the list is terminated, in the words of its fields
ended : (c : After-push_ending) → c.push_ending.new.stream.bits ≡ terminated c.self.inside.version c.args.ec_level c.self.inside.stream.bits
ended c =
    let v = c.self.inside.version in
    let bits = c.self.inside.stream.bits in
    let t = c.terminator_length-terminator.result in
    let k = c.in_ok-capacity.capacity in
    let length_is : c.len-used.result ≡ length bits = c.len-used.ensures.value ∙ sym (ap (λ l. length l.bits) c.self.view_is) in
    let capacity_is : k ≡ capacity v c.args.ec_level = c.in_ok-capacity.ensures.value ∙ sym (ap (λ l. capacity l.version c.args.ec_level) c.self.view_is) in
    c.push_ending.ensures
    ∙ ap (λ b. b ++ ending t c.len-used.result k) c.in_ok-reserve.ensures.bits
    ∙ ap (λ n. bits ++ ending n c.len-used.result k) c.terminator_length-terminator.ensures.value
    ∙ ap (λ n. bits ++ ending (terminator_length v) n k) length_is
    ∙ ap (λ n. bits ++ ending (terminator_length v) (length bits) n) capacity_is
    ∙ sym (terminated-ending v c.args.ec_level bits)

ended_now : (c : After-push_ending) → c.push_ending.new.stream.bits ≡ terminated c.args.self.now.version c.args.ec_level c.args.self.now.bits
ended_now c = ended c ∙ ap (λ l. terminated l.version c.args.ec_level l.bits) c.self.view_is

full : (c : After-push_ending) → length c.push_ending.new.stream.bits ≡ capacity c.args.self.now.version c.args.ec_level
full c = ap length (ended_now c) ∙ length-terminated c.args.self.now.version c.args.ec_level c.args.self.now.bits (omega (arith, c.in_ok-capacity.ensures.value, c.len-used.ensures.value, c.if-used-capacity.false))

pub reserve-requires : goal.reserve-requires
reserve-requires c = omega (arith, c.in_ok-capacity.ensures.at_most)

pub push_ending-requires-clause-capacity_at_most : goal.push_ending-requires-clause-capacity_at_most
push_ending-requires-clause-capacity_at_most c = omega (arith, c.in_ok-capacity.ensures.at_most)

pub invariant_of-self-2 : goal.invariant_of-self-2
invariant_of-self-2 c =
    let k = (goal.at.invariant_of-self-2 c).After-push_ending in
    (c.self.invariant.0, omega (arith, full k, c.in_ok-capacity.ensures.value, c.in_ok-capacity.ensures.at_most))

pub returns-clause-ends : goal.returns-clause-ends
returns-clause-ends c =
    let k = (goal.at.returns-clause-ends c).After-push_ending in
    let r = (goal.at.returns-clause-ends c).Else-used-capacity in
    changed _ _ _ _ (terminator_fits c.args.self.now.version c.args.ec_level (length c.args.self.now.bits) (sym c.in_ok-capacity.ensures.exists) (room r))
    (ap (list_of c.self.inside.version) (ended k) ∙ ap (λ (l : BitList). list_of l.version (terminated l.version c.args.ec_level l.bits)) c.self.view_is)

pub returns-clause-full : goal.returns-clause-full
returns-clause-full c = full (goal.at.returns-clause-full c).After-push_ending

pub returns-clause-spelled : goal.returns-clause-spelled
returns-clause-spelled c = λ pieces readable are.
    let k = (goal.at.returns-clause-spelled c).After-push_ending in
    let r = (goal.at.returns-clause-spelled c).Else-used-capacity in
    let v = c.args.self.now.version in
    let fits : length (written v pieces) ≤ capacity v c.args.ec_level = subst (λ b. length b ≤ capacity v c.args.ec_level) are (room r) in
    let bits : c.push_ending.new.stream.bits ≡ terminated v c.args.ec_level (written v pieces) = ended_now k ∙ ap (terminated v c.args.ec_level) are in
    let only = spells_only_terminated v c.args.ec_level pieces readable fits in
    let bytes = flat_map (λ p. p.chunk) pieces in
    subst (λ u. SpellsOnly u c.push_ending.new.stream.bits bytes) (sym (ap (λ (l : BitList). l.version) c.self.view_is)) (subst (λ b. SpellsOnly v b bytes) (sym bits) only)
