use Rattle.std.proofs.Common.{◌≡◌, ◌+◌, ◌<◌, ℕ, length, get_or, sym, ap, ◌∙◌, arith}
use Rattle.std.proofs.lemmas.List.FromFn.{fill_by_all}
use Rattle.qrcode_damage.specs.Flips.{length_in, codeword_place}
use Rattle.qrcode_damage.proofs.Places.{block_by_places, same_range, put_written, put_others, put_high}
use Rattle.qrcode_damage.proofs.words.put_block.Goals as goal

pub loop-i-preserved : goal.loop-i-preserved
loop-i-preserved c =
    let b = c.args.blocks in
    let k = c.args.b in
    let i = c.loop-i.i in
    let words = c.loop-i.words in
    let bytes = c.args.bytes.now in
    let at = c.codeword_place.ensures.value in
    let inside : c.codeword_place.result < length words = omega (arith, c.codeword_place.ensures.inside, c.requires.words) in
    record {
      written = put_written b k i c.codeword_place.result words bytes at c.requires.block inside c.loop-i.invariant.written;
      others = put_others b k i c.codeword_place.result (get_or bytes i 0) words c.args.words.now at c.requires.block c.loop-i.invariant.others;
      high = λ old new. put_high words c.codeword_place.result (get_or bytes i 0) inside (c.loop-i.invariant.high old new) (new i);
    }

pub returns-clause-own : goal.returns-clause-own
returns-clause-own c = λ v l are.
    let b = c.args.blocks in
    let k = c.args.b in
    let n = length_in b k + b.ec_length in
    let bytes = c.args.bytes.now in
    block_by_places v l b c.loop-i.words k are c.requires.block
    ∙ sym (fill_by_all (λ i. get_or c.loop-i.words (codeword_place b k i) 0) bytes n 0 c.requires.length
    (λ i below. sym (c.loop-i.invariant.written i (omega (arith, below, c.requires.length)))))

pub returns-clause-unchanged : goal.returns-clause-unchanged
returns-clause-unchanged c = λ v l other are under apart.
    let b = c.args.blocks in
    let n = length_in b other + b.ec_length in
    let new = λ (i : ℕ). get_or c.loop-i.words (codeword_place b other i) 0 in
    let old = λ (i : ℕ). get_or c.args.words.now (codeword_place b other i) 0 in
    block_by_places v l b c.loop-i.words other are under
    ∙ same_range new old 0 n (λ i below. let first : 0 + i ≡ i = omega arith in ap new first ∙ c.loop-i.invariant.others other i under apart)
    ∙ sym (block_by_places v l b c.args.words.now other are under)
