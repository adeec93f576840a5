use Rattle.std.proofs.Common.{◌≡◌, ℕ, ◌+◌, ◌-◌, ◌*◌, ap, ap₂, sym, ◌∙◌, arith}
use Rattle.qrcode_types.specs.Blocks.{count_of, data_length_of}
use Rattle.qrcode_damage.specs.Flips.{length_in, codeword_place}
use Rattle.qrcode_damage.proofs.Places.{row_at, ec_at, place_inside}
use Rattle.qrcode_damage.proofs.words.codeword_place.Goals as goal

pub returns-then-i-blocks-clause-inside : goal.returns-then-i-blocks-clause-inside
returns-then-i-blocks-clause-inside c =
    let b = c.args.blocks in
    let k = c.args.b in
    let i = c.args.i in
    omega (arith, place_inside b k i c.requires.block c.requires.inside, row_at b k i c.if-i-blocks.true, ap (λ (n : ℕ). i * n + k) c.count-count.ensures.value)

pub returns-else-i-length-clause-inside : goal.returns-else-i-length-clause-inside
returns-else-i-length-clause-inside c =
    let b = c.args.blocks in
    let k = c.args.b in
    let i = c.args.i in
    let n = length_in b k in
    let own = c.length_in-length.ensures.value in
    let back : n + (i - n) ≡ i = omega (arith, own, c.if-i-length.false) in
    let at : codeword_place b k i ≡ data_length_of b + (i - n) * count_of b + k = ap (codeword_place b k) (sym back) ∙ ec_at b k (i - n) in
    let rows = ap₂ (λ (m l : ℕ). (i - l) * m) c.count-count.ensures.value own in
    omega (arith, place_inside b k i c.requires.block c.requires.inside, at, rows, c.data_length.ensures.value)
