use Rattle.std.proofs.Common.{◌≡◌, ◌+◌, ◌%◌, ◌∷◌, [], ◌&&◌, true, length, append-nil, subst, refl, sym, ap, ap₂, ◌∙◌, arith, inl, inr, true≢false}
use Rattle.qrcode_types.specs.Bits.{number_bits}
use Rattle.qrcode_types.specs.Characters.{is_kanji, kanji_number}
use Rattle.qrcode_reader.proofs.Pairs.{IsFirst, number_of_pair, pair_of_number}
use Rattle.qrcode_reader.proofs.Unspelled.{no_pair, pair_of_bits}
use Rattle.qrcode_reader.proofs.spell.characters.push_pair.Goals as goal
use Rattle.qrcode_reader.proofs.spell.characters.push_pair.Goals.{then-row-lt31, else-row-lt31, After-is_kanji}

pub returns-then-group-ne13 : goal.returns-then-group-ne13
returns-then-group-ne13 c = record {
  taken = tt;
  refused = inr (refl, λ bytes. no_pair c.args.group.now bytes c.requires.at_least c.requires.at_most c.if-group-ne13.true);
}

is_first : (c : After-is_kanji) → IsFirst c.number_of-number.result c.if-row-lt31.first
is_first c = elim c.if-row-lt31.branch [
  | then-row-lt31 w ↦ inl (w.if-row-lt31.true, w.first-is)
  | else-row-lt31 w ↦ inr (w.if-row-lt31.false, w.first-is)
]

pub returns-then-not-is_kanji : goal.returns-then-not-is_kanji
returns-then-not-is_kanji c =
    let n = c.number_of-number.result in
    let is = is_first (goal.at.returns-then-not-is_kanji c).After-is_kanji in
    let no = sym c.is_kanji.ensures ∙ c.if-not-is_kanji.true in
    record {
      taken = tt;
      refused = inr (
        refl,
        λ bytes w.
            let p = pair_of_bits c.args.group.now n bytes (record { value = c.number_of-number.ensures.value; at_most = c.number_of-number.ensures.at_most }) (omega arith) w in
            let same = pair_of_number n c.if-row-lt31.first p.0 p.1 is p.2.1.0 p.2.1.1 in
            true≢false (sym p.2.1.0 ∙ sym (ap₂ is_kanji same.0 same.1) ∙ no),
      );
    }

pub returns : goal.returns
returns c =
    let n = c.number_of-number.result in
    let first = c.if-row-lt31.first in
    let second = n % 192 + 64 in
    let yes : is_kanji first second ≡ true = sym c.is_kanji.ensures ∙ c.if-not-is_kanji.false in
    let number = number_of_pair n first (is_first (goal.at.returns c).After-is_kanji) yes in
    let long : length c.args.group.now ≡ 13 = omega arith in
    record {
      taken = (
        first ∷ second ∷ [],
        record {
          writable = ap (λ x. x && true) yes;
          written = append-nil (number_bits 13 (kanji_number first second)) ∙ ap (number_bits 13) number ∙ subst (λ k. number_bits k n ≡ c.args.group.now) long c.number_of-number.ensures.value;
        },
        c.in_ok-extend_from_slice.ensures.items,
      );
      refused = tt;
    }
