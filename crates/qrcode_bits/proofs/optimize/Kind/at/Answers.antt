use Rattle.std.proofs.Common.{◌≡◌, ℕ, ◌+◌, ◌≤◌, false, List, length, drop, get_or, sym, ap, ◌∙◌, inl, inr, arith}
use Rattle.std.proofs.lemmas.Bool.{cases_Bool, cond-false}
use Rattle.std.proofs.lemmas.List.{drop_more, at_drop_all}
use Rattle.std.proofs.lemmas.Grind.{common_steps}
use Rattle.qrcode_types.specs.Characters.{is_kanji}
use Rattle.qrcode_bits.specs.Runs.{single_kind}
use Rattle.qrcode_bits.specs.Tokens.{kind_at, first_byte}
use Rattle.qrcode_bits.specs.declared.optimize.Kind.TheVariants.{Pair}
use Rattle.qrcode_bits.proofs.TokenKinds.{low_kind, no_pair_with_zero}
use Rattle.qrcode_bits.proofs.optimize.Kind.at.Goals as goal
use Rattle.qrcode_bits.proofs.optimize.Kind.at.Goals.{else-place-bytes-via-then-place-bytes+else-is_kanji, else-place-bytes-via-else-place-bytes}

pub returns-then-byte-lt129 : goal.returns-then-byte-lt129
returns-then-byte-lt129 c =
    let bytes = c.args.bytes.now in
    let place = c.args.place in
    c.of_low.ensures ∙ sym (low_kind (get_or bytes place 0) (first_byte (drop (place + 1) bytes)) c.if-byte-lt129.true)

-- a byte that begins no pair, neither with the byte after it nor at the end
single : (b after : ℕ) → is_kanji b after ≡ false → single_kind b ≡ kind_at b after
single b after apart = sym (cond-false (is_kanji b after) Pair (single_kind b) apart)

at_end : (bytes : List ℕ) (b place : ℕ) → length bytes ≤ place → is_kanji b (first_byte (drop place bytes)) ≡ false
at_end bytes b place past =
    at_drop_all (λ rest. is_kanji b (first_byte rest)) bytes place past
    ∙ elim (cases_Bool (is_kanji b 0)) [ inl pair ↦ absurd (no_pair_with_zero b pair) | inr other ↦ other ]

pub returns-else-place-bytes : goal.returns-else-place-bytes
returns-else-place-bytes c =
    let bytes = c.args.bytes.now in
    let place = c.args.place in
    let b = get_or bytes place 0 in
    c.of_single.ensures ∙ elim c.else-place-bytes.branch [
      | else-place-bytes-via-then-place-bytes+else-is_kanji w ↦
          single b (first_byte (drop (place + 1) bytes)) (ap (λ (rest : List ℕ). is_kanji b (first_byte rest)) (drop_more bytes (place + 1) 0 w.if-place-bytes.true) ∙ sym w.is_kanji.ensures ∙ w.if-is_kanji.false)
      | else-place-bytes-via-else-place-bytes w ↦ single b (first_byte (drop (place + 1) bytes)) (at_end bytes b (place + 1) w.if-place-bytes.false)
    ]

pub returns-then-is_kanji : goal.returns-then-is_kanji
returns-then-is_kanji c = grind (arith, common_steps)
