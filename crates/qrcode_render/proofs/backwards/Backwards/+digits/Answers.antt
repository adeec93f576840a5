use Rattle.std.proofs.Common.{◌≡◌, ℕ, ◌+◌, ◌≤◌, ◌<◌, ◌/◌, ◌%◌, ◌^◌, [], ◌∷◌, ◌++◌, length, length-append, decimal, ap, ◌∙◌, sym, arith, append_assoc}
use Rattle.std.proofs.lemmas.Fmt.{decimal_digit, decimal_nonempty, decimal_step}
use Rattle.qrcode_render.proofs.backwards.Backwards.+digits.Goals as goal

-- the length of a number of two digits or more, from that of its tenth
length_step : (n : ℕ) → 10 ≤ n → n < 2 ^ 64 → length (decimal n) ≡ length (decimal (n / 10)) + 1
length_step n h fits = omega (arith, ap length (decimal_step n h fits), length-append (decimal (n / 10)) ((48 + n % 10) ∷ []))

pub byte-requires-clause-room : goal.byte-requires-clause-room
byte-requires-clause-room t c = omega (arith, decimal_nonempty c.args.n (omega arith), c.requires)

pub digits-requires : goal.digits-requires
digits-requires t c = (omega arith, omega (arith, length_step c.args.n (omega arith) (omega arith), ap length c.byte.ensures, c.requires))

pub returns-then-n-gt9 : goal.returns-then-n-gt9
returns-then-n-gt9 t c =
    let n = c.args.n in
    c.digits.ensures
    ∙ ap (λ text. decimal (n / 10) ++ text) c.byte.ensures
    ∙ sym (append_assoc (decimal (n / 10)) ((48 + n % 10) ∷ []) c.args.self.now)
    ∙ ap (λ text. text ++ c.args.self.now) (sym (decimal_step n (omega arith) (omega arith)))

pub returns-else-n-gt9 : goal.returns-else-n-gt9
returns-else-n-gt9 t c =
    let n = c.args.n in
    let one : n % 10 ≡ n = omega arith in
    c.byte.ensures ∙ ap (λ d. (48 + d) ∷ c.args.self.now) one ∙ ap (λ text. text ++ c.args.self.now) (sym (decimal_digit n (omega arith)))
