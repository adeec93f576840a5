-- Lines of text: they are UTF-8, and they are the text before the last newline.
use Rattle.std.proofs.Common.{◌≡◌, ℕ, zero, suc, ◌+◌, ◌-◌, ◌<◌, List, [], ◌∷◌, ◌++◌, Bool, true, false, length, length-append, take, map, ap, ◌∙◌, sym, subst, arith}
use Rattle.std.proofs.Common.{rules}
use Rattle.std.specs.List.{flat_map, join_with_byte, range_with_len}
use Rattle.std.specs.Str.{IsUtf8}
use Rattle.std.proofs.lemmas.List.{take_at}
use Rattle.std.proofs.lemmas.Str.{IsUtf8-append, IsUtf8-nil, IsUtf8-from_ascii}
use Rattle.qrcode_render.specs.Lines.{line_start}
use Rattle.qrcode_render.specs.Texts.{marks_text}
use Rattle.qrcode_render.proofs.Grids.{joined-ended}
use Rattle.qrcode_render.proofs.LineTexts.{joined_more}

-- the text of a row of flags is UTF-8 if the texts of dark and light are
pub marks_text-IsUtf8 : (dark light : List ℕ) (marks : List Bool) → IsUtf8 dark → IsUtf8 light → IsUtf8 (marks_text dark light marks)
marks_text-IsUtf8 dark light [] d l = IsUtf8-nil
marks_text-IsUtf8 dark light (true ∷ marks) d l = IsUtf8-append dark (marks_text dark light marks) d (marks_text-IsUtf8 dark light marks d l)
marks_text-IsUtf8 dark light (false ∷ marks) d l = IsUtf8-append light (marks_text dark light marks) l (marks_text-IsUtf8 dark light marks d l)

-- the beginning of a line is UTF-8
line_start-IsUtf8 : (y : ℕ) → IsUtf8 (line_start y)
line_start-IsUtf8 zero = IsUtf8-nil
line_start-IsUtf8 (suc y) = IsUtf8-from_ascii (10 ∷ []) (search rules)

-- lines are UTF-8 if each is
pub lines-IsUtf8 : (f : ℕ → List ℕ) (n : ℕ) → ((y : ℕ) → IsUtf8 (f y)) → IsUtf8 (join_with_byte 10 (map f (range_with_len 0 n)))
lines-IsUtf8 f zero all = IsUtf8-nil
lines-IsUtf8 f (suc n) all =
    let next : suc n ≡ n + 1 = omega arith in
    let before = join_with_byte 10 (map f (range_with_len 0 n)) in
    let is = ap (λ k. join_with_byte 10 (map f (range_with_len 0 k))) next ∙ joined_more f n in
    subst IsUtf8 (sym is) (IsUtf8-append (before ++ line_start n) (f n) (IsUtf8-append before (line_start n) (lines-IsUtf8 f n all) (line_start-IsUtf8 n)) (all n))

-- lines that each end with a newline are, without the last one, lines joined by newlines
pub without_end : (f : ℕ → List ℕ) (n : ℕ) (raw : List ℕ) (k : ℕ) → k ≡ length raw → 0 < n → raw ≡ flat_map (λ y. f y ++ (10 ∷ [])) (range_with_len 0 n) → take (k - 1) raw ≡ join_with_byte 10 (map f (range_with_len 0 n))
without_end f zero raw k long some is = absurd (omega arith)
without_end f (suc n) raw k long some is =
    let lines = join_with_byte 10 (map f (range_with_len 0 (suc n))) in
    let ended : raw ≡ lines ++ (10 ∷ []) = is ∙ sym (joined-ended f n) in
    let short : length lines ≡ k - 1 = omega (arith, ap length ended, length-append lines (10 ∷ [])) in
    ap (take (k - 1)) ended ∙ take_at lines (10 ∷ []) (k - 1) short
