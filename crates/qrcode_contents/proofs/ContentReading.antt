-- Content lines are read back.
use Rattle.std.proofs.Common.{◌≡◌, ℕ, zero, suc, nat_lt, ◌+◌, ◌==◌, ◌||◌, not, List, [], ◌∷◌, ◌++◌, Bool, true, false, map, filter, refl, ap, ap₂, ◌∙◌, append_assoc, All, if◌then◌else◌, arith}
use Rattle.std.specs.Prelude.{slice_index_or}
use Rattle.std.specs.Str.{bytes_eq, continuation_len}
use Rattle.std.specs.List.{list_any, slice_split}
use Rattle.std.proofs.lemmas.List.Elements.{All-nil, All-cons}
use Rattle.std.proofs.lemmas.List.Splits.{slice_split_at}
use Rattle.std.proofs.lemmas.Bool.Decides.{nat_tests}
use Rattle.qrcode_contents.specs.fields.ContentLines.{fold_break, next_column, folded_from, line_text, content_text, unfolded, read_content}
use Rattle.qrcode_contents.specs.fields.Entries.{Entry, single, is_filled, filled_entries, value_of}
use Rattle.qrcode_contents.specs.fields.EntryTests.{are_distinct}
use Rattle.qrcode_contents.specs.fields.Characters.{before, after}
use Rattle.qrcode_contents.specs.fields.Links.{Parameter}
use Rattle.qrcode_contents.proofs.EntryReading.{neither, part_of-filled, HasNo, before-at, after-at}
use Rattle.qrcode_contents.proofs.LinkReading.{entries_of}

-- an octet that is no carriage return is kept
kept_octet : (b : ℕ) (rest : List ℕ) → (b == 13) ≡ false → unfolded (b ∷ rest) ≡ b ∷ unfolded rest
unfolding unfolded
kept_octet b [] is = refl
kept_octet b (x ∷ []) is = refl
kept_octet b (x ∷ y ∷ rest) is = rw is refl

break_dropped : (column width : ℕ) (rest : List ℕ) (long : Bool) → nat_lt 75 (column + width) ≡ long → unfolded (fold_break column width ++ rest) ≡ unfolded rest
unfolding unfolded
break_dropped column width rest long h = grind (arith, nat_tests)

-- a folded line is unfolded
unfolded-folded : (left column : ℕ) (bytes rest : List ℕ) → HasNo 13 bytes → unfolded (folded_from left column bytes ++ rest) ≡ bytes ++ unfolded rest
unfolding folded_from
unfolded-folded left column [] rest none = refl
unfolded-folded (suc left) column (b ∷ bytes) rest none =
    let parts = neither (b == 13) (list_any (λ x. x == 13) bytes) none in
    kept_octet b (folded_from left column bytes ++ rest) parts.0 ∙ ap (λ xs. b ∷ xs) (unfolded-folded left column bytes rest parts.1)
unfolded-folded zero column (b ∷ bytes) rest none =
    let parts = neither (b == 13) (list_any (λ x. x == 13) bytes) none in
    let width = 1 + continuation_len b in
    let later = folded_from (continuation_len b) (next_column column width) bytes in
    ap unfolded (append_assoc (fold_break column width) (b ∷ later) rest)
    ∙ break_dropped column width (b ∷ (later ++ rest)) (nat_lt 75 (column + width)) refl
    ∙ kept_octet b (later ++ rest) parts.0
    ∙ ap (λ xs. b ∷ xs) (unfolded-folded (continuation_len b) (next_column column width) bytes rest parts.1)

-- the text starts with a space or a tab
abbrev pub begins_blank : List ℕ → Bool
begins_blank [] = false
begins_blank (b ∷ rest) = b == 32 || b == 9

-- a line break that no space or tab follows is kept
end_kept : (rest : List ℕ) → begins_blank rest ≡ false → unfolded (13 ∷ 10 ∷ rest) ≡ 13 ∷ 10 ∷ unfolded rest
unfolding unfolded
end_kept [] is = refl
end_kept (x ∷ rest) is = rw is (ap (λ xs. 13 ∷ xs) (kept_octet 10 (x ∷ rest) refl))

-- keys and values that can be read back
pub record IsContent (p : Parameter) : Type 0 where
  pub starts : begins_blank (p.0 ++ 58 ∷ p.1) ≡ false
  pub no_colon : HasNo 58 p.0
  pub no_return : HasNo 13 (p.0 ++ 58 ∷ p.1)
  pub no_feed : HasNo 10 (p.0 ++ 58 ∷ p.1)

abbrev pub AreContent : List Parameter → Type 0
AreContent [] = Unit {0}
AreContent (p ∷ ps) = IsContent p × AreContent ps

-- such keys and values before others
pub AreContent-append : (ps qs : List Parameter) → AreContent ps → AreContent qs → AreContent (ps ++ qs)
AreContent-append [] qs x y = y
AreContent-append (p ∷ ps) qs x y = (x.0, AreContent-append ps qs x.1 y)

no_break_first : (b : ℕ) → nat_lt 75 (0 + (1 + continuation_len b)) ≡ false
no_break_first b = by_first b (nat_lt b 128) (nat_lt b 224) (nat_lt b 240) refl refl refl
  where
    by_first : (b : ℕ) (x y z : Bool) → nat_lt b 128 ≡ x → nat_lt b 224 ≡ y → nat_lt b 240 ≡ z → nat_lt 75 (0 + (1 + continuation_len b)) ≡ false
    by_first b true y z i j k = rw i refl
    by_first b false true z i j k = rw (i, j) refl
    by_first b false false true i j k = rw (i, j, k) refl
    by_first b false false false i j k = rw (i, j, k) refl

line_starts : (bytes rest : List ℕ) → begins_blank bytes ≡ false → begins_blank (line_text bytes ++ rest) ≡ false
unfolding folded_from
line_starts [] rest is = refl
line_starts (b ∷ bytes) rest is = rw (no_break_first b) is

content_starts : (ps : List Parameter) → AreContent ps → begins_blank (content_text ps) ≡ false
content_starts [] are = refl
content_starts ((key, value) ∷ ps) are = by_value key value ps (is_filled value) refl are.0 (content_starts ps are.1)
  where
    by_value : (key value : List ℕ) (ps : List Parameter) (some : Bool) → is_filled value ≡ some → IsContent (key, value) → begins_blank (content_text ps) ≡ false → begins_blank (content_text ((key, value) ∷ ps)) ≡ false
    by_value key value ps true is are later = rw is (line_starts (key ++ 58 ∷ value) (content_text ps) are.starts)
    by_value key value ps false is are later = rw is later

abbrev is_kept : ℕ → Bool
is_kept b = not (b == 13)

abbrev is_feed : ℕ → Bool
is_feed b = b == 10

kept_all : (bytes rest : List ℕ) → HasNo 13 bytes → filter is_kept (bytes ++ rest) ≡ bytes ++ filter is_kept rest
kept_all [] rest none = refl
kept_all (b ∷ bytes) rest none =
    let parts = neither (b == 13) (list_any (λ x. x == 13) bytes) none in
    rw (parts.0) (ap (λ xs. b ∷ xs) (kept_all bytes rest parts.1))

all_no_feed : (line : List ℕ) → HasNo 10 line → All (λ b. is_feed b ≡ false) line
all_no_feed [] is = All-nil (λ b. is_feed b ≡ false)
all_no_feed (b ∷ line) is =
    let parts = neither (is_feed b) (list_any is_feed line) is in
    All-cons (λ x. is_feed x ≡ false) b line parts.0 (all_no_feed line parts.1)

abbrev read_line : List ℕ → Entry
read_line line = single (before 58 line) (after 58 line)

abbrev read_lines : List ℕ → List Entry
read_lines bytes = map read_line (slice_split is_feed bytes)

-- a line before others is read back
first_read : (key value rest : List ℕ) → IsContent (key, value) → begins_blank rest ≡ false → read_content (line_text (key ++ 58 ∷ value) ++ rest) ≡ single key value ∷ read_content rest
unfolding read_content
first_read key value rest is starts =
    let line = key ++ 58 ∷ value in
    ap (λ xs. read_lines (filter is_kept (unfolded xs))) (append_assoc (folded_from 0 0 line) (13 ∷ 10 ∷ []) rest)
    ∙ ap (λ xs. read_lines (filter is_kept xs)) (unfolded-folded 0 0 line (13 ∷ 10 ∷ rest) is.no_return ∙ ap (λ xs. line ++ xs) (end_kept rest starts))
    ∙ ap read_lines (kept_all line (13 ∷ 10 ∷ unfolded rest) is.no_return)
    ∙ ap (map read_line) (slice_split_at is_feed line 10 (filter is_kept (unfolded rest)) (all_no_feed line is.no_feed) refl)
    ∙ ap₂ (λ k v. single k v ∷ read_lines (filter is_kept (unfolded rest))) (before-at 58 key value is.no_colon) (after-at 58 key value is.no_colon)

-- the empty line after the end of the last line
abbrev pub behind_last : List Entry
behind_last = single [] [] ∷ []

lines_by : (key value : List ℕ) (ps : List Parameter) (some : Bool) → is_filled value ≡ some → IsContent (key, value) → AreContent ps → read_content (content_text ps) ≡ filled_entries (entries_of ps) ++ behind_last → read_content (content_text ((key, value) ∷ ps)) ≡ filled_entries (entries_of ((key, value) ∷ ps)) ++ behind_last
lines_by key value ps true is are later_are later =
    rw is (first_read key value (content_text ps) are (content_starts ps later_are) ∙ ap (λ xs. single key value ∷ xs) later)
lines_by key value ps false is are later_are later = rw is later

-- lines are read back, without those that have no value
pub lines_read : (ps : List Parameter) → AreContent ps → read_content (content_text ps) ≡ filled_entries (entries_of ps) ++ behind_last
unfolding read_content unfolded
lines_read [] are = refl
lines_read ((key, value) ∷ ps) are = lines_by key value ps (is_filled value) refl are.0 are.1 (lines_read ps are.1)

value_of-last : (key : List ℕ) (es : List Entry) → bytes_eq key [] ≡ false → value_of key (es ++ behind_last) ≡ value_of key es
value_of-last key [] some = rw some refl
value_of-last key (e ∷ es) some = ap (λ xs. if bytes_eq key e.0 then slice_index_or e.1 0 [] else xs) (value_of-last key es some)

-- a value is read back
pub content_read : (key : List ℕ) (ps : List Parameter) → AreContent ps → bytes_eq key [] ≡ false → are_distinct (entries_of ps) ≡ true → value_of key (read_content (content_text ps)) ≡ value_of key (entries_of ps)
content_read key ps are some distinct =
    ap (value_of key) (lines_read ps are) ∙ value_of-last key (filled_entries (entries_of ps)) some ∙ part_of-filled key 0 (entries_of ps) distinct
