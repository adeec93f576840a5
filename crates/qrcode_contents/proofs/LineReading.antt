-- Lines are read back.
use Rattle.std.proofs.Common.{◌≡◌, ℕ, ◌+◌, ◌<◌, ◌^◌, ◌==◌, ◌||◌, zero, suc, List, [], ◌∷◌, ◌++◌, Bool, false, take, decimal, refl, ap, ap₂, ◌∙◌, arith, lit<, append-nil, All}
use Rattle.std.specs.List.{list_any}
use Rattle.std.proofs.lemmas.Bool.Decides.{nat_tests}
use Rattle.std.proofs.lemmas.List.Elements.{All-nil, All-cons}
use Rattle.std.proofs.lemmas.List.Folds.{list_any-append}
use Rattle.std.proofs.lemmas.List.Splits.{slice_split_none, slice_split_at}
use Rattle.qrcode_contents.specs.fields.Characters.{is_control}
use Rattle.qrcode_contents.specs.fields.Lines.{later_text, lines_text, read_lines}
use Rattle.qrcode_contents.proofs.DigitReading.{AreDigits-decimal, HasNo-digits}
use Rattle.qrcode_contents.proofs.EntryReading.{neither}

abbrev pub is_feed : ℕ → Bool
is_feed b = b == 10

-- the bytes have no line feed
abbrev pub HasNoFeed : List ℕ → Type 0
HasNoFeed line = list_any is_feed line ≡ false

-- lines without line feeds
abbrev pub HaveNoFeeds : List (List ℕ) → Type 0
HaveNoFeeds [] = Unit {0}
HaveNoFeeds (line ∷ lines) = HasNoFeed line × HaveNoFeeds lines

-- the first n of such lines
pub HaveNoFeeds-take : (n : ℕ) (lines : List (List ℕ)) → HaveNoFeeds lines → HaveNoFeeds (take n lines)
HaveNoFeeds-take zero lines have = tt
HaveNoFeeds-take (suc n) [] have = tt
HaveNoFeeds-take (suc n) (line ∷ lines) have = (have.0, HaveNoFeeds-take n lines have.1)

pub HaveNoFeeds-append : (lines others : List (List ℕ)) → HaveNoFeeds lines → HaveNoFeeds others → HaveNoFeeds (lines ++ others)
HaveNoFeeds-append [] others have more = more
HaveNoFeeds-append (line ∷ lines) others have more = (have.0, HaveNoFeeds-append lines others have.1 more)

no_feed : (b : ℕ) → is_control b ≡ false → is_feed b ≡ false
no_feed b is = grind (arith, nat_tests)

-- a line with no control character
pub HasNoFeed-from_control : (line : List ℕ) → list_any is_control line ≡ false → HasNoFeed line
HasNoFeed-from_control [] is = refl
HasNoFeed-from_control (b ∷ line) is =
    let parts = neither (is_control b) (list_any is_control line) is in
    ap₂ (λ x y. x || y) (no_feed b parts.0) (HasNoFeed-from_control line parts.1)

pub HasNoFeed-append : (xs ys : List ℕ) → HasNoFeed xs → HasNoFeed ys → HasNoFeed (xs ++ ys)
HasNoFeed-append xs ys x y = list_any-append is_feed xs ys ∙ ap₂ (λ a b. a || b) x y

-- a decimal number has no line feed
pub HasNoFeed-decimal : (n : ℕ) → n < 2 ^ 64 → HasNoFeed (decimal n)
HasNoFeed-decimal n fits = HasNo-digits 10 (decimal n) (lit< tt) (AreDigits-decimal n fits)

all_no_feed : (line : List ℕ) → HasNoFeed line → All (λ b. is_feed b ≡ false) line
all_no_feed [] is = All-nil (λ b. is_feed b ≡ false)
all_no_feed (b ∷ line) is =
    let parts = neither (is_feed b) (list_any is_feed line) is in
    All-cons (λ x. is_feed x ≡ false) b line parts.0 (all_no_feed line parts.1)

-- lines are read back
pub lines_read : (line : List ℕ) (lines : List (List ℕ)) → HasNoFeed line → HaveNoFeeds lines → read_lines (lines_text (line ∷ lines)) ≡ line ∷ lines
lines_read line [] is have = ap read_lines (append-nil line) ∙ slice_split_none is_feed line (all_no_feed line is)
lines_read line (next ∷ lines) is have =
    slice_split_at is_feed line 10 (next ++ later_text lines) (all_no_feed line is) refl
    ∙ ap (λ later. line ∷ later) (lines_read next lines have.0 have.1)
