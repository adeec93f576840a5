-- Values of content lines, which consist of parts, are read back.
use Rattle.std.proofs.Common.{◌≡◌, ℕ, zero, suc, ◌==◌, ◌||◌, List, [], ◌∷◌, ◌++◌, Bool, true, false, flat_map, map, get_or, refl, ap, sym}
use Rattle.std.specs.List.{list_any}
use Rattle.qrcode_contents.specs.declared.fields.escapes.Escapes.TheVariants.{Lines}
use Rattle.qrcode_contents.specs.fields.ContentLines.{structured, text_lines, part_in}
use Rattle.qrcode_contents.specs.fields.Entries.{is_filled}
use Rattle.qrcode_contents.specs.fields.Links.{Parameter}
use Rattle.qrcode_contents.specs.fields.Escapes.{letter_of, with_letter, escaped, unescaped_from, pieces_from}
use Rattle.qrcode_contents.proofs.ContentReading.{begins_blank, IsContent, AreContent}
use Rattle.qrcode_contents.proofs.EntryReading.{neither, parts_read, no_part, HasNo}
use Rattle.qrcode_contents.proofs.LinkReading.{HasNo-append}
use Rattle.qrcode_contents.proofs.Pieces.{semicolon_escaped}

-- a value that a line may have: without carriage returns and line feeds
pub record IsPlain (bytes : List ℕ) : Type 0 where
  pub no_return : HasNo 13 bytes
  pub no_feed : HasNo 10 bytes

-- two such values, one after the other
pub IsPlain-append : (xs ys : List ℕ) → IsPlain xs → IsPlain ys → IsPlain (xs ++ ys)
IsPlain-append xs ys x y = record {
  no_return = HasNo-append 13 xs ys x.no_return y.no_return;
  no_feed = HasNo-append 10 xs ys x.no_feed y.no_feed;
}

-- an empty value
pub plain_nothing : IsPlain []
plain_nothing = record { no_return = refl; no_feed = refl }

escaped_feed : (b : ℕ) (feed marked : Bool) → (b == 10) ≡ feed → (b == 92 || b == 59 || b == 44) ≡ marked → (b == 13) ≡ false → IsPlain (with_letter b (letter_of Lines b))
escaped_feed b true marked feed mark other = rw feed (record { no_return = refl; no_feed = refl })
escaped_feed b false true feed mark other = rw (feed, mark) (record { no_return = rw other refl; no_feed = rw feed refl })
escaped_feed b false false feed mark other = rw (feed, mark) (record { no_return = rw other refl; no_feed = rw feed refl })

IsPlain-escaped : (bytes : List ℕ) → HasNo 13 bytes → IsPlain (escaped Lines bytes)
unfolding escaped
IsPlain-escaped [] none = plain_nothing
IsPlain-escaped (b ∷ bytes) none =
    let parts = neither (b == 13) (list_any (λ x. x == 13) bytes) none in
    IsPlain-append (with_letter b (letter_of Lines b)) (escaped Lines bytes) (escaped_feed b (b == 10) (b == 92 || b == 59 || b == 44) refl refl parts.0) (IsPlain-escaped bytes parts.1)

-- parts without carriage returns
abbrev pub HaveNoReturns : List (List ℕ) → Type 0
HaveNoReturns [] = Unit {0}
HaveNoReturns (part ∷ parts) = HasNo 13 part × HaveNoReturns parts

IsPlain-later : (parts : List (List ℕ)) → HaveNoReturns parts → IsPlain (flat_map (λ later. 59 ∷ escaped Lines later) parts)
IsPlain-later [] none = plain_nothing
IsPlain-later (part ∷ parts) none =
    IsPlain-append (59 ∷ escaped Lines part) (flat_map (λ later. 59 ∷ escaped Lines later) parts)
    (IsPlain-append (59 ∷ []) (escaped Lines part) (record { no_return = refl; no_feed = refl }) (IsPlain-escaped part none.0)) (IsPlain-later parts none.1)

structured_by : (part : List ℕ) (parts : List (List ℕ)) (some : Bool) → list_any is_filled (part ∷ parts) ≡ some → HaveNoReturns (part ∷ parts) → IsPlain (structured (part ∷ parts))
structured_by part parts true is none =
    rw is (IsPlain-append (escaped Lines part) (flat_map (λ later. 59 ∷ escaped Lines later) parts) (IsPlain-escaped part none.0) (IsPlain-later parts none.1))
structured_by part parts false is none = rw is plain_nothing

-- the value of such parts may be in a line
pub IsPlain-structured : (part : List ℕ) (parts : List (List ℕ)) → HaveNoReturns (part ∷ parts) → IsPlain (structured (part ∷ parts))
IsPlain-structured part parts none = structured_by part parts (list_any is_filled (part ∷ parts)) refl none

part_by : (i : ℕ) (part : List ℕ) (parts : List (List ℕ)) (some : Bool) → list_any is_filled (part ∷ parts) ≡ some → part_in i (structured (part ∷ parts)) ≡ get_or (part ∷ parts) i []
unfolding unescaped_from pieces_from
part_by i part parts true is = rw is (ap (λ xs. get_or xs i []) (parts_read 59 semicolon_escaped Lines part parts))
part_by zero part parts false is = rw is (sym (no_part (part ∷ parts) zero is))
part_by (suc i) part parts false is = rw is (sym (no_part (part ∷ parts) (suc i) is))

-- a part is read back
pub part_read : (i : ℕ) (part : List ℕ) (parts : List (List ℕ)) → part_in i (structured (part ∷ parts)) ≡ get_or (part ∷ parts) i []
part_read i part parts = part_by i part parts (list_any is_filled (part ∷ parts)) refl

-- the value of a text may be in a line
pub one_plain : (text : List ℕ) → HasNo 13 text → IsPlain (structured (text ∷ []))
one_plain text none = IsPlain-structured text [] (none, tt)

-- a key and a value that can be read back
pub line_with : (key value : List ℕ) → begins_blank (key ++ 58 ∷ value) ≡ false → HasNo 58 key → HasNo 13 key → HasNo 10 key → IsPlain value → IsContent (key, value)
line_with key value starts no_colon no_return_key no_feed_key is = record {
  starts = starts;
  no_colon = no_colon;
  no_return = HasNo-append 13 key (58 ∷ value) no_return_key is.no_return;
  no_feed = HasNo-append 10 key (58 ∷ value) no_feed_key is.no_feed;
}

-- an unfit key: it starts with a space or a tab, or has a colon, a carriage return or a line feed
abbrev is_unfit : Parameter → Bool
is_unfit text =
    begins_blank (text.0 ++ 58 ∷ []) || (list_any (λ b. b == 58) text.0 || (list_any (λ b. b == 13) text.0 || list_any (λ b. b == 10) text.0))

key_starts : (key value : List ℕ) → begins_blank (key ++ 58 ∷ []) ≡ false → begins_blank (key ++ 58 ∷ value) ≡ false
key_starts [] value is = is
key_starts (b ∷ key) value is = is

-- lines of texts, before other lines that can be read back
pub text_content : (texts later : List Parameter) → list_any is_unfit texts ≡ false → HaveNoReturns (map (λ text. text.1) texts) → AreContent later → AreContent (text_lines texts ++ later)
text_content [] later fit none are = are
text_content (text ∷ texts) later fit none are =
    let all = neither (is_unfit text) (list_any is_unfit texts) fit in
    let starts = neither (begins_blank (text.0 ++ 58 ∷ [])) _ all.0 in
    let colons = neither (list_any (λ b. b == 58) text.0) _ starts.1 in
    let breaks = neither (list_any (λ b. b == 13) text.0) _ colons.1 in (
      line_with text.0 (structured (text.1 ∷ [])) (key_starts text.0 _ starts.0) colons.0 breaks.0 breaks.1 (one_plain text.1 none.0),
      text_content texts later all.1 none.1 are,
    )
