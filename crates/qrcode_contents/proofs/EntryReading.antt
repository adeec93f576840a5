-- Entries are read back.
use Rattle.std.proofs.Common.{◌≡◌, ℕ, zero, suc, ◌==◌, ◌&&◌, ◌||◌, not, List, [], ◌∷◌, ◌++◌, Bool, true, false, Some, map, get_or, refl, ap, ap₂, ◌∙◌, sym, arith, subst, append_assoc, append-nil, if◌then◌else◌}
use Rattle.std.specs.List.{list_any, flat_map}
use Rattle.std.specs.Str.{bytes_eq}
use Rattle.std.specs.Cmp.Lexicographic.{same_text}
use Rattle.std.proofs.lemmas.Bool.{eq-eqb, cond-true, cond-false, and_parts, not-true}
use Rattle.std.proofs.lemmas.Bool.Decides.{nat_tests}
use Rattle.std.specs.Option.{option_map, option_and_then}
use Rattle.qrcode_contents.specs.declared.fields.escapes.Escapes.{Escapes}
use Rattle.qrcode_contents.specs.declared.fields.escapes.Escapes.TheVariants.{Marks}
use Rattle.qrcode_contents.specs.fields.Characters.{before, after}
use Rattle.qrcode_contents.specs.fields.Escapes.{escaped, unescaped, pieces}
use Rattle.qrcode_contents.specs.fields.Entries.{Entry, filled_entries, is_filled, parts_text, entry_text, marked_text, read_entry, read_until_empty, read_entries, after_start, part_with_key}
use Rattle.qrcode_contents.specs.fields.EntryTests.{is_key, are_entries, are_distinct}
use Rattle.qrcode_contents.proofs.Pieces.{IsPiece, IsEscaped, comma_escaped, semicolon_escaped, IsPiece-nil, IsPiece-cons, IsPiece-escaped, IsPiece-value, unescaped-escaped}

-- an entry whose parts are all empty
marked_text-empty : (key : List ℕ) (parts : List (List ℕ)) → list_any is_filled parts ≡ false → marked_text (key, parts) ≡ []
marked_text-empty key parts is = rw is refl

-- an entry with a part that is not empty
marked_text-filled : (key : List ℕ) (parts : List (List ℕ)) → list_any is_filled parts ≡ true → marked_text (key, parts) ≡ entry_text Marks 44 (key, parts) ++ 59 ∷ []
marked_text-filled key parts is = rw is refl

-- if `not a` fails, a holds
pub holds : (a : Bool) → not a ≡ false → a ≡ true
holds a h = grind (arith, nat_tests)

-- if a holds but not `a && b`, b fails
pub second_fails : (a b : Bool) → a ≡ true → (a && b) ≡ false → b ≡ false
second_fails true b is none = none
second_fails false b is none = cc

-- if `a || b` fails, and_parts do
pub neither : (a b : Bool) → (a || b) ≡ false → (a ≡ false) × (b ≡ false)
neither a b h = grind (arith, nat_tests)

-- the bytes have no c
abbrev pub HasNo : ℕ → List ℕ → Type 0
HasNo c bytes = list_any (λ b. b == c) bytes ≡ false

-- the bytes before the first c
pub before-at : (c : ℕ) (xs ys : List ℕ) → HasNo c xs → before c (xs ++ c ∷ ys) ≡ xs
before-at c [] ys is = let same : (c == c) ≡ true = grind (arith, nat_tests) in rw same refl
before-at c (x ∷ xs) ys is =
    let parts = neither (x == c) (list_any (λ b. b == c) xs) is in
    rw (parts.0) (ap (λ l. x ∷ l) (before-at c xs ys parts.1))

-- the bytes after the first c
pub after-at : (c : ℕ) (xs ys : List ℕ) → HasNo c xs → after c (xs ++ c ∷ ys) ≡ ys
after-at c [] ys is = let same : (c == c) ≡ true = grind (arith, nat_tests) in rw same refl
after-at c (x ∷ xs) ys is =
    let parts = neither (x == c) (list_any (λ b. b == c) xs) is in
    rw (parts.0) (after-at c xs ys parts.1)

-- without a c
pub before-none : (c : ℕ) (xs : List ℕ) → HasNo c xs → before c xs ≡ xs
before-none c [] is = refl
before-none c (x ∷ xs) is =
    let parts = neither (x == c) (list_any (λ b. b == c) xs) is in
    rw (parts.0) (ap (λ l. x ∷ l) (before-none c xs parts.1))

pub after-none : (c : ℕ) (xs : List ℕ) → HasNo c xs → after c xs ≡ []
after-none c [] is = refl
after-none c (x ∷ xs) is =
    let parts = neither (x == c) (list_any (λ b. b == c) xs) is in
    rw (parts.0) (after-none c xs parts.1)

-- a byte that a key may have
record EndsNothing (b : ℕ) : Type 0 where
  no_backslash : (b == 92) ≡ false
  no_colon : (b == 58) ≡ false
  no_semicolon : (b == 59) ≡ false

ends_nothing : (b : ℕ) (key : List ℕ) → is_key (b ∷ key) ≡ true → EndsNothing b × (is_key key ≡ true)
ends_nothing b key is =
    let parts = and_parts (not (b == 92) && not (b == 58) && not (b == 59)) _ is in
    let marks = and_parts (not (b == 92) && not (b == 58)) _ parts.0 in
    let first = and_parts (not (b == 92)) _ marks.0 in
    (record { no_backslash = not-true _ first.0; no_colon = not-true _ first.1; no_semicolon = not-true _ marks.1 }, parts.1)

-- the parts after the first end at the semicolon
IsPiece-later : (parts : List (List ℕ)) → IsPiece 59 (flat_map (λ later. 44 ∷ escaped Marks later) parts)
IsPiece-later [] = IsPiece-nil 59 semicolon_escaped
IsPiece-later (part ∷ parts) =
    IsPiece-cons 59 44 _ refl refl (IsPiece-escaped 59 semicolon_escaped Marks part _ (IsPiece-later parts))

IsPiece-entry : (key : List ℕ) (part : List ℕ) (parts : List (List ℕ)) → is_key key ≡ true → IsPiece 59 (entry_text Marks 44 (key, part ∷ parts))
IsPiece-entry [] part parts is =
    IsPiece-cons 59 58 _ refl refl (IsPiece-escaped 59 semicolon_escaped Marks part _ (IsPiece-later parts))
IsPiece-entry (b ∷ key) part parts is =
    let first = ends_nothing b key is in
    IsPiece-cons 59 b _ first.0.no_backslash first.0.no_semicolon (IsPiece-entry key part parts first.1)

-- parts are read back
pub parts_read : (s : ℕ) → IsEscaped s → (e : Escapes) (part : List ℕ) (parts : List (List ℕ)) → map (unescaped e) (pieces s (parts_text e s (part ∷ parts))) ≡ part ∷ parts
parts_read s guarded e part [] =
    ap (λ xs. map (unescaped e) (pieces s xs)) (append-nil (escaped e part))
    ∙ ap (map (unescaped e)) (IsPiece-value s guarded e part).last
    ∙ ap (λ x. x ∷ []) (unescaped-escaped e part)
parts_read s guarded e part (next ∷ parts) =
    ap (map (unescaped e)) ((IsPiece-value s guarded e part).before (parts_text e s (next ∷ parts)))
    ∙ ap₂ (λ x xs. x ∷ xs) (unescaped-escaped e part) (parts_read s guarded e next parts)

no_colon_in : (key : List ℕ) → is_key key ≡ true → HasNo 58 key
no_colon_in [] is = refl
no_colon_in (b ∷ key) is = let first = ends_nothing b key is in ap₂ (λ x y. x || y) first.0.no_colon (no_colon_in key first.1)

-- an entry is read back
pub read_entry-text : (s : ℕ) → IsEscaped s → (e : Escapes) (key part : List ℕ) (parts : List (List ℕ)) → is_key key ≡ true → read_entry e s (entry_text e s (key, part ∷ parts)) ≡ (key, part ∷ parts)
unfolding read_entry
read_entry-text s guarded e key part parts is =
    ap₂ (λ k v. (k, v)) (before-at 58 key (parts_text e s (part ∷ parts)) (no_colon_in key is))
    (ap (λ xs. map (unescaped e) (pieces s xs)) (after-at 58 key (parts_text e s (part ∷ parts)) (no_colon_in key is)) ∙ parts_read s guarded e part parts)

-- a first piece that is not empty
read_piece : (key part : List ℕ) (parts later : List (List ℕ)) → read_until_empty (entry_text Marks 44 (key, part ∷ parts) ∷ later) ≡ option_map (λ entries. read_entry Marks 44 (entry_text Marks 44 (key, part ∷ parts)) ∷ entries) (read_until_empty later)
read_piece [] part parts later = refl
read_piece (b ∷ key) part parts later = refl

entry_then : (key part : List ℕ) (parts : List (List ℕ)) (rest : List ℕ) (entries : List Entry) → is_key key ≡ true → read_until_empty (pieces 59 rest) ≡ Some entries → read_until_empty (pieces 59 (entry_text Marks 44 (key, part ∷ parts) ++ 59 ∷ rest)) ≡ Some ((key, part ∷ parts) ∷ entries)
entry_then key part parts rest entries is later =
    ap read_until_empty ((IsPiece-entry key part parts is).before rest)
    ∙ read_piece key part parts (pieces 59 rest)
    ∙ ap₂ (λ entry found. option_map (λ es. entry ∷ es) found) (read_entry-text 44 comma_escaped Marks key part parts is) later

later_assoc : (key part : List ℕ) (parts : List (List ℕ)) (later : List ℕ) → entry_text Marks 44 (key, part ∷ parts) ++ 59 ∷ [] ++ later ++ 59 ∷ [] ≡ entry_text Marks 44 (key, part ∷ parts) ++ 59 ∷ (later ++ 59 ∷ [])
later_assoc key part parts later = simp append_assoc

entry_or_not : (key part : List ℕ) (parts : List (List ℕ)) (entries : List Entry) (b : Bool) → list_any is_filled (part ∷ parts) ≡ b → is_key key ≡ true → read_until_empty (pieces 59 (flat_map marked_text entries ++ 59 ∷ [])) ≡ Some (filled_entries entries) → read_until_empty (pieces 59 (flat_map marked_text ((key, part ∷ parts) ∷ entries) ++ 59 ∷ [])) ≡ Some (filled_entries ((key, part ∷ parts) ∷ entries))
entry_or_not key part parts entries true is key_is later =
    ap (λ xs. read_until_empty (pieces 59 (xs ++ flat_map marked_text entries ++ 59 ∷ []))) (marked_text-filled key (part ∷ parts) is)
    ∙ ap (λ xs. read_until_empty (pieces 59 xs)) (later_assoc key part parts (flat_map marked_text entries))
    ∙ entry_then key part parts (flat_map marked_text entries ++ 59 ∷ []) (filled_entries entries) key_is later
    ∙ ap Some (sym (cond-true _ _ _ is))
entry_or_not key part parts entries false is key_is later =
    ap (λ xs. read_until_empty (pieces 59 (xs ++ flat_map marked_text entries ++ 59 ∷ []))) (marked_text-empty key (part ∷ parts) is)
    ∙ later
    ∙ ap Some (sym (cond-false _ _ _ is))

-- entries up to an empty one are read back, without those whose parts are all empty
pub entries_read : (entries : List Entry) → are_entries entries ≡ true → read_until_empty (pieces 59 (flat_map marked_text entries ++ 59 ∷ [])) ≡ Some (filled_entries entries)
entries_read [] are = ap read_until_empty ((IsPiece-nil 59 semicolon_escaped).before [])
entries_read ((key, []) ∷ entries) are =
    let tests = and_parts (is_key key && false) _ are in
    let no_part = (and_parts (is_key key) false tests.0).1 in
    cc
entries_read ((key, part ∷ parts) ∷ entries) are =
    let tests = and_parts (is_key key && true) _ are in
    let key_is = (and_parts (is_key key) true tests.0).0 in
    entry_or_not key part parts entries (list_any is_filled (part ∷ parts)) refl key_is (entries_read entries tests.1)

-- the bytes after a start
behind_start : (start rest : List ℕ) → after_start start (start ++ rest) ≡ Some rest
behind_start [] rest = refl
behind_start (a ∷ start) rest = rw (eq-eqb a a refl) (behind_start start rest)

-- the entries of a text are read back
pub read_entries-text : (start : List ℕ) (entries : List Entry) → are_entries entries ≡ true → read_entries start (start ++ (flat_map marked_text entries ++ 59 ∷ [])) ≡ Some (filled_entries entries)
unfolding read_entries
read_entries-text start entries are =
    ap (option_and_then (λ bytes. read_until_empty (pieces 59 bytes))) (behind_start start _) ∙ entries_read entries are

-- ---- parts of entries

-- if no part has bytes, each is empty
pub no_part : (parts : List (List ℕ)) (i : ℕ) → list_any is_filled parts ≡ false → get_or parts i [] ≡ []
no_part [] i is = refl
no_part ([] ∷ parts) zero is = refl
no_part ([] ∷ parts) (suc i) is = no_part parts i is
no_part ((b ∷ part) ∷ parts) i is = let some : is_filled (b ∷ part) ≡ true = grind (arith, nat_tests) in cc

no_entry : (key : List ℕ) (i : ℕ) (entries : List Entry) → list_any (λ later. bytes_eq key later.0) entries ≡ false → part_with_key key i entries ≡ []
no_entry key i [] is = refl
no_entry key i (entry ∷ entries) is =
    let parts = neither (bytes_eq key entry.0) _ is in
    rw (parts.0) (no_entry key i entries parts.1)

part_or_not : (key : List ℕ) (i : ℕ) (entry : Entry) (entries : List Entry) (b c : Bool) → list_any is_filled entry.1 ≡ b → bytes_eq key entry.0 ≡ c → list_any (λ later. bytes_eq entry.0 later.0) entries ≡ false → part_with_key key i (filled_entries entries) ≡ part_with_key key i entries → part_with_key key i (filled_entries (entry ∷ entries)) ≡ part_with_key key i (entry ∷ entries)
part_or_not key i entry entries true c says is others later =
    rw says (ap (λ x. if bytes_eq key entry.0 then get_or entry.1 i [] else x) later)
part_or_not key i entry entries false true says is others later =
    let same : key ≡ entry.0 = same_text key entry.0 (sym is) in
    let none = subst (λ k. list_any (λ x. bytes_eq k x.0) entries ≡ false) (sym same) others in
    rw (says, is) (later ∙ no_entry key i entries none ∙ sym (no_part entry.1 i says))
part_or_not key i entry entries false false says is others later = rw (says, is) later

-- entries whose parts are all empty may be left out
pub part_of-filled : (key : List ℕ) (i : ℕ) (entries : List Entry) → are_distinct entries ≡ true → part_with_key key i (filled_entries entries) ≡ part_with_key key i entries
part_of-filled key i [] are = refl
part_of-filled key i (entry ∷ entries) are =
    let tests = and_parts _ _ are in
    part_or_not key i entry entries _ _ refl refl (not-true _ tests.0) (part_of-filled key i entries tests.1)
