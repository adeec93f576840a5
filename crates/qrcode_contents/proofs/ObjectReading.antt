-- Objects and their checksum are read back.
use Rattle.std.proofs.Common.{◌≡◌, ℕ, zero, suc, nat_le, ◌+◌, ◌-◌, ◌/◌, ◌%◌, ◌<◌, ◌≤◌, List, [], ◌∷◌, ◌++◌, Bool, true, false, Some, length, flat_map, codes, refl, ap, ap₂, ◌∙◌, sym, arith, append_assoc, append-nil}
use Rattle.std.specs.Option.{option_map}
use Rattle.std.specs.Str.{bytes_eq}
use Rattle.std.proofs.Math.Seq.{take-append_seam, drop-append_seam}
use Rattle.std.proofs.lemmas.Bool.Decides.{nat_tests}
use Rattle.std.proofs.lemmas.List.{length-append}
use Rattle.std.proofs.lemmas.List.Concat.{flat_map-append}
use Rattle.std.proofs.lemmas.Slice.Eq.{bytes_eq-Decides}
use Rattle.qrcode_types.specs.Characters.{is_digit}
use Rattle.qrcode_contents.specs.Times.{pair_text}
use Rattle.qrcode_contents.specs.fields.Entries.{single, is_filled, filled_entries}
use Rattle.qrcode_contents.specs.fields.Links.{Parameter}
use Rattle.qrcode_contents.specs.fields.Objects.{object_text, objects_text, pair_value, read_at_most, read_objects, crc_of, crc_text, checked_text, read_checked}
use Rattle.qrcode_contents.proofs.DigitReading.{digit_is}
use Rattle.qrcode_contents.proofs.LinkReading.{entries_of}
use Rattle.qrcode_contents.proofs.TimeReading.{pair_digits}

-- objects that can be read back: a tag of two bytes, and a value of at most 99
abbrev pub AreObjects : List Parameter → Type 0
AreObjects [] = Unit {0}
AreObjects (o ∷ os) = (length o.0 ≡ 2) × (length o.1 < 100) × AreObjects os

pair_is : (n : ℕ) → pair_value (48 + n / 10) (48 + n % 10) ≡ n
pair_is n = omega arith

value_inside : (value rest : List ℕ) → nat_le (length value) (length (value ++ rest)) ≡ true
value_inside value rest = let sum = length-append value rest in grind (arith, nat_tests)

-- an object is read, given the digits of its length
object_with : (n a b tens ones : ℕ) (value rest : List ℕ) → is_digit tens ≡ true → is_digit ones ≡ true → pair_value tens ones ≡ length value → read_at_most (suc n) (a ∷ b ∷ tens ∷ ones ∷ (value ++ rest)) ≡ option_map (λ later. single (a ∷ b ∷ []) value ∷ later) (read_at_most n rest)
unfolding read_at_most
object_with n a b tens ones value rest first second count =
    rw (first, second, count, value_inside value rest, take-append_seam value rest, drop-append_seam value rest) refl

-- an object is read, and then those after it
object_then : (n : ℕ) (tag value rest : List ℕ) → length tag ≡ 2 → length value < 100 → read_at_most (suc n) (tag ++ (pair_text (length value) ++ (value ++ rest))) ≡ option_map (λ later. single tag value ∷ later) (read_at_most n rest)
object_then n [] value rest two small = absurd (omega (arith, two))
object_then n (a ∷ []) value rest two small = absurd (omega (arith, two))
object_then n (a ∷ b ∷ []) value rest two small =
    ap (λ digits. read_at_most (suc n) (a ∷ b ∷ (digits ++ (value ++ rest)))) (pair_digits (length value) small)
    ∙ object_with n a b (48 + length value / 10) (48 + length value % 10) value rest (digit_is (length value / 10) (omega (arith, small))) (digit_is (length value % 10) (omega arith)) (pair_is (length value))
object_then n (a ∷ b ∷ c ∷ tag) value rest two small = absurd (omega (arith, two))

object_filled : (tag value : List ℕ) (os : List Parameter) → is_filled value ≡ true → objects_text ((tag, value) ∷ os) ≡ tag ++ (pair_text (length value) ++ (value ++ objects_text os))
unfolding objects_text
object_filled tag value os is =
    rw is (append_assoc tag (pair_text (length value) ++ value) (objects_text os)
    ∙ ap (λ x. tag ++ x) (append_assoc (pair_text (length value)) value (objects_text os)))

object_empty : (tag value : List ℕ) (os : List Parameter) → is_filled value ≡ false → objects_text ((tag, value) ∷ os) ≡ objects_text os
unfolding objects_text
object_empty tag value os is = rw is refl

-- the length of objects that begin with this one
pub length_filled : (tag value : List ℕ) (os : List Parameter) → length tag ≡ 2 → length value < 100 → is_filled value ≡ true → length (objects_text ((tag, value) ∷ os)) ≡ 4 + length value + length (objects_text os)
length_filled tag value os two small is =
    let digits : length (pair_text (length value)) ≡ 2 = ap length (pair_digits (length value) small) in
    let first = length-append tag (pair_text (length value) ++ (value ++ objects_text os)) in
    let second = length-append (pair_text (length value)) (value ++ objects_text os) in
    let third = length-append value (objects_text os) in
    ap length (object_filled tag value os is) ∙ omega (arith, digits, first, second, third, two)

pub length_empty : (tag value : List ℕ) (os : List Parameter) → is_filled value ≡ false → length (objects_text ((tag, value) ∷ os)) ≡ length (objects_text os)
length_empty tag value os is = ap length (object_empty tag value os is)

filled_first : (tag value : List ℕ) (os : List Parameter) → is_filled value ≡ true → filled_entries (entries_of ((tag, value) ∷ os)) ≡ single tag value ∷ filled_entries (entries_of os)
filled_first tag value os is = rw is refl

filled_later : (tag value : List ℕ) (os : List Parameter) → is_filled value ≡ false → filled_entries (entries_of ((tag, value) ∷ os)) ≡ filled_entries (entries_of os)
filled_later tag value os is = rw is refl

object_by : (n : ℕ) (tag value : List ℕ) (os : List Parameter) (some : Bool) → is_filled value ≡ some → length tag ≡ 2 → length value < 100 → ((m : ℕ) → length (objects_text os) ≤ m → read_at_most m (objects_text os) ≡ Some (filled_entries (entries_of os))) → length (objects_text ((tag, value) ∷ os)) ≤ n → read_at_most n (objects_text ((tag, value) ∷ os)) ≡ Some (filled_entries (entries_of ((tag, value) ∷ os)))
object_by n tag value os false is two small later room =
    let none = length_empty tag value os is in
    ap (read_at_most n) (object_empty tag value os is) ∙ later n (omega (arith, none, room)) ∙ ap Some (sym (filled_later tag value os is))
object_by zero tag value os true is two small later room =
    let size = length_filled tag value os two small is in absurd (omega (arith, size, room))
object_by (suc n) tag value os true is two small later room =
    let size = length_filled tag value os two small is in
    ap (read_at_most (suc n)) (object_filled tag value os is)
    ∙ object_then n tag value (objects_text os) two small
    ∙ ap (option_map (λ more. single tag value ∷ more)) (later n (omega (arith, size, room)))
    ∙ ap Some (sym (filled_first tag value os is))

nothing_read : (n : ℕ) → read_at_most n [] ≡ Some []
unfolding read_at_most
nothing_read n = refl

no_objects : objects_text [] ≡ []
unfolding objects_text
no_objects = refl

-- no objects have length 0
pub no_length : length (objects_text []) ≡ 0
no_length = ap length no_objects

objects_within : (os : List Parameter) → AreObjects os → (n : ℕ) → length (objects_text os) ≤ n → read_at_most n (objects_text os) ≡ Some (filled_entries (entries_of os))
objects_within [] are n room = ap (read_at_most n) no_objects ∙ nothing_read n
objects_within ((tag, value) ∷ os) are n room = object_by n tag value os (is_filled value) refl are.0 are.1 (objects_within os are.2) room

-- objects are read back, without those that have no value
pub objects_read : (os : List Parameter) → AreObjects os → read_objects (objects_text os) ≡ Some (filled_entries (entries_of os))
objects_read os are = objects_within os are (length (objects_text os)) (omega arith)

-- objects, with their checksum as the last of them
abbrev pub with_check : List Parameter → List Parameter
with_check os = os ++ (codes "63", crc_text (crc_of (objects_text os ++ codes "6304"))) ∷ []

AreObjects-last : (os : List Parameter) (o : Parameter) → AreObjects os → length o.0 ≡ 2 → length o.1 < 100 → AreObjects (os ++ o ∷ [])
AreObjects-last [] o are two small = (two, small, tt)
AreObjects-last (first ∷ os) o are two small = (are.0, are.1, AreObjects-last os o are.2 two small)

last_object : (check : ℕ) → objects_text ((codes "63", crc_text check) ∷ []) ≡ codes "6304" ++ crc_text check
unfolding objects_text
last_object check = ap (λ digits. (codes "63" ++ (digits ++ crc_text check)) ++ []) (pair_digits 4 (omega arith))

checked_objects : (os : List Parameter) → objects_text (with_check os) ≡ checked_text (objects_text os)
unfolding objects_text
checked_objects os =
    flat_map-append object_text os ((codes "63", crc_text (crc_of (objects_text os ++ codes "6304"))) ∷ [])
    ∙ ap (λ x. objects_text os ++ x) (last_object (crc_of (objects_text os ++ codes "6304")))

-- dropping the four bytes of the checksum gives the length before them
four_behind : (start : List ℕ) (check : ℕ) → length (start ++ crc_text check) - 4 ≡ length start
four_behind start check = let sum = length-append start (crc_text check) in omega (arith, sum)

same_bytes : (bytes : List ℕ) → bytes_eq bytes bytes ≡ true
same_bytes bytes = (bytes_eq-Decides bytes bytes).1 refl

check_passes : (start : List ℕ) → read_checked (start ++ crc_text (crc_of start)) ≡ read_objects (start ++ crc_text (crc_of start))
unfolding read_checked
check_passes start =
    let check = crc_text (crc_of start) in
    rw (four_behind start (crc_of start), take-append_seam start check, drop-append_seam start check, same_bytes check) refl

-- objects with their checksum are read back
pub checked_read : (os : List Parameter) → AreObjects os → read_checked (checked_text (objects_text os)) ≡ Some (filled_entries (entries_of (with_check os)))
checked_read os are =
    let start = objects_text os ++ codes "6304" in
    let grouped : checked_text (objects_text os) ≡ start ++ crc_text (crc_of start) = sym (append_assoc (objects_text os) (codes "6304") (crc_text (crc_of start))) in
    ap read_checked grouped ∙ check_passes start ∙ ap read_objects (sym grouped ∙ sym (checked_objects os))
    ∙ objects_read (with_check os) (AreObjects-last os _ are refl (omega arith))

object_last : (os : List Parameter) (o : Parameter) → objects_text os ++ object_text o ≡ objects_text (os ++ o ∷ [])
unfolding objects_text
object_last os o = ap (λ x. flat_map object_text os ++ x) (sym (append-nil (object_text o))) ∙ sym (flat_map-append object_text os (o ∷ []))

-- an object is appended to others, given its tag and value
pub one_more : {t value new : List ℕ} (os : List Parameter) (tag said : List ℕ) → t ≡ objects_text os → value ≡ said → new ≡ t ++ object_text (tag, value) → new ≡ objects_text (os ++ (tag, said) ∷ [])
one_more {t} {value} {new} os tag said is same pushed = pushed ∙ ap₂ (λ x v. x ++ object_text (tag, v)) is same ∙ object_last os (tag, said)

-- an empty text has no objects yet
pub none_yet : {t : List ℕ} → t ≡ [] → t ≡ objects_text []
none_yet is = is ∙ sym no_objects
