-- How a printer reads a graphic field of ZPL II, and the file of a label.
use Rattle.std.specs.Prelude.{◌≡◌, ℕ, ◌+◌, ◌-◌, ◌*◌, ◌/◌, ◌%◌, ◌==◌, nat_le, nat_lt, ◌&&◌, Bool, List, [], ◌∷◌, ◌++◌, codes, decimal, drop, flat_map, fold, length, max, replicate, if◌then◌else◌}
use Rattle.std.specs.List.{range_with_len}
use Rattle.qrcode_render.specs.Bitmap.{Bitmap, row_of}
use Rattle.qrcode_sheets.specs.Files.{inked, black_bytes}
use Rattle.qrcode_sheets.specs.Printers.{bytes_across}

-- what has been read: the count that letters gave for the next digit, and the digits of all rows
pub record Reading : Type 0 where
  pub times : ℕ
  pub digits : List ℕ

abbrev pub reading : ℕ → List ℕ → Reading
reading times digits = record { times = times; digits = digits }

-- the value of a hexadecimal digit; 16 for other characters
abbrev pub digit_value : ℕ → ℕ
digit_value c = if nat_le 48 c && nat_lt c 58 then c - 48 else (if nat_le 65 c && nat_lt c 71 then c - 55 else 16)

-- the number of digits still missing in a row of n digits
abbrev pub left_in_row : ℕ → List ℕ → ℕ
left_in_row n digits = n - length digits % n

-- the reading after a character that printers do not expect: it counts as a digit, but as one that no picture has
abbrev pub spoiled : Reading → Reading
spoiled r = reading 0 (r.digits ++ 16 ∷ [])

-- the reading after digits that no letter may precede
abbrev pub with_digits : List ℕ → Reading → Reading
with_digits digits r = if r.times == 0 then reading 0 (r.digits ++ digits) else spoiled r

-- the reading after another character, with n digits in a row: a comma fills the row with zeros, an exclamation mark
-- with ones, and a colon, which stands only between rows, repeats the row above; the letters G to Y stand for 1 to 19
-- and g to z for 20, 40, .. 400, and the letters before a digit add up to how many times it is repeated
abbrev pub read_one : ℕ → Reading → ℕ → Reading
read_one n r c =
    if c == 44 then with_digits (replicate (left_in_row n r.digits) 0) r
    else (if c == 33 then with_digits (replicate (left_in_row n r.digits) 15) r
    else (if c == 58 then (if length r.digits % n == 0 then with_digits (drop (length r.digits - n) r.digits) r else spoiled r)
    else (if nat_le 71 c && nat_lt c 90 then reading (r.times + (c - 70)) r.digits
    else (if nat_le 103 c && nat_lt c 123 then reading (r.times + 20 * (c - 102)) r.digits
    else reading 0 (r.digits ++ replicate (max r.times 1) (digit_value c))))))

-- the reading of a field with n digits in a row
unfoldable pub read : ℕ → List ℕ → Reading
read n field = fold (read_one n) (reading 0 []) field

-- a field is read as these digits, and no letter is left over
abbrev pub IsFieldRead : ℕ → List ℕ → List ℕ → Type 0
IsFieldRead n field digits = read n field ≡ reading 0 digits

-- the two digits of each byte
abbrev pub byte_digits : List ℕ → List ℕ
byte_digits bytes = flat_map (λ b. b / 16 ∷ b % 16 ∷ []) bytes

-- a label with a field at a place: the number of its bytes, twice, and that of the bytes in a row
abbrev pub zpl_head : ℕ × ℕ → ℕ → ℕ → List ℕ
zpl_head place w h =
    codes "^XA^FO" ++ (decimal place.0 ++ (codes "," ++ (decimal place.1 ++ (codes "^GFA," ++ (decimal (bytes_across w * h) ++ (codes "," ++ (decimal (bytes_across w * h) ++ (codes "," ++ (decimal (bytes_across w) ++ codes ",")))))))))

abbrev pub zpl_tail : List ℕ
zpl_tail = codes "^FS^XZ\n"

-- a label whose field, at a place in dots from the left and from the top, is read as the rows of the picture
pub record IsZplOf (place : ℕ × ℕ) (marked other : Bool) (b : Bitmap) (file : List ℕ) : Type 0 where
  pub field : List ℕ
  pub written : file ≡ zpl_head place b.across b.down ++ (field ++ zpl_tail)
  pub shown : IsFieldRead (2 * bytes_across b.across) field (flat_map (λ y. byte_digits (black_bytes (inked marked other (row_of b y)))) (range_with_len 0 b.down))
