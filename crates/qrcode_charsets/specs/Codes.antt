-- The bytes of one character.
use Rattle.std.specs.Prelude.{ℕ, List, [], ◌∷◌, encode_utf8}
use Rattle.qrcode_charsets.specs.Charsets.{big_end}
use Rattle.qrcode_charsets.specs.declared.texts.CharBytes.{CharBytes}
use Rattle.qrcode_charsets.specs.declared.texts.CharBytes.TheVariants.{Utf8, One, Two}

abbrev pub code_bytes : CharBytes → List ℕ
code_bytes (Utf8 c) = encode_utf8 c
code_bytes (One b) = b ∷ []
code_bytes (Two u) = big_end u
