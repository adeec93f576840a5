-- The data of the worked rows, as segments, bits and codewords.
use Rattle.std.specs.Prelude.{ℕ, pos, Bool, List, [], ◌∷◌, ◌++◌, codes}
use Rattle.qrcode_types.specs.declared.types.Version.TheVariants.{Normal, Micro}
use Rattle.qrcode_types.specs.declared.types.EcLevel.TheVariants.{L, M}
use Rattle.qrcode_types.specs.declared.types.Mode.{Mode}
use Rattle.qrcode_types.specs.declared.types.Mode.TheVariants.{Numeric}
use Rattle.qrcode_bits.specs.StructuredAppend.{parity, append_front}
use Rattle.qrcode_bits.specs.Written.{Piece, written_piece, terminated}
use Rattle.qrcode_bits.specs.declared.optimize.Segment.{Segment}

abbrev pub segment : Mode → ℕ → ℕ → Segment  -- a segment of the bytes from begin to before end
segment m begin end = record { mode = m; begin = begin; end = end }

abbrev pub piece : Mode → List ℕ → Piece
piece m bytes = record { mode = m; chunk = bytes }

abbrev pub digits : Piece
digits = piece Numeric (codes "01234567")

abbrev pub normal_bits : List Bool  -- the digits in Normal 1 at M
normal_bits = terminated (Normal (pos 1)) M (written_piece (Normal (pos 1)) digits)

abbrev pub micro_bits : List Bool  -- the digits in Micro 2 at L
micro_bits = terminated (Micro (pos 2)) L (written_piece (Micro (pos 2)) digits)

abbrev pub normal_data : List ℕ  -- the data codewords of the digits in Normal 1 at M; the error correction follows in normal_block
normal_data = 0x10 ∷ 0x20 ∷ 0x0C ∷ 0x56 ∷ 0x61 ∷ 0x80 ∷ 0xEC ∷ 0x11 ∷ 0xEC ∷ 0x11 ∷ 0xEC ∷ 0x11 ∷ 0xEC ∷ 0x11 ∷ 0xEC ∷ 0x11 ∷ []

abbrev pub normal_block : List ℕ
normal_block = normal_data ++ (0xA5 ∷ 0x24 ∷ 0xD4 ∷ 0xC1 ∷ 0xED ∷ 0x36 ∷ 0xC7 ∷ 0x87 ∷ 0x2C ∷ 0x55 ∷ [])

abbrev pub hello_data : List ℕ  -- the data codewords of HELLO WORLD in Normal 1 at Q
hello_data = 0x20 ∷ 0x5B ∷ 0x0B ∷ 0x78 ∷ 0xD1 ∷ 0x72 ∷ 0xDC ∷ 0x4D ∷ 0x43 ∷ 0x40 ∷ 0xEC ∷ 0x11 ∷ 0xEC ∷ []

abbrev pub micro_block : List ℕ  -- the codewords of the digits in Micro 2 at L
micro_block = 0x40 ∷ 0x18 ∷ 0xAC ∷ 0xC3 ∷ 0x00 ∷ 0x86 ∷ 0x0D ∷ 0x22 ∷ 0xAE ∷ 0x30 ∷ []

abbrev pub pi_digits : List ℕ  -- sixty digits of pi
pi_digits = codes "314159265358979323846264338327950288419716939937510582097494"

abbrev pub part_of_pi : ℕ → ℕ → List ℕ → List Bool  -- the bits of one part of these digits, in Normal 1 at L
part_of_pi place last bytes =
    terminated (Normal (pos 1)) L (append_front place last (parity pi_digits) ++ written_piece (Normal (pos 1)) (piece Numeric bytes))

abbrev pub first_of_pi : List ℕ  -- the codewords that segno makes of the first of two parts; the second follows
first_of_pi = 0x30 ∷ 0x10 ∷ 0x51 ∷ 0x07 ∷ 0x93 ∷ 0xA2 ∷ 0x7D ∷ 0x09 ∷ 0x59 ∷ 0xBD ∷ 0x35 ∷ 0x0F ∷ 0x4E ∷ 0x42 ∷ 0x15 ∷ 0x25 ∷ 0x1C ∷ 0x00 ∷ 0xEC ∷ []

abbrev pub second_of_pi : List ℕ
second_of_pi = 0x31 ∷ 0x10 ∷ 0x51 ∷ 0x07 ∷ 0xBB ∷ 0x64 ∷ 0x81 ∷ 0xA3 ∷ 0xB3 ∷ 0x3A ∷ 0xBE ∷ 0xA5 ∷ 0xFE ∷ 0x91 ∷ 0x86 ∷ 0x17 ∷ 0xB8 ∷ 0x00 ∷ 0xEC ∷ []

abbrev pub eleventh_of_pi : List ℕ  -- the codewords that segno makes of the eleventh of sixteen parts
eleventh_of_pi = 0x3A ∷ 0xF0 ∷ 0x51 ∷ 0x01 ∷ 0x0A ∷ 0x93 ∷ 0x00 ∷ 0xEC ∷ 0x11 ∷ 0xEC ∷ 0x11 ∷ 0xEC ∷ 0x11 ∷ 0xEC ∷ 0x11 ∷ 0xEC ∷ 0x11 ∷ 0xEC ∷ 0x11 ∷ []
