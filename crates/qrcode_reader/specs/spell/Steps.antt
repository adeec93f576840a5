-- The steps of decoding segments. A piece is bytes and the mode in which they are written.
use Rattle.std.specs.Prelude.{◌≡◌, ◌<◌, ◌^◌, ◌++◌, ℕ, Bool, List, length, IsTrue, ◌⊎◌, Result, OnOk, IfOk, IfErr}
use Rattle.std.specs.Borrow.{Bor}
use Rattle.qrcode_types.specs.Bits.{number_bits}
use Rattle.qrcode_types.specs.Characters.{can_write, character_count}
use Rattle.qrcode_types.specs.Modes.{length_bits_count}
use Rattle.qrcode_types.specs.declared.types.Version.{Version}
use Rattle.qrcode_types.specs.declared.types.Mode.{Mode}
use Rattle.qrcode_types.specs.declared.types.Mode.TheVariants.{Numeric, Alphanumeric, Byte, Kanji}
use Rattle.qrcode_bits.specs.Written.{Piece, written_piece, data_bits_in}
use Rattle.qrcode_bits.specs.Spelling.{IsReadable}
use Rattle.qrcode_reader.specs.declared.spell.refusals.Unspelled.{Unspelled}
use Rattle.qrcode_reader.specs.declared.spell.refusals.Unspelled.TheVariants.{NotSpelled, OutOfMemory}

-- the most bits that are written together: three digits, two alphanumeric characters, a byte, a pair
abbrev pub group_bits : Mode → ℕ
group_bits Numeric = 10
group_bits Alphanumeric = 11
group_bits Byte = 8
group_bits Kanji = 13

-- mode m can write these bytes, and writes them as these bits
pub record AreWrittenAs (m : Mode) (bits : List Bool) (bytes : List ℕ) : Type 0 where
  pub writable : IsTrue (can_write m bytes)
  pub written : data_bits_in m bytes ≡ bits

-- The bytes that mode m writes as these bits are appended; or there are none; or memory ran out.
pub record AppendsCharacters (m : Mode) (bits : List Bool) (old new : List ℕ) (result : Result (Unit {0}) Unspelled) : Type 0 where
  pub taken : OnOk result ((bytes : List ℕ) × AreWrittenAs m bits bytes × (new ≡ old ++ bytes))
  pub refused : IfErr result (λ e. (e ≡ OutOfMemory) ⊎ ((e ≡ NotSpelled) × ((bytes : List ℕ) → ¬ AreWrittenAs m bits bytes)))

-- the bits are a number in count bits and then rest
pub record BeginsWithNumber (count : ℕ) (bits : List Bool) (number : ℕ) (rest : List Bool) : Type 0 where
  pub at_most : number < 2 ^ count
  pub whole : bits ≡ number_bits count number ++ rest

-- the bits are a length field and that many characters, and then rest
pub record BeginsWithData (v : Version) (m : Mode) (bits : List Bool) (bytes : List ℕ) (rest : List Bool) : Type 0 where
  pub writable : IsTrue (can_write m bytes)
  pub counted : character_count m (length bytes) < 2 ^ length_bits_count m v
  pub whole : bits ≡ number_bits (length_bits_count m v) (character_count m (length bytes)) ++ (data_bits_in m bytes ++ rest)

-- the bits are a piece that readers of the version decode, and then rest
pub record BeginsWithPiece (v : Version) (bits : List Bool) (p : Piece) (rest : List Bool) : Type 0 where
  pub readable : IsReadable v p
  pub whole : bits ≡ written_piece v p ++ rest

-- the bytes after a mode indicator are appended, and the rest is returned; or there are none; or memory ran out
pub record AppendsData (v : Version) (m : Mode) (bits : List Bool) (old new : List ℕ) (result : Result (Bor (List Bool)) Unspelled) : Type 0 where
  pub taken : IfOk result (λ rest. (bytes : List ℕ) × BeginsWithData v m bits bytes rest.now × (new ≡ old ++ bytes))
  pub refused : IfErr result (λ e. (e ≡ OutOfMemory) ⊎ ((e ≡ NotSpelled) × ((bytes : List ℕ) (rest : List Bool) → ¬ BeginsWithData v m bits bytes rest)))

-- the bytes of the first piece are appended, and its mode and the rest are returned; or the bits begin with no piece; or memory ran out
pub record AppendsPiece (v : Version) (bits : List Bool) (old new : List ℕ) (result : Result (Mode × Bor (List Bool)) Unspelled) : Type 0 where
  pub taken : IfOk result (λ found. (bytes : List ℕ) × BeginsWithPiece v bits (record { mode = found.0; chunk = bytes }) found.1.now × (new ≡ old ++ bytes))
  pub refused : IfErr result (λ e. (e ≡ OutOfMemory) ⊎ ((e ≡ NotSpelled) × ((p : Piece) (rest : List Bool) → ¬ BeginsWithPiece v bits p rest)))
