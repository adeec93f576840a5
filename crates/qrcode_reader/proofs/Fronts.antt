-- What bits begin with, field by field.
use Rattle.std.proofs.Common.{◌≡◌, ◌≢◌, ◌<◌, ℕ, ◌++◌, List, Bool, length, sym, ap, ap₂, subst, ◌∙◌, arith, IsTrue, append_assoc, length-append}
use Rattle.qrcode_types.specs.Bits.{number_bits}
use Rattle.qrcode_types.specs.Modes.{has_mode, indicator, mode_bits_count, length_bits_count, data_bits_count}
use Rattle.qrcode_types.specs.Characters.{character_count}
use Rattle.qrcode_types.specs.declared.types.Version.{Version}
use Rattle.qrcode_types.specs.declared.types.Mode.{Mode}
use Rattle.qrcode_bits.specs.Written.{Piece, data_bits_in}
use Rattle.qrcode_bits.proofs.Numbers.{same_number, length-number_bits}
use Rattle.qrcode_bits.proofs.Lengths.{length-data}
use Rattle.qrcode_bits.proofs.Spellings.{indicator-small, same_mode}
use Rattle.qrcode_reader.specs.spell.Steps.{AreWrittenAs, BeginsWithNumber, BeginsWithData, BeginsWithPiece}
use Rattle.qrcode_bits.proofs.Numbers.{same_front}
use Rattle.qrcode_reader.proofs.Groups.{same_count}
use Rattle.qrcode_reader.proofs.Unspelled.{length_of_written}

-- too few bits for a length field
pub no_count : (v : Version) (m : Mode) (bits : List Bool) → length bits < length_bits_count m v → (bytes : List ℕ) (rest : List Bool) → ¬ BeginsWithData v m bits bytes rest
no_count v m bits short bytes rest b =
    let n = number_bits (length_bits_count m v) (character_count m (length bytes)) in
    omega (arith, short, ap length b.whole, length-append n (data_bits_in m bytes ++ rest), length-number_bits (length_bits_count m v) (character_count m (length bytes)))

-- the count at the start and the rest are those of the length field
pub same_data_front : (v : Version) (m : Mode) (bits : List Bool) (count : ℕ) (behind : List Bool) (bytes : List ℕ) (rest : List Bool)
    → BeginsWithNumber (length_bits_count m v) bits count behind → BeginsWithData v m bits bytes rest → (count ≡ character_count m (length bytes)) × (behind ≡ data_bits_in m bytes ++ rest)
same_data_front v m bits count behind bytes rest b d =
    same_number (length_bits_count m v) count (character_count m (length bytes)) behind (data_bits_in m bytes ++ rest) b.at_most d.counted (sym b.whole ∙ d.whole)

-- too few bits for that many characters
pub no_room : (v : Version) (m : Mode) (bits : List Bool) (count : ℕ) (behind : List Bool) → BeginsWithNumber (length_bits_count m v) bits count behind → length behind < data_bits_count m count
    → (bytes : List ℕ) (rest : List Bool) → ¬ BeginsWithData v m bits bytes rest
no_room v m bits count behind b short bytes rest d =
    let s = same_data_front v m bits count behind bytes rest b d in
    omega (arith, short, ap length s.1, length-append (data_bits_in m bytes) rest, length-data m bytes, ap (data_bits_count m) s.0)

-- characters that the mode does not write
pub no_data : (v : Version) (m : Mode) (bits : List Bool) (count : ℕ) (behind characters more : List Bool) → BeginsWithNumber (length_bits_count m v) bits count behind
    → behind ≡ characters ++ more → length characters ≡ data_bits_count m count → ((bytes : List ℕ) → ¬ AreWrittenAs m characters bytes)
    → (bytes : List ℕ) (rest : List Bool) → ¬ BeginsWithData v m bits bytes rest
no_data v m bits count behind characters more b e l none bytes rest d =
    let s = same_data_front v m bits count behind bytes rest b d in
    let long : length (data_bits_in m bytes) ≡ length characters = length-data m bytes ∙ sym (l ∙ ap (data_bits_count m) s.0) in
    let f = same_front (data_bits_in m bytes) characters rest more long (sym s.1 ∙ e) in
    none bytes (record { writable = d.writable; written = f.0 })

-- too few bits for a mode indicator
pub no_indicator : (v : Version) (bits : List Bool) → length bits < mode_bits_count v → (p : Piece) (rest : List Bool) → ¬ BeginsWithPiece v bits p rest
no_indicator v bits short p rest b =
    let i = number_bits (mode_bits_count v) (indicator v p.mode) in
    let n = number_bits (length_bits_count p.mode v) (character_count p.mode (length p.chunk)) ++ data_bits_in p.mode p.chunk in
    omega (arith, short, ap length b.whole, length-append (i ++ n) rest, length-append i n, length-number_bits (mode_bits_count v) (indicator v p.mode))

-- the number at the start and the rest are those of the mode indicator
pub same_piece_front : (v : Version) (bits : List Bool) (number : ℕ) (behind : List Bool) (p : Piece) (rest : List Bool)
    → BeginsWithNumber (mode_bits_count v) bits number behind → BeginsWithPiece v bits p rest → (number ≡ indicator v p.mode) × BeginsWithData v p.mode behind p.chunk rest
same_piece_front v bits number behind p rest b d =
    let i = number_bits (mode_bits_count v) (indicator v p.mode) in
    let n = number_bits (length_bits_count p.mode v) (character_count p.mode (length p.chunk)) in
    let e = d.whole ∙ append_assoc i (n ++ data_bits_in p.mode p.chunk) rest ∙ ap (λ r. i ++ r) (append_assoc n (data_bits_in p.mode p.chunk) rest) in
    let s = same_number (mode_bits_count v) number (indicator v p.mode) behind (n ++ (data_bits_in p.mode p.chunk ++ rest)) b.at_most (indicator-small v p.mode d.readable.mode_exists) (sym b.whole ∙ e) in
    (s.0, record { writable = d.readable.writable; counted = d.readable.counted; whole = s.1 })

-- a mode indicator and data make a piece
pub is_piece : (v : Version) (bits : List Bool) (m : Mode) (behind : List Bool) (bytes : List ℕ) (rest : List Bool) → IsTrue (has_mode v m)
    → BeginsWithNumber (mode_bits_count v) bits (indicator v m) behind → BeginsWithData v m behind bytes rest → BeginsWithPiece v bits (record { mode = m; chunk = bytes }) rest
is_piece v bits m behind bytes rest exists b d =
    let i = number_bits (mode_bits_count v) (indicator v m) in
    let n = number_bits (length_bits_count m v) (character_count m (length bytes)) in
    record {
      readable = record { mode_exists = exists; writable = d.writable; counted = d.counted };
      whole = b.whole ∙ ap (λ r. i ++ r) (d.whole ∙ sym (append_assoc n (data_bits_in m bytes) rest)) ∙ sym (append_assoc i (n ++ data_bits_in m bytes) rest);
    }

-- a count, and that many characters
pub is_data : (v : Version) (m : Mode) (bits : List Bool) (count : ℕ) (behind characters rest : List Bool) (bytes : List ℕ) → BeginsWithNumber (length_bits_count m v) bits count behind
    → behind ≡ characters ++ rest → length characters ≡ data_bits_count m count → AreWrittenAs m characters bytes → BeginsWithData v m bits bytes rest
is_data v m bits count behind characters rest bytes b e l w =
    let c : count ≡ character_count m (length bytes) = same_count m count (character_count m (length bytes)) (sym l ∙ length_of_written m characters bytes w) in
    record {
      writable = w.writable;
      counted = omega (arith, b.at_most, c);
      whole = b.whole ∙ ap₂ (λ (n : ℕ) (r : List Bool). number_bits (length_bits_count m v) n ++ r) c (e ∙ ap (λ r. r ++ rest) (sym w.written));
    }

-- a number that is no mode indicator
pub no_mode : (v : Version) (bits : List Bool) (number : ℕ) (behind : List Bool) → BeginsWithNumber (mode_bits_count v) bits number behind
    → ((m : Mode) → IsTrue (has_mode v m) → indicator v m ≢ number) → (p : Piece) (rest : List Bool) → ¬ BeginsWithPiece v bits p rest
no_mode v bits number behind b none p rest d = none p.mode d.readable.mode_exists (sym (same_piece_front v bits number behind p rest b d).0)

-- without data after the mode indicator there is no piece
pub no_piece : (v : Version) (bits : List Bool) (number : ℕ) (behind : List Bool) (m : Mode) → BeginsWithNumber (mode_bits_count v) bits number behind → indicator v m ≡ number
    → ((bytes : List ℕ) (rest : List Bool) → ¬ BeginsWithData v m behind bytes rest) → (p : Piece) (rest : List Bool) → ¬ BeginsWithPiece v bits p rest
no_piece v bits number behind m b e none p rest d =
    let s = same_piece_front v bits number behind p rest b d in
    none p.chunk rest (subst (λ k. BeginsWithData v k behind p.chunk rest) (same_mode v p.mode m (sym s.0 ∙ sym e)) s.1)
