-- The fewest bits that the rest of the bytes after FNC1 takes, counted from the end.
use Rattle.std.specs.Prelude.{◌≡◌, ℕ, ◌+◌, ◌<◌, ◌≤◌, ◌==◌, nat_lt, ◌&&◌, Bool, true, List, [], ◌∷◌, length, drop, slice_index_or, if◌then◌else◌}
use Rattle.qrcode_types.specs.Modes.{mode_bits_count, length_bits_count}
use Rattle.qrcode_types.specs.declared.types.Version.{Version}
use Rattle.qrcode_types.specs.declared.types.Mode.{Mode}
use Rattle.qrcode_types.specs.declared.types.Mode.TheVariants.{Numeric, Alphanumeric, Byte}
use Rattle.qrcode_bits.specs.Tokens.{first_byte}
use Rattle.qrcode_gs1.specs.symbol.Characters.{has_characters, must_end}
use Rattle.qrcode_gs1.specs.declared.symbol.costs.RestCosts.{RestCosts}
use Rattle.qrcode_gs1.specs.declared.symbol.costs.Headers.{Headers}
use Rattle.qrcode_gs1.specs.declared.symbol.costs.Start.{Start}
use Rattle.qrcode_gs1.specs.declared.symbol.costs.Way.{Way}

abbrev pub headers_of : Version → Headers  -- the bits of mode indicator and length field
headers_of v = record { numeric = mode_bits_count v + length_bits_count Numeric v; alphanumeric = mode_bits_count v + length_bits_count Alphanumeric v; byte = mode_bits_count v + length_bits_count Byte v }

pub record AreSmall (h : Headers) : Type 0 where  -- each header is at most 20 bits
  pub numeric : h.numeric ≤ 20
  pub alphanumeric : h.alphanumeric ≤ 20
  pub byte : h.byte ≤ 20

pub record AreFew (w : Way) : Type 0 where  -- so few that adding a few more does not overflow
  pub bits : w.bits ≤ 2147483648
  pub taken : w.taken ≤ 2147483648

abbrev pub ends : Start → Way  -- an open segment ends, and the best start follows
ends s = record { bits = s.bits; taken = 0 }

pub record AreAllFew (r : RestCosts) : Type 0 where  -- all costs are so few
  pub start : AreFew (ends r.start)
  pub digits : AreFew r.digits
  pub one_digit : AreFew r.one_digit
  pub two_digits : AreFew r.two_digits
  pub letters : AreFew r.letters
  pub odd_letter : AreFew r.odd_letter
  pub bytes : AreFew r.bytes

abbrev pub after_byte : ℕ → Way → Way  -- a way with a byte of this many bits before it
after_byte bits w = record { bits = w.bits + bits; taken = w.taken + 1 }

abbrev pub goes_or : Way → Bool → Way → Way  -- the better of two ways, if the second is possible
goes_or w can other = if can && nat_lt other.bits w.bits then other else w

abbrev pub with_header : Mode → ℕ → Way → Start  -- a segment that begins, by its header and how it goes on
with_header m header w = record { bits = header + w.bits; mode = m; taken = w.taken }

abbrev pub better : Start → Bool → Start → Start  -- the better of two starts, if the second is possible
better s can other = if can && nat_lt other.bits s.bits then other else s

-- how an open Alphanumeric segment goes on with a byte: after whole pairs (even_on), or with one letter after these
-- (odd_on)
abbrev pub even_on : ℕ → ℕ → RestCosts → Way
even_on b follows next =
    if must_end Alphanumeric b follows then after_byte 6 (ends next.start) else (if b == 37 then after_byte 11 next.letters else after_byte 6 next.odd_letter)

abbrev pub odd_on : ℕ → ℕ → RestCosts → Way
odd_on b follows next =
    if must_end Alphanumeric b follows then after_byte 5 (ends next.start) else (if b == 37 then after_byte 11 next.odd_letter else after_byte 5 next.letters)

abbrev pub best_start : Headers → ℕ → ℕ → RestCosts → Start  -- the best segment to begin with
best_start h b follows next =
    better (better (with_header Byte h.byte (after_byte 8 next.bytes))
    (has_characters Alphanumeric b) (with_header Alphanumeric h.alphanumeric (even_on b follows next)))
    (has_characters Numeric b) (with_header Numeric h.numeric (after_byte 4 next.one_digit))

-- the costs one byte earlier: by that byte, the one after it, and the best start there
abbrev pub costs_before : ℕ → ℕ → Start → RestCosts → RestCosts
costs_before b follows s next = record {
  start = s;
  digits = goes_or (ends s) (has_characters Numeric b) (after_byte 4 next.one_digit);
  one_digit = goes_or (ends s) (has_characters Numeric b) (after_byte 3 next.two_digits);
  two_digits = goes_or (ends s) (has_characters Numeric b) (after_byte 3 next.digits);
  letters = goes_or (ends s) (has_characters Alphanumeric b) (even_on b follows next);
  odd_letter = goes_or (ends s) (has_characters Alphanumeric b) (odd_on b follows next);
  bytes = goes_or (ends s) true (after_byte 8 next.bytes);
}

abbrev pub step : Headers → ℕ → ℕ → RestCosts → RestCosts
step h b follows next = costs_before b follows (best_start h b follows next) next

abbrev pub end_start : Start  -- the end of the bytes
end_start = record { bits = 0; mode = Byte; taken = 0 }

abbrev pub at_end : RestCosts
at_end = record { start = end_start; digits = ends end_start; one_digit = ends end_start; two_digits = ends end_start; letters = ends end_start; odd_letter = ends end_start; bytes = ends end_start }

abbrev pub costs_of : Headers → List ℕ → RestCosts  -- the costs of the rest, byte by byte from its end
costs_of h [] = at_end
costs_of h (b ∷ bytes) = step h b (first_byte bytes) (costs_of h bytes)

abbrev pub past_end : Start  -- a value for places past the end of a list of starts
past_end = record { bits = 0; mode = Numeric; taken = 0 }

-- the best start at each place of the bytes
pub record AreStarts (h : Headers) (bytes : List ℕ) (starts : List Start) : Type 0 where
  pub count : length starts ≡ length bytes
  pub least : (place : ℕ) → place < length bytes → slice_index_or starts place past_end ≡ (costs_of h (drop place bytes)).start
