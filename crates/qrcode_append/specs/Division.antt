-- How data is divided between symbols.
use Rattle.std.specs.Prelude.{ℕ, zero, suc, ◌+◌, ◌*◌, ◌/◌, nat_le, nat_lt, ◌||◌, Bool, List, length, slice_index, slice_range, if◌then◌else◌}
use Rattle.qrcode_bits.specs.Manners.{is_text}
use Rattle.qrcode_bits.specs.declared.bits.manner.Manner.{Manner}

-- no UTF-8 character extends across the place: it is the end of the bytes, or the byte there is no continuation byte
abbrev pub is_border : List ℕ → ℕ → Bool
is_border bytes place = nat_le (length bytes) place || (nat_lt (slice_index bytes place) 128 || nat_le 192 (slice_index bytes place))

abbrev pub floor_border : List ℕ → ℕ → ℕ  -- the last border between characters at or before a place
floor_border bytes zero = 0
floor_border bytes (suc place) = if is_border bytes (suc place) then suc place else floor_border bytes place

-- Where part `place` of `count` begins, and the one before it ends. Bytes are divided evenly; a text at the last border
-- between characters at or before the even place.
unfoldable pub part_begin : Manner → List ℕ → ℕ → ℕ → ℕ
part_begin m bytes count place = if is_text m then floor_border bytes ((length bytes * place) / count) else ((length bytes * place) / count)

abbrev pub part : Manner → List ℕ → ℕ → ℕ → List ℕ  -- part `place` of `count`
part m bytes count place = slice_range bytes (part_begin m bytes count place) (part_begin m bytes count (place + 1))
