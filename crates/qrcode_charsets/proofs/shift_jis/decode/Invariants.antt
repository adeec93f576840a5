use Rattle.std.proofs.Common.{◌≡◌, ◌++◌, ◌-◌, ◌≤◌, Some, length, drop}
use Rattle.std.specs.Prelude.{chars, map, string_bytes}
use Rattle.qrcode_charsets.specs.ShiftJis.{shift_jis_characters}
use Rattle.qrcode_charsets.proofs.shift_jis.decode.Given as goal

abbrev pub invariant-loop-place : goal.invariant-loop-place
invariant-loop-place l = record {
  inside : l.place ≤ length l.bytes;
  rest : map Some (chars (string_bytes l.text)) ++ shift_jis_characters (drop l.place l.bytes) ≡ shift_jis_characters l.bytes;
}

abbrev pub decreases-loop-place : goal.decreases-loop-place
decreases-loop-place l = length l.bytes - l.place
