use Rattle.std.proofs.Common.{◌≡◌, List, ℕ, subst, IsTrue, rules}
use Rattle.std.specs.Prelude.{chars, string_bytes, encode_utf8_all}
use Rattle.std.specs.Str.{all_scalars}
use Rattle.std.proofs.lemmas.Str.{IsUtf8-string_bytes}
use Rattle.qrcode_charsets.proofs.Writings.{in_utf8, utf8_written}
use Rattle.qrcode_charsets.proofs.sets.Charset.decode.Goals as goal

pub returns-in_ok-from_str-in-Ok : goal.returns-in_ok-from_str-in-Ok
returns-in_ok-from_str-in-Ok c =
    let s = c.in_ok-from_str-in-Ok.field-0 in
    let same : string_bytes s ≡ c.args.bytes.now = search rules in
    in_utf8 c.args.self c.in-Unmarked.is (chars (string_bytes s)) c.args.bytes.now
    (subst (λ (b : List ℕ). IsTrue (all_scalars (chars (string_bytes s))) × (encode_utf8_all (chars (string_bytes s)) ≡ b)) same (utf8_written (string_bytes s) (IsUtf8-string_bytes s)))
