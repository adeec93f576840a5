use Rattle.std.proofs.Common.{List, ℕ, Option, Some, ◌∷◌, ◌++◌, drop, sym, ap, ◌∙◌, arith}
use Rattle.std.specs.Prelude.{map, chars, string_bytes}
use Rattle.std.proofs.lemmas.Str.{chars-nil, IsUtf8-string_bytes}
use Rattle.qrcode_charsets.specs.ShiftJis.{shift_jis_characters}
use Rattle.qrcode_charsets.proofs.PairCodes.{no_gap}
use Rattle.qrcode_charsets.proofs.PairReads.{read_next}
use Rattle.qrcode_charsets.proofs.shift_jis.decode.Goals as goal

pub loop-place-init : goal.loop-place-init
loop-place-init c =
    let s = shift_jis_characters c.args.bytes.now in
    record {
      inside = omega arith;
      rest = ap (λ (b : List ℕ). map Some (chars b) ++ s) c.new-text.ensures.bytes ∙ ap (λ (x : List ℕ). map Some x ++ s) chars-nil;
    }

pub returns-in-None : goal.returns-in-None
returns-in-None c = λ text w.
    let rest = shift_jis_characters (drop c.character_at-found.result.1 c.args.bytes.now) in
    let front = map Some (chars (string_bytes c.loop-place.text)) in
    no_gap (chars (string_bytes c.loop-place.text)) text rest
    (ap (λ (z : List (Option ℕ)). front ++ z) (sym (c.character_at-found.ensures.first ∙ ap (λ (o : Option ℕ). o ∷ rest) c.in-None.is)) ∙ c.loop-place.invariant.rest ∙ w)

pub loop-place-preserved : goal.loop-place-preserved
loop-place-preserved c =
    let bytes = c.args.bytes.now in
    let next = drop c.character_at-found.result.1 bytes in
    let old = c.loop-place.text in
    let own = c.character_at-found.ensures.first ∙ ap (λ (o : Option ℕ). o ∷ shift_jis_characters next) c.in-Some.is in
    record {
      inside = c.character_at-found.ensures.at_most;
      rest = read_next (string_bytes old) (string_bytes c.push.new.self) (drop c.loop-place.place bytes) next bytes c.in-Some.character (IsUtf8-string_bytes old) c.in_ok-push-in-Some.ensures.bytes own c.loop-place.invariant.rest;
    }
