-- Texts of decoded data, in buffers.
use Rattle.std.proofs.Common.{◌≡◌, inr, ℕ, List, [], ◌∷◌, false, sym, ap, subst, cond}
use Rattle.std.proofs.lemmas.Result.{IfErr-weaker}
use Rattle.std.specs.Prelude.{◌==◌, Result}
use Rattle.qrcode_charsets.specs.Eci.{IsReadIn}
use Rattle.qrcode_charsets.specs.declared.sets.Charset.{Charset}
use Rattle.qrcode_reader.specs.declared.spell.headers.Header.TheVariants.{Eci}
use Rattle.qrcode_reader.specs.declared.spell.parts.Part.TheVariants.{Front}
use Rattle.qrcode_scan.specs.Texts.{IsShownText}
use Rattle.goqlanis_buffers.specs.Texts.{parts_under, IsKnown, WritesDecoded, WritesText}
use Rattle.goqlanis_buffers.specs.declared.answers.Refusal.{Refusal}

known_decoded : (n : ℕ) (bytes old new : List ℕ) (result : Result ℕ Refusal) → IsKnown n → WritesText (IsShownText (parts_under n) bytes) old new result → WritesDecoded n bytes old new result
known_decoded n bytes old new result known w =
    record { made = w.made; unchanged = w.unchanged; causes = IfErr-weaker result _ _ (λ refusal cause. inr (known, cause)) w.causes }

-- bytes under a designator that has a set are decoded as a code of one segment under it
pub marked_decoded : (n : ℕ) (bytes old new : List ℕ) (result : Result ℕ Refusal) → (n == 0) ≡ false → (c : Charset) → IsReadIn n c
    → WritesText (IsShownText (Front (Eci n) ∷ []) bytes) old new result → WritesDecoded n bytes old new result
marked_decoded n bytes old new result some c is w =
    let parts : Front (Eci n) ∷ [] ≡ parts_under n = sym (ap (λ b. cond b [] (Front (Eci n) ∷ [])) some) in
    known_decoded n bytes old new result (inr (c, is)) (subst (λ p. WritesText (IsShownText p bytes) old new result) parts w)
