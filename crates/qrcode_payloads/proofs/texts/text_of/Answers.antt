use Rattle.std.proofs.Common.{◌≡◌, ℕ, List, [], ◌∷◌, Option, None, Some, Result, ap, ◌∙◌}
use Rattle.std.specs.declared.string.String.{String}
use Rattle.std.specs.declared.alloc.Global.{Global}
use Rattle.qrcode_contents.specs.declared.fields.errors.ContentError.{ContentError}
use Rattle.qrcode_contents.specs.fields.Refusals.{Answers, checked, first_refusal}
use Rattle.qrcode_contents.proofs.Answering.{checked_none}
use Rattle.qrcode_payloads.specs.Kinds.{fields_of}
use Rattle.qrcode_payloads.specs.Texts.{long_refusal}
use Rattle.qrcode_payloads.proofs.texts.text_of.Goals as goal

-- if the first check has no error, the result answers as by the second
later_answers : (first later : Option ContentError) (r : Result (String Global) ContentError) (P : List ℕ → Type 0) → first ≡ None → Answers later r P → Answers (first_refusal (first ∷ later ∷ [])) r P
later_answers None None r P is answers = answers
later_answers None (Some e) r P is answers = answers
later_answers (Some e) later r P is answers = cc

pub returns-clause-reads : goal.returns-clause-reads
returns-clause-reads g c =
    later_answers _ _ c.payload_text.result _
    (checked_none (long_refusal (fields_of c.args.kind) (g.G.FieldSource.fields c.args.given.now)) c.refuse_long.result c.in_ok-refuse_long.field-0
    (c.refuse_long.ensures ∙ ap (λ fields. checked (long_refusal fields (g.G.FieldSource.fields c.args.given.now))) c.fields_of.ensures.value) c.in_ok-refuse_long.was)
    c.payload_text.ensures.reads
