-- The text of a contact is read back.
use Rattle.std.proofs.Common.{◌≡◌, ℕ, List, [], ◌∷◌, true, false, Option, None, Some, codes, refl, ap, ◌∙◌}
use Rattle.std.specs.Option.{option_map, option_and_then}
use Rattle.qrcode_contents.specs.Contact.{ContactFields, contact_controls, contact_checks, contact_refusal, mecard_entries, mecard_text, contact_with, contact_from, read_mecard}
use Rattle.qrcode_contents.specs.declared.fields.errors.Field.TheVariants.{Family, Birthday, Phone}
use Rattle.qrcode_contents.specs.declared.fields.errors.Cause.TheVariants.{Empty, Range, Character}
use Rattle.qrcode_contents.specs.fields.Entries.{Entry, filled_entries, is_empty, part_with_key, read_or_none}
use Rattle.qrcode_contents.specs.fields.EntryTests.{are_distinct}
use Rattle.qrcode_contents.specs.fields.Refusals.{refused_if}
use Rattle.qrcode_contents.specs.Phone.{is_no_number}
use Rattle.qrcode_contents.specs.declared.times.Day.{Day}
use Rattle.qrcode_contents.specs.Times.{wrong_day, read_day}
use Rattle.qrcode_contents.proofs.EntryReading.{read_entries-text, part_of-filled}
use Rattle.qrcode_contents.proofs.Passing.{all_pass, test_passes}
use Rattle.qrcode_contents.proofs.TimeReading.{day_or_none_read}

mapped : {A B : Type 0} (f g : A → B) → ((x : A) → f x ≡ g x) → (o : Option A) → option_map f o ≡ option_map g o
mapped f g same None = refl
mapped f g same (Some x) = ap Some (same x)

contact_from-filled : (es : List Entry) → are_distinct es ≡ true → contact_from (filled_entries es) ≡ contact_from es
contact_from-filled es are =
    let kept : (key : List ℕ) (i : ℕ) → part_with_key key i (filled_entries es) ≡ part_with_key key i es = λ key i. part_of-filled key i es are in
    let same : (day : Option Day) → contact_with (filled_entries es) day ≡ contact_with es day =
    λ day. rw (kept (codes "N") 0, kept (codes "N") 1, kept (codes "TEL") 0, kept (codes "EMAIL") 0, kept (codes "URL") 0, kept (codes "NOTE") 0, kept (codes "ADR") 2, kept (codes "ADR") 3, kept (codes "ADR") 4, kept (codes "ADR") 5, kept (codes "ADR") 6) refl in
    ap (λ text. option_map (contact_with (filled_entries es)) (read_or_none read_day text)) (kept (codes "BDAY") 0)
    ∙ mapped (contact_with (filled_entries es)) (contact_with es) same (read_or_none read_day (part_with_key (codes "BDAY") 0 es))

-- a birthday that passes its check
right_day : (p : ContactFields) → contact_refusal p ≡ None → wrong_day p.birthday ≡ false
unfolding contact_checks
right_day p is =
    let checks = (all_pass (contact_controls p ∷ contact_checks p ∷ []) is).1.0 in
    test_passes (wrong_day p.birthday) Birthday Range
    (all_pass (refused_if (is_empty p.family) Family Empty ∷ refused_if (wrong_day p.birthday) Birthday Range ∷ refused_if (is_no_number p.phone) Phone Character ∷ []) checks).1.0

-- reading the text gives back the fields
pub mecard_read : (p : ContactFields) → contact_refusal p ≡ None → read_mecard (mecard_text p) ≡ Some p
unfolding mecard_text read_mecard
mecard_read p is =
    ap (option_and_then contact_from) (read_entries-text (codes "MECARD:") (mecard_entries p) refl)
    ∙ contact_from-filled (mecard_entries p) refl
    ∙ ap (option_map (contact_with (mecard_entries p))) (day_or_none_read p.birthday (right_day p is))
