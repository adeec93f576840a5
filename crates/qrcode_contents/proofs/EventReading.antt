-- The text of an event is read back.
use Rattle.std.proofs.Common.{◌≡◌, ℕ, List, [], ◌∷◌, ◌++◌, Bool, true, false, Option, None, Some, codes, refl, ap, ◌∙◌, append_assoc, append-nil}
use Rattle.std.specs.Str.{bytes_eq}
use Rattle.std.specs.List.{list_any}
use Rattle.std.specs.Option.{option_map, option_and_then}
use Rattle.qrcode_contents.specs.declared.fields.errors.Field.TheVariants.{Uid, Stamp, Begin, End, Summary, Location, Description}
use Rattle.qrcode_contents.specs.declared.fields.errors.Cause.TheVariants.{ControlCharacter, Range}
use Rattle.qrcode_contents.specs.fields.Characters.{is_control, is_other_control}
use Rattle.qrcode_contents.specs.fields.ContentLines.{content_text, structured, read_content}
use Rattle.qrcode_contents.specs.fields.Entries.{Entry, single, is_filled, filled_entries, read_or_none, value_of}
use Rattle.qrcode_contents.specs.fields.Links.{Parameter}
use Rattle.qrcode_contents.proofs.ContentParts.{IsPlain, part_read, one_plain, line_with, plain_nothing}
use Rattle.qrcode_contents.proofs.ContentReading.{AreContent, AreContent-append, behind_last, lines_read}
use Rattle.qrcode_contents.proofs.EntryReading.{neither, part_of-filled, HasNo, holds}
use Rattle.qrcode_contents.proofs.LinkReading.{entries_of, no_return, other_no_return}
use Rattle.qrcode_contents.proofs.Passing.{all_pass, test_passes}
use Rattle.qrcode_contents.specs.declared.times.Day.{Day}
use Rattle.qrcode_contents.specs.declared.times.Moment.{Moment}
use Rattle.qrcode_contents.specs.declared.event.Span.{Span}
use Rattle.qrcode_contents.specs.declared.event.Span.TheVariants.{Days, Times}
use Rattle.qrcode_contents.specs.Event.{Happening, wrong_stamp, stamp_text, begins_never, ends_never, event_checks, event_refusal, span_lines, event_lines, first_lines, last_lines, event_text, before_end, component, span_in, happening_in, calendar_event, read_event}
use Rattle.qrcode_contents.specs.Times.{is_day, is_moment, day_text, moment_text, read_moment}
use Rattle.qrcode_contents.proofs.TimeReading.{day_read, moment_read, IsPlain-day, IsPlain-moment, filled_day, filled_moment}

-- what holds of fields that pass all checks
record IsSayable (h : Happening) : Type 0 where
  uid : HasNo 13 h.uid
  stamp : wrong_stamp h.stamp ≡ false
  begins : begins_never h.span ≡ false
  ends : ends_never h.span ≡ false
  summary : HasNo 13 h.summary
  location : HasNo 13 h.location
  description : HasNo 13 h.description

sayable : (h : Happening) → event_refusal h ≡ None → IsSayable h
unfolding event_refusal
sayable h is =
    let t = all_pass (event_checks h) is in
    record {
      uid = no_return h.uid (test_passes (list_any is_control h.uid) Uid ControlCharacter t.0);
      stamp = test_passes (wrong_stamp h.stamp) Stamp Range t.1.0;
      begins = test_passes (begins_never h.span) Begin Range t.1.1.0;
      ends = test_passes (ends_never h.span) End Range t.1.1.1.0;
      summary = other_no_return h.summary (test_passes (list_any is_other_control h.summary) Summary ControlCharacter t.1.1.1.1.1.0);
      location = other_no_return h.location (test_passes (list_any is_other_control h.location) Location ControlCharacter t.1.1.1.1.1.1.0);
      description = other_no_return h.description (test_passes (list_any is_other_control h.description) Description ControlCharacter t.1.1.1.1.1.1.1.0);
    }

-- ---- each line can be read back

span_content : (s : Span) → begins_never s ≡ false → ends_never s ≡ false → AreContent (span_lines s)
span_content (Days first end) begins ends = (
  line_with (codes "DTSTART;VALUE=DATE") (day_text first) refl refl refl refl (IsPlain-day first (holds (is_day first) begins)),
  (line_with (codes "DTEND;VALUE=DATE") (day_text end) refl refl refl refl (IsPlain-day end (holds (is_day end) ends)), tt),
)
span_content (Times begin end) begins ends = (
  line_with (codes "DTSTART") (moment_text begin) refl refl refl refl (IsPlain-moment begin (holds (is_moment begin) begins)),
  (line_with (codes "DTEND") (moment_text end) refl refl refl refl (IsPlain-moment end (holds (is_moment end) ends)), tt),
)

stamp_plain : (s : Option Moment) → wrong_stamp s ≡ false → IsPlain (stamp_text s)
stamp_plain None is = plain_nothing
stamp_plain (Some m) is = IsPlain-moment m (holds (is_moment m) is)

event_content : (h : Happening) → IsSayable h → AreContent (event_lines h)
event_content h are = (
  line_with (codes "UID") (structured (h.uid ∷ [])) refl refl refl refl (one_plain h.uid are.uid),
  (
    line_with (codes "DTSTAMP") (stamp_text h.stamp) refl refl refl refl (stamp_plain h.stamp are.stamp),
    AreContent-append (span_lines h.span) _ (span_content h.span are.begins are.ends) (
      line_with (codes "SUMMARY") (structured (h.summary ∷ [])) refl refl refl refl (one_plain h.summary are.summary),
      (
        line_with (codes "LOCATION") (structured (h.location ∷ [])) refl refl refl refl (one_plain h.location are.location),
        (line_with (codes "DESCRIPTION") (structured (h.description ∷ [])) refl refl refl refl (one_plain h.description are.description), tt),
      ),
    ),
  ),
)

calendar_plain : IsPlain (codes "VCALENDAR")
calendar_plain = record { no_return = refl; no_feed = refl }

event_plain : IsPlain (codes "VEVENT")
event_plain = record { no_return = refl; no_feed = refl }

version_plain : IsPlain (codes "2.0")
version_plain = record { no_return = refl; no_feed = refl }

product_plain : IsPlain (codes "-//Goqlanis//Contents//EN")
product_plain = record { no_return = refl; no_feed = refl }

first_content : AreContent first_lines
first_content = (
  line_with (codes "BEGIN") (codes "VCALENDAR") refl refl refl refl calendar_plain,
  (
    line_with (codes "VERSION") (codes "2.0") refl refl refl refl version_plain,
    (
      line_with (codes "PRODID") (codes "-//Goqlanis//Contents//EN") refl refl refl refl product_plain,
      (line_with (codes "BEGIN") (codes "VEVENT") refl refl refl refl event_plain, tt),
    ),
  ),
)

last_content : AreContent last_lines
last_content = (
  line_with (codes "END") (codes "VEVENT") refl refl refl refl event_plain,
  (line_with (codes "END") (codes "VCALENDAR") refl refl refl refl calendar_plain, tt),
)

-- ---- components

-- the line ends a component
abbrev is_end : Parameter → Bool
is_end p = bytes_eq (codes "END") p.0

kept_by : (name key value : List ℕ) (ps : List Parameter) (rest later : List Entry) (some : Bool) → is_filled value ≡ some → is_end (key, value) ≡ false → before_end name (filled_entries (entries_of ps) ++ rest) ≡ Some (filled_entries (entries_of ps) ++ later) → before_end name (filled_entries (entries_of ((key, value) ∷ ps)) ++ rest) ≡ Some (filled_entries (entries_of ((key, value) ∷ ps)) ++ later)
kept_by name key value ps rest later true is other kept = rw (is, other) (ap (option_map (λ xs. single key value ∷ xs)) kept)
kept_by name key value ps rest later false is other kept = rw is kept

-- lines that end no component are kept by `before_end`
kept_lines : (name : List ℕ) (ps : List Parameter) (rest later : List Entry) → list_any is_end ps ≡ false → before_end name rest ≡ Some later → before_end name (filled_entries (entries_of ps) ++ rest) ≡ Some (filled_entries (entries_of ps) ++ later)
kept_lines name [] rest later none is = is
kept_lines name ((key, value) ∷ ps) rest later none is =
    let parts = neither (is_end (key, value)) (list_any is_end ps) none in
    kept_by name key value ps rest later (is_filled value) refl parts.0 (kept_lines name ps rest later parts.1 is)

filled_by : (key value : List ℕ) (ps qs : List Parameter) (some : Bool) → is_filled value ≡ some → filled_entries (entries_of (ps ++ qs)) ≡ filled_entries (entries_of ps) ++ filled_entries (entries_of qs) → filled_entries (entries_of ((key, value) ∷ (ps ++ qs))) ≡ filled_entries (entries_of ((key, value) ∷ ps)) ++ filled_entries (entries_of qs)
filled_by key value ps qs true is later = rw is (ap (λ xs. single key value ∷ xs) later)
filled_by key value ps qs false is later = rw is later

filled-append : (ps qs : List Parameter) → filled_entries (entries_of (ps ++ qs)) ≡ filled_entries (entries_of ps) ++ filled_entries (entries_of qs)
filled-append [] qs = refl
filled-append ((key, value) ∷ ps) qs = filled_by key value ps qs (is_filled value) refl (filled-append ps qs)

-- the lines of the calendar, without those that have no value
abbrev inside : List Parameter → List Entry
inside ps =
    single (codes "VERSION") (codes "2.0") ∷ single (codes "PRODID") (codes "-//Goqlanis//Contents//EN")
    ∷ single (codes "BEGIN") (codes "VEVENT") ∷ (filled_entries (entries_of ps) ++ single (codes "END") (codes "VEVENT") ∷ [])

-- the lines after those of the event
abbrev ends : List Entry
ends = single (codes "END") (codes "VEVENT") ∷ single (codes "END") (codes "VCALENDAR") ∷ behind_last

-- the lines before those of the event, and then `lines`
abbrev opened : List Entry → List Entry
opened lines =
    single (codes "BEGIN") (codes "VCALENDAR") ∷ single (codes "VERSION") (codes "2.0")
    ∷ single (codes "PRODID") (codes "-//Goqlanis//Contents//EN") ∷ single (codes "BEGIN") (codes "VEVENT") ∷ lines

all_read : (ps : List Parameter) → AreContent ps → read_content (content_text (first_lines ++ (ps ++ last_lines))) ≡ opened (filled_entries (entries_of ps) ++ ends)
all_read ps are =
    lines_read (first_lines ++ (ps ++ last_lines)) (AreContent-append first_lines (ps ++ last_lines) first_content (AreContent-append ps last_lines are last_content))
    ∙ ap (λ xs. opened (xs ++ behind_last)) (filled-append ps last_lines)
    ∙ ap opened (append_assoc (filled_entries (entries_of ps)) (filled_entries (entries_of last_lines)) behind_last)

-- the calendar is found
calendar_found : (ps : List Parameter) → list_any is_end ps ≡ false → component (codes "VCALENDAR") (opened (filled_entries (entries_of ps) ++ ends)) ≡ Some (inside ps)
calendar_found ps none =
    ap (λ o. option_map (λ xs. single (codes "VERSION") (codes "2.0") ∷ xs) (option_map (λ xs. single (codes "PRODID") (codes "-//Goqlanis//Contents//EN") ∷ xs) (option_map (λ xs. single (codes "BEGIN") (codes "VEVENT") ∷ xs) o)))
    (kept_lines (codes "VCALENDAR") ps ends (single (codes "END") (codes "VEVENT") ∷ []) none refl)

-- the event is found in it
event_found : (ps : List Parameter) → list_any is_end ps ≡ false → component (codes "VEVENT") (inside ps) ≡ Some (filled_entries (entries_of ps))
event_found ps none =
    kept_lines (codes "VEVENT") ps (single (codes "END") (codes "VEVENT") ∷ []) [] none refl
    ∙ ap Some (append-nil (filled_entries (entries_of ps)))

-- ---- fields

same_happening : (h : Happening) (uid summary location description : List ℕ) → uid ≡ h.uid → summary ≡ h.summary → location ≡ h.location → description ≡ h.description → (let x : Happening = record { uid = uid; stamp = h.stamp; span = h.span; summary = summary; location = location; description = description } in x) ≡ h
same_happening h uid summary location description h₁ h₂ h₃ h₄ = rw (h₁, h₂, h₃, h₄) refl

-- the lines have the values of the event
record Says (h : Happening) (lines : List Entry) : Type 0 where
  uid : value_of (codes "UID") lines ≡ structured (h.uid ∷ [])
  stamp : read_or_none read_moment (value_of (codes "DTSTAMP") lines) ≡ Some h.stamp
  span : span_in lines ≡ Some h.span
  summary : value_of (codes "SUMMARY") lines ≡ structured (h.summary ∷ [])
  location : value_of (codes "LOCATION") lines ≡ structured (h.location ∷ [])
  description : value_of (codes "DESCRIPTION") lines ≡ structured (h.description ∷ [])

happening_said : (h : Happening) (lines : List Entry) → Says h lines → happening_in lines ≡ Some h
happening_said h lines says =
    rw (says.uid, says.stamp, says.span, says.summary, says.location, says.description)
    (ap Some (same_happening h _ _ _ _ (part_read 0 h.uid []) (part_read 0 h.summary []) (part_read 0 h.location []) (part_read 0 h.description [])))

stamp_read : (s : Option Moment) → wrong_stamp s ≡ false → read_or_none read_moment (stamp_text s) ≡ Some s
stamp_read None is = refl
stamp_read (Some m) is = rw (filled_moment m (holds (is_moment m) is), moment_read m (holds (is_moment m) is)) refl

days_said : (first end : Day) (lines : List Entry) → is_day first ≡ true → is_day end ≡ true → value_of (codes "DTSTART;VALUE=DATE") lines ≡ day_text first → value_of (codes "DTEND;VALUE=DATE") lines ≡ day_text end → span_in lines ≡ Some (Days first end)
days_said first end lines begins ends h₁ h₂ = rw (h₁, h₂, filled_day first begins, day_read first begins, day_read end ends) refl

times_said : (begin end : Moment) (lines : List Entry) → is_moment begin ≡ true → is_moment end ≡ true → value_of (codes "DTSTART;VALUE=DATE") lines ≡ [] → value_of (codes "DTSTART") lines ≡ moment_text begin → value_of (codes "DTEND") lines ≡ moment_text end → span_in lines ≡ Some (Times begin end)
times_said begin end lines begins ends none h₁ h₂ = rw (none, h₁, h₂, moment_read begin begins, moment_read end ends) refl

says_by : (uid : List ℕ) (stamp : Option Moment) (span : Span) (summary location description : List ℕ) → let h : Happening = record { uid = uid; stamp = stamp; span = span; summary = summary; location = location; description = description } in IsSayable h → Says h (filled_entries (entries_of (event_lines h)))
says_by uid stamp (Days first end) summary location description are =
    let h : Happening = record { uid = uid; stamp = stamp; span = Days first end; summary = summary; location = location; description = description } in
    let es = entries_of (event_lines h) in
    record {
      uid = part_of-filled (codes "UID") 0 es refl;
      stamp = ap (read_or_none read_moment) (part_of-filled (codes "DTSTAMP") 0 es refl) ∙ stamp_read stamp are.stamp;
      span = days_said first end (filled_entries es) (holds (is_day first) are.begins) (holds (is_day end) are.ends) (part_of-filled (codes "DTSTART;VALUE=DATE") 0 es refl) (part_of-filled (codes "DTEND;VALUE=DATE") 0 es refl);
      summary = part_of-filled (codes "SUMMARY") 0 es refl;
      location = part_of-filled (codes "LOCATION") 0 es refl;
      description = part_of-filled (codes "DESCRIPTION") 0 es refl;
    }
says_by uid stamp (Times begin end) summary location description are =
    let h : Happening = record { uid = uid; stamp = stamp; span = Times begin end; summary = summary; location = location; description = description } in
    let es = entries_of (event_lines h) in
    record {
      uid = part_of-filled (codes "UID") 0 es refl;
      stamp = ap (read_or_none read_moment) (part_of-filled (codes "DTSTAMP") 0 es refl) ∙ stamp_read stamp are.stamp;
      span = times_said begin end (filled_entries es) (holds (is_moment begin) are.begins) (holds (is_moment end) are.ends) (part_of-filled (codes "DTSTART;VALUE=DATE") 0 es refl) (part_of-filled (codes "DTSTART") 0 es refl) (part_of-filled (codes "DTEND") 0 es refl);
      summary = part_of-filled (codes "SUMMARY") 0 es refl;
      location = part_of-filled (codes "LOCATION") 0 es refl;
      description = part_of-filled (codes "DESCRIPTION") 0 es refl;
    }

no_ends : (h : Happening) (span : Span) → h.span ≡ span → list_any is_end (event_lines h) ≡ false
no_ends h (Days first end) is = rw is refl
no_ends h (Times begin end) is = rw is refl

-- reading the text gives back the fields
pub event_read : (h : Happening) → event_refusal h ≡ None → read_event (event_text h) ≡ Some h
unfolding event_text read_event
event_read h is =
    let are = sayable h is in
    let ps = event_lines h in
    let none = no_ends h h.span refl in
    ap (λ lines. option_and_then calendar_event (component (codes "VCALENDAR") lines)) (all_read ps (event_content h are))
    ∙ ap (option_and_then calendar_event) (calendar_found ps none)
    ∙ ap (option_and_then happening_in) (event_found ps none)
    ∙ happening_said h (filled_entries (entries_of ps)) (says_by h.uid h.stamp h.span h.summary h.location h.description are)
