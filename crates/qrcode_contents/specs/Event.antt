-- Events as iCalendar (RFC 5545): one event in a calendar object.
use Rattle.std.specs.Prelude.{◌≡◌, ℕ, ◌&&◌, not, nat_le, Bool, false, List, [], ◌∷◌, ◌++◌, Option, Some, None, slice_index_or, codes, if◌then◌else◌, refl}
use Rattle.std.specs.Str.{bytes_eq}
use Rattle.std.specs.List.{list_any}
use Rattle.std.specs.Option.{option_map, option_and_then}
use Rattle.qrcode_contents.specs.declared.fields.errors.ContentError.{ContentError}
use Rattle.qrcode_contents.specs.declared.fields.errors.Field.TheVariants.{Uid, Stamp, Begin, End, Summary, Location, Description}
use Rattle.qrcode_contents.specs.declared.fields.errors.Cause.TheVariants.{ControlCharacter, Range}
use Rattle.qrcode_contents.specs.fields.Characters.{is_control, is_other_control}
use Rattle.qrcode_contents.specs.fields.ContentLines.{content_text, structured, unfolded, read_content, part_in}
use Rattle.qrcode_contents.specs.fields.Entries.{Entry, is_filled, read_or_none, value_of}
use Rattle.qrcode_contents.specs.fields.Escapes.{unescaped_from, pieces_from}
use Rattle.qrcode_contents.specs.fields.Links.{Parameter}
use Rattle.qrcode_contents.specs.fields.Refusals.{refused_if, first_refusal}
use Rattle.qrcode_contents.specs.declared.times.Moment.{Moment}
use Rattle.qrcode_contents.specs.declared.event.Span.{Span}
use Rattle.qrcode_contents.specs.declared.event.Span.TheVariants.{Days, Times}
use Rattle.qrcode_contents.specs.declared.event.Event.{Event}
use Rattle.qrcode_contents.specs.Times.{is_day, is_moment, day_number, moment_number, day_text, moment_text, read_day, read_moment}

pub record Happening : Type 0 where  -- the fields of an event, with texts as bytes
  pub uid : List ℕ
  pub stamp : Option Moment
  pub span : Span
  pub summary : List ℕ
  pub location : List ℕ
  pub description : List ℕ

abbrev pub happening_of : Event → Happening  -- the fields of an `Event`
happening_of e = record {
  uid = e.uid.now;
  stamp = e.stamp;
  span = e.span;
  summary = e.summary.now;
  location = e.location.now;
  description = e.description.now;
}

abbrev pub wrong_stamp : Option Moment → Bool  -- a time is given that does not exist
wrong_stamp None = false
wrong_stamp (Some m) = not (is_moment m)

abbrev pub begins_never : Span → Bool  -- the beginning does not exist
begins_never (Days first end) = not (is_day first)
begins_never (Times begin end) = not (is_moment begin)

abbrev pub ends_never : Span → Bool  -- the end does not exist
ends_never (Days first end) = not (is_day end)
ends_never (Times begin end) = not (is_moment end)

abbrev pub ends_early : Span → Bool  -- the end is not after the beginning
ends_early (Days first end) = nat_le (day_number end) (day_number first)
ends_early (Times begin end) = nat_le (moment_number end) (moment_number begin)

-- the checks of the fields, in order: texts may have tabs and line feeds, the identifier no control character
abbrev pub event_checks : Happening → List (Option ContentError)
event_checks h =
    refused_if (list_any is_control h.uid) Uid ControlCharacter
    ∷ refused_if (wrong_stamp h.stamp) Stamp Range
    ∷ refused_if (begins_never h.span) Begin Range
    ∷ refused_if (ends_never h.span) End Range
    ∷ refused_if (ends_early h.span) End Range
    ∷ refused_if (list_any is_other_control h.summary) Summary ControlCharacter
    ∷ refused_if (list_any is_other_control h.location) Location ControlCharacter
    ∷ refused_if (list_any is_other_control h.description) Description ControlCharacter
    ∷ []

unfoldable pub event_refusal : Happening → Option ContentError  -- the error of the first check that fails
event_refusal h = first_refusal (event_checks h)

abbrev pub span_lines : Span → List Parameter  -- the lines of the beginning and the end
span_lines (Days first end) =
    (codes "DTSTART;VALUE=DATE", day_text first) ∷ (codes "DTEND;VALUE=DATE", day_text end) ∷ []
span_lines (Times begin end) = (codes "DTSTART", moment_text begin) ∷ (codes "DTEND", moment_text end) ∷ []

abbrev pub stamp_text : Option Moment → List ℕ  -- the text of the time when an event was written; empty for None
stamp_text None = []
stamp_text (Some m) = moment_text m

abbrev pub event_lines : Happening → List Parameter  -- the lines of the event
event_lines h =
    (codes "UID", structured (h.uid ∷ [])) ∷ (codes "DTSTAMP", stamp_text h.stamp)
    ∷ (span_lines h.span
    ++ ((codes "SUMMARY", structured (h.summary ∷ [])) ∷ (codes "LOCATION", structured (h.location ∷ []))
    ∷ (codes "DESCRIPTION", structured (h.description ∷ [])) ∷ []))

abbrev pub first_lines : List Parameter  -- the lines before those of the event
first_lines =
    (codes "BEGIN", codes "VCALENDAR") ∷ (codes "VERSION", codes "2.0")
    ∷ (codes "PRODID", codes "-//Goqlanis//Contents//EN") ∷ (codes "BEGIN", codes "VEVENT") ∷ []

abbrev pub last_lines : List Parameter  -- the lines after those of the event
last_lines = (codes "END", codes "VEVENT") ∷ (codes "END", codes "VCALENDAR") ∷ []

unfoldable pub event_text : Happening → List ℕ  -- the text of an event
event_text h = content_text (first_lines ++ (event_lines h ++ last_lines))

abbrev pub is_line : List ℕ → List ℕ → Entry → Bool  -- a line with this key and this value
is_line key value line = bytes_eq key line.0 && bytes_eq value (slice_index_or line.1 0 [])

-- the lines before the end of a component; None if it has no end
abbrev pub before_end : List ℕ → List Entry → Option (List Entry)
before_end name [] = None
before_end name (line ∷ lines) =
    if is_line (codes "END") name line then Some [] else option_map (λ later. line ∷ later) (before_end name lines)

abbrev pub component : List ℕ → List Entry → Option (List Entry)  -- the lines of the first component with this name; None if there is none
component name [] = None
component name (line ∷ lines) = if is_line (codes "BEGIN") name line then before_end name lines else component name lines

abbrev pub span_in : List Entry → Option Span  -- the beginning and the end: both are days, or both are times
span_in lines =
    if is_filled (value_of (codes "DTSTART;VALUE=DATE") lines)
    then option_and_then (λ first. option_map (λ end. Days first end) (read_day (value_of (codes "DTEND;VALUE=DATE") lines)))
    (read_day (value_of (codes "DTSTART;VALUE=DATE") lines))
    else option_and_then (λ begin. option_map (λ end. Times begin end) (read_moment (value_of (codes "DTEND") lines)))
    (read_moment (value_of (codes "DTSTART") lines))

abbrev pub happening_in : List Entry → Option Happening  -- the event of these lines; None if it cannot be read
happening_in lines =
    option_and_then (λ stamp. option_map (λ span. record {
      uid = part_in 0 (value_of (codes "UID") lines);
      stamp = stamp;
      span = span;
      summary = part_in 0 (value_of (codes "SUMMARY") lines);
      location = part_in 0 (value_of (codes "LOCATION") lines);
      description = part_in 0 (value_of (codes "DESCRIPTION") lines);
    }) (span_in lines)) (read_or_none read_moment (value_of (codes "DTSTAMP") lines))

abbrev pub calendar_event : List Entry → Option Happening  -- the event of a calendar of version 2.0
calendar_event calendar =
    if bytes_eq (value_of (codes "VERSION") calendar) (codes "2.0")
    then option_and_then happening_in (component (codes "VEVENT") calendar)
    else None

unfoldable pub read_event : List ℕ → Option Happening  -- the event of a text; None if it cannot be read
read_event text = option_and_then calendar_event (component (codes "VCALENDAR") (read_content text))

-- the first example of RFC 5545, section 4, a Bastille Day party, in UTC
printed_event : read_event (codes "BEGIN:VCALENDAR\r\nVERSION:2.0\r\nPRODID:-//hacksw/handcal//NONSGML v1.0//EN\r\nBEGIN:VEVENT\r\nUID:19970610T172345Z-AF23B2@example.com\r\nDTSTAMP:19970610T172345Z\r\nDTSTART:19970714T170000Z\r\nDTEND:19970715T040000Z\r\nSUMMARY:Bastille Day Party\r\nEND:VEVENT\r\nEND:VCALENDAR\r\n")
    ≡ Some (let h : Happening = record {
      uid = codes "19970610T172345Z-AF23B2@example.com";
      stamp = Some (let m : Moment = record { day = record { year = 1997; month = 6; day = 10 }; hour = 17; minute = 23; second = 45 } in m);
      span = Times (record { day = record { year = 1997; month = 7; day = 14 }; hour = 17; minute = 0; second = 0 })
          (record { day = record { year = 1997; month = 7; day = 15 }; hour = 4; minute = 0; second = 0 });
      summary = codes "Bastille Day Party";
      location = [];
      description = [];
    } in h)
unfolding read_event read_content unfolded read_moment unescaped_from pieces_from
printed_event = refl
