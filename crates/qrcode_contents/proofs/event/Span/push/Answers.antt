use Rattle.std.proofs.Common.{◌≡◌, ◌++◌, ap, ◌∙◌, sym, subst, codes}
use Rattle.std.specs.Prelude.{string_bytes, OnOk}
use Rattle.qrcode_contents.specs.fields.ContentLines.{content_line, content_text}
use Rattle.qrcode_contents.specs.Event.{span_lines}
use Rattle.qrcode_contents.specs.Times.{day_text, moment_text}
use Rattle.qrcode_contents.proofs.PushedEvents.{two_lines}
use Rattle.qrcode_contents.proofs.event.Span.push.Goals as goal

pub returns-in_ok-push_day-in-Days-clause-appends : goal.returns-in_ok-push_day-in-Days-clause-appends
returns-in_ok-push_day-in-Days-clause-appends c =
    let first = content_line (codes "DTSTART;VALUE=DATE", day_text c.in-Days.first) in
    let end = content_line (codes "DTEND;VALUE=DATE", day_text c.in-Days.end) in
    subst (λ all. OnOk c.push_day-in-Days.result (string_bytes c.push_day-in-Days.new.text ≡ all))
    (ap (λ text. text ++ end) c.in_ok-push_day-in-Days.ensures.appends ∙ two_lines (string_bytes c.args.text.now) first end ∙ ap (λ span. string_bytes c.args.text.now ++ content_text (span_lines span)) (sym c.in-Days.is))
    c.push_day-in-Days.ensures.appends

pub returns-in_ok-push_moment-in-Times-clause-appends : goal.returns-in_ok-push_moment-in-Times-clause-appends
returns-in_ok-push_moment-in-Times-clause-appends c =
    let begin = content_line (codes "DTSTART", moment_text c.in-Times.begin) in
    let end = content_line (codes "DTEND", moment_text c.in-Times.end) in
    subst (λ all. OnOk c.push_moment-in-Times.result (string_bytes c.push_moment-in-Times.new.text ≡ all))
    (ap (λ text. text ++ end) c.in_ok-push_moment-in-Times.ensures.appends ∙ two_lines (string_bytes c.args.text.now) begin end ∙ ap (λ span. string_bytes c.args.text.now ++ content_text (span_lines span)) (sym c.in-Times.is))
    c.push_moment-in-Times.ensures.appends
