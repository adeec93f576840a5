use Rattle.std.proofs.Common.{[], ◌∷◌, codes}
use Rattle.qrcode_contents.specs.fields.ContentLines.{folded_from, structured}
use Rattle.qrcode_contents.specs.Event.{happening_of, event_text, span_lines, stamp_text}
use Rattle.qrcode_contents.proofs.PushedEvents.{event_pushed}
use Rattle.qrcode_contents.proofs.event.Event.written.Goals as goal

pub returns-clause-value : goal.returns-clause-value
unfolding event_text folded_from
returns-clause-value c =
    let h = happening_of c.args.self.now in
    event_pushed (codes "UID", structured (h.uid ∷ [])) (codes "DTSTAMP", stamp_text h.stamp) (span_lines h.span)
    ((codes "SUMMARY", structured (h.summary ∷ [])) ∷ (codes "LOCATION", structured (h.location ∷ [])) ∷ (codes "DESCRIPTION", structured (h.description ∷ [])) ∷ [])
    _ _ _ _ _ _ c.in_ok-text.ensures.ok c.in_ok-push_texts.ensures.appends c.in_ok-push_stamp.ensures.appends c.in_ok-push.ensures.appends c.in_ok-push_texts-2.ensures.appends c.in_ok-push_str.ensures.bytes
