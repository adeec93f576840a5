use Rattle.std.proofs.Common.{◌≡◌, true, map}
use Rattle.qrcode_gs1.specs.Elements.{element_string, read_elements, are_apart}
use Rattle.qrcode_gs1.specs.Items.{item}
use Rattle.qrcode_gs1.specs.Refusals.{refusal_from}
use Rattle.qrcode_gs1.proofs.Reading.{answered, apart, checked_none, read_back, written_so}
use Rattle.qrcode_gs1.proofs.elements.element_string.Goals as goal

pub returns-clause-reads : goal.returns-clause-reads
returns-clause-reads c =
    let items = map item c.args.elements.now in
    let none = checked_none (refusal_from 0 items) c.check.result c.in_ok-check.field-0 c.check.ensures c.in_ok-check.was in
    answered _ c.written.result (element_string items) (λ bytes. read_elements bytes ≡ items) none c.written.ensures.value c.written.ensures.memory (read_back items none)

pub returns-clause-apart : goal.returns-clause-apart
returns-clause-apart c =
    let items = map item c.args.elements.now in
    let none = checked_none (refusal_from 0 items) c.check.result c.in_ok-check.field-0 c.check.ensures c.in_ok-check.was in
    written_so (λ bytes. are_apart bytes ≡ true) c.written.result (element_string items) (apart items none) c.written.ensures.value
