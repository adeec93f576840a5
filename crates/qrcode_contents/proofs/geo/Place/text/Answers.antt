use Rattle.std.proofs.Common.{◌≡◌, Some}
use Rattle.qrcode_contents.specs.Geo.{place_refusal, place_text, read_place}
use Rattle.qrcode_contents.proofs.Answering.{answered}
use Rattle.qrcode_contents.proofs.GeoReading.{place_read}
use Rattle.qrcode_contents.proofs.geo.Place.text.Goals as goal

pub returns-clause-reads : goal.returns-clause-reads
returns-clause-reads c =
    let place = c.args.self.now in
    answered (place_refusal place) c.check.result c.in_ok-check.field-0 c.check.ensures c.in_ok-check.was c.written.result (place_text place) (λ text. read_place text ≡ Some place)
    c.written.ensures.value c.written.ensures.memory (place_read place)

pub returns-clause-value : goal.returns-clause-value
returns-clause-value c = c.written.ensures.value
