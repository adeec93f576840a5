use Rattle.std.proofs.Common.{◌≡◌, Some}
use Rattle.qrcode_contents.specs.Wifi.{wifi_fields, wifi_refusal, wifi_text, read_wifi}
use Rattle.qrcode_contents.proofs.Answering.{answered}
use Rattle.qrcode_contents.proofs.WifiReading.{wifi_read}
use Rattle.qrcode_contents.proofs.wifi.Wifi.text.Goals as goal

pub returns-clause-reads : goal.returns-clause-reads
returns-clause-reads c =
    let fields = wifi_fields c.args.self.now in
    answered (wifi_refusal fields) c.check.result c.in_ok-check.field-0 c.check.ensures c.in_ok-check.was c.written.result (wifi_text fields) (λ text. read_wifi text ≡ Some fields)
    c.written.ensures.value c.written.ensures.memory (λ none. wifi_read fields)

pub returns-clause-value : goal.returns-clause-value
returns-clause-value c = c.written.ensures.value
