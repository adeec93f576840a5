-- The text of a network is read back.
use Rattle.std.proofs.Common.{◌≡◌, ℕ, List, Bool, true, Some, codes, refl, ap, ◌∙◌, arith}
use Rattle.std.specs.Option.{option_and_then}
use Rattle.std.proofs.lemmas.Bool.Decides.{nat_tests}
use Rattle.qrcode_contents.specs.declared.wifi.Security.{Security}
use Rattle.qrcode_contents.specs.fields.Entries.{Entry, filled_entries}
use Rattle.qrcode_contents.specs.fields.EntryTests.{are_distinct}
use Rattle.qrcode_contents.specs.Wifi.{Network, wifi_entries, wifi_text, network_of, read_wifi}
use Rattle.qrcode_contents.proofs.EntryReading.{read_entries-text, part_of-filled}

network_of-filled : (es : List Entry) → are_distinct es ≡ true → network_of (filled_entries es) ≡ network_of es
network_of-filled es are =
    rw (part_of-filled (codes "T") 0 es are, part_of-filled (codes "S") 0 es are, part_of-filled (codes "P") 0 es are, part_of-filled (codes "H") 0 es are) refl

network_said : (security : Security) (ssid password : List ℕ) (hidden : Bool) → let n : Network = record { security = security; ssid = ssid; password = password; hidden = hidden } in network_of (wifi_entries n) ≡ Some n
network_said security ssid password hidden = grind (arith, nat_tests)

-- reading the text gives back the fields
pub wifi_read : (n : Network) → read_wifi (wifi_text n) ≡ Some n
wifi_read n =
    ap (option_and_then network_of) (read_entries-text (codes "WIFI:") (wifi_entries n) refl)
    ∙ network_of-filled (wifi_entries n) refl
    ∙ network_said n.security n.ssid n.password n.hidden
