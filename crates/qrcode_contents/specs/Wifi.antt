-- Texts that join Wi-Fi networks: `WIFI:`, and entries with the keys T, S, P and H.
use Rattle.std.specs.Prelude.{ℕ, nat_lt, ◌&&◌, not, Bool, true, false, List, [], ◌∷◌, ◌++◌, length, Option, Some, None, flat_map, codes, if◌then◌else◌}
use Rattle.std.specs.Str.{bytes_eq}
use Rattle.std.specs.Option.{option_map, option_and_then}
use Rattle.qrcode_contents.specs.declared.fields.errors.ContentError.{ContentError}
use Rattle.qrcode_contents.specs.declared.fields.errors.Field.TheVariants.{Ssid, Password}
use Rattle.qrcode_contents.specs.declared.fields.errors.Cause.TheVariants.{Empty, TooLong, Unused}
use Rattle.qrcode_contents.specs.declared.wifi.Security.{Security}
use Rattle.qrcode_contents.specs.declared.wifi.Security.TheVariants.{Open, Wep, Wpa, Wpa3}
use Rattle.qrcode_contents.specs.declared.wifi.Wifi.{Wifi}
use Rattle.qrcode_contents.specs.fields.Refusals.{refused_if, first_refusal}
use Rattle.qrcode_contents.specs.fields.Entries.{Entry, single, is_empty, is_filled, marked_text, read_entries, value_of}

pub record Network : Type 0 where  -- the fields of a network, with texts as bytes
  pub security : Security
  pub ssid : List ℕ
  pub password : List ℕ
  pub hidden : Bool

abbrev pub wifi_fields : Wifi → Network  -- the fields of a `Wifi`
wifi_fields w = record { security = w.security; ssid = w.ssid.now; password = w.password.now; hidden = w.hidden }

abbrev pub security_name : Security → List ℕ  -- the name of a security in the text
security_name Open = codes "nopass"
security_name Wep = codes "WEP"
security_name Wpa = codes "WPA"
security_name Wpa3 = codes "SAE"

abbrev pub is_open : Security → Bool
is_open Open = true
is_open Wep = false
is_open Wpa = false
is_open Wpa3 = false

abbrev pub wifi_refusal : Network → Option ContentError  -- the error of the first wrong field
wifi_refusal n = first_refusal (
    refused_if (is_empty n.ssid) Ssid Empty
    ∷ refused_if (nat_lt 32 (length n.ssid)) Ssid TooLong
    ∷ refused_if (is_open n.security && is_filled n.password) Password Unused
    ∷ refused_if (not (is_open n.security) && is_empty n.password) Password Empty
    ∷ [])

abbrev pub wifi_entries : Network → List Entry  -- the entries of the text
wifi_entries n =
    single (codes "T") (security_name n.security) ∷ single (codes "S") n.ssid ∷ single (codes "P") n.password
    ∷ single (codes "H") (if n.hidden then codes "true" else []) ∷ []

abbrev pub wifi_text : Network → List ℕ  -- the text of a network
wifi_text n = codes "WIFI:" ++ (flat_map marked_text (wifi_entries n) ++ 59 ∷ [])

abbrev pub named_security : List ℕ → Option Security  -- the security with this name
named_security name =
    if bytes_eq name (codes "nopass") then Some Open
    else (if bytes_eq name (codes "WEP") then Some Wep
    else (if bytes_eq name (codes "WPA") then Some Wpa
    else (if bytes_eq name (codes "SAE") then Some Wpa3 else None)))

abbrev pub network_of : List Entry → Option Network  -- the network of these entries; None if the security is unknown
network_of entries = option_map (λ security. record {
  security = security;
  ssid = value_of (codes "S") entries;
  password = value_of (codes "P") entries;
  hidden = bytes_eq (value_of (codes "H") entries) (codes "true");
}) (named_security (value_of (codes "T") entries))

abbrev pub read_wifi : List ℕ → Option Network  -- the network of a text; None if it cannot be read
read_wifi text = option_and_then network_of (read_entries (codes "WIFI:") text)
