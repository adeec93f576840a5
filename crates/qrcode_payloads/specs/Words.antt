-- Words for values, in upper or lower case.
use Rattle.std.specs.Prelude.{ℕ, Bool, true, false, List, [], ◌∷◌, map, codes, Option, Some, None, if◌then◌else◌}
use Rattle.std.specs.Char.{to_ascii_lowercase}
use Rattle.std.specs.Str.{bytes_eq}
use Rattle.qrcode_contents.specs.declared.bill.Currency.{Currency}
use Rattle.qrcode_contents.specs.declared.bill.Currency.TheVariants.{Franc, Euro}
use Rattle.qrcode_contents.specs.declared.one_time.Algorithm.{Algorithm}
use Rattle.qrcode_contents.specs.declared.one_time.Algorithm.TheVariants.{Sha1, Sha256, Sha512}
use Rattle.qrcode_contents.specs.declared.one_time.Digits.{Digits}
use Rattle.qrcode_contents.specs.declared.one_time.Digits.TheVariants.{Six, Eight}
use Rattle.qrcode_contents.specs.declared.wifi.Security.{Security}
use Rattle.qrcode_contents.specs.declared.wifi.Security.TheVariants.{Open, Wep, Wpa, Wpa3}

abbrev pub is_word : List ℕ → List ℕ → Bool  -- the text is this word; ASCII case is ignored
is_word text word = bytes_eq (map to_ascii_lowercase text) (map to_ascii_lowercase word)

abbrev pub named : {A : Type 0} → List (List ℕ × A) → List ℕ → Option A  -- the value of the first of these words that the text is; None if it is none of them
named [] text = None
named (word ∷ words) text = if is_word text word.0 then Some word.1 else named words text

abbrev pub security_words : List (List ℕ × Security)  -- the words for the security of a network
security_words =
    (codes "open", Open) ∷ (codes "nopass", Open) ∷ (codes "none", Open) ∷ (codes "WEP", Wep) ∷ (codes "WPA", Wpa)
    ∷ (codes "WPA2", Wpa) ∷ (codes "WPA3", Wpa3) ∷ (codes "SAE", Wpa3) ∷ []

abbrev pub currency_words : List (List ℕ × Currency)  -- the words for the currency of a bill
currency_words = (codes "CHF", Franc) ∷ (codes "EUR", Euro) ∷ []

abbrev pub algorithm_words : List (List ℕ × Algorithm)  -- the words for the hash function of one-time passwords
algorithm_words =
    (codes "SHA1", Sha1) ∷ (codes "SHA256", Sha256) ∷ (codes "SHA512", Sha512)
    ∷ (codes "SHA-1", Sha1) ∷ (codes "SHA-256", Sha256) ∷ (codes "SHA-512", Sha512) ∷ []

abbrev pub digits_words : List (List ℕ × Digits)  -- the words for the number of digits of a one-time password
digits_words = (codes "6", Six) ∷ (codes "8", Eight) ∷ []

abbrev pub flag_words : List (List ℕ × Bool)  -- the words for yes and no
flag_words = (codes "true", true) ∷ (codes "false", false) ∷ []
