-- What text a reader shows, and that each error has its cause.
use Rattle.std.proofs.Common.{◌≡◌, ℕ, Bool, List, ap, subst, ◌⊎◌}
use Rattle.qrcode_types.specs.declared.types.Version.{Version}
use Rattle.qrcode_types.specs.declared.types.EcLevel.{EcLevel}
use Rattle.qrcode_types.specs.declared.types.Color.{Color}
use Rattle.qrcode_layout.specs.declared.masks.MaskPattern.{MaskPattern}
use Rattle.qrcode_symbol.specs.Reading.{ReadsBitsOnly}
use Rattle.qrcode_bits.specs.Shown.{Shows, ShowsOnly}
use Rattle.qrcode_reader.specs.declared.spell.refusals.Unshown as showing
use Rattle.qrcode.specs.Texts.{ShowsText}
use Rattle.qrcode_reader.specs.Refusals.{unread_text_of}
use Rattle.qrcode_reader.specs.Readings.{IsBitReading, IsTextReading, IsTextCause}
use Rattle.qrcode_reader.specs.declared.correction.WrongCodeword.{WrongCodeword}
use Rattle.qrcode_reader.specs.declared.refusals.UnreadText.{UnreadText}
use Rattle.qrcode_reader.specs.declared.refusals.UnreadText.TheVariants.{NoBits, NotShown}
use Rattle.qrcode_reader.specs.declared.refusals.Unread.TheVariants.{OutOfMemory}
use Rattle.qrcode_reader.proofs.Refused.{only_memory, caused}

-- what a reader shows for a square, and why nothing, by its only bits
shown_of_bits : (s : List Color) (v : Version) (l : EcLevel) (bits : List Bool) (text : List ℕ) → ReadsBitsOnly s v l bits → (q : ShowsText s text) → Shows v bits text
shown_of_bits s v l bits text only q =
    let e = only.only q.version q.level q.bits q.read in
    subst (λ b. Shows v b text) e.2 (subst (λ u. Shows u q.bits text) e.0 q.shown)

-- a square with a cause other than memory shows no text
pub text_only_memory : (s : List Color) (e : UnreadText) → IsTextCause s e → (text : List ℕ) → ShowsText s text → e ≡ NoBits OutOfMemory
text_only_memory s (NoBits e) cause text q = ap NoBits (only_memory s e cause q.version q.level q.bits q.read)
text_only_memory s NotShown cause text q = absurd (cause.none text (shown_of_bits s cause.version cause.level cause.bits text cause.only q))

-- if the bits show a text, the square does
pub text_reading : (s : List Color) (v : Version) (l : EcLevel) (k : MaskPattern) (bits given : List Bool) (text : List ℕ) (wrong : List WrongCodeword) → IsBitReading s v l k bits wrong → given ≡ bits
    → ShowsOnly v given text → IsTextReading s v l k text wrong
text_reading s v l k bits given text wrong read e shows =
    let here = subst (λ b. ShowsOnly v b text) e shows in
    record {
      only = record {
        found = record { version = v; level = l; bits = bits; read = read.only.found; shown = here.found };
        only = λ others q. here.only others (shown_of_bits s v l bits others read.only q);
      };
      bits = bits;
      read = read;
      shown = here.found;
    }

-- if the bits show no text, that is the cause
pub unshown : (s : List Color) (v : Version) (l : EcLevel) (bits given : List Bool) (e : showing.Unshown) → ReadsBitsOnly s v l bits → given ≡ bits
    → (e ≡ showing.TheVariants.OutOfMemory) ⊎ ((e ≡ showing.TheVariants.NotShown) × ((text : List ℕ) → ¬ Shows v given text)) → IsTextCause s (unread_text_of e)
unshown s v l bits given e only same why =
    caused (λ e. IsTextCause s (unread_text_of e)) ((text : List ℕ) → ¬ Shows v given text) showing.TheVariants.OutOfMemory showing.TheVariants.NotShown e tt
    (λ none. record { version = v; level = l; bits = bits; only = only; none = subst (λ b. (text : List ℕ) → ¬ Shows v b text) same none }) why
