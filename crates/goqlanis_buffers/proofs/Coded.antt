-- Texts in character sets.
use Rattle.std.proofs.Common.{◌≡◌, ℕ, ◌+◌, ◌<◌, List, length, take, Option, Some, None, inl, inr, subst}
use Rattle.std.specs.Prelude.{chars, IfSome, IsUtf8}
use Rattle.qrcode.specs.Code.{Code}
use Rattle.qrcode_charsets.specs.Charsets.{Has}
use Rattle.qrcode_charsets.specs.Shortest.{IsAt, NoneHas}
use Rattle.qrcode_charsets.specs.declared.sets.Charset.{Charset}
use Rattle.goqlanis_request.specs.Charsets.{IsShortestOf}
use Rattle.goqlanis_buffers.specs.Charsets.{IsAskedOf, IsLacked, IsNotWritten, IsUncoded, IsUncodedIn}
use Rattle.goqlanis_buffers.specs.Symbols.{IsMaskingCause}
use Rattle.goqlanis_buffers.specs.declared.answers.Fault.{Fault}
use Rattle.goqlanis_buffers.specs.declared.answers.Fault.TheVariants.{At, Other}
use Rattle.goqlanis_buffers.specs.declared.answers.Refusal.{Refusal}
use Rattle.goqlanis_buffers.specs.declared.options.CodeSettings.{CodeSettings}
use Rattle.goqlanis_buffers.specs.declared.options.Options.{Options}

-- each set lacks a character, and the first of them this one first
pub lacked : (sets : List Charset) (text : List ℕ) (set : Charset) (result : Option ℕ) → NoneHas sets text → IsAt sets 0 set
    → IfSome result (λ place. (place < length text) × Has set (take place text) × ¬ Has set (take (place + 1) text)) → IfSome result (IsLacked sets text)
lacked sets text set None none at first = tt
lacked sets text set (Some place) none at first =
    record { none = none; set = set; first = at; within = first.0; before = first.1; lacks = first.2 }

-- the text has no symbol in the sets
pub uncoded : {o : Options} {numbers utf8 : List ℕ} (room : ℕ) (a : CodeSettings) (sets : List Charset) (text : List ℕ) (why : Fault)
    → IsAskedOf o numbers a sets → text ≡ utf8 → IsUtf8 utf8 → IsUncodedIn a sets text why → IsUncoded o numbers utf8 room why
uncoded room a sets text (At place refusal) named same is cause =
    inr (record { asked = a; sets = sets; named = named; text = is; cause = subst (λ u. IsUncodedIn a sets u (At place refusal)) same cause })
uncoded room a sets text (Other refusal) named same is cause =
    inr (inr (inr (inl (record { asked = a; sets = sets; named = named; text = is; cause = subst (λ u. IsUncodedIn a sets u (Other refusal)) same cause }))))

-- a symbol of the text is not written
pub unwritten : {o : Options} {numbers utf8 : List ℕ} {room : ℕ} {refusal : Refusal} (a : CodeSettings) (sets : List Charset) (set : Charset) (own : Code) (text : List ℕ)
    → IsAskedOf o numbers a sets → text ≡ utf8 → IsUtf8 utf8 → IsShortestOf a.choice sets a.level (chars text) set own → IsMaskingCause a.mask own room refusal
    → IsNotWritten o numbers utf8 room refusal
unwritten a sets set own text named same is made cause =
    let moved = subst (λ u. IsShortestOf a.choice sets a.level (chars u) set own) same made in
    record { asked = a; sets = sets; named = named; text = is; set = set; own = own; made = moved; cause = cause }
