-- Errors of the library as causes of the calls for C.
use Rattle.std.proofs.Common.{◌≡◌, ℕ, List, IsTrue, refl, sym, subst, inl, inr}
use Rattle.std.specs.Prelude.{IsUtf8}
use Rattle.qrcode_bits.specs.Manners.{is_text}
use Rattle.qrcode_types.specs.declared.types.QrError.{QrError}
use Rattle.qrcode_types.specs.declared.types.QrError.TheVariants.{DataTooLong, OutOfMemory}
use Rattle.qrcode.specs.Code.{Code}
use Rattle.goqlanis_request.specs.Symbols.{IsRefusedFor}
use Rattle.goqlanis_buffers.specs.Options.{HasNoSymbol, IsAsked, IsMadeAs, IsOptionsCause}
use Rattle.goqlanis_buffers.specs.Segments.{refusal_in}
use Rattle.goqlanis_buffers.specs.Symbols.{IsMaskingCause}
use Rattle.goqlanis_buffers.specs.declared.answers.Refusal.{Refusal}
use Rattle.goqlanis_buffers.specs.declared.options.CodeSettings.{CodeSettings}
use Rattle.goqlanis_buffers.specs.declared.options.Options.{Options}

-- an error of the constructors is the cause of that error of a call with options
no_symbol : (o : Options) (bytes : List ℕ) (room : ℕ) (e : QrError) → HasNoSymbol o bytes (refusal_in e) → IsOptionsCause o bytes room (refusal_in e)
no_symbol o bytes room DataTooLong h = h
no_symbol o bytes room e h = h

pub refused_as : (o : Options) (a : CodeSettings) (bytes : List ℕ) (e : QrError) (refusal : Refusal) → refusal ≡ refusal_in e → IsAsked o a
    → (IsTrue (is_text a.manner) → IsUtf8 bytes) → IsRefusedFor a.choice a.manner a.level bytes e → (room : ℕ) → IsOptionsCause o bytes room refusal
refused_as o a bytes e refusal is named text cause room =
    subst (IsOptionsCause o bytes room) (sym is) (no_symbol o bytes room e (record {
      asked = a;
      named = named;
      text = text;
      error = e;
      reported = refl;
      cause = cause;
    }))

-- a missing mask or too small a buffer is the cause of that error of a call with options
pub masked_as : (o : Options) (a : CodeSettings) (bytes : List ℕ) (own : Code) (room : ℕ) (refusal : Refusal) → IsAsked o a → IsMadeAs a bytes own → IsMaskingCause a.mask own room refusal
    → IsOptionsCause o bytes room refusal
masked_as o a bytes own room refusal named made (inl is) =
    subst (IsOptionsCause o bytes room) (sym is) (record { asked = a; named = named; text = made.text; error = OutOfMemory; reported = refl; cause = inl refl })
masked_as o a bytes own room refusal named made (inr (inl lacks)) =
    subst (IsOptionsCause o bytes room) (sym lacks.0) (record { asked = a; named = named; lacks = (own, (made, lacks.1)) })
masked_as o a bytes own room refusal named made (inr (inr small)) =
    subst (IsOptionsCause o bytes room) (sym small.0)
    (small.1.0, (record { asked = a; named = named; own = own; made = made; masked = small.1.1.0 }, small.1.1.1))
