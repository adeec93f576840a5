-- What a run of the program does: it writes its output, or says why it wrote nothing.
use Rattle.std.specs.Prelude.{◌≡◌, ℕ, List, ⊤, Option, Result, MatchResult}
use Rattle.std.specs.Io.KnownBytes.{Appends}
use Rattle.qrcode_types.specs.declared.types.QrError.{QrError}
use Rattle.qrencode.specs.declared.program.Fault.{Fault}
use Rattle.qrencode.specs.declared.program.Fault.TheVariants.{MissingArgument, Qr, CannotWrite}

abbrev pub IsCannotWrite : Fault → Type 0  -- the writer failed
IsCannotWrite CannotWrite = ⊤
IsCannotWrite MissingArgument = ⊥
IsCannotWrite (Qr e) = ⊥

-- why a run failed: the output could not be made, and nothing was written; or it was made, and writing failed
abbrev pub IsCause : (List ℕ → Type 0) → (QrError → Type 0) → Option (List ℕ) → Option (List ℕ) → Fault → Type 0
IsCause Made Refused old new (Qr e) = Refused e × (new ≡ old)
IsCause Made Refused old new CannotWrite = (bytes : List ℕ) × Made bytes
IsCause Made Refused old new MissingArgument = ⊥

-- a run wrote all of its output, or failed for one of these causes
abbrev pub IsRun : (List ℕ → Type 0) → (QrError → Type 0) → Option (List ℕ) → Option (List ℕ) → Result Unit Fault → Type 0
IsRun Made Refused old new result =
    MatchResult result (λ _. (bytes : List ℕ) × Made bytes × Appends old new bytes) (IsCause Made Refused old new)
