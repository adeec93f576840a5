-- What each call does, and what C gets of it.
use Rattle.std.specs.Prelude.{◌≡◌, ◌≢◌, ℕ, List, length, Some, IsSomeAnd, Result, Ok, Err, IfOk, IfErr, OnErr}
use Rattle.goqlanis_buffers.specs.Answers.{refusal_of, IsDrawingCause, IsLeastCause, IsPicture, IsSegmentsCause}
use Rattle.goqlanis_buffers.specs.Answers.{IsAnyReadingCause, IsMaskCause, IsReadingCause, IsTextReadingCause}
use Rattle.goqlanis_buffers.specs.Options.{IsOptionsCause, IsSymbolWith}
use Rattle.goqlanis_buffers.specs.Outputs.{IsFilled, IsVersionAt, IsWrittenAs}
use Rattle.goqlanis_buffers.specs.Readings.{IsAnyReadInto, IsMaskNumber, IsReadInto, IsTextReadInto}
use Rattle.goqlanis_buffers.specs.Segments.{IsLeastHeld}
use Rattle.goqlanis_buffers.specs.Symbols.{IsSegmentsSymbol}
use Rattle.goqlanis_buffers.specs.declared.answers.Fault.{Fault}
use Rattle.goqlanis_buffers.specs.declared.answers.Fault.TheVariants.{At, Other}
use Rattle.goqlanis_buffers.specs.declared.answers.Refusal.{Refusal}
use Rattle.goqlanis_buffers.specs.declared.options.Options.{Options}
use Rattle.goqlanis_buffers.specs.declared.pictures.Drawing.{Drawing}
use Rattle.goqlanis_buffers.specs.declared.reading.AnyReading.{AnyReading}
use Rattle.goqlanis_buffers.specs.declared.reading.Reading.{Reading}
use Rattle.goqlanis_buffers.specs.declared.segments.Segment.{Segment}
use Rattle.goqlanis_buffers.specs.declared.symbols.Symbol.{Symbol}

-- what C gets of a result whose value goes to an output: 0 and the value, or the number of the error and the output unchanged
pub record IsAnswer {T : Type 0} (result : Result T Refusal) (number : ℕ) (old new : T) : Type 0 where
  pub ok : IfOk result (λ value. (number ≡ 0) × (new ≡ value))
  pub err : IfErr result (λ refusal. (refusal_of number ≡ Some refusal) × (new ≡ old))

-- a call for C does this: it returns 0 and a value in an output, or the number of an error and the output unchanged
pub record IsReported {T : Type 0} (Does : Result T Refusal → Type 0) (number : ℕ) (old new : T) : Type 0 where
  pub made : number ≡ 0 → Does (Ok new)
  pub refused : number ≢ 0 → IsSomeAnd (refusal_of number) (λ refusal. Does (Err refusal))
  pub unchanged : number ≢ 0 → new ≡ old

abbrev pub refusal_at : Fault → Refusal  -- the error
refusal_at (At n refusal) = refusal
refusal_at (Other refusal) = refusal

abbrev pub fault_place : Fault → ℕ → ℕ  -- the index or number of what is wrong; or as before, if no item is to blame
fault_place (At n refusal) before = n
fault_place (Other refusal) before = before

-- the same, if what is wrong goes to a second output
pub record IsAnswerAt {T : Type 0} (result : Result T Fault) (number : ℕ) (old new : T) (before after : ℕ) : Type 0 where
  pub ok : IfOk result (λ value. (number ≡ 0) × (new ≡ value) × (after ≡ before))
  pub err : IfErr result (λ fault. (refusal_of number ≡ Some (refusal_at fault)) × (new ≡ old) × (after ≡ fault_place fault before))

-- an error is reported, and what is wrong
pub record IsFault (Cause : Fault → Type 0) (number before after : ℕ) : Type 0 where
  pub fault : Fault
  pub cause : Cause fault
  pub answered : refusal_of number ≡ Some (refusal_at fault)
  pub placed : after ≡ fault_place fault before

-- a call for C does this: it returns 0 and a value in an output; or the number of an error with the output unchanged, and reports what is wrong
pub record IsReportedAt {T : Type 0} (Does : Result T Fault → Type 0) (number : ℕ) (old new : T) (before after : ℕ) : Type 0 where
  pub made : number ≡ 0 → Does (Ok new)
  pub place_unchanged : number ≡ 0 → after ≡ before
  pub refused : number ≢ 0 → IsFault (λ fault. Does (Err fault)) number before after
  pub unchanged : number ≢ 0 → new ≡ old

-- a call that returns a value, or fails for a cause
pub record Tells {T : Type 0} (Made : T → Type 0) (Cause : Refusal → Type 0) (result : Result T Refusal) : Type 0 where
  pub made : IfOk result Made
  pub causes : IfErr result Cause

-- a call that also writes to a buffer, which is unchanged after an error
pub record Writes {A T E : Type 0} (Made : List A → T → Type 0) (Cause : E → Type 0) (old new : List A) (result : Result T E) : Type 0 where
  pub made : IfOk result (Made new)
  pub unchanged : OnErr result (new ≡ old)
  pub causes : IfErr result Cause

-- writes the symbol of data that options ask for
abbrev pub WritesWith : Options → List ℕ → List ℕ → List ℕ → Result Symbol Refusal → Type 0
WritesWith o bytes old new result = Writes (IsWrittenAs (IsSymbolWith o bytes) old) (IsOptionsCause o bytes (length old)) old new result

-- writes the symbol of segments in the version and at the level with these numbers
abbrev pub WritesSegments : ℕ → ℕ → List Segment → List ℕ → List ℕ → Result Symbol Refusal → Type 0
WritesSegments version level segments old new result =
    Writes (IsWrittenAs (IsSegmentsSymbol version level segments) old) (IsSegmentsCause version level segments (length old)) old new result

-- writes the picture of modules, and returns its length
abbrev pub WritesPicture : List ℕ → ℕ → Drawing → List ℕ → List ℕ → Result ℕ Refusal → Type 0
WritesPicture modules width d old new result =
    Writes (λ new count. (bytes : List ℕ) × (IsPicture modules width d bytes × (IsFilled old new bytes × (count ≡ length bytes))))
    (IsDrawingCause modules width d (length old)) old new result

-- writes the bytes of the only reading of a square of modules, and returns the rest of it
abbrev pub WritesReading : List ℕ → List ℕ → List ℕ → Result Reading Refusal → Type 0
WritesReading modules old new result = Writes (IsReadInto modules old) (IsReadingCause modules (length old)) old new result

-- writes the bytes of a square in any position, and returns the rest of its reading
abbrev pub WritesAnyReading : List ℕ → List ℕ → List ℕ → Result AnyReading Refusal → Type 0
WritesAnyReading modules old new result = Writes (IsAnyReadInto modules old) (IsAnyReadingCause modules (length old)) old new result

-- writes the text that readers show of a square, and returns the rest of its reading
abbrev pub WritesTextReading : List ℕ → List ℕ → List ℕ → Result Reading Refusal → Type 0
WritesTextReading modules old new result = Writes (IsTextReadInto modules old) (IsTextReadingCause modules (length old)) old new result

abbrev pub TellsMask : List ℕ → Result ℕ Refusal → Type 0  -- returns the number of the mask of a square
TellsMask modules result = Tells (IsMaskNumber modules) (IsMaskCause modules) result

-- returns the length of the picture; its errors do not depend on a buffer
abbrev pub TellsLength : List ℕ → ℕ → Drawing → Result ℕ Refusal → Type 0
TellsLength modules width d result =
    Tells (λ count. (bytes : List ℕ) × (IsPicture modules width d bytes × (count ≡ length bytes))) (λ refusal. (room : ℕ) → IsDrawingCause modules width d room refusal) result

-- returns the number of the smallest Normal version that holds segments at the level of a number
abbrev pub TellsLeastOfSegments : ℕ → List Segment → Result ℕ Refusal → Type 0
TellsLeastOfSegments level segments result = Tells (IsVersionAt (λ l v. IsLeastHeld l segments v) level) (IsLeastCause level segments) result
