-- The texts of payloads in buffers, and their errors.
use Rattle.std.specs.Prelude.{◌≡◌, ◌⊎◌, ◌<◌, nat_lt, ⊤, ℕ, List, [], length, Option, Some, None, Result, Ok, Err, slice_get, unwrap_or, if◌then◌else◌}
use Rattle.std.specs.Option.{option_map}
use Rattle.std.specs.Str.{is_utf8}
use Rattle.qrcode_contents.specs.declared.fields.errors.Cause.{Cause}
use Rattle.qrcode_contents.specs.declared.fields.errors.Cause.TheVariants.{Empty, TooLong, TooShort, ControlCharacter, Character, CheckDigits, Range, Unused, Decimals, Word}
use Rattle.qrcode_contents.specs.declared.fields.errors.ContentError.{ContentError}
use Rattle.qrcode_contents.specs.declared.fields.errors.ContentError.TheVariants.{Refused}
use Rattle.qrcode_contents.specs.declared.fields.errors.Field.{Field}
use Rattle.qrcode_payloads.specs.Kinds.{kind_named, fields_of, field_index}
use Rattle.qrcode_payloads.specs.Texts.{content_refusal, payload_text, IsReadAsFields}
use Rattle.qrcode_payloads.specs.declared.kinds.Kind.{Kind}
use Rattle.goqlanis_buffers.specs.Calls.{Writes}
use Rattle.goqlanis_buffers.specs.Outputs.{IsFilled}
use Rattle.goqlanis_buffers.specs.declared.answers.Fault.{Fault}
use Rattle.goqlanis_buffers.specs.declared.answers.Fault.TheVariants.{At, Other}
use Rattle.goqlanis_buffers.specs.declared.answers.Refusal.{Refusal}
use Rattle.goqlanis_buffers.specs.declared.answers.Refusal.TheVariants.{SmallBuffer, OutOfMemory, NotText, NoSuchContent, NoSuchField, FieldEmpty, FieldTooLong, FieldTooShort, FieldControl, FieldCharacter, FieldCheckDigits, FieldRange, FieldUnused, FieldDecimals, FieldWord}
use Rattle.goqlanis_buffers.specs.declared.contents.Slot.{Slot}

abbrev pub text_at : List Slot → ℕ → List ℕ  -- the bytes of the field at index i; empty if there is none
text_at given i = unwrap_or (option_map (λ g. g.bytes.now) (slice_get given i)) []

abbrev pub valid_text : List ℕ → List ℕ  -- the bytes if they are UTF-8, else nothing
valid_text bytes = if is_utf8 bytes then bytes else []

abbrev pub texts_of : Kind → List Slot → Field → List ℕ  -- the text of each field of a kind, by its index
texts_of kind given field = valid_text (text_at given (field_index (fields_of kind) field))

-- the error of a field by its own check, at index `place` of a kind with `count` fields
abbrev pub field_fault : ℕ → ℕ → Slot → Option Fault
field_fault count place g = if nat_lt place count then (if is_utf8 g.bytes.now then None else Some (At place NotText)) else Some (At place NoSuchField)

abbrev pub passed : Option Fault → Result (Unit {0}) Fault  -- the result of a check with this error
passed None = Ok tt
passed (Some fault) = Err fault

abbrev pub PassChecks : ℕ → List Slot → ℕ → Type 0  -- the first n fields pass their own check
PassChecks count given n = (i : ℕ) → i < n → (g : Slot) → slice_get given i ≡ Some g → field_fault count i g ≡ None

-- the first field that fails its own check, and its error
pub record IsFirstWrong (count : ℕ) (given : List Slot) (fault : Fault) : Type 0 where
  pub place : ℕ
  pub field : Slot
  pub at : slice_get given place ≡ Some field
  pub before : PassChecks count given place
  pub wrong : field_fault count place field ≡ Some fault

abbrev pub cause_refusal : Cause → Refusal  -- the error that C gets of the cause of a wrong field
cause_refusal Empty = FieldEmpty
cause_refusal TooLong = FieldTooLong
cause_refusal TooShort = FieldTooShort
cause_refusal ControlCharacter = FieldControl
cause_refusal Character = FieldCharacter
cause_refusal CheckDigits = FieldCheckDigits
cause_refusal Range = FieldRange
cause_refusal Unused = FieldUnused
cause_refusal Decimals = FieldDecimals
cause_refusal Word = FieldWord

unfoldable pub refusal_for : Kind → List Slot → Option ContentError  -- why the format rejects fields of a kind, each of which passes the checks of its own
refusal_for kind given = content_refusal kind (texts_of kind given)

-- the text of fields of the kind with a number, if they have no error; it reads back as these fields
pub record IsContent (number : ℕ) (given : List Slot) (text : List ℕ) : Type 0 where
  pub kind : Kind
  pub asked : kind_named number ≡ Some kind
  pub taken : PassChecks (length (fields_of kind)) given (length given)
  pub accepted : refusal_for kind given ≡ None
  pub reads : IsReadAsFields kind (texts_of kind given) text
  pub value : text ≡ payload_text kind (texts_of kind given)

-- such a text at the start of a buffer, which is otherwise unchanged, and its length
pub record IsContentIn (number : ℕ) (given : List Slot) (old new : List ℕ) (count : ℕ) : Type 0 where
  pub text : List ℕ
  pub content : IsContent number given text
  pub filled : IsFilled old new text
  pub counted : count ≡ length text

-- the format of a kind rejects fields that pass their own checks: the first field that it names, at this index, for a cause
pub record IsFormatFault (kind : Kind) (given : List Slot) (fault : Fault) : Type 0 where
  pub field : Field
  pub cause : Cause
  pub place : ℕ
  pub taken : PassChecks (length (fields_of kind)) given (length given)
  pub refused : refusal_for kind given ≡ Some (Refused field cause)
  pub at : place ≡ field_index (fields_of kind) field
  pub is : fault ≡ At place (cause_refusal cause)

-- the fields of a kind have an error: the first field that fails its own check, or else the first that the format names
abbrev pub HaveWrongField : ℕ → List Slot → Fault → Type 0
HaveWrongField number given fault =
    (kind : Kind) × ((kind_named number ≡ Some kind)
    × (IsFirstWrong (length (fields_of kind)) given fault ⊎ IsFormatFault kind given fault))

-- why fields have no text in a buffer of `room` bytes, other than a wrong field
abbrev pub IsOtherCause : ℕ → List Slot → ℕ → Fault → Type 0
IsOtherCause number given room (Other NoSuchContent) = kind_named number ≡ None
IsOtherCause number given room (Other SmallBuffer) = (text : List ℕ) × (IsContent number given text × (room < length text))
IsOtherCause number given room (Other OutOfMemory) = ⊤
IsOtherCause number given room fault = ⊥

-- why fields have no text of the kind with a number, in a buffer of `room` bytes
abbrev pub IsContentCause : ℕ → List Slot → ℕ → Fault → Type 0
IsContentCause number given room fault = HaveWrongField number given fault ⊎ IsOtherCause number given room fault

-- writes the text of fields of the kind with a number, and returns its length
abbrev pub WritesContent : ℕ → List Slot → List ℕ → List ℕ → Result ℕ Fault → Type 0
WritesContent number given old new result = Writes (IsContentIn number given old) (IsContentCause number given (length old)) old new result
