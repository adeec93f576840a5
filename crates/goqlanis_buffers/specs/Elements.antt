-- GS1 elements that C gives, and their element string.
use Rattle.std.specs.Prelude.{◌≡◌, ◌⊎◌, ◌<◌, ℕ, List, map, length, slice_get, IsUtf8, Some, None, Result}
use Rattle.qrcode_gs1.specs.Elements.{Item, element_string, read_elements}
use Rattle.qrcode_gs1.specs.Refusals.{refusal_from}
use Rattle.qrcode_gs1.specs.declared.errors.Cause.{Cause}
use Rattle.qrcode_gs1.specs.declared.errors.Cause.TheVariants as element
use Rattle.qrcode_gs1.specs.declared.errors.Gs1Error.TheVariants.{Refused}
use Rattle.qrcode_gs1.specs.declared.symbol.errors.SymbolError.TheVariants as unmade
use Rattle.qrcode_types.specs.declared.types.QrError.TheVariants.{DataTooLong}
use Rattle.qrcode.specs.Code.{Code}
use Rattle.goqlanis_request.specs.Elements.{IsElementsIn, IsElementsRefused}
use Rattle.goqlanis_buffers.specs.Calls.{Writes}
use Rattle.goqlanis_buffers.specs.Options.{IsAsked, IsOptionsCause}
use Rattle.goqlanis_buffers.specs.Outputs.{IsFilled, IsWrittenAs}
use Rattle.goqlanis_buffers.specs.Symbols.{IsMasked, IsMaskingCause}
use Rattle.goqlanis_buffers.specs.declared.answers.Fault.{Fault}
use Rattle.goqlanis_buffers.specs.declared.answers.Fault.TheVariants.{At, Other}
use Rattle.goqlanis_buffers.specs.declared.answers.Refusal.{Refusal}
use Rattle.goqlanis_buffers.specs.declared.answers.Refusal.TheVariants.{SmallBuffer, OutOfMemory, NotText, NoRoom, FieldCharacter, FieldCheckDigits, FieldRange, NoSuchIdentifier, ElementLength}
use Rattle.goqlanis_buffers.specs.declared.options.CodeSettings.{CodeSettings}
use Rattle.goqlanis_buffers.specs.declared.options.Options.{Options}
use Rattle.goqlanis_buffers.specs.declared.elements.Gs1Bytes.{Gs1Bytes}
use Rattle.goqlanis_buffers.specs.declared.symbols.Symbol.{Symbol}

abbrev pub item_of : Gs1Bytes → Item  -- the identifier and the value of an element
item_of p = (p.identifier.now, p.value.now)

abbrev pub items_of : List Gs1Bytes → List Item  -- the identifiers and values of elements
items_of parts = map item_of parts

abbrev pub IsText : Gs1Bytes → Type 0  -- identifier and value are UTF-8
IsText p = IsUtf8 p.identifier.now × IsUtf8 p.value.now

abbrev pub AreTexts : List Gs1Bytes → ℕ → Type 0  -- the first `count` elements are UTF-8
AreTexts parts count = (i : ℕ) → i < count → (p : Gs1Bytes) → slice_get parts i ≡ Some p → IsText p

-- the element at this index is the first that is not UTF-8
pub record IsFirstNoText (parts : List Gs1Bytes) (place : ℕ) : Type 0 where
  pub part : Gs1Bytes
  pub at : slice_get parts place ≡ Some part
  pub before : AreTexts parts place
  pub wrong : ¬ IsText part

-- the element string of elements without errors; it reads back as exactly these
pub record IsString (parts : List Gs1Bytes) (bytes : List ℕ) : Type 0 where
  pub accepted : refusal_from 0 (items_of parts) ≡ None
  pub reads : read_elements bytes ≡ items_of parts
  pub value : bytes ≡ element_string (items_of parts)

-- such a string at the start of a buffer, which is otherwise unchanged, and its length
pub record IsStringIn (parts : List Gs1Bytes) (old new : List ℕ) (count : ℕ) : Type 0 where
  pub bytes : List ℕ
  pub string : IsString parts bytes
  pub filled : IsFilled old new bytes
  pub counted : count ≡ length bytes

abbrev pub element_refusal : Cause → Refusal  -- the error that C gets of the cause of a wrong element
element_refusal element.Character = FieldCharacter
element_refusal element.CheckDigit = FieldCheckDigits
element_refusal element.Range = FieldRange
element_refusal element.UnknownIdentifier = NoSuchIdentifier
element_refusal element.Length = ElementLength

-- why elements are not text: one is not UTF-8, or memory ran out
abbrev pub HasNoText : List Gs1Bytes → Fault → Type 0
HasNoText parts (At place refusal) = (refusal ≡ NotText) × IsFirstNoText parts place
HasNoText parts (Other refusal) = refusal ≡ OutOfMemory

-- elements are text, but one is wrong
pub record HaveWrong (parts : List Gs1Bytes) (fault : Fault) : Type 0 where
  pub place : ℕ
  pub cause : Cause
  pub texts : AreTexts parts (length parts)
  pub refused : refusal_from 0 (items_of parts) ≡ Some (Refused place cause)
  pub is : fault ≡ At place (element_refusal cause)

-- why elements have no element string in a buffer of `room` bytes
abbrev pub IsElementsCause : List Gs1Bytes → ℕ → Fault → Type 0
IsElementsCause parts room fault =
    HasNoText parts fault ⊎ (HaveWrong parts fault ⊎ ((fault ≡ Other SmallBuffer) × ((bytes : List ℕ) × (IsString parts bytes × (room < length bytes)))))

-- writes the element string of elements, and returns its length
abbrev pub WritesElements : List Gs1Bytes → List ℕ → List ℕ → Result ℕ Fault → Type 0
WritesElements parts old new result = Writes (IsStringIn parts old) (IsElementsCause parts (length old)) old new result

-- the symbol of elements that is asked for, under the mask of the lowest penalty
pub record AreMadeAs (a : CodeSettings) (parts : List Gs1Bytes) (code : Code) : Type 0 where
  pub texts : AreTexts parts (length parts)
  pub made : IsElementsIn a.choice a.level (items_of parts) code

-- the symbol of elements that options ask for, under the mask that they ask for
pub record IsElementsSymbol (o : Options) (parts : List Gs1Bytes) (code : Code) : Type 0 where
  pub asked : CodeSettings
  pub named : IsAsked o asked
  pub own : Code
  pub made : AreMadeAs asked parts own
  pub masked : IsMasked asked.mask own code

-- the symbol is not written under the mask that options ask for, into a buffer of `room` items
pub record AreNotWritten (o : Options) (parts : List Gs1Bytes) (room : ℕ) (refusal : Refusal) : Type 0 where
  pub asked : CodeSettings
  pub named : IsAsked o asked
  pub own : Code
  pub made : AreMadeAs asked parts own
  pub cause : IsMaskingCause asked.mask own room refusal

-- no version that options allow holds the elements
pub record HaveNoVersion (o : Options) (parts : List Gs1Bytes) : Type 0 where
  pub asked : CodeSettings
  pub named : IsAsked o asked
  pub refused : IsElementsRefused asked.choice asked.level (items_of parts) (unmade.Symbol DataTooLong)

-- the options are valid
abbrev pub AskFor : Options → Type 0
AskFor o = (a : CodeSettings) × IsAsked o a

-- why there is no symbol of elements in a buffer of `room` items; elements are checked only if the options are valid
abbrev pub IsElementsSymbolCause : Options → List Gs1Bytes → ℕ → Fault → Type 0
IsElementsSymbolCause o parts room (At place refusal) = AskFor o × (HasNoText parts (At place refusal) ⊎ HaveWrong parts (At place refusal))
IsElementsSymbolCause o parts room (Other refusal) =
    (refusal ≡ OutOfMemory) ⊎ (((refusal ≡ NoRoom) × HaveNoVersion o parts) ⊎ (AreNotWritten o parts room refusal
    ⊎ ((bytes : List ℕ) (room : ℕ) → IsOptionsCause o bytes room refusal)))

-- writes the symbol of elements that options ask for
abbrev pub WritesElementsSymbol : Options → List Gs1Bytes → List ℕ → List ℕ → Result Symbol Fault → Type 0
WritesElementsSymbol o parts old new result =
    Writes (IsWrittenAs (IsElementsSymbol o parts) old) (IsElementsSymbolCause o parts (length old)) old new result
