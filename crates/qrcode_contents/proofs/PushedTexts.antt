-- Texts to which lines or entries are appended one by one.
use Rattle.std.proofs.Common.{◌≡◌, ℕ, List, [], ◌∷◌, ◌++◌, flat_map, ap, ◌∙◌, sym, append_assoc, append-nil}
use Rattle.std.proofs.lemmas.List.Concat.{flat_map-append}
use Rattle.qrcode_contents.specs.fields.ContentLines.{content_line, content_text}
use Rattle.qrcode_contents.specs.fields.Entries.{Entry, marked_text}
use Rattle.qrcode_contents.specs.fields.Links.{Parameter}

six_grouped : (f t u a b o l : List ℕ) → (((((f ++ t) ++ u) ++ a) ++ b) ++ o) ++ l ≡ f ++ (t ++ (u ++ (a ++ (b ++ (o ++ l)))))
six_grouped f t u a b o l = simp append_assoc

-- the lines of a card, appended between its first and its last
pub card_pushed : (first texts last : List Parameter) (url address birthday note : Parameter) (t₀ t₁ t₂ t₃ t₄ t₅ t₆ : List ℕ) → t₀ ≡ content_text first → t₁ ≡ t₀ ++ content_text texts → t₂ ≡ t₁ ++ content_line url → t₃ ≡ t₂ ++ content_line address → t₄ ≡ t₃ ++ content_line birthday → t₅ ≡ t₄ ++ content_line note → t₆ ≡ t₅ ++ content_text last → t₆ ≡ content_text (first ++ (texts ++ (url ∷ address ∷ birthday ∷ note ∷ last)))
card_pushed first texts last url address birthday note t₀ t₁ t₂ t₃ t₄ t₅ t₆ h₀ h₁ h₂ h₃ h₄ h₅ h₆ =
    let later : List Parameter = url ∷ address ∷ birthday ∷ note ∷ last in
    rw (h₆, h₅, h₄, h₃, h₂, h₁, h₀)
    (six_grouped (content_text first) (content_text texts) (content_line url) (content_line address) (content_line birthday) (content_line note) (content_text last)
    ∙ ap (λ xs. content_text first ++ xs) (sym (flat_map-append content_line texts later))
    ∙ sym (flat_map-append content_line first (texts ++ later)))

five_grouped : (s n t b o a : List ℕ) → (((((s ++ n) ++ t) ++ b) ++ o) ++ a) ++ 59 ∷ [] ≡ s ++ ((n ++ (t ++ (b ++ (o ++ (a ++ []))))) ++ 59 ∷ [])
five_grouped s n t b o a = simp (append_assoc, append-nil)

-- the entries of a contact, appended after a start, and an end
pub contact_pushed : (start : List ℕ) (names birthday note address : Entry) (texts : List Entry) (t₀ t₁ t₂ t₃ t₄ t₅ t₆ : List ℕ) → t₀ ≡ start → t₁ ≡ t₀ ++ marked_text names → t₂ ≡ t₁ ++ flat_map marked_text texts → t₃ ≡ t₂ ++ marked_text birthday → t₄ ≡ t₃ ++ marked_text note → t₅ ≡ t₄ ++ marked_text address → t₆ ≡ t₅ ++ 59 ∷ [] → t₆ ≡ start ++ (flat_map marked_text (names ∷ (texts ++ (birthday ∷ note ∷ address ∷ []))) ++ 59 ∷ [])
contact_pushed start names birthday note address texts t₀ t₁ t₂ t₃ t₄ t₅ t₆ h₀ h₁ h₂ h₃ h₄ h₅ h₆ =
    rw (h₆, h₅, h₄, h₃, h₂, h₁, h₀)
    (five_grouped start (marked_text names) (flat_map marked_text texts) (marked_text birthday) (marked_text note) (marked_text address)
    ∙ ap (λ xs. start ++ ((marked_text names ++ xs) ++ 59 ∷ [])) (sym (flat_map-append marked_text texts (birthday ∷ note ∷ address ∷ []))))
