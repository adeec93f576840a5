-- Lines that are appended one after another.
use Rattle.std.proofs.Common.{◌≡◌, ℕ, List, [], ◌∷◌, ◌++◌, ap, ◌∙◌, sym, append_assoc, append-nil}
use Rattle.std.proofs.lemmas.List.Concat.{flat_map-append}
use Rattle.qrcode_contents.specs.fields.ContentLines.{content_line, content_text}
use Rattle.qrcode_contents.specs.fields.Links.{Parameter}
use Rattle.qrcode_contents.specs.Event.{first_lines, last_lines}

-- two lines, one after the other
pub two_lines : (text first end : List ℕ) → (text ++ first) ++ end ≡ text ++ (first ++ (end ++ []))
two_lines text first end = simp (append_assoc, append-nil)

grouped : (start a b c d finish : List ℕ) → ((((start ++ (a ++ [])) ++ b) ++ c) ++ d) ++ finish ≡ start ++ (a ++ (b ++ (c ++ (d ++ finish))))
grouped start a b c d finish = simp (append_assoc, append-nil)

-- the lines of an event, appended between those of its calendar
pub event_pushed : (uid stamp : Parameter) (span texts : List Parameter) (t₀ t₁ t₂ t₃ t₄ t₅ : List ℕ) → t₀ ≡ content_text first_lines → t₁ ≡ t₀ ++ content_text (uid ∷ []) → t₂ ≡ t₁ ++ content_line stamp → t₃ ≡ t₂ ++ content_text span → t₄ ≡ t₃ ++ content_text texts → t₅ ≡ t₄ ++ content_text last_lines → t₅ ≡ content_text (first_lines ++ ((uid ∷ stamp ∷ (span ++ texts)) ++ last_lines))
event_pushed uid stamp span texts t₀ t₁ t₂ t₃ t₄ t₅ h₀ h₁ h₂ h₃ h₄ h₅ =
    rw (h₅, h₄, h₃, h₂, h₁, h₀)
    (grouped (content_text first_lines) (content_line uid) (content_line stamp) (content_text span) (content_text texts) (content_text last_lines)
    ∙ ap (λ xs. content_text first_lines ++ (content_line uid ++ (content_line stamp ++ xs))) (sym (two_lists span texts last_lines))
    ∙ sym (flat_map-append content_line first_lines ((uid ∷ stamp ∷ (span ++ texts)) ++ last_lines)))
  where
    two_lists : (span texts last : List Parameter) → content_text ((span ++ texts) ++ last) ≡ content_text span ++ (content_text texts ++ content_text last)
    two_lists span texts last =
        flat_map-append content_line (span ++ texts) last
        ∙ ap (λ xs. xs ++ content_text last) (flat_map-append content_line span texts)
        ∙ append_assoc (content_text span) (content_text texts) (content_text last)
