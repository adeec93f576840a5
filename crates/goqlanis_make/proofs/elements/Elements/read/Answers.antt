use Rattle.std.proofs.Common.{◌≡◌, List, Some, [], ◌∷◌, ◌++◌, ap, ◌∙◌, sym, arith, append-nil, append_assoc, string_bytes}
use Rattle.std.proofs.lemmas.List.{map-append}
use Rattle.std.proofs.lemmas.List.Concat.{flat_map-append}
use Rattle.std.proofs.lemmas.Str.Pattern.{split_parts, strip_prefix_char}
use Rattle.std.specs.declared.alloc.Global.{Global}
use Rattle.std.specs.declared.string.String.{String}
use Rattle.goqlanis_make.specs.Labels.{item_text, items_of, label_text, left_text, value_text}
use Rattle.goqlanis_make.proofs.elements.Elements.read.Goals as goal

-- one more element
label_more : (xs : List (String Global × String Global)) (x : String Global × String Global) → label_text (items_of (xs ++ x ∷ [])) ≡ label_text (items_of xs) ++ item_text (string_bytes x.0, string_bytes x.1)
label_more xs x = ap label_text (map-append (λ e. (string_bytes e.0, string_bytes e.1)) xs (x ∷ [])) ∙ flat_map-append item_text (items_of xs) (items_of (x ∷ [])) ∙ ap (λ l. label_text (items_of xs) ++ l) (append-nil (item_text (string_bytes x.0, string_bytes x.1)))

pub loop-left-init : goal.loop-left-init
loop-left-init c = ap (λ l. label_text (items_of l) ++ 40 ∷ c.in-Some.first.now) c.new-items.ensures.items ∙ sym (strip_prefix_char 40 c.args.text.now (Some c.in-Some.first) c.in-Some.ensures.cases (omega arith))

pub loop-left-preserved : goal.loop-left-preserved
loop-left-preserved c =
    let label = label_text (items_of c.loop-left.items.items) in
    let identifier = string_bytes c.in_ok-from_str.field-0 in
    let value = value_text (string_bytes c.in_ok-value.value) in
    let left = left_text c.in_ok-value.next in
    let parts = split_parts 41 c.in-Some-left.inner.now (Some (c.in-Some-split_once.identifier, c.in-Some-split_once.behind)) c.in-Some-split_once.ensures.cases (omega arith) in
    ap (λ l. label_text (items_of l) ++ left) c.in_ok-push.ensures.items ∙ ap (λ l. l ++ left) (label_more c.loop-left.items.items (c.in_ok-from_str.field-0, c.in_ok-value.value)) ∙ append_assoc label (40 ∷ identifier ++ 41 ∷ value) left
    ∙ ap (λ l. label ++ 40 ∷ l) (append_assoc identifier (41 ∷ value) left ∙ ap (λ l. l ++ 41 ∷ (value ++ left)) c.in_ok-from_str.ensures.ok ∙ ap (λ l. c.in-Some-split_once.identifier.now ++ 41 ∷ l) c.in_ok-value.ensures.parts ∙ sym parts.0)
    ∙ ap (λ l. label ++ left_text l) (sym c.in-Some-left.is) ∙ c.loop-left.invariant
