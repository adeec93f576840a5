use Rattle.std.proofs.Common.{◌≡◌, ℕ, suc, ◌<◌, List, Some, None, [], ◌∷◌, ◌++◌, length, get_or, ◌≢◌, refl, ap, ◌∙◌, sym, arith, rules, append-nil, append_assoc, string_bytes}
use Rattle.std.proofs.lemmas.Bool.{ne_eqb}
use Rattle.std.proofs.lemmas.List.Concat.{flat_map-append}
use Rattle.std.proofs.lemmas.Str.{encode_ascii}
use Rattle.std.proofs.lemmas.Str.Pattern.{split_parts, strip_suffix_char}
use Rattle.goqlanis_make.specs.Labels.{value_byte, value_text}
use Rattle.goqlanis_make.proofs.elements.value_in.Goals as goal

-- bytes of which none is an opening bracket
value_plain : (bs : List ℕ) → ((i : ℕ) → i < length bs → get_or bs i 0 ≢ 40) → value_text bs ≡ bs
value_plain [] plain = refl
value_plain (b ∷ bs) plain = rw (ne_eqb b 40 (plain 0 (omega arith))) (ap (λ l. b ∷ l) (value_plain bs (λ i inside. plain (suc i) (omega (arith, inside)))))

-- a value, and a piece of it without an opening bracket
value_more : (v piece rest : List ℕ) → ((i : ℕ) → i < length piece → get_or piece i 0 ≢ 40) → value_text (v ++ piece) ++ rest ≡ value_text v ++ (piece ++ rest)
value_more v piece rest plain = ap (λ x. x ++ rest) (flat_map-append value_byte v piece ∙ ap (λ x. value_text v ++ x) (value_plain piece plain)) ∙ append_assoc (value_text v) piece rest

-- a bracket takes the place of the backslash before it
regroup : (a b c : List ℕ) → ((a ++ b) ++ 92 ∷ 40 ∷ []) ++ c ≡ a ++ ((b ++ 92 ∷ []) ++ 40 ∷ c)
regroup a b c = simp append_assoc

pub loop-piece-init : goal.loop-piece-init
loop-piece-init c = (search rules, ap (λ v. value_text v ++ c.args.text.now) c.new-value.ensures.bytes)

pub returns-in_default-strip_suffix : goal.returns-in_default-strip_suffix
returns-in_default-strip_suffix c =
    let parts = split_parts 40 c.loop-piece.left.now (Some (c.in-Some.piece, c.in-Some.behind)) c.in-Some.ensures.cases (omega arith) in
    record { parts = ap (λ x. value_text x ++ 40 ∷ c.in-Some.behind.now) c.in_ok-push_str.ensures.bytes ∙ value_more (string_bytes c.loop-piece.value) c.in-Some.piece.now (40 ∷ c.in-Some.behind.now) parts.1 ∙ ap (λ x. value_text (string_bytes c.loop-piece.value) ++ x) (sym parts.0) ∙ c.loop-piece.invariant.1 }

pub loop-piece-preserved : goal.loop-piece-preserved
loop-piece-preserved c =
    let v = string_bytes c.loop-piece.value in
    let start = c.in-Some-strip_suffix.start.now in
    let behind = c.in-Some.behind.now in
    let parts = split_parts 40 c.loop-piece.left.now (Some (c.in-Some.piece, c.in-Some.behind)) c.in-Some.ensures.cases (omega arith) in
    let ends = strip_suffix_char 92 c.in-Some.piece.now (Some c.in-Some-strip_suffix.start) c.in-Some-strip_suffix.ensures.cases (omega arith) in (
      search rules,
      ap (λ x. value_text x ++ behind) (c.in_ok-push.ensures.bytes ∙ ap (λ x. string_bytes c.push_str-in-Some.new.self ++ x) (encode_ascii 40 (omega arith)) ∙ ap (λ x. x ++ 40 ∷ []) c.in_ok-push_str-2.ensures.bytes)
          ∙ ap (λ x. x ++ behind) (flat_map-append value_byte (v ++ start) (40 ∷ []) ∙ ap (λ x. x ++ 92 ∷ 40 ∷ []) (flat_map-append value_byte v start)) ∙ regroup (value_text v) (value_text start) behind
          ∙ ap (λ x. value_text v ++ (x ++ 40 ∷ behind)) (sym (flat_map-append value_byte start (92 ∷ [])) ∙ ap value_text (sym ends) ∙ value_plain c.in-Some.piece.now parts.1) ∙ ap (λ x. value_text v ++ x) (sym parts.0) ∙ c.loop-piece.invariant.1,
    )

pub returns : goal.returns
returns c =
    let none = split_parts 40 c.loop-piece.left.now None c.in_default.ensures.cases (omega arith) in
    record { parts = ap (λ x. value_text x ++ []) c.in_ok-push_str-3.ensures.bytes ∙ value_more (string_bytes c.loop-piece.value) c.loop-piece.left.now [] none ∙ ap (λ x. value_text (string_bytes c.loop-piece.value) ++ x) (append-nil c.loop-piece.left.now) ∙ c.loop-piece.invariant.1 }
