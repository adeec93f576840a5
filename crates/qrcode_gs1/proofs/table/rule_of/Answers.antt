use Rattle.std.proofs.Common.{◌≡◌, ◌&&◌, length, ap, ap₂, ◌∙◌, refl, sym}
use Rattle.std.proofs.lemmas.Bool.{cond-true, eq-eqb}
use Rattle.qrcode_gs1.specs.declared.table.TheConstants.{RULES}
use Rattle.qrcode_gs1.specs.Elements.{digit_count, prefix_of}
use Rattle.qrcode_gs1.specs.Refusals.{numbered_rule}
use Rattle.qrcode_gs1.specs.Table.{rules}
use Rattle.qrcode_gs1.proofs.table.rule_of.Goals as goal

-- the table in the code is the one of the definition
same_table : RULES ≡ rules
unfolding rules
same_table = refl

pub returns : goal.returns
returns c =
    let id = c.args.identifier.now in
    let long = c.if-identifier-digit_count.false ∙ c.digit_count.ensures.value ∙ ap digit_count c.prefix_of.ensures in
    let known = ap₂ (λ a b. a && b) (eq-eqb (length id) (digit_count (prefix_of id)) long) (sym c.are_digits.ensures ∙ c.if-not-are_digits.false) in
    c.numbered_rule.ensures ∙ ap₂ numbered_rule same_table c.number_of.ensures ∙ sym (cond-true _ _ _ known)
