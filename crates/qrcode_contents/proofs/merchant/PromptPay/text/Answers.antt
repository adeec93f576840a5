use Rattle.std.proofs.Common.{◌≡◌, ℕ, ◌+◌, ◌<◌, ◌==◌, ◌&&◌, not, List, [], ◌∷◌, ◌++◌, Bool, true, false, Option, Some, None, length, get_or, codes, refl, ap, ◌∙◌, arith}
use Rattle.std.specs.List.{after_first}
use Rattle.std.specs.Option.{option_and_then}
use Rattle.std.proofs.lemmas.Bool.Decides.{nat_tests}
use Rattle.qrcode_contents.specs.declared.fields.errors.Field.TheVariants.{Amount, Payee}
use Rattle.qrcode_contents.specs.declared.fields.errors.Cause.TheVariants.{Character, Range, TooShort}
use Rattle.qrcode_contents.specs.Bill.{is_out_of_range}
use Rattle.qrcode_contents.specs.Merchant.{PromptPayFields, promptpay_of, is_phone, is_identity, is_wallet, is_zero, promptpay_checks, promptpay_refusal, payee_objects, initiation, promptpay_objects, promptpay_text, read_payee, promptpay_with, promptpay_in, read_promptpay}
use Rattle.qrcode_contents.specs.fields.Entries.{Entry, is_filled, filled_entries, value_of}
use Rattle.qrcode_contents.specs.fields.EntryTests.{are_distinct}
use Rattle.qrcode_contents.specs.fields.Links.{Parameter}
use Rattle.qrcode_contents.specs.fields.Objects.{objects_text, read_objects}
use Rattle.qrcode_contents.proofs.BillReading.{cents_read, cents_short}
use Rattle.qrcode_contents.proofs.EntryReading.{part_of-filled}
use Rattle.qrcode_contents.proofs.LinkReading.{entries_of}
use Rattle.qrcode_contents.proofs.ObjectReading.{AreObjects, length_filled, objects_read, checked_read, with_check, no_length}
use Rattle.qrcode_contents.proofs.Passing.{all_pass, test_passes}
use Rattle.qrcode_contents.proofs.Answering.{answered}
use Rattle.qrcode_contents.proofs.merchant.PromptPay.text.Goals as goal

-- the objects of an account, with the payee's
abbrev account_with : List ℕ → List ℕ → List Parameter
account_with tag value = (codes "00", codes "A000000677010111") ∷ (tag, value) ∷ []

-- objects that give the payee
record Says (payee : List ℕ) (os : List Parameter) : Type 0 where
  are : AreObjects os
  short : length (objects_text os) < 100
  named : value_of (codes "00") (filled_entries (entries_of os)) ≡ codes "A000000677010111"
  told : read_payee (filled_entries (entries_of os)) ≡ Some payee

account_short : (tag value : List ℕ) → length tag ≡ 2 → length value < 20 → is_filled value ≡ true → length (objects_text (account_with tag value)) < 100
account_short tag value two few some =
    let name = length_filled (codes "00") (codes "A000000677010111") ((tag, value) ∷ []) refl (omega arith) refl in
    let last = length_filled tag value [] two (omega (arith, few)) some in
    let none = no_length in
    omega (arith, name, last, none, few)

zero_first : (payee : List ℕ) → length payee ≡ 10 → (get_or payee 0 0 == 48) ≡ true → codes "0" ++ after_first is_zero payee ≡ payee
zero_first [] ten first = absurd (omega (arith, ten))
zero_first (b ∷ rest) ten first = let same : b ≡ 48 = grind (arith, nat_tests) in rw same refl

phone_length : (payee : List ℕ) → length payee ≡ 10 → (get_or payee 0 0 == 48) ≡ true → length (codes "0066" ++ after_first is_zero payee) < 20
phone_length [] ten first = absurd (omega (arith, ten))
phone_length (b ∷ rest) ten first = let same : b ≡ 48 = grind (arith, nat_tests) in rw same (omega (arith, ten))

read-filled : (es : List Entry) → are_distinct es ≡ true → read_payee (filled_entries es) ≡ read_payee es
read-filled es are = rw (part_of-filled (codes "01") 0 es are, part_of-filled (codes "02") 0 es are, part_of-filled (codes "03") 0 es are) refl

says_with : (payee tag value : List ℕ) → length tag ≡ 2 → are_distinct (entries_of (account_with tag value)) ≡ true → length value < 20 → is_filled value ≡ true
    → read_payee (entries_of (account_with tag value)) ≡ Some payee → Says payee (account_with tag value)
says_with payee tag value two are few some told = record {
  are = (refl, omega arith, (two, omega (arith, few), tt));
  short = account_short tag value two few some;
  named = part_of-filled (codes "00") 0 (entries_of (account_with tag value)) are;
  told = read-filled (entries_of (account_with tag value)) are ∙ told;
}

phone_says : (payee : List ℕ) → length payee ≡ 10 → (get_or payee 0 0 == 48) ≡ true → Says payee (account_with (codes "01") (codes "0066" ++ after_first is_zero payee))
phone_says payee ten first =
    let value = codes "0066" ++ after_first is_zero payee in
    let few = phone_length payee ten first in
    let some : is_filled value ≡ true = grind (arith, nat_tests) in
    says_with payee (codes "01") value refl refl few some (rw some (ap Some (zero_first payee ten first)))

identity_says : (payee : List ℕ) → length payee ≡ 13 → Says payee (account_with (codes "02") payee)
identity_says payee size =
    let some : is_filled payee ≡ true = grind (arith, nat_tests) in
    says_with payee (codes "02") payee refl refl (omega (arith, size)) some (rw some refl)

wallet_says : (payee : List ℕ) → length payee ≡ 15 → Says payee (account_with (codes "03") payee)
wallet_says payee size =
    let some : is_filled payee ≡ true = grind (arith, nat_tests) in
    says_with payee (codes "03") payee refl refl (omega (arith, size)) some refl

size_is : (payee : List ℕ) (n : ℕ) → (length payee == n) ≡ true → length payee ≡ n
size_is payee n is = grind (arith, nat_tests)

account_by : (payee : List ℕ) (phone identity wallet : Bool) → is_phone payee ≡ phone → is_identity payee ≡ identity → is_wallet payee ≡ wallet → (not phone && not identity && not wallet) ≡ false → (phone && not (get_or payee 0 0 == 48)) ≡ false → Says payee (payee_objects payee)
account_by payee true identity wallet p i w one first =
    let zero : (get_or payee 0 0 == 48) ≡ true = grind (arith, nat_tests) in
    rw p (phone_says payee (size_is payee 10 p) zero)
account_by payee false true wallet p i w one first = rw (p, i) (identity_says payee (size_is payee 13 i))
account_by payee false false true p i w one first = rw (p, i) (wallet_says payee (size_is payee 15 w))
account_by payee false false false p i w one first = cc

-- what holds of a payment that passes all checks
record AreSaid (p : PromptPayFields) : Type 0 where
  account : Says p.payee (payee_objects p.payee)
  cents : is_out_of_range p.cents ≡ false

promptpay_said : (p : PromptPayFields) → promptpay_refusal p ≡ None → AreSaid p
unfolding promptpay_refusal
promptpay_said p is =
    let none = all_pass (promptpay_checks p) is in
    let one = test_passes (not (is_phone p.payee) && not (is_identity p.payee) && not (is_wallet p.payee)) Payee TooShort none.1.1.1.0 in
    let first = test_passes (is_phone p.payee && not (get_or p.payee 0 0 == 48)) Payee Character none.1.1.1.1.0 in
    record {
      account = account_by p.payee (is_phone p.payee) (is_identity p.payee) (is_wallet p.payee) refl refl refl one first;
      cents = test_passes (is_out_of_range p.cents) Amount Range none.1.1.1.1.1.0;
    }

initiation_short : (cents : Option ℕ) → length (initiation cents) < 100
initiation_short cents = grind (arith, nat_tests)

objects_are : (p : PromptPayFields) → AreSaid p → AreObjects (promptpay_objects p)
objects_are p said =
    (refl, omega arith, (refl, initiation_short p.cents, (refl, said.account.short, (refl, omega arith, (refl, omega arith, (refl, cents_short p.cents said.cents, tt))))))

-- entries whose parts are all empty may be left out
promptpay_in-filled : (es : List Entry) → are_distinct es ≡ true → promptpay_in (filled_entries es) ≡ option_and_then (promptpay_with (filled_entries es)) (read_objects (value_of (codes "29") es))
promptpay_in-filled es are = rw (part_of-filled (codes "29") 0 es are) refl

claim-filled : (es account : List Entry) → are_distinct es ≡ true → promptpay_with (filled_entries es) account ≡ promptpay_with es account
claim-filled es account are =
    rw (part_of-filled (codes "00") 0 es are, part_of-filled (codes "53") 0 es are, part_of-filled (codes "58") 0 es are, part_of-filled (codes "54") 0 es are) refl

fields_said : (p : PromptPayFields) (account : List Entry) → value_of (codes "00") account ≡ codes "A000000677010111" → read_payee account ≡ Some p.payee → is_out_of_range p.cents ≡ false → promptpay_with (entries_of (with_check (promptpay_objects p))) account ≡ Some p
fields_said p account named payee cents = rw (named, payee, cents_read p.cents cents) refl

-- reading the text gives back the fields
promptpay_read : (p : PromptPayFields) → promptpay_refusal p ≡ None → read_promptpay (promptpay_text p) ≡ Some p
promptpay_read p is =
    let said = promptpay_said p is in
    let objects = entries_of (with_check (promptpay_objects p)) in
    ap (option_and_then promptpay_in) (checked_read (promptpay_objects p) (objects_are p said))
    ∙ promptpay_in-filled objects refl
    ∙ ap (option_and_then (promptpay_with (filled_entries objects))) (objects_read (payee_objects p.payee) said.account.are)
    ∙ claim-filled objects (filled_entries (entries_of (payee_objects p.payee))) refl
    ∙ fields_said p (filled_entries (entries_of (payee_objects p.payee))) said.account.named said.account.told said.cents

pub returns-clause-reads : goal.returns-clause-reads
returns-clause-reads c =
    let fields = promptpay_of c.args.self.now in
    answered (promptpay_refusal fields) c.check.result c.in_ok-check.field-0 c.check.ensures c.in_ok-check.was c.written.result (promptpay_text fields) (λ text. read_promptpay text ≡ Some fields)
    c.written.ensures.value c.written.ensures.memory (promptpay_read fields)
