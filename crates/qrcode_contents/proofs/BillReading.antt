-- The text of a bill is read back.
use Rattle.std.proofs.Common.{◌≡◌, ℕ, ◌/◌, ◌<◌, ◌^◌, ◌||◌, nat_lt, List, [], ◌∷◌, ◌++◌, Bool, true, false, Option, Some, None, Result, Ok, length, decimal, codes, if◌then◌else◌, refl, ap, ◌∙◌, sym, arith}
use Rattle.std.specs.List.{list_any}
use Rattle.std.specs.Str.{bytes_eq}
use Rattle.std.specs.Option.{option_map}
use Rattle.std.proofs.lemmas.Bool.Decides.{nat_tests}
use Rattle.std.proofs.lemmas.Fmt.{decimal_nonempty}
use Rattle.qrcode_contents.specs.declared.fields.errors.ContentError.{ContentError}
use Rattle.qrcode_contents.specs.declared.fields.errors.Field.TheVariants.{Iban, Name, Street, Number, PostalCode, City, Country, Amount, Reference, Message}
use Rattle.qrcode_contents.specs.declared.fields.errors.Cause.TheVariants.{Character, Range}
use Rattle.qrcode_contents.specs.declared.bill.Currency.{Currency}
use Rattle.qrcode_contents.specs.fields.Amounts.{amount_text}
use Rattle.qrcode_contents.specs.Bill.{Addressee, Invoice, has_disallowed, is_creditor_reference, reference_kind, text_checks, text_refusal, of_debtor, named_refusal, is_nobody, party_refusal, debtor_refusal, is_out_of_range, account_checks, account_refusal, message_checks, message_refusal, bill_checks, bill_refusal, currency_name, address_kind, address_lines, unused_lines, amount_line, end_lines, bill_lines, bill_text, read_cents, read_currency, invoice_in, read_bill}
use Rattle.qrcode_contents.specs.fields.Characters.{is_control}
use Rattle.qrcode_contents.specs.fields.Entries.{is_filled}
use Rattle.qrcode_contents.specs.fields.Lines.{line_at}
use Rattle.qrcode_contents.specs.fields.Refusals.{checked, first_refusal}
use Rattle.qrcode_contents.proofs.AmountReading.{amount_read, amount_short, HasNoFeed-amount}
use Rattle.qrcode_contents.proofs.Answering.{checked_none}
use Rattle.qrcode_contents.proofs.EntryReading.{neither}
use Rattle.qrcode_contents.proofs.LineReading.{HasNoFeed, HaveNoFeeds, HaveNoFeeds-append, HasNoFeed-from_control, lines_read}
use Rattle.qrcode_contents.proofs.Passing.{all_pass, test_passes}

-- a text with only allowed characters has no line feed
said : (text : List ℕ) → has_disallowed text ≡ false → HasNoFeed text
said text is = HasNoFeed-from_control text (neither (list_any is_control text) _ is).0

not_of_debtor : (o : Option ContentError) → option_map of_debtor o ≡ None → o ≡ None
not_of_debtor o h = grind (arith, nat_tests)

kind_plain : (p : Addressee) (nobody : Bool) → is_nobody p ≡ nobody → HasNoFeed (address_kind p)
kind_plain p nobody h = grind (arith, nat_tests)

-- the lines of an address whose texts pass have no line feeds
address_plain : (p : Addressee) → text_refusal p ≡ None → HaveNoFeeds (address_lines p)
unfolding text_refusal
address_plain p is =
    let none = all_pass (text_checks p) is in (kind_plain p (is_nobody p) refl, (said p.name (test_passes (has_disallowed p.name) Name Character none.0), (said p.street (test_passes (has_disallowed p.street) Street Character none.1.0), (said p.number (test_passes (has_disallowed p.number) Number Character none.1.1.0), (said p.code (test_passes (has_disallowed p.code) PostalCode Character none.1.1.1.0), (said p.city (test_passes (has_disallowed p.city) City Character none.1.1.1.1.0), (said p.country (test_passes (has_disallowed p.country) Country Character none.1.1.1.1.1.0), tt)))))))

kind_named : (p : Addressee) (nobody : Bool) → is_nobody p ≡ nobody → bytes_eq (address_kind p) (address_kind p) ≡ true
kind_named p nobody h = grind (arith, nat_tests)

reference_plain : (r : List ℕ) (a b : Bool) → is_filled r ≡ a → is_creditor_reference r ≡ b → HasNoFeed (reference_kind r)
reference_plain r a b h k = grind (arith, nat_tests)

reference_named : (r : List ℕ) (a b : Bool) → is_filled r ≡ a → is_creditor_reference r ≡ b → bytes_eq (reference_kind r) (reference_kind r) ≡ true
reference_named r a b h k = grind (arith, nat_tests)

currency_plain : (c : Currency) → HasNoFeed (currency_name c)
currency_plain c = grind (arith, nat_tests)

currency_read : (c : Currency) → read_currency (currency_name c) ≡ Some c
currency_read c = grind (arith, nat_tests)

pub amount_below : (n : ℕ) → (nat_lt n 1 || nat_lt 99999999999 n) ≡ false → n < 2 ^ 64
amount_below n is =
    let inside = neither (nat_lt n 1) (nat_lt 99999999999 n) is in
    let most : nat_lt 99999999999 n ≡ false = inside.1 in
    grind (arith, nat_tests)

amount_plain : (cents : Option ℕ) → is_out_of_range cents ≡ false → HasNoFeed (amount_line cents)
amount_plain None is = refl
amount_plain (Some n) is = HasNoFeed-amount n (amount_below n is)

some_first : (xs ys : List ℕ) → 0 < length xs → is_filled (xs ++ ys) ≡ true
some_first [] ys some = absurd (omega arith)
some_first (x ∷ xs) ys some = grind (arith, nat_tests)

amount_filled : (n : ℕ) → n < 2 ^ 64 → is_filled (amount_text n) ≡ true
unfolding amount_text
amount_filled n fits = some_first (decimal (n / 100)) _ (decimal_nonempty (n / 100) (omega arith))

-- an amount that may be left open has fewer than 100 bytes
pub cents_short : (cents : Option ℕ) → is_out_of_range cents ≡ false → length (amount_line cents) < 100
cents_short None is = omega arith
cents_short (Some n) is = amount_short n (amount_below n is)

-- an amount that may be left open is read back
pub cents_read : (cents : Option ℕ) → is_out_of_range cents ≡ false → read_cents (amount_line cents) ≡ Some cents
cents_read None is = refl
cents_read (Some n) is =
    let fits = amount_below n is in
    rw (amount_filled n fits, amount_read n fits) refl

-- what holds of a bill that passes all checks
record AreBillLines (b : Invoice) : Type 0 where
  iban : HasNoFeed b.iban
  cents : is_out_of_range b.cents ≡ false
  creditor : HaveNoFeeds (address_lines b.creditor)
  debtor : HaveNoFeeds (address_lines b.debtor)
  reference : HasNoFeed b.reference
  message : HasNoFeed b.message

bill_said : (b : Invoice) → bill_refusal b ≡ None → AreBillLines b
unfolding bill_refusal account_refusal message_refusal party_refusal debtor_refusal
bill_said b is =
    let none = all_pass (bill_checks b) is in
    let account = all_pass (account_checks b) none.0 in
    let message = all_pass (message_checks b) none.1.1.1.1.0 in
    let debtor = all_pass (text_refusal b.debtor ∷ (if is_nobody b.debtor then None else named_refusal b.debtor) ∷ []) (not_of_debtor (party_refusal b.debtor) none.1.1.1.0) in
    record {
      iban = said b.iban (test_passes (has_disallowed b.iban) Iban Character account.0);
      cents = test_passes (is_out_of_range b.cents) Amount Range account.1.1.1.1.1.1.0;
      creditor = address_plain b.creditor none.1.0;
      debtor = address_plain b.debtor debtor.0;
      reference = said b.reference (test_passes (has_disallowed b.reference) Reference Character message.0);
      message = said b.message (test_passes (has_disallowed b.message) Message Character message.1.0);
    }

-- the lines after the first
abbrev tail_of : Invoice → List (List ℕ)
tail_of b =
    codes "0200" ∷ codes "1" ∷ b.iban
    ∷ (address_lines b.creditor ++ (unused_lines ++ amount_line b.cents ∷ currency_name b.currency ∷ (address_lines b.debtor ++ end_lines b)))

-- no line of the text has a line feed
lines_plain : (b : Invoice) → AreBillLines b → HaveNoFeeds (bill_lines b)
lines_plain b are =
    let reference = reference_plain b.reference (is_filled b.reference) (is_creditor_reference b.reference) refl refl in
    let ends : HaveNoFeeds (end_lines b) = (reference, (are.reference, (are.message, (refl, tt)))) in
    let later = amount_line b.cents ∷ currency_name b.currency ∷ (address_lines b.debtor ++ end_lines b) in
    let plain : HaveNoFeeds later = (amount_plain b.cents are.cents, (currency_plain b.currency, HaveNoFeeds-append (address_lines b.debtor) (end_lines b) are.debtor ends)) in
    (refl, (refl, (refl, (are.iban, HaveNoFeeds-append (address_lines b.creditor) (unused_lines ++ later) are.creditor (refl, (refl, (refl, (refl, (refl, (refl, (refl, plain)))))))))))

-- the lines give the bill
lines_say : (b : Invoice) → AreBillLines b → invoice_in (line_at (bill_lines b)) ≡ Some b
lines_say b are =
    rw (kind_named b.creditor (is_nobody b.creditor) refl, kind_named b.debtor (is_nobody b.debtor) refl, reference_named b.reference (is_filled b.reference) (is_creditor_reference b.reference) refl refl, cents_read b.cents are.cents, currency_read b.currency) refl

-- reading the text gives back the fields
pub bill_read : (b : Invoice) → bill_refusal b ≡ None → read_bill (bill_text b) ≡ Some b
unfolding bill_text read_bill
bill_read b is =
    let are = bill_said b is in
    let plain = lines_plain b are in
    ap (λ lines. invoice_in (line_at lines)) (lines_read (codes "SPC") (tail_of b) plain.0 plain.1) ∙ lines_say b are

last_refusal : (o : Option ContentError) → first_refusal (o ∷ []) ≡ o
last_refusal None = refl
last_refusal (Some e) = refl

-- the check of a party who is named, and whose texts pass
pub party_checked : (p : Addressee) (texts : Result (Unit {0}) ContentError) (x : Unit {0}) → texts ≡ checked (text_refusal p) → texts ≡ Ok x → is_nobody p ≡ false → checked (named_refusal p) ≡ checked (party_refusal p)
unfolding party_refusal
party_checked p texts x is ok somebody =
    let none = checked_none (text_refusal p) texts x is ok in
    rw (none, somebody) (ap checked (sym (last_refusal (named_refusal p))))
