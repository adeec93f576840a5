-- The text of one-time passwords is read back.
use Rattle.std.proofs.Common.{◌≡◌, ℕ, ◌+◌, ◌<◌, ◌^◌, ◌==◌, ◌||◌, not, List, [], ◌∷◌, ◌++◌, Bool, true, false, None, Some, decimal, codes, if◌then◌else◌, refl, ap, ◌∙◌, sym, arith, lit<, append_assoc}
use Rattle.std.specs.List.{list_any, list_all}
use Rattle.std.specs.Option.{option_map}
use Rattle.std.proofs.lemmas.Bool.Decides.{nat_tests}
use Rattle.qrcode_contents.specs.declared.fields.errors.Field.TheVariants.{Secret, Issuer, Account}
use Rattle.qrcode_contents.specs.declared.fields.errors.Cause.TheVariants.{Character, ControlCharacter}
use Rattle.qrcode_contents.specs.declared.fields.links.LinkPart.TheVariants.{Path}
use Rattle.qrcode_contents.specs.declared.one_time.Factor.{Factor}
use Rattle.qrcode_contents.specs.declared.one_time.Factor.TheVariants.{Time, Counter}
use Rattle.qrcode_contents.specs.declared.one_time.Algorithm.{Algorithm}
use Rattle.qrcode_contents.specs.declared.one_time.Digits.{Digits}
use Rattle.qrcode_contents.specs.fields.Characters.{is_base32, is_control, before}
use Rattle.qrcode_contents.specs.fields.Decimals.{read_decimal}
use Rattle.qrcode_contents.specs.fields.Entries.{is_filled}
use Rattle.qrcode_contents.specs.fields.EntryTests.{are_distinct}
use Rattle.qrcode_contents.specs.fields.Links.{part_text, query_text, value_in}
use Rattle.qrcode_contents.specs.OneTime.{Key, is_colon, begins_with_space, is_a_word, key_checks, key_refusal, factor_parameter, algorithm_value, digits_text, label_text, key_parameters, key_text, read_algorithm, read_digits, read_period, read_factor, without_spaces, read_account, key_in, read_key}
use Rattle.qrcode_contents.specs.fields.Percents.{decoded}
use Rattle.qrcode_contents.proofs.DigitReading.{AreDigits-decimal, HasNo-digits, decimal_filled, read_decimal-whole}
use Rattle.qrcode_contents.proofs.EntryReading.{neither, HasNo, after-at, holds}
use Rattle.qrcode_contents.proofs.LinkReading.{HasNo-append, HasNo-part, AreParameters, entries_of, value_read, path_read, decoded-path, path_decoded, no_return, all_without}
use Rattle.qrcode_contents.proofs.Passing.{all_pass, test_passes}
use Rattle.qrcode_contents.proofs.PercentReading.{kept_byte}

algorithm_read : (a : Algorithm) → read_algorithm (algorithm_value a) ≡ Some a
algorithm_read a = grind (arith, nat_tests)

algorithm_plain : (a : Algorithm) → HasNo 13 (algorithm_value a)
algorithm_plain a = grind (arith, nat_tests)

digits_read : (d : Digits) → read_digits (digits_text d) ≡ Some d
digits_read d = grind (arith, nat_tests)

digits_plain : (d : Digits) → HasNo 13 (digits_text d)
digits_plain d = grind (arith, nat_tests)

-- digits have no carriage return
pub decimal_plain : (n : ℕ) → n < 2 ^ 64 → HasNo 13 (decimal n)
decimal_plain n fits = HasNo-digits 13 (decimal n) (lit< tt) (AreDigits-decimal n fits)

period_plain : (n : ℕ) (usual : Bool) → (n == 30) ≡ usual → n < 2 ^ 64 → HasNo 13 (if n == 30 then [] else decimal n)
period_plain n true is fits = rw is refl
period_plain n false is fits = rw is (decimal_plain n fits)

whole_read : (n : ℕ) → n < 2 ^ 64 → read_decimal 0 (decimal n) ≡ Some n
whole_read n fits = read_decimal-whole 0 n fits ∙ ap Some (omega arith)

period_read : (n : ℕ) (usual : Bool) → (n == 30) ≡ usual → n < 2 ^ 64 → read_period (if n == 30 then [] else decimal n) ≡ Some n
period_read n true is fits = let same : n ≡ 30 = grind (arith, nat_tests) in rw is (ap Some (sym same))
period_read n false is fits = rw (is, decimal_filled n fits) (whole_read n fits)

secret_no_return : (b : ℕ) → is_base32 b ≡ true → (b == 13) ≡ false
secret_no_return b is = grind (arith, nat_tests)

spaced : (account : List ℕ) → begins_with_space (32 ∷ account) ≡ true
spaced account = refl

unspaced_by : (b : ℕ) (account : List ℕ) (space : Bool) → (b == 32) ≡ space → begins_with_space (b ∷ account) ≡ false → without_spaces (b ∷ account) ≡ b ∷ account
unspaced_by b account true is none =
    let same : b ≡ 32 = grind (arith, nat_tests) in
    let clash : true ≡ false = sym (spaced account) ∙ ap (λ x. begins_with_space (x ∷ account)) (sym same) ∙ none in
    cc
unspaced_by b account false is none = rw is refl

unspaced : (account : List ℕ) → begins_with_space account ≡ false → without_spaces account ≡ account
unspaced [] is = refl
unspaced (b ∷ account) is = unspaced_by b account (b == 32) refl is

or_true : (b : Bool) → (b || true) ≡ true
or_true b = grind (arith, nat_tests)

has_colon : (xs ys : List ℕ) → list_any is_colon (xs ++ 58 ∷ ys) ≡ true
has_colon [] ys = refl
has_colon (x ∷ xs) ys = ap (λ b. is_colon x || b) (has_colon xs ys) ∙ or_true (is_colon x)

account_behind : (issuer account : List ℕ) → HasNo 58 issuer → begins_with_space account ≡ false → read_account (issuer ++ 58 ∷ account) ≡ account
account_behind issuer account none unspaced_is =
    rw (has_colon issuer account) (ap without_spaces (after-at 58 issuer account none) ∙ unspaced account unspaced_is)

account_alone : (account : List ℕ) → HasNo 58 account → begins_with_space account ≡ false → read_account account ≡ account
account_alone account none unspaced_is = rw none (unspaced account unspaced_is)

label_decoded : (issuer account : List ℕ) → decoded ((part_text Path issuer ++ 58 ∷ []) ++ part_text Path account) ≡ issuer ++ 58 ∷ account
label_decoded issuer account =
    ap decoded (append_assoc (part_text Path issuer) (58 ∷ []) (part_text Path account))
    ∙ decoded-path issuer (58 ∷ part_text Path account)
    ∙ ap (λ xs. issuer ++ xs) (kept_byte 58 (part_text Path account) refl ∙ ap (λ xs. 58 ∷ xs) (path_decoded account))

-- a label is read back, and has no question mark
label_read : (k : Key) (some : Bool) → is_filled k.issuer ≡ some → HasNo 58 k.issuer → HasNo 58 k.account → begins_with_space k.account ≡ false → read_account (decoded (label_text k)) ≡ k.account
label_read k true is issuer account unspaced_is =
    rw is (ap read_account (label_decoded k.issuer k.account) ∙ account_behind k.issuer k.account issuer unspaced_is)
label_read k false is issuer account unspaced_is =
    rw is (ap read_account (path_decoded k.account) ∙ account_alone k.account account unspaced_is)

label_plain : (k : Key) (some : Bool) → is_filled k.issuer ≡ some → HasNo 63 (label_text k)
label_plain k true is =
    rw is (HasNo-append 63 (part_text Path k.issuer ++ 58 ∷ []) (part_text Path k.account)
    (HasNo-append 63 (part_text Path k.issuer) (58 ∷ []) (HasNo-part 63 Path k.issuer refl) refl) (HasNo-part 63 Path k.account refl))
label_plain k false is = rw is (HasNo-part 63 Path k.account refl)

-- the fields are those of the parameters and the label of a link
record Says (k : Key) (link : List ℕ) : Type 0 where
  issuer : value_in (codes "issuer") link ≡ k.issuer
  account : read_account (decoded (before 63 link)) ≡ k.account
  secret : value_in (codes "secret") link ≡ k.secret
  algorithm : value_in (codes "algorithm") link ≡ algorithm_value k.algorithm
  digits : value_in (codes "digits") link ≡ digits_text k.digits

abbrev link_of : Key → List ℕ
link_of k = label_text k ++ query_text (63 ∷ []) (key_parameters k)

link_says : (k : Key) → key_refusal k ≡ None → AreParameters (key_parameters k) → are_distinct (entries_of (key_parameters k)) ≡ true → Says k (link_of k)
unfolding key_refusal
link_says k is are distinct =
    let none = all_pass (key_checks k) is in
    let issuer = test_passes (list_any is_colon k.issuer) Issuer Character none.1.0 in
    let account = neither (list_any is_colon k.account) (begins_with_space k.account) (test_passes (list_any is_colon k.account || begins_with_space k.account) Account Character none.1.1.1.1.0) in
    let label = label_text k in
    let ps = key_parameters k in
    let plain = label_plain k (is_filled k.issuer) refl in
    record {
      issuer = value_read (codes "issuer") label ps plain are refl distinct;
      account = ap (λ l. read_account (decoded l)) (path_read label ps plain) ∙ label_read k (is_filled k.issuer) refl issuer account.0 account.1;
      secret = value_read (codes "secret") label ps plain are refl distinct;
      algorithm = value_read (codes "algorithm") label ps plain are refl distinct;
      digits = value_read (codes "digits") label ps plain are refl distinct;
    }

key_said : (k : Key) (name link : List ℕ) → Says k link → read_factor name link ≡ Some k.factor → key_in name link ≡ Some k
key_said k name link says factor =
    rw (factor, says.algorithm, says.digits, says.issuer, says.secret, says.account, algorithm_read k.algorithm, digits_read k.digits) refl

parameters_plain : (k : Key) → key_refusal k ≡ None → HasNo 61 (factor_parameter k.factor).0 → HasNo 38 (factor_parameter k.factor).0 → HasNo 13 (factor_parameter k.factor).1 → AreParameters (key_parameters k)
unfolding key_refusal
parameters_plain k is no_equals no_and number =
    let none = all_pass (key_checks k) is in
    let issuer = no_return k.issuer (test_passes (list_any is_control k.issuer) Issuer ControlCharacter none.0) in
    let all = holds (list_all is_base32 k.secret) (test_passes (not (list_all is_base32 k.secret)) Secret Character none.1.1.1.1.1.1.0) in
    let last : AreParameters (factor_parameter k.factor ∷ []) = (no_equals, no_and, number, tt) in
    (refl, refl, all_without is_base32 (λ b. b == 13) secret_no_return k.secret all, (refl, refl, issuer, (refl, refl, algorithm_plain k.algorithm, (refl, refl, digits_plain k.digits, last))))

-- reading the link gives back the fields, for each type
key_by : (factor : Factor) (issuer account secret : List ℕ) (algorithm : Algorithm) (digits : Digits) → let k : Key = record { factor = factor; issuer = issuer; account = account; secret = secret; algorithm = algorithm; digits = digits } in key_refusal k ≡ None → is_a_word factor → read_key (key_text k) ≡ Some k
key_by (Time period) issuer account secret algorithm digits is fits =
    let k : Key = record { factor = Time period; issuer = issuer; account = account; secret = secret; algorithm = algorithm; digits = digits } in
    let are = parameters_plain k is refl refl (period_plain period (period == 30) refl fits) in
    let number = value_read (codes "period") (label_text k) (key_parameters k) (label_plain k (is_filled issuer) refl) are refl refl in
    key_said k (codes "totp") (link_of k) (link_says k is are refl)
    (ap (λ v. option_map (λ n. Time n) (read_period v)) number ∙ ap (option_map (λ n. Time n)) (period_read period (period == 30) refl fits))
key_by (Counter count) issuer account secret algorithm digits is fits =
    let k : Key = record { factor = Counter count; issuer = issuer; account = account; secret = secret; algorithm = algorithm; digits = digits } in
    let are = parameters_plain k is refl refl (decimal_plain count fits) in
    let number = value_read (codes "counter") (label_text k) (key_parameters k) (label_plain k (is_filled issuer) refl) are refl refl in
    key_said k (codes "hotp") (link_of k) (link_says k is are refl)
    (ap (λ v. option_map (λ n. Counter n) (read_decimal 0 v)) number ∙ ap (option_map (λ n. Counter n)) (whole_read count fits))

-- reading the text gives back the fields
pub key_read : (k : Key) → key_refusal k ≡ None → is_a_word k.factor → read_key (key_text k) ≡ Some k
key_read k is fits = key_by k.factor k.issuer k.account k.secret k.algorithm k.digits is fits
