-- The designators of sets.
use Rattle.std.proofs.Common.{◌≡◌, ◌⊎◌, ℕ, ◌+◌, ◌-◌, ◌≤◌, ◌==◌, false, [], ◌∷◌, ◌++◌, length, IsTrue, Some, None, refl, sym, ap, ◌∙◌, arith, inl, inr, length-append}
use Rattle.std.specs.Prelude.{slice_index_or, not, nat_le, if◌then◌else◌}
use Rattle.std.proofs.lemmas.Bool.{cond-true, le-leb, true≢false}
use Rattle.std.proofs.lemmas.Bool.Decides.{nat_tests}
use Rattle.qrcode_types.specs.Bits.{number_bits}
use Rattle.qrcode_types.specs.Versions.{is_micro}
use Rattle.qrcode_types.specs.declared.types.Version.{Version}
use Rattle.qrcode_types.specs.declared.types.Version.TheVariants.{Normal, Micro}
use Rattle.qrcode_bits.specs.Refusals.{eci_refusal, bit_limit}
use Rattle.qrcode_bits.specs.Written.{eci_bits}
use Rattle.qrcode_bits.proofs.Changed.{append_fits}
use Rattle.qrcode_bits.proofs.Numbers.{length-number_bits}
use Rattle.qrcode_charsets.specs.Charsets.{page_designator, designator}
use Rattle.qrcode_charsets.specs.Fronts.{designator_bits, front, has_front}
use Rattle.qrcode_charsets.specs.declared.sets.Charset.{Charset}
use Rattle.qrcode_charsets.specs.declared.sets.Charset.TheVariants.{Unmarked, Utf8, OneByte, ShiftJis}
use Rattle.qrcode_charsets.specs.declared.sets.CodePage.{CodePage}
use Rattle.qrcode_charsets.specs.declared.sets.CodePage.TheVariants.{Latin1, Latin2, Latin3, Latin4, Cyrillic, Arabic, Greek, Hebrew, Latin5, Latin6, Thai, Latin7, Latin8, Latin9, Latin10, Windows1250, Windows1251, Windows1252, Windows1256}

-- the set of one byte with each designator
page_of : ℕ → CodePage
page_of n = slice_index_or (Latin1 ∷ Latin2 ∷ Latin3 ∷ Latin4 ∷ Cyrillic ∷ Arabic ∷ Greek ∷ Hebrew ∷ Latin5 ∷ Latin6 ∷ Thai ∷ Latin1 ∷ Latin7 ∷ Latin8 ∷ Latin9 ∷ Latin10 ∷ Latin1 ∷ Latin1 ∷ Windows1250 ∷ Windows1251 ∷ Windows1252 ∷ Windows1256 ∷ []) (n - 3) Latin1

page_small : (p : CodePage) → page_designator p ≤ 24
page_small p = grind (arith, nat_tests)

-- a set has a designator of one byte, and the version an ECI, or neither
pub record IsMarked (c : Charset) : Type 0 where
  pub number : ℕ
  pub is : designator c ≡ Some number
  pub small : number ≤ 127
  pub normal : (v : Version) → has_front v c ≡ not (is_micro v)

pub unmarked_or : (c : Charset) → (c ≡ Unmarked) ⊎ IsMarked c
unmarked_or Unmarked = inl refl
unmarked_or Utf8 = inr (record { number = 26; is = refl; small = omega arith; normal = λ v. refl })
unmarked_or ShiftJis = inr (record { number = 20; is = refl; small = omega arith; normal = λ v. refl })
unmarked_or (OneByte p) = inr (record { number = page_designator p; is = refl; small = omega (arith, page_small p); normal = λ v. refl })

-- the set with each designator
set_of : ℕ → Charset
set_of n = if n == 20 then ShiftJis else (if n == 26 then Utf8 else OneByte (page_of n))

page_set : (p : CodePage) → set_of (page_designator p) ≡ OneByte p
unfolding page_of set_of
page_set p = grind (arith, nat_tests)

set_is : (c : Charset) (n : ℕ) → designator c ≡ Some n → set_of n ≡ c
unfolding page_of set_of
set_is Unmarked n e = cc
set_is Utf8 n e = let is : 26 ≡ n = cc in ap set_of (sym is)
set_is (OneByte p) n e = let is : page_designator p ≡ n = cc in ap set_of (sym is) ∙ page_set p
set_is ShiftJis n e = let is : 20 ≡ n = cc in ap set_of (sym is)

-- two sets with one designator are one set
pub same_set : (c d : Charset) (n : ℕ) → designator c ≡ Some n → designator d ≡ Some n → c ≡ d
same_set c d n e f = sym (set_is c n e) ∙ set_is d n f

eci_short : (n : ℕ) → n ≤ 127 → eci_bits n ≡ number_bits 8 n
unfolding eci_bits
eci_short n h = cond-true (nat_le n 127) (number_bits 8 n) _ (le-leb n 127 h)

-- the bits before the segments
pub front_is : (c : Charset) (m : IsMarked c) → front c ≡ number_bits 4 7 ++ number_bits 8 m.number
front_is c m = ap (λ o. designator_bits o) m.is ∙ ap (λ b. number_bits 4 7 ++ b) (eci_short m.number m.small)

pub length-front : (c : Charset) (m : IsMarked c) → length (front c) ≡ 12
length-front c m = omega (arith, ap length (front_is c m), length-append (number_bits 4 7) (number_bits 8 m.number), length-number_bits 4 7, length-number_bits 8 m.number)

-- what names a set with a designator
pub front_some : (c : Charset) (n : ℕ) → Some n ≡ designator c → front c ≡ number_bits 4 7 ++ eci_bits n
front_some c n e = ap designator_bits (sym e)

pub length_some : (c : Charset) (n : ℕ) → Some n ≡ designator c → 12 ≡ length (front c)
length_some Unmarked n e = cc
length_some Utf8 n e = sym (length-front Utf8 (record { number = 26; is = refl; small = omega arith; normal = λ v. refl }))
length_some ShiftJis n e = sym (length-front ShiftJis (record { number = 20; is = refl; small = omega arith; normal = λ v. refl }))
length_some (OneByte p) n e = sym (length-front (OneByte p) (record { number = page_designator p; is = refl; small = omega (arith, page_small p); normal = λ v. refl }))

marked_normal : (c : Charset) (v : Version) (n : ℕ) → Some n ≡ designator c → IsTrue (has_front v c) → is_micro v ≡ false
marked_normal c v n h k = grind (arith, nat_tests)

-- a designator is accepted if it has room
taken : (v : Version) (used n : ℕ) → is_micro v ≡ false → n ≤ 127 → length (number_bits 4 7 ++ eci_bits n) ≡ 12 → used + 12 ≤ bit_limit → eci_refusal v used n ≡ None
taken (Micro v) used n normal small long room = absurd (true≢false normal)
taken (Normal v) used n normal small long room =
    cond-true (nat_le n 999999) _ _ (le-leb n 999999 (omega arith)) ∙ append_fits used (number_bits 4 7 ++ eci_bits n) (omega (arith, room, long))

pub designator_taken : (c : Charset) (v : Version) (used n : ℕ) → Some n ≡ designator c → n ≤ 127 → IsTrue (has_front v c) → used + 12 ≤ bit_limit → eci_refusal v used n ≡ None
designator_taken c v used n e small has room =
    taken v used n (marked_normal c v n e has) small (ap length (sym (front_some c n e)) ∙ sym (length_some c n e)) room
