-- The tables of words in the code are those of the definitions.
use Rattle.std.proofs.Common.{◌≡◌, ℕ, ℤ, ◌+◌, ◌-◌, ◌<◌, ◌≤◌, ◌==◌, true, get_or, refl, ap, ◌∙◌, arith, IsTrue}
use Rattle.std.specs.Prelude.{bit_xor}
use Rattle.std.proofs.lemmas.Bool.{eqb-true}
use Rattle.qrcode_types.specs.Polynomials.{remainder_from, remainder}
use Rattle.qrcode_types.specs.declared.types.Version.{Version}
use Rattle.qrcode_types.specs.declared.types.Version.TheVariants.{Normal, Micro}
use Rattle.qrcode_types.specs.declared.types.EcLevel.{EcLevel}
use Rattle.qrcode_layout.specs.Words.{with_check_bits, version_word, format_bits, format_word}
use Rattle.qrcode_layout.specs.declared.masks.MaskPattern.{MaskPattern}
use Rattle.qrcode_layout.specs.declared.words.TheConstants.{NORMAL_WORDS, MICRO_WORDS, VERSION_WORDS}
use Rattle.qrcode_types.specs.Versions.{has_level}
use Rattle.qrcode_layout.specs.Masks.{exists_in}
use Rattle.qrcode_layout.proofs.Formats.{format_bits_small}
use Rattle.qrcode_layout.proofs.Below.{passes_below, below}

-- the format word of five bits
unfoldable pub word : ℕ → ℕ → ℕ
word mask i = bit_xor (with_check_bits 0x537 10 i) mask

normal_words : passes_below (λ i. get_or NORMAL_WORDS i 0 == word 0x5412 i) 32 ≡ true
unfolding word with_check_bits remainder remainder_from
normal_words = refl

micro_words : passes_below (λ i. get_or MICRO_WORDS i 0 == word 0x4445 i) 32 ≡ true
unfolding word with_check_bits remainder remainder_from
micro_words = refl

version_words : passes_below (λ i. get_or VERSION_WORDS i 0 == version_word (i + 7)) 34 ≡ true
unfolding version_word with_check_bits remainder remainder_from
version_words = refl

pub normal_at : (i : ℕ) → i < 32 → get_or NORMAL_WORDS i 0 ≡ word 0x5412 i
normal_at i lt = eqb-true _ _ (below (λ i. get_or NORMAL_WORDS i 0 == word 0x5412 i) 32 normal_words i lt)

pub micro_at : (i : ℕ) → i < 32 → get_or MICRO_WORDS i 0 ≡ word 0x4445 i
micro_at i lt = eqb-true _ _ (below (λ i. get_or MICRO_WORDS i 0 == word 0x4445 i) 32 micro_words i lt)

pub version_at : (n : ℕ) → 7 ≤ n → n ≤ 40 → get_or VERSION_WORDS (n - 7) 0 ≡ version_word n
version_at n low high =
    let e : n - 7 + 7 ≡ n = omega arith in
    eqb-true _ _ (below (λ i. get_or VERSION_WORDS i 0 == version_word (i + 7)) 34 version_words (n - 7) (omega arith)) ∙ ap version_word e

pub normal_word : (v : Version) (l : EcLevel) (k : MaskPattern) (n : ℤ) (i : ℕ) → v ≡ Normal n → IsTrue (has_level v l) → IsTrue (exists_in v k) → i ≡ format_bits v l k → get_or NORMAL_WORDS i 0 ≡ format_word v l k
unfolding format_word word
normal_word (Normal m) l k n i is has exists e = normal_at i (omega (arith, format_bits_small (Normal m) l k has exists)) ∙ ap (word 0x5412) e
normal_word (Micro m) l k n i is has exists e = absurd (cc)

pub micro_word : (v : Version) (l : EcLevel) (k : MaskPattern) (n : ℤ) (i : ℕ) → v ≡ Micro n → IsTrue (has_level v l) → IsTrue (exists_in v k) → i ≡ format_bits v l k → get_or MICRO_WORDS i 0 ≡ format_word v l k
unfolding format_word word
micro_word (Normal m) l k n i is has exists e = absurd (cc)
micro_word (Micro m) l k n i is has exists e = micro_at i (omega (arith, format_bits_small (Micro m) l k has exists)) ∙ ap (word 0x4445) e
