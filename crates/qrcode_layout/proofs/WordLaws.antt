-- How far apart the words are.
use Rattle.std.proofs.Common.{◌≡◌, ℕ, ◌⊎◌, ◌-◌, ◌≤◌, ◌<◌, ◌==◌, nat_le, Bool, true, ◌||◌, get_or, List, refl, arith, inl, inr}
use Rattle.std.proofs.lemmas.Bool.{or_cases, leb-true, eqb-true}
use Rattle.qrcode_types.specs.Bits.{number_bits, bit_distance}
use Rattle.qrcode_types.specs.Versions.{is_micro}
use Rattle.qrcode_types.specs.declared.types.Version.{Version}
use Rattle.qrcode_types.specs.declared.types.Version.TheVariants.{Normal, Micro}
use Rattle.qrcode_layout.specs.Words.{format_bits, format_word, VersionWordsAreApart, FormatWordsAreApart}
use Rattle.qrcode_layout.specs.declared.words.TheConstants.{NORMAL_WORDS, MICRO_WORDS, VERSION_WORDS}
use Rattle.qrcode_layout.proofs.Below.{passes_below, below}
use Rattle.qrcode_layout.proofs.Formats.{format_bits_small}
use Rattle.qrcode_layout.proofs.Named.{same_names}
use Rattle.qrcode_layout.proofs.WordTables.{word, normal_at, micro_at, version_at}

-- words i and j of a list differ in at least that many bits, unless i is j
abbrev are_apart : ℕ → ℕ → List ℕ → ℕ → ℕ → Bool
are_apart bits least words i j = i == j || nat_le least (bit_distance (number_bits bits (get_or words i 0)) (number_bits bits (get_or words j 0)))

abbrev all_apart : ℕ → ℕ → List ℕ → ℕ → Bool
all_apart bits least words count = passes_below (λ i. passes_below (are_apart bits least words i) count) count

-- if words are that far apart, two that are nearer are the same word
far : (bits least : ℕ) (words : List ℕ) (count : ℕ) → all_apart bits least words count ≡ true → (i j : ℕ) → i < count → j < count
    → (i ≡ j) ⊎ (least ≤ bit_distance (number_bits bits (get_or words i 0)) (number_bits bits (get_or words j 0)))
far bits least words count all i j p q =
    elim (or_cases _ _ (below (are_apart bits least words i) count (below (λ i. passes_below (are_apart bits least words i) count) count all i p) j q)) [
      | inl same ↦ inl (eqb-true i j same)
      | inr apart ↦ inr (leb-true _ _ apart)
    ]

versions_apart : all_apart 18 8 VERSION_WORDS 34 ≡ true
unfolding number_bits
versions_apart = refl

normals_apart : all_apart 15 7 NORMAL_WORDS 32 ≡ true
unfolding number_bits
normals_apart = refl

micros_apart : all_apart 15 7 MICRO_WORDS 32 ≡ true
unfolding number_bits
micros_apart = refl

pub version_words_are_apart : VersionWordsAreApart
version_words_are_apart a b low less high =
    rw (← version_at a low (omega arith), ← version_at b (omega arith) high) (elim (far 18 8 VERSION_WORDS 34 versions_apart (a - 7) (b - 7) (omega arith) (omega arith)) [
      | inl same ↦ absurd (omega arith)
      | inr apart ↦ apart
    ])

same_bits : (words : List ℕ) (mask : ℕ) → all_apart 15 7 words 32 ≡ true → ((i : ℕ) → i < 32 → get_or words i 0 ≡ word mask i)
    → (i j : ℕ) → i < 32 → j < 32 → bit_distance (number_bits 15 (word mask i)) (number_bits 15 (word mask j)) < 7 → i ≡ j
same_bits words mask all at i j p q near = elim (far 15 7 words 32 all i j p q) [
  | inl same ↦ same
  | inr apart ↦ let e = rw (at i p, at j q) at apart in absurd (omega (arith, e))
]

pub format_words_are_apart : FormatWordsAreApart
unfolding format_word word
format_words_are_apart u v l m j k e p q r s near = same_names u v l m j k e p q r s (same u v e near (format_bits_small u l j p r) (format_bits_small v m k q s)) where
  same : (u v : Version) → is_micro u ≡ is_micro v
      → bit_distance (number_bits 15 (format_word u l j)) (number_bits 15 (format_word v m k)) < 7 → format_bits u l j < 32 → format_bits v m k < 32
      → format_bits u l j ≡ format_bits v m k
  same (Normal u) (Normal v) e near a b = same_bits NORMAL_WORDS 0x5412 normals_apart normal_at _ _ a b near
  same (Micro u) (Micro v) e near a b = same_bits MICRO_WORDS 0x4445 micros_apart micro_at _ _ a b near
  same (Normal u) (Micro v) e near a b = absurd (cc)
  same (Micro u) (Normal v) e near a b = absurd (cc)
