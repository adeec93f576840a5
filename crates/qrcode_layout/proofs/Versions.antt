-- A test that each version passes, by computation.
use Rattle.std.proofs.Common.{◌≡◌, ℕ, ◌+◌, ◌-◌, Bool, true, pos, negsuc, IsTrue, arith, subst}
use Rattle.qrcode_types.specs.Versions.{is_valid}
use Rattle.qrcode_types.specs.declared.types.Version.{Version}
use Rattle.qrcode_types.specs.declared.types.Version.TheVariants.{Normal, Micro}
use Rattle.qrcode_layout.proofs.Below.{passes_below, below}
use Rattle.qrcode_layout.proofs.Formats.{within}

abbrev pub all_normal : (Version → Bool) → Bool
all_normal test = passes_below (λ i. test (Normal (pos (i + 1)))) 40

abbrev pub all_micro : (Version → Bool) → Bool
all_micro test = passes_below (λ i. test (Micro (pos (i + 1)))) 4

-- a test that each version passes
pub each_version : (test : Version → Bool) → all_normal test ≡ true → all_micro test ≡ true → (v : Version) → IsTrue (is_valid v) → test v ≡ true
each_version test normals micros (Normal (negsuc n)) valid = absurd (cc)
each_version test normals micros (Micro (negsuc n)) valid = absurd (cc)
each_version test normals micros (Normal (pos n)) valid =
    let range = within n 40 valid in
    let e : n - 1 + 1 ≡ n = omega (arith, range.0) in
    subst (λ (m : ℕ). test (Normal (pos m)) ≡ true) e (below (λ i. test (Normal (pos (i + 1)))) 40 normals (n - 1) (omega (arith, range.0, range.1)))
each_version test normals micros (Micro (pos n)) valid =
    let range = within n 4 valid in
    let e : n - 1 + 1 ≡ n = omega (arith, range.0) in
    subst (λ (m : ℕ). test (Micro (pos m)) ≡ true) e (below (λ i. test (Micro (pos (i + 1)))) 4 micros (n - 1) (omega (arith, range.0, range.1)))
