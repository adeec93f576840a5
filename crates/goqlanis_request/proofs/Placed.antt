-- Rectangles of pixels in a drawing.
use Rattle.std.proofs.Common.{◌≡◌, ℕ, ◌+◌, ◌*◌, ◌^◌, ◌<◌, ◌≤◌, arith}
use Rattle.std.proofs.lemmas.Nat.{mul-le}

-- the right and bottom ends of a place fit in 32 bits
pub few_pixels : (before count modules pixels : ℕ) → before + count ≤ modules → modules * pixels < 2 ^ 32 → before * pixels + count * pixels < 2 ^ 32
few_pixels before count modules pixels h k =
    let sum : before * pixels + count * pixels ≡ (before + count) * pixels = omega arith in
    let ends : (before + count) * pixels ≤ modules * pixels = mul-le (before + count) pixels modules pixels h (omega arith) in
    omega (arith, sum, ends, k)
