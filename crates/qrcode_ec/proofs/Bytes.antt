-- Lists of bytes.
use Rattle.std.proofs.Common.{ℕ, zero, suc, ◌<◌, List, [], ◌∷◌, ◌++◌, map, take, drop, get_or, arith}
use Rattle.qrcode_types.specs.Bits.{AreBytes}

pub bytes_from : (xs : List ℕ) → ((k : ℕ) → get_or xs k 0 < 256) → AreBytes xs
bytes_from [] h = tt
bytes_from (x ∷ xs) h = (h 0, bytes_from xs (λ k. h (suc k)))

pub bytes_append : (xs ys : List ℕ) → AreBytes xs → AreBytes ys → AreBytes (xs ++ ys)
bytes_append [] ys a b = b
bytes_append (x ∷ xs) ys a b = (a.0, bytes_append xs ys a.1 b)

pub take_bytes : (n : ℕ) (xs : List ℕ) → AreBytes xs → AreBytes (take n xs)
take_bytes zero xs b = tt
take_bytes (suc n) [] b = tt
take_bytes (suc n) (x ∷ xs) b = (b.0, take_bytes n xs b.1)

pub drop_bytes : (n : ℕ) (xs : List ℕ) → AreBytes xs → AreBytes (drop n xs)
drop_bytes zero xs b = b
drop_bytes (suc n) [] b = tt
drop_bytes (suc n) (x ∷ xs) b = drop_bytes n xs b.1

pub byte_at : (xs : List ℕ) (k : ℕ) → AreBytes xs → get_or xs k 0 < 256
byte_at [] k b = omega arith
byte_at (x ∷ xs) zero b = b.0
byte_at (x ∷ xs) (suc k) b = byte_at xs k b.1

pub map_bytes : (f : ℕ → ℕ) (xs : List ℕ) → ((i : ℕ) → f i < 256) → AreBytes (map f xs)
map_bytes f [] all = tt
map_bytes f (x ∷ xs) all = (all x, map_bytes f xs all)
