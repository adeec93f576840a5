-- In how many bits lists differ, piece by piece.
use Rattle.std.proofs.Common.{◌≡◌, ◌+◌, Bool, List, [], ◌∷◌, ◌++◌, length, arith}
use Rattle.qrcode_types.specs.Bits.{bit_distance}

pub distance_append : (xs ys us vs : List Bool) → length xs ≡ length ys → bit_distance (xs ++ us) (ys ++ vs) ≡ bit_distance xs ys + bit_distance us vs
distance_append [] [] us vs e = omega arith
distance_append [] (y ∷ ys) us vs e = absurd (omega arith)
distance_append (x ∷ xs) [] us vs e = absurd (omega arith)
distance_append (x ∷ xs) (y ∷ ys) us vs e = omega (arith, distance_append xs ys us vs (omega arith))
