-- The order of versions, and which of them hold data in a manner.
use Rattle.std.proofs.Common.{◌≡◌, ℕ, ◌+◌, ◌≤◌, ◌<◌, nat_le, pos, negsuc, List, length, refl, sym, ap, subst, arith, IsTrue}
use Rattle.std.proofs.lemmas.Bool.{and_parts, leb-true}
use Rattle.qrcode_types.specs.Versions.{is_valid, has_level, capacity}
use Rattle.qrcode_types.specs.declared.types.Version.{Version}
use Rattle.qrcode_types.specs.declared.types.Version.TheVariants.{Normal, Micro}
use Rattle.qrcode_types.specs.declared.types.EcLevel.{EcLevel}
use Rattle.qrcode_bits.specs.Segments.{total_cost}
use Rattle.qrcode_bits.specs.Cuts.{IsCutIn, IsLeastCutIn}
use Rattle.qrcode_bits.specs.Chosen.{IsMeasured, IsFirstHeld}
use Rattle.qrcode_bits.specs.Manners.{modes_of, front, has_front, FitsAs, HoldsAs, rank, NoneHolds}
use Rattle.qrcode_bits.specs.declared.optimize.Segment.{Segment}
use Rattle.qrcode_bits.specs.declared.bits.manner.Manner.{Manner}
use Rattle.qrcode_bits.specs.declared.bits.manner.Manner.TheVariants.{Bytes, Text, MarkedText}
use Rattle.qrcode_bits.specs.declared.bits.choice.Chosen.{Chosen}
use Rattle.qrcode_bits.proofs.Bands.{normal_level, cost_same, cut_in, last_of, last_of-most, same_band, capacity_rises}

-- a Normal version by its rank
pub record IsNormalAt (v : Version) : Type 0 where
  pub number : ℕ
  pub is : v ≡ Normal (pos number)
  pub some : 1 ≤ number
  pub most : number ≤ 40

pub normal_at : (v : Version) → IsTrue (is_valid v) → 5 ≤ rank v → IsNormalAt v
normal_at (Normal (pos n)) valid high = let w = and_parts (nat_le 1 n) (nat_le n 40) valid in record { number = n; is = refl; some = leb-true 1 n w.0; most = leb-true n 40 w.1 }
normal_at (Normal (negsuc n)) valid high = cc
normal_at (Micro (pos n)) valid high = absurd (omega (arith, high, leb-true n 4 (and_parts (nat_le 1 n) (nat_le n 4) valid).1))
normal_at (Micro (negsuc n)) valid high = cc

pub valid_of : (v : Version) (l : EcLevel) → IsTrue (has_level v l) → IsTrue (is_valid v)
valid_of v l has = (and_parts (is_valid v) _ has).0

-- each Normal version allows each manner's front
pub front_normal : (m : Manner) (n : ℕ) → IsTrue (has_front (Normal (pos n)) m)
front_normal m n = elim m as (λ m. IsTrue (has_front (Normal (pos n)) m)) [ Bytes ↦ refl | Text ↦ refl | MarkedText ↦ refl ]

-- a cut in a manner in one Normal version is a cut in every other
pub cut_as : (m : Manner) (i j : ℕ) (bytes : List ℕ) (ss : List Segment) → IsCutIn (modes_of m) (Normal (pos i)) bytes ss → IsCutIn (modes_of m) (Normal (pos j)) bytes ss
cut_as m i j bytes ss cut = record { cut = cut_in i j bytes ss cut.cut; among = cut.among }

module _ (m : Manner) (l : EcLevel) (bytes : List ℕ) where
  -- segments take the same bits in all versions of a band
  same_costs : (first k : ℕ) (ss : List Segment) → first ≤ k → k ≤ last_of first → total_cost (Normal (pos (last_of first))) ss ≡ total_cost (Normal (pos k)) ss
  same_costs first k ss low high =
      subst (λ n. total_cost (Normal (pos n)) ss ≡ total_cost (Normal (pos k)) ss) (same_band first k low high) (cost_same k ss (omega (arith, last_of-most first)))

  -- data that a version of a band holds, the last one holds too
  pub fits_last : (first k : ℕ) → 1 ≤ first → first ≤ k → k ≤ last_of first → HoldsAs m (Normal (pos k)) l bytes
      → (ss : List Segment) × (IsCutIn (modes_of m) (Normal (pos (last_of first))) bytes ss × (length (front m) + total_cost (Normal (pos (last_of first))) ss ≤ capacity (Normal (pos k)) l))
  fits_last first k some low high holds =
      let fits = holds.room in
      (fits.0, (cut_as m k (last_of first) bytes fits.0 fits.1.0, omega (arith, same_costs first k fits.0 low high, fits.1.1)))

  -- data that the last version of a band does not hold, no other holds
  pub none_in_band : (first : ℕ) → 1 ≤ first → ¬ FitsAs m (Normal (pos (last_of first))) bytes (capacity (Normal (pos (last_of first))) l)
      → NoneHolds m l bytes (4 + first) (5 + last_of first)
  none_in_band first some not v from to holds =
      let k = normal_at v (valid_of v l holds.exists) (omega (arith, some, from)) in
      let place : rank v ≡ 4 + k.number = ap rank k.is in
      let high : k.number ≤ last_of first = omega (arith, place, to) in
      let fits = fits_last first k.number some (omega (arith, place, from)) high (subst (λ v. HoldsAs m v l bytes) k.is holds) in
      not (fits.0, (fits.1.0, omega (arith, fits.1.1, capacity_rises l k.number (last_of first) k.some high (last_of-most first))))

  -- the first version of a band with room for a least cut of the last one is the first that holds the data
  pub first_in_band : (first n : ℕ) (chosen : Chosen) → 1 ≤ first → first ≤ n → n ≤ last_of first → chosen.version ≡ Normal (pos n)
      → IsLeastCutIn (modes_of m) (Normal (pos (last_of first))) bytes chosen.segments.items
      → chosen.used ≡ length (front m) + total_cost (Normal (pos (last_of first))) chosen.segments.items → chosen.used ≤ capacity (Normal (pos n)) l
      → ((k : ℕ) → first ≤ k → k < n → capacity (Normal (pos k)) l < chosen.used) → IsFirstHeld m (4 + first) l bytes chosen
  first_in_band first n chosen some low high is least used room less =
      let ss = chosen.segments.items in
      let same = λ (ss : List Segment). same_costs first n ss low high in
      let shortest : IsLeastCutIn (modes_of m) (Normal (pos n)) bytes ss = record {
        reached = cut_as m (last_of first) n bytes ss least.reached;
        least = λ others cut. omega (arith, same ss, same others, least.least others (cut_as m n (last_of first) bytes others cut));
      } in
      let measured : IsMeasured m (Normal (pos n)) bytes chosen = record { version = is; least = shortest; used = omega (arith, used, same ss) } in
      let place : rank chosen.version ≡ 4 + n = ap rank is in
      record {
        held = record {
          exists = subst (λ v. IsTrue (has_level v l)) (sym is) (normal_level n l (omega (arith, some, low)) (omega (arith, high, last_of-most first)));
          front_exists = subst (λ v. IsTrue (has_front v m)) (sym is) (front_normal m n);
          measured = subst (λ v. IsMeasured m v bytes chosen) (sym is) measured;
          room = subst (λ v. chosen.used ≤ capacity v l) (sym is) room;
        };
        at_least = omega (arith, place, low);
        none_below = λ v from to holds.
            let k = normal_at v (valid_of v l holds.exists) (omega (arith, some, from)) in
            let at : rank v ≡ 4 + k.number = ap rank k.is in
            let fits = fits_last first k.number some (omega (arith, at, from)) (omega (arith, at, to, place, high)) (subst (λ v. HoldsAs m v l bytes) k.is holds) in
            omega (arith, less k.number (omega (arith, at, from)) (omega (arith, at, to, place)), used, least.least fits.0 fits.1.0, fits.1.1);
      }
