-- How parts are joined that come in any order.
use Rattle.std.specs.Prelude.{◌≡◌, ◌≢◌, ⊤, ℕ, ◌+◌, ◌-◌, ◌<◌, ◌≤◌, ◌==◌, nat_le, ◌&&◌, Bool, List, [], ◌∷◌, length, filter, flat_map, Option, None, Some, if◌then◌else◌}
use Rattle.std.specs.List.{AllByRecursion, range_with_len}
use Rattle.qrcode_bits.specs.StructuredAppend.{parity}
use Rattle.qrcode_append.specs.declared.errors.JoinError.{JoinError}
use Rattle.qrcode_append.specs.declared.errors.JoinError.TheVariants.{Stranger, Missing, Twice, Parity, OutOfMemory}
use Rattle.qrcode_append.specs.declared.joining.Part.{Part}

abbrev pub last_named : List Part → ℕ  -- the last place, as the first part names it
last_named [] = 0
last_named (p ∷ parts) = p.last

abbrev pub parity_named : List Part → ℕ  -- the parity, as the first part names it
parity_named [] = 0
parity_named (p ∷ parts) = p.parity

abbrev pub belongs : ℕ → ℕ → Part → Bool  -- a part names this last place and parity, and its own place is not after the last
belongs last parity p = (p.last == last) && (p.parity == parity) && nat_le p.place last

abbrev pub first_stranger : ℕ → ℕ → ℕ → List Part → Option ℕ  -- the index of the first part that does not belong, counted from `index`
first_stranger last parity index [] = None
first_stranger last parity index (p ∷ parts) = if belongs last parity p then first_stranger last parity (index + 1) parts else Some index

abbrev pub stranger_in : List Part → Option ℕ  -- the index of the first part that belongs to other data than the first part
stranger_in parts = first_stranger (last_named parts) (parity_named parts) 0 parts

abbrev pub parts_at : List Part → ℕ → List Part  -- the parts with this place
parts_at parts place = filter (λ p. p.place == place) parts

abbrev pub bytes_at : List Part → ℕ → List ℕ  -- their bytes
bytes_at parts place = flat_map (λ p. p.bytes.now) (parts_at parts place)

abbrev pub IsPartAt : List Part → ℕ → List ℕ → Type 0  -- exactly one part has the place, and these are its bytes
IsPartAt parts place bytes = (length (parts_at parts place) ≡ 1) × (bytes ≡ bytes_at parts place)

abbrev pub IsNoPartAt : List Part → ℕ → JoinError → Type 0  -- no part has the place, or more than one has
IsNoPartAt parts place (Missing k) = (k ≡ place) × (parts_at parts place ≡ [])
IsNoPartAt parts place (Twice k) = (k ≡ place) × (1 < length (parts_at parts place))
IsNoPartAt parts place (Stranger k) = ⊥
IsNoPartAt parts place Parity = ⊥
IsNoPartAt parts place OutOfMemory = ⊥

abbrev pub IsOnceBelow : List Part → ℕ → Type 0  -- exactly one part has each place below `end`
IsOnceBelow parts end = (place : ℕ) → place < end → length (parts_at parts place) ≡ 1

abbrev pub joined_to : List Part → ℕ → List ℕ  -- the bytes of the places 0 to `last`, one after the other
joined_to parts last = flat_map (bytes_at parts) (range_with_len 0 (last + 1))

-- the first place, up to `last`, that has no part or more than one; or memory ran out
abbrev pub IsPlaceRefused : List Part → ℕ → JoinError → Type 0
IsPlaceRefused parts last (Missing k) = (k ≤ last) × (IsOnceBelow parts k × (parts_at parts k ≡ []))
IsPlaceRefused parts last (Twice k) = (k ≤ last) × (IsOnceBelow parts k × (1 < length (parts_at parts k)))
IsPlaceRefused parts last (Stranger k) = ⊥
IsPlaceRefused parts last Parity = ⊥
IsPlaceRefused parts last OutOfMemory = ⊤

-- all parts belong to the same data, each place has exactly one, and the bytes are theirs in the order of places, with the parity that they name
pub record IsJoined (parts : List Part) (bytes : List ℕ) : Type 0 where
  pub same : stranger_in parts ≡ None
  pub once : IsOnceBelow parts (last_named parts + 1)
  pub joined : bytes ≡ joined_to parts (last_named parts)
  pub parity : parity bytes ≡ parity_named parts

-- why parts are not joined: the first part of other data; otherwise the first place with no part or more than one; otherwise the
-- parity; or memory ran out
abbrev pub IsJoinRefused : List Part → JoinError → Type 0
IsJoinRefused parts (Stranger k) = stranger_in parts ≡ Some k
IsJoinRefused parts (Missing k) = (stranger_in parts ≡ None) × IsPlaceRefused parts (last_named parts) (Missing k)
IsJoinRefused parts (Twice k) = (stranger_in parts ≡ None) × IsPlaceRefused parts (last_named parts) (Twice k)
IsJoinRefused parts Parity =
    (stranger_in parts ≡ None) × (IsOnceBelow parts (last_named parts + 1) × (parity (joined_to parts (last_named parts)) ≢ parity_named parts))
IsJoinRefused parts OutOfMemory = ⊤

-- one of `count` parts of these bytes, with the fields of its symbol's header
pub record IsShare (bytes : List ℕ) (count : ℕ) (part : ℕ → List ℕ) (p : Part) : Type 0 where
  pub inside : p.place < count
  pub last : p.last ≡ count - 1
  pub parity : p.parity ≡ parity bytes
  pub own : p.bytes.now ≡ part p.place

-- the parts of data, divided as in AreSeveral, in any order, each place once
pub record AreShares (bytes : List ℕ) (count : ℕ) (part : ℕ → List ℕ) (parts : List Part) : Type 0 where
  pub some : 0 < count
  pub joined : flat_map part (range_with_len 0 count) ≡ bytes
  pub each : AllByRecursion (IsShare bytes count part) parts
  pub once : IsOnceBelow parts count
