-- What follows from the counts of a reserve.
use Rattle.std.proofs.Common.{◌≡◌, ℕ, ◌+◌, ◌-◌, ◌*◌, ◌/◌, ◌%◌, ◌<◌, ◌≤◌, ◌↔◌, Bool, true, false, not, List, [], ◌∷◌, ◌++◌, length, map, get_or, refl, sym, ap, ◌∙◌, arith, subst, IsTrue, nat_eq, true≢false, Result, Ok, Err, IfOk, Option, Some, None, SomeIff, is_some}
use Rattle.std.specs.List.{range_with_len, count_by}
use Rattle.std.proofs.lemmas.List.FromFn.{map-range_with_len_more, get_or-map-range_with_len, length-map-range_with_len}
use Rattle.qrcode_types.specs.Blocks.{AreBlocks}
use Rattle.qrcode_types.specs.declared.tables.Blocks.{Blocks}
use Rattle.qrcode_types.specs.Versions.{is_valid, side, block_lengths, ec_length}
use Rattle.qrcode_types.specs.declared.types.Version.{Version}
use Rattle.qrcode_types.specs.declared.types.Version.TheVariants.{Normal, Micro}
use Rattle.qrcode_types.specs.declared.types.EcLevel.{EcLevel}
use Rattle.qrcode_types.specs.declared.types.Color.{Color}
use Rattle.qrcode_ec.specs.Blocks.{codewords, block}
use Rattle.qrcode_layout.specs.declared.masks.MaskPattern.{MaskPattern}
use Rattle.qrcode_symbol.specs.Symbol.{IsDamaged}
use Rattle.qrcode.specs.Reading.{EncodesBytes, ReadsOnly}
use Rattle.qrcode_layout.specs.Patterns.{format_copies}
use Rattle.qrcode_reader.specs.declared.formats.FormatCopy.TheVariants.{First, Last}
use Rattle.qrcode_reader.proofs.Interleaved.{count_is}
use Rattle.qrcode_damage.specs.Areas.{marks, touched, KeepsFormat, MayShowAnything, AgreesOutside}
use Rattle.qrcode_damage.specs.Counting.{touched_places}
use Rattle.qrcode_damage.proofs.Exact.{area_is_exact}
use Rattle.qrcode_damage.specs.Refusals.{IsExcess, IsLostBlock, LosesNoBlock}
use Rattle.qrcode_damage.specs.Reserves.{IsReserve, Leaves, IsLeast, IsItsExcess, StaysWithin}
use Rattle.qrcode_damage.specs.declared.excess.Excess.{Excess}
use Rattle.qrcode_damage.specs.declared.excess.Excess.TheVariants.{Block, FirstFormat, LastFormat, OutOfMemory}
use Rattle.qrcode_damage.specs.declared.reserve.Reserve.{Reserve}
use Rattle.qrcode_damage.proofs.Shown.{area_is_damage, reserve_is_read}

-- one block more
pub touched_more : (v : Version) (l : EcLevel) (area : ℕ → ℕ → Bool) (words : List ℕ) (b count : ℕ) → words ≡ codewords v l (marks v area)
    → count ≡ count_by (λ word. not (nat_eq word 0)) (block v l words b)
    → map (touched v l area) (range_with_len 0 (b + 1)) ≡ map (touched v l area) (range_with_len 0 b) ++ count ∷ []
unfolding touched
touched_more v l area words b count e c =
    map-range_with_len_more (touched v l area) 0 b b (omega arith)
    ∙ ap (λ (n : ℕ). map (touched v l area) (range_with_len 0 b) ++ n ∷ []) (sym (c ∙ ap (λ (w : List ℕ). count_by (λ word. not (nat_eq word 0)) (block v l w b)) e))

-- the first and the last copy of the format word are all copies
pub both_kept : (v : Version) (area : ℕ → ℕ → Bool) → touched_places v area First ≤ 3 → touched_places v area Last ≤ 3 → KeepsFormat v area
unfolding format_copies
both_kept (Normal n) area first last = (first, (last, tt))
both_kept (Micro n) area first last = (first, tt)

pub first_kept : (v : Version) (area : ℕ → ℕ → Bool) → KeepsFormat v area → touched_places v area First ≤ 3
unfolding format_copies
first_kept (Normal n) area keeps = keeps.0
first_kept (Micro n) area keeps = keeps.0

pub last_kept : (v : Version) (area : ℕ → ℕ → Bool) → KeepsFormat v area → touched_places v area Last ≤ 3
unfolding format_copies
last_kept (Normal n) area keeps = keeps.1.0
last_kept (Micro n) area keeps = keeps.0

pub exact_within : (v : Version) (l : EcLevel) (k : MaskPattern) (s : List Color) (area : ℕ → ℕ → Bool) (b : Bool) → IsTrue (is_valid v) → length s ≡ side v * side v
    → (IsTrue b ↔ MayShowAnything v l area) → (IsTrue b ↔ ((other : List Color) → AgreesOutside v area s other → IsDamaged v l k s other))
exact_within v l k s area b valid square h = (
  λ may other agrees. area_is_damage v l k area s other valid (h.0 may) agrees,
  λ all. h.1 (area_is_exact v l k area s valid square all),
)

-- The reserve.

pub count_at : (v : Version) (l : EcLevel) (area : ℕ → ℕ → Bool) (counts : List ℕ) → counts ≡ map (touched v l area) (range_with_len 0 (length (block_lengths v l)))
    → (b : ℕ) → b < length (block_lengths v l) → get_or counts b 0 ≡ touched v l area b
count_at v l area counts e b below =
    ap (λ (xs : List ℕ). get_or xs b 0) e ∙ get_or-map-range_with_len (touched v l area) 0 (length (block_lengths v l)) b b 0 below (omega arith)

pub length_counts : (v : Version) (l : EcLevel) (area : ℕ → ℕ → Bool) (counts : List ℕ) → counts ≡ map (touched v l area) (range_with_len 0 (length (block_lengths v l)))
    → length counts ≡ length (block_lengths v l)
length_counts v l area counts e = ap length e ∙ length-map-range_with_len (touched v l area) 0 (length (block_lengths v l))

pub some_block : (v : Version) (l : EcLevel) (b : Blocks) → AreBlocks v l b → 0 < length (block_lengths v l)
some_block v l b are = omega (arith, count_is v l b are, b.some_blocks)

pub is_reserve : (v : Version) (l : EcLevel) (area : ℕ → ℕ → Bool) (r : Reserve) (counts : List ℕ) → counts ≡ r.touched.items
    → r.touched.items ≡ map (touched v l area) (range_with_len 0 (length (block_lengths v l)))
    → r.worst < length counts → r.most ≡ get_or counts r.worst 0 → ((i : ℕ) → i < length counts → get_or counts i 0 ≤ r.most)
    → ((i : ℕ) → i < r.worst → get_or counts i 0 < r.most)
    → r.allowed ≡ ec_length v l / 2 → r.first ≡ touched_places v area First → r.last ≡ touched_places v area Last → IsReserve v l area r
is_reserve v l area r counts d e inside most at_least earlier allowed first last =
    let long = length_counts v l area counts (d ∙ e) in
    let below : r.worst < length (block_lengths v l) = omega (arith, inside, long) in
    let same = count_at v l area counts (d ∙ e) r.worst below in
    record {
      counts = e;
      inside = below;
      worst = λ b small. omega (arith, count_at v l area counts (d ∙ e) b small, same, most, at_least b (omega (arith, small, long)));
      earlier = λ b before. omega (arith, count_at v l area counts (d ∙ e) b (omega (arith, before, below)), same, most, earlier b before);
      most = most ∙ same;
      allowed = allowed;
      first = first;
      last = last;
    }

-- if the worst block is within the bound, all blocks are
pub no_block_lost : (v : Version) (l : EcLevel) (area : ℕ → ℕ → Bool) (r : Reserve) → IsReserve v l area r → r.most ≤ r.allowed → LosesNoBlock v l area
no_block_lost v l area r h most = λ b below. omega (arith, h.worst b below, h.most, h.allowed, most)

pub all_within : (v : Version) (l : EcLevel) (area : ℕ → ℕ → Bool) (r : Reserve) → IsReserve v l area r → r.most ≤ r.allowed → r.first ≤ 3 → r.last ≤ 3 → MayShowAnything v l area
all_within v l area r h most first last = record {
  blocks = no_block_lost v l area r h most;
  format = both_kept v area (subst (λ n. n ≤ 3) h.first first) (subst (λ n. n ≤ 3) h.last last);
}

pub lost_block : (v : Version) (l : EcLevel) (area : ℕ → ℕ → Bool) (r : Reserve) → IsReserve v l area r → r.allowed < r.most → IsLostBlock v l area r.worst r.most r.allowed
lost_block v l area r h over = record {
  inside = h.inside;
  value = h.most;
  bound = h.allowed;
  over = over;
  worst = λ b below. omega (arith, h.worst b below, h.most);
  earlier = λ b before. omega (arith, h.earlier b before, h.most);
}

-- an area that passes a bound may not show anything
pub excess_is_not : (v : Version) (l : EcLevel) (area : ℕ → ℕ → Bool) (e : Excess) → IsExcess v l area e → ¬ MayShowAnything v l area
excess_is_not v l area (Block block count allowed) x may = absurd (omega (arith, may.blocks block x.inside, x.value, x.bound, x.over))
excess_is_not v l area (FirstFormat n) x may = absurd (omega (arith, x.0, x.1.0, first_kept v area may.format))
excess_is_not v l area (LastFormat n) x may = absurd (omega (arith, x.0, x.1.0, last_kept v area may.format))
excess_is_not v l area OutOfMemory x may = x

-- the worst block determines what is left
pub is_least : (v : Version) (l : EcLevel) (area : ℕ → ℕ → Bool) (r : Reserve) → IsReserve v l area r → MayShowAnything v l area → IsLeast v l area (Some (r.allowed - r.most))
is_least v l area r h may = (
  record { blocks = λ b below. omega (arith, h.worst b below, h.most, h.allowed, may.blocks r.worst h.inside); format = may.format },
  λ more leaves. omega (arith, leaves r.worst h.inside, h.most, h.allowed),
)

pub least_of : (v : Version) (l : EcLevel) (area : ℕ → ℕ → Bool) (r : Reserve) (left : Option ℕ) → IsReserve v l area r → MayShowAnything v l area
    → SomeIff left (r.most ≤ r.allowed) (r.allowed - r.most) → IsLeast v l area left
least_of v l area r None h may s = absurd (s (omega (arith, may.blocks r.worst h.inside, h.most, h.allowed)))
least_of v l area r (Some n) h may s = subst (λ k. IsLeast v l area (Some k)) (sym s.1) (is_least v l area r h may)

pub none_may : (v : Version) (l : EcLevel) (area : ℕ → ℕ → Bool) (o : Option Excess) (b : Bool) → is_some o ≡ not b → IsItsExcess v l area o → IsTrue b ↔ MayShowAnything v l area
none_may v l area None true e x = (λ t. x, λ may. refl)
none_may v l area None false e x = absurd (true≢false (sym e))
none_may v l area (Some ex) true e x = absurd (true≢false e)
none_may v l area (Some ex) false e x = (λ t. absurd (true≢false (sym t)), λ may. absurd (excess_is_not v l area ex x may))

-- the number left is at least `wanted` exactly if the area leaves so much
pub leaves_wanted : (v : Version) (l : EcLevel) (area : ℕ → ℕ → Bool) (n wanted : ℕ) → IsLeast v l area (Some n) → (wanted ≤ n) ↔ Leaves v l area wanted
leaves_wanted v l area n wanted h = (
  λ small. record { blocks = λ b below. omega (arith, h.0.blocks b below, small); format = h.0.format },
  λ leaves. h.1 wanted leaves.blocks,
)

pub leaves_may : (v : Version) (l : EcLevel) (area : ℕ → ℕ → Bool) (wanted : ℕ) → Leaves v l area wanted → MayShowAnything v l area
leaves_may v l area wanted leaves = record { blocks = λ b below. omega (arith, leaves.blocks b below); format = leaves.format }

-- What is read beside an area.

pub reads_within : (v : Version) (l : EcLevel) (bits : List Bool) (bytes : List ℕ) (area : ℕ → ℕ → Bool) (r : Reserve) (s other : List Color)
    → (encodes : EncodesBytes v l bits bytes s) → IsReserve v l area r → StaysWithin v l encodes.encodes.mask area r s other → ReadsOnly other bytes
reads_within v l bits bytes area r s other encodes h stays =
    reserve_is_read v l bits bytes area s other encodes (record {
      square = stays.square;
      blocks = λ b below. omega (arith, stays.blocks b (omega (arith, below, length_counts v l area r.touched.items h.counts)), count_at v l area r.touched.items h.counts b below, h.allowed);
      format = stays.format;
    })

pub agrees_along : (v : Version) (area : ℕ → ℕ → Bool) (s new other : List Color) → AgreesOutside v area s new → AgreesOutside v area new other → AgreesOutside v area s other
agrees_along v area s new other a b = record { square = b.square ∙ a.square; same = λ x y i j out. a.same x y i j out ∙ b.same x y i j out }

pub reads_beside : {E : Type 0} (v : Version) (l : EcLevel) (s : List Color) (area : ℕ → ℕ → Bool) (r : Result Reserve E) → IfOk r (IsReserve v l area)
    → IfOk r (λ reserve. (bits : List Bool) (bytes : List ℕ) (other : List Color) → (encodes : EncodesBytes v l bits bytes s)
    → StaysWithin v l encodes.encodes.mask area reserve s other → ReadsOnly other bytes)
reads_beside v l s area (Err e) h = tt
reads_beside v l s area (Ok r) h = λ bits bytes other encodes stays. reads_within v l bits bytes area r s other encodes h stays

pub is_code_reserve : {E : Type 0} (v u : Version) (l m : EcLevel) (area : ℕ → ℕ → Bool) (r : Result Reserve E) → v ≡ u → l ≡ m → IfOk r (IsReserve v l area) → IfOk r (IsReserve u m area)
is_code_reserve v u l m area r e f h = subst (λ (x : EcLevel). IfOk r (IsReserve u x area)) f (subst (λ (x : Version). IfOk r (IsReserve x l area)) e h)

-- each larger odd size was tried before
pub tried : (P : ℕ → Type 0) (w less larger : ℕ) → w % 2 ≡ 1 → 2 * less ≤ w → ((k : ℕ) → k < less → P (w - 2 * k)) → w - 2 * less < larger → larger ≤ w → larger % 2 ≡ 1 → P larger
tried P w less larger odd small before over inside other =
    let k = (w - larger) / 2 in
    subst P (let e : w - 2 * k ≡ larger = omega arith in e) (before k (omega arith))
