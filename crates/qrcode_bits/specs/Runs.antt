-- The runs of tokens of one kind in the data. Tokens are found from the left: a Kanji pair, or a single byte: one that could
-- begin a pair but does not (a lone lead), a digit, another alphanumeric character or another byte.
use Rattle.std.specs.Prelude.{◌≡◌, ℕ, ◌+◌, ◌*◌, Bool, true, false, List, [], ◌∷◌, ◌++◌, replicate, if◌then◌else◌, ⊤}
use Rattle.qrcode_types.specs.declared.types.Mode.{Mode}
use Rattle.qrcode_types.specs.declared.types.Mode.TheVariants.{Numeric, Alphanumeric, Byte, Kanji}
use Rattle.qrcode_types.specs.Characters.{is_digit, is_alphanumeric, is_lead, is_kanji}
use Rattle.qrcode_bits.specs.declared.optimize.Segment.{Segment}
use Rattle.qrcode_bits.specs.declared.optimize.Kind.{Kind}
use Rattle.qrcode_bits.specs.declared.optimize.Kind.TheVariants.{Pair, LoneLead, Digit, Letter, Other}

abbrev pub mode_of : Kind → Mode  -- the mode in which a token is written
mode_of Pair = Kanji
mode_of LoneLead = Byte
mode_of Digit = Numeric
mode_of Letter = Alphanumeric
mode_of Other = Byte

abbrev pub width : Kind → ℕ  -- the number of bytes of a token
width Pair = 2
width LoneLead = 1
width Digit = 1
width Letter = 1
width Other = 1

abbrev pub single_kind : ℕ → Kind  -- the kind of a byte that begins no pair
single_kind b = if is_lead b then LoneLead else (if is_digit b then Digit else (if is_alphanumeric b then Letter else Other))

abbrev pub kinds : List ℕ → List Kind  -- the kinds of the tokens, from the left
kinds [] = []
kinds (b ∷ []) = single_kind b ∷ []
kinds (b ∷ c ∷ more) = elim (is_kanji b c) [ true ↦ Pair ∷ kinds more | false ↦ single_kind b ∷ kinds (c ∷ more) ]

abbrev pub go_together : Kind → Kind → Bool  -- two neighbours belong to one run; a lone lead is a run of its own
go_together Pair Pair = true
go_together Digit Digit = true
go_together Letter Letter = true
go_together Other Other = true
go_together _ _ = false

abbrev pub goes_on : Kind → List Kind → Bool  -- the next token belongs to the same run
goes_on k [] = false
goes_on k (j ∷ js) = go_together k j

abbrev pub first_from : ℕ → List Segment → List Segment  -- the segments, the first of which begins earlier
first_from place [] = []
first_from place (s ∷ ss) = (record s { begin = place }) ∷ ss

-- the runs of tokens that begin at a place: a token joins the run after it, or is a run of its own
abbrev pub runs_from : ℕ → List Kind → List Segment
runs_from place [] = []
runs_from place (k ∷ ks) =
    let end = place + width k in
    if goes_on k ks then first_from place (runs_from end ks) else (record { mode = mode_of k; begin = place; end = end }) ∷ runs_from end ks

abbrev pub runs : List ℕ → List Segment  -- the runs of the data
runs bytes = runs_from 0 (kinds bytes)

-- The same as a relation.

pub record Row : Type 0 where  -- a token and a number of further ones of its kind
  pub kind : Kind
  pub further : ℕ

abbrev pub spelled : List Row → List Kind  -- the tokens of rows
spelled [] = []
spelled (r ∷ rows) = r.kind ∷ (replicate r.further r.kind ++ spelled rows)

abbrev pub IsApart : Row → List Row → Type 0  -- the next row is of another kind, unless both are lone leads
IsApart r [] = ⊤
IsApart r (q ∷ rows) = r.kind ≡ q.kind → r.kind ≡ LoneLead

abbrev pub AreMaximal : List Row → Type 0  -- rows are as long as possible, and each lone lead is a row of its own
AreMaximal [] = ⊤
AreMaximal (r ∷ rows) = (r.kind ≡ LoneLead → r.further ≡ 0) × (IsApart r rows × AreMaximal rows)

abbrev pub row_end : ℕ → Row → ℕ  -- where a row ends that begins at a place
row_end place r = place + (r.further + 1) * width r.kind

abbrev pub row_segments : ℕ → List Row → List Segment  -- rows that begin at a place, as segments
row_segments place [] = []
row_segments place (r ∷ rows) = (record { mode = mode_of r.kind; begin = place; end = row_end place r }) ∷ row_segments (row_end place r) rows

-- the segments are the longest rows of the bytes' tokens
pub record IsRuns (bytes : List ℕ) (segments : List Segment) : Type 0 where
  pub rows : List Row
  pub tokens : spelled rows ≡ kinds bytes
  pub maximal : AreMaximal rows
  pub are : segments ≡ row_segments 0 rows
