-- Alignment centres, and sums over alignment patterns.
use Rattle.std.proofs.Common.{◌≡◌, ℕ, ◌+◌, ◌<◌, ◌≤◌, nat_le, Bool, true, List, [], ◌∷◌, ◌++◌, take, get_or, length, refl, ap, ◌∙◌, arith, append-nil, IsTrue}
use Rattle.std.specs.List.{flat_map, sum_by}
use Rattle.std.proofs.lemmas.Bool.Decides.{nat_tests}
use Rattle.std.proofs.lemmas.Grind.{flat_map-append}
use Rattle.std.proofs.lemmas.List.{take_more}
use Rattle.std.proofs.lemmas.List.Sums.{sum_by-append}
use Rattle.qrcode_types.specs.Versions.{is_valid}
use Rattle.qrcode_types.specs.declared.types.Version.{Version}
use Rattle.qrcode_layout.specs.Centres.{centre_table}
use Rattle.qrcode_layout.specs.Figures.{centres}
use Rattle.qrcode_layout.specs.declared.figures.Figure.{Figure}
use Rattle.qrcode_layout.proofs.Versions.{all_normal, all_micro, each_version}

-- no version has more than seven coordinates of alignment centres
few : Version → Bool
few v = nat_le (length (centres v)) 7

normals_few : all_normal few ≡ true
unfolding few centres centre_table
normals_few = refl

micros_few : all_micro few ≡ true
unfolding few centres
micros_few = refl

pub few_centres : (v : Version) → IsTrue (is_valid v) → length (centres v) ≤ 7
unfolding few
few_centres v valid =
    let e : nat_le (length (centres v)) 7 ≡ true = each_version few normals_few micros_few v valid in
    grind (arith, nat_tests)

-- the alignment patterns of one more row
pub sum_row : (f : Figure → ℕ) (g : ℕ → List Figure) (cs : List ℕ) (i d : ℕ) → i < length cs
    → sum_by f (flat_map g (take (i + 1) cs)) ≡ sum_by f (flat_map g (take i cs)) + sum_by f (g (get_or cs i d))
sum_row f g cs i d lt =
    let c = get_or cs i d in
    ap (λ l. sum_by f (flat_map g l)) (take_more cs i d lt)
    ∙ ap (sum_by f) (flat_map-append g (take i cs) (c ∷ []) ∙ ap (λ l. flat_map g (take i cs) ++ l) (append-nil (g c)))
    ∙ sum_by-append f (flat_map g (take i cs)) (g c)
