-- `grouping` satisfies `IsGrouping`, and nothing else does.
use Rattle.std.proofs.Common.{◌≡◌, Bool, true, false, ◌&&◌, not, List, [], ◌∷◌, ◌++◌, map, refl, ap, sym, ◌∙◌, append_assoc, arith}
use Rattle.std.specs.Prelude.{flat_map}
use Rattle.std.proofs.lemmas.Bool.{and_parts, and_from}
use Rattle.std.proofs.lemmas.Bool.Decides.{nat_tests}
use Rattle.qrcode_types.specs.declared.types.Version.{Version}
use Rattle.qrcode_bits.specs.declared.optimize.Segment.{Segment}
use Rattle.qrcode_bits.specs.Grouping.{joint, is_joined, Group, joint_of, is_group, ends_before, are_groups, IsGrouping, grouping_from, grouping}

abbrev members : Group → List Segment
members g = g.first ∷ g.further

abbrev part : Group → Segment
part g = joint_of g.first g.further

abbrev group : Segment → List Segment → Group
group f done = record { first = f; further = done }

-- the groups that the greedy grouping makes, the first one begun by f and `done`, which make the part a
abbrev groups_from : Version → Segment → List Segment → Segment → List Segment → List Group
groups_from v f done a [] = group f done ∷ []
groups_from v f done a (s ∷ more) = elim (is_joined v a s) [ true ↦ groups_from v f (done ++ s ∷ []) (joint a s) more | false ↦ group f done ∷ groups_from v s [] s more ]

pub joint_of-append : (f s : Segment) (done : List Segment) → joint_of f (done ++ s ∷ []) ≡ joint (joint_of f done) s
joint_of-append f s [] = refl
joint_of-append f s (d ∷ done) = joint_of-append (joint f d) s done

pub by_test : {A : Type 0} (P : A → Type 0) (b : Bool) (x y : A) → (b ≡ true → P x) → (b ≡ false → P y) → P (elim b [ true ↦ x | false ↦ y ])
by_test P true x y p q = p refl
by_test P false x y p q = q refl

both : (b : Bool) (x y : List Group) (p q : List Segment) → map part x ≡ p → map part y ≡ q → map part (elim b [ true ↦ x | false ↦ y ]) ≡ elim b [ true ↦ p | false ↦ q ]
both true x y p q h k = h
both false x y p q h k = k

pub is_group-append : (v : Version) (f s : Segment) (done : List Segment) → is_group v f done ≡ true → is_joined v (joint_of f done) s ≡ true → is_group v f (done ++ s ∷ []) ≡ true
is_group-append v f s [] h j = and_from (is_joined v f s) true j refl
is_group-append v f s (d ∷ done) h j = and_from (is_joined v f d) (is_group v (joint f d) (done ++ s ∷ [])) (and_parts (is_joined v f d) (is_group v (joint f d) done) h).0 (is_group-append v (joint f d) s done (and_parts (is_joined v f d) (is_group v (joint f d) done) h).1 j)

cut : (v : Version) (f : Segment) (done : List Segment) (a : Segment) (more : List Segment) → flat_map members (groups_from v f done a more) ≡ f ∷ (done ++ more)
cut v f done a [] = refl
cut v f done a (s ∷ more) =
    by_test (λ gs. flat_map members gs ≡ f ∷ (done ++ s ∷ more)) (is_joined v a s) (groups_from v f (done ++ s ∷ []) (joint a s) more) (group f done ∷ groups_from v s [] s more)
    (λ _. cut v f (done ++ s ∷ []) (joint a s) more ∙ ap (λ t. f ∷ t) (append_assoc done (s ∷ []) more))
    (λ _. ap (λ t. f ∷ (done ++ t)) (cut v s [] s more))

joints : (v : Version) (f : Segment) (done : List Segment) (a : Segment) (more : List Segment) → joint_of f done ≡ a → map part (groups_from v f done a more) ≡ grouping_from v a more
joints v f done a [] e = ap (λ t. t ∷ []) e
joints v f done a (s ∷ more) e =
    both (is_joined v a s) (groups_from v f (done ++ s ∷ []) (joint a s) more) (group f done ∷ groups_from v s [] s more) (grouping_from v (joint a s) more) (a ∷ grouping_from v s more)
    (joints v f (done ++ s ∷ []) (joint a s) more (joint_of-append f s done ∙ ap (λ t. joint t s) e))
    (let F : Segment → List Segment = λ t. t ∷ map part (groups_from v s [] s more) in let G : List Segment → List Segment = λ t. a ∷ t in ap F e ∙ ap G (joints v s [] s more refl))

-- the first group begins with the first segment
begins : (v : Version) (x f : Segment) (done : List Segment) (a : Segment) (more : List Segment) → ends_before v x (groups_from v f done a more) ≡ not (is_joined v x f)
begins v x f done a [] = refl
begins v x f done a (s ∷ more) =
    by_test (λ gs. ends_before v x gs ≡ not (is_joined v x f)) (is_joined v a s) (groups_from v f (done ++ s ∷ []) (joint a s) more) (group f done ∷ groups_from v s [] s more)
    (λ _. begins v x f (done ++ s ∷ []) (joint a s) more) (λ _. refl)

holds : (v : Version) (f : Segment) (done : List Segment) (a : Segment) (more : List Segment) → joint_of f done ≡ a → is_group v f done ≡ true → are_groups v (groups_from v f done a more) ≡ true
holds v f done a [] e h = and_from _ true (and_from _ true h refl) refl
holds v f done a (s ∷ more) e h =
    by_test (λ gs. are_groups v gs ≡ true) (is_joined v a s) (groups_from v f (done ++ s ∷ []) (joint a s) more) (group f done ∷ groups_from v s [] s more)
    (λ j. holds v f (done ++ s ∷ []) (joint a s) more (joint_of-append f s done ∙ ap (λ t. joint t s) e) (is_group-append v f s done h (ap (λ t. is_joined v t s) e ∙ j)))
    (λ j. and_from _ _ (and_from _ _ h (begins v (joint_of f done) s [] s more ∙ ap not (ap (λ t. is_joined v t s) e ∙ j))) (holds v s [] s more refl refl))

-- the function satisfies the relation
pub grouping_is : (v : Version) (segments : List Segment) → IsGrouping v segments (grouping v segments)
grouping_is v [] = record { groups = []; cut = refl; joined = refl; holds = refl }
grouping_is v (s ∷ more) = record { groups = groups_from v s [] s more; cut = cut v s [] s more; joined = joints v s [] s more refl; holds = holds v s [] s more refl refl }

when_true : (b : Bool) (x y : List Segment) → b ≡ true → elim b [ true ↦ x | false ↦ y ] ≡ x
when_true b x y h1 = grind (arith, nat_tests)

pub when_false : (b : Bool) (x y : List Segment) → not b ≡ true → elim b [ true ↦ x | false ↦ y ] ≡ y
when_false b x y h1 = grind (arith, nat_tests)

pub within_group : (v : Version) (a : Segment) (further rest : List Segment) → is_group v a further ≡ true → grouping_from v a (further ++ rest) ≡ grouping_from v (joint_of a further) rest
within_group v a [] rest h = refl
within_group v a (s ∷ further) rest h =
    when_true (is_joined v a s) (grouping_from v (joint a s) (further ++ rest)) (a ∷ grouping_from v s (further ++ rest)) (and_parts (is_joined v a s) (is_group v (joint a s) further) h).0
    ∙ within_group v (joint a s) further rest (and_parts (is_joined v a s) (is_group v (joint a s) further) h).1

parts_are : (v : Version) (groups : List Group) → are_groups v groups ≡ true → grouping v (flat_map members groups) ≡ map part groups
parts_are v [] h = refl
parts_are v (g ∷ []) h = within_group v g.first g.further [] (and_parts (is_group v g.first g.further) true (and_parts (is_group v g.first g.further && true) true h).0).0
parts_are v (g ∷ k ∷ groups) h =
    let own = is_group v g.first g.further in
    let next = not (is_joined v (part g) k.first) in
    let all = and_parts (own && next) (are_groups v (k ∷ groups)) h in
    let inner = (and_parts own next all.0).0 in
    let apart = (and_parts own next all.0).1 in
    let more : List Segment = k.further ++ flat_map members groups in
    let F : List Segment → List Segment = λ t. part g ∷ t in
    within_group v g.first g.further (k.first ∷ more) inner
    ∙ (when_false (is_joined v (part g) k.first) (grouping_from v (joint (part g) k.first) more) (part g ∷ grouping_from v k.first more) apart
    ∙ ap F (parts_are v (k ∷ groups) all.1))

-- and no other list of joints does
pub grouping-only : (v : Version) (segments joints : List Segment) → IsGrouping v segments joints → joints ≡ grouping v segments
grouping-only v segments joints g = sym g.joined ∙ (sym (parts_are v g.groups g.holds) ∙ ap (grouping v) g.cut)
