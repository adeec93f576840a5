-- The calls of an optimizer return the groups.
use Rattle.std.proofs.Common.{◌≡◌, ℕ, ◌<◌, ◌≤◌, Bool, true, false, not, List, [], ◌∷◌, ◌++◌, IsTrue, refl, sym, ◌∙◌, ap, subst, arith}
use Rattle.std.specs.Prelude.{Option, Some, None, unwrap_or}
use Rattle.std.specs.Iterator.{Count, IsFinite, Drains, HoldsAlong, MakesProgress, Yields, size}
use Rattle.std.proofs.lemmas.List.{append-nil}
use Rattle.std.proofs.iter.Next.{Yields-more}
use Rattle.qrcode_types.specs.Versions.{is_valid}
use Rattle.qrcode_types.specs.declared.types.Version.{Version}
use Rattle.qrcode_bits.specs.declared.optimize.Segment.{Segment}
use Rattle.qrcode_bits.specs.declared.optimize.groups.Optimizer.{Optimizer}
use Rattle.qrcode_bits.specs.Segments.{AreInside}
use Rattle.qrcode_bits.specs.Grouping.{joint, is_joined, joint_of, is_group, grouping_from, grouping}
use Rattle.qrcode_bits.specs.Groups.{IsJoinable, AreGroups}
use Rattle.qrcode_bits.specs.GroupSteps.{joint_if, StopsBefore, CanGroup, TakesGroup, GroupsStep, groups_left}
use Rattle.qrcode_bits.proofs.GroupingLaws.{joint_of-append, is_group-append, within_group, when_false}
use Rattle.qrcode_bits.proofs.GroupKeeps.{groups_are, joinable-joint, joinable-next, joinable-last, inside-last, joint-inside}

pub joint-cases : (b : Bool) (last x j : Segment) → joint_if b last x ≡ Some j → (b ≡ true) × (joint last x ≡ j)
joint-cases true last x j e = (refl, ap (λ o. unwrap_or o last) e)
joint-cases false last x j e = cc

pub joint-none : (b : Bool) (last x : Segment) → joint_if b last x ≡ None → b ≡ false
joint-none true last x e = cc
joint-none false last x e = refl

-- a group that goes to the end
group-last : (v : Version) (s : Segment) (xs : List Segment) → is_group v s xs ≡ true → grouping_from v s xs ≡ joint_of s xs ∷ []
group-last v s xs a = ap (grouping_from v s) (sym (append-nil xs)) ∙ within_group v s xs [] a

-- a group before a segment that does not join
group-then : (v : Version) (s y : Segment) (xs zs : List Segment) → is_group v s xs ≡ true → is_joined v (joint_of s xs) y ≡ false → grouping_from v s (xs ++ y ∷ zs) ≡ joint_of s xs ∷ grouping_from v y zs
group-then v s y xs zs a e =
    within_group v s xs (y ∷ zs) a
    ∙ when_false (is_joined v (joint_of s xs) y) (grouping_from v (joint (joint_of s xs) y) zs) (joint_of s xs ∷ grouping_from v y zs) (ap not e)

module _ {S : Type 0} (steps : S → Option Segment → S → Type 0) where
  pub along-more : (s j : S) (x : Segment) (P : List Segment → Type 0) → HoldsAlong steps s P → steps s (Some x) j → HoldsAlong steps j (λ xs. P (x ∷ xs))
  along-more s j x P h st = λ xs t y. h (x ∷ xs) t (j, st, y)

  pub new-can : (can : S → Type 0) (left : S → Count) (v : Version) (s t : S) (r : Option Segment) → IsTrue (is_valid v) → IsFinite (left s) → steps s r t → MakesProgress can left s r t → HoldsAlong steps s IsJoinable → CanGroup steps can left (record { segments = t; last = r; version = v })
  new-can can left v s t None valid fin st p h = tt
  new-can can left v s t (Some x) valid fin st p h = (valid, ((p.on fin).0, ((p.on fin).1, along-more s t x IsJoinable h st)))

  pub pair-chain : (now next : S) (last x : Segment) → HoldsAlong steps now (λ xs. IsJoinable (last ∷ xs)) → steps now (Some x) next → IsJoinable (last ∷ x ∷ [])
  pair-chain now next last x h st = h (x ∷ []) next (next, st, refl)

  pub along-rest : (now next : S) (last x : Segment) → HoldsAlong steps now (λ xs. IsJoinable (last ∷ xs)) → steps now (Some x) next → HoldsAlong steps next (λ xs. IsJoinable (x ∷ xs))
  along-rest now next last x h st = λ xs t y. joinable-next last x xs (h (x ∷ xs) t (next, st, y))

  pub along-next : (w : Version) (now next : S) (last x j : Segment) → HoldsAlong steps now (λ xs. IsJoinable (last ∷ xs)) → steps now (Some x) next → Some j ≡ joint_if (is_joined w last x) last x → HoldsAlong steps next (λ xs. IsJoinable (j ∷ xs))
  along-next w now next last x j h st e =
      let p = joint-cases (is_joined w last x) last x j (sym e) in
      subst (λ s. HoldsAlong steps next (λ xs. IsJoinable (s ∷ xs))) p.1 (λ xs t y. joinable-joint last x xs (h (x ∷ xs) t (next, st, y)))

  -- the segments between `start` and `now` all joined `first`, and make `last`
  pub record Joined (v : Version) (first : Segment) (start : S) (last : Segment) (now : S) : Type 0 where
    pub further : List Segment
    pub came : Yields steps start further now
    pub joined : is_group v first further ≡ true
    pub is : last ≡ joint_of first further

  pub joined-next : (v w : Version) (first last x j : Segment) (start now next : S) → w ≡ v → Joined v first start last now → steps now (Some x) next → Some j ≡ joint_if (is_joined w last x) last x → Joined v first start j next
  joined-next v w first last x j start now next same h st e =
      let p = joint-cases (is_joined w last x) last x j (sym e) in
      let on : is_joined v (joint_of first h.further) x ≡ true = subst (λ u. is_joined u (joint_of first h.further) x ≡ true) same (subst (λ l. is_joined w l x ≡ true) h.is p.0) in
      record {
        further = h.further ++ x ∷ [];
        came = Yields-more steps start h.further now x next h.came st;
        joined = is_group-append v first x h.further h.joined on;
        is = sym p.1 ∙ (ap (λ l. joint l x) h.is ∙ sym (joint_of-append first x h.further));
      }

  -- a group is returned if the next segment does not join
  pub step-apart : (o : Optimizer S) (now next : S) (first last x : Segment) (w : Version) → o.last ≡ Some first → w ≡ o.version → Joined o.version first o.segments last now → steps now (Some x) next → is_joined w last x ≡ false
      → TakesGroup steps o last (record { segments = next; last = Some x; version = w })
  step-apart o now next first last x w h same f st e = record {
    first = first;
    further = f.further;
    was = h;
    came = (now, f.came, st);
    joined = f.joined;
    is = f.is;
    stops = subst (λ u. is_joined u last x ≡ false) same e;
    version = same;
  }

  -- the last group is returned at the end
  pub step-end : (o : Optimizer S) (now next : S) (first last : Segment) (w : Version) → o.last ≡ Some first → w ≡ o.version → Joined o.version first o.segments last now → steps now None next
      → TakesGroup steps o last (record { segments = next; last = None; version = w })
  step-end o now next first last w h same f st = record {
    first = first;
    further = f.further;
    was = h;
    came = (now, f.came, st);
    joined = f.joined;
    is = f.is;
    stops = tt;
    version = same;
  }

  pub step-goes : (can : S → Type 0) (left : S → Count) (o : Optimizer S) (next : S) (first last x : Segment) (w : Version) → IsTrue (is_valid w) → o.last ≡ Some first → can next → IsFinite (left next) → HoldsAlong steps next (λ xs. IsJoinable (x ∷ xs)) → size (left next) < size (left o.segments)
      → MakesProgress (CanGroup steps can left) (groups_left left) o (Some last) (record { segments = next; last = Some x; version = w })
  step-goes can left o next first last x w valid h c f a lt = record {
    on = λ fin. ((valid, (c, (f, a))), f, rw h (omega (arith, lt)));
    keeps = (valid, (c, (f, a)));
    rests = λ fin. tt;
  }

  -- whole runs
  -- the segments that an optimizer has left came, and make the groups
  abbrev Left : Version → Option Segment → S → List Segment → Type 0
  Left v None s gs = gs ≡ []
  Left v (Some first) s gs = (xs : List Segment) × Drains steps s xs × (gs ≡ grouping_from v first xs)

  yields-on : (s t : S) (xs ys : List Segment) (u : S) → Yields steps s xs t → Yields steps t ys u → Yields steps s (xs ++ ys) u
  yields-on s t [] ys u y z = subst (λ a. Yields steps a ys u) (sym y) z
  yields-on s t (x ∷ xs) ys u (j, st, y) z = (j, st, yields-on j t xs ys u y z)

  left-first : (v : Version) (r : Option Segment) (s t u : S) (g first : Segment) (further gs : List Segment) → Yields steps s further t → steps t r u → is_group v first further ≡ true → g ≡ joint_of first further → StopsBefore v g r → Left v r u gs
      → (xs : List Segment) × Drains steps s xs × (g ∷ gs ≡ grouping_from v first xs)
  left-first v None s t u g first further gs y st a is stops rest = (further, (u, (t, y, st)), (ap (λ l. g ∷ l) rest ∙ ap (λ l. l ∷ []) is) ∙ sym (group-last v first further a))
  left-first v (Some x) s t u g first further gs y st a is stops (xs, (end, (mid, came, over)), e) = (
    further ++ x ∷ xs,
    (end, (mid, yields-on s t further (x ∷ xs) mid y (u, st, came), over)),
    (ap (λ l. g ∷ l) e ∙ ap (λ l. l ∷ grouping_from v x xs) is) ∙ sym (group-then v first x further xs a (subst (λ l. is_joined v l x ≡ false) is stops)),
  )

  drained : (o : Optimizer S) (gs : List Segment) → Drains (GroupsStep steps) o gs → Left o.version o.last o.segments gs
  drained o [] (u, (t, e, st)) = subst (λ p. Left p.version p.last p.segments []) (sym e) (subst (λ l. Left t.version l t.segments []) (sym st.0) refl)
  drained o (g ∷ gs) (u, (t, (j, st, y), over)) =
      let mid = st.came.0 in
      let rest = subst (λ v. Left v j.last j.segments gs) st.version (drained j gs (u, (t, y, over))) in
      subst (λ l. Left o.version l o.segments (g ∷ gs)) (sym st.was) (left-first o.version j.last o.segments mid j.segments g st.first st.further gs st.came.1 st.came.2 st.joined st.is st.stops rest)

  new-drained : (v : Version) (s t : S) (r : Option Segment) (gs : List Segment) → steps s r t → Left v r t gs → (xs : List Segment) × Drains steps s xs × (gs ≡ grouping v xs)
  new-drained v s t None gs st e = ([], (t, (s, refl, st)), e)
  new-drained v s t (Some x) gs st (xs, (u, (m, y, over)), e) = (x ∷ xs, (u, (m, (t, st, y), over)), e)

  pub new-groups : (v : Version) (s t : S) (r : Option Segment) → steps s r t → (gs : List Segment) → Drains (GroupsStep steps) (record { segments = t; last = r; version = v }) gs → (xs : List Segment) × (Drains steps s xs × AreGroups v xs gs)
  new-groups v s t r st gs d =
      let h = new-drained v s t r gs st (drained (record { segments = t; last = r; version = v }) gs d) in
      (h.0, (h.1, subst (λ l. AreGroups v h.0 l) (sym h.2) (groups_are v h.0)))

  -- the groups lie inside the data, if the segments do
  abbrev StartsInside : ℕ → Option Segment → S → Type 0
  StartsInside n r s = (x : Segment) → r ≡ Some x → HoldsAlong steps s (λ xs. IsJoinable (x ∷ xs) × AreInside n (x ∷ xs))

  starts-next : (n : ℕ) (s m u : S) (first : Segment) (further : List Segment) (r : Option Segment) → HoldsAlong steps s (λ xs. IsJoinable (first ∷ xs) × AreInside n (first ∷ xs)) → Yields steps s further m → steps m r u → StartsInside n r u
  starts-next n s m u first further r h y st x e = λ xs t z.
      let all = h (further ++ x ∷ xs) t (yields-on s m further (x ∷ xs) t y (u, subst (λ q. steps m q u) e st, z)) in
      (joinable-last first x further xs all.0, inside-last n first x further xs all.1)

  pub groups-inside : (n : ℕ) (o : Optimizer S) → StartsInside n o.last o.segments → (gs : List Segment) (t : Optimizer S) → Yields (GroupsStep steps) o gs t → AreInside n gs
  groups-inside n o h [] t y = tt
  groups-inside n o h (g ∷ gs) t (j, st, y) =
      let all = h st.first st.was in
      let m = st.came.0 in
      let one = all st.further m st.came.1 in (
        subst (λ (a : Segment). (a.begin ≤ a.end) × (a.end ≤ n)) (sym st.is) (joint-inside n st.first st.further one.0 one.1),
        groups-inside n j (starts-next n o.segments m j.segments st.first st.further j.last all st.came.1 st.came.2) gs t y,
      )

  new-starts : (n : ℕ) (s t : S) (r : Option Segment) → steps s r t → HoldsAlong steps s IsJoinable → HoldsAlong steps s (AreInside n) → StartsInside n r t
  new-starts n s t r st c h x e = λ xs u y. let z : Yields steps s (x ∷ xs) u = (t, subst (λ q. steps s q t) e st, y) in (c (x ∷ xs) u z, h (x ∷ xs) u z)

  pub new-inside : (v : Version) (s t : S) (r : Option Segment) → steps s r t → HoldsAlong steps s IsJoinable → (n : ℕ) → HoldsAlong steps s (AreInside n) → HoldsAlong (GroupsStep steps) (record { segments = t; last = r; version = v }) (AreInside n)
  new-inside v s t r st c n h = groups-inside n (record { segments = t; last = r; version = v }) (new-starts n s t r st c h)
