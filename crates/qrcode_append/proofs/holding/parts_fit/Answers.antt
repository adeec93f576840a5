use Rattle.std.proofs.Common.{◌-◌, ℕ, subst, sym, ◌∙◌, refl, arith, below_more, true≢false}
use Rattle.qrcode_append.specs.Division.{part}
use Rattle.qrcode_append.specs.Symbols.{PartFits, front_length}
use Rattle.qrcode_append.proofs.holding.parts_fit.Goals as goal

pub returns-then-not-held-clause-value : goal.returns-then-not-held-clause-value
returns-then-not-held-clause-value c = (
  λ no. absurd (true≢false (sym no)),
  λ all.
      let m = c.args.wanted.manner in
      let v = c.args.wanted.version in
      let fits : PartFits m v (part m c.args.bytes.now c.args.count c.loop-place.place) (front_length (c.args.count - 1)) c.args.room = all c.loop-place.place (omega arith) in
      let behind : PartFits m v (part m c.args.bytes.now c.args.count c.loop-place.place) c.front_bits-front.result c.args.room =
      subst (λ n. PartFits m v (part m c.args.bytes.now c.args.count c.loop-place.place) n c.args.room) (sym c.front_bits-front.ensures.value) fits in
      let own : PartFits m v c.part-data.result.now c.front_bits-front.result c.args.room = subst (λ bytes. PartFits m v bytes c.front_bits-front.result c.args.room) (sym c.part-data.ensures.value) behind in
      sym c.if-not-held.true ∙ c.in_ok-held.ensures.value.1 own,
)

pub loop-place-preserved : goal.loop-place-preserved
loop-place-preserved c =
    let P : ℕ → Type 0 = λ k. PartFits c.args.wanted.manner c.args.wanted.version (part c.args.wanted.manner c.args.bytes.now c.args.count k) c.front_bits-front.result c.args.room in
    let own : P c.loop-place.place = subst (λ bytes. PartFits c.args.wanted.manner c.args.wanted.version bytes c.front_bits-front.result c.args.room) c.part-data.ensures.value (c.in_ok-held.ensures.value.0 c.if-not-held.false) in
    below_more P c.loop-place.place c.loop-place.invariant own

pub returns-clause-value : goal.returns-clause-value
returns-clause-value c = (
  λ _ k inside.
      subst (λ n. PartFits c.args.wanted.manner c.args.wanted.version (part c.args.wanted.manner c.args.bytes.now c.args.count k) n c.args.room) c.front_bits-front.ensures.value (c.loop-place.invariant k (omega arith)),
  λ _. refl,
)
