use Rattle.std.proofs.Common.{◌≡◌, ℕ, ◌+◌, ◌<◌, cond, eqb, List, ◌∷◌, [], length, drop, get_or, ap, ap₂, add-one, arith}
use Rattle.std.proofs.Math.Seq.{drop-cons}
use Rattle.std.proofs.lemmas.Bool.{eq-eqb, ne_eqb}
use Rattle.std.proofs.lemmas.List.{drop_all}
use Rattle.qrcode_ec.specs.Codes.{distance}
use Rattle.qrcode_reader.proofs.correct.errors.distance.Goals as goal
use Rattle.qrcode_reader.proofs.correct.errors.distance.Goals.{then-byte-second, else-byte-second}

-- one more place
step : (xs ys : List ℕ) (i : ℕ) → i < length xs → i < length ys
    → distance (drop i xs) (drop i ys) ≡ cond (eqb (get_or xs i 0) (get_or ys i 0)) 0 1 + distance (drop (i + 1) xs) (drop (i + 1) ys)
step xs ys i a b = ap₂ distance (from xs a) (from ys b)
  where
    from : (zs : List ℕ) → i < length zs → drop i zs ≡ get_or zs i 0 ∷ drop (i + 1) zs
    from zs less = rw (add-one, drop-cons zs i 0)

pub loop-i-preserved : goal.loop-i-preserved
loop-i-preserved c =
    let i = c.loop-i.i in
    let xs = c.args.first.now in
    let ys = c.args.second.now in
    let more = step xs ys i (omega arith) (omega arith) in
    elim c.if-byte-second.branch [
      | then-byte-second w ↦ record {
        at_most = omega arith;
        rest = omega (arith, c.loop-i.invariant.rest, more, ap {B = ℕ} (λ t. cond t 0 1) (ne_eqb (get_or xs i 0) (get_or ys i 0) w.if-byte-second.true), w.count-is);
      }
      | else-byte-second w ↦ record {
        at_most = omega arith;
        rest = omega (arith, c.loop-i.invariant.rest, more, ap {B = ℕ} (λ t. cond t 0 1) (eq-eqb (get_or xs i 0) (get_or ys i 0) w.if-byte-second.false), w.count-is);
      }
    ]

pub returns : goal.returns
returns c =
    let none : drop c.loop-i.i c.args.first.now ≡ [] = drop_all c.loop-i.i c.args.first.now (omega arith) in
    let rest : distance (drop c.loop-i.i c.args.first.now) (drop c.loop-i.i c.args.second.now) ≡ 0 = ap (λ xs. distance xs (drop c.loop-i.i c.args.second.now)) none in
    omega (arith, c.loop-i.invariant.rest, rest)
