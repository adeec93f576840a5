use Rattle.std.proofs.Common.{◌≡◌, ◌+◌, [], ◌∷◌, ◌++◌, map, take, sym, subst, arith}
use Rattle.std.proofs.lemmas.Grind.{common_steps}
use Rattle.goqlanis_buffers.specs.Joining.{found_part, ArePartsOf, IsPartOf}
use Rattle.goqlanis_buffers.specs.Shades.{colors_of}
use Rattle.goqlanis_buffers.specs.declared.joining.SquareBytes.{SquareBytes}
use Rattle.goqlanis_buffers.proofs.Squares.{zip_taken}
use Rattle.goqlanis_buffers.proofs.joining.decode_squares.Goals as goal

pub loop-place-preserved : goal.loop-place-preserved
loop-place-preserved c =
    let pushed : map found_part c.push.new.self.items ≡ map found_part c.loop-place.all.items ++ found_part c.in-Ok.found ∷ [] = grind (arith, common_steps) in
    subst (ArePartsOf (take (c.loop-place.place + 1) c.args.squares.now)) (sym pushed)
    (zip_taken (λ (s : SquareBytes) p. IsPartOf (colors_of s.modules.now) p) c.args.squares.now (map found_part c.loop-place.all.items) c.loop-place.place _
    (found_part c.in-Ok.found) c.loop-place-test.true c.loop-place.invariant c.in-Ok.ensures.read)
