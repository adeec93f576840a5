use Rattle.std.proofs.Common.{◌≡◌, refl, true≢false, sym, inl, inr, rules}
use Rattle.goqlanis_request.specs.Areas.{size_in, IsRefusedOf}
use Rattle.goqlanis_request.specs.declared.areas.LogoError.TheVariants.{OutOfMemory}
use Rattle.goqlanis_request.proofs.Roomier.{no_area}
use Rattle.goqlanis_request.proofs.areas.has_area.Goals as goal

pub returns-in-Ok : goal.returns-in-Ok
returns-in-Ok c = (λ t. (sym c.if-not-has_level.ensures.value, (c.in-Ok.field-0, c.in-Ok.ensures.area)), λ has. refl)

pub returns-in-Err : goal.returns-in-Err
returns-in-Err c =
    let v = c.args.version in
    let l = c.args.ec_level in
    let w = c.args.wish in
    let e = c.in-Err.field-0 in
    let other : ¬ (e ≡ OutOfMemory) = search rules in
    let why : IsRefusedOf v l w (size_in v w.size) e = elim c.in-Err.ensures.causes [ inl memory ↦ absurd (other memory) | inr why ↦ why ] in
    (λ t. absurd (true≢false (sym t)), λ has. absurd (no_area v l w (size_in v w.size) e has.1.0 why has.1.1))
