use Rattle.std.proofs.Common.{All, sym, subst}
use Rattle.goqlanis_buffers.specs.Checking.{HasCheckLevel}
use Rattle.goqlanis_buffers.proofs.Checked.{levels_exist}
use Rattle.goqlanis_buffers.proofs.checking.told_in.Goals as goal

pub checks_in-requires : goal.checks_in-requires
checks_in-requires c =
    let found = c.in_ok-found.found in
    subst (All HasCheckLevel) (sym c.deref.ensures.value) (levels_exist c.args.picture.now found.codes.scans.items found.checks.items c.in_ok-found.ensures.each)
