use Rattle.std.proofs.Common.{◌<◌, length, rules}
use Rattle.goqlanis_buffers.proofs.Masked.{no_room}
use Rattle.goqlanis_buffers.proofs.symbols.write_masked.Goals as goal

pub returns-then-modules-len-clause-causes : goal.returns-then-modules-len-clause-causes
returns-then-modules-len-clause-causes c =
    let small : length c.args.modules.now < length c.in-Ok.colors.items = search rules in
    no_room c.args.mask c.args.code.now c.in-Ok.colors.items (length c.args.modules.now) c.in-Ok.ensures.under small
