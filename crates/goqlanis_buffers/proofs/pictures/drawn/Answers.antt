use Rattle.std.proofs.Common.{ap, flat_map, map, ◌∙◌}
use Rattle.goqlanis_buffers.specs.Tints.{named_paint, paint_in}
use Rattle.goqlanis_buffers.proofs.pictures.drawn.Goals as goal

pub draw_named-requires-clause-own : goal.draw_named-requires-clause-own
draw_named-requires-clause-own c = ap (map named_paint) c.deref-3.ensures.value ∙ c.in_ok-own.ensures.value ∙ ap (flat_map paint_in) c.tints.ensures
