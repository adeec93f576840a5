use Rattle.std.proofs.Common.{◌∙◌, arith}
use Rattle.qrcode_symbol.specs.Masking.{is_dark_module, is_free}
use Rattle.qrcode_symbol.specs.declared.canvas.Module.TheVariants.{Empty}
use Rattle.qrcode_symbol.proofs.PackedLists.{answers_none, answers_more, packed_answers}
use Rattle.qrcode_symbol.proofs.canvas.packing.pack_modules.Goals as goal

pub loop-i-init : goal.loop-i-init
loop-i-init c = record { dark = answers_none is_dark_module Empty c.args.modules.now; free = answers_none is_free Empty c.args.modules.now }

pub loop-i-preserved : goal.loop-i-preserved
loop-i-preserved c = record {
  dark = answers_more is_dark_module Empty c.args.modules.now c.loop-i.dark c.loop-i.i c.dark_bit.result (omega arith) c.dark_bit.ensures c.loop-i.invariant.dark;
  free = answers_more is_free Empty c.args.modules.now c.loop-i.free c.loop-i.i c.free_bit.result (omega arith) c.free_bit.ensures c.loop-i.invariant.free;
}

pub returns-clause-dark : goal.returns-clause-dark
returns-clause-dark c = c.equal_to.ensures ∙ packed_answers is_dark_module Empty c.args.modules.now c.loop-i.dark c.loop-i.i (omega arith) (omega arith) c.loop-i.invariant.dark

pub returns-clause-free : goal.returns-clause-free
returns-clause-free c = c.equal_to-2.ensures ∙ packed_answers is_free Empty c.args.modules.now c.loop-i.free c.loop-i.i (omega arith) (omega arith) c.loop-i.invariant.free
