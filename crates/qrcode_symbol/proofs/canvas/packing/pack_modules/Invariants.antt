use Rattle.qrcode_symbol.specs.Masking.{is_dark_module, is_free}
use Rattle.qrcode_symbol.specs.declared.canvas.Module.TheVariants.{Empty}
use Rattle.qrcode_symbol.proofs.PackedLists.{AreAnswers}
use Rattle.qrcode_symbol.proofs.canvas.packing.pack_modules.Given as goal

abbrev pub invariant-loop-i : goal.invariant-loop-i
invariant-loop-i l = record { dark : AreAnswers is_dark_module Empty l.modules l.dark l.i; free : AreAnswers is_free Empty l.modules l.free l.i }
