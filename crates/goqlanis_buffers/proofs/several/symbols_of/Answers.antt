use Rattle.std.proofs.Common.{◌≡◌, ◌⊎◌, ℕ, List, inl, inr}
use Rattle.std.proofs.lemmas.Result.{IfErr-weaker}
use Rattle.qrcode_types.specs.declared.types.QrError.{QrError}
use Rattle.qrcode_types.specs.declared.types.QrError.TheVariants.{OutOfMemory}
use Rattle.qrcode_append.specs.Fewest.{AreNotHeld}
use Rattle.goqlanis_buffers.specs.Several.{AreBeyondSeveral}
use Rattle.goqlanis_buffers.specs.declared.several.Named.{Named}
use Rattle.goqlanis_buffers.proofs.several.symbols_of.Goals as goal

-- if no number of symbols holds the data, the requested number does not
unheld : (wanted : ℕ) (a : Named) (bytes : List ℕ) (e : QrError) → AreNotHeld a.manner a.versions a.level bytes e → (e ≡ OutOfMemory) ⊎ AreBeyondSeveral wanted a bytes
unheld wanted a bytes e (inl memory) = inl memory
unheld wanted a bytes e (inr (inl (_, none))) = inr (λ n count among counted held. none n among held.exists)
unheld wanted a bytes e (inr (inr (_, (_, none)))) = inr (λ n count among counted. none n count among)

pub returns-then-count-eq0-clause-causes : goal.returns-then-count-eq0-clause-causes
returns-then-count-eq0-clause-causes c =
    IfErr-weaker c.encode_among.result (AreNotHeld c.args.asked.manner c.args.asked.versions c.args.asked.level c.args.bytes.now) (λ e. (e ≡ OutOfMemory) ⊎ AreBeyondSeveral c.args.count c.args.asked c.args.bytes.now)
    (unheld c.args.count c.args.asked c.args.bytes.now) c.encode_among.ensures.causes
