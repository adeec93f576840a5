use Rattle.std.proofs.lemmas.Result.{IfOk-weaker}
use Rattle.qrcode_facts.proofs.label.label_bars.Goals as goal

pub returns-clause-bars : goal.returns-clause-bars
returns-clause-bars c =
    let code = c.in_ok-code.code in
    IfOk-weaker c.bars_of.result _ _ (λ bars e. record { version = code.version; colors = code.modules; symbol = c.in_ok-code.ensures.symbol; drawn = e }) c.bars_of.ensures.bars
