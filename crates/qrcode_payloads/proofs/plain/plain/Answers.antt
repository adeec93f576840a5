use Rattle.std.proofs.Common.{rules, tests}
use Rattle.std.proofs.lemmas.Iterator.{YieldsList-from_chars, text_from_collect}
use Rattle.std.proofs.lemmas.Iterator.Consumers.{YieldsList-from_filter_map}
use Rattle.qrcode_payloads.specs.Plain.{kept, plain}
use Rattle.qrcode_payloads.proofs.plain.plain.Goals as goal

pub returns : goal.returns
unfolding plain
returns c = text_from_collect _ c.collect.ensures.ran (YieldsList-from_filter_map _ (kept c.args.cleaning) (YieldsList-from_chars c.args.text.now (search rules) cc) c.filter_map.ensures.closure (λ x r q k. search (rules, tests)))
