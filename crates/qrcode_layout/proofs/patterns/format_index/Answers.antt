use Rattle.qrcode_layout.proofs.Agreements.{apart_where_some}
use Rattle.qrcode_layout.proofs.patterns.format_index.Goals as goal

pub returns-in-Normal-clause-apart : goal.returns-in-Normal-clause-apart
returns-in-Normal-clause-apart c = apart_where_some c.args.version c.args.x c.args.y c.normal_format_index.result c.requires.valid c.normal_format_index.ensures.value

pub returns-in-Micro-clause-apart : goal.returns-in-Micro-clause-apart
returns-in-Micro-clause-apart c = apart_where_some c.args.version c.args.x c.args.y c.micro_format_index.result c.requires.valid c.micro_format_index.ensures.value
