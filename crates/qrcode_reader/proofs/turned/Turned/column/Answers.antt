use Rattle.qrcode_reader.proofs.turned.Turned.column.Goals as goal

pub returns : goal.returns
returns c = λ y h. c.args.self.now.value c.args.x y h
