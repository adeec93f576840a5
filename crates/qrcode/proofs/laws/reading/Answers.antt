use Rattle.qrcode.proofs.Readings.{bits_are_read_one_way, bytes_are_read_one_way}
use Rattle.qrcode.proofs.laws.reading.Goals as goal

pub returns-clause-bits : goal.returns-clause-bits
returns-clause-bits c = bits_are_read_one_way

pub returns-clause-bytes : goal.returns-clause-bytes
returns-clause-bytes c = bytes_are_read_one_way
