use Rattle.qrcode_reader.proofs.Searches.{search_first}
use Rattle.qrcode_reader.proofs.correct.recurrences.Search.new.Goals as goal

pub returns : goal.returns
returns c = search_first _
