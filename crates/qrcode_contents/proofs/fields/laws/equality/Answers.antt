use denote.Enum.Bare.{same_true, true_same}
use Rattle.qrcode_contents.specs.contracts.fields.errors.Field.{the_type}
use Rattle.qrcode_contents.proofs.fields.laws.equality.Goals as goal

pub returns-clause-fields : goal.returns-clause-fields
returns-clause-fields c = λ a b. (λ h. same_true the_type tt a b h, λ e. true_same the_type a b e)
