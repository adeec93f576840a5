use Rattle.std.proofs.Common.{refl}
use Rattle.std.specs.Hash.{le_bytes}
use Rattle.qrcode_types.specs.declared.types.Color.TheVariants.{Light, Dark}
use Rattle.qrcode_types.proofs.laws.hashes.Goals as goal

pub returns : goal.returns
unfolding le_bytes
returns c Light Light = (λ e. refl, λ e. refl)
returns c Light Dark = (λ e. absurd cc, λ e. absurd cc)
returns c Dark Light = (λ e. absurd cc, λ e. absurd cc)
returns c Dark Dark = (λ e. refl, λ e. refl)
