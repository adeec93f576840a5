use Rattle.std.proofs.Common.{ℕ, ◌++◌, drop, replicate, ap, ◌∙◌, arith}
use Rattle.std.proofs.lemmas.Simd.{put_chunk_is}
use Rattle.qrcode_ec.proofs.division.in_room.Goals as goal

pub returns : goal.returns
returns c = put_chunk_is 0 (replicate 72 0) c.args.lanes (omega (arith, c.requires)) ∙ ap (λ (n : ℕ). c.args.lanes ++ drop n (replicate 72 0)) c.requires
