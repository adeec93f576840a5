-- A stream of bits as contracts see it.
use Rattle.std.specs.Prelude.{ℕ, Bool, List}

pub record StreamView : Type 0 where  -- the bits, and how many more fit without an allocation
  pub bits : List Bool
  pub room : ℕ
