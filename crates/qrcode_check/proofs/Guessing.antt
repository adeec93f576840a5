-- Segments to guess, counted part by part.
use Rattle.std.proofs.Common.{◌≡◌, ℕ, ◌+◌, Bool, List, length, IsTrue}
use Rattle.std.specs.Prelude.{IsUtf8}
use Rattle.std.specs.List.{AllByRecursion}

-- this many segments to guess were counted, and whether they are UTF-8; `left` are still to come
pub record Counted (n : ℕ) (g : Bool) (left whole : List (List ℕ)) : Type 0 where
  pub segments : n + length left ≡ length whole
  pub to : AllByRecursion IsUtf8 whole → IsTrue g × AllByRecursion IsUtf8 left
  pub back : IsTrue g → AllByRecursion IsUtf8 left → AllByRecursion IsUtf8 whole
