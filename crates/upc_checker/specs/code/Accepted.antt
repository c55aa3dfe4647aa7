-- The record of a source that is accepted.
use Rattle.std.specs.Prelude.{◌≡◌, ℕ, List}
use Rattle.upc_lexer.specs.Numbers.{NumbersFit}
use Rattle.upc_tree.specs.Unit.{External, tokens_of}
use Rattle.typed_tree.specs.Programs.{Checked}
use Rattle.upc_checker.specs.Outcomes.{Accepted, outcome}

-- A record is what some source declares and defines that is accepted and whose numbers are in range: so every node of
-- that source meets every rule, and no limit is passed.
pub record IsAccepted (x : Checked) : Type 0 where
  pub names : List (List ℕ)
  pub unit : List External
  pub numbers : NumbersFit (tokens_of unit)
  pub accepted : outcome names x.threads unit ≡ Accepted x
