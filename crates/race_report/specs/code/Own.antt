-- The operations of each thread, as the program keeps them.
use Rattle.std.specs.Prelude.{ℕ, ◌≡◌, ◌<◌, cond, List, [], ◌∷◌, length, map, filter, take, drop, slice_index_or, ◌==◌}
use Rattle.std.specs.List.{flat_map}
use Rattle.upc_values.specs.declared.journal.Journal.{Journal}
use Rattle.upc_values.specs.declared.order.Op.{Op}
use Rattle.upc_values.specs.Operations.{Operation}
use Rattle.upc_values.specs.Orders.{name_of, strict_list, operations_of}
use Rattle.race_report.specs.declared.own.OwnOperation.{OwnOperation}
use Rattle.race_report.specs.Serial.{until_strict, phase}

-- An operation's name, and whether it is strict.
abbrev pub own : Operation → OwnOperation
own o = record { name = name_of o; strict = o.strict }

-- The names of those before the first strict one.
abbrev pub relaxed_first : List OwnOperation → List Op
relaxed_first [] = []
relaxed_first (o ∷ os) = cond o.strict [] (o.name ∷ relaxed_first os)

-- For each thread of the journal, its operations.
pub record AreOwn (j : Journal) (lists : List (List OwnOperation)) : Type 0 where
  pub many : length lists ≡ j.threads
  pub each : (t : ℕ) → t < j.threads → slice_index_or lists t [] ≡ map own (operations_of j t)

-- The thread's operations from this place on begin with a strict one, and their strict ones are those that are left.
pub record IsNext (j : Journal) (t : ℕ) (left : List Operation) (place : ℕ) : Type 0 where
  pub same : filter (λ o. o.thread == t) left ≡ filter (λ o. o.strict) (drop place (operations_of j t))
  pub begins : until_strict (drop place (operations_of j t)) ≡ []

-- The names of the first so many phases, and for each thread the place after those of them that are its own.
pub record ArePlaced (j : Journal) (phases : ℕ) (order : List Op) (cursors : List ℕ) : Type 0 where
  pub names : order ≡ map name_of (flat_map (phase j) (take phases (strict_list j)))
  pub many : length cursors ≡ j.threads
  pub next : (t : ℕ) → t < j.threads → IsNext j t (drop phases (strict_list j)) (slice_index_or cursors t 0)
