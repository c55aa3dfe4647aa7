-- The commits of a journal's threads in flat lists, and how a walk over its history goes through them.
use Rattle.std.specs.Prelude.{ℕ, ◌≡◌, ◌+◌, ◌-◌, ◌<◌, ◌≤◌, ◌==◌, cond, List, [], length, map, take}
use Rattle.std.specs.Prelude.{slice_index, slice_index_or, slice_range}
use Rattle.std.specs.List.{flat_map}
use Rattle.upc_values.specs.declared.journal.Entry.{Entry}
use Rattle.upc_values.specs.declared.journal.Journal.{Journal}
use Rattle.upc_values.specs.Drain.{Commit, commits, entries_of}
use Rattle.upc_values.specs.Operations.{Operation}
use Rattle.upc_values.specs.Orders.{record_of, name_of}
use Rattle.order_builder.specs.declared.names.Named.{Named}
use Rattle.order_builder.specs.declared.commits.Commits.{Commits}

-- An operation's name, and whether it is strict.
abbrev pub named : Operation → Named
named o = record { name = name_of o; strict = o.strict }

-- The operations of commits, one after another.
abbrev pub operations_in : List Commit → List Operation
operations_in cs = flat_map (λ c. c.operations) cs

-- Flat lists hold these commits: the names of their operations, and for each commit how many there are up to its last.
pub record AreFlat (names : List Named) (ends : List ℕ) (cs : List Commit) : Type 0 where
  pub names_are : names ≡ map named (operations_in cs)
  pub many : length ends ≡ length cs
  pub ends_are :
      (k : ℕ) → k < length cs → slice_index ends k ≡ length (operations_in (take (k + 1) cs))

-- The program's commits are these.
abbrev pub Holds : Commits → List Commit → Type 0
Holds kept cs = AreFlat kept.names kept.ends cs

-- The commits of a thread that has none.
abbrev pub no_commits : Commits
no_commits = record { names = []; ends = [] }

-- For each thread of the journal, its commits.
pub record AreCommits (j : Journal) (all : List Commits) : Type 0 where
  pub many : length all ≡ j.threads
  pub each : (t : ℕ) → t < j.threads → Holds (slice_index_or all t no_commits) (commits t (record_of j t))

-- How many operations stand before those of the commit with this number.
abbrev pub begin_of : Commits → ℕ → ℕ
begin_of kept k = cond (k == 0) 0 (slice_index kept.ends (k - 1))

-- The names of the operations of the commit with this number.
abbrev pub names_at : Commits → ℕ → List Named
names_at kept k = slice_range kept.names (begin_of kept k) (slice_index kept.ends k)

-- There is a commit with this number.
pub record HasCommit (kept : Commits) (k : ℕ) : Type 0 where
  pub within : k < length kept.ends
  pub ordered : begin_of kept k ≤ slice_index kept.ends k
  pub fits : slice_index kept.ends k ≤ length kept.names

-- For each thread, how many of these entries are its own: the number of its next commit.
pub record AreCursors (j : Journal) (before : List Entry) (cursors : List ℕ) : Type 0 where
  pub many : length cursors ≡ j.threads
  pub at : (t : ℕ) → t < j.threads → slice_index_or cursors t 0 ≡ length (entries_of t before)
