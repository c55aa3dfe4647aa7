-- What the program keeps of operations, of commits and of a walk.
use Rattle.std.specs.Prelude.{ℕ, ◌≡◌, ◌+◌, ◌<◌, List, [], ◌∷◌, ◌++◌, length, map, drop, slice_index_or, slice_set}
use Rattle.std.specs.Prelude.{Bool, ◌&&◌, Some, None}
use Rattle.std.specs.List.{flat_map}
use Rattle.block_layout.specs.declared.place.Loc.{Loc}
use Rattle.upc_values.specs.declared.scalar.Scalar.{Scalar}
use Rattle.upc_values.specs.declared.journal.Entry.{Entry}
use Rattle.upc_values.specs.declared.journal.Journal.{Journal}
use Rattle.upc_values.specs.Drain.{Commit, Walk, written, last_written, entries_in}
use Rattle.upc_values.specs.Orders.{placed}
use Rattle.order_builder.specs.declared.names.Named.{Named}
use Rattle.order_builder.specs.declared.entry.EntryRef.{EntryRef}
use Rattle.order_builder.specs.declared.entry.KeptCommit.{KeptCommit}
use Rattle.order_builder.specs.declared.emitted.Emitted.{Emitted}
use Rattle.order_builder.specs.declared.walk.Walk as program
use Rattle.order_builder.specs.layer.Commits.{named, AreFlat, AreCursors}

-- An entry, with the names of the operations in its place.
pub record Named_commit : Type 0 where
  pub entry : Entry
  pub names : List Named

-- A commit, with its operations by their names.
abbrev pub by_names : Commit → Named_commit
by_names c = record { entry = c.entry; names = map named c.operations }

-- An entry that the program has by reference.
abbrev pub entry_in : EntryRef → Entry
entry_in e = record { thread = e.thread; index = e.index; action = e.action.now; reply = e.reply.now }

-- A commit that the program keeps.
abbrev pub kept : KeptCommit → Named_commit
kept c = record { entry = entry_in c.entry; names = c.names }

-- Names of further operations stand with a commit's own.
abbrev pub joined : List Named → KeptCommit → KeptCommit
joined ns c = record { entry = c.entry; names = c.names ++ ns }

-- The commit is combined into that of this entry, whose operations have these names.
abbrev pub combined : EntryRef → List Named → KeptCommit → KeptCommit
combined e ns c = record { entry = e; names = c.names ++ ns }

-- The commit at this place is changed.
abbrev pub IsChangedAt : ℕ → (KeptCommit → KeptCommit) → List KeptCommit → List KeptCommit → Type 0
IsChangedAt k g before after = (d : KeptCommit) → after ≡ slice_set before k (g (slice_index_or before k d))

-- The entries of commits that the program keeps.
abbrev pub kept_entries : List KeptCommit → List Entry
kept_entries ks = map (λ k. entry_in k.entry) ks

-- The program keeps these commits.
abbrev pub AreKept : List KeptCommit → List Commit → Type 0
AreKept ks cs = map kept ks ≡ map by_names cs

-- These commits were emitted.
pub record IsEmitted (shown : Emitted) (cs : List Commit) : Type 0 where
  pub entries : map entry_in shown.entries.items ≡ entries_in cs
  pub flat : AreFlat shown.names shown.ends.items cs

-- One more commit was emitted.
pub record IsPushed (c : KeptCommit) (before after : Emitted) : Type 0 where
  pub entries : after.entries.items ≡ before.entries.items ++ c.entry ∷ []
  pub names : after.names ≡ before.names ++ c.names
  pub ends : after.ends.items ≡ before.ends.items ++ length after.names ∷ []

-- The program's walk is this one.
pub record IsShown (w : Walk) (shown : program.Walk) : Type 0 where
  pub next : shown.next ≡ w.next
  pub emitted : IsEmitted shown.emitted w.emitted
  pub pending : AreKept shown.pending.items w.pending
  pub agrees : shown.agrees ≡ w.agrees

-- Where the program's walk was some walk, it is then what this makes of that walk.
abbrev pub IsAfter : (Walk → Walk) → program.Walk → program.Walk → Type 0
IsAfter f before after = (w : Walk) → IsShown w before → IsShown (f w) after

-- One more action has its number.
abbrev pub counted : program.Walk → program.Walk
counted s = record { next = s.next + 1; emitted = s.emitted; pending = s.pending; agrees = s.agrees }

-- One more reply is as it must be, or not.
abbrev pub noted : Bool → program.Walk → program.Walk
noted b s = record { next = s.next; emitted = s.emitted; pending = s.pending; agrees = s.agrees && b }

-- The last of the entries that writes the location stands at this place and writes this value.
pub record IsLast (l : Loc) (es : List Entry) (place : ℕ) (value : Scalar) : Type 0 where
  pub within : place < length es
  pub writes : (d : Entry) → written l (slice_index_or es place d).action ≡ Some value
  pub last : last_written l (drop (place + 1) es) ≡ None

-- The entries of the history before those that are left have these names, and each thread's cursor is after its own.
pub record ArePlaced (j : Journal) (left : List Entry) (names : List Named) (cursors : List ℕ) : Type 0 where
  pub before : List Entry
  pub parts : before ++ left ≡ j.history
  pub names_are : names ≡ map named (flat_map (placed j) before)
  pub cursors_are : AreCursors j before cursors
