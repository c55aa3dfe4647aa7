-- The last operations on a location, of each thread and kind, and the one with which a new one races.
use Rattle.std.specs.Prelude.{◌≡◌, ◌≤◌, ◌⊎◌, ◌==◌, nat_le, nat_lt, Bool, true, false, not, ◌&&◌, ◌||◌, cond, List}
use Rattle.std.specs.Prelude.{Option, Some, None}
use Rattle.upc_values.specs.Lists.{Has}
use Rattle.order_builder.specs.declared.names.Named.{Named}
use Rattle.race_report_clocks.specs.layer.Clocks.{Clock}

-- Two operations are of one thread and kind.
pub record IsSameKind (a b : Named) : Type 0 where
  pub thread : a.name.thread ≡ b.name.thread
  pub write : a.name.write ≡ b.name.write
  pub strict : a.strict ≡ b.strict

-- An operation is of the thread and kind of another, which is itself or a later one.
pub record IsUpTo (a b : Named) : Type 0 where
  pub kind : IsSameKind a b
  pub index : a.name.index ≤ b.name.index

-- An operation is noted: of each thread and kind one stays that is not before those that there were, or before it.
pub record AreNoted (now : Named) (old new : List Named) : Type 0 where
  pub only : (n : Named) → Has new n → Has old n ⊎ (now ≡ n)
  pub kept : (n : Named) → Has old n → (m : Named) × Has new m × IsUpTo n m
  pub noted : (m : Named) × Has new m × IsUpTo now m

-- An operation on a location, where so much is known, races with an earlier one there.
abbrev pub races_by : Clock → Named → Named → Bool
races_by known now last =
    not (last.name.thread == now.name.thread)
    && ((last.name.write || now.name.write)
    && (not (last.strict && now.strict) && nat_le (known last.name.thread) last.name.index))

-- An operation is of a lower thread than the one that was found, or of the same thread and later; or none was found.
abbrev pub is_before : Named → Option Named → Bool
is_before x None = true
is_before x (Some a) =
    nat_lt x.name.thread a.name.thread || ((x.name.thread == a.name.thread) && nat_lt a.name.index x.name.index)

-- What is found with one more operation.
abbrev pub chosen : (Named → Bool) → Option Named → Named → Option Named
chosen test o x = cond (test x && is_before x o) (Some x) o

-- Of these operations, one that passes the test: of the lowest thread that has such a one, the last.
pub record IsFirst (test : Named → Bool) (xs : List Named) (a : Named) : Type 0 where
  pub has : Has xs a
  pub race : test a ≡ true
  pub lowest : (n : Named) → Has xs n → test n ≡ true → a.name.thread ≤ n.name.thread
  pub last : (n : Named) → Has xs n → test n ≡ true → n.name.thread ≡ a.name.thread → n.name.index ≤ a.name.index

-- It was found, or none passes the test.
abbrev pub IsFound : (Named → Bool) → List Named → Option Named → Type 0
IsFound test xs (Some a) = IsFirst test xs a
IsFound test xs None = (n : Named) → Has xs n → test n ≡ false
