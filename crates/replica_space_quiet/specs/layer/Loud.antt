-- Histories without their reads and writes.
use Rattle.std.specs.Prelude.{ℕ, ◌≡◌, Bool, true, false, not, List, filter}
use Rattle.upc_values.specs.declared.action.Action.{Action}
use Rattle.upc_values.specs.declared.action.Action.TheVariants.{Read, Write}
use Rattle.upc_values.specs.declared.journal.Entry.{Entry}
use Rattle.upc_values.specs.Openings.{Opening}
use Rattle.upc_values.specs.History.{reply}
use Rattle.upc_values.specs.Formed.{may_ask}

-- The action is a read or a write.
abbrev pub is_access : Action → Bool
is_access (Read l s) = true
is_access (Write s l v) = true
is_access a = false

-- The entries that are neither reads nor writes, in order.
abbrev pub loud : List Entry → List Entry
loud es = filter (λ e. not (is_access e.action)) es

-- Reads and writes change no reply of other actions.
abbrev pub AccessesAreQuiet : Type 0
AccessesAreQuiet =
    (o : Opening) (es : List Entry) (t : ℕ) (a : Action) → is_access a ≡ false
    → reply o (loud es) t a ≡ reply o es t a

-- Reads and writes make no action well formed, and none ill formed.
abbrev pub AccessesFormNothing : Type 0
AccessesFormNothing = (o : Opening) (es : List Entry) (a : Action) → may_ask o (loud es) a ≡ may_ask o es a
