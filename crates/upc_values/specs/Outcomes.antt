-- The outcome of a thread's source on given replies.
use Rattle.std.specs.Prelude.{ℕ, ◌≡◌, ◌+◌, ◌*◌, true, List, [], ◌∷◌, ◌++◌, Option, Some, None}
use Rattle.upc_values.specs.declared.action.Action.{Action}
use Rattle.upc_values.specs.declared.action.Action.TheVariants.{Beat}
use Rattle.upc_values.specs.declared.action.Reply.{Reply}
use Rattle.upc_values.specs.declared.record.ToldEnd.{ToldEnd}
use Rattle.upc_values.specs.declared.record.ToldEnd.TheVariants.{Wants}
use Rattle.upc_values.specs.declared.journal.Entry.{Entry}
use Rattle.upc_values.specs.Records.{beats}
use Rattle.upc_values.specs.Openings.{Opening}
use Rattle.upc_values.specs.Formed.{IsWellFormed, fits_after}
use Rattle.upc_values.specs.layer.Known.{HasGiven}

-- The outcome of a thread: the actions that were answered, the ticks, and the end (C99 5.1.2.3).
pub record Outcome : Type 0 where
  pub actions : List Action
  pub ticks : ℕ
  pub «end» : ToldEnd

-- The action that a thread wants where it ends for want of a reply.
abbrev pub wanted : ToldEnd → Option Action
wanted (Wants a) = Some a
wanted e = None

-- A reply suits what is wanted after these replies: with it the wanted action is one more of the actions.
abbrev pub Suits : (List Reply → Outcome) → List Reply → Reply → Type 0
Suits outcome rs r =
    (a : Action) × ((outcome rs).«end» ≡ Wants a) × ((outcome (rs ++ r ∷ [])).actions ≡ (outcome rs).actions ++ a ∷ [])

-- What the meaning of every source keeps: on no reply it has done nothing; after a history that may have given the
-- replies so far, the wanted action may be asked for, and a reply that fits it adds it to the actions; and a Beat is
-- wanted at each multiple of 1,024 ticks.
pub record IsMeaning (o : Opening) (outcome : List Reply → Outcome) : Type 0 where
  pub begins : (outcome []).actions ≡ []
  pub goes : (rs : List Reply) (before : List Entry) (a : Action) (r : Reply) → (outcome rs).«end» ≡ Wants a
      → HasGiven o before rs → fits_after o before a r ≡ true
      → (outcome (rs ++ r ∷ [])).actions ≡ (outcome rs).actions ++ a ∷ []
  pub ticks : (rs : List Reply) → (outcome rs).«end» ≡ Wants Beat
      → (outcome rs).ticks ≡ 1024 * (beats (outcome rs).actions + 1)
  pub formed : (rs : List Reply) (before : List Entry) (a : Action) → (outcome rs).«end» ≡ Wants a
      → HasGiven o before rs → IsWellFormed o before a
