-- Over what an entry of a history lets others go on, or goes on itself.
use Rattle.std.specs.Prelude.{ℕ, ◌==◌, Bool, true, false, ◌||◌, List, Option, Some, None, is_some}
use Rattle.upc_values.specs.declared.action.Action.{Action}
use Rattle.upc_values.specs.declared.action.Action.TheVariants.{Read, Write, Notify, Wait, Lock, Attempt, Unlock}
use Rattle.upc_values.specs.declared.action.Reply.{Reply}
use Rattle.upc_values.specs.declared.action.Reply.TheVariants.{Done, Value, Flag, Refused}
use Rattle.upc_values.specs.declared.journal.Entry.{Entry}
use Rattle.upc_values.specs.History.{notifies, waits}
use Rattle.upc_values.specs.Scalars.{same_loc}
use Rattle.race_report_clocks.specs.declared.channel.Channel.{Channel}
use Rattle.race_report_clocks.specs.declared.channel.Channel.TheVariants as over

-- Two channels are the same.
abbrev pub same_channel : Channel → Channel → Bool
same_channel (over.Phase n) (over.Phase m) = n == m
same_channel (over.Lock n) (over.Lock m) = n == m
same_channel (over.Cell l) (over.Cell k) = same_loc l k
same_channel k h = false

-- Over what an action with its reply lets others go on, where its thread has notified so often before.
abbrev pub telling_by : ℕ → Action → Reply → Option Channel
telling_by n a (Refused c) = None
telling_by n (Notify m) r = Some (over.Phase n)
telling_by n (Unlock l) Done = Some (over.Lock l)
telling_by n (Write true l v) r = Some (over.Cell l)
telling_by n a r = None

-- Over what an action with its reply goes on, where its thread has waited so often before.
abbrev pub hearing_by : ℕ → Action → Reply → Option Channel
hearing_by n a (Refused c) = None
hearing_by n (Wait m) r = Some (over.Phase n)
hearing_by n (Lock l) Done = Some (over.Lock l)
hearing_by n (Attempt l) (Flag true) = Some (over.Lock l)
hearing_by n (Read l true) (Value v) = Some (over.Cell l)
hearing_by n a r = None

-- Over what an entry after these ones lets others go on.
abbrev pub telling : List Entry → Entry → Option Channel
telling before e = telling_by (notifies e.thread before) e.action e.reply

-- Over what an entry after these ones goes on.
abbrev pub hearing : List Entry → Entry → Option Channel
hearing before e = hearing_by (waits e.thread before) e.action e.reply

-- An entry after these ones lets others go on, or goes on over something itself.
abbrev pub is_linked : List Entry → Entry → Bool
is_linked before e = is_some (telling before e) || is_some (hearing before e)
