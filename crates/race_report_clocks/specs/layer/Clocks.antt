-- The clocks of a history: what each thread and each channel knows of each thread.
use Rattle.std.specs.Prelude.{ℕ, ◌+◌, ◌==◌, max, Bool, false, cond, List, [], ◌∷◌, ◌++◌, Option, Some, None}
use Rattle.upc_values.specs.declared.journal.Entry.{Entry}
use Rattle.race_report_clocks.specs.declared.channel.Channel.{Channel}
use Rattle.race_report_clocks.specs.layer.Channels.{same_channel, telling, hearing}

-- Of each thread: one more than the number of its last action that let others go on and that is known; 0 if none is.
abbrev pub Clock : Type 0
Clock = ℕ → ℕ

-- The clocks of the threads and of the channels.
pub record Clocks : Type 0 where
  pub threads : ℕ → Clock
  pub channels : Channel → Clock

-- Nothing is known.
abbrev pub silent : Clocks
silent = record { threads = λ t u. 0; channels = λ k u. 0 }

-- What is heard over a channel, if there is one.
abbrev pub heard : Clocks → Option Channel → Clock
heard c (Some k) u = c.channels k u
heard c None u = 0

-- What an entry adds by itself, where it lets others go on: its own number, and one more.
abbrev pub added : Entry → Option Channel → Clock
added e (Some k) u = cond (e.thread == u) (e.index + 1) 0
added e None u = 0

-- What the thread of an entry knows with it, after these entries.
abbrev pub known : List Entry → Clocks → Entry → Clock
known before c e u = max (max (c.threads e.thread u) (heard c (hearing before e) u)) (added e (telling before e) u)

-- There is a channel, and it is this one.
abbrev pub is_over : Channel → Option Channel → Bool
is_over k (Some h) = same_channel h k
is_over k None = false

-- The clocks after the entry.
abbrev pub advanced : List Entry → Clocks → Entry → Clocks
advanced before c e =
    record {
      threads = λ t u. cond (t == e.thread) (known before c e u) (c.threads t u);
      channels = λ k u.
          cond (is_over k (telling before e)) (max (c.channels k u) (known before c e u)) (c.channels k u);
    }

-- The clocks after these entries, which stand after others.
abbrev pub clocks_from : List Entry → Clocks → List Entry → Clocks
clocks_from before c [] = c
clocks_from before c (e ∷ es) = clocks_from (before ++ e ∷ []) (advanced before c e) es

-- The clocks after these entries.
abbrev pub clocks : List Entry → Clocks
clocks es = clocks_from [] silent es
