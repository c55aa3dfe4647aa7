-- What the thread of an entry knows with it of another thread, in words without clocks.
use Rattle.std.specs.Prelude.{ℕ, ◌≡◌, ◌≤◌, ◌<◌, ◌↔◌, true, List, ◌∷◌, ◌++◌, Some}
use Rattle.upc_values.specs.declared.journal.Entry.{Entry}
use Rattle.race_report_clocks.specs.declared.channel.Channel.{Channel}
use Rattle.race_report_clocks.specs.layer.Channels.{telling, hearing, is_linked}
use Rattle.race_report_clocks.specs.layer.Clocks.{known, clocks}

-- An entry after some others knows of action i of thread u: it is that action or a later one of the thread, and lets
-- others go on; or a linked entry of its own thread before it knows; or one that it goes on by.
pub data Knows (u i : ℕ) : List Entry → Entry → Type 0 where
  Itself :
      (before : List Entry) (e : Entry) (k : Channel)
      → telling before e ≡ Some k → e.thread ≡ u → i ≤ e.index → Knows u i before e
  By_own :
      (before front rest : List Entry) (d e : Entry)
      → before ≡ front ++ d ∷ rest → d.thread ≡ e.thread → is_linked front d ≡ true → Knows u i front d
      → Knows u i before e
  By_other :
      (before front rest : List Entry) (d e : Entry) (k : Channel)
      → before ≡ front ++ d ∷ rest → telling front d ≡ Some k → hearing before e ≡ Some k → Knows u i front d
      → Knows u i before e

-- The clocks hold what is known, and no more.
abbrev pub ClocksHold : Type 0
ClocksHold =
    (u i : ℕ) (before : List Entry) (e : Entry) → (i < known before (clocks before) e u) ↔ Knows u i before e
