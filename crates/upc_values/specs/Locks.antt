-- What a legal history says of locks (UPC 7.2.4).
use Rattle.std.specs.Prelude.{ℕ, ◌≡◌, ◌==◌, Bool, true, false, List, ◌∷◌, ◌++◌}
use Rattle.upc_values.specs.declared.action.Action.{Action}
use Rattle.upc_values.specs.declared.action.Action.TheVariants as act
use Rattle.upc_values.specs.declared.action.Reply.{Reply}
use Rattle.upc_values.specs.declared.action.Reply.TheVariants.{Done, Flag}
use Rattle.upc_values.specs.declared.journal.Entry.{Entry}
use Rattle.upc_values.specs.Lists.{Has}

-- An action with its reply takes the lock.
abbrev pub takes : ℕ → Action → Reply → Bool
takes l (act.Lock k) Done = k == l
takes l (act.Attempt k) (Flag true) = k == l
takes l a r = false

-- An action with its reply lets the lock go.
abbrev pub lets_go : ℕ → Action → Reply → Bool
lets_go l (act.Unlock k) Done = k == l
lets_go l a r = false

-- The entry lets go the lock that the thread has taken.
pub record IsUnlockOf (t l : ℕ) (e : Entry) : Type 0 where
  pub thread : e.thread ≡ t
  pub unlocks : lets_go l e.action e.reply ≡ true

-- Between two acquisitions of one lock stands an Unlock of it by the first holder.
abbrev pub LocksExclude : List Entry → Type 0
LocksExclude history =
    (l : ℕ) (front middle rest : List Entry) (first second : Entry)
    → history ≡ front ++ first ∷ middle ++ second ∷ rest
    → takes l first.action first.reply ≡ true → takes l second.action second.reply ≡ true
    → (e : Entry) × Has middle e × IsUnlockOf first.thread l e
