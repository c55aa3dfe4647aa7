-- What is left to do, with the values, the calls and the state of a thread, and what that gives.
use Rattle.std.specs.Prelude.{ℕ, suc, ℤ, pos, Bool, true, false, List, [], ◌∷◌, ◌++◌, drop}
use Rattle.std.specs.Prelude.{Option, Some, None}
use Rattle.upc_text.specs.declared.place.Place.{Place}
use Rattle.upc_values.specs.declared.scalar.Value.{Value as Given}
use Rattle.typed_tree.specs.Tree.{Expr, Statement, StatementKind, StatementOption, Arms, Function, Head}
use Rattle.thread_steps.specs.Values.{number}
use Rattle.thread_steps.specs.States.{State, Res, ◌>>=◌}
use Rattle.source_meaning.specs.Running.{Running}
use Rattle.source_meaning.specs.Statements as pure
use Rattle.source_meaning.specs.Threads.{called, body}
use Rattle.upc_meaning_work.specs.layer.Items.{Item, Value, Drop, Leave, Turn, Declare, Return}
use Rattle.upc_meaning_work.specs.layer.Left.{body_of, called_so, does, left}
use Rattle.upc_meaning_work.specs.code.Stacks.{rest, youngest}

-- What is left to do, the values, how the last statement was left, the calls that may still become active, and the
-- state of the thread.
pub record Seen : Type 0 where
  pub works : List Item
  pub values : List Given
  pub flow : pure.Flow
  pub free : ℕ
  pub state : State

-- What all that is left gives.
unfoldable pub meant : Running → Seen → Res ℤ
meant ρ s = left ρ s.works s.free s.flow s.values s.state

-- What an item, and then all that is left, gives.
unfoldable pub with_item : Running → Item → Seen → Res ℤ
with_item ρ w s = does ρ w (left ρ s.works) s.free s.flow s.values s.state

-- What a call of an expression, and then all that is left, gives, where so many of the youngest values are its
-- arguments (C99 6.5.2.2).
unfoldable pub calls : Running → Expr → (done : ℕ) → Seen → Res ℤ
calls ρ e done s =
    (called_so ρ (called ρ s.free) e (youngest done s.values)
    >>= (λ v. left ρ s.works s.free s.flow (v ∷ drop done s.values))) s.state

-- What a call of an expression with these arguments, and then all that is left, gives (C99 6.5.2.2).
unfoldable pub called_with : Running → Expr → List Given → Seen → Res ℤ
called_with ρ e vs s =
    (called_so ρ (called ρ s.free) e vs >>= (λ v. left ρ s.works s.free s.flow (v ∷ s.values))) s.state

-- Some items more are left to do, which come first.
abbrev pub more_works : List Item → Seen → Seen
more_works ws s = record s { works = ws ++ s.works }

-- Some values more are there, the youngest first.
abbrev pub more_values : List Given → Seen → Seen
more_values vs s = record s { values = vs ++ s.values }

-- The youngest value is removed.
abbrev pub popped : Seen → Seen
popped s = record s { values = rest s.values }

-- The last statement was left so.
abbrev pub with_flow : pure.Flow → Seen → Seen
with_flow f s = record s { flow = f }

-- A statement was left at its end (C99 6.8).
abbrev pub is_next : pure.Flow → Bool
is_next pure.Next = true
is_next f = false

-- The thread has this state.
abbrev pub with_state : State → Seen → Seen
with_state σ s = record s { state = σ }

-- So many of the youngest values are removed.
abbrev pub without : ℕ → Seen → Seen
without n s = record s { values = drop n s.values }

-- What is left to do with an expression that is evaluated for what it does.
abbrev pub aside_items : pure.Standing → Option Expr → List Item
aside_items κ None = []
aside_items κ (Some e) = Value κ.strict e ∷ Drop ∷ []

-- The test of a loop is next; an absent one is as 1.
abbrev pub with_test : pure.Standing → Option Expr → Seen → Seen
with_test κ None s = more_values (number (pos 1) ∷ []) s
with_test κ (Some e) s = more_works (Value κ.strict e ∷ []) s

-- What is left inside the block of a loop after it was entered: what its head does first, its turns, and the end of the
-- block (C99 6.8.5.3).
abbrev pub headed : pure.Standing → Head → StatementKind → (budget : ℕ) → Seen → Seen
headed κ head kind budget s =
    more_works (Declare κ head.objects ∷ []) (more_works (aside_items κ head.first) (with_flow pure.Next
    (more_works (Turn (pure.with_objects head.objects κ) kind budget ∷ Leave ∷ []) s)))

-- What is left inside a call of a function, which gives this value where it ends without `return` (C99 6.9.1).
abbrev pub inside : (free : ℕ) → (blank : Given) → Seen → Seen
inside free blank s = record s { works = Return s.flow blank ∷ s.works; flow = pure.Next; free = free }

-- What is left after a call of a function that gave this value, where the last statement before it was left so
-- (C99 6.5.2.2).
abbrev pub outside : (saved : pure.Flow) → Given → Seen → Seen
outside saved v s = record s { values = v ∷ s.values; flow = saved; free = suc s.free }

module _ (ρ : Running) where
  -- What the arms of an `if` from some on, and then all that is left, give (C99 6.8.4.1).
  unfoldable pub armed : pure.Standing → Arms → StatementOption → Seen → Res ℤ
  armed κ arms last s =
      (pure.run_arms ρ (called ρ s.free) κ arms (pure.run_last ρ (called ρ s.free) κ last)
      >>= (λ g. left ρ s.works s.free g s.values)) s.state

  -- What the body of a loop, and then all that is left, gives (C99 6.8.5, UPC 6.6.2).
  unfoldable pub bodied : pure.Standing → StatementKind → Seen → Res ℤ
  bodied κ kind s = (body_of ρ (called ρ s.free) κ kind >>= (λ g. left ρ s.works s.free g s.values)) s.state

  -- What the body of a upc_forall in which no further affinity is evaluated, and then all that is left, gives
  -- (UPC 6.6.2).
  unfoldable pub controlled : pure.Standing → Statement → Seen → Res ℤ
  controlled κ body s =
      (pure.controlling ρ (pure.run ρ (called ρ s.free) κ body)
      >>= (λ g. left ρ s.works s.free g s.values)) s.state

  -- What a call of a function with these arguments, and then all that is left, gives (C99 6.5.2.2).
  unfoldable pub entering : ℕ → List Given → Place → Seen → Res ℤ
  entering number vs at s =
      (called ρ s.free number vs at >>= (λ v. left ρ s.works s.free s.flow (v ∷ s.values))) s.state

  -- What the body of a function with these arguments, and then all that is left, gives (C99 6.9.1).
  unfoldable pub entered : Function → List Given → Seen → Res ℤ
  entered f vs s =
      (body ρ (called ρ s.free) f vs f.body >>= (λ g. left ρ s.works s.free g s.values)) s.state
