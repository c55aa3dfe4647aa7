-- What a thread asks for, and what it does with the reply (UPC 6.6.1; C99 7.20.4).
use Rattle.std.specs.Prelude.{ℤ, ◌+◌, ◌%◌, ◌==◌, Bool, true, false, not, List, [], ◌∷◌, ◌++◌, length, Option}
use Rattle.std.specs.Prelude.{None}
use Rattle.upc_text.specs.declared.place.Place.{Place}
use Rattle.block_layout.specs.declared.kind.Kind.{Kind}
use Rattle.block_layout.specs.declared.run_error.TheConstants.{PHASE_ORDER, BARRIER_IN_FORALL}
use Rattle.upc_values.specs.declared.scalar.Mark.{Mark}
use Rattle.upc_values.specs.declared.action.Action.{Action}
use Rattle.upc_values.specs.declared.action.Action.TheVariants as act
use Rattle.upc_values.specs.declared.action.Reply.{Reply}
use Rattle.upc_values.specs.declared.action.Reply.TheVariants.{Refused}
use Rattle.upc_values.specs.declared.record.ToldEnd.TheVariants.{Wants, Misfit, Exit, OutOfTicks}
use Rattle.upc_values.specs.Formed.{fits}
use Rattle.private_store.specs.Live.{controls}
use Rattle.thread_steps.specs.States.{Thread, State, Val, Over, Doing, ◌>>=◌, ◌>>◌, skip, know, change}
use Rattle.thread_steps.specs.States.{choose, over, fault, fault_if}

-- Whether the thread is in the body of a upc_forall whose affinity counts (UPC 6.6.2).
abbrev pub is_controlled : State → Bool
is_controlled σ = not (controls σ.store == 0)

-- A reply that fits the action answers it; else the thread ends, and the action is not done.
abbrev pub answered : Bool → Action → Reply → List Reply → Doing Reply
answered true a r rest = λ σ. Val r (record σ { actions = σ.actions ++ a ∷ []; replies = rest })
answered false a r rest = λ σ. Over (Misfit (length σ.actions)) σ

module _ (τ : Thread) where
  -- One action, answered by the next reply; where none is left, the thread wants the action. A read is of a cell of
  -- that kind.
  unfoldable pub ask : Option Kind → Action → Doing Reply
  ask kind a = do
    replies ← know (λ σ. σ.replies)
    elim replies [ [] ↦ over (Wants a) | r ∷ rest ↦ answered (fits τ.threads τ.shapes kind a r) a r rest ]

  -- One action whose reply is Done, or a refusal, which ends the thread by its run error.
  abbrev pub does : Place → Action → Doing (Unit {0})
  does at a = do
    r ← ask None a
    elim r [ Refused code ↦ fault code at | _ ↦ skip ]

  -- One tick: a Beat at each multiple of 1,024, and the end where the budget is reached.
  unfoldable pub tick : Doing (Unit {0})
  tick = do
    change (λ σ. record σ { ticks = σ.ticks + 1 })
    n ← know (λ σ. σ.ticks)
    choose (n % 1024 == 0) (do ask None act.Beat; skip) skip
    choose (n == τ.budget) (over OutOfTicks) skip

  -- A upc_notify: run error 12 in a controlling body, and run error 10 after another one without its wait (UPC 6.6.1,
  -- 6.6.2).
  unfoldable pub notify : Place → Mark → Doing (Unit {0})
  notify at mark = do
    fault_if is_controlled BARRIER_IN_FORALL at
    fault_if (λ σ. σ.notified) PHASE_ORDER at
    does at (act.Notify mark)
    change (λ σ. record σ { notified = true })

  -- A upc_wait: run error 12 in a controlling body, and run error 10 where no notify is open (UPC 6.6.1, 6.6.2).
  unfoldable pub wait : Place → Mark → Doing (Unit {0})
  wait at mark = do
    fault_if is_controlled BARRIER_IN_FORALL at
    fault_if (λ σ. not σ.notified) PHASE_ORDER at
    does at (act.Wait mark)
    change (λ σ. record σ { notified = false })

  -- A collective call may begin: run error 12 in a controlling body, and run error 10 after a notify without its wait
  -- (UPC 6.6.1, 6.6.2, 7.3).
  unfoldable pub meet : Place → Doing (Unit {0})
  meet at = do
    fault_if is_controlled BARRIER_IN_FORALL at
    fault_if (λ σ. σ.notified) PHASE_ORDER at

  -- A upc_fence (UPC 6.6.1).
  unfoldable pub fence : Doing (Unit {0})
  fence = do
    ask None act.Fence
    skip

  -- A upc_global_exit, after which the thread ends (UPC 7.2.1).
  unfoldable pub exit : {A : Type 0} → ℤ → Doing A
  exit v = do
    ask None (act.Exit v)
    over (Exit v)
