-- Calls of the library that ask for one action at most.
use Rattle.std.proofs.Common.{◌≡◌, ℕ, pos, List, [], ◌∷◌, ◌++◌, Option, Some, None, Bool, true, false}
use Rattle.std.proofs.Common.{refl, ap, sym, ◌∙◌, subst}
use Rattle.std.specs.Prelude.{Result, Ok, Err, is_some, IfSome}
use Rattle.upc_text.specs.declared.place.Place.{Place}
use Rattle.block_layout.specs.declared.kind.Shape.{Shape}
use Rattle.upc_values.specs.declared.action.Action.{Action}
use Rattle.upc_values.specs.declared.action.Reply.{Reply}
use Rattle.upc_values.specs.declared.scalar.Scalar.{Scalar}
use Rattle.upc_values.specs.declared.scalar.Value.{Value}
use Rattle.upc_values.specs.declared.scalar.Value.TheVariants as value
use Rattle.upc_values.specs.declared.library.LibraryCall.{LibraryCall}
use Rattle.upc_values.specs.Expansion.{Expansion}
use Rattle.upc_values.specs.Formed.{fits}
use Rattle.upc_values.specs.LibraryCalls.{library_call, meet_number, asks, given_by}
use Rattle.thread_steps.specs.States.{Thread, State, Res, Val, bind, give, choose, skip, valued}
use Rattle.thread_steps.specs.Actions.{meet, exit, ask, answered}
use Rattle.thread_steps.specs.Accesses.{library_steps, expanded}
use Rattle.thread_steps.specs.Values.{number}
use Rattle.thread_steps.specs.Library.{library, called_library, formed_call, is_formed}
use Rattle.thread_steps.specs.layer.Parts.{first_number, private_shapes, answered_from}
use Rattle.upc_values.specs.Calls.{call_of}
use Rattle.thread_values.specs.layer.Collectives.{collective_number, scalars_met}
use Rattle.thread_values.proofs.CollectiveCalls.{collective_no_exit, collective_formed, collective_meets}
use Rattle.thread_values.specs.declared.library.LibraryStep.{LibraryStep}
use Rattle.thread_values.specs.layer.Results.{given_at_once}
use Rattle.thread_values.specs.layer.Asking.{asks_once, expansion_of, DoesSoThere}
use Rattle.thread_values.proofs.Asking.{formed, gives}
use Rattle.stack_machine.specs.layer.Machine.{listed}
use Rattle.stack_machine.specs.declared.wish.Halt.{Halt}
use Rattle.stack_machine.specs.declared.wish.Halt.TheVariants.{Memory, Asks, Stops}
use Rattle.stack_machine.specs.declared.wish.Stop.TheVariants.{Fault}
use Rattle.stack_machine.specs.declared.progress.Progress.{Progress}
use Rattle.stack_machine.specs.code.Libraries.{expanded_to, met_then}
use Rattle.collectives.specs.layer.Arguments.{copies_or_reduces}
use Rattle.stack_machine.proofs.CollectivesOf.{known_call}
use Rattle.stack_machine.specs.code.Calls.{UnlessWant}
use Rattle.stack_machine.specs.code.Turns.{Came, Gave, Stopped, state_seen}
use Rattle.stack_machine.proofs.Accessing.{bind_err}

module _ (τ : Thread) (c : LibraryCall) (shape : ℕ) (args : List Value) where
  -- A step by what is found of it.
  pub step_does : (o : Option LibraryStep) (step : LibraryStep) (xs : List Shape) → o ≡ Some step → xs ≡ τ.shapes
      → IfSome o (DoesSoThere τ.threads xs τ.number shape c args)
      → DoesSoThere τ.threads τ.shapes τ.number shape c args step
  step_does o step xs e f h =
      subst (λ (l : List Shape). DoesSoThere τ.threads l τ.number shape c args step) f
      (subst (λ (x : Option LibraryStep). IfSome x (DoesSoThere τ.threads xs τ.number shape c args)) e h)

  pub goes : (at : Place) (before : List Action) (p q : Progress) (res : Result Value Halt) (step : LibraryStep) (b : Bool)
      → asks_once c ≡ true → is_formed τ.shapes c shape args ≡ true → b ≡ is_some (meet_number c)
      → DoesSoThere τ.threads τ.shapes τ.number shape c args step
      → Came before (met_then b τ at (expansion_of step) (state_seen before p)) res p q
      → Came before (library τ c shape at args (state_seen before p)) res p q
  goes at before p q res step b h e f does came =
      subst (λ (r : Res Value). Came before r res p q)
      (ap (λ x. met_then x τ at (expansion_of step) (state_seen before p)) f
      ∙ sym (formed τ at (state_seen before p) c shape args step h e does)) came

-- A collective call that may not begin.
unmet_by : (τ : Thread) (at : Place) (before : List Action) (p : Progress) (c : LibraryCall) (shape : ℕ)
    (args : List Value) (n : ℕ) (e : Halt) → collective_number c ≡ Some n
    → copies_or_reduces (call_of n (scalars_met c args)) ≡ true
    → Came before (meet τ at (state_seen before p)) (Err e) p p
    → Came before (library τ c shape at args (state_seen before p)) (Err e) p p
unfolding library
unmet_by τ at before p c shape args n e h f came =
    let go : Unit {0} → State → Res Value = λ _ υ.
    bind (library_steps τ at (library_call τ.threads τ.shapes τ.number (private_shapes υ) c shape args) υ)
    (λ v. give (value.Scalar v)) in
    subst (λ (r : Res Value). Came before r (Err e) p p)
    (sym (ap (λ b. choose b (exit τ (first_number args)) (formed_call τ c shape at args) (state_seen before p))
    (collective_no_exit c n h)
    ∙ ap (λ b. choose b (called_library τ c shape at args) (give (number (pos 0))) (state_seen before p))
    (collective_formed τ.shapes shape args c n h (known_call (call_of n (scalars_met c args)) f))
    ∙ ap (λ b. bind (choose b (meet τ at) skip (state_seen before p)) go) (collective_meets c n h)))
    (bind_err before (meet τ at (state_seen before p)) e p p go came)

pub unmet : (τ : Thread) (at : Place) (before : List Action) (p : Progress) (c : LibraryCall) (shape : ℕ)
    (args : List Value) (n : ℕ) (e : Halt) → collective_number c ≡ Some n
    → UnlessWant {A = Value} (Err e) (copies_or_reduces (call_of n (scalars_met c args)) ≡ true)
    → Came before (meet τ at (state_seen before p)) (Err e) p p
    → Came before (library τ c shape at args (state_seen before p)) (Err e) p p
unmet τ at before p c shape args n Memory h f came = tt
unmet τ at before p c shape args n (Asks a k) h f came = unmet_by τ at before p c shape args n (Asks a k) h f came
unmet τ at before p c shape args n (Stops s k) h f came = unmet_by τ at before p c shape args n (Stops s k) h f came

module _ (τ : Thread) (at : Place) (before : List Action) (p : Progress) where
  -- ---- one action

  module _ (a : Action) where
    abbrev behind : State
    behind = record (state_seen before p) { actions = before ++ a ∷ []; replies = [] }

    from : List Reply → Res Value
    from rs = bind (bind (answered_from τ None a rs (state_seen before p)) (λ r. expanded τ at (given_by r)))
        (λ v. give (value.Scalar v))

    fitted : Bool → Reply → Res Value
    fitted b r = bind (bind (answered b a r [] (state_seen before p)) (λ r. expanded τ at (given_by r)))
        (λ v. give (value.Scalar v))

    took : (r : Reply) (res : Result Value ℕ) → p.reply ≡ Some r → fits τ.threads τ.shapes None a r ≡ true
        → Some res ≡ given_at_once (given_by r) → expanded_to τ at (asks a) (state_seen before p) ≡ valued at res behind
    unfolding library_steps ask from fitted
    took r res e f g = ap (λ o. from (listed o)) e ∙ ap (λ b. fitted b r) f ∙ gives τ at behind r res g

    pub took_ok : (r : Reply) (v : Value) (after : Option Reply) → p.reply ≡ Some r → fits τ.threads τ.shapes None a r ≡ true
        → Some (Ok v) ≡ given_at_once (given_by r) → after ≡ None
        → Came before (expanded_to τ at (asks a) (state_seen before p)) (Ok v) p (record p { reply = after })
    took_ok r v after e f g h =
        subst (λ x. Gave x v (record p { reply = after })) (sym (took r (Ok v) e f g))
        (refl, ap (λ o. record behind { replies = listed o }) (sym h))

    pub took_err : (r : Reply) (code : ℕ) (q : Progress) → p.reply ≡ Some r → fits τ.threads τ.shapes None a r ≡ true
        → Some (Err code) ≡ given_at_once (given_by r)
        → Came before (expanded_to τ at (asks a) (state_seen before p)) (Err (Stops (Fault code at) p.ticks)) p q
    took_err r code q e f g =
        subst (λ x. Stopped x (Fault code at) p.ticks) (sym (took r (Err code) e f g)) (refl, refl)

  -- ---- a step

  module _ (x : Expansion Scalar) (b : Bool) where
    pub alone : (res : Result Value Halt) (q : Progress) → b ≡ false
        → Came before (expanded_to τ at x (state_seen before p)) res p q
        → Came before (met_then b τ at x (state_seen before p)) res p q
    alone res q e h = subst (λ c. Came before (met_then c τ at x (state_seen before p)) res p q) (sym e) h

    pub met_err : (e : Halt) → b ≡ true → Came before (meet τ at (state_seen before p)) (Err e) p p
        → Came before (met_then b τ at x (state_seen before p)) (Err e) p p
    met_err e is h = subst (λ c. Came before (met_then c τ at x (state_seen before p)) (Err e) p p) (sym is)
        (bind_err before (meet τ at (state_seen before p)) e p p (λ _. expanded_to τ at x) h)

    pub met_ok : (res : Result Value Halt) (q : Progress) → b ≡ true
        → meet τ at (state_seen before p) ≡ Val tt (state_seen before p)
        → Came before (expanded_to τ at x (state_seen before p)) res p q
        → Came before (met_then b τ at x (state_seen before p)) res p q
    met_ok res q is e h = subst (λ c. Came before (met_then c τ at x (state_seen before p)) res p q) (sym is)
        (subst (λ r. Came before (bind r (λ _. expanded_to τ at x)) res p q) (sym e) h)
