-- Notifies and waits alternate in whatever a thread does.
use Rattle.std.proofs.Common.{◌≡◌, ℕ, suc, ◌%◌, ◌<◌, List, [], ◌∷◌, ◌++◌, Option, Some, None}
use Rattle.std.proofs.Common.{Bool, true, false, refl, sym, ◌∙◌, ap, subst, arith}
use Rattle.std.specs.Prelude.{Result, Ok, Err, not, ◌==◌, is_some}
use Rattle.upc_text.specs.declared.place.Place.{Place}
use Rattle.block_layout.specs.declared.kind.Kind.{Kind}
use Rattle.block_layout.specs.declared.kind.Shape.{Shape}
use Rattle.block_layout.specs.declared.place.LocalPtr.{LocalPtr}
use Rattle.block_layout.specs.declared.run_error.TheConstants.{DEPTH, PHASE_ORDER, BARRIER_IN_FORALL}
use Rattle.upc_values.specs.declared.scalar.Scalar.{Scalar}
use Rattle.upc_values.specs.declared.scalar.Value.{Value}
use Rattle.upc_values.specs.declared.scalar.Value.TheVariants as value
use Rattle.upc_values.specs.declared.scalar.Mark.{Mark}
use Rattle.upc_values.specs.declared.action.Action.{Action}
use Rattle.upc_values.specs.declared.action.Action.TheVariants as act
use Rattle.upc_values.specs.declared.action.Reply.{Reply}
use Rattle.upc_values.specs.declared.action.Reply.TheVariants as reply
use Rattle.upc_values.specs.declared.library.LibraryCall.{LibraryCall}
use Rattle.upc_values.specs.declared.record.ToldEnd.{ToldEnd}
use Rattle.upc_values.specs.declared.record.ToldEnd.TheVariants.{Wants, Misfit, Ended, Exit, Fault, OutOfTicks}
use Rattle.upc_values.specs.Formed.{fits}
use Rattle.upc_values.specs.LibraryCalls.{library_call, meet_number}
use Rattle.upc_values.specs.Expansion.{Expansion, Gives, Fails, Reads, Asks, Loads, Stores, value_in}
use Rattle.private_store.specs.Live.{Live, call_begun, returned}
use Rattle.private_store.specs.Cells.{loaded, stored}
use Rattle.thread_steps.specs.States.{Thread, State, Res, Val, Over, Unfinished, bind, Doing, ◌>>=◌, ◌>>◌}
use Rattle.thread_steps.specs.layer.Parts.{turned_by, is_deep}
use Rattle.thread_steps.specs.layer.Parts as parts
use Rattle.thread_steps.specs.States.{give, skip, know, change, choose, over, fault, fault_if, valued}
use Rattle.thread_steps.specs.Values.{kept, scalar_of}
use Rattle.thread_steps.specs.Actions as a
use Rattle.thread_steps.specs.Accesses as x
use Rattle.thread_steps.specs.Blocks.{begin_call, end_call, with_live}
use Rattle.thread_steps.specs.Library as l
use Rattle.thread_steps.specs.layer.Fronts.{turned, IsInTurn}
use Rattle.thread_steps.proofs.Depths.{depth, SameDepth, stored_depth, called_depth, returned_depth, not_deep}
use Rattle.thread_steps.proofs.Kept.{IsBasic, IsKept, IsOwn, IsPlain}
use Rattle.thread_steps.proofs.Orderly.{IsOrderly, Turns, library_orderly}

turned_push : (s : Option Bool) (xs : List Action) (y : Action) → turned_by s (xs ++ y ∷ []) ≡ turned (turned_by s xs) y
turned_push s [] y = refl
turned_push s (z ∷ zs) y = turned_push (turned s z) zs y

-- After the action y a notify is open as `c` says, where before it one is as `b` says.
pushed : (xs : List Action) (y : Action) (b c : Bool) → turned_by (Some false) xs ≡ Some b
    → turned (Some b) y ≡ Some c → turned_by (Some false) (xs ++ y ∷ []) ≡ Some c
pushed xs y b c e h = turned_push (Some false) xs y ∙ ap (λ s. turned s y) e ∙ h

plain_turn : (y : Action) (b : Bool) → IsPlain y → turned (Some b) y ≡ Some b
plain_turn (act.Read k s) true p = refl
plain_turn (act.Read k s) false p = refl
plain_turn (act.Write s k v) true p = refl
plain_turn (act.Write s k v) false p = refl
plain_turn act.Fence true p = refl
plain_turn act.Fence false p = refl
plain_turn act.Beat b p = absurd p
plain_turn (act.Notify m) b p = absurd p
plain_turn (act.Wait m) b p = absurd p
plain_turn (act.Lock k) true p = refl
plain_turn (act.Lock k) false p = refl
plain_turn (act.Attempt k) true p = refl
plain_turn (act.Attempt k) false p = refl
plain_turn (act.Unlock k) true p = refl
plain_turn (act.Unlock k) false p = refl
plain_turn act.LockMake true p = refl
plain_turn act.LockMake false p = refl
plain_turn (act.LockFree k) true p = refl
plain_turn (act.LockFree k) false p = refl
plain_turn (act.Alloc n b h s) true p = refl
plain_turn (act.Alloc n b h s) false p = refl
plain_turn (act.Free q) true p = refl
plain_turn (act.Free q) false p = refl
plain_turn (act.Meet c args) true p = refl
plain_turn (act.Meet c args) false p = refl
plain_turn (act.Print t) true p = refl
plain_turn (act.Print t) false p = refl
plain_turn (act.Exit v) true p = refl
plain_turn (act.Exit v) false p = refl

beat_turn : (b : Bool) → turned (Some b) act.Beat ≡ Some b
beat_turn true = refl
beat_turn false = refl

-- The end of a thread whose notifies and waits alternate, the action that it wants among them.
abbrev pub IsFine : ToldEnd → State → Type 0
IsFine (Wants y) υ = IsInTurn (υ.actions ++ y ∷ [])
IsFine (Misfit k) υ = IsInTurn υ.actions
IsFine (Ended v) υ = IsInTurn υ.actions
IsFine (Exit v) υ = IsInTurn υ.actions
IsFine (Fault code at) υ = IsInTurn υ.actions
IsFine OutOfTicks υ = IsInTurn υ.actions

-- A notify is open by the actions as `b` says, by the state as `v` says.
pub record Stands (d : ℕ) (b v : Bool) (σ : State) : Type 0 where
  pub turn : turned_by (Some false) σ.actions ≡ Some b
  pub noted : σ.notified ≡ v
  pub deep : depth σ.store ≡ d

abbrev pub Leads : {A : Type 0} → (d : ℕ) (b v : Bool) → Res A → Type 0
Leads d b v (Val w υ) = Stands d b v υ
Leads d b v (Over e υ) = IsFine e υ
Leads d b v Unfinished = Unit {0}

-- From where a notify is open so, to where one is open so.
pub record Steps (A : Type 0) (d : ℕ) (b v c w : Bool) (m : Doing A) : Type 0 where
  pub by : (σ : State) → Stands d b v σ → Leads d c w (m σ)

then_steps : {A B : Type 0} (d : ℕ) (b v c w e u : Bool) (m : Doing A) (f : A → Doing B) → Steps A d b v c w m
    → ((y : A) → Steps B d c w e u (f y)) → Steps B d b v e u (m >>= f)
then_steps {A = A} {B = B} d b v c w e u m f sm sf = record { by = λ σ h. on_result (m σ) (sm.by σ h) }
  where
    on_result : (r : Res A) → Leads d c w r → Leads d e u (bind r f)
    on_result (Val y υ) h = (sf y).by υ h
    on_result (Over y υ) h = h
    on_result Unfinished h = tt

give_steps : {A : Type 0} (d : ℕ) (b v : Bool) (y : A) → Steps A d b v b v (give y)
give_steps d b v y = record { by = λ σ h. h }

fault_steps : {A : Type 0} (d : ℕ) (b v c w : Bool) (code : ℕ) (at : Place) → Steps A d b v c w (fault code at)
fault_steps d b v c w code at = record { by = λ σ h. (b, h.turn) }

valued_steps : {A : Type 0} (d : ℕ) (b v : Bool) (at : Place) (r : Result A ℕ) → Steps A d b v b v (valued at r)
valued_steps d b v at (Ok y) = give_steps d b v y
valued_steps d b v at (Err code) = fault_steps d b v b v code at

store_steps : (d : ℕ) (b v : Bool) (at : Place) (f : Live → Result Live ℕ) → ((s : Live) → SameDepth s (f s))
    → Steps (Unit {0}) d b v b v (λ σ. parts.with_store at σ (f σ.store))
store_steps d b v at f kept = record { by = λ σ h. on_store (f σ.store) σ h (kept σ.store) }
  where
    on_store : (r : Result Live ℕ) (σ : State) → Stands d b v σ → SameDepth σ.store r
        → Leads d b v (parts.with_store at σ r)
    on_store (Ok s) σ h k = record { turn = h.turn; noted = h.noted; deep = k ∙ h.deep }
    on_store (Err code) σ h k = (b, h.turn)

unless_steps : (d : ℕ) (b v : Bool) (at : Place) (r : Reply) → Steps (Unit {0}) d b v b v (parts.unless_refused at r)
unless_steps d b v at reply.Done = give_steps d b v tt
unless_steps d b v at (reply.Value y) = give_steps d b v tt
unless_steps d b v at (reply.Flag y) = give_steps d b v tt
unless_steps d b v at (reply.Refused code) = fault_steps d b v b v code at

module _ (τ : Thread) where
  module _ (d : ℕ) (b v c : Bool) (kind : Option Kind) (y : Action) (h : turned (Some b) y ≡ Some c) where
    answered_steps : (t : Bool) (r : Reply) (rest : List Reply) (σ : State) → Stands d b v σ
        → Leads d c v (a.answered t y r rest σ)
    answered_steps true r rest σ s = record { turn = pushed σ.actions y b c s.turn h; noted = s.noted; deep = s.deep }
    answered_steps false r rest σ s = (b, s.turn)

    from_steps : (rs : List Reply) (σ : State) → Stands d b v σ → Leads d c v (parts.answered_from τ kind y rs σ)
    from_steps [] σ s = (c, pushed σ.actions y b c s.turn h)
    from_steps (r ∷ rest) σ s = answered_steps (fits τ.threads τ.shapes kind y r) r rest σ s

    ask_steps : Steps Reply d b v c v (a.ask τ kind y)
    unfolding a.ask
    ask_steps = record { by = λ σ s. from_steps σ.replies σ s }

  -- ---- calls of the library

  turns_on : (b : Bool) (y : Action) (c : Bool) → Turns b y c → turned (Some b) y ≡ Some c
  turns_on b (act.Notify m) c h = subst (λ t. turned (Some t) (act.Notify m) ≡ Some c) (sym h.0) (ap Some (sym h.1))
  turns_on b (act.Wait m) c h = subst (λ t. turned (Some t) (act.Wait m) ≡ Some c) (sym h.0) (ap Some (sym h.1))
  turns_on b act.Beat c h = absurd h
  turns_on b (act.Read k s) c h = plain_turn (act.Read k s) b tt ∙ ap Some h
  turns_on b (act.Write s k v) c h = plain_turn (act.Write s k v) b tt ∙ ap Some h
  turns_on b act.Fence c h = plain_turn act.Fence b tt ∙ ap Some h
  turns_on b (act.Lock k) c h = plain_turn (act.Lock k) b tt ∙ ap Some h
  turns_on b (act.Attempt k) c h = plain_turn (act.Attempt k) b tt ∙ ap Some h
  turns_on b (act.Unlock k) c h = plain_turn (act.Unlock k) b tt ∙ ap Some h
  turns_on b act.LockMake c h = plain_turn act.LockMake b tt ∙ ap Some h
  turns_on b (act.LockFree k) c h = plain_turn (act.LockFree k) b tt ∙ ap Some h
  turns_on b (act.Alloc n m i s) c h = plain_turn (act.Alloc n m i s) b tt ∙ ap Some h
  turns_on b (act.Free q) c h = plain_turn (act.Free q) b tt ∙ ap Some h
  turns_on b (act.Meet k args) c h = plain_turn (act.Meet k args) b tt ∙ ap Some h
  turns_on b (act.Print t) c h = plain_turn (act.Print t) b tt ∙ ap Some h
  turns_on b (act.Exit v) c h = plain_turn (act.Exit v) b tt ∙ ap Some h

  load_steps : (d : ℕ) (b v : Bool) (kind : Kind) (at : Place) (q : LocalPtr)
      → Steps Value d b v b v (x.load_private kind at q)
  load_steps d b v kind at q = record { by = λ σ h. (valued_steps d b v at (loaded q kind σ.store)).by σ h }

  save_steps : (d : ℕ) (b v : Bool) (kind : Kind) (at : Place) (q : LocalPtr) (y : Value)
      → Steps (Unit {0}) d b v b v (x.save_private kind at q y)
  save_steps d b v kind at q y = store_steps d b v at (λ s. stored q kind (kept kind y) s)
      (λ s. stored_depth q kind (kept kind y) s)

  expanded_steps : {A : Type 0} (d : ℕ) (flag b : Bool) (at : Place) (e : Expansion A) → IsOrderly flag b e
      → Steps A d b flag flag flag (x.expanded τ at e)
  expanded_steps {A = A} d flag b at (Gives y) h = subst (λ t. Steps A d t flag flag flag (give y)) (sym h)
      (give_steps d flag flag y)
  expanded_steps d flag b at (Fails code) h = fault_steps d b flag flag flag code at
  expanded_steps d flag b at (Reads k kind after) h =
      then_steps d b flag b flag flag flag (x.read τ kind false k) _
      (then_steps d b flag b flag b flag (a.ask τ (Some kind) (act.Read k false)) _
      (ask_steps d b flag b (Some kind) (act.Read k false) (plain_turn (act.Read k false) b tt))
      (λ r. give_steps d b flag (value_in r))) (λ y.
      expanded_steps d flag b at (after y) (h y))
  expanded_steps d flag b at (Asks y after) h =
      then_steps d b flag h.0 flag flag flag (a.ask τ None y) _
      (ask_steps d b flag h.0 None y (turns_on b y h.0 h.1)) (λ r.
      expanded_steps d flag h.0 at (after r) (h.2 r))
  expanded_steps d flag b at (Loads q kind after) h =
      then_steps d b flag b flag flag flag (x.load_private kind at q) _ (load_steps d b flag kind at q) (λ y.
      expanded_steps d flag b at (after (scalar_of y)) (h (scalar_of y)))
  expanded_steps d flag b at (Stores q kind y after) h =
      then_steps d b flag b flag flag flag (x.save_private kind at q (value.Scalar y)) _
      (save_steps d b flag kind at q (value.Scalar y)) (λ u.
      expanded_steps d flag b at after h)

  run_steps : {A : Type 0} (d : ℕ) (flag : Bool) (at : Place) (e : Expansion A) → IsOrderly flag flag e
      → Steps A d flag flag flag flag (x.library_steps τ at e)
  unfolding x.library_steps
  run_steps d flag at e h = expanded_steps d flag flag at e h

  -- ---- the property

  abbrev pub Ends : {A : Type 0} → ℕ → Res A → Type 0
  Ends d (Val y υ) = Stands d υ.notified υ.notified υ
  Ends d (Over e υ) = IsFine e υ
  Ends d Unfinished = Unit {0}

  pub record InTurn (n d : ℕ) (A : Type 0) (m : Doing A) : Type 0 where
    pub by : (σ : State) → Stands d σ.notified σ.notified σ → Ends d (m σ)

  leads_ends : {A : Type 0} (d : ℕ) (b : Bool) (r : Res A) → Leads d b b r → Ends d r
  leads_ends d b (Val y υ) h =
      record { turn = h.turn ∙ ap Some (sym h.noted); noted = refl; deep = h.deep }
  leads_ends d b (Over e υ) h = h
  leads_ends d b Unfinished h = tt

  -- What keeps each way in which a notify may be open has the property.
  kept_in_turn : (n d : ℕ) (A : Type 0) (m : Doing A) → ((b : Bool) → Steps A d b b b b m) → InTurn n d A m
  kept_in_turn n d A m s = record { by = λ σ h. leads_ends d σ.notified (m σ) ((s σ.notified).by σ h) }

  then_in_turn : (n d : ℕ) (A B : Type 0) (m : Doing A) (f : A → Doing B) → InTurn n d A m
      → ((y : A) → InTurn n d B (f y)) → InTurn n d B (m >>= f)
  then_in_turn n d A B m f sm sf = record { by = λ σ h. on_result (m σ) (sm.by σ h) }
    where
      on_result : (r : Res A) → Ends d r → Ends d (bind r f)
      on_result (Val y υ) h = (sf y).by υ h
      on_result (Over y υ) h = h
      on_result Unfinished h = tt

  own_in_turn : (n d : ℕ) (A : Type 0) (e : ToldEnd) → IsOwn e → InTurn n d A (over e)
  own_in_turn n d A (Fault code at) own = record { by = λ σ h. (σ.notified, h.turn) }
  own_in_turn n d A (Exit v) own = record { by = λ σ h. (σ.notified, h.turn) }
  own_in_turn n d A OutOfTicks own = absurd own
  own_in_turn n d A (Wants y) own = absurd own
  own_in_turn n d A (Misfit k) own = absurd own
  own_in_turn n d A (Ended v) own = absurd own

  basic_in_turn : IsBasic InTurn
  basic_in_turn = record {
    of_give = λ n d A y. kept_in_turn n d A (give y) (λ b. give_steps d b b y);
    of_over = own_in_turn;
    of_know = λ n d A f ignores. record { by = λ σ h. h };
    of_bind = then_in_turn;
    of_store = λ n d at f kept. kept_in_turn n d (Unit {0}) _ (λ b. store_steps d b b at f kept);
  }

  -- ---- ticks

  skip_in_turn : (n d : ℕ) → InTurn n d (Unit {0}) skip
  skip_in_turn n d = kept_in_turn n d (Unit {0}) skip (λ b. give_steps d b b tt)

  beat_in_turn : (n d : ℕ) (t : Bool) → InTurn n d (Unit {0}) (choose t (do a.ask τ None act.Beat; skip) skip)
  beat_in_turn n d true =
      kept_in_turn n d (Unit {0}) _ (λ b. then_steps d b b b b b b (a.ask τ None act.Beat) _
      (ask_steps d b b b None act.Beat (beat_turn b)) (λ r. give_steps d b b tt))
  beat_in_turn n d false = skip_in_turn n d

  spent_in_turn : (n d : ℕ) (t : Bool) → InTurn n d (Unit {0}) (choose t (over OutOfTicks) skip)
  spent_in_turn n d true = record { by = λ σ h. (σ.notified, h.turn) }
  spent_in_turn n d false = skip_in_turn n d

  tick_in_turn : (n d : ℕ) → InTurn n d (Unit {0}) (a.tick τ)
  unfolding a.tick
  tick_in_turn n d =
      then_in_turn n d (Unit {0}) (Unit {0}) (change parts.with_tick) _
      (record { by = λ σ h. record { turn = h.turn; noted = refl; deep = h.deep } }) (λ u.
      then_in_turn n d ℕ (Unit {0}) (know parts.ticks_of) _ (record { by = λ σ h. h }) (λ count.
      then_in_turn n d (Unit {0}) (Unit {0}) (choose (count % 1024 == 0) (do a.ask τ None act.Beat; skip) skip) _
      (beat_in_turn n d (count % 1024 == 0)) (λ v. spent_in_turn n d (count == τ.budget))))

  -- ---- barriers

  noted_steps : (d : ℕ) (b v w : Bool) → Steps (Unit {0}) d b v b w (change (parts.with_notified w))
  noted_steps d b v w = record { by = λ σ h. record { turn = h.turn; noted = refl; deep = h.deep } }

  does_steps : (d : ℕ) (b v c : Bool) (at : Place) (y : Action) → turned (Some b) y ≡ Some c
      → Steps (Unit {0}) d b v c v (a.does τ at y)
  does_steps d b v c at y h = then_steps d b v c v c v (a.ask τ None y) _ (ask_steps d b v c None y h)
      (λ r. unless_steps d c v at r)

  unless_controlled : (n d : ℕ) (at : Place) → InTurn n d (Unit {0}) (fault_if a.is_controlled BARRIER_IN_FORALL at)
  unless_controlled n d at = record { by = λ σ h. by_test (a.is_controlled σ) σ h }
    where
      by_test : (t : Bool) (σ : State) → Stands d σ.notified σ.notified σ
          → Ends d (choose t (fault BARRIER_IN_FORALL at) skip σ)
      by_test true σ h = (σ.notified, h.turn)
      by_test false σ h = h

  notify_in_turn : (n d : ℕ) (at : Place) (mark : Mark) → InTurn n d (Unit {0}) (a.notify τ at mark)
  unfolding a.notify
  notify_in_turn n d at mark =
      then_in_turn n d (Unit {0}) (Unit {0}) (fault_if a.is_controlled BARRIER_IN_FORALL at) _
      (unless_controlled n d at) (λ u.
      record { by = λ σ h. by_noted σ.notified σ h })
    where
      by_noted : (v : Bool) (σ : State) → Stands d v v σ
          → Ends d (bind (choose v (fault PHASE_ORDER at) skip σ)
          (λ _. a.does τ at (act.Notify mark) >> change (parts.with_notified true)))
      by_noted true σ h = (true, h.turn)
      by_noted false σ h =
          leads_ends d true _ ((then_steps d false false true false true true (a.does τ at (act.Notify mark)) _
          (does_steps d false false true at (act.Notify mark) refl) (λ u. noted_steps d true false true)).by σ h)

  wait_in_turn : (n d : ℕ) (at : Place) (mark : Mark) → InTurn n d (Unit {0}) (a.wait τ at mark)
  unfolding a.wait
  wait_in_turn n d at mark =
      then_in_turn n d (Unit {0}) (Unit {0}) (fault_if a.is_controlled BARRIER_IN_FORALL at) _
      (unless_controlled n d at) (λ u.
      record { by = λ σ h. by_noted σ.notified σ h })
    where
      by_noted : (v : Bool) (σ : State) → Stands d v v σ
          → Ends d (bind (choose (not v) (fault PHASE_ORDER at) skip σ)
          (λ _. a.does τ at (act.Wait mark) >> change (parts.with_notified false)))
      by_noted false σ h = (false, h.turn)
      by_noted true σ h =
          leads_ends d false _ ((then_steps d true true false true false false (a.does τ at (act.Wait mark)) _
          (does_steps d true true false at (act.Wait mark) refl) (λ u. noted_steps d false true false)).by σ h)

  -- ---- calls of the library

  module _ (n d : ℕ) (call : LibraryCall) (shape : ℕ) (at : Place) (args : List Value) where
    expansion : (ℕ → Option Shape) → Expansion Scalar
    expansion private = library_call τ.threads τ.shapes τ.number private call shape args

    abbrev goes_on : Doing Value
    goes_on = know parts.private_shapes >>= (λ private. x.library_steps τ at
        (library_call τ.threads τ.shapes τ.number private call shape args) >>= (λ v. give (value.Scalar v)))

    goes_steps : (flag : Bool) → (is_some (meet_number call) ≡ true → flag ≡ false)
        → Steps Value d flag flag flag flag goes_on
    goes_steps flag h = record {
      by = λ σ s.
          (then_steps d flag flag flag flag flag flag (x.library_steps τ at
          (library_call τ.threads τ.shapes τ.number (parts.private_shapes σ) call shape args)) _
          (run_steps d flag at _ (library_orderly flag τ.threads τ.shapes τ.number (parts.private_shapes σ) call shape
          args h).by)
          (λ v. give_steps d flag flag (value.Scalar v))).by σ s;
    }

    by_noted : (v : Bool) (σ : State) → Stands d v v σ
        → Ends d (bind (choose v (fault PHASE_ORDER at) skip σ) (λ _. goes_on))
    by_noted true σ h = (true, h.turn)
    by_noted false σ h = leads_ends d false (goes_on σ) ((goes_steps false (λ e. refl)).by σ h)

    by_controlled : (t : Bool) (σ : State) → Stands d σ.notified σ.notified σ
        → Ends d (bind
        (bind (choose t (fault BARRIER_IN_FORALL at) skip σ) (λ _. fault_if parts.is_notified PHASE_ORDER at))
        (λ _. goes_on))
    by_controlled true σ h = (σ.notified, h.turn)
    by_controlled false σ h = by_noted σ.notified σ h

    no_meeting : is_some (meet_number call) ≡ false → (flag : Bool) → is_some (meet_number call) ≡ true → flag ≡ false
    no_meeting e flag h = absurd (differ (sym h ∙ e))
      where
        differ : true ≡ false → ⊥
        differ e = grind arith

    by_meeting : (t : Bool) → is_some (meet_number call) ≡ t → InTurn n d Value (choose t (a.meet τ at) skip >> goes_on)
    unfolding a.meet
    by_meeting true e = record { by = λ σ h. by_controlled (a.is_controlled σ) σ h }
    by_meeting false e = record {
      by = λ σ h. leads_ends d σ.notified (goes_on σ)
          ((goes_steps σ.notified (no_meeting e σ.notified)).by σ h);
    }

    called_in_turn : InTurn n d Value (l.called_library τ call shape at args)
    called_in_turn = by_meeting (is_some (meet_number call)) refl

  -- ---- calls

  call_in_turn : (n d : ℕ) (A : Type 0) (at : Place) (m : Doing A) → (d < 1000 → InTurn n (suc d) A m)
      → InTurn n d A (begin_call at >> (m >>= (λ v. end_call >> give v)))
  unfolding begin_call end_call
  call_in_turn n d A at m lm = record { by = λ σ h. by_depth (is_deep σ) σ refl h }
    where
      back : (r : Res A) → Ends (suc d) r → Ends d (bind r (λ v. change (with_live returned) >> give v))
      back (Val v υ) h = record { turn = h.turn; noted = refl; deep = returned_depth d υ.store h.deep }
      back (Over e υ) h = h
      back Unfinished h = tt

      by_depth : (b : Bool) (σ : State) → is_deep σ ≡ b → Stands d σ.notified σ.notified σ
          → Ends d (bind (bind (choose b (fault DEPTH at) skip σ) (λ _. change (with_live call_begun)))
          (λ _. m >>= (λ v. change (with_live returned) >> give v)))
      by_depth true σ e h = (σ.notified, h.turn)
      by_depth false σ e h =
          let υ = with_live call_begun σ in
          back (m υ) ((lm (not_deep d (depth σ.store) e h.deep)).by υ
          (record { turn = h.turn; noted = refl; deep = called_depth σ.store ∙ ap suc h.deep }))

  counted : (k n d : ℕ) (A : Type 0) (m : Doing A) → InTurn n d A m → InTurn k d A m
  counted k n d A m l = record { by = λ σ h. l.by σ h }

  pub turning : IsKept τ InTurn
  turning = record {
    basic = basic_in_turn;
    of_fewer = λ k n d A m le l. counted k n d A m l;
    of_unfinished = λ d A. record { by = λ σ h. tt };
    of_ask = λ n d kind y plain. kept_in_turn n d Reply (a.ask τ kind y)
        (λ b. ask_steps d b b b kind y (plain_turn y b plain));
    of_notify = notify_in_turn;
    of_wait = wait_in_turn;
    of_called = called_in_turn;
    of_tick = tick_in_turn;
    of_turn = λ n d A m l. counted (suc n) n d A _ (then_in_turn n d (Unit {0}) A (a.tick τ) _ (tick_in_turn n d)
        (λ u. l));
    of_call = call_in_turn;
  }
