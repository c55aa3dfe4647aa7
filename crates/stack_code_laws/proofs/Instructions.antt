-- Each instruction asks well where operands, arguments and private objects hold what is known.
use Rattle.std.proofs.Common.{◌≡◌, ℕ, zero, suc, ◌+◌, ℤ, pos, ◌<◌, Bool, true, false, List, [], ◌∷◌, Option}
use Rattle.std.proofs.Common.{Some, None}
use Rattle.std.proofs.Common.{refl, sym, subst, take, drop, reverse, not, arith}
use Rattle.std.proofs.lemmas.Int.{ints}
use Rattle.std.specs.Prelude.{slice_get, IfSome}
use Rattle.std.specs.Ordering.{int_eq}
use Rattle.std.proofs.lemmas.List.{reverse-append}
use Rattle.upc_text.specs.declared.place.Place.{Place}
use Rattle.block_layout.specs.declared.kind.Kind.{Kind}
use Rattle.block_layout.specs.declared.place.Loc.{Loc}
use Rattle.upc_values.specs.declared.scalar.Value.{Value}
use Rattle.upc_values.specs.declared.action.Reply.{Reply}
use Rattle.upc_values.specs.declared.record.ToldEnd.TheVariants as told
use Rattle.upc_values.specs.Lists.{Each}
use Rattle.upc_values.specs.Openings.{Opening}
use Rattle.upc_values.proofs.Lists.{each-take}
use Rattle.upc_values.proofs.Membership.{each-append}
use Rattle.thread_steps.specs.States.{Thread, State, Res, Val, Over, Unfinished, bind, Doing, know}
use Rattle.thread_steps.specs.Values.{number, number_of, is_zero}
use Rattle.thread_steps.specs.Actions.{tick, is_controlled}
use Rattle.thread_steps.specs.Blocks.{close_block, local_object, begin_call, end_call}
use Rattle.stack_code.specs.declared.instruction.CellAccess.{CellAccess}
use Rattle.stack_code.specs.declared.instruction.StackWork.{StackWork}
use Rattle.stack_code.specs.declared.instruction.StackWork.TheVariants as stack
use Rattle.stack_code.specs.declared.instruction.ValueWork.{ValueWork}
use Rattle.stack_code.specs.declared.instruction.ValueWork.TheVariants.{Operate, Apply, Cast, Advance, Retreat, InRow}
use Rattle.stack_code.specs.declared.instruction.ValueWork.TheVariants.{Member, Difference, Order, Same}
use Rattle.stack_code.specs.declared.instruction.ObjectWork.{ObjectWork}
use Rattle.stack_code.specs.declared.instruction.ObjectWork.TheVariants.{Local, Load, Save, Enter, Leave}
use Rattle.stack_code.specs.declared.instruction.Jump.{Jump}
use Rattle.stack_code.specs.declared.instruction.Jump.TheVariants.{GoOn, SkipIfZero, SkipIfControlled, Case, Tick}
use Rattle.stack_code.specs.declared.instruction.Jump.TheVariants.{GoBack, Exit as Leaving}
use Rattle.stack_code.specs.declared.instruction.CallWork.{CallWork}
use Rattle.stack_code.specs.declared.instruction.CallWork.TheVariants.{CallTo, Begin, Receive, GiveBack, Quit}
use Rattle.stack_code.specs.declared.instruction.ThreadWork.{ThreadWork}
use Rattle.stack_code.specs.declared.instruction.ThreadWork.TheVariants.{Notify, Wait, NotifyValue, WaitValue, Fence}
use Rattle.stack_code.specs.declared.instruction.ThreadWork.TheVariants.{Control, Release, Mine, Library, Print}
use Rattle.stack_code.specs.declared.instruction.Operation.{Operation}
use Rattle.stack_code.specs.declared.instruction.Operation.TheVariants as work
use Rattle.stack_code.specs.declared.instruction.Instr.{Instr}
use Rattle.stack_code.specs.layer.Codes.{function_at, instructions_of}
use Rattle.stack_code.specs.layer.Steps.{Spot, Conf, At, Halt, further, back, conf_of, top, rest, second}
use Rattle.stack_code.specs.layer.Steps.{third, below_two}
use Rattle.stack_code.specs.layer.Steps.{youngest, gives, leaves, pick, close_blocks, given_back, begun, stacked, made}
use Rattle.stack_code.specs.layer.Steps.{placed}
use Rattle.stack_code.specs.layer.Steps.{acted, jumped, kept_in, received, called, worked, act, step}
use Rattle.stack_code_laws.specs.layer.Asking.{PushesKnown, NamesKnown, IsDeclaredIn}
use Rattle.stack_code_laws.specs.code.Wanted.{LoadsKind, CallReads, WorkReads, InstructionReads}
use Rattle.stack_code.specs.layer.Kept.{StackFits, ValuesFit, Fits, IsFitting}
use Rattle.stack_code_laws.proofs.Given.{IsGround}
use Rattle.stack_code_laws.proofs.Numbers.{number_is, truth_number}
use Rattle.stack_code_laws.proofs.KnownValues.{runner, Known, first_value}
use Rattle.stack_code_laws.proofs.Doings.{Grown, Nothing, Asks, then_asks, give_asks, skip_asks, exit_asks}
use Rattle.stack_code_laws.proofs.Doings.{know_asks}
use Rattle.stack_code_laws.proofs.Primitives as p
use Rattle.stack_code_laws.proofs.Calls.{call_goes}

-- ---- where the code stands, as what comes of a step of a thread

-- The spot of the next instruction, the arguments, the operands, and the spots to which the active calls lead back.
pub record Point : Type 0 where
  pub at : Spot
  pub given : List Value
  pub operands : List Value
  pub calls : List Spot

abbrev pub res_of : Conf → Res Point
res_of (At at given operands calls σ) =
    Val (record { at = at; given = given; operands = operands; calls = calls }) σ
res_of (Halt told σ) = Over told σ

-- ---- lists

has_each : {X : Type 0} (P : X → Type 0) (xs : List X) (i : ℕ) → Each P xs → IfSome (slice_get xs i) P
has_each P [] i h = tt
has_each P (x ∷ xs) zero h = h.0
has_each P (x ∷ xs) (suc i) h = has_each P xs i h.1

each_in : (P : Instr → Type 0) (function : Option (List Instr)) → IfSome function (Each P)
    → Each P (instructions_of function)
each_in P (Some code) h = h
each_in P None h = tt

-- What holds of all instructions holds of the one at a spot.
found : (P : Instr → Type 0) (functions : List (List Instr)) (here : Spot) → Each (Each P) functions
    → IfSome (slice_get (function_at functions here.function) here.place) P
found P functions here h =
    has_each P (function_at functions here.function) here.place
    (each_in P (slice_get functions here.function) (has_each (Each P) functions here.function h))

each_drop : {X : Type 0} (P : X → Type 0) (n : ℕ) (xs : List X) → Each P xs → Each P (drop n xs)
each_drop P zero xs h = h
each_drop P (suc n) [] h = tt
each_drop P (suc n) (x ∷ xs) h = each_drop P n xs h.1

each_reverse : {X : Type 0} (P : X → Type 0) (xs : List X) → Each P xs → Each P (reverse xs)
each_reverse P [] h = tt
each_reverse P (x ∷ xs) h =
    subst (Each P) (sym (reverse-append (x ∷ []) xs))
    (each-append P (reverse xs) (x ∷ []) (each_reverse P xs h.1) (h.0, tt))

module _ (o : Opening) (past : List Reply) where
  abbrev pub AllKnown : List Value → Type 0
  AllKnown vs = Each (Known o past) vs

  -- Arguments and operands are known.
  abbrev pub Stands : Point → Type 0
  Stands point = AllKnown point.given × AllKnown point.operands

  top_known : (vs : List Value) → AllKnown vs → Known o past (top vs)
  top_known [] h = refl
  top_known (v ∷ vs) h = h.0

  rest_known : (vs : List Value) → AllKnown vs → AllKnown (rest vs)
  rest_known [] h = tt
  rest_known (v ∷ vs) h = h.1

  second_known : (vs : List Value) → AllKnown vs → Known o past (second vs)
  second_known vs h = top_known (rest vs) (rest_known vs h)

  below_known : (vs : List Value) → AllKnown vs → AllKnown (below_two vs)
  below_known vs h = rest_known (rest vs) (rest_known vs h)

  youngest_known : (n : ℕ) (vs : List Value) → AllKnown vs → AllKnown (youngest n vs)
  youngest_known n vs h = each_reverse (Known o past) (take n vs) (each-take (Known o past) n vs h)

  dropped_known : (n : ℕ) (vs : List Value) → AllKnown vs → AllKnown (drop n vs)
  dropped_known n vs h = each_drop (Known o past) n vs h

  pick_known : (b : Bool) (vs ws : List Value) → AllKnown vs → AllKnown ws → AllKnown (pick b vs ws)
  pick_known true vs ws h g = h
  pick_known false vs ws h g = g

-- ---- how instructions go on

module _ (o : Opening) (past : List Reply) (R : Kind → Loc → Type 0) where
  -- Where P holds, the code goes on well from a state.
  abbrev pub Going : (P : Type 0) → (State → Conf) → Type 0
  Going P go = Asks o past R Point P (Stands o past) (λ σ. res_of (go σ))

  at_asks : (P : Type 0) (at : Spot) (given operands : List Value) (calls : List Spot) → (P → AllKnown o past given)
      → (P → AllKnown o past operands) → Going P (At at given operands calls)
  at_asks P at given operands calls h g =
      give_asks o past R Point P (Stands o past) (record { at = at; given = given; operands = operands; calls = calls })
      (λ q. (h q, g q))

  quit_asks : (P : Type 0) (n : ℤ) → Going P (Halt (told.Ended n))
  quit_asks P n = exit_asks o past R Point P (Stands o past) (told.Ended n) (λ υ later. tt)

  -- A step, and where the code stands after it.
  module _ (A P : Type 0) (V : A → Type 0) (m : Doing A) (go : A → State → Conf) (hm : Asks o past R A P V m)
      (hgo : (v : A) → Going (P × V v) (go v)) where
    same_result : (σ : State) (r : Res A) → Grown σ r → bind r (λ v υ. res_of (go v υ)) ≡ res_of (conf_of r go)
    same_result σ (Val v υ) g = refl
    same_result σ (Over e υ) g = refl
    same_result σ Unfinished g = absurd g

    conf_asks : Going P (λ σ. conf_of (m σ) go)
    conf_asks =
        let same : (λ σ. bind (m σ) (λ v υ. res_of (go v υ))) ≡ (λ σ. res_of (conf_of (m σ) go)) =
        λ i σ. same_result σ (m σ) (hm.grows σ) i in
        subst (λ k. Asks o past R Point P (Stands o past) k) same
        (then_asks o past R A Point P V (Stands o past) m (λ v υ. res_of (go v υ)) hm hgo)

  module _ (P : Type 0) (there : Spot) (given operands : List Value) (calls : List Spot)
      (hg : P → AllKnown o past given) (ho : P → AllKnown o past operands) where
    gives_asks : (m : Doing Value) → Asks o past R Value P (Known o past) m
        → Going P (gives m operands (λ vs. At there given vs calls))
    gives_asks m hm =
        conf_asks Value P (Known o past) m (λ v. At there given (v ∷ operands) calls) hm (λ v.
        at_asks (P × Known o past v) there given (v ∷ operands) calls (λ q. hg q.0) (λ q. (q.1, ho q.0)))

    leaves_asks : (m : Doing (Unit {0})) → Asks o past R (Unit {0}) P Nothing m
        → Going P (leaves m operands (λ vs. At there given vs calls))
    leaves_asks m hm =
        conf_asks (Unit {0}) P Nothing m (λ u. At there given operands calls) hm (λ u.
        at_asks (P × Unit {0}) there given operands calls (λ q. hg q.0) (λ q. ho q.0))

module _ (o : Opening) (past : List Reply) (v : IsGround o) (R : Kind → Loc → Type 0) (me budget : ℕ)
    (one : me < o.threads) where
  abbrev τ : Thread
  τ = runner o me budget

  -- ---- groups of instructions

  stacked_known : (w : StackWork) (operands : List Value) → PushesKnown o w → StackFits o.threads o.shapes w
      → AllKnown o past operands → AllKnown o past (stacked τ w operands)
  stacked_known (stack.Push y) operands d f h = (first_value o past y d f, h)
  stacked_known stack.Me operands d f h =
      let most = v.most in
      (number_is (pos me) (record { least = omega (arith, ints, one, most); most = omega (arith, ints, one, most) }), h)
  stacked_known stack.Pop operands d f h = rest_known o past operands h
  stacked_known stack.Copy operands d f h = (top_known o past operands h, h)
  stacked_known stack.Over operands d f h = (second_known o past operands h, h)
  stacked_known stack.Swap operands d f h =
      (second_known o past operands h, (top_known o past operands h, below_known o past operands h))
  stacked_known stack.Truth operands d f h = (truth_number (not (is_zero (top operands))), rest_known o past operands h)
  stacked_known stack.Not operands d f h = (truth_number (is_zero (top operands)), rest_known o past operands h)

  closing : (P : Type 0) (n : ℕ) → Asks o past R (Unit {0}) P Nothing (close_blocks n)
  closing P zero = skip_asks o past R P
  closing P (suc n) =
      then_asks o past R (Unit {0}) (Unit {0}) P Nothing Nothing close_block (λ u. close_blocks n)
      (p.close_asks o past v R me budget P) (λ u. closing (P × Unit {0}) n)

  keeping : (P : Type 0) (access : Option CellAccess) (at : Place) (q y : Value) → (P → Known o past q)
      → (P → Known o past y) → Asks o past R (Unit {0}) P Nothing (kept_in τ access at q y)
  keeping P (Some access) at q y h g = p.save_asks o past v R me budget P access.kind access.strict at q y h g
  keeping P None at q y h g = skip_asks o past R P

  receiving : (P : Type 0) (at : Place) (i : ℕ) (cells : List (Option CellAccess)) (vs : List Value)
      → (P → AllKnown o past vs) → Asks o past R (Unit {0}) P Nothing (received τ at i cells vs)
  receiving P at i [] [] h = skip_asks o past R P
  receiving P at i [] (y ∷ vs) h = skip_asks o past R P
  receiving P at i (access ∷ cells) [] h = skip_asks o past R P
  receiving P at i (access ∷ cells) (y ∷ vs) h =
      then_asks o past R Value (Unit {0}) P (Known o past) Nothing (local_object i) _
      (p.local_asks o past v R me budget P i) (λ q.
      then_asks o past R (Unit {0}) (Unit {0}) (P × Known o past q) Nothing Nothing (kept_in τ access at q y) _
      (keeping (P × Known o past q) access at q y (λ r. r.1) (λ r. (h r.0).0)) (λ u.
      receiving ((P × Known o past q) × Unit {0}) at (i + 1) cells vs (λ r. (h r.0.0).1)))

  -- Where the code stands, from known arguments and operands.
  module _ (given operands : List Value) (calls : List Spot) where
    abbrev Before : Type 0
    Before = AllKnown o past given × AllKnown o past operands

    made_asks : (w : ValueWork) (at : Place) (there : Spot) → ValuesFit w
        → Going o past R Before (made τ w at operands (λ vs. At there given vs calls))
    made_asks (Operate operator left right) at there f =
        gives_asks o past R Before there given (below_two operands) calls (λ h. h.0)
        (λ h. below_known o past operands h.1) _
        (p.operate_asks o past v R me budget Before at operator left right (second operands) (top operands))
    made_asks (Apply operator kind) at there f =
        gives_asks o past R Before there given (rest operands) calls (λ h. h.0) (λ h. rest_known o past operands h.1) _
        (p.apply_asks o past v R me budget Before at operator kind (top operands))
    made_asks (Cast into) at there f =
        gives_asks o past R Before there given (rest operands) calls (λ h. h.0) (λ h. rest_known o past operands h.1) _
        (p.cast_asks o past v R me budget Before at into (top operands) (λ h. top_known o past operands h.1))
    made_asks (Advance ε count) at there f =
        gives_asks o past R Before there given (below_two operands) calls (λ h. h.0)
        (λ h. below_known o past operands h.1) _
        (p.advance_asks o past v R me budget Before at ε (second operands) _ (λ h. second_known o past operands h.1))
    made_asks (Retreat ε count) at there f =
        gives_asks o past R Before there given (below_two operands) calls (λ h. h.0)
        (λ h. below_known o past operands h.1) _
        (p.advance_asks o past v R me budget Before at ε (second operands) _ (λ h. second_known o past operands h.1))
    made_asks (InRow count) at there f =
        leaves_asks o past R Before there given (top operands ∷ below_two (rest operands)) calls (λ h. h.0)
        (λ h. (top_known o past operands h.1, below_known o past (rest operands) (rest_known o past operands h.1))) _
        (p.in_row_asks o past v R me budget Before at count (third operands) (number_of (second operands)))
    made_asks (Member offset) at there f =
        gives_asks o past R Before there given (rest operands) calls (λ h. h.0) (λ h. rest_known o past operands h.1) _
        (p.member_asks o past v R me budget Before at offset (top operands) (λ h. top_known o past operands h.1))
    made_asks (Difference ε) at there f =
        gives_asks o past R Before there given (below_two operands) calls (λ h. h.0)
        (λ h. below_known o past operands h.1) _
        (p.difference_asks o past v R me budget Before at ε (second operands) (top operands) (λ h. f)
        (λ h. second_known o past operands h.1) (λ h. top_known o past operands h.1))
    made_asks (Order operator ε) at there f =
        gives_asks o past R Before there given (below_two operands) calls (λ h. h.0)
        (λ h. below_known o past operands h.1) _
        (p.order_asks o past v R me budget Before at operator ε (second operands) (top operands) (λ h. f)
        (λ h. second_known o past operands h.1) (λ h. top_known o past operands h.1))
    made_asks Same at there f =
        gives_asks o past R Before there given (below_two operands) calls (λ h. h.0)
        (λ h. below_known o past operands h.1) _
        (p.same_asks o past v R me budget Before at (second operands) (top operands))

    placed_asks : (w : ObjectWork) (at : Place) (there : Spot) → ((k : Kind) (l : Loc) → LoadsKind w k → R k l)
        → Going o past R Before (placed τ w at operands (λ vs. At there given vs calls))
    placed_asks (Local n) at there r =
        gives_asks o past R Before there given operands calls (λ h. h.0) (λ h. h.1) _
        (p.local_asks o past v R me budget Before n)
    placed_asks (Load access) at there r =
        gives_asks o past R Before there given (rest operands) calls (λ h. h.0) (λ h. rest_known o past operands h.1) _
        (p.load_asks o past v R me budget Before access.kind access.strict at (top operands)
        (λ h. top_known o past operands h.1) (λ l. r access.kind l refl))
    placed_asks (Save access) at there r =
        leaves_asks o past R Before there given (top operands ∷ below_two operands) calls (λ h. h.0)
        (λ h. (top_known o past operands h.1, below_known o past operands h.1)) _
        (p.save_asks o past v R me budget Before access.kind access.strict at (second operands) (top operands)
        (λ h. second_known o past operands h.1) (λ h. top_known o past operands h.1))
    placed_asks (Enter from shapes) at there r =
        leaves_asks o past R Before there given operands calls (λ h. h.0) (λ h. h.1) _
        (p.open_asks o past v R me budget Before from _ at)
    placed_asks Leave at there r =
        leaves_asks o past R Before there given operands calls (λ h. h.0) (λ h. h.1) _
        (p.close_asks o past v R me budget Before)

    acted_asks : (w : ThreadWork) (at : Place) (there : Spot)
        → ((k : Kind) (l : Loc) → CallReads τ w operands k l → R k l)
        → Going o past R Before (acted τ w at operands (λ vs. At there given vs calls))
    acted_asks (Notify mark) at there r =
        leaves_asks o past R Before there given operands calls (λ h. h.0) (λ h. h.1) _
        (p.notify_asks o past v R me budget Before at mark)
    acted_asks (Wait mark) at there r =
        leaves_asks o past R Before there given operands calls (λ h. h.0) (λ h. h.1) _
        (p.wait_asks o past v R me budget Before at mark)
    acted_asks NotifyValue at there r =
        leaves_asks o past R Before there given (rest operands) calls (λ h. h.0) (λ h. rest_known o past operands h.1) _
        (p.notify_asks o past v R me budget Before at _)
    acted_asks WaitValue at there r =
        leaves_asks o past R Before there given (rest operands) calls (λ h. h.0) (λ h. rest_known o past operands h.1) _
        (p.wait_asks o past v R me budget Before at _)
    acted_asks Fence at there r =
        leaves_asks o past R Before there given operands calls (λ h. h.0) (λ h. h.1) _
        (p.fence_asks o past v R me budget Before)
    acted_asks Control at there r =
        leaves_asks o past R Before there given operands calls (λ h. h.0) (λ h. h.1) _
        (p.control_asks o past v R me budget Before)
    acted_asks Release at there r =
        leaves_asks o past R Before there given operands calls (λ h. h.0) (λ h. h.1) _
        (p.release_asks o past v R me budget Before)
    acted_asks Mine at there r =
        gives_asks o past R Before there given (rest operands) calls (λ h. h.0) (λ h. rest_known o past operands h.1) _
        (p.mine_asks o past v R me budget Before at (top operands))
    acted_asks (Library call shape n) at there r =
        gives_asks o past R Before there given (drop n operands) calls (λ h. h.0)
        (λ h. dropped_known o past n operands h.1) _
        (p.library_asks o past v R me budget call shape at (youngest n operands) r Before
        (λ h f. call_goes o past v R me budget one call shape (youngest n operands) f
        (youngest_known o past n operands h.1)))
    acted_asks (Print format n) at there r =
        gives_asks o past R Before there given (drop n operands) calls (λ h. h.0)
        (λ h. dropped_known o past n operands h.1) _
        (p.print_asks o past v R me budget Before _ (youngest n operands))

    jumped_asks : (j : Jump) (here : Spot)
        → Going o past R Before (jumped τ j here operands (λ there vs. At there given vs calls))
    jumped_asks (GoOn n) here =
        at_asks o past R Before (further (n + 1) here) given operands calls (λ h. h.0) (λ h. h.1)
    jumped_asks (SkipIfZero n) here =
        at_asks o past R Before (pick (is_zero (top operands)) (further (n + 1) here) (further 1 here)) given
        (rest operands)
        calls (λ h. h.0) (λ h. rest_known o past operands h.1)
    jumped_asks (SkipIfControlled n) here =
        then_asks o past R Bool Point Before (λ b. Unit {0}) (Stands o past) (know is_controlled)
        (λ b σ. res_of (At (pick b (further (n + 1) here) (further 1 here)) given operands calls σ))
        (know_asks o past R Bool Before (λ b. Unit {0}) is_controlled (λ q σ g. tt) (λ σ r rs. refl)) (λ b.
        at_asks o past R (Before × Unit {0}) (pick b (further (n + 1) here) (further 1 here)) given operands calls
        (λ h. h.0.0) (λ h. h.0.1))
    jumped_asks (Case label n) here =
        let same = int_eq (number_of (top operands)) label in
        at_asks o past R Before (pick same (further (n + 1) here) (further 1 here)) given
        (pick same (rest operands) operands)
        calls (λ h. h.0) (λ h. pick_known o past same (rest operands) operands (rest_known o past operands h.1) h.1)
    jumped_asks Tick here =
        leaves_asks o past R Before (further 1 here) given operands calls (λ h. h.0) (λ h. h.1) _
        (p.tick_asks o past v R me budget Before)
    jumped_asks (GoBack n) here =
        leaves_asks o past R Before (back n here) given operands calls (λ h. h.0) (λ h. h.1) _
        (p.tick_asks o past v R me budget Before)
    jumped_asks (Leaving blocks n) here =
        leaves_asks o past R Before (further (n + 1) here) given operands calls (λ h. h.0) (λ h. h.1) _
        (closing Before blocks)

  -- ---- calls

  returns_asks : (P : Type 0) (y : Value) (operands : List Value) (calls : List Spot) → (P → Known o past y)
      → (P → AllKnown o past operands) → Going o past R P (given_back y operands calls)
  returns_asks P y operands [] h g = quit_asks o past R P _
  returns_asks P y operands (at ∷ calls) h g =
      conf_asks o past R (Unit {0}) P Nothing end_call _ (p.end_asks o past v R me budget P) (λ u.
      at_asks o past R (P × Unit {0}) at [] (y ∷ operands) calls (λ q. tt) (λ q. (h q.0, g q.0)))

  begun_asks : (P : Type 0) (f : ℕ) (at : Place) (given operands : List Value) (calls : List Spot)
      → (P → AllKnown o past given) → (P → AllKnown o past operands)
      → Going o past R P (begun f at given operands calls)
  begun_asks P f at given operands calls h g =
      conf_asks o past R (Unit {0}) P Nothing (begin_call at) _ (p.begin_asks o past v R me budget P at) (λ u.
      at_asks o past R (P × Unit {0}) (record { function = f; place = 0 }) given operands calls (λ q. h q.0)
      (λ q. g q.0))

  module _ (given operands : List Value) (calls : List Spot) where
    called_asks : (w : CallWork) (at : Place) (here : Spot)
        → Going o past R (Before given operands calls) (called τ w at here given operands calls)
    called_asks (CallTo f n) at here =
        let P = Before given operands calls in
        conf_asks o past R (Unit {0}) P Nothing (tick τ) _ (p.tick_asks o past v R me budget P) (λ u.
        begun_asks (P × Unit {0}) f at (youngest n operands) (drop n operands) (further 1 here ∷ calls)
        (λ h. youngest_known o past n operands h.0.1) (λ h. dropped_known o past n operands h.0.1))
    called_asks (Begin f) at here =
        begun_asks (Before given operands calls) f at [] operands (further 1 here ∷ calls) (λ h. tt) (λ h. h.1)
    called_asks (Receive cells) at here =
        leaves_asks o past R (Before given operands calls) (further 1 here) [] operands calls (λ h. tt) (λ h. h.1) _
        (receiving (Before given operands calls) at 0 cells given (λ h. h.0))
    called_asks (GiveBack blocks) at here =
        let P = Before given operands calls in
        conf_asks o past R (Unit {0}) P Nothing (close_blocks blocks) _ (closing P blocks) (λ u.
        returns_asks (P × Unit {0}) (top operands) (rest operands) calls (λ h. top_known o past operands h.0.1)
        (λ h. rest_known o past operands h.0.1))
    called_asks Quit at here = quit_asks o past R (Before given operands calls) _

    worked_asks : (w : Operation) (at : Place) (here : Spot) → NamesKnown o w → Fits o.threads o.shapes w
        → ((k : Kind) (l : Loc) → WorkReads τ w operands k l → R k l)
        → Going o past R (Before given operands calls) (worked τ w at here given operands calls)
    worked_asks (work.Stack w) at here d f r =
        at_asks o past R (Before given operands calls) (further 1 here) given (stacked τ w operands) calls (λ h. h.0)
        (λ h. stacked_known w operands d f h.1)
    worked_asks (work.Value w) at here d f r = made_asks given operands calls w at (further 1 here) f
    worked_asks (work.Object w) at here d f r = placed_asks given operands calls w at (further 1 here) r
    worked_asks (work.Way j) at here d f r = jumped_asks given operands calls j here
    worked_asks (work.Call w) at here d f r = called_asks w at here
    worked_asks (work.Thread w) at here d f r = acted_asks given operands calls w at (further 1 here) r

    act_asks : (i : Option Instr) (here : Spot) → IfSome i (IsDeclaredIn o)
        → IfSome i (IsFitting o.threads o.shapes)
        → ((k : Kind) (l : Loc) → InstructionReads τ i operands k l → R k l)
        → Going o past R (Before given operands calls) (act τ i here given operands calls)
    act_asks (Some i) here d f r = worked_asks i.does i.place here d f r
    act_asks None here d f r =
        returns_asks (Before given operands calls) (number (pos 0)) operands calls (λ h. refl) (λ h. h.1)

module _ (o : Opening) (past : List Reply) (v : IsGround o) (me budget : ℕ) (one : me < o.threads)
    (functions : List (List Instr)) (declared : Each (Each (IsDeclaredIn o)) functions)
    (fitting : Each (Each (IsFitting o.threads o.shapes)) functions) where
  -- What is read by the instruction at a spot.
  abbrev pub ReadsHere : Spot → List Value → Kind → Loc → Type 0
  ReadsHere here operands k l =
      InstructionReads (runner o me budget) (slice_get (function_at functions here.function) here.place) operands k l

  -- One instruction.
  pub step_asks : (here : Spot) (given operands : List Value) (calls : List Spot)
      → Going o past (ReadsHere here operands) (AllKnown o past given × AllKnown o past operands)
      (λ σ. step (runner o me budget) functions (At here given operands calls σ))
  step_asks here given operands calls =
      act_asks o past v (ReadsHere here operands) me budget one given operands calls
      (slice_get (function_at functions here.function) here.place) here
      (found (IsDeclaredIn o) functions here declared) (found (IsFitting o.threads o.shapes) functions here fitting)
      (λ k l r. r)
