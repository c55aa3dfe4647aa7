-- What every thread of code keeps, if each step of a thread does: instruction by instruction, and where each leads.
use Rattle.std.proofs.Common.{◌≡◌, ℕ, zero, suc, ◌+◌, pos, Bool, true, false, List, [], ◌∷◌, Option, Some, None}
use Rattle.std.proofs.Common.{refl, ℤ}
use Rattle.std.specs.Prelude.{slice_get, drop, neg_ℤ, ◌*ℤ◌}
use Rattle.std.specs.Ordering.{int_eq}
use Rattle.upc_text.specs.declared.place.Place.{Place}
use Rattle.upc_values.specs.declared.scalar.Value.{Value}
use Rattle.upc_values.specs.declared.scalar.Mark.TheVariants.{Given}
use Rattle.upc_values.specs.declared.record.ToldEnd.{ToldEnd}
use Rattle.upc_values.specs.declared.record.ToldEnd.TheVariants as told
use Rattle.block_layout.specs.declared.run_error.TheConstants.{DEPTH}
use Rattle.private_store.specs.Live.{Live, call_begun, returned}
use Rattle.thread_steps.specs.States.{Thread, State, Res, Val, Over, Unfinished, Doing, ◌>>=◌, choose}
use Rattle.thread_steps.specs.layer.Parts.{is_deep, outside}
use Rattle.thread_steps.specs.States.{skip, fault, change}
use Rattle.thread_steps.specs.Values.{number, number_of, is_zero}
use Rattle.thread_steps.specs.Accesses.{load, save}
use Rattle.thread_steps.specs.Pointers.{advance, in_row, member, difference, order, same}
use Rattle.thread_steps.specs.Operators.{operate, apply, cast}
use Rattle.thread_steps.specs.Library.{library, print}
use Rattle.thread_steps.specs.Actions.{tick, notify, wait, fence, is_controlled}
use Rattle.thread_steps.specs.Blocks.{begin_call, end_call, open_block, close_block, local_object}
use Rattle.thread_steps.specs.Blocks.{with_live, control, release, mine}
use Rattle.thread_steps.proofs.Kept as k
use Rattle.stack_code.specs.declared.instruction.CellAccess.{CellAccess}
use Rattle.stack_code.specs.declared.instruction.ValueWork.{ValueWork}
use Rattle.stack_code.specs.declared.instruction.ValueWork.TheVariants as value
use Rattle.stack_code.specs.declared.instruction.ObjectWork.{ObjectWork}
use Rattle.stack_code.specs.declared.instruction.ObjectWork.TheVariants as cell
use Rattle.stack_code.specs.declared.instruction.Jump.{Jump}
use Rattle.stack_code.specs.declared.instruction.Jump.TheVariants as jump
use Rattle.stack_code.specs.declared.instruction.CallWork.{CallWork}
use Rattle.stack_code.specs.declared.instruction.CallWork.TheVariants as call
use Rattle.stack_code.specs.declared.instruction.ThreadWork.{ThreadWork}
use Rattle.stack_code.specs.declared.instruction.ThreadWork.TheVariants as thread
use Rattle.stack_code.specs.declared.instruction.Operation.{Operation}
use Rattle.stack_code.specs.declared.instruction.Operation.TheVariants as work
use Rattle.stack_code.specs.declared.instruction.Instr.{Instr}
use Rattle.stack_code.specs.layer.Codes.{function_at}
use Rattle.stack_code.specs.layer.Steps.{Spot, Conf, At, Halt, conf_of, nowhere, top, rest, second, third, below_two}
use Rattle.stack_code.specs.layer.Steps.{int_of, youngest, Next, gives, leaves, further, back, close_blocks, pick}
use Rattle.stack_code.specs.layer.Steps.{given_back, begun, made, placed, acted, jumped, kept_in, received}
use Rattle.stack_code.specs.layer.Steps.{called as does_call, worked, act, step, steps}

-- Where the code may stand after an instruction that did not end the thread, where s ticks were counted before it and t
-- after it: further on in the function, anywhere after a tick, in a function that was begun without one, or where the
-- youngest call leads back.
pub data Goes (i : Option Instr) (here : Spot) (calls : List Spot) (s t : ℕ) (at : Spot) (left : List Spot)
    : Type 0 where
  on : (n : ℕ) (j : Instr) → i ≡ Some j → at ≡ further (n + 1) here → left ≡ calls → t ≡ s
      → Goes i here calls s t at left
  ticks : t ≡ s + 1 → Goes i here calls s t at left
  begins : (f : ℕ) (j : Instr) → i ≡ Some j → j.does ≡ work.Call (call.Begin f)
      → at ≡ record { function = f; place = 0 } → left ≡ further 1 here ∷ calls → t ≡ s
      → Goes i here calls s t at left
  returns : calls ≡ at ∷ left → t ≡ s → Goes i here calls s t at left

module _ (Good : ℕ → State → Type 0) (Fine : ToldEnd → State → Type 0) where
  -- What came of a step is good, with a number of ticks, or a fine end.
  abbrev pub On : {A : Type 0} → ℕ → Res A → Type 0
  On s (Val v υ) = Good s υ
  On s (Over e υ) = Fine e υ
  On s Unfinished = Fine told.OutOfTicks nowhere

  -- The property P, with n turns, of what a thread does makes what comes of a good state good, or a fine end.
  pub record IsRule (τ : Thread) (P : k.Property) (n : ℕ) : Type 1 where
    pub kept : k.IsKept τ P
    pub by : (A : Type 0) (m : Doing A) → ((d : ℕ) → P n d A m) → (s : ℕ) (σ : State) → Good s σ → On s (m σ)
    pub ticked : (s : ℕ) (σ : State) → Good s σ → On (s + 1) (tick τ σ)
    pub live : (f : Live → Live) (s : ℕ) (σ : State) → Good s σ → Good s (with_live f σ)
    pub faults : (code : ℕ) (at : Place) (s : ℕ) (σ : State) → Good s σ → Fine (told.Fault code at) σ
    pub ended : (v : ℤ) (s : ℕ) (σ : State) → Good s σ → Fine (told.Ended v) σ

  -- After an instruction at a spot the code stands in a good state at a spot to which it may lead, or has a fine end.
  abbrev pub Leads : Option Instr → Spot → List Spot → ℕ → Conf → Type 0
  Leads i here calls s (At at vs ws left υ) = (t : ℕ) × Good t υ × Goes i here calls s t at left
  Leads i here calls s (Halt e υ) = Fine e υ

  -- The code stands in a good state, or has a fine end.
  abbrev pub Stands : Conf → Type 0
  Stands (At at vs ws left υ) = (s : ℕ) × Good s υ
  Stands (Halt e υ) = Fine e υ

  module _ (τ : Thread) (P : k.Property) (turns : ℕ) (rule : IsRule τ P turns) where
    abbrev Keeps : (A : Type 0) → Doing A → Type 0
    Keeps A m = (d : ℕ) → P turns d A m

    -- ---- what each step of a thread keeps

    nothing : Keeps (Unit {0}) skip
    nothing d = rule.kept.basic.of_give turns d (Unit {0}) tt

    row_keeps : (count : ℕ) (at : Place) (p : Value) (i : ℤ) → Keeps (Unit {0}) (in_row count at p i)
    row_keeps count at p i d =
        k.choose_kept τ P rule.kept turns d _ skip (fault (outside p) at) (nothing d)
        (rule.kept.basic.of_over turns d (Unit {0}) (told.Fault (outside p) at) tt)

    somewhere : Place
    somewhere = record { line = 1; column = 1 }

    closes : (n : ℕ) → Keeps (Unit {0}) (close_blocks n)
    closes zero d = nothing d
    closes (suc n) d =
        k.first τ P rule.kept turns d close_block _ (k.close_kept τ P rule.kept turns d somewhere) (λ u. closes n d)

    kept_keeps : (c : Option CellAccess) (at : Place) (p v : Value) → Keeps (Unit {0}) (kept_in τ c at p v)
    kept_keeps (Some c) at p v d = k.save_kept τ P rule.kept turns d c.kind c.strict at p v
    kept_keeps None at p v d = nothing d

    receives : (at : Place) (i : ℕ) (cells : List (Option CellAccess)) (vs : List Value)
        → Keeps (Unit {0}) (received τ at i cells vs)
    receives at i [] vs d = nothing d
    receives at i (c ∷ cells) [] d = nothing d
    receives at i (c ∷ cells) (v ∷ vs) d =
        k.first τ P rule.kept turns d (local_object i) _
        (k.local_object_kept τ P rule.kept turns d i) (λ p.
        k.first τ P rule.kept turns d (kept_in τ c at p v) _ (kept_keeps c at p v d) (λ u.
        receives at (i + 1) cells vs d))

    module _ (i : Option Instr) (here : Spot) (calls : List Spot) (s : ℕ) where
      abbrev To : Conf → Type 0
      To c = Leads i here calls s c

      settles : {A : Type 0} (t : ℕ) (go : A → State → Conf) → ((v : A) (υ : State) → Good t υ → To (go v υ))
          → (r : Res A) → On t r → To (conf_of r go)
      settles t go h (Val v υ) g = h v υ g
      settles t go h (Over e υ) f = f
      settles t go h Unfinished f = f

      -- A step, and where the code stands after it.
      then_goes : {A : Type 0} (m : Doing A) (go : A → State → Conf) → Keeps A m
          → ((v : A) (υ : State) → Good s υ → To (go v υ)) → (σ : State) → Good s σ → To (conf_of (m σ) go)
      then_goes {A = A} m go keeps h σ g = settles s go h (m σ) (rule.by A m keeps s σ g)

      tick_goes : (go : State → Conf) → ((υ : State) → Good (s + 1) υ → To (go υ)) → (σ : State) → Good s σ
          → To (conf_of (tick τ σ) (λ _. go))
      tick_goes go h σ g = settles (s + 1) (λ _. go) (λ u υ x. h υ x) (tick τ σ) (rule.ticked s σ g)

      -- ---- instructions that the next one follows

      module _ (next : Next) (goes : (vs : List Value) (υ : State) → Good s υ → To (next vs υ)) where
        gives_goes : (m : Doing Value) (operands : List Value) → Keeps Value m → (σ : State) → Good s σ
            → To (gives m operands next σ)
        gives_goes m operands keeps σ g =
            then_goes m (λ v. next (v ∷ operands)) keeps (λ v υ. goes (v ∷ operands) υ) σ g

        leaves_goes : (m : Doing (Unit {0})) (operands : List Value) → Keeps (Unit {0}) m → (σ : State) → Good s σ
            → To (leaves m operands next σ)
        leaves_goes m operands keeps σ g = then_goes m (λ _. next operands) keeps (λ v υ. goes operands υ) σ g

        made_goes : (w : ValueWork) (at : Place) (operands : List Value) (σ : State) → Good s σ
            → To (made τ w at operands next σ)
        made_goes (value.Operate op left right) at operands σ g =
            gives_goes (operate op left right at (second operands) (top operands)) (below_two operands)
            (λ d. k.operate_kept τ P rule.kept turns d op left right at (second operands) (top operands)) σ g
        made_goes (value.Apply op kind) at operands σ g =
            gives_goes (apply op kind at (top operands)) (rest operands)
            (λ d. k.apply_kept τ P rule.kept turns d op kind at (top operands)) σ g
        made_goes (value.Cast into) at operands σ g =
            gives_goes (cast τ into at (top operands)) (rest operands)
            (λ d. k.cast_kept τ P rule.kept turns d into at (top operands)) σ g
        made_goes (value.Advance ε count) at operands σ g =
            gives_goes (advance τ ε at (second operands) (number_of (top operands) *ℤ pos count)) (below_two operands)
            (λ d. k.advance_kept τ P rule.kept turns d ε at (second operands) (number_of (top operands) *ℤ pos count))
            σ g
        made_goes (value.Retreat ε count) at operands σ g =
            let i = neg_ℤ (number_of (top operands)) *ℤ pos count in
            gives_goes (advance τ ε at (second operands) i) (below_two operands)
            (λ d. k.advance_kept τ P rule.kept turns d ε at (second operands) i) σ g
        made_goes (value.InRow count) at operands σ g =
            leaves_goes (in_row count at (third operands) (number_of (second operands)))
            (top operands ∷ below_two (rest operands))
            (row_keeps count at (third operands) (number_of (second operands))) σ g
        made_goes (value.Member offset) at operands σ g =
            gives_goes (member τ offset at (top operands)) (rest operands)
            (λ d. k.member_kept τ P rule.kept turns d offset at (top operands)) σ g
        made_goes (value.Difference ε) at operands σ g =
            gives_goes (difference τ ε at (second operands) (top operands)) (below_two operands)
            (λ d. k.difference_kept τ P rule.kept turns d ε at (second operands) (top operands)) σ g
        made_goes (value.Order op ε) at operands σ g =
            gives_goes (order τ op ε at (second operands) (top operands)) (below_two operands)
            (λ d. k.order_kept τ P rule.kept turns d op ε at (second operands) (top operands)) σ g
        made_goes value.Same at operands σ g =
            gives_goes (same τ (second operands) (top operands)) (below_two operands)
            (λ d. k.same_kept τ P rule.kept turns d (second operands) (top operands)) σ g

        placed_goes : (w : ObjectWork) (at : Place) (operands : List Value) (σ : State) → Good s σ
            → To (placed τ w at operands next σ)
        placed_goes (cell.Local n) at operands σ g =
            gives_goes (local_object n) operands
            (λ d. k.local_object_kept τ P rule.kept turns d n) σ g
        placed_goes (cell.Load c) at operands σ g =
            gives_goes (load τ c.kind c.strict at (top operands)) (rest operands)
            (λ d. k.load_kept τ P rule.kept turns d c.kind c.strict at (top operands)) σ g
        placed_goes (cell.Save c) at operands σ g =
            leaves_goes (save τ c.kind c.strict at (second operands) (top operands)) (top operands ∷ below_two operands)
            (λ d. k.save_kept τ P rule.kept turns d c.kind c.strict at (second operands) (top operands)) σ g
        placed_goes (cell.Enter from shapes) at operands σ g =
            leaves_goes (open_block from shapes at) operands
            (λ d. k.open_kept τ P rule.kept turns d from shapes at) σ g
        placed_goes cell.Leave at operands σ g =
            leaves_goes close_block operands
            (λ d. k.close_kept τ P rule.kept turns d at) σ g

        acted_goes : (w : ThreadWork) (at : Place) (operands : List Value) (σ : State) → Good s σ
            → To (acted τ w at operands next σ)
        acted_goes (thread.Notify mark) at operands σ g =
            leaves_goes (notify τ at mark) operands
            (λ d. k.notify_kept τ P rule.kept turns d at mark) σ g
        acted_goes (thread.Wait mark) at operands σ g =
            leaves_goes (wait τ at mark) operands
            (λ d. k.wait_kept τ P rule.kept turns d at mark) σ g
        acted_goes thread.NotifyValue at operands σ g =
            leaves_goes (notify τ at (Given (int_of (top operands)))) (rest operands)
            (λ d. k.notify_kept τ P rule.kept turns d at (Given (int_of (top operands)))) σ g
        acted_goes thread.WaitValue at operands σ g =
            leaves_goes (wait τ at (Given (int_of (top operands)))) (rest operands)
            (λ d. k.wait_kept τ P rule.kept turns d at (Given (int_of (top operands)))) σ g
        acted_goes thread.Fence at operands σ g =
            leaves_goes (fence τ) operands
            (λ d. k.fence_kept τ P rule.kept turns d) σ g
        acted_goes thread.Control at operands σ g =
            leaves_goes control operands
            (λ d. k.control_kept τ P rule.kept turns d at) σ g
        acted_goes thread.Release at operands σ g =
            leaves_goes release operands
            (λ d. k.release_kept τ P rule.kept turns d at) σ g
        acted_goes thread.Mine at operands σ g =
            gives_goes (mine τ at (top operands)) (rest operands)
            (λ d. k.mine_kept τ P rule.kept turns d at (top operands)) σ g
        acted_goes (thread.Library c shape n) at operands σ g =
            gives_goes (library τ c shape at (youngest n operands)) (drop n operands)
            (λ d. k.library_kept τ P rule.kept turns d c shape at (youngest n operands)) σ g
        acted_goes (thread.Print format n) at operands σ g =
            gives_goes (print τ format (youngest n operands)) (drop n operands)
            (λ d. k.print_kept τ P rule.kept turns d format (youngest n operands)) σ g

      -- ---- ways

      module _ (operands : List Value) (go : Spot → Next)
          (on_so : (n : ℕ) (vs : List Value) (υ : State) → Good s υ → To (go (further (n + 1) here) vs υ))
          (ticked_so : (there : Spot) (vs : List Value) (υ : State) → Good (s + 1) υ → To (go there vs υ)) where
        picked : (b : Bool) (n : ℕ) (vs : List Value) (υ : State) → Good s υ
            → To (go (pick b (further (n + 1) here) (further 1 here)) vs υ)
        picked true n vs υ g = on_so n vs υ g
        picked false n vs υ g = on_so 0 vs υ g

        jumped_goes : (w : Jump) (σ : State) → Good s σ → To (jumped τ w here operands go σ)
        jumped_goes (jump.GoOn n) σ g = on_so n operands σ g
        jumped_goes (jump.SkipIfZero n) σ g = picked (is_zero (top operands)) n (rest operands) σ g
        jumped_goes (jump.SkipIfControlled n) σ g = picked (is_controlled σ) n operands σ g
        jumped_goes (jump.Case label n) σ g =
            let equal = int_eq (number_of (top operands)) label in
            picked equal n (pick equal (rest operands) operands) σ g
        jumped_goes jump.Tick σ g = tick_goes (go (further 1 here) operands) (ticked_so (further 1 here) operands) σ g
        jumped_goes (jump.GoBack n) σ g = tick_goes (go (back n here) operands) (ticked_so (back n here) operands) σ g
        jumped_goes (jump.Exit blocks n) σ g =
            leaves_goes (go (further (n + 1) here)) (on_so n) (close_blocks blocks) operands (closes blocks) σ g

      -- ---- calls

      given_back_goes : (v : Value) (operands : List Value) (left : List Spot) → calls ≡ left → (σ : State) → Good s σ
          → To (given_back v operands left σ)
      unfolding end_call
      given_back_goes v operands [] e σ g = rule.ended (int_of v) s σ g
      given_back_goes v operands (at ∷ left) e σ g = (s, rule.live returned s σ g, returns e refl)

      module _ (t : ℕ) (go : State → Conf) (goes : (υ : State) → Good t υ → To (go υ)) where
        begun_by : (deep : Bool) (at : Place) (σ : State) → Good t σ
            → To (conf_of ((choose deep (fault DEPTH at) skip >>= (λ _. change (with_live call_begun))) σ) (λ _. go))
        begun_by true at σ g = rule.faults DEPTH at t σ g
        begun_by false at σ g = goes (with_live call_begun σ) (rule.live call_begun t σ g)

      begun_goes : (t f : ℕ) (at : Place) (vs operands : List Value) (left : List Spot)
          → Goes i here calls s t (record { function = f; place = 0 }) left → (σ : State) → Good t σ
          → To (begun f at vs operands left σ)
      unfolding begin_call
      begun_goes t f at vs operands left goes σ g =
          begun_by t (At (record { function = f; place = 0 }) vs operands left) (λ υ h. (t, h, goes)) (is_deep σ) at σ
          g

      -- ---- steps

      module _ (j : Instr) (is : i ≡ Some j) where
        goes_on : (n : ℕ) → Goes i here calls s s (further (n + 1) here) calls
        goes_on n = on n j is refl refl refl

        -- The next instruction follows.
        next_is : (vs ws : List Value) (υ : State) → Good s υ → To (At (further 1 here) vs ws calls υ)
        next_is vs ws υ g = (s, g, goes_on 0)

        called_goes : (w : CallWork) → j.does ≡ work.Call w → (at : Place) (vs operands : List Value) (σ : State)
            → Good s σ → To (does_call τ w at here vs operands calls σ)
        called_goes (call.CallTo f n) e at vs operands σ g =
            tick_goes (begun f at (youngest n operands) (drop n operands) (further 1 here ∷ calls))
            (λ υ h. begun_goes (s + 1) f at (youngest n operands) (drop n operands) (further 1 here ∷ calls) (ticks refl)
            υ h) σ g
        called_goes (call.Begin f) e at vs operands σ g =
            begun_goes s f at [] operands (further 1 here ∷ calls) (begins f j is e refl refl refl) σ g
        called_goes (call.Receive cells) e at vs operands σ g =
            leaves_goes (λ ws. At (further 1 here) [] ws calls) (next_is []) (received τ at 0 cells vs) operands
            (receives at 0 cells vs) σ g
        called_goes (call.GiveBack blocks) e at vs operands σ g =
            then_goes (close_blocks blocks) (λ _. given_back (top operands) (rest operands) calls) (closes blocks)
            (λ u υ h. given_back_goes (top operands) (rest operands) calls refl υ h) σ g
        called_goes call.Quit e at vs operands σ g = rule.ended (int_of (top operands)) s σ g

        worked_goes : (w : Operation) → j.does ≡ w → (at : Place) (vs operands : List Value) (σ : State) → Good s σ
            → To (worked τ w at here vs operands calls σ)
        worked_goes (work.Stack w) e at vs operands σ g = (s, g, goes_on 0)
        worked_goes (work.Value w) e at vs operands σ g =
            made_goes (λ ws. At (further 1 here) vs ws calls) (next_is vs) w at operands σ g
        worked_goes (work.Object w) e at vs operands σ g =
            placed_goes (λ ws. At (further 1 here) vs ws calls) (next_is vs) w at operands σ g
        worked_goes (work.Way w) e at vs operands σ g =
            jumped_goes operands (λ there ws. At there vs ws calls) (λ n ws υ h. (s, h, goes_on n))
            (λ there ws υ h. (s + 1, h, ticks refl)) w σ g
        worked_goes (work.Call w) e at vs operands σ g = called_goes w e at vs operands σ g
        worked_goes (work.Thread w) e at vs operands σ g =
            acted_goes (λ ws. At (further 1 here) vs ws calls) (next_is vs) w at operands σ g

      act_goes : (o : Option Instr) → i ≡ o → (vs operands : List Value) (σ : State) → Good s σ
          → To (act τ o here vs operands calls σ)
      act_goes (Some j) e vs operands σ g = worked_goes j e j.does refl j.place vs operands σ g
      act_goes None e vs operands σ g = given_back_goes (number (pos 0)) operands calls refl σ g

    module _ (functions : List (List Instr)) where
      -- One instruction, and where it leads.
      pub step_leads : (here : Spot) (vs operands : List Value) (calls : List Spot) (s : ℕ) (σ : State) → Good s σ
          → Leads (slice_get (function_at functions here.function) here.place) here calls s
          (step τ functions (At here vs operands calls σ))
      step_leads here vs operands calls s σ g =
          let i = slice_get (function_at functions here.function) here.place in
          act_goes i here calls s i refl vs operands σ g

      stands_on : (i : Option Instr) (here : Spot) (calls : List Spot) (s : ℕ) (c : Conf) → Leads i here calls s c
          → Stands c
      stands_on i here calls s (At at vs ws left υ) h = (h.0, h.1)
      stands_on i here calls s (Halt e υ) h = h

      -- So many instructions.
      pub steps_stand : (n : ℕ) (c : Conf) → Stands c → Stands (steps τ functions n c)
      steps_stand zero c h = h
      steps_stand (suc n) (At here vs operands calls σ) h =
          let c = step τ functions (At here vs operands calls σ) in
          steps_stand n c
          (stands_on (slice_get (function_at functions here.function) here.place) here calls h.0 c
          (step_leads here vs operands calls h.0 σ h.1))
      steps_stand (suc n) (Halt e υ) h = steps_stand n (Halt e υ) h
