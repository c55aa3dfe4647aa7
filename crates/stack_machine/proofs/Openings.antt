-- Calls of the library begin, go on and are left.
use Rattle.std.proofs.Common.{◌≡◌, ℕ, ◌+◌, ◌<◌, ◌^◌, List, [], ◌∷◌, Option, Some, None, Bool, true, false, not, ◌&&◌, ◌||◌, ◌==◌, refl, sym, ap, ◌∙◌, subst, drop, length, arith}
use Rattle.std.specs.Prelude.{Result, Ok, Err, OnOk, slice_get, is_some}
use Rattle.block_layout.specs.declared.kind.Shape.{Shape}
use Rattle.upc_text.specs.declared.place.Place.{Place}
use Rattle.upc_values.specs.declared.scalar.Scalar.{Scalar}
use Rattle.upc_values.specs.declared.scalar.Value.TheVariants as value
use Rattle.upc_values.specs.declared.action.Reply.{Reply}
use Rattle.upc_values.specs.declared.record.ToldEnd.TheVariants as told
use Rattle.upc_values.specs.Scalars.{zero}
use Rattle.upc_values.specs.Expansion.{Expansion, Fails}
use Rattle.upc_values.specs.LibraryCalls.{library_call, gives_zero}
use Rattle.thread_steps.specs.layer.Ranges.{IsHeld}
use Rattle.stack_code.specs.layer.Codes.{Codes, function_at}
use Rattle.stack_code.specs.layer.Steps.{youngest}
use Rattle.stack_machine.specs.declared.open_calls.Walk.{Walk}
use Rattle.stack_machine.specs.declared.open_calls.OpenCall.{OpenCall}
use Rattle.stack_machine.specs.declared.calls.Task.{Task}
use Rattle.stack_machine.specs.declared.memory_calls.NextCall.{NextCall}
use Rattle.stack_machine.specs.declared.progress.Progress.{Progress}
use Rattle.stack_machine.specs.declared.wish.Halt.{Halt}
use Rattle.stack_machine.specs.declared.wish.Halt.TheVariants.{Memory, Asks, Stops}
use Rattle.stack_machine.specs.declared.wish.Stop.TheVariants.{Ended, Exit, Fault, Budget}
use Rattle.stack_machine.specs.code.Bodies.{Body}
use Rattle.stack_machine.specs.code.Calls.{call_instr, left_of, on_its_way, WritesHeld, FailsSo}
use Rattle.thread_values.specs.layer.Copies.{copies, shapes_in}
use Rattle.stack_machine.specs.code.Calls.{HasLeft, UnlessWant, walks, may_meet, may_begin}
use Rattle.stack_machine.specs.code.Inside.{StandsInside, MayMeet, without}
use Rattle.stack_machine.specs.code.Kept.{HoldsHeld, IsHolding}
use Rattle.stack_machine.specs.code.Machines.{Waits}
use Rattle.stack_machine.specs.code.Standing.{Stands}
use Rattle.stack_machine.specs.code.Tasks.{task_seen}
use Rattle.stack_machine.specs.code.Walking.{IsHalted, IsOver, HasHalted, HasCome, IfGoing}
use Rattle.stack_machine.specs.layer.Machine.{listed}
use Rattle.thread_values.proofs.MemoryCalls.{copies_formed, copies_alone}
use Rattle.thread_steps.specs.Library.{is_formed}
use Rattle.thread_steps.specs.layer.Parts.{is_exit}
use Rattle.private_store.specs.Live.{controls}
use Rattle.thread_values.specs.layer.Collectives.{collective_number}
use Rattle.upc_values.specs.declared.library.LibraryCall.TheVariants as call
use Rattle.upc_values.specs.Expansions.{collective}
use Rattle.stack_machine.proofs.Entering.{enters}
use Rattle.stack_machine.proofs.Inside.{goes_inside}
use Rattle.upc_values.specs.declared.scalar.Value.{Value}
use Rattle.upc_values.specs.declared.library.LibraryCall.{LibraryCall}
use Rattle.upc_values.specs.declared.refused.Refused.{Refused}
use Rattle.upc_values.specs.declared.refused.Refused.TheVariants as refused
use Rattle.upc_library.specs.layer.Wishes.{RefusesSo, expansion}
use Rattle.upc_library.specs.declared.copying.CopySpec.{CopySpec}
use Rattle.thread_values.specs.layer.Copies.{spec_of, private_of, copying_of}
use Rattle.stack_code.specs.layer.Codes.{thread_of}
use Rattle.stack_code.specs.layer.Steps.{step}
use Rattle.stack_machine.specs.code.Bodies.{conf}
use Rattle.stack_machine.specs.code.Steps.{Advances}
use Rattle.stack_machine.specs.code.Tasks.{Remains}
use Rattle.stack_machine.specs.code.Turns.{Arrived}
use Rattle.stack_machine.specs.code.Walking.{IsRefusal}
use Rattle.stack_machine.proofs.Advancing.{on}
use Rattle.stack_machine.proofs.Halting.{stands_on, halts_so}

module _ (codes : Codes) (thread budget : ℕ) (given : List Reply) where
  module _ (b : Body) (next : NextCall)
      (there : slice_get (function_at codes.functions b.at.function) b.at.place ≡ Some (call_instr next))
      (exit : is_exit next.call ≡ false) (meets : MayMeet next.call b) where
    abbrev Formed : Type 0
    Formed = is_formed codes.shapes next.call next.shape (youngest next.arguments b.operands) ≡ true

    -- What the call does by its arguments.
    abbrev Does : Expansion Scalar
    Does = library_call codes.threads codes.shapes thread (shapes_in b.store) next.call next.shape
        (youngest next.arguments b.operands)

    entered : (left : List Reply) → Formed → Stands codes thread budget given left b
        → StandsInside codes thread budget given left next.place Does (without next.arguments b)
    entered left f s =
        enters codes thread budget given left b next.place next.call next.shape next.arguments there exit f meets s

    pub enters_so : (left : List Reply) (w : Walk) → Does ≡ gives_zero (left_of codes.shapes w) → Formed
        → Stands codes thread budget given left b
        → StandsInside codes thread budget given left next.place (gives_zero (left_of codes.shapes w))
        (without next.arguments b)
    enters_so left w e f s =
        subst (λ x. StandsInside codes thread budget given left next.place x (without next.arguments b)) e
        (entered left f s)

    pub refused_so : (left : List Reply) (e : Halt) (t : Task) → FailsSo e Does next.place b.ticks
        → UnlessWant {A = Walk} (Err e) Formed → Stands codes thread budget given left b → HasHalted codes thread budget given e None t
    refused_so left Memory t h f s = tt
    refused_so left (Asks a n) t h f s = absurd h
    refused_so left (Stops (Ended v) n) t h f s = absurd h
    refused_so left (Stops (Exit v) n) t h f s = absurd h
    refused_so left (Stops Budget n) t h f s = absurd h
    refused_so left (Stops (Fault code at) n) t h f s =
        let i = subst (λ x. StandsInside codes thread budget given left next.place x (without next.arguments b)) h.0
        (entered left f s) in
        record {
          by = λ g all later.
              let k = (goes_inside codes thread budget).fails g given left later next.place (Fails code) code
              (without next.arguments b) all i refl in
              (k.0 ∙ ap (told.Fault code) (sym h.1), k.1 ∙ sym h.2);
        }

  -- ---- where a call goes no further

  pub halted_so : (e : Halt) (c : OpenCall) (t : Task) (q : Progress)
      → IsHalted codes thread budget given c.place (left_of codes.shapes c.walk) (task_seen t) e q
      → HasHalted codes thread budget given e (Some (on_its_way c)) (record t { progress = q })
  halted_so Memory c t q h = tt
  halted_so (Asks a n) c t q h = (
    subst (λ o. StandsInside codes thread budget given (listed o) c.place (gives_zero (left_of codes.shapes c.walk))
        (task_seen (record t { progress = q }))) h.1 h.0,
    (h.2, h.3),
  )
  halted_so (Stops s n) c t q h = h

  -- ---- behind a call

  pub over_so : (at : Place) (t u : Task) (q : Progress) → IsOver codes thread budget given at (task_seen t) q
      → u ≡ record t { place = t.place + 1; operands = value.Scalar zero ∷ t.operands; progress = q }
      → Stands codes thread budget given (listed u.progress.reply) (task_seen u)
  over_so at t u q h e =
      subst (λ (x : Task). Stands codes thread budget given (listed x.progress.reply) (task_seen x)) (sym e) h

module _ (threads budget : ℕ) (shapes : List Shape) where
  -- The store alone has changed.
  pub kept_on : (t : Task) (q : Progress) → IsHolding threads shapes (task_seen t) → HoldsHeld threads shapes q.store
      → IsHolding threads shapes (task_seen (record t { progress = q }))
  kept_on t q h k = record { given = h.given; operands = h.operands; store = k }

  pub waits_on : (e : Halt) (c : OpenCall) (t : Task) (q : Progress) → IsHolding threads shapes (task_seen t)
      → HoldsHeld threads shapes q.store → q.ticks < budget → t.place + 1 < 2 ^ 64
      → IfGoing {A = Unit {0}} (Err e) (WritesHeld threads shapes (left_of shapes c.walk))
      → Waits e budget threads shapes (Some (on_its_way c)) (task_seen (record t { progress = q }))
  waits_on Memory c t q h k lt room w = tt
  waits_on (Asks a n) c t q h k lt room w = (kept_on t q h k, lt, record { held = w; room = room })
  waits_on (Stops s n) c t q h k lt room w = tt

  pub left_on : (t u : Task) (q : Progress) → IsHolding threads shapes (task_seen t) → HoldsHeld threads shapes q.store
      → q.ticks ≡ t.progress.ticks → IsHeld threads shapes (value.Scalar zero)
      → u ≡ record t { place = t.place + 1; operands = value.Scalar zero ∷ t.operands; progress = q }
      → HasLeft threads shapes (task_seen t) (task_seen u)
  left_on t u q h k e z is =
      subst (λ (x : Task). HasLeft threads shapes (task_seen t) (task_seen x)) (sym is) (record {
        held = record { given = h.given; operands = (z, h.operands); store = k };
        function = refl;
        place = refl;
        calls = refl;
        ticks = e;
      })

-- ---- how memory calls begin

-- By what is found of the program and of the arguments.
pub made_is : (n threads : ℕ) (xs shapes : List Shape) (o : Option Shape) (private : ℕ → Option Shape) (s : CopySpec)
    (c : LibraryCall) (args : List Value) → n ≡ threads → xs ≡ shapes → s ≡ spec_of c args → o ≡ private_of c s private
    → expansion n xs o s ≡ copying_of threads shapes private c args
made_is n threads xs shapes o private s c args e f g h =
    ap (λ n. expansion n xs o s) e ∙ ap (λ l. expansion threads l o s) f ∙ ap (λ o. expansion threads shapes o s) h
    ∙ ap (λ s. expansion threads shapes (private_of c s private) s) g

pub fails_as : (e : Refused) (x : Expansion (Unit {0})) (y : Expansion Scalar) (at : Place) (n : ℕ) (halt : Halt)
    → y ≡ gives_zero x → RefusesSo e x → IsRefusal e at n halt → FailsSo halt y at n
fails_as refused.Memory x y at n halt e h r = subst (λ (k : Halt). FailsSo k y at n) (sym r) tt
fails_as (refused.Error code) x y at n halt e h r =
    subst (λ (k : Halt). FailsSo k y at n) (sym r) (e ∙ ap gives_zero h, refl, refl)

-- ---- where a call may begin

or_none : (b : Bool) → (b || false) ≡ true → b ≡ true
or_none true h = refl
or_none false h = h

pub unless_so : {A : Type 0} (r : Result A Halt) (P : Type 0) → P → UnlessWant r P
unless_so (Ok w) P h = h
unless_so (Err Memory) P h = tt
unless_so (Err (Asks a n)) P h = h
unless_so (Err (Stops s n)) P h = h

both_met : (a b : Bool) → (a && not b) ≡ true → (not a ≡ false) × (b ≡ false)
both_met true false h = (refl, refl)
both_met true true h = absurd (cc)
both_met false b h = absurd (cc)

meets_if : (c : LibraryCall) (t : Task) (b : Bool) → copies c ≡ b → (b || may_meet t.progress) ≡ true
    → MayMeet c (task_seen t)
meets_if c t true e h = record {
  controlled = λ m. absurd (copies_alone c e m);
  notified = λ m. absurd (copies_alone c e m);
}
meets_if c t false e h =
    let k = both_met (controls t.progress.store == 0) t.progress.notified h in
    record { controlled = λ m. k.0; notified = λ m. k.1 }

pub walks_no_exit : (c : LibraryCall) → walks c ≡ true → is_exit c ≡ false
walks_no_exit call.GlobalExit h = absurd (cc)
walks_no_exit c h = refl

-- A call that asks for many actions and is no collective one is a memory call.
pub copies_else : (c : LibraryCall) → walks c ≡ true → collective_number c ≡ None → copies c ≡ true
copies_else c h e = or_none (copies c) (subst (λ (o : Option ℕ). (copies c || is_some o) ≡ true) e h)

pub copied_formed : (shapes : List Shape) (shape : ℕ) (args : List Value) (c : LibraryCall) (r : Result Walk Halt)
    → copies c ≡ true → UnlessWant r (is_formed shapes c shape args ≡ true)
copied_formed shapes shape args c r h = unless_so r _ (copies_formed shapes shape args c h)

pub meets_by : (c : LibraryCall) (b : Bool) (p : Progress) → b ≡ may_begin c p → b ≡ true → (t : Task)
    → t.progress ≡ p → MayMeet c (task_seen t)
meets_by c b p e h t f =
    meets_if c t (copies c) refl (ap (λ (q : Progress). may_begin c q) f ∙ sym e ∙ h)

-- By what is found of the threads and of the arguments.
pub collective_is : (n threads : ℕ) (shapes : List Shape) (me k : ℕ) (xs ys : List Scalar) → n ≡ threads → xs ≡ ys
    → collective n shapes me k xs ≡ collective threads shapes me k ys
collective_is n threads shapes me k xs ys e f =
    ap (λ n. collective n shapes me k xs) e ∙ ap (λ l. collective threads shapes me k l) f

-- ---- what comes next

module _ (codes : Codes) (thread budget : ℕ) where
  pub stepped_so : (r : Result (Unit {0}) Halt) (t u : Task) (given : List Reply)
      → Arrived [] (step (thread_of codes thread budget) codes.functions
      (conf (task_seen t) [] (listed t.progress.reply))) r t.progress u.progress (task_seen u)
      → Remains r t u → OnOk r (Advances codes budget (task_seen t) (task_seen u))
      → Stands codes thread budget given (listed t.progress.reply) (task_seen t)
      → HasCome codes thread budget given r None u
  stepped_so (Ok v) t u given h k a s = stands_on codes thread budget t u given h a.in_time s
  stepped_so (Err e) t u given h k a s = halts_so codes thread budget e t u h k given s

  -- A call that has given its value has led on.
  pub left_ahead : (t u : Task) (n : ℕ) → t.progress.ticks < budget
      → t.place + 1 < length (function_at codes.functions t.function)
      → HasLeft codes.threads codes.shapes (task_seen (record t { operands = drop n t.operands })) (task_seen u)
      → Advances codes budget (task_seen t) (task_seen u)
  left_ahead t u n lt l h =
      on codes budget (task_seen t) (task_seen u) h.held lt h.ticks h.calls h.function
      (let p : u.place ≡ t.place + 1 = h.place in omega arith) (omega arith)
