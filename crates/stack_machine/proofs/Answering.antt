-- What a call asks for, and where the thread is behind it.
use Rattle.std.proofs.Common.{◌≡◌, ℕ, ◌<◌, List, [], ◌∷◌, Option, Some, None, Bool, true, refl, sym, ap, subst, arith}
use Rattle.std.specs.Prelude.{Result, Ok, Err, OnOk}
use Rattle.upc_text.specs.declared.place.Place.{Place}
use Rattle.block_layout.specs.declared.place.LocalPtr.{LocalPtr}
use Rattle.block_layout.specs.declared.kind.Kind.{Kind}
use Rattle.block_layout.specs.declared.kind.Shape.{Shape}
use Rattle.thread_steps.specs.layer.Ranges.{IsHeldScalar}
use Rattle.upc_values.specs.declared.scalar.Scalar.{Scalar}
use Rattle.upc_values.specs.declared.scalar.Value.{Value}
use Rattle.upc_values.specs.declared.scalar.Value.TheVariants as value
use Rattle.upc_values.specs.declared.action.Action.{Action}
use Rattle.upc_values.specs.declared.action.Reply.{Reply}
use Rattle.upc_values.specs.declared.action.Reply.TheVariants as reply
use Rattle.upc_values.specs.Formed.{fits}
use Rattle.upc_values.specs.Scalars.{zero}
use Rattle.upc_values.specs.Copying as said
use Rattle.upc_values.specs.Expansion.{Expansion, Gives, Fails, Reads, Asks, Loads, Stores, after_reply}
use Rattle.upc_values.specs.LibraryCalls.{gives_zero}
use Rattle.private_store.specs.Live.{Live}
use Rattle.private_store.specs.Cells.{loaded, stored}
use Rattle.thread_steps.specs.Values.{kept, scalar_of}
use Rattle.stack_code.specs.layer.Codes.{Codes}
use Rattle.stack_machine.specs.code.Bodies.{Body}
use Rattle.stack_machine.specs.code.Standing.{Stands}
use Rattle.stack_machine.specs.code.Inside.{StandsInside, FailsBy, wanted_in, with_value}
use Rattle.stack_machine.proofs.Inside.{goes_inside}
use Rattle.upc_library.specs.layer.Walks.{Source, rest_of, replies_of}
use Rattle.upc_library.specs.layer.Wishes.{IsWish, kind_read}
use Rattle.upc_library.specs.declared.copying.CopyWish.TheVariants.{Act, LoadPrivate, StorePrivate, Finished}
use Rattle.upc_values.specs.declared.refused.Refused.{Refused}
use Rattle.upc_values.specs.declared.refused.Refused.TheVariants as refused
use Rattle.upc_library.specs.layer.Wishes.{RefusesSo}
use Rattle.stack_machine.specs.declared.open_calls.Walk.{Walk}
use Rattle.stack_machine.specs.declared.open_calls.Walk.TheVariants as walk
use Rattle.stack_machine.specs.declared.wish.Halt.{Halt}
use Rattle.stack_machine.specs.declared.wish.Stop.TheVariants.{Fault}
use Rattle.stack_machine.specs.declared.progress.Progress.{Progress}
use Rattle.stack_machine.specs.layer.Machine.{listed, told_by, HasStopped}
use Rattle.stack_machine.specs.code.Calls.{IsUnfinished, WritesHeld, ActsOnly, IsNearer, replies_there, left_of}
use Rattle.stack_machine.proofs.CollectivesOf.{collective_acts}
use Rattle.stack_machine.specs.code.Walking.{IsInside, IsHalted, IsRefusal, IfGoing, body_with}

module _ (codes : Codes) (thread budget : ℕ) (given : List Reply) (at : Place) (b : Body) where
  abbrev Inside : Expansion (Unit {0}) → Live → List Reply → Type 0
  Inside x store left = StandsInside codes thread budget given left at (gives_zero x) (record b { store = store })

  pub act_goes : (x : Expansion (Unit {0})) (a : Action) (r : Reply) (store : Live) (left : List Reply)
      → IsWish x (Act a) → fits codes.threads codes.shapes (kind_read x) a r ≡ true
      → Inside x store (r ∷ left) → Inside (after_reply x r) store left
  act_goes (Reads l k go) a r store left e f s =
      (goes_inside codes thread budget).reads given left r at l k (λ v. gives_zero (go v)) (record b { store = store }) s
      (subst (λ c. fits codes.threads codes.shapes (Some k) c r ≡ true) e f)
  act_goes (Asks c go) a r store left e f s =
      (goes_inside codes thread budget).asks given left r at c (λ r. gives_zero (go r)) (record b { store = store }) s
      (subst (λ c. fits codes.threads codes.shapes None c r ≡ true) e f)
  act_goes (Gives v) a r store left e f s = absurd e
  act_goes (Fails c) a r store left e f s = absurd e
  act_goes (Loads p k go) a r store left e f s = absurd e
  act_goes (Stores p k v go) a r store left e f s = absurd e

  pub act_wants : (x : Expansion (Unit {0})) (a : Action) → IsWish x (Act a) → wanted_in (gives_zero x) ≡ Some a
  act_wants (Reads l k go) a e = ap Some (sym e)
  act_wants (Asks c go) a e = ap Some (sym e)
  act_wants (Gives v) a e = absurd e
  act_wants (Fails c) a e = absurd e
  act_wants (Loads p k go) a e = absurd e
  act_wants (Stores p k v go) a e = absurd e

  pub load_goes : (x : Expansion (Unit {0})) (p : LocalPtr) (k : Kind) (v : Value) (store : Live) (left : List Reply)
      → IsWish x (LoadPrivate p k) → loaded p k store ≡ Ok v → Inside x store left
      → Inside (after_reply x (reply.Value (scalar_of v))) store left
  load_goes (Loads q j go) p k v store left e f s =
      (goes_inside codes thread budget).loads given left at q j (λ v. gives_zero (go v)) (record b { store = store }) v s
      (subst (λ q. loaded q j store ≡ Ok v) e.0 (subst (λ j. loaded p j store ≡ Ok v) e.1 f))
  load_goes (Reads l k go) p j v store left e f s = absurd e
  load_goes (Asks c go) p k v store left e f s = absurd e
  load_goes (Gives w) p k v store left e f s = absurd e
  load_goes (Fails c) p k v store left e f s = absurd e
  load_goes (Stores q j w go) p k v store left e f s = absurd e

  pub load_fails : (x : Expansion (Unit {0})) (p : LocalPtr) (k : Kind) (code : ℕ) (store : Live)
      → IsWish x (LoadPrivate p k) → loaded p k store ≡ Err code → FailsBy code (gives_zero x) (record b { store = store })
  load_fails (Loads q j go) p k code store e f =
      subst (λ q. loaded q j store ≡ Err code) e.0 (subst (λ j. loaded p j store ≡ Err code) e.1 f)
  load_fails (Reads l k go) p j code store e f = absurd e
  load_fails (Asks c go) p k code store e f = absurd e
  load_fails (Gives w) p k code store e f = absurd e
  load_fails (Fails c) p k code store e f = absurd e
  load_fails (Stores q j w go) p k code store e f = absurd e

  pub store_goes : (x : Expansion (Unit {0})) (p : LocalPtr) (k : Kind) (v : Scalar) (store after : Live)
      (left : List Reply) → IsWish x (StorePrivate p k v) → stored p k (kept k (value.Scalar v)) store ≡ Ok after
      → Inside x store left → Inside (after_reply x reply.Done) after left
  store_goes (Stores q j w go) p k v store after left e f s =
      (goes_inside codes thread budget).stores given left at q j w (gives_zero go) (record b { store = store }) after s
      (subst (λ q. stored q j (kept j (value.Scalar w)) store ≡ Ok after) e.0
      (subst (λ j. stored p j (kept j (value.Scalar w)) store ≡ Ok after) e.1
      (subst (λ w. stored p k (kept k (value.Scalar w)) store ≡ Ok after) e.2 f)))
  store_goes (Reads l j go) p k v store after left e f s = absurd e
  store_goes (Asks c go) p k v store after left e f s = absurd e
  store_goes (Gives w) p k v store after left e f s = absurd e
  store_goes (Fails c) p k v store after left e f s = absurd e
  store_goes (Loads q j go) p k v store after left e f s = absurd e

  pub store_fails : (x : Expansion (Unit {0})) (p : LocalPtr) (k : Kind) (v : Scalar) (code : ℕ) (store : Live)
      → IsWish x (StorePrivate p k v) → stored p k (kept k (value.Scalar v)) store ≡ Err code
      → FailsBy code (gives_zero x) (record b { store = store })
  store_fails (Stores q j w go) p k v code store e f =
      subst (λ q. stored q j (kept j (value.Scalar w)) store ≡ Err code) e.0
      (subst (λ j. stored p j (kept j (value.Scalar w)) store ≡ Err code) e.1
      (subst (λ w. stored p k (kept k (value.Scalar w)) store ≡ Err code) e.2 f))
  store_fails (Reads l j go) p k v code store e f = absurd e
  store_fails (Asks c go) p k v code store e f = absurd e
  store_fails (Gives w) p k v code store e f = absurd e
  store_fails (Fails c) p k v code store e f = absurd e
  store_fails (Loads q j go) p k v code store e f = absurd e

  pub finished : (x : Expansion (Unit {0})) (store : Live) (left : List Reply) → IsWish x Finished
      → Inside x store left → Stands codes thread budget given left (with_value zero (record b { store = store }))
  finished (Gives v) store left e s =
      (goes_inside codes thread budget).gives given left at zero (record b { store = store }) s
  finished (Reads l k go) store left e s = absurd e
  finished (Asks c go) store left e s = absurd e
  finished (Fails c) store left e s = absurd e
  finished (Loads q j go) store left e s = absurd e
  finished (Stores q j w go) store left e s = absurd e

  -- It fails, and so the thread ends.
  pub fails_so : (x : Expansion (Unit {0})) (code : ℕ) (store : Live) (left : List Reply)
      → FailsBy code (gives_zero x) (record b { store = store }) → Inside x store left
      → HasStopped codes thread budget given (told_by (Fault code at)) b.ticks
  fails_so x code store left e s = record {
    by = λ f all later.
        (goes_inside codes thread budget).fails f given left later at (gives_zero x) code (record b { store = store }) all s e;
  }

-- What is not finished takes replies.
left_by : (value : Option Scalar) (dst : said.Area) (src : Source) (cells : List (ℕ × Kind))
    → IsUnfinished (rest_of value dst src cells) → 0 < replies_of value cells
left_by None dst src [] h = absurd h
left_by None dst src (c ∷ cells) h = omega arith
left_by (Some v) dst src [] h = absurd h
left_by (Some v) dst src (c ∷ cells) h = omega arith

-- An answer that takes the reply, if the call asks for actions alone, brings it nearer to its end.
pub nearer_by : (shapes : List Shape) (w : Walk) (before after : Option Reply) → IsUnfinished (left_of shapes w)
    → (ActsOnly (left_of shapes w) → replies_there after < replies_there before) → IsNearer w before after
nearer_by shapes (walk.Copying l) before after h t = left_by l.value l.dst l.src l.cells h
nearer_by shapes (walk.Collective c) before after h t = t (collective_acts shapes c)

-- A wish that is not the last one.
pub acts_on : (x : Expansion (Unit {0})) (a : Action) → IsWish x (Act a) → IsUnfinished x
acts_on (Reads l k go) a e = tt
acts_on (Asks c go) a e = tt
acts_on (Gives v) a e = absurd e
acts_on (Fails c) a e = absurd e
acts_on (Loads p k go) a e = absurd e
acts_on (Stores p k v go) a e = absurd e

pub loads_on : (x : Expansion (Unit {0})) (p : LocalPtr) (k : Kind) → IsWish x (LoadPrivate p k) → IsUnfinished x
loads_on (Loads q j go) p k e = tt
loads_on (Reads l j go) p k e = absurd e
loads_on (Asks c go) p k e = absurd e
loads_on (Gives w) p k e = absurd e
loads_on (Fails c) p k e = absurd e
loads_on (Stores q j w go) p k e = absurd e

pub stores_on : (x : Expansion (Unit {0})) (p : LocalPtr) (k : Kind) (v : Scalar) → IsWish x (StorePrivate p k v)
    → IsUnfinished x
stores_on (Stores q j w go) p k v e = tt
stores_on (Loads q j go) p k v e = absurd e
stores_on (Reads l j go) p k v e = absurd e
stores_on (Asks c go) p k v e = absurd e
stores_on (Gives w) p k v e = absurd e
stores_on (Fails c) p k v e = absurd e

-- What is written next is in range.
pub writes_next : (threads : ℕ) (shapes : List Shape) (x : Expansion (Unit {0})) (p : LocalPtr) (k : Kind) (v : Scalar)
    → IsWish x (StorePrivate p k v) → WritesHeld threads shapes x → IsHeldScalar threads shapes v
writes_next threads shapes (Stores q j w go) p k v e h = subst (IsHeldScalar threads shapes) (sym e.2) h.0
writes_next threads shapes (Loads q j go) p k v e h = absurd e
writes_next threads shapes (Reads l j go) p k v e h = absurd e
writes_next threads shapes (Asks c go) p k v e h = absurd e
writes_next threads shapes (Gives w) p k v e h = absurd e
writes_next threads shapes (Fails c) p k v e h = absurd e

-- ---- by the results of calls

module _ (codes : Codes) (thread budget : ℕ) (given : List Reply) (at : Place) (b : Body) where
  -- The reply refuses, by the code by which the call fails, whatever is left of the call then.
  pub refuses_so : (x y : Expansion (Unit {0})) (e : Refused) (halt : Halt) (p : Progress)
      → RefusesSo e x → IsRefusal e at p.ticks halt → IsInside codes thread budget given at x b p
      → IsHalted codes thread budget given at y b halt p
  refuses_so x y refused.Memory halt p h r s =
      subst (λ (e : Halt). IsHalted codes thread budget given at y b e p) (sym r) tt
  refuses_so x y (refused.Error code) halt p h r s =
      subst (λ (e : Halt). IsHalted codes thread budget given at y b e p) (sym r)
      (fails_so codes thread budget given at (body_with b p) (Fails code) code p.store (listed p.reply) refl
      (subst (λ x. IsInside codes thread budget given at x b p) h s))

-- Where a reply refuses no action is wanted.
pub refused_firm : (P : Type 0) (e : Refused) (at : Place) (n : ℕ) (halt : Halt) → IsRefusal e at n halt
    → IfGoing {A = Bool} (Err halt) P
refused_firm P refused.Memory at n halt r = subst (λ (e : Halt). IfGoing {A = Bool} (Err e) P) (sym r) tt
refused_firm P (refused.Error code) at n halt r = subst (λ (e : Halt). IfGoing {A = Bool} (Err e) P) (sym r) tt

pub taken_by : {A : Type 0} (r : Result A Halt) (a : A) (P : Type 0) → r ≡ Ok a → OnOk r P → P
taken_by {A} r a P e h = subst (λ (x : Result A Halt). OnOk x P) e h

-- The reply is taken.
pub fewer : (before after : Option Reply) (r : Reply) → after ≡ None → before ≡ Some r
    → replies_there after < replies_there before
fewer before after r e f =
    subst (λ q. replies_there q < replies_there before) (sym e)
    (subst (λ o. 0 < replies_there o) (sym f) (omega arith))
