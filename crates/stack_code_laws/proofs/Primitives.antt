-- Each step of a thread asks well where the values that it is given are known.
use Rattle.std.proofs.Common.{unsigned_abs, ◌≤◌, ◌^◌, ◌≡◌, ℕ, suc, ◌%◌, ◌==◌, ℤ, pos, Bool, true, false, ◌&&◌, List}
use Rattle.std.proofs.Common.{length, map, Option, Some, None, is_some, inl, inr, refl}
use Rattle.std.specs.Prelude.{Result, Ok, Err, int_le, int_lt, pred}
use Rattle.std.proofs.lemmas.Bool.{and_parts, false≢true}
use Rattle.upc_text.specs.declared.place.Place.{Place}
use Rattle.block_layout.specs.declared.kind.Kind.{Kind}
use Rattle.block_layout.specs.declared.kind.Kind.TheVariants as kind
use Rattle.block_layout.specs.declared.kind.Shape.{Shape}
use Rattle.block_layout.specs.declared.place.Loc.{Loc}
use Rattle.block_layout.specs.declared.place.SharedPtr.{SharedPtr}
use Rattle.block_layout.specs.declared.place.LocalPtr.{LocalPtr}
use Rattle.block_layout.specs.declared.place.LocalPtr.TheVariants as local
use Rattle.block_layout.specs.declared.run_error.TheConstants.{PHASE_ORDER, BARRIER_IN_FORALL, NULL_ACCESS, DEPTH}
use Rattle.block_layout.specs.declared.run_error.TheConstants.{PRIVATE_SPACE}
use Rattle.integers.specs.Integers.{converted}
use Rattle.integers.specs.Operators.{binary_of, unary_of}
use Rattle.integers.specs.declared.operator.BinOp.{BinOp}
use Rattle.integers.specs.declared.operator.UnOp.{UnOp}
use Rattle.upc_values.specs.declared.scalar.Mark.{Mark}
use Rattle.upc_values.specs.declared.scalar.Scalar.{Scalar}
use Rattle.upc_values.specs.declared.scalar.Scalar.TheVariants as scalar
use Rattle.upc_values.specs.declared.scalar.Value.{Value}
use Rattle.upc_values.specs.declared.scalar.Value.TheVariants as value
use Rattle.upc_values.specs.declared.action.Action.{Action}
use Rattle.upc_values.specs.declared.action.Action.TheVariants as act
use Rattle.upc_values.specs.declared.action.Reply.{Reply}
use Rattle.upc_values.specs.declared.action.Reply.TheVariants as reply
use Rattle.upc_values.specs.declared.record.ToldEnd.TheVariants as told
use Rattle.upc_values.specs.declared.library.LibraryCall.{LibraryCall}
use Rattle.upc_values.specs.Shapes.{fits_kind}
use Rattle.upc_values.specs.Openings.{Opening}
use Rattle.upc_values.specs.Formed.{is_pointer}
use Rattle.upc_values.specs.Expansion.{Expansion, Gives, Fails, Reads, Asks as Acts, Loads, Stores, value_in}
use Rattle.upc_values.specs.LibraryCalls.{library_call, meet_number}
use Rattle.upc_values.specs.Printing.{printed}
use Rattle.private_store.specs.Live.{Live, entered, left, call_begun, returned, controls}
use Rattle.private_store.specs.Cells.{loaded, stored}
use Rattle.thread_steps.specs.declared.cast.CastTo.{CastTo}
use Rattle.thread_steps.specs.layer.Parts as parts
use Rattle.thread_steps.specs.declared.elements.Elements.{Elements}
use Rattle.thread_steps.specs.States.{Thread, Doing, ◌>>=◌, ◌>>◌, give, skip, know, change, choose, over, fault}
use Rattle.thread_steps.specs.States.{fault_if, valued}
use Rattle.thread_steps.specs.Values.{number, number_of, truth_value, kept, kept_scalar, scalar_of}
use Rattle.thread_steps.specs.Actions as a
use Rattle.thread_steps.specs.Accesses as x
use Rattle.thread_steps.specs.Pointers as p
use Rattle.thread_steps.specs.Operators as o
use Rattle.thread_steps.specs.Blocks as b
use Rattle.thread_steps.specs.Library as l
use Rattle.stack_code_laws.specs.code.Wanted.{ReadsCell}
use Rattle.shared_pointers.specs.layer.Ranges.{IsTarget}
use Rattle.thread_steps.proofs.Conversions.{converted_in}
use Rattle.stack_code_laws.proofs.Given.{IsGround, is_number, knows, is_known, gives_known, IsCellThere, IsWellFormed}
use Rattle.stack_code_laws.proofs.Numbers.{NumberIn, near_number, near_long, converted_number, truth_number}
use Rattle.stack_code_laws.proofs.Numbers.{binary_number, unary_number}
use Rattle.stack_code_laws.proofs.Distances.{NearIn, known_near}
use Rattle.stack_code_laws.proofs.KnownValues.{runner, Known, KnownIn, kept_scalar_known, scalar_known}
use Rattle.stack_code_laws.proofs.KnownValues.{names_pointer, advanced_known, member_known, cast_known}
use Rattle.stack_code_laws.proofs.Stores as s
use Rattle.stack_code_laws.proofs.SharedCells.{reached_cell, kept_fits}
use Rattle.stack_code_laws.proofs.Doings.{Nothing, Holds, Asks, wider, then_asks, give_asks, skip_asks}
use Rattle.stack_code_laws.proofs.Doings.{fault_asks, exit_asks, valued_asks, know_asks, change_asks, store_asks}
use Rattle.stack_code_laws.proofs.Doings.{choose_asks, fault_if_asks, ask_asks}
use Rattle.stack_code_laws.proofs.Doings as d

number_holds : (r : Result ℤ ℕ) → NumberIn r → Holds (λ n. is_number n ≡ true) r
number_holds (Ok n) h = h
number_holds (Err code) h = tt

near_holds : (r : Result ℤ ℕ) → NearIn r → Holds (λ n. unsigned_abs n ≤ 2 ^ 60) r
near_holds (Ok n) h = h
near_holds (Err code) h = tt

near_numbers : (r : Result ℤ ℕ) → NearIn r → NumberIn r
near_numbers (Ok n) h = near_number n h
near_numbers (Err code) h = tt

holds_any : {A : Type 0} (r : Result A ℕ) → Holds (λ v. Unit {0}) r
holds_any (Ok v) = tt
holds_any (Err code) = tt

-- R holds of what a read reads.
module _ (op : Opening) (past : List Reply) (v : IsGround op) (R : Kind → Loc → Type 0) (me budget : ℕ) where
  abbrev τ : Thread
  τ = runner op me budget

  abbrev IsKnown : Value → Type 0
  IsKnown = Known op past

  abbrev IsKnownScalar : Scalar → Type 0
  IsKnownScalar w = is_known op past w ≡ true

  abbrev pub IsGiven : Reply → Type 0
  IsGiven r = gives_known op past r ≡ true

  abbrev IsAnswer : Option Kind → Action → Reply → Type 0
  IsAnswer k action r = d.IsAnswer op past R me budget k action r

  -- ---- actions

  module _ (P : Type 0) where
    only_asks : (action : Action) → IsWellFormed op past R None action
        → Asks op past R (Unit {0}) P Nothing (a.ask τ None action >> skip)
    only_asks action formed =
        then_asks op past R Reply (Unit {0}) P (IsAnswer None action) Nothing (a.ask τ None action) (λ r. skip)
        (ask_asks op past R me budget None action P (λ q. formed)) (λ r.
        skip_asks op past R (P × IsAnswer None action r))

    unless_asks : (at : Place) (r : Reply) → Asks op past R (Unit {0}) P Nothing (parts.unless_refused at r)
    unless_asks at reply.Done = skip_asks op past R P
    unless_asks at (reply.Value w) = skip_asks op past R P
    unless_asks at (reply.Flag f) = skip_asks op past R P
    unless_asks at (reply.Refused code) = fault_asks op past R (Unit {0}) P Nothing code at

  does_asks : (P : Type 0) (at : Place) (action : Action) → IsWellFormed op past R None action
      → Asks op past R (Unit {0}) P Nothing (a.does τ at action)
  does_asks P at action formed =
      then_asks op past R Reply (Unit {0}) P (IsAnswer None action) Nothing (a.ask τ None action)
      (λ r. parts.unless_refused at r)
      (ask_asks op past R me budget None action P (λ q. formed)) (λ r. unless_asks (P × IsAnswer None action r) at r)

  -- The one, whatever it is for, and then the other.
  on : (B P : Type 0) (W : B → Type 0) (m : Doing (Unit {0})) (k : Doing B) → Asks op past R (Unit {0}) P Nothing m
      → ((Q : Type 0) → (Q → P) → Asks op past R B Q W k) → Asks op past R B P W (m >> k)
  on B P W m k hm hk =
      then_asks op past R (Unit {0}) B P Nothing W m (λ u. k) hm (λ u. hk (P × Unit {0}) (λ q. q.0))

  pub tick_asks : (P : Type 0) → Asks op past R (Unit {0}) P Nothing (a.tick τ)
  unfolding a.tick
  tick_asks P =
      on (Unit {0}) P Nothing (change parts.with_tick) _
      (change_asks op past R P parts.with_tick (λ σ h. h) (λ σ. refl) (λ σ. refl) (λ σ r rs. refl)) (λ Q f.
      then_asks op past R ℕ (Unit {0}) Q (λ n. Unit {0}) Nothing (know parts.ticks_of) _
      (know_asks op past R ℕ Q (λ n. Unit {0}) parts.ticks_of (λ q σ g. tt) (λ σ r rs. refl)) (λ n.
      on (Unit {0}) (Q × Unit {0}) Nothing (choose (n % 1024 == 0) (do a.ask τ None act.Beat; skip) skip) _
      (choose_asks op past R (Unit {0}) (Q × Unit {0}) Nothing (n % 1024 == 0) _ _
      (only_asks (Q × Unit {0}) act.Beat tt) (skip_asks op past R (Q × Unit {0}))) (λ N g.
      choose_asks op past R (Unit {0}) N Nothing (n == budget) _ _
      (exit_asks op past R (Unit {0}) N Nothing told.OutOfTicks (λ υ later. tt)) (skip_asks op past R N))))

  pub notify_asks : (P : Type 0) (at : Place) (mark : Mark) → Asks op past R (Unit {0}) P Nothing (a.notify τ at mark)
  unfolding a.notify
  notify_asks P at mark =
      on (Unit {0}) P Nothing (fault_if a.is_controlled BARRIER_IN_FORALL at) _
      (fault_if_asks op past R P a.is_controlled BARRIER_IN_FORALL at (λ σ r rs. refl)) (λ Q f.
      on (Unit {0}) Q Nothing (fault_if parts.is_notified PHASE_ORDER at) _
      (fault_if_asks op past R Q parts.is_notified PHASE_ORDER at (λ σ r rs. refl)) (λ N g.
      on (Unit {0}) N Nothing (a.does τ at (act.Notify mark)) _
      (does_asks N at (act.Notify mark) tt) (λ S h.
      change_asks op past R S (parts.with_notified true) (λ σ h. h) (λ σ. refl) (λ σ. refl) (λ σ r rs. refl))))

  pub wait_asks : (P : Type 0) (at : Place) (mark : Mark) → Asks op past R (Unit {0}) P Nothing (a.wait τ at mark)
  unfolding a.wait
  wait_asks P at mark =
      on (Unit {0}) P Nothing (fault_if a.is_controlled BARRIER_IN_FORALL at) _
      (fault_if_asks op past R P a.is_controlled BARRIER_IN_FORALL at (λ σ r rs. refl)) (λ Q f.
      on (Unit {0}) Q Nothing (fault_if parts.is_not_notified PHASE_ORDER at) _
      (fault_if_asks op past R Q parts.is_not_notified PHASE_ORDER at (λ σ r rs. refl)) (λ N g.
      on (Unit {0}) N Nothing (a.does τ at (act.Wait mark)) _
      (does_asks N at (act.Wait mark) tt) (λ S h.
      change_asks op past R S (parts.with_notified false) (λ σ h. h) (λ σ. refl) (λ σ. refl) (λ σ r rs. refl))))

  meet_asks : (P : Type 0) (at : Place) → Asks op past R (Unit {0}) P Nothing (a.meet τ at)
  unfolding a.meet
  meet_asks P at =
      on (Unit {0}) P Nothing (fault_if a.is_controlled BARRIER_IN_FORALL at) _
      (fault_if_asks op past R P a.is_controlled BARRIER_IN_FORALL at (λ σ r rs. refl)) (λ Q f.
      fault_if_asks op past R Q parts.is_notified PHASE_ORDER at (λ σ r rs. refl))

  pub fence_asks : (P : Type 0) → Asks op past R (Unit {0}) P Nothing (a.fence τ)
  unfolding a.fence
  fence_asks P = only_asks P act.Fence tt

  leave_asks : (A P : Type 0) (V : A → Type 0) (n : ℤ) → Asks op past R A P V (a.exit τ n)
  unfolding a.exit
  leave_asks A P V n =
      then_asks op past R Reply A P (IsAnswer None (act.Exit n)) V (a.ask τ None (act.Exit n)) (λ r. over (told.Exit n))
      (ask_asks op past R me budget None (act.Exit n) P (λ q. tt)) (λ r.
      exit_asks op past R A (P × IsAnswer None (act.Exit n) r) V (told.Exit n) (λ υ later. tt))

  -- ---- accesses

  -- What a cell of a shared object holds is known, and fits its kind.
  pub record IsCellScalar (k : Kind) (w : Scalar) : Type 0 where
    pub known : IsKnownScalar w
    pub fits : fits_kind w k ≡ true

  answer_is : (k : Kind) (at : Loc) (strict : Bool) (r : Reply) → IsAnswer (Some k) (act.Read at strict) r
      → IsCellScalar k (value_in r)
  answer_is k at strict (reply.Value (scalar.Int n)) h = record { known = h.given; fits = h.fit }
  answer_is k at strict (reply.Value (scalar.Lock n)) h = record { known = h.given; fits = h.fit }
  answer_is k at strict (reply.Value (scalar.Shared q)) h = record {
    known = h.given;
    fits = (and_parts (fits_kind (scalar.Shared q) k) (is_pointer op.threads op.shapes q) h.fit).0;
  }
  answer_is k at strict reply.Done h = absurd (false≢true h.fit)
  answer_is k at strict (reply.Flag f) h = absurd (false≢true h.fit)
  answer_is k at strict (reply.Refused code) h = absurd (false≢true h.fit)

  module _ (P : Type 0) (k : Kind) where
    read_asks : (strict : Bool) (at : Loc) → (P → IsCellThere op past at k) → (P → R k at)
        → Asks op past R Scalar P (IsCellScalar k) (x.read τ k strict at)
    read_asks strict at h g =
        then_asks op past R Reply Scalar P (IsAnswer (Some k) (act.Read at strict)) (IsCellScalar k)
        (a.ask τ (Some k) (act.Read at strict)) (λ r. give (value_in r))
        (ask_asks op past R me budget (Some k) (act.Read at strict) P (λ q. (h q, g q))) (λ r.
        give_asks op past R Scalar (P × IsAnswer (Some k) (act.Read at strict) r) (IsCellScalar k) (value_in r)
        (λ q. answer_is k at strict r q.1))

    write_asks : (strict : Bool) (at : Loc) (w : Scalar) → (P → IsCellThere op past at k)
        → (P → fits_kind w k ≡ true) → (P → IsKnownScalar w)
        → Asks op past R (Unit {0}) P Nothing (parts.write τ strict at w)
    write_asks strict at w h f g =
        then_asks op past R Reply (Unit {0}) P (IsAnswer None (act.Write strict at w)) Nothing
        (a.ask τ None (act.Write strict at w)) (λ r. skip)
        (ask_asks op past R me budget None (act.Write strict at w) P (λ q. (k, h q, f q, g q)))
        (λ r. skip_asks op past R (P × IsAnswer None (act.Write strict at w) r))

    -- The location that an access reaches is a cell of that kind.
    abbrev IsCell : Loc → Type 0
    IsCell at = IsCellThere op past at k

    cell_holds : (ptr : SharedPtr) → knows op past ptr ≡ true → (r : Result Loc ℕ) → x.cell τ k ptr ≡ r → Holds IsCell r
    cell_holds ptr h (Ok at) e = reached_cell op past v me budget ptr k at h e
    cell_holds ptr h (Err code) e = tt

    located : (at : Place) (ptr : SharedPtr) → (P → knows op past ptr ≡ true)
        → Asks op past R Loc P IsCell (valued at (x.cell τ k ptr))
    located at ptr h =
        valued_asks op past R Loc P IsCell at (x.cell τ k ptr) (λ q. cell_holds ptr (h q) (x.cell τ k ptr) refl)

  load_shared_asks : (P : Type 0) (k : Kind) (strict : Bool) (at : Place) (ptr : SharedPtr)
      → (P → knows op past ptr ≡ true) → ((there : Loc) → R k there)
      → Asks op past R Value P IsKnown (x.load_shared τ k strict at ptr)
  load_shared_asks P k strict at ptr h g =
      then_asks op past R Loc Value P (IsCell P k) IsKnown (valued at (x.cell τ k ptr)) _
      (located P k at ptr h) (λ there.
      then_asks op past R Scalar Value (P × IsCell P k there) (IsCellScalar k) IsKnown (x.read τ k strict there) _
      (read_asks (P × IsCell P k there) k strict there (λ q. q.1) (λ q. g there)) (λ w.
      give_asks op past R Value ((P × IsCell P k there) × IsCellScalar k w) IsKnown (value.Scalar w) (λ q. q.1.known)))

  save_shared_asks : (P : Type 0) (k : Kind) (strict : Bool) (at : Place) (ptr : SharedPtr) (w : Value)
      → (P → knows op past ptr ≡ true) → (P → IsKnown w)
      → Asks op past R (Unit {0}) P Nothing (x.save_shared τ k strict at ptr w)
  save_shared_asks P k strict at ptr w h g =
      then_asks op past R Loc (Unit {0}) P (IsCell P k) Nothing (valued at (x.cell τ k ptr)) _
      (located P k at ptr h) (λ there.
      write_asks (P × IsCell P k there) k strict there (kept_scalar k (scalar_of w)) (λ q. q.1)
      (λ q. kept_fits op past v there k (scalar_of w) q.1)
      (λ q. kept_scalar_known op past k (scalar_of w) (scalar_known op past w (g q.0))))

  known_holds : (r : Result Value ℕ) → KnownIn op past r → Holds IsKnown r
  known_holds (Ok w) h = h
  known_holds (Err code) h = h

  module _ (P : Type 0) (k : Kind) (at : Place) (ptr : LocalPtr) where
    abbrev IsRead : Result Value ℕ → Type 0
    IsRead r = s.IsRead op past k r

    read_holds : (r : Result Value ℕ) → IsRead r → Holds (s.IsCellValue op past k) r
    read_holds (Ok w) h = h
    read_holds (Err code) h = h

    load_private_asks : Asks op past R Value P (s.IsCellValue op past k) (x.load_private k at ptr)
    load_private_asks =
        then_asks op past R (Result Value ℕ) Value P IsRead (s.IsCellValue op past k) (know (λ σ. loaded ptr k σ.store))
        (valued at)
        (know_asks op past R (Result Value ℕ) P IsRead (λ σ. loaded ptr k σ.store)
        (λ q σ g. s.loaded_is op past ptr k σ.store g.store) (λ σ r rs. refl)) (λ r.
        valued_asks op past R Value (P × IsRead r) (s.IsCellValue op past k) at r (λ q. read_holds r q.1))

    load_known_asks : Asks op past R Value P IsKnown (x.load_private k at ptr)
    load_known_asks =
        wider op past R P (s.IsCellValue op past k) IsKnown (x.load_private k at ptr) (λ w h. h.known) load_private_asks

    save_private_asks : (w : Value) → (P → IsKnown w) → Asks op past R (Unit {0}) P Nothing (x.save_private k at ptr w)
    save_private_asks w g =
        store_asks op past R P at (λ live. stored ptr k (kept k w) live)
        (λ q live h. s.stored_filled op past ptr k (kept k w) live (s.kept_is op past k w (g q)) h)

  module _ (P : Type 0) (k : Kind) (strict : Bool) (at : Place) where
    pub load_asks : (ptr : Value) → (P → IsKnown ptr) → ((there : Loc) → R k there)
        → Asks op past R Value P IsKnown (x.load τ k strict at ptr)
    unfolding x.load
    load_asks (value.Scalar (scalar.Shared q)) h g = load_shared_asks P k strict at q h g
    load_asks (value.Scalar (scalar.Int n)) h g = fault_asks op past R Value P IsKnown NULL_ACCESS at
    load_asks (value.Scalar (scalar.Lock n)) h g = fault_asks op past R Value P IsKnown NULL_ACCESS at
    load_asks (value.Local (local.Shared object thread offset)) h g =
        let q = x.into_shared object thread offset in
        load_shared_asks P k false at q (λ r. names_pointer op past q (h r)) g
    load_asks (value.Local (local.Private object offset)) h g = load_known_asks P k at (local.Private object offset)
    load_asks (value.Local local.Null) h g = load_known_asks P k at local.Null

    pub save_asks : (ptr w : Value) → (P → IsKnown ptr) → (P → IsKnown w)
        → Asks op past R (Unit {0}) P Nothing (x.save τ k strict at ptr w)
    unfolding x.save
    save_asks (value.Scalar (scalar.Shared q)) w h g = save_shared_asks P k strict at q w h g
    save_asks (value.Scalar (scalar.Int n)) w h g = fault_asks op past R (Unit {0}) P Nothing NULL_ACCESS at
    save_asks (value.Scalar (scalar.Lock n)) w h g = fault_asks op past R (Unit {0}) P Nothing NULL_ACCESS at
    save_asks (value.Local (local.Shared object thread offset)) w h g =
        let q = x.into_shared object thread offset in
        save_shared_asks P k false at q w (λ r. names_pointer op past q (h r)) g
    save_asks (value.Local (local.Private object offset)) w h g =
        save_private_asks P k at (local.Private object offset) w g
    save_asks (value.Local local.Null) w h g = save_private_asks P k at local.Null w g

  -- ---- pointers, operators and conversions

  module _ (P : Type 0) (at : Place) where
    value_asks : (r : Result Value ℕ) → (P → KnownIn op past r) → Asks op past R Value P IsKnown (valued at r)
    value_asks r h = valued_asks op past R Value P IsKnown at r (λ q. known_holds r (h q))

    -- What computes a number.
    number_asks : (r : Result ℤ ℕ) → (P → NumberIn r)
        → Asks op past R Value P IsKnown (valued at r >>= (λ n. give (number n)))
    number_asks r h =
        then_asks op past R ℤ Value P (λ n. is_number n ≡ true) IsKnown (valued at r) (λ n. give (number n))
        (valued_asks op past R ℤ P (λ n. is_number n ≡ true) at r (λ q. number_holds r (h q))) (λ n.
        give_asks op past R Value (P × (is_number n ≡ true)) IsKnown (number n) (λ q. q.1))

    pub advance_asks : (ε : Elements) (w : Value) (i : ℤ) → (P → IsKnown w)
        → Asks op past R Value P IsKnown (p.advance τ ε at w i)
    unfolding p.advance
    advance_asks ε w i h =
        value_asks (p.advanced τ ε i w) (λ q. advanced_known op past v.least me budget ε i w (h q))

    pub member_asks : (offset : ℕ) (w : Value) → (P → IsKnown w)
        → Asks op past R Value P IsKnown (p.member τ offset at w)
    unfolding p.member
    member_asks offset w h =
        value_asks (p.member_behind τ offset w) (λ q. member_known op past me budget offset w (h q))

    pub difference_asks : (ε : Elements) (w y : Value) → (P → IsTarget ε.block ε.size) → (P → IsKnown w)
        → (P → IsKnown y) → Asks op past R Value P IsKnown (p.difference τ ε at w y)
    unfolding p.difference
    difference_asks ε w y t h g =
        number_asks (p.apart τ ε w y) (λ q. near_numbers (p.apart τ ε w y)
        (known_near op past v me budget ε w y (t q) (h q) (g q)))

    pub order_asks : (operator : BinOp) (ε : Elements) (w y : Value) → (P → IsTarget ε.block ε.size) → (P → IsKnown w)
        → (P → IsKnown y) → Asks op past R Value P IsKnown (p.order τ operator ε at w y)
    unfolding p.order
    order_asks operator ε w y t h g =
        then_asks op past R ℤ Value P (λ n. unsigned_abs n ≤ 2 ^ 60) IsKnown (valued at (p.apart τ ε w y)) _
        (valued_asks op past R ℤ P (λ n. unsigned_abs n ≤ 2 ^ 60) at (p.apart τ ε w y)
        (λ q. near_holds (p.apart τ ε w y) (known_near op past v me budget ε w y (t q) (h q) (g q)))) (λ n.
        then_asks op past R ℤ Value (P × (unsigned_abs n ≤ 2 ^ 60)) (λ m. is_number m ≡ true) IsKnown
        (valued at (binary_of operator kind.Long n (pos 0))) _
        (valued_asks op past R ℤ (P × (unsigned_abs n ≤ 2 ^ 60)) (λ m. is_number m ≡ true) at
        (binary_of operator kind.Long n (pos 0))
        (λ q. number_holds (binary_of operator kind.Long n (pos 0))
        (binary_number operator kind.Long n (pos 0) (near_long n q.1)))) (λ m.
        give_asks op past R Value ((P × (unsigned_abs n ≤ 2 ^ 60)) × (is_number m ≡ true)) IsKnown (number m)
        (λ q. q.1)))

    pub same_asks : (w y : Value) → Asks op past R Value P IsKnown (p.same τ w y)
    unfolding p.same
    same_asks w y =
        give_asks op past R Value P IsKnown (truth_value (p.same_value w y)) (λ q. truth_number (p.same_value w y))

    pub in_row_asks : (count : ℕ) (w : Value) (i : ℤ) → Asks op past R (Unit {0}) P Nothing (p.in_row count at w i)
    in_row_asks count w i =
        choose_asks op past R (Unit {0}) P Nothing (int_le (pos 0) i && int_lt i (pos count)) skip
        (fault (parts.outside w) at)
        (skip_asks op past R P) (fault_asks op past R (Unit {0}) P Nothing (parts.outside w) at)

    pub operate_asks : (operator : BinOp) (left right : Kind) (w y : Value)
        → Asks op past R Value P IsKnown (o.operate operator left right at w y)
    unfolding o.operate
    operate_asks operator left right w y =
        number_asks (binary_of operator left (converted left (number_of w)) (converted right (number_of y))) (λ q.
        binary_number operator left (converted left (number_of w)) (converted right (number_of y))
        (converted_in left (number_of w)))

    pub apply_asks : (operator : UnOp) (k : Kind) (w : Value) → Asks op past R Value P IsKnown (o.apply operator k at w)
    unfolding o.apply
    apply_asks operator k w =
        number_asks (unary_of operator k (converted k (number_of w))) (λ q.
        unary_number operator k (converted k (number_of w)) (converted_in k (number_of w)))

    pub cast_asks : (into : CastTo) (w : Value) → (P → IsKnown w) → Asks op past R Value P IsKnown (o.cast τ into at w)
    unfolding o.cast
    cast_asks into w h = value_asks (o.cast_value τ into w) (λ q. cast_known op past me budget into w (h q))

    pub mine_asks : (w : Value) → Asks op past R Value P IsKnown (b.mine τ at w)
    unfolding b.mine
    mine_asks w =
        then_asks op past R Bool Value P (λ t. Unit {0}) IsKnown (valued at (b.has_turn τ w))
        (λ t. give (truth_value t))
        (valued_asks op past R Bool P (λ t. Unit {0}) at (b.has_turn τ w) (λ q. holds_any (b.has_turn τ w))) (λ t.
        give_asks op past R Value (P × Unit {0}) IsKnown (truth_value t) (λ q. truth_number t))

  -- ---- blocks and calls

  live_asks : (P : Type 0) (f : Live → Live) → ((live : Live) → s.IsFilled op past live → s.IsFilled op past (f live))
      → Asks op past R (Unit {0}) P Nothing (change (b.with_live f))
  live_asks P f h =
      change_asks op past R P (b.with_live f) (λ σ g. h σ.store g) (λ σ. refl) (λ σ. refl) (λ σ r rs. refl)

  pub open_asks : (P : Type 0) (from : ℕ) (shapes : List Shape) (at : Place)
      → Asks op past R (Unit {0}) P Nothing (b.open_block from shapes at)
  unfolding b.open_block
  open_asks P from shapes at =
      on (Unit {0}) P Nothing (fault_if (parts.is_too_large shapes) PRIVATE_SPACE at) _
      (fault_if_asks op past R P (parts.is_too_large shapes) PRIVATE_SPACE at (λ σ r rs. refl)) (λ Q f.
      live_asks Q (entered from shapes) (λ live h. s.entered_filled op past from shapes live h))

  pub close_asks : (P : Type 0) → Asks op past R (Unit {0}) P Nothing b.close_block
  unfolding b.close_block
  close_asks P = live_asks P left (λ live h. s.left_filled op past live h)

  place_known : (n : Option ℕ) → IsKnown (parts.pointer_to n)
  place_known (Some n) = refl
  place_known None = tt

  pub local_asks : (P : Type 0) (n : ℕ) → Asks op past R Value P IsKnown (b.local_object n)
  unfolding b.local_object
  local_asks P n = know_asks op past R Value P IsKnown _ (λ q σ g. place_known _) (λ σ r rs. refl)

  pub begin_asks : (P : Type 0) (at : Place) → Asks op past R (Unit {0}) P Nothing (b.begin_call at)
  unfolding b.begin_call
  begin_asks P at =
      on (Unit {0}) P Nothing (fault_if parts.is_deep DEPTH at) _
      (fault_if_asks op past R P parts.is_deep DEPTH at (λ σ r rs. refl)) (λ Q f.
      live_asks Q call_begun (λ live h. h))

  pub end_asks : (P : Type 0) → Asks op past R (Unit {0}) P Nothing b.end_call
  unfolding b.end_call
  end_asks P = live_asks P returned (λ live h. s.returned_filled op past live h)

  pub control_asks : (P : Type 0) → Asks op past R (Unit {0}) P Nothing b.control
  unfolding b.control
  control_asks P = live_asks P parts.one_more (λ live h. s.recounted_filled op past (suc (controls live)) live h)

  pub release_asks : (P : Type 0) → Asks op past R (Unit {0}) P Nothing b.release
  unfolding b.release
  release_asks P = live_asks P parts.one_less (λ live h. s.recounted_filled op past (pred (controls live)) live h)

  -- ---- the library

  -- A call of the library that goes on so asks well, where what it hears is known; its value passes.
  abbrev pub GoesWell : {A : Type 0} → (A → Type 0) → Expansion A → Type 0
  GoesWell V (Gives w) = V w
  GoesWell V (Fails code) = Unit {0}
  GoesWell V (Reads at k after) = IsCellThere op past at k × ((w : Scalar) → IsCellScalar k w → GoesWell V (after w))
  GoesWell V (Acts action after) =
      IsWellFormed op past R None action × ((r : Reply) → IsGiven r → GoesWell V (after r))
  GoesWell V (Loads ptr k after) = (w : Value) → s.IsCellValue op past k w → GoesWell V (after (scalar_of w))
  GoesWell V (Stores ptr k w after) = IsKnownScalar w × GoesWell V after

  expanded_asks : {A : Type 0} (P : Type 0) (V : A → Type 0) (at : Place) (e : Expansion A) → (P → GoesWell V e)
      → ((k : Kind) (l : Loc) → ReadsCell e k l → R k l) → Asks op past R A P V (x.expanded τ at e)
  expanded_asks {A} P V at (Gives w) h g = give_asks op past R A P V w h
  expanded_asks {A} P V at (Fails code) h g = fault_asks op past R A P V code at
  expanded_asks {A} P V at (Reads l k after) h g =
      then_asks op past R Scalar A P (IsCellScalar k) V (x.read τ k false l) _
      (read_asks P k false l (λ q. (h q).0) (λ q. g k l (inl (refl, refl)))) (λ w.
      expanded_asks (P × IsCellScalar k w) V at (after w) (λ q. (h q.0).1 w q.1) (λ j m r. g j m (inr (w, r))))
  expanded_asks {A} P V at (Acts action after) h g =
      then_asks op past R Reply A P (IsAnswer None action) V (a.ask τ None action) _
      (ask_asks op past R me budget None action P (λ q. (h q).0)) (λ r.
      expanded_asks (P × IsAnswer None action r) V at (after r) (λ q. (h q.0).1 r q.1.given) (λ j m y. g j m (r, y)))
  expanded_asks {A} P V at (Loads ptr k after) h g =
      then_asks op past R Value A P (s.IsCellValue op past k) V (x.load_private k at ptr) _
      (load_private_asks P k at ptr) (λ w.
      expanded_asks (P × s.IsCellValue op past k w) V at (after (scalar_of w)) (λ q. h q.0 w q.1) (λ j m y.
      g j m (scalar_of w, y)))
  expanded_asks {A} P V at (Stores ptr k w after) h g =
      then_asks op past R (Unit {0}) A P Nothing V (x.save_private k at ptr (value.Scalar w)) _
      (save_private_asks P k at ptr (value.Scalar w) (λ q. (h q).0)) (λ u.
      expanded_asks (P × Unit {0}) V at after (λ q. (h q.0).1) g)

  run_asks : {A : Type 0} (P : Type 0) (V : A → Type 0) (at : Place) (e : Expansion A) → (P → GoesWell V e)
      → ((k : Kind) (l : Loc) → ReadsCell e k l → R k l) → Asks op past R A P V (x.library_steps τ at e)
  unfolding x.library_steps
  run_asks P V at e h g = expanded_asks P V at e h g

  -- A call goes well whatever private objects live.
  abbrev pub CallGoesWell : LibraryCall → (shape : ℕ) → List Value → Type 0
  CallGoesWell call shape args =
      (private : ℕ → Option Shape)
      → GoesWell IsKnownScalar (library_call op.threads op.shapes me private call shape args)

  -- What a call reads with some private objects.
  abbrev pub CallReads : LibraryCall → (shape : ℕ) → List Value → Kind → Loc → Type 0
  CallReads call shape args k l =
      (private : ℕ → Option Shape) × ReadsCell (library_call op.threads op.shapes me private call shape args) k l

  module _ (call : LibraryCall) (shape : ℕ) (at : Place) (args : List Value)
      (reads : (k : Kind) (l : Loc) → CallReads call shape args k l → R k l) where
    called_asks : (P : Type 0) → (P → CallGoesWell call shape args)
        → Asks op past R Value P IsKnown (l.called_library τ call shape at args)
    called_asks P h =
        on Value P IsKnown (choose (is_some (meet_number call)) (a.meet τ at) skip) _
        (choose_asks op past R (Unit {0}) P Nothing (is_some (meet_number call)) (a.meet τ at) skip (meet_asks P at)
        (skip_asks op past R P)) (λ Q f.
        then_asks op past R (ℕ → Option Shape) Value Q (λ y. Unit {0}) IsKnown (know parts.private_shapes) _
        (know_asks op past R (ℕ → Option Shape) Q (λ y. Unit {0}) parts.private_shapes (λ q σ g. tt) (λ σ r rs. refl))
        (λ private.
        then_asks op past R Scalar Value (Q × Unit {0}) IsKnownScalar IsKnown
        (x.library_steps τ at (library_call op.threads op.shapes me private call shape args)) _
        (run_asks (Q × Unit {0}) IsKnownScalar at (library_call op.threads op.shapes me private call shape args)
        (λ q. h (f q.0) private) (λ k l r. reads k l (private, r))) (λ w.
        give_asks op past R Value ((Q × Unit {0}) × IsKnownScalar w) IsKnown (value.Scalar w) (λ q. q.1))))

    formed_asks : (P : Type 0) → (P → l.is_formed op.shapes call shape args ≡ true → CallGoesWell call shape args)
        → (b : Bool) → l.is_formed op.shapes call shape args ≡ b
        → Asks op past R Value P IsKnown (choose b (l.called_library τ call shape at args) (give (number (pos 0))))
    formed_asks P h true e = called_asks P (λ q. h q e)
    formed_asks P h false e = give_asks op past R Value P IsKnown (number (pos 0)) (λ q. refl)

    pub library_asks : (P : Type 0)
        → (P → l.is_formed op.shapes call shape args ≡ true → CallGoesWell call shape args)
        → Asks op past R Value P IsKnown (l.library τ call shape at args)
    unfolding l.library
    library_asks P h =
        choose_asks op past R Value P IsKnown (parts.is_exit call) (a.exit τ (parts.first_number args))
        (l.formed_call τ call shape at args) (leave_asks Value P IsKnown (parts.first_number args))
        (formed_asks P h (l.is_formed op.shapes call shape args) refl)

  pub print_asks : (P : Type 0) (format : List ℕ) (args : List Value)
      → Asks op past R Value P IsKnown (l.print τ format args)
  unfolding l.print
  print_asks P format args =
      let text = printed format (map number_of args) in
      then_asks op past R Reply Value P (IsAnswer None (act.Print text)) IsKnown (a.ask τ None (act.Print text)) _
      (ask_asks op past R me budget None (act.Print text) P (λ q. tt)) (λ r.
      give_asks op past R Value (P × IsAnswer None (act.Print text) r) IsKnown
      (number (converted kind.Int (pos (length text)))) (λ q. converted_number kind.Int (pos (length text))))
