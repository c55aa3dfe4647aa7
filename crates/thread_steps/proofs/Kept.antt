-- What every operation of a thread keeps, if the few from which they are made do.
use Rattle.std.proofs.Common.{◌≡◌, ℕ, suc, ◌%◌, ◌<◌, ◌≤◌, ◌==◌, ℤ, pos, List, Option, Some}
use Rattle.std.proofs.Common.{None, Bool, true, false, refl}
use Rattle.std.specs.Prelude.{Result, Ok, Err, pred, is_some}
use Rattle.upc_text.specs.declared.place.Place.{Place}
use Rattle.block_layout.specs.declared.kind.Kind.{Kind}
use Rattle.block_layout.specs.declared.kind.Shape.{Shape}
use Rattle.block_layout.specs.declared.run_error.TheConstants.{PHASE_ORDER, BARRIER_IN_FORALL}
use Rattle.block_layout.specs.declared.run_error.TheConstants.{PRIVATE_SPACE}
use Rattle.block_layout.specs.declared.place.SharedPtr.{SharedPtr}
use Rattle.block_layout.specs.declared.place.LocalPtr.{LocalPtr}
use Rattle.block_layout.specs.declared.place.LocalPtr.TheVariants as local
use Rattle.integers.specs.declared.operator.BinOp.{BinOp}
use Rattle.integers.specs.declared.operator.UnOp.{UnOp}
use Rattle.upc_values.specs.declared.scalar.Scalar.{Scalar}
use Rattle.upc_values.specs.declared.scalar.Scalar.TheVariants as scalar
use Rattle.upc_values.specs.declared.scalar.Value.{Value}
use Rattle.upc_values.specs.declared.scalar.Value.TheVariants as value
use Rattle.upc_values.specs.declared.scalar.Mark.{Mark}
use Rattle.upc_values.specs.declared.action.Action.{Action}
use Rattle.upc_values.specs.declared.action.Action.TheVariants as act
use Rattle.upc_values.specs.declared.action.Reply.{Reply}
use Rattle.upc_values.specs.declared.action.Reply.TheVariants as reply
use Rattle.upc_values.specs.declared.record.ToldEnd.{ToldEnd}
use Rattle.upc_values.specs.declared.record.ToldEnd.TheVariants as told
use Rattle.upc_values.specs.declared.library.LibraryCall.{LibraryCall}
use Rattle.upc_values.specs.LibraryCalls.{library_call, meet_number}
use Rattle.upc_values.specs.Expansion.{Expansion, Gives, Fails, Reads, Asks, Loads, Stores}
use Rattle.private_store.specs.Live.{Live, entered, left, controls}
use Rattle.private_store.specs.Cells.{loaded, stored}
use Rattle.thread_steps.specs.declared.cast.CastTo.{CastTo}
use Rattle.thread_steps.specs.layer.Parts as parts
use Rattle.thread_steps.specs.declared.elements.Elements.{Elements}
use Rattle.thread_steps.specs.States.{Thread, State, Res, Doing, ◌>>=◌, ◌>>◌, give, skip, know, change, choose}
use Rattle.thread_steps.specs.States.{over, fault, fault_if, valued, Unfinished}
use Rattle.thread_steps.specs.Values.{number, kept, kept_scalar, scalar_of}
use Rattle.thread_steps.specs.Actions as a
use Rattle.thread_steps.specs.Accesses as x
use Rattle.thread_steps.specs.Pointers as p
use Rattle.thread_steps.specs.Operators as o
use Rattle.thread_steps.specs.Blocks as b
use Rattle.thread_steps.specs.Library as l
use Rattle.thread_steps.proofs.Depths.{SameDepth, stored_depth, left_depth, recounted_depth}

-- What it says of a state has nothing to do with the actions and the replies.
abbrev pub Ignores : {A : Type 0} → (State → A) → Type 0
Ignores f = (σ : State) (actions : List Action) (replies : List Reply) → f
    (record σ { actions = actions; replies = replies }) ≡ f σ

-- An end that a thread reaches by what it does: a run error, or an exit.
abbrev pub IsOwn : ToldEnd → Type 0
IsOwn (told.Fault code at) = Unit {0}
IsOwn (told.Exit v) = Unit {0}
IsOwn e = ⊥

-- A property of what is done where so many calls are active, with so many turns for each loop.
abbrev pub Property : Type 1
Property = (n d : ℕ) (A : Type 0) → Doing A → Type 0

-- An action that any operation may ask for; a notify, a wait and a Beat have operations of their own.
abbrev pub IsPlain : Action → Type 0
IsPlain (act.Notify mark) = ⊥
IsPlain (act.Wait mark) = ⊥
IsPlain act.Beat = ⊥
IsPlain action = Unit {0}

-- The property is kept by what asks for no action.
pub record IsBasic (P : Property) : Type 1 where
  pub of_give : (n d : ℕ) (A : Type 0) (v : A) → P n d A (give v)
  pub of_over : (n d : ℕ) (A : Type 0) (e : ToldEnd) → IsOwn e → P n d A (over e)
  pub of_know : (n d : ℕ) (A : Type 0) (f : State → A) → Ignores f → P n d A (know f)
  pub of_bind : (n d : ℕ) (A B : Type 0) (m : Doing A) (f : A → Doing B) → P n d A m → ((v : A) → P n d B (f v))
      → P n d B (m >>= f)
  pub of_store : (n d : ℕ) (at : Place) (f : Live → Result Live ℕ) → ((s : Live) → SameDepth s (f s))
      → P n d (Unit {0}) (λ σ. parts.with_store at σ (f σ.store))

module _ (P : Property) (H : IsBasic P) (n d : ℕ) where
  basic_first : {A B : Type 0} (m : Doing A) (f : A → Doing B) → P n d A m → ((v : A) → P n d B (f v))
      → P n d B (m >>= f)
  basic_first {A = A} {B = B} m f pm pf = H.of_bind n d A B m f pm pf

  pub basic_choose_kept : {A : Type 0} (test : Bool) (m k : Doing A) → P n d A m → P n d A k → P n d A (choose test m k)
  basic_choose_kept true m k pm pk = pm
  basic_choose_kept false m k pm pk = pk

  basic_skip_kept : P n d (Unit {0}) skip
  basic_skip_kept = H.of_give n d (Unit {0}) tt

  pub basic_fault_if_kept : (test : State → Bool) (code : ℕ) (at : Place) → Ignores test
      → P n d (Unit {0}) (fault_if test code at)
  basic_fault_if_kept test code at ig =
      basic_first (know test) (λ v. choose v (fault code at) skip) (H.of_know n d Bool test ig) (λ v.
      basic_choose_kept v (fault code at) skip (H.of_over n d (Unit {0}) (told.Fault code at) tt) basic_skip_kept)

  basic_valued_kept : {A : Type 0} (at : Place) (r : Result A ℕ) → P n d A (valued at r)
  basic_valued_kept {A = A} at (Ok v) = H.of_give n d A v
  basic_valued_kept {A = A} at (Err code) = H.of_over n d A (told.Fault code at) tt

  pub basic_unless_refused_kept : (at : Place) (r : Reply) → P n d (Unit {0}) (parts.unless_refused at r)
  basic_unless_refused_kept at reply.Done = basic_skip_kept
  basic_unless_refused_kept at (reply.Value v) = basic_skip_kept
  basic_unless_refused_kept at (reply.Flag v) = basic_skip_kept
  basic_unless_refused_kept at (reply.Refused code) = H.of_over n d (Unit {0}) (told.Fault code at) tt

  pub basic_load_private_kept : (kind : Kind) (at : Place) (q : LocalPtr) → P n d Value (x.load_private kind at q)
  basic_load_private_kept kind at q =
      basic_first (know (λ σ. loaded q kind σ.store)) (valued at)
      (H.of_know n d (Result Value ℕ) (λ σ. loaded q kind σ.store) (λ σ as_ rs. refl)) (λ r.
      basic_valued_kept at r)

  pub basic_save_private_kept : (kind : Kind) (at : Place) (q : LocalPtr) (v : Value)
      → P n d (Unit {0}) (x.save_private kind at q v)
  basic_save_private_kept kind at q v = H.of_store n d at (λ s. stored q kind (kept kind v) s)
      (λ s. stored_depth q kind (kept kind v) s)

-- The property is kept by what asks for any action, too.
pub record IsAsking (τ : Thread) (P : Property) : Type 1 where
  pub basic : IsBasic P
  pub of_ask : (n d : ℕ) (kind : Option Kind) (action : Action) → P n d Reply (a.ask τ kind action)
  pub of_notified : (n d : ℕ) (v : Bool) → P n d (Unit {0}) (λ σ. Res.Val tt (parts.with_notified v σ))

module _ (τ : Thread) (P : Property) (K : IsAsking τ P) (n d : ℕ) where
  asked_first : {A B : Type 0} (m : Doing A) (f : A → Doing B) → P n d A m → ((v : A) → P n d B (f v))
      → P n d B (m >>= f)
  asked_first m f pm pf = basic_first P K.basic n d m f pm pf

  asked_choose_kept : {A : Type 0} (test : Bool) (m k : Doing A) → P n d A m → P n d A k → P n d A (choose test m k)
  asked_choose_kept test m k pm pk = basic_choose_kept P K.basic n d test m k pm pk

  asked_skip_kept : P n d (Unit {0}) skip
  asked_skip_kept = basic_skip_kept P K.basic n d

  asked_fault_if_kept : (test : State → Bool) (code : ℕ) (at : Place) → Ignores test
      → P n d (Unit {0}) (fault_if test code at)
  asked_fault_if_kept test code at ig = basic_fault_if_kept P K.basic n d test code at ig

  asked_load_private_kept : (kind : Kind) (at : Place) (q : LocalPtr) → P n d Value (x.load_private kind at q)
  asked_load_private_kept kind at q = basic_load_private_kept P K.basic n d kind at q

  asked_save_private_kept : (kind : Kind) (at : Place) (q : LocalPtr) (v : Value)
      → P n d (Unit {0}) (x.save_private kind at q v)
  asked_save_private_kept kind at q v = basic_save_private_kept P K.basic n d kind at q v

  asked_unless_refused_kept : (at : Place) (r : Reply) → P n d (Unit {0}) (parts.unless_refused at r)
  asked_unless_refused_kept at r = basic_unless_refused_kept P K.basic n d at r

  asked_does_kept : (at : Place) (action : Action) → P n d (Unit {0}) (a.does τ at action)
  asked_does_kept at action = asked_first (a.ask τ None action) _ (K.of_ask n d None action)
      (λ r. asked_unless_refused_kept at r)

  pub asked_notify_kept : (at : Place) (mark : Mark) → P n d (Unit {0}) (a.notify τ at mark)
  unfolding a.notify
  asked_notify_kept at mark =
      asked_first (fault_if a.is_controlled BARRIER_IN_FORALL at) _
      (asked_fault_if_kept a.is_controlled BARRIER_IN_FORALL at (λ σ as_ rs. refl)) (λ u.
      asked_first (fault_if parts.is_notified PHASE_ORDER at) _ (asked_fault_if_kept parts.is_notified PHASE_ORDER at
      (λ σ as_ rs. refl)) (λ v.
      asked_first (a.does τ at (act.Notify mark)) _ (asked_does_kept at (act.Notify mark)) (λ w.
      K.of_notified n d true)))

  pub asked_wait_kept : (at : Place) (mark : Mark) → P n d (Unit {0}) (a.wait τ at mark)
  unfolding a.wait
  asked_wait_kept at mark =
      asked_first (fault_if a.is_controlled BARRIER_IN_FORALL at) _
      (asked_fault_if_kept a.is_controlled BARRIER_IN_FORALL at (λ σ as_ rs. refl)) (λ u.
      asked_first (fault_if parts.is_not_notified PHASE_ORDER at) _
      (asked_fault_if_kept parts.is_not_notified PHASE_ORDER at (λ σ as_ rs. refl)) (λ v.
      asked_first (a.does τ at (act.Wait mark)) _ (asked_does_kept at (act.Wait mark)) (λ w.
      K.of_notified n d false)))

  asked_meet_kept : (at : Place) → P n d (Unit {0}) (a.meet τ at)
  unfolding a.meet
  asked_meet_kept at =
      asked_first (fault_if a.is_controlled BARRIER_IN_FORALL at) _
      (asked_fault_if_kept a.is_controlled BARRIER_IN_FORALL at (λ σ as_ rs. refl)) (λ u.
      asked_fault_if_kept parts.is_notified PHASE_ORDER at (λ σ as_ rs. refl))

  asked_expanded_kept : {A : Type 0} (at : Place) (e : Expansion A) → P n d A (x.expanded τ at e)
  asked_expanded_kept {A = A} at (Gives v) = K.basic.of_give n d A v
  asked_expanded_kept {A = A} at (Fails code) = K.basic.of_over n d A _ tt
  asked_expanded_kept at (Reads l kind after) =
      asked_first (x.read τ kind false l) _
      (asked_first (a.ask τ (Some kind) (act.Read l false)) _ (K.of_ask n d (Some kind) (act.Read l false))
      (λ r. K.basic.of_give n d Scalar _)) (λ v.
      asked_expanded_kept at (after v))
  asked_expanded_kept at (Asks action after) = asked_first (a.ask τ None action) _ (K.of_ask n d None action)
      (λ r. asked_expanded_kept at (after r))
  asked_expanded_kept at (Loads q kind after) = asked_first (x.load_private kind at q) _
      (asked_load_private_kept kind at q)
      (λ v. asked_expanded_kept at (after (scalar_of v)))
  asked_expanded_kept at (Stores q kind v after) =
      asked_first (x.save_private kind at q (value.Scalar v)) _ (asked_save_private_kept kind at q (value.Scalar v))
      (λ u. asked_expanded_kept at after)

  asked_run_kept : {A : Type 0} (at : Place) (e : Expansion A) → P n d A (x.library_steps τ at e)
  unfolding x.library_steps
  asked_run_kept at e = asked_expanded_kept at e

  asked_meeting_kept : (at : Place) (call : LibraryCall)
      → P n d (Unit {0}) (choose (is_some (meet_number call)) (a.meet τ at) skip)
  asked_meeting_kept at call = asked_choose_kept (is_some (meet_number call)) (a.meet τ at) skip
      (asked_meet_kept at) asked_skip_kept

  pub asked_called_kept : (call : LibraryCall) (shape : ℕ) (at : Place) (args : List Value)
      → P n d Value (l.called_library τ call shape at args)
  asked_called_kept call shape at args =
      asked_first (choose (is_some (meet_number call)) (a.meet τ at) skip) _ (asked_meeting_kept at call) (λ u.
      asked_first (know parts.private_shapes) _ (K.basic.of_know n d (ℕ → Option Shape) parts.private_shapes
      (λ σ as_ rs. refl)) (λ private.
      asked_first (x.library_steps τ at (library_call τ.threads τ.shapes τ.number private call shape args)) _
      (asked_run_kept at (library_call τ.threads τ.shapes τ.number private call shape args))
      (λ v. K.basic.of_give n d Value (value.Scalar v))))

  -- A tick, if the count of ticks and their end do.
  pub asked_tick_kept : P n d (Unit {0}) (change parts.with_tick) → P n d (Unit {0}) (over told.OutOfTicks)
      → P n d (Unit {0}) (a.tick τ)
  unfolding a.tick
  asked_tick_kept counts ends =
      asked_first (change parts.with_tick) _ counts (λ u.
      asked_first (know parts.ticks_of) _ (K.basic.of_know n d ℕ parts.ticks_of (λ σ as_ rs. refl)) (λ count.
      asked_first (choose (count % 1024 == 0) (a.ask τ None act.Beat >> skip) skip) _
      (asked_choose_kept (count % 1024 == 0) (a.ask τ None act.Beat >> skip) skip
      (asked_first (a.ask τ None act.Beat) _ (K.of_ask n d None act.Beat) (λ r. asked_skip_kept)) asked_skip_kept) (λ v.
      asked_choose_kept (count == τ.budget) (over told.OutOfTicks) skip ends asked_skip_kept)))

-- The property is kept by every operation of a thread.
pub record IsKept (τ : Thread) (P : Property) : Type 1 where
  pub basic : IsBasic P
  pub of_fewer : (k n d : ℕ) (A : Type 0) (m : Doing A) → k ≤ n → P n d A m → P k d A m
  pub of_unfinished : (d : ℕ) (A : Type 0) → P 0 d A (λ _. Unfinished)
  pub of_ask : (n d : ℕ) (kind : Option Kind) (action : Action) → IsPlain action → P n d Reply (a.ask τ kind action)
  pub of_notify : (n d : ℕ) (at : Place) (mark : Mark) → P n d (Unit {0}) (a.notify τ at mark)
  pub of_wait : (n d : ℕ) (at : Place) (mark : Mark) → P n d (Unit {0}) (a.wait τ at mark)
  pub of_called : (n d : ℕ) (call : LibraryCall) (shape : ℕ) (at : Place) (args : List Value)
      → P n d Value (l.called_library τ call shape at args)
  pub of_tick : (n d : ℕ) → P n d (Unit {0}) (a.tick τ)
  pub of_turn : (n d : ℕ) (A : Type 0) (m : Doing A) → P n d A m → P (suc n) d A (a.tick τ >> m)
  pub of_call : (n d : ℕ) (A : Type 0) (at : Place) (m : Doing A) → (d < 1000 → P n (suc d) A m)
      → P n d A (b.begin_call at >> (m >>= (λ v. b.end_call >> give v)))

module _ (τ : Thread) (P : Property) (K : IsKept τ P) (n d : ℕ) where
  pub first : {A B : Type 0} (m : Doing A) (f : A → Doing B) → P n d A m → ((v : A) → P n d B (f v)) → P n d B (m >>= f)
  first m f pm pf = basic_first P K.basic n d m f pm pf

  pub choose_kept : {A : Type 0} (test : Bool) (m k : Doing A) → P n d A m → P n d A k → P n d A (choose test m k)
  choose_kept test m k pm pk = basic_choose_kept P K.basic n d test m k pm pk

  skip_kept : P n d (Unit {0}) skip
  skip_kept = basic_skip_kept P K.basic n d

  fault_if_kept : (test : State → Bool) (code : ℕ) (at : Place) → Ignores test
      → P n d (Unit {0}) (fault_if test code at)
  fault_if_kept test code at ig = basic_fault_if_kept P K.basic n d test code at ig

  load_private_kept : (kind : Kind) (at : Place) (q : LocalPtr) → P n d Value (x.load_private kind at q)
  load_private_kept kind at q = basic_load_private_kept P K.basic n d kind at q

  save_private_kept : (kind : Kind) (at : Place) (q : LocalPtr) (v : Value)
      → P n d (Unit {0}) (x.save_private kind at q v)
  save_private_kept kind at q v = basic_save_private_kept P K.basic n d kind at q v

  valued_kept : {A : Type 0} (at : Place) (r : Result A ℕ) → P n d A (valued at r)
  valued_kept at r = basic_valued_kept P K.basic n d at r

  ask_only : (action : Action) → IsPlain action → P n d (Unit {0}) (a.ask τ None action >> skip)
  ask_only action plain = first (a.ask τ None action) _ (K.of_ask n d None action plain) (λ r. skip_kept)

  pub notify_kept : (at : Place) (mark : Mark) → P n d (Unit {0}) (a.notify τ at mark)
  notify_kept at mark = K.of_notify n d at mark

  pub wait_kept : (at : Place) (mark : Mark) → P n d (Unit {0}) (a.wait τ at mark)
  wait_kept at mark = K.of_wait n d at mark

  pub fence_kept : P n d (Unit {0}) (a.fence τ)
  unfolding a.fence
  fence_kept = ask_only act.Fence tt

  pub exit_kept : {A : Type 0} (v : ℤ) → P n d A (a.exit τ {A = A} v)
  unfolding a.exit
  exit_kept {A = A} v =
      first (a.ask τ None (act.Exit v)) _ (K.of_ask n d None (act.Exit v) tt)
      (λ r. K.basic.of_over n d A (told.Exit v) tt)

  load_shared_kept : (kind : Kind) (strict : Bool) (at : Place) (q : SharedPtr)
      → P n d Value (x.load_shared τ kind strict at q)
  load_shared_kept kind strict at q =
      first (valued at (x.cell τ kind q)) _ (valued_kept at (x.cell τ kind q)) (λ l.
      first (x.read τ kind strict l) _
      (first (a.ask τ (Some kind) (act.Read l strict)) _ (K.of_ask n d (Some kind) (act.Read l strict) tt)
      (λ r. K.basic.of_give n d Scalar _)) (λ v.
      K.basic.of_give n d Value (value.Scalar v)))

  save_shared_kept : (kind : Kind) (strict : Bool) (at : Place) (q : SharedPtr) (v : Value)
      → P n d (Unit {0}) (x.save_shared τ kind strict at q v)
  save_shared_kept kind strict at q v =
      first (valued at (x.cell τ kind q)) _ (valued_kept at (x.cell τ kind q)) (λ l.
      ask_only (act.Write strict l (kept_scalar kind (scalar_of v))) tt)

  pub load_kept : (kind : Kind) (strict : Bool) (at : Place) (q : Value) → P n d Value (x.load τ kind strict at q)
  unfolding x.load
  load_kept kind strict at (value.Scalar (scalar.Shared q)) = load_shared_kept kind strict at q
  load_kept kind strict at (value.Scalar (scalar.Int v)) = K.basic.of_over n d Value _ tt
  load_kept kind strict at (value.Scalar (scalar.Lock v)) = K.basic.of_over n d Value _ tt
  load_kept kind strict at (value.Local (local.Shared object thread offset)) = load_shared_kept kind false at
      (x.into_shared object thread offset)
  load_kept kind strict at (value.Local (local.Private object offset)) = load_private_kept kind at
      (local.Private object offset)
  load_kept kind strict at (value.Local local.Null) = load_private_kept kind at local.Null

  pub save_kept : (kind : Kind) (strict : Bool) (at : Place) (q v : Value)
      → P n d (Unit {0}) (x.save τ kind strict at q v)
  unfolding x.save
  save_kept kind strict at (value.Scalar (scalar.Shared q)) v = save_shared_kept kind strict at q v
  save_kept kind strict at (value.Scalar (scalar.Int w)) v = K.basic.of_over n d (Unit {0}) _ tt
  save_kept kind strict at (value.Scalar (scalar.Lock w)) v = K.basic.of_over n d (Unit {0}) _ tt
  save_kept kind strict at (value.Local (local.Shared object thread offset)) v = save_shared_kept kind false at
      (x.into_shared object thread offset) v
  save_kept kind strict at (value.Local (local.Private object offset)) v = save_private_kept kind at
      (local.Private object offset) v
  save_kept kind strict at (value.Local local.Null) v = save_private_kept kind at local.Null v

  -- ---- pointers, operators and casts

  pub advance_kept : (ε : Elements) (at : Place) (q : Value) (i : ℤ) → P n d Value (p.advance τ ε at q i)
  unfolding p.advance
  advance_kept ε at q i = valued_kept at _

  pub member_kept : (offset : ℕ) (at : Place) (q : Value) → P n d Value (p.member τ offset at q)
  unfolding p.member
  member_kept offset at q = valued_kept at _

  pub difference_kept : (ε : Elements) (at : Place) (q r : Value) → P n d Value (p.difference τ ε at q r)
  unfolding p.difference
  difference_kept ε at q r = first (valued at (p.apart τ ε q r)) _ (valued_kept at (p.apart τ ε q r))
      (λ v. K.basic.of_give n d Value _)

  pub order_kept : (op : BinOp) (ε : Elements) (at : Place) (q r : Value) → P n d Value (p.order τ op ε at q r)
  unfolding p.order
  order_kept op ε at q r =
      first (valued at (p.apart τ ε q r)) _ (valued_kept at (p.apart τ ε q r)) (λ v.
      first (valued at _) _ (valued_kept at _) (λ w. K.basic.of_give n d Value _))

  pub same_kept : (q r : Value) → P n d Value (p.same τ q r)
  unfolding p.same
  same_kept q r = K.basic.of_give n d Value _

  pub operate_kept : (op : BinOp) (left right : Kind) (at : Place) (q r : Value)
      → P n d Value (o.operate op left right at q r)
  unfolding o.operate
  operate_kept op left right at q r = first (valued at _) _ (valued_kept at _) (λ v. K.basic.of_give n d Value _)

  pub apply_kept : (op : UnOp) (kind : Kind) (at : Place) (q : Value) → P n d Value (o.apply op kind at q)
  unfolding o.apply
  apply_kept op kind at q = first (valued at _) _ (valued_kept at _) (λ v. K.basic.of_give n d Value _)

  pub cast_kept : (into : CastTo) (at : Place) (q : Value) → P n d Value (o.cast τ into at q)
  unfolding o.cast
  cast_kept into at q = valued_kept at _

  -- ---- blocks, and the bodies of upc_foralls

  pub open_kept : (from : ℕ) (shapes : List Shape) (at : Place) → P n d (Unit {0}) (b.open_block from shapes at)
  unfolding b.open_block
  open_kept from shapes at =
      first (fault_if (parts.is_too_large shapes) PRIVATE_SPACE at) _
      (fault_if_kept (parts.is_too_large shapes) PRIVATE_SPACE at (λ σ as_ rs. refl)) (λ u.
      K.basic.of_store n d at (λ s. Ok (entered from shapes s)) (λ s. refl))

  pub close_kept : (at : Place) → P n d (Unit {0}) b.close_block
  unfolding b.close_block
  close_kept at = K.basic.of_store n d at (λ s. Ok (left s)) (λ s. left_depth s)

  pub local_object_kept : (i : ℕ) → P n d Value (b.local_object i)
  unfolding b.local_object
  local_object_kept i = K.basic.of_know n d Value _ (λ σ as_ rs. refl)

  pub control_kept : (at : Place) → P n d (Unit {0}) b.control
  unfolding b.control
  control_kept at = K.basic.of_store n d at (λ s. Ok (parts.one_more s)) (λ s. recounted_depth (suc (controls s)) s)

  pub release_kept : (at : Place) → P n d (Unit {0}) b.release
  unfolding b.release
  release_kept at = K.basic.of_store n d at (λ s. Ok (parts.one_less s)) (λ s. recounted_depth (pred (controls s)) s)

  pub mine_kept : (at : Place) (q : Value) → P n d Value (b.mine τ at q)
  unfolding b.mine
  mine_kept at q = first (valued at (b.has_turn τ q)) _ (valued_kept at (b.has_turn τ q))
      (λ v. K.basic.of_give n d Value _)

  -- ---- the library

  pub print_kept : (format : List ℕ) (args : List Value) → P n d Value (l.print τ format args)
  unfolding l.print
  print_kept format args =
      first (a.ask τ None (act.Print _)) _ (K.of_ask n d None (act.Print _) tt) (λ r. K.basic.of_give n d Value _)

  formed_kept : (call : LibraryCall) (shape : ℕ) (at : Place) (args : List Value)
      → P n d Value (l.formed_call τ call shape at args)
  formed_kept call shape at args =
      choose_kept (l.is_formed τ.shapes call shape args) (l.called_library τ call shape at args) (give (number (pos 0)))
      (K.of_called n d call shape at args) (K.basic.of_give n d Value (number (pos 0)))

  by_exit : (test : Bool) (call : LibraryCall) (shape : ℕ) (at : Place) (args : List Value)
      → P n d Value (choose test (a.exit τ (parts.first_number args)) (l.formed_call τ call shape at args))
  by_exit test call shape at args =
      choose_kept test (a.exit τ (parts.first_number args)) (l.formed_call τ call shape at args)
      (exit_kept (parts.first_number args)) (formed_kept call shape at args)

  pub library_kept : (call : LibraryCall) (shape : ℕ) (at : Place) (args : List Value)
      → P n d Value (l.library τ call shape at args)
  unfolding l.library
  library_kept call shape at args = by_exit (parts.is_exit call) call shape at args
