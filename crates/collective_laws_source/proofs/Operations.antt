-- What every operation of a thread keeps, if the few from which they are made do, where only the calls of the library
-- ask all threads to meet.
use Rattle.std.proofs.Common.{ℕ, suc, ◌<◌, ◌≤◌, ℤ, pos, List, Option, Some, None, Bool, false, refl}
use Rattle.std.specs.Prelude.{Result, Ok, Err, pred}
use Rattle.upc_text.specs.declared.place.Place.{Place}
use Rattle.block_layout.specs.declared.kind.Kind.{Kind}
use Rattle.block_layout.specs.declared.kind.Shape.{Shape}
use Rattle.block_layout.specs.declared.run_error.TheConstants.{PRIVATE_SPACE}
use Rattle.block_layout.specs.declared.place.SharedPtr.{SharedPtr}
use Rattle.block_layout.specs.declared.place.LocalPtr.{LocalPtr}
use Rattle.block_layout.specs.declared.place.LocalPtr.TheVariants as local
use Rattle.integers.specs.declared.operator.BinOp.{BinOp}
use Rattle.integers.specs.declared.operator.UnOp.{UnOp}
use Rattle.upc_values.specs.declared.scalar.Scalar.{Scalar}
use Rattle.upc_values.specs.declared.scalar.Scalar.TheVariants as scalar
use Rattle.upc_values.specs.declared.scalar.Value.{Value}
use Rattle.upc_values.specs.declared.scalar.Value.TheVariants as value
use Rattle.upc_values.specs.declared.scalar.Mark.{Mark}
use Rattle.upc_values.specs.declared.action.Action.{Action}
use Rattle.upc_values.specs.declared.action.Action.TheVariants as act
use Rattle.upc_values.specs.declared.action.Reply.{Reply}
use Rattle.upc_values.specs.declared.record.ToldEnd.TheVariants as told
use Rattle.upc_values.specs.declared.library.LibraryCall.{LibraryCall}
use Rattle.private_store.specs.Live.{entered, left, controls}
use Rattle.thread_steps.specs.declared.cast.CastTo.{CastTo}
use Rattle.thread_steps.specs.layer.Parts as parts
use Rattle.thread_steps.specs.declared.elements.Elements.{Elements}
use Rattle.thread_steps.specs.States.{Thread, State, Doing, ◌>>=◌, ◌>>◌, give, skip, choose, fault_if, valued}
use Rattle.thread_steps.specs.States.{Unfinished}
use Rattle.thread_steps.specs.Values.{number, kept_scalar, scalar_of}
use Rattle.thread_steps.specs.Actions as a
use Rattle.thread_steps.specs.Accesses as x
use Rattle.thread_steps.specs.Pointers as p
use Rattle.thread_steps.specs.Operators as o
use Rattle.thread_steps.specs.Blocks as b
use Rattle.thread_steps.specs.Library as l
use Rattle.thread_steps.proofs.Depths.{left_depth, recounted_depth}
use Rattle.thread_steps.proofs.Kept.{Property, IsBasic, Ignores, basic_choose_kept, basic_fault_if_kept}
use Rattle.thread_steps.proofs.Kept.{basic_load_private_kept, basic_save_private_kept}

-- An action that any operation may ask for; a notify, a wait and a Beat have operations of their own, and for a meeting
-- only the calls of the library ask.
abbrev pub IsPlain : Action → Type 0
IsPlain (act.Notify mark) = ⊥
IsPlain (act.Wait mark) = ⊥
IsPlain act.Beat = ⊥
IsPlain (act.Meet call args) = ⊥
IsPlain action = Unit {0}

-- The property is kept by every operation of a thread.
pub record IsKept (τ : Thread) (P : Property) : Type 1 where
  pub basic : IsBasic P
  pub of_fewer : (k n d : ℕ) (A : Type 0) (m : Doing A) → k ≤ n → P n d A m → P k d A m
  pub of_unfinished : (d : ℕ) (A : Type 0) → P 0 d A (λ _. Unfinished)
  pub of_ask : (n d : ℕ) (kind : Option Kind) (action : Action) → IsPlain action → P n d Reply (a.ask τ kind action)
  pub of_notify : (n d : ℕ) (at : Place) (mark : Mark) → P n d (Unit {0}) (a.notify τ at mark)
  pub of_wait : (n d : ℕ) (at : Place) (mark : Mark) → P n d (Unit {0}) (a.wait τ at mark)
  pub of_called : (n d : ℕ) (call : LibraryCall) (shape : ℕ) (at : Place) (args : List Value)
      → P n d Value (l.called_library τ call shape at args)
  pub of_tick : (n d : ℕ) → P n d (Unit {0}) (a.tick τ)
  pub of_turn : (n d : ℕ) (A : Type 0) (m : Doing A) → P n d A m → P (suc n) d A (a.tick τ >> m)
  pub of_call : (n d : ℕ) (A : Type 0) (at : Place) (m : Doing A) → (d < 1000 → P n (suc d) A m)
      → P n d A (b.begin_call at >> (m >>= (λ v. b.end_call >> give v)))

module _ (τ : Thread) (P : Property) (K : IsKept τ P) (n d : ℕ) where
  pub first : {A B : Type 0} (m : Doing A) (f : A → Doing B) → P n d A m → ((v : A) → P n d B (f v)) → P n d B (m >>= f)
  first {A = A} {B = B} m f pm pf = K.basic.of_bind n d A B m f pm pf

  pub choose_kept : {A : Type 0} (test : Bool) (m k : Doing A) → P n d A m → P n d A k → P n d A (choose test m k)
  choose_kept test m k pm pk = basic_choose_kept P K.basic n d test m k pm pk

  skip_kept : P n d (Unit {0}) skip
  skip_kept = K.basic.of_give n d (Unit {0}) tt

  fault_if_kept : (test : State → Bool) (code : ℕ) (at : Place) → Ignores test
      → P n d (Unit {0}) (fault_if test code at)
  fault_if_kept test code at ig = basic_fault_if_kept P K.basic n d test code at ig

  load_private_kept : (kind : Kind) (at : Place) (q : LocalPtr) → P n d Value (x.load_private kind at q)
  load_private_kept kind at q = basic_load_private_kept P K.basic n d kind at q

  save_private_kept : (kind : Kind) (at : Place) (q : LocalPtr) (v : Value)
      → P n d (Unit {0}) (x.save_private kind at q v)
  save_private_kept kind at q v = basic_save_private_kept P K.basic n d kind at q v

  valued_kept : {A : Type 0} (at : Place) (r : Result A ℕ) → P n d A (valued at r)
  valued_kept {A = A} at (Ok v) = K.basic.of_give n d A v
  valued_kept {A = A} at (Err code) = K.basic.of_over n d A (told.Fault code at) tt

  ask_only : (action : Action) → IsPlain action → P n d (Unit {0}) (a.ask τ None action >> skip)
  ask_only action plain = first (a.ask τ None action) _ (K.of_ask n d None action plain) (λ r. skip_kept)

  pub notify_kept : (at : Place) (mark : Mark) → P n d (Unit {0}) (a.notify τ at mark)
  notify_kept at mark = K.of_notify n d at mark

  pub wait_kept : (at : Place) (mark : Mark) → P n d (Unit {0}) (a.wait τ at mark)
  wait_kept at mark = K.of_wait n d at mark

  pub fence_kept : P n d (Unit {0}) (a.fence τ)
  unfolding a.fence
  fence_kept = ask_only act.Fence tt

  pub exit_kept : {A : Type 0} (v : ℤ) → P n d A (a.exit τ {A = A} v)
  unfolding a.exit
  exit_kept {A = A} v =
      first (a.ask τ None (act.Exit v)) _ (K.of_ask n d None (act.Exit v) tt)
      (λ r. K.basic.of_over n d A (told.Exit v) tt)

  load_shared_kept : (kind : Kind) (strict : Bool) (at : Place) (q : SharedPtr)
      → P n d Value (x.load_shared τ kind strict at q)
  load_shared_kept kind strict at q =
      first (valued at (x.cell τ kind q)) _ (valued_kept at (x.cell τ kind q)) (λ l.
      first (x.read τ kind strict l) _
      (first (a.ask τ (Some kind) (act.Read l strict)) _ (K.of_ask n d (Some kind) (act.Read l strict) tt)
      (λ r. K.basic.of_give n d Scalar _)) (λ v.
      K.basic.of_give n d Value (value.Scalar v)))

  save_shared_kept : (kind : Kind) (strict : Bool) (at : Place) (q : SharedPtr) (v : Value)
      → P n d (Unit {0}) (x.save_shared τ kind strict at q v)
  save_shared_kept kind strict at q v =
      first (valued at (x.cell τ kind q)) _ (valued_kept at (x.cell τ kind q)) (λ l.
      ask_only (act.Write strict l (kept_scalar kind (scalar_of v))) tt)

  pub load_kept : (kind : Kind) (strict : Bool) (at : Place) (q : Value) → P n d Value (x.load τ kind strict at q)
  unfolding x.load
  load_kept kind strict at (value.Scalar (scalar.Shared q)) = load_shared_kept kind strict at q
  load_kept kind strict at (value.Scalar (scalar.Int v)) = K.basic.of_over n d Value _ tt
  load_kept kind strict at (value.Scalar (scalar.Lock v)) = K.basic.of_over n d Value _ tt
  load_kept kind strict at (value.Local (local.Shared object thread offset)) = load_shared_kept kind false at
      (x.into_shared object thread offset)
  load_kept kind strict at (value.Local (local.Private object offset)) = load_private_kept kind at
      (local.Private object offset)
  load_kept kind strict at (value.Local local.Null) = load_private_kept kind at local.Null

  pub save_kept : (kind : Kind) (strict : Bool) (at : Place) (q v : Value)
      → P n d (Unit {0}) (x.save τ kind strict at q v)
  unfolding x.save
  save_kept kind strict at (value.Scalar (scalar.Shared q)) v = save_shared_kept kind strict at q v
  save_kept kind strict at (value.Scalar (scalar.Int w)) v = K.basic.of_over n d (Unit {0}) _ tt
  save_kept kind strict at (value.Scalar (scalar.Lock w)) v = K.basic.of_over n d (Unit {0}) _ tt
  save_kept kind strict at (value.Local (local.Shared object thread offset)) v = save_shared_kept kind false at
      (x.into_shared object thread offset) v
  save_kept kind strict at (value.Local (local.Private object offset)) v = save_private_kept kind at
      (local.Private object offset) v
  save_kept kind strict at (value.Local local.Null) v = save_private_kept kind at local.Null v

  -- ---- pointers, operators and casts

  pub advance_kept : (ε : Elements) (at : Place) (q : Value) (i : ℤ) → P n d Value (p.advance τ ε at q i)
  unfolding p.advance
  advance_kept ε at q i = valued_kept at _

  pub member_kept : (offset : ℕ) (at : Place) (q : Value) → P n d Value (p.member τ offset at q)
  unfolding p.member
  member_kept offset at q = valued_kept at _

  pub difference_kept : (ε : Elements) (at : Place) (q r : Value) → P n d Value (p.difference τ ε at q r)
  unfolding p.difference
  difference_kept ε at q r = first (valued at (p.apart τ ε q r)) _ (valued_kept at (p.apart τ ε q r))
      (λ v. K.basic.of_give n d Value _)

  pub order_kept : (op : BinOp) (ε : Elements) (at : Place) (q r : Value) → P n d Value (p.order τ op ε at q r)
  unfolding p.order
  order_kept op ε at q r =
      first (valued at (p.apart τ ε q r)) _ (valued_kept at (p.apart τ ε q r)) (λ v.
      first (valued at _) _ (valued_kept at _) (λ w. K.basic.of_give n d Value _))

  pub same_kept : (q r : Value) → P n d Value (p.same τ q r)
  unfolding p.same
  same_kept q r = K.basic.of_give n d Value _

  pub operate_kept : (op : BinOp) (left right : Kind) (at : Place) (q r : Value)
      → P n d Value (o.operate op left right at q r)
  unfolding o.operate
  operate_kept op left right at q r = first (valued at _) _ (valued_kept at _) (λ v. K.basic.of_give n d Value _)

  pub apply_kept : (op : UnOp) (kind : Kind) (at : Place) (q : Value) → P n d Value (o.apply op kind at q)
  unfolding o.apply
  apply_kept op kind at q = first (valued at _) _ (valued_kept at _) (λ v. K.basic.of_give n d Value _)

  pub cast_kept : (into : CastTo) (at : Place) (q : Value) → P n d Value (o.cast τ into at q)
  unfolding o.cast
  cast_kept into at q = valued_kept at _

  -- ---- blocks, and the bodies of upc_foralls

  pub open_kept : (from : ℕ) (shapes : List Shape) (at : Place) → P n d (Unit {0}) (b.open_block from shapes at)
  unfolding b.open_block
  open_kept from shapes at =
      first (fault_if (parts.is_too_large shapes) PRIVATE_SPACE at) _
      (fault_if_kept (parts.is_too_large shapes) PRIVATE_SPACE at (λ σ as_ rs. refl)) (λ u.
      K.basic.of_store n d at (λ s. Ok (entered from shapes s)) (λ s. refl))

  pub close_kept : (at : Place) → P n d (Unit {0}) b.close_block
  unfolding b.close_block
  close_kept at = K.basic.of_store n d at (λ s. Ok (left s)) (λ s. left_depth s)

  pub local_object_kept : (i : ℕ) → P n d Value (b.local_object i)
  unfolding b.local_object
  local_object_kept i = K.basic.of_know n d Value _ (λ σ as_ rs. refl)

  pub control_kept : (at : Place) → P n d (Unit {0}) b.control
  unfolding b.control
  control_kept at = K.basic.of_store n d at (λ s. Ok (parts.one_more s)) (λ s. recounted_depth (suc (controls s)) s)

  pub release_kept : (at : Place) → P n d (Unit {0}) b.release
  unfolding b.release
  release_kept at = K.basic.of_store n d at (λ s. Ok (parts.one_less s)) (λ s. recounted_depth (pred (controls s)) s)

  pub mine_kept : (at : Place) (q : Value) → P n d Value (b.mine τ at q)
  unfolding b.mine
  mine_kept at q = first (valued at (b.has_turn τ q)) _ (valued_kept at (b.has_turn τ q))
      (λ v. K.basic.of_give n d Value _)

  -- ---- the library

  pub print_kept : (format : List ℕ) (args : List Value) → P n d Value (l.print τ format args)
  unfolding l.print
  print_kept format args =
      first (a.ask τ None (act.Print _)) _ (K.of_ask n d None (act.Print _) tt) (λ r. K.basic.of_give n d Value _)

  formed_kept : (call : LibraryCall) (shape : ℕ) (at : Place) (args : List Value)
      → P n d Value (l.formed_call τ call shape at args)
  formed_kept call shape at args =
      choose_kept (l.is_formed τ.shapes call shape args) (l.called_library τ call shape at args) (give (number (pos 0)))
      (K.of_called n d call shape at args) (K.basic.of_give n d Value (number (pos 0)))

  by_exit : (test : Bool) (call : LibraryCall) (shape : ℕ) (at : Place) (args : List Value)
      → P n d Value (choose test (a.exit τ (parts.first_number args)) (l.formed_call τ call shape at args))
  by_exit test call shape at args =
      choose_kept test (a.exit τ (parts.first_number args)) (l.formed_call τ call shape at args)
      (exit_kept (parts.first_number args)) (formed_kept call shape at args)

  pub library_kept : (call : LibraryCall) (shape : ℕ) (at : Place) (args : List Value)
      → P n d Value (l.library τ call shape at args)
  unfolding l.library
  library_kept call shape at args = by_exit (parts.is_exit call) call shape at args
