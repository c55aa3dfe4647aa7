-- The code of a program names no shared object but the declared ones.
use Rattle.std.proofs.Common.{◌≡◌, ℕ, zero, suc, Bool, true, ◌&&◌, ◌⊎◌, inl, inr, List, [], ◌∷◌, map}
use Rattle.std.proofs.Common.{Option, Some, None, refl, sym, subst}
use Rattle.std.specs.Prelude.{slice_get}
use Rattle.std.specs.List.{list_any}
use Rattle.std.proofs.lemmas.Bool.{false≢true, and_parts, or_cases, or_left, or_right}
use Rattle.std.proofs.Math.Logic.{∥∥₁_elim}
use mathlib.Core.Bool.{Bool-set}
use Rattle.block_layout.specs.declared.kind.Kind.{Kind}
use Rattle.block_layout.specs.declared.kind.Kind.TheVariants as kind
use Rattle.block_layout.specs.declared.place.LocalPtr.TheVariants as local
use Rattle.block_layout.specs.declared.place.ObjectRef.{ObjectRef}
use Rattle.block_layout.specs.declared.place.SharedPtr.{SharedPtr}
use Rattle.block_layout.specs.Pointers.{is_null, same_object}
use Rattle.block_layout.proofs.Pointers.{same_object-refl}
use Rattle.upc_values.specs.declared.scalar.Scalar.TheVariants as scalar
use Rattle.upc_values.specs.declared.scalar.Value.{Value}
use Rattle.upc_values.specs.declared.scalar.Value.TheVariants as value
use Rattle.upc_values.specs.Lists.{Each}
use Rattle.upc_values.specs.Openings.{is_named}
use Rattle.upc_values.specs.Shapes.{blank_value}
use Rattle.upc_values.proofs.Membership.{each-weaker}
use Rattle.typed_tree.specs.declared.beginning.SharedDecl.{SharedDecl}
use Rattle.typed_tree.specs.layer.Parts.{object_of}
use Rattle.typed_tree.specs.Initials.{numbered}
use Rattle.typed_tree.specs.Beginnings.{Beginning, opening_in}
use Rattle.typed_tree.specs.layer.PrivateOpenings.{IsPrivateOpening, is_known}
use Rattle.typed_tree.specs.Programs.{Checked, start_of}
use Rattle.source_meaning.specs.Laws.{opening_of}
use Rattle.source_meaning.specs.Running.{start_in}
use Rattle.stack_code.specs.declared.instruction.StackWork.{StackWork}
use Rattle.stack_code.specs.declared.instruction.StackWork.TheVariants as stack
use Rattle.stack_code.specs.declared.instruction.Operation.{Operation}
use Rattle.stack_code.specs.declared.instruction.Operation.TheVariants as work
use Rattle.gen_stmt.specs.layer.Programs.{source, program_code}
use Rattle.stack_code.specs.layer.Names.{PushedBy, Pushes}
use Rattle.gen_stmt.specs.code.Pushes.{IsPushed, integer, private, shared, blank}
use Rattle.stack_code.specs.layer.Names.{NamesAmong, NamesOnly}
use Rattle.source_meaning.proofs.Beginnings.{each_prop}
use Rattle.gen_stmt.proofs.Gathered.{program_pushes}

-- ---- what instructions push

module _ (P Q : Value → Type 0) (f : (v : Value) → P v → Q v) where
  pushed_weaker : (w : StackWork) → PushedBy P w → PushedBy Q w
  pushed_weaker (stack.Push v) h = f v h
  pushed_weaker stack.Me h = tt
  pushed_weaker stack.Pop h = tt
  pushed_weaker stack.Copy h = tt
  pushed_weaker stack.Over h = tt
  pushed_weaker stack.Swap h = tt
  pushed_weaker stack.Truth h = tt
  pushed_weaker stack.Not h = tt

  -- Where a fact of a value implies another one, so it is with what an operation pushes.
  pub pushes_weaker : (w : Operation) → Pushes P w → Pushes Q w
  pushes_weaker (work.Stack w) h = pushed_weaker w h
  pushes_weaker (work.Value w) h = tt
  pushes_weaker (work.Object w) h = tt
  pushes_weaker (work.Way w) h = tt
  pushes_weaker (work.Call w) h = tt
  pushes_weaker (work.Thread w) h = tt

any_at : (objects : List ObjectRef) (n : ℕ) (x : ObjectRef) → slice_get objects n ≡ Some x
    → list_any (same_object x) objects ≡ true
any_at [] n x h = absurd cc
any_at (y ∷ objects) zero x h =
    let e : y ≡ x = cc in
    or_left (same_object x y) (list_any (same_object x) objects)
    (subst (λ (z : ObjectRef). same_object x z ≡ true) (sym e) (same_object-refl x))
any_at (y ∷ objects) (suc n) x h =
    or_right (same_object x y) (list_any (same_object x) objects) (any_at objects n x h)

module _ (program : Checked) where
  abbrev declared : List ObjectRef
  declared = (opening_of program).declared

  start_named : (object : Option ObjectRef)
      → ((x : ObjectRef) → object ≡ Some x → list_any (same_object x) declared ≡ true)
      → NamesAmong declared (start_in object)
  start_named (Some x) h = or_right _ (list_any (same_object x) declared) (h x refl)
  start_named None h = refl

  numbered_any : (xs : List SharedDecl) (n : ℕ) (x : ObjectRef) → numbered xs n ≡ Some x
      → list_any (same_object x) (map object_of xs) ≡ true
  numbered_any xs zero x h = absurd cc
  numbered_any xs (suc n) x h = any_at (map object_of xs) n x h

  blank_named : (k : Kind) → NamesAmong declared (blank_value k)
  blank_named (kind.Private n) = refl
  blank_named (kind.Shared n b) = refl
  blank_named kind.Lock = refl
  blank_named kind.Char = refl
  blank_named kind.UChar = refl
  blank_named kind.Short = refl
  blank_named kind.UShort = refl
  blank_named kind.Int = refl
  blank_named kind.UInt = refl
  blank_named kind.Long = refl
  blank_named kind.ULong = refl

  pushed_named : (v : Value) → IsPushed (source program) v → NamesAmong declared v
  pushed_named v (integer i e) = subst (NamesAmong declared) (sym e) refl
  pushed_named v (private n e) = subst (NamesAmong declared) (sym e) refl
  pushed_named v (shared n e) =
      subst (NamesAmong declared) (sym e)
      (start_named (numbered (start_of program).shared_objects n)
      (λ x h. numbered_any (start_of program).shared_objects n x h))
  pushed_named v (blank k e) = subst (NamesAmong declared) (sym e) (blank_named k)

-- ---- initial values

-- The initial values of private objects name no shared object but the declared ones.
abbrev InitialsNamed : (threads : ℕ) → Beginning → Type 0
InitialsNamed threads b = Each (λ x. NamesAmong (opening_in threads b).declared x.1) b.private_initials

module _ (threads : ℕ) (b : Beginning) where
  named_in : (p : SharedPtr) (more : Bool)
      → (is_null p ≡ true)
      ⊎ ((list_any (same_object p.object) (opening_in threads b).declared && more) ≡ true)
      → NamesAmong (opening_in threads b).declared (value.Scalar (scalar.Shared p))
  named_in p more (inl null) = or_left (is_null p) _ null
  named_in p more (inr named) =
      let any = list_any (same_object p.object) (opening_in threads b).declared in
      or_right (is_null p) any (and_parts any more named).0

  pointer_named : (p : SharedPtr) → is_named threads (opening_in threads b).declared p ≡ true
      → NamesAmong (opening_in threads b).declared (value.Scalar (scalar.Shared p))
  pointer_named p h = named_in p _ (or_cases (is_null p) _ h)

  initial_named : (privates : ℕ) (v : Value) → is_known (opening_in threads b) privates v ≡ true
      → NamesAmong (opening_in threads b).declared v
  initial_named privates (value.Scalar (scalar.Int n)) h = refl
  initial_named privates (value.Scalar (scalar.Shared p)) h = pointer_named p h
  initial_named privates (value.Scalar (scalar.Lock l)) h = refl
  initial_named privates (value.Local local.Null) h = refl
  initial_named privates (value.Local (local.Private object offset)) h = refl
  initial_named privates (value.Local (local.Shared object thread offset)) h = absurd (false≢true h)

  initials_named : IsPrivateOpening threads b → InitialsNamed threads b
  initials_named h =
      each-weaker _ _ (λ x known. initial_named _ x.1 known) b.private_initials h.values.known

begun_named : (threads : ℕ) (b begun : Beginning) → ∥ b ≡ begun ∥₁ → ∥ IsPrivateOpening threads b ∥₁
    → InitialsNamed threads begun
begun_named threads b begun begins h =
    let prop : IsProp (InitialsNamed threads begun) =
    each_prop _ (λ x. Bool-set _ _) begun.private_initials in
    ∥∥₁_elim begins prop
    (λ e. ∥∥₁_elim h prop (λ q. subst (InitialsNamed threads) e (initials_named threads b q)))

-- ---- the whole

pub names_only : (program : Checked) (b : Beginning) → ∥ b ≡ start_of program ∥₁
    → ∥ IsPrivateOpening program.threads b ∥₁ → NamesOnly (opening_of program).declared (program_code program)
names_only program b begins h = record {
  pushed = each-weaker _ _ (λ code pushes. each-weaker _ _ (λ i. pushes_weaker _ _ (pushed_named program) i.does) code
      pushes) (program_code program).functions (program_pushes program);
  initials = begun_named program.threads b (start_of program) begins h;
}
