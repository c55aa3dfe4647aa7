-- What comes of the arguments of a call of the library in a program that meets the rules.
use Rattle.std.proofs.Common.{◌≡◌, ◌<◌, ◌^◌, ℕ, nat_eq, Bool, true, false, not, ◌&&◌, ◌||◌, List, [], ◌∷◌, ◌++◌}
use Rattle.std.proofs.Common.{length}
use Rattle.std.proofs.Common.{map, Option, Some, None, is_some, slice_get, refl, sym, ap, ◌∙◌, subst, arith}
use Rattle.std.proofs.Common.{append_assoc, append-nil, Ok, Err, Result}
use Rattle.std.proofs.lemmas.Bool.{false≢true, and_parts}
use Rattle.upc_text.specs.declared.place.Place.{Place}
use Rattle.block_layout.specs.declared.kind.Kind.{Kind}
use Rattle.block_layout.specs.declared.place.LocalPtr.{LocalPtr}
use Rattle.upc_values.specs.declared.library.LibraryCall.{LibraryCall}
use Rattle.upc_values.specs.declared.library.LibraryCall.TheVariants as c
use Rattle.upc_values.specs.declared.scalar.Scalar.TheVariants.{Int, Shared, Lock}
use Rattle.block_layout.specs.declared.kind.Shape.{Shape}
use Rattle.upc_values.specs.LibraryCalls.{library_call}
use Rattle.upc_values.specs.declared.scalar.Value.{Value}
use Rattle.upc_values.specs.declared.scalar.Value.TheVariants as value
use Rattle.upc_types.specs.declared.ctype.Access.{Access}
use Rattle.upc_types.specs.Types as types
use Rattle.upc_types.specs.Types.{CType, Base, Qualified, base_of, block_of}
use Rattle.upc_types.specs.Same.{is_lock_object}
use Rattle.upc_types.specs.Conversions.{is_integer, is_shared, to_shared_void}
use Rattle.upc_types.specs.Conversions.{to_void_pointer}
use Rattle.upc_types.specs.Cells.{pointer_kind, number_of}
use Rattle.typing_rules.specs.declared.library.LibraryParameter.{LibraryParameter}
use Rattle.typing_rules.specs.declared.library.LibraryParameter.TheVariants as parameter
use Rattle.typing_rules.specs.Attributes as at_
use Rattle.typing_rules.specs.Attributes.{base}
use Rattle.typing_rules.specs.Library.{call_parameters, is_allocation}
use Rattle.typing_rules.specs.Values.{base_target, value_base}
use Rattle.typing_rules.specs.Meanings as m
use Rattle.typing_rules.specs.Nodes as n
use Rattle.typing_rules.specs.Nodes.{Attr, Use}
use Rattle.typing_rules.specs.Rules as rules
use Rattle.typing_rules.specs.Rules.{table, judge, rule_10, rule_12, rule_29, takes, all_taken, library_passes}
use Rattle.typing_rules.specs.Rules.{target_leads_to_lock, is_zero, counts, allocates_well, is_allocated_at}
use Rattle.typed_tree.specs.declared.tree.Target.TheVariants as target
use Rattle.typed_tree.specs.Tree.{Expr, Exprs, NoExprs, AndExpr, Call, attr_of, attrs_of, place_of}
use Rattle.typed_tree.specs.Words.{uses_by, first_use, later_uses, format_in}
use Rattle.typed_tree.specs.Programs.{Checked}
use Rattle.typed_tree.specs.layer.Judged.{JudgedAt, facts_at}
use Rattle.typed_tree.specs.layer.TypedNodes.{MeetsKind, MeetsExprs}
use Rattle.upc_types.specs.Types.{Structs}
use Rattle.thread_steps.specs.declared.cast.CastTo.TheVariants as to
use Rattle.thread_steps.specs.States.{Thread, Doing}
use Rattle.thread_steps.specs.Operators.{cast, cast_value}
use Rattle.thread_steps.specs.Pointers.{local_value}
use Rattle.thread_steps.specs.Library.{is_formed}
use Rattle.shared_pointers.specs.Casts.{local_of}
use Rattle.source_meaning.specs.Types.{parameter_conversion}
use Rattle.source_meaning.specs.Running.{Running, running}
use Rattle.source_meaning.specs.Expressions as e
use Rattle.source_meaning.specs.layer.Parts.{is_printf}
use Rattle.source_meaning.specs.Expressions.{type_of, arguments, allocated_shape}
use Rattle.source_meaning.specs.Threads.{called}
use Rattle.source_meaning.specs.Laws.{AreSoMany, Gives, FormsCalls}
use Rattle.source_meaning.proofs.Forming.{all_form_calls}
use Rattle.meaning_laws.specs.layer.Values.{IsNumber, IsOf, Brings}
use Rattle.meaning_laws.specs.layer.Uses.{IsTaken, IsArgument, AreArguments}
use Rattle.meaning_laws.specs.layer.Copies.{TakesCells}
use Rattle.meaning_laws.specs.layer.Formed.{MakesBy, MakesShaped, AreFormed, CallsFit}
use Rattle.meaning_laws.proofs.Steps.{ResultIs, give_brings, first_brings, valued_brings, weaker_brings}
use Rattle.meaning_laws.proofs.Copies.{copies_fit}
use Rattle.meaning_laws.proofs.Printed.{printed_are_promoted}
use Rattle.meaning_laws.proofs.Operations.{Fits, unlocked_kind}
use Rattle.meaning_laws.proofs.Allocating.{so_many, made_target, shape_there}
use Rattle.meaning_laws.proofs.Expressions.{expressions_keep_types}
use Rattle.meaning_laws.proofs.Rules.{unbroken, holds}
use Rattle.meaning_laws.proofs.Taken.{zero_taken, lock_taken, either_taken, local_taken}
use Rattle.meaning_laws_accepted.specs.code.Defaults.{IsPassed, ArePassed, ArePrinted, LibraryTakes}

-- ---- what conversions take

never : (zero : Bool) → (zero && false) ≡ true → ⊥
never true h = false≢true h
never false h = false≢true h

-- The one of two that holds, where the other does not.
or_left_one : (b c : Bool) → (c ≡ true → ⊥) → (b || c) ≡ true → b ≡ true
or_left_one true c n h = refl
or_left_one false c n h = absurd (n h)

free_of : (l : Bool) → (true && not l) ≡ true → l ≡ false
free_of true q = absurd (false≢true q)
free_of false q = refl

module _ (targets : List CType) (zero : Bool) where
  shared_by : (b : Base) (d : Bool) (s : Option ℕ) (y : Access) (v : Value)
      → (is_shared s && not (is_lock_object b)) ≡ true
      → Fits (pointer_kind targets (Qualified b d s y)) v → IsTaken zero to.Shared v
  shared_by b d None y v h g = absurd (false≢true h)
  shared_by b d (Some block) y v h g =
      let free = free_of (is_lock_object b) h in
      either_taken zero true (number_of targets (Qualified b d (Some block) y)) block v
      (subst (λ (k : Kind). Fits k v) (unlocked_kind targets (Qualified b d (Some block) y) free) g)

  local_by : (b : Base) (d : Bool) (s : Option ℕ) (y : Access) (v : Value)
      → (not (is_shared s) && not (is_lock_object b)) ≡ true
      → Fits (pointer_kind targets (Qualified b d s y)) v → IsTaken zero to.Local v
  local_by b d (Some block) y v h g = absurd (false≢true h)
  local_by b d None y v h g =
      let free = free_of (is_lock_object b) h in
      local_taken zero None (number_of targets (Qualified b d None y)) v
      (subst (λ (k : Kind). Fits k v) (unlocked_kind targets (Qualified b d None y) free) g)

  lock_by : (t : CType) (v : Value) → target_leads_to_lock (Some t) ≡ true → Fits (pointer_kind targets t) v
      → IsTaken zero to.Lock v
  lock_by (Qualified types.LockObject d s y) v h g = lock_taken zero v g
  lock_by (Qualified types.Void d s y) v h g = absurd (false≢true h)
  lock_by (Qualified (types.Integer k) d s y) v h g = absurd (false≢true h)
  lock_by (Qualified (types.Struct i) d s y) v h g = absurd (false≢true h)
  lock_by (Qualified (types.Array t i) d s y) v h g = absurd (false≢true h)
  lock_by (Qualified (types.Pointer t) d s y) v h g = absurd (false≢true h)

module _ (structs : Structs) where
  shared_passed : (t : CType) (zero : Bool) (v : Value) → to_shared_void (value_base (base_of t)) zero ≡ true
      → IsOf structs t v → IsTaken zero to.Shared v
  shared_passed (Qualified (types.Pointer (Qualified b d s y)) c q x) zero v h g =
      shared_by structs.targets zero b d s y v
      (or_left_one (is_shared s && not (is_lock_object b)) (zero && false) (never zero) h) g
  shared_passed (Qualified (types.Array (Qualified b d s y) i) c q x) zero v h g =
      shared_by structs.targets zero b d s y v
      (or_left_one (is_shared s && not (is_lock_object b)) (zero && false) (never zero) h) g
  shared_passed (Qualified (types.Integer k) c q x) true v h g = zero_taken to.Shared v g
  shared_passed (Qualified (types.Integer k) c q x) false v h g = absurd (false≢true h)
  shared_passed (Qualified types.Void c q x) zero v h g = absurd (never zero h)
  shared_passed (Qualified (types.Struct i) c q x) zero v h g = absurd (never zero h)
  shared_passed (Qualified types.LockObject c q x) zero v h g = absurd (never zero h)

  private_passed : (t : CType) (zero : Bool) (v : Value) → to_void_pointer (value_base (base_of t)) zero ≡ true
      → IsOf structs t v → IsTaken zero to.Local v
  private_passed (Qualified (types.Pointer (Qualified b d s y)) c q x) zero v h g =
      local_by structs.targets zero b d s y v
      (or_left_one (not (is_shared s) && not (is_lock_object b)) (zero && false) (never zero) h) g
  private_passed (Qualified (types.Array (Qualified b d s y) i) c q x) zero v h g =
      local_by structs.targets zero b d s y v
      (or_left_one (not (is_shared s) && not (is_lock_object b)) (zero && false) (never zero) h) g
  private_passed (Qualified (types.Integer k) c q x) true v h g = zero_taken to.Local v g
  private_passed (Qualified (types.Integer k) c q x) false v h g = absurd (false≢true h)
  private_passed (Qualified types.Void c q x) zero v h g = absurd (never zero h)
  private_passed (Qualified (types.Struct i) c q x) zero v h g = absurd (never zero h)
  private_passed (Qualified types.LockObject c q x) zero v h g = absurd (never zero h)

  lock_passed : (t : CType) (zero : Bool) (v : Value)
      → (target_leads_to_lock (base_target (value_base (base_of t))) || zero && is_integer (value_base (base_of t)))
      ≡ true → IsOf structs t v → IsTaken zero to.Lock v
  lock_passed (Qualified (types.Pointer t) c q x) zero v h g =
      lock_by structs.targets zero t v (or_left_one (target_leads_to_lock (Some t)) (zero && false) (never zero) h) g
  lock_passed (Qualified (types.Array t i) c q x) zero v h g =
      lock_by structs.targets zero t v (or_left_one (target_leads_to_lock (Some t)) (zero && false) (never zero) h) g
  lock_passed (Qualified (types.Integer k) c q x) true v h g = zero_taken to.Lock v g
  lock_passed (Qualified (types.Integer k) c q x) false v h g = absurd (false≢true h)
  lock_passed (Qualified types.Void c q x) zero v h g = absurd (never zero h)
  lock_passed (Qualified (types.Struct i) c q x) zero v h g = absurd (never zero h)
  lock_passed (Qualified types.LockObject c q x) zero v h g = absurd (never zero h)

  integer_passed : (t : CType) (v : Value) → is_integer (value_base (base_of t)) ≡ true → IsOf structs t v → IsNumber v
  integer_passed (Qualified (types.Integer k) c q x) v h g = g
  integer_passed (Qualified types.Void c q x) v h g = absurd (false≢true h)
  integer_passed (Qualified (types.Struct i) c q x) v h g = absurd (false≢true h)
  integer_passed (Qualified (types.Array t i) c q x) v h g = absurd (false≢true h)
  integer_passed (Qualified (types.Pointer t) c q x) v h g = absurd (false≢true h)
  integer_passed (Qualified types.LockObject c q x) v h g = absurd (false≢true h)

module _ (ρ : Running) where
  is_passed : (x : LibraryParameter) (a : Expr) → takes x (attr_of a) ≡ true → IsPassed ρ x a
  is_passed parameter.SharedPointer a h = λ v g. shared_passed ρ.structs (type_of a) (is_zero (attr_of a)) v h g
  is_passed parameter.PrivatePointer a h = λ v g. private_passed ρ.structs (type_of a) (is_zero (attr_of a)) v h g
  is_passed parameter.LockPointer a h = λ v g. lock_passed ρ.structs (type_of a) (is_zero (attr_of a)) v h g
  is_passed parameter.Size a h = λ v g. integer_passed ρ.structs (type_of a) v h g
  is_passed parameter.Int a h = λ v g. integer_passed ρ.structs (type_of a) v h g
  is_passed parameter.NoFunction a h = tt

  are_passed : (xs : List LibraryParameter) (args : Exprs) → all_taken (attrs_of args) xs ≡ true
      → ArePassed ρ xs args
  are_passed [] args h = tt
  are_passed (x ∷ xs) NoExprs h = tt
  are_passed (x ∷ xs) (AndExpr a more) h =
      let both = and_parts (takes x (attr_of a)) (all_taken (attrs_of more) xs) h in
      (is_passed x a both.0, are_passed xs more both.1)

-- ---- what conversions give

by_local : (r : Result LocalPtr ℕ) → ResultIs (IsArgument parameter.PrivatePointer) (local_value r)
by_local (Ok p) = tt
by_local (Err code) = tt

module _ (τ : Thread) where
  argument_of : (x : LibraryParameter) (v : Value)
      → ResultIs (IsArgument x) (cast_value τ (parameter_conversion x) v)
  argument_of parameter.SharedPointer (value.Scalar (Shared p)) = tt
  argument_of parameter.SharedPointer (value.Scalar (Int i)) = tt
  argument_of parameter.SharedPointer (value.Scalar (Lock l)) = tt
  argument_of parameter.SharedPointer (value.Local p) = tt
  argument_of parameter.PrivatePointer (value.Scalar (Shared p)) = by_local (local_of p τ.number)
  argument_of parameter.PrivatePointer (value.Scalar (Int i)) = tt
  argument_of parameter.PrivatePointer (value.Scalar (Lock l)) = tt
  argument_of parameter.PrivatePointer (value.Local p) = tt
  argument_of parameter.LockPointer (value.Scalar (Shared p)) = tt
  argument_of parameter.LockPointer (value.Scalar (Int i)) = tt
  argument_of parameter.LockPointer (value.Scalar (Lock l)) = tt
  argument_of parameter.LockPointer (value.Local p) = tt
  argument_of parameter.Size v = tt
  argument_of parameter.Int v = tt
  argument_of parameter.NoFunction v = tt

  argument_brings : (x : LibraryParameter) (at : Place) (v : Value)
      → Brings Value (IsArgument x) (cast τ (parameter_conversion x) at v)
  unfolding cast
  argument_brings x at v = valued_brings (IsArgument x) at (cast_value τ (parameter_conversion x) v) (argument_of x v)

one_more : (xs : List LibraryParameter) (vs : List Value) (x : LibraryParameter) (v : Value) → AreArguments xs vs
    → IsArgument x v → AreArguments (xs ++ x ∷ []) (vs ++ v ∷ [])
one_more [] [] x v h i = (i, tt)
one_more [] (w ∷ vs) x v h i = absurd h
one_more (y ∷ xs) [] x v h i = absurd h
one_more (y ∷ xs) (w ∷ vs) x v h i = (h.0, one_more xs vs x v h.1 i)

-- ---- calls

takes_many : (call : LibraryCall) (count : ℕ) → is_printf call ≡ false → rules.library_takes call count ≡ true
    → nat_eq count (length (call_parameters call)) ≡ true
takes_many c.Printf count e h = absurd (false≢true (sym e))
takes_many call count e h = h

passes_taken : (call : LibraryCall) (args : List Attr) → library_passes call args ≡ true
    → all_taken args (call_parameters call) ≡ true
passes_taken c.Printf [] h = refl
passes_taken c.Printf (a ∷ args) h = refl
passes_taken call args h = h

module _ (program : Checked) (thread budget : ℕ) where
  abbrev ρ : Running
  ρ = running program thread budget

  abbrev Shaped : CType → Type 0
  Shaped = MakesShaped program

  abbrev forms : FormsCalls ρ
  forms = (all_form_calls program).each thread budget

  -- The program has the shape of what a call with a value of this type allocates, by a number below 2^64.
  abbrev HasIts : LibraryCall → CType → Type 0
  HasIts call t =
      (is_some (slice_get ρ.thread.shapes (allocated_shape ρ call t)) ≡ true) × (allocated_shape ρ call t < 2 ^ 64)

  made_its : (σ : Structs) (how : Use) (t : CType) → is_allocated_at σ how ≡ true → t ≡ at_.allocated how → Shaped t
      → HasIts c.AllAlloc t
  made_its σ how t a same h =
      let made = made_target σ how a in
      shape_there program thread budget (base_target (base_of t)) made.0
      (ap (λ (u : CType). base_target (base_of u)) same ∙ made.1) h

  has_its : (call : LibraryCall) (σ : Structs) (how : Use) (t : CType) → is_allocation call ≡ true
      → (not (is_allocation call) || is_allocated_at σ how) ≡ true → t ≡ at_.library_given how call
      → MakesBy Shaped call t → HasIts call t
  has_its c.GlobalAlloc σ how t e a same h = made_its σ how t a same h
  has_its c.AllAlloc σ how t e a same h = made_its σ how t a same h
  has_its c.Alloc σ how t e a same h = made_its σ how t a same h
  has_its call σ how t e a same h = absurd (false≢true e)

  module _ (fit : (calls : ℕ) → CallsFit ρ (called ρ calls)) (locals : List CType) where
    -- Arguments come after those that are there already.
    given_after : (calls : ℕ) (strict : Bool) (done xs : List LibraryParameter) (uses : List Use) (args : Exprs)
        (before : List Value) → MeetsExprs program locals uses args → AreFormed Shaped args
        → AreSoMany (length xs) args → AreArguments done before
        → Brings (List Value) (AreArguments (done ++ xs))
        (arguments ρ (called ρ calls) strict (map parameter_conversion xs) args before)
    given_after calls strict done [] uses NoExprs before g f many h =
        give_brings (AreArguments (done ++ [])) before
        (subst (λ (xs : List LibraryParameter). AreArguments xs before) (sym (append-nil done)) h)
    given_after calls strict done [] uses (AndExpr a more) before g f many h = absurd many
    given_after calls strict done (x ∷ xs) uses NoExprs before g f many h = absurd many
    given_after calls strict done (x ∷ xs) uses (AndExpr a more) before g f many h =
        let V = AreArguments (done ++ x ∷ xs) in
        first_brings (IsOf ρ.structs (type_of a)) V (e.value ρ (called ρ calls) strict a) _
        (expressions_keep_types.each program thread budget (called ρ calls) (fit calls) locals (first_use uses) strict a
        g.0 f.0) (λ v hv.
        first_brings (IsArgument x) V (cast ρ.thread (parameter_conversion x) (place_of a) v) _
        (argument_brings ρ.thread x (place_of a) v) (λ w hw.
        subst (λ (ys : List LibraryParameter). Brings (List Value) (AreArguments ys)
        (arguments ρ (called ρ calls) strict (map parameter_conversion xs) more (before ++ w ∷ [])))
        (append_assoc done (x ∷ []) xs)
        (given_after calls strict (done ++ x ∷ []) xs (later_uses uses) more (before ++ w ∷ []) g.1 f.1 many
        (one_more done before x w h hw))))

    -- A call that all threads make together may be met.
    formed_by : (call : LibraryCall) (t : CType) (args : Exprs) → AreSoMany (length (call_parameters call)) args
        → (is_allocation call ≡ true → HasIts call t) → (calls : ℕ) (strict : Bool)
        → Gives (List Value) (λ vs. is_formed ρ.thread.shapes call (allocated_shape ρ call t) vs ≡ true)
        (arguments ρ (called ρ calls) strict (map parameter_conversion (call_parameters call)) args [])
    formed_by c.GlobalAlloc t args many has calls strict =
        forms.formed (called ρ calls) strict c.GlobalAlloc (allocated_shape ρ c.GlobalAlloc t) args many refl
        (has refl).1
    formed_by c.AllAlloc t args many has calls strict =
        forms.formed (called ρ calls) strict c.AllAlloc (allocated_shape ρ c.AllAlloc t) args many (has refl).0
        (has refl).1
    formed_by c.Alloc t args many has calls strict =
        forms.formed (called ρ calls) strict c.Alloc (allocated_shape ρ c.Alloc t) args many refl (has refl).1
    formed_by call t args many has calls strict =
        let few : 0 < 2 ^ 64 = omega arith in
        forms.formed (called ρ calls) strict call 0 args many refl few

    printed_takes : (how : Use) (attr : Attr) (call : LibraryCall) (args : Exprs)
        → MeetsKind program locals how attr (Call (target.Library call) args) → ArePrinted ρ call args
    printed_takes how attr c.Printf (AndExpr format more) h = (
      printed_are_promoted.each program locals how attr format more ρ.structs h,
      λ calls strict. printed_are_promoted.given ρ (called ρ calls) strict more,
    )
    printed_takes how attr c.Printf NoExprs h = tt
    printed_takes how attr call args h = tt

    -- The cells that a call reads and writes, by its arguments.
    cells_by : (call : LibraryCall) (t : CType) (m : Doing (List Value))
        → Brings (List Value) (AreArguments (call_parameters call)) m
        → Brings (List Value)
        (λ vs. (private : ℕ → Option Shape)
        → TakesCells (library_call ρ.thread.threads ρ.thread.shapes ρ.thread.number private call
        (allocated_shape ρ call t) vs)) m
    cells_by call t m h =
        weaker_brings (AreArguments (call_parameters call)) _ m h (λ vs g private.
        copies_fit.taken program thread budget private call (allocated_shape ρ call t) vs g)

    pub library_takes : (how : Use) (attr : Attr) (call : LibraryCall) (args : Exprs) (σ : Structs)
        → JudgedAt program σ (n.Call how (m.Library call) true (format_in args) (attrs_of args)) attr
        → MeetsExprs program locals (uses_by (m.Library call)) args
        → MakesBy Shaped call attr.ctype × AreFormed Shaped args → LibraryTakes ρ call attr.ctype args
    library_takes how attr call args σ j g f =
        let x = n.Call how (m.Library call) true (format_in args) (attrs_of args) in
        let φ = facts_at program σ in
        let count = holds (rules.library_takes call (length (attrs_of args)))
        (unbroken (table φ x) 9 (judge 10 (rule_10 x)) refl j.rules) in
        let types_fit = holds (library_passes call (attrs_of args))
        (unbroken (table φ x) 11 (judge 12 (rule_12 x)) refl j.rules) in
        let well = holds (allocates_well σ how (m.Library call))
        (unbroken (table φ x) 28 (judge 29 (rule_29 φ x)) refl j.rules) in
        let many : is_printf call ≡ false → AreSoMany (length (call_parameters call)) args = λ p.
        so_many (length (call_parameters call)) args (takes_many call (length (attrs_of args)) p count) in
        let has : is_allocation call ≡ true → HasIts call attr.ctype = λ a.
        has_its call σ how attr.ctype a well (ap (λ (y : Attr). y.ctype) j.is) f.0 in
        let given_ : (p : is_printf call ≡ false) (calls : ℕ) (strict : Bool)
        → Brings (List Value) (AreArguments (call_parameters call))
        (arguments ρ (called ρ calls) strict (map parameter_conversion (call_parameters call)) args []) =
        λ p calls strict.
        given_after calls strict [] (call_parameters call) (uses_by (m.Library call)) args [] g f.1 (many p) tt in
        record {
          passed = are_passed ρ (call_parameters call) args (passes_taken call (attrs_of args) types_fit);
          given = given_;
          cells = λ p calls strict. cells_by call attr.ctype _ (given_ p calls strict);
          printed = printed_takes how attr call args ((σ, j), g);
          formed = λ p calls strict. formed_by call attr.ctype args (many p) has calls strict;
          shape = λ a. (has a).0;
        }
