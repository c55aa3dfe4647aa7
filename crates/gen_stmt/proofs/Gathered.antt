-- What code pushes: integers, places of objects of the file, and 0 or null; no code but the entry begins a function
-- without a tick; and no block begins after more objects in scope than the program declares.
use Rattle.std.proofs.Common.{ℕ, ◌+◌, ◌≤◌, Bool, false, List, [], ◌∷◌, ◌++◌, length, map, Option, Some, None, refl}
use Rattle.std.proofs.Common.{arith}
use Rattle.std.proofs.lemmas.List.{length-append}
use Rattle.std.specs.Prelude.{ℤ, pos}
use Rattle.upc_text.specs.declared.place.Place.{Place}
use Rattle.block_layout.specs.declared.kind.Kind.{Kind}
use Rattle.block_layout.specs.declared.place.LocalPtr.TheVariants as local
use Rattle.upc_values.specs.declared.scalar.Value.{Value}
use Rattle.upc_values.specs.declared.scalar.Value.TheVariants as value
use Rattle.upc_values.specs.Shapes.{blank_value}
use Rattle.upc_values.specs.Lists.{Each}
use Rattle.upc_values.proofs.Membership.{each-append}
use Rattle.upc_types.specs.Types.{CType, base_of}
use Rattle.typing_rules.specs.declared.setting.Home.{Home}
use Rattle.typing_rules.specs.declared.setting.Home.TheVariants as home
use Rattle.typed_tree.specs.declared.tree.Synchronises.{Synchronises}
use Rattle.typed_tree.specs.declared.tree.Synchronises.TheVariants as how
use Rattle.typed_tree.specs.Tree.{Expr, Exprs, NoExprs, AndExpr}
use Rattle.typed_tree.specs.Tree.{Initial, NoInitial, InitialValue, InitialList, DeclaredObject}
use Rattle.typed_tree.specs.Tree.{Affinity, Everyone, AtValue, Head, Statement, Stands, StatementKind, Block, If}
use Rattle.typed_tree.specs.Tree.{Switch, While, DoWhile, For, Forall, Break, Continue, Return, Synchronise, Fence}
use Rattle.typed_tree.specs.Tree.{StatementOption, NoStatement, TheStatement, Arms, NoArms, AndArm, Items, NoItems}
use Rattle.typed_tree.specs.Tree.{AndObjects, AndStatement, SwitchItems, NoSwitchItems, AndCase, AndDefault}
use Rattle.typed_tree.specs.Tree.{AndSwitchStatement, Function}
use Rattle.typed_tree.specs.Tree as tree
use Rattle.typed_tree.specs.LocalObjects.{objects_in, objects_by, last_objects, arms_objects, items_objects}
use Rattle.typed_tree.specs.LocalObjects.{switch_objects}
use Rattle.typed_tree.specs.Programs.{Checked, count_in, count_of}
use Rattle.thread_steps.specs.Values.{number}
use Rattle.source_meaning.specs.Types.{integer_of, cell_kind}
use Rattle.source_meaning.specs.layer.Parts.{with_strict}
use Rattle.source_meaning.specs.Running.{shared_object}
use Rattle.source_meaning.specs.Expressions.{type_of}
use Rattle.source_meaning.specs.Statements.{Standing, with_objects, element_type}
use Rattle.source_meaning.specs.Threads.{in_body, blank_of}
use Rattle.stack_code.specs.declared.instruction.StackWork.{StackWork}
use Rattle.stack_code.specs.declared.instruction.StackWork.TheVariants as stack
use Rattle.stack_code.specs.declared.instruction.Operation.{Operation}
use Rattle.stack_code.specs.declared.instruction.Operation.TheVariants as work
use Rattle.stack_code.specs.declared.instruction.Instr.{Instr}
use Rattle.stack_code.specs.layer.Depths.{OnCall, BeginsNone, BeginsOnce}
use Rattle.gen_expr.specs.layer.Sources.{Source, running_of}
use Rattle.gen_expr.specs.layer.Codes as expr
use Rattle.gen_expr.specs.layer.Gathered.{HoldsOfForms, PushesNone}
use Rattle.gen_expr.proofs.Gathered.{value_gathers, effect_gathers}
use Rattle.gen_stmt.specs.layer.Ways.{Ways, all_past, all_inner, in_loop, in_switch, in_forall, in_function}
use Rattle.gen_stmt.specs.layer.Codes as stmt
use Rattle.gen_stmt.specs.layer.Programs.{body_code, function_code, source, program_code}
use Rattle.stack_code.specs.layer.Names.{PushedBy, Pushes}
use Rattle.gen_stmt.specs.code.Pushes.{IsPushed, integer, private, shared, blank, PushesOnly}
use Rattle.gen_stmt.specs.layer.Enters.{EntersWithin, OnObject, EntersFew}

-- Whether an instruction is none that begins a function without a tick, nor one that begins a block after more than so
-- many objects in scope, and P holds of what it pushes.
abbrev Fine : (Value → Type 0) → (most : ℕ) → Operation → Type 0
Fine P most (work.Stack w) = PushedBy P w
Fine P most (work.Call w) = BeginsNone w
Fine P most (work.Object w) = EntersWithin most w
Fine P most w = Unit {0}

-- P holds of all that code may push.
record HoldsOf (ς : Source) (P : Value → Type 0) : Type 1 where
  pub integer : (v : ℤ) → P (number v)
  pub private : (n : ℕ) → P (value.Local (local.Private n (pos 0)))
  pub shared : (n : ℕ) → P (shared_object (running_of ς) n)
  pub blank : (kind : Kind) → P (blank_value kind)

module _ (ς : Source) (P : Value → Type 0) (p : HoldsOf ς P) (most : ℕ) where
  -- Each of these instructions is so.
  abbrev Holds : List Instr → Type 0
  Holds is = Each (λ i. Fine P most i.does) is

  -- One part after another.
  both : (a b : List Instr) → Holds a → Holds b → Holds (a ++ b)
  both a b x y = each-append (λ i. Fine P most i.does) a b x y

  -- One instruction after a part.
  behind : (a : List Instr) (i : Instr) → Holds a → Fine P most i.does → Holds (a ++ i ∷ [])
  behind a i x y = both a (i ∷ []) x (y, tt)

  -- ---- expressions

  no_push : (at : Place) (w : StackWork) → PushesNone w → Fine P most (expr.stacks at w).does
  no_push at (stack.Push v) h = absurd h
  no_push at w h = tt

  forms : HoldsOfForms ς (λ i. Fine P most i.does)
  forms = record {
    numbers = λ at v. p.integer v;
    private_objects = λ at n. p.private n;
    shared_objects = λ at n. p.shared n;
    stack_work = no_push;
    value_work = λ at w. tt;
    local_objects = λ at n. tt;
    reads = λ at kind strict. tt;
    writes = λ at kind strict. tt;
    ways = λ at w. tt;
    calls = λ at f n. tt;
    library_calls = λ at c shape n. tt;
    prints = λ at format n. tt;
  }

  value_hold : (strict : Bool) (e : Expr) → Holds (expr.value_code ς strict e)
  value_hold strict e = value_gathers ς (λ i. Fine P most i.does) forms strict e

  object_hold : (at : Place) (h : Home) → Holds (expr.object_code ς at h)
  object_hold at (home.Private n) = (p.private n, tt)
  object_hold at (home.Shared n) = (p.shared n, tt)
  object_hold at (home.Local n) = (tt, tt)

  saved_hold : (strict : Bool) (at : Place) (t : CType) (k : Option Kind)
      → Holds (expr.saved_code ς strict at t k)
  saved_hold strict at t (Some k) = (tt, tt)
  saved_hold strict at t None = (tt, (tt, tt))

  put_hold : (strict : Bool) (at : Place) (t : CType) → Holds (expr.put_code ς strict at t)
  put_hold strict at t = saved_hold strict at t (cell_kind ς.structs t)

  -- ---- parts of statements

  label_hold : (at : Place) (k : Option Kind) → Holds (stmt.label_code at k)
  label_hold at None = tt
  label_hold at (Some k) = (tt, tt)

  synchronise_hold : (at : Place) (h : Synchronises) → Holds (stmt.synchronise_code at h)
  synchronise_hold at how.Notify = (tt, tt)
  synchronise_hold at how.Wait = (tt, tt)
  synchronise_hold at how.Barrier = (tt, (tt, tt))

  synchronise_value_hold : (at : Place) (h : Synchronises) → Holds (stmt.synchronise_value_code at h)
  synchronise_value_hold at how.Notify = (tt, tt)
  synchronise_value_hold at how.Wait = (tt, tt)
  synchronise_value_hold at how.Barrier = (tt, (tt, (tt, tt)))

  converted_hold : (strict : Bool) (t : CType) (e : Expr) → Holds (stmt.converted_code ς strict t e)
  converted_hold strict t e = behind (expr.value_code ς strict e) _ (value_hold strict e) tt

  aside_hold : (strict : Bool) (e : Option Expr) → Holds (stmt.aside_code ς strict e)
  aside_hold strict None = tt
  aside_hold strict (Some e) = effect_gathers ς (λ i. Fine P most i.does) forms strict e

  test_hold : (at : Place) (strict : Bool) (e : Option Expr) → Holds (stmt.test_code ς at strict e)
  test_hold at strict None = (p.integer _, tt)
  test_hold at strict (Some e) = value_hold strict e

  listed_hold : (strict : Bool) (x : DeclaredObject) (es : Exprs) (i : ℕ)
      → Holds (stmt.listed_code ς strict x i es)
  listed_hold strict x NoExprs i = tt
  listed_hold strict x (AndExpr e more) i =
      let t = element_type (base_of x.ctype) x.ctype in
      let cp = expr.put_code ς strict x.at t in
      let rest = stmt.listed_code ς strict x (i + 1) more in
      let pop = expr.stacks x.at stack.Pop in
      let keeps : Holds (cp ++ pop ∷ rest) =
      both cp (pop ∷ rest) (put_hold strict x.at t) (tt, listed_hold strict x more (i + 1)) in
      let gives : Holds (stmt.converted_code ς strict t e ++ (cp ++ pop ∷ rest)) =
      both (stmt.converted_code ς strict t e) (cp ++ pop ∷ rest) (converted_hold strict t e) keeps in
      both (expr.object_code ς x.at x.home) _ (object_hold x.at x.home) (p.integer _, (tt, gives))

  initial_hold : (strict : Bool) (x : DeclaredObject) (first : Initial)
      → Holds (stmt.initial_code ς strict x first)
  initial_hold strict x NoInitial = tt
  initial_hold strict x (InitialValue e) =
      both (expr.object_code ς x.at x.home) _ (object_hold x.at x.home)
      (both (stmt.converted_code ς strict x.ctype e) _ (converted_hold strict x.ctype e)
      (both (expr.put_code ς strict x.at x.ctype) _ (put_hold strict x.at x.ctype) (tt, tt)))
  initial_hold strict x (InitialList es) = listed_hold strict x es 0

  declared_hold : (strict : Bool) (objects : List DeclaredObject) → Holds (stmt.declared_code ς strict objects)
  declared_hold strict [] = tt
  declared_hold strict (x ∷ xs) =
      both (stmt.initial_code ς strict x x.initial) _ (initial_hold strict x x.initial) (declared_hold strict xs)

  first_hold : (strict : Bool) (head : Head) → Holds (stmt.first_code ς strict head)
  first_hold strict head =
      both (stmt.declared_code ς strict head.objects) _ (declared_hold strict head.objects)
      (aside_hold strict head.first)

  loop_hold : (at : Place) (test body last : List Instr) (m : ℕ) → Holds test → Holds body → Holds last
      → Holds (stmt.loop_code at test body last m)
  loop_hold at test body last m x y z =
      (tt, both test _ x (tt, both body _ y (behind last _ z tt)))

  guard_hold : (at : Place) (strict : Bool) (whose : Affinity) (body : List Instr) (m : ℕ) → Holds body
      → Holds (stmt.guard_code ς at strict whose body m)
  guard_hold at strict Everyone body m x = x
  guard_hold at strict (AtValue e) body m x =
      (tt, both (expr.value_code ς strict e) _ (value_hold strict e) (tt, (tt, (tt, behind body _ x tt))))

  cases_hold : (at : Place) (κ : Standing) (items : SwitchItems) (before : ℕ)
      → Holds (stmt.cases_code ς at κ items before)
  cases_hold at κ NoSwitchItems before = tt
  cases_hold at κ (AndCase w more) before = (tt, cases_hold at κ more before)
  cases_hold at κ (AndDefault more) before = cases_hold at κ more before
  cases_hold at κ (AndSwitchStatement s more) before = cases_hold at κ more (before + stmt.size ς κ s)

  -- ---- statements

  -- Where so many objects are in scope, these more are still as many as may be.
  abbrev HaveRoom : Standing → List DeclaredObject → Type 0
  HaveRoom κ objects = κ.count + length objects ≤ most

  front_room : (κ : Standing) (xs ys : List DeclaredObject) → HaveRoom κ (xs ++ ys) → HaveRoom κ xs
  front_room κ xs ys h = let e = length-append xs ys in omega arith

  back_room : (κ : Standing) (xs ys : List DeclaredObject) → HaveRoom κ (xs ++ ys) → HaveRoom κ ys
  back_room κ xs ys h = let e = length-append xs ys in omega arith

  -- With the first of them in scope the others have room.
  later_room : (κ : Standing) (xs ys : List DeclaredObject) → HaveRoom κ (xs ++ ys) → HaveRoom (with_objects xs κ) ys
  later_room κ xs ys h = let e = length-append xs ys in omega arith

  scope_room : (κ : Standing) (xs : List DeclaredObject) → HaveRoom κ xs → κ.count ≤ most
  scope_room κ xs h = omega arith

  mutual
    statement_hold : (s : Statement) (κ : Standing) (ω : Ways) → HaveRoom κ (objects_in s)
        → Holds (stmt.statement_code ς κ ω s)
    statement_hold (Stands at kind) κ ω h = kind_hold kind κ ω at h

    kind_hold : (kind : StatementKind) (κ : Standing) (ω : Ways) (at : Place) → HaveRoom κ (objects_by kind)
        → Holds (stmt.kind_code ς κ ω at kind)
    kind_hold (Block strict items) κ ω at h = (
      scope_room κ (items_objects items) h,
      behind (stmt.items_code ς (with_strict strict κ) (all_inner ω) items) _
          (items_hold items (with_strict strict κ) (all_inner ω) h) tt,
    )
    kind_hold (tree.Value e) κ ω at h = aside_hold κ.strict e
    kind_hold (If arms last) κ ω at h =
        arms_hold arms κ ω at (front_room κ (arms_objects arms) (last_objects last) h) (stmt.last_code ς κ ω last)
        (stmt.last_size ς κ last)
        (last_statement_hold last κ ω (back_room κ (arms_objects arms) (last_objects last) h))
    kind_hold (Switch e items) κ ω at h =
        both (expr.value_code ς κ.strict e) _ (value_hold κ.strict e)
        (both (stmt.label_code at (integer_of (type_of e))) _ (label_hold at (integer_of (type_of e)))
        (both (stmt.cases_code ς at κ items 0) _ (cases_hold at κ items 0)
        (tt, (tt, switch_hold items κ (in_switch ω) h))))
    kind_hold (While test body) κ ω at h =
        loop_hold at (expr.value_code ς κ.strict test) (stmt.statement_code ς κ (in_loop 0 ω) body) []
        (stmt.size ς κ body) (value_hold κ.strict test) (statement_hold body κ (in_loop 0 ω) h) tt
    kind_hold (DoWhile body test) κ ω at h = (
      tt,
      loop_hold at (expr.value_code ς κ.strict test) (stmt.statement_code ς κ (in_loop 0 ω) body) []
          (stmt.size ς κ body) (value_hold κ.strict test) (statement_hold body κ (in_loop 0 ω) h) tt,
    )
    kind_hold (For head body) κ ω at h =
        let η = with_objects head.objects κ in
        let step = stmt.aside_code ς κ.strict head.step in
        let ω' = in_loop (length step) (all_inner ω) in
        let loop = stmt.loop_code at (stmt.test_code ς at κ.strict head.test) (stmt.statement_code ς η ω' body) step
        (stmt.size ς η body) in (
          scope_room κ (head.objects ++ objects_in body) h,
          behind (stmt.first_code ς κ.strict head ++ loop) _
              (both (stmt.first_code ς κ.strict head) loop (first_hold κ.strict head)
              (loop_hold at (stmt.test_code ς at κ.strict head.test) (stmt.statement_code ς η ω' body) step
              (stmt.size ς η body) (test_hold at κ.strict head.test)
              (statement_hold body η ω' (later_room κ head.objects (objects_in body) h))
              (aside_hold κ.strict head.step))) tt,
        )
    kind_hold (Forall head whose body) κ ω at h =
        let η = with_objects head.objects κ in
        let step = stmt.aside_code ς κ.strict head.step in
        let ω' = in_forall (all_inner ω) in
        let part = stmt.guard_code ς at κ.strict whose (stmt.statement_code ς η ω' body) (stmt.size ς η body) in
        let m = stmt.guard_size ς κ.strict whose (stmt.size ς η body) in
        let loop = stmt.loop_code at (stmt.test_code ς at κ.strict head.test) part step m in (
          scope_room κ (head.objects ++ objects_in body) h,
          behind (stmt.first_code ς κ.strict head ++ loop) _
              (both (stmt.first_code ς κ.strict head) loop (first_hold κ.strict head)
              (loop_hold at (stmt.test_code ς at κ.strict head.test) part step m (test_hold at κ.strict head.test)
              (guard_hold at κ.strict whose (stmt.statement_code ς η ω' body) (stmt.size ς η body)
              (statement_hold body η ω' (later_room κ head.objects (objects_in body) h)))
              (aside_hold κ.strict head.step))) tt,
        )
    kind_hold Break κ ω at h = (tt, tt)
    kind_hold Continue κ ω at h = (tt, tt)
    kind_hold (Return None) κ ω at h = (p.integer _, (tt, tt))
    kind_hold (Return (Some e)) κ ω at h =
        behind (stmt.converted_code ς κ.strict κ.result e) _ (converted_hold κ.strict κ.result e) tt
    kind_hold (Synchronise s None) κ ω at h = synchronise_hold at s
    kind_hold (Synchronise s (Some e)) κ ω at h =
        both (expr.value_code ς κ.strict e) _ (value_hold κ.strict e) (synchronise_value_hold at s)
    kind_hold Fence κ ω at h = (tt, tt)

    last_statement_hold : (last : StatementOption) (κ : Standing) (ω : Ways) → HaveRoom κ (last_objects last)
        → Holds (stmt.last_code ς κ ω last)
    last_statement_hold NoStatement κ ω h = tt
    last_statement_hold (TheStatement s) κ ω h = statement_hold s κ ω h

    arms_hold : (arms : Arms) (κ : Standing) (ω : Ways) (at : Place) → HaveRoom κ (arms_objects arms)
        → (last : List Instr) (n : ℕ) → Holds last → Holds (stmt.arms_code ς κ ω at arms last n)
    arms_hold NoArms κ ω at h last n x = x
    arms_hold (AndArm test body more) κ ω at h last n x =
        let ω' = all_past (1 + stmt.arms_size ς κ more n) ω in
        both (expr.value_code ς κ.strict test) _ (value_hold κ.strict test) (
          tt,
          both (stmt.statement_code ς κ ω' body) _
              (statement_hold body κ ω' (front_room κ (objects_in body) (arms_objects more) h))
              (tt, arms_hold more κ ω at (back_room κ (objects_in body) (arms_objects more) h) last n x),
        )

    items_hold : (items : Items) (κ : Standing) (ω : Ways) → HaveRoom κ (items_objects items)
        → Holds (stmt.items_code ς κ ω items)
    items_hold NoItems κ ω h = tt
    items_hold (AndObjects objects more) κ ω h =
        both (stmt.declared_code ς κ.strict objects) _ (declared_hold κ.strict objects)
        (items_hold more (with_objects objects κ) ω (later_room κ objects (items_objects more) h))
    items_hold (AndStatement s more) κ ω h =
        let ω' = all_past (stmt.items_size ς κ more) ω in
        both (stmt.statement_code ς κ ω' s) _
        (statement_hold s κ ω' (front_room κ (objects_in s) (items_objects more) h))
        (items_hold more κ ω (back_room κ (objects_in s) (items_objects more) h))

    switch_hold : (items : SwitchItems) (κ : Standing) (ω : Ways) → HaveRoom κ (switch_objects items)
        → Holds (stmt.switch_code ς κ ω items)
    switch_hold NoSwitchItems κ ω h = tt
    switch_hold (AndCase w more) κ ω h = switch_hold more κ ω h
    switch_hold (AndDefault more) κ ω h = switch_hold more κ ω h
    switch_hold (AndSwitchStatement s more) κ ω h =
        let ω' = all_past (stmt.switch_size ς κ more) ω in
        both (stmt.statement_code ς κ ω' s) _
        (statement_hold s κ ω' (front_room κ (objects_in s) (switch_objects more) h))
        (switch_hold more κ ω (back_room κ (objects_in s) (switch_objects more) h))

  -- ---- functions

  -- A function with a body so has no more parameters and objects than there may be.
  abbrev IsRoom : Function → Statement → Type 0
  IsRoom f s = length f.parameters + length (objects_in s) ≤ most

  plain_hold : (f : Function) (s : Statement) → IsRoom f s
      → Holds (stmt.statement_code ς (in_body (running_of ς) f false) (in_function 0) s)
  plain_hold f s h = statement_hold s (in_body (running_of ς) f false) (in_function 0) h

  body_hold : (f : Function) (s : Statement) → IsRoom f s → Holds (body_code ς f s)
  body_hold f (Stands at (Block strict items)) h = (
    omega arith,
    (
      tt,
      behind (stmt.items_code ς (in_body (running_of ς) f strict) (in_function 1) items) _
          (items_hold items (in_body (running_of ς) f strict) (in_function 1) h) tt,
    ),
  )
  body_hold f (Stands at (tree.Value e)) h = (tt, plain_hold f (Stands at (tree.Value e)) h)
  body_hold f (Stands at (If arms last)) h = (tt, plain_hold f (Stands at (If arms last)) h)
  body_hold f (Stands at (Switch e items)) h = (tt, plain_hold f (Stands at (Switch e items)) h)
  body_hold f (Stands at (While test s)) h = (tt, plain_hold f (Stands at (While test s)) h)
  body_hold f (Stands at (DoWhile s test)) h = (tt, plain_hold f (Stands at (DoWhile s test)) h)
  body_hold f (Stands at (For head s)) h = (tt, plain_hold f (Stands at (For head s)) h)
  body_hold f (Stands at (Forall head whose s)) h = (tt, plain_hold f (Stands at (Forall head whose s)) h)
  body_hold f (Stands at Break) h = (tt, plain_hold f (Stands at Break) h)
  body_hold f (Stands at Continue) h = (tt, plain_hold f (Stands at Continue) h)
  body_hold f (Stands at (Return e)) h = (tt, plain_hold f (Stands at (Return e)) h)
  body_hold f (Stands at (Synchronise s e)) h = (tt, plain_hold f (Stands at (Synchronise s e)) h)
  body_hold f (Stands at Fence) h = (tt, plain_hold f (Stands at Fence) h)

  blank_holds : (kind : Option Kind) → P (blank_of kind)
  blank_holds (Some kind) = p.blank kind
  blank_holds None = p.integer _

  function_hold : (f : Function) → IsRoom f f.body → Holds (function_code ς f)
  function_hold f h =
      both (body_code ς f f.body) _ (body_hold f f.body h) (blank_holds (cell_kind ς.structs f.result), (tt, tt))

  functions_hold : (fs : List Function) → count_in fs ≤ most
      → Each (Each (λ i. Fine P most i.does)) (map (function_code ς) fs)
  functions_hold [] h = tt
  functions_hold (f ∷ fs) h = (function_hold f (omega arith), functions_hold fs (omega arith))

-- ---- what is said of each instruction

begins_none : (most : ℕ) (w : Operation) → Fine (λ v. Unit {0}) most w → OnCall BeginsNone w
begins_none most (work.Stack w) h = tt
begins_none most (work.Value w) h = tt
begins_none most (work.Object w) h = tt
begins_none most (work.Way w) h = tt
begins_none most (work.Call w) h = h
begins_none most (work.Thread w) h = tt

pushes_so : (P : Value → Type 0) (most : ℕ) (w : Operation) → Fine P most w → Pushes P w
pushes_so P most (work.Stack w) h = h
pushes_so P most (work.Value w) h = tt
pushes_so P most (work.Object w) h = tt
pushes_so P most (work.Way w) h = tt
pushes_so P most (work.Call w) h = tt
pushes_so P most (work.Thread w) h = tt

each_so : (A B : Operation → Type 0) → ((w : Operation) → A w → B w) → (is : List Instr) → Each (λ i. A i.does) is
    → Each (λ i. B i.does) is
each_so A B f [] h = tt
each_so A B f (i ∷ is) h = (f i.does h.0, each_so A B f is h.1)

all_so : (A B : Operation → Type 0) → ((w : Operation) → A w → B w) → (fs : List (List Instr))
    → Each (Each (λ i. A i.does)) fs → Each (Each (λ i. B i.does)) fs
all_so A B f [] h = tt
all_so A B f (is ∷ fs) h = (each_so A B f is h.0, all_so A B f fs h.1)

any_pushed : (ς : Source) → HoldsOf ς (λ v. Unit {0})
any_pushed ς = record { integer = λ v. tt; private = λ n. tt; shared = λ n. tt; blank = λ kind. tt }

pub program_begins : (program : Checked) → BeginsOnce (program_code program).functions
program_begins program = (
  (tt, (tt, (omega arith, (tt, (tt, (tt, tt)))))),
  all_so _ _ (begins_none (count_in program.functions)) _
      (functions_hold (source program) _ (any_pushed (source program)) (count_in program.functions) program.functions
      (omega arith)),
)

pub program_pushes : (program : Checked) → PushesOnly program
program_pushes program =
    let ς = source program in
    let each : HoldsOf ς (IsPushed ς) = record {
      integer = λ v. integer v refl;
      private = λ n. private n refl;
      shared = λ n. shared n refl;
      blank = λ kind. blank kind refl;
    } in (
      (tt, (tt, (tt, (tt, (tt, (tt, tt)))))),
      all_so _ _ (pushes_so (IsPushed ς) (count_in program.functions)) _
          (functions_hold ς (IsPushed ς) each (count_in program.functions) program.functions (omega arith)),
    )

enters_so : (P : Value → Type 0) (most : ℕ) (w : Operation) → Fine P most w → OnObject (EntersWithin most) w
enters_so P most (work.Stack w) h = tt
enters_so P most (work.Value w) h = tt
enters_so P most (work.Object w) h = h
enters_so P most (work.Way w) h = tt
enters_so P most (work.Call w) h = tt
enters_so P most (work.Thread w) h = tt

-- No block begins after more objects in scope than the program declares with its parameters.
pub program_enters : (program : Checked) → EntersFew program
program_enters program =
    let ς = source program in
    let most = count_of program in (
      (tt, (tt, (tt, (tt, (tt, (tt, tt)))))),
      all_so _ _ (enters_so (λ v. Unit {0}) most) _
          (functions_hold ς (λ v. Unit {0}) (any_pushed ς) most program.functions (omega arith)),
    )
