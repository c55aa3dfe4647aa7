-- What every operation of a thread keeps, each part of a program keeps, and so does a whole thread.
use Rattle.std.proofs.Common.{ℕ, zero, suc, ◌+◌, ◌<◌, ◌≤◌, ℤ, pos, List, [], ◌∷◌, ◌++◌, map, Option}
use Rattle.std.proofs.Common.{Some, None, Bool, false, refl, arith}
use Rattle.std.specs.Prelude.{neg_ℤ, slice_get}
use Rattle.std.specs.Ordering.{int_eq}
use Rattle.upc_text.specs.declared.place.Place.{Place}
use Rattle.block_layout.specs.declared.kind.Kind.{Kind}
use Rattle.integers.specs.declared.operator.BinOp.{BinOp}
use Rattle.integers.specs.declared.operator.BinOp.TheVariants as op
use Rattle.integers.specs.declared.operator.UnOp.{UnOp}
use Rattle.integers.specs.declared.operator.UnOp.TheVariants as un
use Rattle.upc_values.specs.declared.scalar.Value.{Value}
use Rattle.upc_values.specs.declared.scalar.Mark.{Mark}
use Rattle.upc_values.specs.declared.scalar.Mark.TheVariants.{Start, Finish}
use Rattle.upc_types.specs.Types.{CType, base_of}
use Rattle.integers.specs.Integers.{promoted}
use Rattle.typing_rules.specs.declared.setting.Home.{Home}
use Rattle.typing_rules.specs.declared.setting.Home.TheVariants as home
use Rattle.typing_rules.specs.Library.{int, call_parameters}
use Rattle.typing_rules.specs.Nodes.{Attr}
use Rattle.typing_rules.specs.Rules.{label_kind}
use Rattle.typed_tree.specs.declared.tree.Synchronises.{Synchronises}
use Rattle.typed_tree.specs.declared.tree.Synchronises.TheVariants.{Notify, Wait, Barrier}
use Rattle.typed_tree.specs.declared.tree.Target.TheVariants as target
use Rattle.typed_tree.specs.Tree.{Expr, Is, ExprKind, Literal, Mythread, Object, Callee, Format, Paren, Subscript}
use Rattle.typed_tree.specs.Tree.{Call, Member, MemberBehind, Step, Address, Dereference, Unary, SizeOf, SizeOfType}
use Rattle.typed_tree.specs.Tree.{Cast, Binary, And, Or, Assign, Compound, Conditional, Comma, Exprs, NoExprs}
use Rattle.typed_tree.specs.Tree.{AndExpr, place_of, Initial, NoInitial, InitialValue, InitialList, DeclaredObject}
use Rattle.typed_tree.specs.Tree.{Affinity, Everyone, AtValue, Head, Statement, Stands, StatementKind, Block, If}
use Rattle.typed_tree.specs.Tree.{Switch, While, DoWhile, For, Forall, Break, Continue, Return, Synchronise, Fence}
use Rattle.typed_tree.specs.Tree.{StatementOption, NoStatement, TheStatement, Arms, NoArms, AndArm, Items, NoItems}
use Rattle.typed_tree.specs.Tree.{AndObjects, AndStatement, SwitchItems, NoSwitchItems, AndCase, AndDefault}
use Rattle.typed_tree.specs.Tree.{AndSwitchStatement, Function}
use Rattle.typed_tree.specs.Tree as tree
use Rattle.thread_steps.specs.declared.cast.CastTo.{CastTo}
use Rattle.thread_steps.specs.States.{Doing, ◌>>=◌, ◌>>◌, give, skip, know, choose, fault}
use Rattle.thread_steps.specs.Values.{number, number_of, is_zero}
use Rattle.thread_steps.specs.Actions as a
use Rattle.thread_steps.specs.Pointers as p
use Rattle.thread_steps.specs.layer.Parts as own_parts
use Rattle.thread_steps.specs.Operators as o
use Rattle.thread_steps.specs.Blocks as b
use Rattle.thread_steps.proofs.Kept as k
use Rattle.thread_steps.proofs.Kept.{Property, IsKept}
use Rattle.source_meaning.specs.Types as t
use Rattle.source_meaning.specs.layer.Parts as parts
use Rattle.source_meaning.specs.Running.{Running, parameters_of}
use Rattle.source_meaning.specs.Expressions as e
use Rattle.source_meaning.specs.Expressions.{Calls}
use Rattle.source_meaning.specs.Statements as s
use Rattle.source_meaning.specs.layer.Parts.{Does}
use Rattle.source_meaning.specs.Statements.{Flow, Next, Broke, Again, Gave, Standing}
use Rattle.source_meaning.specs.Threads as h

module _ (ρ : Running) (P : Property) (K : IsKept ρ.thread P) where
  module _ (n d : ℕ) where
    first : {A B : Type 0} (m : Doing A) (f : A → Doing B) → P n d A m → ((v : A) → P n d B (f v)) → P n d B (m >>= f)
    first m f pm pf = k.first ρ.thread P K n d m f pm pf

    given : {A : Type 0} (v : A) → P n d A (give v)
    given {A = A} v = K.basic.of_give n d A v

    chosen : {A : Type 0} (test : Bool) (m r : Doing A) → P n d A m → P n d A r → P n d A (choose test m r)
    chosen test m r pm pr = k.choose_kept ρ.thread P K n d test m r pm pr

    cast_kept : (into : CastTo) (at : Place) (v : Value) → P n d Value (o.cast ρ.thread into at v)
    cast_kept into at v = k.cast_kept ρ.thread P K n d into at v

    -- ---- steps that several constructs take

    within_row_kept : (at : Place) (count : Option ℕ) (q : Value) (i : ℤ) → P n d (Unit {0})
        (parts.within_row at q i count)
    within_row_kept at None q i = given tt
    within_row_kept at (Some count) q i = chosen _ skip (fault (own_parts.outside q) at) (given tt)
        (K.basic.of_over n d (Unit {0}) _ tt)

    unary_kept : (at : Place) (op : UnOp) (kind : Option Kind) (v : Value) → P n d Value (e.unary at op kind v)
    unary_kept at un.Not kind v = given _
    unary_kept at op (Some kind) v = k.apply_kept ρ.thread P K n d op (promoted kind) at v
    unary_kept at op None v = given e.no_value

    integers_kept : (at : Place) (op : BinOp) (i j : Option Kind) (q r : Value) → P n d Value
        (parts.integers at op i j q r)
    integers_kept at op (Some i) (Some j) q r = k.operate_kept ρ.thread P K n d op _ _ at q r
    integers_kept at op (Some i) None q r = given e.no_value
    integers_kept at op None j q r = given e.no_value

    behind_kept : (at : Place) (type : CType) (q : Value) (i : ℤ) → P n d Value (e.behind ρ at type q i)
    behind_kept at type q i = k.advance_kept ρ.thread P K n d (t.elements_of ρ.structs type) at q _

    on_pointers_kept : (at : Place) (op : BinOp) (type : CType) (q r : Value)
        → P n d Value (e.on_pointers ρ at op type q r)
    on_pointers_kept at op.Subtract type q r = k.difference_kept ρ.thread P K n d (t.elements_of ρ.structs type) at q r
    on_pointers_kept at op.Equal type q r = k.same_kept ρ.thread P K n d q r
    on_pointers_kept at op.NotEqual type q r = first (p.same ρ.thread q r) _ (k.same_kept ρ.thread P K n d q r)
        (λ v. given _)
    on_pointers_kept at o type q r = k.order_kept ρ.thread P K n d o (t.elements_of ρ.structs type) at q r

    on_pointer_kept : (at : Place) (op : BinOp) (type : CType) (q r : Value)
        → P n d Value (parts.on_pointer ρ at type q r op)
    on_pointer_kept at op.Add type q r = behind_kept at type q (number_of r)
    on_pointer_kept at op.Subtract type q r = behind_kept at type q (neg_ℤ (number_of r))
    on_pointer_kept at o type q r = on_pointers_kept at o type q r

    before_pointer_kept : (at : Place) (op : BinOp) (type : CType) (q r : Value)
        → P n d Value (parts.before_pointer ρ at type q r op)
    before_pointer_kept at op.Add type q r = behind_kept at type r (number_of q)
    before_pointer_kept at o type q r = on_pointers_kept at o type q r

    operated_kept : (at : Place) (op : BinOp) (left right : Option CType) (i j : Option Kind) (q r : Value)
        → P n d Value (e.operated ρ at op left right i j q r)
    operated_kept at op (Some left) (Some right) i j q r = on_pointers_kept at op left q r
    operated_kept at op (Some left) None i j q r = on_pointer_kept at op left q r
    operated_kept at op None (Some right) i j q r = before_pointer_kept at op right q r
    operated_kept at op None None i j q r = integers_kept at op i j q r

    binary_kept : (at : Place) (op : BinOp) (left right : CType) (q r : Value)
        → P n d Value (e.binary ρ at op left right q r)
    binary_kept at op left right q r = operated_kept at op (t.target_of left) (t.target_of right)
        (t.integer_of left) (t.integer_of right) q r

    loaded_kept : (strict : Bool) (at : Place) (type : CType) (kind : Option Kind) (q : Value)
        → P n d Value (parts.loaded ρ strict at type q kind)
    loaded_kept strict at type (Some kind) q = k.load_kept ρ.thread P K n d kind (t.is_strict strict type) at q
    loaded_kept strict at type None q = given q

    held_kept : (strict : Bool) (at : Place) (type : CType) (q : Value) → P n d Value (e.held ρ strict at type q)
    held_kept strict at type q = loaded_kept strict at type (t.cell_kind ρ.structs type) q

    saved_kept : (strict : Bool) (at : Place) (type : CType) (kind : Option Kind) (q v : Value)
        → P n d (Unit {0}) (parts.saved ρ strict at type q v kind)
    saved_kept strict at type (Some kind) q v = k.save_kept ρ.thread P K n d kind (t.is_strict strict type) at q v
    saved_kept strict at type None q v = given tt

    put_kept : (strict : Bool) (at : Place) (type : CType) (q v : Value) → P n d (Unit {0}) (e.put ρ strict at type q v)
    put_kept strict at type q v = saved_kept strict at type (t.cell_kind ρ.structs type) q v

    value_in_kept : (strict : Bool) (at : Place) (attr : Attr) (v : Value) → P n d Value
        (parts.value_in ρ strict at attr v)
    value_in_kept strict at attr v = chosen (parts.is_lvalue attr.form) (e.held ρ strict at attr.ctype v) (give v)
        (held_kept strict at attr.ctype v) (given v)

    object_kept : (where_ : Home) → P n d Value (e.object ρ where_)
    object_kept (home.Private i) = given _
    object_kept (home.Shared i) = given _
    object_kept (home.Local i) = k.local_object_kept ρ.thread P K n d i

    converted_kept : (type : CType) (c : Expr) (m : Doing Value) → P n d Value m
        → P n d Value (e.converted_to ρ type c m)
    converted_kept type c m pm = first m _ pm (λ v. cast_kept _ (place_of c) v)

    truth_kept : (m : Doing Value) → P n d Value m → P n d Value (e.truth_after ρ m)
    truth_kept m pm = first m _ pm (λ v. given _)

    -- ---- expressions
    module _ (call : Calls) (calls : (i : ℕ) (args : List Value) (at : Place) → P n d Value (call i args at))
        (strict : Bool) where
      mutual
        pub value_kept : (c : Expr) → P n d Value (e.value ρ call strict c)
        value_kept (Is at attr kind) = first (e.given ρ call strict at attr kind) _ (given_kept at attr kind)
            (λ v. value_in_kept strict _ attr v)

        address_kept : (c : Expr) → P n d Value (e.address ρ call strict c)
        address_kept (Is at attr kind) = given_kept at attr kind

        given_kept : (at : Place) (attr : Attr) (kind : ExprKind) → P n d Value (e.given ρ call strict at attr kind)
        given_kept at attr Literal = given _
        given_kept at attr Mythread = given _
        given_kept at attr (SizeOf oper a) = given _
        given_kept at attr (SizeOfType oper type) = given _
        given_kept at attr (Object where_) = object_kept where_
        given_kept at attr (Callee callee) = given _
        given_kept at attr (Format bytes) = given _
        given_kept at attr (Paren a) = address_kept a
        given_kept at attr (Subscript a i) =
            first (e.value ρ call strict a) _ (value_kept a) (λ q.
            first (e.value ρ call strict i) _ (value_kept i) (λ j.
            first (e.behind ρ at attr.ctype q (number_of j)) _ (behind_kept at attr.ctype q (number_of j)) (λ r.
            first (parts.within_row at q (number_of j) (e.dimension a)) _
            (within_row_kept at (e.dimension a) q (number_of j)) (λ u.
            given r))))
        given_kept at attr (Call (target.Function i) args) =
            let types = t.conversions (e.types_of args) (parameters_of ρ i) in
            first (e.arguments ρ call strict types args []) _ (arguments_kept types args []) (λ vs. calls i vs at)
        given_kept at attr (Call (target.Library c) args) =
            let types = map t.parameter_conversion (call_parameters c) in
            chosen (parts.is_printf c) (e.printed ρ call strict args) _ (printed_kept args)
            (first (e.arguments ρ call strict types args []) _ (arguments_kept types args []) (λ vs.
            k.library_kept ρ.thread P K n d c (e.allocated_shape ρ c attr.ctype) at vs))
        given_kept at attr (Member a index) =
            first (e.address ρ call strict a) _ (address_kept a) (λ q.
            k.member_kept ρ.thread P K n d (t.member_offset ρ.structs (e.type_of a) index) at q)
        given_kept at attr (MemberBehind a index) =
            first (e.value ρ call strict a) _ (value_kept a) (λ q.
            k.member_kept ρ.thread P K n d (parts.target_offset ρ.structs index (t.target_of (e.type_of a))) at q)
        given_kept at attr (Step oper a) =
            let type = e.type_of a in
            first (e.address ρ call strict a) _ (address_kept a) (λ q.
            first (e.held ρ strict at type q) _ (held_kept strict at type q) (λ v.
            first (e.binary ρ at (e.step_operator ρ oper) type int v (number (pos 1))) _
            (binary_kept at (e.step_operator ρ oper) type int v (number (pos 1))) (λ w.
            first (o.cast ρ.thread (t.conversion type type) at w) _ (cast_kept (t.conversion type type) at w) (λ u.
            first (e.put ρ strict at type q u) _ (put_kept strict at type q u)
            (λ r. given (parts.step_value v u oper))))))
        given_kept at attr (Address a) = address_kept a
        given_kept at attr (Dereference a) = value_kept a
        given_kept at attr (Unary oper a) = first (e.value ρ call strict a) _ (value_kept a)
            (λ v. unary_kept at oper (t.integer_of (e.type_of a)) v)
        given_kept at attr (Cast a) = first (e.value ρ call strict a) _ (value_kept a)
            (λ v. cast_kept (t.conversion (e.type_of a) attr.ctype) at v)
        given_kept at attr (Binary oper a c) =
            first (e.value ρ call strict a) _ (value_kept a) (λ v.
            first (e.value ρ call strict c) _ (value_kept c) (λ w. binary_kept at oper (e.type_of a) (e.type_of c) v w))
        given_kept at attr (And a c) =
            first (e.value ρ call strict a) _ (value_kept a) (λ v.
            chosen (is_zero v) (give _) (e.truth_after ρ (e.value ρ call strict c)) (given _)
            (truth_kept (e.value ρ call strict c) (value_kept c)))
        given_kept at attr (Or a c) =
            first (e.value ρ call strict a) _ (value_kept a) (λ v.
            chosen (is_zero v) (e.truth_after ρ (e.value ρ call strict c)) (give _)
            (truth_kept (e.value ρ call strict c) (value_kept c)) (given _))
        given_kept at attr (Conditional test a c) =
            first (e.value ρ call strict test) _ (value_kept test) (λ v.
            chosen (is_zero v) (e.converted_to ρ attr.ctype c (e.value ρ call strict c))
            (e.converted_to ρ attr.ctype a (e.value ρ call strict a))
            (converted_kept attr.ctype c (e.value ρ call strict c) (value_kept c))
            (converted_kept attr.ctype a (e.value ρ call strict a) (value_kept a)))
        given_kept at attr (Assign a c) =
            first (e.address ρ call strict a) _ (address_kept a) (λ q.
            first (e.converted_to ρ (e.type_of a) c (e.value ρ call strict c)) _
            (converted_kept (e.type_of a) c (e.value ρ call strict c) (value_kept c)) (λ w.
            first (e.put ρ strict at (e.type_of a) q w) _ (put_kept strict at (e.type_of a) q w) (λ u. given w)))
        given_kept at attr (Compound oper a c) =
            first (e.address ρ call strict a) _ (address_kept a) (λ q.
            first (e.value ρ call strict c) _ (value_kept c) (λ v.
            first (e.held ρ strict at (e.type_of a) q) _ (held_kept strict at (e.type_of a) q) (λ w.
            first (e.binary ρ at oper (e.type_of a) (e.type_of c) w v) _
            (binary_kept at oper (e.type_of a) (e.type_of c) w v) (λ z.
            first (o.cast ρ.thread (t.conversion (e.type_of a) (e.type_of a)) at z) _
            (cast_kept (t.conversion (e.type_of a) (e.type_of a)) at z) (λ u.
            first (e.put ρ strict at (e.type_of a) q u) _ (put_kept strict at (e.type_of a) q u) (λ r. given u))))))
        given_kept at attr (Comma parts) = last_kept e.no_value parts

        printed_kept : (args : Exprs) → P n d Value (e.printed ρ call strict args)
        printed_kept NoExprs = given _
        printed_kept (AndExpr format more) =
            first (e.arguments ρ call strict (map t.promotion (e.types_of more)) more []) _
            (arguments_kept (map t.promotion (e.types_of more)) more []) (λ vs.
            k.print_kept ρ.thread P K n d (e.format_of format) vs)

        arguments_kept : (cs : List CastTo) (args : Exprs) (before : List Value)
            → P n d (List Value) (e.arguments ρ call strict cs args before)
        arguments_kept (c ∷ cs) (AndExpr a more) before =
            first (e.value ρ call strict a) _ (value_kept a) (λ v.
            first (o.cast ρ.thread c (place_of a) v) _ (cast_kept c (place_of a) v) (λ w.
            arguments_kept cs more (before ++ (w ∷ []))))
        arguments_kept (c ∷ cs) NoExprs before = given before
        arguments_kept [] args before = given before

        last_kept : (v : Value) (args : Exprs) → P n d Value (e.last ρ call strict v args)
        last_kept v NoExprs = given v
        last_kept v (AndExpr a more) = first (e.value ρ call strict a) _ (value_kept a) (λ w. last_kept w more)

    -- ---- statements

    go_on_kept : (f : Flow) (m : Does) → P n d Flow m → P n d Flow (parts.go_on m f)
    go_on_kept Next m pm = pm
    go_on_kept Broke m pm = given Broke
    go_on_kept Again m pm = given Again
    go_on_kept (Gave v) m pm = given (Gave v)

    turn_on_kept : (f : Flow) (m : Does) → P n d Flow m → P n d Flow (parts.turn_on m f)
    turn_on_kept Next m pm = pm
    turn_on_kept Broke m pm = given Next
    turn_on_kept Again m pm = pm
    turn_on_kept (Gave v) m pm = given (Gave v)

    blocked_kept : (from : ℕ) (objects : List DeclaredObject) (at : Place) (m : Does) → P n d Flow m
        → P n d Flow (s.blocked ρ from objects at m)
    blocked_kept from objects at m pm =
        first (b.open_block from (s.shapes_of ρ objects) at) _
        (k.open_kept ρ.thread P K n d from (s.shapes_of ρ objects) at) (λ u.
        first m _ pm (λ f.
        first b.close_block _ (k.close_kept ρ.thread P K n d at) (λ v. given f)))

    around_kept : (body last again : Does) → P n d Flow body → P n d Flow last → P n d Flow again
        → P n d Flow (s.around ρ body last again)
    around_kept body last again pb pl pa =
        first body _ pb (λ f. turn_on_kept f (last >> again) (first last _ pl (λ u. pa)))

    controlling_kept : (at : Place) (m : Does) → P n d Flow m → P n d Flow (s.controlling ρ m)
    controlling_kept at m pm =
        first b.control _ (k.control_kept ρ.thread P K n d at) (λ u.
        first m _ pm (λ f.
        first b.release _ (k.release_kept ρ.thread P K n d at) (λ v. given _)))

    synchronised_kept : (how : Synchronises) (at : Place) (mark : Mark)
        → P n d (Unit {0}) (s.synchronised ρ how at mark)
    synchronised_kept Notify at mark = k.notify_kept ρ.thread P K n d at mark
    synchronised_kept Wait at mark = k.wait_kept ρ.thread P K n d at mark
    synchronised_kept Barrier at mark =
        first (a.notify ρ.thread at mark) _ (k.notify_kept ρ.thread P K n d at mark)
        (λ u. k.wait_kept ρ.thread P K n d at mark)

  -- As many turns as the budget are enough where so many are.
  turns_kept : (d : ℕ) (test : Doing Value) (body last : Does) → P ρ.thread.budget d Value test
      → P ρ.thread.budget d Flow body → P ρ.thread.budget d Flow last → (n : ℕ) → n ≤ ρ.thread.budget
      → P n d Flow (s.turns ρ n test body last)
  turns_kept d test body last pt pb pl zero le = K.of_unfinished d Flow
  turns_kept d test body last pt pb pl (suc n) le =
      K.of_turn n d Flow _
      (first n d test _ (K.of_fewer n ρ.thread.budget d Value test (omega arith) pt) (λ v.
      chosen n d (is_zero v) (give Next) (s.around ρ body last (s.turns ρ n test body last)) (given n d Next)
      (around_kept n d body last (s.turns ρ n test body last)
      (K.of_fewer n ρ.thread.budget d Flow body (omega arith) pb)
      (K.of_fewer n ρ.thread.budget d Flow last (omega arith) pl)
      (turns_kept d test body last pt pb pl n (omega arith)))))

  loop_kept : (d : ℕ) (test : Doing Value) (body last : Does) → P ρ.thread.budget d Value test
      → P ρ.thread.budget d Flow body → P ρ.thread.budget d Flow last
      → P ρ.thread.budget d Flow (s.loop ρ test body last)
  loop_kept d test body last pt pb pl = turns_kept d test body last pt pb pl ρ.thread.budget (omega arith)

  module _ (d : ℕ) (call : Calls) (calls : (i : ℕ) (args : List Value) (at : Place) → P ρ.thread.budget d Value
      (call i args at)) where
    evaluated_kept : (κ : Standing) (c : Expr) → P ρ.thread.budget d Value (parts.evaluated ρ call κ c)
    evaluated_kept κ c = value_kept ρ.thread.budget d call calls κ.strict c

    then : {A B : Type 0} (m : Doing A) (f : A → Doing B) → P ρ.thread.budget d A m
        → ((v : A) → P ρ.thread.budget d B (f v)) → P ρ.thread.budget d B (m >>= f)
    then m f pm pf = first ρ.thread.budget d m f pm pf

    gives : {A : Type 0} (v : A) → P ρ.thread.budget d A (give v)
    gives v = given ρ.thread.budget d v

    aside_kept : (κ : Standing) (c : Option Expr) → P ρ.thread.budget d Flow (s.aside ρ call κ c)
    aside_kept κ None = gives Next
    aside_kept κ (Some c) = then (parts.evaluated ρ call κ c) _ (evaluated_kept κ c) (λ v. gives Next)

    tested_kept : (κ : Standing) (c : Option Expr) → P ρ.thread.budget d Value (s.tested ρ call κ c)
    tested_kept κ None = gives _
    tested_kept κ (Some c) = evaluated_kept κ c

    marked_kept : (κ : Standing) (c : Option Expr) → P ρ.thread.budget d Mark (s.marked ρ call κ c)
    marked_kept κ None = gives _
    marked_kept κ (Some c) = then (parts.evaluated ρ call κ c) _ (evaluated_kept κ c) (λ v. gives _)

    guarded_kept : (κ : Standing) (whose : Affinity) (at : Place) (m : Does) → P ρ.thread.budget d Flow m
        → P ρ.thread.budget d Flow (s.guarded ρ call κ whose m)
    guarded_kept κ Everyone at m pm = then m _ pm (λ f. gives _)
    guarded_kept κ (AtValue c) at m pm =
        then (know a.is_controlled) _ (K.basic.of_know ρ.thread.budget d Bool a.is_controlled (λ σ as_ rs. refl)) (λ v.
        chosen ρ.thread.budget d v (s.controlling ρ m) _ (controlling_kept ρ.thread.budget d at m pm)
        (then (parts.evaluated ρ call κ c) _ (evaluated_kept κ c) (λ w.
        then (b.mine ρ.thread (place_of c) w) _ (k.mine_kept ρ.thread P K ρ.thread.budget d (place_of c) w) (λ z.
        chosen ρ.thread.budget d (is_zero z) (give Next) (s.controlling ρ m) (gives Next)
        (controlling_kept ρ.thread.budget d at m pm)))))

    listed_kept : (κ : Standing) (y : DeclaredObject) (i : ℕ) (cs : Exprs)
        → P ρ.thread.budget d (Unit {0}) (s.listed ρ call κ y i cs)
    listed_kept κ y i NoExprs = gives tt
    listed_kept κ y i (AndExpr c more) =
        let type = s.element_type (base_of y.ctype) y.ctype in
        then (e.object ρ y.home) _ (object_kept ρ.thread.budget d y.home) (λ q.
        then (e.behind ρ y.at type q (pos i)) _ (behind_kept ρ.thread.budget d y.at type q (pos i)) (λ r.
        then (e.converted_to ρ type c (parts.evaluated ρ call κ c)) _
        (converted_kept ρ.thread.budget d type c (parts.evaluated ρ call κ c) (evaluated_kept κ c)) (λ v.
        then (e.put ρ κ.strict y.at type r v) _ (put_kept ρ.thread.budget d κ.strict y.at type r v) (λ u.
        listed_kept κ y (i + 1) more))))

    initialised_kept : (κ : Standing) (y : DeclaredObject) (i : Initial)
        → P ρ.thread.budget d (Unit {0}) (s.initialised ρ call κ y i)
    initialised_kept κ y NoInitial = gives tt
    initialised_kept κ y (InitialValue c) =
        then (e.object ρ y.home) _ (object_kept ρ.thread.budget d y.home) (λ q.
        then (e.converted_to ρ y.ctype c (parts.evaluated ρ call κ c)) _
        (converted_kept ρ.thread.budget d y.ctype c (parts.evaluated ρ call κ c) (evaluated_kept κ c)) (λ v.
        put_kept ρ.thread.budget d κ.strict y.at y.ctype q v))
    initialised_kept κ y (InitialList cs) = listed_kept κ y 0 cs

    declared_kept : (κ : Standing) (ys : List DeclaredObject) → P ρ.thread.budget d (Unit {0}) (s.declared ρ call κ ys)
    declared_kept κ [] = gives tt
    declared_kept κ (y ∷ ys) =
        then (s.initialised ρ call κ y y.initial) _ (initialised_kept κ y y.initial) (λ u. declared_kept κ ys)

    headed_kept : (κ : Standing) (at : Place) (head : Head) (m : Does) → P ρ.thread.budget d Flow m
        → P ρ.thread.budget d Flow (s.headed ρ call κ at head m)
    headed_kept κ at head m pm =
        blocked_kept ρ.thread.budget d κ.count head.objects at _
        (then (s.declared ρ call κ head.objects) _ (declared_kept κ head.objects) (λ u.
        then (s.aside ρ call κ head.first) _ (aside_kept κ head.first) (λ f. pm)))

    mutual
      pub run_kept : (κ : Standing) (z : Statement) → P ρ.thread.budget d Flow (s.run ρ call κ z)
      run_kept κ (Stands at kind) = kind_kept κ at kind

      kind_kept : (κ : Standing) (at : Place) (kind : StatementKind)
          → P ρ.thread.budget d Flow (s.run_kind ρ call κ at kind)
      kind_kept κ at (Block strict items) = blocked_kept ρ.thread.budget d κ.count (s.objects_in items) at _
          (items_kept (parts.with_strict strict κ) items)
      kind_kept κ at (tree.Value c) = aside_kept κ c
      kind_kept κ at (If arms last) = arms_kept κ arms (s.run_last ρ call κ last) (otherwise_kept κ last)
      kind_kept κ at (Switch c items) =
          then (parts.evaluated ρ call κ c) _ (evaluated_kept κ c) (λ v.
          let label = label_kind (t.integer_of (e.type_of c)) (number_of v) in
          then (s.from_case ρ call κ label items (s.from_default ρ call κ items)) _
          (case_kept κ label items (s.from_default ρ call κ items) (default_kept κ items))
          (λ f. gives (parts.caught f)))
      kind_kept κ at (While test body) = loop_kept d (parts.evaluated ρ call κ test) (s.run ρ call κ body) (give Next)
          (evaluated_kept κ test) (run_kept κ body) (gives Next)
      kind_kept κ at (DoWhile body test) =
          around_kept ρ.thread.budget d (s.run ρ call κ body) (give Next)
          (s.loop ρ (parts.evaluated ρ call κ test) (s.run ρ call κ body) (give Next))
          (run_kept κ body) (gives Next)
          (loop_kept d (parts.evaluated ρ call κ test) (s.run ρ call κ body) (give Next) (evaluated_kept κ test)
          (run_kept κ body) (gives Next))
      kind_kept κ at (For head body) =
          let η = s.with_objects head.objects κ in
          headed_kept κ at head _
          (loop_kept d (s.tested ρ call η head.test) (s.run ρ call η body) (s.aside ρ call η head.step)
          (tested_kept η head.test) (run_kept η body) (aside_kept η head.step))
      kind_kept κ at (Forall head whose body) =
          let η = s.with_objects head.objects κ in
          headed_kept κ at head _
          (loop_kept d (s.tested ρ call η head.test) (s.guarded ρ call η whose (s.run ρ call η body))
          (s.aside ρ call η head.step)
          (tested_kept η head.test) (guarded_kept η whose at (s.run ρ call η body) (run_kept η body))
          (aside_kept η head.step))
      kind_kept κ at Break = gives Broke
      kind_kept κ at Continue = gives Again
      kind_kept κ at (Return None) = gives _
      kind_kept κ at (Return (Some c)) =
          then (e.converted_to ρ κ.result c (parts.evaluated ρ call κ c)) _
          (converted_kept ρ.thread.budget d κ.result c (parts.evaluated ρ call κ c) (evaluated_kept κ c))
          (λ v. gives _)
      kind_kept κ at (Synchronise how c) =
          then (s.marked ρ call κ c) _ (marked_kept κ c) (λ mark.
          then (s.synchronised ρ how at mark) _ (synchronised_kept ρ.thread.budget d how at mark) (λ u. gives Next))
      kind_kept κ at Fence = then (a.fence ρ.thread) _ (k.fence_kept ρ.thread P K ρ.thread.budget d) (λ u. gives Next)

      otherwise_kept : (κ : Standing) (z : StatementOption) → P ρ.thread.budget d Flow (s.run_last ρ call κ z)
      otherwise_kept κ NoStatement = gives Next
      otherwise_kept κ (TheStatement z) = run_kept κ z

      arms_kept : (κ : Standing) (arms : Arms) (last : Does) → P ρ.thread.budget d Flow last
          → P ρ.thread.budget d Flow (s.run_arms ρ call κ arms last)
      arms_kept κ NoArms last pl = pl
      arms_kept κ (AndArm test body more) last pl =
          then (parts.evaluated ρ call κ test) _ (evaluated_kept κ test) (λ v.
          chosen ρ.thread.budget d (is_zero v) (s.run_arms ρ call κ more last) (s.run ρ call κ body)
          (arms_kept κ more last pl) (run_kept κ body))

      pub items_kept : (κ : Standing) (items : Items) → P ρ.thread.budget d Flow (s.run_items ρ call κ items)
      items_kept κ NoItems = gives Next
      items_kept κ (AndObjects objects more) =
          then (s.declared ρ call κ objects) _ (declared_kept κ objects)
          (λ u. items_kept (s.with_objects objects κ) more)
      items_kept κ (AndStatement z more) =
          then (s.run ρ call κ z) _ (run_kept κ z) (λ f. go_on_kept ρ.thread.budget d f (s.run_items ρ call κ more)
          (items_kept κ more))

      switch_kept : (κ : Standing) (items : SwitchItems) → P ρ.thread.budget d Flow (s.run_switch ρ call κ items)
      switch_kept κ NoSwitchItems = gives Next
      switch_kept κ (AndCase w more) = switch_kept κ more
      switch_kept κ (AndDefault more) = switch_kept κ more
      switch_kept κ (AndSwitchStatement z more) =
          then (s.run ρ call κ z) _ (run_kept κ z) (λ f. go_on_kept ρ.thread.budget d f (s.run_switch ρ call κ more)
          (switch_kept κ more))

      case_kept : (κ : Standing) (v : ℤ) (items : SwitchItems) (other : Does) → P ρ.thread.budget d Flow other
          → P ρ.thread.budget d Flow (s.from_case ρ call κ v items other)
      case_kept κ v NoSwitchItems other po = po
      case_kept κ v (AndCase w more) other po =
          chosen ρ.thread.budget d (int_eq v w) (s.run_switch ρ call κ more) (s.from_case ρ call κ v more other)
          (switch_kept κ more) (case_kept κ v more other po)
      case_kept κ v (AndDefault more) other po = case_kept κ v more other po
      case_kept κ v (AndSwitchStatement z more) other po = case_kept κ v more other po

      default_kept : (κ : Standing) (items : SwitchItems) → P ρ.thread.budget d Flow (s.from_default ρ call κ items)
      default_kept κ NoSwitchItems = gives Next
      default_kept κ (AndCase w more) = default_kept κ more
      default_kept κ (AndDefault more) = switch_kept κ more
      default_kept κ (AndSwitchStatement z more) = default_kept κ more

  -- ---- calls

  received_kept : (d : ℕ) (at : Place) (i : ℕ) (types : List CType) (args : List Value)
      → P ρ.thread.budget d (Unit {0}) (h.received ρ at i types args)
  received_kept d at i (type ∷ types) (v ∷ vs) =
      first ρ.thread.budget d (b.local_object i) _ (k.local_object_kept ρ.thread P K ρ.thread.budget d i) (λ q.
      first ρ.thread.budget d (e.put ρ false at type q v) _ (put_kept ρ.thread.budget d false at type q v) (λ u.
      received_kept d at (i + 1) types vs))
  received_kept d at i (type ∷ types) [] = given ρ.thread.budget d tt
  received_kept d at i [] args = given ρ.thread.budget d tt

  module _ (d : ℕ) (call : Calls) (calls : (i : ℕ) (args : List Value) (at : Place) → P ρ.thread.budget d Value
      (call i args at)) where
    opened_kept : (f : Function) (args : List Value) (at : Place) (strict : Bool) (items : Items)
        → P ρ.thread.budget d Flow (parts.opened ρ call f args at strict items)
    opened_kept f args at strict items =
        first ρ.thread.budget d (b.open_block 0 (parts.shapes_in ρ f items) at) _
        (k.open_kept ρ.thread P K ρ.thread.budget d 0 (parts.shapes_in ρ f items) at) (λ u.
        first ρ.thread.budget d (h.received ρ at 0 f.parameters args) _ (received_kept d at 0 f.parameters args) (λ v.
        first ρ.thread.budget d (s.run_items ρ call (h.in_body ρ f strict) items) _
        (items_kept d call calls (h.in_body ρ f strict) items) (λ flow.
        first ρ.thread.budget d b.close_block _ (k.close_kept ρ.thread P K ρ.thread.budget d at)
        (λ w. given ρ.thread.budget d flow))))

    body_kept : (f : Function) (args : List Value) (z : Statement) → P ρ.thread.budget d Flow (h.body ρ call f args z)
    body_kept f args (Stands at (Block strict items)) = opened_kept f args at strict items
    body_kept f args (Stands at kind) = run_kept d call calls (h.in_body ρ f false) (Stands at kind)

    function_kept : (f : Option Function) (args : List Value) → P ρ.thread.budget d Value (h.function ρ call f args)
    function_kept None args = given ρ.thread.budget d e.no_value
    function_kept (Some f) args = first ρ.thread.budget d (h.body ρ call f args f.body) _ (body_kept f args f.body)
        (λ flow. given ρ.thread.budget d _)

  -- Where the calls that are active and those that may be tried are more than may be active, they are enough.
  called_kept : (n d : ℕ) → 1000 < n + d → d ≤ 1000 → (i : ℕ) (args : List Value) (at : Place)
      → P ρ.thread.budget d Value (h.called ρ n i args at)
  called_kept zero d more few i args at = absurd (omega arith)
  called_kept (suc n) d more few i args at =
      let f = slice_get ρ.functions i in
      first ρ.thread.budget d (a.tick ρ.thread) _ (K.of_tick ρ.thread.budget d) (λ u.
      K.of_call ρ.thread.budget d Value at (h.function ρ (h.called ρ n) f args) (λ lt.
      function_kept (suc d) (h.called ρ n) (called_kept n (suc d) (omega arith) (omega arith)) f args))

  main_called_kept : (f : Option Function) → P ρ.thread.budget 0 Value (h.main_called ρ f)
  unfolding h.most_calls
  main_called_kept f =
      K.of_call ρ.thread.budget 0 Value (h.main_place ρ f) (h.function ρ (h.called ρ 1000) f []) (λ lt.
      function_kept 1 (h.called ρ 1000) (called_kept 1000 1 (omega arith) (omega arith)) f [])

  pub main_on_kept : (f : Option Function) → P ρ.thread.budget 0 ℤ (parts.main_on ρ f)
  main_on_kept f =
      let at = h.main_place ρ f in
      let N = ρ.thread.budget in
      first N 0 (h.main_called ρ f) _ (main_called_kept f) (λ w.
      first N 0 (a.notify ρ.thread at Finish) _ (k.notify_kept ρ.thread P K N 0 at Finish) (λ x.
      first N 0 (a.wait ρ.thread at Finish) _ (k.wait_kept ρ.thread P K N 0 at Finish) (λ y. given N 0 _)))

  -- So does a whole thread.
  pub course_kept : P ρ.thread.budget 0 ℤ (h.course ρ)
  course_kept = from (h.main_of ρ.functions)
    where
      from : (f : Option Function) → P ρ.thread.budget 0 ℤ (parts.course_from ρ f)
      from f =
          let at = h.main_place ρ f in
          let N = ρ.thread.budget in
          first N 0 (a.notify ρ.thread at Start) _ (k.notify_kept ρ.thread P K N 0 at Start) (λ u.
          first N 0 (a.wait ρ.thread at Start) _ (k.wait_kept ρ.thread P K N 0 at Start) (λ v. main_on_kept f))
