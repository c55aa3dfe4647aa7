-- Statements keep the cells of private objects, and functions give values of the types of their results.
use Rattle.std.proofs.Common.{◌≡◌, ℕ, zero, suc, ◌+◌, Bool, true, false, List, [], ◌∷◌, Option, Some, None}
use Rattle.std.proofs.Common.{slice_get, refl, sym, ap, subst}
use Rattle.std.proofs.Math.IntN.{ℤ, pos}
use Rattle.std.specs.Ordering.{int_eq}
use Rattle.std.specs.List.{find}
use Rattle.std.specs.Prelude.{if◌then◌else◌}
use Rattle.std.proofs.lemmas.Bool.{false≢true}
use Rattle.upc_text.specs.declared.place.Place.{Place}
use Rattle.block_layout.specs.declared.kind.Kind.{Kind}
use Rattle.upc_values.specs.declared.scalar.Value.{Value}
use Rattle.upc_values.specs.declared.scalar.Mark.{Mark}
use Rattle.upc_values.specs.Lists.{Each}
use Rattle.upc_types.specs.Types as types
use Rattle.upc_types.specs.Types.{CType, Qualified, Structs, base_of}
use Rattle.typing_rules.specs.declared.setting.Home.{Home}
use Rattle.typing_rules.specs.declared.setting.Home.TheVariants as home
use Rattle.typing_rules.specs.Values.{is_void, base_target}
use Rattle.typing_rules.specs.Nodes as n
use Rattle.typing_rules.specs.Nodes.{Around, Use}
use Rattle.typing_rules.specs.Rules.{judge, table, label_kind, rule_26}
use Rattle.typed_tree.specs.declared.tree.Synchronises.{Synchronises}
use Rattle.typed_tree.specs.declared.tree.Synchronises.TheVariants.{Notify, Wait, Barrier}
use Rattle.typed_tree.specs.Tree.{Expr, Exprs, NoExprs, AndExpr, place_of, Initial, NoInitial, InitialValue}
use Rattle.typed_tree.specs.Tree.{InitialList}
use Rattle.typed_tree.specs.Tree.{DeclaredObject, Affinity, Everyone, AtValue, Head, Statement, Stands, StatementKind}
use Rattle.typed_tree.specs.Tree.{Block, If, Switch, While, DoWhile, For, Forall, Break, Continue, Return}
use Rattle.typed_tree.specs.Tree.{Synchronise}
use Rattle.typed_tree.specs.Tree.{Fence, StatementOption, NoStatement, TheStatement, Arms, NoArms, AndArm, Items}
use Rattle.typed_tree.specs.Tree.{NoItems}
use Rattle.typed_tree.specs.Tree.{AndObjects, AndStatement, SwitchItems, NoSwitchItems, AndCase, AndDefault}
use Rattle.typed_tree.specs.Tree.{AndSwitchStatement, Function}
use Rattle.typed_tree.specs.Tree as tree
use Rattle.typed_tree.specs.Programs.{Checked}
use Rattle.typed_tree.specs.Words.{in_loop, in_switch, in_forall, element_use}
use Rattle.typed_tree.specs.layer.Judged.{facts_at}
use Rattle.typed_tree.specs.layer.TypedNodes.{MeetsExpr, MeetsValue, MeetsValues, MeetsInitial, MeetsObjects}
use Rattle.typed_tree.specs.layer.TypedNodes.{MeetsHead}
use Rattle.typed_tree.specs.layer.TypedNodes.{MeetsAffinity, MeetsStatement, MeetsBy, MeetsLast, MeetsArms}
use Rattle.typed_tree.specs.layer.TypedNodes.{MeetsItems}
use Rattle.typed_tree.specs.layer.TypedNodes.{MeetsSwitch, MeetsFunction, MeetsRules, behind_all, behind, around}
use Rattle.thread_steps.specs.States.{Doing, ◌>>◌, give, know}
use Rattle.thread_steps.specs.Values.{number_of, is_zero}
use Rattle.thread_steps.specs.Actions as a
use Rattle.thread_steps.specs.Blocks as b
use Rattle.thread_steps.proofs.Blanks.{blank_fits}
use Rattle.source_meaning.specs.Types as t
use Rattle.source_meaning.specs.layer.Parts as parts
use Rattle.source_meaning.specs.Types.{cell_kind}
use Rattle.source_meaning.specs.Running.{Running, running}
use Rattle.source_meaning.specs.Expressions as e
use Rattle.source_meaning.specs.Expressions.{Calls, type_of}
use Rattle.source_meaning.specs.Statements as s
use Rattle.source_meaning.specs.layer.Parts.{Does}
use Rattle.source_meaning.specs.Statements.{Flow, Next, Broke, Again, Gave, Standing}
use Rattle.source_meaning.specs.Threads as h
use Rattle.meaning_laws.specs.layer.Values.{FitsCell, IsOf, IsFormedType, Brings}
use Rattle.meaning_laws.specs.layer.Formed.{MakesShaped, IsFormed, AreFormed, CallsFit}
use Rattle.meaning_laws.specs.layer.FormedStatements.{IsFormedInitial, AreFormedObjects, IsFormedValue}
use Rattle.meaning_laws.specs.layer.FormedStatements.{IsFormedAffinity}
use Rattle.meaning_laws.specs.layer.FormedStatements.{IsFormedHead, IsFormedStatement, IsFormedBy, IsFormedLast}
use Rattle.meaning_laws.specs.layer.FormedStatements.{AreFormedArms, AreFormedItems, AreFormedSwitch}
use Rattle.meaning_laws.specs.layer.FormedStatements.{IsFormedFunction}
use Rattle.meaning_laws.specs.layer.FormedStatements.{LeavesBy}
use Rattle.meaning_laws.specs.code.Laws.{BodiesAreCounted, FunctionsKeepTypes, MainsKeepTypes}
use Rattle.meaning_laws.proofs.Steps.{Any, give_brings, skip_brings, first_brings, weaker_brings, choose_brings}
use Rattle.meaning_laws.proofs.Operators.{IsNoArray, is_of, integer_kind, no_array_value, any_behind, put_brings}
use Rattle.meaning_laws.proofs.Rules.{unbroken, holds}
use Rattle.meaning_laws.proofs.Shaped.{shaped_functions}
use Rattle.meaning_laws.proofs.Expressions.{value_keeps, converted_fits, any_cast}
use Rattle.private_store.specs.Live.{controls_in}
use Rattle.meaning_laws.proofs.Calls.{control_counts}
use Rattle.meaning_laws.proofs.Going.{know_brings, open_brings, close_brings, call_brings, controlled_brings}
use Rattle.meaning_laws.proofs.Going.{any_local, tick_brings, notify_brings, wait_brings}
use Rattle.meaning_laws.proofs.Going.{fence_brings}
use Rattle.meaning_laws.proofs.Going.{mine_brings}

-- What is void has no cell.
void_fits : (structs : Structs) (u : CType) (v : Value) → is_void u ≡ true → FitsCell (cell_kind structs u) v
void_fits structs (Qualified types.Void c s x) v q = tt
void_fits structs (Qualified (types.Integer k) c s x) v q = absurd (false≢true q)
void_fits structs (Qualified (types.Pointer u) c s x) v q = absurd (false≢true q)
void_fits structs (Qualified (types.Array u count) c s x) v q = absurd (false≢true q)
void_fits structs (Qualified (types.Struct m) c s x) v q = absurd (false≢true q)
void_fits structs (Qualified types.LockObject c s x) v q = absurd (false≢true q)

-- ---- ways out

module _ (kind : Option Kind) where
  abbrev Flows : Flow → Type 0
  Flows f = LeavesBy kind f

  go_on_brings : (f : Flow) (m : Does) → Flows f → Brings Flow Flows m → Brings Flow Flows (parts.go_on m f)
  go_on_brings Next m g q = q
  go_on_brings Broke m g q = give_brings Flows Broke tt
  go_on_brings Again m g q = give_brings Flows Again tt
  go_on_brings (Gave v) m g q = give_brings Flows (Gave v) g

  turn_on_brings : (f : Flow) (m : Does) → Flows f → Brings Flow Flows m → Brings Flow Flows (parts.turn_on m f)
  turn_on_brings Next m g q = q
  turn_on_brings Broke m g q = give_brings Flows Next tt
  turn_on_brings Again m g q = q
  turn_on_brings (Gave v) m g q = give_brings Flows (Gave v) g

  caught_flows : (f : Flow) → Flows f → Flows (parts.caught f)
  caught_flows Next g = tt
  caught_flows Broke g = tt
  caught_flows Again g = tt
  caught_flows (Gave v) g = g

  finished_flows : (f : Flow) → Flows f → Flows (s.finished f)
  finished_flows Next g = tt
  finished_flows Broke g = tt
  finished_flows Again g = tt
  finished_flows (Gave v) g = g

  -- What a function gives fits a cell of its result.
  given_fits : (f : Flow) → Flows f → FitsCell kind (parts.given_by (h.blank_of kind) f)
  given_fits (Gave v) g = g
  given_fits Next g = blank kind
    where
      blank : (k : Option Kind) → FitsCell k (h.blank_of k)
      blank (Some k) = blank_fits k
      blank None = tt
  given_fits Broke g = blank kind
    where
      blank : (k : Option Kind) → FitsCell k (h.blank_of k)
      blank (Some k) = blank_fits k
      blank None = tt
  given_fits Again g = blank kind
    where
      blank : (k : Option Kind) → FitsCell k (h.blank_of k)
      blank (Some k) = blank_fits k
      blank None = tt

  module _ (ρ : Running) where
    around_brings : (body last again : Does) → Brings Flow Flows body → Brings Flow Flows last
        → Brings Flow Flows again → Brings Flow Flows (s.around ρ body last again)
    around_brings body last again pb pl pa =
        first_brings Flows Flows body _ pb (λ f g.
        turn_on_brings f (last >> again) g (first_brings Flows Flows last _ pl (λ u v. pa)))

    turns_brings : (n : ℕ) (test : Doing Value) (body last : Does) → Brings Value Any test → Brings Flow Flows body
        → Brings Flow Flows last → Brings Flow Flows (s.turns ρ n test body last)
    turns_brings zero test body last pt pb pl = record { by = λ σ i. tt }
    turns_brings (suc n) test body last pt pb pl =
        first_brings Any Flows (a.tick ρ.thread) _ (tick_brings ρ.thread) (λ u v.
        first_brings Any Flows test _ pt (λ w g.
        choose_brings Flows (is_zero w) (give Next) (s.around ρ body last (s.turns ρ n test body last))
        (give_brings Flows Next tt)
        (around_brings body last (s.turns ρ n test body last) pb pl (turns_brings n test body last pt pb pl))))

    loop_brings : (test : Doing Value) (body last : Does) → Brings Value Any test → Brings Flow Flows body
        → Brings Flow Flows last → Brings Flow Flows (s.loop ρ test body last)
    loop_brings test body last pt pb pl = turns_brings ρ.thread.budget test body last pt pb pl

    controlling_brings : (m : Does) → Brings Flow Flows m → Brings Flow Flows (s.controlling ρ m)
    controlling_brings m pm =
        controlled_brings Flows Flows m s.finished pm finished_flows

    blocked_brings : (from : ℕ) (objects : List DeclaredObject) (at : Place) (m : Does) → Brings Flow Flows m
        → Brings Flow Flows (s.blocked ρ from objects at m)
    blocked_brings from objects at m pm =
        first_brings Any Flows (b.open_block from (s.shapes_of ρ objects) at) _
        (open_brings from (s.shapes_of ρ objects) at) (λ u v.
        first_brings Flows Flows m _ pm (λ f g.
        first_brings Any Flows b.close_block _ close_brings (λ w x. give_brings Flows f g)))

synchronised_brings : (ρ : Running) (how : Synchronises) (at : Place) (mark : Mark)
    → Brings (Unit {0}) Any (s.synchronised ρ how at mark)
synchronised_brings ρ Notify at mark = notify_brings ρ.thread at mark
synchronised_brings ρ Wait at mark = wait_brings ρ.thread at mark
synchronised_brings ρ Barrier at mark =
    first_brings Any Any (a.notify ρ.thread at mark) _ (notify_brings ρ.thread at mark) (λ u v.
    wait_brings ρ.thread at mark)

any_object : (ρ : Running) (where_ : Home) → Brings Value Any (e.object ρ where_)
any_object ρ (home.Private i) = give_brings Any _ tt
any_object ρ (home.Shared i) = give_brings Any _ tt
any_object ρ (home.Local i) = any_local i

module _ (program : Checked) (thread budget : ℕ) where
  abbrev ρ : Running
  ρ = running program thread budget

  abbrev Makes : CType → Type 0
  Makes = MakesShaped program

  module _ (call : Calls) (fit : CallsFit ρ call) where
    evaluated_brings : (locals : List CType) (how : Use) (κ : Standing) (c : Expr) → MeetsExpr program locals how c
        → IsFormed Makes c → Brings Value Any (parts.evaluated ρ call κ c)
    evaluated_brings locals how κ c m f =
        weaker_brings (IsOf ρ.structs (type_of c)) Any (e.value ρ call κ.strict c)
        (value_keeps program thread budget call fit locals κ.strict how c m f) (λ v g. tt)

    converted_brings : (locals : List CType) (how : Use) (κ : Standing) (u : CType) (c : Expr)
        → MeetsExpr program locals how c → IsFormed Makes c
        → Brings Value Any (e.converted_to ρ u c (parts.evaluated ρ call κ c))
    converted_brings locals how κ u c m f =
        first_brings Any Any (parts.evaluated ρ call κ c) _ (evaluated_brings locals how κ c m f) (λ v g.
        any_cast program thread budget _ (place_of c) v)

    aside_brings : (kind : Option Kind) (locals : List CType) (κ : Standing) (c : Option Expr)
        → MeetsValue program locals c → IsFormedValue Makes c → Brings Flow (LeavesBy kind) (s.aside ρ call κ c)
    aside_brings kind locals κ None m f = give_brings (LeavesBy kind) Next tt
    aside_brings kind locals κ (Some c) m f =
        first_brings Any (LeavesBy kind) (parts.evaluated ρ call κ c) _ (evaluated_brings locals n.Plain κ c m f)
        (λ v g.
        give_brings (LeavesBy kind) Next tt)

    tested_brings : (locals : List CType) (κ : Standing) (c : Option Expr) → MeetsValue program locals c
        → IsFormedValue Makes c → Brings Value Any (s.tested ρ call κ c)
    tested_brings locals κ None m f = give_brings Any _ tt
    tested_brings locals κ (Some c) m f = evaluated_brings locals n.Plain κ c m f

    guarded_brings : (kind : Option Kind) (locals : List CType) (κ : Standing) (whose : Affinity) (m : Does)
        → MeetsAffinity program locals whose → IsFormedAffinity Makes whose → Brings Flow (LeavesBy kind) m
        → Brings Flow (LeavesBy kind) (s.guarded ρ call κ whose m)
    guarded_brings kind locals κ Everyone m g f pm =
        first_brings (LeavesBy kind) (LeavesBy kind) m _ pm (λ w x.
        give_brings (LeavesBy kind) (s.finished w) (finished_flows kind w x))
    guarded_brings kind locals κ (AtValue c) m g f pm =
        let rest = LeavesBy kind in
        first_brings Any rest (know a.is_controlled) _ (know_brings a.is_controlled) (λ v y.
        choose_brings rest v (s.controlling ρ m) _ (controlling_brings kind ρ m pm)
        (first_brings Any rest (parts.evaluated ρ call κ c) _ (evaluated_brings locals n.Plain κ c g.1 f) (λ w x.
        first_brings Any rest (b.mine ρ.thread (place_of c) w) _ (mine_brings ρ.thread (place_of c) w) (λ z q.
        choose_brings rest (is_zero z) (give Next) (s.controlling ρ m) (give_brings rest Next tt)
        (controlling_brings kind ρ m pm)))))

    listed_brings : (locals : List CType) (how : Use) (κ : Standing) (y : DeclaredObject) (i : ℕ) (cs : Exprs)
        → MeetsValues program locals false how cs → AreFormed Makes cs
        → Brings (Unit {0}) Any (s.listed ρ call κ y i cs)
    listed_brings locals how κ y i NoExprs m f = skip_brings
    listed_brings locals how κ y i (AndExpr c more) m f =
        let u = s.element_type (base_of y.ctype) y.ctype in
        first_brings Any Any (e.object ρ y.home) _ (any_object ρ y.home) (λ q g.
        first_brings Any Any (e.behind ρ y.at u q (pos i)) _ (any_behind ρ y.at u q (pos i)) (λ r x.
        first_brings Any Any (e.converted_to ρ u c (parts.evaluated ρ call κ c)) _
        (converted_brings locals how κ u c m.0 f.0) (λ v w.
        first_brings Any Any (e.put ρ κ.strict y.at u r v) _ (put_brings ρ κ.strict y.at u r v) (λ z j.
        listed_brings locals how κ y (i + 1) more m.2 f.1))))

    initialised_brings : (locals : List CType) (κ : Standing) (y : DeclaredObject) (i : Initial)
        → MeetsInitial program locals false y.ctype i → IsFormedInitial Makes i
        → Brings (Unit {0}) Any (s.initialised ρ call κ y i)
    initialised_brings locals κ y NoInitial m f = skip_brings
    initialised_brings locals κ y (InitialValue c) m f =
        first_brings Any Any (e.object ρ y.home) _ (any_object ρ y.home) (λ q g.
        first_brings Any Any (e.converted_to ρ y.ctype c (parts.evaluated ρ call κ c)) _
        (converted_brings locals (n.Into y.ctype) κ y.ctype c m.1 f) (λ v w.
        put_brings ρ κ.strict y.at y.ctype q v))
    initialised_brings locals κ y (InitialList cs) m f =
        listed_brings locals (element_use (base_target (base_of y.ctype))) κ y 0 cs m.1 f

    declared_brings : (locals : List CType) (κ : Standing) (ys : List DeclaredObject)
        → MeetsObjects program locals false ys → AreFormedObjects Makes ys
        → Brings (Unit {0}) Any (s.declared ρ call κ ys)
    declared_brings locals κ [] m f = skip_brings
    declared_brings locals κ (y ∷ ys) m f =
        first_brings Any Any (s.initialised ρ call κ y y.initial) _
        (initialised_brings (behind locals y) κ y y.initial m.0.initial f.0.initial) (λ u v.
        declared_brings (behind locals y) κ ys m.1 f.1)

    headed_brings : (kind : Option Kind) (locals : List CType) (κ : Standing) (at : Place) (head : Head) (m : Does)
        → MeetsHead program locals head → IsFormedHead Makes head → Brings Flow (LeavesBy kind) m
        → Brings Flow (LeavesBy kind) (s.headed ρ call κ at head m)
    headed_brings kind locals κ at head m g f pm =
        blocked_brings kind ρ κ.count head.objects at _
        (first_brings Any (LeavesBy kind) (s.declared ρ call κ head.objects) _
        (declared_brings locals κ head.objects g.0 f.0) (λ u v.
        first_brings (LeavesBy kind) (LeavesBy kind) (s.aside ρ call κ head.first) _
        (aside_brings kind (behind_all locals head.objects) κ head.first g.1 f.1) (λ w x. pm)))

    marked_brings : (locals : List CType) (κ : Standing) (how : Synchronises) (c : Around) (v : Option Expr)
        → MeetsBy program c locals (Synchronise how v) → IsFormedValue Makes v → Brings Mark Any (s.marked ρ call κ v)
    marked_brings locals κ how c None m f = give_brings Any _ tt
    marked_brings locals κ how c (Some x) m f =
        first_brings Any Any (parts.evaluated ρ call κ x) _ (evaluated_brings locals n.Plain κ x m.1 f) (λ v g.
        give_brings Any _ tt)

    -- ---- statements of a function with this result

    module _ (result : CType) (formed : IsFormedType result) where
      abbrev kind_of_result : Option Kind
      kind_of_result = cell_kind ρ.structs result

      abbrev Left : Flow → Type 0
      Left f = LeavesBy kind_of_result f

      returned_brings : (locals : List CType) (κ : Standing) (how : Use) (x : Expr) → κ.result ≡ result
          → MeetsExpr program locals how x → IsFormed Makes x
          → Brings Value (FitsCell kind_of_result) (e.converted_to ρ κ.result x (parts.evaluated ρ call κ x))
      returned_brings locals κ how x q m f =
          subst
          (λ (u : CType). Brings Value (FitsCell kind_of_result) (e.converted_to ρ u x (parts.evaluated ρ call κ x)))
          (sym q) (converted_fits program thread budget call fit locals κ.strict how x result m f formed)

      mutual
        pub run_brings : (c : Around) (locals : List CType) (κ : Standing) (z : Statement) → κ.result ≡ result
            → c.result ≡ result → MeetsStatement program c locals z → IsFormedStatement Makes z
            → Brings Flow Left (s.run ρ call κ z)
        run_brings c locals κ (Stands at kind) q r m f = kind_brings c locals κ at kind q r m f

        kind_brings : (c : Around) (locals : List CType) (κ : Standing) (at : Place) (kind : StatementKind)
            → κ.result ≡ result → c.result ≡ result → MeetsBy program c locals kind → IsFormedBy Makes kind
            → Brings Flow Left (s.run_kind ρ call κ at kind)
        kind_brings c locals κ at (Block strict items) q r m f =
            blocked_brings kind_of_result ρ κ.count (s.objects_in items) at _
            (items_bring c locals (parts.with_strict strict κ) items q r m f)
        kind_brings c locals κ at (tree.Value v) q r m f = aside_brings kind_of_result locals κ v m f
        kind_brings c locals κ at (If arms last) q r m f =
            arms_bring c locals κ arms (s.run_last ρ call κ last) q r m.1 f.0
            (last_brings c locals κ last q r m.2 f.1)
        kind_brings c locals κ at (Switch x items) q r m f =
            first_brings Any Left (parts.evaluated ρ call κ x) _ (evaluated_brings locals n.Plain κ x m.0 f.0) (λ v g.
            let label = label_kind (t.integer_of (type_of x)) (number_of v) in
            first_brings Left Left (s.from_case ρ call κ label items (s.from_default ρ call κ items)) _
            (case_brings (in_switch c) locals κ label items (s.from_default ρ call κ items) q r m.2 f.1
            (default_brings (in_switch c) locals κ items q r m.2 f.1)) (λ w y.
            give_brings Left (parts.caught w) (caught_flows kind_of_result w y)))
        kind_brings c locals κ at (While test body) q r m f =
            loop_brings kind_of_result ρ (parts.evaluated ρ call κ test) (s.run ρ call κ body) (give Next)
            (evaluated_brings locals n.Plain κ test m.1 f.0) (run_brings (in_loop c) locals κ body q r m.2 f.1)
            (give_brings Left Next tt)
        kind_brings c locals κ at (DoWhile body test) q r m f =
            let each = run_brings (in_loop c) locals κ body q r m.2 f.0 in
            around_brings kind_of_result ρ (s.run ρ call κ body) (give Next)
            (s.loop ρ (parts.evaluated ρ call κ test) (s.run ρ call κ body) (give Next)) each (give_brings Left Next tt)
            (loop_brings kind_of_result ρ (parts.evaluated ρ call κ test) (s.run ρ call κ body) (give Next)
            (evaluated_brings locals n.Plain κ test m.1 f.1) each (give_brings Left Next tt))
        kind_brings c locals κ at (For head body) q r m f =
            let η = s.with_objects head.objects κ in
            let inside = behind_all locals head.objects in
            headed_brings kind_of_result locals κ at head _ m.0 f.0
            (loop_brings kind_of_result ρ (s.tested ρ call η head.test) (s.run ρ call η body)
            (s.aside ρ call η head.step)
            (tested_brings inside η head.test m.0.2 f.0.2) (run_brings (in_loop c) inside η body q r m.1 f.1)
            (aside_brings kind_of_result inside η head.step m.0.3 f.0.3))
        kind_brings c locals κ at (Forall head whose body) q r m f =
            let η = s.with_objects head.objects κ in
            let inside = behind_all locals head.objects in
            headed_brings kind_of_result locals κ at head _ m.0 f.0
            (loop_brings kind_of_result ρ (s.tested ρ call η head.test)
            (s.guarded ρ call η whose (s.run ρ call η body)) (s.aside ρ call η head.step)
            (tested_brings inside η head.test m.0.2 f.0.2)
            (guarded_brings kind_of_result inside η whose (s.run ρ call η body) m.1 f.1
            (run_brings (in_forall c) inside η body q r m.2 f.2))
            (aside_brings kind_of_result inside η head.step m.0.3 f.0.3))
        kind_brings c locals κ at Break q r m f = give_brings Left Broke tt
        kind_brings c locals κ at Continue q r m f = give_brings Left Again tt
        kind_brings c locals κ at (Return None) q r m f =
            let x = n.ReturnsNothing c in
            let rule = unbroken (table (facts_at program m.structs) x) 25 (judge 26 (rule_26 x)) refl m.rules in
            give_brings Left (Gave e.no_value)
            (void_fits ρ.structs result e.no_value
            (subst (λ (u : CType). is_void u ≡ true) r (holds (is_void c.result) rule)))
        kind_brings c locals κ at (Return (Some x)) q r m f =
            first_brings (FitsCell kind_of_result) Left (e.converted_to ρ κ.result x (parts.evaluated ρ call κ x)) _
            (returned_brings locals κ (n.Into c.result) x q m.1 f) (λ v g. give_brings Left (Gave v) g)
        kind_brings c locals κ at (Synchronise how v) q r m f =
            first_brings Any Left (s.marked ρ call κ v) _ (marked_brings locals κ how c v m f) (λ mark g.
            first_brings Any Left (s.synchronised ρ how at mark) _ (synchronised_brings ρ how at mark) (λ u w.
            give_brings Left Next tt))
        kind_brings c locals κ at Fence q r m f =
            first_brings Any Left (a.fence ρ.thread) _ (fence_brings ρ.thread) (λ u w. give_brings Left Next tt)

        last_brings : (c : Around) (locals : List CType) (κ : Standing) (z : StatementOption) → κ.result ≡ result
            → c.result ≡ result → MeetsLast program c locals z → IsFormedLast Makes z
            → Brings Flow Left (s.run_last ρ call κ z)
        last_brings c locals κ NoStatement q r m f = give_brings Left Next tt
        last_brings c locals κ (TheStatement z) q r m f = run_brings c locals κ z q r m f

        arms_bring : (c : Around) (locals : List CType) (κ : Standing) (arms : Arms) (last : Does) → κ.result ≡ result
            → c.result ≡ result → MeetsArms program c locals arms → AreFormedArms Makes arms → Brings Flow Left last
            → Brings Flow Left (s.run_arms ρ call κ arms last)
        arms_bring c locals κ NoArms last q r m f pl = pl
        arms_bring c locals κ (AndArm test body more) last q r m f pl =
            first_brings Any Left (parts.evaluated ρ call κ test) _ (evaluated_brings locals n.Plain κ test m.0 f.0)
            (λ v g.
            choose_brings Left (is_zero v) (s.run_arms ρ call κ more last) (s.run ρ call κ body)
            (arms_bring c locals κ more last q r m.2 f.2 pl) (run_brings c locals κ body q r m.1 f.1))

        pub items_bring : (c : Around) (locals : List CType) (κ : Standing) (items : Items) → κ.result ≡ result
            → c.result ≡ result → MeetsItems program c locals items → AreFormedItems Makes items
            → Brings Flow Left (s.run_items ρ call κ items)
        items_bring c locals κ NoItems q r m f = give_brings Left Next tt
        items_bring c locals κ (AndObjects objects more) q r m f =
            first_brings Any Left (s.declared ρ call κ objects) _ (declared_brings locals κ objects m.0 f.0) (λ u v.
            items_bring c (behind_all locals objects) (s.with_objects objects κ) more q r m.1 f.1)
        items_bring c locals κ (AndStatement z more) q r m f =
            first_brings Left Left (s.run ρ call κ z) _ (run_brings c locals κ z q r m.0 f.0) (λ w g.
            go_on_brings kind_of_result w (s.run_items ρ call κ more) g (items_bring c locals κ more q r m.1 f.1))

        switch_brings : (c : Around) (locals : List CType) (κ : Standing) (items : SwitchItems) → κ.result ≡ result
            → c.result ≡ result → MeetsSwitch program c locals items → AreFormedSwitch Makes items
            → Brings Flow Left (s.run_switch ρ call κ items)
        switch_brings c locals κ NoSwitchItems q r m f = give_brings Left Next tt
        switch_brings c locals κ (AndCase w more) q r m f = switch_brings c locals κ more q r m f
        switch_brings c locals κ (AndDefault more) q r m f = switch_brings c locals κ more q r m f
        switch_brings c locals κ (AndSwitchStatement z more) q r m f =
            first_brings Left Left (s.run ρ call κ z) _ (run_brings c locals κ z q r m.0 f.0) (λ w g.
            go_on_brings kind_of_result w (s.run_switch ρ call κ more) g (switch_brings c locals κ more q r m.1 f.1))

        case_brings : (c : Around) (locals : List CType) (κ : Standing) (v : ℤ) (items : SwitchItems) (other : Does)
            → κ.result ≡ result → c.result ≡ result → MeetsSwitch program c locals items → AreFormedSwitch Makes items
            → Brings Flow Left other → Brings Flow Left (s.from_case ρ call κ v items other)
        case_brings c locals κ v NoSwitchItems other q r m f po = po
        case_brings c locals κ v (AndCase w more) other q r m f po =
            choose_brings Left (int_eq v w) (s.run_switch ρ call κ more) (s.from_case ρ call κ v more other)
            (switch_brings c locals κ more q r m f) (case_brings c locals κ v more other q r m f po)
        case_brings c locals κ v (AndDefault more) other q r m f po = case_brings c locals κ v more other q r m f po
        case_brings c locals κ v (AndSwitchStatement z more) other q r m f po =
            case_brings c locals κ v more other q r m.1 f.1 po

        default_brings : (c : Around) (locals : List CType) (κ : Standing) (items : SwitchItems) → κ.result ≡ result
            → c.result ≡ result → MeetsSwitch program c locals items → AreFormedSwitch Makes items
            → Brings Flow Left (s.from_default ρ call κ items)
        default_brings c locals κ NoSwitchItems q r m f = give_brings Left Next tt
        default_brings c locals κ (AndCase w more) q r m f = default_brings c locals κ more q r m f
        default_brings c locals κ (AndDefault more) q r m f = switch_brings c locals κ more q r m f
        default_brings c locals κ (AndSwitchStatement z more) q r m f = default_brings c locals κ more q r m.1 f.1

    -- ---- functions

    received_brings : (at : Place) (i : ℕ) (us : List CType) (args : List Value)
        → Brings (Unit {0}) Any (h.received ρ at i us args)
    received_brings at i (u ∷ us) (v ∷ vs) =
        first_brings Any Any (b.local_object i) _ (any_local i) (λ q g.
        first_brings Any Any (e.put ρ false at u q v) _ (put_brings ρ false at u q v) (λ w x.
        received_brings at (i + 1) us vs))
    received_brings at i (u ∷ us) [] = skip_brings
    received_brings at i [] args = skip_brings

    module _ (f : Function) (meets : MeetsFunction program f) (is : IsFormedFunction Makes f) where
      abbrev Ends : Flow → Type 0
      Ends w = LeavesBy (cell_kind ρ.structs f.result) w

      opened_brings : (args : List Value) (at : Place) (strict : Bool) (items : Items)
          → MeetsItems program (around f.result) f.parameters items → AreFormedItems Makes items
          → Brings Flow Ends (parts.opened ρ call f args at strict items)
      opened_brings args at strict items m g =
          first_brings Any Ends (b.open_block 0 (parts.shapes_in ρ f items) at) _
          (open_brings 0 (parts.shapes_in ρ f items) at) (λ u v.
          first_brings Any Ends (h.received ρ at 0 f.parameters args) _ (received_brings at 0 f.parameters args) (λ w x.
          first_brings Ends Ends (s.run_items ρ call (h.in_body ρ f strict) items) _
          (items_bring f.result is.result (around f.result) f.parameters (h.in_body ρ f strict) items refl refl m g)
          (λ flow y.
          first_brings Any Ends b.close_block _ close_brings (λ z q. give_brings Ends flow y))))

      body_brings : (args : List Value) (z : Statement) → MeetsStatement program (around f.result) f.parameters z
          → IsFormedStatement Makes z → Brings Flow Ends (h.body ρ call f args z)
      body_brings args (Stands at (Block strict items)) m g = opened_brings args at strict items m g
      body_brings args (Stands at kind) m g =
          run_brings f.result is.result (around f.result) f.parameters (h.in_body ρ f false) (Stands at kind) refl refl
          m g

      no_array_result : IsNoArray (base_of f.result)
      no_array_result =
          subst (λ (u : CType). IsNoArray (base_of u)) (meets.defined.5) (no_array_value (meets.defined.3).result)

      function_brings : (args : List Value) → Brings Value (IsOf ρ.structs f.result) (h.function ρ call (Some f) args)
      function_brings args =
          first_brings Ends (IsOf ρ.structs f.result) (h.body ρ call f args f.body) _
          (body_brings args f.body meets.body is.body) (λ flow g.
          let fits = given_fits (cell_kind ρ.structs f.result) flow g in
          give_brings (IsOf ρ.structs f.result) _
          (is_of ρ.structs f.result _ no_array_result (integer_kind f.result is.result) fits))

  -- ---- calls

  each_got : {X : Type 0} (P : X → Type 0) (xs : List X) (i : ℕ) (x : X) → Each P xs → slice_get xs i ≡ Some x → P x
  each_got P [] i x g q = absurd cc
  each_got P (y ∷ ys) zero x g q = let same : y ≡ x = cc in subst P same g.0
  each_got P (y ∷ ys) (suc i) x g q = each_got P ys i x g.1 q

  picked : {X : Type 0} (P : X → Type 0) (x y : X) (test : Bool) (rest : Option X)
      → (if test then Some y else rest) ≡ Some x → P y → (rest ≡ Some x → P x) → P x
  picked P x y true rest q g k = let same : y ≡ x = cc in subst P same g
  picked P x y false rest q g k = k q

  each_found : {X : Type 0} (P : X → Type 0) (test : X → Bool) (xs : List X) (x : X) → Each P xs
      → find test xs ≡ Some x → P x
  each_found P test [] x g q = absurd cc
  each_found P test (y ∷ ys) x g q = picked P x y (test y) (find test ys) q g.0 (each_found P test ys x g.1)

  module _ (meets : MeetsRules program) (are : Each (IsFormedFunction Makes) program.functions) where
    abbrev FormedFor : ℕ → Function → Type 0
    FormedFor i f = slice_get program.functions i ≡ Some f → Each IsFormedType f.parameters

    formed_parameters : (i : ℕ) (f : Function) → FormedFor i f
    formed_parameters i f q = (each_got (IsFormedFunction Makes) program.functions i f are q).parameters

    called_fit : (k : ℕ) → CallsFit ρ (h.called ρ k)
    called_fit zero = record { formed = formed_parameters; gives = λ i f args at q g. record { by = λ σ filled. tt } }
    called_fit (suc k) = record {
      formed = formed_parameters;
      gives = λ i f args at q g.
          let V = IsOf ρ.structs f.result in
          let function = h.function ρ (h.called ρ k) (slice_get program.functions i) args in
          let brings : Brings Value V function =
          subst (λ (o : Option Function). Brings Value V (h.function ρ (h.called ρ k) o args)) (sym q)
          (function_brings (h.called ρ k) (called_fit k) f
          (each_got (MeetsFunction program) program.functions i f meets.functions q)
          (each_got (IsFormedFunction Makes) program.functions i f are q) args)
          in
          first_brings Any V (a.tick ρ.thread) _ (tick_brings ρ.thread) (λ u v.
          call_brings V at function brings);
    }

    main_brings : (f : Function) → h.main_of program.functions ≡ Some f
        → Brings Value (IsOf ρ.structs f.result) (h.main_called ρ (Some f))
    main_brings f q =
        let V = IsOf ρ.structs f.result in
        let call = h.called ρ (h.most_calls ρ) in
        call_brings V (h.main_place ρ (Some f)) (h.function ρ call (Some f) [])
        (function_brings call (called_fit (h.most_calls ρ)) f
        (each_found (MeetsFunction program) parts.is_main program.functions f meets.functions q)
        (each_found (IsFormedFunction Makes) parts.is_main program.functions f are q) [])

pub mains_keep_types : MainsKeepTypes
mains_keep_types = record {
  each = λ program thread budget f meets are few q.
      main_brings program thread budget meets (shaped_functions program are few) f q;
}

pub functions_keep_types : FunctionsKeepTypes
functions_keep_types = record {
  each = λ program thread budget meets are few k.
      called_fit program thread budget meets (shaped_functions program are few) k;
}

pub bodies_are_counted : BodiesAreCounted
bodies_are_counted = record {
  statement = λ program thread budget call fit c locals κ z formed q m f.
      weaker_brings _ Any _
      (run_brings program thread budget call fit c.result formed c locals κ z q refl m f) (λ v h. tt);
  counted = λ s_ t_ c e g. ap controls_in (control_counts s_ c e t_ g);
}
