-- What the code of statements and of functions names is in range.
use Rattle.std.proofs.Common.{◌≡◌, ℕ, ◌+◌, ◌≤◌, List, [], ◌∷◌, ◌++◌, length, map, Option, Some, None, Bool}
use Rattle.std.proofs.Common.{true, false, not, ◌&&◌, refl, subst, arith}
use Rattle.std.proofs.lemmas.Bool.{false≢true, ltb-false}
use Rattle.upc_text.specs.declared.place.Place.{Place}
use Rattle.block_layout.specs.declared.kind.Kind.{Kind}
use Rattle.block_layout.specs.Shapes.{IsShape}
use Rattle.upc_values.specs.Lists.{Each}
use Rattle.upc_values.proofs.Membership.{each-append, each-front, each-back}
use Rattle.upc_types.specs.Types.{CType, Qualified, Base, Void, Integer, Struct, Array, Pointer, LockObject, base_of}
use Rattle.upc_types.specs.Types.{Structs}
use Rattle.upc_types.specs.Layout.{size}
use Rattle.upc_types.specs.Cells.{leaf_base}
use Rattle.typing_rules.specs.Nodes as n
use Rattle.typing_rules.specs.Nodes.{Attr, Use, Around, Formed}
use Rattle.typing_rules.specs.Rules.{table, judge, rule_4, rule_6, rule_8, rule_9, declares_nothing}
use Rattle.typing_rules.specs.Rules.{has_wrong_dimensions}
use Rattle.typing_rules.specs.Rules.{is_too_large, lacks_members, is_list_type}
use Rattle.typing_rules.specs.Rules.{has_too_many, base_lacks_members, base_count}
use Rattle.typing_rules.specs.Values.{base_is_array, is_no_object, is_shared}
use Rattle.typed_tree.specs.declared.tree.Synchronises.{Synchronises}
use Rattle.typed_tree.specs.declared.tree.Synchronises.TheVariants as how
use Rattle.typed_tree.specs.LocalObjects.{objects_in, objects_by, last_objects, arms_objects, items_objects}
use Rattle.typed_tree.specs.LocalObjects.{switch_objects}
use Rattle.typed_tree.specs.Programs.{Checked}
use Rattle.typed_tree.specs.Tree.{Expr, ExprKind, Exprs, NoExprs, AndExpr, attrs_of, place_of}
use Rattle.typed_tree.specs.Tree.{Initial, NoInitial, InitialValue, InitialList, DeclaredObject}
use Rattle.typed_tree.specs.Tree.{Affinity, Everyone, AtValue, Head, Statement, Stands, StatementKind, Block, If}
use Rattle.typed_tree.specs.Tree.{Switch, While, DoWhile, For, Forall, Break, Continue, Return, Synchronise, Fence}
use Rattle.typed_tree.specs.Tree.{StatementOption, NoStatement, TheStatement, Arms, NoArms, AndArm, Items, NoItems}
use Rattle.typed_tree.specs.Tree.{AndObjects, AndStatement, SwitchItems, NoSwitchItems, AndCase, AndDefault}
use Rattle.typed_tree.specs.Tree.{AndSwitchStatement, Function}
use Rattle.typed_tree.specs.Tree as tree
use Rattle.typed_tree.specs.Words as words
use Rattle.typed_tree.specs.layer.Judged.{Meets, facts_at}
use Rattle.typed_tree.specs.layer.TypedNodes.{MeetsExpr, MeetsValue, MeetsValues, MeetsInitial, MeetsObject}
use Rattle.typed_tree.specs.layer.TypedNodes.{MeetsObjects, MeetsHead}
use Rattle.typed_tree.specs.layer.TypedNodes.{MeetsAffinity, MeetsStatement, MeetsBy, MeetsLast, MeetsArms, MeetsItems}
use Rattle.typed_tree.specs.layer.TypedNodes.{MeetsSwitch, MeetsFunction, behind, behind_all, around}
use Rattle.source_meaning.specs.Types as type
use Rattle.source_meaning.specs.layer.Parts.{with_strict}
use Rattle.source_meaning.specs.Expressions.{type_of}
use Rattle.source_meaning.specs.Statements.{Standing, with_objects, element_type, shapes_of}
use Rattle.source_meaning.specs.Statements as meaning
use Rattle.source_meaning.specs.Threads.{in_body}
use Rattle.stack_code.specs.declared.instruction.Instr.{Instr}
use Rattle.gen_expr.specs.layer.Sources.{Source, running_of}
use Rattle.gen_expr.specs.layer.Codes as expr
use Rattle.gen_stmt.specs.layer.Ways.{Ways, all_past, all_inner, in_loop, in_switch, in_forall, in_function}
use Rattle.gen_stmt.specs.layer.Codes as stmt
use Rattle.gen_stmt.specs.layer.Programs.{body_code, function_code, functions_code, source}
use Rattle.meaning_laws.proofs.Rules.{unbroken, holds, or_left, or_right}
use Rattle.meaning_laws.proofs.Operators.{integer_kind}
use Rattle.meaning_laws.specs.layer.Formed.{IsFormed, AreFormed}
use Rattle.meaning_laws.specs.layer.FormedStatements.{IsFormedInitial, AreFormedObjects, IsFormedValue}
use Rattle.meaning_laws.specs.layer.FormedStatements.{IsFormedAffinity, IsFormedHead, IsFormedStatement, IsFormedBy}
use Rattle.meaning_laws.specs.layer.FormedStatements.{IsFormedLast, AreFormedArms, AreFormedItems, AreFormedSwitch}
use Rattle.meaning_laws.specs.layer.FormedStatements.{IsFormedFunction}
use Rattle.meaning_laws.specs.layer.Values.{HasIntegerKind}
use Rattle.gen_stmt_laws.specs.code.Fitting.{AreFine, IsRanged, HasFormedTypes}
use Rattle.meaning_laws_accepted.specs.layer.Throughout as t
use Rattle.gen_stmt_laws.proofs.Conversions.{IsIntegerOf, integer_is, promoted_integer, conversion_fits}
use Rattle.gen_stmt_laws.proofs.Expressions as e
use Rattle.gen_stmt_laws.proofs.Moves.{IsFew}
use Rattle.gen_stmt_laws.proofs.Sizes.{earlier_fine, few_elements, one_leaf, own_leaf, types_shaped, objects_shaped}
use Rattle.gen_stmt_laws.proofs.Values.{small_number, given_known}

-- ---- arrays with values in braces

plain_of : (b d : Bool) → (not b && d) ≡ true → b ≡ false
plain_of true d h = absurd (false≢true h)
plain_of false d h = refl

-- Such an array has few elements.
elements_few : (σ : Structs) → AreFine σ.completed → (t : CType) → is_list_type t ≡ true
    → declares_nothing t ≡ false → lacks_members σ t ≡ false → is_too_large σ t ≡ false
    → base_count (base_of t) ≤ 16777216
elements_few σ fine (Qualified (Array (Qualified b d u y) count) c s x) h n l z =
    let plain = plain_of (base_is_array b) (not (is_shared (Qualified (Array (Qualified b d u y) count) c s x))) h in
    few_elements σ fine b count plain (subst (λ (i : Base). is_no_object i ≡ false) (own_leaf b plain) n)
    (subst (λ (i : Base). base_lacks_members σ i ≡ false) (own_leaf b plain) l) z
elements_few σ fine (Qualified Void c s x) h n l z = absurd (false≢true h)
elements_few σ fine (Qualified (Integer k) c s x) h n l z = absurd (false≢true h)
elements_few σ fine (Qualified (Struct m) c s x) h n l z = absurd (false≢true h)
elements_few σ fine (Qualified (Pointer u) c s x) h n l z = absurd (false≢true h)
elements_few σ fine (Qualified LockObject c s x) h n l z = absurd (false≢true h)

-- Its elements are no arrays.
element_few : (t : CType) → is_list_type t ≡ true → IsFew (element_type (base_of t) t)
element_few (Qualified (Array (Qualified b d u y) count) c s x) h =
    let plain = plain_of (base_is_array b) (not (is_shared (Qualified (Array (Qualified b d u y) count) c s x))) h in
    let one = one_leaf b plain in
    omega (arith, one)
element_few (Qualified Void c s x) h = absurd (false≢true h)
element_few (Qualified (Integer k) c s x) h = absurd (false≢true h)
element_few (Qualified (Struct m) c s x) h = absurd (false≢true h)
element_few (Qualified (Pointer u) c s x) h = absurd (false≢true h)
element_few (Qualified LockObject c s x) h = absurd (false≢true h)

element_kind : (t : CType) → is_list_type t ≡ true → HasIntegerKind (leaf_base (base_of t))
    → HasIntegerKind (base_of (element_type (base_of t) t))
element_kind (Qualified (Array (Qualified b d u y) count) c s x) h k =
    let plain = plain_of (base_is_array b) (not (is_shared (Qualified (Array (Qualified b d u y) count) c s x))) h in
    subst HasIntegerKind (own_leaf b plain) k
element_kind (Qualified Void c s x) h k = absurd (false≢true h)
element_kind (Qualified (Integer i) c s x) h k = absurd (false≢true h)
element_kind (Qualified (Struct m) c s x) h k = absurd (false≢true h)
element_kind (Qualified (Pointer u) c s x) h k = absurd (false≢true h)
element_kind (Qualified LockObject c s x) h k = absurd (false≢true h)

own_kind : (b : Base) → HasIntegerKind (leaf_base b) → HasIntegerKind b
own_kind (Integer k) h = h
own_kind Void h = tt
own_kind (Struct m) h = tt
own_kind (Array u count) h = tt
own_kind (Pointer u) h = tt
own_kind LockObject h = tt

-- The leaf elements of an object are of a kind of integers, where they are integers.
abbrev IsWhole : DeclaredObject → Type 0
IsWhole x = HasIntegerKind (leaf_base (base_of x.ctype))

module _ (program : Checked) (kept : IsRanged program) (types : HasFormedTypes program) where
  abbrev ς : Source
  ς = source program

  abbrev Fit : List Instr → Type 0
  Fit is = e.Fit program kept types is

  abbrev Makes : CType → Type 0
  Makes = e.Makes program kept types

  abbrev IsConstant : Attr → ExprKind → Type 0
  IsConstant a kind = e.IsConstant program kept types a kind

  fine : AreFine ς.structs.completed
  fine = kept.layouts

  both : (a b : List Instr) → Fit a → Fit b → Fit (a ++ b)
  both a b x y = e.joined program kept types a b x y

  -- One instruction after a part.
  after : (a : List Instr) (i : Instr) → Fit a → e.Fits program kept types i → Fit (a ++ i ∷ [])
  after a i x y = both a (i ∷ []) x (y, tt)

  value : (strict : Bool) (x : Expr) (locals : List CType) (how_ : Use) → MeetsExpr program locals how_ x
      → IsFormed Makes x → t.Throughout IsConstant x → Fit (expr.value_code ς strict x)
  value strict x l u m f w = e.value_fits program kept types strict x l u m f w

  -- ---- parts of statements

  label_by : (at : Place) (k : Option Kind) → IsIntegerOf k → Fit (stmt.label_code at k)
  label_by at None h = tt
  label_by at (Some k) h = (promoted_integer k h, tt)

  label : (at : Place) (u : CType) → Fit (stmt.label_code at (type.integer_of u))
  label at u = label_by at (type.integer_of u) (integer_is (base_of u))

  synchronise : (at : Place) (h : Synchronises) → Fit (stmt.synchronise_code at h)
  synchronise at how.Notify = (tt, tt)
  synchronise at how.Wait = (tt, tt)
  synchronise at how.Barrier = (tt, (tt, tt))

  synchronise_value : (at : Place) (h : Synchronises) → Fit (stmt.synchronise_value_code at h)
  synchronise_value at how.Notify = (tt, tt)
  synchronise_value at how.Wait = (tt, tt)
  synchronise_value at how.Barrier = (tt, (tt, (tt, tt)))

  converted : (strict : Bool) (u : CType) (x : Expr) (locals : List CType) (how_ : Use)
      → HasIntegerKind (base_of u) → MeetsExpr program locals how_ x → IsFormed Makes x → t.Throughout IsConstant x
      → Fit (stmt.converted_code ς strict u x)
  converted strict u x l how_ k m f w =
      after (expr.value_code ς strict x) _ (value strict x l how_ m f w) (conversion_fits (type_of x) u k)

  aside : (strict : Bool) (o : Option Expr) (locals : List CType) → MeetsValue program locals o
      → IsFormedValue Makes o → t.ThroughoutValue IsConstant o → Fit (stmt.aside_code ς strict o)
  aside strict None l m f w = tt
  aside strict (Some x) l m f w = e.effect_fits program kept types strict x l n.Plain m f w

  tested : (at : Place) (strict : Bool) (o : Option Expr) (locals : List CType) → MeetsValue program locals o
      → IsFormedValue Makes o → t.ThroughoutValue IsConstant o → Fit (stmt.test_code ς at strict o)
  tested at strict None l m f w = (small_number 1 (omega arith), tt)
  tested at strict (Some x) l m f w = value strict x l n.Plain m f w

  -- ---- initialisers

  -- The values of an initialiser in braces are few.
  few_values : (x : DeclaredObject) (locals : List CType) (values : List Attr) → MeetsObject program locals false x
      → Meets program (n.InitialList false true x.ctype values) → length values ≤ 16777216
  few_values x l values o m =
      let d = o.declared in
      let y = n.DeclaresObject d.0 false d.1 in
      let σ = d.3.structs in
      let φ = facts_at program σ in
      let r4 = unbroken (table φ y) 3 (judge 4 (rule_4 y)) refl d.3.rules in
      let r6 = unbroken (table φ y) 5 (judge 6 (rule_6 φ y)) refl d.3.rules in
      let r8 = unbroken (table φ y) 7 (judge 8 (rule_8 φ y)) refl d.3.rules in
      let z = n.InitialList false true x.ctype values in
      let r9 = unbroken (table (facts_at program m.structs) z) 8 (judge 9 (rule_9 z)) refl m.rules in
      let listed = holds (is_list_type x.ctype) (or_left (not (is_list_type x.ctype)) _ r9) in
      let many = or_left (has_too_many x.ctype values) _ (or_right (not (is_list_type x.ctype)) _ r9) in
      let nothing = subst (λ (u : CType). declares_nothing u ≡ false) d.2 (or_right (not d.1.forms) _ r4) in
      let large = subst (λ (u : CType). is_too_large σ u ≡ false) d.2 (or_right (has_wrong_dimensions d.1) _ r6) in
      let lacks = subst (λ (u : CType). lacks_members σ u ≡ false) d.2
      (or_left (lacks_members σ d.1.ctype) _ r8) in
      let few = elements_few σ (earlier_fine d.3.place kept.layouts) x.ctype listed nothing lacks large in
      let low = ltb-false (base_count (base_of x.ctype)) (length values) many in
      omega (arith, few, low)

  is_listed : (x : DeclaredObject) (values : List Attr) → Meets program (n.InitialList false true x.ctype values)
      → is_list_type x.ctype ≡ true
  is_listed x values m =
      let z = n.InitialList false true x.ctype values in
      let r9 = unbroken (table (facts_at program m.structs) z) 8 (judge 9 (rule_9 z)) refl m.rules in
      holds (is_list_type x.ctype) (or_left (not (is_list_type x.ctype)) _ r9)

  listed : (strict : Bool) (x : DeclaredObject) (locals : List CType) (how_ : Use) (es : Exprs) (i : ℕ)
      → i + length (attrs_of es) ≤ 16777216 → is_list_type x.ctype ≡ true → IsWhole x
      → MeetsValues program locals false how_ es → AreFormed Makes es → t.ThroughoutAll IsConstant es
      → Fit (stmt.listed_code ς strict x i es)
  listed strict x l how_ NoExprs i few b k m f w = tt
  listed strict x l how_ (AndExpr a more) i few b k m f w =
      let u = element_type (base_of x.ctype) x.ctype in
      let cp = expr.put_code ς strict x.at u in
      both (expr.object_code ς x.at x.home) _ (e.object program kept types x.at x.home) (
        small_number i (omega arith),
        both (expr.advance_code ς x.at u) _ (e.advance program kept types x.at u (element_few x.ctype b))
            (both (stmt.converted_code ς strict u a) _
            (converted strict u a l how_ (element_kind x.ctype b k) m.0 f.0 w.0)
            (both cp _ (e.put program kept types strict x.at u)
            (tt, listed strict x l how_ more (i + 1) (omega arith) b k m.2 f.1 w.1))),
      )

  initial : (strict : Bool) (x : DeclaredObject) (locals : List CType) (first : Initial)
      → MeetsObject program locals false x → IsWhole x → MeetsInitial program (behind locals x) false x.ctype first
      → IsFormedInitial Makes first → t.ThroughoutInitial IsConstant first → Fit (stmt.initial_code ς strict x first)
  initial strict x l NoInitial o k m f w = tt
  initial strict x l (InitialValue a) o k m f w =
      both (expr.object_code ς x.at x.home) _ (e.object program kept types x.at x.home)
      (both (stmt.converted_code ς strict x.ctype a) _
      (converted strict x.ctype a (behind l x) _ (own_kind (base_of x.ctype) k) m.1 f w)
      (both (expr.put_code ς strict x.at x.ctype) _ (e.put program kept types strict x.at x.ctype) (tt, tt)))
  initial strict x l (InitialList es) o k m f w =
      let few = few_values x l (attrs_of es) o m.0 in
      listed strict x (behind l x) _ es 0 (omega (arith, few)) (is_listed x (attrs_of es) m.0) k m.1 f w

  declared : (strict : Bool) (objects : List DeclaredObject) (locals : List CType) → Each IsWhole objects
      → MeetsObjects program locals false objects → AreFormedObjects Makes objects
      → t.ThroughoutObjects IsConstant objects → Fit (stmt.declared_code ς strict objects)
  declared strict [] l k m f w = tt
  declared strict (x ∷ xs) l k m f w =
      both (stmt.initial_code ς strict x x.initial) _ (initial strict x l x.initial m.0 k.0 m.0.initial f.0.initial w.0)
      (declared strict xs (behind l x) k.1 m.1 f.1 w.1)

  -- ---- heads and loops

  first : (strict : Bool) (head : Head) (locals : List CType) → Each IsWhole head.objects
      → MeetsHead program locals head → IsFormedHead Makes head → t.ThroughoutHead IsConstant head
      → Fit (stmt.first_code ς strict head)
  first strict head l k m f w =
      both (stmt.declared_code ς strict head.objects) _ (declared strict head.objects l k m.0 f.0 w.0)
      (aside strict head.first (behind_all l head.objects) m.1 f.1 w.1)

  loop : (at : Place) (test body last : List Instr) (m : ℕ) → Fit test → Fit body → Fit last
      → Fit (stmt.loop_code at test body last m)
  loop at test body last m x y z = (tt, both test _ x (tt, both body _ y (after last _ z tt)))

  guard : (at : Place) (strict : Bool) (whose : Affinity) (body : List Instr) (size : ℕ) (locals : List CType)
      → MeetsAffinity program locals whose → IsFormedAffinity Makes whose → t.ThroughoutAffinity IsConstant whose
      → Fit body → Fit (stmt.guard_code ς at strict whose body size)
  guard at strict Everyone body size l m f w x = x
  guard at strict (AtValue a) body size l m f w x =
      (tt, both (expr.value_code ς strict a) _ (value strict a l n.Plain m.1 f w) (tt, (tt, (tt, after body _ x tt))))

  cases : (at : Place) (κ : Standing) (items : SwitchItems) (before : ℕ) → Fit (stmt.cases_code ς at κ items before)
  cases at κ NoSwitchItems before = tt
  cases at κ (AndCase v more) before = (tt, cases at κ more before)
  cases at κ (AndDefault more) before = cases at κ more before
  cases at κ (AndSwitchStatement s more) before = cases at κ more (before + stmt.size ς κ s)

  -- ---- statements

  -- What a statement stands in gives a value of an integer kind, where it gives an integer.
  abbrev GivesKind : Standing → Type 0
  GivesKind κ = HasIntegerKind (base_of κ.result)

  mutual
    statement : (s : Statement) (κ : Standing) (ω : Ways) (c : Around) (locals : List CType) → GivesKind κ
        → Each IsWhole (objects_in s) → MeetsStatement program c locals s → IsFormedStatement Makes s
        → t.ThroughoutStatement IsConstant s → Fit (stmt.statement_code ς κ ω s)
    statement (Stands at kind) κ ω c l g k m f w = by_kind kind κ ω at c l g k m f w

    by_kind : (kind : StatementKind) (κ : Standing) (ω : Ways) (at : Place) (c : Around) (locals : List CType)
        → GivesKind κ → Each IsWhole (objects_by kind) → MeetsBy program c locals kind → IsFormedBy Makes kind
        → t.ThroughoutBy IsConstant kind → Fit (stmt.kind_code ς κ ω at kind)
    by_kind (Block strict items) κ ω at c l g k m f w = (
      objects_shaped ς.structs fine (meaning.objects_in items),
      after (stmt.items_code ς (with_strict strict κ) (all_inner ω) items) _
          (parts items (with_strict strict κ) (all_inner ω) c l g k m f w) tt,
    )
    by_kind (tree.Value x) κ ω at c l g k m f w = aside κ.strict x l m f w
    by_kind (If arms last) κ ω at c l g k m f w =
        arms_fit arms κ ω at c l g (each-front IsWhole (arms_objects arms) (last_objects last) k) m.1 f.0 w.0
        (stmt.last_code ς κ ω last) (stmt.last_size ς κ last)
        (last_fits last κ ω c l g (each-back IsWhole (arms_objects arms) (last_objects last) k) m.2 f.1 w.1)
    by_kind (Switch x items) κ ω at c l g k m f w =
        both (expr.value_code ς κ.strict x) _ (value κ.strict x l n.Plain m.0 f.0 w.0)
        (both (stmt.label_code at (type.integer_of (type_of x))) _ (label at (type_of x))
        (both (stmt.cases_code ς at κ items 0) _ (cases at κ items 0)
        (tt, (tt, switched items κ (in_switch ω) (words.in_switch c) l g k m.2 f.1 w.1))))
    by_kind (While test body) κ ω at c l g k m f w =
        loop at (expr.value_code ς κ.strict test) (stmt.statement_code ς κ (in_loop 0 ω) body) [] (stmt.size ς κ body)
        (value κ.strict test l n.Plain m.1 f.0 w.0)
        (statement body κ (in_loop 0 ω) (words.in_loop c) l g k m.2 f.1 w.1) tt
    by_kind (DoWhile body test) κ ω at c l g k m f w = (
      tt,
      loop at (expr.value_code ς κ.strict test) (stmt.statement_code ς κ (in_loop 0 ω) body) [] (stmt.size ς κ body)
          (value κ.strict test l n.Plain m.1 f.1 w.1)
          (statement body κ (in_loop 0 ω) (words.in_loop c) l g k m.2 f.0 w.0) tt,
    )
    by_kind (For head body) κ ω at c l g k m f w =
        let η = with_objects head.objects κ in
        let inside = behind_all l head.objects in
        let last = stmt.aside_code ς κ.strict head.step in
        let ω' = in_loop (length last) (all_inner ω) in
        let test = stmt.test_code ς at κ.strict head.test in
        let each = stmt.loop_code at test (stmt.statement_code ς η ω' body) last (stmt.size ς η body) in (
          objects_shaped ς.structs fine head.objects,
          after (stmt.first_code ς κ.strict head ++ each) _
              (both (stmt.first_code ς κ.strict head) each
              (first κ.strict head l (each-front IsWhole head.objects (objects_in body) k) m.0 f.0 w.0)
              (loop at test (stmt.statement_code ς η ω' body) last (stmt.size ς η body)
              (tested at κ.strict head.test inside m.0.2 f.0.2 w.0.2)
              (statement body η ω' (words.in_loop c) inside g (each-back IsWhole head.objects (objects_in body) k)
              m.1 f.1 w.1)
              (aside κ.strict head.step inside m.0.3 f.0.3 w.0.3))) tt,
        )
    by_kind (Forall head whose body) κ ω at c l g k m f w =
        let η = with_objects head.objects κ in
        let inside = behind_all l head.objects in
        let last = stmt.aside_code ς κ.strict head.step in
        let ω' = in_forall (all_inner ω) in
        let test = stmt.test_code ς at κ.strict head.test in
        let part = stmt.guard_code ς at κ.strict whose (stmt.statement_code ς η ω' body) (stmt.size ς η body) in
        let size = stmt.guard_size ς κ.strict whose (stmt.size ς η body) in
        let each = stmt.loop_code at test part last size in (
          objects_shaped ς.structs fine head.objects,
          after (stmt.first_code ς κ.strict head ++ each) _
              (both (stmt.first_code ς κ.strict head) each
              (first κ.strict head l (each-front IsWhole head.objects (objects_in body) k) m.0 f.0 w.0)
              (loop at test part last size (tested at κ.strict head.test inside m.0.2 f.0.2 w.0.2)
              (guard at κ.strict whose (stmt.statement_code ς η ω' body) (stmt.size ς η body) inside m.1 f.1 w.1
              (statement body η ω' (words.in_forall c) inside g (each-back IsWhole head.objects (objects_in body) k)
              m.2 f.2 w.2))
              (aside κ.strict head.step inside m.0.3 f.0.3 w.0.3))) tt,
        )
    by_kind Break κ ω at c l g k m f w = (tt, tt)
    by_kind Continue κ ω at c l g k m f w = (tt, tt)
    by_kind (Return None) κ ω at c l g k m f w = (small_number 0 (omega arith), (tt, tt))
    by_kind (Return (Some x)) κ ω at c l g k m f w =
        after (stmt.converted_code ς κ.strict κ.result x) _
        (converted κ.strict κ.result x l (n.Into c.result) g m.1 f w) tt
    by_kind (Synchronise s None) κ ω at c l g k m f w = synchronise at s
    by_kind (Synchronise s (Some x)) κ ω at c l g k m f w =
        both (expr.value_code ς κ.strict x) _ (value κ.strict x l n.Plain m.1 f w) (synchronise_value at s)
    by_kind Fence κ ω at c l g k m f w = (tt, tt)

    last_fits : (last : StatementOption) (κ : Standing) (ω : Ways) (c : Around) (locals : List CType) → GivesKind κ
        → Each IsWhole (last_objects last) → MeetsLast program c locals last → IsFormedLast Makes last
        → t.ThroughoutLast IsConstant last → Fit (stmt.last_code ς κ ω last)
    last_fits NoStatement κ ω c l g k m f w = tt
    last_fits (TheStatement s) κ ω c l g k m f w = statement s κ ω c l g k m f w

    arms_fit : (arms : Arms) (κ : Standing) (ω : Ways) (at : Place) (c : Around) (locals : List CType) → GivesKind κ
        → Each IsWhole (arms_objects arms) → MeetsArms program c locals arms → AreFormedArms Makes arms
        → t.ThroughoutArms IsConstant arms → (last : List Instr) (size : ℕ) → Fit last
        → Fit (stmt.arms_code ς κ ω at arms last size)
    arms_fit NoArms κ ω at c l g k m f w last size x = x
    arms_fit (AndArm test body more) κ ω at c l g k m f w last size x =
        let ω' = all_past (1 + stmt.arms_size ς κ more size) ω in
        both (expr.value_code ς κ.strict test) _ (value κ.strict test l n.Plain m.0 f.0 w.0) (
          tt,
          both (stmt.statement_code ς κ ω' body) _
              (statement body κ ω' c l g (each-front IsWhole (objects_in body) (arms_objects more) k) m.1 f.1 w.1) (
                tt,
                arms_fit more κ ω at c l g (each-back IsWhole (objects_in body) (arms_objects more) k) m.2 f.2 w.2
                    last size x,
              ),
        )

    parts : (items : Items) (κ : Standing) (ω : Ways) (c : Around) (locals : List CType) → GivesKind κ
        → Each IsWhole (items_objects items) → MeetsItems program c locals items → AreFormedItems Makes items
        → t.ThroughoutItems IsConstant items → Fit (stmt.items_code ς κ ω items)
    parts NoItems κ ω c l g k m f w = tt
    parts (AndObjects objects more) κ ω c l g k m f w =
        both (stmt.declared_code ς κ.strict objects) _
        (declared κ.strict objects l (each-front IsWhole objects (items_objects more) k) m.0 f.0 w.0)
        (parts more (with_objects objects κ) ω c (behind_all l objects) g
        (each-back IsWhole objects (items_objects more) k) m.1 f.1 w.1)
    parts (AndStatement s more) κ ω c l g k m f w =
        let ω' = all_past (stmt.items_size ς κ more) ω in
        both (stmt.statement_code ς κ ω' s) _
        (statement s κ ω' c l g (each-front IsWhole (objects_in s) (items_objects more) k) m.0 f.0 w.0)
        (parts more κ ω c l g (each-back IsWhole (objects_in s) (items_objects more) k) m.1 f.1 w.1)

    switched : (items : SwitchItems) (κ : Standing) (ω : Ways) (c : Around) (locals : List CType) → GivesKind κ
        → Each IsWhole (switch_objects items) → MeetsSwitch program c locals items → AreFormedSwitch Makes items
        → t.ThroughoutSwitch IsConstant items → Fit (stmt.switch_code ς κ ω items)
    switched NoSwitchItems κ ω c l g k m f w = tt
    switched (AndCase v more) κ ω c l g k m f w = switched more κ ω c l g k m f w
    switched (AndDefault more) κ ω c l g k m f w = switched more κ ω c l g k m f w
    switched (AndSwitchStatement s more) κ ω c l g k m f w =
        let ω' = all_past (stmt.switch_size ς κ more) ω in
        both (stmt.statement_code ς κ ω' s) _
        (statement s κ ω' c l g (each-front IsWhole (objects_in s) (switch_objects more) k) m.0 f.0 w.0)
        (switched more κ ω c l g (each-back IsWhole (objects_in s) (switch_objects more) k) m.1 f.1 w.1)

  -- ---- functions

  -- What a statement that is a function's body stands in and has.
  abbrev IsBody : Function → Statement → Type 0
  IsBody x s =
      HasIntegerKind (base_of x.result) × Each IsWhole (objects_in s)
      × MeetsStatement program (around x.result) x.parameters s × IsFormedStatement Makes s
      × t.ThroughoutStatement IsConstant s

  plain : (x : Function) (s : Statement) → IsBody x s
      → Fit (stmt.statement_code ς (in_body (running_of ς) x false) (in_function 0) s)
  plain x s h =
      statement s (in_body (running_of ς) x false) (in_function 0) (around x.result) x.parameters h.0 h.1 h.2 h.3 h.4

  body : (x : Function) (s : Statement) → IsBody x s → Fit (body_code ς x s)
  body x (Stands at (Block strict items)) h = (
    each-append IsShape (map (type.shape_of ς.structs) x.parameters)
        (shapes_of (running_of ς) (meaning.objects_in items)) (types_shaped ς.structs fine x.parameters)
        (objects_shaped ς.structs fine (meaning.objects_in items)),
    (
      tt,
      after (stmt.items_code ς (in_body (running_of ς) x strict) (in_function 1) items) _
          (parts items (in_body (running_of ς) x strict) (in_function 1) (around x.result) x.parameters h.0 h.1 h.2 h.3
          h.4) tt,
    ),
  )
  body x (Stands at kind) h = (tt, plain x (Stands at kind) h)

  pub function_fits : (x : Function) → IsFormedFunction Makes x → Each IsWhole (objects_in x.body)
      → MeetsFunction program x → t.ThroughoutStatement IsConstant x.body → Fit (function_code ς x)
  function_fits x f k m w =
      both (body_code ς x x.body) _ (body x x.body (integer_kind x.result f.result, k, m.body, f.body, w))
      (given_known program kept.opening (type.cell_kind ς.structs x.result), (tt, tt))

  functions_fit : (fs : List Function) → Each (IsFormedFunction Makes) fs
      → Each (λ x. Each IsWhole (objects_in x.body)) fs → Each (MeetsFunction program) fs
      → Each (λ x. t.ThroughoutStatement IsConstant x.body) fs → Each Fit (map (function_code ς) fs)
  functions_fit [] f k m w = tt
  functions_fit (x ∷ xs) f k m w = (function_fits x f.0 k.0 m.0 w.0, functions_fit xs f.1 k.1 m.1 w.1)

  -- The code of a program names nothing out of range.
  pub program_fits : Each Fit (functions_code ς)
  program_fits = (
    (tt, (tt, (tt, (tt, (tt, (tt, tt)))))),
    functions_fit program.functions types.functions types.objects kept.rules.functions kept.constants,
  )
