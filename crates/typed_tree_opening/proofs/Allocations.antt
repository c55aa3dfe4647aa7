-- The element types that a program allocates: each has a layout; and the parts of blocks, one by one.
use Rattle.std.proofs.Common.{◌≡◌, ℕ, ◌+◌, ◌<◌, Bool, true, false, if◌then◌else◌, List, [], ◌∷◌, ◌++◌, length, map}
use Rattle.std.proofs.Common.{drop, get_or, Option, Some, None, refl, sym, ap, ◌∙◌, append_assoc}
use Rattle.std.proofs.lemmas.List.{append-nil}
use Rattle.upc_types.specs.Types.{CType, base_of, Structs}
use Rattle.typed_tree.specs.declared.tree.Target.{Target}
use Rattle.typed_tree.specs.declared.tree.Target.TheVariants as c
use Rattle.typed_tree.specs.declared.tree.Item as m
use Rattle.typed_tree.specs.declared.tree.SwitchItem as w
use Rattle.typing_rules.specs.Library.{is_allocation}
use Rattle.typing_rules.specs.Nodes.{Attr}
use Rattle.typing_rules.specs.Values.{base_target}
use Rattle.typed_tree.specs.Tree.{Expr, Is, ExprKind, Literal, Mythread, Object, Callee, Format, Paren, Subscript}
use Rattle.typed_tree.specs.Tree.{Call, Member, MemberBehind, Step, Address, Dereference, Unary, SizeOf, SizeOfType}
use Rattle.typed_tree.specs.Tree.{Cast, Binary, And, Or, Assign, Compound, Conditional, Comma, Exprs, NoExprs}
use Rattle.typed_tree.specs.Tree.{AndExpr, Initial, NoInitial, InitialValue, InitialList, DeclaredObject, Affinity}
use Rattle.typed_tree.specs.Tree.{Everyone, AtValue, Head, Statement, Stands, StatementKind, Block, Value, If}
use Rattle.typed_tree.specs.Tree.{Switch, While, DoWhile, For, Forall, Break, Continue, Return, Synchronise, Fence}
use Rattle.typed_tree.specs.Tree.{StatementOption, NoStatement, TheStatement, Arms, NoArms, AndArm, Items, NoItems}
use Rattle.typed_tree.specs.Tree.{AndObjects, AndStatement, SwitchItems, NoSwitchItems, AndCase, AndDefault}
use Rattle.typed_tree.specs.Tree.{AndSwitchStatement, Function}
use Rattle.typed_tree.specs.ViewStatements.{view_object, view_statement_kind, view_item, view_items}
use Rattle.typed_tree.specs.ViewStatements.{view_switch_item, view_switch_items}
use Rattle.typing_rules.specs.Rules.{has_size}
use Rattle.typed_tree.specs.Allocated.{laid_target, allocated_call, allocated_expr, allocated_kind, allocated_exprs}
use Rattle.typed_tree.specs.Allocated.{allocated_value, allocated_initial, allocated_objects, allocated_head}
use Rattle.typed_tree.specs.Allocated.{allocated_affinity, allocated_statement, allocated_by, allocated_last}
use Rattle.typed_tree.specs.Allocated.{allocated_arms, allocated_items, allocated_switch, allocated_in}
use Rattle.upc_values.proofs.Membership.{left_from, each-append}
use Rattle.typed_tree_opening.proofs.Opened.{HaveLayouts}

-- ---- parts of blocks

-- A part of a block, and what follows it.
item_more : (s : Structs) (item : m.Item) (more : Items) → allocated_items s (view_item item NoItems)
    ++ allocated_items s more ≡ allocated_items s (view_item item more)
item_more s (m.Declare objects) more =
    ap (λ ts. ts ++ allocated_items s more) (append-nil (allocated_objects s (map view_object objects.items)))
item_more s (m.Do' p at kind) more =
    ap (λ ts. ts ++ allocated_items s more) (append-nil (allocated_by s (view_statement_kind kind)))

switch_more : (s : Structs) (item : w.SwitchItem) (more : SwitchItems) →
    allocated_switch s (view_switch_item item NoSwitchItems) ++ allocated_switch s more
    ≡ allocated_switch s (view_switch_item item more)
switch_more s (w.Case v) more = refl
switch_more s w.Default more = refl
switch_more s (w.Do' p at kind) more =
    ap (λ ts. ts ++ allocated_switch s more) (append-nil (allocated_by s (view_statement_kind kind)))

-- One more part.
pub item_step : (s : Structs) (xs : List m.Item) (i : ℕ) (x : m.Item) (new old : List CType) → i < length xs → x
    ≡ get_or xs i x → new ≡ old ++ allocated_items s (view_item x NoItems) →
    new ++ allocated_items s (view_items (drop (i + 1) xs)) ≡ old ++ allocated_items s (view_items (drop i xs))
item_step s xs i x new old l e h =
    let more = view_items (drop (i + 1) xs) in
    ap (λ ts. ts ++ allocated_items s more) h
    ∙ append_assoc old (allocated_items s (view_item x NoItems)) (allocated_items s more)
    ∙ ap (λ ts. old ++ ts) (item_more s x more
    ∙ sym (ap (λ ys. allocated_items s (view_items ys)) (left_from xs i x l e)))

pub switch_step : (s : Structs) (xs : List w.SwitchItem) (i : ℕ) (x : w.SwitchItem) (new old : List CType) →
    i < length xs → x ≡ get_or xs i x → new ≡ old ++ allocated_switch s (view_switch_item x NoSwitchItems) →
    new ++ allocated_switch s (view_switch_items (drop (i + 1) xs)) ≡ old
    ++ allocated_switch s (view_switch_items (drop i xs))
switch_step s xs i x new old l e h =
    let more = view_switch_items (drop (i + 1) xs) in
    ap (λ ts. ts ++ allocated_switch s more) h
    ∙ append_assoc old (allocated_switch s (view_switch_item x NoSwitchItems)) (allocated_switch s more)
    ∙ ap (λ ts. old ++ ts) (switch_more s x more
    ∙ sym (ap (λ ys. allocated_switch s (view_switch_items ys)) (left_from xs i x l e)))

-- ---- layouts

both : (s : Structs) (a b : List CType) → HaveLayouts s a → HaveLayouts s b → HaveLayouts s (a ++ b)
both s a b h k = each-append (λ (t : CType). has_size s t ≡ true) a b h k

if_laid : (s : Structs) (t : CType) (b : Bool) → has_size s t ≡ b → HaveLayouts s (if b then t ∷ [] else [])
if_laid s t true e = (e, tt)
if_laid s t false e = tt

target_laid : (s : Structs) (o : Option CType) → HaveLayouts s (laid_target s o)
target_laid s None = tt
target_laid s (Some t) = if_laid s t (has_size s t) refl

if_call : (s : Structs) (o : Option CType) (b : Bool) → HaveLayouts s (if b then laid_target s o else [])
if_call s o true = target_laid s o
if_call s o false = tt

call_laid : (s : Structs) (t : CType) (target : Target) → HaveLayouts s (allocated_call s t target)
call_laid s t (c.Function number) = tt
call_laid s t (c.Library call) = if_call s (base_target (base_of t)) (is_allocation call)

mutual
  expr_laid : (s : Structs) (e : Expr) → HaveLayouts s (allocated_expr s e)
  expr_laid s (Is at attr kind) = kind_laid s attr kind

  kind_laid : (s : Structs) (attr : Attr) (kind : ExprKind) → HaveLayouts s (allocated_kind s attr kind)
  kind_laid s attr Literal = tt
  kind_laid s attr Mythread = tt
  kind_laid s attr (Object home) = tt
  kind_laid s attr (Callee target) = tt
  kind_laid s attr (Format bytes) = tt
  kind_laid s attr (Paren a) = expr_laid s a
  kind_laid s attr (Subscript a i) = both s (allocated_expr s a) (allocated_expr s i) (expr_laid s a) (expr_laid s i)
  kind_laid s attr (Call target args) =
      both s (allocated_exprs s args) (allocated_call s attr.ctype target) (exprs_laid s args)
      (call_laid s attr.ctype target)
  kind_laid s attr (Member a index) = expr_laid s a
  kind_laid s attr (MemberBehind a index) = expr_laid s a
  kind_laid s attr (Step op a) = expr_laid s a
  kind_laid s attr (Address a) = expr_laid s a
  kind_laid s attr (Dereference a) = expr_laid s a
  kind_laid s attr (Unary op a) = expr_laid s a
  kind_laid s attr (SizeOf op a) = expr_laid s a
  kind_laid s attr (SizeOfType op t) = tt
  kind_laid s attr (Cast a) = expr_laid s a
  kind_laid s attr (Binary op a b) = both s (allocated_expr s a) (allocated_expr s b) (expr_laid s a) (expr_laid s b)
  kind_laid s attr (And a b) = both s (allocated_expr s a) (allocated_expr s b) (expr_laid s a) (expr_laid s b)
  kind_laid s attr (Or a b) = both s (allocated_expr s a) (allocated_expr s b) (expr_laid s a) (expr_laid s b)
  kind_laid s attr (Assign a b) = both s (allocated_expr s a) (allocated_expr s b) (expr_laid s a) (expr_laid s b)
  kind_laid s attr (Compound op a b) = both s (allocated_expr s a) (allocated_expr s b) (expr_laid s a) (expr_laid s b)
  kind_laid s attr (Conditional test a b) =
      both s (allocated_expr s test ++ allocated_expr s a) (allocated_expr s b)
      (both s (allocated_expr s test) (allocated_expr s a) (expr_laid s test) (expr_laid s a)) (expr_laid s b)
  kind_laid s attr (Comma parts) = exprs_laid s parts

  exprs_laid : (s : Structs) (es : Exprs) → HaveLayouts s (allocated_exprs s es)
  exprs_laid s NoExprs = tt
  exprs_laid s (AndExpr a more) =
      both s (allocated_expr s a) (allocated_exprs s more) (expr_laid s a) (exprs_laid s more)

value_laid : (s : Structs) (o : Option Expr) → HaveLayouts s (allocated_value s o)
value_laid s None = tt
value_laid s (Some a) = expr_laid s a

initial_laid : (s : Structs) (x : Initial) → HaveLayouts s (allocated_initial s x)
initial_laid s NoInitial = tt
initial_laid s (InitialValue value) = expr_laid s value
initial_laid s (InitialList values) = exprs_laid s values

objects_laid : (s : Structs) (xs : List DeclaredObject) → HaveLayouts s (allocated_objects s xs)
objects_laid s [] = tt
objects_laid s (x ∷ xs) =
    both s (allocated_initial s x.initial) (allocated_objects s xs) (initial_laid s x.initial) (objects_laid s xs)

head_laid : (s : Structs) (head : Head) → HaveLayouts s (allocated_head s head)
head_laid s head =
    let o = allocated_objects s head.objects in
    let f = allocated_value s head.first in
    let t = allocated_value s head.test in
    both s (o ++ f ++ t) (allocated_value s head.step)
    (both s (o ++ f) t (both s o f (objects_laid s head.objects) (value_laid s head.first))
    (value_laid s head.test)) (value_laid s head.step)

affinity_laid : (s : Structs) (a : Affinity) → HaveLayouts s (allocated_affinity s a)
affinity_laid s Everyone = tt
affinity_laid s (AtValue value) = expr_laid s value

mutual
  statement_laid : (s : Structs) (x : Statement) → HaveLayouts s (allocated_statement s x)
  statement_laid s (Stands at kind) = by_laid s kind

  by_laid : (s : Structs) (kind : StatementKind) → HaveLayouts s (allocated_by s kind)
  by_laid s (Block strict items) = items_laid s items
  by_laid s (Value value) = value_laid s value
  by_laid s (If arms last) =
      both s (allocated_arms s arms) (allocated_last s last) (arms_laid s arms) (last_laid s last)
  by_laid s (Switch value items) =
      both s (allocated_expr s value) (allocated_switch s items) (expr_laid s value) (switch_laid s items)
  by_laid s (While test body) =
      both s (allocated_expr s test) (allocated_statement s body) (expr_laid s test) (statement_laid s body)
  by_laid s (DoWhile body test) =
      both s (allocated_statement s body) (allocated_expr s test) (statement_laid s body) (expr_laid s test)
  by_laid s (For head body) =
      both s (allocated_head s head) (allocated_statement s body) (head_laid s head) (statement_laid s body)
  by_laid s (Forall head affinity body) =
      both s (allocated_head s head ++ allocated_affinity s affinity) (allocated_statement s body)
      (both s (allocated_head s head) (allocated_affinity s affinity) (head_laid s head)
      (affinity_laid s affinity)) (statement_laid s body)
  by_laid s Break = tt
  by_laid s Continue = tt
  by_laid s (Return value) = value_laid s value
  by_laid s (Synchronise how value) = value_laid s value
  by_laid s Fence = tt

  last_laid : (s : Structs) (x : StatementOption) → HaveLayouts s (allocated_last s x)
  last_laid s NoStatement = tt
  last_laid s (TheStatement x) = statement_laid s x

  arms_laid : (s : Structs) (x : Arms) → HaveLayouts s (allocated_arms s x)
  arms_laid s NoArms = tt
  arms_laid s (AndArm test body more) =
      both s (allocated_expr s test ++ allocated_statement s body) (allocated_arms s more)
      (both s (allocated_expr s test) (allocated_statement s body) (expr_laid s test) (statement_laid s body))
      (arms_laid s more)

  items_laid : (s : Structs) (x : Items) → HaveLayouts s (allocated_items s x)
  items_laid s NoItems = tt
  items_laid s (AndObjects objects more) =
      both s (allocated_objects s objects) (allocated_items s more) (objects_laid s objects) (items_laid s more)
  items_laid s (AndStatement x more) =
      both s (allocated_statement s x) (allocated_items s more) (statement_laid s x) (items_laid s more)

  switch_laid : (s : Structs) (x : SwitchItems) → HaveLayouts s (allocated_switch s x)
  switch_laid s NoSwitchItems = tt
  switch_laid s (AndCase value more) = switch_laid s more
  switch_laid s (AndDefault more) = switch_laid s more
  switch_laid s (AndSwitchStatement x more) =
      both s (allocated_statement s x) (allocated_switch s more) (statement_laid s x) (switch_laid s more)

-- Each type that is allocated has a layout.
pub all_laid : (s : Structs) (fs : List Function) → HaveLayouts s (allocated_in s fs)
all_laid s [] = tt
all_laid s (f ∷ fs) =
    both s (allocated_statement s f.body) (allocated_in s fs) (statement_laid s f.body) (all_laid s fs)
