-- What the items that are left do, by the calls that may still become active, by how the last statement was left, and
-- by the values of the expressions that are under way, youngest first.
use Rattle.std.specs.Prelude.{ℕ, suc, ℤ, not, Bool, true, false, List, [], ◌∷◌, drop}
use Rattle.std.specs.Prelude.{Option, Some, None}
use Rattle.upc_text.specs.declared.place.Place.{Place}
use Rattle.block_layout.specs.declared.kind.Kind.TheVariants as kind
use Rattle.integers.specs.Integers.{converted}
use Rattle.upc_values.specs.declared.scalar.Value.{Value as Given}
use Rattle.typing_rules.specs.Nodes.{Attr}
use Rattle.typed_tree.specs.declared.tree.Target.TheVariants as target
use Rattle.typed_tree.specs.Tree as tree
use Rattle.typed_tree.specs.Tree.{Expr, Is, ExprKind}
use Rattle.upc_values.specs.declared.scalar.Mark.TheVariants as mark
use Rattle.typing_rules.specs.Rules.{label_kind}
use Rattle.thread_steps.specs.Actions.{notify, wait}
use Rattle.thread_steps.specs.Blocks.{close_block, end_call, release, mine}
use Rattle.thread_steps.specs.States.{Doing, ◌>>=◌, ◌>>◌, give, choose}
use Rattle.thread_steps.specs.Values.{number, number_of, truth_value, is_zero}
use Rattle.thread_steps.specs.Operators.{cast}
use Rattle.source_meaning.specs.Running.{Running}
use Rattle.source_meaning.specs.layer.Parts.{given_by, value_in, Does, caught, turn_on, go_on}
use Rattle.source_meaning.specs.Expressions.{Calls, no_value}
use Rattle.source_meaning.specs.Expressions.{put}
use Rattle.source_meaning.specs.Expressions.{converted_to, truth_after, value, address}
use Rattle.source_meaning.specs.Expressions.{arguments, last}
use Rattle.source_meaning.specs.Statements.{Flow, Next, Gave, Standing, finished, turns}
use Rattle.source_meaning.specs.Statements.{around, controlling, synchronised, aside, tested, guarded}
use Rattle.source_meaning.specs.Statements.{listed, declared, run, run_last, run_arms, run_items, run_switch}
use Rattle.source_meaning.specs.Statements.{from_case, from_default}
use Rattle.source_meaning.specs.Threads.{called}
use Rattle.upc_meaning_state.specs.layer.Libraries.{library_called}
use Rattle.upc_meaning_state.specs.layer.Operations.{operated}
use Rattle.upc_meaning_work.specs.code.Stacks.{top, rest, second, below, youngest}
use Rattle.upc_meaning_work.specs.layer.Items.{Item, Value, Address, Hold, Operate, Branch, Truth, Convert, Arguments}
use Rattle.upc_meaning_work.specs.layer.Items.{Last, Drop, Run, Parts, Cases, Select, Caught, Leave, Turn, Test, Around}
use Rattle.upc_meaning_work.specs.layer.Items.{Mine, Guard}
use Rattle.upc_meaning_work.specs.layer.Items.{Finished, Release, Arm, Declare, Listed, Keep, Give, Mark, Return, End}

-- What follows, by how many calls may still become active, how the last statement was left, and the values.
abbrev pub Going : Type 0
Going = ℕ → Flow → List Given → Doing ℤ

-- An expression of this kind is a subscript, an assignment, or an operator between two operands of which both are
-- evaluated (C99 6.5.2.1, 6.5.5 to 6.5.12, 6.5.16).
abbrev pub is_infix : ExprKind → Bool
is_infix (tree.Subscript a i) = true
is_infix (tree.Binary o a b) = true
is_infix (tree.Assign a b) = true
is_infix (tree.Compound o a b) = true
is_infix kind = false

-- An expression is a subscript, an assignment, or an operator between two operands of which both are evaluated
-- (C99 6.5.2.1, 6.5.5 to 6.5.12, 6.5.16).
abbrev pub takes_two : Expr → Bool
takes_two (Is at attr kind) = is_infix kind

-- An expression of this kind is a member, or an operator on one operand other than `&` and `*` (C99 6.5.2.3, 6.5.2.4,
-- 6.5.3.1, 6.5.3.3, 6.5.4).
abbrev pub is_prefix : ExprKind → Bool
is_prefix (tree.Member a index) = true
is_prefix (tree.MemberBehind a index) = true
is_prefix (tree.Step o a) = true
is_prefix (tree.Unary o a) = true
is_prefix (tree.Cast a) = true
is_prefix kind = false

-- An expression is a member, or an operator on one operand other than `&` and `*` (C99 6.5.2.3, 6.5.2.4, 6.5.3.1,
-- 6.5.3.3, 6.5.4).
abbrev pub is_unary : Expr → Bool
is_unary (Is at attr kind) = is_prefix kind

-- The first operand of an expression of this kind decides what else is evaluated (C99 6.5.13 to 6.5.15).
abbrev pub decides_in : ExprKind → Bool
decides_in (tree.And a b) = true
decides_in (tree.Or a b) = true
decides_in (tree.Conditional test a b) = true
decides_in kind = false

-- The first operand of an expression decides what else is evaluated (C99 6.5.13 to 6.5.15).
abbrev pub decides : Expr → Bool
decides (Is at attr kind) = decides_in kind

-- The test of a loop, if it has one (C99 6.8.5).
abbrev pub test_in : tree.StatementKind → Option Expr
test_in (tree.While test body) = Some test
test_in (tree.DoWhile body test) = Some test
test_in (tree.For head body) = head.test
test_in (tree.Forall head whose body) = head.test
test_in kind = None

-- The expression that a loop evaluates last in a turn, if it has one (C99 6.8.5.3, UPC 6.6.2).
abbrev pub step_in : tree.StatementKind → Option Expr
step_in (tree.For head body) = head.step
step_in (tree.Forall head whose body) = head.step
step_in kind = None

module _ (ρ : Running) where
  -- What follows a first operand of this value, in an expression of this kind (C99 6.5.13 to 6.5.15).
  abbrev pub branched_by : Calls → Bool → Attr → ExprKind → Given → Doing Given
  branched_by call strict attr (tree.And a b) x =
      choose (is_zero x) (give (truth_value false)) (truth_after ρ (value ρ call strict b))
  branched_by call strict attr (tree.Or a b) x =
      choose (is_zero x) (truth_after ρ (value ρ call strict b)) (give (truth_value true))
  branched_by call strict attr (tree.Conditional test a b) x =
      choose (is_zero x) (converted_to ρ attr.ctype b (value ρ call strict b))
      (converted_to ρ attr.ctype a (value ρ call strict a))
  branched_by call strict attr kind x = give x

  -- What follows a first operand of this value, in an expression (C99 6.5.13 to 6.5.15).
  abbrev pub branched : Calls → Bool → Expr → Given → Doing Given
  branched call strict (Is at attr kind) x = branched_by call strict attr kind x

  -- A call, as an expression of this kind, whose arguments have these values (C99 6.5.2.2; UPC 7.2, 7.3).
  abbrev pub called_by : Calls → Place → Attr → ExprKind → List Given → Doing Given
  called_by call at attr (tree.Call (target.Function number) args) vs = call number vs at
  called_by call at attr (tree.Call (target.Library c) args) vs = library_called ρ at attr c args vs
  called_by call at attr kind vs = give no_value

  -- A call, as an expression, whose arguments have these values (C99 6.5.2.2; UPC 7.2, 7.3).
  abbrev pub called_so : Calls → Expr → List Given → Doing Given
  called_so call (Is at attr kind) vs = called_by call at attr kind vs

  -- ---- loops: the test, the body and the last part of one (C99 6.8.5, UPC 6.6.2)

  -- The body of a loop; that of a upc_forall is done where the turn is this thread's (C99 6.8.5, UPC 6.6.2).
  abbrev pub body_of : Calls → Standing → tree.StatementKind → Does
  body_of call κ (tree.While test body) = run ρ call κ body
  body_of call κ (tree.DoWhile body test) = run ρ call κ body
  body_of call κ (tree.For head body) = run ρ call κ body
  body_of call κ (tree.Forall head whose body) = guarded ρ call κ whose (run ρ call κ body)
  body_of call κ kind = give Next

  -- A loop of at most so many turns: its test, its body and its last part (C99 6.8.5, UPC 6.6.2).
  abbrev pub turned : Calls → Standing → tree.StatementKind → ℕ → Does
  turned call κ kind n =
      turns ρ n (tested ρ call κ (test_in kind)) (body_of call κ kind) (aside ρ call κ (step_in kind))

  -- What an item does, and then what follows.
  abbrev pub does : Item → Going → Going
  does (Value strict e) k n f vs = value ρ (called ρ n) strict e >>= (λ v. k n f (v ∷ vs))
  does (Address strict e) k n f vs = address ρ (called ρ n) strict e >>= (λ v. k n f (v ∷ vs))
  does (Hold strict at attr) k n f vs = value_in ρ strict at attr (top vs) >>= (λ v. k n f (v ∷ rest vs))
  does (Operate strict e) k n f vs =
      operated ρ strict e (second vs) (top vs) >>= (λ v. k n f (v ∷ below (takes_two e) vs))
  does (Branch strict e) k n f vs = branched (called ρ n) strict e (top vs) >>= (λ v. k n f (v ∷ rest vs))
  does Truth k n f vs = k n f (truth_value (not (is_zero (top vs))) ∷ rest vs)
  does (Convert into at) k n f vs = cast ρ.thread into at (top vs) >>= (λ v. k n f (v ∷ rest vs))
  does (Arguments strict e casts more done) k n f vs =
      arguments ρ (called ρ n) strict casts more (youngest done vs)
      >>= (λ ws. called_so (called ρ n) e ws >>= (λ v. k n f (v ∷ drop done vs)))
  does (Last strict parts) k n f vs = last ρ (called ρ n) strict (top vs) parts >>= (λ v. k n f (v ∷ rest vs))
  does Drop k n f vs = k n f (rest vs)
  does (Run κ s) k n f vs = run ρ (called ρ n) κ s >>= (λ g. k n g vs)
  does (Parts κ items) k n f vs = go_on (run_items ρ (called ρ n) κ items) f >>= (λ g. k n g vs)
  does (Cases κ items) k n f vs = go_on (run_switch ρ (called ρ n) κ items) f >>= (λ g. k n g vs)
  does (Select κ kind items) k n f vs =
      from_case ρ (called ρ n) κ (label_kind kind (number_of (top vs))) items
      (from_default ρ (called ρ n) κ items)
      >>= (λ g. k n g (rest vs))
  does Caught k n f vs = k n (caught f) vs
  does Leave k n f vs = close_block >> k n f vs
  does (Turn κ kind turns) k n f vs = turned (called ρ n) κ kind turns >>= (λ g. k n g vs)
  does (Test κ kind turns) k n f vs =
      choose (is_zero (top vs)) (give Next)
      (around ρ (body_of (called ρ n) κ kind) (aside ρ (called ρ n) κ (step_in kind))
      (turned (called ρ n) κ kind turns))
      >>= (λ g. k n g (rest vs))
  does (Around κ kind turns) k n f vs =
      turn_on (aside ρ (called ρ n) κ (step_in kind) >> turned (called ρ n) κ kind turns) f >>= (λ g. k n g vs)
  does (Mine at) k n f vs = mine ρ.thread at (top vs) >>= (λ v. k n f (v ∷ rest vs))
  does (Guard κ body) k n f vs =
      choose (is_zero (top vs)) (give Next) (controlling ρ (run ρ (called ρ n) κ body)) >>= (λ g. k n g (rest vs))
  does Finished k n f vs = k n (finished f) vs
  does Release k n f vs = release >> k n (finished f) vs
  does (Arm κ body more last) k n f vs =
      choose (is_zero (top vs)) (run_arms ρ (called ρ n) κ more (run_last ρ (called ρ n) κ last))
      (run ρ (called ρ n) κ body) >>= (λ g. k n g (rest vs))
  does (Declare κ objects) k n f vs = declared ρ (called ρ n) κ objects >> k n f vs
  does (Listed κ x index values) k n f vs = listed ρ (called ρ n) κ x index values >> k n f vs
  does (Keep strict at t) k n f vs = put ρ strict at t (second vs) (top vs) >> k n f (rest (rest vs))
  does Give k n f vs = k n (Gave (top vs)) (rest vs)
  does (Mark how at) k n f vs =
      synchronised ρ how at (mark.Given (converted kind.Int (number_of (top vs)))) >> k n Next (rest vs)
  does (Return saved blank) k n f vs = end_call >> k (suc n) saved (given_by blank f ∷ vs)
  does (End at) k n f vs = notify ρ.thread at mark.Finish >> (wait ρ.thread at mark.Finish >> k n f vs)

  -- What all items that are left do, one after the other; at the end the thread gives the youngest value as an int.
  abbrev pub left : List Item → Going
  left [] n f vs = give (converted kind.Int (number_of (top vs)))
  left (w ∷ ws) n f vs = does w (left ws) n f vs
