-- What an item of an expression leaves to be done.
use Rattle.std.proofs.Common.{◌≡◌, ℕ, ℤ, pos, Bool, List, [], ◌∷◌, refl, sym, ap, ◌∙◌, map}
use Rattle.std.specs.Prelude.{Result, Ok, Err, OnOk}
use Rattle.upc_text.specs.declared.place.Place.{Place}
use Rattle.integers.specs.declared.operator.BinOp.{BinOp}
use Rattle.integers.specs.declared.operator.UnOp.{UnOp}
use Rattle.upc_values.specs.declared.scalar.Value.{Value as Given}
use Rattle.upc_types.specs.Types.{CType}
use Rattle.typing_rules.specs.declared.setting.Home.{Home}
use Rattle.typing_rules.specs.declared.setting.SizeOperator.{SizeOperator}
use Rattle.typing_rules.specs.Nodes.{Attr}
use Rattle.typed_tree.specs.declared.tree.Target.{Target}
use Rattle.typed_tree.specs.Initials.{known_or_zero}
use Rattle.typed_tree.specs.declared.tree.StepOperator.{StepOperator}
use Rattle.typed_tree.specs.Tree as tree
use Rattle.typed_tree.specs.Tree.{Expr, Is, Exprs, NoExprs, AndExpr, exprs_of, place_of, attr_of}
use Rattle.typed_tree.specs.declared.tree.Expr.{Expr as Code}
use Rattle.typed_tree.specs.ViewTree.{view_expr}
use Rattle.thread_steps.specs.States.{State, Val, Doing, bind, ◌>>=◌, ◌>>◌, give}
use Rattle.thread_steps.specs.Values.{number}
use Rattle.source_meaning.specs.Running.{Running}
use Rattle.source_meaning.specs.Expressions.{inner_place, object, address, value, type_of, held}
use Rattle.source_meaning.specs.layer.Parts.{step_value, value_in}
use Rattle.source_meaning.specs.Expressions.{put, binary, last}
use Rattle.source_meaning.specs.Expressions.{step_operator}
use Rattle.source_meaning.specs.Types.{conversion}
use Rattle.source_meaning.specs.Threads.{called}
use Rattle.typing_rules.specs.Library.{int}
use Rattle.thread_steps.specs.Operators.{cast}
use Rattle.upc_meaning_state.specs.layer.Operations.{operated, step}
use Rattle.upc_meaning_state.proofs.Thens.{then_one, then_two, then_cast, then_same, put_last}
use Rattle.upc_meaning_work.specs.layer.Seen.{Seen, meant, with_item, more_works, more_values, popped}
use Rattle.upc_meaning_work.specs.layer.Items.{Value, Address, Hold, Operate, Branch, Last}
use Rattle.upc_meaning_work.specs.layer.Left.{branched, left}
use Rattle.upc_meaning_work.specs.code.Stacks.{second, rest, top}

module _ (ρ : Running) (strict : Bool) (at : Place) (attr : Attr) (s t : Seen) where
  abbrev this : tree.ExprKind → Expr
  this kind = Is at attr kind

  -- What follows, after a value.
  abbrev k : Given → Doing ℤ
  k x = left ρ s.works s.free s.flow (x ∷ s.values)

  pub literal_goes : t ≡ more_values (number (known_or_zero attr.constant) ∷ []) s
      → with_item ρ (Address strict (this tree.Literal)) s ≡ meant ρ t
  unfolding with_item meant
  literal_goes e = ap (meant ρ) (sym e)

  pub mythread_goes : t ≡ more_values (number (pos ρ.thread.number) ∷ []) s
      → with_item ρ (Address strict (this tree.Mythread)) s ≡ meant ρ t
  unfolding with_item meant
  mythread_goes e = ap (meant ρ) (sym e)

  pub size_of_goes : (o : SizeOperator) (a : Expr) → t ≡ more_values (number (known_or_zero attr.constant) ∷ []) s
      → with_item ρ (Address strict (this (tree.SizeOf o a))) s ≡ meant ρ t
  unfolding with_item meant
  size_of_goes o a e = ap (meant ρ) (sym e)

  pub size_of_type_goes : (o : SizeOperator) (u : CType) → t ≡ more_values (number (known_or_zero attr.constant) ∷ []) s
      → with_item ρ (Address strict (this (tree.SizeOfType o u))) s ≡ meant ρ t
  unfolding with_item meant
  size_of_type_goes o u e = ap (meant ρ) (sym e)

  pub callee_goes : (x : Target) → t ≡ more_values (number (pos 0) ∷ []) s
      → with_item ρ (Address strict (this (tree.Callee x))) s ≡ meant ρ t
  unfolding with_item meant
  callee_goes x e = ap (meant ρ) (sym e)

  pub format_goes : (bytes : List ℕ) → t ≡ more_values (number (pos 0) ∷ []) s
      → with_item ρ (Address strict (this (tree.Format bytes))) s ≡ meant ρ t
  unfolding with_item meant
  format_goes bytes e = ap (meant ρ) (sym e)

  pub object_goes : (h : Home) (v : Given) → object ρ h s.state ≡ Val v s.state → t ≡ more_values (v ∷ []) s
      → with_item ρ (Address strict (this (tree.Object h))) s ≡ meant ρ t
  unfolding with_item meant
  object_goes h v found e =
      ap (λ r. bind r (λ x. left ρ s.works s.free s.flow (x ∷ s.values))) found ∙ ap (meant ρ) (sym e)

  pub paren_goes : (a : Expr) → t ≡ more_works (Address strict a ∷ []) s → with_item ρ (Address strict (this (tree.Paren a))) s ≡ meant ρ t
  unfolding with_item meant
  paren_goes a e = refl ∙ ap (meant ρ) (sym e)

  pub address_goes : (a : Expr) → t ≡ more_works (Address strict a ∷ []) s → with_item ρ (Address strict (this (tree.Address a))) s ≡ meant ρ t
  unfolding with_item meant
  address_goes a e = refl ∙ ap (meant ρ) (sym e)

  pub dereference_goes : (a : Expr) → t ≡ more_works (Value strict a ∷ []) s → with_item ρ (Address strict (this (tree.Dereference a))) s ≡ meant ρ t
  unfolding with_item meant
  dereference_goes a e = refl ∙ ap (meant ρ) (sym e)

  pub member_goes : (a : Expr) (i : ℕ) → t ≡ more_works (Address strict a ∷ Operate strict (this (tree.Member a i)) ∷ []) s → with_item ρ (Address strict (this (tree.Member a i))) s ≡ meant ρ t
  unfolding with_item meant
  member_goes a i e =
      then_one {A = Given} {B = Given} (address ρ (called ρ s.free) strict a s.state)
      (λ x. operated ρ strict (this (tree.Member a i)) (second (x ∷ s.values)) x) k
      ∙ ap (meant ρ) (sym e)

  pub member_behind_goes : (a : Expr) (i : ℕ) → t ≡ more_works (Value strict a ∷ Operate strict (this (tree.MemberBehind a i)) ∷ []) s → with_item ρ (Address strict (this (tree.MemberBehind a i))) s ≡ meant ρ t
  unfolding with_item meant
  member_behind_goes a i e =
      then_one {A = Given} {B = Given} (value ρ (called ρ s.free) strict a s.state)
      (λ x. operated ρ strict (this (tree.MemberBehind a i)) (second (x ∷ s.values)) x) k
      ∙ ap (meant ρ) (sym e)

  pub unary_goes : (o : UnOp) (a : Expr) → t ≡ more_works (Value strict a ∷ Operate strict (this (tree.Unary o a)) ∷ []) s → with_item ρ (Address strict (this (tree.Unary o a))) s ≡ meant ρ t
  unfolding with_item meant
  unary_goes o a e =
      then_one {A = Given} {B = Given} (value ρ (called ρ s.free) strict a s.state)
      (λ x. operated ρ strict (this (tree.Unary o a)) (second (x ∷ s.values)) x) k
      ∙ ap (meant ρ) (sym e)

  pub cast_goes : (a : Expr) → t ≡ more_works (Value strict a ∷ Operate strict (this (tree.Cast a)) ∷ []) s → with_item ρ (Address strict (this (tree.Cast a))) s ≡ meant ρ t
  unfolding with_item meant
  cast_goes a e =
      then_one {A = Given} {B = Given} (value ρ (called ρ s.free) strict a s.state)
      (λ x. operated ρ strict (this (tree.Cast a)) (second (x ∷ s.values)) x) k
      ∙ ap (meant ρ) (sym e)

  pub subscript_goes : (a b : Expr) → t ≡ more_works (Value strict a ∷ Value strict b ∷ Operate strict (this (tree.Subscript a b)) ∷ []) s → with_item ρ (Address strict (this (tree.Subscript a b))) s ≡ meant ρ t
  unfolding with_item meant
  subscript_goes a b e =
      then_two {A = Given} {B = Given} {C = Given} (value ρ (called ρ s.free) strict a s.state)
      (value ρ (called ρ s.free) strict b) (λ x y. operated ρ strict (this (tree.Subscript a b)) x y) k
      ∙ ap (meant ρ) (sym e)

  pub binary_goes : (o : BinOp) (a b : Expr) → t ≡ more_works (Value strict a ∷ Value strict b ∷ Operate strict (this (tree.Binary o a b)) ∷ []) s → with_item ρ (Address strict (this (tree.Binary o a b))) s ≡ meant ρ t
  unfolding with_item meant
  binary_goes o a b e =
      then_two {A = Given} {B = Given} {C = Given} (value ρ (called ρ s.free) strict a s.state)
      (value ρ (called ρ s.free) strict b) (λ x y. operated ρ strict (this (tree.Binary o a b)) x y) k
      ∙ ap (meant ρ) (sym e)

  pub compound_goes : (o : BinOp) (a b : Expr) → t ≡ more_works (Address strict a ∷ Value strict b ∷ Operate strict (this (tree.Compound o a b)) ∷ []) s → with_item ρ (Address strict (this (tree.Compound o a b))) s ≡ meant ρ t
  unfolding with_item meant
  compound_goes o a b e =
      then_two {A = Given} {B = Given} {C = Given} (address ρ (called ρ s.free) strict a s.state)
      (value ρ (called ρ s.free) strict b) (λ x y. operated ρ strict (this (tree.Compound o a b)) x y) k
      ∙ ap (meant ρ) (sym e)

  pub assign_goes : (a b : Expr) → t ≡ more_works (Address strict a ∷ Value strict b ∷ Operate strict (this (tree.Assign a b)) ∷ []) s → with_item ρ (Address strict (this (tree.Assign a b))) s ≡ meant ρ t
  unfolding with_item meant
  assign_goes a b e =
      then_cast {A = Given} {B = Given} {C = Given} {D = Given} (address ρ (called ρ s.free) strict a s.state)
      (value ρ (called ρ s.free) strict b) (cast ρ.thread (conversion (type_of b) (type_of a)) (place_of b))
      (λ p w. put ρ strict at (type_of a) p w >> give w) k
      ∙ ap (meant ρ) (sym e)

  pub and_goes : (a b : Expr) → t ≡ more_works (Value strict a ∷ Branch strict (this (tree.And a b)) ∷ []) s → with_item ρ (Address strict (this (tree.And a b))) s ≡ meant ρ t
  unfolding with_item meant
  and_goes a b e =
      then_one {A = Given} {B = Given} (value ρ (called ρ s.free) strict a s.state)
      (λ x. branched ρ (called ρ s.free) strict (this (tree.And a b)) x) k
      ∙ ap (meant ρ) (sym e)

  pub or_goes : (a b : Expr) → t ≡ more_works (Value strict a ∷ Branch strict (this (tree.Or a b)) ∷ []) s → with_item ρ (Address strict (this (tree.Or a b))) s ≡ meant ρ t
  unfolding with_item meant
  or_goes a b e =
      then_one {A = Given} {B = Given} (value ρ (called ρ s.free) strict a s.state)
      (λ x. branched ρ (called ρ s.free) strict (this (tree.Or a b)) x) k
      ∙ ap (meant ρ) (sym e)

  pub conditional_goes : (c a b : Expr) → t ≡ more_works (Value strict c ∷ Branch strict (this (tree.Conditional c a b)) ∷ []) s → with_item ρ (Address strict (this (tree.Conditional c a b))) s ≡ meant ρ t
  unfolding with_item meant
  conditional_goes c a b e =
      then_one {A = Given} {B = Given} (value ρ (called ρ s.free) strict c s.state)
      (λ x. branched ρ (called ρ s.free) strict (this (tree.Conditional c a b)) x) k
      ∙ ap (meant ρ) (sym e)

  -- `++` and `--`, as they are given and as they are done.
  step_told : (o : StepOperator) (a : Expr) → Given → Doing Given
  step_told o a p =
      held ρ strict at (type_of a) p >>= (λ v. binary ρ at (step_operator ρ o) (type_of a) int v (number (pos 1))
      >>= (λ w. cast ρ.thread (conversion (type_of a) (type_of a)) at w
      >>= (λ u. put ρ strict at (type_of a) p u >> give (step_value v u o))))

  step_is : (o : StepOperator) (a : Expr) (p : Given) (σ : State)
      → step_told o a p σ ≡ step ρ strict at o (type_of a) p σ
  unfolding step_told
  step_is o a p σ =
      then_same (held ρ strict at (type_of a) p σ) _ _
      (λ v τ. then_same (binary ρ at (step_operator ρ o) (type_of a) int v (number (pos 1)) τ) _ _
      (λ w υ. put_last (cast ρ.thread (conversion (type_of a) (type_of a)) at w υ)
      (λ u. put ρ strict at (type_of a) p u) (λ u. step_value v u o)))

  pub step_goes : (o : StepOperator) (a : Expr)
      → t ≡ more_works (Address strict a ∷ Operate strict (this (tree.Step o a)) ∷ []) s
      → with_item ρ (Address strict (this (tree.Step o a))) s ≡ meant ρ t
  unfolding with_item meant step_told
  step_goes o a e =
      then_one {A = Given} {B = Given} (address ρ (called ρ s.free) strict a s.state) (step_told o a) k
      ∙ then_same (address ρ (called ρ s.free) strict a s.state) _ _
      (λ p σ. ap (λ r. bind r (λ v. left ρ s.works s.free s.flow (v ∷ s.values))) (step_is o a p σ))
      ∙ ap (meant ρ) (sym e)

  pub comma_goes : (es : Exprs) → t ≡ more_works (Last strict es ∷ []) (more_values (number (pos 0) ∷ []) s)
      → with_item ρ (Address strict (this (tree.Comma es))) s ≡ meant ρ t
  unfolding with_item meant
  comma_goes es e = ap (meant ρ) (sym e)

module _ (ρ : Running) (strict : Bool) (s t : Seen) where
  pub last_goes : (a : Expr) (more : Exprs) (u : Seen) → u ≡ popped s
      → t ≡ more_works (Value strict a ∷ Last strict more ∷ []) u
      → with_item ρ (Last strict (AndExpr a more)) s ≡ meant ρ t
  unfolding with_item meant
  last_goes a more u same e =
      then_one {A = Given} {B = Given} (value ρ (called ρ s.free) strict a s.state)
      (λ w. last ρ (called ρ s.free) strict w more) (λ v. left ρ s.works s.free s.flow (v ∷ rest s.values))
      ∙ ap (λ x. meant ρ (more_works (Value strict a ∷ Last strict more ∷ []) x)) (sym same)
      ∙ ap (meant ρ) (sym e)

  pub last_gives : (es : List Code) (u : Seen) → es ≡ [] → u ≡ popped s → t ≡ more_values (top s.values ∷ []) u
      → with_item ρ (Last strict (exprs_of (map view_expr es))) s ≡ meant ρ t
  unfolding with_item meant
  last_gives es u none same e =
      ap (λ l. with_item ρ (Last strict (exprs_of (map view_expr l))) s) none
      ∙ ap (λ x. meant ρ (more_values (top s.values ∷ []) x)) (sym same) ∙ ap (meant ρ) (sym e)

  pub value_goes : (e : Expr) (there : Place) → there ≡ inner_place e
      → t ≡ more_works (Address strict e ∷ Hold strict there (attr_of e) ∷ []) s
      → with_item ρ (Value strict e) s ≡ meant ρ t
  unfolding with_item meant
  value_goes (Is here its kind) there p e =
      then_one {A = Given} {B = Given} (address ρ (called ρ s.free) strict (Is here its kind) s.state)
      (value_in ρ strict (inner_place (Is here its kind)) its) (λ x. left ρ s.works s.free s.flow (x ∷ s.values))
      ∙ ap (λ x. meant ρ (more_works (Address strict (Is here its kind) ∷ Hold strict x its ∷ []) s)) (sym p)
      ∙ ap (meant ρ) (sym e)

pub ruleset arms = (literal_goes, mythread_goes, size_of_goes, size_of_type_goes, callee_goes, format_goes, object_goes, paren_goes, address_goes, dereference_goes, member_goes, member_behind_goes, unary_goes, cast_goes, subscript_goes, binary_goes, compound_goes, assign_goes, step_goes, and_goes, or_goes, conditional_goes, value_goes, last_goes, last_gives, comma_goes)

pub on_ok : {A E P Q : Type 0} (r : Result A E) → (P → Q) → OnOk r P → OnOk r Q
on_ok (Ok a) f h = f h
on_ok (Err e) f h = tt
