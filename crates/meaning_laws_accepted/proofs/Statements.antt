-- Statements: what the walk makes of them is formed.
use Rattle.std.proofs.Common.{Bool, Option, Some, None, refl}
use Rattle.upc_text.specs.declared.place.Place.{Place}
use Rattle.block_layout.specs.declared.kind.Kind.{Kind}
use Rattle.upc_tree.specs.Expression as t
use Rattle.upc_tree.specs.Statement as s
use Rattle.upc_tree.specs.Statement.{Statement, Compound, Braces, BlockItems, NoBlockItems, AndBlockItem}
use Rattle.upc_tree.specs.Statement.{DeclarationItem, StatementItem, SwitchItems, NoSwitchItems, AndSwitchItem}
use Rattle.upc_tree.specs.Statement.{CaseItem, DefaultItem, SwitchStatement, ElseIfs, NoElseIfs, AndElseIf, Otherwise}
use Rattle.upc_tree.specs.Statement.{NoOtherwise, Else, Test, Tests, First, FirstValue, FirstDeclaration, Affinity}
use Rattle.upc_tree.specs.Statement.{NoAffinity, ContinueAffinity, ValueAffinity, ForHead, ForParts, ForallHead}
use Rattle.upc_tree.specs.Statement.{ForallParts}
use Rattle.upc_values.specs.Lists.{Each}
use Rattle.upc_types.specs.Types.{Structs, base_of}
use Rattle.typed_tree.specs.declared.tree.Synchronises.{Synchronises}
use Rattle.typing_rules.specs.Attributes.{base}
use Rattle.typing_rules.specs.Values.{base_kind}
use Rattle.typing_rules.specs.Nodes as n
use Rattle.typing_rules.specs.Nodes.{Around}
use Rattle.typed_tree.specs.Scopes.{Setting, Env, inside}
use Rattle.typed_tree.specs.Tree as typed
use Rattle.typed_tree.specs.Tree.{Expr, attr_of}
use Rattle.upc_checker_scopes.specs.Places.{at}
use Rattle.upc_checker_statements.specs.Statements.{in_loop, in_switch, in_forall, strict_behind, synchronises}
use Rattle.upc_checker_statements.specs.Statements.{walk_value, walk_test, Begun, walk_first, walk_affinity, Headed}
use Rattle.upc_checker_statements.specs.Statements.{walk_for_head, walk_forall_head, Labelled, Armed, deeper}
use Rattle.upc_checker_statements.specs.Statements.{walk_returned, walk_statement, walk_block, walk_items}
use Rattle.upc_checker_statements.specs.Statements.{walk_switch}
use Rattle.upc_checker_statements.specs.Statements.{walk_else_ifs, walk_otherwise}
use Rattle.upc_checker_nodes.specs.Judged.{returns, synchronise}
use Rattle.meaning_laws_accepted.proofs.Types.{IsNamed}
use Rattle.meaning_laws_accepted.proofs.Sounds.{IsSoundExpr, IsSoundObject, IsSoundValue, IsSoundAffinity, IsSoundHead}
use Rattle.meaning_laws_accepted.proofs.Sounds.{IsSoundStatement, IsSoundLast, AreSoundArms, AreSoundItems}
use Rattle.meaning_laws_accepted.proofs.Sounds.{AreSoundSwitch}
use Rattle.meaning_laws_accepted.proofs.Scopes.{Knows}
use Rattle.meaning_laws_accepted.proofs.Walks.{Keeps, keeps_then, keeps_give, keeps_weaken, any_judge, keeps_enclosed}
use Rattle.meaning_laws_accepted.proofs.Nodes.{Sized}
use Rattle.meaning_laws_accepted.proofs.Expressions.{keeps_constantly, keeps_walk}
use Rattle.meaning_laws_accepted.proofs.Declarations.{keeps_declaration}

module _ (ξ : Setting) (σ : Structs) where
  keeps_value : (Γ : Env) (x : Option t.Expr)
      → Keeps σ.completed (walk_value ξ Γ x) (λ a. Knows Γ → IsSoundValue (Sized ξ σ) a)
  keeps_value Γ None = keeps_give _ (λ k. tt)
  keeps_value Γ (Some e) = keeps_then (keeps_walk ξ σ Γ n.Plain e) (λ a. keeps_give _ (λ g k. (g k tt).0))

  keeps_test : (Γ : Env) (x : Test)
      → Keeps σ.completed (walk_test ξ Γ x) (λ a. Knows Γ → IsSoundExpr (Sized ξ σ) a)
  keeps_test Γ (Tests left value right) = keeps_weaken (keeps_walk ξ σ Γ n.Plain value) (λ a g k. (g k tt).0)

  -- ---- the heads of loops

  abbrev BeginsFormed : Env → Begun → Type 0
  BeginsFormed Γ b =
      Knows Γ → Knows b.scope × Each (IsSoundObject (Sized ξ σ)) b.objects × IsSoundValue (Sized ξ σ) b.first

  keeps_first : (Γ : Env) (x : First) → Keeps σ.completed (walk_first ξ Γ x) (BeginsFormed Γ)
  keeps_first Γ (FirstValue value semicolon) =
      keeps_then (keeps_value Γ value) (λ a. keeps_give _ (λ g k. (k, tt, g k)))
  keeps_first Γ (FirstDeclaration declaration) =
      keeps_then (keeps_declaration ξ σ Γ declaration) (λ b. keeps_give _ (λ g k.
      let r = g k in (r.scope, r.objects, tt)))

  keeps_affinity : (Γ : Env) (x : Affinity)
      → Keeps σ.completed (walk_affinity ξ Γ x) (λ a. Knows Γ → IsSoundAffinity (Sized ξ σ) a)
  keeps_affinity Γ NoAffinity = keeps_give _ (λ k. tt)
  keeps_affinity Γ (ContinueAffinity word) = keeps_give _ (λ k. tt)
  keeps_affinity Γ (ValueAffinity value) =
      keeps_then (keeps_walk ξ σ Γ n.Plain value) (λ a. keeps_then (any_judge ξ _ _ (λ q. refl)) (λ u.
      keeps_give _ (λ i g k. (g k tt).0)))

  abbrev HeadFormed : Env → Headed → Type 0
  HeadFormed Γ h =
      Knows Γ → IsSoundHead (Sized ξ σ) h.head × IsSoundAffinity (Sized ξ σ) h.affinity × Knows h.scope

  keeps_for_head : (Γ : Env) (x : ForHead) → Keeps σ.completed (walk_for_head ξ Γ x) (HeadFormed Γ)
  keeps_for_head Γ (ForParts left first test test_end step right) =
      keeps_then (keeps_first Γ first) (λ b. keeps_then (keeps_value b.scope test) (λ q.
      keeps_then (keeps_value b.scope step) (λ p. keeps_give _ (λ gp gq gb k.
      let r = gb k in ((r.1, r.2, gq r.0, gp r.0), tt, r.0)))))

  keeps_forall_head : (Γ : Env) (x : ForallHead) → Keeps σ.completed (walk_forall_head ξ Γ x) (HeadFormed Γ)
  keeps_forall_head Γ (ForallParts left first test test_end step step_end affinity right) =
      keeps_then (keeps_first Γ first) (λ b. keeps_then (keeps_value b.scope test) (λ q.
      keeps_then (keeps_value b.scope step) (λ p. keeps_then (keeps_affinity b.scope affinity) (λ a.
      keeps_give _ (λ ga gp gq gb k. let r = gb k in ((r.1, r.2, gq r.0, gp r.0), ga r.0, r.0))))))

  -- ---- simple statements

  -- What a `return` gives is converted into a type that is formed.
  abbrev pub ReturnsNamed : Around → Type 0
  ReturnsNamed c = IsNamed (base_of c.result)

  keeps_returned : (Γ : Env) (c : Around) (x : Option t.Expr)
      → Keeps σ.completed (walk_returned ξ Γ c x) (λ a. Knows Γ → ReturnsNamed c → IsSoundValue (Sized ξ σ) a)
  keeps_returned Γ c None = keeps_give _ (λ k h. tt)
  keeps_returned Γ c (Some e) =
      keeps_then (keeps_walk ξ σ Γ (n.Into c.result) e) (λ a. keeps_give _ (λ g k h. (g k h).0))

  keeps_returns : (c : Around) (place : Place) (x : Option Expr)
      → Keeps σ.completed (returns ξ c place x)
      (λ y. IsSoundValue (Sized ξ σ) x → IsSoundStatement (Sized ξ σ) y)
  keeps_returns c place None = keeps_then (any_judge ξ _ _ (λ q. refl)) (λ u. keeps_give _ (λ i h. h))
  keeps_returns c place (Some a) = keeps_then (any_judge ξ _ _ (λ q. refl)) (λ u. keeps_give _ (λ i h. h))

  keeps_synchronise : (place : Place) (how : Synchronises) (x : Option Expr)
      → Keeps σ.completed (synchronise ξ place how x)
      (λ y. IsSoundValue (Sized ξ σ) x → IsSoundStatement (Sized ξ σ) y)
  keeps_synchronise place how None = keeps_give _ (λ h. h)
  keeps_synchronise place how (Some a) = keeps_then (any_judge ξ _ _ (λ q. refl)) (λ u. keeps_give _ (λ i h. h))

  -- ---- statements

  abbrev StatementFormed : Env → Around → typed.Statement → Type 0
  StatementFormed Γ c x = Knows Γ → ReturnsNamed c → IsSoundStatement (Sized ξ σ) x

  abbrev SwitchFormed : Env → Around → Labelled → Type 0
  SwitchFormed Γ c x = Knows Γ → ReturnsNamed c → AreSoundSwitch (Sized ξ σ) x.items

  abbrev ArmsFormed : Env → Env → Around → Armed → Type 0
  ArmsFormed Γ Δ c x =
      Knows Γ → Knows Δ → ReturnsNamed c → AreSoundArms (Sized ξ σ) x.arms × Knows x.scope

  mutual
    keeps_statement : (Γ : Env) (c : Around) (strict : Bool) (x : Statement)
        → Keeps σ.completed (walk_statement ξ Γ c strict x) (StatementFormed Γ c)
    keeps_statement Γ c strict (s.Block compound) =
        keeps_weaken (keeps_block (inside Γ) c strict compound) (λ b g k h. g (tt, k) h)
    keeps_statement Γ c strict (s.Value value semicolon) =
        keeps_then (keeps_value Γ value) (λ a. keeps_give _ (λ g k h. g k))
    keeps_statement Γ c strict (s.If word test body more last) =
        keeps_enclosed (keeps_then (keeps_test (inside Γ) test) (λ a.
        keeps_then (keeps_enclosed (keeps_statement (inside (inside Γ)) c strict body)) (λ b.
        keeps_then (keeps_else_ifs (inside Γ) (inside (inside Γ)) c strict more) (λ x.
        keeps_then (keeps_otherwise x.scope c strict last) (λ o.
        keeps_then (any_judge ξ _ _ (λ q. refl)) (λ u. keeps_give _ (λ i go gx gb ga k h.
        let inner : Knows (inside Γ) = (tt, k) in
        let arms = gx inner (tt, inner) h in
        ((ga inner, gb (tt, inner) h, arms.0), go arms.1 h))))))))
    keeps_statement Γ c strict (s.Switch word test left items right) =
        keeps_enclosed (keeps_then (keeps_test (inside Γ) test) (λ a.
        keeps_then (keeps_enclosed (keeps_switch (inside (inside Γ)) (in_switch c) strict (base_kind (base (attr_of a)))
        items)) (λ x. keeps_then (any_judge ξ _ _ (λ q. refl)) (λ u. keeps_give _ (λ i gx ga k h.
        (ga (tt, k), gx (tt, (tt, k)) h))))))
    keeps_statement Γ c strict (s.While word test body) =
        keeps_enclosed (keeps_then (keeps_test (inside Γ) test) (λ a.
        keeps_then (keeps_enclosed (keeps_statement (inside (inside Γ)) (in_loop c) strict body)) (λ b.
        keeps_then (any_judge ξ _ _ (λ q. refl)) (λ u. keeps_give _ (λ i gb ga k h.
        (ga (tt, k), gb (tt, (tt, k)) h))))))
    keeps_statement Γ c strict (s.DoWhile word body until test semicolon) =
        keeps_enclosed (keeps_then (keeps_enclosed (keeps_statement (inside (inside Γ)) (in_loop c) strict body)) (λ b.
        keeps_then (keeps_test (inside Γ) test) (λ a.
        keeps_then (any_judge ξ _ _ (λ q. refl)) (λ u. keeps_give _ (λ i ga gb k h.
        (gb (tt, (tt, k)) h, ga (tt, k)))))))
    keeps_statement Γ c strict (s.For word head body) =
        keeps_enclosed (keeps_then (keeps_for_head (inside Γ) head) (λ d.
        keeps_then (keeps_enclosed (keeps_statement (inside d.scope) (in_loop c) strict body)) (λ b.
        keeps_then (any_judge ξ _ _ (λ q. refl)) (λ u. keeps_give _ (λ i gb gd k h.
        let r = gd (tt, k) in (r.0, gb (tt, r.2) h))))))
    keeps_statement Γ c strict (s.Forall word head body) =
        keeps_enclosed (keeps_then (keeps_forall_head (inside Γ) head) (λ d.
        keeps_then (keeps_enclosed (keeps_statement (inside d.scope) (in_forall c) strict body)) (λ b.
        keeps_then (any_judge ξ _ _ (λ q. refl)) (λ u. keeps_give _ (λ i gb gd k h.
        let r = gd (tt, k) in (r.0, r.1, gb (tt, r.2) h))))))
    keeps_statement Γ c strict (s.Break word semicolon) =
        keeps_then (any_judge ξ _ _ (λ q. refl)) (λ u. keeps_give _ (λ i k h. tt))
    keeps_statement Γ c strict (s.Continue word semicolon) =
        keeps_then (any_judge ξ _ _ (λ q. refl)) (λ u. keeps_give _ (λ i k h. tt))
    keeps_statement Γ c strict (s.Return word value semicolon) =
        keeps_then (keeps_returned Γ c value) (λ a. keeps_weaken (keeps_returns c (at word) a) (λ y g f k h. g (f k h)))
    keeps_statement Γ c strict (s.Barrier kind word value semicolon) =
        keeps_then (keeps_value Γ value) (λ a.
        keeps_weaken (keeps_synchronise (at word) (synchronises kind) a) (λ y g f k h. g (f k)))
    keeps_statement Γ c strict (s.Fence word semicolon) = keeps_give _ (λ k h. tt)

    pub keeps_block : (Γ : Env) (c : Around) (strict : Bool) (x : Compound)
        → Keeps σ.completed (walk_block ξ Γ c strict x) (StatementFormed Γ c)
    keeps_block Γ c strict (Braces left pragmas items right) =
        keeps_enclosed (keeps_then (keeps_items Γ c (strict_behind strict pragmas) items) (λ xs.
        keeps_give _ (λ g k h. g k h)))

    keeps_items : (Γ : Env) (c : Around) (strict : Bool) (x : BlockItems)
        → Keeps σ.completed (walk_items ξ Γ c strict x)
        (λ xs. Knows Γ → ReturnsNamed c → AreSoundItems (Sized ξ σ) xs)
    keeps_items Γ c strict NoBlockItems = keeps_give _ (λ k h. tt)
    keeps_items Γ c strict (AndBlockItem (DeclarationItem declaration) more) =
        keeps_then (keeps_declaration ξ σ Γ declaration) (λ b. keeps_then (keeps_items b.scope c strict more) (λ xs.
        keeps_give _ (λ gs g k h.
        let r = g k in (r.objects, gs r.scope h))))
    keeps_items Γ c strict (AndBlockItem (StatementItem statement) more) =
        keeps_then (keeps_statement Γ c strict statement) (λ x. keeps_then (keeps_items Γ c strict more) (λ xs.
        keeps_give _ (λ gs g k h. (g k h, gs k h))))

    keeps_switch : (Γ : Env) (c : Around) (strict : Bool) (kind : Option Kind) (x : SwitchItems)
        → Keeps σ.completed (walk_switch ξ Γ c strict kind x) (SwitchFormed Γ c)
    keeps_switch Γ c strict kind NoSwitchItems = keeps_give _ (λ k h. tt)
    keeps_switch Γ c strict kind (AndSwitchItem (CaseItem word value colon) more) =
        keeps_then (keeps_walk ξ σ Γ n.Plain value) (λ a. keeps_then (keeps_constantly ξ σ a) (λ l.
        keeps_then (keeps_switch Γ c strict kind more) (λ x. keeps_give _ (λ g i j k h. g k h))))
    keeps_switch Γ c strict kind (AndSwitchItem (DefaultItem word colon) more) =
        keeps_then (keeps_switch Γ c strict kind more) (λ x. keeps_give _ (λ g k h. g k h))
    keeps_switch Γ c strict kind (AndSwitchItem (SwitchStatement statement) more) =
        keeps_then (keeps_statement Γ c strict statement) (λ y. keeps_then (keeps_switch Γ c strict kind more) (λ x.
        keeps_give _ (λ gs g k h. (g k h, gs k h))))

    keeps_else_ifs : (Γ Δ : Env) (c : Around) (strict : Bool) (x : ElseIfs)
        → Keeps σ.completed (walk_else_ifs ξ Γ Δ c strict x) (ArmsFormed Γ Δ c)
    keeps_else_ifs Γ Δ c strict NoElseIfs = keeps_give _ (λ k l h. (tt, l))
    keeps_else_ifs Γ Δ c strict (AndElseIf other word test body more) =
        keeps_then (keeps_test Δ test) (λ a.
        keeps_then (keeps_enclosed (keeps_statement (inside Δ) c strict body)) (λ b.
        keeps_then (keeps_else_ifs Γ (deeper Γ Δ) c strict more) (λ x. keeps_give _ (λ gx gb ga k l h.
        let r = gx k (tt, k) h in ((ga l, gb (tt, l) h, r.0), r.1)))))

    keeps_otherwise : (Δ : Env) (c : Around) (strict : Bool) (x : Otherwise)
        → Keeps σ.completed (walk_otherwise ξ Δ c strict x)
        (λ o. Knows Δ → ReturnsNamed c → IsSoundLast (Sized ξ σ) o)
    keeps_otherwise Δ c strict NoOtherwise = keeps_give _ (λ k h. tt)
    keeps_otherwise Δ c strict (Else word body) =
        keeps_then (keeps_enclosed (keeps_statement Δ c strict body)) (λ b. keeps_give _ (λ g k h. g k h))
