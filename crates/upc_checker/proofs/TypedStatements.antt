-- Statements of which every node meets its rules: the walk makes a tree that says so.
use Rattle.std.proofs.Common.{◌≡◌, ℕ, ◌+◌, ◌==◌, ℤ, Bool, false, List, [], ◌∷◌, map, Option, Some, None, refl, sym, ap, subst, arith}
use Rattle.std.proofs.lemmas.Bool.{eqb-true, false_from_ne_true}
use Rattle.upc_text.specs.declared.place.Place.{Place}
use Rattle.block_layout.specs.declared.kind.Kind.{Kind}
use Rattle.upc_tree.specs.Expression as t
use Rattle.upc_tree.specs.Statement as s
use Rattle.upc_tree.specs.Statement.{Statement, Compound, Braces, BlockItems, NoBlockItems, AndBlockItem, DeclarationItem, StatementItem, SwitchItems, NoSwitchItems, AndSwitchItem, CaseItem, DefaultItem, SwitchStatement, ElseIfs, NoElseIfs, AndElseIf, Otherwise, NoOtherwise, Else, Test, Tests, First, FirstValue, FirstDeclaration, Affinity, NoAffinity, ContinueAffinity, ValueAffinity, ForHead, ForParts, ForallHead, ForallParts}
use Rattle.upc_types.specs.Types.{CType}
use Rattle.typed_tree.specs.declared.tree.Synchronises.{Synchronises}
use Rattle.typing_rules.specs.Attributes.{base}
use Rattle.typing_rules.specs.Values.{base_kind}
use Rattle.typing_rules.specs.Nodes as n
use Rattle.typing_rules.specs.Nodes.{Attr, Node, Around, Use}
use Rattle.typed_tree.specs.Scopes.{Env, State, is_file, inside, level_of}
use Rattle.typed_tree.specs.Tree as k
use Rattle.typed_tree.specs.Tree.{Expr, DeclaredObject, attr_of, place_of}
use Rattle.upc_checker_scopes.specs.Counts.{counted}
use Rattle.upc_checker_scopes.specs.Places.{at}
use Rattle.upc_checker_scopes.specs.Walk.{judge}
use Rattle.upc_checker_statements.specs.Statements.{in_loop, in_switch, in_forall, strict_behind, synchronises, walk_value, walk_test, Begun, walk_first, walk_affinity, Headed, walk_for_head, walk_forall_head, Labelled, label_value, Armed, deeper, walk_returned, walk_statement, walk_block, walk_items, walk_switch, walk_else_ifs, walk_otherwise}
use Rattle.upc_checker_nodes.specs.Judged.{tests_of, returns, synchronise}
use Rattle.typed_tree.specs.layer.Judged.{Meets}
use Rattle.typed_tree.specs.layer.TypedNodes.{MeetsExpr, MeetsValue, MeetsObjects, MeetsHead, MeetsAffinity, MeetsLabels, MeetsStatement, MeetsLast, MeetsArms, MeetsItems, MeetsSwitch, behind_all, tests_in, cases_in, defaults_in}
use Rattle.upc_checker.proofs.Passing.{Ends, Good, good_then, good_give, good_judge, good_enclosed, good_weaken}
use Rattle.upc_checker.proofs.TypedExpressions.{Whole, program, Fits, good, constantly_good, met, within}
use Rattle.upc_checker.proofs.TypedDeclarations.{local_declaration_good}

next_level : (i : ℕ) → (i + 1 == 0) ≡ false
next_level i = false_from_ne_true (i + 1 == 0) (λ h. let e : i + 1 ≡ 0 = eqb-true (i + 1) 0 h in absurd (omega (arith, e)))

-- A scope inside is none of the file.
pub inside_level : (Γ : Env) → is_file (inside Γ) ≡ false
inside_level Γ = next_level (level_of Γ)

module _ (z : Whole) where
  -- A node that is judged, of which nothing comes in.
  judge_good : (place : Place) (x : Node) → ((q : State) → counted z.setting place x q ≡ q) → Good z.structs.completed z.known (judge z.setting place x) (λ u. Meets (program z) x)
  judge_good place x same = good_judge z.setting place x (λ q e. subst (Ends z.structs.completed z.known) (same q) e) (λ q e h. met z q x e h)

  value_good : (Γ : Env) (x : Option t.Expr) → Good z.structs.completed z.known (walk_value z.setting Γ x) (λ a. (l : List CType) → Fits z Γ l → MeetsValue (program z) l a)
  value_good Γ None = good_give _ (λ l f. tt {0})
  value_good Γ (Some e) = good_then (good z Γ n.Plain e) (λ a. good_give _ (λ h l f. h l f refl))

  test_good : (Γ : Env) (x : Test) → Good z.structs.completed z.known (walk_test z.setting Γ x) (λ a. (l : List CType) → Fits z Γ l → MeetsExpr (program z) l n.Plain a)
  test_good Γ (Tests left value right) = good_weaken (good z Γ n.Plain value) (λ a h l f. h l f refl)

  -- ---- the heads of loops

  abbrev FirstMeets : Env → Begun → Type 0
  FirstMeets Γ b = (l : List CType) → Fits z Γ l → is_file Γ ≡ false → MeetsObjects (program z) l false b.objects × Fits z b.scope (behind_all l b.objects)
      × MeetsValue (program z) (behind_all l b.objects) b.first

  first_good : (Γ : Env) (x : First) → Good z.structs.completed z.known (walk_first z.setting Γ x) (FirstMeets Γ)
  first_good Γ (FirstValue value semicolon) = good_then (value_good Γ value) (λ a. good_give _ (λ h l f e. (tt {0}, f, h l f)))
  first_good Γ (FirstDeclaration declaration) =
      good_then (local_declaration_good z Γ declaration) (λ b. good_give _ (λ h l f e. let r = h l f e in (r.0, r.1, tt {0})))

  affinity_good : (Γ : Env) (x : Affinity) → Good z.structs.completed z.known (walk_affinity z.setting Γ x) (λ a. (l : List CType) → Fits z Γ l → MeetsAffinity (program z) l a)
  affinity_good Γ NoAffinity = good_give _ (λ l f. tt {0})
  affinity_good Γ (ContinueAffinity word) = good_give _ (λ l f. tt {0})
  affinity_good Γ (ValueAffinity value) =
      good_then (good z Γ n.Plain value) (λ a. good_then (judge_good (place_of a) (n.Affinity (attr_of a)) (λ q. refl)) (λ u. good_give _ (λ h i l f. (h, i l f refl))))

  abbrev HeadMeets : Env → Headed → Type 0
  HeadMeets Γ h = (l : List CType) → Fits z Γ l → is_file Γ ≡ false → Meets (program z) (n.Tests (tests_of h.head.test)) → MeetsHead (program z) l h.head
      × MeetsAffinity (program z) (behind_all l h.head.objects) h.affinity × Fits z h.scope (behind_all l h.head.objects)

  for_head_good : (Γ : Env) (x : ForHead) → Good z.structs.completed z.known (walk_for_head z.setting Γ x) (HeadMeets Γ)
  for_head_good Γ (ForParts left first test test_end step right) =
      good_then (first_good Γ first) (λ b. good_then (value_good b.scope test) (λ t. good_then (value_good b.scope step) (λ p.
      good_give _ (λ hp ht hb l f e m.
      let r = hb l f e in
      let i = behind_all l b.objects in
      ((r.0, r.2, ht i r.1, hp i r.1, m), tt {0}, r.1)))))

  forall_head_good : (Γ : Env) (x : ForallHead) → Good z.structs.completed z.known (walk_forall_head z.setting Γ x) (HeadMeets Γ)
  forall_head_good Γ (ForallParts left first test test_end step step_end affinity right) =
      good_then (first_good Γ first) (λ b. good_then (value_good b.scope test) (λ t. good_then (value_good b.scope step) (λ p. good_then (affinity_good b.scope affinity) (λ a.
      good_give _ (λ ha hp ht hb l f e m.
      let r = hb l f e in
      let i = behind_all l b.objects in
      ((r.0, r.2, ht i r.1, hp i r.1, m), ha i r.1, r.1))))))

  -- ---- simple statements

  abbrev Returned : List CType → Around → Option Expr → Type 0
  Returned l c None = Unit {0}
  Returned l c (Some a) = MeetsExpr (program z) l (n.Into c.result) a

  returned_good : (Γ : Env) (c : Around) (x : Option t.Expr) → Good z.structs.completed z.known (walk_returned z.setting Γ c x) (λ a. (l : List CType) → Fits z Γ l → Returned l c a)
  returned_good Γ c None = good_give _ (λ l f. tt {0})
  returned_good Γ c (Some e) = good_then (good z Γ (n.Into c.result) e) (λ a. good_give _ (λ h l f. h l f refl))

  returns_good : (c : Around) (place : Place) (x : Option Expr) → Good z.structs.completed z.known (returns z.setting c place x)
      (λ y. (l : List CType) → Returned l c x → MeetsStatement (program z) c l y)
  returns_good c place None = good_then (judge_good place (n.ReturnsNothing c) (λ q. refl)) (λ u. good_give _ (λ h l i. h))
  returns_good c place (Some a) = good_then (judge_good place (n.Returns c (attr_of a)) (λ q. refl)) (λ u. good_give _ (λ h l i. (h, i)))

  synchronise_good : (c : Around) (place : Place) (how : Synchronises) (x : Option Expr) → Good z.structs.completed z.known (synchronise z.setting place how x)
      (λ y. (l : List CType) → MeetsValue (program z) l x → MeetsStatement (program z) c l y)
  synchronise_good c place how None = good_give _ (λ l i. tt {0})
  synchronise_good c place how (Some a) = good_then (judge_good place (n.Barrier (attr_of a)) (λ q. refl)) (λ u. good_give _ (λ h l i. (h, i)))

  -- ---- statements

  abbrev pub StatementIn : Env → Around → k.Statement → Type 0
  StatementIn Γ c x = (l : List CType) → Fits z Γ l → MeetsStatement (program z) c l x

  abbrev SwitchIn : Env → Around → Option Kind → Labelled → Type 0
  SwitchIn Γ c kind x = (l : List CType) → Fits z Γ l → is_file Γ ≡ false → MeetsSwitch (program z) c l x.items
      × (cases_in x.items ≡ map (label_value kind) x.labels) × (defaults_in x.items ≡ x.defaults)

  abbrev ArmsIn : Env → Env → Around → Armed → Type 0
  ArmsIn Γ Δ c x = (l : List CType) → Fits z Γ l → Fits z Δ l → MeetsArms (program z) c l x.arms × (tests_in x.arms ≡ x.tests) × Fits z x.scope l

  deeper_fits : (Γ Δ : Env) (l : List CType) → Fits z Γ l → Fits z Δ l → Fits z (deeper Γ Δ) l
  deeper_fits Γ Δ l f g = record { names = λ q. f.names q; locals = g.locals; agree = f.agree; defined = f.defined }

  switch_labels : (a : Attr) (x : Labelled) → Meets (program z) (n.Switch a x.labels x.defaults) → cases_in x.items ≡ map (label_value (base_kind (base a))) x.labels →
      defaults_in x.items ≡ x.defaults → MeetsLabels (program z) a x.items
  switch_labels a x h e f = record { labels = x.labels; values = e; rules = subst (λ (i : ℕ). Meets (program z) (n.Switch a x.labels i)) (sym f) h }

  mutual
    pub statement_good : (Γ : Env) (c : Around) (strict : Bool) (x : Statement) → Good z.structs.completed z.known (walk_statement z.setting Γ c strict x) (StatementIn Γ c)
    statement_good Γ c strict (s.Block compound) = good_weaken (block_good (inside Γ) c strict compound) (λ b h l f. h l (within z Γ l f) (inside_level Γ))
    statement_good Γ c strict (s.Value value semicolon) = good_then (value_good Γ value) (λ a. good_give _ (λ h l f. h l f))
    statement_good Γ c strict (s.If word test body more last) =
        good_enclosed (good_then (test_good (inside Γ) test) (λ a. good_then (good_enclosed (statement_good (inside (inside Γ)) c strict body)) (λ b.
        good_then (else_ifs_good (inside Γ) (inside (inside Γ)) c strict more) (λ x. good_then (otherwise_good x.scope c strict last) (λ o.
        good_then (judge_good (at word) (n.Tests (attr_of a ∷ x.tests)) (λ q. refl)) (λ u. good_give _ (λ m ho hx hb ha l f.
        let g = within z Γ l f in
        let d = within z (inside Γ) l g in
        let arms = hx l g d in
        (subst (λ (ts : List Attr). Meets (program z) (n.Tests (attr_of a ∷ ts))) (sym arms.1) m, (ha l g, hb l d, arms.0), ho l arms.2))))))))
    statement_good Γ c strict (s.Switch word test left items right) =
        good_enclosed (good_then (test_good (inside Γ) test) (λ a.
        good_then (good_enclosed (switch_good (inside (inside Γ)) (in_switch c) strict (base_kind (base (attr_of a))) items)) (λ x.
        good_then (judge_good (at word) (n.Switch (attr_of a) x.labels x.defaults) (λ q. refl)) (λ u. good_give _ (λ m hx ha l f.
        let g = within z Γ l f in
        let r = hx l (within z (inside Γ) l g) (inside_level (inside Γ)) in
        (ha l g, switch_labels (attr_of a) x m r.1 r.2, r.0))))))
    statement_good Γ c strict (s.While word test body) =
        good_enclosed (good_then (test_good (inside Γ) test) (λ a. good_then (good_enclosed (statement_good (inside (inside Γ)) (in_loop c) strict body)) (λ b.
        good_then (judge_good (at word) (n.Tests (attr_of a ∷ [])) (λ q. refl)) (λ u. good_give _ (λ m hb ha l f.
        let g = within z Γ l f in
        (m, ha l g, hb l (within z (inside Γ) l g)))))))
    statement_good Γ c strict (s.DoWhile word body until test semicolon) =
        good_enclosed (good_then (good_enclosed (statement_good (inside (inside Γ)) (in_loop c) strict body)) (λ b. good_then (test_good (inside Γ) test) (λ a.
        good_then (judge_good (at word) (n.Tests (attr_of a ∷ [])) (λ q. refl)) (λ u. good_give _ (λ m ha hb l f.
        let g = within z Γ l f in
        (m, ha l g, hb l (within z (inside Γ) l g)))))))
    statement_good Γ c strict (s.For word head body) =
        good_enclosed (good_then (for_head_good (inside Γ) head) (λ h. good_then (good_enclosed (statement_good (inside h.scope) (in_loop c) strict body)) (λ b.
        good_then (judge_good (at word) (n.Tests (tests_of h.head.test)) (λ q. refl)) (λ u. good_give _ (λ m hb hh l f.
        let r = hh l (within z Γ l f) (inside_level Γ) m in
        (r.0, hb (behind_all l h.head.objects) (within z h.scope (behind_all l h.head.objects) r.2)))))))
    statement_good Γ c strict (s.Forall word head body) =
        good_enclosed (good_then (forall_head_good (inside Γ) head) (λ h. good_then (good_enclosed (statement_good (inside h.scope) (in_forall c) strict body)) (λ b.
        good_then (judge_good (at word) (n.Tests (tests_of h.head.test)) (λ q. refl)) (λ u. good_give _ (λ m hb hh l f.
        let r = hh l (within z Γ l f) (inside_level Γ) m in
        (r.0, r.1, hb (behind_all l h.head.objects) (within z h.scope (behind_all l h.head.objects) r.2)))))))
    statement_good Γ c strict (s.Break word semicolon) = good_then (judge_good (at word) (n.Break c) (λ q. refl)) (λ u. good_give _ (λ m l f. m))
    statement_good Γ c strict (s.Continue word semicolon) = good_then (judge_good (at word) (n.Continue c) (λ q. refl)) (λ u. good_give _ (λ m l f. m))
    statement_good Γ c strict (s.Return word value semicolon) =
        good_then (returned_good Γ c value) (λ a. good_weaken (returns_good c (at word) a) (λ y h i l f. h l (i l f)))
    statement_good Γ c strict (s.Barrier kind word value semicolon) =
        good_then (value_good Γ value) (λ a. good_weaken (synchronise_good c (at word) (synchronises kind) a) (λ y h i l f. h l (i l f)))
    statement_good Γ c strict (s.Fence word semicolon) = good_give _ (λ l f. tt {0})

    pub block_good : (Γ : Env) (c : Around) (strict : Bool) (x : Compound) → Good z.structs.completed z.known (walk_block z.setting Γ c strict x)
        (λ b. (l : List CType) → Fits z Γ l → is_file Γ ≡ false → MeetsStatement (program z) c l b)
    block_good Γ c strict (Braces left pragmas items right) = good_enclosed (good_then (items_good Γ c (strict_behind strict pragmas) items) (λ xs. good_give _ (λ h l f e. h l f e)))

    items_good : (Γ : Env) (c : Around) (strict : Bool) (x : BlockItems) → Good z.structs.completed z.known (walk_items z.setting Γ c strict x)
        (λ xs. (l : List CType) → Fits z Γ l → is_file Γ ≡ false → MeetsItems (program z) c l xs)
    items_good Γ c strict NoBlockItems = good_give _ (λ l f e. tt {0})
    items_good Γ c strict (AndBlockItem (DeclarationItem declaration) more) =
        good_then (local_declaration_good z Γ declaration) (λ b. good_then (items_good b.scope c strict more) (λ xs. good_give _ (λ h d l f e.
        let r = d l f e in
        (r.0, h (behind_all l b.objects) r.1 r.2))))
    items_good Γ c strict (AndBlockItem (StatementItem statement) more) =
        good_then (statement_good Γ c strict statement) (λ x. good_then (items_good Γ c strict more) (λ xs. good_give _ (λ h i l f e. (i l f, h l f e))))

    switch_good : (Γ : Env) (c : Around) (strict : Bool) (kind : Option Kind) (x : SwitchItems) → Good z.structs.completed z.known (walk_switch z.setting Γ c strict kind x) (SwitchIn Γ c kind)
    switch_good Γ c strict kind NoSwitchItems = good_give _ (λ l f e. (tt {0}, refl, refl))
    switch_good Γ c strict kind (AndSwitchItem (CaseItem word value colon) more) =
        good_then (good z Γ n.Plain value) (λ a. good_then (constantly_good z a) (λ v. good_then (switch_good Γ c strict kind more) (λ x. good_give _ (λ h i j l f e.
        let r = h l f e in
        (r.0, ap (λ (vs : List ℤ). label_value kind v ∷ vs) r.1, r.2)))))
    switch_good Γ c strict kind (AndSwitchItem (DefaultItem word colon) more) =
        good_then (switch_good Γ c strict kind more) (λ x. good_give _ (λ h l f e.
        let r = h l f e in
        (r.0, r.1, ap (λ (i : ℕ). i + 1) r.2)))
    switch_good Γ c strict kind (AndSwitchItem (SwitchStatement statement) more) =
        good_then (statement_good Γ c strict statement) (λ y. good_then (switch_good Γ c strict kind more) (λ x. good_give _ (λ h i l f e.
        let r = h l f e in
        ((i l f, r.0), r.1, r.2))))

    else_ifs_good : (Γ Δ : Env) (c : Around) (strict : Bool) (x : ElseIfs) → Good z.structs.completed z.known (walk_else_ifs z.setting Γ Δ c strict x) (ArmsIn Γ Δ c)
    else_ifs_good Γ Δ c strict NoElseIfs = good_give _ (λ l f g. (tt {0}, refl, g))
    else_ifs_good Γ Δ c strict (AndElseIf other word test body more) =
        good_then (test_good Δ test) (λ a. good_then (good_enclosed (statement_good (inside Δ) c strict body)) (λ b. good_then (else_ifs_good Γ (deeper Γ Δ) c strict more) (λ x.
        good_give _ (λ hx hb ha l f g.
        let r = hx l f (deeper_fits Γ Δ l f g) in
        ((ha l g, hb l (within z Δ l g), r.0), ap (λ (ts : List Attr). attr_of a ∷ ts) r.1, r.2)))))

    otherwise_good : (Γ : Env) (c : Around) (strict : Bool) (x : Otherwise) → Good z.structs.completed z.known (walk_otherwise z.setting Γ c strict x)
        (λ o. (l : List CType) → Fits z Γ l → MeetsLast (program z) c l o)
    otherwise_good Γ c strict NoOtherwise = good_give _ (λ l f. tt {0})
    otherwise_good Γ c strict (Else word body) = good_then (good_enclosed (statement_good Γ c strict body)) (λ b. good_give _ (λ h l f. h l f))
