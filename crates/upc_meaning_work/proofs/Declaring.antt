-- What the initial values of objects, and the head of a loop, leave to be done.
use Rattle.std.proofs.Common.{◌≡◌, ℕ, ◌+◌, ℤ, pos, Bool, List, [], ◌∷◌, ◌++◌, refl, sym, ap, ◌∙◌}
use Rattle.std.proofs.Common.{Option, Some, None, length, map}
use Rattle.std.proofs.lemmas.List.{nil_from_length}
use Rattle.upc_text.specs.declared.place.Place.{Place}
use Rattle.upc_values.specs.declared.scalar.Value.{Value as Given}
use Rattle.upc_values.specs.declared.record.ToldEnd.{ToldEnd}
use Rattle.upc_types.specs.Types.{CType, base_of}
use Rattle.typed_tree.specs.declared.tree.Expr.{Expr as Code}
use Rattle.typed_tree.specs.declared.tree.Object as o
use Rattle.typed_tree.specs.ViewTree.{view_expr}
use Rattle.typed_tree.specs.ViewStatements.{view_object}
use Rattle.typed_tree.specs.Tree as tree
use Rattle.typed_tree.specs.Tree.{Expr, place_of, Statement, Stands, Head, Affinity, DeclaredObject, Exprs, NoExprs, exprs_of}
use Rattle.typed_tree.specs.Tree.{AndExpr, Initial, NoInitial, InitialValue, InitialList}
use Rattle.thread_steps.specs.States.{State, Res, Val, Over, Unfinished, Doing, bind, ◌>>=◌, ◌>>◌, give}
use Rattle.thread_steps.specs.Blocks.{open_block, close_block}
use Rattle.thread_steps.specs.Operators.{cast}
use Rattle.source_meaning.specs.Running.{Running}
use Rattle.source_meaning.specs.Types.{conversion}
use Rattle.source_meaning.specs.Expressions.{Calls, value, object, behind, put, type_of}
use Rattle.source_meaning.specs.Statements.{Flow, Next, Standing, with_objects, aside, declared}
use Rattle.source_meaning.specs.Statements.{initialised, listed, element_type, shapes_of}
use Rattle.source_meaning.specs.Threads.{called}
use Rattle.thread_steps.proofs.Thens.{then_same}
use Rattle.upc_meaning_state.proofs.Thens.{then_one}
use Rattle.upc_meaning_work.specs.layer.Seen.{Seen, meant, with_item, aside_items, headed}
use Rattle.upc_meaning_work.specs.layer.Seen.{more_works, more_values, popped, with_state}
use Rattle.upc_meaning_work.specs.layer.Items.{Value, Convert, Run, Leave, Turn, Declare, Listed, Keep}
use Rattle.upc_meaning_work.specs.layer.Left.{left, turned}
use Rattle.upc_meaning_work.specs.code.Stacks.{top, rest, second}

module _ {B C D E : Type 0} (h : B → Doing C) (d : C → Doing D) (g : D → Doing E) where
  three : (r : Res B) → bind (bind (bind r h) d) g ≡ bind r (λ b υ. bind (h b υ) (λ x φ. bind (d x φ) g))
  three (Val b υ) = then_one (h b υ) d g
  three (Over e υ) = refl
  three Unfinished = refl

  four : {A : Type 0} (c : A → Doing B) (r : Res A)
      → bind (bind (bind (bind r c) h) d) g
      ≡ bind r (λ a τ. bind (c a τ) (λ b υ. bind (h b υ) (λ x φ. bind (d x φ) g)))
  four c (Val a τ) = three (c a τ)
  four c (Over e τ) = refl
  four c Unfinished = refl

module _ (ρ : Running) (κ : Standing) (s t : Seen) where
  abbrev c : Calls
  c = called ρ s.free

  abbrev k : Flow → Doing ℤ
  k g = left ρ s.works s.free g s.values

  -- ---- initial values

  pub declare_end : (xs : List o.Object) → length xs ≡ 0 → with_item ρ (Declare κ (map view_object xs)) s ≡ meant ρ s
  unfolding with_item meant
  declare_end xs none = ap (λ ys. with_item ρ (Declare κ (map view_object ys)) s) (nil_from_length xs none)

  abbrev declaring : DeclaredObject → List DeclaredObject → Initial → Res ℤ
  declaring x xs i =
      bind (bind (initialised ρ c κ x i s.state) (λ _. declared ρ c κ xs)) (λ _. k s.flow)

  pub declare_none : (x : DeclaredObject) (xs : List DeclaredObject) → x.initial ≡ NoInitial
      → t ≡ more_works (Declare κ xs ∷ []) s → with_item ρ (Declare κ (x ∷ xs)) s ≡ meant ρ t
  unfolding with_item meant
  declare_none x xs is same = ap (declaring x xs) is ∙ ap (meant ρ) (sym same)

  pub declare_list : (x : DeclaredObject) (xs : List DeclaredObject) (es : Exprs) → x.initial ≡ InitialList es
      → t ≡ more_works (Listed κ x 0 es ∷ Declare κ xs ∷ []) s → with_item ρ (Declare κ (x ∷ xs)) s ≡ meant ρ t
  unfolding with_item meant
  declare_list x xs es is same =
      ap (declaring x xs) is
      ∙ then_one {A = Unit {0}} {B = Unit {0}} (listed ρ c κ x 0 es s.state) (λ _. declared ρ c κ xs) (λ _. k s.flow)
      ∙ ap (meant ρ) (sym same)

  pub declare_value : (x : DeclaredObject) (xs : List DeclaredObject) (a : Expr) (p : Given)
      → x.initial ≡ InitialValue a → object ρ x.home s.state ≡ Val p s.state
      → t ≡ more_works (Value κ.strict a ∷ Convert (conversion (type_of a) x.ctype) (place_of a)
      ∷ Keep κ.strict x.at x.ctype ∷ Declare κ xs ∷ []) (more_values (p ∷ []) s)
      → with_item ρ (Declare κ (x ∷ xs)) s ≡ meant ρ t
  unfolding with_item meant
  declare_value x xs a p is found same =
      let into = cast ρ.thread (conversion (type_of a) x.ctype) (place_of a) in
      ap (declaring x xs) is
      ∙ ap (λ r. bind (bind (bind r (λ q. value ρ c κ.strict a >>= into >>= put ρ κ.strict x.at x.ctype q))
      (λ _. declared ρ c κ xs)) (λ _. k s.flow)) found
      ∙ four {B = Given} {C = Unit {0}} {D = Unit {0}} {E = ℤ} (put ρ κ.strict x.at x.ctype p) (λ _. declared ρ c κ xs)
      (λ _. k s.flow) {A = Given} into (value ρ c κ.strict a s.state)
      ∙ ap (meant ρ) (sym same)

  pub listed_end : (x : DeclaredObject) (i : ℕ) (es : List Code) → length es ≡ 0
      → with_item ρ (Listed κ x i (exprs_of (map view_expr es))) s ≡ meant ρ s
  unfolding with_item meant
  listed_end x i es none = ap (λ l. with_item ρ (Listed κ x i (exprs_of (map view_expr l))) s) (nil_from_length es none)

  pub listed_goes : (x : DeclaredObject) (i j : ℕ) (a : Expr) (more : Exprs) (u : CType) (p q : Given)
      → u ≡ element_type (base_of x.ctype) x.ctype → j ≡ i + 1
      → object ρ x.home s.state ≡ Val p s.state → behind ρ x.at u p (pos i) s.state ≡ Val q s.state
      → t ≡ more_works (Value κ.strict a ∷ Convert (conversion (type_of a) u) (place_of a)
      ∷ Keep κ.strict x.at u ∷ Listed κ x j more ∷ []) (more_values (q ∷ []) s)
      → with_item ρ (Listed κ x i (AndExpr a more)) s ≡ meant ρ t
  unfolding with_item meant
  listed_goes x i j a more u p q element next found moved same =
      let v = element_type (base_of x.ctype) x.ctype in
      let into = λ (w : CType). cast ρ.thread (conversion (type_of a) w) (place_of a) in
      let moved_v : behind ρ x.at v p (pos i) s.state ≡ Val q s.state =
      ap (λ w. behind ρ x.at w p (pos i) s.state) (sym element) ∙ moved in
      ap (λ r. bind (bind r (λ o. behind ρ x.at v o (pos i)
      >>= (λ b. value ρ c κ.strict a >>= into v >>= (λ y. put ρ κ.strict x.at v b y >> listed ρ c κ x (i + 1) more))))
      (λ _. k s.flow)) found
      ∙ ap (λ r. bind (bind r (λ b. value ρ c κ.strict a >>= into v
      >>= (λ y. put ρ κ.strict x.at v b y >> listed ρ c κ x (i + 1) more))) (λ _. k s.flow)) moved_v
      ∙ three {B = Given} {C = Given} {D = Unit {0}} {E = ℤ} (into v)
      (λ y. put ρ κ.strict x.at v q y >> listed ρ c κ x (i + 1) more) (λ _. k s.flow) (value ρ c κ.strict a s.state)
      ∙ then_same (value ρ c κ.strict a s.state) _ _ (λ y τ. then_same (into v y τ) _ _
      (λ z υ. then_one {A = Unit {0}} {B = Unit {0}} (put ρ κ.strict x.at v q z υ) (λ _. listed ρ c κ x (i + 1) more)
      (λ _. k s.flow)))
      ∙ ap (λ n. meant ρ (more_works (Value κ.strict a ∷ Convert (conversion (type_of a) v) (place_of a)
      ∷ Keep κ.strict x.at v ∷ Listed κ x n more ∷ []) (more_values (q ∷ []) s))) (sym next)
      ∙ ap (λ w. meant ρ (more_works (Value κ.strict a ∷ Convert (conversion (type_of a) w) (place_of a)
      ∷ Keep κ.strict x.at w ∷ Listed κ x j more ∷ []) (more_values (q ∷ []) s))) (sym element)
      ∙ ap (meant ρ) (sym same)

  pub listed_ends : (x : DeclaredObject) (i : ℕ) (a : Expr) (more : Exprs) (u : CType) (p : Given) (over : ToldEnd)
      (τ : State) → u ≡ element_type (base_of x.ctype) x.ctype → object ρ x.home s.state ≡ Val p s.state
      → behind ρ x.at u p (pos i) s.state ≡ Over over τ
      → with_item ρ (Listed κ x i (AndExpr a more)) s ≡ Over over τ
  unfolding with_item
  listed_ends x i a more u p over τ element found moved =
      let v = element_type (base_of x.ctype) x.ctype in
      let into = λ (w : CType). cast ρ.thread (conversion (type_of a) w) (place_of a) in
      let moved_v : behind ρ x.at v p (pos i) s.state ≡ Over over τ =
      ap (λ w. behind ρ x.at w p (pos i) s.state) (sym element) ∙ moved in
      ap (λ r. bind (bind r (λ o. behind ρ x.at v o (pos i)
      >>= (λ b. value ρ c κ.strict a >>= into v >>= (λ y. put ρ κ.strict x.at v b y >> listed ρ c κ x (i + 1) more))))
      (λ _. k s.flow)) found
      ∙ ap (λ r. bind (bind r (λ b. value ρ c κ.strict a >>= into v
      >>= (λ y. put ρ κ.strict x.at v b y >> listed ρ c κ x (i + 1) more))) (λ _. k s.flow)) moved_v

  -- ---- the heads of loops

  -- A body in its block.
  blocked_body : (r : Res Flow)
      → bind (bind r (λ f. close_block >> give f)) k ≡ bind r (λ g. close_block >> k g)
  blocked_body r =
      then_one {A = Flow} {B = Flow} r (λ f. close_block >> give f) k
      ∙ then_same r _ _ (λ f τ. then_one {A = Unit {0}} {B = Flow} (close_block τ) (λ _. give f) k)

  -- After the declarations of a head.
  first_in : (o : Option Expr) (η : Standing) (kind : tree.StatementKind) (υ : State)
      → bind (bind (aside ρ c κ o υ) (λ _. turned ρ c η kind ρ.thread.budget)) (λ g. close_block >> k g)
      ≡ left ρ (aside_items κ o ++ (Turn η kind ρ.thread.budget ∷ Leave ∷ s.works)) s.free Next s.values υ
  first_in None η kind υ = refl
  first_in (Some a) η kind υ =
      three {B = Given} {C = Flow} {D = Flow} {E = ℤ} (λ _. give Next) (λ _. turned ρ c η kind ρ.thread.budget)
      (λ g. close_block >> k g) (value ρ c κ.strict a υ)

  -- The head of a loop whose turns are those of a kind of statement, after the entry of its block.
  abbrev headed_so : Head → Standing → tree.StatementKind → Res (Unit {0}) → Res ℤ
  headed_so head η kind r =
      bind (bind r (λ _. (declared ρ c κ head.objects >> (aside ρ c κ head.first >> turned ρ c η kind ρ.thread.budget))
      >>= (λ f. close_block >> give f))) k

  head_goes : (head : Head) (kind : tree.StatementKind) (τ : State)
      → headed_so head (with_objects head.objects κ) kind (Val tt τ)
      ≡ meant ρ (headed κ head kind ρ.thread.budget (with_state τ s))
  unfolding meant
  head_goes head kind τ =
      let η = with_objects head.objects κ in
      blocked_body (bind (declared ρ c κ head.objects τ) (λ _. aside ρ c κ head.first >> turned ρ c η kind ρ.thread.budget))
      ∙ then_one {A = Unit {0}} {B = Flow} (declared ρ c κ head.objects τ)
      (λ _. aside ρ c κ head.first >> turned ρ c η kind ρ.thread.budget) (λ g. close_block >> k g)
      ∙ then_same (declared ρ c κ head.objects τ) _ _ (λ _ υ. first_in head.first η kind υ)

  pub for_goes : (at : Place) (kind : tree.StatementKind) (head : Head) (body : Statement) (τ : State)
      → kind ≡ tree.For head body → open_block κ.count (shapes_of ρ head.objects) at s.state ≡ Val tt τ
      → t ≡ headed κ head kind ρ.thread.budget (with_state τ s) → with_item ρ (Run κ (Stands at kind)) s ≡ meant ρ t
  unfolding with_item
  for_goes at kind head body τ is h same =
      ap (λ x. with_item ρ (Run κ (Stands at x)) s) is
      ∙ ap (headed_so head (with_objects head.objects κ) (tree.For head body)) h
      ∙ head_goes head (tree.For head body) τ
      ∙ ap (λ x. meant ρ (headed κ head x ρ.thread.budget (with_state τ s))) (sym is) ∙ ap (meant ρ) (sym same)

  pub for_ends : (at : Place) (kind : tree.StatementKind) (head : Head) (body : Statement) (over : ToldEnd) (τ : State)
      → kind ≡ tree.For head body → open_block κ.count (shapes_of ρ head.objects) at s.state ≡ Over over τ
      → with_item ρ (Run κ (Stands at kind)) s ≡ Over over τ
  unfolding with_item
  for_ends at kind head body over τ is h =
      ap (λ x. with_item ρ (Run κ (Stands at x)) s) is
      ∙ ap (headed_so head (with_objects head.objects κ) (tree.For head body)) h

  pub forall_goes : (at : Place) (kind : tree.StatementKind) (head : Head) (whose : Affinity) (body : Statement)
      (τ : State) → kind ≡ tree.Forall head whose body
      → open_block κ.count (shapes_of ρ head.objects) at s.state ≡ Val tt τ
      → t ≡ headed κ head kind ρ.thread.budget (with_state τ s) → with_item ρ (Run κ (Stands at kind)) s ≡ meant ρ t
  unfolding with_item
  forall_goes at kind head whose body τ is h same =
      ap (λ x. with_item ρ (Run κ (Stands at x)) s) is
      ∙ ap (headed_so head (with_objects head.objects κ) (tree.Forall head whose body)) h
      ∙ head_goes head (tree.Forall head whose body) τ
      ∙ ap (λ x. meant ρ (headed κ head x ρ.thread.budget (with_state τ s))) (sym is) ∙ ap (meant ρ) (sym same)

  pub forall_ends : (at : Place) (kind : tree.StatementKind) (head : Head) (whose : Affinity) (body : Statement)
      (over : ToldEnd) (τ : State) → kind ≡ tree.Forall head whose body
      → open_block κ.count (shapes_of ρ head.objects) at s.state ≡ Over over τ
      → with_item ρ (Run κ (Stands at kind)) s ≡ Over over τ
  unfolding with_item
  forall_ends at kind head whose body over τ is h =
      ap (λ x. with_item ρ (Run κ (Stands at x)) s) is
      ∙ ap (headed_so head (with_objects head.objects κ) (tree.Forall head whose body)) h

-- A value is kept.
module _ (ρ : Running) (s t : Seen) where
  abbrev kept_in : Res (Unit {0}) → Res ℤ
  kept_in r = bind r (λ _. left ρ s.works s.free s.flow (rest (rest s.values)))

  keep_is : (strict : Bool) (at : Place) (u : CType) (v p : Given) (a b : Seen) → v ≡ top s.values → a ≡ popped s
      → p ≡ top a.values → b ≡ popped a
      → put ρ strict at u (second s.values) (top s.values) s.state ≡ put ρ strict at u p v b.state
  keep_is strict at u v p a b ev ea ep eb =
      ap (λ (x : Seen). put ρ strict at u (top x.values) (top s.values) x.state) (sym ea)
      ∙ ap (λ x. put ρ strict at u x (top s.values) a.state) (sym ep)
      ∙ ap (λ x. put ρ strict at u p x a.state) (sym ev)
      ∙ ap (λ (x : Seen). put ρ strict at u p v x.state) (sym eb)

  pub keep_goes : (strict : Bool) (at : Place) (u : CType) (v p : Given) (a b : Seen) (τ : State) → v ≡ top s.values
      → a ≡ popped s → p ≡ top a.values → b ≡ popped a → put ρ strict at u p v b.state ≡ Val tt τ
      → t ≡ with_state τ b → with_item ρ (Keep strict at u) s ≡ meant ρ t
  unfolding with_item meant
  keep_goes strict at u v p a b τ ev ea ep eb h same =
      ap kept_in (keep_is strict at u v p a b ev ea ep eb ∙ h)
      ∙ ap (λ x. meant ρ (with_state τ x)) (sym (eb ∙ ap popped ea)) ∙ ap (meant ρ) (sym same)

  pub keep_ends : (strict : Bool) (at : Place) (u : CType) (v p : Given) (a b : Seen) (over : ToldEnd) (τ : State)
      → v ≡ top s.values → a ≡ popped s → p ≡ top a.values → b ≡ popped a
      → put ρ strict at u p v b.state ≡ Over over τ → with_item ρ (Keep strict at u) s ≡ Over over τ
  unfolding with_item
  keep_ends strict at u v p a b over τ ev ea ep eb h = ap kept_in (keep_is strict at u v p a b ev ea ep eb ∙ h)

pub ruleset initials = (declare_end, declare_none, declare_list, declare_value)

pub ruleset elements = (listed_end, listed_goes, listed_ends)

pub ruleset keeps = (keep_goes, keep_ends)

pub ruleset heads = (for_goes, for_ends, forall_goes, forall_ends)
