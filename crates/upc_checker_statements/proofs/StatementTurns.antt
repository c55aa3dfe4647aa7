-- Parts of statements: lists whose parts take several steps, scopes inside, and nodes that are judged after their
-- parts.
use Rattle.std.proofs.Common.{IsTrue, ◌≡◌, ℕ, ◌+◌, ◌<◌, map, List, [], ◌∷◌, ◌++◌, Bool, true, false, Option, Result, refl, sym, ap, ◌∙◌, subst, arith, Box, Vec, Global}
use Rattle.std.proofs.lemmas.List.{append_assoc, append-nil, map-append}
use denote.Param.Weighed.{most}
use Rattle.block_layout.specs.declared.kind.Kind.{Kind}
use Rattle.upc_text.specs.declared.faults.Stop.{Stop}
use Rattle.upc_tree.specs.declared.span.Span.{Span}
use Rattle.upc_tree.specs.declared.statement.ElseIf.{ElseIf as ElseIfTree}
use Rattle.upc_tree.specs.declared.statement.Otherwise.{Otherwise as OtherwiseTree}
use Rattle.upc_tree.specs.declared.statement.Statement as statements
use Rattle.upc_tree.specs.declared.statement.Statement.{Statement as Tree, size_is-Statement}
use Rattle.upc_tree.specs.declared.statement.Statement.TheVariants as variants
use Rattle.upc_tree.specs.declared.statement.Test.{Test as TestTree}
use Rattle.upc_tree.proofs.statement.ElseIf.TheLaws as else_if
use Rattle.upc_tree.proofs.statement.Statement.TheLaws as statement
use Rattle.upc_tree.specs.Statement as s
use Rattle.upc_tree.specs.Statement.{SwitchItems}
use Rattle.typing_rules.specs.declared.attribute.Constant.{Constant}
use Rattle.typed_tree.specs.declared.tree.Arm.{Arm}
use Rattle.typed_tree.specs.declared.tree.Item.{Item}
use Rattle.typed_tree.specs.declared.tree.SwitchItem as w
use Rattle.typed_tree.specs.declared.tree.SwitchItem.{SwitchItem}
use Rattle.typed_tree.specs.declared.tree.Statement.{Statement}
use Rattle.typing_rules.specs.Faults.{first_fault, or_later}
use Rattle.typing_rules.specs.Nodes.{Around}
use Rattle.typed_tree.specs.Tree as k
use Rattle.typed_tree.specs.ViewStatements.{view_arms, view_item, view_items, view_statement, view_switch_item, view_switch_items}
use Rattle.typed_tree.specs.ViewTree.{view_expr}
use Rattle.typed_tree.specs.ViewStatements.{attr_tested}
use Rattle.typed_tree.specs.Scopes.{Setting, Env, Tag, State, inside}
use Rattle.upc_checker_scopes.specs.declared.known.Known.{Known}
use Rattle.upc_checker_scopes.specs.layer.Ends.{Comes, Meets}
use Rattle.upc_checker_scopes.specs.Places.{at}
use Rattle.upc_checker_statements.specs.Statements.{Armed, Labelled, label_value, walk_statement, with_arm, with_case, with_default, with_statement}
use Rattle.upc_checker_statements.specs.code.Groups.{is_scoped}
use Rattle.upc_checker_statements.specs.code.Parts.{scoped_part}
use Rattle.upc_checker_scopes.specs.layer.Views.{state_with}
use Rattle.upc_checker_scopes.specs.Walk.{Walked, Walk, give, andthen, enclosed}
use Rattle.upc_checker_scopes.proofs.Walks.{first_of_two, encloses, Same, same_trans}
use Rattle.upc_checker_scopes.proofs.Turns.{fault_at_end, IsLeft, behind, behind-append}

-- ---- lists

-- A step of the part that is walked.
pub left_goes : {A L M : Type 0} (whole : Walked M) (f : L → M) (w : Walk A) (go : A → Walk L) (s between : State) (a : A) →
    IsLeft whole f (andthen w go) s → Comes (w s) between a → IsLeft whole f (go a) between
unfolding andthen
left_goes {L = L} whole f w go s between a h came =
    let x = w s in
    let y = go x.value x.state in
    let e : y ≡ go a between = rw (came.value, came.state) refl in
    let front = first_of_two x.seen y.seen ∙ ap (λ o. or_later o (first_fault y.seen)) came.fine in
    let fault = fault_at_end (x.seen ++ y.seen) ∙ front ∙ sym (fault_at_end y.seen) ∙ ap (λ (z : Walked L). first_fault (z.seen ++ [])) e in
    let step : Same (andthen (andthen w go) (λ ys. give (f ys)) s) (andthen (go a) (λ ys. give (f ys)) between) = record {
      fault = fault;
      state = ap (λ (z : Walked L). z.state) e;
      value = ap (λ (z : Walked L). f z.value) e;
    } in
    record { same = same_trans whole _ _ h.same step }

-- What is made of the part stands in front of the rest.
pub left_rest : {K L M : Type 0} (whole : Walked M) (f : K → M) (g : L → M) (join : L → K) (rest : Walk L) (s : State) →
    IsLeft whole f (andthen rest (λ ys. give (join ys))) s → ((ys : L) → f (join ys) ≡ g ys) → IsLeft whole g rest s
unfolding andthen
left_rest whole f g join rest s h e = record {
  same = record {
    fault = h.same.fault ∙ fault_at_end ((rest s).seen ++ []);
    state = h.same.state;
    value = h.same.value ∙ e (rest s).value;
  };
}

-- What is made of the rest may be written otherwise.
pub left_same : {L M : Type 0} (whole : Walked M) (f g : L → M) (rest : Walk L) (s : State) → IsLeft whole f rest s → ((ys : L) → f ys ≡ g ys) → IsLeft whole g rest s
unfolding andthen
left_same whole f g rest s h e = record { same = record { fault = h.same.fault; state = h.same.state; value = h.same.value ∙ e (rest s).value } }

-- Two steps as one.
pub left_grouped : {A B L M : Type 0} (whole : Walked M) (f : L → M) (w : Walk A) (v : A → Walk B) (go : B → Walk L) (s : State) →
    IsLeft whole f (andthen w (λ a. andthen (v a) go)) s → IsLeft whole f (andthen (andthen w v) go) s
unfolding andthen
left_grouped whole f w v go s h =
    let x = w s in
    let y = v x.value x.state in
    let z = go y.value y.state in
    let fault = fault_at_end (x.seen ++ (y.seen ++ z.seen)) ∙ ap first_fault (sym (append_assoc x.seen y.seen z.seen)) ∙ sym (fault_at_end ((x.seen ++ y.seen) ++ z.seen)) in
    record { same = record { fault = h.same.fault ∙ fault; state = h.same.state; value = h.same.value } }

-- ---- scopes

-- A part in a scope inside, whose tags are out of scope after it.
pub encloses_part : {B C : Type 0} (view : C → B) (W : Env → Walk B) (Γ inner : Env) (tags own last : List Tag) (before after : Known) (r : Result C Stop) →
    inner ≡ Γ → own ≡ tags → Meets view (W inner (state_with own before)) (state_with last after) r → Meets view (enclosed (W Γ) (state_with tags before)) (state_with tags after) r
encloses_part view W Γ inner tags own last before after r e f h =
    let one = subst (λ (Δ : Env). Meets view (W Δ (state_with own before)) (state_with last after) r) e h in
    let two = subst (λ (t : List Tag). Meets view (W Γ (state_with t before)) (state_with last after) r) f one in
    encloses view (W Γ) (state_with tags before) (state_with last after) r two

never : false ≡ true → ⊥
never h = absurd cc

-- A statement in a scope of its own is enclosed.
pub scoped_is : (ξ : Setting) (Γ : Env) (c : Around) (strict : Bool) (x : s.Statement) → IsTrue (is_scoped x) → walk_statement ξ Γ c strict x ≡ enclosed (scoped_part ξ strict x c (inside Γ))
scoped_is ξ Γ c strict (s.If word test body more last) h = refl
scoped_is ξ Γ c strict (s.Switch word test left items right) h = refl
scoped_is ξ Γ c strict (s.While word test body) h = refl
scoped_is ξ Γ c strict (s.DoWhile word body until test semicolon) h = refl
scoped_is ξ Γ c strict (s.For word head body) h = refl
scoped_is ξ Γ c strict (s.Forall word head body) h = refl
scoped_is ξ Γ c strict (s.Block compound) h = absurd (never h)
scoped_is ξ Γ c strict (s.Value value semicolon) h = absurd (never h)
scoped_is ξ Γ c strict (s.Break word semicolon) h = absurd (never h)
scoped_is ξ Γ c strict (s.Continue word semicolon) h = absurd (never h)
scoped_is ξ Γ c strict (s.Return word value semicolon) h = absurd (never h)
scoped_is ξ Γ c strict (s.Barrier kind word value semicolon) h = absurd (never h)
scoped_is ξ Γ c strict (s.Fence word semicolon) h = absurd (never h)

-- ---- what loops collect

pub one_more : {X L : Type 0} (join : X → L → L) (xs zs : List X) (x : X) (ys : L) → zs ≡ xs ++ (x ∷ []) → behind join xs (join x ys) ≡ behind join zs ys
one_more join xs zs x ys e = sym (ap (λ l. behind join l ys) e ∙ behind-append join xs x ys)

pub items_behind : (xs : List Item) → behind view_item xs k.NoItems ≡ view_items xs
items_behind [] = refl
items_behind (x ∷ xs) = ap (view_item x) (items_behind xs)

pub switch_items_behind : (xs : List SwitchItem) → behind view_switch_item xs k.NoSwitchItems ≡ view_switch_items xs
switch_items_behind [] = refl
switch_items_behind (x ∷ xs) = ap (view_switch_item x) (switch_items_behind xs)

-- An arm in front of others.
abbrev pub and_arm : Arm → k.Arms → k.Arms
and_arm x more = k.AndArm (view_expr x.test.value) (view_statement x.body) more

pub arms_behind : (xs : List Arm) → behind and_arm xs k.NoArms ≡ view_arms xs
arms_behind [] = refl
arms_behind (x ∷ xs) = ap (and_arm x) (arms_behind xs)

-- The arms so far in front of others.
abbrev pub armed_behind : List Arm → Armed → Armed
armed_behind xs y = record { arms = behind and_arm xs y.arms; tests = map attr_tested xs ++ y.tests; scope = y.scope }

pub arm_pushed : (xs zs : List Arm) (x : Arm) (y : Armed) → zs ≡ xs ++ (x ∷ []) → armed_behind xs (with_arm (view_expr x.test.value) (view_statement x.body) y) ≡ armed_behind zs y
arm_pushed xs zs x y e =
    let p = one_more and_arm xs zs x y.arms e in
    let q : map attr_tested zs ++ y.tests ≡ map attr_tested xs ++ (attr_tested x ∷ y.tests) =
    ap (λ (l : List Arm). map attr_tested l ++ y.tests) e ∙ ap (λ l. l ++ y.tests) (map-append attr_tested xs (x ∷ [])) ∙ append_assoc (map attr_tested xs) (attr_tested x ∷ []) y.tests in
    cc

-- The parts of a switch so far in front of others.
abbrev pub labelled_behind : List SwitchItem → List Constant → ℕ → Labelled → Labelled
labelled_behind xs ls d y = record { items = behind view_switch_item xs y.items; labels = ls ++ y.labels; defaults = d + y.defaults }

pub case_pushed : (kind : Option Kind) (xs zs : List SwitchItem) (ls ks : List Constant) (d : ℕ) (x : SwitchItem) (l : Constant) (y : Labelled) →
    zs ≡ xs ++ (x ∷ []) → ks ≡ ls ++ (l ∷ []) → ((more : k.SwitchItems) → view_switch_item x more ≡ k.AndCase (label_value kind l) more) →
    labelled_behind xs ls d (with_case kind l y) ≡ labelled_behind zs ks d y
case_pushed kind xs zs ls ks d x l y e f g =
    let p : behind view_switch_item xs (k.AndCase (label_value kind l) y.items) ≡ behind view_switch_item zs y.items =
    ap (behind view_switch_item xs) (sym (g y.items)) ∙ one_more view_switch_item xs zs x y.items e in
    let q : ks ++ y.labels ≡ ls ++ (l ∷ y.labels) = ap (λ m. m ++ y.labels) f ∙ append_assoc ls (l ∷ []) y.labels in
    cc

pub default_pushed : (xs zs : List SwitchItem) (ls : List Constant) (d n : ℕ) (y : Labelled) →
    zs ≡ xs ++ (w.Default ∷ []) → n ≡ d + 1 → labelled_behind xs ls d (with_default y) ≡ labelled_behind zs ls n y
default_pushed xs zs ls d n y e f =
    let p = one_more view_switch_item xs zs w.Default y.items e in
    let q : d + (y.defaults + 1) ≡ n + y.defaults = omega arith in
    cc

pub statement_pushed : (xs zs : List SwitchItem) (ls : List Constant) (d : ℕ) (x : Box Statement Global) (y : Labelled) →
    zs ≡ xs ++ (w.Do x ∷ []) → labelled_behind xs ls d (with_statement (view_statement x.value) y) ≡ labelled_behind zs ls d y
statement_pushed xs zs ls d x y e =
    let p = one_more view_switch_item xs zs (w.Do x) y.items e in
    cc

pub labelled_nothing : (y : Labelled) → y ≡ labelled_behind [] [] 0 y
labelled_nothing y =
    let q : 0 + y.defaults ≡ y.defaults = omega arith in
    rw q refl

pub labelled_end : (xs : List SwitchItem) (ls : List Constant) (d : ℕ) →
    labelled_behind xs ls d (record { items = k.NoSwitchItems; labels = []; defaults = 0 }) ≡ record { items = view_switch_items xs; labels = ls; defaults = d }
labelled_end xs ls d =
    let p = switch_items_behind xs in
    let q = append-nil ls in
    let r : d + 0 ≡ d = omega arith in
    rw (p, q, r) refl

-- The further arms of an `if` are less deep than the `if`.
pub more_of_if : (word : Span) (test : Box TestTree Global) (body : Box Tree Global) (more : Vec ElseIfTree Global) (otherwise : OtherwiseTree) →
    most else_if.the_size more.items < statement.the_size (statements.If word test body more otherwise)
more_of_if word test body more otherwise =
    let x = statements.If word test body more otherwise in
    let e = ap statements.out-Statement (sym (variants.rolls-If word test body more otherwise)) ∙ statements.out-roll-Statement _ in
    let h = rw e at (size_is-Statement x) in
    omega (arith, h)
