-- Walks over expressions and types whose parts the code names otherwise.
use Rattle.std.proofs.Common.{Box, Global, ◌≡◌, ℕ, Bool, true, false, List, Option, Some, None, Result, Ok, Err, IsErrAnd, IfErr, OnOk, refl, sym, ap, ◌∙◌, subst}
use Rattle.upc_text.specs.declared.place.Place.{Place}
use Rattle.upc_text.specs.declared.faults.Stop.{Stop}
use Rattle.upc_tree.specs.declared.mark.AssignMark.{AssignMark}
use Rattle.upc_tree.specs.declared.span.Span.{Span}
use Rattle.upc_tree.specs.declared.span.Name.{Name}
use Rattle.upc_tree.specs.Expression as t
use Rattle.upc_types.specs.Types.{Member}
use Rattle.typed_tree.specs.declared.tree.Expr.{Expr as RustExpr}
use Rattle.typing_rules.specs.declared.attribute.Constant.{Constant}
use Rattle.typing_rules.specs.Meanings.{Meaning}
use Rattle.typed_tree.specs.Scopes.{Setting, Env, inside, State, spelling}
use Rattle.typing_rules.specs.Nodes as n
use Rattle.typing_rules.specs.Nodes.{Use, Formed, view_attr}
use Rattle.typing_rules.specs.Rules.{lowest, or_above}
use Rattle.typing_rules.specs.Faults.{first_fault}
use Rattle.typed_tree.specs.Tree as k
use Rattle.typed_tree.specs.Tree.{Expr, Exprs, attrs_of}
use Rattle.typed_tree.specs.ViewTree.{view_expr}
use Rattle.upc_checker_scopes.specs.Counts.{ended}
use Rattle.upc_checker_scopes.specs.Walk.{judge, enclosed, facts_in}
use Rattle.upc_checker_scopes.specs.layer.Finishes.{Finishes, Refuses}
use Rattle.upc_checker_scopes.specs.layer.Ends.{Stops, Comes, Meets, boxed}
use Rattle.upc_checker_nodes.specs.Marks.{right_use, assign_node, assign_kind}
use Rattle.upc_checker_types.specs.Specifiers.{Specified, Shaped, specified_type, forms_type, specifiers_form, formed}
use Rattle.upc_checker_expressions.specs.Expressions.{walk, walk_arguments, walk_more, end_specifiers, walk_type, walk_specifiers, walk_pointers, walk_sizes, walk_members, walk_next_members, walk_member, walk_parameters, walk_parameter, walk_array}
use Rattle.upc_checker_nodes.specs.Called.{called, called_name, target_by, runs, uses_by, first_use, later_uses}
use Rattle.upc_checker_nodes.specs.Parts.{format_in}
use Rattle.upc_checker_types.specs.Shapes.{Specifying, in_type, named_type}
use Rattle.upc_checker_scopes.specs.Places.{pointers_place, specs_place}
use Rattle.upc_checker_types.specs.Members.{has_member, with_member, Declared, with_parameter}
use Rattle.upc_checker_scopes.specs.Known.{is_again}
use Rattle.upc_checker_scopes.proofs.Walks.{Same, same_trans, encloses, judge_goes, judge_stops}
use Rattle.upc_checker_expressions.proofs.Lists.{goes_on}
use Rattle.upc_checker_scopes.proofs.Steps.{Reaches, next, stopped, given, ends, comes}

-- ---- calls

with_uses : (ξ : Setting) (Γ : Env) (callee : t.Expr) (m : Meaning) (us : List Use) → m ≡ called ξ Γ callee → us ≡ uses_by m → us ≡ uses_by (called ξ Γ callee)
with_uses ξ Γ callee m us e f = f ∙ ap uses_by e

pub call_ends : (ξ : Setting) (Γ : Env) (how : Use) (callee : t.Expr) (left : Span) (arguments : t.Arguments) (s s1 s2 : State) (f : RustExpr) (m : Meaning) (us : List Use) (xs : Exprs) (r : Result (Box RustExpr Global) Stop) →
    m ≡ called ξ Γ callee → us ≡ uses_by m → Comes (walk ξ Γ n.Called callee s) s1 (view_expr f) → Comes (walk_arguments ξ Γ us arguments s1) s2 xs →
    Finishes (facts_in ξ s2) f.place (n.Call how m (runs ξ callee) (format_in xs) (attrs_of xs)) (k.Call (target_by ξ m (called_name callee)) xs) r →
    Reaches (boxed view_expr) (walk ξ Γ how (t.Call callee left arguments) s) s2 r
call_ends ξ Γ how callee left arguments s s1 s2 f m us xs r e g h i j =
    let args = subst (λ us. Comes (walk_arguments ξ Γ us arguments s1) s2 xs) (with_uses ξ Γ callee m us e g) i in
    let all = subst (λ m. Finishes (facts_in ξ s2) f.place (n.Call how m (runs ξ callee) (format_in xs) (attrs_of xs)) (k.Call (target_by ξ m (called_name callee)) xs) r) e j in
    next _ _ h (next _ _ args (ends ξ _ _ _ s2 all))

pub call_stops : (ξ : Setting) (Γ : Env) (how : Use) (callee : t.Expr) (left : Span) (arguments : t.Arguments) (s s1 after : State) (f : Expr) (m : Meaning) (us : List Use) (e : Stop) (r : Result (Box RustExpr Global) Stop) →
    m ≡ called ξ Γ callee → us ≡ uses_by m → Comes (walk ξ Γ n.Called callee s) s1 f → Stops (first_fault (walk_arguments ξ Γ us arguments s1).seen) e → IsErrAnd r (λ y. y ≡ e) →
    Reaches (boxed view_expr) (walk ξ Γ how (t.Call callee left arguments) s) after r
call_stops ξ Γ how callee left arguments s s1 after f m us e r a g h i j =
    next _ _ h (stopped _ _ s1 e j (subst (λ us. Stops (first_fault (walk_arguments ξ Γ us arguments s1).seen) e) (with_uses ξ Γ callee m us a g) i))

pub filled_ends : (ξ : Setting) (Γ : Env) (us later : List Use) (u : Use) (first : t.Expr) (more : t.NextExprs) (right : Span) (s s1 s2 : State) (x : Expr) (xs : Exprs) →
    u ≡ first_use us → later ≡ later_uses us → Comes (walk ξ Γ u first s) s1 x → Comes (walk_more ξ Γ later more s1) s2 xs →
    Comes (walk_arguments ξ Γ us (t.SomeArguments first more right) s) s2 (k.AndExpr x xs)
filled_ends ξ Γ us later u first more right s s1 s2 x xs e f h i =
    let a = subst (λ u. Comes (walk ξ Γ u first s) s1 x) e h in
    let b = subst (λ us. Comes (walk_more ξ Γ us more s1) s2 xs) f i in
    comes (next _ _ a (next _ _ b (given refl)))

pub filled_stops : {C : Type 0} (view : C → Exprs) (ξ : Setting) (Γ : Env) (us later : List Use) (u : Use) (first : t.Expr) (more : t.NextExprs) (right : Span) (s s1 after : State) (x : Expr) (e : Stop) (r : Result C Stop) →
    u ≡ first_use us → later ≡ later_uses us → Comes (walk ξ Γ u first s) s1 x → Stops (first_fault (walk_more ξ Γ later more s1).seen) e → IsErrAnd r (λ y. y ≡ e) →
    Reaches view (walk_arguments ξ Γ us (t.SomeArguments first more right) s) after r
filled_stops view ξ Γ us later u first more right s s1 after x e r a f h i j =
    next _ _ (subst (λ u. Comes (walk ξ Γ u first s) s1 x) a h) (stopped _ _ s1 e j (subst (λ us. Stops (first_fault (walk_more ξ Γ us more s1).seen) e) f i))

-- ---- assignments

pub assign_ends : (ξ : Setting) (Γ : Env) (how u : Use) (a b : t.Expr) (mark : AssignMark) (span : Span) (s s1 s2 : State) (x y : RustExpr) (r : Result (Box RustExpr Global) Stop) →
    u ≡ right_use mark (view_attr x.attr).ctype → Comes (walk ξ Γ n.Plain a s) s1 (view_expr x) → Comes (walk ξ Γ u b s1) s2 (view_expr y) →
    Finishes (facts_in ξ s2) x.place (assign_node mark (view_attr x.attr) (view_attr y.attr)) (assign_kind mark (view_expr x) (view_expr y)) r →
    Reaches (boxed view_expr) (walk ξ Γ how (t.Assign a mark span b) s) s2 r
assign_ends ξ Γ how u a b mark span s s1 s2 x y r e h i j =
    next _ _ h (next _ _ (subst (λ u. Comes (walk ξ Γ u b s1) s2 (view_expr y)) e i) (ends ξ _ _ _ s2 j))

pub assign_stops : (ξ : Setting) (Γ : Env) (how u : Use) (a b : t.Expr) (mark : AssignMark) (span : Span) (s s1 after : State) (x : RustExpr) (e : Stop) (r : Result (Box RustExpr Global) Stop) →
    u ≡ right_use mark (view_attr x.attr).ctype → Comes (walk ξ Γ n.Plain a s) s1 (view_expr x) → Stops (first_fault (walk ξ Γ u b s1).seen) e → IsErrAnd r (λ y. y ≡ e) →
    Reaches (boxed view_expr) (walk ξ Γ how (t.Assign a mark span b) s) after r
assign_stops ξ Γ how u a b mark span s s1 after x e r f h i j =
    next _ _ h (stopped _ _ s1 e j (subst (λ u. Stops (first_fault (walk ξ Γ u b s1).seen) e) f i))

-- ---- specifiers

-- They form a type where they end, or the walk stops there.
pub specifiers_end : (ξ : Setting) (at : Place) (p : Specified) (s : State) (rule : Option ℕ) → rule ≡ lowest (facts_in ξ s) (n.Specifies (forms_type p)) → rule ≡ None →
    Comes (end_specifiers ξ at p s) s (tt {0})
unfolding end_specifiers judge
specifiers_end ξ at p s rule h o = record { fine = (judge_goes ξ at (n.Specifies (forms_type p)) s rule h o).fine; state = refl; value = refl }

pub specifiers_stop : (ξ : Setting) (at : Place) (p : Specified) (s : State) (rule : Option ℕ) (e : Stop) → rule ≡ lowest (facts_in ξ s) (n.Specifies (forms_type p)) → Refuses rule at e →
    Stops (first_fault (end_specifiers ξ at p s).seen) e
unfolding end_specifiers judge
specifiers_stop ξ at p s rule e h r = judge_stops ξ at (n.Specifies (forms_type p)) s rule e h r

-- ---- type names

typed_so : (ξ : Setting) (Γ : Env) (how : Specifying) (place : Place) (specs : t.Specs) (stars : t.Pointers) (s s1 s2 : State) (p : Specified) (t0 t1 : Shaped) → how ≡ in_type place → t0 ≡ specified_type p →
    Comes (walk_specifiers ξ Γ how specs s) s1 p → Comes (walk_pointers ξ Γ false t0 stars s1) s2 t1 →
    Comes (walk_specifiers ξ Γ (in_type place) specs s) s1 p × Comes (walk_pointers ξ Γ false (specified_type p) stars s1) s2 t1
typed_so ξ Γ how place specs stars s s1 s2 p t0 t1 a b h i =
    (subst (λ how. Comes (walk_specifiers ξ Γ how specs s) s1 p) a h, subst (λ t. Comes (walk_pointers ξ Γ false t stars s1) s2 t1) b i)

pub type_ends : (ξ : Setting) (Γ : Env) (how : Specifying) (place : Place) (specs : t.Specs) (stars : t.Pointers) (sizes : t.Dimensions) (s s1 s2 s3 : State) (p : Specified) (t0 t1 t2 : Shaped) (forms : Bool) (cs : List Constant) →
    how ≡ in_type place → t0 ≡ specified_type p → forms ≡ specifiers_form false p → t2 ≡ named_type forms t1 →
    Comes (walk_specifiers ξ Γ how specs s) s1 p → Comes (walk_pointers ξ Γ false t0 stars s1) s2 t1 → Comes (walk_sizes ξ Γ sizes s2) s3 cs →
    Comes (walk_type ξ Γ place (t.Typed specs stars sizes) s) s3 (formed ξ.threads t2 cs)
type_ends ξ Γ how place specs stars sizes s s1 s2 s3 p t0 t1 t2 forms cs a b f g h i j =
    let q = typed_so ξ Γ how place specs stars s s1 s2 p t0 t1 a b h i in
    let e : formed ξ.threads (named_type (specifiers_form false p) t1) cs ≡ formed ξ.threads t2 cs = ap (λ z. formed ξ.threads (named_type z t1) cs) (sym f) ∙ ap (λ z. formed ξ.threads z cs) (sym g) in
    comes (next _ _ q.0 (next _ _ q.1 (next _ _ j (given e))))

pub type_stops : {C : Type 0} (view : C → Formed) (ξ : Setting) (Γ : Env) (how : Specifying) (place : Place) (specs : t.Specs) (stars : t.Pointers) (sizes : t.Dimensions) (s after : State) (e : Stop) (r : Result C Stop) →
    how ≡ in_type place → Stops (first_fault (walk_specifiers ξ Γ how specs s).seen) e → IsErrAnd r (λ y. y ≡ e) → Reaches view (walk_type ξ Γ place (t.Typed specs stars sizes) s) after r
type_stops view ξ Γ how place specs stars sizes s after e r a h j =
    stopped _ _ s e j (subst (λ how. Stops (first_fault (walk_specifiers ξ Γ how specs s).seen) e) a h)

pub type_stops_at_stars : {C : Type 0} (view : C → Formed) (ξ : Setting) (Γ : Env) (how : Specifying) (place : Place) (specs : t.Specs) (stars : t.Pointers) (sizes : t.Dimensions) (s s1 after : State) (p : Specified) (t0 : Shaped) (e : Stop) (r : Result C Stop) →
    how ≡ in_type place → t0 ≡ specified_type p → Comes (walk_specifiers ξ Γ how specs s) s1 p → Stops (first_fault (walk_pointers ξ Γ false t0 stars s1).seen) e → IsErrAnd r (λ y. y ≡ e) →
    Reaches view (walk_type ξ Γ place (t.Typed specs stars sizes) s) after r
type_stops_at_stars view ξ Γ how place specs stars sizes s s1 after p t0 e r a b h i j =
    next _ _ (subst (λ how. Comes (walk_specifiers ξ Γ how specs s) s1 p) a h) (stopped _ _ s1 e j (subst (λ t. Stops (first_fault (walk_pointers ξ Γ false t stars s1).seen) e) b i))

pub type_stops_at_sizes : {C : Type 0} (view : C → Formed) (ξ : Setting) (Γ : Env) (how : Specifying) (place : Place) (specs : t.Specs) (stars : t.Pointers) (sizes : t.Dimensions) (s s1 s2 after : State) (p : Specified) (t0 t1 : Shaped) (e : Stop) (r : Result C Stop) →
    how ≡ in_type place → t0 ≡ specified_type p → Comes (walk_specifiers ξ Γ how specs s) s1 p → Comes (walk_pointers ξ Γ false t0 stars s1) s2 t1 → Stops (first_fault (walk_sizes ξ Γ sizes s2).seen) e → IsErrAnd r (λ y. y ≡ e) →
    Reaches view (walk_type ξ Γ place (t.Typed specs stars sizes) s) after r
type_stops_at_sizes view ξ Γ how place specs stars sizes s s1 s2 after p t0 t1 e r a b h i k j =
    let q = typed_so ξ Γ how place specs stars s s1 s2 p t0 t1 a b h i in
    next _ _ q.0 (next _ _ q.1 (stopped _ _ s2 e j k))

-- ---- members and parameters

-- Parameters whose tags are out of scope after them.
pub enclosed_comes : (ξ : Setting) (Γ inner : Env) (ps : t.Parameters) (s first after : State) (d : Declared) → inner ≡ inside Γ → first ≡ s → Comes (walk_parameters ξ inner ps first) after d →
    Comes (enclosed (walk_parameters ξ (inside Γ) ps) s) (record after { tags = s.tags }) d
enclosed_comes ξ Γ inner ps s first after d e f h =
    let a = subst (λ Γ. Comes (walk_parameters ξ Γ ps first) after d) e h in
    let b = subst (λ s. Comes (walk_parameters ξ (inside Γ) ps s) after d) f a in
    encloses (λ (d : Declared). d) (walk_parameters ξ (inside Γ) ps) s after (Ok d) b

pub enclosed_stops : (ξ : Setting) (Γ inner : Env) (ps : t.Parameters) (s first : State) (e : Stop) → inner ≡ inside Γ → first ≡ s → Stops (first_fault (walk_parameters ξ inner ps first).seen) e →
    Stops (first_fault (enclosed (walk_parameters ξ (inside Γ) ps) s).seen) e
enclosed_stops ξ Γ inner ps s first e a f h =
    let b = subst (λ Γ. Stops (first_fault (walk_parameters ξ Γ ps first).seen) e) a h in
    let c = subst (λ s. Stops (first_fault (walk_parameters ξ (inside Γ) ps s).seen) e) f b in
    encloses (λ (d : Declared). d) (walk_parameters ξ (inside Γ) ps) s s (Err e) c

-- A member that is an object.
pub member_ends : {C : Type 0} (view : C → List Member) (x : C) (ξ : Setting) (Γ : Env) (t0 t1 : Shaped) (before : List Member) (stars : t.Pointers) (name : Name) (sizes : t.Dimensions) (s s1 s2 : State) (cs : List Constant) (f : Formed) (again : Bool) (at : Place) (rule : Option ℕ) →
    Comes (walk_pointers ξ Γ false t0 stars s) s1 t1 → Comes (walk_sizes ξ Γ sizes s1) s2 cs → f ≡ formed ξ.threads t1 cs → again ≡ has_member before (spelling ξ name.number) → at ≡ pointers_place stars name →
    rule ≡ lowest (facts_in ξ s2) (n.Member again f) → rule ≡ None → view x ≡ with_member before (spelling ξ name.number) f.ctype →
    Reaches view (walk_member ξ Γ t0 before (t.ObjectDeclarator stars name sizes) s) s2 (Ok x)
member_ends view x ξ Γ t0 t1 before stars name sizes s s1 s2 cs f again at rule h i e a p l o m =
    let same : lowest (facts_in ξ s2) (n.Member again f) ≡ lowest (facts_in ξ s2) (n.Member (has_member before (spelling ξ name.number)) (formed ξ.threads t1 cs)) = ap (λ a. lowest (facts_in ξ s2) (n.Member a f)) a ∙ ap (λ f. lowest (facts_in ξ s2) (n.Member (has_member before (spelling ξ name.number)) f)) e in
    next _ _ h (next _ _ i (next _ _ (judge_goes ξ (pointers_place stars name) (n.Member (has_member before (spelling ξ name.number)) (formed ξ.threads t1 cs)) s2 rule (l ∙ same) o)
    (given (ap (λ f. with_member before (spelling ξ name.number) f.ctype) (sym e) ∙ sym m))))

pub member_stops : {C : Type 0} (view : C → List Member) (ξ : Setting) (Γ : Env) (t0 t1 : Shaped) (before : List Member) (stars : t.Pointers) (name : Name) (sizes : t.Dimensions) (s s1 s2 after : State) (cs : List Constant) (f : Formed) (again : Bool) (at : Place) (rule : Option ℕ) (e : Stop) (r : Result C Stop) →
    Comes (walk_pointers ξ Γ false t0 stars s) s1 t1 → Comes (walk_sizes ξ Γ sizes s1) s2 cs → f ≡ formed ξ.threads t1 cs → again ≡ has_member before (spelling ξ name.number) → at ≡ pointers_place stars name →
    rule ≡ lowest (facts_in ξ s2) (n.Member again f) → Refuses rule at e → IsErrAnd r (λ y. y ≡ e) →
    Reaches view (walk_member ξ Γ t0 before (t.ObjectDeclarator stars name sizes) s) after r
member_stops view ξ Γ t0 t1 before stars name sizes s s1 s2 after cs f again at rule e r h i g a p l o j =
    let same : lowest (facts_in ξ s2) (n.Member again f) ≡ lowest (facts_in ξ s2) (n.Member (has_member before (spelling ξ name.number)) (formed ξ.threads t1 cs)) = ap (λ a. lowest (facts_in ξ s2) (n.Member a f)) a ∙ ap (λ f. lowest (facts_in ξ s2) (n.Member (has_member before (spelling ξ name.number)) f)) g in
    next _ _ h (next _ _ i (stopped _ _ s2 e j (judge_stops ξ (pointers_place stars name) (n.Member (has_member before (spelling ξ name.number)) (formed ξ.threads t1 cs)) s2 rule e (l ∙ same) (subst (λ at. Refuses rule at e) p o))))

breaks_one : (a b : Bool) → or_above 4 a (or_above 7 b (Some 8)) ≡ None → ⊥
breaks_one true b h = absurd cc
breaks_one false true h = absurd cc
breaks_one false false h = absurd cc

-- A member that is a function: it breaks a rule.
function_ends : {C : Type 0} (view : C → List Member) (ξ : Setting) (Γ inner : Env) (t0 t1 : Shaped) (before : List Member) (stars : t.Pointers) (name : Name) (ps : t.Parameters) (s s1 first s2 after : State) (d : Declared) (at : Place) (rule : Option ℕ) (r : Result C Stop) →
    Comes (walk_pointers ξ Γ false t0 stars s) s1 t1 → inner ≡ inside Γ → first ≡ s1 → Comes (walk_parameters ξ inner ps first) s2 d → at ≡ pointers_place stars name →
    rule ≡ lowest (facts_in ξ (record s2 { tags = s1.tags })) (n.MemberFunction t1.forms t1.ctype) → OnOk r (rule ≡ None) → IfErr r (Refuses rule at) →
    Reaches view (walk_member ξ Γ t0 before (t.FunctionDeclarator stars name ps) s) after r
function_ends view ξ Γ inner t0 t1 before stars name ps s s1 first s2 after d at rule (Ok x) h e f i p l ok bad = absurd (breaks_one _ _ (sym l ∙ ok))
function_ends view ξ Γ inner t0 t1 before stars name ps s s1 first s2 after d at rule (Err y) h e f i p l ok bad =
    let inside = enclosed_comes ξ Γ inner ps s1 first s2 d e f i in
    let state = record s2 { tags = s1.tags } in
    next _ _ h (next _ _ inside (stopped _ _ state y refl (judge_stops ξ (pointers_place stars name) (n.MemberFunction t1.forms t1.ctype) state rule y l (subst (λ at. Refuses rule at y) p bad))))

pub function_is_none : {C : Type 0} (view : C → List Member) (ξ : Setting) (Γ inner : Env) (t0 t1 : Shaped) (before : List Member) (x : t.Declarator) (stars : t.Pointers) (name : Name) (ps : t.Parameters) (s s1 first s2 after : State) (d : Declared) (at : Place) (rule : Option ℕ) (r : Result C Stop) →
    x ≡ t.FunctionDeclarator stars name ps → Comes (walk_pointers ξ Γ false t0 stars s) s1 t1 → inner ≡ inside Γ → first ≡ s1 → Comes (walk_parameters ξ inner ps first) s2 d → at ≡ pointers_place stars name →
    rule ≡ lowest (facts_in ξ (record s2 { tags = s1.tags })) (n.MemberFunction t1.forms t1.ctype) → OnOk r (rule ≡ None) → IfErr r (Refuses rule at) →
    Meets view (walk_member ξ Γ t0 before x s) after r
function_is_none view ξ Γ inner t0 t1 before x stars name ps s s1 first s2 after d at rule r g h e f i p l ok bad =
    subst (λ z. Meets view (walk_member ξ Γ t0 before z s) after r) (sym g) (function_ends view ξ Γ inner t0 t1 before stars name ps s s1 first s2 after d at rule r h e f i p l ok bad).met

pub function_stops : {C : Type 0} (view : C → List Member) (ξ : Setting) (Γ inner : Env) (t0 t1 : Shaped) (before : List Member) (stars : t.Pointers) (name : Name) (ps : t.Parameters) (s s1 first after : State) (e : Stop) (r : Result C Stop) →
    Comes (walk_pointers ξ Γ false t0 stars s) s1 t1 → inner ≡ inside Γ → first ≡ s1 → Stops (first_fault (walk_parameters ξ inner ps first).seen) e → IsErrAnd r (λ y. y ≡ e) →
    Reaches view (walk_member ξ Γ t0 before (t.FunctionDeclarator stars name ps) s) after r
function_stops view ξ Γ inner t0 t1 before stars name ps s s1 first after e r h a f i j =
    next _ _ h (stopped _ _ s1 e j (enclosed_stops ξ Γ inner ps s1 first e a f i))

pub parameter_ends : {C : Type 0} (view : C → Declared) (x : C) (ξ : Setting) (before : Declared) (how : Specifying) (specs : t.Specs) (stars : t.Pointers) (name : Option Name) (array : t.ParameterArray) (s s1 s2 s3 : State) (p : Specified) (t0 t1 t2 : Shaped) (forms again : Bool) (f : Formed) (at : Place) (rule : Option ℕ) →
    how ≡ in_type (specs_place specs) → t0 ≡ specified_type p → forms ≡ specifiers_form false p → t2 ≡ named_type forms t1 → again ≡ is_again ξ before.scope name → at ≡ specs_place specs →
    Comes (walk_specifiers ξ before.scope how specs s) s1 p → Comes (walk_pointers ξ before.scope false t0 stars s1) s2 t1 → Comes (walk_array ξ before.scope t2 array s2) s3 f →
    rule ≡ lowest (facts_in ξ s3) (n.Parameter again f) → rule ≡ None → view x ≡ with_parameter before name f.ctype →
    Reaches view (walk_parameter ξ before (t.Parametric specs stars name array) s) s3 (Ok x)
parameter_ends view x ξ before how specs stars name array s s1 s2 s3 p t0 t1 t2 forms again f at rule a b c d e g h i j l o m =
    let q = typed_so ξ before.scope how (specs_place specs) specs stars s s1 s2 p t0 t1 a b h i in
    let brackets = subst (λ t. Comes (walk_array ξ before.scope t array s2) s3 f) (d ∙ ap (λ z. named_type z t1) c) j in
    let same = l ∙ ap (λ z. lowest (facts_in ξ s3) (n.Parameter z f)) e in
    next _ _ q.0 (next _ _ q.1 (next _ _ brackets (next _ _ (judge_goes ξ (specs_place specs) (n.Parameter (is_again ξ before.scope name) f) s3 rule same o) (given (sym m)))))

pub parameter_stops : {C : Type 0} (view : C → Declared) (ξ : Setting) (before : Declared) (how : Specifying) (specs : t.Specs) (stars : t.Pointers) (name : Option Name) (array : t.ParameterArray) (s after : State) (e : Stop) (r : Result C Stop) →
    how ≡ in_type (specs_place specs) → Stops (first_fault (walk_specifiers ξ before.scope how specs s).seen) e → IsErrAnd r (λ y. y ≡ e) →
    Reaches view (walk_parameter ξ before (t.Parametric specs stars name array) s) after r
parameter_stops view ξ before how specs stars name array s after e r a h j =
    stopped _ _ s e j (subst (λ how. Stops (first_fault (walk_specifiers ξ before.scope how specs s).seen) e) a h)

pub parameter_stops_at_stars : {C : Type 0} (view : C → Declared) (ξ : Setting) (before : Declared) (how : Specifying) (specs : t.Specs) (stars : t.Pointers) (name : Option Name) (array : t.ParameterArray) (s s1 after : State) (p : Specified) (t0 : Shaped) (e : Stop) (r : Result C Stop) →
    how ≡ in_type (specs_place specs) → t0 ≡ specified_type p → Comes (walk_specifiers ξ before.scope how specs s) s1 p → Stops (first_fault (walk_pointers ξ before.scope false t0 stars s1).seen) e → IsErrAnd r (λ y. y ≡ e) →
    Reaches view (walk_parameter ξ before (t.Parametric specs stars name array) s) after r
parameter_stops_at_stars view ξ before how specs stars name array s s1 after p t0 e r a b h i j =
    next _ _ (subst (λ how. Comes (walk_specifiers ξ before.scope how specs s) s1 p) a h) (stopped _ _ s1 e j (subst (λ t. Stops (first_fault (walk_pointers ξ before.scope false t stars s1).seen) e) b i))

pub parameter_stops_at_array : {C : Type 0} (view : C → Declared) (ξ : Setting) (before : Declared) (how : Specifying) (specs : t.Specs) (stars : t.Pointers) (name : Option Name) (array : t.ParameterArray) (s s1 s2 after : State) (p : Specified) (t0 t1 t2 : Shaped) (forms : Bool) (e : Stop) (r : Result C Stop) →
    how ≡ in_type (specs_place specs) → t0 ≡ specified_type p → forms ≡ specifiers_form false p → t2 ≡ named_type forms t1 →
    Comes (walk_specifiers ξ before.scope how specs s) s1 p → Comes (walk_pointers ξ before.scope false t0 stars s1) s2 t1 → Stops (first_fault (walk_array ξ before.scope t2 array s2).seen) e → IsErrAnd r (λ y. y ≡ e) →
    Reaches view (walk_parameter ξ before (t.Parametric specs stars name array) s) after r
parameter_stops_at_array view ξ before how specs stars name array s s1 s2 after p t0 t1 t2 forms e r a b c d h i k j =
    let q = typed_so ξ before.scope how (specs_place specs) specs stars s s1 s2 p t0 t1 a b h i in
    next _ _ q.0 (next _ _ q.1 (stopped _ _ s2 e j (subst (λ t. Stops (first_fault (walk_array ξ before.scope t array s2).seen) e) (d ∙ ap (λ z. named_type z t1) c) k)))

pub parameter_stops_itself : {C : Type 0} (view : C → Declared) (ξ : Setting) (before : Declared) (how : Specifying) (specs : t.Specs) (stars : t.Pointers) (name : Option Name) (array : t.ParameterArray) (s s1 s2 s3 after : State) (p : Specified) (t0 t1 t2 : Shaped) (forms again : Bool) (f : Formed) (at : Place) (rule : Option ℕ) (e : Stop) (r : Result C Stop) →
    how ≡ in_type (specs_place specs) → t0 ≡ specified_type p → forms ≡ specifiers_form false p → t2 ≡ named_type forms t1 → again ≡ is_again ξ before.scope name → at ≡ specs_place specs →
    Comes (walk_specifiers ξ before.scope how specs s) s1 p → Comes (walk_pointers ξ before.scope false t0 stars s1) s2 t1 → Comes (walk_array ξ before.scope t2 array s2) s3 f →
    rule ≡ lowest (facts_in ξ s3) (n.Parameter again f) → Refuses rule at e → IsErrAnd r (λ y. y ≡ e) →
    Reaches view (walk_parameter ξ before (t.Parametric specs stars name array) s) after r
parameter_stops_itself view ξ before how specs stars name array s s1 s2 s3 after p t0 t1 t2 forms again f at rule e r a b c d g m h i k l o j =
    let q = typed_so ξ before.scope how (specs_place specs) specs stars s s1 s2 p t0 t1 a b h i in
    let brackets = subst (λ t. Comes (walk_array ξ before.scope t array s2) s3 f) (d ∙ ap (λ z. named_type z t1) c) k in
    let same = l ∙ ap (λ z. lowest (facts_in ξ s3) (n.Parameter z f)) g in
    next _ _ q.0 (next _ _ q.1 (next _ _ brackets (stopped _ _ s3 e j (judge_stops ξ (specs_place specs) (n.Parameter (is_again ξ before.scope name) f) s3 rule e same (subst (λ at. Refuses rule at e) m o)))))

-- ---- lines of members

line_so : (ξ : Setting) (Γ : Env) (how : Specifying) (before ms : List Member) (specs : t.Specs) (first : t.Declarator) (s s1 s2 : State) (p : Specified) (t0 : Shaped) → how ≡ in_type (specs_place specs) → t0 ≡ specified_type p →
    Comes (walk_specifiers ξ Γ how specs s) s1 p → Comes (walk_member ξ Γ t0 before first s1) s2 ms →
    Comes (walk_specifiers ξ Γ (in_type (specs_place specs)) specs s) s1 p × Comes (walk_member ξ Γ (specified_type p) before first s1) s2 ms
line_so ξ Γ how before ms specs first s s1 s2 p t0 a b h i =
    (subst (λ how. Comes (walk_specifiers ξ Γ how specs s) s1 p) a h, subst (λ t. Comes (walk_member ξ Γ t before first s1) s2 ms) b i)

pub line_goes : (ξ : Setting) (Γ : Env) (how : Specifying) (before ms all : List Member) (specs : t.Specs) (first : t.Declarator) (nexts : t.NextDeclarators) (semicolon : Span) (more : t.Members) (s s1 s2 s3 s4 : State) (p : Specified) (t0 : Shaped) (forms : Bool) (at : Place) (rule : Option ℕ) →
    how ≡ in_type (specs_place specs) → t0 ≡ specified_type p → forms ≡ specifiers_form false p → at ≡ specs_place specs →
    Comes (walk_specifiers ξ Γ how specs s) s1 p → Comes (walk_member ξ Γ t0 before first s1) s2 ms → Comes (walk_next_members ξ Γ t0 ms nexts s2) s3 all →
    rule ≡ lowest (facts_in ξ s3) (n.Specifies forms) → rule ≡ None → s4 ≡ ended ξ.most at s3 →
    Same (walk_members ξ Γ before (t.AndMember specs first nexts semicolon more) s) (walk_members ξ Γ all more s4)
line_goes ξ Γ how before ms all specs first nexts semicolon more s s1 s2 s3 s4 p t0 forms at rule a b c d h i j l o m =
    let q = line_so ξ Γ how before ms specs first s s1 s2 p t0 a b h i in
    let others = subst (λ t. Comes (walk_next_members ξ Γ t ms nexts s2) s3 all) b j in
    let same = l ∙ ap (λ z. lowest (facts_in ξ s3) (n.Specifies z)) c in
    let judged = judge_goes ξ (specs_place specs) (n.Specifies (specifiers_form false p)) s3 rule same o in
    let behind = m ∙ ap (λ at. ended ξ.most at s3) d in
    subst (λ z. Same (walk_members ξ Γ before (t.AndMember specs first nexts semicolon more) s) (walk_members ξ Γ all more z)) (sym behind)
    (same_trans _ _ _ (goes_on _ _ s s1 p q.0) (same_trans _ _ _ (goes_on _ _ s1 s2 ms q.1) (same_trans _ _ _ (goes_on _ _ s2 s3 all others) (goes_on _ _ s3 _ _ judged))))

pub line_stops : {C : Type 0} (view : C → List Member) (ξ : Setting) (Γ : Env) (how : Specifying) (before : List Member) (specs : t.Specs) (first : t.Declarator) (nexts : t.NextDeclarators) (semicolon : Span) (more : t.Members) (s after : State) (e : Stop) (r : Result C Stop) →
    how ≡ in_type (specs_place specs) → Stops (first_fault (walk_specifiers ξ Γ how specs s).seen) e → IsErrAnd r (λ y. y ≡ e) →
    Reaches view (walk_members ξ Γ before (t.AndMember specs first nexts semicolon more) s) after r
line_stops view ξ Γ how before specs first nexts semicolon more s after e r a h j =
    stopped _ _ s e j (subst (λ how. Stops (first_fault (walk_specifiers ξ Γ how specs s).seen) e) a h)

pub line_stops_at_first : {C : Type 0} (view : C → List Member) (ξ : Setting) (Γ : Env) (how : Specifying) (before : List Member) (specs : t.Specs) (first : t.Declarator) (nexts : t.NextDeclarators) (semicolon : Span) (more : t.Members) (s s1 after : State) (p : Specified) (t0 : Shaped) (e : Stop) (r : Result C Stop) →
    how ≡ in_type (specs_place specs) → t0 ≡ specified_type p → Comes (walk_specifiers ξ Γ how specs s) s1 p → Stops (first_fault (walk_member ξ Γ t0 before first s1).seen) e → IsErrAnd r (λ y. y ≡ e) →
    Reaches view (walk_members ξ Γ before (t.AndMember specs first nexts semicolon more) s) after r
line_stops_at_first view ξ Γ how before specs first nexts semicolon more s s1 after p t0 e r a b h i j =
    next _ _ (subst (λ how. Comes (walk_specifiers ξ Γ how specs s) s1 p) a h) (stopped _ _ s1 e j (subst (λ t. Stops (first_fault (walk_member ξ Γ t before first s1).seen) e) b i))

pub line_stops_at_others : {C : Type 0} (view : C → List Member) (ξ : Setting) (Γ : Env) (how : Specifying) (before ms : List Member) (specs : t.Specs) (first : t.Declarator) (nexts : t.NextDeclarators) (semicolon : Span) (more : t.Members) (s s1 s2 after : State) (p : Specified) (t0 : Shaped) (e : Stop) (r : Result C Stop) →
    how ≡ in_type (specs_place specs) → t0 ≡ specified_type p → Comes (walk_specifiers ξ Γ how specs s) s1 p → Comes (walk_member ξ Γ t0 before first s1) s2 ms → Stops (first_fault (walk_next_members ξ Γ t0 ms nexts s2).seen) e → IsErrAnd r (λ y. y ≡ e) →
    Reaches view (walk_members ξ Γ before (t.AndMember specs first nexts semicolon more) s) after r
line_stops_at_others view ξ Γ how before ms specs first nexts semicolon more s s1 s2 after p t0 e r a b h i k j =
    let q = line_so ξ Γ how before ms specs first s s1 s2 p t0 a b h i in
    next _ _ q.0 (next _ _ q.1 (stopped _ _ s2 e j (subst (λ t. Stops (first_fault (walk_next_members ξ Γ t ms nexts s2).seen) e) b k)))

pub line_stops_itself : {C : Type 0} (view : C → List Member) (ξ : Setting) (Γ : Env) (how : Specifying) (before ms all : List Member) (specs : t.Specs) (first : t.Declarator) (nexts : t.NextDeclarators) (semicolon : Span) (more : t.Members) (s s1 s2 s3 after : State) (p : Specified) (t0 : Shaped) (forms : Bool) (at : Place) (rule : Option ℕ) (e : Stop) (r : Result C Stop) →
    how ≡ in_type (specs_place specs) → t0 ≡ specified_type p → forms ≡ specifiers_form false p → at ≡ specs_place specs →
    Comes (walk_specifiers ξ Γ how specs s) s1 p → Comes (walk_member ξ Γ t0 before first s1) s2 ms → Comes (walk_next_members ξ Γ t0 ms nexts s2) s3 all →
    rule ≡ lowest (facts_in ξ s3) (n.Specifies forms) → Refuses rule at e → IsErrAnd r (λ y. y ≡ e) →
    Reaches view (walk_members ξ Γ before (t.AndMember specs first nexts semicolon more) s) after r
line_stops_itself view ξ Γ how before ms all specs first nexts semicolon more s s1 s2 s3 after p t0 forms at rule e r a b c d h i k l o j =
    let q = line_so ξ Γ how before ms specs first s s1 s2 p t0 a b h i in
    let others = subst (λ t. Comes (walk_next_members ξ Γ t ms nexts s2) s3 all) b k in
    let same = l ∙ ap (λ z. lowest (facts_in ξ s3) (n.Specifies z)) c in
    next _ _ q.0 (next _ _ q.1 (next _ _ others (stopped _ _ s3 e j (judge_stops ξ (specs_place specs) (n.Specifies (specifiers_form false p)) s3 rule e same (subst (λ at. Refuses rule at e) d o)))))
