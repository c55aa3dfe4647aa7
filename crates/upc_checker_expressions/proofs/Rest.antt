-- Walks over lists of parts, where the code stands in a loop.
use Rattle.std.proofs.Common.{◌≡◌, ℕ, ◌+◌, ◌<◌, ◌≤◌, Bool, ◌&&◌, List, [], ◌∷◌, ◌++◌, map, length, get_or, drop, Err, refl, sym, ap, subst}
use Rattle.upc_text.specs.declared.faults.Stop.{Stop}
use Rattle.upc_tree.specs.declared.expression.NextExpr.{NextExpr}
use Rattle.upc_tree.specs.declared.expression.Dimension.{Dimension}
use Rattle.upc_tree.specs.declared.expression.Spec.{Spec}
use Rattle.upc_tree.specs.declared.expression.Qual.{Qual}
use Rattle.upc_tree.specs.declared.expression.Pointer.{Pointer}
use Rattle.upc_tree.specs.declared.expression.NextDeclarator.{NextDeclarator}
use Rattle.upc_tree.specs.declared.expression.NextParameter.{NextParameter, out-NextParameter}
use Rattle.upc_tree.specs.declared.expression.Member.{Member as Line, out-Member}
use Rattle.upc_tree.specs.layer.Lists.{next_exprs_of, dimensions_of, specs_of, quals_of, pointers_of, next_declarators_of, next_parameters_of, members_of}
use Rattle.upc_tree.specs.layer.View.{view, view_next_expr, view_dimension, view_spec, view_qual, view_pointer, view_next_declarator, view_declarator, view_next_parameter, view_parameter, view_member, view_specs, view_next_declarators}
use Rattle.upc_tree.proofs.Rows.{member_is, next_parameter_is}
use Rattle.std.proofs.lemmas.List.{append-nil}
use Rattle.upc_tree.specs.declared.span.Span.{Span}
use Rattle.upc_tree.specs.Expression as t
use Rattle.upc_types.specs.Types.{Member}
use Rattle.typed_tree.specs.declared.tree.Expr.{Expr as RustExpr}
use Rattle.typing_rules.specs.declared.attribute.Constant.{Constant}
use Rattle.typed_tree.specs.Scopes.{Setting, Env, State}
use Rattle.typing_rules.specs.Nodes as n
use Rattle.typing_rules.specs.Nodes.{Use}
use Rattle.typing_rules.specs.Faults.{first_fault}
use Rattle.typed_tree.specs.Tree as k
use Rattle.typed_tree.specs.Tree.{Expr, Exprs, exprs_of}
use Rattle.typed_tree.specs.ViewTree.{view_expr}
use Rattle.upc_checker_scopes.specs.Walk.{Walked, Walk, andthen, give}
use Rattle.upc_checker_scopes.specs.layer.Ends.{Stops, Comes}
use Rattle.upc_checker_types.specs.Specifiers.{Quals, no_quals, both_quals, Specified, nothing_specified, both_specified, Shaped, pointer_to}
use Rattle.upc_checker_expressions.specs.Expressions.{walk, constantly, walk_more, walk_sizes, walk_specifiers, walk_specs, walk_spec, walk_quals, walk_qual, walk_pointers, walk_next_members, walk_member, walk_next_parameters, walk_parameter, walk_members}
use Rattle.upc_checker_nodes.specs.Called.{first_use, later_uses}
use Rattle.upc_checker_types.specs.Shapes.{Specifying, is_none}
use Rattle.upc_checker_types.specs.Members.{Declared}
use Rattle.upc_checker_scopes.proofs.Walks.{Same, same_trans, goes}
use Rattle.upc_checker_expressions.proofs.Lists.{goes_on, goes_within, whole, stops_first, one_more, one_step, joined_stops, step_stops, all_joined, all_stepped, front, front_pushed, front_all, sizes_pushed, quals_added, quals_all, specified_added, specified_all}

-- ---- expressions

abbrev pub rest_of_exprs : Setting → Env → List Use → List NextExpr → Walk Exprs
rest_of_exprs ξ Γ us parts = walk_more ξ Γ us (next_exprs_of (map view_next_expr parts))

pub more_begins : (ξ : Setting) (Γ : Env) (us : List Use) (parts : List NextExpr) (none : List RustExpr) (s : State) → none ≡ [] →
    Same (rest_of_exprs ξ Γ us parts s) (andthen (rest_of_exprs ξ Γ us parts) (λ ys. give (front (map view_expr none) ys)) s)
more_begins ξ Γ us parts none s e = whole (rest_of_exprs ξ Γ us parts) (front (map view_expr none)) s (λ a. ap (λ l. front (map view_expr l) a) (sym e))

pub more_step : (ξ : Setting) (Γ : Env) (us later : List Use) (u : Use) (parts : List NextExpr) (i : ℕ) (p : NextExpr) (done all : List RustExpr) (x : RustExpr) (s s1 : State) (v : Walked Exprs) →
    i < length parts → p ≡ get_or parts i p → u ≡ first_use us → later ≡ later_uses us → Comes (walk ξ Γ u (view p.value.value) s) s1 (view_expr x) → all ≡ done ++ (x ∷ []) →
    Same v (andthen (rest_of_exprs ξ Γ us (drop i parts)) (λ ys. give (front (map view_expr done) ys)) s) →
    Same v (andthen (rest_of_exprs ξ Γ later (drop (i + 1) parts)) (λ ys. give (front (map view_expr all) ys)) s1)
more_step ξ Γ us later u parts i p done all x s s1 v within item e f h push inv =
    let rest = rest_of_exprs ξ Γ (later_uses us) (drop (i + 1) parts) in
    let here = subst (λ u. Comes (walk ξ Γ u (view p.value.value) s) s1 (view_expr x)) e h in
    subst (λ us. Same v (andthen (rest_of_exprs ξ Γ us (drop (i + 1) parts)) (λ ys. give (front (map view_expr all) ys)) s1)) (sym f)
    (one_more (rest_of_exprs ξ Γ us) rest (k.AndExpr (view_expr x)) (front (map view_expr done)) (front (map view_expr all)) parts i p s s1 v within item
    (λ last. goes_within (walk ξ Γ (first_use us) (view p.value.value)) (λ x. andthen rest (λ xs. give (k.AndExpr x xs))) last s s1 (view_expr x) here)
    (λ ys. front_pushed done all x ys push) inv)

pub more_stops : (ξ : Setting) (Γ : Env) (us : List Use) (u : Use) (parts : List NextExpr) (i : ℕ) (p : NextExpr) (f : Exprs → Exprs) (s : State) (v : Walked Exprs) (e : Stop) →
    i < length parts → p ≡ get_or parts i p → u ≡ first_use us → Stops (first_fault (walk ξ Γ u (view p.value.value) s).seen) e →
    Same v (andthen (rest_of_exprs ξ Γ us (drop i parts)) (λ ys. give (f ys)) s) → Stops (first_fault v.seen) e
more_stops ξ Γ us u parts i p f s v e within item a h inv =
    let here = subst (λ u. Stops (first_fault (walk ξ Γ u (view p.value.value) s).seen) e) a h in
    let rest = rest_of_exprs ξ Γ (later_uses us) (drop (i + 1) parts) in
    let go = λ (x : Expr). andthen rest (λ xs. give (k.AndExpr x xs)) in
    let last = λ (ys : Exprs). give (f ys) in
    joined_stops (λ (y : Exprs). y) (rest_of_exprs ξ Γ us) last parts i p s s v (Err e) within item inv
    (stops_first (andthen (walk ξ Γ (first_use us) (view p.value.value)) go) last s e (stops_first (walk ξ Γ (first_use us) (view p.value.value)) go s e here))

pub more_ends : (ξ : Setting) (Γ : Env) (us : List Use) (parts : List NextExpr) (i : ℕ) (done : List RustExpr) (s : State) (v : Walked Exprs) → length parts ≤ i →
    Same v (andthen (rest_of_exprs ξ Γ us (drop i parts)) (λ ys. give (front (map view_expr done) ys)) s) → Comes v s (exprs_of (map view_expr done))
more_ends ξ Γ us parts i done s v h inv =
    all_joined (λ (y : Exprs). y) (rest_of_exprs ξ Γ us) (front (map view_expr done)) k.NoExprs parts i s v (exprs_of (map view_expr done)) refl h (front_all (map view_expr done)) inv

-- ---- sizes

abbrev pub rest_of_sizes : Setting → Env → List Dimension → Walk (List Constant)
rest_of_sizes ξ Γ parts = walk_sizes ξ Γ (dimensions_of (map view_dimension parts))

pub sizes_begin : (ξ : Setting) (Γ : Env) (parts : List Dimension) (none : List Constant) (s : State) → none ≡ [] →
    Same (rest_of_sizes ξ Γ parts s) (andthen (rest_of_sizes ξ Γ parts) (λ cs. give (none ++ cs)) s)
sizes_begin ξ Γ parts none s e = whole (rest_of_sizes ξ Γ parts) (λ cs. none ++ cs) s (λ a. ap (λ l. l ++ a) (sym e))

pub sizes_step : (ξ : Setting) (Γ : Env) (parts : List Dimension) (i : ℕ) (p : Dimension) (done all : List Constant) (x : Expr) (c : Constant) (s s1 : State) (v : Walked (List Constant)) →
    i < length parts → p ≡ get_or parts i p → Comes (walk ξ Γ n.Plain (view p.size.value) s) s1 x → Comes (constantly ξ x s1) s1 c → all ≡ done ++ (c ∷ []) →
    Same v (andthen (rest_of_sizes ξ Γ (drop i parts)) (λ cs. give (done ++ cs)) s) →
    Same v (andthen (rest_of_sizes ξ Γ (drop (i + 1) parts)) (λ cs. give (all ++ cs)) s1)
sizes_step ξ Γ parts i p done all x c s s1 v within item h l push inv =
    let rest = rest_of_sizes ξ Γ (drop (i + 1) parts) in
    one_more (rest_of_sizes ξ Γ) rest (λ cs. c ∷ cs) (λ cs. done ++ cs) (λ cs. all ++ cs) parts i p s s1 v within item
    (λ last. same_trans _ _ _ (goes_within (walk ξ Γ n.Plain (view p.size.value)) (λ a. andthen (constantly ξ a) (λ c. andthen rest (λ cs. give (c ∷ cs)))) last s s1 x h)
    (goes_within (constantly ξ x) (λ c. andthen rest (λ cs. give (c ∷ cs))) last s1 s1 c l))
    (λ ys. sizes_pushed done all c ys push) inv

pub sizes_stop : (ξ : Setting) (Γ : Env) (parts : List Dimension) (i : ℕ) (p : Dimension) (f : List Constant → List Constant) (s : State) (v : Walked (List Constant)) (e : Stop) →
    i < length parts → p ≡ get_or parts i p → Stops (first_fault (walk ξ Γ n.Plain (view p.size.value) s).seen) e →
    Same v (andthen (rest_of_sizes ξ Γ (drop i parts)) (λ cs. give (f cs)) s) → Stops (first_fault v.seen) e
sizes_stop ξ Γ parts i p f s v e within item h inv =
    let rest = rest_of_sizes ξ Γ (drop (i + 1) parts) in
    let go = λ (a : Expr). andthen (constantly ξ a) (λ c. andthen rest (λ cs. give (c ∷ cs))) in
    let last = λ (ys : List Constant). give (f ys) in
    joined_stops (λ (y : List Constant). y) (rest_of_sizes ξ Γ) last parts i p s s v (Err e) within item inv
    (stops_first (andthen (walk ξ Γ n.Plain (view p.size.value)) go) last s e (stops_first (walk ξ Γ n.Plain (view p.size.value)) go s e h))

pub sizes_stop_behind : (ξ : Setting) (Γ : Env) (parts : List Dimension) (i : ℕ) (p : Dimension) (f : List Constant → List Constant) (x : Expr) (s s1 : State) (v : Walked (List Constant)) (e : Stop) →
    i < length parts → p ≡ get_or parts i p → Comes (walk ξ Γ n.Plain (view p.size.value) s) s1 x → Stops (first_fault (constantly ξ x s1).seen) e →
    Same v (andthen (rest_of_sizes ξ Γ (drop i parts)) (λ cs. give (f cs)) s) → Stops (first_fault v.seen) e
sizes_stop_behind ξ Γ parts i p f x s s1 v e within item h l inv =
    let rest = rest_of_sizes ξ Γ (drop (i + 1) parts) in
    let go = λ (a : Expr). andthen (constantly ξ a) (λ c. andthen rest (λ cs. give (c ∷ cs))) in
    let last = λ (ys : List Constant). give (f ys) in
    let inner : Stops (first_fault (andthen (walk ξ Γ n.Plain (view p.size.value)) go s).seen) e =
    goes (λ (y : List Constant). y) (walk ξ Γ n.Plain (view p.size.value)) go s s1 s1 x (Err e) h (stops_first (constantly ξ x) (λ c. andthen rest (λ cs. give (c ∷ cs))) s1 e l) in
    joined_stops (λ (y : List Constant). y) (rest_of_sizes ξ Γ) last parts i p s s v (Err e) within item inv (stops_first (andthen (walk ξ Γ n.Plain (view p.size.value)) go) last s e inner)

pub sizes_end : (ξ : Setting) (Γ : Env) (parts : List Dimension) (i : ℕ) (done : List Constant) (s : State) (v : Walked (List Constant)) → length parts ≤ i →
    Same v (andthen (rest_of_sizes ξ Γ (drop i parts)) (λ cs. give (done ++ cs)) s) → Comes v s done
sizes_end ξ Γ parts i done s v h inv =
    all_joined (λ (y : List Constant). y) (rest_of_sizes ξ Γ) (λ cs. done ++ cs) [] parts i s v done refl h (append-nil done) inv

-- ---- specifiers and qualifiers

abbrev pub rest_of_specs : Setting → Env → Specifying → List Spec → Walk Specified
rest_of_specs ξ Γ how parts = walk_specs ξ Γ how (specs_of (map view_spec parts))

abbrev pub all_specifiers : Setting → Env → Specifying → List Spec → Walk Specified
all_specifiers ξ Γ how parts = walk_specifiers ξ Γ how (specs_of (map view_spec parts))

pub specs_begin : (ξ : Setting) (Γ : Env) (how : Specifying) (parts : List Spec) (none : Specified) (s : State) → none ≡ nothing_specified →
    Same (rest_of_specs ξ Γ how parts s) (andthen (rest_of_specs ξ Γ how parts) (λ q. give (both_specified none q)) s)
specs_begin ξ Γ how parts none s e = whole (rest_of_specs ξ Γ how parts) (both_specified none) s (λ a. ap (λ p. both_specified p a) (sym e))

pub specs_step : (ξ : Setting) (Γ : Env) (how : Specifying) (parts : List Spec) (i : ℕ) (p : Spec) (done all x : Specified) (s s1 : State) (v : Walked Specified) →
    i < length parts → p ≡ get_or parts i p → Comes (walk_spec ξ Γ how (view_spec p) s) s1 x → all ≡ both_specified done x →
    Same v (andthen (rest_of_specs ξ Γ how (drop i parts)) (λ q. give (both_specified done q)) s) →
    Same v (andthen (rest_of_specs ξ Γ how (drop (i + 1) parts)) (λ q. give (both_specified all q)) s1)
specs_step ξ Γ how parts i p done all x s s1 v within item h add inv =
    let rest = rest_of_specs ξ Γ how (drop (i + 1) parts) in
    one_more (rest_of_specs ξ Γ how) rest (both_specified x) (both_specified done) (both_specified all) parts i p s s1 v within item
    (λ last. goes_within (walk_spec ξ Γ how (view_spec p)) (λ p. andthen rest (λ q. give (both_specified p q))) last s s1 x h)
    (λ q. specified_added done x q all add) inv

pub specs_stop : (ξ : Setting) (Γ : Env) (how : Specifying) (parts : List Spec) (i : ℕ) (p : Spec) (f : Specified → Specified) (s : State) (v : Walked Specified) (e : Stop) →
    i < length parts → p ≡ get_or parts i p → Stops (first_fault (walk_spec ξ Γ how (view_spec p) s).seen) e →
    Same v (andthen (rest_of_specs ξ Γ how (drop i parts)) (λ q. give (f q)) s) → Stops (first_fault v.seen) e
specs_stop ξ Γ how parts i p f s v e within item h inv =
    let rest = rest_of_specs ξ Γ how (drop (i + 1) parts) in
    let go = λ (p : Specified). andthen rest (λ q. give (both_specified p q)) in
    let last = λ (q : Specified). give (f q) in
    joined_stops (λ (y : Specified). y) (rest_of_specs ξ Γ how) last parts i p s s v (Err e) within item inv
    (stops_first (andthen (walk_spec ξ Γ how (view_spec p)) go) last s e (stops_first (walk_spec ξ Γ how (view_spec p)) go s e h))

pub specs_end : (ξ : Setting) (Γ : Env) (how : Specifying) (parts : List Spec) (i : ℕ) (done : Specified) (s : State) (v : Walked Specified) → length parts ≤ i →
    Same v (andthen (rest_of_specs ξ Γ how (drop i parts)) (λ q. give (both_specified done q)) s) → Comes v s done
specs_end ξ Γ how parts i done s v h inv =
    all_joined (λ (y : Specified). y) (rest_of_specs ξ Γ how) (both_specified done) nothing_specified parts i s v done refl h (specified_all done) inv

abbrev pub rest_of_quals : Setting → Env → Bool → List Qual → Walk Quals
rest_of_quals ξ Γ star parts = walk_quals ξ Γ star (quals_of (map view_qual parts))

pub quals_begin : (ξ : Setting) (Γ : Env) (star : Bool) (parts : List Qual) (none : Quals) (s : State) → none ≡ no_quals →
    Same (rest_of_quals ξ Γ star parts s) (andthen (rest_of_quals ξ Γ star parts) (λ q. give (both_quals none q)) s)
quals_begin ξ Γ star parts none s e = whole (rest_of_quals ξ Γ star parts) (both_quals none) s (λ a. ap (λ p. both_quals p a) (sym e))

pub quals_step : (ξ : Setting) (Γ : Env) (star : Bool) (parts : List Qual) (i : ℕ) (p : Qual) (done all x : Quals) (s s1 : State) (v : Walked Quals) →
    i < length parts → p ≡ get_or parts i p → Comes (walk_qual ξ Γ star (view_qual p) s) s1 x → all ≡ both_quals done x →
    Same v (andthen (rest_of_quals ξ Γ star (drop i parts)) (λ q. give (both_quals done q)) s) →
    Same v (andthen (rest_of_quals ξ Γ star (drop (i + 1) parts)) (λ q. give (both_quals all q)) s1)
quals_step ξ Γ star parts i p done all x s s1 v within item h add inv =
    let rest = rest_of_quals ξ Γ star (drop (i + 1) parts) in
    one_more (rest_of_quals ξ Γ star) rest (both_quals x) (both_quals done) (both_quals all) parts i p s s1 v within item
    (λ last. goes_within (walk_qual ξ Γ star (view_qual p)) (λ p. andthen rest (λ q. give (both_quals p q))) last s s1 x h)
    (λ q. quals_added done x q all add) inv

pub quals_stop : (ξ : Setting) (Γ : Env) (star : Bool) (parts : List Qual) (i : ℕ) (p : Qual) (f : Quals → Quals) (s : State) (v : Walked Quals) (e : Stop) →
    i < length parts → p ≡ get_or parts i p → Stops (first_fault (walk_qual ξ Γ star (view_qual p) s).seen) e →
    Same v (andthen (rest_of_quals ξ Γ star (drop i parts)) (λ q. give (f q)) s) → Stops (first_fault v.seen) e
quals_stop ξ Γ star parts i p f s v e within item h inv =
    let rest = rest_of_quals ξ Γ star (drop (i + 1) parts) in
    let go = λ (p : Quals). andthen rest (λ q. give (both_quals p q)) in
    let last = λ (q : Quals). give (f q) in
    joined_stops (λ (y : Quals). y) (rest_of_quals ξ Γ star) last parts i p s s v (Err e) within item inv
    (stops_first (andthen (walk_qual ξ Γ star (view_qual p)) go) last s e (stops_first (walk_qual ξ Γ star (view_qual p)) go s e h))

pub quals_end : (ξ : Setting) (Γ : Env) (star : Bool) (parts : List Qual) (i : ℕ) (done : Quals) (s : State) (v : Walked Quals) → length parts ≤ i →
    Same v (andthen (rest_of_quals ξ Γ star (drop i parts)) (λ q. give (both_quals done q)) s) → Comes v s done
quals_end ξ Γ star parts i done s v h inv =
    all_joined (λ (y : Quals). y) (rest_of_quals ξ Γ star) (both_quals done) no_quals parts i s v done refl h (quals_all done) inv

-- ---- stars

abbrev pub rest_of_stars : Setting → Env → Bool → Shaped → List Pointer → Walk Shaped
rest_of_stars ξ Γ star t parts = walk_pointers ξ Γ star t (pointers_of (map view_pointer parts))

pub stars_step : (ξ : Setting) (Γ : Env) (star last : Bool) (t t1 : Shaped) (parts : List Pointer) (i : ℕ) (p : Pointer) (q : Quals) (s s1 : State) (v : Walked Shaped) →
    i < length parts → p ≡ get_or parts i p → last ≡ (star && is_none (pointers_of (map view_pointer (drop (i + 1) parts)))) → Comes (rest_of_quals ξ Γ last p.quals.items s) s1 q → t1 ≡ pointer_to t q →
    Same v (rest_of_stars ξ Γ star t (drop i parts) s) → Same v (rest_of_stars ξ Γ star t1 (drop (i + 1) parts) s1)
stars_step ξ Γ star last t t1 parts i p q s s1 v within item e h f inv =
    let here = subst (λ b. Comes (rest_of_quals ξ Γ b p.quals.items s) s1 q) e h in
    subst (λ t. Same v (rest_of_stars ξ Γ star t (drop (i + 1) parts) s1)) (sym f)
    (one_step (rest_of_stars ξ Γ star t) (rest_of_stars ξ Γ star (pointer_to t q) (drop (i + 1) parts) s1) parts i p s v within item (goes_on _ _ s s1 q here) inv)

pub stars_stop : (ξ : Setting) (Γ : Env) (star last : Bool) (t : Shaped) (parts : List Pointer) (i : ℕ) (p : Pointer) (s : State) (v : Walked Shaped) (e : Stop) →
    i < length parts → p ≡ get_or parts i p → last ≡ (star && is_none (pointers_of (map view_pointer (drop (i + 1) parts)))) → Stops (first_fault (rest_of_quals ξ Γ last p.quals.items s).seen) e →
    Same v (rest_of_stars ξ Γ star t (drop i parts) s) → Stops (first_fault v.seen) e
stars_stop ξ Γ star last t parts i p s v e within item a h inv =
    let none = star && is_none (pointers_of (map view_pointer (drop (i + 1) parts))) in
    let here = subst (λ b. Stops (first_fault (rest_of_quals ξ Γ b p.quals.items s).seen) e) a h in
    step_stops (λ (y : Shaped). y) (rest_of_stars ξ Γ star t) parts i p s s v (Err e) within item inv
    (stops_first (rest_of_quals ξ Γ none p.quals.items) (λ q. rest_of_stars ξ Γ star (pointer_to t q) (drop (i + 1) parts)) s e here)

pub stars_end : (ξ : Setting) (Γ : Env) (star : Bool) (t : Shaped) (parts : List Pointer) (i : ℕ) (s : State) (v : Walked Shaped) → length parts ≤ i →
    Same v (rest_of_stars ξ Γ star t (drop i parts) s) → Comes v s t
stars_end ξ Γ star t parts i s v h inv = all_stepped (λ (y : Shaped). y) (rest_of_stars ξ Γ star t) t parts i s v t refl h refl inv

-- ---- members of a line

abbrev pub rest_of_declarators : Setting → Env → Shaped → List Member → List NextDeclarator → Walk (List Member)
rest_of_declarators ξ Γ t before parts = walk_next_members ξ Γ t before (next_declarators_of (map view_next_declarator parts))

pub declarators_step : (ξ : Setting) (Γ : Env) (t : Shaped) (before all : List Member) (parts : List NextDeclarator) (i : ℕ) (p : NextDeclarator) (s s1 : State) (v : Walked (List Member)) →
    i < length parts → p ≡ get_or parts i p → Comes (walk_member ξ Γ t before (view_declarator p.declarator.value) s) s1 all →
    Same v (rest_of_declarators ξ Γ t before (drop i parts) s) → Same v (rest_of_declarators ξ Γ t all (drop (i + 1) parts) s1)
declarators_step ξ Γ t before all parts i p s s1 v within item h inv =
    one_step (rest_of_declarators ξ Γ t before) (rest_of_declarators ξ Γ t all (drop (i + 1) parts) s1) parts i p s v within item (goes_on _ _ s s1 all h) inv

pub declarators_stop : (ξ : Setting) (Γ : Env) (t : Shaped) (before : List Member) (parts : List NextDeclarator) (i : ℕ) (p : NextDeclarator) (s : State) (v : Walked (List Member)) (e : Stop) →
    i < length parts → p ≡ get_or parts i p → Stops (first_fault (walk_member ξ Γ t before (view_declarator p.declarator.value) s).seen) e →
    Same v (rest_of_declarators ξ Γ t before (drop i parts) s) → Stops (first_fault v.seen) e
declarators_stop ξ Γ t before parts i p s v e within item h inv =
    step_stops (λ (y : List Member). y) (rest_of_declarators ξ Γ t before) parts i p s s v (Err e) within item inv
    (stops_first (walk_member ξ Γ t before (view_declarator p.declarator.value)) (λ ms. rest_of_declarators ξ Γ t ms (drop (i + 1) parts)) s e h)

-- ---- parameters

abbrev pub rest_of_parameters : Setting → Declared → List NextParameter → Walk Declared
rest_of_parameters ξ before parts = walk_next_parameters ξ before (next_parameters_of (map view_next_parameter parts))

parameter_first : (ξ : Setting) (before : Declared) (p : NextParameter) (rest : List NextParameter) →
    rest_of_parameters ξ before (p ∷ rest) ≡ andthen (walk_parameter ξ before (view_parameter (out-NextParameter p).parameter.value)) (λ d. rest_of_parameters ξ d rest)
parameter_first ξ before p rest = ap (λ (x : Span × t.Parameter). walk_next_parameters ξ before (t.AndParameter x.0 x.1 (next_parameters_of (map view_next_parameter rest)))) (next_parameter_is p)

pub parameters_step : (ξ : Setting) (before all : Declared) (parts : List NextParameter) (i : ℕ) (p : NextParameter) (s s1 : State) (v : Walked Declared) →
    i < length parts → p ≡ get_or parts i p → Comes (walk_parameter ξ before (view_parameter (out-NextParameter p).parameter.value) s) s1 all →
    Same v (rest_of_parameters ξ before (drop i parts) s) → Same v (rest_of_parameters ξ all (drop (i + 1) parts) s1)
parameters_step ξ before all parts i p s s1 v within item h inv =
    let more = drop (i + 1) parts in
    one_step (rest_of_parameters ξ before) (rest_of_parameters ξ all more s1) parts i p s v within item
    (subst (λ w. Same (w s) (rest_of_parameters ξ all more s1)) (sym (parameter_first ξ before p more)) (goes_on (walk_parameter ξ before (view_parameter (out-NextParameter p).parameter.value)) (λ d. rest_of_parameters ξ d more) s s1 all h)) inv

pub parameters_stop : (ξ : Setting) (before : Declared) (parts : List NextParameter) (i : ℕ) (p : NextParameter) (s : State) (v : Walked Declared) (e : Stop) →
    i < length parts → p ≡ get_or parts i p → Stops (first_fault (walk_parameter ξ before (view_parameter (out-NextParameter p).parameter.value) s).seen) e →
    Same v (rest_of_parameters ξ before (drop i parts) s) → Stops (first_fault v.seen) e
parameters_stop ξ before parts i p s v e within item h inv =
    let more = drop (i + 1) parts in
    step_stops (λ (y : Declared). y) (rest_of_parameters ξ before) parts i p s s v (Err e) within item inv
    (subst (λ w. Stops (first_fault (w s).seen) e) (sym (parameter_first ξ before p more)) (stops_first (walk_parameter ξ before (view_parameter (out-NextParameter p).parameter.value)) (λ d. rest_of_parameters ξ d more) s e h))

-- ---- lines of members

abbrev pub rest_of_lines : Setting → Env → List Member → List Line → Walk (List Member)
rest_of_lines ξ Γ before parts = walk_members ξ Γ before (members_of (map view_member parts))

pub line_first : (ξ : Setting) (Γ : Env) (before : List Member) (p : Line) (rest : List Line) →
    rest_of_lines ξ Γ before (p ∷ rest) ≡ walk_members ξ Γ before (t.AndMember (view_specs (out-Member p).specs) (view_declarator (out-Member p).first.value) (view_next_declarators (out-Member p).more) (out-Member p).semicolon (members_of (map view_member rest)))
line_first ξ Γ before p rest = ap (λ (x : t.Specs × t.Declarator × t.NextDeclarators × Span). walk_members ξ Γ before (t.AndMember x.0 x.1 x.2 x.3 (members_of (map view_member rest)))) (member_is p)

pub lines_step : (ξ : Setting) (Γ : Env) (before all : List Member) (parts : List Line) (i : ℕ) (p : Line) (s s1 : State) (v : Walked (List Member)) →
    i < length parts → p ≡ get_or parts i p →
    Same (walk_members ξ Γ before (t.AndMember (view_specs (out-Member p).specs) (view_declarator (out-Member p).first.value) (view_next_declarators (out-Member p).more) (out-Member p).semicolon (members_of (map view_member (drop (i + 1) parts)))) s) (rest_of_lines ξ Γ all (drop (i + 1) parts) s1) →
    Same v (rest_of_lines ξ Γ before (drop i parts) s) → Same v (rest_of_lines ξ Γ all (drop (i + 1) parts) s1)
lines_step ξ Γ before all parts i p s s1 v within item h inv =
    let more = drop (i + 1) parts in
    one_step (rest_of_lines ξ Γ before) (rest_of_lines ξ Γ all more s1) parts i p s v within item (subst (λ w. Same (w s) (rest_of_lines ξ Γ all more s1)) (sym (line_first ξ Γ before p more)) h) inv

pub lines_stop : (ξ : Setting) (Γ : Env) (before : List Member) (parts : List Line) (i : ℕ) (p : Line) (s : State) (v : Walked (List Member)) (e : Stop) →
    i < length parts → p ≡ get_or parts i p →
    Stops (first_fault (walk_members ξ Γ before (t.AndMember (view_specs (out-Member p).specs) (view_declarator (out-Member p).first.value) (view_next_declarators (out-Member p).more) (out-Member p).semicolon (members_of (map view_member (drop (i + 1) parts)))) s).seen) e →
    Same v (rest_of_lines ξ Γ before (drop i parts) s) → Stops (first_fault v.seen) e
lines_stop ξ Γ before parts i p s v e within item h inv =
    let more = drop (i + 1) parts in
    step_stops (λ (y : List Member). y) (rest_of_lines ξ Γ before) parts i p s s v (Err e) within item inv (subst (λ w. Stops (first_fault (w s).seen) e) (sym (line_first ξ Γ before p more)) h)
