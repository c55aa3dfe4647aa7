-- What the nodes of a walk are, part by part.
use Rattle.std.proofs.Common.{◌≡◌, true, false, if◌then◌else◌, List, [], ◌∷◌, ◌++◌, map, refl, sym, ap, ◌∙◌, append_assoc}
use Rattle.std.proofs.lemmas.List.{append-nil, map-append}
use Rattle.upc_text.specs.declared.place.Place.{Place}
use Rattle.upc_text.specs.declared.place.Refusal.{Refusal}
use Rattle.typing_rules.specs.Attributes.{Facts}
use Rattle.typing_rules.specs.Nodes.{Node}
use Rattle.typing_rules.specs.Nodes as n
use Rattle.typing_rules.specs.Rules.{rule_23, rule_24}
use Rattle.typing_rules.specs.Faults.{Seen}
use Rattle.typed_tree.specs.Scopes.{Setting, State}
use Rattle.typed_tree.specs.Tree as k
use Rattle.typed_tree.specs.Tree.{ExprKind, place_of, attr_of}
use Rattle.upc_checker_scopes.specs.Walk.{Walk, give, andthen, judge, finish, update, look, enclosed, facts_in}
use Rattle.upc_checker_types.specs.Specifiers.{Specified}
use Rattle.upc_checker_expressions.specs.Expressions.{constantly, end_specifiers, to_their_end}
use Rattle.affinity_checker.specs.layer.Rules.{refused, where_true}
use Rattle.upc_checker.specs.code.Lines.{Line, line_of}
use Rattle.upc_checker.specs.code.Lines as l
use Rattle.upc_checker.specs.code.TreeNodes as tree
use Rattle.upc_checker.specs.code.TreeNodes.{TreeNode, node, node_of}
use Rattle.upc_checker.specs.code.Jumps.{is_jump, breaches_at, jump_breaches}

-- The nodes of a walk are these, its jumps break rules so, and P holds of what it makes.
pub record Says {A : Type 0} (P : A → Type 0) (w : Walk A) (xs : List TreeNode) (js : List Refusal) : Type 0 where
  pub nodes : (s : State) → map node_of (w s).seen ≡ xs
  pub jumps : (s : State) → jump_breaches (w s).seen ≡ js
  pub holds : (s : State) → P (w s).value

-- Nothing is said of what it makes.
abbrev pub Any : {A : Type 0} → A → Type 0
Any a = Unit {0}

-- An expression stands there.
abbrev pub Starts : Place → k.Expr → Type 0
Starts place a = place_of a ≡ place

jumps_append : (xs ys : List Seen) → jump_breaches (xs ++ ys) ≡ jump_breaches xs ++ jump_breaches ys
jumps_append [] ys = refl
jumps_append (x ∷ xs) ys =
    let here = if is_jump (line_of x.node) then breaches_at x else [] in
    ap (λ ys. here ++ ys) (jumps_append xs ys) ∙ sym (append_assoc here (jump_breaches xs) (jump_breaches ys))

joined : {A : Type 0} (a b c d : List A) → a ≡ b → c ≡ d → a ++ c ≡ b ++ d
joined a b c d e f = ap (λ x. x ++ c) e ∙ ap (λ y. b ++ y) f

-- One part after another.
pub says_then : {A B : Type 0} {P : A → Type 0} {Q : B → Type 0} {w : Walk A} {go : A → Walk B} {xs ys : List TreeNode} {js ks : List Refusal} →
    Says P w xs js → ((a : A) → P a → Says Q (go a) ys ks) → Says Q (andthen w go) (xs ++ ys) (js ++ ks)
unfolding andthen
says_then {w = w} {go = go} {xs = xs} {ys = ys} {js = js} {ks = ks} h k = record {
  nodes = λ s. let x = w s in let y = go x.value x.state in
      map-append node_of x.seen y.seen ∙ joined _ xs _ ys (h.nodes s) ((k x.value (h.holds s)).nodes x.state);
  jumps = λ s. let x = w s in let y = go x.value x.state in
      jumps_append x.seen y.seen ∙ joined _ js _ ks (h.jumps s) ((k x.value (h.holds s)).jumps x.state);
  holds = λ s. let x = w s in (k x.value (h.holds s)).holds x.state;
}

again : {A : Type 0} {P : A → Type 0} {w : Walk A} {xs ys : List TreeNode} {js ks : List Refusal} → Says P w xs js → xs ≡ ys → js ≡ ks → Says P w ys ks
again h e f = record { nodes = λ s. h.nodes s ∙ e; jumps = λ s. h.jumps s ∙ f; holds = h.holds }

-- The first part has no jumps.
pub says_quiet : {A B : Type 0} {P : A → Type 0} {Q : B → Type 0} {w : Walk A} {go : A → Walk B} {xs ys : List TreeNode} {js : List Refusal} →
    Says P w xs [] → ((a : A) → P a → Says Q (go a) ys js) → Says Q (andthen w go) (xs ++ ys) js
says_quiet h k = says_then h k

-- The last part has no jumps.
pub says_last : {A B : Type 0} {P : A → Type 0} {Q : B → Type 0} {w : Walk A} {go : A → Walk B} {xs ys : List TreeNode} {js : List Refusal} →
    Says P w xs js → ((a : A) → P a → Says Q (go a) ys []) → Says Q (andthen w go) (xs ++ ys) js
says_last {js = js} h k = again (says_then h k) refl (append-nil js)

-- The last part has no nodes.
pub says_end : {A B : Type 0} {P : A → Type 0} {Q : B → Type 0} {w : Walk A} {go : A → Walk B} {xs : List TreeNode} {js : List Refusal} →
    Says P w xs js → ((a : A) → P a → Says Q (go a) [] []) → Says Q (andthen w go) xs js
says_end {xs = xs} {js = js} h k = again (says_then h k) (append-nil xs) (append-nil js)

-- The first part has no nodes.
pub says_behind : {A B : Type 0} {P : A → Type 0} {Q : B → Type 0} {w : Walk A} {go : A → Walk B} {xs : List TreeNode} {js : List Refusal} →
    Says P w [] [] → ((a : A) → P a → Says Q (go a) xs js) → Says Q (andthen w go) xs js
says_behind h k = says_then h k

pub says_give : {A : Type 0} {P : A → Type 0} {a : A} → P a → Says P (give a) [] []
says_give h = record { nodes = λ s. refl; jumps = λ s. refl; holds = λ s. h }

-- What is given is used.
pub says_given : {A B : Type 0} {Q : B → Type 0} {a : A} (go : A → Walk B) {xs : List TreeNode} {js : List Refusal} → Says Q (go a) xs js → Says Q (andthen (give a) go) xs js
unfolding andthen
says_given go h = record { nodes = h.nodes; jumps = h.jumps; holds = h.holds }

-- Something is made of the first part before it is used.
pub says_made : {A B C : Type 0} {P : A → Type 0} {Q : C → Type 0} {w : Walk A} (f : A → B) (go : B → Walk C) {xs ys : List TreeNode} {js : List Refusal} →
    Says P w xs [] → ((a : A) → P a → Says Q (go (f a)) ys js) → Says Q (andthen (andthen w (λ a. give (f a))) go) (xs ++ ys) js
unfolding andthen
says_made {w = w} f go {xs = xs} {ys = ys} {js = js} h k = record {
  nodes = λ s. let x = w s in let y = go (f x.value) x.state in
      ap (λ zs. map node_of (zs ++ y.seen)) (append-nil x.seen) ∙ map-append node_of x.seen y.seen ∙ joined _ xs _ ys (h.nodes s) ((k x.value (h.holds s)).nodes x.state);
  jumps = λ s. let x = w s in let y = go (f x.value) x.state in
      ap (λ zs. jump_breaches (zs ++ y.seen)) (append-nil x.seen) ∙ jumps_append x.seen y.seen ∙ joined _ [] _ js (h.jumps s) ((k x.value (h.holds s)).jumps x.state);
  holds = λ s. let x = w s in (k x.value (h.holds s)).holds x.state;
}

pub says_enclosed : {A : Type 0} {P : A → Type 0} {w : Walk A} {xs : List TreeNode} {js : List Refusal} → Says P w xs js → Says P (enclosed w) xs js
unfolding enclosed
says_enclosed h = record { nodes = h.nodes; jumps = h.jumps; holds = h.holds }

pub says_update : (f : State → State) → Says Any (update f) [] []
unfolding update
says_update f = record { nodes = λ s. refl; jumps = λ s. refl; holds = λ s. tt }

pub says_look : {A : Type 0} (f : State → A) → Says Any (look f) [] []
unfolding look
says_look f = record { nodes = λ s. refl; jumps = λ s. refl; holds = λ s. tt }

-- ---- single nodes

abbrev seen_at : Setting → Place → Node → State → Seen
seen_at ξ at x s = record { at = at; facts = facts_in ξ s; node = x }

alone : (p q : Place) (x : Node) (line : Line) → p ≡ q → line_of x ≡ line → node p (line_of x) ≡ node q line
alone p q x line e f = ap (λ place. node place (line_of x)) e ∙ ap (node q) f

quiet : (x : Seen) (line : Line) → line_of x.node ≡ line → is_jump line ≡ false → jump_breaches (x ∷ []) ≡ []
quiet x line e f = ap (λ z. (if is_jump z then breaches_at x else []) ++ []) e ∙ ap (λ b. (if b then breaches_at x else []) ++ []) f

-- The node of an expression.
pub says_finish : (ξ : Setting) (at : Place) (x : Node) (kind : Facts → ExprKind) {place : Place} {line : Line} → at ≡ place → line_of x ≡ line → is_jump line ≡ false →
    Says (Starts place) (finish ξ at x kind) (node place line) []
unfolding finish
says_finish ξ at x kind {place = place} {line = line} e f h =
    record { nodes = λ s. alone at place x line e f; jumps = λ s. quiet (seen_at ξ at x s) line f h; holds = λ s. e }

pub says_judge : (ξ : Setting) (at : Place) (x : Node) {place : Place} {line : Line} → at ≡ place → line_of x ≡ line → is_jump line ≡ false → Says Any (judge ξ at x) (node place line) []
unfolding judge
says_judge ξ at x {place = place} {line = line} e f h =
    record { nodes = λ s. alone at place x line e f; jumps = λ s. quiet (seen_at ξ at x s) line f h; holds = λ s. tt }

-- A node, and what follows it.
pub judge_then : {B : Type 0} {Q : B → Type 0} (ξ : Setting) (at : Place) (x : Node) {go : Unit {0} → Walk B} {place : Place} {line : Line} {ys : List TreeNode} {js : List Refusal} →
    at ≡ place → line_of x ≡ line → is_jump line ≡ false → ((u : Unit {0}) → Says Q (go u) ys js) → Says Q (andthen (judge ξ at x) go) (record { at = place; line = line } ∷ ys) js
judge_then ξ at x e f h k = says_quiet (says_judge ξ at x e f h) (λ u p. k u)

-- A node, of which something is made.
pub judge_gives : {B : Type 0} {Q : B → Type 0} (ξ : Setting) (at : Place) (x : Node) {go : Unit {0} → Walk B} {place : Place} {line : Line} →
    at ≡ place → line_of x ≡ line → is_jump line ≡ false → ((u : Unit {0}) → Says Q (go u) [] []) → Says Q (andthen (judge ξ at x) go) (node place line) []
judge_gives ξ at x e g h k = judge_then ξ at x e g h k

-- The same of a constant expression.
pub says_constantly : (ξ : Setting) (a : k.Expr) {place : Place} → place_of a ≡ place → Says Any (constantly ξ a) (node place l.Constantly) []
says_constantly ξ a e = judge_gives ξ (place_of a) (n.Constantly (attr_of a)) e refl refl (λ u. says_give tt)

-- Specifiers that end.
says_specifiers : (ξ : Setting) (at : Place) (p : Specified) → Says Any (end_specifiers ξ at p) (node at l.Specifies) []
unfolding end_specifiers
says_specifiers ξ at p = record { nodes = λ s. refl; jumps = λ s. refl; holds = λ s. tt }

pub says_to_their_end : (ξ : Setting) (at : Place) {w : Walk Specified} {xs : List TreeNode} → Says Any w xs [] → Says Any (to_their_end ξ at w) (tree.to_their_end at xs) []
says_to_their_end ξ at h = says_quiet h (λ p i. says_end (says_specifiers ξ at p) (λ u j. says_give tt))

breaches_alone : (x : Seen) (js : List Refusal) → is_jump (line_of x.node) ≡ true → breaches_at x ≡ js → jump_breaches (x ∷ []) ≡ js
breaches_alone x js e f = ap (λ b. (if b then breaches_at x else []) ++ []) e ∙ append-nil (breaches_at x) ∙ f

-- A jump.
pub says_jump : {B : Type 0} (ξ : Setting) (at : Place) (x : Node) (v : B) (js : List Refusal) → is_jump (line_of x) ≡ true →
    where_true (rule_23 x) (refused at 23) ++ where_true (rule_24 x) (refused at 24) ≡ js → Says Any (andthen (judge ξ at x) (λ u. give v)) (node at (line_of x)) js
unfolding andthen judge
says_jump ξ at x v js e f = record { nodes = λ s. refl; jumps = λ s. breaches_alone (seen_at ξ at x s) js e f; holds = λ s. tt }
