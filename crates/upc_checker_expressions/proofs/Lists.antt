-- Walks over lists, part by part.
use Rattle.std.proofs.Common.{◌≡◌, ℕ, ◌+◌, ◌<◌, ◌≤◌, Bool, true, false, ◌||◌, List, [], ◌∷◌, ◌++◌, map, length, get_or, drop, None, Result, Ok, refl, sym, ap, ◌∙◌, subst, append_assoc}
use Rattle.std.proofs.lemmas.List.{append-nil, at_drop_more, at_drop_all, map-append}
use Rattle.upc_text.specs.declared.faults.Stop.{Stop}
use Rattle.typed_tree.specs.Scopes.{State}
use Rattle.typing_rules.specs.Faults.{Seen, first_fault, or_later}
use Rattle.typed_tree.specs.declared.tree.Expr.{Expr as RustExpr}
use Rattle.typed_tree.specs.Tree as k
use Rattle.typed_tree.specs.Tree.{Expr, Exprs, exprs_of}
use Rattle.typed_tree.specs.ViewTree.{view_expr}
use Rattle.upc_checker_scopes.specs.Walk.{Walked, Walk, give, andthen}
use Rattle.upc_checker_scopes.specs.layer.Ends.{Stops, Comes, Meets}
use Rattle.upc_checker_types.specs.Specifiers.{Quals, no_quals, both_quals, Specified, nothing_specified, both_specified}
use Rattle.upc_checker_scopes.proofs.Walks.{Same, same_trans, same_meets, first_of_two, goes, stops, gives}

-- ---- parts of walks

after_fine : (xs ys : List Seen) → first_fault xs ≡ None → first_fault (xs ++ ys) ≡ first_fault ys
after_fine xs ys h = first_of_two xs ys ∙ ap (λ o. or_later o (first_fault ys)) h

-- After a part that gives a value, what follows it decides.
pub goes_on : {A B : Type 0} (w : Walk A) (go : A → Walk B) (s between : State) (a : A) → Comes (w s) between a → Same (andthen w go s) (go a between)
unfolding andthen
goes_on w go s between a h =
    let x = w s in
    let e : go x.value x.state ≡ go a between = rw (h.value, h.state) refl in
    record {
      fault = after_fine x.seen (go x.value x.state).seen h.fine ∙ ap (λ y. first_fault y.seen) e;
      state = ap (λ y. y.state) e;
      value = ap (λ y. y.value) e;
    }

within_fine : (xs ys zs : List Seen) → first_fault xs ≡ None → first_fault ((xs ++ ys) ++ zs) ≡ first_fault (ys ++ zs)
within_fine xs ys zs h =
    first_of_two (xs ++ ys) zs ∙ ap (λ o. or_later o (first_fault zs)) (after_fine xs ys h) ∙ sym (first_of_two ys zs)

-- The same of a part in front of others, with something after them all.
pub goes_within : {A B C : Type 0} (w : Walk A) (go : A → Walk B) (last : B → Walk C) (s between : State) (a : A) → Comes (w s) between a →
    Same (andthen (andthen w go) last s) (andthen (go a) last between)
unfolding andthen
goes_within w go last s between a h =
    let x = w s in
    let y = go x.value x.state in
    let e : go x.value x.state ≡ go a between = rw (h.value, h.state) refl in
    let f = ap (λ (y : Walked _). last y.value y.state) e in
    record {
      fault = within_fine x.seen y.seen (last y.value y.state).seen h.fine ∙ ap (λ (y : Walked _). first_fault (y.seen ++ (last y.value y.state).seen)) e;
      state = ap (λ z. z.state) f;
      value = ap (λ z. z.value) f;
    }

no_more : (xs : List Seen) → first_fault ((xs ++ []) ++ []) ≡ first_fault (xs ++ [])
no_more xs = ap (λ ys. first_fault (ys ++ [])) (append-nil xs)

-- What is made of the rest may be made of it at once.
pub at_once : {A B C : Type 0} (rest : Walk A) (join : A → B) (f : B → C) (g : A → C) (s : State) → ((a : A) → f (join a) ≡ g a) →
    Same (andthen (andthen rest (λ a. give (join a))) (λ b. give (f b)) s) (andthen rest (λ a. give (g a)) s)
unfolding andthen
at_once rest join f g s h = record { fault = no_more (rest s).seen; state = refl; value = h (rest s).value }

-- What is made of a walk may be what it makes.
pub whole : {A : Type 0} (w : Walk A) (f : A → A) (s : State) → ((a : A) → a ≡ f a) → Same (w s) (andthen w (λ a. give (f a)) s)
unfolding andthen
whole w f s h = record { fault = ap first_fault (sym (append-nil (w s).seen)); state = refl; value = h (w s).value }

pub stops_first : {A B : Type 0} (w : Walk A) (go : A → Walk B) (s : State) (e : Stop) → Stops (first_fault (w s).seen) e → Stops (first_fault (andthen w go s).seen) e
stops_first w go s e h = stops (λ b. b) w go s s e h

-- ---- lists

-- The rest of a list begins with its next part.
next_of : {P L : Type 0} (W : List P → Walk L) (all : List P) (i : ℕ) (p : P) → i < length all → p ≡ get_or all i p → W (drop i all) ≡ W (p ∷ drop (i + 1) all)
next_of W all i p h e = at_drop_more W all i p h ∙ ap (λ q. W (q ∷ drop (i + 1) all)) (sym e)

-- One part more of a list: what is made of the rest is joined with it.
pub one_more : {P L : Type 0} (W : List P → Walk L) (rest : Walk L) (join f g : L → L) (all : List P) (i : ℕ) (p : P) (s between : State) (v : Walked L) →
    i < length all → p ≡ get_or all i p →
    ((last : L → Walk L) → Same (andthen (W (p ∷ drop (i + 1) all)) last s) (andthen (andthen rest (λ ys. give (join ys))) last between)) →
    ((ys : L) → f (join ys) ≡ g ys) → Same v (andthen (W (drop i all)) (λ ys. give (f ys)) s) → Same v (andthen rest (λ ys. give (g ys)) between)
one_more {L = L} W rest join f g all i p s between v h e step k inv =
    let last = λ (ys : L). give (f ys) in
    same_trans _ _ _ (subst (λ z. Same v (andthen z last s)) (next_of W all i p h e) inv) (same_trans _ _ _ (step last) (at_once rest join f g between k))

-- One part more of a list: the rest goes on with what was made.
pub one_step : {P L : Type 0} (W : List P → Walk L) (rest : Walked L) (all : List P) (i : ℕ) (p : P) (s : State) (v : Walked L) →
    i < length all → p ≡ get_or all i p → Same (W (p ∷ drop (i + 1) all) s) rest → Same v (W (drop i all) s) → Same v rest
one_step W rest all i p s v h e step inv = same_trans _ _ _ (subst (λ z. Same v (z s)) (next_of W all i p h e) inv) step

-- The same where the walk stops at that part.
pub joined_stops : {P L C : Type 0} (view : C → L) (W : List P → Walk L) (last : L → Walk L) (all : List P) (i : ℕ) (p : P) (s after : State) (v : Walked L) (r : Result C Stop) →
    i < length all → p ≡ get_or all i p → Same v (andthen (W (drop i all)) last s) → Meets view (andthen (W (p ∷ drop (i + 1) all)) last s) after r → Meets view v after r
joined_stops view W last all i p s after v r h e inv k =
    same_meets view v _ after r (subst (λ z. Same v (andthen z last s)) (next_of W all i p h e) inv) k

pub step_stops : {P L C : Type 0} (view : C → L) (W : List P → Walk L) (all : List P) (i : ℕ) (p : P) (s after : State) (v : Walked L) (r : Result C Stop) →
    i < length all → p ≡ get_or all i p → Same v (W (drop i all) s) → Meets view (W (p ∷ drop (i + 1) all) s) after r → Meets view v after r
step_stops view W all i p s after v r h e inv k = same_meets view v _ after r (subst (λ z. Same v (z s)) (next_of W all i p h e) inv) k

-- The whole list is walked.
pub all_joined : {P L C : Type 0} (view : C → L) (W : List P → Walk L) (f : L → L) (none : L) (all : List P) (i : ℕ) (s : State) (v : Walked L) (x : C) →
    W [] ≡ (λ t. give none t) → length all ≤ i → f none ≡ view x → Same v (andthen (W (drop i all)) (λ ys. give (f ys)) s) → Meets view v s (Ok x)
all_joined {L = L} view W f none all i s v x e h k inv =
    let last = λ (ys : L). give (f ys) in
    let done = subst (λ z. Same v (andthen z last s)) (at_drop_all W all i h ∙ e) inv in
    same_meets view v _ s (Ok x) done (goes view (λ t. give none t) last s s s none (Ok x) (gives s none) (record { fine = refl; state = refl; value = k }))

pub all_stepped : {P L C : Type 0} (view : C → L) (W : List P → Walk L) (a : L) (all : List P) (i : ℕ) (s : State) (v : Walked L) (x : C) →
    W [] ≡ (λ t. give a t) → length all ≤ i → a ≡ view x → Same v (W (drop i all) s) → Meets view v s (Ok x)
all_stepped view W a all i s v x e h k inv =
    let done = subst (λ z. Same v (z s)) (at_drop_all W all i h ∙ e) inv in
    same_meets view v _ s (Ok x) done (record { fine = refl; state = refl; value = k })

-- ---- expressions in a list

-- These in front of others.
abbrev pub front : List Expr → Exprs → Exprs
front [] ys = ys
front (x ∷ xs) ys = k.AndExpr x (front xs ys)

pub front_more : (xs : List Expr) (x : Expr) (ys : Exprs) → front xs (k.AndExpr x ys) ≡ front (xs ++ (x ∷ [])) ys
front_more [] x ys = refl
front_more (z ∷ xs) x ys = ap (k.AndExpr z) (front_more xs x ys)

pub front_pushed : (xs all : List RustExpr) (x : RustExpr) (ys : Exprs) → all ≡ xs ++ (x ∷ []) → front (map view_expr xs) (k.AndExpr (view_expr x) ys) ≡ front (map view_expr all) ys
front_pushed xs all x ys e =
    front_more (map view_expr xs) (view_expr x) ys ∙ ap (λ l. front l ys) (sym (ap (map view_expr) e ∙ map-append view_expr xs (x ∷ [])))

pub front_all : (xs : List Expr) → front xs k.NoExprs ≡ exprs_of xs
front_all [] = refl
front_all (x ∷ xs) = ap (k.AndExpr x) (front_all xs)

-- ---- qualifiers and specifiers

either_again : (a b c : Bool) → a || (b || c) ≡ (a || b) || c
either_again true b c = refl
either_again false b c = refl

either_no : (a : Bool) → a || false ≡ a
either_no true = refl
either_no false = refl

pub quals_again : (p q r : Quals) → both_quals p (both_quals q r) ≡ both_quals (both_quals p q) r
quals_again p q r =
    rw (either_again p.constant q.constant r.constant, either_again p.strict q.strict r.strict, either_again p.relaxed q.relaxed r.relaxed, sym (append_assoc p.layouts q.layouts r.layouts)) refl

pub quals_all : (p : Quals) → both_quals p no_quals ≡ p
quals_all p = rw (either_no p.constant, either_no p.strict, either_no p.relaxed, append-nil p.layouts) refl

pub specified_again : (p q r : Specified) → both_specified p (both_specified q r) ≡ both_specified (both_specified p q) r
specified_again p q r =
    rw (sym (append_assoc p.words q.words r.words), sym (append_assoc p.structs q.structs r.structs), quals_again p.quals q.quals r.quals) refl

pub specified_all : (p : Specified) → both_specified p nothing_specified ≡ p
specified_all p = rw (append-nil p.words, append-nil p.structs, quals_all p.quals) refl

-- ---- what is made, with one more

pub sizes_pushed : {A : Type 0} (xs all : List A) (x : A) (ys : List A) → all ≡ xs ++ (x ∷ []) → xs ++ (x ∷ ys) ≡ all ++ ys
sizes_pushed xs all x ys e = sym (append_assoc xs (x ∷ []) ys) ∙ ap (λ l. l ++ ys) (sym e)

pub quals_added : (p q r all : Quals) → all ≡ both_quals p q → both_quals p (both_quals q r) ≡ both_quals all r
quals_added p q r all e = quals_again p q r ∙ ap (λ x. both_quals x r) (sym e)

pub specified_added : (p q r all : Specified) → all ≡ both_specified p q → both_specified p (both_specified q r) ≡ both_specified all r
specified_added p q r all e = specified_again p q r ∙ ap (λ x. both_specified x r) (sym e)
