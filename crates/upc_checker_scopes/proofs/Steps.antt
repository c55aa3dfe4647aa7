-- One part of a walk after the other, as answers cite them.
use Rattle.std.proofs.Common.{Box, Global, ◌≡◌, [], Result, Ok, Err, IsErrAnd, refl, sym, subst}
use Rattle.upc_text.specs.declared.place.Place.{Place}
use Rattle.upc_text.specs.declared.faults.Stop.{Stop}
use Rattle.upc_text.specs.declared.faults.Stop.TheVariants as stop
use Rattle.typed_tree.specs.declared.tree.Expr.{Expr as RustExpr}
use Rattle.typed_tree.specs.Scopes.{Setting, State}
use Rattle.typing_rules.specs.Attributes.{Facts}
use Rattle.typing_rules.specs.Nodes.{Node}
use Rattle.typed_tree.specs.Tree.{ExprKind}
use Rattle.typed_tree.specs.ViewTree.{view_expr}
use Rattle.typing_rules.specs.Faults.{first_fault}
use Rattle.upc_checker_scopes.specs.Walk.{Walked, Walk, andthen, finish, facts_in}
use Rattle.upc_checker_scopes.specs.layer.Finishes.{Finishes}
use Rattle.upc_checker_scopes.specs.layer.Ends.{Stops, Comes, Meets, boxed}
use Rattle.upc_checker_scopes.proofs.Walks.{Same, same_meets, goes, stops, finished}

-- `Meets`, under a name that does not compute.
pub record Reaches {A B : Type 0} (view : B → A) (w : Walked A) (s : State) (r : Result B Stop) : Type 0 where
  pub met : Meets view w s r

-- A part gives a value, and this follows it.
pub next : {A B C : Type 0} {view : C → B} (w : Walk A) (go : A → Walk B) {s between after : State} {a : A} {r : Result C Stop} →
    Comes (w s) between a → Reaches view (go a between) after r → Reaches view (andthen w go s) after r
next w go h k = record { met = goes _ _ _ _ _ _ _ _ h k.met }

err_stops : {A B C : Type 0} (view : C → B) (w : Walk A) (go : A → Walk B) (s after : State) (e : Stop) (r : Result C Stop) →
    IsErrAnd r (λ y. y ≡ e) → Stops (first_fault (w s).seen) e → Meets view (andthen w go s) after r
err_stops view w go s after e (Ok x) h k = absurd h
err_stops view w go s after e (Err y) h k = stops view w go s after y (subst (λ z. Stops (first_fault (w s).seen) z) (sym h) k)

-- A part stops, and `?` returns that.
pub stopped : {A B C : Type 0} {view : C → B} (w : Walk A) (go : A → Walk B) (s : State) {after : State} {r : Result C Stop} (e : Stop) →
    IsErrAnd r (λ y. y ≡ e) → Stops (first_fault (w s).seen) e → Reaches view (andthen w go s) after r
stopped {view = view} w go s {after = after} {r = r} e h k = record { met = err_stops view w go s after e r h k }

err_memory : {B C : Type 0} (view : C → B) (w : Walked B) (after : State) (r : Result C Stop) → IsErrAnd r (λ y. y ≡ stop.Memory) → Meets view w after r
err_memory view w after (Ok x) h = absurd h
err_memory view w after (Err y) h = subst (λ z. Stops (first_fault w.seen) z) (sym h) tt

-- Memory runs out, and `?` returns that.
pub no_memory : {B C : Type 0} {view : C → B} {w : Walked B} {after : State} {r : Result C Stop} → IsErrAnd r (λ y. y ≡ stop.Memory) → Reaches view w after r
no_memory {view = view} {w = w} {after = after} {r = r} h = record { met = err_memory view w after r h }

-- The walk over what has this form.
pub of_form : {T A C : Type 0} (go : T → Walk A) (view : C → A) (x y : T) (s after : State) (r : Result C Stop) → x ≡ y → Reaches view (go y s) after r → Meets view (go x s) after r
of_form go view x y s after r e h = subst (λ z. Meets view (go z s) after r) (sym e) h.met

-- A walk with the same outcome.
pub through : {A C : Type 0} {view : C → A} {v w : Walked A} {after : State} {r : Result C Stop} → Same v w → Reaches view w after r → Reaches view v after r
through g h = record { met = same_meets _ _ _ _ _ g h.met }

-- What is known at the end of a walk.
pub given : {A C : Type 0} {view : C → A} {s : State} {a : A} {x : C} → a ≡ view x → Reaches view (record { seen = []; state = s; value = a }) s (Ok x)
given e = record { met = record { fine = refl; state = refl; value = e } }

-- The node of an expression is finished.
pub ends : (ξ : Setting) (at : Place) (x : Node) (kind : Facts → ExprKind) (s : State) {r : Result (Box RustExpr Global) Stop} →
    Finishes (facts_in ξ s) at x (kind (facts_in ξ s)) r → Reaches (boxed view_expr) (finish ξ at x kind s) s r
ends ξ at x kind s {r = r} h = record { met = finished ξ at x kind s r h }

-- All parts give a value.
pub comes : {A : Type 0} {w : Walked A} {s : State} {a : A} → Reaches (λ (x : A). x) w s (Ok a) → Comes w s a
comes h = h.met

-- The same part under another name of what it goes over.
pub moved : {X A : Type 0} (go : X → Walk A) (x y : X) (s s1 : State) (a : A) → x ≡ y → Comes (go x s) s1 a → Comes (go y s) s1 a
moved go x y s s1 a e h = subst (λ z. Comes (go z s) s1 a) e h

pub moved_stop : {X A : Type 0} (go : X → Walk A) (x y : X) (s : State) (e : Stop) → x ≡ y → Stops (first_fault (go x s).seen) e → Stops (first_fault (go y s).seen) e
moved_stop go x y s e f h = subst (λ z. Stops (first_fault (go z s).seen) e) f h

-- What has given a value has reached it.
pub arrives : {A C : Type 0} {view : C → A} {w : Walked A} {s : State} {a : A} {x : C} → Comes w s a → a ≡ view x → Reaches view w s (Ok x)
arrives {view = view} {w = w} {s = s} h e = record { met = subst (λ b. Comes w s b) e h }
