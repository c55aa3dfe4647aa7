-- Walks that meet their rules, and where they stop.
use Rattle.std.proofs.Common.{Box, Global, ◌≡◌, ℕ, List, [], ◌∷◌, ◌++◌, Option, Some, None, Result, Ok, Err, refl, sym, ap, ◌∙◌, subst}
use Rattle.upc_text.specs.declared.place.Place.{Place}
use Rattle.upc_text.specs.declared.faults.Stop.{Stop}
use Rattle.upc_text.specs.declared.faults.Stop.TheVariants as stop
use Rattle.typed_tree.specs.Scopes.{Setting, State}
use Rattle.typing_rules.specs.Attributes.{Facts}
use Rattle.typing_rules.specs.Nodes.{Node}
use Rattle.typing_rules.specs.Rules.{lowest}
use Rattle.typing_rules.specs.Faults.{Seen, Fault, fault_by, fault_of, first_fault, or_later}
use Rattle.upc_checker_scopes.specs.Counts.{counted}
use Rattle.upc_checker_scopes.specs.Walk.{Walked, Walk, give, andthen, judge, finish, update, look, enclosed, facts_in}
use Rattle.typed_tree.specs.declared.tree.Expr.{Expr as RustExpr}
use Rattle.typed_tree.specs.Tree.{ExprKind}
use Rattle.typed_tree.specs.ViewTree.{view_expr}
use Rattle.upc_checker_scopes.specs.layer.Finishes.{Refuses, Finishes}
use Rattle.upc_checker_scopes.specs.layer.Ends.{Stops, Comes, Meets, boxed}

or_later_again : (x y z : Option Fault) → or_later (or_later x y) z ≡ or_later x (or_later y z)
or_later_again None y z = refl
or_later_again (Some f) y z = refl

-- The first fault of two parts is that of the first, or else of the second.
pub first_of_two : (xs ys : List Seen) → first_fault (xs ++ ys) ≡ or_later (first_fault xs) (first_fault ys)
first_of_two [] ys = refl
first_of_two (x ∷ xs) ys = rw (first_of_two xs ys) (sym (or_later_again (fault_of x) (first_fault xs) (first_fault ys)))

stops_later : (x y : Option Fault) (e : Stop) → Stops x e → Stops (or_later x y) e
stops_later x y stop.Memory h = tt
stops_later None y (stop.Refused r) h = absurd cc
stops_later (Some f) y (stop.Refused r) h = h

-- Where a walk stops, what comes after it is not walked.
pub stops : {A B C : Type 0} (view : C → B) (w : Walk A) (go : A → Walk B) (s after : State) (e : Stop) → Stops (first_fault (w s).seen) e → Meets view (andthen w go s) after (Err e)
unfolding andthen
stops view w go s after e h = rw (first_of_two (w s).seen (go (w s).value (w s).state).seen) (stops_later (first_fault (w s).seen) (first_fault (go (w s).value (w s).state).seen) e h)

goes_one : {B C : Type 0} (view : C → B) (xs : List Seen) (y : Walked B) (after : State) (r : Result C Stop) → first_fault xs ≡ None → Meets view y after r →
    Meets view (record { seen = xs ++ y.seen; state = y.state; value = y.value }) after r
goes_one view xs y after (Ok x) f h = record { fine = first_of_two xs y.seen ∙ ap (λ o. or_later o (first_fault y.seen)) f ∙ h.fine; state = h.state; value = h.value }
goes_one view xs y after (Err e) f h = rw (first_of_two xs y.seen, f) h

-- Where a walk gives a value, what comes after it decides.
pub goes : {A B C : Type 0} (view : C → B) (w : Walk A) (go : A → Walk B) (s between after : State) (a : A) (r : Result C Stop) →
    Comes (w s) between a → Meets view (go a between) after r → Meets view (andthen w go s) after r
unfolding andthen
goes view w go s between after a r h k = goes_one view (w s).seen (go (w s).value (w s).state) after r h.fine (rw (h.value, h.state) k)

-- A walk that only gives a value ends with it.
pub gives : {A : Type 0} (s : State) (a : A) → Comes (give a s) s a
gives s a = record { fine = refl; state = refl; value = refl }

refuses_stops : (rule : Option ℕ) (at : Place) (e : Stop) → Refuses rule at e → Stops (or_later (fault_by rule at) None) e
refuses_stops rule at stop.Memory h = tt
refuses_stops None at (stop.Refused r) h = absurd h
refuses_stops (Some n) at (stop.Refused r) h = ap Some (sym h)

-- A node that is finished.
pub finished : (ξ : Setting) (at : Place) (x : Node) (kind : Facts → ExprKind) (s : State) (r : Result (Box RustExpr Global) Stop) →
    Finishes (facts_in ξ s) at x (kind (facts_in ξ s)) r → Meets (boxed view_expr) (finish ξ at x kind s) s r
unfolding finish
finished ξ at x kind s (Ok e) h = record { fine = ap (λ o. or_later (fault_by o at) None) h.0; state = refl; value = sym h.1 }
finished ξ at x kind s (Err e) h = refuses_stops (lowest (facts_in ξ s) x) at e h

-- A node that is judged meets its rules, or the walk stops at it.
pub judge_goes : (ξ : Setting) (at : Place) (x : Node) (s : State) (rule : Option ℕ) → rule ≡ lowest (facts_in ξ s) x → rule ≡ None → Comes (judge ξ at x s) (counted ξ at x s) (tt {0})
unfolding judge
judge_goes ξ at x s rule h n = record { fine = ap (λ o. or_later (fault_by o at) None) (sym h ∙ n); state = refl; value = refl }

pub judge_stops : (ξ : Setting) (at : Place) (x : Node) (s : State) (rule : Option ℕ) (e : Stop) → rule ≡ lowest (facts_in ξ s) x → Refuses rule at e → Stops (first_fault (judge ξ at x s).seen) e
unfolding judge
judge_stops ξ at x s rule e h r = refuses_stops (lowest (facts_in ξ s) x) at e (subst (λ o. Refuses o at e) h r)

pub updates : (f : State → State) (s : State) → Comes (update f s) (f s) (tt {0})
unfolding update
updates f s = record { fine = refl; state = refl; value = refl }

pub looks : {A : Type 0} (f : State → A) (s : State) → Comes (look f s) s (f s)
unfolding look
looks f s = record { fine = refl; state = refl; value = refl }

-- After a part its tags are out of scope.
pub encloses : {A C : Type 0} (view : C → A) (w : Walk A) (s after : State) (r : Result C Stop) → Meets view (w s) after r → Meets view (enclosed w s) (record after { tags = s.tags }) r
unfolding enclosed
encloses view w s after (Ok x) h = record { fine = h.fine; state = ap (λ (t : State). let u : State = record t { tags = s.tags } in u) h.state; value = h.value }
encloses view w s after (Err e) h = h

-- Two walks with the same outcome.
pub record Same {A : Type 0} (v w : Walked A) : Type 0 where
  pub fault : first_fault v.seen ≡ first_fault w.seen
  pub state : v.state ≡ w.state
  pub value : v.value ≡ w.value

pub same_refl : {A : Type 0} (w : Walked A) → Same w w
same_refl w = record { fault = refl; state = refl; value = refl }

pub same_trans : {A : Type 0} (u v w : Walked A) → Same u v → Same v w → Same u w
same_trans u v w g h = record { fault = g.fault ∙ h.fault; state = g.state ∙ h.state; value = g.value ∙ h.value }

pub same_meets : {A C : Type 0} (view : C → A) (v w : Walked A) (after : State) (r : Result C Stop) → Same v w → Meets view w after r → Meets view v after r
same_meets view v w after (Ok x) g h = record { fine = g.fault ∙ h.fine; state = g.state ∙ h.state; value = g.value ∙ h.value }
same_meets view v w after (Err e) g h = subst (λ o. Stops o e) (sym g.fault) h

twice : (o : Option Fault) → or_later (or_later o None) None ≡ or_later o None
twice None = refl
twice (Some f) = refl

pub next_fault : (xs ys zs : List Seen) → first_fault xs ≡ None → first_fault ys ≡ first_fault zs → first_fault ((xs ++ (ys ++ [])) ++ []) ≡ first_fault (zs ++ [])
next_fault xs ys zs f e =
    let a = first_of_two (xs ++ (ys ++ [])) [] in
    let b = first_of_two xs (ys ++ []) in
    let c = first_of_two ys [] in
    let d = first_of_two zs [] in
    a ∙ ap (λ o. or_later o None) (b ∙ ap (λ o. or_later o (first_fault (ys ++ []))) f ∙ c) ∙ twice (first_fault ys) ∙ ap (λ o. or_later o None) e ∙ sym d

-- One part of a list is walked: what stands after it decides, with the part in front.
pub next_part : {A L M : Type 0} (w : Walk A) (rest : Walk L) (join : A → L → L) (f : L → M) (s between : State) (a : A) → Comes (w s) between a →
    Same (andthen (andthen w (λ y. andthen rest (λ ys. give (join y ys)))) (λ ys. give (f ys)) s) (andthen rest (λ ys. give (f (join a ys))) between)
unfolding andthen
next_part w rest join f s between a h =
    let x = w s in
    let e : rest x.state ≡ rest between = ap rest h.state in
    record {
      fault = next_fault x.seen (rest x.state).seen (rest between).seen h.fine (ap (λ y. first_fault y.seen) e);
      state = ap (λ y. y.state) e;
      value = rw (h.value, h.state) refl;
    }
