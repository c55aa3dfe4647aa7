-- Nodes of statements that are judged last.
use Rattle.std.proofs.Common.{Some, ◌≡◌, ℕ, Option, None, Ok, Err, refl, sym, Box, Global}
use Rattle.upc_text.specs.declared.place.Place.{Place}
use Rattle.upc_text.specs.declared.faults.Stop.{Stop}
use Rattle.typed_tree.specs.declared.tree.Statement.{Statement}
use Rattle.typing_rules.specs.Nodes.{Node, Around}
use Rattle.typing_rules.specs.Rules.{lowest}
use Rattle.typed_tree.specs.Tree as k
use Rattle.typed_tree.specs.ViewStatements.{view_statement}
use Rattle.typed_tree.specs.Scopes.{Setting, State}
use Rattle.upc_checker_scopes.specs.Counts.{counted}
use Rattle.upc_checker_scopes.specs.layer.Ends.{Meets, boxed}
use Rattle.upc_checker_scopes.specs.layer.Finishes.{Refuses}
use Rattle.upc_checker_scopes.specs.Walk.{give, andthen, judge, facts_in}
use Rattle.upc_checker_scopes.proofs.Walks.{stops, goes, judge_goes, judge_stops}
use Rattle.upc_checker_nodes.specs.Judged.{returns, returned_node}

-- What a `return` gives, or that it gives nothing.
pub returns_is : (ξ : Setting) (c : Around) (place : Place) (a : Option k.Expr) → returns ξ c place a ≡ andthen (judge ξ place (returned_node c a)) (λ u. give (k.Stands place (k.Return a)))
returns_is ξ c place None = refl
returns_is ξ c place (Some a) = refl

-- A node that is judged last meets its rules, or the walk stops at it.
pub judges : {B C : Type 0} (view : C → B) (ξ : Setting) (at : Place) (x : Node) (b : B) (s : State) (rule : Option ℕ) (y : C) →
    rule ≡ lowest (facts_in ξ s) x → rule ≡ None → counted ξ at x s ≡ s → view y ≡ b → Meets view (andthen (judge ξ at x) (λ u. give b) s) s (Ok y)
judges view ξ at x b s rule y h n e f =
    goes view (judge ξ at x) (λ u. give b) s (counted ξ at x s) s (tt {0}) (Ok y) (judge_goes ξ at x s rule h n) (record { fine = refl; state = e; value = sym f })

pub refuses : {B C : Type 0} (view : C → B) (ξ : Setting) (at : Place) (x : Node) (b : B) (s : State) (rule : Option ℕ) (e : Stop) →
    rule ≡ lowest (facts_in ξ s) x → Refuses rule at e → Meets view (andthen (judge ξ at x) (λ u. give b) s) s (Err e)
refuses view ξ at x b s rule e h r = stops view (judge ξ at x) (λ u. give b) s s e (judge_stops ξ at x s rule e h r)

-- The node of a `return` that is judged last meets its rules, or the walk stops at it.
pub judges_returned : (ξ : Setting) (c : Around) (place : Place) (a : Option k.Expr) (s : State) (rule : Option ℕ) (y : Box Statement Global) →
    rule ≡ lowest (facts_in ξ s) (returned_node c a) → rule ≡ None → view_statement y.value ≡ k.Stands place (k.Return a) →
    Meets (boxed view_statement) (andthen (judge ξ place (returned_node c a)) (λ u. give (k.Stands place (k.Return a))) s) s (Ok y)
judges_returned ξ c place None s rule y h n f = judges (boxed view_statement) ξ place (returned_node c None) (k.Stands place (k.Return None)) s rule y h n refl f
judges_returned ξ c place (Some a) s rule y h n f = judges (boxed view_statement) ξ place (returned_node c (Some a)) (k.Stands place (k.Return (Some a))) s rule y h n refl f
