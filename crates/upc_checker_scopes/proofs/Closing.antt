-- Structs that are referred to and completed.
use Rattle.std.proofs.Common.{◌≡◌, ℕ, ◌<◌, ◌≤◌, nat_eq, nat_lt, Bool, false, ◌||◌, List, length, Option, Some, None, is_some, Result, Ok, Err, refl, ap, ◌∙◌, ltb-false, arith}
use Rattle.std.proofs.lemmas.Bool.{eqb-false}
use Rattle.upc_text.specs.declared.place.Place.{Place}
use Rattle.upc_text.specs.declared.faults.Stop.{Stop}
use Rattle.upc_types.specs.Types.{Member}
use Rattle.upc_types.specs.Layout.{most_bytes}
use Rattle.typing_rules.specs.Attributes.{Facts}
use Rattle.typing_rules.specs.Nodes.{Node, Struct}
use Rattle.typing_rules.specs.Rules.{lowest, or_above}
use Rattle.typed_tree.specs.Scopes.{Setting, Env, level_of, State, with_tag, with_members}
use Rattle.upc_checker_scopes.specs.Walk.{judge, look, facts_in}
use Rattle.upc_checker_scopes.specs.layer.Finishes.{Refuses}
use Rattle.upc_checker_scopes.specs.layer.Ends.{Comes, Meets}
use Rattle.upc_checker_scopes.specs.Known.{tag_seen, tag_number, unless_found, refer, is_complete_struct, members_size, close_struct}
use Rattle.upc_checker_scopes.proofs.Walks.{goes, stops, looks, updates, judge_goes, judge_stops}

-- ---- a struct that is referred to

pub refers : (alone : Bool) (Γ : Env) (name : ℕ) (s : State) (number : ℕ) → tag_seen alone Γ name s ≡ Some number → Comes (refer alone Γ name s) s number
refers alone Γ name s number h =
    record { fine = refl; state = ap (λ o. unless_found o (with_tag name (level_of Γ)) s) h; value = ap (λ o. tag_number o s) h }

pub refers_anew : (alone : Bool) (Γ : Env) (name : ℕ) (s : State) → tag_seen alone Γ name s ≡ None → Comes (refer alone Γ name s) (with_tag name (level_of Γ) s) s.structs.declared
refers_anew alone Γ name s h =
    record { fine = refl; state = ap (λ o. unless_found o (with_tag name (level_of Γ)) s) h; value = ap (λ o. tag_number o s) h }

-- ---- a struct that is completed

three : (a b c : Bool) → or_above 2 a (or_above 6 b (or_above 8 c None)) ≡ None → (a ≡ false) × (b ≡ false) × (c ≡ false)
three false false false h = (refl, refl, refl)
three a b c h = absurd cc

pub record IsNewStruct (again : Bool) (members bytes : ℕ) : Type 0 where
  pub new : again ≡ false
  pub few : bytes ≤ most_bytes
  pub some : 0 < members

-- What a struct is that meets its rules.
pub new_struct : (φ : Facts) (again : Bool) (members bytes : ℕ) → lowest φ (Struct again members bytes) ≡ None → IsNewStruct again members bytes
new_struct φ again members bytes h =
    let p = three again (nat_lt most_bytes bytes) (nat_eq members 0) h in
    let few = ltb-false most_bytes bytes p.1 in
    let some = eqb-false members 0 p.2 in
    record { new = p.0; few = omega arith; some = omega arith }

abbrev pub struct_node : State → ℕ → List Member → Node
struct_node s number ms = Struct (is_complete_struct s number) (length ms) (members_size s ms)

-- The rule that is answered is that of the node.
pub same_rule : (φ : Facts) (s : State) (number : ℕ) (ms : List Member) (again : Bool) (members bytes : ℕ) (rule : Option ℕ) → rule ≡ lowest φ (Struct again members bytes) →
    again ≡ is_complete_struct s number → members ≡ length ms → bytes ≡ members_size s ms → rule ≡ lowest φ (struct_node s number ms)
same_rule φ s number ms again members bytes rule h e f g =
    h ∙ ap (λ b. lowest φ (Struct b members bytes)) e ∙ ap (λ n. lowest φ (Struct (is_complete_struct s number) n bytes)) f ∙ ap (λ n. lowest φ (Struct (is_complete_struct s number) (length ms) n)) g

pub closes : (ξ : Setting) (place : Place) (number : ℕ) (ms : List Member) (s : State) (rule : Option ℕ) → rule ≡ lowest (facts_in ξ s) (struct_node s number ms) → rule ≡ None →
    Comes (close_struct ξ place number ms s) (with_members number ms s) (tt {0})
closes ξ place number ms s rule e n =
    let view = λ (u : Unit {0}). u in
    let done : Result (Unit {0}) Stop = Ok (tt {0}) in
    goes view (look (λ s. s)) _ s s (with_members number ms s) s done (looks (λ s. s) s)
    (goes view (judge ξ place (struct_node s number ms)) _ s s (with_members number ms s) (tt {0}) done (judge_goes ξ place (struct_node s number ms) s rule e n)
    (updates (with_members number ms) s))

pub stops_closing : (ξ : Setting) (place : Place) (number : ℕ) (ms : List Member) (s after : State) (rule : Option ℕ) (e : Stop) → rule ≡ lowest (facts_in ξ s) (struct_node s number ms) → Refuses rule place e →
    Meets {A = Unit {0}} {B = Unit {0}} (λ u. tt {0}) (close_struct ξ place number ms s) after (Err e)
stops_closing ξ place number ms s after rule e h r =
    let view = λ (u : Unit {0}). u in
    goes view (look (λ s. s)) _ s s after s (Err e) (looks (λ s. s) s) (stops view (judge ξ place (struct_node s number ms)) _ s after e (judge_stops ξ place (struct_node s number ms) s rule e h r))

pub none_some : {A : Type 0} (o : Option A) → is_some o ≡ false → o ≡ None
none_some None h = refl
none_some (Some x) h = absurd cc

-- ---- tests, one after the other

pub third : (a b c r : Bool) → a ≡ false → b ≡ false → r ≡ c → r ≡ (a || (b || c))
third false false c r e f h = h
third a b c r e f h = absurd cc
