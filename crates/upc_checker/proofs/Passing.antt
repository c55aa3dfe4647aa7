-- Walks of which every node meets its rules, and what they make.
use Rattle.std.proofs.Common.{◌≡◌, ℕ, Bool, true, false, ◌||◌, List, [], ◌∷◌, ◌++◌, length, Option, Some, None, refl, sym, ◌∙◌, ◌⊎◌, inl, inr}
use Rattle.std.proofs.Math.IntN.{pos}
use Rattle.std.proofs.lemmas.Bool.{or_parts}
use Rattle.upc_text.specs.declared.place.Place.{Place}
use Rattle.integers.specs.Integers.{InKind}
use Rattle.upc_types.specs.Types.{Completed, Member}
use Rattle.typing_rules.specs.Attributes.{Facts, attr}
use Rattle.typing_rules.specs.Meanings.{Signature}
use Rattle.typing_rules.specs.Nodes as n
use Rattle.typing_rules.specs.Nodes.{Node}
use Rattle.typing_rules.specs.Rules.{lowest}
use Rattle.typing_rules.specs.Faults.{Seen, Fault, fault_by, first_fault, or_later}
use Rattle.typed_tree.specs.Scopes.{Setting, Env, State, KnownFunction, differs, level_of, with_tag, here, is_object, is_taken}
use Rattle.typed_tree.specs.Tree.{Expr, Is, ExprKind}
use Rattle.upc_checker_scopes.specs.Counts.{counted}
use Rattle.upc_checker_scopes.specs.Walk.{Walk, give, andthen, judge, finish, update, look, enclosed, facts_in}
use Rattle.upc_checker_scopes.specs.Known.{tag_seen, unless_found, refer, open_struct, close_struct, is_complete_struct, members_size}
use Rattle.upc_checker_scopes.proofs.Walks.{first_of_two}
use Rattle.upc_checker_types.specs.Specifiers.{Specified}
use Rattle.upc_checker_expressions.specs.Expressions.{end_specifiers, to_their_end}
use Rattle.upc_checker_declarations.specs.Declarations.{declares_function}
use Rattle.typed_tree.specs.layer.Judged.{Earlier, Before}

-- ---- functions that are known

-- The functions known at a place, where `all` are known at the end: each later one has the types of those of its name
-- before it.
pub data Since (all : List KnownFunction) : List KnownFunction → Type 0 where
  Now : Since all all
  Sooner : (f : KnownFunction) (older : List KnownFunction) → differs f.name f.signature older ≡ false → Since all (f ∷ older) → Since all older

-- A function was declared so.
abbrev pub Among : ℕ → Signature → List KnownFunction → Type 0
Among name s [] = ⊥
Among name s (f ∷ fs) = ((f.name ≡ name) × (f.signature ≡ s)) ⊎ Among name s fs

-- Each has the types of those of its name before it.
abbrev pub Agree : List KnownFunction → Type 0
Agree [] = Unit {0}
Agree (f ∷ fs) = (differs f.name f.signature fs ≡ false) × Agree fs

pub among_since : {all older : List KnownFunction} (name : ℕ) (s : Signature) → Since all older → Among name s older → Among name s all
among_since name s Now h = h
among_since name s (Sooner f older d k) h = among_since name s k (inr h)

pub agree_since : {all older : List KnownFunction} → Since all older → Agree older → Agree all
agree_since Now h = h
agree_since (Sooner f older d k) h = agree_since k (d, h)

-- ---- what is known after a walk

-- What is known at a place, where these structs and functions are known at the end.
pub record Ends (cs : List Completed) (fs : List KnownFunction) (s : State) : Type 0 where
  pub structs : Earlier cs s.structs.completed
  pub functions : Since fs s.functions

-- A number is in the range of its kind.
abbrev pub NodeFits : Node → Type 0
NodeFits (n.Number kind value) = InKind (pos value) kind
NodeFits x = Unit {0}

abbrev pub SeenFit : List Seen → Type 0
SeenFit [] = Unit {0}
SeenFit (x ∷ xs) = NodeFits x.node × SeenFit xs

-- Every node meets its rules, and every number is in the range of its kind.
abbrev pub Fine : List Seen → Type 0
Fine xs = (first_fault xs ≡ None) × SeenFit xs

-- Where the nodes of a walk are so, what it makes is so.
pub record Good {A : Type 0} (cs : List Completed) (fs : List KnownFunction) (w : Walk A) (P : A → Type 0) : Type 0 where
  pub made : (s : State) → Fine (w s).seen → Ends cs fs (w s).state → Ends cs fs s × P (w s).value

none_of : (x y : Option Fault) → or_later x y ≡ None → (x ≡ None) × (y ≡ None)
none_of None y h = (refl, h)
none_of (Some f) y h = absurd cc

seen_both : (xs ys : List Seen) → SeenFit (xs ++ ys) → SeenFit xs × SeenFit ys
seen_both [] ys h = (tt {0}, h)
seen_both (x ∷ xs) ys h = let r = seen_both xs ys h.1 in ((h.0, r.0), r.1)

pub fine_both : (xs ys : List Seen) → Fine (xs ++ ys) → Fine xs × Fine ys
fine_both xs ys h =
    let f = none_of (first_fault xs) (first_fault ys) (sym (first_of_two xs ys) ∙ h.0) in
    let g = seen_both xs ys h.1 in
    ((f.0, g.0), (f.1, g.1))

pub none_at : (o : Option ℕ) (at : Place) → or_later (fault_by o at) None ≡ None → o ≡ None
none_at None at h = refl
none_at (Some r) at h = absurd cc

first_time : (φ : Facts) (again : Bool) (members bytes : ℕ) → lowest φ (n.Struct again members bytes) ≡ None → again ≡ false
first_time φ true members bytes h = absurd cc
first_time φ false members bytes h = refl

not_again : (φ : Facts) (again forms : Bool) (signature : Signature) → lowest φ (n.DeclaresFunction again forms signature) ≡ None → again ≡ false
not_again φ true forms signature h = absurd cc
not_again φ false forms signature h = refl

module _ {cs : List Completed} {fs : List KnownFunction} where
  pub good_then : {A B : Type 0} {w : Walk A} {go : A → Walk B} {P : A → Type 0} {Q : B → Type 0} →
      Good cs fs w P → ((a : A) → Good cs fs (go a) (λ b. P a → Q b)) → Good cs fs (andthen w go) Q
  unfolding andthen
  good_then {w = w} {go = go} h k = record {
    made = λ s fine ends.
        let f = fine_both (w s).seen (go (w s).value (w s).state).seen fine in
        let q = (k (w s).value).made (w s).state f.1 ends in
        let p = h.made s f.0 q.0 in
        (p.0, q.1 p.1);
  }

  -- Where nothing is said of what comes out.
  pub any_then : {A B : Type 0} {w : Walk A} {go : A → Walk B} {P : A → Type 0} →
      Good cs fs w P → ((a : A) → Good cs fs (go a) (λ b. Unit {0})) → Good cs fs (andthen w go) (λ b. Unit {0})
  unfolding andthen
  any_then {w = w} {go = go} h k = record {
    made = λ s fine ends.
        let f = fine_both (w s).seen (go (w s).value (w s).state).seen fine in
        let q = (k (w s).value).made (w s).state f.1 ends in
        let p = h.made s f.0 q.0 in
        (p.0, tt {0});
  }

  pub good_give : {A : Type 0} {P : A → Type 0} (a : A) → P a → Good cs fs (give a) P
  good_give a h = record { made = λ s fine ends. (ends, h) }

  pub any_give : {A : Type 0} (a : A) → Good cs fs (give a) (λ b. Unit {0})
  any_give a = record { made = λ s fine ends. (ends, tt {0}) }

  pub good_judge : {P : Unit {0} → Type 0} (ξ : Setting) (at : Place) (x : Node) → ((s : State) → Ends cs fs (counted ξ at x s) → Ends cs fs s) →
      ((s : State) → Ends cs fs s → lowest (facts_in ξ s) x ≡ None → P (tt {0})) → Good cs fs (judge ξ at x) P
  unfolding judge
  good_judge ξ at x k h = record {
    made = λ s fine ends. let e = k s ends in (e, h s e (none_at (lowest (facts_in ξ s) x) at fine.0));
  }

  pub any_judge : (ξ : Setting) (at : Place) (x : Node) → ((s : State) → Ends cs fs (counted ξ at x s) → Ends cs fs s) → Good cs fs (judge ξ at x) (λ u. Unit {0})
  any_judge ξ at x k = good_judge ξ at x k (λ s e h. tt {0})

  any_specifiers : (ξ : Setting) (at : Place) (p : Specified) → Good cs fs (end_specifiers ξ at p) (λ u. Unit {0})
  unfolding end_specifiers
  any_specifiers ξ at p = record { made = λ s fine ends. (ends, tt {0}) }

  pub any_to_their_end : (ξ : Setting) (at : Place) {w : Walk Specified} → Good cs fs w (λ p. Unit {0}) → Good cs fs (to_their_end ξ at w) (λ p. Unit {0})
  any_to_their_end ξ at h = any_then h (λ p. any_then (any_specifiers ξ at p) (λ u. any_give p))

  -- A node that meets its rules and whose number is in range.
  pub good_number : {P : Expr → Type 0} (ξ : Setting) (at : Place) (x : Node) (kind : Facts → ExprKind) →
      ((s : State) → Ends cs fs s → lowest (facts_in ξ s) x ≡ None → NodeFits x → P (Is at (attr (facts_in ξ s) x) (kind (facts_in ξ s)))) → Good cs fs (finish ξ at x kind) P
  unfolding finish
  good_number ξ at x kind h = record { made = λ s fine ends. (ends, h s ends (none_at (lowest (facts_in ξ s) x) at fine.0) fine.1.0) }

  pub good_finish : {P : Expr → Type 0} (ξ : Setting) (at : Place) (x : Node) (kind : Facts → ExprKind) →
      ((s : State) → Ends cs fs s → lowest (facts_in ξ s) x ≡ None → P (Is at (attr (facts_in ξ s) x) (kind (facts_in ξ s)))) → Good cs fs (finish ξ at x kind) P
  good_finish ξ at x kind h = good_number ξ at x kind (λ s e i f. h s e i)

  pub good_enclosed : {A : Type 0} {w : Walk A} {P : A → Type 0} → Good cs fs w P → Good cs fs (enclosed w) P
  unfolding enclosed
  good_enclosed {w = w} h = record {
    made = λ s fine ends. let e : Ends cs fs (w s).state = record { structs = ends.structs; functions = ends.functions } in h.made s fine e;
  }

  pub good_look : {A : Type 0} {P : A → Type 0} (f : State → A) → ((s : State) → P (f s)) → Good cs fs (look f) P
  unfolding look
  good_look f h = record { made = λ s fine ends. (ends, h s) }

  pub any_of : {A : Type 0} {w : Walk A} {P : A → Type 0} → Good cs fs w P → Good cs fs w (λ a. Unit {0})
  any_of h = record { made = λ s fine ends. ((h.made s fine ends).0, tt {0}) }

  -- ---- tags and structs

  by_tag : (Γ : Env) (name : ℕ) (s : State) (o : Option ℕ) → Ends cs fs (unless_found o (with_tag name (level_of Γ)) s) → Ends cs fs s
  by_tag Γ name s None e = record { structs = e.structs; functions = e.functions }
  by_tag Γ name s (Some number) e = e

  pub good_refer : (alone : Bool) (Γ : Env) (name : ℕ) → Good cs fs (refer alone Γ name) (λ number. Unit {0})
  good_refer alone Γ name = record { made = λ s fine ends. (by_tag Γ name s (tag_seen alone Γ name s) ends, tt {0}) }

  pub good_open : (Γ : Env) (name : ℕ) → Good cs fs (open_struct Γ name) (λ number. Unit {0})
  good_open Γ name = good_refer true Γ name

  pub good_close : (ξ : Setting) (at : Place) (number : ℕ) (members : List Member) → Good cs fs (close_struct ξ at number members) (λ u. Unit {0})
  unfolding andthen judge look update
  good_close ξ at number members = record {
    made = λ s fine ends.
        let h = none_at (lowest (facts_in ξ s) (n.Struct (is_complete_struct s number) (length members) (members_size s members))) at fine.0 in
        let fresh = first_time (facts_in ξ s) (is_complete_struct s number) (length members) (members_size s members) h in
        let x : Completed = record { number = number; members = members } in
        let e : Ends cs fs s = record { structs = Before x s.structs.completed fresh ends.structs; functions = ends.functions } in
        (e, tt {0});
  }

  -- ---- functions

  pub good_declares : (ξ : Setting) (Γ : Env) (at : Place) (name : ℕ) (forms : Bool) (signature : Signature) →
      Good cs fs (declares_function ξ Γ at name forms signature) (λ u. Among name signature fs)
  unfolding andthen judge look update
  good_declares ξ Γ at name forms signature = record {
    made = λ s fine ends.
        let again = is_taken ξ name || (is_object (here name Γ) || differs name signature s.functions) in
        let h = none_at (lowest (facts_in ξ s) (n.DeclaresFunction again forms signature)) at fine.0 in
        let b = not_again (facts_in ξ s) again forms signature h in
        let c = or_parts (is_taken ξ name) (is_object (here name Γ) || differs name signature s.functions) b in
        let d = or_parts (is_object (here name Γ)) (differs name signature s.functions) c.1 in
        let f : KnownFunction = record { name = name; signature = signature; is_defined = false } in
        let e : Ends cs fs s = record { structs = ends.structs; functions = Sooner f s.functions d.1 ends.functions } in
        (e, among_since name signature ends.functions (inl (refl, refl)));
  }

  -- So is what follows from it.
  pub good_weaken : {A : Type 0} {w : Walk A} {P Q : A → Type 0} → Good cs fs w P → ((a : A) → P a → Q a) → Good cs fs w Q
  good_weaken {w = w} h k = record { made = λ s fine ends. let p = h.made s fine ends in (p.0, k (w s).value p.1) }
