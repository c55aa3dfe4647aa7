-- What walks make of which every node meets its rules.
use Rattle.std.proofs.Common.{◌≡◌, ℕ, nat_lt, nat_eq, Bool, false, List, ◌++◌, length, Option, Some, None, refl}
use Rattle.std.proofs.Common.{sym, ◌∙◌, subst}
use Rattle.upc_text.specs.declared.place.Place.{Place}
use Rattle.upc_values.specs.Lists.{Each}
use Rattle.upc_types.specs.Types.{Completed, Member}
use Rattle.upc_types.specs.Layout.{most_bytes}
use Rattle.typing_rules.specs.Attributes.{Facts, attr}
use Rattle.typing_rules.specs.Nodes as n
use Rattle.typing_rules.specs.Nodes.{Node}
use Rattle.typing_rules.specs.Rules as rules
use Rattle.typing_rules.specs.Rules.{lowest, table, rule_2, rule_6, rule_8}
use Rattle.typing_rules.specs.Faults.{Seen, Fault, first_fault, or_later}
use Rattle.typed_tree.specs.Scopes.{Setting, Env, State, with_tag, level_of}
use Rattle.typed_tree.specs.Tree.{Expr, Is, ExprKind}
use Rattle.typed_tree.specs.layer.Judged.{Earlier, Before}
use Rattle.upc_checker_scopes.specs.Counts.{counted}
use Rattle.upc_checker_scopes.specs.Walk.{Walk, give, andthen, judge, finish, update, look, enclosed, facts_in}
use Rattle.upc_checker_scopes.specs.Known.{tag_seen, unless_found, refer, close_struct}
use Rattle.upc_checker_scopes.specs.Known.{is_complete_struct, members_size}
use Rattle.upc_checker_scopes.proofs.Walks.{first_of_two}
use Rattle.upc_checker_types.specs.Specifiers.{Specified}
use Rattle.upc_checker_expressions.specs.Expressions.{end_specifiers, to_their_end}
use Rattle.upc_checker.proofs.Passing.{none_at}
use Rattle.meaning_laws.proofs.Rules.{unbroken}
use Rattle.meaning_laws_accepted.proofs.Structs.{IsMember, AreFormedStructs}

-- Where every node of a walk meets its rules, and these structs are complete at the end of the source, those before the
-- walk are among them; and where the structs before it are formed, so are those after it and what the walk makes.
pub record Keeps {A : Type 0} (cs : List Completed) (w : Walk A) (P : A → Type 0) : Type 0 where
  pub before : (s : State) → first_fault (w s).seen ≡ None → Earlier cs (w s).state.structs.completed
      → Earlier cs s.structs.completed
  pub made : (s : State) → first_fault (w s).seen ≡ None → Earlier cs (w s).state.structs.completed
      → AreFormedStructs s.structs.completed → AreFormedStructs (w s).state.structs.completed × P (w s).value

none_of : (x y : Option Fault) → or_later x y ≡ None → (x ≡ None) × (y ≡ None)
none_of None y h = (refl, h)
none_of (Some f) y h = absurd cc

both_fine : (xs ys : List Seen) → first_fault (xs ++ ys) ≡ None → (first_fault xs ≡ None) × (first_fault ys ≡ None)
both_fine xs ys h = none_of (first_fault xs) (first_fault ys) (sym (first_of_two xs ys) ∙ h)

by_tag : (Γ : Env) (name : ℕ) (s : State) (o : Option ℕ)
    → (unless_found o (with_tag name (level_of Γ)) s).structs.completed ≡ s.structs.completed
by_tag Γ name s None = refl
by_tag Γ name s (Some number) = refl

module _ {cs : List Completed} where
  pub keeps_then : {A B : Type 0} {w : Walk A} {go : A → Walk B} {P : A → Type 0} {Q : B → Type 0} → Keeps cs w P
      → ((a : A) → Keeps cs (go a) (λ b. P a → Q b)) → Keeps cs (andthen w go) Q
  unfolding andthen
  keeps_then {w = w} {go = go} h k = record {
    before = λ s fine e.
        let f = both_fine (w s).seen (go (w s).value (w s).state).seen fine in
        h.before s f.0 ((k (w s).value).before (w s).state f.1 e);
    made = λ s fine e i.
        let f = both_fine (w s).seen (go (w s).value (w s).state).seen fine in
        let p = h.made s f.0 ((k (w s).value).before (w s).state f.1 e) i in
        let q = (k (w s).value).made (w s).state f.1 e p.0 in
        (q.0, q.1 p.1);
  }

  pub keeps_give : {A : Type 0} {P : A → Type 0} (a : A) → P a → Keeps cs (give a) P
  keeps_give a h = record { before = λ s fine e. e; made = λ s fine e i. (i, h) }

  pub keeps_weaken : {A : Type 0} {w : Walk A} {P Q : A → Type 0} → Keeps cs w P → ((a : A) → P a → Q a) → Keeps cs w Q
  keeps_weaken {w = w} h k = record {
    before = h.before;
    made = λ s fine e i. let p = h.made s fine e i in (p.0, k (w s).value p.1);
  }

  pub keeps_judge : {P : Unit {0} → Type 0} (ξ : Setting) (at : Place) (x : Node)
      → ((s : State) → (counted ξ at x s).structs ≡ s.structs)
      → ((s : State) → Earlier cs s.structs.completed → AreFormedStructs s.structs.completed
      → lowest (facts_in ξ s) x ≡ None → P tt) → Keeps cs (judge ξ at x) P
  unfolding judge
  keeps_judge ξ at x same h = record {
    before = λ s fine e. subst (λ σ. Earlier cs σ.completed) (same s) e;
    made = λ s fine e i. (
      subst (λ σ. AreFormedStructs σ.completed) (sym (same s)) i,
      h s (subst (λ σ. Earlier cs σ.completed) (same s) e) i (none_at (lowest (facts_in ξ s) x) at fine),
    );
  }

  -- Nothing is said of what is made.
  pub any_judge : (ξ : Setting) (at : Place) (x : Node) → ((s : State) → (counted ξ at x s).structs ≡ s.structs)
      → Keeps cs (judge ξ at x) (λ u. Unit {0})
  any_judge ξ at x same = keeps_judge ξ at x same (λ s e i h. tt)

  pub keeps_finish : {P : Expr → Type 0} (ξ : Setting) (at : Place) (x : Node) (kind : Facts → ExprKind)
      → ((s : State) → Earlier cs s.structs.completed → AreFormedStructs s.structs.completed
      → lowest (facts_in ξ s) x ≡ None → P (Is at (attr (facts_in ξ s) x) (kind (facts_in ξ s))))
      → Keeps cs (finish ξ at x kind) P
  unfolding finish
  keeps_finish ξ at x kind h = record {
    before = λ s fine e. e;
    made = λ s fine e i. (i, h s e i (none_at (lowest (facts_in ξ s) x) at fine));
  }

  pub keeps_enclosed : {A : Type 0} {w : Walk A} {P : A → Type 0} → Keeps cs w P → Keeps cs (enclosed w) P
  unfolding enclosed
  keeps_enclosed h = record { before = λ s fine e. h.before s fine e; made = λ s fine e i. h.made s fine e i }

  pub keeps_look : {A : Type 0} {P : A → Type 0} (f : State → A) → ((s : State) → P (f s)) → Keeps cs (look f) P
  unfolding look
  keeps_look f h = record { before = λ s fine e. e; made = λ s fine e i. (i, h s) }

  pub keeps_update : (f : State → State) → ((s : State) → (f s).structs ≡ s.structs)
      → Keeps cs (update f) (λ u. Unit {0})
  unfolding update
  keeps_update f same = record {
    before = λ s fine e. subst (λ σ. Earlier cs σ.completed) (same s) e;
    made = λ s fine e i. (subst (λ σ. AreFormedStructs σ.completed) (sym (same s)) i, tt);
  }

  keeps_end : (ξ : Setting) (at : Place) (p : Specified) → Keeps cs (end_specifiers ξ at p) (λ u. Unit {0})
  unfolding end_specifiers
  keeps_end ξ at p = record { before = λ s fine e. e; made = λ s fine e i. (i, tt) }

  pub keeps_to_end : {P : Specified → Type 0} (ξ : Setting) (at : Place) {w : Walk Specified} → Keeps cs w P
      → Keeps cs (to_their_end ξ at w) P
  keeps_to_end ξ at h = keeps_then h (λ p. keeps_then (keeps_end ξ at p) (λ u. keeps_give p (λ i j. j)))

  -- ---- tags and structs

  pub keeps_refer : (alone : Bool) (Γ : Env) (name : ℕ) → Keeps cs (refer alone Γ name) (λ number. Unit {0})
  keeps_refer alone Γ name = record {
    before = λ s fine e. subst (Earlier cs) (by_tag Γ name s (tag_seen alone Γ name s)) e;
    made = λ s fine e i. (subst AreFormedStructs (sym (by_tag Γ name s (tag_seen alone Γ name s))) i, tt);
  }

  -- A struct is completed with the members that a walk makes.
  pub keeps_struct : {A : Type 0} {P : A → Type 0} {w : Walk (List Member)} (ξ : Setting) (at : Place) (number : ℕ)
      (a : A) → P a → Keeps cs w (Each IsMember)
      → Keeps cs (andthen w (λ ms. andthen (close_struct ξ at number ms) (λ u. give a))) P
  unfolding andthen judge look update
  keeps_struct {A = A} {w = w} ξ at number a passes h = record {
    before = λ s fine e.
        let f = both_fine (w s).seen (close (w s).value (w s).state).seen fine in
        h.before s f.0 (closed (w s).value (w s).state f.1 e).0;
    made = λ s fine e i.
        let f = both_fine (w s).seen (close (w s).value (w s).state).seen fine in
        let c = closed (w s).value (w s).state f.1 e in
        let p = h.made s f.0 c.0 i in
        ((p.1, c.1, c.2, p.0), passes);
  }
    where
      close : List Member → Walk A
      close ms = andthen (close_struct ξ at number ms) (λ u. give a)

      node : List Member → State → Node
      node ms s = n.Struct (is_complete_struct s number) (length ms) (members_size s ms)

      closed : (ms : List Member) (s : State) → first_fault (close ms s).seen ≡ None
          → Earlier cs (close ms s).state.structs.completed
          → Earlier cs s.structs.completed × (nat_lt most_bytes (members_size s ms) ≡ false)
          × (nat_eq (length ms) 0 ≡ false)
      closed ms s fine e =
          let x = node ms s in
          let none = none_at (lowest (facts_in ξ s) x) at fine in
          let fresh = unbroken (table (facts_in ξ s) x) 1 (rules.judge 2 (rule_2 x)) refl none in
          let small = unbroken (table (facts_in ξ s) x) 5 (rules.judge 6 (rule_6 (facts_in ξ s) x)) refl none in
          let c : Completed = record { number = number; members = ms } in
          let some = unbroken (table (facts_in ξ s) x) 7 (rules.judge 8 (rule_8 (facts_in ξ s) x)) refl none in
          (Before c s.structs.completed fresh e, small, some)
