-- A walk over a part of the source: all its nodes in the order in which they are finished, what is known after it, and
-- what is made of it.
-- A walk goes on after a node that breaks a rule; what it then makes is never used.
use Rattle.std.specs.Prelude.{List, [], ◌∷◌, ◌++◌}
use Rattle.upc_text.specs.declared.place.Place.{Place}
use Rattle.typed_tree.specs.Scopes.{Setting, State}
use Rattle.typing_rules.specs.Faults.{Seen}
use Rattle.typing_rules.specs.Attributes.{Facts, attr}
use Rattle.typing_rules.specs.Nodes.{Node}
use Rattle.typed_tree.specs.Tree.{Expr, ExprKind, Is}
use Rattle.upc_checker_scopes.specs.Counts.{counted}

-- What a walk over a part of the source gives: its nodes in the order in which they are finished, what is known after
-- it, and what it makes.
pub record Walked (A : Type 0) : Type 0 where
  pub seen : List Seen
  pub state : State
  pub value : A

-- A walk over a part of the source: what it gives, by what is known before it.
abbrev pub Walk : Type 0 → Type 0
Walk A = State → Walked A

-- The walk without nodes that makes this value.
abbrev pub give : {A : Type 0} → A → Walk A
give a s = record { seen = []; state = s; value = a }

-- One walk, and then another over what comes after it.
unfoldable pub andthen : {A B : Type 0} → Walk A → (A → Walk B) → Walk B
andthen w go s =
    let x = w s in
    let y = go x.value x.state in
    record { seen = x.seen ++ y.seen; state = y.state; value = y.value }

-- In `x ← w` the value of the walk w is called x, and what stands below is the walk over what comes after it.
infixl 10 ◌>>=◌
abbrev pub ◌>>=◌ : {A B : Type 0} → Walk A → (A → Walk B) → Walk B
w >>= go = andthen w go

-- One walk, and then another, whatever value the first has made.
infixl 10 ◌>>◌
abbrev pub ◌>>◌ : {A B : Type 0} → Walk A → Walk B → Walk B
w >> v = andthen w (λ u. v)

-- What nodes may look at: the structs that are known, and the number of threads.
abbrev pub facts_in : Setting → State → Facts
facts_in ξ s = record { structs = s.structs; threads = ξ.threads }

-- The walk that finishes a node.
unfoldable pub judge : Setting → Place → Node → Walk (Unit {0})
judge ξ at x s =
    record { seen = record { at = at; facts = facts_in ξ s; node = x } ∷ []; state = counted ξ at x s; value = tt {0} }

-- The walk that finishes the node of an expression and makes the expression, which is what its node says.
unfoldable pub finish : Setting → Place → Node → (Facts → ExprKind) → Walk Expr
finish ξ at x kind s = record {
  seen = record { at = at; facts = facts_in ξ s; node = x } ∷ [];
  state = s;
  value = Is at (attr (facts_in ξ s) x) (kind (facts_in ξ s));
}

-- The walk without nodes that changes what is known.
unfoldable pub update : (State → State) → Walk (Unit {0})
update f s = record { seen = []; state = f s; value = tt {0} }

-- The walk without nodes that looks something up in what is known.
unfoldable pub look : {A : Type 0} → (State → A) → Walk A
look f s = record { seen = []; state = s; value = f s }

-- A walk over a part whose tags are out of scope after it (C99 6.2.1).
unfoldable pub enclosed : {A : Type 0} → Walk A → Walk A
enclosed w s =
    let x = w s in
    record { seen = x.seen; state = record x.state { tags = s.tags }; value = x.value }
