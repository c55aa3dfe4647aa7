-- A source that is accepted defines each function once, and so main.
use Rattle.std.proofs.Common.{◌≡◌, ℕ, zero, suc, nat_eq, Bool, true, false, cond, ◌||◌, ◌&&◌, not, List, [], ◌∷◌, ◌++◌, filter, Option, Some, None, slice_get, refl, sym, ap, ◌∙◌, ◌⊎◌, inl, inr, subst, append_assoc, append-nil}
use Rattle.std.specs.Prelude.{find}
use Rattle.std.specs.List.{list_any}
use Rattle.std.specs.Cmp.Lexicographic.{bytes_decides}
use Rattle.std.proofs.lemmas.Bool.{or_parts, eq-eqb}
use Rattle.upc_lexer.specs.Names.{firsts, is_same}
use Rattle.upc_lexer.specs.Numbers.{NumbersFit}
use Rattle.upc_lexer.proofs.NameLemmas.{is_same-refl}
use Rattle.upc_text.specs.declared.place.Place.{Place}
use Rattle.upc_tree.specs.declared.span.Name.{Name}
use Rattle.upc_tree.specs.Expression.{Specs, Pointers, Parameters}
use Rattle.upc_tree.specs.Statement.{Compound}
use Rattle.upc_tree.specs.Unit.{External, PragmaPart, DeclarationPart, FunctionPart, tokens_of}
use Rattle.upc_types.specs.Types.{CType, Completed}
use Rattle.upc_values.specs.Lists.{Has}
use Rattle.typing_rules.specs.Attributes.{Facts}
use Rattle.typing_rules.specs.Meanings.{Signature}
use Rattle.typing_rules.specs.Nodes as n
use Rattle.typing_rules.specs.Rules.{lowest}
use Rattle.typing_rules.specs.Faults.{first_fault}
use Rattle.typed_tree.specs.Scopes.{Setting, Env, State, KnownFunction, begin, spelling, text_or_none, is_taken, is_object, here, was_defined, differs, inside, file, with_function}
use Rattle.typed_tree.specs.Tree.{Function}
use Rattle.typed_tree.specs.Programs.{Checked, without_targets}
use Rattle.typed_tree.specs.layer.Judged.{AtEnd}
use Rattle.typed_tree.specs.Words.{main_text, is_main_function}
use Rattle.upc_checker_scopes.specs.Known.{definition_again}
use Rattle.upc_checker_scopes.specs.Places.{specs_place}
use Rattle.upc_checker_scopes.specs.Walk.{Walk, give, andthen, judge, update, look, enclosed, facts_in}
use Rattle.upc_checker_statements.specs.Statements.{walk_block}
use Rattle.upc_checker.specs.Units.{Made, Earlier, earlier, with_definition, with_outer_entry, body_around, defined_in, strict_from, source_place, walk_definition, walk_function, walk_external, walk_externals, walk_unit, setting}
use Rattle.upc_checker.specs.Limits.{limit_in}
use Rattle.upc_checker.specs.Outcomes.{Accepted, outcome}
use Rattle.upc_checker.specs.code.Mains.{is_named_main, HasOneMain}
use Rattle.upc_checker.proofs.Causes.{accepted_by}
use Rattle.upc_checker.proofs.NumberNodes.{nodes_fit}
use Rattle.upc_checker.proofs.Passing.{Since, Now, Sooner, Fine, fine_both, none_at, Good, good_then, good_give, good_judge, any_then, any_give, any_to_their_end, any_of}
use Rattle.upc_checker.proofs.TypedExpressions.{Whole, specs_good, pointers_good, parameters_good}
use Rattle.upc_checker.proofs.TypedStatements.{block_good}
use Rattle.upc_checker.proofs.TypedSources.{declaration_passes}

-- ---- which functions were defined

or_right : (a b : Bool) → b ≡ true → (a || b) ≡ true
or_right true b h = refl
or_right false b h = h

or_left : (a b : Bool) → a ≡ true → (a || b) ≡ true
or_left true b h = refl
or_left false b h = absurd cc

and_yes : (a b : Bool) → a ≡ true → b ≡ true → (a && b) ≡ true
and_yes true b h i = i
and_yes false b h i = absurd cc

not_both : (b : Bool) → b ≡ true → b ≡ false → ⊥
not_both true h i = absurd cc
not_both false h i = absurd cc

not_yes : (b : Bool) → (b ≡ true → ⊥) → b ≡ false
not_yes true k = absurd (k refl)
not_yes false k = refl

-- What was defined stays so.
grown : {all older : List KnownFunction} (m : ℕ) → Since all older → was_defined m older ≡ true → was_defined m all ≡ true
grown m Now h = h
grown m (Sooner f older d k) h = grown m k (or_right (nat_eq f.name m && f.is_defined) (was_defined m older) h)

has_parts : (ns ms : List ℕ) (m : ℕ) → Has (ns ++ ms) m → Has ns m ⊎ Has ms m
has_parts [] ms m h = inr h
has_parts (n ∷ ns) ms m (inl e) = inl (inl e)
has_parts (n ∷ ns) ms m (inr h) = elim (has_parts ns ms m h) [
  | inl i ↦ inl (inr i)
  | inr i ↦ inr i
]

abbrev Unlike : List ℕ → Type 0
Unlike [] = Unit {0}
Unlike (n ∷ ns) = (Has ns n → ⊥) × Unlike ns

unlike_both : (ns ms : List ℕ) → Unlike ns → Unlike ms → ((m : ℕ) → Has ns m → Has ms m → ⊥) → Unlike (ns ++ ms)
unlike_both [] ms h i k = i
unlike_both (n ∷ ns) ms h i k = (
  λ g. elim (has_parts ns ms n g) [
    | inl j ↦ h.0 j
    | inr j ↦ k n (inl refl) j
  ],
  unlike_both ns ms h.1 i (λ m g j. k m (inr g) j),
)

-- These were defined, each for the first time.
record Adds (ns : List ℕ) (older newer : List KnownFunction) : Type 0 where
  kept : (m : ℕ) → was_defined m older ≡ true → was_defined m newer ≡ true
  new : (m : ℕ) → Has ns m → was_defined m older ≡ false
  there : (m : ℕ) → Has ns m → was_defined m newer ≡ true
  unlike : Unlike ns

adds_both : (ns ms : List ℕ) (a b c : List KnownFunction) → Adds ns a b → Adds ms b c → Adds (ns ++ ms) a c
adds_both ns ms a b c p q = record {
  kept = λ m h. q.kept m (p.kept m h);
  new = λ m h. elim (has_parts ns ms m h) [
    | inl i ↦ p.new m i
    | inr i ↦ not_yes (was_defined m a) (λ y. not_both (was_defined m b) (p.kept m y) (q.new m i))
  ];
  there = λ m h. elim (has_parts ns ms m h) [
    | inl i ↦ q.kept m (p.there m i)
    | inr i ↦ q.there m i
  ];
  unlike = unlike_both ns ms p.unlike q.unlike (λ m i j. not_both (was_defined m b) (p.there m i) (q.new m j));
}

-- Where the nodes of a walk are fine, it defines these.
record Adding {A : Type 0} (ns : List ℕ) (w : Walk A) : Type 0 where
  made : (s : State) → Fine (w s).seen → Adds ns s.functions (w s).state.functions

adding_then : {A B : Type 0} {w : Walk A} {go : A → Walk B} (ns ms : List ℕ) → Adding ns w → ((a : A) → Adding ms (go a)) → Adding (ns ++ ms) (andthen w go)
unfolding andthen
adding_then {w = w} {go = go} ns ms h k = record {
  made = λ s fine.
      let f = fine_both (w s).seen (go (w s).value (w s).state).seen fine in
      adds_both ns ms s.functions (w s).state.functions (go (w s).value (w s).state).state.functions (h.made s f.0) ((k (w s).value).made (w s).state f.1);
}

adding_enclosed : {A : Type 0} {w : Walk A} {ns : List ℕ} → Adding ns w → Adding ns (enclosed w)
unfolding enclosed
adding_enclosed h = record { made = h.made }

-- A walk that is good, wherever the source ends.
quiet : {A : Type 0} {w : Walk A} → ((cs : List Completed) (fs : List KnownFunction) → Good cs fs w (λ a. Unit {0})) → Adding [] w
quiet {w = w} g = record {
  made = λ s fine.
      let e = ((g (w s).state.structs.completed (w s).state.functions).made s fine (record { structs = AtEnd; functions = Now })).0 in
      record { kept = λ m h. grown m e.functions h; new = λ m h. absurd h; there = λ m h. absurd h; unlike = tt {0} };
}

-- ---- definitions

again_not : (φ : Facts) (again differs forms : Bool) (s : Signature) → lowest φ (n.Defines again differs forms s) ≡ None → again ≡ false
again_not φ true differs forms s h = absurd cc
again_not φ false differs forms s h = refl

-- A function is known in its body.
noted : {B : Type 0} (ξ : Setting) (Γ : Env) (name : ℕ) (s : Signature) (rest : Earlier → Walk B) →
    ((was : Earlier) (cs : List Completed) (fs : List KnownFunction) → Good cs fs (rest was) (λ b. was.again ≡ false)) →
    Adding (name ∷ []) (andthen (earlier ξ Γ name s) (λ was. andthen (update (with_function name s true)) (λ u. rest was)))
unfolding andthen look update
noted ξ Γ name s rest k = record {
  made = λ q fine.
      let was : Earlier = record { again = definition_again ξ Γ q name; differs = differs name s q.functions } in
      let p = with_function name s true q in
      let e = (rest was p).state in
      let r = (k was e.structs.completed e.functions).made p fine (record { structs = AtEnd; functions = Now }) in
      let taken = or_parts (is_taken ξ name) (is_object (here name Γ) || was_defined name q.functions) r.1 in
      let before = or_parts (is_object (here name Γ)) (was_defined name q.functions) taken.1 in
      let own : was_defined name p.functions ≡ true = or_left (nat_eq name name && true) (was_defined name q.functions) (and_yes (nat_eq name name) true (eq-eqb name name refl) refl) in
      record {
        kept = λ m h. grown m r.0.functions (or_right (nat_eq name m && true) (was_defined m q.functions) h);
        new = λ m h. elim h [
          | inl i ↦ subst (λ (x : ℕ). was_defined x q.functions ≡ false) i before.1
          | inr i ↦ absurd i
        ];
        there = λ m h. elim h [
          | inl i ↦ grown m r.0.functions (subst (λ (x : ℕ). was_defined x p.functions ≡ true) i own)
          | inr i ↦ absurd i
        ];
        unlike = (λ h. h, tt {0});
      };
}

-- Of a source in this setting, which ends so.
abbrev whole : Setting → List Completed → List KnownFunction → Whole
whole ξ cs fs = record { setting = ξ; structs = record { declared = 0; completed = cs; targets = [] }; objects = []; functions = []; known = fs }

definition_adds : (ξ : Setting) (strict : Bool) (before : Made) (place : Place) (forms : Bool) (result : CType) (name : Name) (ps : Parameters) (body : Compound) →
    Adding (name.number ∷ []) (walk_definition ξ strict before place forms result name ps body)
definition_adds ξ strict before place forms result name ps body =
    adding_then [] (name.number ∷ []) (quiet (λ cs fs. any_of (parameters_good (whole ξ cs fs) (inside before.scope) ps))) (λ d.
    let s : Signature = record { result = result; parameters = d.types } in
    noted ξ before.scope name.number s
    (λ was. andthen (walk_block ξ (with_outer_entry name.number s d.scope) (body_around result) strict body) (λ x.
    andthen (judge ξ place (n.Defines was.again was.differs forms s)) (λ v. give (with_definition ξ before place name.number s x))))
    (λ was cs fs. good_then (block_good (whole ξ cs fs) (with_outer_entry name.number s d.scope) (body_around result) strict body) (λ x.
    good_then (good_judge {P = λ u. was.again ≡ false} ξ place (n.Defines was.again was.differs forms s)
    (λ q e. record { structs = e.structs; functions = e.functions })
    (λ q e h. again_not (facts_in ξ q) was.again was.differs forms s h)) (λ v. good_give _ (λ h hx. h)))))

function_adds : (ξ : Setting) (strict : Bool) (before : Made) (place : Place) (specs : Specs) (pointers : Pointers) (name : Name) (ps : Parameters) (body : Compound) →
    Adding (name.number ∷ []) (walk_function ξ strict before place specs pointers name ps body)
function_adds ξ strict before place specs pointers name ps body =
    adding_then [] (name.number ∷ []) (quiet (λ cs fs. any_to_their_end ξ _ (any_of (specs_good (whole ξ cs fs) before.scope _ specs)))) (λ p.
    adding_then [] (name.number ∷ []) (quiet (λ cs fs. any_of (pointers_good (whole ξ cs fs) before.scope false _ pointers))) (λ t.
    adding_enclosed (definition_adds ξ strict before place _ _ name ps body)))

externals_add : (ξ : Setting) (strict : Bool) (before : Made) (xs : List External) → Adding (defined_in xs) (walk_externals ξ strict before xs)
externals_add ξ strict before [] = quiet (λ cs fs. any_give before)
externals_add ξ strict before (PragmaPart pragma ∷ xs) =
    adding_then [] (defined_in xs) (quiet (λ cs fs. any_give before)) (λ b. externals_add ξ (strict_from strict (PragmaPart pragma)) b xs)
externals_add ξ strict before (DeclarationPart declaration ∷ xs) =
    adding_then [] (defined_in xs) (quiet {w = walk_external ξ strict before (DeclarationPart declaration)} (λ cs fs. any_then (declaration_passes (whole ξ cs fs) before declaration) (λ b. any_give _)))
    (λ b. externals_add ξ (strict_from strict (DeclarationPart declaration)) b xs)
externals_add ξ strict before (FunctionPart specs pointers name ps body ∷ xs) =
    adding_then (name.number ∷ []) (defined_in xs) (function_adds ξ strict before (specs_place specs) specs pointers name ps body)
    (λ b. externals_add ξ (strict_from strict (FunctionPart specs pointers name ps body)) b xs)

abbrev nothing_made : Made
nothing_made = record { scope = file; objects = []; functions = [] }

-- Each function is defined once.
defined_once : (ξ : Setting) (unit : List External) → Fine (walk_unit ξ unit begin).seen → Unlike (defined_in unit)
unfolding andthen
defined_once ξ unit fine =
    let w = walk_externals ξ false nothing_made unit begin in
    let f = fine_both w.seen _ fine in
    ((externals_add ξ false nothing_made unit).made begin f.0).unlike

-- ---- the names of functions

abbrev Called : Setting → List ℕ → List Function → Type 0
Called ξ [] [] = Unit {0}
Called ξ (n ∷ ns) (f ∷ fs) = (f.name ≡ spelling ξ n) × Called ξ ns fs
Called ξ ns fs = ⊥

called_one : (ξ : Setting) (ns : List ℕ) (fs : List Function) (name : ℕ) (f : Function) → Called ξ ns fs → f.name ≡ spelling ξ name → Called ξ (ns ++ (name ∷ [])) (fs ++ (f ∷ []))
called_one ξ [] [] name f h e = (e, tt {0})
called_one ξ [] (g ∷ fs) name f h e = absurd h
called_one ξ (m ∷ ns) [] name f h e = absurd h
called_one ξ (m ∷ ns) (g ∷ fs) name f h e = (h.0, called_one ξ ns fs name f h.1 e)

externals_called : (ξ : Setting) (strict : Bool) (before : Made) (ns : List ℕ) (xs : List External) (s : State) → Called ξ ns before.functions →
    Called ξ (ns ++ defined_in xs) (walk_externals ξ strict before xs s).value.functions
unfolding andthen enclosed look update judge
externals_called ξ strict before ns [] s h = subst (λ (ms : List ℕ). Called ξ ms before.functions) (sym (append-nil ns)) h
externals_called ξ strict before ns (PragmaPart pragma ∷ xs) s h = externals_called ξ (strict_from strict (PragmaPart pragma)) before ns xs s h
externals_called ξ strict before ns (DeclarationPart declaration ∷ xs) s h =
    let w = walk_external ξ strict before (DeclarationPart declaration) s in
    externals_called ξ (strict_from strict (DeclarationPart declaration)) w.value ns xs w.state h
externals_called ξ strict before ns (FunctionPart specs pointers name ps body ∷ xs) s h =
    let part = FunctionPart specs pointers name ps body in
    let w = walk_external ξ strict before part s in
    subst (λ (ms : List ℕ). Called ξ ms (walk_externals ξ (strict_from strict part) w.value xs w.state).value.functions) (append_assoc ns (name.number ∷ []) (defined_in xs))
    (externals_called ξ (strict_from strict part) w.value (ns ++ (name.number ∷ [])) xs w.state (called_one ξ ns before.functions name.number _ h refl))

unit_called : (ξ : Setting) (unit : List External) → Called ξ (defined_in unit) (walk_unit ξ unit begin).value.functions
unfolding andthen judge
unit_called ξ unit = externals_called ξ false nothing_made [] unit begin (tt {0})

-- ---- names, each once

abbrev Once : List (List ℕ) → Type 0
Once [] = Unit {0}
Once (x ∷ xs) = (list_any (is_same x) xs ≡ false) × Once xs

any_filtered : (p q : List ℕ → Bool) (xs : List (List ℕ)) → list_any q xs ≡ false → list_any q (filter p xs) ≡ false
any_filtered p q [] h = refl
any_filtered p q (x ∷ xs) h = let r = or_parts (q x) (list_any q xs) h in by (p x) r.0 (any_filtered p q xs r.1)
  where
    by : (b : Bool) → q x ≡ false → list_any q (filter p xs) ≡ false → list_any q (cond b (x ∷ filter p xs) (filter p xs)) ≡ false
    by true e i = rw e i
    by false e i = i

once_filtered : (p : List ℕ → Bool) (xs : List (List ℕ)) → Once xs → Once (filter p xs)
once_filtered p [] h = tt {0}
once_filtered p (x ∷ xs) h = by (p x) (any_filtered p (is_same x) xs h.0) (once_filtered p xs h.1)
  where
    by : (b : Bool) → list_any (is_same x) (filter p xs) ≡ false → Once (filter p xs) → Once (cond b (x ∷ filter p xs) (filter p xs))
    by true a i = (a, i)
    by false a i = i

all_others : (x : List ℕ) (xs : List (List ℕ)) → list_any (is_same x) (filter (λ y. not (is_same x y)) xs) ≡ false
all_others x [] = refl
all_others x (y ∷ ys) = by (is_same x y) refl (all_others x ys)
  where
    by : (b : Bool) → is_same x y ≡ b → list_any (is_same x) (filter (λ y. not (is_same x y)) ys) ≡ false →
        list_any (is_same x) (cond (not b) (y ∷ filter (λ y. not (is_same x y)) ys) (filter (λ y. not (is_same x y)) ys)) ≡ false
    by true e i = i
    by false e i = rw e i

firsts_once : (xs : List (List ℕ)) → Once (firsts xs)
firsts_once [] = tt {0}
firsts_once (x ∷ xs) = (all_others x (firsts xs), once_filtered (λ y. not (is_same x y)) (firsts xs) (firsts_once xs))

stands : (xs : List (List ℕ)) (i : ℕ) (x : List ℕ) → slice_get xs i ≡ Some x → list_any (is_same x) xs ≡ true
stands [] i x h = absurd cc
stands (y ∷ xs) zero x h = let e : y ≡ x = cc in or_left (is_same x y) (list_any (is_same x) xs) (is_same-refl x y (sym e))
stands (y ∷ xs) (suc i) x h = or_right (is_same x y) (list_any (is_same x) xs) (stands xs i x h)

same_place : (xs : List (List ℕ)) (i j : ℕ) (x : List ℕ) → Once xs → slice_get xs i ≡ Some x → slice_get xs j ≡ Some x → i ≡ j
same_place [] i j x o h k = absurd cc
same_place (y ∷ xs) zero zero x o h k = refl
same_place (y ∷ xs) zero (suc j) x o h k =
    let e : y ≡ x = cc in absurd (not_both (list_any (is_same x) xs) (stands xs j x k) (subst (λ (z : List ℕ). list_any (is_same z) xs ≡ false) e o.0))
same_place (y ∷ xs) (suc i) zero x o h k =
    let e : y ≡ x = cc in absurd (not_both (list_any (is_same x) xs) (stands xs i x h) (subst (λ (z : List ℕ). list_any (is_same z) xs ≡ false) e o.0))
same_place (y ∷ xs) (suc i) (suc j) x o h k = ap suc (same_place xs i j x o.1 h k)

-- ---- main

text_found : (o : Option (List ℕ)) → text_or_none o ≡ main_text → o ≡ Some main_text
text_found None h = absurd cc
text_found (Some text) h = ap Some h

module _ (ξ : Setting) (once : Once ξ.names) where
  same_number : (i j : ℕ) → spelling ξ i ≡ main_text → spelling ξ j ≡ main_text → i ≡ j
  same_number i j h k = same_place ξ.names i j main_text once (text_found (slice_get ξ.names i) h) (text_found (slice_get ξ.names j) k)

  named : (f : Function) → is_named_main f ≡ true → f.name ≡ main_text
  named f h = (bytes_decides f.name main_text).0 h

  -- After main no function is named so.
  none_behind : (name : ℕ) (ns : List ℕ) (fs : List Function) → spelling ξ name ≡ main_text → (Has ns name → ⊥) → Called ξ ns fs → filter is_named_main fs ≡ []
  none_behind name [] [] e k h = refl
  none_behind name [] (f ∷ fs) e k h = absurd h
  none_behind name (m ∷ ns) [] e k h = absurd h
  none_behind name (m ∷ ns) (f ∷ fs) e k h = by (is_named_main f) refl (none_behind name ns fs e (λ i. k (inr i)) h.1)
    where
      by : (b : Bool) → is_named_main f ≡ b → filter is_named_main fs ≡ [] → cond b (f ∷ filter is_named_main fs) (filter is_named_main fs) ≡ []
      by true g i = absurd (k (inl (same_number m name (sym h.0 ∙ named f g) e)))
      by false g i = i

  as_named : (f : Function) → is_main_function f ≡ true → is_named_main f ≡ true
  as_named f h = first (is_named_main f) _ h
    where
      first : (a b : Bool) → (a && b) ≡ true → a ≡ true
      first true b h = refl
      first false b h = absurd cc

  none_main : (fs : List Function) → filter is_named_main fs ≡ [] → list_any is_main_function fs ≡ false
  none_main [] h = refl
  none_main (f ∷ fs) h = by (is_named_main f) refl h (none_main fs)
    where
      by : (b : Bool) → is_named_main f ≡ b → cond b (f ∷ filter is_named_main fs) (filter is_named_main fs) ≡ [] → (filter is_named_main fs ≡ [] → list_any is_main_function fs ≡ false) →
          (is_main_function f || list_any is_main_function fs) ≡ false
      by true g i rest = absurd cc
      by false g i rest =
          let no = not_yes (is_main_function f) (λ y. not_both (is_named_main f) (as_named f y) g) in
          rw no (rest i)

  here_or_behind : (a b : Bool) → (a || b) ≡ true → b ≡ false → a ≡ true
  here_or_behind true b h i = refl
  here_or_behind false b h i = absurd (not_both b h i)

  behind_only : (a b : Bool) → (a || b) ≡ true → a ≡ false → b ≡ true
  behind_only true b h i = absurd cc
  behind_only false b h i = h

  behind_filter : (f : Function) (fs : List Function) → is_named_main f ≡ false → filter is_named_main (f ∷ fs) ≡ filter is_named_main fs
  behind_filter f fs g = rw g refl

  behind_find : (f : Function) (fs : List Function) → is_named_main f ≡ false → find is_named_main (f ∷ fs) ≡ find is_named_main fs
  behind_find f fs g = rw g refl

  one_main : (ns : List ℕ) (fs : List Function) → Unlike ns → Called ξ ns fs → list_any is_main_function fs ≡ true → HasOneMain fs
  one_main [] [] u h m = absurd cc
  one_main [] (f ∷ fs) u h m = absurd h
  one_main (n ∷ ns) [] u h m = absurd h
  one_main (n ∷ ns) (f ∷ fs) u h m = by (is_named_main f) refl (one_main ns fs u.1 h.1)
    where
      by : (b : Bool) → is_named_main f ≡ b → (list_any is_main_function fs ≡ true → HasOneMain fs) → HasOneMain (f ∷ fs)
      by true g rest =
          let none = none_behind n ns fs (sym h.0 ∙ named f g) u.0 h.1 in
          record {
            main = f;
            only = rw (g, none) refl;
            found = rw g refl;
            as_main = here_or_behind (is_main_function f) (list_any is_main_function fs) m (none_main fs none);
          }
      by false g rest =
          let no = not_yes (is_main_function f) (λ y. not_both (is_named_main f) (as_named f y) g) in
          let r = rest (behind_only (is_main_function f) (list_any is_main_function fs) m no) in
          record { main = r.main; only = behind_filter f fs g ∙ r.only; found = behind_find f fs g ∙ r.found; as_main = r.as_main }

some_main : (φ : Facts) (main : Bool) → lowest φ (n.File main) ≡ None → main ≡ true
some_main φ true h = refl
some_main φ false h = absurd cc

file_good : (ξ : Setting) (unit : List External) → Fine (walk_unit ξ unit begin).seen → list_any is_main_function (walk_unit ξ unit begin).value.functions ≡ true
unfolding andthen judge
file_good ξ unit fine =
    let w = walk_externals ξ false nothing_made unit begin in
    let f = fine_both w.seen _ fine in
    some_main (facts_in ξ w.state) (list_any is_main_function w.value.functions) (none_at (lowest (facts_in ξ w.state) (n.File (list_any is_main_function w.value.functions))) (source_place unit) f.1.0)

pub accepted_has_one : (all : List (List ℕ)) (threads : ℕ) (unit : List External) (x : Checked) → NumbersFit (tokens_of unit) → outcome (firsts all) threads unit ≡ Accepted x → HasOneMain x.functions
accepted_has_one all threads unit x numbers h =
    let ξ = setting (firsts all) threads unit in
    let w = walk_unit ξ unit begin in
    let c : Checked = record { threads = threads; structs = without_targets w.state.structs; objects = w.value.objects; functions = w.value.functions } in
    let p = accepted_by (first_fault w.seen) (limit_in w) c x h in
    let fine : Fine w.seen = (p.0, nodes_fit (firsts all) threads unit numbers) in
    let one = one_main ξ (firsts_once all) (defined_in unit) w.value.functions (defined_once ξ unit fine) (unit_called ξ unit) (file_good ξ unit fine) in
    subst (λ (y : Checked). HasOneMain y.functions) p.2 one
