-- A whole source of which every node meets its rules: what it declares and defines says so.
use Rattle.std.proofs.Common.{◌≡◌, ℕ, ◌+◌, ◌-◌, nat_eq, Bool, true, false, ◌||◌, not, if◌then◌else◌, cond, List, [], ◌∷◌, ◌++◌, length, map, filter, Some, None, slice_get, refl, sym, ap, ◌∙◌, inl, subst, arith, append_assoc, append-nil}
use Rattle.std.specs.List.{list_any}
use Rattle.std.proofs.lemmas.List.{length-append}
use Rattle.std.proofs.lemmas.List.Elements.{filter-append}
use Rattle.upc_text.specs.declared.place.Place.{Place}
use Rattle.upc_lexer.specs.Numbers.{NumbersFit}
use Rattle.upc_tree.specs.declared.span.Name.{Name}
use Rattle.upc_tree.specs.Expression.{Specs, Pointers, Parameters}
use Rattle.upc_tree.specs.Declaration.{Declaration}
use Rattle.upc_tree.specs.Statement.{Compound}
use Rattle.upc_tree.specs.Unit.{External, PragmaPart, DeclarationPart, FunctionPart, tokens_of}
use Rattle.upc_types.specs.Types.{CType, Completed}
use Rattle.upc_values.specs.Lists.{Each}
use Rattle.typing_rules.specs.declared.setting.Home.{Home}
use Rattle.typing_rules.specs.declared.setting.Home.TheVariants as home
use Rattle.typing_rules.specs.Attributes.{Facts}
use Rattle.typing_rules.specs.Values as values
use Rattle.typing_rules.specs.Values.{value_type}
use Rattle.typing_rules.specs.Faults.{first_fault}
use Rattle.typing_rules.specs.Meanings as m
use Rattle.typing_rules.specs.Meanings.{Meaning, Signature}
use Rattle.typing_rules.specs.Nodes as n
use Rattle.typing_rules.specs.Rules.{lowest, or_above}
use Rattle.typed_tree.specs.Scopes.{Setting, Env, Scope, Counts, NoScope, Within, Entry, KnownFunction, begin, spelling, find, find_in, found_or, is_file, file, inside, next_home, declare, with_entry, with_count, with_function, counts_of, differs}
use Rattle.typed_tree.specs.layer.Parts.{is_private}
use Rattle.typed_tree.specs.Objects.{is_shared}
use Rattle.typed_tree.specs.Tree.{DeclaredObject, Function, Statement}
use Rattle.typed_tree.specs.Objects.{private_in, shared_in, type_of}
use Rattle.typed_tree.specs.Programs.{Checked, without_targets}
use Rattle.upc_checker_scopes.specs.Known.{definition_again}
use Rattle.upc_checker_scopes.specs.Walk.{Walk, give, andthen, judge, update, look, facts_in}
use Rattle.upc_checker_types.specs.Members.{Declared}
use Rattle.upc_checker_declarations.specs.Declarations.{Behind, walk_declaration}
use Rattle.upc_checker_statements.specs.Statements.{walk_block}
use Rattle.upc_checker.specs.Units.{Made, Earlier, earlier, with_definition, with_outer_entry, body_around, defined_in, is_main_function, walk_definition, walk_function, walk_externals, walk_unit, setting}
use Rattle.upc_checker.specs.Limits.{limit_in}
use Rattle.upc_checker.specs.Outcomes.{Accepted, outcome}
use Rattle.upc_checker.proofs.Causes.{accepted_by}
use Rattle.typed_tree.specs.layer.Judged.{Meets, Stands, AtEnd}
use Rattle.typed_tree.specs.layer.TypedNodes.{MeetsObjects, MeetsStatement, MeetsFunction, MeetsRules, in_scope, behind, behind_all}
use Rattle.upc_checker.proofs.NumberNodes.{nodes_fit}
use Rattle.upc_checker.proofs.Passing.{Among, Agree, Now, Sooner, among_since, agree_since, Ends, Fine, Good, good_then, good_give, good_judge, any_to_their_end, good_enclosed, good_weaken, any_of}
use Rattle.upc_checker.proofs.TypedExpressions.{Defined, Whole, program, Fits, Outside, StandsFor, Scoped, specs_good, pointers_good, parameters_good, met, with_name, entry_stands, get_kept, within}
use Rattle.upc_checker.proofs.TypedDeclarations.{declaration_good, objects_both, behind_both}
use Rattle.upc_checker.proofs.TypedStatements.{block_good, inside_level}

-- ---- lists

-- The number of an element among those of its sort.
seam : (p : DeclaredObject → Bool) (ys : List DeclaredObject) (x : DeclaredObject) (rest : List DeclaredObject) → p x ≡ true →
    slice_get (map type_of (filter p (ys ++ (x ∷ rest)))) (length (filter p ys)) ≡ Some x.ctype
seam p [] x rest h = rw h refl
seam p (y ∷ ys) x rest h = by (p y) (seam p ys x rest h)
  where
    by : (b : Bool) → slice_get (map type_of (filter p (ys ++ (x ∷ rest)))) (length (filter p ys)) ≡ Some x.ctype →
        slice_get (map type_of (cond b (y ∷ filter p (ys ++ (x ∷ rest))) (filter p (ys ++ (x ∷ rest))))) (length (cond b (y ∷ filter p ys) (filter p ys))) ≡ Some x.ctype
    by true e = e
    by false e = e

count_one : (p : DeclaredObject → Bool) (ys : List DeclaredObject) (x : DeclaredObject) → p x ≡ true → length (filter p (ys ++ (x ∷ []))) ≡ length (filter p ys) + 1
count_one p ys x h = rw (filter-append p ys (x ∷ []), h) (length-append (filter p ys) (x ∷ []))

count_none : (p : DeclaredObject → Bool) (ys : List DeclaredObject) (x : DeclaredObject) → p x ≡ false → length (filter p (ys ++ (x ∷ []))) ≡ length (filter p ys)
count_none p ys x h = rw (filter-append p ys (x ∷ []), h) (ap length (append-nil (filter p ys)))

each_both : {X : Type 0} (P : X → Type 0) (xs ys : List X) → Each P xs → Each P ys → Each P (xs ++ ys)
each_both P [] ys h i = i
each_both P (x ∷ xs) ys h i = (h.0, each_both P xs ys h.1 i)

defined_both : (known : List KnownFunction) (ns ms : List ℕ) (fs gs : List Function) → Defined known ns fs → Defined known ms gs → Defined known (ns ++ ms) (fs ++ gs)
defined_both known [] ms [] gs h i = i
defined_both known [] ms (f ∷ fs) gs h i = absurd h
defined_both known (x ∷ ns) ms [] gs h i = absurd h
defined_both known (x ∷ ns) ms (f ∷ fs) gs h i = (h.0, defined_both known ns ms fs gs h.1 i)

three : (a b c : Bool) → or_above 2 a (or_above 4 b (or_above 7 c (Some 11))) ≡ None → ⊥
three true b c h = absurd cc
three false true c h = absurd cc
three false false true h = absurd cc
three false false false h = absurd cc

-- A definition that meets its rules is like what was declared before.
no_difference : (φ : Facts) (again differs forms : Bool) (s : Signature) → lowest φ (n.Defines again differs forms s) ≡ None → differs ≡ false
no_difference φ again true forms s h = absurd (three again (not forms || values.is_lock s.result) (values.is_shared s.result) h)
no_difference φ again false forms s h = refl

pick : {X : Type 0} (b : Bool) (x y : X) → b ≡ true → (if b then x else y) ≡ x
pick true x y h = refl
pick false x y h = absurd cc

pick_other : {X : Type 0} (b : Bool) (x y : X) → b ≡ false → (if b then x else y) ≡ y
pick_other true x y h = absurd cc
pick_other false x y h = refl

module _ {cs : List Completed} {fs : List KnownFunction} where
  -- A function is known in its body.
  noted : {B : Type 0} {P : B → Type 0} (ξ : Setting) (Γ : Env) (name : ℕ) (s : Signature) (rest : Earlier → Walk B) →
      ((was : Earlier) → Good cs fs (rest was) (λ b. (was.differs ≡ false) × P b)) →
      Good cs fs (andthen (earlier ξ Γ name s) (λ was. andthen (update (with_function name s true)) (λ u. rest was))) (λ b. Among name s fs × P b)
  unfolding andthen look update
  noted ξ Γ name s rest k = record {
    made = λ q fine ends.
        let was : Earlier = record { again = definition_again ξ Γ q name; differs = differs name s q.functions } in
        let r = (k was).made (with_function name s true q) fine ends in
        let f : KnownFunction = record { name = name; signature = s; is_defined = true } in
        let e : Ends cs fs q = record { structs = r.0.structs; functions = Sooner f q.functions r.1.0 r.0.functions } in
        (e, (among_since name s r.0.functions (inl (refl, refl)), r.1.1));
  }

module _ (z : Whole) where
  -- ---- objects of the file

  -- At file scope, where these objects of the file were declared.
  record FileScope (objects : List DeclaredObject) (Γ : Env) (l : List CType) : Type 0 where
    fits : Fits z Γ l
    level : is_file Γ ≡ true
    none : l ≡ []
    privates : (counts_of Γ).privates ≡ length (private_in objects)
    shareds : (counts_of Γ).shareds ≡ length (shared_in objects)

  abbrev Goes : List DeclaredObject → List DeclaredObject → Type 0
  Goes base xs = (rest : List DeclaredObject) × (z.objects ≡ (base ++ xs) ++ rest)

  goes_earlier : (base xs ys : List DeclaredObject) → Goes base (xs ++ ys) → Goes base xs
  goes_earlier base xs ys g =
      (ys ++ g.0, g.1 ∙ ap (λ (os : List DeclaredObject). os ++ g.0) (sym (append_assoc base xs ys)) ∙ append_assoc (base ++ xs) ys g.0)

  goes_last : (base xs : List DeclaredObject) (x : DeclaredObject) → Goes base (xs ++ (x ∷ [])) → (rest : List DeclaredObject) × (z.objects ≡ (base ++ xs) ++ (x ∷ rest))
  goes_last base xs x g =
      (g.0, g.1 ∙ ap (λ (os : List DeclaredObject). os ++ g.0) (sym (append_assoc base xs (x ∷ []))) ∙ append_assoc (base ++ xs) (x ∷ []) g.0)

  level_kept : (Γ : Env) (h : Home) (name : ℕ) (x : Meaning) → is_file Γ ≡ true → is_file (with_count h (with_entry name x Γ)) ≡ true
  level_kept (Scope level top counts outer) h name x e = e

  private_fits : (Γ : Env) (l : List CType) (name p : ℕ) (t : CType) → Stands (program z) l (home.Private p) t → Fits z Γ l →
      Fits z (with_count (home.Private p) (with_entry name (m.Object t (home.Private p)) Γ)) l
  private_fits (Scope level top counts outer) l name p t st f = record {
    names = λ q. entry_stands z l name q (m.Object t (home.Private p)) (find q (Scope level top counts outer)) (nat_eq name q) refl st (f.names q);
    locals = f.locals;
    agree = f.agree;
    defined = f.defined;
  }

  shared_fits : (Γ : Env) (l : List CType) (name p : ℕ) (t : CType) → Stands (program z) l (home.Shared p) t → Fits z Γ l →
      Fits z (with_count (home.Shared p) (with_entry name (m.Object t (home.Shared p)) Γ)) l
  shared_fits (Scope level top counts outer) l name p t st f = record {
    names = λ q. entry_stands z l name q (m.Object t (home.Shared p)) (find q (Scope level top counts outer)) (nat_eq name q) refl st (f.names q);
    locals = f.locals;
    agree = f.agree;
    defined = f.defined;
  }

  private_counts : (Γ : Env) (p name : ℕ) (x : Meaning) → ((counts_of (with_count (home.Private p) (with_entry name x Γ))).privates ≡ (counts_of Γ).privates + 1)
      × ((counts_of (with_count (home.Private p) (with_entry name x Γ))).shareds ≡ (counts_of Γ).shareds)
  private_counts (Scope level top counts outer) p name x = (refl, refl)

  shared_counts : (Γ : Env) (p name : ℕ) (x : Meaning) → ((counts_of (with_count (home.Shared p) (with_entry name x Γ))).privates ≡ (counts_of Γ).privates)
      × ((counts_of (with_count (home.Shared p) (with_entry name x Γ))).shareds ≡ (counts_of Γ).shareds + 1)
  shared_counts (Scope level top counts outer) p name x = (refl, refl)

  private_step : (ys : List DeclaredObject) (Γ : Env) (l : List CType) (x : DeclaredObject) (name p : ℕ) → x.home ≡ home.Private p → p ≡ (counts_of Γ).privates →
      ((rest : List DeclaredObject) × (z.objects ≡ ys ++ (x ∷ rest))) → FileScope ys Γ l →
      FileScope (ys ++ (x ∷ [])) (with_count (home.Private p) (with_entry name (m.Object x.ctype (home.Private p)) Γ)) l × Stands (program z) l (home.Private p) x.ctype
  private_step ys Γ l x name p h e g i =
      let yes : is_private x.home ≡ true = ap is_private h in
      let no : is_shared x.home ≡ false = ap is_shared h in
      let at = e ∙ i.privates in
      let st : Stands (program z) l (home.Private p) x.ctype =
      subst (λ (os : List DeclaredObject). slice_get (map type_of (private_in os)) p ≡ Some x.ctype) (sym g.1)
      (subst (λ (c : ℕ). slice_get (map type_of (private_in (ys ++ (x ∷ g.0)))) c ≡ Some x.ctype) (sym at) (seam (λ y. is_private y.home) ys x g.0 yes)) in
      let c = private_counts Γ p name (m.Object x.ctype (home.Private p)) in (
        record {
          fits = private_fits Γ l name p x.ctype st i.fits;
          level = level_kept Γ (home.Private p) name (m.Object x.ctype (home.Private p)) i.level;
          none = i.none;
          privates = c.0 ∙ ap (λ (k : ℕ). k + 1) i.privates ∙ sym (count_one (λ y. is_private y.home) ys x yes);
          shareds = c.1 ∙ i.shareds ∙ sym (count_none (λ y. is_shared y.home) ys x no);
        },
        st,
      )

  shared_step : (ys : List DeclaredObject) (Γ : Env) (l : List CType) (x : DeclaredObject) (name p : ℕ) → x.home ≡ home.Shared p → p ≡ (counts_of Γ).shareds + 1 →
      ((rest : List DeclaredObject) × (z.objects ≡ ys ++ (x ∷ rest))) → FileScope ys Γ l →
      FileScope (ys ++ (x ∷ [])) (with_count (home.Shared p) (with_entry name (m.Object x.ctype (home.Shared p)) Γ)) l × Stands (program z) l (home.Shared p) x.ctype
  shared_step ys Γ l x name p h e g i =
      let yes : is_shared x.home ≡ true = ap is_shared h in
      let no : is_private x.home ≡ false = ap is_private h in
      let at : p - 1 ≡ length (shared_in ys) = omega (arith, e, i.shareds) in
      let found : slice_get (map type_of (shared_in z.objects)) (p - 1) ≡ Some x.ctype =
      subst (λ (os : List DeclaredObject). slice_get (map type_of (shared_in os)) (p - 1) ≡ Some x.ctype) (sym g.1)
      (subst (λ (c : ℕ). slice_get (map type_of (shared_in (ys ++ (x ∷ g.0)))) c ≡ Some x.ctype) (sym at) (seam (λ y. is_shared y.home) ys x g.0 yes)) in
      let st : Stands (program z) l (home.Shared p) x.ctype = (omega (arith, e), found) in
      let c = shared_counts Γ p name (m.Object x.ctype (home.Shared p)) in (
        record {
          fits = shared_fits Γ l name p x.ctype st i.fits;
          level = level_kept Γ (home.Shared p) name (m.Object x.ctype (home.Shared p)) i.level;
          none = i.none;
          privates = c.0 ∙ i.privates ∙ sym (count_none (λ y. is_private y.home) ys x no);
          shareds = c.1 ∙ ap (λ (k : ℕ). k + 1) i.shareds ∙ sym (count_one (λ y. is_shared y.home) ys x yes);
        },
        st,
      )

  abbrev AtFile : List DeclaredObject → Behind → List CType → Type 0
  AtFile base b l = FileScope (base ++ b.objects) b.scope l

  file_home : (Γ : Env) (t : CType) → is_file Γ ≡ true → next_home t Γ ≡ (if values.is_shared t then home.Shared ((counts_of Γ).shareds + 1) else home.Private (counts_of Γ).privates)
  file_home Γ t e = pick (is_file Γ) _ _ e

  -- The next object at file scope, wherever it lies.
  file_step : (base : List DeclaredObject) (b : Behind) (l : List CType) (x : DeclaredObject) (name : ℕ) → x.home ≡ next_home x.ctype b.scope → Goes base (b.objects ++ (x ∷ [])) → AtFile base b l →
      AtFile base (record { scope = declare name x.ctype b.scope; objects = b.objects ++ (x ∷ []) }) (behind l x) × Stands (program z) (behind l x) x.home x.ctype
  file_step base b l x name h g i = by (values.is_shared x.ctype) refl
    where
      given : (y : Home) → next_home x.ctype b.scope ≡ y → in_scope y x.ctype l ≡ l →
          FileScope ((base ++ b.objects) ++ (x ∷ [])) (with_count y (with_entry name (m.Object x.ctype y) b.scope)) l × Stands (program z) l y x.ctype →
          AtFile base (record { scope = declare name x.ctype b.scope; objects = b.objects ++ (x ∷ []) }) (behind l x) × Stands (program z) (behind l x) x.home x.ctype
      given y e f r =
          let s = subst (λ (v : Home). FileScope ((base ++ b.objects) ++ (x ∷ [])) (with_count v (with_entry name (m.Object x.ctype v) b.scope)) l × Stands (program z) l v x.ctype) (sym e) r in
          let t = subst (λ (os : List DeclaredObject). FileScope os (declare name x.ctype b.scope) l) (append_assoc base b.objects (x ∷ [])) s.0 in
          let same : behind l x ≡ l = ap (λ (v : Home). in_scope v x.ctype l) (h ∙ e) ∙ f in
          let u = subst (λ (k : List CType). FileScope (base ++ (b.objects ++ (x ∷ []))) (declare name x.ctype b.scope) k × Stands (program z) k (next_home x.ctype b.scope) x.ctype) (sym same) (t, s.1) in
          (u.0, subst (λ (v : Home). Stands (program z) (behind l x) v x.ctype) (sym h) u.1)

      by : (c : Bool) → values.is_shared x.ctype ≡ c →
          AtFile base (record { scope = declare name x.ctype b.scope; objects = b.objects ++ (x ∷ []) }) (behind l x) × Stands (program z) (behind l x) x.home x.ctype
      by true c =
          let e : next_home x.ctype b.scope ≡ home.Shared ((counts_of b.scope).shareds + 1) =
          file_home b.scope x.ctype i.level ∙ pick (values.is_shared x.ctype) (home.Shared ((counts_of b.scope).shareds + 1)) (home.Private (counts_of b.scope).privates) c in
          given (home.Shared ((counts_of b.scope).shareds + 1)) e refl
          (shared_step (base ++ b.objects) b.scope l x name ((counts_of b.scope).shareds + 1) (h ∙ e) refl (goes_last base b.objects x g) i)
      by false c =
          let e : next_home x.ctype b.scope ≡ home.Private (counts_of b.scope).privates =
          file_home b.scope x.ctype i.level ∙ pick_other (values.is_shared x.ctype) (home.Shared ((counts_of b.scope).shareds + 1)) (home.Private (counts_of b.scope).privates) c in
          given (home.Private (counts_of b.scope).privates) e refl
          (private_step (base ++ b.objects) b.scope l x name (counts_of b.scope).privates (h ∙ e) refl (goes_last base b.objects x g) i)

  entry_level : (Γ : Env) (name : ℕ) (x : Meaning) (c : Bool) → is_file Γ ≡ c → is_file (with_entry name x Γ) ≡ c
  entry_level (Scope level top counts outer) name x c e = e

  entry_counts : (Γ : Env) (name : ℕ) (x : Meaning) → counts_of (with_entry name x Γ) ≡ counts_of Γ
  entry_counts (Scope level top counts outer) name x = refl

  with_function_scope : (objects : List DeclaredObject) (Γ : Env) (l : List CType) (name : ℕ) (s : Signature) → Among name s z.known → FileScope objects Γ l → FileScope objects (with_entry name (m.Function s) Γ) l
  with_function_scope objects Γ l name s a i = record {
    fits = with_name z Γ l name (m.Function s) a i.fits;
    level = entry_level Γ name (m.Function s) true i.level;
    none = i.none;
    privates = ap (λ (c : Counts). c.privates) (entry_counts Γ name (m.Function s)) ∙ i.privates;
    shareds = ap (λ (c : Counts). c.shareds) (entry_counts Γ name (m.Function s)) ∙ i.shareds;
  }

  -- ---- what a source has declared and defined

  -- So much comes in after what was there: objects, and functions of these names.
  record Built (names : List ℕ) (before b : Made) : Type 0 where
    new_objects : List DeclaredObject
    new_functions : List Function
    objects : b.objects ≡ before.objects ++ new_objects
    functions : b.functions ≡ before.functions ++ new_functions
    defined : Defined z.known names new_functions
    meets : ((rest : List DeclaredObject) × (z.objects ≡ b.objects ++ rest)) → FileScope before.objects before.scope [] →
        FileScope b.objects b.scope [] × MeetsObjects (program z) [] true new_objects × (behind_all [] new_objects ≡ []) × Each (MeetsFunction (program z)) new_functions

  none_built : (b : Made) → Built [] b b
  none_built b = record {
    new_objects = [];
    new_functions = [];
    objects = sym (append-nil b.objects);
    functions = sym (append-nil b.functions);
    defined = tt {0};
    meets = λ g i. (i, tt {0}, refl, tt {0});
  }

  both_built : (ns ms : List ℕ) (a b c : Made) → Built ns a b → Built ms b c → Built (ns ++ ms) a c
  both_built ns ms a b c p q = record {
    new_objects = p.new_objects ++ q.new_objects;
    new_functions = p.new_functions ++ q.new_functions;
    objects = q.objects ∙ ap (λ (xs : List DeclaredObject). xs ++ q.new_objects) p.objects ∙ append_assoc a.objects p.new_objects q.new_objects;
    functions = q.functions ∙ ap (λ (xs : List Function). xs ++ q.new_functions) p.functions ∙ append_assoc a.functions p.new_functions q.new_functions;
    defined = defined_both z.known ns ms p.new_functions q.new_functions p.defined q.defined;
    meets = λ g i.
        let r = p.meets (q.new_objects ++ g.0, g.1 ∙ ap (λ (xs : List DeclaredObject). xs ++ g.0) q.objects ∙ append_assoc b.objects q.new_objects g.0) i in
        let s = q.meets g r.0 in
        let here = subst (λ (l : List CType). MeetsObjects (program z) l true q.new_objects) (sym r.2) s.1 in
        let all = behind_both z [] p.new_objects q.new_objects ∙ ap (λ (l : List CType). behind_all l q.new_objects) r.2 ∙ s.2 in
        (s.0, objects_both z [] true p.new_objects q.new_objects r.1 here, all, each_both (MeetsFunction (program z)) p.new_functions q.new_functions r.3 s.3);
  }

  -- ---- declarations of the file

  file_declaration_good : (before : Made) (x : Declaration) → Good z.structs.completed z.known (walk_declaration z.setting before.scope x)
      (λ b. Built [] before (record { scope = b.scope; objects = before.objects ++ b.objects; functions = before.functions }))
  file_declaration_good before x =
      good_weaken (declaration_good z true (AtFile before.objects) (Goes before.objects) (λ b l i. i.fits) (λ b l i. i.level) (goes_earlier before.objects) (file_step before.objects)
      (λ b l name s a i. with_function_scope (before.objects ++ b.objects) b.scope l name s a i) before.scope x)
      (λ b p. record {
        new_objects = p.new;
        new_functions = [];
        objects = ap (λ (xs : List DeclaredObject). before.objects ++ xs) p.objects;
        functions = sym (append-nil before.functions);
        defined = tt {0};
        meets = λ g i.
            let j = subst (λ (xs : List DeclaredObject). FileScope xs before.scope []) (sym (append-nil before.objects)) i in
            let r = p.meets [] g j in
            (subst (λ (l : List CType). FileScope (before.objects ++ b.objects) b.scope l) r.1.none r.1, r.0, r.1.none, tt {0});
      })

  -- Whatever it makes.
  pub declaration_passes : (before : Made) (x : Declaration) → Good z.structs.completed z.known (walk_declaration z.setting before.scope x) (λ b. Unit {0})
  declaration_passes before x = any_of (file_declaration_good before x)

  -- ---- definitions

  in_top : (l : List CType) (q : ℕ) (top : List Entry) (r s : Meaning) → StandsFor z l q (find_in q top r) → StandsFor z l q s → StandsFor z l q (find_in q top s)
  in_top l q [] r s h i = i
  in_top l q (e ∷ es) r s h i = by (nat_eq e.name q) h (λ k. in_top l q es r s k i)
    where
      by : (b : Bool) → StandsFor z l q (found_or b e.means (find_in q es r)) → (StandsFor z l q (find_in q es r) → StandsFor z l q (find_in q es s)) → StandsFor z l q (found_or b e.means (find_in q es s))
      by true k f = k
      by false k f = f k

  home_from_none : (l : List CType) (h : Home) (t : CType) → Stands (program z) [] h t → Stands (program z) l h t
  home_from_none l (home.Private i) t h = h
  home_from_none l (home.Shared i) t h = h
  home_from_none l (home.Local i) t h = get_kept [] l i t h

  from_none : (l : List CType) (q : ℕ) (x : Meaning) → StandsFor z [] q x → StandsFor z l q x
  from_none l q m.Unknown h = h
  from_none l q (m.Object t place) h = home_from_none l place t h
  from_none l q (m.Function s) h = h
  from_none l q (m.Library call) h = h
  from_none l q (m.Named c) h = h

  outer_entry : (Γ : Env) (name : ℕ) (s : Signature) (q : ℕ) → Among name s z.known → ((q : ℕ) → StandsFor z [] q (find q Γ)) → StandsFor z [] q (find q (with_entry name (m.Function s) Γ))
  outer_entry (Scope level top counts outer) name s q a h = entry_stands z [] name q (m.Function s) (find q (Scope level top counts outer)) (nat_eq name q) refl a (h q)

  outer_fits : (Γ : Env) (l : List CType) (name : ℕ) (s : Signature) → Among name s z.known → Outside z Γ → Fits z Γ l → Fits z (with_outer_entry name s Γ) l
  outer_fits (Scope level top counts NoScope) l name s a o f = f
  outer_fits (Scope level top counts (Within Γ)) l name s a o f = record {
    names = λ q. in_top l q top (find q Γ) (find q (with_entry name (m.Function s) Γ)) (f.names q) (from_none l q (find q (with_entry name (m.Function s) Γ)) (outer_entry Γ name s q a o));
    locals = f.locals;
    agree = f.agree;
    defined = f.defined;
  }

  outer_level : (Γ : Env) (name : ℕ) (s : Signature) → is_file Γ ≡ false → is_file (with_outer_entry name s Γ) ≡ false
  outer_level (Scope level top counts NoScope) name s e = e
  outer_level (Scope level top counts (Within Γ)) name s e = e

  -- The parameters are in scope in a scope of their own.
  abbrev Parametric : Env → Declared → Type 0
  Parametric Γ d = is_file (inside Γ) ≡ false → Fits z (inside Γ) [] → Outside z (inside Γ) → Scoped z d

  definition_built : (before : Made) (place : Place) (name : ℕ) (again differs forms : Bool) (result : CType) (d : Declared) (x : Statement) →
      let s : Signature = record { result = result; parameters = d.types } in
      Among name s z.known → Parametric before.scope d →
      ((l : List CType) → Fits z (with_outer_entry name s d.scope) l → is_file (with_outer_entry name s d.scope) ≡ false → MeetsStatement (program z) (body_around result) l x) →
      Meets (program z) (n.Defines again differs forms s) → Built (name ∷ []) before (with_definition z.setting before place name s x)
  definition_built before place name again differs forms result d x a hd hx h =
      let s : Signature = record { result = result; parameters = d.types } in
      let f : Function = record { at = place; name = spelling z.setting name; result = value_type result; parameters = d.types; body = x } in
      record {
        new_objects = [];
        new_functions = f ∷ [];
        objects = sym (append-nil before.objects);
        functions = refl;
        defined = ((s, a, refl, refl), tt {0});
        meets = λ g i.
            let sc = hd (inside_level before.scope) (within z before.scope [] i.fits) i.fits.names in
            let body = hx d.types (outer_fits d.scope d.types name s a sc.outside sc.fits) (outer_level d.scope name s sc.level) in
            let m : MeetsFunction (program z) f = record { body = body; defined = (again, differs, forms, s, refl, refl, h) } in
            (with_function_scope before.objects before.scope [] name s a i, tt {0}, refl, (m, tt {0}));
      }

  definition_good : (strict : Bool) (before : Made) (place : Place) (forms : Bool) (result : CType) (name : Name) (ps : Parameters) (body : Compound) →
      Good z.structs.completed z.known (walk_definition z.setting strict before place forms result name ps body) (Built (name.number ∷ []) before)
  definition_good strict before place forms result name ps body =
      good_then (parameters_good z (inside before.scope) ps) (λ d.
      let s : Signature = record { result = result; parameters = d.types } in
      good_weaken (noted {P = λ b. Among name.number s z.known → Parametric before.scope d → Built (name.number ∷ []) before b} z.setting before.scope name.number s
      (λ was. andthen (walk_block z.setting (with_outer_entry name.number s d.scope) (body_around result) strict body) (λ x.
      andthen (judge z.setting place (n.Defines was.again was.differs forms s)) (λ v. give (with_definition z.setting before place name.number s x))))
      (λ was. good_then (block_good z (with_outer_entry name.number s d.scope) (body_around result) strict body) (λ x.
      good_then (good_judge {P = λ u. (was.differs ≡ false) × Meets (program z) (n.Defines was.again was.differs forms s)} z.setting place (n.Defines was.again was.differs forms s)
      (λ q e. record { structs = e.structs; functions = e.functions })
      (λ q e h. (no_difference (facts_in z.setting q) was.again was.differs forms s h, met z q (n.Defines was.again was.differs forms s) e h))) (λ v.
      good_give _ (λ h hx. (h.0, λ a hd. definition_built before place name.number was.again was.differs forms result d x a hd hx h.1))))))
      (λ b r hd. r.1 r.0 hd))

  function_good : (strict : Bool) (before : Made) (place : Place) (specs : Specs) (pointers : Pointers) (name : Name) (ps : Parameters) (body : Compound) →
      Good z.structs.completed z.known (walk_function z.setting strict before place specs pointers name ps body) (Built (name.number ∷ []) before)
  function_good strict before place specs pointers name ps body =
      good_then (any_to_their_end z.setting _ (specs_good z before.scope _ specs)) (λ p. good_then (pointers_good z before.scope false _ pointers) (λ t.
      good_weaken (good_enclosed (definition_good strict before place _ _ name ps body)) (λ b r a c. r)))

  externals_good : (strict : Bool) (before : Made) (xs : List External) → Good z.structs.completed z.known (walk_externals z.setting strict before xs) (Built (defined_in xs) before)
  externals_good strict before [] = good_give _ (none_built before)
  externals_good strict before (PragmaPart pragma ∷ xs) =
      good_then (good_give {P = λ b. Built [] before b} before (none_built before)) (λ b. good_weaken (externals_good _ b xs) (λ c q p. both_built [] (defined_in xs) before b c p q))
  externals_good strict before (DeclarationPart declaration ∷ xs) =
      good_then (good_then (file_declaration_good before declaration) (λ b. good_give {P = λ m. Built [] before (record { scope = b.scope; objects = before.objects ++ b.objects; functions = before.functions }) → Built [] before m} _ (λ p. p)))
      (λ b. good_weaken (externals_good _ b xs) (λ c q p. both_built [] (defined_in xs) before b c p q))
  externals_good strict before (FunctionPart specs pointers name ps body ∷ xs) =
      good_then (function_good strict before _ specs pointers name ps body) (λ b. good_weaken (externals_good _ b xs) (λ c q p. both_built (name.number ∷ []) (defined_in xs) before b c p q))

  -- ---- the whole source

  abbrev nothing_made : Made
  nothing_made = record { scope = file; objects = []; functions = [] }

  unit_good : (unit : List External) → Good z.structs.completed z.known (walk_unit z.setting unit)
      (λ made. Built (defined_in unit) nothing_made made × Meets (program z) (n.File (list_any is_main_function made.functions)))
  unit_good unit =
      good_then (externals_good false nothing_made unit) (λ made.
      good_then (good_judge {P = λ u. Meets (program z) (n.File (list_any is_main_function made.functions))} z.setting _ _ (λ s e. e) (λ s e h. met z s _ e h)) (λ u.
      good_give made (λ h b. (b, h))))

-- Where every node of a source meets its rules, and its numbers are in range, what it declares and defines says so.
pub unit_meets : (ξ : Setting) (unit : List External) → ξ.defined ≡ defined_in unit → Fine (walk_unit ξ unit begin).seen →
    MeetsRules (record {
      threads = ξ.threads;
      structs = without_targets (walk_unit ξ unit begin).state.structs;
      objects = (walk_unit ξ unit begin).value.objects;
      functions = (walk_unit ξ unit begin).value.functions;
    })
unit_meets ξ unit same fine =
    let w = walk_unit ξ unit begin in
    let z : Whole = record { setting = ξ; structs = without_targets w.state.structs; objects = w.value.objects; functions = w.value.functions; known = w.state.functions } in
    let r = (unit_good z unit).made begin fine (record { structs = AtEnd; functions = Now }) in
    let b = r.1.0 in
    let agree : Agree z.known = agree_since r.0.functions (tt {0}) in
    let defined : Defined z.known ξ.defined z.functions =
    subst (λ (ns : List ℕ). Defined z.known ns z.functions) (sym same) (subst (λ (fs : List Function). Defined z.known (defined_in unit) fs) (sym b.functions) b.defined) in
    let fits : Fits z file [] = record { names = λ q. tt {0}; locals = refl; agree = agree; defined = defined } in
    let scope : FileScope z [] file [] = record { fits = fits; level = refl; none = refl; privates = refl; shareds = refl } in
    let m = b.meets ([], sym (append-nil w.value.objects)) scope in
    record {
      objects = subst (λ (xs : List DeclaredObject). MeetsObjects (program z) [] true xs) (sym b.objects) m.1;
      functions = subst (λ (fs : List Function). Each (MeetsFunction (program z)) fs) (sym b.functions) m.3;
      file = r.1.1;
    }

-- What an accepted source declares and defines meets the rules.
pub accepted_meets : (names : List (List ℕ)) (threads : ℕ) (unit : List External) (x : Checked) → NumbersFit (tokens_of unit) → outcome names threads unit ≡ Accepted x → MeetsRules x
accepted_meets names threads unit x numbers h =
    let ξ = setting names threads unit in
    let w = walk_unit ξ unit begin in
    let c : Checked = record { threads = threads; structs = without_targets w.state.structs; objects = w.value.objects; functions = w.value.functions } in
    let p = accepted_by (first_fault w.seen) (limit_in w) c x h in
    subst MeetsRules p.2 (unit_meets ξ unit refl (p.0, nodes_fit names threads unit numbers))
