-- Declarations of which every node meets its rules: the walk makes objects that say so.
use Rattle.std.proofs.Common.{◌≡◌, ℕ, Bool, true, false, List, [], ◌∷◌, ◌++◌, length, Option, Some, None, refl, sym, ap, ◌∙◌, subst, append_assoc, append-nil}
use Rattle.upc_text.specs.declared.place.Place.{Place}
use Rattle.upc_tree.specs.Expression as t
use Rattle.upc_tree.specs.Expression.{NextExprs, NoNextExprs, AndExpr, ObjectDeclarator, FunctionDeclarator}
use Rattle.upc_tree.specs.Declaration as d
use Rattle.upc_tree.specs.Declaration.{Declaration, Declares, DeclaredList, NoneDeclared, SomeDeclared, NextDeclareds, NoNextDeclareds, AndDeclared, DeclaredAs}
use Rattle.upc_types.specs.Types.{CType, base_of}
use Rattle.typing_rules.specs.declared.setting.Home.{Home}
use Rattle.typing_rules.specs.declared.setting.Home.TheVariants as home
use Rattle.typing_rules.specs.Library.{int}
use Rattle.typing_rules.specs.Values.{base_target}
use Rattle.typing_rules.specs.Meanings as m
use Rattle.typing_rules.specs.Meanings.{Signature}
use Rattle.typing_rules.specs.Nodes as n
use Rattle.typing_rules.specs.Nodes.{Use, Formed}
use Rattle.typing_rules.specs.Rules.{is_called}
use Rattle.typed_tree.specs.Scopes.{Env, Scope, spelling, is_file, next_home, declare, with_entry, inside}
use Rattle.typed_tree.specs.Tree as k
use Rattle.typed_tree.specs.Tree.{Expr, Exprs, DeclaredObject, attr_of, attrs_of}
use Rattle.upc_checker_scopes.specs.Known.{object_again}
use Rattle.upc_checker_scopes.specs.Places.{pointers_place}
use Rattle.upc_checker_types.specs.Specifiers.{Shaped, formed}
use Rattle.upc_checker_declarations.specs.Declarations.{initial_constant, walk_initial_value, walk_initial_values, element_use, walk_initial, Behind, walk_declared, walk_next_declareds, walk_declared_list, walk_declaration, signature_of}
use Rattle.typed_tree.specs.layer.Judged.{Meets, Stands}
use Rattle.typed_tree.specs.layer.TypedNodes.{MeetsExpr, MeetsConstant, MeetsValues, MeetsInitial, MeetsObject, MeetsObjects, in_scope, behind, behind_all}
use Rattle.upc_checker.proofs.Passing.{Among, Good, good_then, good_give, good_judge, any_judge, any_to_their_end, good_enclosed, good_weaken, good_declares}
use Rattle.upc_checker.proofs.TypedExpressions.{Whole, program, Fits, good, specs_good, pointers_good, sizes_good, parameters_good, constantly_good, met, with_name, declare_fits, declare_level, next_local, get_last}

element_plain : (o : Option CType) → is_called (element_use o) ≡ false
element_plain None = refl
element_plain (Some t) = refl

module _ (z : Whole) where
  -- ---- initialisers

  initial_constant_good : (file : Bool) (x : Expr) → Good z.structs.completed z.known (initial_constant z.setting file x) (λ u. MeetsConstant (program z) file x)
  initial_constant_good true x = good_then (constantly_good z x) (λ c. good_give _ (λ h. h.0))
  initial_constant_good false x = good_give _ (tt {0})

  initial_value_good : (Γ : Env) (file : Bool) (how : Use) (value : t.Expr) → Good z.structs.completed z.known (walk_initial_value z.setting Γ file how value)
      (λ x. (l : List CType) → Fits z Γ l → is_called how ≡ false → MeetsExpr (program z) l how x × MeetsConstant (program z) file x)
  initial_value_good Γ file how value = good_then (good z Γ how value) (λ x. good_then (initial_constant_good file x) (λ u. good_give _ (λ i j l f c. (j l f c, i))))

  initial_values_good : (Γ : Env) (file : Bool) (how : Use) (values : NextExprs) → Good z.structs.completed z.known (walk_initial_values z.setting Γ file how values)
      (λ xs. (l : List CType) → Fits z Γ l → is_called how ≡ false → MeetsValues (program z) l file how xs)
  initial_values_good Γ file how NoNextExprs = good_give _ (λ l f c. tt {0})
  initial_values_good Γ file how (AndExpr comma value more) =
      good_then (initial_value_good Γ file how value) (λ x. good_then (initial_values_good Γ file how more) (λ xs.
      good_give _ (λ j i l f c. let p = i l f c in (p.0, p.1, j l f c))))

  initial_good : (Γ : Env) (place : Place) (object : Bool) (type : CType) (x : d.Initial) → Good z.structs.completed z.known (walk_initial z.setting Γ place object type x)
      (λ i. (l : List CType) → Fits z Γ l → object ≡ true → MeetsInitial (program z) l (is_file Γ) type i)
  initial_good Γ place object type d.NoInitial = good_give _ (λ l f o. tt {0})
  initial_good Γ place object type (d.ValueInitial equal value) =
      good_then (initial_value_good Γ (is_file Γ) (n.Into type) value) (λ x.
      good_then (good_judge {P = λ u. Meets (program z) (n.InitialValue (is_file Γ) object type (attr_of x))} z.setting _ _ (λ s e. e) (λ s e h. met z s _ e h)) (λ u.
      good_give _ (λ h i l f o. let p = i l f refl in (subst (λ (b : Bool). Meets (program z) (n.InitialValue (is_file Γ) b type (attr_of x))) o h, p.0, p.1))))
  initial_good Γ place object type (d.ListInitial equal left first more right) =
      let how = element_use (base_target (base_of type)) in
      good_then (initial_value_good Γ (is_file Γ) how first) (λ x. good_then (initial_values_good Γ (is_file Γ) how more) (λ xs.
      good_then (good_judge {P = λ u. Meets (program z) (n.InitialList (is_file Γ) object type (attrs_of (k.AndExpr x xs)))} z.setting _ _ (λ s e. e) (λ s e h. met z s _ e h)) (λ u.
      good_give _ (λ h j i l f o.
      let c = element_plain (base_target (base_of type)) in
      let p = i l f c in
      (subst (λ (b : Bool). Meets (program z) (n.InitialList (is_file Γ) b type (attrs_of (k.AndExpr x xs)))) o h, (p.0, p.1, j l f c))))))

  -- ---- several objects

  pub objects_both : (l : List CType) (file : Bool) (xs ys : List DeclaredObject) → MeetsObjects (program z) l file xs → MeetsObjects (program z) (behind_all l xs) file ys →
      MeetsObjects (program z) l file (xs ++ ys)
  objects_both l file [] ys h i = i
  objects_both l file (x ∷ xs) ys h i = (h.0, objects_both (behind l x) file xs ys h.1 i)

  pub behind_both : (l : List CType) (xs ys : List DeclaredObject) → behind_all l (xs ++ ys) ≡ behind_all (behind_all l xs) ys
  behind_both l [] ys = refl
  behind_both l (x ∷ xs) ys = behind_both (behind l x) xs ys

  -- What holds of declarations at file scope or in a function: `Inv` of what is declared so far, with the types of the
  -- objects in scope in the function, where the source goes on as `Ahead` says.
  module _ (file : Bool) (Inv : Behind → List CType → Type 0) (Ahead : List DeclaredObject → Type 0)
      (fits : (b : Behind) (l : List CType) → Inv b l → Fits z b.scope l)
      (level : (b : Behind) (l : List CType) → Inv b l → is_file b.scope ≡ file)
      (earlier : (xs ys : List DeclaredObject) → Ahead (xs ++ ys) → Ahead xs)
      (step : (b : Behind) (l : List CType) (x : DeclaredObject) (name : ℕ) → x.home ≡ next_home x.ctype b.scope → Ahead (b.objects ++ (x ∷ [])) → Inv b l →
      Inv (record { scope = declare name x.ctype b.scope; objects = b.objects ++ (x ∷ []) }) (behind l x) × Stands (program z) (behind l x) x.home x.ctype)
      (prototype : (b : Behind) (l : List CType) (name : ℕ) (s : Signature) → Among name s z.known → Inv b l →
      Inv (record { scope = with_entry name (m.Function s) b.scope; objects = b.objects }) l) where
    -- So many objects come in after others.
    pub record Produced (before b : Behind) : Type 0 where
      pub new : List DeclaredObject
      pub objects : b.objects ≡ before.objects ++ new
      pub meets : (l : List CType) → Ahead b.objects → Inv before l → MeetsObjects (program z) l file new × Inv b (behind_all l new)

    none_produced : (b : Behind) → Produced b b
    none_produced b = record { new = []; objects = sym (append-nil b.objects); meets = λ l a i. (tt {0}, i) }

    both_produced : (a b c : Behind) → Produced a b → Produced b c → Produced a c
    both_produced a b c p q = record {
      new = p.new ++ q.new;
      objects = q.objects ∙ ap (λ (xs : List DeclaredObject). xs ++ q.new) p.objects ∙ append_assoc a.objects p.new q.new;
      meets = λ l ahead i.
          let r = p.meets l (earlier b.objects q.new (subst Ahead q.objects ahead)) i in
          let s = q.meets (behind_all l p.new) ahead r.1 in
          (objects_both l file p.new q.new r.0 s.0, subst (Inv c) (sym (behind_both l p.new q.new)) s.1);
    }

    object_produced : (before : Behind) (x : DeclaredObject) (name : ℕ) → x.home ≡ next_home x.ctype before.scope →
        ((again : Bool) × (f : Formed) × (f.ctype ≡ x.ctype) × Meets (program z) (n.DeclaresObject again (is_file before.scope) f)) →
        ((l : List CType) → Fits z (declare name x.ctype before.scope) l → MeetsInitial (program z) l (is_file (declare name x.ctype before.scope)) x.ctype x.initial) →
        Produced before (record { scope = declare name x.ctype before.scope; objects = before.objects ++ (x ∷ []) })
    object_produced before x name home dec initial = record {
      new = x ∷ [];
      objects = refl;
      meets = λ l ahead i.
          let b : Behind = record { scope = declare name x.ctype before.scope; objects = before.objects ++ (x ∷ []) } in
          let q = step before l x name home ahead i in
          let o : MeetsObject (program z) l file x = record {
            stands = q.1;
            declared = (dec.0, dec.1, dec.2, subst (λ (f : Bool). Meets (program z) (n.DeclaresObject dec.0 f dec.1)) (level before l i) dec.3);
            initial = subst (λ (f : Bool). MeetsInitial (program z) (behind l x) f x.ctype x.initial) (level b (behind l x) q.0) (initial (behind l x) (fits b (behind l x) q.0));
          } in
          ((o, tt {0}), q.0);
    }

    function_produced : (before : Behind) (name : ℕ) (s : Signature) → Among name s z.known → Produced before (record { scope = with_entry name (m.Function s) before.scope; objects = before.objects })
    function_produced before name s a = record {
      new = [];
      objects = sym (append-nil before.objects);
      meets = λ l ahead i. (tt {0}, prototype before l name s a i);
    }

    declared_good : (place : Place) (type : Shaped) (before : Behind) (x : d.Declared) → Good z.structs.completed z.known (walk_declared z.setting place type before x) (Produced before)
    declared_good place type before (DeclaredAs (ObjectDeclarator pointers name sizes) initial) =
        good_then (pointers_good z before.scope _ type pointers) (λ p. good_then (sizes_good z before.scope sizes) (λ ns.
        let f = formed z.setting.threads p ns in
        let again = object_again z.setting before.scope name in
        good_then (good_judge {P = λ u. Meets (program z) (n.DeclaresObject again (is_file before.scope) f)} z.setting _ _ (λ s e. record { structs = e.structs; functions = e.functions }) (λ s e h. met z s _ e h)) (λ u.
        good_then (initial_good (declare name.number f.ctype before.scope) (pointers_place pointers name) true f.ctype initial) (λ i.
        let x : DeclaredObject = record { at = place; name = spelling z.setting name.number; home = next_home f.ctype before.scope; ctype = f.ctype; initial = i } in
        good_give _ (λ mi mu mns mp. object_produced before x name.number refl (again, f, refl, mu) (λ l fit. mi l fit refl))))))
    declared_good place type before (DeclaredAs (FunctionDeclarator pointers name ps) initial) =
        good_then (pointers_good z before.scope false type pointers) (λ p. good_then (good_enclosed (parameters_good z (inside before.scope) ps)) (λ ds.
        let s = signature_of p ds in
        good_then (good_declares z.setting before.scope (pointers_place pointers name) name.number p.forms s) (λ u.
        good_then (initial_good (with_entry name.number (m.Function s) before.scope) (pointers_place pointers name) false int initial) (λ i.
        good_give _ (λ mi a mds mp. function_produced before name.number s a)))))

    next_declareds_good : (place : Place) (type : Shaped) (before : Behind) (x : NextDeclareds) → Good z.structs.completed z.known (walk_next_declareds z.setting place type before x) (Produced before)
    next_declareds_good place type before NoNextDeclareds = good_give _ (none_produced before)
    next_declareds_good place type before (AndDeclared comma x more) =
        good_then (declared_good place type before x) (λ b. good_weaken (next_declareds_good place type b more) (λ c q p. both_produced before b c p q))

    declared_list_good : (place : Place) (type : Shaped) (before : Behind) (x : DeclaredList) → Good z.structs.completed z.known (walk_declared_list z.setting place type before x) (Produced before)
    declared_list_good place type before NoneDeclared = good_give _ (none_produced before)
    declared_list_good place type before (SomeDeclared first more) =
        good_then (declared_good place type before first) (λ b. good_weaken (next_declareds_good place type b more) (λ c q p. both_produced before b c p q))

    pub declaration_good : (Γ : Env) (x : Declaration) → Good z.structs.completed z.known (walk_declaration z.setting Γ x) (Produced (record { scope = Γ; objects = [] }))
    declaration_good Γ (Declares specs list semicolon) =
        good_then (any_to_their_end z.setting _ (specs_good z Γ _ specs)) (λ p. good_then (declared_list_good _ _ (record { scope = Γ; objects = [] }) list) (λ b.
        good_then (any_judge z.setting _ _ (λ s e. record { structs = e.structs; functions = e.functions })) (λ u. good_give _ (λ a q c. q))))

  -- ---- in a function

  abbrev pub InFunction : Behind → List CType → Type 0
  InFunction b l = Fits z b.scope l × (is_file b.scope ≡ false)

  abbrev pub Whatever : List DeclaredObject → Type 0
  Whatever xs = Unit {0}

  local_scope : (b : Behind) (l : List CType) (x : DeclaredObject) → x.home ≡ next_home x.ctype b.scope → InFunction b l → x.home ≡ home.Local (length l)
  local_scope b l x h i = h ∙ next_local z b.scope l x.ctype i.1 i.0

  local_step : (b : Behind) (l : List CType) (x : DeclaredObject) (name : ℕ) → x.home ≡ next_home x.ctype b.scope → Whatever (b.objects ++ (x ∷ [])) → InFunction b l →
      InFunction (record { scope = declare name x.ctype b.scope; objects = b.objects ++ (x ∷ []) }) (behind l x) × Stands (program z) (behind l x) x.home x.ctype
  local_step b l x name h a i =
      let e = local_scope b l x h i in
      let same : in_scope x.home x.ctype l ≡ l ++ (x.ctype ∷ []) = ap (λ (y : Home). in_scope y x.ctype l) e in
      let f : Fits z (declare name x.ctype b.scope) (behind l x) = subst (Fits z (declare name x.ctype b.scope)) (sym same) (declare_fits z b.scope l name x.ctype i.1 i.0) in
      let s : Stands (program z) (behind l x) x.home x.ctype =
      subst (λ (y : Home). Stands (program z) (in_scope y x.ctype l) y x.ctype) (sym e) (get_last l x.ctype) in
      ((f, declare_level z b.scope name x.ctype i.1), s)

  level_with : (Γ : Env) (name : ℕ) (x : m.Meaning) → is_file Γ ≡ false → is_file (with_entry name x Γ) ≡ false
  level_with (Scope level top counts outer) name x e = e

  pub local_declaration_good : (Γ : Env) (x : Declaration) → Good z.structs.completed z.known (walk_declaration z.setting Γ x)
      (λ b. (l : List CType) → Fits z Γ l → is_file Γ ≡ false → MeetsObjects (program z) l false b.objects × Fits z b.scope (behind_all l b.objects) × (is_file b.scope ≡ false))
  local_declaration_good Γ x =
      good_weaken (declaration_good false InFunction Whatever (λ b l i. i.0) (λ b l i. i.1) (λ xs ys a. tt {0}) local_step
      (λ b l name s a i. (with_name z b.scope l name (m.Function s) a i.0, level_with b.scope name (m.Function s) i.1)) Γ x)
      (λ b p l f e.
      let r = p.meets l (tt {0}) (f, e) in
      let o = subst (λ (xs : List DeclaredObject). MeetsObjects (program z) l false xs × InFunction b (behind_all l xs)) (sym p.objects) r in
      (o.0, o.1.0, o.1.1))
