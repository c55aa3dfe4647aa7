use Rattle.std.proofs.Common.{ℕ, Bool, true, List, [], ◌∷◌, ◌++◌, map, Result, Ok, Err, refl, sym, ap, ◌∙◌, subst}
use Rattle.std.proofs.lemmas.Result.{err_from_is_err_and}
use Rattle.upc_text.specs.declared.faults.Stop.{Stop}
use Rattle.upc_text.specs.declared.place.Place.{Place}
use Rattle.upc_tree.specs.declared.span.Name.{Name}
use Rattle.upc_tree.specs.Declaration.{Initial}
use Rattle.upc_tree.specs.layer.Lists.{pointers_of, dimensions_of}
use Rattle.upc_tree.specs.layer.View.{view_pointer, view_dimension}
use Rattle.upc_tree.specs.layer.ViewStatement as trees
use Rattle.upc_types.specs.Types.{CType}
use Rattle.typing_rules.specs.declared.setting.Home.{Home}
use Rattle.typed_tree.specs.declared.tree.Object.{Object}
use Rattle.typing_rules.specs.Faults.{first_fault}
use Rattle.typing_rules.specs.Nodes as n
use Rattle.typing_rules.specs.Nodes.{Formed}
use Rattle.typed_tree.specs.Scopes.{Setting, Env, spelling, is_file, declare, next_home}
use Rattle.typed_tree.specs.Tree.{DeclaredObject}
use Rattle.typed_tree.specs.layer.ViewEnv.{view_env}
use Rattle.typed_tree.specs.ViewStatements.{view_initial, view_object}
use Rattle.typing_rules.specs.layer.Views.{view_formed}
use Rattle.upc_checker_scopes.specs.Known as stands
use Rattle.upc_checker_declarations.specs.Declarations as pure
use Rattle.upc_checker_declarations.specs.Declarations.{Behind}
use Rattle.upc_checker_scopes.specs.layer.Ends.{Stops, Comes, Meets}
use Rattle.upc_checker_scopes.specs.Places.{pointers_place}
use Rattle.upc_checker_types.specs.Shapes.{has_sizes}
use Rattle.upc_checker_expressions.specs.Expressions.{walk_pointers, walk_sizes}
use Rattle.upc_checker_types.specs.Specifiers.{Shaped}
use Rattle.upc_checker_scopes.specs.layer.Views.{view_setting, state_of, state_with}
use Rattle.upc_checker_types.specs.layer.ViewShapes.{view_shaped}
use Rattle.upc_checker_scopes.specs.layer.ViewTags.{view_tags}
use Rattle.upc_checker_scopes.specs.Walk.{Walk, andthen, give, judge}
use Rattle.upc_checker_scopes.proofs.Walks.{goes, stops}
use Rattle.upc_checker_declarations.proofs.declarations.walk_object.Goals as goal

abbrev node : Setting → Env → Name → Formed → n.Node
node ξ Γ name f = n.DeclaresObject (stands.object_again ξ Γ name) (is_file Γ) f

-- What is walked after the stars and the sizes.
abbrev rest : Setting → Behind → Name → Place → Initial → Place → Formed → Walk Behind
rest ξ before name place initial at f =
    let Γ = before.scope in
    andthen (judge ξ at (node ξ Γ name f)) (λ u.
    andthen (pure.walk_initial ξ (declare name.number f.ctype Γ) at true f.ctype initial) (λ i.
    give (pure.with_object before Γ place (spelling ξ name.number) f.ctype (declare name.number f.ctype Γ) i)))

pub returns-in_err-p : goal.returns-in_err-p
returns-in_err-p c = λ objects.
    let ξ = view_setting c.args.setting in
    let Γ = view_env c.args.env.now in
    let s = state_of c.args.tags.now c.args.known.now in
    let stars = pointers_of (map view_pointer c.args.pointers.now) in
    let brackets = dimensions_of (map view_dimension c.args.sizes.now) in
    let t = view_shaped c.args.t.now in
    let wp = λ (b : Bool) (t : Shaped). walk_pointers ξ Γ b t stars in
    let ws = walk_sizes ξ Γ brackets in
    let id = λ (b : Behind). b in
    let e = c.in_err-p.field-0.0 in
    let h = subst (λ (b : Bool). Stops (first_fault (wp b (view_shaped c.in_ok-t.t) s).seen) e) c.has_sizes.ensures c.in_err-p.ensures in
    let hp = subst (λ (t : Shaped). Stops (first_fault (wp (has_sizes brackets) t s).seen) e) c.in_ok-t.ensures h in
    let p = err_from_is_err_and c.from_residual-in_err-p.result c.from_residual-in_err-p.ensures.1 in
    rw (p.1, p.2) (stops id (wp (has_sizes brackets) t) _ s s e hp)

pub returns-in_err-sizes : goal.returns-in_err-sizes
returns-in_err-sizes c = λ objects.
    let ξ = view_setting c.args.setting in
    let Γ = view_env c.args.env.now in
    let s = state_of c.args.tags.now c.args.known.now in
    let stars = pointers_of (map view_pointer c.args.pointers.now) in
    let brackets = dimensions_of (map view_dimension c.args.sizes.now) in
    let t = view_shaped c.args.t.now in
    let wp = λ (b : Bool) (t : Shaped). walk_pointers ξ Γ b t stars in
    let ws = walk_sizes ξ Γ brackets in
    let id = λ (b : Behind). b in
    let s1 = state_of c.walk_pointers.new.tags c.walk_pointers.new.known in
    let p1 = view_shaped c.in_ok-p.p in
    let h = subst (λ (b : Bool). Comes (wp b (view_shaped c.in_ok-t.t) s) s1 p1) c.has_sizes.ensures c.in_ok-p.ensures in
    let hp = subst (λ (t : Shaped). Comes (wp (has_sizes brackets) t s) s1 p1) c.in_ok-t.ensures h in
    let e = c.in_err-sizes.field-0.0 in
    let p = err_from_is_err_and c.from_residual-in_err-sizes.result c.from_residual-in_err-sizes.ensures.1 in
    rw (p.1, p.2) (goes id (wp (has_sizes brackets) t) _ s s1 s1 p1 (Err e) hp (stops id ws _ s1 s1 e c.in_err-sizes.ensures))

pub returns-in_err-judge_object : goal.returns-in_err-judge_object
returns-in_err-judge_object c = λ objects.
    let ξ = view_setting c.args.setting in
    let Γ = view_env c.args.env.now in
    let s = state_of c.args.tags.now c.args.known.now in
    let stars = pointers_of (map view_pointer c.args.pointers.now) in
    let brackets = dimensions_of (map view_dimension c.args.sizes.now) in
    let t = view_shaped c.args.t.now in
    let wp = λ (b : Bool) (t : Shaped). walk_pointers ξ Γ b t stars in
    let ws = walk_sizes ξ Γ brackets in
    let id = λ (b : Behind). b in
    let s1 = state_of c.walk_pointers.new.tags c.walk_pointers.new.known in
    let p1 = view_shaped c.in_ok-p.p in
    let h = subst (λ (b : Bool). Comes (wp b (view_shaped c.in_ok-t.t) s) s1 p1) c.has_sizes.ensures c.in_ok-p.ensures in
    let hp = subst (λ (t : Shaped). Comes (wp (has_sizes brackets) t s) s1 p1) c.in_ok-t.ensures h in
    let s2 = state_of c.walk_sizes.new.tags c.walk_sizes.new.known in
    let ns = c.in_ok-sizes.sizes.items in
    let before : Behind = record { scope = Γ; objects = objects } in
    let initial = trees.view_initial c.args.initial.now in
    let go = rest ξ before c.args.name c.args.place initial in
    let f = view_formed c.in_ok-f.f in
    let at = c.pointers_place-at.result in
    let place = pointers_place stars c.args.name in
    let e = c.in_err-judge_object.field-0.0 in
    let r : Result Behind Stop = Err e in
    let h0 = stops id (judge ξ at (node ξ Γ c.args.name f)) _ s2 s2 e (c.in_err-judge_object.ensures (view_tags c.walk_sizes.new.tags)) in
    let h1 = subst (λ (at : Place). Meets id (go at f s2) s2 r) c.pointers_place-at.ensures h0 in
    let h2 = subst (λ (f : Formed). Meets id (go place f s2) s2 r) c.in_ok-f.ensures h1 in
    let p = err_from_is_err_and c.from_residual-in_err-judge_object.result c.from_residual-in_err-judge_object.ensures.1 in
    rw (p.1, p.2) (goes id (wp (has_sizes brackets) t) _ s s1 s2 p1 r hp (goes id ws _ s1 s2 s2 ns r c.in_ok-sizes.ensures h2))

pub returns-in_err-initial : goal.returns-in_err-initial
returns-in_err-initial c = λ objects.
    let ξ = view_setting c.args.setting in
    let Γ = view_env c.args.env.now in
    let s = state_of c.args.tags.now c.args.known.now in
    let stars = pointers_of (map view_pointer c.args.pointers.now) in
    let brackets = dimensions_of (map view_dimension c.args.sizes.now) in
    let t = view_shaped c.args.t.now in
    let wp = λ (b : Bool) (t : Shaped). walk_pointers ξ Γ b t stars in
    let ws = walk_sizes ξ Γ brackets in
    let id = λ (b : Behind). b in
    let s1 = state_of c.walk_pointers.new.tags c.walk_pointers.new.known in
    let p1 = view_shaped c.in_ok-p.p in
    let h = subst (λ (b : Bool). Comes (wp b (view_shaped c.in_ok-t.t) s) s1 p1) c.has_sizes.ensures c.in_ok-p.ensures in
    let hp = subst (λ (t : Shaped). Comes (wp (has_sizes brackets) t s) s1 p1) c.in_ok-t.ensures h in
    let s2 = state_of c.walk_sizes.new.tags c.walk_sizes.new.known in
    let ns = c.in_ok-sizes.sizes.items in
    let before : Behind = record { scope = Γ; objects = objects } in
    let initial = trees.view_initial c.args.initial.now in
    let go = rest ξ before c.args.name c.args.place initial in
    let f = view_formed c.in_ok-f.f in
    let at = c.pointers_place-at.result in
    let place = pointers_place stars c.args.name in
    let tags = view_tags c.walk_sizes.new.tags in
    let s3 = state_with tags c.judge_object.new.known in
    let wi = λ (Δ : Env). pure.walk_initial ξ Δ at true f.ctype initial in
    let env = c.in_ok-declare.ensures.ok ∙ ap (λ (t : CType). declare c.args.name.number t Γ) c.in_ok-copy.ensures in
    let e = c.in_err-initial.field-0.0 in
    let r : Result Behind Stop = Err e in
    let hi = subst (λ (Δ : Env). Stops (first_fault (wi Δ s3).seen) e) env c.in_err-initial.ensures in
    let h0 = goes id (judge ξ at (node ξ Γ c.args.name f)) _ s2 s3 s3 (tt {0}) r (c.in_ok-judge_object.ensures tags) (stops id (wi (declare c.args.name.number f.ctype Γ)) _ s3 s3 e hi) in
    let h1 = subst (λ (at : Place). Meets id (go at f s2) s3 r) c.pointers_place-at.ensures h0 in
    let h2 = subst (λ (f : Formed). Meets id (go place f s2) s3 r) c.in_ok-f.ensures h1 in
    let p = err_from_is_err_and c.from_residual-in_err-initial.result c.from_residual-in_err-initial.ensures.1 in
    rw (p.1, p.2) (goes id (wp (has_sizes brackets) t) _ s s1 s3 p1 r hp (goes id ws _ s1 s2 s3 ns r c.in_ok-sizes.ensures h2))

pub returns : goal.returns
returns c = λ objects.
    let ξ = view_setting c.args.setting in
    let Γ = view_env c.args.env.now in
    let s = state_of c.args.tags.now c.args.known.now in
    let stars = pointers_of (map view_pointer c.args.pointers.now) in
    let brackets = dimensions_of (map view_dimension c.args.sizes.now) in
    let t = view_shaped c.args.t.now in
    let wp = λ (b : Bool) (t : Shaped). walk_pointers ξ Γ b t stars in
    let ws = walk_sizes ξ Γ brackets in
    let id = λ (b : Behind). b in
    let s1 = state_of c.walk_pointers.new.tags c.walk_pointers.new.known in
    let p1 = view_shaped c.in_ok-p.p in
    let h = subst (λ (b : Bool). Comes (wp b (view_shaped c.in_ok-t.t) s) s1 p1) c.has_sizes.ensures c.in_ok-p.ensures in
    let hp = subst (λ (t : Shaped). Comes (wp (has_sizes brackets) t s) s1 p1) c.in_ok-t.ensures h in
    let s2 = state_of c.walk_sizes.new.tags c.walk_sizes.new.known in
    let ns = c.in_ok-sizes.sizes.items in
    let before : Behind = record { scope = Γ; objects = objects } in
    let initial = trees.view_initial c.args.initial.now in
    let go = rest ξ before c.args.name c.args.place initial in
    let f = view_formed c.in_ok-f.f in
    let at = c.pointers_place-at.result in
    let place = pointers_place stars c.args.name in
    let tags = view_tags c.walk_sizes.new.tags in
    let s3 = state_with tags c.judge_object.new.known in
    let wi = λ (Δ : Env). pure.walk_initial ξ Δ at true f.ctype initial in
    let env = c.in_ok-declare.ensures.ok ∙ ap (λ (t : CType). declare c.args.name.number t Γ) c.in_ok-copy.ensures in
    let s4 = state_of c.walk_initial.new.tags c.walk_initial.new.known in
    let i = view_initial c.in_ok-initial.initial in
    let x : Object = record { place = c.args.place; name = c.in_ok-text.text; home = c.in_ok-home.home; ctype = c.in_ok-f.f.ctype; initial = c.in_ok-initial.initial } in
    let r : Result Object Stop = Ok x in
    let hi = subst (λ (Δ : Env). Comes (wi Δ s3) s4 i) env c.in_ok-initial.ensures in
    let with = λ (Δ : Env) (h : Home) (name : List ℕ).
    let y : DeclaredObject = record { at = c.args.place; name = name; home = h; ctype = f.ctype; initial = i } in
    let b : Behind = record { scope = Δ; objects = objects ++ (y ∷ []) } in
    b in
    let seen = λ (x : Object). let b : Behind = record { scope = view_env c.declare.new.env; objects = objects ++ (view_object x ∷ []) } in b in
    let text = c.in_ok-text.ensures ∙ c.spelling.ensures in
    let word = spelling ξ c.args.name.number in
    let same = ap (λ Δ. with Δ (next_home f.ctype Γ) word) (sym env) ∙ ap (λ h. with (view_env c.declare.new.env) h word) (sym c.in_ok-home.ensures) ∙ ap (with (view_env c.declare.new.env) c.in_ok-home.home) (sym text) in
    let h0 = goes seen (judge ξ at (node ξ Γ c.args.name f)) _ s2 s3 s4 (tt {0}) r (c.in_ok-judge_object.ensures tags)
    (goes seen (wi (declare c.args.name.number f.ctype Γ)) _ s3 s4 s4 i r hi (record { fine = refl; state = refl; value = same })) in
    let h1 = subst (λ (at : Place). Meets seen (go at f s2) s4 r) c.pointers_place-at.ensures h0 in
    let h2 = subst (λ (f : Formed). Meets seen (go place f s2) s4 r) c.in_ok-f.ensures h1 in
    goes seen (wp (has_sizes brackets) t) _ s s1 s4 p1 r hp (goes seen ws _ s1 s2 s4 ns r c.in_ok-sizes.ensures h2)
