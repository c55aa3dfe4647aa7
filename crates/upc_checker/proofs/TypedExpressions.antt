-- Expressions of which every node meets its rules: the walk makes a tree that says so.
use Rattle.std.proofs.Common.{◌≡◌, ℕ, zero, suc, ◌+◌, ◌==◌, nat_eq, Bool, true, false, ◌&&◌, not, if◌then◌else◌, List, [], ◌∷◌, ◌++◌, length, map, Option, Some, None, slice_get, refl, sym, ap, ◌∙◌, inl, inr, subst, arith}
use Rattle.std.specs.List.{list_any}
use Rattle.std.proofs.lemmas.Bool.{eqb-true, eq-eqb, or_parts, and_parts}
use Rattle.std.proofs.lemmas.List.{length-append}
use Rattle.upc_text.specs.declared.place.Place.{Place}
use Rattle.upc_lexer.specs.declared.token.NumberKind.{NumberKind}
use Rattle.upc_lexer.specs.declared.token.NumberKind.TheVariants as number
use Rattle.upc_tree.specs.declared.mark.MemberMark.{MemberMark}
use Rattle.upc_tree.specs.declared.mark.MemberMark.TheVariants.{Dot, Arrow}
use Rattle.upc_tree.specs.declared.mark.UnaryMark.{UnaryMark}
use Rattle.upc_tree.specs.declared.mark.UnaryMark.TheVariants as u
use Rattle.upc_tree.specs.declared.mark.BinaryMark.{BinaryMark}
use Rattle.upc_tree.specs.declared.mark.BinaryMark.TheVariants as b
use Rattle.upc_tree.specs.declared.mark.AssignMark.{AssignMark}
use Rattle.upc_tree.specs.declared.mark.AssignMark.TheVariants as a
use Rattle.upc_tree.specs.declared.mark.ConstantWord.{ConstantWord}
use Rattle.upc_tree.specs.declared.mark.ConstantWord.TheVariants as w
use Rattle.upc_tree.specs.declared.span.Name.{Name}
use Rattle.upc_tree.specs.Expression as t
use Rattle.upc_tree.specs.Expression.{Named, Number, Character, Strings, Constant, Paren, Subscript, Call, MemberOf, Postfix, Unary, SizeOfExpr, SizeOfType, Cast, Binary, Assign, Conditional, Comma, Arguments, NoArguments, SomeArguments, NextExprs, NoNextExprs, AndExpr, TypeName, Typed, Specs, NoSpecs, AndSpec, Spec, WordSpec, QualSpec, TagSpec, StructSpec, Quals, NoQuals, AndQual, Qual, Const, Strict, Relaxed, Shared, Layout, NoLayout, IndefiniteLayout, StarLayout, BlockLayout, Pointers, NoPointers, AndPointer, Dimensions, NoDimensions, AndDimension, Members, NoMembers, AndMember, NextDeclarators, NoNextDeclarators, AndDeclarator, Declarator, ObjectDeclarator, FunctionDeclarator, Parameters, NoParameters, VoidParameters, SomeParameters, Parameter, Parametric, NextParameters, NoNextParameters, AndParameter, ParameterArray, NoArray, UnsizedArray, SizedArray}
use Rattle.upc_types.specs.Types.{CType, Member, Structs}
use Rattle.upc_values.specs.declared.library.LibraryCall.{LibraryCall}
use Rattle.upc_values.specs.declared.library.LibraryCall.TheVariants.{Printf}
use Rattle.typing_rules.specs.declared.library.LibraryConstant.{LibraryConstant}
use Rattle.typing_rules.specs.declared.setting.Home.{Home}
use Rattle.typing_rules.specs.declared.setting.Home.TheVariants as home
use Rattle.typing_rules.specs.Attributes.{Facts, attr}
use Rattle.typing_rules.specs.Library.{call_named, constant_named}
use Rattle.typing_rules.specs.Values.{value_type}
use Rattle.typing_rules.specs.Meanings as m
use Rattle.typing_rules.specs.Meanings.{Meaning, Signature}
use Rattle.typing_rules.specs.Nodes as n
use Rattle.typing_rules.specs.Nodes.{Attr, Node, Use, Formed}
use Rattle.typing_rules.specs.Rules.{lowest, or_above, is_called}
use Rattle.typed_tree.specs.Scopes.{Setting, Env, Scope, Outer, NoScope, Within, State, KnownFunction, same_signature, differs, spelling, meaning, find, found_or, or_library, library_call, is_file, inside, next_home, declare, declare_unnamed, with_entry, with_count, counts_of}
use Rattle.typed_tree.specs.Tree as k
use Rattle.typed_tree.specs.Tree.{Expr, ExprKind, Exprs, DeclaredObject, Function, attr_of, attrs_of, place_of}
use Rattle.typed_tree.specs.Programs.{Checked}
use Rattle.upc_checker_scopes.specs.Defined.{number_in}
use Rattle.upc_checker_scopes.specs.Known.{is_main}
use Rattle.upc_checker_scopes.specs.Places.{at}
use Rattle.upc_checker_scopes.specs.Walk.{Walk, facts_in}
use Rattle.upc_checker_types.specs.Specifiers.{Shaped}
use Rattle.upc_checker_types.specs.Shapes.{Specifying, adjusted}
use Rattle.upc_checker_types.specs.Members.{Declared, with_parameter}
use Rattle.upc_checker_nodes.specs.Called.{called_name, called_by, runs_by, target_by, name_kind, uses_by, first_use, later_uses}
use Rattle.upc_checker_nodes.specs.Marks.{unary_node, unary_kind, binary_node, binary_kind, right_use, assign_node, assign_kind, number_kind}
use Rattle.upc_checker_nodes.specs.Parts.{member_of, member_kind, constant_node, constant_kind, format_in}
use Rattle.upc_checker_expressions.specs.Expressions.{constantly, walk, walk_arguments, walk_more, walk_type, walk_specs, walk_spec, walk_quals, walk_qual, walk_layout, walk_pointers, walk_sizes, walk_members, walk_next_members, walk_member, walk_parameters, walk_next_parameters, walk_parameter, walk_array}
use Rattle.typed_tree.specs.layer.Judged.{IsNumberKind, Meets, Judged, Stands}
use Rattle.typed_tree.specs.layer.TypedNodes.{MeetsExpr, MeetsKind, MeetsExprs}
use Rattle.upc_checker_scopes.proofs.SameTypes.{Alike, alike_from}
use Rattle.upc_checker.proofs.Passing.{Among, Agree, Ends, Good, good_then, any_then, good_give, any_give, good_judge, any_judge, any_to_their_end, good_number, good_finish, good_enclosed, good_refer, good_open, good_close, good_weaken}

-- ---- lists

pub get_kept : {X : Type 0} (xs ys : List X) (i : ℕ) (x : X) → slice_get xs i ≡ Some x → slice_get (xs ++ ys) i ≡ Some x
get_kept [] ys i x h = absurd cc
get_kept (y ∷ xs) ys zero x h = h
get_kept (y ∷ xs) ys (suc i) x h = get_kept xs ys i x h

pub get_last : {X : Type 0} (xs : List X) (x : X) → slice_get (xs ++ (x ∷ [])) (length xs) ≡ Some x
get_last [] x = refl
get_last (y ∷ xs) x = get_last xs x

get_behind : {X : Type 0} (x y : X) (xs : List X) (i : ℕ) → slice_get xs i ≡ Some y → slice_get (x ∷ xs) (i + 1) ≡ Some y
get_behind x y xs i h = let e : i + 1 ≡ suc i = omega arith in ap (slice_get (x ∷ xs)) e ∙ h

-- ---- functions that are called

over : (r : ℕ) (broken : Bool) (rest : Option ℕ) → or_above r broken rest ≡ None → broken ≡ false
over r true rest h = absurd cc
over r false rest h = refl

not_not : (b : Bool) → not b ≡ false → b ≡ true
not_not true h = refl
not_not false h = absurd cc

-- ---- functions of one name

not_differing : (name : ℕ) (s t : Signature) (fs : List KnownFunction) → differs name s fs ≡ false → Among name t fs → same_signature t s ≡ true
not_differing name s t [] h a = absurd a
not_differing name s t (f ∷ fs) h (inl e) =
    let p = or_parts (nat_eq f.name name && not (same_signature f.signature s)) (differs name s fs) h in
    let q : (nat_eq f.name name && not (same_signature f.signature s)) ≡ false = p.0 in
    not_not (same_signature t s) (subst (λ (g : Signature). not (same_signature g s) ≡ false) e.1 (second (nat_eq f.name name) (not (same_signature f.signature s)) (eq-eqb f.name name e.0) q))
  where
    second : (b c : Bool) → b ≡ true → (b && c) ≡ false → c ≡ false
    second true c h g = g
    second false c h g = absurd cc
not_differing name s t (f ∷ fs) h (inr a) =
    let p = or_parts (nat_eq f.name name && not (same_signature f.signature s)) (differs name s fs) h in
    not_differing name s t fs p.1 a

-- Two that were declared under one name are alike.
pub all_alike : (fs : List KnownFunction) → Agree fs → (name : ℕ) (s t : Signature) → Among name s fs → Among name t fs → Alike s t
all_alike [] h name s t a c = absurd a
all_alike (f ∷ fs) h name s t (inl a) (inl c) = let e : s ≡ t = sym a.1 ∙ c.1 in (ap (λ (g : Signature). value_type g.result) e, ap (λ (g : Signature). map value_type g.parameters) e)
all_alike (f ∷ fs) h name s t (inl a) (inr c) =
    let d : differs name f.signature fs ≡ false = subst (λ (i : ℕ). differs i f.signature fs ≡ false) a.0 h.0 in
    let k = alike_from t f.signature (not_differing name f.signature t fs d c) in
    subst (λ (g : Signature). Alike g t) a.1 (sym k.0, sym k.1)
all_alike (f ∷ fs) h name s t (inr a) (inl c) =
    let d : differs name f.signature fs ≡ false = subst (λ (i : ℕ). differs i f.signature fs ≡ false) c.0 h.0 in
    subst (λ (g : Signature). Alike s g) c.1 (alike_from s f.signature (not_differing name f.signature s fs d a))
all_alike (f ∷ fs) h name s t (inr a) (inr c) = all_alike fs h.1 name s t a c

-- The functions of a source have these names, in order, and were declared with their types.
abbrev pub Defined : List KnownFunction → List ℕ → List Function → Type 0
Defined known [] [] = Unit {0}
Defined known (name ∷ names) (f ∷ fs) = ((s : Signature) × Among name s known × (s.parameters ≡ f.parameters) × (value_type s.result ≡ f.result)) × Defined known names fs
Defined known names fs = ⊥

found_by : (known : List KnownFunction) (x name : ℕ) (names : List ℕ) (f : Function) (fs : List Function) (b : Bool) → (x == name) ≡ b →
    ((s : Signature) × Among x s known × (s.parameters ≡ f.parameters) × (value_type s.result ≡ f.result)) →
    (list_any (λ y. y == name) names ≡ true → (g : Function) × (s : Signature) × (slice_get fs (number_in names name) ≡ Some g) × Among name s known × (s.parameters ≡ g.parameters) × (value_type s.result ≡ g.result)) →
    list_any (λ y. y == name) (x ∷ names) ≡ true →
    (g : Function) × (s : Signature) × (slice_get (f ∷ fs) (if b then 0 else number_in names name + 1) ≡ Some g) × Among name s known × (s.parameters ≡ g.parameters) × (value_type s.result ≡ g.result)
found_by known x name names f fs true e d rest h =
    (f, d.0, refl, subst (λ y. Among y d.0 known) (eqb-true x name e) d.1, d.2, d.3)
found_by known x name names f fs false e d rest h =
    let i : list_any (λ y. y == name) names ≡ true = rw e at h in
    let r = rest i in
    (r.0, r.1, get_behind f r.0 fs (number_in names name) r.2, r.3, r.4, r.5)

found : (known : List KnownFunction) (name : ℕ) (names : List ℕ) (fs : List Function) → Defined known names fs → list_any (λ y. y == name) names ≡ true →
    (g : Function) × (s : Signature) × (slice_get fs (number_in names name) ≡ Some g) × Among name s known × (s.parameters ≡ g.parameters) × (value_type s.result ≡ g.result)
found known name [] fs d h = absurd cc
found known name (x ∷ names) [] d h = absurd d
found known name (x ∷ names) (f ∷ fs) d h = found_by known x name names f fs (x == name) refl d.0 (found known name names fs d.1) h

number_kind_is : (kind : NumberKind) → IsNumberKind (number_kind kind)
number_kind_is number.Int = tt {0}
number_kind_is number.UInt = tt {0}
number_kind_is number.Long = tt {0}
number_kind_is number.ULong = tt {0}

-- ---- uses

abbrev pub NoneCalled : List Use → Type 0
NoneCalled [] = Unit {0}
NoneCalled (u ∷ us) = (is_called u ≡ false) × NoneCalled us

first_plain : (us : List Use) → NoneCalled us → is_called (first_use us) ≡ false
first_plain [] h = refl
first_plain (u ∷ us) h = h.0

later_plain : (us : List Use) → NoneCalled us → NoneCalled (later_uses us)
later_plain [] h = tt {0}
later_plain (u ∷ us) h = h.1

into_plain : (ts : List CType) → NoneCalled (map n.Into ts)
into_plain [] = tt {0}
into_plain (t ∷ ts) = (refl, into_plain ts)

uses_plain : (meaning : Meaning) → NoneCalled (uses_by meaning)
uses_plain (m.Function s) = into_plain s.parameters
uses_plain (m.Library Printf) = (refl, tt {0})
uses_plain x = tt {0}

right_plain : (mark : AssignMark) (type : CType) → is_called (right_use mark type) ≡ false
right_plain a.Assign type = refl
right_plain mark type = refl

callee_not : (φ : Facts) (how : Use) (s : Signature) → is_called how ≡ false → lowest φ (n.Name how (m.Function s)) ≡ None → ⊥
callee_not φ n.Plain s c h = absurd cc
callee_not φ n.Called s c h = absurd cc
callee_not φ n.Indexed s c h = absurd cc
callee_not φ n.Measured s c h = absurd cc
callee_not φ n.Prints s c h = absurd cc
callee_not φ (n.Into t) s c h = absurd cc

library_not : (φ : Facts) (how : Use) (call : LibraryCall) → is_called how ≡ false → lowest φ (n.Name how (m.Library call)) ≡ None → ⊥
library_not φ n.Plain s c h = absurd cc
library_not φ n.Called s c h = absurd cc
library_not φ n.Indexed s c h = absurd cc
library_not φ n.Measured s c h = absurd cc
library_not φ n.Prints s c h = absurd cc
library_not φ (n.Into t) s c h = absurd cc

pick_else : {X : Type 0} (b : Bool) (x y : X) → b ≡ false → (if b then x else y) ≡ y
pick_else true x y h = absurd cc
pick_else false x y h = refl

-- ---- the walk

-- A source as it is known at its end: its setting, its structs, objects and functions, and how functions were declared.
pub record Whole : Type 0 where
  pub setting : Setting
  pub structs : Structs
  pub objects : List DeclaredObject
  pub functions : List Function
  pub known : List KnownFunction

module _ (z : Whole) where
  abbrev pub program : Checked
  program = record { threads = z.setting.threads; structs = z.structs; objects = z.objects; functions = z.functions }

  -- ---- what names stand for

  abbrev pub StandsFor : List CType → ℕ → Meaning → Type 0
  StandsFor l name (m.Object t place) = Stands program l place t
  StandsFor l name (m.Function s) = Among name s z.known
  StandsFor l name x = Unit {0}

  -- The names of a scope stand for objects that are there and for functions that were declared so; those of one name
  -- agree, and those that the source defines are among them.
  pub record Fits (Γ : Env) (l : List CType) : Type 0 where
    pub names : (name : ℕ) → StandsFor l name (find name Γ)
    pub locals : (counts_of Γ).locals ≡ length l
    pub agree : Agree z.known
    pub defined : Defined z.known z.setting.defined z.functions

  -- The names of the scope around one stand for objects of the file and for functions.
  abbrev pub OuterStands : Outer → Type 0
  OuterStands NoScope = Unit {0}
  OuterStands (Within Γ) = (name : ℕ) → StandsFor [] name (find name Γ)

  abbrev pub Outside : Env → Type 0
  Outside (Scope level top counts outer) = OuterStands outer

  library_stands : (l : List CType) (name : ℕ) (call : Option LibraryCall) (c : Option LibraryConstant) → StandsFor l name (library_call call c)
  library_stands l name None None = tt {0}
  library_stands l name None (Some c) = tt {0}
  library_stands l name (Some call) c = tt {0}

  or_stands : (l : List CType) (name : ℕ) (x : Meaning) (text : List ℕ) → StandsFor l name x → StandsFor l name (or_library x text)
  or_stands l name m.Unknown text h = library_stands l name (call_named text) (constant_named text)
  or_stands l name (m.Object t place) text h = h
  or_stands l name (m.Function s) text h = h
  or_stands l name (m.Library call) text h = h
  or_stands l name (m.Named c) text h = h

  stands : (Γ : Env) (l : List CType) → Fits Γ l → (name : ℕ) → StandsFor l name (meaning z.setting Γ name)
  stands Γ l f name = or_stands l name (find name Γ) (spelling z.setting name) (f.names name)

  home_wider : (l : List CType) (t : CType) (place : Home) (u : CType) → Stands program l place u → Stands program (l ++ (t ∷ [])) place u
  home_wider l t (home.Private i) u h = h
  home_wider l t (home.Shared i) u h = h
  home_wider l t (home.Local i) u h = get_kept l (t ∷ []) i u h

  wider : (l : List CType) (t : CType) (name : ℕ) (x : Meaning) → StandsFor l name x → StandsFor (l ++ (t ∷ [])) name x
  wider l t name m.Unknown h = h
  wider l t name (m.Object u place) h = home_wider l t place u h
  wider l t name (m.Function s) h = h
  wider l t name (m.Library call) h = h
  wider l t name (m.Named c) h = h

  -- A name that is declared, before those that are z.known.
  pub entry_stands : (l : List CType) (name q : ℕ) (x rest : Meaning) (b : Bool) → nat_eq name q ≡ b → StandsFor l name x → StandsFor l q rest → StandsFor l q (found_or b x rest)
  entry_stands l name q x rest true e h r = subst (λ (i : ℕ). StandsFor l i x) (eqb-true name q e) h
  entry_stands l name q x rest false e h r = r

  pub with_name : (Γ : Env) (l : List CType) (name : ℕ) (x : Meaning) → StandsFor l name x → Fits Γ l → Fits (with_entry name x Γ) l
  with_name (Scope level top counts outer) l name x h f = record {
    names = λ q. entry_stands l name q x (find q (Scope level top counts outer)) (nat_eq name q) refl h (f.names q);
    locals = f.locals;
    agree = f.agree;
    defined = f.defined;
  }

  pub within : (Γ : Env) (l : List CType) → Fits Γ l → Fits (inside Γ) l
  within Γ l f = record { names = λ q. f.names q; locals = f.locals; agree = f.agree; defined = f.defined }

  one_more : (l : List CType) (t : CType) (c : ℕ) → c ≡ length l → c + 1 ≡ length (l ++ (t ∷ []))
  one_more l t c h = let e = length-append l (t ∷ []) in omega (arith, e, h)

  counted_fits : (Γ : Env) (l : List CType) (t : CType) → Fits Γ l → Fits (with_count (home.Local (length l)) Γ) (l ++ (t ∷ []))
  counted_fits (Scope level top counts outer) l t f = record {
    names = λ q. wider l t q (find q (Scope level top counts outer)) (f.names q);
    locals = one_more l t counts.locals f.locals;
    agree = f.agree;
    defined = f.defined;
  }

  named_fits : (Γ : Env) (l : List CType) (name : ℕ) (t : CType) → Fits Γ l → Fits (with_count (home.Local (length l)) (with_entry name (m.Object t (home.Local (length l))) Γ)) (l ++ (t ∷ []))
  named_fits (Scope level top counts outer) l name t f = record {
    names = λ q. entry_stands (l ++ (t ∷ [])) name q (m.Object t (home.Local (length l))) (find q (Scope level top counts outer)) (nat_eq name q) refl (get_last l t)
        (wider l t q (find q (Scope level top counts outer)) (f.names q));
    locals = one_more l t counts.locals f.locals;
    agree = f.agree;
    defined = f.defined;
  }

  -- In a function the next object has the next number.
  pub next_local : (Γ : Env) (l : List CType) (t : CType) → is_file Γ ≡ false → Fits Γ l → next_home t Γ ≡ home.Local (length l)
  next_local Γ l t e f = pick_else (is_file Γ) _ _ e ∙ ap home.Local f.locals

  pub declare_fits : (Γ : Env) (l : List CType) (name : ℕ) (t : CType) → is_file Γ ≡ false → Fits Γ l → Fits (declare name t Γ) (l ++ (t ∷ []))
  declare_fits Γ l name t e f =
      subst (λ (h : Home). Fits (with_count h (with_entry name (m.Object t h) Γ)) (l ++ (t ∷ []))) (sym (next_local Γ l t e f)) (named_fits Γ l name t f)

  unnamed_fits : (Γ : Env) (l : List CType) (t : CType) → is_file Γ ≡ false → Fits Γ l → Fits (declare_unnamed t Γ) (l ++ (t ∷ []))
  unnamed_fits Γ l t e f = subst (λ (h : Home). Fits (with_count h Γ) (l ++ (t ∷ []))) (sym (next_local Γ l t e f)) (counted_fits Γ l t f)

  pub declare_level : (Γ : Env) (name : ℕ) (t : CType) → is_file Γ ≡ false → is_file (declare name t Γ) ≡ false
  declare_level (Scope level top counts outer) name t e = e

  -- ---- nodes

  judged : (s : State) (x : Node) → Ends z.structs.completed z.known s → lowest (facts_in z.setting s) x ≡ None → Judged program x (attr (facts_in z.setting s) x)
  judged s x e h = (s.structs, record { place = e.structs; rules = h; is = refl })

  pub met : (s : State) (x : Node) → Ends z.structs.completed z.known s → lowest (facts_in z.setting s) x ≡ None → Meets program x
  met s x e h = record { structs = s.structs; place = e.structs; rules = h }

  name_meets : (l : List CType) (how : Use) (s : State) (name : ℕ) (x : Meaning) → is_called how ≡ false → Ends z.structs.completed z.known s → StandsFor l name x →
      lowest (facts_in z.setting s) (n.Name how x) ≡ None → MeetsKind program l how (attr (facts_in z.setting s) (n.Name how x)) (name_kind z.setting x name)
  name_meets l how s name m.Unknown c e f h = absurd cc
  name_meets l how s name (m.Object t place) c e f h = (t, f, judged s (n.Name how (m.Object t place)) e h)
  name_meets l how s name (m.Function g) c e f h = absurd (callee_not (facts_in z.setting s) how g c h)
  name_meets l how s name (m.Library call) c e f h = absurd (library_not (facts_in z.setting s) how call c h)
  name_meets l how s name (m.Named d) c e f h = (n.Name how (m.Named d), tt {0}, judged s (n.Name how (m.Named d)) e h)

  constant_meets : (l : List CType) (how : Use) (s : State) (word : ConstantWord) → Ends z.structs.completed z.known s → lowest (facts_in z.setting s) (constant_node z.setting word) ≡ None →
      MeetsKind program l how (attr (facts_in z.setting s) (constant_node z.setting word)) (constant_kind word)
  constant_meets l how s w.Mythread e h = judged s n.Mythread e h
  constant_meets l how s w.Threads e h = (n.Threads z.setting.threads, refl, judged s (n.Threads z.setting.threads) e h)
  constant_meets l how s w.MaxBlockSize e h = (n.MaxBlockSize, tt {0}, judged s n.MaxBlockSize e h)

  member_meets : (l : List CType) (how : Use) (s : State) (mark : MemberMark) (x : Expr) (name : List ℕ) → Ends z.structs.completed z.known s →
      lowest (facts_in z.setting s) (member_of mark (attr_of x) name) ≡ None → MeetsExpr program l n.Plain x →
      MeetsKind program l how (attr (facts_in z.setting s) (member_of mark (attr_of x) name)) (member_kind mark x name (facts_in z.setting s))
  member_meets l how s Dot x name e h i = (s.structs, name, record { place = e.structs; rules = h; is = refl }, refl, i)
  member_meets l how s Arrow x name e h i = (s.structs, name, record { place = e.structs; rules = h; is = refl }, refl, i)

  unary_meets : (l : List CType) (how : Use) (s : State) (mark : UnaryMark) (x : Expr) → Ends z.structs.completed z.known s →
      lowest (facts_in z.setting s) (unary_node mark (attr_of x)) ≡ None → MeetsExpr program l n.Plain x →
      MeetsKind program l how (attr (facts_in z.setting s) (unary_node mark (attr_of x))) (unary_kind mark x)
  unary_meets l how s u.AddressOf x e h i = (judged s _ e h, i)
  unary_meets l how s u.Dereference x e h i = (judged s _ e h, i)
  unary_meets l how s u.Plus x e h i = (judged s _ e h, i)
  unary_meets l how s u.Minus x e h i = (judged s _ e h, i)
  unary_meets l how s u.Complement x e h i = (judged s _ e h, i)
  unary_meets l how s u.Not x e h i = (judged s _ e h, i)
  unary_meets l how s u.Increment x e h i = (judged s _ e h, i)
  unary_meets l how s u.Decrement x e h i = (judged s _ e h, i)

  binary_meets : (l : List CType) (how : Use) (s : State) (mark : BinaryMark) (x y : Expr) → Ends z.structs.completed z.known s →
      lowest (facts_in z.setting s) (binary_node mark (attr_of x) (attr_of y)) ≡ None → MeetsExpr program l n.Plain x → MeetsExpr program l n.Plain y →
      MeetsKind program l how (attr (facts_in z.setting s) (binary_node mark (attr_of x) (attr_of y))) (binary_kind mark x y)
  binary_meets l how s b.Multiply x y e h i j = (judged s _ e h, i, j)
  binary_meets l how s b.Divide x y e h i j = (judged s _ e h, i, j)
  binary_meets l how s b.Remainder x y e h i j = (judged s _ e h, i, j)
  binary_meets l how s b.Add x y e h i j = (judged s _ e h, i, j)
  binary_meets l how s b.Subtract x y e h i j = (judged s _ e h, i, j)
  binary_meets l how s b.ShiftLeft x y e h i j = (judged s _ e h, i, j)
  binary_meets l how s b.ShiftRight x y e h i j = (judged s _ e h, i, j)
  binary_meets l how s b.Less x y e h i j = (judged s _ e h, i, j)
  binary_meets l how s b.Greater x y e h i j = (judged s _ e h, i, j)
  binary_meets l how s b.LessEqual x y e h i j = (judged s _ e h, i, j)
  binary_meets l how s b.GreaterEqual x y e h i j = (judged s _ e h, i, j)
  binary_meets l how s b.Equal x y e h i j = (judged s _ e h, i, j)
  binary_meets l how s b.NotEqual x y e h i j = (judged s _ e h, i, j)
  binary_meets l how s b.BitAnd x y e h i j = (judged s _ e h, i, j)
  binary_meets l how s b.BitXor x y e h i j = (judged s _ e h, i, j)
  binary_meets l how s b.BitOr x y e h i j = (judged s _ e h, i, j)
  binary_meets l how s b.And x y e h i j = (judged s _ e h, i, j)
  binary_meets l how s b.Or x y e h i j = (judged s _ e h, i, j)

  assign_meets : (l : List CType) (how : Use) (s : State) (mark : AssignMark) (x y : Expr) → Ends z.structs.completed z.known s →
      lowest (facts_in z.setting s) (assign_node mark (attr_of x) (attr_of y)) ≡ None → MeetsExpr program l n.Plain x → MeetsExpr program l (right_use mark (attr_of x).ctype) y →
      MeetsKind program l how (attr (facts_in z.setting s) (assign_node mark (attr_of x) (attr_of y))) (assign_kind mark x y)
  assign_meets l how s a.Assign x y e h i j = (judged s _ e h, i, j)
  assign_meets l how s a.Multiply x y e h i j = (judged s _ e h, i, j)
  assign_meets l how s a.Divide x y e h i j = (judged s _ e h, i, j)
  assign_meets l how s a.Remainder x y e h i j = (judged s _ e h, i, j)
  assign_meets l how s a.Add x y e h i j = (judged s _ e h, i, j)
  assign_meets l how s a.Subtract x y e h i j = (judged s _ e h, i, j)
  assign_meets l how s a.ShiftLeft x y e h i j = (judged s _ e h, i, j)
  assign_meets l how s a.ShiftRight x y e h i j = (judged s _ e h, i, j)
  assign_meets l how s a.BitAnd x y e h i j = (judged s _ e h, i, j)
  assign_meets l how s a.BitXor x y e h i j = (judged s _ e h, i, j)
  assign_meets l how s a.BitOr x y e h i j = (judged s _ e h, i, j)

  -- ---- calls

  call_runs : (φ : Facts) (how : Use) (s : Signature) (runs : Bool) (format : Option (List ℕ)) (args : List Attr) → lowest φ (n.Call how (m.Function s) runs format args) ≡ None →
      (runs ≡ true) × (lowest φ (n.Call how (m.Function s) true None args) ≡ None)
  call_runs φ how s true format args h = (refl, h)
  call_runs φ how s false format args h = absurd cc

  call_meets : (l : List CType) (how : Use) (s : State) (name : Option Name) (x : Meaning) (xs : Exprs) → Ends z.structs.completed z.known s → Agree z.known → Defined z.known z.setting.defined z.functions →
      ((o : Name) → name ≡ Some o → StandsFor l o.number x) →
      lowest (facts_in z.setting s) (n.Call how x (runs_by z.setting name) (format_in xs) (attrs_of xs)) ≡ None → MeetsExprs program l (uses_by x) xs →
      MeetsKind program l how (attr (facts_in z.setting s) (n.Call how x (runs_by z.setting name) (format_in xs) (attrs_of xs))) (k.Call (target_by z.setting x name) xs)
  call_meets l how s name m.Unknown xs e ag df f h i = absurd cc
  call_meets l how s name (m.Object t place) xs e ag df f h i = absurd cc
  call_meets l how s name (m.Named c) xs e ag df f h i = absurd cc
  call_meets l how s None (m.Function g) xs e ag df f h i = absurd cc
  call_meets l how s (Some o) (m.Function g) xs e ag df f h i =
      let r = call_runs (facts_in z.setting s) how g (runs_by z.setting (Some o)) (format_in xs) (attrs_of xs) h in
      let d = and_parts (list_any (λ y. y == o.number) z.setting.defined) (not (is_main z.setting o.number)) r.0 in
      let q = found z.known o.number z.setting.defined z.functions df d.0 in
      let same = all_alike z.known ag o.number g q.1 (f o refl) q.3 in
      (g, record { function = q.0; found = q.2; result = same.0 ∙ q.5; parameters = same.1 ∙ ap (map value_type) q.4 }, (s.structs, record { place = e.structs; rules = r.1; is = refl }), i)
  call_meets l how s None (m.Library call) xs e ag df f h i = ((s.structs, record { place = e.structs; rules = h; is = refl }), i)
  call_meets l how s (Some o) (m.Library call) xs e ag df f h i = ((s.structs, record { place = e.structs; rules = h; is = refl }), i)

  called_stands : (Γ : Env) (l : List CType) (name o : Option Name) → Fits Γ l → name ≡ o → (x : Name) → o ≡ Some x → StandsFor l x.number (called_by z.setting Γ o)
  called_stands Γ l name None f e x h = absurd cc
  called_stands Γ l name (Some y) f e x h = let i : y ≡ x = cc in subst (λ (o : Name). StandsFor l o.number (meaning z.setting Γ y.number)) i (stands Γ l f y.number)

  -- ---- expressions and types

  abbrev pub TypedIn : Env → Use → Expr → Type 0
  TypedIn Γ how x = (l : List CType) → Fits Γ l → is_called how ≡ false → MeetsExpr program l how x

  abbrev pub AllTypedIn : Env → List Use → Exprs → Type 0
  AllTypedIn Γ us xs = (l : List CType) → Fits Γ l → NoneCalled us → MeetsExprs program l us xs

  -- The parameters so far are in scope.
  pub record Scoped (d : Declared) : Type 0 where
    pub level : is_file d.scope ≡ false
    pub fits : Fits d.scope d.types
    pub outside : Outside d.scope

  unnamed_level : (Γ : Env) (t : CType) → is_file Γ ≡ false → is_file (declare_unnamed t Γ) ≡ false
  unnamed_level (Scope level top counts outer) t e = e

  unnamed_outside : (Γ : Env) (t : CType) → Outside Γ → Outside (declare_unnamed t Γ)
  unnamed_outside (Scope level top counts outer) t h = h

  declare_outside : (Γ : Env) (name : ℕ) (t : CType) → Outside Γ → Outside (declare name t Γ)
  declare_outside (Scope level top counts outer) name t h = h

  scoped_with : (d : Declared) (name : Option Name) (t : CType) → Scoped d → Scoped (with_parameter d name t)
  scoped_with d None t h = record {
    level = unnamed_level d.scope (adjusted t) h.level;
    fits = unnamed_fits d.scope d.types (adjusted t) h.level h.fits;
    outside = unnamed_outside d.scope (adjusted t) h.outside;
  }
  scoped_with d (Some name) t h = record {
    level = declare_level d.scope name.number (adjusted t) h.level;
    fits = declare_fits d.scope d.types name.number (adjusted t) h.level h.fits;
    outside = declare_outside d.scope name.number (adjusted t) h.outside;
  }

  pub constantly_good : (x : Expr) → Good z.structs.completed z.known (constantly z.setting x) (λ c. Meets program (n.Constantly (attr_of x)) × (c ≡ (attr_of x).constant))
  constantly_good x = good_then (good_judge {P = λ u. Meets program (n.Constantly (attr_of x))} z.setting _ _ (λ s e. e) (λ s e h. met s _ e h)) (λ u. good_give _ (λ h. (h, refl)))

  abbrev pub Any : {A : Type 0} → Walk A → Type 0
  Any w = Good z.structs.completed z.known w (λ a. Unit {0})

  mutual
    pub good : (Γ : Env) (how : Use) (x : t.Expr) → Good z.structs.completed z.known (walk z.setting Γ how x) (TypedIn Γ how)
    good Γ how (Named name) = good_finish z.setting _ _ _ (λ s e h l f c. name_meets l how s name.number (meaning z.setting Γ name.number) c e (stands Γ l f name.number) h)
    good Γ how (Number value kind span) = good_number z.setting _ _ _ (λ s e h i l f c. (n.Number (number_kind kind) value, (number_kind_is kind, i), judged s _ e h))
    good Γ how (Character value span) = good_finish z.setting _ _ _ (λ s e h l f c. (n.Character value, tt {0}, judged s _ e h))
    good Γ how (Strings first more) = good_finish z.setting _ _ _ (λ s e h l f c. judged s _ e h)
    good Γ how (Constant word span) = good_finish z.setting _ _ _ (λ s e h l f c. constant_meets l how s word e h)
    good Γ how (Paren left inner right) = good_then (good Γ how inner) (λ x. good_give _ (λ i l f c. (refl, i l f c)))
    good Γ how (Subscript x left i right) =
        good_then (good Γ n.Indexed x) (λ x. good_then (good Γ n.Plain i) (λ y. good_finish z.setting _ _ _ (λ s e h j i l f c. (judged s _ e h, i l f refl, j l f refl))))
    good Γ how (Call callee left arguments) =
        good_then (good Γ n.Called callee) (λ g. good_then (arguments_good Γ _ arguments) (λ xs. good_finish z.setting _ _ _ (λ s e h j i l f c.
        call_meets l how s (called_name callee) (called_by z.setting Γ (called_name callee)) xs e f.agree f.defined (called_stands Γ l (called_name callee) (called_name callee) f refl) h
        (j l f (uses_plain (called_by z.setting Γ (called_name callee)))))))
    good Γ how (MemberOf x mark dot name) =
        good_then (good Γ n.Plain x) (λ x. good_finish z.setting _ _ _ (λ s e h i l f c. member_meets l how s mark x (spelling z.setting name.number) e h (i l f refl)))
    good Γ how (Postfix x mark span) = good_then (good Γ n.Plain x) (λ x. good_finish z.setting _ _ _ (λ s e h i l f c. (judged s _ e h, i l f refl)))
    good Γ how (Unary mark span x) = good_then (good Γ n.Plain x) (λ x. good_finish z.setting _ _ _ (λ s e h i l f c. unary_meets l how s mark x e h (i l f refl)))
    good Γ how (SizeOfExpr word span x) = good_then (good Γ n.Measured x) (λ x. good_finish z.setting _ _ _ (λ s e h i l f c. (judged s _ e h, i l f refl)))
    good Γ how (SizeOfType word span left type right) =
        good_then (type_good Γ _ type) (λ t. good_finish z.setting _ _ _ (λ s e h i l f c. (t, refl, judged s _ e h)))
    good Γ how (Cast left type right x) =
        good_then (type_good Γ _ type) (λ t. good_then (good Γ (n.Into t.ctype) x) (λ x. good_finish z.setting _ _ _ (λ s e h j i l f c. (t, judged s _ e h, j l f refl))))
    good Γ how (Binary x mark span y) =
        good_then (good Γ n.Plain x) (λ x. good_then (good Γ n.Plain y) (λ y. good_finish z.setting _ _ _ (λ s e h j i l f c. binary_meets l how s mark x y e h (i l f refl) (j l f refl))))
    good Γ how (Assign x mark span y) =
        good_then (good Γ n.Plain x) (λ x. good_then (good Γ (right_use mark (attr_of x).ctype) y) (λ y.
        good_finish z.setting _ _ _ (λ s e h j i l f c. assign_meets l how s mark x y e h (i l f refl) (j l f (right_plain mark (attr_of x).ctype)))))
    good Γ how (Conditional test question x colon y) =
        good_then (good Γ n.Plain test) (λ t. good_then (good Γ n.Plain x) (λ x. good_then (good Γ n.Plain y) (λ y.
        good_finish z.setting _ _ _ (λ s e h q j i l f c. (judged s _ e h, i l f refl, j l f refl, q l f refl)))))
    good Γ how (Comma first more) =
        good_then (good Γ n.Plain first) (λ x. good_then (more_good Γ [] more) (λ xs. good_finish z.setting _ _ _ (λ s e h j i l f c. (judged s _ e h, i l f refl, j l f (tt {0})))))

    arguments_good : (Γ : Env) (us : List Use) (xs : Arguments) → Good z.structs.completed z.known (walk_arguments z.setting Γ us xs) (AllTypedIn Γ us)
    arguments_good Γ us (NoArguments right) = good_give _ (λ l f c. tt {0})
    arguments_good Γ us (SomeArguments first more right) =
        good_then (good Γ (first_use us) first) (λ x. good_then (more_good Γ (later_uses us) more) (λ xs. good_give _ (λ j i l f c. (i l f (first_plain us c), j l f (later_plain us c)))))

    more_good : (Γ : Env) (us : List Use) (xs : NextExprs) → Good z.structs.completed z.known (walk_more z.setting Γ us xs) (AllTypedIn Γ us)
    more_good Γ us NoNextExprs = good_give _ (λ l f c. tt {0})
    more_good Γ us (AndExpr comma value more) =
        good_then (good Γ (first_use us) value) (λ x. good_then (more_good Γ (later_uses us) more) (λ xs. good_give _ (λ j i l f c. (i l f (first_plain us c), j l f (later_plain us c)))))

    type_good : (Γ : Env) (place : Place) (x : TypeName) → Any (walk_type z.setting Γ place x)
    type_good Γ place (Typed specs pointers sizes) =
        any_then (any_to_their_end z.setting _ (specs_good Γ _ specs)) (λ p. any_then (pointers_good Γ _ _ pointers) (λ t. any_then (sizes_good Γ sizes) (λ ns. any_give _)))

    pub specs_good : (Γ : Env) (how : Specifying) (x : Specs) → Any (walk_specs z.setting Γ how x)
    specs_good Γ how NoSpecs = any_give _
    specs_good Γ how (AndSpec spec more) = any_then (spec_good Γ how spec) (λ p. any_then (specs_good Γ how more) (λ q. any_give _))

    spec_good : (Γ : Env) (how : Specifying) (x : Spec) → Any (walk_spec z.setting Γ how x)
    spec_good Γ how (WordSpec word span) = any_give _
    spec_good Γ how (QualSpec qual) = any_then (qual_good Γ _ qual) (λ q. any_give _)
    spec_good Γ how (TagSpec word tag) = any_then (good_refer _ Γ _) (λ number. any_give _)
    spec_good Γ how (StructSpec word tag left members right) =
        any_then (good_open Γ tag.number) (λ number. any_then (members_good Γ [] members) (λ ms. any_then (good_close z.setting (at word) number ms) (λ u. any_give _)))

    quals_good : (Γ : Env) (star : Bool) (x : Quals) → Any (walk_quals z.setting Γ star x)
    quals_good Γ star NoQuals = any_give _
    quals_good Γ star (AndQual qual more) = any_then (qual_good Γ star qual) (λ p. any_then (quals_good Γ star more) (λ q. any_give _))

    qual_good : (Γ : Env) (star : Bool) (x : Qual) → Any (walk_qual z.setting Γ star x)
    qual_good Γ star (Const word) = any_give _
    qual_good Γ star (Strict word) = any_give _
    qual_good Γ star (Relaxed word) = any_give _
    qual_good Γ star (Shared word layout) = any_then (layout_good Γ star layout) (λ l. any_give _)

    layout_good : (Γ : Env) (star : Bool) (x : Layout) → Any (walk_layout z.setting Γ star x)
    layout_good Γ star NoLayout = any_give _
    layout_good Γ star (IndefiniteLayout left right) = any_give _
    layout_good Γ star (StarLayout left mark right) = any_then (any_judge z.setting _ _ (λ s e. e)) (λ u. any_give _)
    layout_good Γ star (BlockLayout left size right) =
        any_then (good Γ n.Plain size) (λ x. any_then (constantly_good x) (λ c. any_then (any_judge z.setting _ _ (λ s e. e)) (λ u. any_give _)))

    pub pointers_good : (Γ : Env) (star : Bool) (t : Shaped) (x : Pointers) → Any (walk_pointers z.setting Γ star t x)
    pointers_good Γ star t NoPointers = any_give _
    pointers_good Γ star t (AndPointer span quals more) = any_then (quals_good Γ _ quals) (λ q. pointers_good Γ star _ more)

    pub sizes_good : (Γ : Env) (x : Dimensions) → Any (walk_sizes z.setting Γ x)
    sizes_good Γ NoDimensions = any_give _
    sizes_good Γ (AndDimension left size right more) =
        any_then (good Γ n.Plain size) (λ x. any_then (constantly_good x) (λ c. any_then (sizes_good Γ more) (λ cs. any_give _)))

    members_good : (Γ : Env) (before : List Member) (x : Members) → Any (walk_members z.setting Γ before x)
    members_good Γ before NoMembers = any_give _
    members_good Γ before (AndMember specs first next semicolon more) =
        any_then (any_to_their_end z.setting _ (specs_good Γ _ specs)) (λ p. any_then (member_good Γ _ before first) (λ ms. any_then (next_members_good Γ _ ms next) (λ all.
        any_then (any_judge z.setting _ _ (λ s e. record { structs = e.structs; functions = e.functions })) (λ u. members_good Γ all more))))

    next_members_good : (Γ : Env) (t : Shaped) (before : List Member) (x : NextDeclarators) → Any (walk_next_members z.setting Γ t before x)
    next_members_good Γ t before NoNextDeclarators = any_give _
    next_members_good Γ t before (AndDeclarator comma declarator more) = any_then (member_good Γ t before declarator) (λ ms. next_members_good Γ t ms more)

    member_good : (Γ : Env) (t : Shaped) (before : List Member) (x : Declarator) → Any (walk_member z.setting Γ t before x)
    member_good Γ t before (ObjectDeclarator pointers name sizes) =
        any_then (pointers_good Γ _ t pointers) (λ p. any_then (sizes_good Γ sizes) (λ ns. any_then (any_judge z.setting _ _ (λ s e. e)) (λ u. any_give _)))
    member_good Γ t before (FunctionDeclarator pointers name parameters) =
        any_then (pointers_good Γ _ t pointers) (λ p. any_then (good_enclosed (parameters_good _ parameters)) (λ ps. any_then (any_judge z.setting _ _ (λ s e. e)) (λ u. any_give _)))

    pub parameters_good : (Γ : Env) (x : Parameters) → Good z.structs.completed z.known (walk_parameters z.setting Γ x) (λ d. is_file Γ ≡ false → Fits Γ [] → Outside Γ → Scoped d)
    parameters_good Γ (NoParameters left right) = good_give _ (λ e f o. record { level = e; fits = f; outside = o })
    parameters_good Γ (VoidParameters left word right) = good_give _ (λ e f o. record { level = e; fits = f; outside = o })
    parameters_good Γ (SomeParameters left first more right) =
        good_then (parameter_good _ first) (λ d. good_weaken (next_parameters_good d more) (λ b h i e f o. h (i (record { level = e; fits = f; outside = o }))))

    next_parameters_good : (before : Declared) (x : NextParameters) → Good z.structs.completed z.known (walk_next_parameters z.setting before x) (λ d. Scoped before → Scoped d)
    next_parameters_good before NoNextParameters = good_give _ (λ h. h)
    next_parameters_good before (AndParameter comma parameter more) =
        good_then (parameter_good before parameter) (λ d. good_weaken (next_parameters_good d more) (λ b h i j. h (i j)))

    parameter_good : (before : Declared) (x : Parameter) → Good z.structs.completed z.known (walk_parameter z.setting before x) (λ d. Scoped before → Scoped d)
    parameter_good before (Parametric specs pointers name array) =
        good_then (any_to_their_end z.setting _ (specs_good before.scope _ specs)) (λ p. good_then (pointers_good before.scope _ _ pointers) (λ t. good_then (array_good before.scope _ array) (λ g.
        good_then (any_judge z.setting _ _ (λ s e. e)) (λ u. good_give _ (λ a b c d h. scoped_with before name g.ctype h)))))

    array_good : (Γ : Env) (t : Shaped) (x : ParameterArray) → Any (walk_array z.setting Γ t x)
    array_good Γ t NoArray = any_give _
    array_good Γ t (UnsizedArray left right) = any_give _
    array_good Γ t (SizedArray left size right) = any_then (good Γ n.Plain size) (λ x. any_then (constantly_good x) (λ c. any_give _))
