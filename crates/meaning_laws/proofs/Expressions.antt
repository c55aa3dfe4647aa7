-- The value of an expression that meets the rules is of the expression's type.
use Rattle.std.proofs.Common.{◌≡◌, ℕ, ◌<◌, ◌^◌, Bool, true, false, not, nat_eq, length, List, [], ◌∷◌, ◌++◌, map}
use Rattle.std.proofs.Common.{Option, Some}
use Rattle.std.proofs.Common.{None, refl, sym, ap, ◌∙◌, subst}
use Rattle.std.proofs.Math.IntN.{ℤ, pos}
use Rattle.std.proofs.lemmas.Bool.{false≢true}
use Rattle.std.proofs.lemmas.List.{append_assoc, append-nil}
use Rattle.upc_text.specs.declared.place.Place.{Place}
use Rattle.block_layout.specs.declared.kind.Kind.{Kind}
use Rattle.block_layout.specs.declared.kind.Kind.TheVariants as kind
use Rattle.block_layout.specs.declared.place.ObjectRef.{ObjectRef}
use Rattle.integers.specs.declared.operator.UnOp.{UnOp}
use Rattle.upc_values.specs.declared.action.Action.TheVariants as act
use Rattle.upc_values.specs.declared.scalar.Value.{Value}
use Rattle.upc_values.specs.declared.scalar.Value.TheVariants.{Local}
use Rattle.block_layout.specs.declared.place.LocalPtr.TheVariants as local
use Rattle.typed_tree.specs.Initials.{numbered, known_or_zero}
use Rattle.upc_values.specs.declared.library.LibraryCall.{LibraryCall}
use Rattle.upc_values.specs.declared.library.LibraryCall.TheVariants as c
use Rattle.upc_values.specs.Lists.{Each}
use Rattle.upc_values.specs.Printing as printing
use Rattle.upc_types.specs.Types.{CType, Structs, base_of, block_of}
use Rattle.upc_types.specs.Cells as cells
use Rattle.typing_rules.specs.declared.setting.Home.{Home}
use Rattle.typing_rules.specs.declared.setting.Home.TheVariants as home
use Rattle.typing_rules.specs.declared.attribute.Constant.{Constant}
use Rattle.typing_rules.specs.Library.{int, lock_pointer, call_result, call_parameters}
use Rattle.typing_rules.specs.Values.{base_target, base_kind, value_type}
use Rattle.typing_rules.specs.Attributes as at_
use Rattle.typing_rules.specs.Attributes.{Facts, Found, base, attr, object_at, member_at, member_named, unary_attr}
use Rattle.typing_rules.specs.Attributes.{choice_attr, other_choice, home_address}
use Rattle.typing_rules.specs.Meanings as m
use Rattle.typing_rules.specs.Nodes as n
use Rattle.typing_rules.specs.Nodes.{Attr, Use, Node}
use Rattle.typing_rules.specs.Rules.{judge, table, fits, is_modifiable, is_lvalue, points, target, target_names}
use Rattle.typing_rules.specs.Rules.{names_member, allocates_well, is_allocated_at, rule_10, rule_29, rule_13}
use Rattle.typing_rules.specs.Rules.{rule_14}
use Rattle.typing_rules.specs.Rules.{rule_18, rule_19}
use Rattle.typing_rules.specs.Rules.{rule_20}
use Rattle.typed_tree.specs.declared.tree.StepOperator.{StepOperator}
use Rattle.typed_tree.specs.declared.tree.StepOperator.TheVariants as step
use Rattle.typed_tree.specs.declared.tree.Target.TheVariants as callee
use Rattle.typed_tree.specs.Tree.{Expr, Is, ExprKind, Exprs, NoExprs, AndExpr, attr_of, attrs_of, place_of, Function}
use Rattle.typed_tree.specs.Tree as tree
use Rattle.typed_tree.specs.Programs.{Checked}
use Rattle.typed_tree.specs.Words.{format_in, last_of, uses_by, first_use, later_uses}
use Rattle.typed_tree.specs.layer.Judged.{IsConstant, facts_at}
use Rattle.typed_tree.specs.layer.TypedNodes.{MeetsExpr, MeetsKind, MeetsExprs}
use Rattle.private_store.specs.Live.{local_number}
use Rattle.thread_steps.specs.declared.cast.CastTo.{CastTo}
use Rattle.thread_steps.specs.layer.Parts as parts
use Rattle.thread_steps.specs.declared.cast.CastTo.TheVariants as to
use Rattle.thread_steps.specs.States.{Doing, give}
use Rattle.thread_steps.specs.Values.{number, number_of, truth_value, is_zero}
use Rattle.thread_steps.specs.Actions.{ask}
use Rattle.thread_steps.specs.Blocks as b
use Rattle.thread_steps.specs.Operators as o
use Rattle.thread_steps.specs.Library as l
use Rattle.source_meaning.specs.Types as t
use Rattle.source_meaning.specs.layer.Parts.{parameters_in}
use Rattle.source_meaning.specs.Types.{conversion, cell_kind, target_of}
use Rattle.source_meaning.specs.Running.{Running, running, shared_object, parameters_of, start_in}
use Rattle.source_meaning.specs.Expressions as e
use Rattle.source_meaning.specs.layer.Parts as own_parts
use Rattle.source_meaning.specs.Expressions.{Calls, type_of}
use Rattle.source_meaning.specs.Laws.{AreSoMany}
use Rattle.meaning_laws.specs.layer.Values.{FitsCell, IsNumber, IsOf, IsPlaceOf, IsGiven, IsGivenBy, IsFormedType}
use Rattle.meaning_laws.specs.layer.Values.{Brings}
use Rattle.meaning_laws.specs.layer.Formed.{LiesBy, MakesShaped, IsFormed, HasFormedParts, AreFormed, AreFor}
use Rattle.meaning_laws.specs.layer.Formed.{CallsFit}
use Rattle.meaning_laws.specs.code.Laws.{ExpressionsKeepTypes}
use Rattle.meaning_laws.proofs.Steps.{Any, give_brings, first_brings, weaker_brings, choose_brings, valued_brings}
use Rattle.meaning_laws.proofs.Steps.{any_result, Answers, ask_brings}
use Rattle.meaning_laws.proofs.Conversions.{PhaseFits, cast_fits, phase_cast_fits}
use Rattle.meaning_laws.proofs.Operations.{Fits, kind_by, formed_kind, member_brings}
use Rattle.meaning_laws.proofs.Operators.{IsNoArray, is_of, integer_kind, of_value_type, no_array_value, is_place}
use Rattle.meaning_laws.proofs.Operators.{truth_brings, unary_brings, binary_brings, binary_phase, any_held}
use Rattle.meaning_laws.proofs.Operators.{put_brings}
use Rattle.meaning_laws.proofs.Operators.{value_in_brings, within_row_brings, behind_brings}
use Rattle.meaning_laws.proofs.Rules.{unbroken, holds, or_left, has_target, lvalue_form, modified, member_found}
use Rattle.meaning_laws.proofs.Rules.{struct_formed, member_type_block}
use Rattle.meaning_laws.proofs.Library.{AreNumbers, plain_brings, global_lock_brings, all_lock_brings, two_brings}
use Rattle.meaning_laws.proofs.Library.{one_brings, MayMeet, all_alloc_brings}
use Rattle.meaning_laws.proofs.Allocating.{StartsAt, so_many, start_of, made_target, shape_there, both_brings}
use Rattle.source_meaning.proofs.Forming.{all_form_calls}

-- ---- places of objects

shared_fits : (n b : ℕ) (o : Option ObjectRef) → Fits (kind_by (Some b) n) (start_in o)
shared_fits n b (Some object) = refl
shared_fits n b None = refl

local_fits_at : (n i : ℕ) → Fits (kind_by None n) (Local (local.Private i (pos 0)))
local_fits_at n i = refl

local_fits : (n : ℕ) (o : Option ℕ) → Fits (kind_by None n) (parts.pointer_to o)
local_fits n (Some number) = refl
local_fits n None = refl

module _ (structs : Structs) where
  at_kind : (u : CType) (v : Value) → IsFormedType u → (s : Option ℕ) → block_of u ≡ s
      → Fits (kind_by s (cells.number_of structs.targets u)) v → IsPlaceOf structs u v
  at_kind u v f s q h =
      let n = cells.number_of structs.targets u in
      subst (λ (i : Kind). Fits i v) (sym (formed_kind structs.targets u f))
      (subst (λ (i : Option ℕ). Fits (kind_by i n) v) (sym q) h)

  -- What comes of a node is what comes of an expression that is what the node says.
  pub as_said : (a said : Attr) (m : Doing Value) → a ≡ said → Brings Value (IsGiven structs said) m
      → Brings Value (IsGiven structs a) m
  as_said a said m q h = subst (λ (x : Attr). Brings Value (IsGiven structs x) m) (sym q) h

  unary_given : (oper : UnOp) (k : Option Kind) (x : Constant) (v : Value) → IsNumber v
      → IsGiven structs (unary_attr oper k x) v
  unary_given oper (Some k) x v h = h
  unary_given oper None x v h = h

  constant_given : (p : Checked) (x : Node) (structs_at : Structs) → IsConstant p x → (v : ℤ)
      → IsGiven structs (attr (facts_at p structs_at) x) (number v)
  constant_given p (n.Name how (m.Named constant)) s h v = tt
  constant_given p (n.Number k w) s h v = tt
  constant_given p (n.Character w) s h v = tt
  constant_given p (n.Threads threads) s h v = tt
  constant_given p n.MaxBlockSize s h v = tt
  constant_given p x s h v = absurd h

  -- The type of a choice is no array.
  choice_no_array : (x : Constant) (a c : Attr) (j k : Option Kind) (u : Option CType)
      → IsNoArray (base_of (choice_attr x a c j k u).ctype)
  choice_no_array x a c (Some j) (Some k) u = tt
  choice_no_array x a c (Some j) None (Some u) = no_array_value a.ctype
  choice_no_array x a c (Some j) None None = no_array_value c.ctype
  choice_no_array x a c None k (Some u) = no_array_value a.ctype
  choice_no_array x a c None k None = no_array_value c.ctype

  choice_form : (x : Constant) (a c : Attr) (j k : Option Kind) (u : Option CType)
      → own_parts.is_lvalue (choice_attr x a c j k u).form ≡ false
  choice_form x a c (Some j) (Some k) u = refl
  choice_form x a c (Some j) None (Some u) = refl
  choice_form x a c (Some j) None None = refl
  choice_form x a c None k (Some u) = refl
  choice_form x a c None k None = refl

  -- What is given by an expression with this form and type.
  pub given_as : (a : Attr) (lvalue : Bool) (u : CType) (v : Value) → own_parts.is_lvalue a.form ≡ lvalue → a.ctype ≡ u
      → IsGivenBy structs lvalue u v → IsGiven structs a v
  given_as a lvalue u v ef et h =
      subst (λ (x : Bool). IsGivenBy structs x a.ctype v) (sym ef)
      (subst (λ (w : CType). IsGivenBy structs lvalue w v) (sym et) h)

  pub brings_as : (a : Attr) (lvalue : Bool) (u : CType) (m : Doing Value) → own_parts.is_lvalue a.form ≡ lvalue
      → a.ctype ≡ u
      → Brings Value (IsGivenBy structs lvalue u) m → Brings Value (IsGiven structs a) m
  brings_as a lvalue u m ef et h =
      weaker_brings (IsGivenBy structs lvalue u) (IsGiven structs a) m h (λ v g. given_as a lvalue u v ef et g)

  object_lvalue : (o : Option CType) (u : CType) (x : Constant) → o ≡ Some u
      → (own_parts.is_lvalue (object_at o x).form ≡ true) × ((object_at o x).ctype ≡ u)
  object_lvalue (Some w) u x h = (refl, let same : w ≡ u = cc in same)
  object_lvalue None u x h = absurd cc

  member_lvalue : (u : CType) (x : Constant) (o : Option Found) (f : Found) → o ≡ Some f
      → (own_parts.is_lvalue (member_at u x o).form ≡ true) × ((member_at u x o).ctype ≡ at_.member_type u f.ctype)
  member_lvalue u x (Some g) f h =
      let same : g ≡ f = cc in (refl, ap (λ (i : Found). at_.member_type u i.ctype) same)
  member_lvalue u x None f h = absurd cc

-- A pointer that is used as one leads to a target.
pointed : (a : Attr) → points a ≡ true → (u : CType) × (base_target (base a) ≡ Some u)
pointed a h = has_target (base_target (base a)) h

module _ (program : Checked) (thread budget : ℕ) where
  abbrev ρ : Running
  ρ = running program thread budget

  abbrev Makes : CType → Type 0
  Makes = MakesShaped program

  abbrev kind_number : Attr → ℕ
  kind_number a = cells.number_of ρ.structs.targets a.ctype

  object_brings : (attr : Attr) (where_ : Home) → IsFormedType attr.ctype → LiesBy where_ (block_of attr.ctype)
      → Brings Value (IsPlaceOf ρ.structs attr.ctype) (e.object ρ where_)
  unfolding b.local_object
  object_brings a (home.Private i) f h =
      give_brings (IsPlaceOf ρ.structs a.ctype) _
      (at_kind ρ.structs a.ctype (Local (local.Private i (pos 0))) f None (by (block_of a.ctype) h)
      (local_fits_at (kind_number a) i))
    where
      by : (s : Option ℕ) → LiesBy (home.Private i) s → s ≡ None
      by None g = refl
      by (Some x) g = absurd g
  object_brings a (home.Shared i) f h = by (block_of a.ctype) refl h
    where
      by : (s : Option ℕ) → block_of a.ctype ≡ s → LiesBy (home.Shared i) s
          → Brings Value (IsPlaceOf ρ.structs a.ctype) (give (shared_object ρ i))
      by None q g = absurd g
      by (Some x) q g =
          give_brings (IsPlaceOf ρ.structs a.ctype) (shared_object ρ i)
          (at_kind ρ.structs a.ctype (shared_object ρ i) f (Some x) q
          (shared_fits (kind_number a) x (numbered ρ.shared i)))
  object_brings a (home.Local i) f h =
      record {
        by = λ σ filled. (
          at_kind ρ.structs a.ctype (parts.pointer_to (local_number i σ.store)) f None (by (block_of a.ctype) h)
              (local_fits (kind_number a) (local_number i σ.store)),
          filled,
          refl,
        );
      }
    where
      by : (s : Option ℕ) → LiesBy (home.Local i) s → s ≡ None
      by None g = refl
      by (Some x) g = absurd g

  pub any_cast : (into : CastTo) (at : Place) (v : Value) → Brings Value Any (o.cast ρ.thread into at v)
  unfolding o.cast
  any_cast into at v = valued_brings Any at _ (any_result _)

  print_brings : (format : List ℕ) (vs : List Value) → Brings Value IsNumber (l.print ρ.thread format vs)
  unfolding l.print
  print_brings format vs =
      let action = act.Print (printing.printed format (map number_of vs)) in
      first_brings (Answers ρ.thread None action) IsNumber (ask ρ.thread None action) _
      (ask_brings ρ.thread None action) (λ r h. give_brings IsNumber _ tt)

  -- What is assigned to an object that is no array is a value of its type.
  cast_brings : (from u : CType) (at : Place) (v : Value) → IsFormedType u → IsNoArray (base_of u)
      → IsOf ρ.structs from v → Brings Value (IsOf ρ.structs u) (o.cast ρ.thread (conversion from u) at v)
  cast_brings from u at v f x h =
      weaker_brings (FitsCell (cell_kind ρ.structs u)) (IsOf ρ.structs u) _
      (cast_fits ρ.thread ρ.structs from u at v h (integer_kind u f))
      (λ w g. is_of ρ.structs u w x (integer_kind u f) g)

  stepped_given : (oper : StepOperator) (u : CType) (v w : Value) → IsOf ρ.structs u v → IsOf ρ.structs u w
      → IsOf ρ.structs u (own_parts.step_value v w oper)
  stepped_given step.IncrementFirst u v w h g = g
  stepped_given step.DecrementFirst u v w h g = g
  stepped_given step.IncrementAfter u v w h g = h
  stepped_given step.DecrementAfter u v w h g = h

  for_none : (ts : List CType) → AreFor ρ.structs ts []
  for_none [] = tt
  for_none (u ∷ ts) = tt

  -- What was there already, and then what fits these parameters.
  abbrev Goes : List CType → List Value → List Value → Type 0
  Goes ts before vs = (rest : List Value) × (vs ≡ before ++ rest) × AreFor ρ.structs ts rest

  goes_none : (ts : List CType) (before : List Value) → Goes ts before before
  goes_none ts before = ([], sym (append-nil before), for_none ts)

  goes_more : (u : CType) (ts : List CType) (before vs : List Value) (w : Value) → FitsCell (cell_kind ρ.structs u) w
      → Goes ts (before ++ (w ∷ [])) vs → Goes (u ∷ ts) before vs
  goes_more u ts before vs w h g = (w ∷ g.0, g.1 ∙ append_assoc before (w ∷ []) g.0, (h, g.2))

  module _ (call : Calls) (fit : CallsFit ρ call) (locals : List CType) (strict : Bool) where
    abbrev Values : Expr → Type 0
    Values a = Brings Value (IsOf ρ.structs (type_of a)) (e.value ρ call strict a)

    abbrev Givens : Place → Attr → ExprKind → Type 0
    Givens at attr kind = Brings Value (IsGiven ρ.structs attr) (e.given ρ call strict at attr kind)

    converted_brings : (u : CType) (a : Expr) → IsFormedType u → IsNoArray (base_of u) → Values a
        → Brings Value (IsOf ρ.structs u) (e.converted_to ρ u a (e.value ρ call strict a))
    converted_brings u a f x h =
        first_brings (IsOf ρ.structs (type_of a)) (IsOf ρ.structs u) (e.value ρ call strict a) _ h (λ v g.
        cast_brings (type_of a) u (place_of a) v f x g)

    truth_after_brings : (a : Expr) → Values a → Brings Value IsNumber (e.truth_after ρ (e.value ρ call strict a))
    truth_after_brings a h =
        first_brings (IsOf ρ.structs (type_of a)) IsNumber (e.value ρ call strict a) _ h (λ v g.
        truth_brings (not (is_zero v)))

    type_formed : (a : Expr) → IsFormed Makes a → IsFormedType (type_of a)
    type_formed (Is at attr kind) f = f.0

    -- What an operator brings for an object is converted to a value of the object's type.
    changed_brings : (u : CType) (at : Place) (w : Value) → IsFormedType u → IsNoArray (base_of u)
        → PhaseFits (at_.target_block (target_of u)) w
        → Brings Value (IsOf ρ.structs u) (o.cast ρ.thread (conversion u u) at w)
    changed_brings u at w f x h =
        weaker_brings (FitsCell (cell_kind ρ.structs u)) (IsOf ρ.structs u) _
        (phase_cast_fits ρ.thread ρ.structs u u at w h (integer_kind u f))
        (λ z g. is_of ρ.structs u z x (integer_kind u f) g)

    -- A member of the struct to which a pointer leads.
    behind_by : (at : Place) (attr : Attr) (a : Expr) (index : ℕ) (structs : Structs) (name : List ℕ) (x : Constant)
        (o : Option CType) → base_target (base (attr_of a)) ≡ o → target_names structs o name ≡ true
        → attr ≡ at_.member_behind structs o x name → IsFormedType attr.ctype → Values a
        → Givens at attr (tree.MemberBehind a index)
    behind_by at attr a index structs name x None q named is f h = absurd (false≢true named)
    behind_by at attr a index structs name x (Some u) q named is f h =
        let member = member_found structs u name named in
        let said = member_lvalue ρ.structs u x (member_named structs u name) member.0 member.1 in
        let block : block_of attr.ctype ≡ at_.member_block (block_of u) =
        ap (λ (y : Attr). block_of y.ctype) is ∙ ap block_of said.1 ∙ member_type_block u member.0.ctype in
        brings_as ρ.structs attr true attr.ctype _ (ap (λ (y : Attr). own_parts.is_lvalue y.form) is ∙ said.0) refl
        (first_brings (IsOf ρ.structs (type_of a)) (IsPlaceOf ρ.structs attr.ctype) (e.value ρ call strict a) _ h
        (λ v hv.
        member_brings ρ.thread ρ.structs u attr.ctype
        (own_parts.target_offset ρ.structs index (target_of (type_of a))) at v
        (struct_formed structs u name named) f block
        (is_place ρ.structs (base_of (attr_of a).ctype) u v q hv)))

    -- ---- calls that allocate

    abbrev MeetsCall : Use → Attr → LibraryCall → Exprs → Type 0
    MeetsCall how attr call_ args = MeetsKind program locals how attr (tree.Call (callee.Library call_) args)

    global_count : (how : Use) (attr : Attr) (args : Exprs) → MeetsCall how attr c.GlobalAlloc args → AreSoMany 2 args
    global_count how attr args h =
        let x = n.Call how (m.Library c.GlobalAlloc) true (format_in args) (attrs_of args) in
        so_many 2 args
        (holds (nat_eq (length (attrs_of args)) 2)
        (unbroken (table (facts_at program h.0.0) x) 9 (judge 10 (rule_10 x)) refl h.0.1.rules))

    alloc_count : (how : Use) (attr : Attr) (args : Exprs) → MeetsCall how attr c.Alloc args → AreSoMany 1 args
    alloc_count how attr args h =
        let x = n.Call how (m.Library c.Alloc) true (format_in args) (attrs_of args) in
        so_many 1 args
        (holds (nat_eq (length (attrs_of args)) 1)
        (unbroken (table (facts_at program h.0.0) x) 9 (judge 10 (rule_10 x)) refl h.0.1.rules))

    global_start : (how : Use) (attr : Attr) (args : Exprs) → MeetsCall how attr c.GlobalAlloc args
        → StartsAt ρ.structs how
    global_start how attr args h =
        let x = n.Call how (m.Library c.GlobalAlloc) true (format_in args) (attrs_of args) in
        let φ = facts_at program h.0.0 in
        start_of ρ.structs h.0.0 how
        (holds (allocates_well h.0.0 how (m.Library c.GlobalAlloc))
        (unbroken (table φ x) 28 (judge 29 (rule_29 φ x)) refl h.0.1.rules))

    alloc_start : (how : Use) (attr : Attr) (args : Exprs) → MeetsCall how attr c.Alloc args → StartsAt ρ.structs how
    alloc_start how attr args h =
        let x = n.Call how (m.Library c.Alloc) true (format_in args) (attrs_of args) in
        let φ = facts_at program h.0.0 in
        start_of ρ.structs h.0.0 how
        (holds (allocates_well h.0.0 how (m.Library c.Alloc))
        (unbroken (table φ x) 28 (judge 29 (rule_29 φ x)) refl h.0.1.rules))

    all_count : (how : Use) (attr : Attr) (args : Exprs) → MeetsCall how attr c.AllAlloc args → AreSoMany 2 args
    all_count how attr args h =
        let x = n.Call how (m.Library c.AllAlloc) true (format_in args) (attrs_of args) in
        so_many 2 args
        (holds (nat_eq (length (attrs_of args)) 2)
        (unbroken (table (facts_at program h.0.0) x) 9 (judge 10 (rule_10 x)) refl h.0.1.rules))

    all_taken : (how : Use) (attr : Attr) (args : Exprs) (h : MeetsCall how attr c.AllAlloc args)
        → is_allocated_at h.0.0 how ≡ true
    all_taken how attr args h =
        let x = n.Call how (m.Library c.AllAlloc) true (format_in args) (attrs_of args) in
        let φ = facts_at program h.0.0 in
        holds (allocates_well h.0.0 how (m.Library c.AllAlloc))
        (unbroken (table φ x) 28 (judge 29 (rule_29 φ x)) refl h.0.1.rules)

    all_start : (how : Use) (attr : Attr) (args : Exprs) → MeetsCall how attr c.AllAlloc args → StartsAt ρ.structs how
    all_start how attr args h = start_of ρ.structs h.0.0 how (all_taken how attr args h)

    all_shape : (how : Use) (attr : Attr) (args : Exprs) → MeetsCall how attr c.AllAlloc args → Makes attr.ctype
        → (l.has_shape ρ.thread.shapes c.AllAlloc (e.allocated_shape ρ c.AllAlloc attr.ctype) ≡ true)
        × (e.allocated_shape ρ c.AllAlloc attr.ctype < 2 ^ 64)
    all_shape how attr args h g =
        let made = made_target h.0.0 how (all_taken how attr args h) in
        let same : attr.ctype ≡ at_.allocated how = ap (λ (y : Attr). y.ctype) h.0.1.is in
        shape_there program thread budget (target_of attr.ctype) made.0
        (ap (λ (u : CType). base_target (base_of u)) same ∙ made.1) g

    number_cast : (k : Kind) (at : Place) (v : Value) → Brings Value IsNumber (o.cast ρ.thread (to.Integer k) at v)
    unfolding o.cast
    number_cast k at v = give_brings IsNumber _ tt

    mutual
      pub value_keeps : (how : Use) (a : Expr) → MeetsExpr program locals how a → IsFormed Makes a → Values a
      value_keeps how (Is at attr kind) h f =
          first_brings (IsGiven ρ.structs attr) (IsOf ρ.structs attr.ctype) (e.given ρ call strict at attr kind) _
          (given_keeps how at attr kind h f.0 f.1) (λ v g.
          value_in_brings ρ strict (own_parts.is_lvalue attr.form) (e.inner_place (Is at attr kind)) attr.ctype v f.0 g)

      pub address_keeps : (how : Use) (a : Expr) → MeetsExpr program locals how a → IsFormed Makes a
          → Brings Value (IsGiven ρ.structs (attr_of a)) (e.address ρ call strict a)
      address_keeps how (Is at attr kind) h f = given_keeps how at attr kind h f.0 f.1

      given_keeps : (how : Use) (at : Place) (attr : Attr) (kind : ExprKind) → MeetsKind program locals how attr kind
          → IsFormedType attr.ctype → HasFormedParts Makes attr kind → Givens at attr kind
      given_keeps how at attr tree.Literal h f g =
          as_said ρ.structs attr (at_.attr (facts_at program h.2.0) h.0) _ h.2.1.is
          (give_brings (IsGiven ρ.structs (at_.attr (facts_at program h.2.0) h.0)) (number
          (known_or_zero attr.constant))
          (constant_given ρ.structs program h.0 h.2.0 h.1 (known_or_zero attr.constant)))
      given_keeps how at attr tree.Mythread h f g =
          as_said ρ.structs attr (at_.value int) _ h.1.is (give_brings (IsGiven ρ.structs (at_.value int)) _ tt)
      given_keeps how at attr (tree.SizeOf oper a) h f g =
          as_said ρ.structs attr _ _ h.0.1.is
          (give_brings (IsGiven ρ.structs (at_.size_attr (facts_at program h.0.0) oper (attr_of a).ctype)) _ tt)
      given_keeps how at attr (tree.SizeOfType oper u) h f g =
          as_said ρ.structs attr _ _ h.2.1.is
          (give_brings (IsGiven ρ.structs (at_.size_attr (facts_at program h.2.0) oper h.0.ctype)) _ tt)
      given_keeps how at attr (tree.Object where_) h f g =
          brings_as ρ.structs attr true attr.ctype _ (ap (λ (x : Attr). own_parts.is_lvalue x.form) h.2.1.is) refl
          (object_brings attr where_ f g)
      given_keeps how at attr (tree.Callee called) h f g = absurd h
      given_keeps how at attr (tree.Format bytes) h f g =
          brings_as ρ.structs attr false int _ (ap (λ (x : Attr). own_parts.is_lvalue x.form) h.1.is)
          (ap (λ (x : Attr). x.ctype) h.1.is) (give_brings (IsOf ρ.structs int) _ tt)
      given_keeps how at attr (tree.Paren a) h f g =
          as_said ρ.structs attr (attr_of a) _ h.0 (address_keeps how a h.1 g)
      given_keeps how at attr (tree.Subscript a i) h f g =
          let x = n.Subscript how (attr_of a) (attr_of i) in
          let rule = unbroken (table (facts_at program h.0.0) x) 17 (judge 18 (rule_18 x)) refl h.0.1.rules in
          let leads = pointed (attr_of a)
          (holds (points (attr_of a)) (or_left (not (points (attr_of a))) _ rule)) in
          let said = object_lvalue ρ.structs (base_target (base (attr_of a))) leads.0
          (at_.element_address (facts_at program h.0.0) (attr_of a) (attr_of i) (base_target (base (attr_of a))))
          leads.1 in
          let same : attr.ctype ≡ leads.0 = ap (λ (y : Attr). y.ctype) h.0.1.is ∙ said.1 in
          brings_as ρ.structs attr true attr.ctype _
          (ap (λ (y : Attr). own_parts.is_lvalue y.form) h.0.1.is ∙ said.0) refl
          (first_brings (IsOf ρ.structs (type_of a)) (IsPlaceOf ρ.structs attr.ctype) (e.value ρ call strict a) _
          (value_keeps n.Indexed a h.1 g.0) (λ q hq.
          first_brings (IsOf ρ.structs (type_of i)) (IsPlaceOf ρ.structs attr.ctype) (e.value ρ call strict i) _
          (value_keeps n.Plain i h.2 g.1) (λ j hj.
          let place : IsPlaceOf ρ.structs attr.ctype q =
          subst (λ (w : CType). IsPlaceOf ρ.structs w q) (sym same)
          (is_place ρ.structs (base_of (attr_of a).ctype) leads.0 q leads.1 hq) in
          first_brings (IsPlaceOf ρ.structs attr.ctype) (IsPlaceOf ρ.structs attr.ctype)
          (e.behind ρ at attr.ctype q (number_of j)) _ (behind_brings ρ at attr.ctype q (number_of j) place) (λ r hr.
          first_brings Any (IsPlaceOf ρ.structs attr.ctype) (own_parts.within_row at q (number_of j) (e.dimension a)) _
          (within_row_brings ρ at (e.dimension a) q (number_of j)) (λ u hu.
          give_brings (IsPlaceOf ρ.structs attr.ctype) r hr)))))
      given_keeps how at attr (tree.Call (callee.Function i) args) h f g =
          let ts = parameters_of ρ i in
          let at_type : parameters_of ρ i ≡ h.1.function.parameters = ap parameters_in h.1.found in
          let formed : Each IsFormedType ts =
          subst (λ (us : List CType). Each IsFormedType us) (sym at_type) (fit.formed i h.1.function h.1.found) in
          brings_as ρ.structs attr false h.1.function.result _ (ap (λ (x : Attr). own_parts.is_lvalue x.form) h.2.1.is)
          (ap (λ (x : Attr). x.ctype) h.2.1.is ∙ h.1.result)
          (first_brings (Goes ts []) (IsOf ρ.structs h.1.function.result)
          (e.arguments ρ call strict (t.conversions (e.types_of args) ts) args []) _
          (arguments_keep ts (uses_by (m.Function h.0)) args [] h.3 g formed) (λ vs hv.
          fit.gives i h.1.function vs at h.1.found
          (subst (λ (us : List CType). AreFor ρ.structs us vs) at_type
          (subst (λ (ws : List Value). AreFor ρ.structs ts ws) (sym hv.1) hv.2))))
      given_keeps how at attr (tree.Call (callee.Library c.Printf) args) h f g =
          brings_as ρ.structs attr false int _ (ap (λ (y : Attr). own_parts.is_lvalue y.form) h.0.1.is)
          (ap (λ (y : Attr). y.ctype) h.0.1.is) (printed_keeps (uses_by (m.Library c.Printf)) args h.1 g.1)
      given_keeps how at attr (tree.Call (callee.Library c.GlobalAlloc) (AndExpr a (AndExpr i NoExprs))) h f g =
          let uses = uses_by (m.Library c.GlobalAlloc) in
          let begins = global_start how attr (AndExpr a (AndExpr i NoExprs)) h in
          let sizes : Brings (List Value) (AreNumbers 2)
          (e.arguments ρ call strict (map t.parameter_conversion (call_parameters c.GlobalAlloc)) (AndExpr a
          (AndExpr i NoExprs)) []) =
          first_brings (IsOf ρ.structs (type_of a)) (AreNumbers 2) (e.value ρ call strict a) _
          (value_keeps (first_use uses) a h.1.0 g.1.0) (λ v hv.
          first_brings IsNumber (AreNumbers 2) (o.cast ρ.thread (to.Integer kind.ULong) (place_of a) v) _
          (number_cast kind.ULong (place_of a) v) (λ w hw.
          first_brings (IsOf ρ.structs (type_of i)) (AreNumbers 2) (e.value ρ call strict i) _
          (value_keeps (first_use (later_uses uses)) i h.1.1.0 g.1.1.0) (λ y hy.
          first_brings IsNumber (AreNumbers 2) (o.cast ρ.thread (to.Integer kind.ULong) (place_of i) y) _
          (number_cast kind.ULong (place_of i) y) (λ z hz.
          give_brings (AreNumbers 2) (w ∷ z ∷ []) (hw, (hz, tt))))))
          in
          brings_as ρ.structs attr false (at_.allocated how) _ (ap (λ (y : Attr). own_parts.is_lvalue y.form) h.0.1.is)
          (ap (λ (y : Attr). y.ctype) h.0.1.is)
          (weaker_brings (Fits (kind.Shared begins.0 begins.1)) (IsOf ρ.structs (at_.allocated how)) _
          (first_brings (AreNumbers 2) (Fits (kind.Shared begins.0 begins.1))
          (e.arguments ρ call strict (map t.parameter_conversion (call_parameters c.GlobalAlloc)) (AndExpr a
          (AndExpr i NoExprs)) []) _ sizes
          (λ vs hvs. two_brings ρ.thread begins.0 begins.1 (e.allocated_shape ρ c.GlobalAlloc attr.ctype) at vs hvs))
          begins.2)
      given_keeps how at attr (tree.Call (callee.Library c.GlobalAlloc) args) h f g =
          absurd (global_count how attr args h)
      given_keeps how at attr (tree.Call (callee.Library c.Alloc) (AndExpr a NoExprs)) h f g =
          let uses = uses_by (m.Library c.Alloc) in
          let begins = alloc_start how attr (AndExpr a NoExprs) h in
          let sizes : Brings (List Value) (AreNumbers 1)
          (e.arguments ρ call strict (map t.parameter_conversion (call_parameters c.Alloc)) (AndExpr a NoExprs) []) =
          first_brings (IsOf ρ.structs (type_of a)) (AreNumbers 1) (e.value ρ call strict a) _
          (value_keeps (first_use uses) a h.1.0 g.1.0) (λ v hv.
          first_brings IsNumber (AreNumbers 1) (o.cast ρ.thread (to.Integer kind.ULong) (place_of a) v) _
          (number_cast kind.ULong (place_of a) v) (λ w hw.
          give_brings (AreNumbers 1) (w ∷ []) (hw, tt)))
          in
          brings_as ρ.structs attr false (at_.allocated how) _ (ap (λ (y : Attr). own_parts.is_lvalue y.form) h.0.1.is)
          (ap (λ (y : Attr). y.ctype) h.0.1.is)
          (weaker_brings (Fits (kind.Shared begins.0 begins.1)) (IsOf ρ.structs (at_.allocated how)) _
          (first_brings (AreNumbers 1) (Fits (kind.Shared begins.0 begins.1))
          (e.arguments ρ call strict (map t.parameter_conversion (call_parameters c.Alloc))
          (AndExpr a NoExprs) []) _ sizes
          (λ vs hvs. one_brings ρ.thread begins.0 begins.1 (e.allocated_shape ρ c.Alloc attr.ctype) at vs hvs))
          begins.2)
      given_keeps how at attr (tree.Call (callee.Library c.Alloc) args) h f g = absurd (alloc_count how attr args h)
      given_keeps how at attr (tree.Call (callee.Library c.AllAlloc) (AndExpr a (AndExpr i NoExprs))) h f g =
          let uses = uses_by (m.Library c.AllAlloc) in
          let args = AndExpr a (AndExpr i NoExprs) in
          let begins = all_start how attr args h in
          let shape = e.allocated_shape ρ c.AllAlloc attr.ctype in
          let there = all_shape how attr args h g.0 in
          let into = map t.parameter_conversion (call_parameters c.AllAlloc) in
          let Meets : List Value → Type 0 = λ vs. AreNumbers 2 vs × MayMeet ρ.thread begins.0 begins.1 shape vs in
          let sizes : Brings (List Value) (AreNumbers 2) (e.arguments ρ call strict into args []) =
          first_brings (IsOf ρ.structs (type_of a)) (AreNumbers 2) (e.value ρ call strict a) _
          (value_keeps (first_use uses) a h.1.0 g.1.0) (λ v hv.
          first_brings IsNumber (AreNumbers 2) (o.cast ρ.thread (to.Integer kind.ULong) (place_of a) v) _
          (number_cast kind.ULong (place_of a) v) (λ w hw.
          first_brings (IsOf ρ.structs (type_of i)) (AreNumbers 2) (e.value ρ call strict i) _
          (value_keeps (first_use (later_uses uses)) i h.1.1.0 g.1.1.0) (λ y hy.
          first_brings IsNumber (AreNumbers 2) (o.cast ρ.thread (to.Integer kind.ULong) (place_of i) y) _
          (number_cast kind.ULong (place_of i) y) (λ z hz.
          give_brings (AreNumbers 2) (w ∷ z ∷ []) (hw, (hz, tt))))))
          in
          let meets : Brings (List Value) Meets (e.arguments ρ call strict into args []) =
          both_brings (AreNumbers 2) (MayMeet ρ.thread begins.0 begins.1 shape) _ sizes
          (((all_form_calls program).each thread budget).formed call strict c.AllAlloc shape args tt there.0 there.1)
          in
          brings_as ρ.structs attr false (at_.allocated how) _ (ap (λ (y : Attr). own_parts.is_lvalue y.form) h.0.1.is)
          (ap (λ (y : Attr). y.ctype) h.0.1.is)
          (weaker_brings (Fits (kind.Shared begins.0 begins.1)) (IsOf ρ.structs (at_.allocated how)) _
          (first_brings Meets (Fits (kind.Shared begins.0 begins.1)) (e.arguments ρ call strict into args []) _ meets
          (λ vs hvs. all_alloc_brings ρ.thread begins.0 begins.1 shape at vs hvs.0 hvs.1))
          begins.2)
      given_keeps how at attr (tree.Call (callee.Library c.AllAlloc) args) h f g = absurd (all_count how attr args h)
      given_keeps how at attr (tree.Call (callee.Library c.GlobalLockAlloc) args) h f g =
          brings_as ρ.structs attr false lock_pointer _ (ap (λ (y : Attr). own_parts.is_lvalue y.form) h.0.1.is)
          (ap (λ (y : Attr). y.ctype) h.0.1.is)
          (global_lock_brings ρ.thread (e.allocated_shape ρ c.GlobalLockAlloc attr.ctype) at)
      given_keeps how at attr (tree.Call (callee.Library c.AllLockAlloc) args) h f g =
          brings_as ρ.structs attr false lock_pointer _ (ap (λ (y : Attr). own_parts.is_lvalue y.form) h.0.1.is)
          (ap (λ (y : Attr). y.ctype) h.0.1.is)
          (all_lock_brings ρ.thread (e.allocated_shape ρ c.AllLockAlloc attr.ctype) at)
      given_keeps how at attr (tree.Call (callee.Library call_) args) h f g =
          let into = map t.parameter_conversion (call_parameters call_) in
          brings_as ρ.structs attr false (call_result call_) _ (ap (λ (y : Attr). own_parts.is_lvalue y.form) h.0.1.is)
          (ap (λ (y : Attr). y.ctype) h.0.1.is)
          (first_brings Any (IsOf ρ.structs (call_result call_)) (e.arguments ρ call strict into args []) _
          (any_arguments into (uses_by (m.Library call_)) args [] h.1 g.1) (λ vs hv.
          plain_brings ρ.thread ρ.structs (e.allocated_shape ρ call_ attr.ctype) at vs call_ tt))
      given_keeps how at attr (tree.Member a index) h f g =
          let x = n.MemberOf (attr_of a) h.1 in
          let φ = facts_at program h.0 in
          let named = holds (names_member h.0 (attr_of a).ctype h.1)
          (unbroken (table φ x) 18 (judge 19 (rule_19 φ x)) refl h.2.rules) in
          let member = member_found h.0 (attr_of a).ctype h.1 named in
          let said = member_lvalue ρ.structs (attr_of a).ctype (at_.address_in (attr_of a).form)
          (member_named h.0 (attr_of a).ctype h.1) member.0 member.1 in
          let block : block_of attr.ctype ≡ at_.member_block (block_of (attr_of a).ctype) =
          ap (λ (y : Attr). block_of y.ctype) h.2.is ∙ ap block_of said.1
          ∙ member_type_block (attr_of a).ctype member.0.ctype in
          brings_as ρ.structs attr true attr.ctype _
          (ap (λ (y : Attr). own_parts.is_lvalue y.form) h.2.is ∙ said.0) refl
          (first_brings (IsGiven ρ.structs (attr_of a)) (IsPlaceOf ρ.structs attr.ctype) (e.address ρ call strict a) _
          (address_keeps n.Plain a h.4 g.1) (λ q hq.
          member_brings ρ.thread ρ.structs (attr_of a).ctype attr.ctype
          (t.member_offset ρ.structs (type_of a) index) at q (struct_formed h.0 (attr_of a).ctype h.1 named) f block
          (subst (λ (y : Bool). IsGivenBy ρ.structs y (attr_of a).ctype q) g.0 hq)))
      given_keeps how at attr (tree.MemberBehind a index) h f g =
          let x = n.MemberBehind (attr_of a) h.1 in
          let φ = facts_at program h.0 in
          let named = holds (target_names h.0 (target (attr_of a)) h.1)
          (unbroken (table φ x) 18 (judge 19 (rule_19 φ x)) refl h.2.rules) in
          behind_by at attr a index h.0 h.1 (at_.constant_of (attr_of a)) (base_target (base
          (attr_of a))) refl named h.2.is f
          (value_keeps n.Plain a h.4 g)
      given_keeps how at attr (tree.Step oper a) h f g =
          let x = n.Step (attr_of a) in
          let u = type_of a in
          let rule = unbroken (table (facts_at program h.0.0) x) 12 (judge 13 (rule_13 x)) refl h.0.1.rules in
          let plain = modified (attr_of a) (holds (is_modifiable (attr_of a)) rule) in
          as_said ρ.structs attr (at_.value (value_type u)) _ h.0.1.is
          (first_brings (IsGiven ρ.structs (attr_of a)) (IsOf ρ.structs (value_type u)) (e.address ρ call strict a) _
          (address_keeps n.Plain a h.1 g) (λ q hq.
          first_brings (IsOf ρ.structs u) (IsOf ρ.structs (value_type u)) (e.held ρ strict at u q) _
          (any_held ρ strict at u q (type_formed a g) plain) (λ v hv.
          first_brings _ (IsOf ρ.structs (value_type u)) (e.binary ρ at (e.step_operator ρ oper) u int v (number
          (pos 1))) _
          (binary_phase ρ at (e.step_operator ρ oper) u int v (number (pos 1)) hv) (λ w hw.
          first_brings (IsOf ρ.structs u) (IsOf ρ.structs (value_type u)) (o.cast ρ.thread (conversion u u) at w) _
          (changed_brings u at w (type_formed a g) plain hw) (λ z hz.
          first_brings Any (IsOf ρ.structs (value_type u)) (e.put ρ strict at u q z) _ (put_brings ρ strict at u q z)
          (λ y hy.
          give_brings (IsOf ρ.structs (value_type u)) _
          (of_value_type ρ.structs u _ (stepped_given oper u v z hv hz))))))))
      given_keeps how at attr (tree.Address a) h f g =
          let x = n.Address (attr_of a) in
          let rule = unbroken (table (facts_at program h.0.0) x) 19 (judge 20 (rule_20 x)) refl h.0.1.rules in
          let lvalue = lvalue_form (attr_of a).form (holds (is_lvalue (attr_of a)) (or_left (not (is_lvalue
          (attr_of a))) _ rule)) in
          as_said ρ.structs attr (at_.attr (facts_at program h.0.0) x) _ h.0.1.is
          (weaker_brings (IsGiven ρ.structs (attr_of a)) (IsPlaceOf ρ.structs (attr_of a).ctype)
          (e.address ρ call strict a) (address_keeps n.Plain a h.1 g)
          (λ q hq. subst (λ (y : Bool). IsGivenBy ρ.structs y (attr_of a).ctype q) lvalue hq))
      given_keeps how at attr (tree.Dereference a) h f g =
          let x = n.Dereference (attr_of a) in
          let rule = unbroken (table (facts_at program h.0.0) x) 17 (judge 18 (rule_18 x)) refl h.0.1.rules in
          let leads = pointed (attr_of a) (holds (points (attr_of a)) rule) in
          let said = object_lvalue ρ.structs (base_target (base (attr_of a))) leads.0 (at_.constant_of
          (attr_of a)) leads.1 in
          brings_as ρ.structs attr true leads.0 _ (ap (λ (y : Attr). own_parts.is_lvalue y.form) h.0.1.is ∙ said.0)
          (ap (λ (y : Attr). y.ctype) h.0.1.is ∙ said.1)
          (weaker_brings (IsOf ρ.structs (type_of a)) (IsPlaceOf ρ.structs leads.0) (e.value ρ call strict a)
          (value_keeps n.Plain a h.1 g)
          (λ q hq. is_place ρ.structs (base_of (attr_of a).ctype) leads.0 q leads.1 hq))
      given_keeps how at attr (tree.Unary oper a) h f g =
          as_said ρ.structs attr (unary_attr oper (base_kind (base (attr_of a))) (attr_of a).constant) _ h.0.1.is
          (first_brings (IsOf ρ.structs (type_of a)) _ (e.value ρ call strict a) _ (value_keeps n.Plain a h.1 g)
          (λ v hv.
          weaker_brings IsNumber _ _ (unary_brings at oper (t.integer_of (type_of a)) v)
          (λ w hw. unary_given ρ.structs oper (base_kind (base (attr_of a))) (attr_of a).constant w hw)))
      given_keeps how at attr (tree.Cast a) h f g =
          let u = value_type h.0.ctype in
          let same : attr.ctype ≡ u = ap (λ (y : Attr). y.ctype) h.1.1.is in
          let plain = subst (λ (w : CType). IsNoArray (base_of w)) (sym same) (no_array_value h.0.ctype) in
          brings_as ρ.structs attr false attr.ctype _ (ap (λ (y : Attr). own_parts.is_lvalue y.form) h.1.1.is) refl
          (first_brings (IsOf ρ.structs (type_of a)) (IsOf ρ.structs attr.ctype) (e.value ρ call strict a) _
          (value_keeps (n.Into h.0.ctype) a h.2 g) (λ v hv. cast_brings (type_of a) attr.ctype at v f plain hv))
      given_keeps how at attr (tree.Binary oper a c) h f g =
          let x = n.Binary oper (attr_of a) (attr_of c) in
          let φ = facts_at program h.0.0 in
          let rule = unbroken (table φ x) 13 (judge 14 (rule_14 x)) refl h.0.1.rules in
          as_said ρ.structs attr (at_.binary_attr φ oper (attr_of a) (attr_of c)) _ h.0.1.is
          (first_brings (IsOf ρ.structs (type_of a)) _ (e.value ρ call strict a) _ (value_keeps n.Plain a h.1 g.0)
          (λ v hv.
          first_brings (IsOf ρ.structs (type_of c)) _ (e.value ρ call strict c) _ (value_keeps n.Plain c h.2 g.1)
          (λ w hw.
          binary_brings ρ φ at (attr_of a) (attr_of c) v w hv hw oper (holds (fits oper (attr_of a)
          (attr_of c)) rule))))
      given_keeps how at attr (tree.And a c) h f g =
          brings_as ρ.structs attr false int _ (ap (λ (y : Attr). own_parts.is_lvalue y.form) h.0.1.is)
          (ap (λ (y : Attr). y.ctype) h.0.1.is)
          (first_brings (IsOf ρ.structs (type_of a)) (IsOf ρ.structs int) (e.value ρ call strict a) _
          (value_keeps n.Plain a h.1 g.0) (λ v hv.
          choose_brings (IsOf ρ.structs int) (is_zero v) (give (truth_value false))
          (e.truth_after ρ (e.value ρ call strict c)) (truth_brings false)
          (truth_after_brings c (value_keeps n.Plain c h.2 g.1))))
      given_keeps how at attr (tree.Or a c) h f g =
          brings_as ρ.structs attr false int _ (ap (λ (y : Attr). own_parts.is_lvalue y.form) h.0.1.is)
          (ap (λ (y : Attr). y.ctype) h.0.1.is)
          (first_brings (IsOf ρ.structs (type_of a)) (IsOf ρ.structs int) (e.value ρ call strict a) _
          (value_keeps n.Plain a h.1 g.0) (λ v hv.
          choose_brings (IsOf ρ.structs int) (is_zero v) (e.truth_after ρ (e.value ρ call strict c))
          (give (truth_value true)) (truth_after_brings c (value_keeps n.Plain c h.2 g.1)) (truth_brings true)))
      given_keeps how at attr (tree.Conditional test a c) h f g =
          let k = base_kind (base (attr_of a)) in
          let j = base_kind (base (attr_of c)) in
          let o = base_target (base (attr_of a)) in
          let said = choice_attr (attr_of test).constant (attr_of a) (attr_of c) k j o in
          let same : attr.ctype ≡ said.ctype = ap (λ (y : Attr). y.ctype) h.0.1.is in
          let plain = subst (λ (w : CType). IsNoArray (base_of w)) (sym same)
          (choice_no_array ρ.structs (attr_of test).constant (attr_of a) (attr_of c) k j o) in
          brings_as ρ.structs attr false attr.ctype _ (ap (λ (y : Attr). own_parts.is_lvalue y.form) h.0.1.is
          ∙ choice_form ρ.structs (attr_of test).constant (attr_of a) (attr_of c) k j o) refl
          (first_brings (IsOf ρ.structs (type_of test)) (IsOf ρ.structs attr.ctype) (e.value ρ call strict test) _
          (value_keeps n.Plain test h.1 g.0) (λ v hv.
          choose_brings (IsOf ρ.structs attr.ctype) (is_zero v) (e.converted_to ρ attr.ctype c
          (e.value ρ call strict c))
          (e.converted_to ρ attr.ctype a (e.value ρ call strict a))
          (converted_brings attr.ctype c f plain (value_keeps n.Plain c h.3 g.2))
          (converted_brings attr.ctype a f plain (value_keeps n.Plain a h.2 g.1))))
      given_keeps how at attr (tree.Assign a c) h f g =
          let x = n.Assign (attr_of a) (attr_of c) in
          let u = type_of a in
          let rule = unbroken (table (facts_at program h.0.0) x) 12 (judge 13 (rule_13 x)) refl h.0.1.rules in
          let plain = modified (attr_of a) (holds (is_modifiable (attr_of a)) rule) in
          as_said ρ.structs attr (at_.value (value_type u)) _ h.0.1.is
          (first_brings (IsGiven ρ.structs (attr_of a)) (IsOf ρ.structs (value_type u)) (e.address ρ call strict a) _
          (address_keeps n.Plain a h.1 g.0) (λ q hq.
          first_brings (IsOf ρ.structs u) (IsOf ρ.structs (value_type u)) (e.converted_to ρ u c
          (e.value ρ call strict c)) _
          (converted_brings u c (type_formed a g.0) plain (value_keeps (n.Into u) c h.2 g.1)) (λ w hw.
          first_brings Any (IsOf ρ.structs (value_type u)) (e.put ρ strict at u q w) _ (put_brings ρ strict at u q w)
          (λ y hy. give_brings (IsOf ρ.structs (value_type u)) w (of_value_type ρ.structs u w hw)))))
      given_keeps how at attr (tree.Compound oper a c) h f g =
          let x = n.Compound oper (attr_of a) (attr_of c) in
          let u = type_of a in
          let rule = unbroken (table (facts_at program h.0.0) x) 12 (judge 13 (rule_13 x)) refl h.0.1.rules in
          let plain = modified (attr_of a) (holds (is_modifiable (attr_of a)) rule) in
          as_said ρ.structs attr (at_.value (value_type u)) _ h.0.1.is
          (first_brings (IsGiven ρ.structs (attr_of a)) (IsOf ρ.structs (value_type u)) (e.address ρ call strict a) _
          (address_keeps n.Plain a h.1 g.0) (λ q hq.
          first_brings (IsOf ρ.structs (type_of c)) (IsOf ρ.structs (value_type u)) (e.value ρ call strict c) _
          (value_keeps n.Plain c h.2 g.1) (λ y hy.
          first_brings (IsOf ρ.structs u) (IsOf ρ.structs (value_type u)) (e.held ρ strict at u q) _
          (any_held ρ strict at u q (type_formed a g.0) plain) (λ v hv.
          first_brings _ (IsOf ρ.structs (value_type u)) (e.binary ρ at oper u (type_of c) v y) _
          (binary_phase ρ at oper u (type_of c) v y hv) (λ w hw.
          first_brings (IsOf ρ.structs u) (IsOf ρ.structs (value_type u)) (o.cast ρ.thread (conversion u u) at w) _
          (changed_brings u at w (type_formed a g.0) plain hw) (λ z hz.
          first_brings Any (IsOf ρ.structs (value_type u)) (e.put ρ strict at u q z) _ (put_brings ρ strict at u q z)
          (λ r hr. give_brings (IsOf ρ.structs (value_type u)) z (of_value_type ρ.structs u z hz))))))))
      given_keeps how at attr (tree.Comma NoExprs) h f g = absurd h
      given_keeps how at attr (tree.Comma (AndExpr a more)) h f g =
          as_said ρ.structs attr (at_.value (value_type (last_of a more).ctype)) _ h.0.1.is
          (weaker_brings (IsOf ρ.structs (last_of a more).ctype) (IsOf ρ.structs (value_type (last_of a more).ctype)) _
          (first_brings (IsOf ρ.structs (type_of a)) (IsOf ρ.structs (last_of a more).ctype) (e.value ρ call strict a) _
          (value_keeps n.Plain a h.1 g.0) (λ v hv. last_keeps a v more hv h.2 g.1))
          (λ v hv. of_value_type ρ.structs (last_of a more).ctype v hv))

      last_keeps : (before : Expr) (v : Value) (args : Exprs) → IsOf ρ.structs (type_of before) v
          → MeetsExprs program locals [] args → AreFormed Makes args
          → Brings Value (IsOf ρ.structs (last_of before args).ctype) (e.last ρ call strict v args)
      last_keeps before v NoExprs hv h g = give_brings _ v hv
      last_keeps before v (AndExpr a more) hv h g =
          first_brings (IsOf ρ.structs (type_of a)) _ (e.value ρ call strict a) _
          (value_keeps _ a h.0 g.0) (λ w hw. last_keeps a w more hw h.1 g.1)

      arguments_keep : (ts : List CType) (uses : List Use) (args : Exprs) (before : List Value)
          → MeetsExprs program locals uses args → AreFormed Makes args → Each IsFormedType ts
          → Brings (List Value) (Goes ts before)
          (e.arguments ρ call strict (t.conversions (e.types_of args) ts) args before)
      arguments_keep ts uses NoExprs before h g f = give_brings (Goes ts before) before (goes_none ts before)
      arguments_keep [] uses (AndExpr a more) before h g f = give_brings (Goes [] before) before (goes_none [] before)
      arguments_keep (u ∷ ts) uses (AndExpr a more) before h g f =
          first_brings (IsOf ρ.structs (type_of a)) (Goes (u ∷ ts) before) (e.value ρ call strict a) _
          (value_keeps (first_use uses) a h.0 g.0) (λ v hv.
          first_brings (FitsCell (cell_kind ρ.structs u)) (Goes (u ∷ ts) before)
          (o.cast ρ.thread (conversion (type_of a) u) (place_of a) v) _
          (cast_fits ρ.thread ρ.structs (type_of a) u (place_of a) v hv (integer_kind u f.0)) (λ w hw.
          weaker_brings (Goes ts (before ++ (w ∷ []))) (Goes (u ∷ ts) before) _
          (arguments_keep ts (later_uses uses) more (before ++ (w ∷ [])) h.1 g.1 f.1)
          (λ vs hvs. goes_more u ts before vs w hw hvs)))

      any_arguments : (cs : List CastTo) (uses : List Use) (args : Exprs) (before : List Value)
          → MeetsExprs program locals uses args → AreFormed Makes args
          → Brings (List Value) Any (e.arguments ρ call strict cs args before)
      any_arguments (c_ ∷ cs) uses (AndExpr a more) before h g =
          first_brings (IsOf ρ.structs (type_of a)) Any (e.value ρ call strict a) _
          (value_keeps (first_use uses) a h.0 g.0) (λ v hv.
          first_brings Any Any (o.cast ρ.thread c_ (place_of a) v) _ (any_cast c_ (place_of a) v) (λ w hw.
          any_arguments cs (later_uses uses) more (before ++ (w ∷ [])) h.1 g.1))
      any_arguments (c_ ∷ cs) uses NoExprs before h g = give_brings Any before tt
      any_arguments [] uses args before h g = give_brings Any before tt

      printed_keeps : (uses : List Use) (args : Exprs) → MeetsExprs program locals uses args → AreFormed Makes args
          → Brings Value IsNumber (e.printed ρ call strict args)
      printed_keeps uses NoExprs h g = give_brings IsNumber e.no_value tt
      printed_keeps uses (AndExpr format more) h g =
          first_brings Any IsNumber (e.arguments ρ call strict (map t.promotion (e.types_of more)) more []) _
          (any_arguments (map t.promotion (e.types_of more)) (later_uses uses) more [] h.1 g.1) (λ vs hv.
          print_brings (e.format_of format) vs)

    -- What an expression is converted into fits a cell of the type.
    pub converted_fits : (how : Use) (a : Expr) (u : CType) → MeetsExpr program locals how a → IsFormed Makes a
        → IsFormedType u
        → Brings Value (FitsCell (cell_kind ρ.structs u)) (e.converted_to ρ u a (e.value ρ call strict a))
    converted_fits how a u h f g =
        first_brings (IsOf ρ.structs (type_of a)) (FitsCell (cell_kind ρ.structs u)) (e.value ρ call strict a) _
        (value_keeps how a h f) (λ v hv.
        cast_fits ρ.thread ρ.structs (type_of a) u (place_of a) v hv (integer_kind u g))

pub expressions_keep_types : ExpressionsKeepTypes
expressions_keep_types = record {
  each = λ program thread budget call fit locals how strict a h f.
      value_keeps program thread budget call fit locals strict how a h f;
  given = λ program thread budget call fit locals how strict a h f.
      address_keeps program thread budget call fit locals strict how a h f;
  converted = λ program thread budget call fit locals how strict a u h f g.
      converted_fits program thread budget call fit locals strict how a u h f g;
}
