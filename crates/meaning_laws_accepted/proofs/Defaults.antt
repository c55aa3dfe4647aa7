-- No default of the meaning is taken in the program of a source that is accepted.
use Rattle.std.proofs.Common.{◌≡◌, ℕ, true, false, not, List, [], ◌∷◌, map, Option}
use Rattle.std.proofs.Common.{Some, None, refl, sym, ap, subst, inl}
use Rattle.std.proofs.lemmas.Bool.{false≢true, and_parts}
use Rattle.integers.specs.declared.operator.BinOp.{BinOp}
use Rattle.upc_values.specs.Lists.{Each}
use Rattle.upc_types.specs.Types as types
use Rattle.upc_types.specs.Types.{CType, Qualified, base_of}
use Rattle.typing_rules.specs.Attributes.{Facts}
use Rattle.typing_rules.specs.Library.{int}
use Rattle.typing_rules.specs.Values.{value_type, base_target}
use Rattle.typing_rules.specs.Meanings as m
use Rattle.typing_rules.specs.Nodes as n
use Rattle.typing_rules.specs.Nodes.{Attr, Use, Around}
use Rattle.typing_rules.specs.Rules.{lowest, table, judge, rule_9, rule_12, all_convert, all_fit, elements_take}
use Rattle.typing_rules.specs.Rules.{converts}
use Rattle.typing_rules.specs.Rules.{is_zero, is_list_type}
use Rattle.typed_tree.specs.declared.tree.Target.TheVariants as target
use Rattle.typed_tree.specs.Tree as typed
use Rattle.typed_tree.specs.Tree.{Expr, Is, ExprKind, Exprs, NoExprs, AndExpr, Initial, DeclaredObject, Affinity}
use Rattle.typed_tree.specs.Tree.{Head}
use Rattle.typed_tree.specs.Tree.{Statement, Stands, StatementKind, StatementOption, Arms, Items, SwitchItems}
use Rattle.typed_tree.specs.Tree.{Function}
use Rattle.typed_tree.specs.Tree.{attr_of, attrs_of}
use Rattle.typed_tree.specs.Words.{uses_by, first_use, later_uses, element_use, in_loop, in_switch, in_forall}
use Rattle.typed_tree.specs.Programs.{Checked}
use Rattle.typed_tree.specs.layer.Judged.{facts_at}
use Rattle.typed_tree.specs.layer.TypedNodes.{MeetsExpr, MeetsKind, MeetsExprs, MeetsValue, MeetsValues, MeetsInitial}
use Rattle.typed_tree.specs.layer.TypedNodes.{MeetsObjects, MeetsHead, MeetsAffinity, MeetsStatement, MeetsBy}
use Rattle.typed_tree.specs.layer.TypedNodes.{MeetsLast}
use Rattle.typed_tree.specs.layer.TypedNodes.{MeetsArms, MeetsItems, MeetsSwitch, MeetsFunction, behind}
use Rattle.typed_tree.specs.layer.TypedNodes.{behind_all, around}
use Rattle.source_meaning.specs.Running.{Running, running}
use Rattle.source_meaning.specs.layer.Parts.{parameters_in}
use Rattle.source_meaning.specs.Types.{conversion}
use Rattle.source_meaning.specs.Expressions.{type_of, step_operator}
use Rattle.source_meaning.specs.Statements.{element_type}
use Rattle.source_meaning.specs.Threads.{called}
use Rattle.meaning_laws.specs.layer.Values.{IsFormedType}
use Rattle.meaning_laws.specs.layer.Uses.{IsTaken}
use Rattle.meaning_laws.specs.layer.Formed.{MakesShaped, IsFormed, HasFormedParts, AreFormed, CallsFit}
use Rattle.meaning_laws.specs.layer.FormedStatements.{AreFormedObjects, IsFormedInitial, IsFormedValue, IsFormedHead}
use Rattle.meaning_laws.specs.layer.FormedStatements.{IsFormedAffinity, IsFormedStatement, IsFormedBy, IsFormedLast}
use Rattle.meaning_laws.specs.layer.FormedStatements.{AreFormedArms, AreFormedItems, AreFormedSwitch}
use Rattle.meaning_laws.specs.layer.FormedStatements.{IsFormedFunction}
use Rattle.meaning_laws.proofs.Operators.{changes_fit, integer_kind}
use Rattle.meaning_laws.proofs.Expressions.{expressions_keep_types}
use Rattle.meaning_laws.proofs.Uses.{operands_are_taken}
use Rattle.meaning_laws.proofs.Choices.{choices_are_taken}
use Rattle.meaning_laws.proofs.Rules.{unbroken, holds, or_left}
use Rattle.meaning_laws_accepted.specs.code.Defaults.{KeepsType, ConvertFits, IsConverted, AreConverted, AllConverted}
use Rattle.meaning_laws_accepted.specs.code.Defaults.{ChangeFits}
use Rattle.meaning_laws_accepted.specs.code.Defaults.{TakesExpr, TakesKind, TakesExprs, TakesValue, TakesInitial}
use Rattle.meaning_laws_accepted.specs.code.Defaults.{TakesObjects, TakesAffinity, TakesHead}
use Rattle.meaning_laws_accepted.specs.code.Defaults.{TakesStatement, TakesBy, TakesLast, TakesArms, TakesItems}
use Rattle.meaning_laws_accepted.specs.code.Defaults.{TakesSwitch, TakesFunction}
use Rattle.meaning_laws_accepted.proofs.Library.{library_takes}
use Rattle.meaning_laws_accepted.proofs.Conversions.{Converts, converts_taken, cast_takes, assign_converts}
use Rattle.meaning_laws_accepted.proofs.Conversions.{return_converts, initial_converts, parameter_converts}

heads_same : {X : Type 0} (x y : X) (xs ys : List X) → x ∷ xs ≡ y ∷ ys → x ≡ y
heads_same x y xs ys h = cc

tails_same : {X : Type 0} (x y : X) (xs ys : List X) → x ∷ xs ≡ y ∷ ys → xs ≡ ys
tails_same x y xs ys h = cc

-- A list of initial values is one of an array's elements.
list_fits : (t : CType) (as_ : List Attr) → is_list_type t ≡ true → elements_take t as_ ≡ true
    → all_fit (element_type (base_of t) t) as_ ≡ true
list_fits (Qualified (types.Array e count) c s x) as_ l h = h
list_fits (Qualified types.Void c s x) as_ l h = absurd (false≢true l)
list_fits (Qualified (types.Integer k) c s x) as_ l h = absurd (false≢true l)
list_fits (Qualified (types.Struct number) c s x) as_ l h = absurd (false≢true l)
list_fits (Qualified (types.Pointer t) c s x) as_ l h = absurd (false≢true l)
list_fits (Qualified types.LockObject c s x) as_ l h = absurd (false≢true l)

list_rules : (φ : Facts) (t : CType) (as_ : List Attr) → lowest φ (n.InitialList false true t as_) ≡ None
    → all_fit (element_type (base_of t) t) as_ ≡ true
list_rules φ t as_ none =
    let x = n.InitialList false true t as_ in
    let kind = unbroken (table φ x) 8 (judge 9 (rule_9 x)) refl none in
    let fits = unbroken (table φ x) 11 (judge 12 (rule_12 x)) refl none in
    list_fits t as_ (holds (is_list_type t) (or_left (not (is_list_type t)) _ kind)) (holds (elements_take t as_) fits)

module _ (program : Checked) (thread budget : ℕ) where
  abbrev ρ : Running
  ρ = running program thread budget

  abbrev Shaped : CType → Type 0
  Shaped = MakesShaped program

  module _ (fit : (calls : ℕ) → CallsFit ρ (called ρ calls)) where
    type_formed : (e : Expr) → IsFormed Shaped e → IsFormedType (type_of e)
    type_formed (Is at attr kind) f = f.0

    keeps_type : (locals : List CType) (how : Use) (e : Expr) → MeetsExpr program locals how e → IsFormed Shaped e
        → KeepsType ρ e
    keeps_type locals how e g f = record {
      result = λ calls strict.
          expressions_keep_types.each program thread budget (called ρ calls) (fit calls) locals how strict e g f;
      given = λ calls strict.
          expressions_keep_types.given program thread budget (called ρ calls) (fit calls) locals how strict e g f;
    }

    convert_fits : (locals : List CType) (how : Use) (t : CType) (e : Expr) → MeetsExpr program locals how e
        → IsFormed Shaped e → IsFormedType t → ConvertFits ρ t e
    convert_fits locals how t e g f h = λ calls strict.
        expressions_keep_types.converted program thread budget (called ρ calls) (fit calls) locals how strict e t g f h

    is_converted : (locals : List CType) (how : Use) (t : CType) (e : Expr) → MeetsExpr program locals how e
        → IsFormed Shaped e → IsFormedType t → Converts (attr_of e) t → IsConverted ρ t e
    is_converted locals how t e g f h c = record {
      taken = λ v o. converts_taken ρ.structs (attr_of e) t v c o;
      fits = convert_fits locals how t e g f h;
    }

    change_fits : (o : BinOp) (t u : CType) → IsFormedType t → ChangeFits ρ o t u
    change_fits o t u h = λ at x y i. changes_fit.each ρ at o t u x y i (integer_kind t h)

    -- Arguments are converted into the types of parameters, which are those of the prototype but for qualifiers.
    are_converted : (locals : List CType) (ss ts : List CType) (args : Exprs) → map value_type ss ≡ map value_type ts
        → all_convert (attrs_of args) ss ≡ true → Each IsFormedType ts
        → MeetsExprs program locals (map n.Into ss) args → AreFormed Shaped args → AreConverted ρ ts args
    are_converted locals ss [] args e a h g f = tt
    are_converted locals ss (t ∷ ts) NoExprs e a h g f = tt
    are_converted locals [] (t ∷ ts) (AndExpr x more) e a h g f = absurd cc
    are_converted locals (s ∷ ss) (t ∷ ts) (AndExpr x more) e a h g f =
        let both = and_parts (converts (attr_of x) s) (all_convert (attrs_of more) ss) a in
        let same = heads_same (value_type s) (value_type t) (map value_type ss) (map value_type ts) e in
        let rest = tails_same (value_type s) (value_type t) (map value_type ss) (map value_type ts) e in (
          is_converted locals (n.Into s) t x g.0 f.0 h.0 (parameter_converts (attr_of x) s t same both.0),
          are_converted locals ss ts more rest both.1 h.1 g.1 f.1,
        )

    -- ---- expressions

    mutual
      takes_expr : (locals : List CType) (how : Use) (e : Expr) → MeetsExpr program locals how e → IsFormed Shaped e
          → TakesExpr ρ e
      takes_expr locals how (Is at attr kind) g f =
          (keeps_type locals how (Is at attr kind) g f, takes_kind locals how attr kind f.0 g f.1)

      takes_kind : (locals : List CType) (how : Use) (attr : Attr) (kind : ExprKind)
          → IsFormedType attr.ctype → MeetsKind program locals how attr kind → HasFormedParts Shaped attr kind
          → TakesKind ρ attr kind
      takes_kind locals how attr typed.Literal own g f = tt
      takes_kind locals how attr typed.Mythread own g f = tt
      takes_kind locals how attr (typed.Object home) own g f = tt
      takes_kind locals how attr (typed.Callee callee) own g f = tt
      takes_kind locals how attr (typed.Format bytes) own g f = tt
      takes_kind locals how attr (typed.Paren a) own g f = takes_expr locals how a g.1 f
      takes_kind locals how attr (typed.Subscript a i) own g f = (
        λ p q hp hq.
            operands_are_taken.subscript program locals how attr a i ρ.structs p q g (type_formed i f.1) hp hq,
        takes_expr locals n.Indexed a g.1 f.0,
        takes_expr locals n.Plain i g.2 f.1,
      )
      takes_kind locals how attr (typed.Call (target.Function number) args) own g f =
          let s = g.0 in
          let declared = g.1 in
          let x = n.Call how (m.Function s) true None (attrs_of args) in
          let passes_all = unbroken (table (facts_at program g.2.0) x) 11 (judge 12 (rule_12 x)) refl g.2.1.rules in
          let converted = are_converted locals s.parameters declared.function.parameters args declared.parameters
          (holds (all_convert (attrs_of args) s.parameters) passes_all)
          ((fit 0).formed number declared.function declared.found) g.3 f in (
            subst (λ (o : Option Function). AreConverted ρ (parameters_in o) args) (sym declared.found) converted,
            takes_exprs locals (uses_by (m.Function s)) args g.3 f,
          )
      takes_kind locals how attr (typed.Call (target.Library call) args) own g f = (
        library_takes program thread budget fit locals how attr call args g.0.0 g.0.1 g.1 f,
        takes_exprs locals (uses_by (m.Library call)) args g.1 f.1,
      )
      takes_kind locals how attr (typed.Member a index) own g f = (
        λ p hp. operands_are_taken.place ρ.structs (type_of a) p (type_formed a f.1) hp,
        takes_expr locals n.Plain a g.4 f.1,
      )
      takes_kind locals how attr (typed.MemberBehind a index) own g f = (
        λ p hp. operands_are_taken.behind program locals how attr a index ρ.structs p g hp,
        takes_expr locals n.Plain a g.4 f,
      )
      takes_kind locals how attr (typed.Step o a) own g f = (
        λ v hv. operands_are_taken.step program locals how attr ρ o a ρ.structs v g (type_formed a f) hv,
        change_fits (step_operator ρ o) (type_of a) int (type_formed a f),
        takes_expr locals n.Plain a g.1 f,
      )
      takes_kind locals how attr (typed.Address a) own g f = takes_expr locals n.Plain a g.1 f
      takes_kind locals how attr (typed.Dereference a) own g f = takes_expr locals n.Plain a g.1 f
      takes_kind locals how attr (typed.Unary o a) own g f = (
        λ v hv. operands_are_taken.unary program locals how attr o a ρ.structs v g (type_formed a f) hv,
        takes_expr locals n.Plain a g.1 f,
      )
      takes_kind locals how attr (typed.SizeOf o a) own g f = tt
      takes_kind locals how attr (typed.SizeOfType o t) own g f = tt
      takes_kind locals how attr (typed.Cast a) own g f =
          let named = g.0 in
          let is : attr.ctype ≡ value_type named.ctype = ap (λ (y : Attr). y.ctype) g.1.1.is in (
            λ v hv. subst (λ (t : CType). IsTaken (is_zero (attr_of a)) (conversion (type_of a) t) v) (sym is)
                (cast_takes ρ.structs (facts_at program g.1.0) named (attr_of a) v g.1.1.rules hv),
            takes_expr locals (n.Into named.ctype) a g.2 f,
          )
      takes_kind locals how attr (typed.Binary o a b) own g f = (
        λ x y hx hy. operands_are_taken.binary program locals how attr o a b ρ.structs x y g (type_formed a f.0)
            (type_formed b f.1) hx hy,
        takes_expr locals n.Plain a g.1 f.0,
        takes_expr locals n.Plain b g.2 f.1,
      )
      takes_kind locals how attr (typed.And a b) own g f =
          (takes_expr locals n.Plain a g.1 f.0, takes_expr locals n.Plain b g.2 f.1)
      takes_kind locals how attr (typed.Or a b) own g f =
          (takes_expr locals n.Plain a g.1 f.0, takes_expr locals n.Plain b g.2 f.1)
      takes_kind locals how attr (typed.Assign a b) own g f =
          let into = n.Into (attr_of a).ctype in (
            is_converted locals into (type_of a) b g.2 f.1 (type_formed a f.0)
                (assign_converts (facts_at program g.0.0) (attr_of a) (attr_of b) g.0.1.rules),
            takes_expr locals n.Plain a g.1 f.0,
            takes_expr locals into b g.2 f.1,
          )
      takes_kind locals how attr (typed.Compound o a b) own g f = (
        λ x y hx hy. operands_are_taken.compound program locals how attr o a b ρ.structs x y g (type_formed a f.0)
            (type_formed b f.1) hx hy,
        change_fits o (type_of a) (type_of b) (type_formed a f.0),
        takes_expr locals n.Plain a g.1 f.0,
        takes_expr locals n.Plain b g.2 f.1,
      )
      takes_kind locals how attr (typed.Conditional test a b) own g f = (
        record {
          taken = λ v o. choices_are_taken.second program locals how attr test a b ρ.structs v g o;
          fits = convert_fits locals n.Plain attr.ctype a g.2 f.1 own;
        },
        record {
          taken = λ v o. choices_are_taken.third program locals how attr test a b ρ.structs v g o;
          fits = convert_fits locals n.Plain attr.ctype b g.3 f.2 own;
        },
        takes_expr locals n.Plain test g.1 f.0,
        takes_expr locals n.Plain a g.2 f.1,
        takes_expr locals n.Plain b g.3 f.2,
      )
      takes_kind locals how attr (typed.Comma NoExprs) own g f = tt
      takes_kind locals how attr (typed.Comma (AndExpr a more)) own g f =
          (takes_expr locals n.Plain a g.1 f.0, takes_exprs locals [] more g.2 f.1)

      takes_exprs : (locals : List CType) (uses : List Use) (xs : Exprs) → MeetsExprs program locals uses xs
          → AreFormed Shaped xs → TakesExprs ρ xs
      takes_exprs locals uses NoExprs g f = tt
      takes_exprs locals uses (AndExpr a more) g f =
          (takes_expr locals (first_use uses) a g.0 f.0, takes_exprs locals (later_uses uses) more g.1 f.1)

    takes_value : (locals : List CType) (o : Option Expr) → MeetsValue program locals o → IsFormedValue Shaped o
        → TakesValue ρ o
    takes_value locals None g f = tt
    takes_value locals (Some e) g f = takes_expr locals n.Plain e g f

    -- ---- initialisers and heads

    all_converted : (locals : List CType) (how : Use) (t : CType) (es : Exprs)
        → MeetsValues program locals false how es → AreFormed Shaped es → IsFormedType t
        → all_fit t (attrs_of es) ≡ true → AllConverted ρ t es × TakesExprs ρ es
    all_converted locals how t NoExprs g f h a = (tt, tt)
    all_converted locals how t (AndExpr e more) g f h a =
        let both = and_parts (converts (attr_of e) t) (all_fit t (attrs_of more)) a in
        let rest = all_converted locals how t more g.2 f.1 h both.1 in
        ((is_converted locals how t e g.0 f.0 h (inl both.0), rest.0), (takes_expr locals how e g.0 f.0, rest.1))

    takes_initial : (locals : List CType) (t : CType) (i : Initial) → MeetsInitial program locals false t i
        → IsFormedInitial Shaped i → IsFormedType t → IsFormedType (element_type (base_of t) t) → TakesInitial ρ t i
    takes_initial locals t typed.NoInitial g f h k = tt
    takes_initial locals t (typed.InitialValue e) g f h k = (
      is_converted locals (n.Into t) t e g.1 f h
          (initial_converts (facts_at program g.0.structs) false t (attr_of e) g.0.rules),
      takes_expr locals (n.Into t) e g.1 f,
    )
    takes_initial locals t (typed.InitialList es) g f h k =
        all_converted locals (element_use (base_target (base_of t))) (element_type (base_of t) t) es g.1 f k
        (list_rules (facts_at program g.0.structs) t (attrs_of es) g.0.rules)

    takes_objects : (locals : List CType) (xs : List DeclaredObject) → MeetsObjects program locals false xs
        → AreFormedObjects Shaped xs → TakesObjects ρ xs
    takes_objects locals [] g f = tt
    takes_objects locals (x ∷ xs) g f = (
      takes_initial (behind locals x) x.ctype x.initial g.0.initial f.0.initial f.0.ctype f.0.elements,
      takes_objects (behind locals x) xs g.1 f.1,
    )

    takes_head : (locals : List CType) (head : Head) → MeetsHead program locals head → IsFormedHead Shaped head
        → TakesHead ρ head
    takes_head locals head g f =
        let inner = behind_all locals head.objects in (
          takes_objects locals head.objects g.0 f.0,
          takes_value inner head.first g.1 f.1,
          takes_value inner head.test g.2 f.2,
          takes_value inner head.step g.3 f.3,
        )

    takes_affinity : (locals : List CType) (a : Affinity) → MeetsAffinity program locals a
        → IsFormedAffinity Shaped a → TakesAffinity ρ a
    takes_affinity locals typed.Everyone g f = tt
    takes_affinity locals (typed.AtValue e) g f = (
      λ v hv. operands_are_taken.affinity program e ρ.structs v g.0 (type_formed e f) hv,
      takes_expr locals n.Plain e g.1 f,
    )

    -- ---- statements

    mutual
      takes_statement : (c : Around) → IsFormedType c.result → (locals : List CType) (s : Statement)
          → MeetsStatement program c locals s → IsFormedStatement Shaped s → TakesStatement ρ c.result s
      takes_statement c h locals (Stands at kind) g f = takes_by c h locals kind g f

      takes_by : (c : Around) → IsFormedType c.result → (locals : List CType) (kind : StatementKind)
          → MeetsBy program c locals kind → IsFormedBy Shaped kind → TakesBy ρ c.result kind
      takes_by c h locals (typed.Block strict items) g f = takes_items c h locals items g f
      takes_by c h locals (typed.Value value) g f = takes_value locals value g f
      takes_by c h locals (typed.If arms last) g f =
          (takes_arms c h locals arms g.1 f.0, takes_last c h locals last g.2 f.1)
      takes_by c h locals (typed.Switch value items) g f = (
        (
          λ v hv. operands_are_taken.switch program value g.1.labels _ ρ.structs v g.1.rules (type_formed value f.0)
              hv,
          takes_expr locals n.Plain value g.0 f.0,
        ),
        takes_switch (in_switch c) h locals items g.2 f.1,
      )
      takes_by c h locals (typed.While test body) g f =
          (takes_expr locals n.Plain test g.1 f.0, takes_statement (in_loop c) h locals body g.2 f.1)
      takes_by c h locals (typed.DoWhile body test) g f =
          (takes_statement (in_loop c) h locals body g.2 f.0, takes_expr locals n.Plain test g.1 f.1)
      takes_by c h locals (typed.For head body) g f = (
        takes_head locals head g.0 f.0,
        takes_statement (in_loop c) h (behind_all locals head.objects) body g.1 f.1,
      )
      takes_by c h locals (typed.Forall head affinity body) g f =
          let inner = behind_all locals head.objects in (
            takes_head locals head g.0 f.0,
            takes_affinity inner affinity g.1 f.1,
            takes_statement (in_forall c) h inner body g.2 f.2,
          )
      takes_by c h locals typed.Break g f = tt
      takes_by c h locals typed.Continue g f = tt
      takes_by c h locals (typed.Return None) g f = tt
      takes_by c h locals (typed.Return (Some e)) g f = (
        is_converted locals (n.Into c.result) c.result e g.1 f h
            (return_converts (facts_at program g.0.structs) c (attr_of e) g.0.rules),
        takes_expr locals (n.Into c.result) e g.1 f,
      )
      takes_by c h locals (typed.Synchronise how None) g f = tt
      takes_by c h locals (typed.Synchronise how (Some e)) g f = (
        λ v hv. operands_are_taken.barrier program e ρ.structs v g.0 (type_formed e f) hv,
        takes_expr locals n.Plain e g.1 f,
      )
      takes_by c h locals typed.Fence g f = tt

      takes_last : (c : Around) → IsFormedType c.result → (locals : List CType) (o : StatementOption)
          → MeetsLast program c locals o → IsFormedLast Shaped o → TakesLast ρ c.result o
      takes_last c h locals typed.NoStatement g f = tt
      takes_last c h locals (typed.TheStatement s) g f = takes_statement c h locals s g f

      takes_arms : (c : Around) → IsFormedType c.result → (locals : List CType) (arms : Arms)
          → MeetsArms program c locals arms → AreFormedArms Shaped arms → TakesArms ρ c.result arms
      takes_arms c h locals typed.NoArms g f = tt
      takes_arms c h locals (typed.AndArm test body more) g f = (
        takes_expr locals n.Plain test g.0 f.0,
        takes_statement c h locals body g.1 f.1,
        takes_arms c h locals more g.2 f.2,
      )

      takes_items : (c : Around) → IsFormedType c.result → (locals : List CType) (items : Items)
          → MeetsItems program c locals items → AreFormedItems Shaped items → TakesItems ρ c.result items
      takes_items c h locals typed.NoItems g f = tt
      takes_items c h locals (typed.AndObjects objects more) g f =
          (takes_objects locals objects g.0 f.0, takes_items c h (behind_all locals objects) more g.1 f.1)
      takes_items c h locals (typed.AndStatement s more) g f =
          (takes_statement c h locals s g.0 f.0, takes_items c h locals more g.1 f.1)

      takes_switch : (c : Around) → IsFormedType c.result → (locals : List CType) (items : SwitchItems)
          → MeetsSwitch program c locals items → AreFormedSwitch Shaped items → TakesSwitch ρ c.result items
      takes_switch c h locals typed.NoSwitchItems g f = tt
      takes_switch c h locals (typed.AndCase value more) g f = takes_switch c h locals more g f
      takes_switch c h locals (typed.AndDefault more) g f = takes_switch c h locals more g f
      takes_switch c h locals (typed.AndSwitchStatement s more) g f =
          (takes_statement c h locals s g.0 f.0, takes_switch c h locals more g.1 f.1)

    pub takes_functions : (fs : List Function) → Each (MeetsFunction program) fs → Each (IsFormedFunction Shaped) fs
        → Each (TakesFunction ρ) fs
    takes_functions [] g f = tt
    takes_functions (x ∷ xs) g f = (
      takes_statement (around x.result) f.0.result x.parameters x.body g.0.body f.0.body,
      takes_functions xs g.1 f.1,
    )
