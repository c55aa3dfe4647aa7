-- Where the types of a program are formed, it has the shapes of the elements that its functions allocate.
use Rattle.std.proofs.Common.{◌≡◌, ◌≤◌, ◌^◌, Bool, true, List, [], ◌∷◌, ◌++◌, length, Option, Some, None, subst}
use Rattle.std.specs.Prelude.{if◌then◌else◌}
use Rattle.upc_values.specs.declared.library.LibraryCall.TheVariants as c
use Rattle.upc_values.specs.Lists.{Each}
use Rattle.upc_values.proofs.Membership.{each-front, each-back}
use Rattle.upc_types.specs.Types.{CType, Structs, base_of}
use Rattle.typing_rules.specs.Nodes.{Attr}
use Rattle.typing_rules.specs.Rules.{has_size}
use Rattle.typing_rules.specs.Values.{base_target}
use Rattle.typed_tree.specs.declared.tree.Target.TheVariants as callee
use Rattle.typed_tree.specs.Tree.{Expr, Is, ExprKind, Literal, Mythread, Object, Callee, Format, Paren, Subscript}
use Rattle.typed_tree.specs.Tree.{Call, Member, MemberBehind, Step, Address, Dereference, Unary, SizeOf, SizeOfType}
use Rattle.typed_tree.specs.Tree.{Cast, Binary, And, Or, Assign, Compound, Conditional, Comma, Exprs, NoExprs}
use Rattle.typed_tree.specs.Tree.{AndExpr, Initial, NoInitial, InitialValue, InitialList, DeclaredObject, Affinity}
use Rattle.typed_tree.specs.Tree.{Everyone, AtValue, Head, Statement, Stands, StatementKind, Block, Value, If}
use Rattle.typed_tree.specs.Tree.{Switch, While, DoWhile, For, Forall, Break, Continue, Return, Synchronise, Fence}
use Rattle.typed_tree.specs.Tree.{StatementOption, NoStatement, TheStatement, Arms, NoArms, AndArm, Items, NoItems}
use Rattle.typed_tree.specs.Tree.{AndObjects, AndStatement, SwitchItems, NoSwitchItems, AndCase, AndDefault}
use Rattle.typed_tree.specs.Tree.{AndSwitchStatement, Function}
use Rattle.typed_tree.specs.Allocated as a
use Rattle.typed_tree.specs.Programs.{Checked, start_of}
use Rattle.meaning_laws.specs.layer.Formed.{AtTarget, MakesSized, HasShape, MakesShaped, IsFormed, HasFormedParts}
use Rattle.meaning_laws.specs.layer.Formed.{AreFormed}
use Rattle.meaning_laws.specs.layer.FormedStatements.{IsFormedInitial, AreFormedObjects, IsFormedValue}
use Rattle.meaning_laws.specs.layer.FormedStatements.{IsFormedAffinity, IsFormedHead, IsFormedStatement, IsFormedBy}
use Rattle.meaning_laws.specs.layer.FormedStatements.{IsFormedLast, AreFormedArms, AreFormedItems, AreFormedSwitch}
use Rattle.meaning_laws.specs.layer.FormedStatements.{IsFormedFunction}
use Rattle.meaning_laws.proofs.Shapes.{allocated_shapes}

module _ (program : Checked) where
  abbrev Sized : CType → Type 0
  Sized = MakesSized program

  abbrev Shaped : CType → Type 0
  Shaped = MakesShaped program

  -- The program has the shapes of these types.
  abbrev Have : List CType → Type 0
  Have ts = Each (HasShape program) ts

  left : (xs ys : List CType) → Have (xs ++ ys) → Have xs
  left xs ys h = each-front (HasShape program) xs ys h

  right : (xs ys : List CType) → Have (xs ++ ys) → Have ys
  right xs ys h = each-back (HasShape program) xs ys h

  shaped_target : (o : Option CType) → AtTarget (λ u. has_size program.structs u ≡ true) o
      → Have (a.laid_target program.structs o) → AtTarget (HasShape program) o
  shaped_target None f h = tt
  shaped_target (Some t) f h =
      let there : Have (t ∷ []) = subst (λ (b : Bool). Have (if b then t ∷ [] else [])) f h in there.0

  -- ---- expressions

  abbrev s : Structs
  s = program.structs

  -- What the arguments of a call that allocates, and the call itself, allocate.
  sides : (t : CType) (args : Exprs)
      → Have (a.allocated_exprs s args ++ a.laid_target s (base_target (base_of t)))
      → Have (a.allocated_exprs s args) × Have (a.laid_target s (base_target (base_of t)))
  sides t args h =
      let p = a.allocated_exprs s args in
      let made = a.laid_target s (base_target (base_of t)) in
      (left p made h, right p made h)

  mutual
    shaped_expr : (e : Expr) → IsFormed Sized e → Have (a.allocated_expr s e) → IsFormed Shaped e
    shaped_expr (Is at attr kind) f h = (f.0, shaped_kind attr kind f.1 h)

    shaped_kind : (attr : Attr) (kind : ExprKind) → HasFormedParts Sized attr kind
        → Have (a.allocated_kind s attr kind) → HasFormedParts Shaped attr kind
    shaped_kind attr Literal f h = tt
    shaped_kind attr Mythread f h = tt
    shaped_kind attr (Callee target) f h = tt
    shaped_kind attr (Format bytes) f h = tt
    shaped_kind attr (SizeOf op x) f h = tt
    shaped_kind attr (SizeOfType op t) f h = tt
    shaped_kind attr (Object home) f h = f
    shaped_kind attr (Paren x) f h = shaped_expr x f h
    shaped_kind attr (MemberBehind x index) f h = shaped_expr x f h
    shaped_kind attr (Step op x) f h = shaped_expr x f h
    shaped_kind attr (Address x) f h = shaped_expr x f h
    shaped_kind attr (Dereference x) f h = shaped_expr x f h
    shaped_kind attr (Unary op x) f h = shaped_expr x f h
    shaped_kind attr (Cast x) f h = shaped_expr x f h
    shaped_kind attr (Member x index) f h = (f.0, shaped_expr x f.1 h)
    shaped_kind attr (Subscript x y) f h =
        let p = a.allocated_expr s x in
        let q = a.allocated_expr s y in
        (shaped_expr x f.0 (left p q h), shaped_expr y f.1 (right p q h))
    shaped_kind attr (Binary op x y) f h =
        let p = a.allocated_expr s x in
        let q = a.allocated_expr s y in
        (shaped_expr x f.0 (left p q h), shaped_expr y f.1 (right p q h))
    shaped_kind attr (And x y) f h =
        let p = a.allocated_expr s x in
        let q = a.allocated_expr s y in
        (shaped_expr x f.0 (left p q h), shaped_expr y f.1 (right p q h))
    shaped_kind attr (Or x y) f h =
        let p = a.allocated_expr s x in
        let q = a.allocated_expr s y in
        (shaped_expr x f.0 (left p q h), shaped_expr y f.1 (right p q h))
    shaped_kind attr (Assign x y) f h =
        let p = a.allocated_expr s x in
        let q = a.allocated_expr s y in
        (shaped_expr x f.0 (left p q h), shaped_expr y f.1 (right p q h))
    shaped_kind attr (Compound op x y) f h =
        let p = a.allocated_expr s x in
        let q = a.allocated_expr s y in
        (shaped_expr x f.0 (left p q h), shaped_expr y f.1 (right p q h))
    shaped_kind attr (Conditional test x y) f h =
        let o = a.allocated_expr s test in
        let p = a.allocated_expr s x in
        let q = a.allocated_expr s y in
        let both = left (o ++ p) q h in (
          shaped_expr test f.0 (left o p both),
          shaped_expr x f.1 (right o p both),
          shaped_expr y f.2 (right (o ++ p) q h),
        )
    shaped_kind attr (Comma parts) f h = shaped_exprs parts f h
    shaped_kind attr (Call (callee.Function number) args) f h =
        shaped_exprs args f (left (a.allocated_exprs s args) [] h)
    shaped_kind attr (Call (callee.Library c.GlobalAlloc) args) f h =
        let r = sides attr.ctype args h in
        (shaped_target (base_target (base_of attr.ctype)) f.0 r.1, shaped_exprs args f.1 r.0)
    shaped_kind attr (Call (callee.Library c.AllAlloc) args) f h =
        let r = sides attr.ctype args h in
        (shaped_target (base_target (base_of attr.ctype)) f.0 r.1, shaped_exprs args f.1 r.0)
    shaped_kind attr (Call (callee.Library c.Alloc) args) f h =
        let r = sides attr.ctype args h in
        (shaped_target (base_target (base_of attr.ctype)) f.0 r.1, shaped_exprs args f.1 r.0)
    shaped_kind attr (Call (callee.Library call_) args) f h =
        let p = a.allocated_exprs s args in
        let made = a.allocated_call s attr.ctype (callee.Library call_) in
        (tt {0}, shaped_exprs args f.1 (left p made h))

    shaped_exprs : (es : Exprs) → AreFormed Sized es → Have (a.allocated_exprs s es) → AreFormed Shaped es
    shaped_exprs NoExprs f h = tt
    shaped_exprs (AndExpr x more) f h =
        let p = a.allocated_expr s x in
        let q = a.allocated_exprs s more in
        (shaped_expr x f.0 (left p q h), shaped_exprs more f.1 (right p q h))

  -- ---- objects and heads

  shaped_value : (o : Option Expr) → IsFormedValue Sized o → Have (a.allocated_value s o) → IsFormedValue Shaped o
  shaped_value None f h = tt
  shaped_value (Some x) f h = shaped_expr x f h

  shaped_initial : (i : Initial) → IsFormedInitial Sized i → Have (a.allocated_initial s i)
      → IsFormedInitial Shaped i
  shaped_initial NoInitial f h = tt
  shaped_initial (InitialValue x) f h = shaped_expr x f h
  shaped_initial (InitialList xs) f h = shaped_exprs xs f h

  shaped_objects : (xs : List DeclaredObject) → AreFormedObjects Sized xs → Have (a.allocated_objects s xs)
      → AreFormedObjects Shaped xs
  shaped_objects [] f h = tt
  shaped_objects (x ∷ xs) f h =
      let p = a.allocated_initial s x.initial in
      let q = a.allocated_objects s xs in (
        record {
          ctype = f.0.ctype;
          elements = f.0.elements;
          initial = shaped_initial x.initial f.0.initial (left p q h);
        },
        shaped_objects xs f.1 (right p q h),
      )

  shaped_head : (head : Head) → IsFormedHead Sized head → Have (a.allocated_head s head) → IsFormedHead Shaped head
  shaped_head head f h =
      let o = a.allocated_objects s head.objects in
      let p = a.allocated_value s head.first in
      let q = a.allocated_value s head.test in
      let r = a.allocated_value s head.step in
      let three = left (o ++ p ++ q) r h in
      let two = left (o ++ p) q three in (
        shaped_objects head.objects f.0 (left o p two),
        shaped_value head.first f.1 (right o p two),
        shaped_value head.test f.2 (right (o ++ p) q three),
        shaped_value head.step f.3 (right (o ++ p ++ q) r h),
      )

  shaped_affinity : (x : Affinity) → IsFormedAffinity Sized x → Have (a.allocated_affinity s x)
      → IsFormedAffinity Shaped x
  shaped_affinity Everyone f h = tt
  shaped_affinity (AtValue x) f h = shaped_expr x f h

  -- ---- statements

  mutual
    shaped_statement : (z : Statement) → IsFormedStatement Sized z → Have (a.allocated_statement s z)
        → IsFormedStatement Shaped z
    shaped_statement (Stands at kind) f h = shaped_by kind f h

    shaped_by : (kind : StatementKind) → IsFormedBy Sized kind → Have (a.allocated_by s kind) → IsFormedBy Shaped kind
    shaped_by (Block strict items) f h = shaped_items items f h
    shaped_by (Value value) f h = shaped_value value f h
    shaped_by (If arms last) f h =
        let p = a.allocated_arms s arms in
        let q = a.allocated_last s last in
        (shaped_arms arms f.0 (left p q h), shaped_last last f.1 (right p q h))
    shaped_by (Switch value items) f h =
        let p = a.allocated_expr s value in
        let q = a.allocated_switch s items in
        (shaped_expr value f.0 (left p q h), shaped_switch items f.1 (right p q h))
    shaped_by (While test body) f h =
        let p = a.allocated_expr s test in
        let q = a.allocated_statement s body in
        (shaped_expr test f.0 (left p q h), shaped_statement body f.1 (right p q h))
    shaped_by (DoWhile body test) f h =
        let p = a.allocated_statement s body in
        let q = a.allocated_expr s test in
        (shaped_statement body f.0 (left p q h), shaped_expr test f.1 (right p q h))
    shaped_by (For head body) f h =
        let p = a.allocated_head s head in
        let q = a.allocated_statement s body in
        (shaped_head head f.0 (left p q h), shaped_statement body f.1 (right p q h))
    shaped_by (Forall head affinity body) f h =
        let o = a.allocated_head s head in
        let p = a.allocated_affinity s affinity in
        let q = a.allocated_statement s body in
        let both = left (o ++ p) q h in (
          shaped_head head f.0 (left o p both),
          shaped_affinity affinity f.1 (right o p both),
          shaped_statement body f.2 (right (o ++ p) q h),
        )
    shaped_by Break f h = tt
    shaped_by Continue f h = tt
    shaped_by (Return value) f h = shaped_value value f h
    shaped_by (Synchronise how value) f h = shaped_value value f h
    shaped_by Fence f h = tt

    shaped_last : (z : StatementOption) → IsFormedLast Sized z → Have (a.allocated_last s z) → IsFormedLast Shaped z
    shaped_last NoStatement f h = tt
    shaped_last (TheStatement z) f h = shaped_statement z f h

    shaped_arms : (arms : Arms) → AreFormedArms Sized arms → Have (a.allocated_arms s arms)
        → AreFormedArms Shaped arms
    shaped_arms NoArms f h = tt
    shaped_arms (AndArm test body more) f h =
        let o = a.allocated_expr s test in
        let p = a.allocated_statement s body in
        let q = a.allocated_arms s more in
        let both = left (o ++ p) q h in (
          shaped_expr test f.0 (left o p both),
          shaped_statement body f.1 (right o p both),
          shaped_arms more f.2 (right (o ++ p) q h),
        )

    shaped_items : (items : Items) → AreFormedItems Sized items → Have (a.allocated_items s items)
        → AreFormedItems Shaped items
    shaped_items NoItems f h = tt
    shaped_items (AndObjects objects more) f h =
        let p = a.allocated_objects s objects in
        let q = a.allocated_items s more in
        (shaped_objects objects f.0 (left p q h), shaped_items more f.1 (right p q h))
    shaped_items (AndStatement z more) f h =
        let p = a.allocated_statement s z in
        let q = a.allocated_items s more in
        (shaped_statement z f.0 (left p q h), shaped_items more f.1 (right p q h))

    shaped_switch : (items : SwitchItems) → AreFormedSwitch Sized items → Have (a.allocated_switch s items)
        → AreFormedSwitch Shaped items
    shaped_switch NoSwitchItems f h = tt
    shaped_switch (AndCase value more) f h = shaped_switch more f h
    shaped_switch (AndDefault more) f h = shaped_switch more f h
    shaped_switch (AndSwitchStatement z more) f h =
        let p = a.allocated_statement s z in
        let q = a.allocated_switch s more in
        (shaped_statement z f.0 (left p q h), shaped_switch more f.1 (right p q h))

  -- ---- functions

  shaped_all : (fs : List Function) → Each (IsFormedFunction Sized) fs → Have (a.allocated_in s fs)
      → Each (IsFormedFunction Shaped) fs
  shaped_all [] f h = tt
  shaped_all (g ∷ fs) f h =
      let p = a.allocated_statement s g.body in
      let q = a.allocated_in s fs in (
        record {
          result = f.0.result;
          parameters = f.0.parameters;
          body = shaped_statement g.body f.0.body (left p q h);
        },
        shaped_all fs f.1 (right p q h),
      )

  pub shaped_functions : Each (IsFormedFunction Sized) program.functions → length (start_of program).shapes ≤ 2 ^ 64
      → Each (IsFormedFunction Shaped) program.functions
  shaped_functions f few = shaped_all program.functions f (allocated_shapes program few)
