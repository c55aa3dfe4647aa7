-- How many instructions the code of statements has.
use Rattle.std.proofs.Common.{◌≡◌, ℕ, ◌+◌, Bool, List, [], ◌∷◌, ◌++◌, length, Some, None, refl, ap, ◌∙◌, arith}
use Rattle.std.proofs.Common.{length-append}
use Rattle.upc_text.specs.declared.place.Place.{Place}
use Rattle.block_layout.specs.declared.kind.Shape.{Shape}
use Rattle.typed_tree.specs.Tree.{place_of, Affinity, Everyone, AtValue, Statement, Stands, StatementKind, Block, If}
use Rattle.typed_tree.specs.Tree.{Switch, While, DoWhile, For, Forall, Break, Continue, Return, Synchronise, Fence}
use Rattle.typed_tree.specs.Tree.{StatementOption, NoStatement, TheStatement, Arms, NoArms, AndArm, Items, NoItems}
use Rattle.typed_tree.specs.Tree.{AndObjects, AndStatement, SwitchItems, NoSwitchItems, AndCase, AndDefault}
use Rattle.typed_tree.specs.Tree.{AndSwitchStatement}
use Rattle.typed_tree.specs.Tree as tree
use Rattle.source_meaning.specs.Types.{integer_of}
use Rattle.source_meaning.specs.layer.Parts.{with_strict}
use Rattle.source_meaning.specs.Expressions.{type_of}
use Rattle.source_meaning.specs.Statements.{Standing, with_objects, shapes_of, objects_in}
use Rattle.stack_code.specs.declared.instruction.StackWork.TheVariants as stack
use Rattle.stack_code.specs.declared.instruction.Jump.TheVariants as jump
use Rattle.stack_code.specs.declared.instruction.ThreadWork.TheVariants as thread
use Rattle.stack_code.specs.declared.instruction.Instr.{Instr}
use Rattle.gen_expr.specs.layer.Sources.{Source, running_of}
use Rattle.gen_expr.specs.layer.Codes.{stacks, jumps, value_code}
use Rattle.gen_stmt.specs.layer.Ways.{Ways, all_past, all_inner, in_loop, in_switch, in_forall}
use Rattle.gen_stmt.specs.layer.Codes.{leaves, acts, gives_back, block_code}
use Rattle.gen_stmt.specs.layer.Codes.{loop_code, loop_size, control_code, label_code}
use Rattle.gen_stmt.specs.layer.Codes.{synchronise_value_code, cases, converted_code}
use Rattle.gen_stmt.specs.layer.Codes.{aside_code, test_code, declared_code}
use Rattle.gen_stmt.specs.layer.Codes.{first_code, guard_code, guard_size, size}
use Rattle.gen_stmt.specs.layer.Codes.{kind_size, last_size, arms_size, items_size}
use Rattle.gen_stmt.specs.layer.Codes.{switch_size, cases_code, before_default, statement_code, kind_code, last_code}
use Rattle.gen_stmt.specs.layer.Codes.{arms_code, items_code, switch_code}

pub block_long : (at : Place) (from : ℕ) (shapes : List Shape) (body : List Instr) (n : ℕ) → length body ≡ n
    → length (block_code at from shapes body) ≡ 1 + n + 1
block_long at from shapes body n e = omega (arith, length-append body (leaves at ∷ []))

pub loop_long : (at : Place) (test body last : List Instr) (m : ℕ) → length body ≡ m
    → length (loop_code at test body last m) ≡ loop_size (length test) m (length last)
loop_long at test body last m e =
    let back = jumps at (jump.GoBack (length test + 1 + m + length last)) ∷ [] in
    omega (
      arith,
      length-append test (jumps at (jump.SkipIfZero (m + length last + 1)) ∷ (body ++ (last ++ back))),
      length-append body (last ++ back),
      length-append last back,
    )

block_sum : (a b : ℕ) → 1 + (a + b) + 1 ≡ 1 + a + b + 1
block_sum a b = omega arith

module _ (ς : Source) where
  pub guard_long : (at : Place) (strict : Bool) (whose : Affinity) (body : List Instr) (m : ℕ) → length body ≡ m
      → length (guard_code ς at strict whose body m) ≡ guard_size ς strict whose m
  guard_long at strict Everyone body m e = e
  guard_long at strict (AtValue a) body m e =
      omega (
        arith,
        length-append (value_code ς strict a)
            (acts (place_of a) thread.Mine ∷ (jumps at (jump.SkipIfZero (1 + m + 1)) ∷ control_code at body)),
        length-append body (acts at thread.Release ∷ []),
      )

  pub cases_long : (at : Place) (κ : Standing) (items : SwitchItems) (before : ℕ)
      → length (cases_code ς at κ items before) ≡ cases items
  cases_long at κ NoSwitchItems before = refl
  cases_long at κ (AndCase w more) before = let h = cases_long at κ more before in omega arith
  cases_long at κ (AndDefault more) before = cases_long at κ more before
  cases_long at κ (AndSwitchStatement s more) before = cases_long at κ more (before + size ς κ s)

  mutual
    pub statement_long : (s : Statement) (κ : Standing) (ω : Ways) → length (statement_code ς κ ω s) ≡ size ς κ s
    statement_long (Stands at kind) κ ω = kind_long kind κ ω at

    pub kind_long : (kind : StatementKind) (κ : Standing) (ω : Ways) (at : Place)
        → length (kind_code ς κ ω at kind) ≡ kind_size ς κ at kind
    kind_long (Block strict items) κ ω at =
        block_long at κ.count (shapes_of (running_of ς) (objects_in items)) _ _
        (items_long items (with_strict strict κ) (all_inner ω))
    kind_long (tree.Value e) κ ω at = refl
    kind_long (If arms last) κ ω at =
        arms_long arms κ ω at (last_code ς κ ω last) (last_size ς κ last) (last_long last κ ω)
    kind_long (Switch e items) κ ω at =
        let ce = value_code ς κ.strict e in
        let cl = label_code at (integer_of (type_of e)) in
        let cc = cases_code ς at κ items 0 in
        let ci = switch_code ς κ (in_switch ω) items in
        let rest = stacks at stack.Pop ∷ (jumps at (jump.GoOn (before_default ς κ items)) ∷ ci) in
        let ei = switch_long items κ (in_switch ω) in
        let ec = cases_long at κ items 0 in
        omega (arith, length-append ce (cl ++ (cc ++ rest)), length-append cl (cc ++ rest), length-append cc rest)
    kind_long (While test body) κ ω at =
        loop_long at (value_code ς κ.strict test) _ [] (size ς κ body) (statement_long body κ (in_loop 0 ω))
    kind_long (DoWhile body test) κ ω at =
        let h = loop_long at (value_code ς κ.strict test) (statement_code ς κ (in_loop 0 ω) body) [] (size ς κ body)
        (statement_long body κ (in_loop 0 ω)) in
        omega arith
    kind_long (For head body) κ ω at =
        let η = with_objects head.objects κ in
        let step = aside_code ς κ.strict head.step in
        let es = statement_long body η (in_loop (length step) (all_inner ω)) in
        let el = loop_long at (test_code ς at κ.strict head.test) _ step (size ς η body) es in
        let first = first_code ς κ.strict head in
        block_long at κ.count (shapes_of (running_of ς) head.objects) _ _
        (length-append first _ ∙ ap (λ n. length first + n) el) ∙ block_sum _ _
    kind_long (Forall head whose body) κ ω at =
        let η = with_objects head.objects κ in
        let step = aside_code ς κ.strict head.step in
        let es = statement_long body η (in_forall (all_inner ω)) in
        let eg = guard_long at κ.strict whose _ (size ς η body) es in
        let m = guard_size ς κ.strict whose (size ς η body) in
        let el = loop_long at (test_code ς at κ.strict head.test) _ step m eg in
        let first = first_code ς κ.strict head in
        block_long at κ.count (shapes_of (running_of ς) head.objects) _ _
        (length-append first _ ∙ ap (λ n. length first + n) el) ∙ block_sum _ _
    kind_long Break κ ω at = refl
    kind_long Continue κ ω at = refl
    kind_long (Return None) κ ω at = refl
    kind_long (Return (Some e)) κ ω at =
        length-append (converted_code ς κ.strict κ.result e) (gives_back at ω.blocks ∷ [])
    kind_long (Synchronise how None) κ ω at = refl
    kind_long (Synchronise how (Some e)) κ ω at =
        length-append (value_code ς κ.strict e) (synchronise_value_code at how)
    kind_long Fence κ ω at = refl

    pub last_long : (last : StatementOption) (κ : Standing) (ω : Ways)
        → length (last_code ς κ ω last) ≡ last_size ς κ last
    last_long NoStatement κ ω = refl
    last_long (TheStatement s) κ ω = statement_long s κ ω

    pub arms_long : (arms : Arms) (κ : Standing) (ω : Ways) (at : Place) (last : List Instr) (n : ℕ)
        → length last ≡ n → length (arms_code ς κ ω at arms last n) ≡ arms_size ς κ arms n
    arms_long NoArms κ ω at last n e = e
    arms_long (AndArm test body more) κ ω at last n e =
        let behind = arms_size ς κ more n in
        let ct = value_code ς κ.strict test in
        let cb = statement_code ς κ (all_past (1 + behind) ω) body in
        let rest = jumps at (jump.GoOn behind) ∷ arms_code ς κ ω at more last n in
        let eb = statement_long body κ (all_past (1 + behind) ω) in
        let er = arms_long more κ ω at last n e in
        omega (
          arith,
          length-append ct (jumps at (jump.SkipIfZero (size ς κ body + 1)) ∷ (cb ++ rest)),
          length-append cb rest,
        )

    pub items_long : (items : Items) (κ : Standing) (ω : Ways)
        → length (items_code ς κ ω items) ≡ items_size ς κ items
    items_long NoItems κ ω = refl
    items_long (AndObjects objects more) κ ω =
        let cd = declared_code ς κ.strict objects in
        let er = items_long more (with_objects objects κ) ω in
        length-append cd _ ∙ ap (λ n. length cd + n) er
    items_long (AndStatement s more) κ ω =
        let k = items_size ς κ more in
        let es = statement_long s κ (all_past k ω) in
        let er = items_long more κ ω in
        omega (arith, length-append (statement_code ς κ (all_past k ω) s) (items_code ς κ ω more))

    pub switch_long : (items : SwitchItems) (κ : Standing) (ω : Ways)
        → length (switch_code ς κ ω items) ≡ switch_size ς κ items
    switch_long NoSwitchItems κ ω = refl
    switch_long (AndCase w more) κ ω = switch_long more κ ω
    switch_long (AndDefault more) κ ω = switch_long more κ ω
    switch_long (AndSwitchStatement s more) κ ω =
        let k = switch_size ς κ more in
        let es = statement_long s κ (all_past k ω) in
        let er = switch_long more κ ω in
        omega (arith, length-append (statement_code ς κ (all_past k ω) s) (switch_code ς κ ω more))
