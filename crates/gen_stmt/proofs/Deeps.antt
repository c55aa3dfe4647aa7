-- The depths of the code of statements and functions agree.
use Rattle.std.proofs.Common.{◌≡◌, ℕ, suc, ◌+◌, Bool, false, List, [], ◌∷◌, ◌++◌, length, map, Option, Some}
use Rattle.std.proofs.Common.{None, refl}
use Rattle.std.proofs.Common.{sym, ap, ◌∙◌, subst, arith, append_assoc, length-append}
use Rattle.upc_text.specs.declared.place.Place.{Place}
use Rattle.block_layout.specs.declared.kind.Kind.{Kind}
use Rattle.block_layout.specs.declared.kind.Shape.{Shape}
use Rattle.upc_values.specs.Lists.{Each}
use Rattle.upc_types.specs.Types.{CType, base_of}
use Rattle.typing_rules.specs.declared.setting.Home.{Home}
use Rattle.typing_rules.specs.declared.setting.Home.TheVariants as home
use Rattle.typed_tree.specs.declared.tree.Synchronises.{Synchronises}
use Rattle.typed_tree.specs.declared.tree.Synchronises.TheVariants.{Notify, Wait, Barrier}
use Rattle.typed_tree.specs.Tree.{Expr, Exprs, NoExprs, AndExpr, place_of, Initial, NoInitial, InitialValue}
use Rattle.typed_tree.specs.Tree.{InitialList, DeclaredObject, Affinity, Everyone, AtValue, Head, Statement, Stands}
use Rattle.typed_tree.specs.Tree.{StatementKind, Block, If, Switch, While, DoWhile, For, Forall, Break, Continue}
use Rattle.typed_tree.specs.Tree.{Return, Synchronise, Fence, StatementOption, NoStatement, TheStatement, Arms}
use Rattle.typed_tree.specs.Tree.{NoArms, AndArm, Items, NoItems, AndObjects, AndStatement, SwitchItems}
use Rattle.typed_tree.specs.Tree.{NoSwitchItems, AndCase, AndDefault, AndSwitchStatement, Function}
use Rattle.typed_tree.specs.Tree as tree
use Rattle.typed_tree.specs.Programs.{Checked}
use Rattle.source_meaning.specs.Types.{integer_of, conversion, cell_kind}
use Rattle.source_meaning.specs.layer.Parts.{with_strict, shapes_in}
use Rattle.source_meaning.specs.Expressions.{type_of}
use Rattle.source_meaning.specs.Statements.{Standing, with_objects, element_type, shapes_of, objects_in}
use Rattle.source_meaning.specs.Threads.{in_body, blank_of}
use Rattle.stack_code.specs.declared.instruction.StackWork.TheVariants as stack
use Rattle.stack_code.specs.declared.instruction.Jump.TheVariants as jump
use Rattle.stack_code.specs.declared.instruction.ThreadWork.TheVariants as thread
use Rattle.stack_code.specs.declared.instruction.Instr.{Instr}
use Rattle.stack_code.specs.layer.Depths.{effect_of, Lands, Fine, Deep, IsDeep}
use Rattle.gen_expr.specs.layer.Sources.{Source, running_of}
use Rattle.gen_expr.specs.layer.Codes.{stacks, jumps, pushes, casts, value_code, object_code, put_code}
use Rattle.stack_code.proofs.Deepenings.{onto, deep_append, lands_past, lands_end, lands_assoc, back_past, Deepens}
use Rattle.stack_code.proofs.Deepenings.{Then, joins, follows, single, begins_with, ends_with, under, no_code, whole}
use Rattle.gen_expr.proofs.Deepening.{either_deepens}
use Rattle.gen_expr.proofs.Depths.{value_deepens, effect_deepens, put_deepens}
use Rattle.gen_stmt.specs.layer.Ways.{Ways, all_past, all_inner, in_loop, in_switch, in_forall, in_function}
use Rattle.gen_stmt.specs.layer.Codes.{leaves, enters, acts, gives_back, block_code, loop_code, control_code}
use Rattle.gen_stmt.specs.layer.Codes.{label_code, synchronise_code, synchronise_value_code, cases, converted_code}
use Rattle.gen_stmt.specs.layer.Codes.{aside_code}
use Rattle.gen_stmt.specs.layer.Codes.{test_code, listed_code, initial_code, declared_code, first_code, guard_code}
use Rattle.gen_stmt.specs.layer.Codes.{guard_size, size, last_size, arms_size, items_size, switch_size, cases_code}
use Rattle.gen_stmt.specs.layer.Codes.{before_default, statement_code, kind_code, last_code, arms_code, items_code}
use Rattle.gen_stmt.specs.layer.Codes.{switch_code}
use Rattle.gen_stmt.specs.layer.Programs.{receives, parameter_access, opened_code, body_code, function_code, entry_code}
use Rattle.gen_stmt.specs.layer.Programs.{source, program_code}
use Rattle.gen_stmt.proofs.Lengths.{guard_long, cases_long, statement_long, last_long, arms_long, items_long}
use Rattle.gen_stmt.proofs.Lengths.{switch_long}

-- The places to which the ways out of a statement lead have this depth.
record Exits (d : ℕ) (ω : Ways) (more : List ℕ) : Type 0 where
  next : Lands more 0 d
  broke : Lands more ω.broken.distance d
  again : Lands more ω.again.distance d

-- Code that is passed before the ways out.
past_exits : (ds more : List ℕ) (n d : ℕ) (ω : Ways) → length ds ≡ n → Lands (ds ++ more) 0 d → Exits d ω more
    → Exits d (all_past n ω) (ds ++ more)
past_exits ds more n d ω e l w =
    record {
      next = l;
      broke = lands_past ds more n ω.broken.distance d e w.broke;
      again = lands_past ds more n ω.again.distance d e w.again;
    }

-- Where all ways out lead to the end.
all_next : (d : ℕ) (ω : Ways) (more : List ℕ) → Lands more ω.broken.distance d → Lands more ω.again.distance d
    → Then d more → Exits d ω more
all_next d ω more b g l = record { next = l; broke = b; again = g }

not_more : (d : ℕ) → Some (suc d) ≡ Some d → ⊥
not_more d e = let q : suc d ≡ d = cc in absurd (omega arith)

-- The first place of a loop's test, from the jump back.
first_of : (ts : List ℕ) (d n : ℕ) (before : List ℕ) → Lands (ts ++ suc d ∷ []) 0 d → length ts ≡ n
    → Lands (suc d ∷ onto ts (d ∷ before)) n d
first_of [] d n before l e = absurd (not_more d l)
first_of (t ∷ ts) d n before l e =
    let same : t ≡ d = cc in
    let q : 1 + (length ts + 0) ≡ n = omega arith in
    subst (λ j. Lands (suc d ∷ onto (t ∷ ts) (d ∷ before)) j d) q
    (lands_past (suc d ∷ []) _ 1 (length ts + 0) d refl
    (back_past ts (t ∷ (d ∷ before)) (length ts) 0 d refl (ap Some same)))

abbrev loop_deepens : (at : Place) (ct cs cl : List Instr) (m d : ℕ) (P : List ℕ → Type 0)
    → Deepens ct d (Then (suc d)) → Deepens cs d P → length cs ≡ m → Deepens cl d (Then d)
    → ((after : List ℕ) → Lands after 0 d → Lands after (length cl + 1) d → P after)
    → Deepens (loop_code at ct cs cl m) d (Then d)
loop_deepens at ct cs cl m d P t s em l leads = record {
  depths = d ∷ (t.depths ++ (suc d ∷ (s.depths ++ (l.depths ++ d ∷ []))));
  long =
      let ht = t.long in
      let hs = s.long in
      let hl = l.long in
      let back = jumps at (jump.GoBack (length ct + 1 + m + length cl)) ∷ [] in
      omega (
        arith,
        length-append t.depths (suc d ∷ (s.depths ++ (l.depths ++ d ∷ []))),
        length-append s.depths (l.depths ++ d ∷ []),
        length-append l.depths (d ∷ []),
        length-append ct (jumps at (jump.SkipIfZero (m + length cl + 1)) ∷ (cs ++ (cl ++ back))),
        length-append cs (cl ++ back),
        length-append cl back,
      );
  begins = λ more p. refl;
  deep = λ before more p.
      let n = length ct + 1 + m + length cl in
      let back_i = jumps at (jump.GoBack n) in
      let skip_i = jumps at (jump.SkipIfZero (m + length cl + 1)) in
      let hs : length s.depths ≡ m = s.long ∙ em in
      let tail : List ℕ = d ∷ more in
      let after_last : Lands (l.depths ++ tail) 0 d = l.begins tail refl in
      let out : Lands (l.depths ++ tail) (length cl + 1) d = lands_past l.depths tail (length cl) 1 d l.long p in
      let to_end : Lands (s.depths ++ (l.depths ++ tail)) (m + (length cl + 1)) d =
      lands_past s.depths (l.depths ++ tail) m (length cl + 1) d hs out in
      let e : m + (length cl + 1) ≡ m + length cl + 1 = omega arith in
      let body = leads (l.depths ++ tail) after_last out in
      let so_far : List ℕ = suc d ∷ onto t.depths (d ∷ before) in
      let back : Lands (d ∷ onto l.depths (onto s.depths so_far)) n d =
      (let q : 1 + (length cl + (m + length ct)) ≡ n = omega arith in
      subst (λ j. Lands (d ∷ onto l.depths (onto s.depths so_far)) j d) q
      (lands_past (d ∷ []) _ 1 (length cl + (m + length ct)) d refl
      (back_past l.depths (onto s.depths so_far) (length cl) (m + length ct) d l.long
      (back_past s.depths so_far m (length ct) d hs
      (first_of t.depths d (length ct) before (t.begins (suc d ∷ []) refl) t.long))))) in
      let ends : Deep (onto s.depths so_far) (cl ++ back_i ∷ []) (l.depths ++ d ∷ []) more =
      deep_append cl (back_i ∷ []) l.depths (d ∷ []) (onto s.depths so_far) more
      (l.deep (onto s.depths so_far) tail refl) ((d, refl, back), tt) in
      let same : l.depths ++ tail ≡ (l.depths ++ d ∷ []) ++ more = sym (append_assoc l.depths (d ∷ []) more) in
      let inside : Deep so_far (cs ++ (cl ++ back_i ∷ [])) (s.depths ++ (l.depths ++ d ∷ [])) more =
      deep_append cs (cl ++ back_i ∷ []) s.depths (l.depths ++ d ∷ []) so_far more
      (subst (λ (x : List ℕ). Deep so_far cs s.depths x) same (s.deep so_far (l.depths ++ tail) body)) ends in
      let same2 : s.depths ++ (l.depths ++ tail) ≡ (s.depths ++ (l.depths ++ d ∷ [])) ++ more =
      ap (λ (x : List ℕ). s.depths ++ x) same ∙ sym (append_assoc s.depths (l.depths ++ d ∷ []) more) in
      let skip : Fine (onto t.depths (d ∷ before)) (effect_of skip_i.does) (suc d)
      ((s.depths ++ (l.depths ++ d ∷ [])) ++ more) = (
        d,
        refl,
        (
          subst (λ (x : List ℕ). Lands x 0 d) same2 (s.begins (l.depths ++ tail) body),
          subst (λ (x : List ℕ). Lands x (m + length cl + 1) d) same2
              (subst (λ j. Lands (s.depths ++ (l.depths ++ tail)) j d) e to_end),
        ),
      ) in
      let all : Deep (d ∷ before) (ct ++ (skip_i ∷ (cs ++ (cl ++ back_i ∷ []))))
      (t.depths ++ (suc d ∷ (s.depths ++ (l.depths ++ d ∷ [])))) more =
      deep_append ct _ t.depths _ (d ∷ before) more (t.deep (d ∷ before) _ refl) (skip, inside) in
      ((d, refl, lands_assoc t.depths _ more 0 d (t.begins _ refl)), all);
}

-- A loop's body, from where the loop begins.
body_lands : (at : Place) (ct cs cl : List Instr) (m d : ℕ) (P : List ℕ → Type 0) (t : Deepens ct d (Then (suc d)))
    (s : Deepens cs d P) (em : length cs ≡ m) (l : Deepens cl d (Then d))
    (leads : (after : List ℕ) → Lands after 0 d → Lands after (length cl + 1) d → P after) (more : List ℕ)
    → Then d more → Lands ((loop_deepens at ct cs cl m d P t s em l leads).depths ++ more) (1 + length ct + 1) d
body_lands at ct cs cl m d P t s em l leads more p =
    let rest : List ℕ = l.depths ++ d ∷ [] in
    let tail : List ℕ = d ∷ more in
    let same : l.depths ++ tail ≡ rest ++ more = sym (append_assoc l.depths (d ∷ []) more) in
    let out : Lands (l.depths ++ tail) (length cl + 1) d = lands_past l.depths tail (length cl) 1 d l.long p in
    let begin : Lands ((s.depths ++ rest) ++ more) 0 d =
    lands_assoc s.depths rest more 0 d (subst (λ (x : List ℕ). Lands (s.depths ++ x) 0 d) same
    (s.begins (l.depths ++ tail) (leads (l.depths ++ tail) (l.begins tail refl) out))) in
    let e : 1 + (length ct + 1) ≡ 1 + length ct + 1 = omega arith in
    subst (λ j. Lands ((loop_deepens at ct cs cl m d P t s em l leads).depths ++ more) j d) e
    (lands_past (d ∷ []) ((t.depths ++ (suc d ∷ (s.depths ++ rest))) ++ more) 1 (length ct + 1) d refl
    (lands_assoc t.depths (suc d ∷ (s.depths ++ rest)) more (length ct + 1) d
    (lands_past t.depths (suc d ∷ ((s.depths ++ rest) ++ more)) (length ct) 1 d t.long begin)))

early_loop : (at : Place) (ct cs cl : List Instr) (m d : ℕ) (P : List ℕ → Type 0) → Deepens ct d (Then (suc d))
    → Deepens cs d P → length cs ≡ m → Deepens cl d (Then d)
    → ((after : List ℕ) → Lands after 0 d → Lands after (length cl + 1) d → P after)
    → Deepens (loop_code at ct cs cl m) d (Then d)
early_loop at ct cs cl m d P t s em l leads = loop_deepens at ct cs cl m d P t s em l leads

-- A loop that begins with its body.
late_loop : (at : Place) (ct cs cl : List Instr) (m d : ℕ) (P : List ℕ → Type 0) → Deepens ct d (Then (suc d))
    → Deepens cs d P → length cs ≡ m → Deepens cl d (Then d)
    → ((after : List ℕ) → Lands after 0 d → Lands after (length cl + 1) d → P after)
    → Deepens (jumps at (jump.GoOn (1 + length ct + 1)) ∷ loop_code at ct cs cl m) d (Then d)
late_loop at ct cs cl m d P t s em l leads =
    let n = 1 + length ct + 1 in
    let goes = jumps at (jump.GoOn n) in
    joins (goes ∷ []) (loop_code at ct cs cl m) d d (λ more. Lands more n d) (Then d)
    (single goes d d (λ more. Lands more n d) refl (λ f more l. l)) (loop_deepens at ct cs cl m d P t s em l leads)
    (λ more w. body_lands at ct cs cl m d P t s em l leads more w)

-- After the comparisons of a switch: the value goes, and the jump leads to a place of the body.
abbrev behind_cases : (at : Place) (part : List Instr) (n d : ℕ) (P Q : List ℕ → Type 0) (x : Deepens part d P)
    → ((more : List ℕ) → Q more → P more) → ((more : List ℕ) → Q more → Lands (x.depths ++ more) n d)
    → Deepens (stacks at stack.Pop ∷ (jumps at (jump.GoOn n) ∷ part)) (suc d) Q
behind_cases at part n d P Q x inside lands =
    let goes = jumps at (jump.GoOn n) in
    begins_with (stacks at stack.Pop) (goes ∷ part) d (suc d) d Q refl (λ f more l. l)
    (joins (goes ∷ []) part d d (λ more. Lands more n d) Q
    (single goes d d (λ more. Lands more n d) refl (λ f more l. l)) (under part d P Q x inside) lands)

block_deepens : (at : Place) (from : ℕ) (shapes : List Shape) (part : List Instr) (d : ℕ) (P Q : List ℕ → Type 0)
    → Deepens part d P → ((more : List ℕ) → Q more → P (d ∷ more)) → ((more : List ℕ) → Q more → Then d more)
    → Deepens (block_code at from shapes part) d Q
block_deepens at from shapes part d P Q x h next =
    begins_with (enters at from shapes) _ d d d Q refl (λ f more l. l)
    (joins part (leaves at ∷ []) d d P Q x (single (leaves at) d d Q refl (λ f more q. next more q)) h)

control_deepens : (at : Place) (part : List Instr) (ω : Ways) (d : ℕ) → Deepens part d (Exits d (in_forall ω))
    → Deepens (control_code at part) d (Then d)
control_deepens at part ω d x =
    begins_with (acts at thread.Control) _ d d d _ refl (λ f more l. l)
    (joins part (acts at thread.Release ∷ []) d d _ _ x
    (single (acts at thread.Release) d d (Then d) refl (λ f more l. l))
    (λ more l. record { next = refl; broke = refl; again = refl }))

label_deepens : (at : Place) (k : Option Kind) (d : ℕ) → Deepens (label_code at k) (suc d) (Then (suc d))
label_deepens at None d = no_code (suc d)
label_deepens at (Some k) d = single _ d (suc d) _ refl (λ f more l. l)

synchronise_deepens : (at : Place) (how : Synchronises) (d : ℕ) → Deepens (synchronise_code at how) d (Then d)
synchronise_deepens at Notify d = single _ d d _ refl (λ f more l. l)
synchronise_deepens at Wait d = single _ d d _ refl (λ f more l. l)
synchronise_deepens at Barrier d =
    begins_with _ _ d d d _ refl (λ f more l. l) (single _ d d _ refl (λ f more l. l))

synchronise_value_deepens : (at : Place) (how : Synchronises) (d : ℕ)
    → Deepens (synchronise_value_code at how) (suc d) (Then d)
synchronise_value_deepens at Notify d = single _ d (suc d) _ refl (λ f more l. l)
synchronise_value_deepens at Wait d = single _ d (suc d) _ refl (λ f more l. l)
synchronise_value_deepens at Barrier d =
    begins_with (stacks at stack.Copy) _ d (suc d) (suc (suc d)) _ refl (λ f more l. l)
    (begins_with (acts at thread.NotifyValue) _ (suc d) (suc (suc d)) (suc d) _ refl (λ f more l. l)
    (single (acts at thread.WaitValue) d (suc d) _ refl (λ f more l. l)))

module _ (ς : Source) where
  object_deepens : (at : Place) (h : Home) (d : ℕ) → Deepens (object_code ς at h) d (Then (suc d))
  object_deepens at (home.Private n) d = single _ d d _ refl (λ f more l. l)
  object_deepens at (home.Shared n) d = single _ d d _ refl (λ f more l. l)
  object_deepens at (home.Local n) d = single _ d d _ refl (λ f more l. l)

  converts : (strict : Bool) (t : CType) (e : Expr) (d : ℕ) → Deepens (converted_code ς strict t e) d (Then (suc d))
  converts strict t e d =
      ends_with (value_code ς strict e) (casts (place_of e) (conversion (type_of e) t)) d d (suc d) _
      (value_deepens ς strict e d) refl (λ f more l. l)

  aside_deepens : (strict : Bool) (e : Option Expr) (d : ℕ) → Deepens (aside_code ς strict e) d (Then d)
  aside_deepens strict None d = no_code d
  aside_deepens strict (Some e) d = effect_deepens ς strict e d

  test_deepens : (at : Place) (strict : Bool) (e : Option Expr) (d : ℕ)
      → Deepens (test_code ς at strict e) d (Then (suc d))
  test_deepens at strict None d = single _ d d _ refl (λ f more l. l)
  test_deepens at strict (Some e) d = value_deepens ς strict e d

  -- A value is kept, and no operand is left.
  keeps : (strict : Bool) (at : Place) (t : CType) (rest : List Instr) (d : ℕ) → Deepens rest d (Then d)
      → Deepens (put_code ς strict at t ++ (stacks at stack.Pop ∷ rest)) (suc (suc d)) (Then d)
  keeps strict at t rest d x =
      follows (put_code ς strict at t) _ (suc (suc d)) (suc d) _ (put_deepens ς strict at t d)
      (begins_with (stacks at stack.Pop) rest d (suc d) d _ refl (λ f more l. l) x)

  listed_deepens : (strict : Bool) (x : DeclaredObject) (es : Exprs) (i d : ℕ)
      → Deepens (listed_code ς strict x i es) d (Then d)
  listed_deepens strict x NoExprs i d = no_code d
  listed_deepens strict x (AndExpr e more) i d =
      let t = element_type (base_of x.ctype) x.ctype in
      follows (object_code ς x.at x.home) _ d (suc d) _ (object_deepens x.at x.home d)
      (begins_with _ _ (suc d) (suc d) (suc (suc d)) _ refl (λ f more l. l)
      (begins_with _ _ d (suc (suc d)) (suc d) _ refl (λ f more l. l)
      (follows (converted_code ς strict t e) _ (suc d) (suc (suc d)) _ (converts strict t e (suc d))
      (keeps strict x.at t _ d (listed_deepens strict x more (i + 1) d)))))

  initial_deepens : (strict : Bool) (x : DeclaredObject) (first : Initial) (d : ℕ)
      → Deepens (initial_code ς strict x first) d (Then d)
  initial_deepens strict x NoInitial d = no_code d
  initial_deepens strict x (InitialValue e) d =
      follows (object_code ς x.at x.home) _ d (suc d) _ (object_deepens x.at x.home d)
      (follows (converted_code ς strict x.ctype e) _ (suc d) (suc (suc d)) _ (converts strict x.ctype e (suc d))
      (keeps strict x.at x.ctype [] d (no_code d)))
  initial_deepens strict x (InitialList es) d = listed_deepens strict x es 0 d

  declared_deepens : (strict : Bool) (objects : List DeclaredObject) (d : ℕ)
      → Deepens (declared_code ς strict objects) d (Then d)
  declared_deepens strict [] d = no_code d
  declared_deepens strict (x ∷ xs) d =
      follows (initial_code ς strict x x.initial) _ d d _ (initial_deepens strict x x.initial d)
      (declared_deepens strict xs d)

  first_deepens : (strict : Bool) (head : Head) (d : ℕ) → Deepens (first_code ς strict head) d (Then d)
  first_deepens strict head d =
      follows (declared_code ς strict head.objects) _ d d _ (declared_deepens strict head.objects d)
      (aside_deepens strict head.first d)

  guard_deepens : (at : Place) (strict : Bool) (whose : Affinity) (part : List Instr) (ω : Ways) (m d : ℕ)
      → length part ≡ m → Deepens part d (Exits d (in_forall ω))
      → Deepens (guard_code ς at strict whose part m) d (Then d)
  guard_deepens at strict Everyone part ω m d em x =
      under part d _ _ x (λ more l. record { next = l; broke = l; again = l })
  guard_deepens at strict (AtValue e) part ω m d em x =
      let ce = value_code ς strict e in
      let c = control_deepens at part ω d x in
      let ec : length c.depths ≡ 1 + m + 1 =
      (let h = c.long in omega (arith, length-append part (acts at thread.Release ∷ []))) in
      let a = value_deepens ς strict e d in
      let skip = jumps at (jump.SkipIfZero (1 + m + 1)) in
      let z = joins (skip ∷ []) (control_code at part) (suc d) d
      (λ more. Lands more 0 d × Lands more (1 + m + 1) d) (Then d)
      (single skip d (suc d) _ refl (λ f more l. l)) c
      (λ more l. (c.begins more l, lands_end c.depths more (1 + m + 1) d ec l)) in
      let n = begins_with (acts (place_of e) thread.Mine) _ d (suc d) (suc d) (Then d) refl (λ f more l. l) z in
      let f = follows ce _ d (suc d) (Then d) a n in
      let over = jumps at (jump.SkipIfControlled (length ce + 2)) in
      joins (over ∷ []) _ d d (λ more. Lands more 0 d × Lands more (length ce + 2) d) (Then d)
      (single over d d _ refl (λ f more l. l)) f
      (λ more l. (
        f.begins more l,
        lands_assoc a.depths (suc d ∷ (suc d ∷ c.depths)) more (length ce + 2) d
            (lands_past a.depths (suc d ∷ (suc d ∷ (c.depths ++ more))) (length ce) 2 d a.long (c.begins more l)),
      ))

  -- Where the parts of a switch begin, of which so many instructions come before these.
  abbrev Entries : ℕ → Standing → SwitchItems → ℕ → List ℕ → Type 0
  Entries d κ NoSwitchItems before after = Unit {0}
  Entries d κ (AndCase w more) before after = Lands after (2 + before) d × Entries d κ more before after
  Entries d κ (AndDefault more) before after = Entries d κ more before after
  Entries d κ (AndSwitchStatement s more) before after = Entries d κ more (before + size ς κ s) after

  cases_deepen : (at : Place) (κ : Standing) (items : SwitchItems) (before d : ℕ)
      → Deepens (cases_code ς at κ items before) (suc d)
      (λ after. Lands after 0 (suc d) × Entries d κ items before after)
  cases_deepen at κ NoSwitchItems before d = under [] (suc d) _ _ (no_code (suc d)) (λ more l. l.0)
  cases_deepen at κ (AndCase w more) before d =
      let n = cases more in
      let rest = cases_deepen at κ more before d in
      let e : n + (2 + before) ≡ n + 2 + before = omega arith in
      let Q = λ (after : List ℕ).
      Lands after 0 (suc d) × (Lands after (2 + before) d × Entries d κ more before after) in
      let i = jumps at (jump.Case w (n + 2 + before)) in
      joins (i ∷ []) (cases_code ς at κ more before) (suc d) (suc d)
      (λ after. Lands after 0 (suc d) × Lands after (n + 2 + before) d) Q
      (single i d (suc d) _ refl (λ f after l. l))
      (under (cases_code ς at κ more before) (suc d) _ Q rest (λ after l. (l.0, l.1.1)))
      (λ after l. (
        rest.begins after (l.0, l.1.1),
        subst (λ j. Lands (rest.depths ++ after) j d) e
            (lands_past rest.depths after n (2 + before) d (rest.long ∙ cases_long ς at κ more before) l.1.0),
      ))
  cases_deepen at κ (AndDefault more) before d = cases_deepen at κ more before d
  cases_deepen at κ (AndSwitchStatement s more) before d = cases_deepen at κ more (before + size ς κ s) d

  -- The parts of a switch.
  record SwitchDeep (items : SwitchItems) (κ : Standing) (ω : Ways) (d : ℕ) : Type 0 where
    code : Deepens (switch_code ς κ ω items) d (Exits d ω)
    entries :
        (before more : List ℕ) (n : ℕ) → length before ≡ n → Exits d ω more
        → Entries d κ items n (suc d ∷ (d ∷ (before ++ (code.depths ++ more))))
    default : (more : List ℕ) → Exits d ω more → Lands (code.depths ++ more) (before_default ς κ items) d

  choices_deepen : (at : Place) (items : SwitchItems) (κ : Standing) (ω : Ways) (d : ℕ)
      → SwitchDeep items κ (in_switch ω) d
      → Deepens (cases_code ς at κ items 0 ++ (stacks at stack.Pop
      ∷ (jumps at (jump.GoOn (before_default ς κ items)) ∷ switch_code ς κ (in_switch ω) items))) (suc d) (Exits d ω)
  choices_deepen at items κ ω d k =
      let inside = λ (more : List ℕ) (w : Exits d ω more). all_next d (in_switch ω) more w.next w.again w.next in
      let rest = behind_cases at (switch_code ς κ (in_switch ω) items) (before_default ς κ items) d
      (Exits d (in_switch ω)) (Exits d ω) k.code inside (λ more w. k.default more (inside more w)) in
      joins (cases_code ς at κ items 0) _ (suc d) (suc d)
      (λ after. Lands after 0 (suc d) × Entries d κ items 0 after) (Exits d ω) (cases_deepen at κ items 0 d) rest
      (λ more w. (refl, k.entries [] more 0 refl (inside more w)))

  mutual
    statement_deepens : (s : Statement) (κ : Standing) (ω : Ways) (d : ℕ)
        → Deepens (statement_code ς κ ω s) d (Exits d ω)
    statement_deepens (Stands at kind) κ ω d = kind_deepens kind κ ω at d

    kind_deepens : (kind : StatementKind) (κ : Standing) (ω : Ways) (at : Place) (d : ℕ)
        → Deepens (kind_code ς κ ω at kind) d (Exits d ω)
    kind_deepens (Block strict items) κ ω at d =
        block_deepens at κ.count (shapes_of (running_of ς) (objects_in items)) _ d (Exits d (all_inner ω)) (Exits d ω)
        (items_deepen items (with_strict strict κ) (all_inner ω) d)
        (λ more w. record {
          next = refl;
          broke = lands_past (d ∷ []) more 1 ω.broken.distance d refl w.broke;
          again = lands_past (d ∷ []) more 1 ω.again.distance d refl w.again;
        })
        (λ more w. w.next)
    kind_deepens (tree.Value e) κ ω at d =
        under (aside_code ς κ.strict e) d (Then d) _ (aside_deepens κ.strict e d) (λ more w. w.next)
    kind_deepens (If arms last) κ ω at d =
        arms_deepen arms κ ω at (last_code ς κ ω last) (last_size ς κ last) d (last_deepens last κ ω d)
        (last_long ς last κ ω)
    kind_deepens (Switch e items) κ ω at d =
        follows (value_code ς κ.strict e) _ d (suc d) (Exits d ω) (value_deepens ς κ.strict e d)
        (follows (label_code at (integer_of (type_of e))) _ (suc d) (suc d) (Exits d ω)
        (label_deepens at (integer_of (type_of e)) d)
        (choices_deepen at items κ ω d (switch_deepens items κ (in_switch ω) d)))
    kind_deepens (While test body) κ ω at d =
        let ω' = in_loop 0 ω in
        under (kind_code ς κ ω at (While test body)) d (Then d) _
        (early_loop at (value_code ς κ.strict test) _ [] (size ς κ body) d (Exits d ω')
        (value_deepens ς κ.strict test d) (statement_deepens body κ ω' d) (statement_long ς body κ ω') (no_code d)
        (λ after a o. record { next = a; broke = o; again = a }))
        (λ more w. w.next)
    kind_deepens (DoWhile body test) κ ω at d =
        let ω' = in_loop 0 ω in
        under (kind_code ς κ ω at (DoWhile body test)) d (Then d) (Exits d ω)
        (late_loop at (value_code ς κ.strict test) _ [] (size ς κ body) d (Exits d ω')
        (value_deepens ς κ.strict test d) (statement_deepens body κ ω' d) (statement_long ς body κ ω') (no_code d)
        (λ after a o. record { next = a; broke = o; again = a }))
        (λ more w. w.next)
    kind_deepens (For head body) κ ω at d =
        let η = with_objects head.objects κ in
        let step = aside_code ς κ.strict head.step in
        let ω' = in_loop (length step) (all_inner ω) in
        block_deepens at κ.count (shapes_of (running_of ς) head.objects) _ d (Then d) (Exits d ω)
        (follows (first_code ς κ.strict head) _ d d (Then d) (first_deepens κ.strict head d)
        (early_loop at (test_code ς at κ.strict head.test) _ step (size ς η body) d (Exits d ω')
        (test_deepens at κ.strict head.test d) (statement_deepens body η ω' d) (statement_long ς body η ω')
        (aside_deepens κ.strict head.step d) (λ after a o. record { next = a; broke = o; again = a })))
        (λ more w. refl) (λ more w. w.next)
    kind_deepens (Forall head whose body) κ ω at d =
        let η = with_objects head.objects κ in
        let step = aside_code ς κ.strict head.step in
        let ω' = in_forall (all_inner ω) in
        let long = statement_long ς body η ω' in
        block_deepens at κ.count (shapes_of (running_of ς) head.objects) _ d (Then d) (Exits d ω)
        (follows (first_code ς κ.strict head) _ d d (Then d) (first_deepens κ.strict head d)
        (early_loop at (test_code ς at κ.strict head.test) _ step (guard_size ς κ.strict whose (size ς η body)) d
        (Then d) (test_deepens at κ.strict head.test d)
        (guard_deepens at κ.strict whose _ (all_inner ω) (size ς η body) d long (statement_deepens body η ω' d))
        (guard_long ς at κ.strict whose _ (size ς η body) long) (aside_deepens κ.strict head.step d)
        (λ after a o. a)))
        (λ more w. refl) (λ more w. w.next)
    kind_deepens Break κ ω at d =
        single (jumps at (jump.Exit ω.broken.blocks ω.broken.distance)) d d (Exits d ω) refl (λ f more w. w.broke)
    kind_deepens Continue κ ω at d =
        single (jumps at (jump.Exit ω.again.blocks ω.again.distance)) d d (Exits d ω) refl (λ f more w. w.again)
    kind_deepens (Return None) κ ω at d =
        begins_with _ _ d d (suc d) _ refl (λ f more l. l)
        (single (gives_back at ω.blocks) d (suc d) (Exits d ω) refl (λ f more w. tt))
    kind_deepens (Return (Some e)) κ ω at d =
        follows (converted_code ς κ.strict κ.result e) _ d (suc d) _ (converts κ.strict κ.result e d)
        (single (gives_back at ω.blocks) d (suc d) (Exits d ω) refl (λ f more w. tt))
    kind_deepens (Synchronise how None) κ ω at d =
        under (synchronise_code at how) d (Then d) _ (synchronise_deepens at how d) (λ more w. w.next)
    kind_deepens (Synchronise how (Some e)) κ ω at d =
        follows (value_code ς κ.strict e) _ d (suc d) _ (value_deepens ς κ.strict e d)
        (under (synchronise_value_code at how) (suc d) (Then d) _ (synchronise_value_deepens at how d)
        (λ more w. w.next))
    kind_deepens Fence κ ω at d = single (acts at thread.Fence) d d (Exits d ω) refl (λ f more w. w.next)

    last_deepens : (last : StatementOption) (κ : Standing) (ω : Ways) (d : ℕ)
        → Deepens (last_code ς κ ω last) d (Exits d ω)
    last_deepens NoStatement κ ω d = under [] d _ _ (no_code d) (λ more w. w.next)
    last_deepens (TheStatement s) κ ω d = statement_deepens s κ ω d

    arms_deepen : (arms : Arms) (κ : Standing) (ω : Ways) (at : Place) (last : List Instr) (n d : ℕ)
        → Deepens last d (Exits d ω) → length last ≡ n → Deepens (arms_code ς κ ω at arms last n) d (Exits d ω)
    arms_deepen NoArms κ ω at last n d x e = x
    arms_deepen (AndArm test body more) κ ω at last n d x e =
        let behind = arms_size ς κ more n in
        let ω' = all_past (1 + behind) ω in
        let v = arms_deepen more κ ω at last n d x e in
        let long = arms_long ς more κ ω at last n e in
        either_deepens at (value_code ς κ.strict test) (statement_code ς κ ω' body) (arms_code ς κ ω at more last n)
        (size ς κ body) behind d d (Exits d ω') (Exits d ω) (value_deepens ς κ.strict test d)
        (statement_deepens body κ ω' d) (statement_long ς body κ ω') v long (λ more w. w.next)
        (λ more w. past_exits (d ∷ v.depths) more (1 + behind) d ω (let h = v.long in omega arith) refl w)

    items_deepen : (items : Items) (κ : Standing) (ω : Ways) (d : ℕ)
        → Deepens (items_code ς κ ω items) d (Exits d ω)
    items_deepen NoItems κ ω d = under [] d _ _ (no_code d) (λ more w. w.next)
    items_deepen (AndObjects objects more) κ ω d =
        follows (declared_code ς κ.strict objects) _ d d _ (declared_deepens κ.strict objects d)
        (items_deepen more (with_objects objects κ) ω d)
    items_deepen (AndStatement s more) κ ω d =
        let n = items_size ς κ more in
        let rest = items_deepen more κ ω d in
        joins (statement_code ς κ (all_past n ω) s) (items_code ς κ ω more) d d (Exits d (all_past n ω)) (Exits d ω)
        (statement_deepens s κ (all_past n ω) d) rest
        (λ after w. past_exits rest.depths after n d ω (rest.long ∙ items_long ς more κ ω) (rest.begins after w) w)

    switch_deepens : (items : SwitchItems) (κ : Standing) (ω : Ways) (d : ℕ) → SwitchDeep items κ ω d
    switch_deepens NoSwitchItems κ ω d = record {
      code = under [] d _ _ (no_code d) (λ more w. w.next);
      entries = λ before more n e w. tt;
      default = λ more w. w.next;
    }
    switch_deepens (AndCase v rest) κ ω d =
        let k = switch_deepens rest κ ω d in
        record {
          code = k.code;
          entries = λ before more n e w. (
            lands_past (suc d ∷ (d ∷ [])) (before ++ (k.code.depths ++ more)) 2 n d refl
                (lands_end before (k.code.depths ++ more) n d e (k.code.begins more w)),
            k.entries before more n e w,
          );
          default = λ more w. k.default more w;
        }
    switch_deepens (AndDefault rest) κ ω d =
        let k = switch_deepens rest κ ω d in
        record {
          code = k.code;
          entries = λ before more n e w. k.entries before more n e w;
          default = λ more w. k.code.begins more w;
        }
    switch_deepens (AndSwitchStatement s rest) κ ω d =
        let k = switch_deepens rest κ ω d in
        let n = switch_size ς κ rest in
        let ω' = all_past n ω in
        let x = statement_deepens s κ ω' d in
        let long = statement_long ς s κ ω' in
        record {
          code = joins (statement_code ς κ ω' s) (switch_code ς κ ω rest) d d (Exits d ω') (Exits d ω) x k.code
              (λ after w. past_exits k.code.depths after n d ω (k.code.long ∙ switch_long ς rest κ ω)
              (k.code.begins after w) w);
          entries = λ before more m e w.
              let same : (before ++ x.depths) ++ (k.code.depths ++ more)
              ≡ before ++ ((x.depths ++ k.code.depths) ++ more) =
              append_assoc before x.depths (k.code.depths ++ more)
              ∙ ap (λ (l : List ℕ). before ++ l) (sym (append_assoc x.depths k.code.depths more)) in
              subst (λ (l : List ℕ). Entries d κ rest (m + size ς κ s) (suc d ∷ (d ∷ l))) same
              (k.entries (before ++ x.depths) more (m + size ς κ s)
              (let h = x.long in omega (arith, length-append before x.depths)) w);
          default = λ more w.
              lands_assoc x.depths k.code.depths more (size ς κ s + before_default ς κ rest) d
              (lands_past x.depths (k.code.depths ++ more) (size ς κ s) (before_default ς κ rest) d (x.long ∙ long)
              (k.default more w));
        }

  -- ---- functions

  opened_deepens : (f : Function) (at : Place) (strict : Bool) (items : Items)
      → Deepens (opened_code ς f at strict items) 0 (Then 0)
  opened_deepens f at strict items =
      begins_with (enters at 0 (shapes_in (running_of ς) f items)) _ 0 0 0 _ refl (λ f more l. l)
      (begins_with (receives at (map (parameter_access ς) f.parameters)) _ 0 0 0 _ refl (λ f more l. l)
      (joins (items_code ς (in_body (running_of ς) f strict) (in_function 1) items) (leaves at ∷ []) 0 0
      (Exits 0 (in_function 1)) (Then 0) (items_deepen items (in_body (running_of ς) f strict) (in_function 1) 0)
      (single (leaves at) 0 0 (Then 0) refl (λ f more l. l))
      (λ more l. record { next = refl; broke = refl; again = refl })))

  plain_deepens : (f : Function) (s : Statement)
      → Deepens (receives f.at [] ∷ statement_code ς (in_body (running_of ς) f false) (in_function 0) s) 0 (Then 0)
  plain_deepens f s =
      let κ = in_body (running_of ς) f false in
      begins_with (receives f.at []) _ 0 0 0 _ refl (λ f more l. l)
      (under (statement_code ς κ (in_function 0) s) 0 _ _ (statement_deepens s κ (in_function 0) 0)
      (λ more l. record { next = l; broke = l; again = l }))

  body_deepens : (f : Function) (s : Statement) → Deepens (body_code ς f s) 0 (Then 0)
  body_deepens f (Stands at (Block strict items)) = opened_deepens f at strict items
  body_deepens f (Stands at (tree.Value e)) = plain_deepens f (Stands at (tree.Value e))
  body_deepens f (Stands at (If arms last)) = plain_deepens f (Stands at (If arms last))
  body_deepens f (Stands at (Switch e items)) = plain_deepens f (Stands at (Switch e items))
  body_deepens f (Stands at (While test s)) = plain_deepens f (Stands at (While test s))
  body_deepens f (Stands at (DoWhile s test)) = plain_deepens f (Stands at (DoWhile s test))
  body_deepens f (Stands at (For head s)) = plain_deepens f (Stands at (For head s))
  body_deepens f (Stands at (Forall head whose s)) = plain_deepens f (Stands at (Forall head whose s))
  body_deepens f (Stands at Break) = plain_deepens f (Stands at Break)
  body_deepens f (Stands at Continue) = plain_deepens f (Stands at Continue)
  body_deepens f (Stands at (Return e)) = plain_deepens f (Stands at (Return e))
  body_deepens f (Stands at (Synchronise how e)) = plain_deepens f (Stands at (Synchronise how e))
  body_deepens f (Stands at Fence) = plain_deepens f (Stands at Fence)

  pub function_deep : (f : Function) → IsDeep (function_code ς f)
  function_deep f =
      let blank = pushes f.at (blank_of (cell_kind ς.structs f.result)) in
      let last = begins_with blank (gives_back f.at 0 ∷ []) 0 0 1 (λ more. Unit {0}) refl (λ g more l. l)
      (single (gives_back f.at 0) 0 1 _ refl (λ g more l. tt)) in
      whole (function_code ς f) (follows (body_code ς f f.body) _ 0 0 _ (body_deepens f f.body) last)

  functions_deep : (fs : List Function) → Each IsDeep (map (function_code ς) fs)
  functions_deep [] = tt
  functions_deep (f ∷ fs) = (function_deep f, functions_deep fs)

entry_deep : (ς : Source) → IsDeep (entry_code ς)
entry_deep ς =
    whole (entry_code ς)
    (begins_with _ _ 0 0 0 _ refl (λ f more l. l)
    (begins_with _ _ 0 0 0 _ refl (λ f more l. l)
    (begins_with _ _ 0 0 1 _ refl (λ f more l. l)
    (begins_with _ _ 1 1 1 _ refl (λ f more l. l)
    (begins_with _ _ 1 1 1 _ refl (λ f more l. l) (single _ 0 1 (λ more. Unit {0}) refl (λ f more l. tt)))))))

pub program_deep : (program : Checked) → Each IsDeep (program_code program).functions
program_deep program = (entry_deep (source program), functions_deep (source program) program.functions)
