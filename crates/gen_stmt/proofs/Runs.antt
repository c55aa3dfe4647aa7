-- The code of a statement does what the statement does.
use Rattle.std.proofs.Common.{◌≡◌, ℕ, zero, suc, ◌+◌, ◌-◌, ℤ, pos, Bool, true, false, List, [], ◌∷◌, ◌++◌, length}
use Rattle.std.proofs.Common.{Option, Some, None, refl, sym, ap, ◌∙◌, subst, arith, length-append}
use Rattle.std.specs.Prelude.{pred, slice_get}
use Rattle.std.specs.Ordering.{int_eq}
use Rattle.upc_text.specs.declared.place.Place.{Place}
use Rattle.block_layout.specs.declared.kind.Kind.{Kind}
use Rattle.block_layout.specs.declared.kind.Kind.TheVariants as kind
use Rattle.block_layout.specs.declared.place.LocalPtr.TheVariants as local
use Rattle.integers.specs.Integers.{converted, promoted}
use Rattle.upc_values.specs.declared.scalar.Value.{Value}
use Rattle.upc_values.specs.declared.scalar.Value.TheVariants as value
use Rattle.upc_values.specs.declared.scalar.Mark.{Mark}
use Rattle.upc_values.specs.declared.scalar.Mark.TheVariants.{Absent, Given}
use Rattle.upc_types.specs.Types.{CType, base_of}
use Rattle.typing_rules.specs.Rules.{label_kind}
use Rattle.typing_rules.specs.declared.setting.Home.{Home}
use Rattle.typing_rules.specs.declared.setting.Home.TheVariants as home
use Rattle.typed_tree.specs.declared.tree.Synchronises.{Synchronises}
use Rattle.typed_tree.specs.declared.tree.Synchronises.TheVariants.{Notify, Wait, Barrier}
use Rattle.typed_tree.specs.Tree.{Expr, Exprs, NoExprs, AndExpr, place_of, Initial, NoInitial, InitialValue}
use Rattle.typed_tree.specs.Tree.{InitialList, DeclaredObject, Affinity, Everyone, AtValue, Head, Statement, Stands}
use Rattle.typed_tree.specs.Tree.{StatementKind, Block, If, Switch, While, DoWhile, For, Forall, Break, Continue}
use Rattle.typed_tree.specs.Tree.{Return, Synchronise, Fence, StatementOption, NoStatement, TheStatement, Arms}
use Rattle.typed_tree.specs.Tree.{NoArms, AndArm, Items, NoItems, AndObjects, AndStatement, SwitchItems}
use Rattle.typed_tree.specs.Tree.{NoSwitchItems, AndCase, AndDefault, AndSwitchStatement}
use Rattle.typed_tree.specs.Tree as tree
use Rattle.private_store.specs.Live.{controls}
use Rattle.thread_steps.specs.declared.cast.CastTo.TheVariants as to
use Rattle.thread_steps.specs.layer.Parts.{one_less}
use Rattle.thread_steps.specs.States.{Thread, State, Res, Val, Over, Unfinished, bind, Doing, ◌>>◌, give}
use Rattle.thread_steps.specs.States.{choose}
use Rattle.thread_steps.specs.Values.{number, number_of, is_zero}
use Rattle.thread_steps.specs.Actions.{tick, notify, wait, fence, is_controlled}
use Rattle.thread_steps.specs.Accesses.{save}
use Rattle.thread_steps.specs.Operators.{cast}
use Rattle.thread_steps.specs.Blocks.{open_block, close_block, local_object, control, release, mine, with_live}
use Rattle.source_meaning.specs.Types.{integer_of, conversion, is_strict, cell_kind}
use Rattle.source_meaning.specs.layer.Parts.{with_strict, saved, Does, caught, turn_on, go_on}
use Rattle.source_meaning.specs.Running.{Running, shared_object}
use Rattle.source_meaning.specs.Expressions.{Calls, no_value, type_of, value, object, behind, converted_to, put}
use Rattle.source_meaning.specs.Statements.{Flow, Next, Broke, Again, Gave, Standing, with_objects}
use Rattle.source_meaning.specs.Statements.{finished, objects_in, element_type, shapes_of}
use Rattle.source_meaning.specs.Statements.{blocked, around, turns, controlling, synchronised, aside, tested}
use Rattle.source_meaning.specs.Statements.{guarded, listed, initialised, declared, run, run_kind, run_last, run_arms}
use Rattle.source_meaning.specs.Statements.{run_items, run_switch, from_case, from_default}
use Rattle.stack_code.specs.declared.instruction.StackWork.TheVariants as stack
use Rattle.stack_code.specs.declared.instruction.Jump.TheVariants as jump
use Rattle.stack_code.specs.declared.instruction.ThreadWork.TheVariants as thread
use Rattle.stack_code.specs.declared.instruction.Instr.{Instr}
use Rattle.stack_code.specs.layer.Codes.{function_at}
use Rattle.stack_code.specs.layer.Steps.{Spot, Conf, At, Halt, conf_of, pick, close_blocks, given_back, act, step}
use Rattle.stack_code.specs.layer.Meets.{HasAt, Leads, Meets}
use Rattle.stack_code.proofs.Meetings.{has_front, has_back, has_past, leads_on, stays, one_step, after, then_meets}
use Rattle.stack_code.proofs.Meetings.{same_step, here, lands, chooses, fetched}
use Rattle.gen_expr.specs.layer.Sources.{Source, source_of, running_of}
use Rattle.gen_expr.specs.layer.Codes.{stacks, jumps, pushes, casts}
use Rattle.gen_expr.specs.layer.Codes.{saves, value_code, effect_code, object_code, put_code, saved_code}
use Rattle.gen_expr.specs.layer.Codes.{advance_code}
use Rattle.gen_expr.specs.layer.Meanings.{MeansValue, MeansEffect}
use Rattle.gen_stmt.specs.layer.Ways.{Ways, way, all_past, all_inner, in_loop, in_switch, in_forall}
use Rattle.gen_stmt.specs.layer.Codes.{leaves, enters, acts, gives_back, block_code, loop_code, loop_size, control_code}
use Rattle.gen_stmt.specs.layer.Codes.{label_code, synchronise_code, synchronise_value_code, cases, converted_code}
use Rattle.gen_stmt.specs.layer.Codes.{aside_code}
use Rattle.gen_stmt.specs.layer.Codes.{test_code, listed_code, initial_code, declared_code, first_code, guard_code}
use Rattle.gen_stmt.specs.layer.Codes.{guard_size, size, kind_size, last_size}
use Rattle.gen_stmt.specs.layer.Codes.{arms_size, items_size, switch_size, cases_code}
use Rattle.gen_stmt.specs.layer.Codes.{before_default, statement_code, kind_code, last_code, arms_code, items_code}
use Rattle.gen_stmt.specs.layer.Codes.{switch_code}
use Rattle.gen_stmt.proofs.Lengths.{loop_long, guard_long, cases_long, statement_long, last_long}
use Rattle.gen_stmt.proofs.Lengths.{items_long}
use Rattle.gen_stmt.proofs.Counts.{same_return}

-- Where the ways out lead to these places.
abbrev pub ways_at : Ways → ℕ → ℕ → Ways
ways_at ω x y = record {
  broken = way ω.broken.blocks x;
  again = way ω.again.blocks y;
  blocks = ω.blocks;
}

-- The ways out of the body of a loop, whose end and whose last part lie there.
abbrev looped : Ways → ℕ → ℕ → Ways
looped ω x y = record { broken = way 0 x; again = way 0 y; blocks = ω.blocks }

-- The same ways from inside one more block.
abbrev closing : Ways → Ways
closing ω = record {
  broken = way (suc ω.broken.blocks) ω.broken.distance;
  again = way (suc ω.again.blocks) ω.again.distance;
  blocks = suc ω.blocks;
}

-- The value of a switch at its kind.
abbrev labelled : Option Kind → Value → Value
labelled None v = v
labelled (Some k) v = number (converted (promoted k) (number_of v))

labelled_is : (k : Option Kind) (v : Value) → number_of (labelled k v) ≡ label_kind k (number_of v)
labelled_is None v = refl
labelled_is (Some k) v = refl

-- Where the results of one step after another lead.
pub conf_bind : (A B : Type 0) (r : Res A) (f : A → State → Res B) (go : B → State → Conf)
    → conf_of (bind r f) go ≡ conf_of r (λ a σ. conf_of (f a σ) go)
conf_bind A B (Val a σ) f go = refl
conf_bind A B (Over told σ) f go = refl
conf_bind A B Unfinished f go = refl

bind_bind : (A B C : Type 0) (r : Res A) (f : A → State → Res B) (g : B → State → Res C)
    → bind (bind r f) g ≡ bind r (λ a σ. bind (f a σ) g)
bind_bind A B C (Val a σ) f g = refl
bind_bind A B C (Over told σ) f g = refl
bind_bind A B C Unfinished f g = refl

module _ (θ : Thread) (fs : List (List Instr)) where
  pub conf_meets : (A : Type 0) (go : A → State → Conf) (r : Res A) → Meets θ fs A (conf_of r go) go r
  conf_meets A go (Val a σ) = record { by = stays θ fs (go a σ) }
  conf_meets A go (Over told σ) = record { by = stays θ fs (Halt told σ) }
  conf_meets A go Unfinished = record { by = tt }

-- The code of each expression does what the expression does, where its value is wanted and where it is not.
abbrev pub AllMeant : Running → List (List Instr) → Calls → Type 0
AllMeant ρ fs call =
    (strict : Bool) (e : Expr) → MeansValue ρ fs call strict e × MeansEffect ρ fs call strict e

module _ (ρ : Running) (fs : List (List Instr)) (call : Calls) (values : AllMeant ρ fs call) (fn : ℕ) (back : Spot)
    (calls : List Spot) where
  abbrev θ : Thread
  θ = ρ.thread

  abbrev ς : Source
  ς = source_of ρ

  abbrev code : List Instr
  code = function_at fs fn

  -- At a place of the function, inside its call.
  abbrev pub on : ℕ → List Value → State → Conf
  on pc ops σ = At (record { function = fn; place = pc }) [] ops (back ∷ calls) σ

  abbrev pub val_on : ℕ → List Value → Value → State → Conf
  val_on pc ops v σ = on pc (v ∷ ops) σ

  abbrev pub any_on : {A : Type 0} → ℕ → List Value → A → State → Conf
  any_on pc ops a σ = on pc ops σ

  -- The same after the end of so many blocks.
  abbrev pub shut : ℕ → (State → Conf) → State → Conf
  shut n go σ = conf_of (close_blocks n σ) (λ _. go)

  -- Where a statement leads by how it is left; its ways say places.
  abbrev pub flow_at : List Value → ℕ → Ways → Flow → State → Conf
  flow_at ops out ω Next σ = on out ops σ
  flow_at ops out ω Broke σ = shut ω.broken.blocks (on ω.broken.distance ops) σ
  flow_at ops out ω Again σ = shut ω.again.blocks (on ω.again.distance ops) σ
  flow_at ops out ω (Gave v) σ = shut ω.blocks (given_back v ops (back ∷ calls)) σ

  abbrev Meet : (A : Type 0) → Conf → (A → State → Conf) → Res A → Type 0
  Meet A c go r = Meets θ fs A c go r

  pub fetch : (pc : ℕ) (ops : List Value) (σ : State) (i : Instr) → slice_get code pc ≡ Some i
      → step θ fs (on pc ops σ)
      ≡ act θ (Some i) (record { function = fn; place = pc }) [] ops (back ∷ calls) σ
  fetch pc ops σ i h = fetched θ fs (record { function = fn; place = pc }) [] ops (back ∷ calls) σ i h

  -- The same place under another name.
  pub moved : (p q : ℕ) (ops : List Value) (σ : State) → p ≡ q → Leads θ fs (on p ops σ) (on q ops σ)
  moved p q ops σ e = subst (λ n. Leads θ fs (on p ops σ) (on n ops σ)) e (stays θ fs (on p ops σ))

  pops : (pc out : ℕ) (ops : List Value) (v : Value) (at : Place) (σ : State)
      → slice_get code pc ≡ Some (stacks at stack.Pop) → pc + 1 ≡ out
      → Leads θ fs (on pc (v ∷ ops) σ) (on out ops σ)
  pops pc out ops v at σ h e =
      one_step θ fs _ _ (fetch pc (v ∷ ops) σ (stacks at stack.Pop) h ∙ ap (λ q. on q ops σ) e)

  pub puts : (pc out : ℕ) (ops : List Value) (v : Value) (at : Place) (σ : State)
      → slice_get code pc ≡ Some (pushes at v) → pc + 1 ≡ out → Leads θ fs (on pc ops σ) (on out (v ∷ ops) σ)
  puts pc out ops v at σ h e = one_step θ fs _ _ (fetch pc ops σ (pushes at v) h ∙ ap (λ q. on q (v ∷ ops) σ) e)

  -- ---- expressions in statements

  value_runs : (strict : Bool) (e : Expr) (pc : ℕ) (ops : List Value) (σ : State)
      → HasAt code pc (value_code ς strict e)
      → Meet Value (on pc ops σ) (val_on (pc + length (value_code ς strict e)) ops) (value ρ call strict e σ)
  value_runs strict e pc ops σ has =
      (values strict e).0 (record { function = fn; place = pc }) ops (back ∷ calls) σ has

  effect_runs : (strict : Bool) (e : Expr) (pc : ℕ) (ops : List Value) (σ : State)
      → HasAt code pc (effect_code ς strict e)
      → Meet Value (on pc ops σ) (any_on (pc + length (effect_code ς strict e)) ops) (value ρ call strict e σ)
  effect_runs strict e pc ops σ has =
      (values strict e).1 (record { function = fn; place = pc }) ops (back ∷ calls) σ has

  -- An instruction that takes a value.
  used : (A : Type 0) (go : A → State → Conf) (pc : ℕ) (part : List Instr) (i : Instr) (ops : List Value)
      (r : Res Value) (c : Conf) (f : Value → State → Res A) → HasAt code pc (part ++ i ∷ [])
      → Meet Value c (val_on (pc + length part) ops) r
      → ((v : Value) (σ : State)
      → act θ (Some i) (record { function = fn; place = pc + length part }) [] (v ∷ ops) (back ∷ calls) σ
      ≡ conf_of (f v σ) go)
      → Meet A c go (bind r f)
  used A go pc part i ops r c f has m e =
      let at = (has_back code pc part (i ∷ []) has).0 in
      then_meets θ fs Value A c (val_on (pc + length part) ops) go r f m (λ v σ.
      same_step θ fs A _ go (f v σ) (fetch (pc + length part) (v ∷ ops) σ i at ∙ e v σ))

  converted_runs : (strict : Bool) (t : CType) (e : Expr) (pc out : ℕ) (ops : List Value) (σ : State)
      → HasAt code pc (converted_code ς strict t e) → pc + length (converted_code ς strict t e) ≡ out
      → Meet Value (on pc ops σ) (val_on out ops) (converted_to ρ t e (value ρ call strict e) σ)
  converted_runs strict t e pc out ops σ has eo =
      let ce = value_code ς strict e in
      let i = casts (place_of e) (conversion (type_of e) t) in
      let len : pc + length ce + 1 ≡ out = omega (arith, length-append ce (i ∷ [])) in
      subst (λ q. Meet Value (on pc ops σ) (val_on q ops) (converted_to ρ t e (value ρ call strict e) σ)) len
      (used Value (val_on (pc + length ce + 1) ops) pc ce i ops (value ρ call strict e σ) _ _ has
      (value_runs strict e pc ops σ (has_front code pc ce _ has)) (λ v τ. refl))

  -- A value is kept, and no operand is left.
  put_runs : (strict : Bool) (t : CType) (at : Place) (p v : Value) (pc out : ℕ) (ops : List Value) (σ : State)
      → HasAt code pc (put_code ς strict at t)
      → slice_get code (pc + length (put_code ς strict at t)) ≡ Some (stacks at stack.Pop)
      → pc + length (put_code ς strict at t) + 1 ≡ out
      → Meet (Unit {0}) (on pc (v ∷ (p ∷ ops)) σ) (any_on out ops) (put ρ strict at t p v σ)
  put_runs strict t at p v pc out ops σ = by_kind (cell_kind ρ.structs t)
    where
      by_kind : (k : Option Kind) → HasAt code pc (saved_code ς strict at t k)
          → slice_get code (pc + length (saved_code ς strict at t k)) ≡ Some (stacks at stack.Pop)
          → pc + length (saved_code ς strict at t k) + 1 ≡ out
          → Meet (Unit {0}) (on pc (v ∷ (p ∷ ops)) σ) (any_on out ops) (saved ρ strict at t p v k σ)
      by_kind (Some k) has pop eo =
          lands θ fs (Unit {0}) _ (any_on (pc + 1) (v ∷ ops)) (any_on out ops)
          (save θ k (is_strict strict t) at p v σ) (λ _ τ. pops (pc + 1) out ops v at τ pop eo)
          (same_step θ fs (Unit {0}) _ _ (save θ k (is_strict strict t) at p v σ)
          (fetch pc (v ∷ (p ∷ ops)) σ (saves at k (is_strict strict t)) has.0))
      by_kind None has pop eo =
          let e : pc + 2 ≡ pc + 1 + 1 = omega arith in
          let last : slice_get code (pc + 1 + 1) ≡ Some (stacks at stack.Pop) =
          subst (λ q. slice_get code q ≡ Some (stacks at stack.Pop)) e pop in
          record {
            by = leads_on θ fs _ (on (pc + 1) (p ∷ (v ∷ ops)) σ) _
                (one_step θ fs _ _ (fetch pc (v ∷ (p ∷ ops)) σ (stacks at stack.Swap) has.0))
                (leads_on θ fs _ (on (pc + 1 + 1) (v ∷ ops) σ) _
                (pops (pc + 1) (pc + 1 + 1) (v ∷ ops) p at σ has.1.0 refl)
                (pops (pc + 1 + 1) out ops v at σ last (omega arith)));
          }

  object_runs : (at : Place) (home : Home) (pc out : ℕ) (ops : List Value) (σ : State)
      → HasAt code pc (object_code ς at home) → pc + length (object_code ς at home) ≡ out
      → Meet Value (on pc ops σ) (val_on out ops) (object ρ home σ)
  object_runs at (home.Private n) pc out ops σ has eo =
      record { by = puts pc out ops (value.Local (local.Private n (pos 0))) at σ has.0 eo }
  object_runs at (home.Shared n) pc out ops σ has eo =
      record { by = puts pc out ops (shared_object ρ n) at σ has.0 eo }
  object_runs at (home.Local n) pc out ops σ has eo =
      same_step θ fs Value _ _ (local_object n σ)
      (fetch pc ops σ _ has.0 ∙ ap (λ q. conf_of (local_object n σ) (val_on q ops)) eo)

  -- An expression for what it does.
  aside_runs : (e : Option Expr) (κ : Standing) (pc out : ℕ) (ops : List Value) (σ : State)
      (go : Flow → State → Conf) → ((τ : State) → on out ops τ ≡ go Next τ)
      → HasAt code pc (aside_code ς κ.strict e) → pc + length (aside_code ς κ.strict e) ≡ out
      → Meet Flow (on pc ops σ) go (aside ρ call κ e σ)
  aside_runs None κ pc out ops σ go same has eo =
      let e1 : pc ≡ out = omega arith in
      record { by = subst (λ c. Leads θ fs (on pc ops σ) c) (same σ) (moved pc out ops σ e1) }
  aside_runs (Some e) κ pc out ops σ go same has eo =
      let end = pc + length (effect_code ς κ.strict e) in
      then_meets θ fs Value Flow _ (any_on end ops) go (value ρ call κ.strict e σ) _
      (effect_runs κ.strict e pc ops σ has)
      (λ v τ. record { by = subst (λ c. Leads θ fs (on end ops τ) c) (same τ) (moved end out ops τ eo) })

  -- The test of a loop.
  test_runs : (test : Option Expr) (κ : Standing) (at : Place) (pc : ℕ) (ops : List Value) (σ : State)
      → HasAt code pc (test_code ς at κ.strict test)
      → Meet Value (on pc ops σ) (val_on (pc + length (test_code ς at κ.strict test)) ops) (tested ρ call κ test σ)
  test_runs None κ at pc ops σ has = record { by = puts pc _ ops (number (pos 1)) at σ has.0 refl }
  test_runs (Some e) κ at pc ops σ has = value_runs κ.strict e pc ops σ has

  -- ---- initialisers

  -- The elements of an array from the i-th on.
  listed_runs : (es : Exprs) (κ : Standing) (x : DeclaredObject) (i pc out : ℕ) (ops : List Value) (σ : State)
      → HasAt code pc (listed_code ς κ.strict x i es) → pc + length (listed_code ς κ.strict x i es) ≡ out
      → Meet (Unit {0}) (on pc ops σ) (any_on out ops) (listed ρ call κ x i es σ)
  listed_runs NoExprs κ x i pc out ops σ has eo =
      let e : pc ≡ out = omega arith in record { by = moved pc out ops σ e }
  listed_runs (AndExpr e more) κ x i pc out ops σ has eo =
      let t = element_type (base_of x.ctype) x.ctype in
      let co = object_code ς x.at x.home in
      let cv = converted_code ς κ.strict t e in
      let cp = put_code ς κ.strict x.at t in
      let rest = stacks x.at stack.Pop ∷ listed_code ς κ.strict x (i + 1) more in
      let elements = pushes x.at (number (pos i)) ∷ (advance_code ς x.at t ++ (cv ++ (cp ++ rest))) in
      let a = pc + length co in
      let b = a + 1 + 1 + length cv in
      let d = b + length cp + 1 in
      let h = has_back code pc co elements has in
      let hv = has_back code (a + 1 + 1) cv (cp ++ rest) h.1.1 in
      let hp = has_back code b cp rest hv in
      let go = λ (u : Unit {0}) (τ : State). on out ops τ in
      let len : d + length (listed_code ς κ.strict x (i + 1) more) ≡ out =
      omega (arith, length-append co elements, length-append cv (cp ++ rest), length-append cp rest) in
      then_meets θ fs Value (Unit {0}) _ (val_on a ops) go (object ρ x.home σ) _
      (object_runs x.at x.home pc a ops σ (has_front code pc co elements has) refl) (λ p τ.
      then_meets θ fs Value (Unit {0}) _ (val_on (a + 1 + 1) ops) go (behind ρ x.at t p (pos i) τ) _
      (after θ fs Value _ (on (a + 1) (number (pos i) ∷ (p ∷ ops)) τ) _ (behind ρ x.at t p (pos i) τ)
      (puts a (a + 1) (p ∷ ops) (number (pos i)) x.at τ h.0 refl)
      (same_step θ fs Value _ _ (behind ρ x.at t p (pos i) τ)
      (fetch (a + 1) (number (pos i) ∷ (p ∷ ops)) τ _ h.1.0))) (λ q υ.
      then_meets θ fs Value (Unit {0}) _ (val_on b (q ∷ ops)) go _ _
      (converted_runs κ.strict t e (a + 1 + 1) b (q ∷ ops) υ (has_front code (a + 1 + 1) cv (cp ++ rest) h.1.1) refl)
      (λ v φ.
      then_meets θ fs (Unit {0}) (Unit {0}) _ (any_on d ops) go (put ρ κ.strict x.at t q v φ) _
      (put_runs κ.strict t x.at q v b d ops φ (has_front code b cp rest hv) hp.0 refl)
      (λ _ ψ. listed_runs more κ x (i + 1) d out ops ψ hp.1 len))))

  initial_runs : (first : Initial) (κ : Standing) (x : DeclaredObject) (pc out : ℕ) (ops : List Value) (σ : State)
      → HasAt code pc (initial_code ς κ.strict x first) → pc + length (initial_code ς κ.strict x first) ≡ out
      → Meet (Unit {0}) (on pc ops σ) (any_on out ops) (initialised ρ call κ x first σ)
  initial_runs NoInitial κ x pc out ops σ has eo =
      let e : pc ≡ out = omega arith in record { by = moved pc out ops σ e }
  initial_runs (InitialValue e) κ x pc out ops σ has eo =
      let co = object_code ς x.at x.home in
      let cv = converted_code ς κ.strict x.ctype e in
      let cp = put_code ς κ.strict x.at x.ctype in
      let rest = stacks x.at stack.Pop ∷ [] in
      let a = pc + length co in
      let b = a + length cv in
      let h = has_back code pc co (cv ++ (cp ++ rest)) has in
      let hv = has_back code a cv (cp ++ rest) h in
      let hp = has_back code b cp rest hv in
      let go = λ (u : Unit {0}) (τ : State). on out ops τ in
      let len : b + length cp + 1 ≡ out =
      omega (arith, length-append co (cv ++ (cp ++ rest)), length-append cv (cp ++ rest), length-append cp rest) in
      then_meets θ fs Value (Unit {0}) _ (val_on a ops) go (object ρ x.home σ) _
      (object_runs x.at x.home pc a ops σ (has_front code pc co _ has) refl) (λ p τ.
      then_meets θ fs Value (Unit {0}) _ (val_on b (p ∷ ops)) go _ _
      (converted_runs κ.strict x.ctype e a b (p ∷ ops) τ (has_front code a cv (cp ++ rest) h) refl)
      (λ v υ. put_runs κ.strict x.ctype x.at p v b out ops υ (has_front code b cp rest hv) hp.0 len))
  initial_runs (InitialList es) κ x pc out ops σ has eo = listed_runs es κ x 0 pc out ops σ has eo

  declared_runs : (objects : List DeclaredObject) (κ : Standing) (pc out : ℕ) (ops : List Value) (σ : State)
      → HasAt code pc (declared_code ς κ.strict objects) → pc + length (declared_code ς κ.strict objects) ≡ out
      → Meet (Unit {0}) (on pc ops σ) (any_on out ops) (declared ρ call κ objects σ)
  declared_runs [] κ pc out ops σ has eo =
      let e : pc ≡ out = omega arith in record { by = moved pc out ops σ e }
  declared_runs (x ∷ xs) κ pc out ops σ has eo =
      let cx = initial_code ς κ.strict x x.initial in
      let cs = declared_code ς κ.strict xs in
      let a = pc + length cx in
      let len : a + length cs ≡ out = omega (arith, length-append cx cs) in
      then_meets θ fs (Unit {0}) (Unit {0}) _ (any_on a ops) (any_on out ops) (initialised ρ call κ x x.initial σ) _
      (initial_runs x.initial κ x pc a ops σ (has_front code pc cx cs has) refl)
      (λ _ τ. declared_runs xs κ a out ops τ (has_back code pc cx cs has) len)

  -- ---- ways out

  -- The rest of a list.
  goes_on : (ops : List Value) (mid out : ℕ) (ω : Ways) (f : Flow) (k : Does) (σ : State)
      → Meet Flow (on mid ops σ) (flow_at ops out ω) (k σ)
      → Meet Flow (flow_at ops mid ω f σ) (flow_at ops out ω) (go_on k f σ)
  goes_on ops mid out ω Next k σ m = m
  goes_on ops mid out ω Broke k σ m = here θ fs Flow (flow_at ops out ω) Broke σ
  goes_on ops mid out ω Again k σ m = here θ fs Flow (flow_at ops out ω) Again σ
  goes_on ops mid out ω (Gave v) k σ m = here θ fs Flow (flow_at ops out ω) (Gave v) σ

  -- The other turns of a loop.
  turned : (ops : List Value) (mid out : ℕ) (ω : Ways) (f : Flow) (k : Does) (σ : State)
      → Meet Flow (on mid ops σ) (flow_at ops out ω) (k σ)
      → Meet Flow (flow_at ops mid (looped ω out mid) f σ) (flow_at ops out ω) (turn_on k f σ)
  turned ops mid out ω Next k σ m = m
  turned ops mid out ω Broke k σ m = here θ fs Flow (flow_at ops out ω) Next σ
  turned ops mid out ω Again k σ m = m
  turned ops mid out ω (Gave v) k σ m = here θ fs Flow (flow_at ops out ω) (Gave v) σ

  -- Out of a switch.
  catches : (ops : List Value) (out : ℕ) (ω : Ways) (f : Flow) (σ : State)
      → Meet Flow (flow_at ops out (record ω { broken = way 0 out }) f σ) (flow_at ops out ω) (Val (caught f) σ)
  catches ops out ω Next σ = here θ fs Flow (flow_at ops out ω) Next σ
  catches ops out ω Broke σ = here θ fs Flow (flow_at ops out ω) Next σ
  catches ops out ω Again σ = here θ fs Flow (flow_at ops out ω) Again σ
  catches ops out ω (Gave v) σ = here θ fs Flow (flow_at ops out ω) (Gave v) σ

  -- The end of a upc_forall's body.
  finishes : (ops : List Value) (out : ℕ) (ω : Ways) (f : Flow) (σ : State)
      → Meet Flow (flow_at ops out (looped ω out out) f σ) (flow_at ops out ω) (Val (finished f) σ)
  finishes ops out ω Next σ = here θ fs Flow (flow_at ops out ω) Next σ
  finishes ops out ω Broke σ = here θ fs Flow (flow_at ops out ω) Next σ
  finishes ops out ω Again σ = here θ fs Flow (flow_at ops out ω) Next σ
  finishes ops out ω (Gave v) σ = here θ fs Flow (flow_at ops out ω) (Gave v) σ

  -- The jump past what stands after the first of two parts.
  passes : (f : Flow) (σ : State) (mid n out : ℕ) (ops : List Value) (ω : Ways) (at : Place) → mid + (n + 1) ≡ out
      → slice_get code mid ≡ Some (jumps at (jump.GoOn n)) → Leads θ fs (flow_at ops mid ω f σ) (flow_at ops out ω f σ)
  passes Next σ mid n out ops ω at e h =
      one_step θ fs _ _ (fetch mid ops σ (jumps at (jump.GoOn n)) h ∙ ap (λ q. on q ops σ) e)
  passes Broke σ mid n out ops ω at e h = stays θ fs (flow_at ops out ω Broke σ)
  passes Again σ mid n out ops ω at e h = stays θ fs (flow_at ops out ω Again σ)
  passes (Gave v) σ mid n out ops ω at e h = stays θ fs (flow_at ops out ω (Gave v) σ)

  -- Nothing is done.
  nothing : (pc out : ℕ) (ops : List Value) (ω : Ways) (σ : State) → pc ≡ out
      → Meet Flow (on pc ops σ) (flow_at ops out ω) (Val Next σ)
  nothing pc out ops ω σ e = record { by = moved pc out ops σ e }

  -- One more block ends on a way out.
  pub closes : (n : ℕ) (go : State → Conf) (f : Flow) (on_flow : Flow → State → Conf) (σ : State)
      → ((τ : State) → shut n go τ ≡ on_flow f τ)
      → Meet Flow (shut (suc n) go σ) on_flow (bind (close_block σ) (λ _. give f))
  closes n go f on_flow σ same =
      subst (λ c. Meet Flow c on_flow (bind (close_block σ) (λ _. give f)))
      (sym (conf_bind (Unit {0}) (Unit {0}) (close_block σ) (λ _. close_blocks n) (λ _. go)))
      (then_meets θ fs (Unit {0}) Flow _ (λ _. shut n go) on_flow (close_block σ) (λ _. give f)
      (conf_meets θ fs (Unit {0}) (λ _. shut n go) (close_block σ))
      (λ _ τ. record { by = subst (λ c. Leads θ fs (shut n go τ) c) (same τ) (stays θ fs (shut n go τ)) }))

  -- The end of a block.
  left : (ops : List Value) (end out : ℕ) (ω : Ways) (at : Place) (f : Flow) (σ : State) → end + 1 ≡ out
      → slice_get code end ≡ Some (leaves at)
      → Meet Flow (flow_at ops end (closing ω) f σ) (flow_at ops out ω) (bind (close_block σ) (λ _. give f))
  left ops end out ω at Next σ e h =
      then_meets θ fs (Unit {0}) Flow _ (any_on out ops) (flow_at ops out ω) (close_block σ) (λ _. give Next)
      (same_step θ fs (Unit {0}) _ (any_on out ops) (close_block σ)
      (fetch end ops σ (leaves at) h ∙ ap (λ q. conf_of (close_block σ) (any_on q ops)) e))
      (λ _ τ. here θ fs Flow (flow_at ops out ω) Next τ)
  left ops end out ω at Broke σ e h =
      closes ω.broken.blocks (on ω.broken.distance ops) Broke (flow_at ops out ω) σ (λ τ. refl)
  left ops end out ω at Again σ e h =
      closes ω.again.blocks (on ω.again.distance ops) Again (flow_at ops out ω) σ (λ τ. refl)
  left ops end out ω at (Gave v) σ e h =
      closes ω.blocks (given_back v ops (back ∷ calls)) (Gave v) (flow_at ops out ω) σ (λ τ. refl)

  -- A block.
  block_runs : (at : Place) (from : ℕ) (objects : List DeclaredObject) (pc n out : ℕ) (part : List Instr) (ω : Ways)
      (body : Does) (ops : List Value) (σ : State) → length part ≡ n → pc + (1 + n + 1) ≡ out
      → HasAt code pc (block_code at from (shapes_of (running_of ς) objects) part)
      → ((τ : State) → HasAt code (pc + 1) part
      → Meet Flow (on (pc + 1) ops τ) (flow_at ops (pc + 1 + n) (closing ω)) (body τ))
      → Meet Flow (on pc ops σ) (flow_at ops out ω) (blocked ρ from objects at body σ)
  block_runs at from objects pc n out part ω body ops σ e1 e2 has inside =
      let go = flow_at ops out ω in
      let end = has_past code (pc + 1) n part (leaves at ∷ []) e1 has.1 in
      let opened = open_block from (shapes_of ρ objects) at in
      then_meets θ fs (Unit {0}) Flow _ (any_on (pc + 1) ops) go (opened σ) _
      (same_step θ fs (Unit {0}) _ _ (opened σ) (fetch pc ops σ (enters at from (shapes_of ρ objects)) has.0)) (λ _ τ.
      then_meets θ fs Flow Flow _ (flow_at ops (pc + 1 + n) (closing ω)) go (body τ) _
      (inside τ (has_front code (pc + 1) part _ has.1))
      (λ f υ. left ops (pc + 1 + n) out ω at f υ (omega arith) end.0))

  -- ---- tests

  -- The two sides of a test, after its jump: where the value is 0, and where it is not.
  by_zero : (A : Type 0) (go : A → State → Conf) (pc n q : ℕ) (ops : List Value) (v : Value) (x y : Doing A)
      (at : Place) (σ : State) → slice_get code pc ≡ Some (jumps at (jump.SkipIfZero n)) → pc + (n + 1) ≡ q
      → Meet A (on q ops σ) go (x σ) → Meet A (on (pc + 1) ops σ) go (y σ)
      → Meet A (on pc (v ∷ ops) σ) go (choose (is_zero v) x y σ)
  by_zero A go pc n q ops v x y at σ h e mx my =
      chooses θ fs A go (λ s. At s [] ops (back ∷ calls) σ) (is_zero v) (record { function = fn; place = pc + (n + 1) })
      (record { function = fn; place = pc + 1 }) _ x y σ (fetch pc (v ∷ ops) σ (jumps at (jump.SkipIfZero n)) h)
      (subst (λ p. Meet A (on p ops σ) go (x σ)) (sym e) mx) my

  by_control : (A : Type 0) (go : A → State → Conf) (pc n q : ℕ) (ops : List Value) (x y : Doing A)
      (at : Place) (σ : State) → slice_get code pc ≡ Some (jumps at (jump.SkipIfControlled n)) → pc + (n + 1) ≡ q
      → Meet A (on q ops σ) go (x σ) → Meet A (on (pc + 1) ops σ) go (y σ)
      → Meet A (on pc ops σ) go (choose (is_controlled σ) x y σ)
  by_control A go pc n q ops x y at σ h e mx my =
      chooses θ fs A go (λ s. At s [] ops (back ∷ calls) σ) (is_controlled σ)
      (record { function = fn; place = pc + (n + 1) }) (record { function = fn; place = pc + 1 }) _ x y σ
      (fetch pc ops σ (jumps at (jump.SkipIfControlled n)) h)
      (subst (λ p. Meet A (on p ops σ) go (x σ)) (sym e) mx) my

  -- A comparison: where the value is the label it goes, and else it stays.
  compares : (go : Flow → State → Conf) (pc n q : ℕ) (ops : List Value) (u : Value) (w : ℤ) (x y : Does) (at : Place)
      (σ : State) → slice_get code pc ≡ Some (jumps at (jump.Case w n)) → pc + (n + 1) ≡ q
      → Meet Flow (on q ops σ) go (x σ) → Meet Flow (on (pc + 1) (u ∷ ops) σ) go (y σ)
      → Meet Flow (on pc (u ∷ ops) σ) go (choose (int_eq (number_of u) w) x y σ)
  compares go pc n q ops u w x y at σ h e mx my =
      by_test (int_eq (number_of u) w) (fetch pc (u ∷ ops) σ (jumps at (jump.Case w n)) h)
    where
      by_test : (b : Bool)
          → step θ fs (on pc (u ∷ ops) σ)
          ≡ At (pick b (record { function = fn; place = pc + (n + 1) }) (record { function = fn; place = pc + 1 })) []
          (pick b ops (u ∷ ops)) (back ∷ calls) σ
          → Meet Flow (on pc (u ∷ ops) σ) go (choose b x y σ)
      by_test true s = after θ fs Flow _ _ go (x σ) (one_step θ fs _ _ (s ∙ ap (λ p. on p ops σ) e)) mx
      by_test false s = after θ fs Flow _ _ go (y σ) (one_step θ fs _ _ s) my

  -- The value of a switch at its kind.
  label_leads : (k : Option Kind) (at : Place) (pc : ℕ) (ops : List Value) (v : Value) (σ : State)
      → HasAt code pc (label_code at k)
      → Leads θ fs (on pc (v ∷ ops) σ) (on (pc + length (label_code at k)) (labelled k v ∷ ops) σ)
  unfolding cast
  label_leads None at pc ops v σ has = moved pc (pc + 0) (v ∷ ops) σ (omega arith)
  label_leads (Some k) at pc ops v σ has =
      one_step θ fs _ _ (fetch pc (v ∷ ops) σ (casts at (to.Integer (promoted k))) has.0)

  -- ---- barriers

  synchronise_runs : (how : Synchronises) (at : Place) (pc out : ℕ) (ops : List Value) (σ : State)
      → HasAt code pc (synchronise_code at how) → pc + length (synchronise_code at how) ≡ out
      → Meet (Unit {0}) (on pc ops σ) (any_on out ops) (synchronised ρ how at Absent σ)
  synchronise_runs Notify at pc out ops σ has eo =
      same_step θ fs (Unit {0}) _ _ (notify θ at Absent σ)
      (fetch pc ops σ (acts at (thread.Notify Absent)) has.0
      ∙ ap (λ q. conf_of (notify θ at Absent σ) (any_on q ops)) eo)
  synchronise_runs Wait at pc out ops σ has eo =
      same_step θ fs (Unit {0}) _ _ (wait θ at Absent σ)
      (fetch pc ops σ (acts at (thread.Wait Absent)) has.0
      ∙ ap (λ q. conf_of (wait θ at Absent σ) (any_on q ops)) eo)
  synchronise_runs Barrier at pc out ops σ has eo =
      let e : pc + 1 + 1 ≡ out = omega arith in
      then_meets θ fs (Unit {0}) (Unit {0}) _ (any_on (pc + 1) ops) (any_on out ops) (notify θ at Absent σ) _
      (same_step θ fs (Unit {0}) _ _ (notify θ at Absent σ) (fetch pc ops σ (acts at (thread.Notify Absent)) has.0))
      (λ _ τ. same_step θ fs (Unit {0}) _ _ (wait θ at Absent τ)
      (fetch (pc + 1) ops τ (acts at (thread.Wait Absent)) has.1.0
      ∙ ap (λ q. conf_of (wait θ at Absent τ) (any_on q ops)) e))

  synchronise_value_runs : (how : Synchronises) (at : Place) (pc out : ℕ) (ops : List Value) (v : Value) (σ : State)
      → HasAt code pc (synchronise_value_code at how) → pc + length (synchronise_value_code at how) ≡ out
      → Meet (Unit {0}) (on pc (v ∷ ops) σ) (any_on out ops)
      (synchronised ρ how at (Given (converted kind.Int (number_of v))) σ)
  synchronise_value_runs Notify at pc out ops v σ has eo =
      let m = Given (converted kind.Int (number_of v)) in
      same_step θ fs (Unit {0}) _ _ (notify θ at m σ)
      (fetch pc (v ∷ ops) σ (acts at thread.NotifyValue) has.0
      ∙ ap (λ q. conf_of (notify θ at m σ) (any_on q ops)) eo)
  synchronise_value_runs Wait at pc out ops v σ has eo =
      let m = Given (converted kind.Int (number_of v)) in
      same_step θ fs (Unit {0}) _ _ (wait θ at m σ)
      (fetch pc (v ∷ ops) σ (acts at thread.WaitValue) has.0 ∙ ap (λ q. conf_of (wait θ at m σ) (any_on q ops)) eo)
  synchronise_value_runs Barrier at pc out ops v σ has eo =
      let m = Given (converted kind.Int (number_of v)) in
      let e : pc + 1 + 1 + 1 ≡ out = omega arith in
      after θ fs (Unit {0}) _ (on (pc + 1) (v ∷ (v ∷ ops)) σ) (any_on out ops) (synchronised ρ Barrier at m σ)
      (one_step θ fs _ _ (fetch pc (v ∷ ops) σ (stacks at stack.Copy) has.0))
      (then_meets θ fs (Unit {0}) (Unit {0}) _ (any_on (pc + 1 + 1) (v ∷ ops)) (any_on out ops) (notify θ at m σ) _
      (same_step θ fs (Unit {0}) _ _ (notify θ at m σ)
      (fetch (pc + 1) (v ∷ (v ∷ ops)) σ (acts at thread.NotifyValue) has.1.0))
      (λ _ τ. same_step θ fs (Unit {0}) _ _ (wait θ at m τ)
      (fetch (pc + 1 + 1) (v ∷ ops) τ (acts at thread.WaitValue) has.1.1.0
      ∙ ap (λ q. conf_of (wait θ at m τ) (any_on q ops)) e)))

  -- ---- loops

  -- The parts of a loop whose code begins at pc: the tick, the test, the jump, the body, the last part, and the tick
  -- and jump back.
  record Loop (pc lt ls ll : ℕ) (ops : List Value) (ω : Ways) (at : Place) (test : Doing Value) (body last : Does)
      : Type 0 where
    at_test : slice_get code (pc + 1 + lt) ≡ Some (jumps at (jump.SkipIfZero (ls + ll + 1)))
    at_end : slice_get code (pc + 1 + lt + 1 + ls + ll) ≡ Some (jumps at (jump.GoBack (lt + 1 + ls + ll)))
    tests : (σ : State) → Meet Value (on (pc + 1) ops σ) (val_on (pc + 1 + lt) ops) (test σ)
    does :
        (σ : State)
        → Meet Flow (on (pc + 1 + lt + 1) ops σ)
        (flow_at ops (pc + 1 + lt + 1 + ls) (looped ω (pc + 1 + lt + 1 + ls + ll + 1) (pc + 1 + lt + 1 + ls))) (body σ)
    ends :
        (σ : State)
        → Meet Flow (on (pc + 1 + lt + 1 + ls) ops σ) (any_on (pc + 1 + lt + 1 + ls + ll) ops) (last σ)

  the_loop : (pc ls : ℕ) (ct cs cl : List Instr) (ops : List Value) (ω : Ways) (at : Place) (test : Doing Value)
      (body last : Does) → length cs ≡ ls → HasAt code pc (loop_code at ct cs cl ls)
      → ((σ : State) → HasAt code (pc + 1) ct
      → Meet Value (on (pc + 1) ops σ) (val_on (pc + 1 + length ct) ops) (test σ))
      → ((σ : State) → HasAt code (pc + 1 + length ct + 1) cs
      → Meet Flow (on (pc + 1 + length ct + 1) ops σ)
      (flow_at ops (pc + 1 + length ct + 1 + ls)
      (looped ω (pc + 1 + length ct + 1 + ls + length cl + 1) (pc + 1 + length ct + 1 + ls))) (body σ))
      → ((σ : State) → HasAt code (pc + 1 + length ct + 1 + ls) cl
      → Meet Flow (on (pc + 1 + length ct + 1 + ls) ops σ) (any_on (pc + 1 + length ct + 1 + ls + length cl) ops)
      (last σ))
      → Loop pc (length ct) ls (length cl) ops ω at test body last
  the_loop pc ls ct cs cl ops ω at test body last e has rt rs rl =
      let h = has_back code (pc + 1) ct _ has.1 in
      let hl = has_past code (pc + 1 + length ct + 1) ls cs _ e h.1 in
      record {
        at_test = h.0;
        at_end = (has_back code (pc + 1 + length ct + 1 + ls) cl _ hl).0;
        tests = λ σ. rt σ (has_front code (pc + 1) ct _ has.1);
        does = λ σ. rs σ (has_front code (pc + 1 + length ct + 1) cs _ h.1);
        ends = λ σ. rl σ (has_front code (pc + 1 + length ct + 1 + ls) cl _ hl);
      }

  -- The body, the last part, and what comes at the jump back.
  around_runs : (pc lt ls ll : ℕ) (ω : Ways) (ops : List Value) (at : Place) (test : Doing Value)
      (body last again : Does) → Loop pc lt ls ll ops ω at test body last
      → ((σ : State) → Meet Flow (on (pc + 1 + lt + 1 + ls + ll) ops σ)
      (flow_at ops (pc + 1 + lt + 1 + ls + ll + 1) ω) (again σ))
      → (σ : State)
      → Meet Flow (on (pc + 1 + lt + 1) ops σ) (flow_at ops (pc + 1 + lt + 1 + ls + ll + 1) ω)
      (around ρ body last again σ)
  around_runs pc lt ls ll ω ops at test body last again l ra σ =
      let mid = pc + 1 + lt + 1 + ls in
      let go = flow_at ops (mid + ll + 1) ω in
      then_meets θ fs Flow Flow _ (flow_at ops mid (looped ω (mid + ll + 1) mid)) go (body σ) _ (l.does σ) (λ f τ.
      turned ops mid (mid + ll + 1) ω f (last >> again) τ
      (then_meets θ fs Flow Flow _ (any_on (mid + ll) ops) go (last τ) _ (l.ends τ) (λ _ υ. ra υ)))

  -- At most n turns of a loop, from where the code does a tick and reaches the test.
  turns_run : (pc lt ls ll : ℕ) (ω : Ways) (ops : List Value) (at : Place) (test : Doing Value) (body last : Does)
      → Loop pc lt ls ll ops ω at test body last → (n : ℕ) (c : Conf) (σ : State)
      → step θ fs c ≡ conf_of (tick θ σ) (any_on (pc + 1) ops)
      → Meet Flow c (flow_at ops (pc + 1 + lt + 1 + ls + ll + 1) ω) (turns ρ n test body last σ)
  turns_run pc lt ls ll ω ops at test body last l zero c σ s = record { by = tt }
  turns_run pc lt ls ll ω ops at test body last l (suc n) c σ s =
      let end = pc + 1 + lt + 1 + ls + ll in
      let go = flow_at ops (end + 1) ω in
      let e : pc + 1 + lt + (ls + ll + 1 + 1) ≡ end + 1 = omega arith in
      let back_to : end - (lt + 1 + ls + ll) ≡ pc + 1 = omega arith in
      then_meets θ fs (Unit {0}) Flow _ (any_on (pc + 1) ops) go (tick θ σ) _
      (same_step θ fs (Unit {0}) _ (any_on (pc + 1) ops) (tick θ σ) s) (λ _ τ.
      then_meets θ fs Value Flow _ (val_on (pc + 1 + lt) ops) go (test τ) _ (l.tests τ) (λ v υ.
      by_zero Flow go (pc + 1 + lt) (ls + ll + 1) (end + 1) ops v (give Next)
      (around ρ body last (turns ρ n test body last)) at υ l.at_test e
      (here θ fs Flow go Next υ)
      (around_runs pc lt ls ll ω ops at test body last (turns ρ n test body last) l (λ φ.
      turns_run pc lt ls ll ω ops at test body last l n (on end ops φ) φ
      (fetch end ops φ (jumps at (jump.GoBack (lt + 1 + ls + ll))) l.at_end
      ∙ ap (λ q. conf_of (tick θ φ) (any_on q ops)) back_to)) υ)))

  -- A loop that begins with its test.
  loop_runs : (pc lt ls ll out n : ℕ) (ω : Ways) (ops : List Value) (at : Place) (test : Doing Value)
      (body last : Does) (σ : State) → pc + loop_size lt ls ll ≡ out
      → slice_get code pc ≡ Some (jumps at jump.Tick) → Loop pc lt ls ll ops ω at test body last
      → Meet Flow (on pc ops σ) (flow_at ops out ω) (turns ρ n test body last σ)
  loop_runs pc lt ls ll out n ω ops at test body last σ e h l =
      let e1 : pc + 1 + lt + 1 + ls + ll + 1 ≡ out = omega arith in
      subst (λ q. Meet Flow (on pc ops σ) (flow_at ops q ω) (turns ρ n test body last σ)) e1
      (turns_run pc lt ls ll ω ops at test body last l n _ σ (fetch pc ops σ (jumps at jump.Tick) h))

  -- A loop that begins with its body.
  late_loop_runs : (pc lt ls ll out n : ℕ) (ω : Ways) (ops : List Value) (at : Place) (test : Doing Value)
      (body last : Does) (σ : State) → pc + loop_size lt ls ll ≡ out → Loop pc lt ls ll ops ω at test body last
      → Meet Flow (on (pc + 1 + lt + 1) ops σ) (flow_at ops out ω)
      (around ρ body last (turns ρ n test body last) σ)
  late_loop_runs pc lt ls ll out n ω ops at test body last σ e l =
      let end = pc + 1 + lt + 1 + ls + ll in
      let e1 : end + 1 ≡ out = omega arith in
      let back_to : end - (lt + 1 + ls + ll) ≡ pc + 1 = omega arith in
      let again = turns ρ n test body last in
      subst (λ q. Meet Flow (on (pc + 1 + lt + 1) ops σ) (flow_at ops q ω) (around ρ body last again σ)) e1
      (around_runs pc lt ls ll ω ops at test body last again l (λ φ.
      turns_run pc lt ls ll ω ops at test body last l n (on end ops φ) φ
      (fetch end ops φ (jumps at (jump.GoBack (lt + 1 + ls + ll))) l.at_end
      ∙ ap (λ q. conf_of (tick θ φ) (any_on q ops)) back_to)) σ)

  no_last : (pc : ℕ) (ops : List Value) (σ : State) → Meet Flow (on pc ops σ) (any_on (pc + 0) ops) (Val Next σ)
  no_last pc ops σ = record { by = moved pc (pc + 0) ops σ (omega arith) }

  -- ---- upc_forall

  -- The end of a body that controls; a return ends the call with what it controls.
  releases : (ops : List Value) (end out : ℕ) (ω : Ways) (at : Place) (f : Flow) (σ : State) → end + 1 ≡ out
      → slice_get code end ≡ Some (acts at thread.Release)
      → Meet Flow (flow_at ops end (looped ω end end) f σ) (flow_at ops out ω)
      (bind (release σ) (λ _. give (finished f)))
  unfolding release
  releases ops end out ω at f σ e h =
      by_flow f (one_step θ fs _ _ (fetch end ops σ (acts at thread.Release) h
      ∙ ap (λ q. on q ops (with_live one_less σ)) e))
    where
      by_flow : (f : Flow) → Leads θ fs (on end ops σ) (on out ops (with_live one_less σ))
          → Meet Flow (flow_at ops end (looped ω end end) f σ) (flow_at ops out ω)
          (Val (finished f) (with_live one_less σ))
      by_flow Next l = record { by = l }
      by_flow Broke l = record { by = l }
      by_flow Again l = record { by = l }
      by_flow (Gave v) l =
          record {
            by = subst (λ c. Leads θ fs (flow_at ops out ω (Gave v) σ) c)
                (same_return v ops back calls ω.blocks (pred (controls σ.store)) σ)
                (stays θ fs (flow_at ops out ω (Gave v) σ));
          }

  control_runs : (at : Place) (pc m out : ℕ) (part : List Instr) (ω : Ways) (body : Does) (ops : List Value)
      (σ : State) → length part ≡ m → pc + (1 + m + 1) ≡ out → HasAt code pc (control_code at part)
      → ((τ : State) → HasAt code (pc + 1) part
      → Meet Flow (on (pc + 1) ops τ) (flow_at ops (pc + 1 + m) (looped ω (pc + 1 + m) (pc + 1 + m))) (body τ))
      → Meet Flow (on pc ops σ) (flow_at ops out ω) (controlling ρ body σ)
  control_runs at pc m out part ω body ops σ e1 e2 has inside =
      let end = pc + 1 + m in
      let go = flow_at ops out ω in
      let h = has_past code (pc + 1) m part (acts at thread.Release ∷ []) e1 has.1 in
      then_meets θ fs (Unit {0}) Flow _ (any_on (pc + 1) ops) go (control σ) _
      (same_step θ fs (Unit {0}) _ _ (control σ) (fetch pc ops σ (acts at thread.Control) has.0)) (λ _ τ.
      then_meets θ fs Flow Flow _ (flow_at ops end (looped ω end end)) go (body τ) _
      (inside τ (has_front code (pc + 1) part _ has.1))
      (λ f υ. releases ops end out ω at f υ (omega arith) h.0))

  guard_runs : (whose : Affinity) (κ : Standing) (at : Place) (pc m out : ℕ) (part : List Instr) (ω : Ways)
      (body : Does) (ops : List Value) (σ : State) → length part ≡ m → pc + guard_size ς κ.strict whose m ≡ out
      → HasAt code pc (guard_code ς at κ.strict whose part m)
      → ((start end : ℕ) (τ : State) → start + m ≡ end → HasAt code start part
      → Meet Flow (on start ops τ) (flow_at ops end (looped ω end end)) (body τ))
      → Meet Flow (on pc ops σ) (flow_at ops out ω) (guarded ρ call κ whose body σ)
  guard_runs Everyone κ at pc m out part ω body ops σ e1 e2 has inside =
      then_meets θ fs Flow Flow _ (flow_at ops out (looped ω out out)) (flow_at ops out ω) (body σ) _
      (inside pc out σ e2 has) (λ f τ. finishes ops out ω f τ)
  guard_runs (AtValue e) κ at pc m out part ω body ops σ e1 e2 has inside =
      let ce = value_code ς κ.strict e in
      let go = flow_at ops out ω in
      let q = pc + 1 + length ce in
      let h = has_back code (pc + 1) ce _ has.1 in
      let e3 : pc + (length ce + 2 + 1) ≡ q + 1 + 1 = omega arith in
      let e4 : q + 1 + 1 + (1 + m + 1) ≡ out = omega arith in
      let e5 : q + 1 + (1 + m + 1 + 1) ≡ out = omega arith in
      let controlled = λ (τ : State). control_runs at (q + 1 + 1) m out part ω body ops τ e1 e4 h.1.1
      (λ υ. inside (q + 1 + 1 + 1) (q + 1 + 1 + 1 + m) υ refl) in
      by_control Flow go pc (length ce + 2) (q + 1 + 1) ops (controlling ρ body) _ at σ has.0 e3
      (controlled σ)
      (then_meets θ fs Value Flow _ (val_on q ops) go (value ρ call κ.strict e σ) _
      (value_runs κ.strict e (pc + 1) ops σ (has_front code (pc + 1) ce _ has.1)) (λ v τ.
      then_meets θ fs Value Flow _ (val_on (q + 1) ops) go (mine θ (place_of e) v τ) _
      (same_step θ fs Value _ _ (mine θ (place_of e) v τ) (fetch q (v ∷ ops) τ (acts (place_of e) thread.Mine) h.0))
      (λ w υ.
      by_zero Flow go (q + 1) (1 + m + 1) out ops w (give Next) (controlling ρ body) at υ h.1.0 e5
      (here θ fs Flow go Next υ) (controlled υ))))

  -- What the head of a loop does first.
  first_runs : (head : Head) (κ : Standing) (pc mid out : ℕ) (ops : List Value) (ω : Ways) (body : Does) (σ : State)
      → HasAt code pc (first_code ς κ.strict head) → pc + length (first_code ς κ.strict head) ≡ mid
      → ((τ : State) → Meet Flow (on mid ops τ) (flow_at ops out ω) (body τ))
      → Meet Flow (on pc ops σ) (flow_at ops out ω)
      ((declared ρ call κ head.objects >> (aside ρ call κ head.first >> body)) σ)
  first_runs head κ pc mid out ops ω body σ has eo inside =
      let cd = declared_code ς κ.strict head.objects in
      let cf = aside_code ς κ.strict head.first in
      let a = pc + length cd in
      let len : a + length cf ≡ mid = omega (arith, length-append cd cf) in
      let go = flow_at ops out ω in
      then_meets θ fs (Unit {0}) Flow _ (any_on a ops) go (declared ρ call κ head.objects σ) _
      (declared_runs head.objects κ pc a ops σ (has_front code pc cd cf has) refl) (λ _ τ.
      then_meets θ fs Flow Flow _ (any_on mid ops) go (aside ρ call κ head.first τ) _
      (aside_runs head.first κ a mid ops τ (any_on mid ops) (λ υ. refl) (has_back code pc cd cf has) len)
      (λ _ υ. inside υ))

  -- ---- statements
  mutual
    pub statement_runs : (s : Statement) (κ : Standing) (ω : Ways) (pc out x y : ℕ) (ops : List Value) (σ : State)
        → pc + size ς κ s ≡ out → out + ω.broken.distance ≡ x → out + ω.again.distance ≡ y
        → HasAt code pc (statement_code ς κ ω s)
        → Meet Flow (on pc ops σ) (flow_at ops out (ways_at ω x y)) (run ρ call κ s σ)
    statement_runs (Stands at kind) κ ω pc out x y ops σ eo ex ey has =
        kind_runs kind κ ω at pc out x y ops σ eo ex ey has

    pub kind_runs : (kind : StatementKind) (κ : Standing) (ω : Ways) (at : Place) (pc out x y : ℕ) (ops : List Value)
        (σ : State) → pc + kind_size ς κ at kind ≡ out → out + ω.broken.distance ≡ x → out + ω.again.distance ≡ y
        → HasAt code pc (kind_code ς κ ω at kind)
        → Meet Flow (on pc ops σ) (flow_at ops out (ways_at ω x y)) (run_kind ρ call κ at kind σ)
    kind_runs (Block strict items) κ ω at pc out x y ops σ eo ex ey has =
        let η = with_strict strict κ in
        let n = items_size ς η items in
        block_runs at κ.count (objects_in items) pc n out (items_code ς η (all_inner ω) items) (ways_at ω x y)
        (run_items ρ call η items) ops σ (items_long ς items η (all_inner ω)) eo has (λ τ h.
        items_run items η (all_inner ω) (pc + 1) (pc + 1 + n) x y ops τ refl (omega arith) (omega arith) h)
    kind_runs (tree.Value e) κ ω at pc out x y ops σ eo ex ey has =
        aside_runs e κ pc out ops σ (flow_at ops out (ways_at ω x y)) (λ τ. refl) has eo
    kind_runs (If arms last) κ ω at pc out x y ops σ eo ex ey has =
        arms_run arms κ ω at (last_code ς κ ω last) (last_size ς κ last) (run_last ρ call κ last) pc out x y ops σ eo
        ex ey has (last_long ς last κ ω)
        (λ q τ e h. last_runs last κ ω q out x y ops τ e ex ey h)
    kind_runs (Switch e items) κ ω at pc out x y ops σ eo ex ey has =
        let ce = value_code ς κ.strict e in
        let k = integer_of (type_of e) in
        let cl = label_code at k in
        let cc = cases_code ς at κ items 0 in
        let a = pc + length ce in
        let b = a + length cl in
        let end = b + cases items in
        let start = end + 1 + 1 in
        let h = has_back code pc ce _ has in
        let hl = has_back code a cl _ h in
        let hp = has_past code b (cases items) cc _ (cases_long ς at κ items 0) hl in
        let e0 : start ≡ start + 0 = omega arith in
        let e1 : end + 1 + (before_default ς κ items + 1) ≡ start + before_default ς κ items = omega arith in
        let ω' = ways_at (in_switch ω) out y in
        let go = flow_at ops out ω' in
        let other = from_default ρ call κ items in
        then_meets θ fs Value Flow _ (val_on a ops) _ (value ρ call κ.strict e σ) _
        (value_runs κ.strict e pc ops σ (has_front code pc ce _ has)) (λ v τ.
        then_meets θ fs Flow Flow _ go _ (from_case ρ call κ (label_kind k (number_of v)) items other τ) _
        (after θ fs Flow _ (on b (labelled k v ∷ ops) τ) go _
        (label_leads k at a ops v τ (has_front code a cl _ h))
        (subst (λ w. Meet Flow (on b (labelled k v ∷ ops) τ) go (from_case ρ call κ w items other τ)) (labelled_is k v)
        (case_runs items κ ω at (labelled k v) other 0 b start out y ops τ (omega arith) (omega arith) ey
        (has_front code b cc _ hl) (subst (λ q. HasAt code q (switch_code ς κ (in_switch ω) items)) e0 hp.1.1) (λ υ.
        after θ fs Flow _ _ go _
        (leads_on θ fs _ (on (end + 1) ops υ) _ (pops end (end + 1) ops (labelled k v) at υ hp.0 refl)
        (one_step θ fs _ (on (start + before_default ς κ items) ops υ)
        (fetch (end + 1) ops υ (jumps at (jump.GoOn (before_default ς κ items))) hp.1.0
        ∙ ap (λ q. on q ops υ) e1)))
        (default_runs items κ ω start out y ops υ (omega arith) ey hp.1.1)))))
        (λ f υ. catches ops out (ways_at ω x y) f υ))
    kind_runs (While test body) κ ω at pc out x y ops σ eo ex ey has =
        let ct = value_code ς κ.strict test in
        let ω' = in_loop 0 ω in
        loop_runs pc (length ct) (size ς κ body) 0 out θ.budget (ways_at ω x y) ops at (value ρ call κ.strict test)
        (run ρ call κ body) (give Next) σ eo has.0
        (the_loop pc (size ς κ body) ct (statement_code ς κ ω' body) [] ops (ways_at ω x y) at
        (value ρ call κ.strict test) (run ρ call κ body) (give Next) (statement_long ς body κ ω') has
        (λ τ h. value_runs κ.strict test (pc + 1) ops τ h)
        (λ τ h. statement_runs body κ ω' (pc + 1 + length ct + 1) (pc + 1 + length ct + 1 + size ς κ body)
        (pc + 1 + length ct + 1 + size ς κ body + 0 + 1) (pc + 1 + length ct + 1 + size ς κ body) ops τ refl
        (omega arith) (omega arith) h)
        (λ τ h. no_last (pc + 1 + length ct + 1 + size ς κ body) ops τ))
    kind_runs (DoWhile body test) κ ω at pc out x y ops σ eo ex ey has =
        let ct = value_code ς κ.strict test in
        let ω' = in_loop 0 ω in
        let p = pc + 1 in
        let e0 : pc + (1 + length ct + 1 + 1) ≡ p + 1 + length ct + 1 = omega arith in
        after θ fs Flow _ (on (p + 1 + length ct + 1) ops σ) _ _
        (one_step θ fs _ _ (fetch pc ops σ (jumps at (jump.GoOn (1 + length ct + 1))) has.0
        ∙ ap (λ q. on q ops σ) e0))
        (late_loop_runs p (length ct) (size ς κ body) 0 out θ.budget (ways_at ω x y) ops at
        (value ρ call κ.strict test) (run ρ call κ body) (give Next) σ (omega arith)
        (the_loop p (size ς κ body) ct (statement_code ς κ ω' body) [] ops (ways_at ω x y) at
        (value ρ call κ.strict test) (run ρ call κ body) (give Next) (statement_long ς body κ ω') has.1
        (λ τ h. value_runs κ.strict test (p + 1) ops τ h)
        (λ τ h. statement_runs body κ ω' (p + 1 + length ct + 1) (p + 1 + length ct + 1 + size ς κ body)
        (p + 1 + length ct + 1 + size ς κ body + 0 + 1) (p + 1 + length ct + 1 + size ς κ body) ops τ refl
        (omega arith) (omega arith) h)
        (λ τ h. no_last (p + 1 + length ct + 1 + size ς κ body) ops τ)))
    kind_runs (For head body) κ ω at pc out x y ops σ eo ex ey has =
        let η = with_objects head.objects κ in
        let first = first_code ς κ.strict head in
        let ct = test_code ς at κ.strict head.test in
        let cl = aside_code ς κ.strict head.step in
        let ω' = in_loop (length cl) (all_inner ω) in
        let cs = statement_code ς η ω' body in
        let long = statement_long ς body η ω' in
        let m = size ς η body in
        let n = length first + loop_size (length ct) m (length cl) in
        let same = length-append first (loop_code at ct cs cl m)
        ∙ ap (λ j. length first + j) (loop_long at ct cs cl m long) in
        let ω1 = closing (ways_at ω x y) in
        let test = tested ρ call η head.test in
        let step = aside ρ call η head.step in
        let does = turns ρ θ.budget test (run ρ call η body) step in
        block_runs at κ.count head.objects pc n out (first ++ loop_code at ct cs cl m) (ways_at ω x y)
        (declared ρ call κ head.objects >> (aside ρ call κ head.first >> does)) ops σ same
        (omega arith) has (λ τ hb.
        let q = pc + 1 + length first in
        first_runs head κ (pc + 1) q (pc + 1 + n) ops ω1 does τ (has_front code (pc + 1) first _ hb) refl (λ υ.
        let hl = has_back code (pc + 1) first _ hb in
        loop_runs q (length ct) m (length cl) (pc + 1 + n) θ.budget ω1 ops at test (run ρ call η body) step υ
        (omega arith) hl.0
        (the_loop q m ct cs cl ops ω1 at test (run ρ call η body) step long hl
        (λ φ h. test_runs head.test η at (q + 1) ops φ h)
        (λ φ h. statement_runs body η ω' (q + 1 + length ct + 1) (q + 1 + length ct + 1 + m)
        (q + 1 + length ct + 1 + m + length cl + 1) (q + 1 + length ct + 1 + m) ops φ refl (omega arith) (omega arith)
        h)
        (λ φ h. aside_runs head.step η (q + 1 + length ct + 1 + m) (q + 1 + length ct + 1 + m + length cl) ops φ
        (any_on (q + 1 + length ct + 1 + m + length cl) ops) (λ ψ. refl) h refl))))
    kind_runs (Forall head whose body) κ ω at pc out x y ops σ eo ex ey has =
        let η = with_objects head.objects κ in
        let first = first_code ς κ.strict head in
        let ct = test_code ς at κ.strict head.test in
        let cl = aside_code ς κ.strict head.step in
        let ω' = in_forall (all_inner ω) in
        let cs = statement_code ς η ω' body in
        let long = statement_long ς body η ω' in
        let j = size ς η body in
        let cg = guard_code ς at κ.strict whose cs j in
        let m = guard_size ς κ.strict whose j in
        let long_guard = guard_long ς at κ.strict whose cs j long in
        let n = length first + loop_size (length ct) m (length cl) in
        let same = length-append first (loop_code at ct cg cl m)
        ∙ ap (λ i. length first + i) (loop_long at ct cg cl m long_guard) in
        let ω1 = closing (ways_at ω x y) in
        let test = tested ρ call η head.test in
        let step = aside ρ call η head.step in
        let turn = guarded ρ call η whose (run ρ call η body) in
        let does = turns ρ θ.budget test turn step in
        block_runs at κ.count head.objects pc n out (first ++ loop_code at ct cg cl m) (ways_at ω x y)
        (declared ρ call κ head.objects >> (aside ρ call κ head.first >> does)) ops σ same
        (omega arith) has (λ τ hb.
        let q = pc + 1 + length first in
        first_runs head κ (pc + 1) q (pc + 1 + n) ops ω1 does τ (has_front code (pc + 1) first _ hb) refl (λ υ.
        let hl = has_back code (pc + 1) first _ hb in
        let mid = q + 1 + length ct + 1 + m in
        loop_runs q (length ct) m (length cl) (pc + 1 + n) θ.budget ω1 ops at test turn step υ (omega arith) hl.0
        (the_loop q m ct cg cl ops ω1 at test turn step long_guard hl
        (λ φ h. test_runs head.test η at (q + 1) ops φ h)
        (λ φ h. guard_runs whose η at (q + 1 + length ct + 1) j mid cs (looped ω1 (mid + length cl + 1) mid)
        (run ρ call η body) ops φ long refl h (λ start end ψ e hs.
        statement_runs body η ω' start end end end ops ψ e (omega arith) (omega arith) hs))
        (λ φ h. aside_runs head.step η mid (mid + length cl) ops φ (any_on (mid + length cl) ops) (λ ψ. refl) h
        refl))))
    kind_runs Break κ ω at pc out x y ops σ eo ex ey has =
        let w = ω.broken in
        let e : pc + (w.distance + 1) ≡ x = omega arith in
        record {
          by = one_step θ fs _ _ (fetch pc ops σ (jumps at (jump.Exit w.blocks w.distance)) has.0
              ∙ ap (λ q. shut w.blocks (on q ops) σ) e);
        }
    kind_runs Continue κ ω at pc out x y ops σ eo ex ey has =
        let w = ω.again in
        let e : pc + (w.distance + 1) ≡ y = omega arith in
        record {
          by = one_step θ fs _ _ (fetch pc ops σ (jumps at (jump.Exit w.blocks w.distance)) has.0
              ∙ ap (λ q. shut w.blocks (on q ops) σ) e);
        }
    kind_runs (Return None) κ ω at pc out x y ops σ eo ex ey has =
        record {
          by = leads_on θ fs _ (on (pc + 1) (no_value ∷ ops) σ) _ (puts pc (pc + 1) ops no_value at σ has.0 refl)
              (one_step θ fs _ _ (fetch (pc + 1) (no_value ∷ ops) σ (gives_back at ω.blocks) has.1.0));
        }
    kind_runs (Return (Some e)) κ ω at pc out x y ops σ eo ex ey has =
        let cv = converted_code ς κ.strict κ.result e in
        let q = pc + length cv in
        let h = has_back code pc cv (gives_back at ω.blocks ∷ []) has in
        let go = flow_at ops out (ways_at ω x y) in
        then_meets θ fs Value Flow _ (val_on q ops) go _ _
        (converted_runs κ.strict κ.result e pc q ops σ (has_front code pc cv _ has) refl)
        (λ v τ. record { by = one_step θ fs _ (go (Gave v) τ) (fetch q (v ∷ ops) τ (gives_back at ω.blocks) h.0) })
    kind_runs (Synchronise how None) κ ω at pc out x y ops σ eo ex ey has =
        then_meets θ fs (Unit {0}) Flow _ (any_on out ops) (flow_at ops out (ways_at ω x y)) _ _
        (synchronise_runs how at pc out ops σ has eo)
        (λ _ τ. here θ fs Flow (flow_at ops out (ways_at ω x y)) Next τ)
    kind_runs (Synchronise how (Some e)) κ ω at pc out x y ops σ eo ex ey has =
        let ce = value_code ς κ.strict e in
        let q = pc + length ce in
        let go = flow_at ops out (ways_at ω x y) in
        let same = length-append ce (synchronise_value_code at how) in
        let mark = λ (v : Value). Given (converted kind.Int (number_of v)) in
        let does = λ (m : Mark). synchronised ρ how at m >> give Next in
        subst (λ r. Meet Flow (on pc ops σ) go r)
        (sym (bind_bind Value Mark Flow (value ρ call κ.strict e σ) (λ v. give (mark v)) does))
        (then_meets θ fs Value Flow _ (val_on q ops) go (value ρ call κ.strict e σ) (λ v. does (mark v))
        (value_runs κ.strict e pc ops σ (has_front code pc ce _ has)) (λ v τ.
        then_meets θ fs (Unit {0}) Flow _ (any_on out ops) go (synchronised ρ how at (mark v) τ) (λ _. give Next)
        (synchronise_value_runs how at q out ops v τ (has_back code pc ce _ has) (omega arith))
        (λ _ υ. here θ fs Flow go Next υ)))
    kind_runs Fence κ ω at pc out x y ops σ eo ex ey has =
        let go = flow_at ops out (ways_at ω x y) in
        then_meets θ fs (Unit {0}) Flow _ (any_on out ops) go (fence θ σ) _
        (same_step θ fs (Unit {0}) _ _ (fence θ σ)
        (fetch pc ops σ (acts at thread.Fence) has.0 ∙ ap (λ q. conf_of (fence θ σ) (any_on q ops)) eo))
        (λ _ τ. here θ fs Flow go Next τ)

    pub last_runs : (last : StatementOption) (κ : Standing) (ω : Ways) (pc out x y : ℕ) (ops : List Value) (σ : State)
        → pc + last_size ς κ last ≡ out → out + ω.broken.distance ≡ x → out + ω.again.distance ≡ y
        → HasAt code pc (last_code ς κ ω last)
        → Meet Flow (on pc ops σ) (flow_at ops out (ways_at ω x y)) (run_last ρ call κ last σ)
    last_runs NoStatement κ ω pc out x y ops σ eo ex ey has = nothing pc out ops (ways_at ω x y) σ (omega arith)
    last_runs (TheStatement s) κ ω pc out x y ops σ eo ex ey has =
        statement_runs s κ ω pc out x y ops σ eo ex ey has

    pub arms_run : (arms : Arms) (κ : Standing) (ω : Ways) (at : Place) (last : List Instr) (n : ℕ) (lastly : Does)
        (pc out x y : ℕ) (ops : List Value) (σ : State) → pc + arms_size ς κ arms n ≡ out
        → out + ω.broken.distance ≡ x → out + ω.again.distance ≡ y → HasAt code pc (arms_code ς κ ω at arms last n)
        → length last ≡ n
        → ((q : ℕ) (τ : State) → q + n ≡ out → HasAt code q last
        → Meet Flow (on q ops τ) (flow_at ops out (ways_at ω x y)) (lastly τ))
        → Meet Flow (on pc ops σ) (flow_at ops out (ways_at ω x y)) (run_arms ρ call κ arms lastly σ)
    arms_run NoArms κ ω at last n lastly pc out x y ops σ eo ex ey has long rl = rl pc σ eo has
    arms_run (AndArm test body more) κ ω at last n lastly pc out x y ops σ eo ex ey has long rl =
        let behind_it = arms_size ς κ more n in
        let ct = value_code ς κ.strict test in
        let ω' = all_past (1 + behind_it) ω in
        let cb = statement_code ς κ ω' body in
        let k = length ct in
        let lb = size ς κ body in
        let mid = pc + k + 1 + lb in
        let go = flow_at ops out (ways_at ω x y) in
        let h = has_back code pc ct _ has in
        let hm = has_past code (pc + k + 1) lb cb _ (statement_long ς body κ ω') h.1 in
        let e0 : pc + k + (lb + 1 + 1) ≡ mid + 1 = omega arith in
        then_meets θ fs Value Flow _ (val_on (pc + k) ops) go (value ρ call κ.strict test σ) _
        (value_runs κ.strict test pc ops σ (has_front code pc ct _ has)) (λ v τ.
        by_zero Flow go (pc + k) (lb + 1) (mid + 1) ops v (run_arms ρ call κ more lastly) (run ρ call κ body) at τ h.0
        e0
        (arms_run more κ ω at last n lastly (mid + 1) out x y ops τ (omega arith) ex ey hm.1 long rl)
        (lands θ fs Flow _ (flow_at ops mid (ways_at ω x y)) go (run ρ call κ body τ)
        (λ f υ. passes f υ mid behind_it out ops (ways_at ω x y) at (omega arith) hm.0)
        (statement_runs body κ ω' (pc + k + 1) mid x y ops τ refl (omega arith) (omega arith)
        (has_front code (pc + k + 1) cb _ h.1))))

    pub items_run : (items : Items) (κ : Standing) (ω : Ways) (pc out x y : ℕ) (ops : List Value) (σ : State)
        → pc + items_size ς κ items ≡ out → out + ω.broken.distance ≡ x → out + ω.again.distance ≡ y
        → HasAt code pc (items_code ς κ ω items)
        → Meet Flow (on pc ops σ) (flow_at ops out (ways_at ω x y)) (run_items ρ call κ items σ)
    items_run NoItems κ ω pc out x y ops σ eo ex ey has = nothing pc out ops (ways_at ω x y) σ (omega arith)
    items_run (AndObjects objects more) κ ω pc out x y ops σ eo ex ey has =
        let cd = declared_code ς κ.strict objects in
        let a = pc + length cd in
        then_meets θ fs (Unit {0}) Flow _ (any_on a ops) (flow_at ops out (ways_at ω x y))
        (declared ρ call κ objects σ) _
        (declared_runs objects κ pc a ops σ (has_front code pc cd _ has) refl)
        (λ _ τ. items_run more (with_objects objects κ) ω a out x y ops τ (omega arith) ex ey
        (has_back code pc cd _ has))
    items_run (AndStatement s more) κ ω pc out x y ops σ eo ex ey has =
        let ω' = all_past (items_size ς κ more) ω in
        let cs = statement_code ς κ ω' s in
        let mid = pc + size ς κ s in
        let hr = has_past code pc (size ς κ s) cs _ (statement_long ς s κ ω') has in
        then_meets θ fs Flow Flow _ (flow_at ops mid (ways_at ω x y)) (flow_at ops out (ways_at ω x y))
        (run ρ call κ s σ) _
        (statement_runs s κ ω' pc mid x y ops σ refl (omega arith) (omega arith) (has_front code pc cs _ has))
        (λ f τ. goes_on ops mid out (ways_at ω x y) f (run_items ρ call κ more) τ
        (items_run more κ ω mid out x y ops τ (omega arith) ex ey hr))

    pub switch_runs : (items : SwitchItems) (κ : Standing) (ω : Ways) (pc out x y : ℕ) (ops : List Value) (σ : State)
        → pc + switch_size ς κ items ≡ out → out + ω.broken.distance ≡ x → out + ω.again.distance ≡ y
        → HasAt code pc (switch_code ς κ ω items)
        → Meet Flow (on pc ops σ) (flow_at ops out (ways_at ω x y)) (run_switch ρ call κ items σ)
    switch_runs NoSwitchItems κ ω pc out x y ops σ eo ex ey has = nothing pc out ops (ways_at ω x y) σ (omega arith)
    switch_runs (AndCase w more) κ ω pc out x y ops σ eo ex ey has =
        switch_runs more κ ω pc out x y ops σ eo ex ey has
    switch_runs (AndDefault more) κ ω pc out x y ops σ eo ex ey has =
        switch_runs more κ ω pc out x y ops σ eo ex ey has
    switch_runs (AndSwitchStatement s more) κ ω pc out x y ops σ eo ex ey has =
        let ω' = all_past (switch_size ς κ more) ω in
        let cs = statement_code ς κ ω' s in
        let mid = pc + size ς κ s in
        let hr = has_past code pc (size ς κ s) cs _ (statement_long ς s κ ω') has in
        then_meets θ fs Flow Flow _ (flow_at ops mid (ways_at ω x y)) (flow_at ops out (ways_at ω x y))
        (run ρ call κ s σ) _
        (statement_runs s κ ω' pc mid x y ops σ refl (omega arith) (omega arith) (has_front code pc cs _ has))
        (λ f τ. goes_on ops mid out (ways_at ω x y) f (run_switch ρ call κ more) τ
        (switch_runs more κ ω mid out x y ops τ (omega arith) ex ey hr))

    -- The comparisons that stand at pc, where the body begins at start.
    pub case_runs : (items : SwitchItems) (κ : Standing) (ω : Ways) (at : Place) (u : Value) (other : Does)
        (before pc start out y : ℕ) (ops : List Value) (σ : State) → pc + cases items + 2 ≡ start
        → start + before + switch_size ς κ items ≡ out → out + ω.again.distance ≡ y
        → HasAt code pc (cases_code ς at κ items before)
        → HasAt code (start + before) (switch_code ς κ (in_switch ω) items)
        → ((τ : State) → Meet Flow (on (pc + cases items) (u ∷ ops) τ) (flow_at ops out (ways_at (in_switch ω) out y))
        (other τ))
        → Meet Flow (on pc (u ∷ ops) σ) (flow_at ops out (ways_at (in_switch ω) out y))
        (from_case ρ call κ (number_of u) items other σ)
    case_runs NoSwitchItems κ ω at u other before pc start out y ops σ es eo ey has body ro =
        let e : pc + 0 ≡ pc = omega arith in
        subst (λ q. Meet Flow (on q (u ∷ ops) σ) (flow_at ops out (ways_at (in_switch ω) out y)) (other σ)) e (ro σ)
    case_runs (AndCase w more) κ ω at u other before pc start out y ops σ es eo ey has body ro =
        let e : pc + (cases more + 2 + before + 1) ≡ start + before = omega arith in
        let e1 : pc + (1 + cases more) ≡ pc + 1 + cases more = omega arith in
        let go = flow_at ops out (ways_at (in_switch ω) out y) in
        compares go pc (cases more + 2 + before) (start + before) ops u w (run_switch ρ call κ more)
        (from_case ρ call κ (number_of u) more other) at σ has.0 e
        (switch_runs more κ (in_switch ω) (start + before) out out y ops σ eo (omega arith) ey body)
        (case_runs more κ ω at u other before (pc + 1) start out y ops σ (omega arith) eo ey has.1 body
        (λ τ. subst (λ q. Meet Flow (on q (u ∷ ops) τ) go (other τ)) e1 (ro τ)))
    case_runs (AndDefault more) κ ω at u other before pc start out y ops σ es eo ey has body ro =
        case_runs more κ ω at u other before pc start out y ops σ es eo ey has body ro
    case_runs (AndSwitchStatement s more) κ ω at u other before pc start out y ops σ es eo ey has body ro =
        let ω' = all_past (switch_size ς κ more) (in_switch ω) in
        let hr = has_past code (start + before) (size ς κ s) (statement_code ς κ ω' s) _ (statement_long ς s κ ω')
        body in
        let e : start + before + size ς κ s ≡ start + (before + size ς κ s) = omega arith in
        case_runs more κ ω at u other (before + size ς κ s) pc start out y ops σ es (omega arith) ey has
        (subst (λ q. HasAt code q (switch_code ς κ (in_switch ω) more)) e hr) ro

    -- From `default` on, where these parts begin at start.
    pub default_runs : (items : SwitchItems) (κ : Standing) (ω : Ways) (start out y : ℕ) (ops : List Value) (σ : State)
        → start + switch_size ς κ items ≡ out → out + ω.again.distance ≡ y
        → HasAt code start (switch_code ς κ (in_switch ω) items)
        → Meet Flow (on (start + before_default ς κ items) ops σ) (flow_at ops out (ways_at (in_switch ω) out y))
        (from_default ρ call κ items σ)
    default_runs NoSwitchItems κ ω start out y ops σ eo ey body =
        nothing (start + 0) out ops (ways_at (in_switch ω) out y) σ (omega arith)
    default_runs (AndCase w more) κ ω start out y ops σ eo ey body =
        default_runs more κ ω start out y ops σ eo ey body
    default_runs (AndDefault more) κ ω start out y ops σ eo ey body =
        let e : start ≡ start + 0 = omega arith in
        switch_runs more κ (in_switch ω) (start + 0) out out y ops σ (omega arith) (omega arith) ey
        (subst (λ q. HasAt code q (switch_code ς κ (in_switch ω) more)) e body)
    default_runs (AndSwitchStatement s more) κ ω start out y ops σ eo ey body =
        let ω' = all_past (switch_size ς κ more) (in_switch ω) in
        let hr = has_past code start (size ς κ s) (statement_code ς κ ω' s) _ (statement_long ς s κ ω') body in
        let e : start + size ς κ s + before_default ς κ more ≡ start + (size ς κ s + before_default ς κ more) =
        omega arith in
        subst (λ q. Meet Flow (on q ops σ) (flow_at ops out (ways_at (in_switch ω) out y))
        (from_default ρ call κ more σ)) e
        (default_runs more κ ω (start + size ς κ s) out y ops σ (omega arith) ey hr)
