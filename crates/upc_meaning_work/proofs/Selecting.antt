-- Where the value of a switch leads.
use Rattle.std.proofs.Common.{◌≡◌, ℤ, Bool, true, false, if◌then◌else◌, List, [], ◌∷◌, Option, Some, None, refl, sym, ap, ◌∙◌}
use Rattle.std.specs.Ordering.{int_eq}
use Rattle.upc_text.specs.declared.place.Place.{Place}
use Rattle.block_layout.specs.declared.kind.Kind.{Kind}
use Rattle.upc_values.specs.declared.scalar.Value.{Value as Given}
use Rattle.typing_rules.specs.Rules.{label_kind}
use Rattle.typed_tree.specs.declared.tree.SwitchItem as w
use Rattle.typed_tree.specs.declared.tree.SwitchItem.{SwitchItem}
use Rattle.typed_tree.specs.Tree as tree
use Rattle.typed_tree.specs.Tree.{Expr, Stands, SwitchItems, NoSwitchItems, AndCase, AndDefault, AndSwitchStatement}
use Rattle.typed_tree.specs.ViewStatements.{view_switch_item, view_switch_items}
use Rattle.thread_steps.specs.States.{Res, Doing, bind, give, choose}
use Rattle.thread_steps.specs.Values.{number_of}
use Rattle.source_meaning.specs.Running.{Running}
use Rattle.source_meaning.specs.Types.{integer_of}
use Rattle.source_meaning.specs.Expressions.{Calls, type_of, value}
use Rattle.source_meaning.specs.Statements.{Flow, Next, Standing, run_switch, from_case, from_default}
use Rattle.source_meaning.specs.layer.Parts.{Does, caught}
use Rattle.source_meaning.specs.Threads.{called}
use Rattle.upc_meaning_state.proofs.Thens.{then_one, then_same}
use Rattle.upc_meaning_work.specs.layer.Seen.{Seen, meant, with_item, more_works, popped, with_flow}
use Rattle.upc_meaning_work.specs.layer.Items.{Value, Run, Cases, Select, Caught}
use Rattle.upc_meaning_work.specs.layer.Left.{left}
use Rattle.upc_meaning_work.specs.code.Stacks.{top, rest}
use Rattle.upc_meaning_work.specs.layer.Switches.{behind_label, is_label, or_else, selected}

-- ---- labels

one_more : (l : Option ℤ) (x : SwitchItem) (more : SwitchItems)
    → behind_label l (view_switch_item x more) ≡ (if is_label l x then Some more else behind_label l more)
one_more (Some v) (w.Case u) more = refl
one_more None (w.Case u) more = refl
one_more (Some v) w.Default more = refl
one_more None w.Default more = refl
one_more (Some v) (w.Do' p at kind) more = refl
one_more None (w.Do' p at kind) more = refl

abbrev first : Option ℤ → List SwitchItem → Bool → Option SwitchItems
first l more b = if b then Some (view_switch_items more) else behind_label l (view_switch_items more)

pub label_here : (l : Option ℤ) (xs more : List SwitchItem) (x : SwitchItem) → xs ≡ x ∷ more → is_label l x ≡ true
    → behind_label l (view_switch_items xs) ≡ Some (view_switch_items more)
label_here l xs more x is h =
    ap (λ ys. behind_label l (view_switch_items ys)) is ∙ one_more l x (view_switch_items more) ∙ ap (first l more) h

pub label_passes : (l : Option ℤ) (xs more : List SwitchItem) (x : SwitchItem) → xs ≡ x ∷ more → is_label l x ≡ false
    → behind_label l (view_switch_items xs) ≡ behind_label l (view_switch_items more)
label_passes l xs more x is h =
    ap (λ ys. behind_label l (view_switch_items ys)) is ∙ one_more l x (view_switch_items more) ∙ ap (first l more) h

pub label_none : (l : Option ℤ) (xs : List SwitchItem) → xs ≡ [] → behind_label l (view_switch_items xs) ≡ None
label_none l xs is = ap (λ ys. behind_label l (view_switch_items ys)) is

-- ---- what is done there

module _ (ρ : Running) (call : Calls) (κ : Standing) where
  -- The parts of a switch from some on, or something else where there are none.
  abbrev chosen : Option SwitchItems → Does → Does
  chosen None other = other
  chosen (Some more) other = run_switch ρ call κ more

  choice : (b : Bool) (more : SwitchItems) (o : Option SwitchItems) (d other : Does) → d ≡ chosen o other
      → choose b (run_switch ρ call κ more) d ≡ chosen (if b then Some more else o) other
  choice true more o d other h = refl
  choice false more o d other h = h

  case_is : (v : ℤ) (items : SwitchItems) (other : Does)
      → from_case ρ call κ v items other ≡ chosen (behind_label (Some v) items) other
  case_is v NoSwitchItems other = refl
  case_is v (AndCase u more) other =
      choice (int_eq v u) more (behind_label (Some v) more) (from_case ρ call κ v more other) other (case_is v more other)
  case_is v (AndDefault more) other = case_is v more other
  case_is v (AndSwitchStatement s more) other = case_is v more other

  default_is : (items : SwitchItems) → from_default ρ call κ items ≡ chosen (behind_label None items) (give Next)
  default_is NoSwitchItems = refl
  default_is (AndCase u more) = default_is more
  default_is (AndDefault more) = refl
  default_is (AndSwitchStatement s more) = default_is more

  -- With this value.
  leads : (v : ℤ) (items : SwitchItems)
      → from_case ρ call κ v items (from_default ρ call κ items)
      ≡ chosen (behind_label (Some v) items) (chosen (behind_label None items) (give Next))
  leads v items =
      case_is v items (from_default ρ call κ items) ∙ ap (chosen (behind_label (Some v) items)) (default_is items)

module _ (ρ : Running) (κ : Standing) (s t : Seen) where
  abbrev c : Calls
  c = called ρ s.free

  abbrev k : Flow → Doing ℤ
  k g = left ρ s.works s.free g s.values

  abbrev kr : Flow → Doing ℤ
  kr g = left ρ s.works s.free g (rest s.values)

  pub switch_goes : (at : Place) (e : Expr) (items : SwitchItems)
      → t ≡ more_works (Value κ.strict e ∷ Select κ (integer_of (type_of e)) items ∷ Caught ∷ []) s
      → with_item ρ (Run κ (Stands at (tree.Switch e items))) s ≡ meant ρ t
  unfolding with_item meant
  switch_goes at e items same =
      let r = value ρ c κ.strict e s.state in
      then_one {A = Given} {B = Flow} r _ k
      ∙ then_same r _ _ (λ v τ. then_one {A = Flow} {B = Flow} (from_case ρ c κ
      (label_kind (integer_of (type_of e)) (number_of v)) items (from_default ρ c κ items) τ) (λ f. give (caught f)) k)
      ∙ ap (meant ρ) (sym same)

  abbrev choosing : Option SwitchItems → Res ℤ
  choosing o = bind (chosen ρ c κ o (give Next) s.state) kr

  one_of : (o d : Option SwitchItems) → chosen ρ c κ o (chosen ρ c κ d (give Next)) ≡ chosen ρ c κ (or_else o d) (give Next)
  one_of None d = refl
  one_of (Some more) d = refl

  select_is : (kind : Option Kind) (items : SwitchItems) (x : Given) (v : ℤ) → x ≡ top s.values
      → v ≡ label_kind kind (number_of x) → with_item ρ (Select κ kind items) s ≡ choosing (selected v items)
  unfolding with_item
  select_is kind items x v at is =
      ap (λ y. bind (from_case ρ c κ (label_kind kind (number_of y)) items (from_default ρ c κ items) s.state) kr) (sym at)
      ∙ ap (λ y. bind (from_case ρ c κ y items (from_default ρ c κ items) s.state) kr) (sym is)
      ∙ ap (λ (d : Does). bind (d s.state) kr)
      (leads ρ c κ v items ∙ one_of (behind_label (Some v) items) (behind_label None items))

  pub select_goes : (kind : Option Kind) (items more : SwitchItems) (x : Given) (v : ℤ) (a : Seen) → x ≡ top s.values
      → a ≡ popped s → v ≡ label_kind kind (number_of x) → selected v items ≡ Some more
      → t ≡ more_works (Cases κ more ∷ []) (with_flow Next a) → with_item ρ (Select κ kind items) s ≡ meant ρ t
  unfolding meant
  select_goes kind items more x v a at ea is found same =
      select_is kind items x v at is ∙ ap choosing found
      ∙ ap (λ y. meant ρ (more_works (Cases κ more ∷ []) (with_flow Next y))) (sym ea) ∙ ap (meant ρ) (sym same)

  pub select_none : (kind : Option Kind) (items : SwitchItems) (x : Given) (v : ℤ) (a : Seen) → x ≡ top s.values
      → a ≡ popped s → v ≡ label_kind kind (number_of x) → selected v items ≡ None → t ≡ with_flow Next a
      → with_item ρ (Select κ kind items) s ≡ meant ρ t
  unfolding meant
  select_none kind items x v a at ea is none same =
      select_is kind items x v at is ∙ ap choosing none ∙ ap (λ y. meant ρ (with_flow Next y)) (sym ea)
      ∙ ap (meant ρ) (sym same)

pub ruleset labels = (label_here, label_passes, label_none)

pub ruleset switches_of = (switch_goes)

pub ruleset selects = (select_goes, select_none)
