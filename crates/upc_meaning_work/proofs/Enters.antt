-- Calls of functions: entering one, and coming back.
use Rattle.std.proofs.Common.{◌≡◌, ◌≢◌, ℕ, zero, suc, ◌-◌, ℤ, Bool, List, [], ◌∷◌, refl, sym, ap, ◌∙◌, arith}
use Rattle.std.proofs.Common.{Option, Some, None, length, map, option_map, ◌<◌, ◌≤◌}
use Rattle.std.specs.Prelude.{slice_get, slice_index_or}
use Rattle.std.proofs.lemmas.Option.{slice_get-get_or, slice_get-map, slice_get_past}
use Rattle.upc_text.specs.declared.place.Place.{Place}
use Rattle.upc_values.specs.declared.scalar.Value.{Value as Given}
use Rattle.upc_values.specs.declared.record.ToldEnd.{ToldEnd}
use Rattle.typing_rules.specs.Nodes.{Attr}
use Rattle.typed_tree.specs.declared.tree.Target.TheVariants as target
use Rattle.typed_tree.specs.declared.tree.Function as f
use Rattle.typed_tree.specs.ViewStatements.{view_function}
use Rattle.typed_tree.specs.Tree as tree
use Rattle.typed_tree.specs.Tree.{Expr, Is, Exprs, Statement, Stands, Items, Function}
use Rattle.thread_steps.specs.States.{State, Res, Val, Over, Unfinished, Doing, bind, ◌>>=◌, ◌>>◌, give}
use Rattle.thread_steps.specs.Actions.{tick}
use Rattle.thread_steps.specs.Blocks.{open_block, close_block, begin_call, end_call}
use Rattle.source_meaning.specs.Running.{Running}
use Rattle.source_meaning.specs.layer.Parts.{given_by, shapes_in}
use Rattle.source_meaning.specs.Types.{cell_kind}
use Rattle.source_meaning.specs.Expressions.{no_value}
use Rattle.source_meaning.specs.Statements.{Flow, Next, run_items}
use Rattle.source_meaning.specs.Threads.{called, function, body, in_body, received, blank_of}
use Rattle.upc_meaning_state.proofs.Thens.{then_one, then_same}
use Rattle.upc_meaning_work.specs.layer.Seen.{Seen, meant, with_item, calls, entering, entered, inside, outside}
use Rattle.upc_meaning_work.specs.layer.Seen.{more_works, with_flow, with_state, without}
use Rattle.upc_meaning_work.specs.layer.Items.{Parts, Leave, Return}
use Rattle.upc_meaning_work.specs.layer.Left.{left}
use Rattle.upc_meaning_work.specs.code.Stacks.{youngest}

-- The function with a number, and where there is none.
pub function_at : (fs : List f.Function) (n : ℕ) (x : f.Function) → n < length fs → x ≡ slice_index_or fs n x
    → slice_get (map view_function fs) n ≡ Some (view_function x)
function_at fs n x h e =
    slice_get-map view_function fs n ∙ ap (option_map view_function) (slice_get-get_or fs n x h ∙ ap Some (sym e))

pub no_function : (fs : List f.Function) (n : ℕ) → length fs ≤ n → slice_get (map view_function fs) n ≡ None
no_function fs n h = slice_get-map view_function fs n ∙ ap (option_map view_function) (slice_get_past fs n h)

-- What a function gives that was left so, after the end of its call.
given_back : (blank : Given) (K : Given → Doing ℤ) (r : Res Flow)
    → bind (bind (bind r (λ g. give (given_by blank g))) (λ v. end_call >> give v)) K
    ≡ bind r (λ g. end_call >> K (given_by blank g))
given_back blank K (Val g υ) = then_one {A = Unit {0}} {B = Given} (end_call υ) (λ _. give (given_by blank g)) K
given_back blank K (Over e υ) = refl
given_back blank K Unfinished = refl

module _ (ρ : Running) (s t : Seen) where
  pub function_enters : (at : Place) (attr : Attr) (kind : tree.ExprKind) (number : ℕ) (args : Exprs) (done : ℕ)
      → kind ≡ tree.Call (target.Function number) args
      → calls ρ (Is at attr kind) done s ≡ entering ρ number (youngest done s.values) at (without done s)
  unfolding calls entering
  function_enters at attr kind number args done is = ap (λ x. calls ρ (Is at attr x) done s) is

  abbrev pub k : ℕ → Given → Doing ℤ
  k n v = left ρ s.works n s.flow (v ∷ s.values)

  abbrev counted : ℕ → Seen
  counted n = record s { free = n }

  -- What a call gives, by what its tick and its beginning give.
  abbrev ticked : ℕ → ℕ → List Given → Place → Res (Unit {0}) → Res ℤ
  ticked n number vs at r =
      bind (bind r (λ _. begin_call at >> (function ρ (called ρ n) (slice_get ρ.functions number) vs
      >>= (λ v. end_call >> give v)))) (k (suc n))

  abbrev pub begun : ℕ → Option Function → List Given → Res (Unit {0}) → Res ℤ
  begun n f vs r =
      bind (bind r (λ _. function ρ (called ρ n) f vs >>= (λ v. end_call >> give v))) (k (suc n))

  entering_is : (number : ℕ) (vs : List Given) (at : Place) (n : ℕ)
      → entering ρ number vs at (counted (suc n)) ≡ ticked n number vs at (tick ρ.thread s.state)
  unfolding entering
  entering_is number vs at n = refl

  more : (f : ℕ) → f ≢ 0 → f ≡ suc (f - 1)
  more zero some = absurd (some refl)
  more (suc n) some = omega arith

  entering_so : (number : ℕ) (vs : List Given) (at : Place) (n : ℕ) → s.free ≢ 0 → n ≡ s.free - 1
      → entering ρ number vs at s ≡ ticked n number vs at (tick ρ.thread s.state)
  entering_so number vs at n some less =
      ap (λ x. entering ρ number vs at (counted x)) (more s.free some ∙ ap suc (sym less)) ∙ entering_is number vs at n

  pub call_stops : (number : ℕ) (vs : List Given) (at : Place) (over : ToldEnd) (τ : State) → s.free ≢ 0
      → tick ρ.thread s.state ≡ Over over τ → entering ρ number vs at s ≡ Over over τ
  call_stops number vs at over τ some h =
      entering_so number vs at (s.free - 1) some refl ∙ ap (ticked (s.free - 1) number vs at) h

  pub call_refused : (number : ℕ) (vs : List Given) (at : Place) (over : ToldEnd) (τ υ : State) → s.free ≢ 0
      → tick ρ.thread s.state ≡ Val tt τ → begin_call at τ ≡ Over over υ → entering ρ number vs at s ≡ Over over υ
  call_refused number vs at over τ υ some h b =
      entering_so number vs at (s.free - 1) some refl ∙ ap (ticked (s.free - 1) number vs at) h
      ∙ ap (begun (s.free - 1) (slice_get ρ.functions number) vs) b

  pub begun_none : (n : ℕ) (vs : List Given) (υ : State)
      → begun n None vs (Val tt υ) ≡ meant ρ (inside n no_value (with_state υ s))
  unfolding meant
  begun_none n vs υ = then_one {A = Unit {0}} {B = Given} (end_call υ) (λ _. give no_value) (k (suc n))

  pub begun_some : (n : ℕ) (f : Function) (vs : List Given) (υ : State)
      → begun n (Some f) vs (Val tt υ)
      ≡ entered ρ f vs (inside n (blank_of (cell_kind ρ.structs f.result)) (with_state υ s))
  unfolding entered
  begun_some n f vs υ =
      given_back (blank_of (cell_kind ρ.structs f.result)) (k (suc n)) (body ρ (called ρ n) f vs f.body υ)

  pub call_of_none : (number : ℕ) (vs : List Given) (at : Place) (n : ℕ) (τ υ : State) → s.free ≢ 0
      → n ≡ s.free - 1 → tick ρ.thread s.state ≡ Val tt τ → begin_call at τ ≡ Val tt υ
      → slice_get ρ.functions number ≡ None → t ≡ inside n no_value (with_state υ s)
      → entering ρ number vs at s ≡ meant ρ t
  call_of_none number vs at n τ υ some less h b none same =
      entering_so number vs at n some less ∙ ap (ticked n number vs at) h
      ∙ ap (begun n (slice_get ρ.functions number) vs) b ∙ ap (λ f. begun n f vs (Val tt υ)) none
      ∙ begun_none n vs υ ∙ ap (meant ρ) (sym same)

  pub call_begins : (number : ℕ) (vs : List Given) (at : Place) (n : ℕ) (f : Function) (blank : Given) (τ υ : State)
      → s.free ≢ 0 → n ≡ s.free - 1 → tick ρ.thread s.state ≡ Val tt τ → begin_call at τ ≡ Val tt υ
      → slice_get ρ.functions number ≡ Some f → blank ≡ blank_of (cell_kind ρ.structs f.result)
      → t ≡ inside n blank (with_state υ s) → entering ρ number vs at s ≡ entered ρ f vs t
  call_begins number vs at n f blank τ υ some less h b found is same =
      entering_so number vs at n some less ∙ ap (ticked n number vs at) h
      ∙ ap (begun n (slice_get ρ.functions number) vs) b ∙ ap (λ x. begun n x vs (Val tt υ)) found
      ∙ begun_some n f vs υ ∙ ap (λ x. entered ρ f vs (inside n x (with_state υ s))) (sym is)
      ∙ ap (entered ρ f vs) (sym same)

  -- ---- bodies

  abbrev going : Flow → Doing ℤ
  going g = left ρ s.works s.free g s.values

  abbrev opening : Function → List Given → Place → Bool → Items → Res (Unit {0}) → Res ℤ
  opening f vs at strict items r =
      bind (bind r (λ _. received ρ at 0 f.parameters vs
      >> (run_items ρ (called ρ s.free) (in_body ρ f strict) items >>= (λ g. close_block >> give g)))) going

  abbrev receiving : Function → Bool → Items → Res (Unit {0}) → Res ℤ
  receiving f strict items r =
      bind (bind r (λ _. run_items ρ (called ρ s.free) (in_body ρ f strict) items >>= (λ g. close_block >> give g))) going

  opening_is : (f : Function) (vs : List Given) (at : Place) (strict : Bool) (items : Items)
      → f.body ≡ Stands at (tree.Block strict items)
      → entered ρ f vs s ≡ opening f vs at strict items (open_block 0 (shapes_in ρ f items) at s.state)
  unfolding entered
  opening_is f vs at strict items is = ap (λ b. bind (body ρ (called ρ s.free) f vs b s.state) going) is

  pub body_refused : (f : Function) (vs : List Given) (at : Place) (strict : Bool) (items : Items) (over : ToldEnd)
      (τ : State) → f.body ≡ Stands at (tree.Block strict items)
      → open_block 0 (shapes_in ρ f items) at s.state ≡ Over over τ → entered ρ f vs s ≡ Over over τ
  body_refused f vs at strict items over τ is h =
      opening_is f vs at strict items is ∙ ap (opening f vs at strict items) h

  pub body_stops : (f : Function) (vs : List Given) (at : Place) (strict : Bool) (items : Items) (over : ToldEnd)
      (τ υ : State) → f.body ≡ Stands at (tree.Block strict items)
      → open_block 0 (shapes_in ρ f items) at s.state ≡ Val tt τ
      → received ρ at 0 f.parameters vs τ ≡ Over over υ → entered ρ f vs s ≡ Over over υ
  body_stops f vs at strict items over τ υ is h r =
      opening_is f vs at strict items is ∙ ap (opening f vs at strict items) h ∙ ap (receiving f strict items) r

  body_runs : (f : Function) (strict : Bool) (items : Items) (υ : State)
      → receiving f strict items (Val tt υ)
      ≡ meant ρ (more_works (Parts (in_body ρ f strict) items ∷ Leave ∷ []) (with_flow Next (with_state υ s)))
  unfolding meant
  body_runs f strict items υ =
      let r = run_items ρ (called ρ s.free) (in_body ρ f strict) items υ in
      then_one {A = Flow} {B = Flow} r (λ g. close_block >> give g) going
      ∙ then_same r _ _ (λ g φ. then_one {A = Unit {0}} {B = Flow} (close_block φ) (λ _. give g) going)

  pub body_goes : (f : Function) (vs : List Given) (at : Place) (strict : Bool) (items : Items) (τ υ : State)
      → f.body ≡ Stands at (tree.Block strict items)
      → open_block 0 (shapes_in ρ f items) at s.state ≡ Val tt τ
      → received ρ at 0 f.parameters vs τ ≡ Val tt υ
      → t ≡ more_works (Parts (in_body ρ f strict) items ∷ Leave ∷ []) (with_flow Next (with_state υ s))
      → entered ρ f vs s ≡ meant ρ t
  body_goes f vs at strict items τ υ is h r same =
      opening_is f vs at strict items is ∙ ap (opening f vs at strict items) h ∙ ap (receiving f strict items) r
      ∙ body_runs f strict items υ ∙ ap (meant ρ) (sym same)

  pub return_goes : (saved : Flow) (blank : Given) (τ : State) → end_call s.state ≡ Val tt τ
      → t ≡ outside saved (given_by blank s.flow) (with_state τ s) → with_item ρ (Return saved blank) s ≡ meant ρ t
  unfolding with_item meant
  return_goes saved blank τ h same =
      ap (λ r. bind r (λ _. left ρ s.works (suc s.free) saved (given_by blank s.flow ∷ s.values))) h
      ∙ ap (meant ρ) (sym same)

pub ruleset enterings = (call_stops, call_refused, call_of_none, call_begins)

pub ruleset bodies_of = (body_refused, body_stops, body_goes)

pub ruleset returns_of = (return_goes)
