-- What an item of a loop, of a list of statements or of a switch leaves to be done.
use Rattle.std.proofs.Common.{◌≡◌, ◌≢◌, ℕ, zero, suc, ◌-◌, ℤ, Bool, true, false, List, [], ◌∷◌, refl, sym, ap, ◌∙◌, arith}
use Rattle.std.proofs.Common.{Option, Some, None, length}
use Rattle.std.proofs.lemmas.List.{nil_from_length}
use Rattle.upc_text.specs.declared.place.Place.{Place}
use Rattle.upc_values.specs.declared.scalar.Value.{Value as Given}
use Rattle.upc_values.specs.declared.record.ToldEnd.{ToldEnd}
use Rattle.typed_tree.specs.declared.tree.Item as m
use Rattle.typed_tree.specs.declared.tree.SwitchItem as w
use Rattle.typed_tree.specs.ViewStatements.{view_items, view_switch_items}
use Rattle.typed_tree.specs.Tree as tree
use Rattle.typed_tree.specs.Tree.{Expr, place_of, Statement, Stands, Head, Affinity, Everyone, AtValue}
use Rattle.typed_tree.specs.Tree.{Items, NoItems, AndObjects, AndStatement, SwitchItems, NoSwitchItems, AndCase}
use Rattle.typed_tree.specs.Tree.{AndDefault, AndSwitchStatement, DeclaredObject}
use Rattle.thread_steps.specs.States.{State, Res, Val, Over, Unfinished, Doing, bind, ◌>>=◌, ◌>>◌, give, choose}
use Rattle.thread_steps.specs.Values.{is_zero}
use Rattle.thread_steps.specs.Actions.{tick, is_controlled}
use Rattle.thread_steps.specs.Blocks.{control, release, mine}
use Rattle.source_meaning.specs.Running.{Running}
use Rattle.source_meaning.specs.Expressions.{Calls, value}
use Rattle.source_meaning.specs.Statements.{Flow, Next, Broke, Again, Gave, Standing, with_objects}
use Rattle.source_meaning.specs.layer.Parts.{Does, turn_on, go_on}
use Rattle.source_meaning.specs.Statements.{finished, around, tested, aside, declared}
use Rattle.source_meaning.specs.Statements.{run, run_items, run_switch, controlling}
use Rattle.source_meaning.specs.Threads.{called}
use Rattle.upc_meaning_state.proofs.Thens.{then_one, then_same}
use Rattle.upc_meaning_work.specs.layer.Seen.{Seen, meant, with_item, bodied, controlled, aside_items, with_test}
use Rattle.upc_meaning_work.specs.layer.Seen.{more_works, more_values, popped, with_flow, with_state, is_next}
use Rattle.upc_meaning_work.specs.layer.Items.{Item, Value, Run, Parts, Cases, Turn, Test, Around, Mine, Guard}
use Rattle.upc_meaning_work.specs.layer.Items.{Finished, Release, Declare}
use Rattle.upc_meaning_work.specs.layer.Left.{left, body_of, turned, test_in, step_in}
use Rattle.upc_meaning_work.specs.code.Stacks.{top, rest}

-- A statement that was left at its end.
pub next_is : (f : Flow) → is_next f ≡ true → f ≡ Next
next_is Next h = refl
next_is Broke h = absurd (cc)
next_is Again h = absurd (cc)
next_is (Gave v) h = absurd (cc)

stop_in : (f : Flow) (more : Does) (K : Flow → Doing ℤ) (σ : State) → is_next f ≡ false
    → bind (go_on more f σ) K ≡ K f σ
stop_in Next more K σ h = absurd (cc)
stop_in Broke more K σ h = refl
stop_in Again more K σ h = refl
stop_in (Gave v) more K σ h = refl

-- What is evaluated aside, and then something else.
aside_then : {A : Type 0} (r : Res Given) (m : Doing A) (K : A → Doing ℤ)
    → bind (bind (bind r (λ _. give Next)) (λ _. m)) K ≡ bind r (λ _ τ. bind (m τ) K)
aside_then (Val a σ) m K = refl
aside_then (Over e σ) m K = refl
aside_then Unfinished m K = refl

module _ (ρ : Running) (κ : Standing) (s t : Seen) where
  abbrev c : Calls
  c = called ρ s.free

  abbrev k : Flow → Doing ℤ
  k g = left ρ s.works s.free g s.values

  abbrev kr : Flow → Doing ℤ
  kr g = left ρ s.works s.free g (rest s.values)

  abbrev this : Place → tree.StatementKind → Item
  this at kind = Run κ (Stands at kind)

  -- ---- the parts of a block, and of a switch

  pub parts_stop : (items : Items) → is_next s.flow ≡ false → with_item ρ (Parts κ items) s ≡ meant ρ s
  unfolding with_item meant
  parts_stop items h = stop_in s.flow (run_items ρ c κ items) k s.state h

  abbrev parts : Items → Flow → Res ℤ
  parts items f = bind (go_on (run_items ρ c κ items) f s.state) k

  pub parts_end : (xs : List m.Item) → length xs ≡ 0 → is_next s.flow ≡ true
      → with_item ρ (Parts κ (view_items xs)) s ≡ meant ρ s
  unfolding with_item meant
  parts_end xs none h =
      let e = next_is s.flow h in
      ap (λ ys. with_item ρ (Parts κ (view_items ys)) s) (nil_from_length xs none)
      ∙ ap (parts NoItems) e ∙ ap (λ f. k f s.state) (sym e)

  pub parts_objects : (objects : List DeclaredObject) (more : Items) → is_next s.flow ≡ true
      → t ≡ more_works (Declare κ objects ∷ Parts (with_objects objects κ) more ∷ []) s
      → with_item ρ (Parts κ (AndObjects objects more)) s ≡ meant ρ t
  unfolding with_item meant
  parts_objects objects more h same =
      let e = next_is s.flow h in
      ap (parts (AndObjects objects more)) e
      ∙ then_one {A = Unit {0}} {B = Flow} (declared ρ c κ objects s.state)
      (λ _. run_items ρ c (with_objects objects κ) more) k
      ∙ ap (λ f. meant ρ (more_works (Declare κ objects ∷ Parts (with_objects objects κ) more ∷ []) (with_flow f s))) (sym e)
      ∙ ap (meant ρ) (sym same)

  pub parts_statement : (x : Statement) (more : Items) → is_next s.flow ≡ true
      → t ≡ more_works (Run κ x ∷ Parts κ more ∷ []) s
      → with_item ρ (Parts κ (AndStatement x more)) s ≡ meant ρ t
  unfolding with_item meant
  parts_statement x more h same =
      ap (parts (AndStatement x more)) (next_is s.flow h)
      ∙ then_one {A = Flow} {B = Flow} (run ρ c κ x s.state) (λ f. go_on (run_items ρ c κ more) f) k
      ∙ ap (meant ρ) (sym same)

  pub cases_stop : (items : SwitchItems) → is_next s.flow ≡ false → with_item ρ (Cases κ items) s ≡ meant ρ s
  unfolding with_item meant
  cases_stop items h = stop_in s.flow (run_switch ρ c κ items) k s.state h

  abbrev cases : SwitchItems → Flow → Res ℤ
  cases items f = bind (go_on (run_switch ρ c κ items) f s.state) k

  pub cases_end : (xs : List w.SwitchItem) → length xs ≡ 0 → is_next s.flow ≡ true
      → with_item ρ (Cases κ (view_switch_items xs)) s ≡ meant ρ s
  unfolding with_item meant
  cases_end xs none h =
      let e = next_is s.flow h in
      ap (λ ys. with_item ρ (Cases κ (view_switch_items ys)) s) (nil_from_length xs none)
      ∙ ap (cases NoSwitchItems) e ∙ ap (λ f. k f s.state) (sym e)

  pub cases_label : (v : ℤ) (more : SwitchItems) → t ≡ more_works (Cases κ more ∷ []) s
      → with_item ρ (Cases κ (AndCase v more)) s ≡ meant ρ t
  unfolding with_item meant
  cases_label v more same = ap (meant ρ) (sym same)

  pub cases_default : (more : SwitchItems) → t ≡ more_works (Cases κ more ∷ []) s
      → with_item ρ (Cases κ (AndDefault more)) s ≡ meant ρ t
  unfolding with_item meant
  cases_default more same = ap (meant ρ) (sym same)

  pub cases_statement : (x : Statement) (more : SwitchItems) → is_next s.flow ≡ true
      → t ≡ more_works (Run κ x ∷ Cases κ more ∷ []) s
      → with_item ρ (Cases κ (AndSwitchStatement x more)) s ≡ meant ρ t
  unfolding with_item meant
  cases_statement x more h same =
      ap (cases (AndSwitchStatement x more)) (next_is s.flow h)
      ∙ then_one {A = Flow} {B = Flow} (run ρ c κ x s.state) (λ f. go_on (run_switch ρ c κ more) f) k
      ∙ ap (meant ρ) (sym same)

  -- ---- loops

  pub while_goes : (at : Place) (kind : tree.StatementKind) (test : Expr) (body : Statement) → kind ≡ tree.While test body
      → t ≡ more_works (Turn κ kind ρ.thread.budget ∷ []) s → with_item ρ (this at kind) s ≡ meant ρ t
  unfolding with_item meant
  while_goes at kind test body is same =
      ap (λ x. with_item ρ (this at x) s) is
      ∙ ap (λ x. meant ρ (more_works (Turn κ x ρ.thread.budget ∷ []) s)) (sym is) ∙ ap (meant ρ) (sym same)

  pub do_goes : (at : Place) (kind : tree.StatementKind) (body : Statement) (test : Expr) → kind ≡ tree.DoWhile body test
      → t ≡ more_works (Run κ body ∷ Around κ kind ρ.thread.budget ∷ []) s → with_item ρ (this at kind) s ≡ meant ρ t
  unfolding with_item meant
  do_goes at kind body test is same =
      ap (λ x. with_item ρ (this at x) s) is
      ∙ then_one {A = Flow} {B = Flow} (run ρ c κ body s.state)
      (λ f. turn_on (give Next >> turned ρ c κ (tree.DoWhile body test) ρ.thread.budget) f) k
      ∙ ap (λ x. meant ρ (more_works (Run κ body ∷ Around κ x ρ.thread.budget ∷ []) s)) (sym is)
      ∙ ap (meant ρ) (sym same)

  -- A turn after its tick.
  turn_in : (kind : tree.StatementKind) (n : ℕ) (o : Option Expr) (τ : State)
      → bind (bind (tested ρ c κ o τ) (λ v. choose (is_zero v) (give Next)
      (around ρ (body_of ρ c κ kind) (aside ρ c κ (step_in kind)) (turned ρ c κ kind n)))) k
      ≡ meant ρ (with_test κ o (more_works (Test κ kind n ∷ []) (with_state τ s)))
  unfolding meant
  turn_in kind n None τ = refl
  turn_in kind n (Some a) τ =
      then_one {A = Given} {B = Flow} (value ρ c κ.strict a τ) (λ v. choose (is_zero v) (give Next)
      (around ρ (body_of ρ c κ kind) (aside ρ c κ (step_in kind)) (turned ρ c κ kind n))) k

  turn_of : (kind : tree.StatementKind) (n : ℕ) (τ : State) → tick ρ.thread s.state ≡ Val tt τ
      → with_item ρ (Turn κ kind (suc n)) s
      ≡ meant ρ (with_test κ (test_in kind) (more_works (Test κ kind n ∷ []) (with_state τ s)))
  unfolding with_item
  turn_of kind n τ h =
      ap (λ r. bind (bind r (λ _. tested ρ c κ (test_in kind) >>= (λ v. choose (is_zero v) (give Next)
      (around ρ (body_of ρ c κ kind) (aside ρ c κ (step_in kind)) (turned ρ c κ kind n))))) k) h
      ∙ turn_in kind n (test_in kind) τ

  pub turn_goes : (kind : tree.StatementKind) (n m : ℕ) (τ : State) → tick ρ.thread s.state ≡ Val tt τ → n ≢ 0
      → m ≡ n - 1 → t ≡ with_test κ (test_in kind) (more_works (Test κ kind m ∷ []) (with_state τ s))
      → with_item ρ (Turn κ kind n) s ≡ meant ρ t
  turn_goes kind zero m τ h some less same = absurd (some refl)
  turn_goes kind (suc n) m τ h some less same =
      let e : n ≡ m = omega arith in
      turn_of kind n τ h
      ∙ ap (λ x. meant ρ (with_test κ (test_in kind) (more_works (Test κ kind x ∷ []) (with_state τ s)))) e
      ∙ ap (meant ρ) (sym same)

  pub turn_ends : (kind : tree.StatementKind) (n : ℕ) (over : ToldEnd) (τ : State) → n ≢ 0
      → tick ρ.thread s.state ≡ Over over τ → with_item ρ (Turn κ kind n) s ≡ Over over τ
  unfolding with_item
  turn_ends kind zero over τ some h = absurd (some refl)
  turn_ends kind (suc n) over τ some h =
      ap (λ r. bind (bind r (λ _. tested ρ c κ (test_in kind) >>= (λ v. choose (is_zero v) (give Next)
      (around ρ (body_of ρ c κ kind) (aside ρ c κ (step_in kind)) (turned ρ c κ kind n))))) k) h

  abbrev test : tree.StatementKind → ℕ → Bool → Res ℤ
  test kind n b =
      bind (choose b (give Next) (around ρ (body_of ρ c κ kind) (aside ρ c κ (step_in kind)) (turned ρ c κ kind n)) s.state) kr

  pub test_stops : (kind : tree.StatementKind) (n : ℕ) → is_zero (top s.values) ≡ true
      → t ≡ with_flow Next (popped s) → with_item ρ (Test κ kind n) s ≡ meant ρ t
  unfolding with_item meant
  test_stops kind n z same = ap (test kind n) z ∙ ap (meant ρ) (sym same)

  pub test_goes : (kind : tree.StatementKind) (n : ℕ) → is_zero (top s.values) ≡ false
      → with_item ρ (Test κ kind n) s ≡ bodied ρ κ kind (more_works (Around κ kind n ∷ []) (popped s))
  unfolding with_item bodied
  test_goes kind n z =
      ap (test kind n) z
      ∙ then_one {A = Flow} {B = Flow} (body_of ρ c κ kind s.state)
      (λ f. turn_on (aside ρ c κ (step_in kind) >> turned ρ c κ kind n) f) kr

  abbrev round : tree.StatementKind → ℕ → Flow → Res ℤ
  round kind n f = bind (turn_on (aside ρ c κ (step_in kind) >> turned ρ c κ kind n) f s.state) k

  pub round_gives : (kind : tree.StatementKind) (n : ℕ) (v : Given) → s.flow ≡ Gave v
      → with_item ρ (Around κ kind n) s ≡ meant ρ s
  unfolding with_item meant
  round_gives kind n v is = ap (round kind n) is ∙ ap (λ f. k f s.state) (sym is)

  pub round_stops : (kind : tree.StatementKind) (n : ℕ) → s.flow ≡ Broke → t ≡ with_flow Next s
      → with_item ρ (Around κ kind n) s ≡ meant ρ t
  unfolding with_item meant
  round_stops kind n is same = ap (round kind n) is ∙ ap (meant ρ) (sym same)

  round_in : (kind : tree.StatementKind) (n : ℕ) (o : Option Expr)
      → bind (bind (aside ρ c κ o s.state) (λ _. turned ρ c κ kind n)) k
      ≡ meant ρ (more_works (aside_items κ o) (with_flow Next (more_works (Turn κ kind n ∷ []) s)))
  unfolding meant
  round_in kind n None = refl
  round_in kind n (Some a) = aside_then {A = Flow} (value ρ c κ.strict a s.state) (turned ρ c κ kind n) k

  pub round_next : (kind : tree.StatementKind) (n : ℕ) → s.flow ≡ Next
      → t ≡ more_works (aside_items κ (step_in kind)) (with_flow Next (more_works (Turn κ kind n ∷ []) s))
      → with_item ρ (Around κ kind n) s ≡ meant ρ t
  unfolding with_item
  round_next kind n is same = ap (round kind n) is ∙ round_in kind n (step_in kind) ∙ ap (meant ρ) (sym same)

  pub round_again : (kind : tree.StatementKind) (n : ℕ) → s.flow ≡ Again
      → t ≡ more_works (aside_items κ (step_in kind)) (with_flow Next (more_works (Turn κ kind n ∷ []) s))
      → with_item ρ (Around κ kind n) s ≡ meant ρ t
  unfolding with_item
  round_again kind n is same = ap (round kind n) is ∙ round_in kind n (step_in kind) ∙ ap (meant ρ) (sym same)

  -- ---- the bodies of loops

  pub while_body : (test : Expr) (body : Statement) → t ≡ more_works (Run κ body ∷ []) s
      → bodied ρ κ (tree.While test body) s ≡ meant ρ t
  unfolding bodied meant
  while_body test body same = ap (meant ρ) (sym same)

  pub do_body : (body : Statement) (test : Expr) → t ≡ more_works (Run κ body ∷ []) s
      → bodied ρ κ (tree.DoWhile body test) s ≡ meant ρ t
  unfolding bodied meant
  do_body body test same = ap (meant ρ) (sym same)

  pub for_body : (head : Head) (body : Statement) → t ≡ more_works (Run κ body ∷ []) s
      → bodied ρ κ (tree.For head body) s ≡ meant ρ t
  unfolding bodied meant
  for_body head body same = ap (meant ρ) (sym same)

  pub free_body : (head : Head) (body : Statement) → t ≡ more_works (Run κ body ∷ Finished ∷ []) s
      → bodied ρ κ (tree.Forall head Everyone body) s ≡ meant ρ t
  unfolding bodied meant
  free_body head body same =
      then_one {A = Flow} {B = Flow} (run ρ c κ body s.state) (λ f. give (finished f)) k ∙ ap (meant ρ) (sym same)

  -- Where no affinity is evaluated, and where it is.
  abbrev guard : Statement → Expr → Bool → Res ℤ
  guard body e b = bind (choose b (controlling ρ (run ρ c κ body)) (value ρ c κ.strict e >>= (λ v.
      mine ρ.thread (place_of e) v >>= (λ w. choose (is_zero w) (give Next) (controlling ρ (run ρ c κ body))))) s.state) k

  pub inner_body : (head : Head) (e : Expr) (body : Statement) → is_controlled s.state ≡ true
      → bodied ρ κ (tree.Forall head (AtValue e) body) s ≡ controlled ρ κ body s
  unfolding bodied controlled
  inner_body head e body h = ap (guard body e) h

  pub guarded_body : (head : Head) (e : Expr) (body : Statement) → is_controlled s.state ≡ false
      → t ≡ more_works (Value κ.strict e ∷ Mine (place_of e) ∷ Guard κ body ∷ []) s
      → bodied ρ κ (tree.Forall head (AtValue e) body) s ≡ meant ρ t
  unfolding bodied meant
  guarded_body head e body h same =
      let r = value ρ c κ.strict e s.state in
      ap (guard body e) h
      ∙ then_one {A = Given} {B = Flow} r _ k
      ∙ then_same r _ _ (λ v τ. then_one {A = Given} {B = Flow} (mine ρ.thread (place_of e) v τ) _ k)
      ∙ ap (meant ρ) (sym same)

  pub controlled_goes : (body : Statement) (τ : State) → control s.state ≡ Val tt τ
      → t ≡ more_works (Run κ body ∷ Release ∷ []) (with_state τ s) → controlled ρ κ body s ≡ meant ρ t
  unfolding controlled meant
  controlled_goes body τ h same =
      ap (λ r. bind (bind r (λ _. run ρ c κ body >>= (λ f. release >> give (finished f)))) k) h
      ∙ then_one {A = Flow} {B = Flow} (run ρ c κ body τ) _ k
      ∙ then_same (run ρ c κ body τ) _ _
      (λ f υ. then_one {A = Unit {0}} {B = Flow} (release υ) (λ _. give (finished f)) k)
      ∙ ap (meant ρ) (sym same)

  abbrev guarding : Statement → Bool → Res ℤ
  guarding body b = bind (choose b (give Next) (controlling ρ (run ρ c κ body)) s.state) kr

  pub guard_stops : (body : Statement) → is_zero (top s.values) ≡ true → t ≡ with_flow Next (popped s)
      → with_item ρ (Guard κ body) s ≡ meant ρ t
  unfolding with_item meant
  guard_stops body z same = ap (guarding body) z ∙ ap (meant ρ) (sym same)

  pub guard_goes : (body : Statement) → is_zero (top s.values) ≡ false
      → with_item ρ (Guard κ body) s ≡ controlled ρ κ body (popped s)
  unfolding with_item controlled
  guard_goes body z = ap (guarding body) z

-- What needs no standing.
module _ (ρ : Running) (s t : Seen) where
  abbrev minded : Res Given → Res ℤ
  minded r = bind r (λ x. left ρ s.works s.free s.flow (x ∷ rest s.values))

  mine_is : (at : Place) (v : Given) (a : Seen) → v ≡ top s.values → a ≡ popped s
      → mine ρ.thread at (top s.values) s.state ≡ mine ρ.thread at v a.state
  mine_is at v a ev ea =
      ap (λ x. mine ρ.thread at x s.state) (sym ev) ∙ ap (λ (x : Seen). mine ρ.thread at v x.state) (sym ea)

  pub mine_goes : (at : Place) (v w : Given) (a : Seen) → v ≡ top s.values → a ≡ popped s
      → mine ρ.thread at v a.state ≡ Val w a.state → t ≡ more_values (w ∷ []) a → with_item ρ (Mine at) s ≡ meant ρ t
  unfolding with_item meant
  mine_goes at v w a ev ea h same =
      ap minded (mine_is at v a ev ea ∙ h) ∙ ap (λ (x : Seen). minded (Val w x.state)) ea
      ∙ ap (λ x. meant ρ (more_values (w ∷ []) x)) (sym ea) ∙ ap (meant ρ) (sym same)

  pub mine_ends : (at : Place) (v : Given) (a : Seen) (over : ToldEnd) (τ : State) → v ≡ top s.values → a ≡ popped s
      → mine ρ.thread at v a.state ≡ Over over τ → with_item ρ (Mine at) s ≡ Over over τ
  unfolding with_item
  mine_ends at v a over τ ev ea h = ap minded (mine_is at v a ev ea ∙ h)

  pub finished_goes : t ≡ with_flow (finished s.flow) s → with_item ρ Finished s ≡ meant ρ t
  unfolding with_item meant
  finished_goes same = ap (meant ρ) (sym same)

  pub release_goes : (τ : State) → release s.state ≡ Val tt τ → t ≡ with_flow (finished s.flow) (with_state τ s)
      → with_item ρ Release s ≡ meant ρ t
  unfolding with_item meant
  release_goes τ h same =
      ap (λ r. bind r (λ _. left ρ s.works s.free (finished s.flow) s.values)) h ∙ ap (meant ρ) (sym same)

pub ruleset lists = (parts_stop, parts_end, parts_objects, parts_statement)

pub ruleset switches = (cases_stop, cases_end, cases_label, cases_default, cases_statement)

pub ruleset loops = (while_goes, do_goes, turn_goes, turn_ends, test_stops, test_goes)

pub ruleset rounds = (round_gives, round_stops, round_next, round_again)

pub ruleset bodies = (while_body, do_body, for_body, free_body, inner_body, guarded_body)

pub ruleset guards = (controlled_goes, guard_stops, guard_goes, mine_goes, mine_ends, finished_goes, release_goes)
