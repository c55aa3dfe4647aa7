-- What an item of a statement leaves to be done.
use Rattle.std.proofs.Common.{◌≡◌, length, ℤ, Bool, true, false, List, [], ◌∷◌, refl, sym, ap, ◌∙◌, Option, Some, None}
use Rattle.std.proofs.lemmas.List.{nil_from_length}
use Rattle.upc_text.specs.declared.place.Place.{Place}
use Rattle.block_layout.specs.declared.kind.Kind.TheVariants as kind
use Rattle.integers.specs.Integers.{converted}
use Rattle.upc_values.specs.declared.scalar.Value.{Value as Given}
use Rattle.upc_values.specs.declared.scalar.Mark.{Mark as Marking}
use Rattle.upc_values.specs.declared.scalar.Mark.TheVariants as mark
use Rattle.upc_values.specs.declared.record.ToldEnd.{ToldEnd}
use Rattle.typed_tree.specs.declared.tree.Synchronises.{Synchronises}
use Rattle.typed_tree.specs.declared.tree.Arm as r
use Rattle.typed_tree.specs.ViewStatements.{view_arms}
use Rattle.typed_tree.specs.Tree as tree
use Rattle.typed_tree.specs.Tree.{Expr, place_of, Statement, Stands, StatementOption, NoStatement, TheStatement}
use Rattle.typed_tree.specs.Tree.{Arms, AndArm, Items, SwitchItems}
use Rattle.thread_steps.specs.States.{State, Res, Val, Over, Doing, bind, ◌>>=◌, ◌>>◌, give, choose}
use Rattle.thread_steps.specs.Values.{number_of, is_zero}
use Rattle.thread_steps.specs.Actions.{fence}
use Rattle.thread_steps.specs.Blocks.{open_block, close_block}
use Rattle.thread_steps.specs.Operators.{cast}
use Rattle.source_meaning.specs.Running.{Running}
use Rattle.source_meaning.specs.layer.Parts.{with_strict, caught}
use Rattle.source_meaning.specs.Types.{conversion}
use Rattle.source_meaning.specs.Expressions.{Calls, no_value, value, type_of}
use Rattle.source_meaning.specs.Statements.{Flow, Next, Broke, Again, Gave, Standing}
use Rattle.source_meaning.specs.Statements.{synchronised, run, run_last, run_arms, run_items, shapes_of, objects_in}
use Rattle.source_meaning.specs.Threads.{called}
use Rattle.upc_meaning_state.proofs.Thens.{then_one, then_same, cast_in}
use Rattle.upc_meaning_work.specs.layer.Seen.{Seen, meant, with_item, armed, aside_items, more_works}
use Rattle.upc_meaning_work.specs.layer.Seen.{popped, with_flow, with_state}
use Rattle.upc_meaning_work.specs.layer.Items.{Item, Value, Convert, Run, Parts, Caught, Leave}
use Rattle.upc_meaning_work.specs.layer.Items.{Arm, Give, Mark}
use Rattle.upc_meaning_work.specs.layer.Left.{left}
use Rattle.upc_meaning_work.specs.code.Stacks.{top, rest}

module _ (ρ : Running) (κ : Standing) (s t : Seen) where
  abbrev c : Calls
  c = called ρ s.free

  -- What follows a statement that was left so; and, below, what follows it without the youngest value.
  abbrev k : Flow → Doing ℤ
  k g = left ρ s.works s.free g s.values

  abbrev kr : Flow → Doing ℤ
  kr g = left ρ s.works s.free g (rest s.values)

  abbrev this : Place → tree.StatementKind → Item
  this at kind = Run κ (Stands at kind)

  -- ---- expressions, jumps and barriers

  pub aside_goes : (at : Place) (o : Option Expr) → t ≡ more_works (aside_items κ o) (with_flow Next s)
      → with_item ρ (this at (tree.Value o)) s ≡ meant ρ t
  unfolding with_item meant
  aside_goes at None e = ap (meant ρ) (sym e)
  aside_goes at (Some a) e =
      then_one {A = Given} {B = Flow} (value ρ c κ.strict a s.state) (λ _. give Next) k ∙ ap (meant ρ) (sym e)

  pub break_goes : (at : Place) → t ≡ with_flow Broke s → with_item ρ (this at tree.Break) s ≡ meant ρ t
  unfolding with_item meant
  break_goes at e = ap (meant ρ) (sym e)

  pub continue_goes : (at : Place) → t ≡ with_flow Again s → with_item ρ (this at tree.Continue) s ≡ meant ρ t
  unfolding with_item meant
  continue_goes at e = ap (meant ρ) (sym e)

  pub return_none : (at : Place) → t ≡ with_flow (Gave no_value) s
      → with_item ρ (this at (tree.Return None)) s ≡ meant ρ t
  unfolding with_item meant
  return_none at e = ap (meant ρ) (sym e)

  pub return_some : (at : Place) (a : Expr)
      → t ≡ more_works (Value κ.strict a ∷ Convert (conversion (type_of a) κ.result) (place_of a) ∷ Give ∷ []) s
      → with_item ρ (this at (tree.Return (Some a))) s ≡ meant ρ t
  unfolding with_item meant
  return_some at a e =
      let into = cast ρ.thread (conversion (type_of a) κ.result) (place_of a) in
      cast_in {B = Given} {C = Given} {D = Flow} (value ρ c κ.strict a s.state) into (λ v. give (Gave v)) k
      ∙ then_same (value ρ c κ.strict a s.state) _ _
      (λ v τ. then_one {A = Given} {B = Flow} (into v τ) (λ w. give (Gave w)) k) ∙ ap (meant ρ) (sym e)

  pub synchronise_none : (at : Place) (how : Synchronises) (τ : State)
      → synchronised ρ how at mark.Absent s.state ≡ Val tt τ → t ≡ with_flow Next (with_state τ s)
      → with_item ρ (this at (tree.Synchronise how None)) s ≡ meant ρ t
  unfolding with_item meant
  synchronise_none at how τ h e = ap (λ r. bind (bind r (λ _. give Next)) k) h ∙ ap (meant ρ) (sym e)

  pub synchronise_ends : (at : Place) (how : Synchronises) (over : ToldEnd) (τ : State)
      → synchronised ρ how at mark.Absent s.state ≡ Over over τ
      → with_item ρ (this at (tree.Synchronise how None)) s ≡ Over over τ
  unfolding with_item
  synchronise_ends at how over τ h = ap (λ r. bind (bind r (λ _. give Next)) k) h

  pub synchronise_some : (at : Place) (how : Synchronises) (a : Expr)
      → t ≡ more_works (Value κ.strict a ∷ Mark how at ∷ []) s
      → with_item ρ (this at (tree.Synchronise how (Some a))) s ≡ meant ρ t
  unfolding with_item meant
  synchronise_some at how a e =
      let r = value ρ c κ.strict a s.state in
      cast_in {B = Given} {C = Marking} {D = Flow} r
      (λ v. give (mark.Given (converted kind.Int (number_of v)))) (λ m. synchronised ρ how at m >> give Next) k
      ∙ then_same r _ _ (λ v τ. then_one {A = Unit {0}} {B = Flow}
      (synchronised ρ how at (mark.Given (converted kind.Int (number_of v))) τ) (λ _. give Next) k)
      ∙ ap (meant ρ) (sym e)

  pub fence_goes : (at : Place) (τ : State) → fence ρ.thread s.state ≡ Val tt τ
      → t ≡ with_flow Next (with_state τ s) → with_item ρ (this at tree.Fence) s ≡ meant ρ t
  unfolding with_item meant
  fence_goes at τ h e = ap (λ r. bind (bind r (λ _. give Next)) k) h ∙ ap (meant ρ) (sym e)

  pub fence_ends : (at : Place) (over : ToldEnd) (τ : State) → fence ρ.thread s.state ≡ Over over τ
      → with_item ρ (this at tree.Fence) s ≡ Over over τ
  unfolding with_item
  fence_ends at over τ h = ap (λ r. bind (bind r (λ _. give Next)) k) h

  -- ---- if

  pub if_goes : (at : Place) (arms : Arms) (last : StatementOption)
      → with_item ρ (this at (tree.If arms last)) s ≡ armed ρ κ arms last s
  unfolding with_item armed
  if_goes at arms last = refl

  pub arms_end : (xs : List r.Arm) (last : StatementOption) → length xs ≡ 0 → last ≡ NoStatement
      → t ≡ with_flow Next s → armed ρ κ (view_arms xs) last s ≡ meant ρ t
  unfolding armed meant
  arms_end xs last none no_last e =
      ap (λ ys. armed ρ κ (view_arms ys) last s) (nil_from_length xs none)
      ∙ ap (λ l. armed ρ κ (view_arms []) l s) no_last ∙ ap (meant ρ) (sym e)

  pub arms_last : (xs : List r.Arm) (last : StatementOption) (x : Statement) → length xs ≡ 0
      → last ≡ TheStatement x → t ≡ more_works (Run κ x ∷ []) s → armed ρ κ (view_arms xs) last s ≡ meant ρ t
  unfolding armed meant
  arms_last xs last x none is e =
      ap (λ ys. armed ρ κ (view_arms ys) last s) (nil_from_length xs none)
      ∙ ap (λ l. armed ρ κ (view_arms []) l s) is ∙ ap (meant ρ) (sym e)

  pub arms_more : (test : Expr) (body : Statement) (more : Arms) (last : StatementOption)
      → t ≡ more_works (Value κ.strict test ∷ Arm κ body more last ∷ []) s
      → armed ρ κ (AndArm test body more) last s ≡ meant ρ t
  unfolding armed meant
  arms_more test body more last e =
      then_one {A = Given} {B = Flow} (value ρ c κ.strict test s.state)
      (λ v. choose (is_zero v) (run_arms ρ c κ more (run_last ρ c κ last)) (run ρ c κ body)) k
      ∙ ap (meant ρ) (sym e)

  abbrev arm : Statement → Arms → StatementOption → Bool → Res ℤ
  arm body more last b = bind (choose b (run_arms ρ c κ more (run_last ρ c κ last)) (run ρ c κ body) s.state) kr

  pub arm_passes : (body : Statement) (more : Arms) (last : StatementOption) → is_zero (top s.values) ≡ true
      → with_item ρ (Arm κ body more last) s ≡ armed ρ κ more last (popped s)
  unfolding with_item armed
  arm_passes body more last z = ap (arm body more last) z

  pub arm_goes : (body : Statement) (more : Arms) (last : StatementOption) → is_zero (top s.values) ≡ false
      → t ≡ more_works (Run κ body ∷ []) (popped s) → with_item ρ (Arm κ body more last) s ≡ meant ρ t
  unfolding with_item meant
  arm_goes body more last z e = ap (arm body more last) z ∙ ap (meant ρ) (sym e)

  -- ---- blocks

  -- A body after which its block ends.
  blocked_body : (r : Res Flow)
      → bind (bind r (λ f. close_block >> give f)) k ≡ bind r (λ g. close_block >> k g)
  blocked_body r =
      then_one {A = Flow} {B = Flow} r (λ f. close_block >> give f) k
      ∙ then_same r _ _ (λ f τ. then_one {A = Unit {0}} {B = Flow} (close_block τ) (λ _. give f) k)

  pub block_goes : (at : Place) (strict : Bool) (items : Items) (τ : State)
      → open_block κ.count (shapes_of ρ (objects_in items)) at s.state ≡ Val tt τ
      → t ≡ more_works (Parts (with_strict strict κ) items ∷ Leave ∷ []) (with_flow Next (with_state τ s))
      → with_item ρ (this at (tree.Block strict items)) s ≡ meant ρ t
  unfolding with_item meant
  block_goes at strict items τ h e =
      let body = run_items ρ c (with_strict strict κ) items in
      ap (λ r. bind (bind r (λ _. body >>= (λ f. close_block >> give f))) k) h
      ∙ blocked_body (body τ) ∙ ap (meant ρ) (sym e)

  pub block_ends : (at : Place) (strict : Bool) (items : Items) (over : ToldEnd) (τ : State)
      → open_block κ.count (shapes_of ρ (objects_in items)) at s.state ≡ Over over τ
      → with_item ρ (this at (tree.Block strict items)) s ≡ Over over τ
  unfolding with_item
  block_ends at strict items over τ h =
      ap (λ r. bind (bind r (λ _. run_items ρ c (with_strict strict κ) items >>= (λ f. close_block >> give f))) k) h

-- What needs no standing.
module _ (ρ : Running) (s t : Seen) where
  abbrev follows : Flow → Doing ℤ
  follows g = left ρ s.works s.free g s.values

  pub give_goes : t ≡ with_flow (Gave (top s.values)) (popped s) → with_item ρ Give s ≡ meant ρ t
  unfolding with_item meant
  give_goes e = ap (meant ρ) (sym e)

  mark_is : (at : Place) (how : Synchronises) (v : Given) (a : Seen) (i : ℤ) → v ≡ top s.values → a ≡ popped s
      → i ≡ converted kind.Int (number_of v)
      → synchronised ρ how at (mark.Given (converted kind.Int (number_of (top s.values)))) s.state
      ≡ synchronised ρ how at (mark.Given i) a.state
  mark_is at how v a i ev ea ei =
      ap (λ x. synchronised ρ how at (mark.Given (converted kind.Int (number_of x))) s.state) (sym ev)
      ∙ ap (λ x. synchronised ρ how at (mark.Given x) s.state) (sym ei)
      ∙ ap (λ (x : Seen). synchronised ρ how at (mark.Given i) x.state) (sym ea)

  pub mark_goes : (at : Place) (how : Synchronises) (v : Given) (a : Seen) (i : ℤ) (τ : State) → v ≡ top s.values
      → a ≡ popped s → i ≡ converted kind.Int (number_of v)
      → synchronised ρ how at (mark.Given i) a.state ≡ Val tt τ → t ≡ with_flow Next (with_state τ a)
      → with_item ρ (Mark how at) s ≡ meant ρ t
  unfolding with_item meant
  mark_goes at how v a i τ ev ea ei h e =
      ap (λ r. bind r (λ _. left ρ s.works s.free Next (rest s.values))) (mark_is at how v a i ev ea ei ∙ h)
      ∙ ap (λ x. meant ρ (with_flow Next (with_state τ x))) (sym ea) ∙ ap (meant ρ) (sym e)

  pub mark_ends : (at : Place) (how : Synchronises) (v : Given) (a : Seen) (i : ℤ) (over : ToldEnd) (τ : State)
      → v ≡ top s.values → a ≡ popped s → i ≡ converted kind.Int (number_of v)
      → synchronised ρ how at (mark.Given i) a.state ≡ Over over τ → with_item ρ (Mark how at) s ≡ Over over τ
  unfolding with_item
  mark_ends at how v a i over τ ev ea ei h =
      ap (λ r. bind r (λ _. left ρ s.works s.free Next (rest s.values))) (mark_is at how v a i ev ea ei ∙ h)

  pub leave_goes : (τ : State) → close_block s.state ≡ Val tt τ → t ≡ with_state τ s → with_item ρ Leave s ≡ meant ρ t
  unfolding with_item meant
  leave_goes τ h e = ap (λ r. bind r (λ _. follows s.flow)) h ∙ ap (meant ρ) (sym e)

  pub caught_goes : t ≡ with_flow (caught s.flow) s → with_item ρ Caught s ≡ meant ρ t
  unfolding with_item meant
  caught_goes e = ap (meant ρ) (sym e)

pub ruleset asides = (aside_goes)

pub ruleset jumps = (break_goes, continue_goes, return_none, return_some, give_goes)

pub ruleset barriers = (synchronise_none, synchronise_ends, synchronise_some, mark_goes, mark_ends, fence_goes, fence_ends)

pub ruleset ifs = (if_goes, arms_end, arms_last, arms_more, arm_passes, arm_goes)

pub ruleset blocks = (block_goes, block_ends, leave_goes, caught_goes)
