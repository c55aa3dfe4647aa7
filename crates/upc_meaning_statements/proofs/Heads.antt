-- How blocks and loops with heads went, by how they were entered.
use Rattle.std.proofs.Common.{◌≡◌, Bool, [], ◌∷◌, Result, Ok, Err, IfOk}
use Rattle.upc_text.specs.declared.place.Place.{Place}
use Rattle.typed_tree.specs.Tree as tree
use Rattle.typed_tree.specs.Tree.{Statement, Stands, Head, Affinity, Items}
use Rattle.source_meaning.specs.Running.{Running}
use Rattle.source_meaning.specs.layer.Parts.{with_strict}
use Rattle.source_meaning.specs.Statements.{Standing, shapes_of, objects_in}
use Rattle.upc_meaning_state.specs.declared.progress.Step.{Step}
use Rattle.upc_meaning_state.specs.declared.progress.Step.TheVariants.{Gives, Ends}
use Rattle.upc_meaning_state.specs.layer.Came.{state_seen}
use Rattle.upc_meaning_work.specs.layer.Items.{Run, Parts, Leave}
use Rattle.upc_meaning_work.specs.layer.Seen.{Seen, with_item}
use Rattle.upc_meaning_work.proofs.Declaring.{for_goes, for_ends, forall_goes, forall_ends}
use Rattle.upc_meaning_work.proofs.Stating.{block_goes, block_ends}
use Rattle.upc_meaning_work.specs.declared.evaluation.Evaluation.{Evaluation}
use Rattle.upc_meaning_work.specs.layer.Evaluations.{seen, Went}
use Rattle.upc_meaning_statements.specs.code.Entries.{BlockWent, HeadWent}

-- How a block went, by how its entry went.
module _ (ρ : Running) (κ : Standing) (s : Seen) (at : Place) (strict : Bool) (items : Items) (m : Evaluation) where
  abbrev Entered : Step (Unit {0}) → Type 0
  Entered r = BlockWent κ.count (shapes_of ρ (objects_in items)) at (Parts (with_strict strict κ) items ∷ Leave ∷ [])
      s r m

  abbrev Done : Step (Unit {0}) → Type 0
  Done r = Went ρ (with_item ρ (Run κ (Stands at (tree.Block strict items))) s) r m

  block_went : (r : Step (Unit {0})) → Entered r → Done r
  block_went (Gives u) h = block_goes ρ κ s (seen m) at strict items h.0 h.1 h.2
  block_went (Ends e) h = block_ends ρ κ s s at strict items e (state_seen m.progress) h

  pub block_enters : {E : Type 0} (r : Result (Step (Unit {0})) E) → IfOk r Entered → IfOk r Done
  block_enters (Ok x) h = block_went x h
  block_enters (Err e) h = tt

-- How a loop with a head went, by how the entry of its block went.
module _ (ρ : Running) (κ : Standing) (s : Seen) (at : Place) (kind : tree.StatementKind) (head : Head) (m : Evaluation)
  where
    for_went : (body : Statement) → kind ≡ tree.For head body → (r : Step (Unit {0})) → HeadWent ρ κ head kind at s r m
        → Went ρ (with_item ρ (Run κ (Stands at kind)) s) r m
    for_went body is (Gives u) h = for_goes ρ κ s (seen m) at kind head body h.0 is h.1 h.2
    for_went body is (Ends e) h = for_ends ρ κ s s at kind head body e (state_seen m.progress) is h

    pub for_enters : {E : Type 0} (body : Statement) → kind ≡ tree.For head body → (r : Result (Step (Unit {0})) E)
        → IfOk r (λ x. HeadWent ρ κ head kind at s x m)
        → IfOk r (λ x. Went ρ (with_item ρ (Run κ (Stands at kind)) s) x m)
    for_enters body is (Ok x) h = for_went body is x h
    for_enters body is (Err e) h = tt

    forall_went : (whose : Affinity) (body : Statement) → kind ≡ tree.Forall head whose body → (r : Step (Unit {0}))
        → HeadWent ρ κ head kind at s r m → Went ρ (with_item ρ (Run κ (Stands at kind)) s) r m
    forall_went whose body is (Gives u) h = forall_goes ρ κ s (seen m) at kind head whose body h.0 is h.1 h.2
    forall_went whose body is (Ends e) h = forall_ends ρ κ s s at kind head whose body e (state_seen m.progress) is h

    pub forall_enters : {E : Type 0} (whose : Affinity) (body : Statement) → kind ≡ tree.Forall head whose body
        → (r : Result (Step (Unit {0})) E) → IfOk r (λ x. HeadWent ρ κ head kind at s x m)
        → IfOk r (λ x. Went ρ (with_item ρ (Run κ (Stands at kind)) s) x m)
    forall_enters whose body is (Ok x) h = forall_went whose body is x h
    forall_enters whose body is (Err e) h = tt
