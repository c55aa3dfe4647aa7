-- How blocks and the blocks of loops are entered.
use Rattle.std.specs.Prelude.{◌≡◌, ℕ, List}
use Rattle.upc_text.specs.declared.place.Place.{Place}
use Rattle.block_layout.specs.declared.kind.Shape.{Shape}
use Rattle.typed_tree.specs.Tree.{StatementKind, Head}
use Rattle.thread_steps.specs.States.{State, Val, Over}
use Rattle.thread_steps.specs.Blocks.{open_block}
use Rattle.source_meaning.specs.Running.{Running}
use Rattle.source_meaning.specs.Statements as pure
use Rattle.upc_meaning_state.specs.declared.progress.Step.{Step}
use Rattle.upc_meaning_state.specs.declared.progress.Step.TheVariants.{Gives, Ends}
use Rattle.upc_meaning_state.specs.layer.Came.{state_seen}
use Rattle.upc_meaning_work.specs.declared.evaluation.Evaluation.{Evaluation}
use Rattle.upc_meaning_work.specs.layer.Evaluations.{seen}
use Rattle.upc_meaning_work.specs.layer.Items.{Item}
use Rattle.upc_meaning_work.specs.layer.Seen.{Seen, headed, more_works, with_flow, with_state}

-- The block of a loop was entered, and what its head leaves is to be done inside it, or the thread has ended there
-- (C99 6.8.5.3).
abbrev pub HeadWent : Running → pure.Standing → Head → StatementKind → Place → Seen → Step (Unit {0})
    → Evaluation → Type 0
HeadWent ρ κ head kind at s (Gives u) m =
    (σ : State) × (open_block κ.count (pure.shapes_of ρ head.objects) at s.state ≡ Val tt σ)
    × (seen m ≡ headed κ head kind ρ.thread.budget (with_state σ s))
HeadWent ρ κ head kind at s (Ends e) m =
    open_block κ.count (pure.shapes_of ρ head.objects) at s.state ≡ Over e (state_seen m.progress)

-- A block was entered, and these items are to be done inside it, or the thread has ended there (C99 6.8.2).
abbrev pub BlockWent : (from : ℕ) → List Shape → Place → (inside : List Item) → Seen → Step (Unit {0})
    → Evaluation → Type 0
BlockWent from shapes at inside s (Gives u) m =
    (σ : State) × (open_block from shapes at s.state ≡ Val tt σ)
    × (seen m ≡ more_works inside (with_flow pure.Next (with_state σ s)))
BlockWent from shapes at inside s (Ends e) m = open_block from shapes at s.state ≡ Over e (state_seen m.progress)
