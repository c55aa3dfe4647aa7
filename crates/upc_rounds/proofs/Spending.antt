-- In a sound journal a strand that ends by its budget has had it.
use Rattle.std.proofs.Common.{◌≡◌, ℕ, ◌<◌, List, subst, ap, ◌∙◌, slice_index_or}
use Rattle.upc_values.specs.declared.action.Reply.{Reply}
use Rattle.upc_values.specs.declared.record.End.TheVariants.{Budget}
use Rattle.upc_values.specs.declared.journal.Journal.{Journal}
use Rattle.upc_values.specs.declared.journal.Strand.{Strand}
use Rattle.upc_values.specs.Records.{replies_of}
use Rattle.upc_values.specs.Openings.{Opening}
use Rattle.upc_values.specs.Outcomes.{Outcome}
use Rattle.upc_values.specs.Strands.{strand_ticks}
use Rattle.upc_values.specs.Ends.{OwnEnd, AreSpent}
use Rattle.upc_values.specs.Sound.{IsSound, IsStrand}
use Rattle.upc_task.specs.layer.Sources.{Outcomes, IsSource}

strand-spent : (o : Opening) (b t : ℕ) (outcome : List Reply → Outcome) (j : Journal) (s : Strand) → IsSource o b outcome
    → IsStrand o t j.actions j.history outcome s → s.«end» ≡ Budget → s.ticks ≡ b
strand-spent o b t outcome j s h k e =
    let last : Outcome = outcome (replies_of s.items) in
    k.conforms.ticks ∙ ap (λ x. strand_ticks x s.items last.ticks) e
    ∙ h.spends (replies_of s.items) (subst (OwnEnd j.actions last.«end» s.items) e k.«end»)

pub sound-spent : (o : Opening) (all : ℕ → Outcomes) (j : Journal) → ((t : ℕ) → t < o.threads → IsSource o j.budget (all j.budget t))
    → IsSound o all j → AreSpent j.budget j.strands
sound-spent o all j h s t d below e =
    strand-spent o j.budget t (all j.budget t) j (slice_index_or j.strands t d) (h t (subst (λ n. t < n) s.many below)) (s.strands t d below) e
