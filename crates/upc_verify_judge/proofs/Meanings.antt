-- What a member of a list of meanings says of its thread.
use Rattle.std.proofs.Common.{◌≡◌, ◌↔◌, ℕ, ◌<◌, Bool, IsTrue, List, length, get_or, ap, subst, ◌∙◌}
use Rattle.std.proofs.lemmas.List.{get_or_default}
use Rattle.upc_values.specs.declared.action.Action.{Action}
use Rattle.upc_values.specs.declared.journal.Strand.{Strand}
use Rattle.upc_values.specs.Orders.{no_strand}
use Rattle.upc_values.specs.Strands.{Conforms}
use Rattle.upc_verify_judge.specs.declared.meant.Meant.{Meant}
use Rattle.upc_verify_judge.specs.layer.Meanings.{none_meant, outcome_in}

-- the member with a thread's number
pub member-at : (meant : List Meant) (k : ℕ) (m : Meant) → k < length meant → m ≡ get_or meant k m → m ≡ get_or meant k none_meant
member-at meant k m lt e = e ∙ get_or_default meant k m none_meant lt

-- whether the strand with a thread's number conforms to the member
pub conforms-in : (meant : List Meant) (strands slice : List Strand) (k : ℕ) (m : Meant) (s : Strand) (actions : List Action) (b : Bool)
    → k < length meant → k < length strands → m ≡ get_or meant k m → slice ≡ strands → s ≡ get_or slice k s → actions ≡ m.actions
    → IsTrue b ↔ Conforms (record { actions = actions; ticks = m.ticks; «end» = m.«end» }) s
    → IsTrue b ↔ Conforms (outcome_in meant k) (get_or strands k no_strand)
conforms-in meant strands slice k m s actions b lt within is same at acts h =
    let strand : s ≡ get_or strands k no_strand = at ∙ ap (λ l. get_or l k s) same ∙ get_or_default strands k s no_strand within in
    subst (λ (n : Meant). IsTrue b ↔ Conforms (record { actions = n.actions; ticks = n.ticks; «end» = n.«end» }) (get_or strands k no_strand))
    (member-at meant k m lt is)
    (subst (λ (x : Strand). IsTrue b ↔ Conforms (record { actions = m.actions; ticks = m.ticks; «end» = m.«end» }) x) strand
    (subst (λ (l : List Action). IsTrue b ↔ Conforms (record { actions = l; ticks = m.ticks; «end» = m.«end» }) s) acts h))
