use Rattle.std.proofs.Common.{◌≡◌, ◌<◌, ℕ, List, length, get_or, sym, ap, subst, ◌∙◌}
use Rattle.std.proofs.lemmas.List.{get_or_default}
use Rattle.upc_values.specs.declared.action.Action.{Action}
use Rattle.upc_values.specs.declared.action.Reply.{Reply}
use Rattle.upc_values.specs.declared.record.ToldEnd.{ToldEnd}
use Rattle.upc_values.specs.declared.journal.Strand.{Strand}
use Rattle.upc_values.specs.Outcomes.{Outcome}
use Rattle.upc_values.specs.Orders.{no_strand, record_of}
use Rattle.upc_values.specs.Records as records
use Rattle.typed_tree.specs.ViewProgram.{view_program}
use Rattle.upc_verify.specs.Verdicts.{meaning}
use Rattle.upc_verify.proofs.meant.meant_of.Goals as goal

outcome-is : (xs ys : List Action) (m n : ℕ) (e f : ToldEnd) → xs ≡ ys → m ≡ n → e ≡ f
    → (let o : Outcome = record { actions = xs; ticks = m; «end» = e } in o ≡ record { actions = ys; ticks = n; «end» = f })
outcome-is xs ys m n e f p q r = λ i. record { actions = p i; ticks = q i; «end» = r i }

pub returns : goal.returns
returns c =
    let j = c.args.journal.now in
    let t = c.args.thread in
    let program = view_program c.args.program.now in
    let s = c.index-as_slice-thread.result in
    let within : t < length j.strands = subst (λ n. t < n) (sym c.requires.strands) c.requires.thread in
    let is : (get_or c.as_slice.result.now t s).items ≡ record_of j t =
    ap (λ (x : Strand). x.items) (ap (λ xs. get_or xs t s) c.as_slice.ensures
    ∙ get_or_default j.strands t s no_strand within) in
    let replies : c.as_slice-2.result.now ≡ records.replies_of (record_of j t) =
    c.as_slice-2.ensures.value ∙ c.in_ok-replies.ensures ∙ ap records.replies_of is in
    outcome-is _ _ _ _ _ _ c.in_ok-actions.ensures.actions c.in_ok-actions.ensures.ticks c.in_ok-actions.ensures.«end»
    ∙ ap (meaning program j.budget t) replies
