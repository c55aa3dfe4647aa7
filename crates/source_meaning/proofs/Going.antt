-- A reply that fits what a thread wants adds just this action to what it did.
use Rattle.std.proofs.Common.{◌≡◌, ℕ, List, [], ◌∷◌, ◌++◌, Option, true, false}
use Rattle.std.proofs.Common.{refl, sym, ◌∙◌, arith}
use Rattle.std.proofs.lemmas.List.{length-append}
use Rattle.block_layout.specs.declared.kind.Kind.{Kind}
use Rattle.block_layout.specs.declared.kind.Shape.{Shape}
use Rattle.upc_values.specs.declared.action.Action.{Action}
use Rattle.upc_values.specs.layer.Parts.{kind_read}
use Rattle.upc_values.specs.declared.action.Action.TheVariants as act
use Rattle.upc_values.specs.declared.scalar.Scalar.TheVariants.{Int, Shared, Lock}
use Rattle.upc_values.specs.declared.action.Reply.{Reply}
use Rattle.upc_values.specs.declared.action.Reply.TheVariants as reply
use Rattle.upc_values.specs.declared.record.ToldEnd.TheVariants.{Wants}
use Rattle.upc_values.specs.Outcomes.{Outcome}
use Rattle.upc_values.specs.Formed.{fits}
use Rattle.typed_tree.specs.Programs.{Checked}
use Rattle.thread_steps.specs.States.{Thread}
use Rattle.thread_steps.proofs.Fronts.{none_left, all_of}
use Rattle.source_meaning.specs.Running.{running}
use Rattle.source_meaning.specs.Threads.{thread_outcome}
use Rattle.source_meaning.specs.Laws.{TakesReplies, AllGoOn, opening_of, is_read}
use Rattle.source_meaning.proofs.Replies.{all_take_replies}

-- Which kind of cell is meant matters to a read alone.
any_kind : (threads : ℕ) (shapes : List Shape) (kind other : Option Kind) (a : Action) (r : Reply) → is_read a ≡ false
    → fits threads shapes other a r ≡ fits threads shapes kind a r
any_kind threads shapes kind other (act.Read l s) r e = absurd (grind arith)
any_kind threads shapes kind other a reply.Done e = refl
any_kind threads shapes kind other a (reply.Value (Int v)) e = refl
any_kind threads shapes kind other a (reply.Value (Shared p)) e = refl
any_kind threads shapes kind other a (reply.Value (Lock l)) e = refl
any_kind threads shapes kind other a (reply.Flag b) e = refl
any_kind threads shapes kind other a (reply.Refused code) e = refl

module _ (τ : Thread) (outcome : List Reply → Outcome) (taken : TakesReplies τ outcome) where
  one_more : (rs : List Reply) (a : Action) (r : Reply) (e : (outcome rs).«end» ≡ Wants a)
      → fits τ.threads τ.shapes (taken.goes rs a e).0 a r ≡ true
      → (outcome (rs ++ r ∷ [])).actions ≡ (outcome rs).actions ++ a ∷ []
  one_more rs a r e fit =
      let most = taken.once (rs ++ r ∷ []) in
      let same = taken.wants rs a e in
      let p = length-append rs (r ∷ []) in
      let q = length-append (outcome rs).actions (a ∷ []) in
      all_of ((outcome rs).actions ++ a ∷ []) (outcome (rs ++ r ∷ [])).actions
      (((taken.goes rs a e).1 r []).done fit) (omega arith)

  begins_empty : (outcome []).actions ≡ []
  begins_empty = let most = taken.once [] in none_left (outcome []).actions (omega arith)

pub all_go_on : (program : Checked) → AllGoOn program
all_go_on program = record {
  each = λ thread budget some.
      let τ = (running program thread budget).thread in
      let f = thread_outcome program thread budget in
      let taken = (all_take_replies program).each thread budget some in
      record {
        begins = begins_empty τ f taken;
        goes = λ rs before a r e other fit.
            one_more τ f taken rs a r e
            (sym (any_kind τ.threads τ.shapes (taken.goes rs a e).0 (kind_read (opening_of program) before a) a r other)
            ∙ fit);
        reads = λ rs a e. ((taken.goes rs a e).0, λ r fit. one_more τ f taken rs a r e fit);
      };
}
