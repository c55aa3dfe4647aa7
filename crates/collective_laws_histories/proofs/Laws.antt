-- What collective calls leave in a sound journal.
use Rattle.std.proofs.Common.{◌≡◌, ℕ, ◌<◌, ◌≤◌, true, List, length, sym, subst}
use Rattle.std.specs.Prelude.{slice_index_or}
use Rattle.upc_values.specs.declared.scalar.Scalar.{Scalar}
use Rattle.upc_values.specs.declared.action.Reply.{Reply}
use Rattle.upc_values.specs.declared.journal.Journal.{Journal}
use Rattle.upc_values.specs.Calls.{call_of}
use Rattle.upc_values.specs.Orders.{no_strand}
use Rattle.upc_values.specs.Outcomes.{Outcome}
use Rattle.upc_values.specs.Openings.{Opening}
use Rattle.upc_values.specs.History.{held}
use Rattle.upc_values.specs.Sound.{IsSound}
use Rattle.upc_values.specs.Together.{is_synchronised_call, HasLeft}
use Rattle.collective_laws_histories.specs.layer.Laws.{StrandsGoTogether, AllTakeTurns, JournalsHold}
use Rattle.collective_laws_histories.proofs.Courses.{Course, course}
use Rattle.collective_laws_histories.proofs.Middles.{middle-of}
use Rattle.collective_laws_histories.proofs.Meeting.{done}

module _ (o : Opening) (outcome : (budget thread : ℕ) → List Reply → Outcome) (j : Journal)
    (sound : IsSound o outcome j) (together : StrandsGoTogether o j) (turns : AllTakeTurns j) where
  -- The course of each thread that leaves a call.
  gone : (i n c : ℕ) (args : List Scalar) → 5 ≤ c → c ≤ 12
      → ((t : ℕ) → t < o.threads → HasLeft t i n c args j.history)
      → is_synchronised_call (call_of c args) ≡ true → (t : ℕ) → t < o.threads
      → Course o.threads o.shapes j.history t n c args
  gone i n c args low high left both t lt =
      let within : t < length j.strands = subst (λ k. t < k) (sym sound.many) lt in
      let strand = sound.strands t no_strand within in
      course o.threads o.shapes j.history t i n c args
      (slice_index_or j.strands t no_strand).items strand.drains (left t lt)
      (together t no_strand within) (turns t no_strand within) low high both

pub journals_hold : JournalsHold
journals_hold = record {
  holds = λ values stays o outcome j opening sound together turns i n c args entered left low high gone_all both apart
      ein eout.
      let courses = gone o outcome j sound together turns i n c args low high gone_all both in
      let between = middle-of o.threads n entered left j.history ein eout in
      values o.threads o.shapes (call_of c args) (held o entered) (held o left)
      (done o j.history n c args entered left opening sound.below sound.legal sound.formed stays apart courses ein eout
      between);
}
