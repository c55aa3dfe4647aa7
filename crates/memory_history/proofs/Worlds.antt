-- A memory goes on as a world: its history is kept, and its parts stand as the history leaves them.
use Rattle.std.proofs.Common.{◌≡◌, ℕ, ◌+◌, ◌<◌, ◌^◌, Bool, true, false, not, cond, List, [], ◌∷◌, ◌++◌, length, Option, Some, None, is_some, refl, sym, ap, subst, ◌∙◌, arith}
use Rattle.std.proofs.lemmas.Bool.{false≢true}
use Rattle.std.specs.Prelude.{◌↔◌, IsTrue, IsNone}
use Rattle.upc_values.specs.declared.scalar.Mark.{Mark}
use Rattle.upc_values.specs.declared.action.Action.{Action}
use Rattle.upc_values.specs.declared.action.Action.TheVariants as act
use Rattle.upc_values.specs.declared.action.Reply.{Reply}
use Rattle.upc_values.specs.declared.journal.Entry.{Entry}
use Rattle.upc_values.specs.Drain.{entry_of}
use Rattle.upc_values.specs.Openings.{Opening, IsOpening}
use Rattle.upc_values.specs.History.{reply}
use Rattle.upc_values.specs.Formed.{IsWellFormed}
use Rattle.upc_values.specs.Strands.{may_wait}
use Rattle.upc_values.proofs.Legality.{unlawful-waits}
use Rattle.sync_objects.specs.layer.Barrier as barrier
use Rattle.memory_history.specs.code.After.{PartsState, IsAfter}
use Rattle.memory_history.specs.layer.World.{IsKept, IsWorld}
use Rattle.memory_history.specs.layer.Turns.{takes_turn}
use Rattle.memory_history.specs.code.Acting.{begun, answer, may_ask, MayAct, Acted}
use Rattle.memory_history.proofs.More.{kept-push}
use Rattle.memory_history.proofs.Asking.{ask-same, turn-same, may-act, answer-same}
use Rattle.memory_history.proofs.Becoming.{acted-after}
use Rattle.memory_history.proofs.HeapSteps.{heap-none}
use Rattle.memory_history.proofs.LockSteps.{locks-begin}
use Rattle.memory_history.proofs.Attending.{barrier-begins}
use Rattle.memory_history.proofs.Meeting.{meets-begin}

-- one that has just begun
pub world-begun : (o : Opening) → IsOpening o → IsWorld (begun o) []
world-begun o v = record {
  kept = record { opening = v; legal = tt; formed = tt; below = tt; short = omega arith };
  after = record { heap = heap-none o; locks = locks-begin o; barrier = barrier-begins o; meets = meets-begin o };
}

-- what is no notify is never out of turn
pub other-turns : (es : List Entry) (t : ℕ) (x : Action) → ((m : Mark) → x ≡ act.Notify m → ⊥) → true ≡ takes_turn es t x
other-turns es t (act.Notify m) n = absurd (n m refl)
other-turns es t x n = refl

module _ (p : PartsState) (es : List Entry) (w : IsWorld p es) where
  pub world-asks : (x : Action) → IsTrue (may_ask p x) ↔ IsWellFormed p.heap.opening es x
  world-asks x =
      let e = ask-same p.heap.opening es p w.kept w.after x in
      (λ h. e ∙ h, λ f. sym e ∙ f)

  pub world-acts : (t : ℕ) (x : Action) → t < p.heap.opening.threads → IsWellFormed p.heap.opening es x → takes_turn es t x ≡ true
      → MayAct t x p
  world-acts t x b f u = may-act p.heap.opening es p w.kept w.after t x b f u

  pub world-attends : (t : ℕ) → t < p.heap.opening.threads → t < length p.barrier
  world-attends t b = let n = w.after.barrier.count in omega arith

  pub world-turns : (t : ℕ) (m : Mark) → t < p.heap.opening.threads → barrier.may_notify t p.barrier ≡ takes_turn es t (act.Notify m)
  world-turns t m b = sym (turn-same p.heap.opening es p w.kept w.after t (act.Notify m) b)

  pub world-answers : (t : ℕ) (x : Action) → t < p.heap.opening.threads → IsWellFormed p.heap.opening es x
      → reply p.heap.opening es t x ≡ answer t x p
  world-answers t x b f = answer-same p.heap.opening es p w.kept w.after t x b f

  pub world-acted : (t i : ℕ) (x : Action) (r : Reply) (q : PartsState) → t < p.heap.opening.threads → IsWellFormed p.heap.opening es x
      → takes_turn es t x ≡ true → answer t x p ≡ Some r → Acted t x r p q → length es + 1 < 2 ^ 62
      → (q.heap.opening ≡ p.heap.opening) × IsWorld q (es ++ entry_of t i x r ∷ [])
  world-acted t i x r q b f u e c s =
      let o : Opening = p.heap.opening in
      let now = es ++ entry_of t i x r ∷ [] in
      let lawful : reply o es t x ≡ Some r = world-answers t x b f ∙ e in
      let a : IsAfter o now q = acted-after o es p w.kept w.after t i b x r q f u lawful c in
      let k : IsKept o now = kept-push o es t i x r w.kept b f lawful s in (
        a.heap.begun,
        record {
          kept = subst (λ z. IsKept z now) (sym a.heap.begun) k;
          after = subst (λ z. IsAfter z now q) (sym a.heap.begun) a;
        },
      )

  -- ---- whether an action is legal

  some-when : {X : Type 0} (b : Bool) (x : X) → is_some (cond b (Some x) None) ≡ b
  some-when true x = refl
  some-when false x = refl

  pub wait-legal : (t : ℕ) (m : Mark) → t < p.heap.opening.threads → barrier.may_pass t p.barrier ≡ is_some (reply p.heap.opening es t (act.Wait m))
  wait-legal t m b = sym (ap is_some (world-answers t (act.Wait m) b refl) ∙ some-when (barrier.may_pass t p.barrier) _)

  none-when : {X : Type 0} (b : Bool) (o : Option X) → (IsTrue b ↔ IsNone o) → not b ≡ is_some o
  none-when true (Some x) h = absurd (false≢true (sym (h.0 refl)))
  none-when true None h = refl
  none-when false (Some x) h = refl
  none-when false None h = absurd (false≢true (h.1 refl))

  pub lock-legal : (t l : ℕ) (b : Bool) → t < p.heap.opening.threads → IsWellFormed p.heap.opening es (act.Lock l)
      → (IsTrue b ↔ IsNone (answer t (act.Lock l) p)) → not b ≡ is_some (reply p.heap.opening es t (act.Lock l))
  lock-legal t l b lt f h = none-when b (answer t (act.Lock l) p) h ∙ sym (ap is_some (world-answers t (act.Lock l) lt f))

  waits-alone : (x : Action) → ((m : Mark) → x ≡ act.Wait m → ⊥) → ((l : ℕ) → x ≡ act.Lock l → ⊥) → may_wait x ≡ true → ⊥
  waits-alone (act.Wait m) n k h = n m refl
  waits-alone (act.Lock l) n k h = k l refl
  waits-alone x n k h = false≢true h

  pub other-legal : (t : ℕ) (x : Action) → IsWellFormed p.heap.opening es x → ((m : Mark) → x ≡ act.Wait m → ⊥) → ((l : ℕ) → x ≡ act.Lock l → ⊥)
      → true ≡ is_some (reply p.heap.opening es t x)
  other-legal t x f n k = go (reply p.heap.opening es t x) (λ e. waits-alone x n k (unlawful-waits p.heap.opening es t x f e))
    where
      go : (r : Option Reply) → (r ≡ None → ⊥) → true ≡ is_some r
      go (Some r) h = refl
      go None h = absurd (h refl)
