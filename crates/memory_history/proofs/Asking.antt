-- What may be asked of a history may be asked of the parts that it leaves, which answer with the lawful reply.
use Rattle.std.proofs.Common.{◌≡◌, ℕ, ◌*◌, ◌<◌, ◌≤◌, ◌==◌, nat_lt, nat_le, true, ◌&&◌, ◌||◌, cond, List, length, Some, is_some, slice_get, inl, inr, refl, sym, ap, subst, ◌∙◌, arith, eqb-true}
use Rattle.std.proofs.lemmas.Bool.{cases_Bool, cases_lt}
use Rattle.std.proofs.lemmas.List.{get_or_past}
use Rattle.block_layout.specs.declared.place.SharedPtr.{SharedPtr}
use Rattle.upc_values.specs.declared.scalar.Scalar.{Scalar}
use Rattle.upc_values.specs.declared.scalar.Scalar.TheVariants.{Int, Shared, Lock}
use Rattle.upc_values.specs.declared.action.Action.{Action}
use Rattle.upc_values.specs.declared.action.Action.TheVariants as act
use Rattle.upc_values.specs.declared.action.Reply.{Reply}
use Rattle.upc_values.specs.declared.journal.Entry.{Entry}
use Rattle.upc_values.specs.Shapes.{fits_cell}
use Rattle.upc_values.specs.Calls.{Call, Allocates, Makes_lock, Frees, Frees_lock, Copies, Permutes, Reduces, Reduces_prefixes, Other, call_of}
use Rattle.upc_values.specs.Openings.{Opening}
use Rattle.upc_values.specs.History.{reply, led_reply, value_reply}
use Rattle.upc_values.specs.Formed as formed
use Rattle.upc_values.specs.Formed.{IsWellFormed}
use Rattle.shared_heap.specs.layer.Heap.{cell_at}
use Rattle.memory_history.specs.code.Calls.{asked_of}
use Rattle.memory_history.specs.code.MeetsAfter.{LeaderState, times, is_leading, leader_at, nobody, called, joined_answer}
use Rattle.memory_history.specs.code.After.{PartsState, IsAfter}
use Rattle.memory_history.specs.layer.World.{IsKept}
use Rattle.memory_history.specs.layer.Turns.{takes_turn}
use Rattle.memory_history.specs.code.Acting as said
use Rattle.memory_history.specs.code.Acting.{MayAct, HasLock, answer, led_answer, meet_answer}
use Rattle.memory_history.proofs.HeapReplies.{knows-answer, may_read-answer, may_write-answer, may_alloc-answer, held-answer, alloc-reply, led_alloc-answer, free-reply, led_free-answer}
use Rattle.memory_history.proofs.LockSteps.{asked-made, lock-answers, attempt-answers, unlock-answers, give_up-answers, lock_make-answers}
use Rattle.memory_history.proofs.MeetLocks.{makes_lock-answers, frees_lock-answers, leader-made}
use Rattle.memory_history.proofs.Attending.{notifies-attended, turn-answers, wait-replies}
use Rattle.memory_history.proofs.Meeting.{joined-within, leading-replies, joined-replies}
use Rattle.memory_history.proofs.Leaders.{done_below-most}

-- no call has no lock
nobody-lent : (p : PartsState) (x : LeaderState) → x ≡ nobody → HasLock (called x) x.reply p
nobody-lent p x e = subst (λ (z : LeaderState). HasLock (called z) z.reply p) (sym e) (λ l q. absurd cc)

module _ (o : Opening) (es : List Entry) (p : PartsState) (k : IsKept o es) (a : IsAfter o es p) where
  -- ---- what may be asked for

  knows-same : (x : SharedPtr) → formed.knows o es x ≡ said.knows p x
  knows-same x = knows-answer o es p.heap x a.heap

  known-same : (v : Scalar) → formed.is_known o es v ≡ said.is_known p v
  known-same (Int v) = refl
  known-same (Shared x) = knows-same x
  known-same (Lock l) = ap (nat_le l) (sym a.locks.count)

  lock-same : (l : ℕ) → formed.is_lock es l ≡ said.is_lock p l
  lock-same l = ap (λ n. nat_lt 0 l && nat_le l n) (sym a.locks.count)

  two-same : (x y : SharedPtr) → (formed.knows o es x && formed.knows o es y) ≡ (said.knows p x && said.knows p y)
  two-same x y = ap (λ b. b && formed.knows o es y) (knows-same x) ∙ ap (λ b. said.knows p x && b) (knows-same y)

  call-same : (c : Call) → formed.may_call o es c ≡ said.may_call p (asked_of c)
  call-same (Allocates n b s) =
      ap (λ (z : Opening). is_some (slice_get z.shapes s) && ((n * b == 0) || formed.may_alloc z n b s)) (sym a.heap.begun)
  call-same Makes_lock = refl
  call-same (Frees x) = knows-same x
  call-same (Frees_lock l) = ap (nat_le l) (sym a.locks.count)
  call-same (Copies w dst src n f) = two-same dst src
  call-same (Permutes dst src perm n f) =
      ap (λ b. b && (formed.knows o es src && formed.knows o es perm)) (knows-same dst)
      ∙ ap (λ b. said.knows p dst && b) (two-same src perm)
  call-same (Reduces dst src op n b t f) = two-same dst src
  call-same (Reduces_prefixes dst src op n b t f) = two-same dst src
  call-same Other = refl

  pub ask-same : (x : Action) → formed.may_ask o es x ≡ said.may_ask p x
  ask-same (act.Read l s) = may_read-answer o es p.heap l s a.heap
  ask-same (act.Write s l v) =
      may_write-answer o es p.heap l v s a.heap ∙ ap (λ b. fits_cell v (cell_at p.heap l) && b) (known-same v)
  ask-same act.Fence = refl
  ask-same act.Beat = refl
  ask-same (act.Notify m) = refl
  ask-same (act.Wait m) = refl
  ask-same (act.Lock l) = lock-same l
  ask-same (act.Attempt l) = lock-same l
  ask-same (act.Unlock l) = lock-same l
  ask-same act.LockMake = refl
  ask-same (act.LockFree l) = lock-same l
  ask-same (act.Alloc n b h s) = may_alloc-answer o es p.heap n b h s a.heap
  ask-same (act.Free x) = knows-same x
  ask-same (act.Meet c args) = call-same (call_of c args)
  ask-same (act.Print x) = refl
  ask-same (act.Exit v) = refl

  -- ---- whether a thread may act

  past-nobody : (j : ℕ) → length p.meets.leaders ≤ j → leader_at j p.meets ≡ nobody
  past-nobody j le = get_or_past p.meets.leaders j nobody le

  few-done : (j : ℕ) → (leader_at j p.meets).done ≤ 32
  few-done j = elim (cases_lt j (length p.meets.leaders)) [
    | inl lt ↦
        let d = (a.meets.led j nobody lt).done in
        let most = done_below-most o.threads j es in
        let few = k.opening.most in
        omega arith
    | inr le ↦ subst (λ (z : LeaderState). z.done ≤ 32) (sym (past-nobody j le)) (omega arith)
  ]

  lent-made : (j : ℕ) → HasLock (called (leader_at j p.meets)) (leader_at j p.meets).reply p
  lent-made j = elim (cases_lt j (length p.meets.leaders)) [
    | inl lt ↦ λ l q. (leader-made o es p.meets a.meets p.locks j l a.locks k.formed lt q).0
    | inr le ↦ nobody-lent p (leader_at j p.meets) (past-nobody j le)
  ]

  few-times : (t : ℕ) → t < o.threads → times t p.meets ≤ length p.meets.leaders
  few-times t b = elim (cases_Bool (is_leading t p.meets)) [
    | inl first ↦ let e = eqb-true (times t p.meets) (length p.meets.leaders) first in omega arith
    | inr other ↦ let lt = joined-within o es p.meets a.meets t b other in omega arith
  ]

  -- whether it is the thread's turn
  pub turn-same : (t : ℕ) (x : Action) → t < o.threads → takes_turn es t x ≡ said.has_turn t x p
  turn-same t (act.Notify m) b = turn-answers o es p.barrier a.barrier t b k.short
  turn-same t x b = refl

  pub may-act : (t : ℕ) (x : Action) → t < o.threads → IsWellFormed o es x → takes_turn es t x ≡ true → MayAct t x p
  may-act t x b f u = record {
    asked = sym (ask-same x) ∙ f;
    turn = sym (turn-same t x b) ∙ u;
    attends = (let n = a.barrier.count in omega arith);
    counted = (let n = a.meets.count in omega arith);
    led = few-times t b;
    few = few-done (times t p.meets);
    lent = lent-made (times t p.meets);
  }

  -- ---- replies

  pub led-answers : (c : Call) → formed.may_call o es c ≡ true → led_reply o es c ≡ led_answer p (asked_of c)
  led-answers (Allocates n b s) f = led_alloc-answer o es p.heap n b s a.heap
  led-answers Makes_lock f = makes_lock-answers o es p.locks a.locks
  led-answers (Frees x) f = led_free-answer o es p.heap x k.legal k.formed a.heap
  led-answers (Frees_lock l) f = frees_lock-answers o es p.locks a.locks l f
  led-answers (Copies w dst src n f) g = refl
  led-answers (Permutes dst src perm n f) g = refl
  led-answers (Reduces dst src op n b t f) g = refl
  led-answers (Reduces_prefixes dst src op n b t f) g = refl
  led-answers Other f = refl

  meet-answers : (t c : ℕ) (args : List Scalar) → t < o.threads → IsWellFormed o es (act.Meet c args)
      → reply o es t (act.Meet c args) ≡ Some (meet_answer t c args p)
  meet-answers t c args b f =
      let first : Reply = led_answer p (asked_of (call_of c args)) in
      let x : LeaderState = leader_at (times t p.meets) p.meets in
      let other : Reply = joined_answer (said.notifies t p) c args x in
      elim (cases_Bool (is_leading t p.meets)) [
        | inl q ↦
            leading-replies o es p.meets a.meets t c args b q ∙ ap Some (led-answers (call_of c args) f)
            ∙ sym (ap (λ z. Some (cond z first other)) q)
        | inr q ↦
            joined-replies o es p.meets a.meets t c args b q
            ∙ ap (λ n. Some (joined_answer n c args x)) (notifies-attended o es p.barrier a.barrier t b)
            ∙ sym (ap (λ z. Some (cond z first other)) q)
      ]

  pub answer-same : (t : ℕ) (x : Action) → t < o.threads → IsWellFormed o es x → reply o es t x ≡ answer t x p
  answer-same t (act.Read l s) b f = ap value_reply (held-answer o es p.heap l a.heap)
  answer-same t (act.Write s l v) b f = refl
  answer-same t act.Fence b f = refl
  answer-same t act.Beat b f = refl
  answer-same t (act.Notify m) b f = refl
  answer-same t (act.Wait m) b f = wait-replies o es p.barrier a.barrier t m b
  answer-same t (act.Lock l) b f = lock-answers o es p.locks a.locks t l (asked-made o es p.locks a.locks l f)
  answer-same t (act.Attempt l) b f = attempt-answers o es p.locks a.locks t l (asked-made o es p.locks a.locks l f)
  answer-same t (act.Unlock l) b f = unlock-answers o es p.locks a.locks t l (asked-made o es p.locks a.locks l f)
  answer-same t act.LockMake b f = lock_make-answers o es p.locks a.locks t
  answer-same t (act.LockFree l) b f = give_up-answers o es p.locks a.locks t l (asked-made o es p.locks a.locks l f)
  answer-same t (act.Alloc n c h s) b f = alloc-reply o es p.heap t n c h s a.heap
  answer-same t (act.Free x) b f = free-reply o es p.heap t x k.legal k.formed a.heap
  answer-same t (act.Meet c args) b f = meet-answers t c args b f
  answer-same t (act.Print x) b f = refl
  answer-same t (act.Exit v) b f = refl
