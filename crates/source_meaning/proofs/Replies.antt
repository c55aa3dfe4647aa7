-- A thread takes its replies in order.
use Rattle.std.proofs.Common.{◌≡◌, ℕ, zero, suc, ◌<◌, ◌≤◌, ℤ, List, [], ◌∷◌, ◌++◌, length, Option, Some, None}
use Rattle.std.proofs.Common.{Bool, true, false, refl, sym, ◌∙◌, ap, subst, arith, ◌⊎◌, inl, inr}
use Rattle.std.proofs.lemmas.List.{length-append, length_push}
use Rattle.block_layout.specs.declared.kind.Kind.{Kind}
use Rattle.upc_values.specs.declared.action.Action.{Action}
use Rattle.upc_values.specs.declared.action.Reply.{Reply}
use Rattle.upc_values.specs.declared.record.ToldEnd.{ToldEnd}
use Rattle.upc_values.specs.declared.record.ToldEnd.TheVariants.{Wants, Misfit, Ended, Exit, Fault, OutOfTicks}
use Rattle.upc_values.specs.Outcomes.{Outcome, wanted}
use Rattle.upc_values.specs.Formed.{fits}
use Rattle.typed_tree.specs.Programs.{Checked, start_of}
use Rattle.thread_steps.specs.States.{Thread, State, Res, Val, Over, Unfinished}
use Rattle.thread_steps.specs.layer.Fronts.{Begins}
use Rattle.thread_steps.proofs.Depths.{depth}
use Rattle.thread_steps.proofs.Following as f
use Rattle.source_meaning.specs.Running.{Running, running}
use Rattle.source_meaning.specs.Threads.{course, initial_state, thread_outcome, outcome_of}
use Rattle.source_meaning.specs.Laws.{IsFinished, IsSettled, IsAnswered, IsUnfit, TakesReplies, AllTakeReplies}
use Rattle.source_meaning.proofs.Kept.{course_kept}
use Rattle.source_meaning.proofs.Finished.{begun_depth, is_total}

abbrev action_or : Action → Option Action → Action
action_or other None = other
action_or other (Some a) = a

abbrev pub IsNone : Option Action → Type 0
IsNone None = Unit {0}
IsNone (Some a) = ⊥

pub same_action : (a b : Action) → Wants a ≡ Wants b → a ≡ b
same_action a b e = ap (λ x. action_or a (wanted x)) e

abbrev number_or : ToldEnd → ℕ
number_or (Misfit k) = k
number_or e = 0

abbrev IsNoMisfit : ToldEnd → Type 0
IsNoMisfit (Misfit k) = ⊥
IsNoMisfit e = Unit {0}

no_misfit : (e : ToldEnd) (k : ℕ) → IsNoMisfit e → e ≡ Misfit k → ⊥
no_misfit e k n h = subst IsNoMisfit h n

pub none_wanted : (e : ToldEnd) (a : Action) → IsNone (wanted e) → e ≡ Wants a → ⊥
none_wanted e a n h = subst (λ x. IsNone (wanted x)) h n

-- What comes of a thread that begins with no action and so many replies, without and with further ones.
module _ (τ : Thread) (σ : State) (none : σ.actions ≡ []) where
  once_in : (r : Res ℤ) → f.Grown 0 σ r → length (outcome_of r).actions ≤ length σ.replies
  once_in (Val v υ) g = let e = ap length none in let t = g.2 in omega arith
  once_in (Over e υ) g = let h = ap length none in let t = g.1 in omega arith
  once_in Unfinished g = omega arith

  abbrev After : f.Later ℤ → Reply → List Reply → Outcome
  After R x xs = outcome_of (R x xs)

  -- Of an action that is wanted.
  pub record IsWanted (a : Action) (r : Res ℤ) (R : f.Later ℤ) : Type 0 where
    pub count : length (outcome_of r).actions ≡ length σ.replies
    pub kind : Option Kind
    pub answered : (x : Reply) (xs : List Reply)
        → IsAnswered τ kind a x (outcome_of r) (length σ.replies) (outcome_of (R x xs))

  reached_in : (actions : List Action) (r : Res ℤ) → IsFinished r → f.Reaches 0 actions r
      → Begins actions (outcome_of r).actions
  reached_in actions (Val v υ) done h = h.1
  reached_in actions (Over e υ) done h = h
  reached_in actions Unfinished done h = absurd done

  wanted_by : (a : Action) (υ : State) (R : f.Later ℤ) → f.Goes τ ℤ 0 σ (Over (Wants a) υ) R
      → ((x : Reply) (xs : List Reply) → IsFinished (R x xs)) → IsWanted a (Over (Wants a) υ) R
  wanted_by a υ R g done =
      let h = ap length none in
      let t = g.grown.1 in
      let left = ap length g.extends.none in
      let n : length υ.actions ≡ length σ.replies = omega arith in
      record {
        count = n;
        kind = g.extends.kind;
        answered = λ x xs. record {
          done = λ e. reached_in (υ.actions ++ a ∷ []) (R x xs) (done x xs) (g.extends.fit x xs e);
          misfit = λ e.
              let m = g.extends.misfit x xs e in
              (ap (λ s. (outcome_of s).«end») m ∙ ap (λ k. Misfit k) n, ap (λ s. (outcome_of s).actions) m);
        };
      }

  wanted_in : (r : Res ℤ) (R : f.Later ℤ) (a : Action) → f.Goes τ ℤ 0 σ r R
      → ((x : Reply) (xs : List Reply) → IsFinished (R x xs)) → (outcome_of r).«end» ≡ Wants a → IsWanted a r R
  wanted_in (Val v υ) R a g done e = absurd (none_wanted (Ended v) a tt e)
  wanted_in (Over (Wants b) υ) R a g done e =
      subst (λ c. IsWanted c (Over (Wants b) υ) R) (same_action b a e) (wanted_by b υ R g done)
  wanted_in (Over (Misfit k) υ) R a g done e = absurd (none_wanted (Misfit k) a tt e)
  wanted_in (Over (Ended v) υ) R a g done e = absurd (none_wanted (Ended v) a tt e)
  wanted_in (Over (Exit v) υ) R a g done e = absurd (none_wanted (Exit v) a tt e)
  wanted_in (Over (Fault code at) υ) R a g done e = absurd (none_wanted (Fault code at) a tt e)
  wanted_in (Over OutOfTicks υ) R a g done e = absurd (none_wanted OutOfTicks a tt e)
  wanted_in Unfinished R a g done e = absurd (none_wanted OutOfTicks a tt e)

  stays_in : (r : Res ℤ) (R : f.Later ℤ) (x : Reply) (xs : List Reply) → f.Goes τ ℤ 0 σ r R → IsFinished r
      → IsSettled (outcome_of r).«end» → outcome_of (R x xs) ≡ outcome_of r
  stays_in (Val v υ) R x xs g done s = ap outcome_of (g.extends x xs)
  stays_in (Over (Wants b) υ) R x xs g done s = absurd s
  stays_in (Over (Misfit k) υ) R x xs g done s = ap outcome_of (g.extends x xs)
  stays_in (Over (Ended v) υ) R x xs g done s = ap outcome_of (g.extends x xs)
  stays_in (Over (Exit v) υ) R x xs g done s = ap outcome_of (g.extends x xs)
  stays_in (Over (Fault code at) υ) R x xs g done s = ap outcome_of (g.extends x xs)
  stays_in (Over OutOfTicks υ) R x xs g done s = ap outcome_of (g.extends x xs)
  stays_in Unfinished R x xs g done s = absurd done

  -- A reply that does not fit is left, and it has the number of the actions before it.
  misfit_in : (r : Res ℤ) (k : ℕ) → f.Grown 0 σ r → (outcome_of r).«end» ≡ Misfit k
      → (length (outcome_of r).actions ≡ k) × (k < length σ.replies)
  misfit_in (Val v υ) k g e = absurd (no_misfit (Ended v) k tt e)
  misfit_in (Over (Wants a) υ) k g e = absurd (no_misfit (Wants a) k tt e)
  misfit_in (Over (Misfit i) υ) k g e =
      let same = ap number_or e in
      let h = ap length none in
      let t = g.1 in
      let p = g.2.0 in
      let q = g.2.1 in
      (omega arith, omega arith)
  misfit_in (Over (Ended v) υ) k g e = absurd (no_misfit (Ended v) k tt e)
  misfit_in (Over (Exit v) υ) k g e = absurd (no_misfit (Exit v) k tt e)
  misfit_in (Over (Fault code at) υ) k g e = absurd (no_misfit (Fault code at) k tt e)
  misfit_in (Over OutOfTicks υ) k g e = absurd (no_misfit OutOfTicks k tt e)
  misfit_in Unfinished k g e = absurd (no_misfit OutOfTicks k tt e)

-- ---- the replies before one that does not fit

-- A reply after which no further action is done did not fit.
unfit_by : (b : Bool) (a : Action) (before after : List Action) → length after ≡ length before
    → (b ≡ true → Begins (before ++ a ∷ []) after) → b ≡ false
unfit_by false a before after e f = refl
unfit_by true a before after e f =
    let g = f refl in
    let n = ap length g.1 in
    let m = length-append (before ++ a ∷ []) g.0 in
    let l = length_push before a in
    absurd (omega arith)

-- What an end wants, or that it is settled.
wants_or_settled : (e : ToldEnd) → ((a : Action) × (e ≡ Wants a)) ⊎ IsSettled e
wants_or_settled (Wants a) = inl (a, refl)
wants_or_settled (Misfit k) = inr tt
wants_or_settled (Ended v) = inr tt
wants_or_settled (Exit v) = inr tt
wants_or_settled (Fault code at) = inr tt
wants_or_settled OutOfTicks = inr tt

-- The k-th reply, with those before it and those after it.
split_at : (k : ℕ) (rs : List Reply) → k < length rs
    → (front : List Reply) × (r : Reply) × (more : List Reply) × (rs ≡ front ++ r ∷ more) × (length front ≡ k)
split_at k [] lt = absurd (omega arith)
split_at zero (r ∷ rs) lt = ([], r, rs, refl, refl)
split_at (suc k) (r ∷ rs) lt =
    let t = split_at k rs (omega arith) in
    (r ∷ t.0, t.1, t.2, ap (λ l. r ∷ l) t.3, ap suc t.4)

pub all_take_replies : (program : Checked) → AllTakeReplies program
unfolding thread_outcome
all_take_replies program = record { each = λ thread budget some. of thread budget some }
  where
    begun : depth (initial_state program []).store ≡ 0
    begun = begun_depth (start_of program).private_shapes (start_of program).private_initials

    goes : (thread budget : ℕ) (rs : List Reply)
        → f.Goes (running program thread budget).thread ℤ 0 (initial_state program rs)
        (course (running program thread budget) (initial_state program rs))
        (λ x xs. course (running program thread budget) (initial_state program (rs ++ x ∷ xs)))
    goes thread budget rs =
        let ρ = running program thread budget in
        (course_kept ρ (f.Follows ρ.thread) (f.following ρ.thread)).by (initial_state program rs) begun

    of : (thread budget : ℕ) → 0 < budget
        → TakesReplies (running program thread budget).thread (thread_outcome program thread budget)
    of thread budget some = record {
      once = λ rs. once_in τ (σ rs) refl (r rs) (goes thread budget rs).grown;
      wants = λ rs a e. (wanted rs a e).count;
      goes = λ rs a e. ((wanted rs a e).kind, (wanted rs a e).answered);
      stays = stays;
      misfits = λ rs k e. misfits rs k e;
    }
      where
        ρ : Running
        ρ = running program thread budget

        τ : Thread
        τ = (running program thread budget).thread

        σ : List Reply → State
        σ rs = initial_state program rs

        r : List Reply → Res ℤ
        r rs = course (running program thread budget) (initial_state program rs)

        finished : (rs : List Reply) → IsFinished (r rs)
        finished rs = (is_total program).finished thread budget rs some

        wanted : (rs : List Reply) (a : Action) → (outcome_of (r rs)).«end» ≡ Wants a
            → IsWanted τ (σ rs) refl a (r rs) (λ x xs. r (rs ++ x ∷ xs))
        wanted rs a e = wanted_in τ (σ rs) refl (r rs) (λ x xs. r (rs ++ x ∷ xs)) a (goes thread budget rs)
            (λ x xs. finished (rs ++ x ∷ xs)) e

        stays : (rs : List Reply) (x : Reply) (xs : List Reply) → IsSettled (outcome_of (r rs)).«end»
            → outcome_of (r (rs ++ x ∷ xs)) ≡ outcome_of (r rs)
        stays rs x xs s = stays_in τ (σ rs) refl (r rs) (λ y ys. r (rs ++ y ∷ ys)) x xs (goes thread budget rs)
            (finished rs) s

        misfits : (rs : List Reply) (k : ℕ) → (outcome_of (r rs)).«end» ≡ Misfit k
            → IsUnfit τ (λ l. outcome_of (r l)) rs k
        misfits rs k e =
            let m = misfit_in τ (σ rs) refl (r rs) k (goes thread budget rs).grown e in
            let t = split_at k rs m.1 in
            by_end m.0 t.0 t.1 t.2 t.3 t.4 (wants_or_settled (outcome_of (r t.0)).«end»)
          where
            by_end : length (outcome_of (r rs)).actions ≡ k → (front : List Reply) (x : Reply) (more : List Reply)
                → rs ≡ front ++ x ∷ more → length front ≡ k
                → ((a : Action) × ((outcome_of (r front)).«end» ≡ Wants a)) ⊎ IsSettled (outcome_of (r front)).«end»
                → IsUnfit τ (λ l. outcome_of (r l)) rs k
            by_end many front x more is place (inl w) =
                let i = wanted front w.0 w.1 in
                let there = subst (λ l. length (outcome_of (r l)).actions ≡ k) is many in
                let count = i.count in
                record {
                  front = front;
                  reply = x;
                  more = more;
                  is = is;
                  place = place;
                  action = w.0;
                  wanted = w.1;
                  kind = i.kind;
                  answered = λ y ys.
                      subst (λ j. IsAnswered τ i.kind w.0 y (outcome_of (r front)) j (outcome_of (r (front ++ y ∷ ys))))
                      place (i.answered y ys);
                  unfit = unfit_by (fits τ.threads τ.shapes i.kind w.0 x) w.0 (outcome_of (r front)).actions
                      (outcome_of (r (front ++ x ∷ more))).actions (omega arith) (i.answered x more).done;
                }
            by_end many front x more is place (inr s) =
                let same = stays front x more s in
                let there = subst (λ l. (outcome_of (r l)).«end» ≡ Misfit k) is e in
                let here = sym (ap (λ o. o.«end») same) ∙ there in
                let m = misfit_in τ (σ front) refl (r front) k (goes thread budget front).grown here in
                let lt = m.1 in
                absurd (omega arith)
