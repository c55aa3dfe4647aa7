-- An entry that lets another go on stands before it, and both are strict.
use Rattle.std.proofs.Common.{◌≡◌, ℕ, ◌<◌, ◌==◌, ◌&&◌, Bool, true, List, ◌∷◌, filter, slice_get, Some, refl, sym, ◌∙◌, subst}
use Rattle.std.proofs.lemmas.Bool.{false≢true, and_parts}
use Rattle.block_layout.specs.declared.place.Loc.{Loc}
use Rattle.upc_values.specs.declared.scalar.Scalar.{Scalar}
use Rattle.upc_values.specs.declared.action.Action.{Action}
use Rattle.upc_values.specs.declared.action.Action.TheVariants as act
use Rattle.upc_values.specs.declared.action.Reply.{Reply}
use Rattle.upc_values.specs.declared.action.Reply.TheVariants.{Done, Value, Flag, Refused}
use Rattle.upc_values.specs.declared.journal.Entry.{Entry}
use Rattle.upc_values.specs.declared.journal.Journal.{Journal}
use Rattle.upc_values.specs.History.{is_notify, is_wait, waits, notifies}
use Rattle.upc_values.specs.Waits.{WaitsFollow}
use Rattle.upc_values.specs.Locks.{takes, lets_go}
use Rattle.upc_values.specs.Operations.{Operation, accesses, accesses_of}
use Rattle.upc_values.specs.Orders.{placed, global_order}
use Rattle.upc_values.specs.Consistent.{FollowsBuffers}
use Rattle.upc_values.specs.Lists.{Each, Has, Precedes}
use Rattle.upc_values.proofs.Membership.{each-has, filter-has, precedes-has, precedes-filter}
use Rattle.race_report.specs.Reach.{notifies_of, waits_of, Releases, At_barrier, By_lock, By_value}
use Rattle.race_report.proofs.Lists.{counted, counted-is, slice-has, before, early, flat-precedes}
use Rattle.race_report.proofs.Moved.{front-precedes}
use Rattle.upc_values.proofs.Consistency.{global-only}
use Rattle.race_report.proofs.Covering.{placed-own}
use Rattle.race_report.proofs.Bridging.{Crosses}

-- strict ones
abbrev AreStrict : List Operation → Type 0
AreStrict os = Each (λ o. o.strict ≡ true) os

strict-notify : (t i : ℕ) (a : Action) (r : Reply) → is_notify a ≡ true → AreStrict (accesses_of t i a r)
strict-notify t i (act.Notify m) Done h = (refl, tt)
strict-notify t i (act.Notify m) (Value v) h = (refl, tt)
strict-notify t i (act.Notify m) (Flag b) h = (refl, tt)
strict-notify t i (act.Notify m) (Refused c) h = tt
strict-notify t i a r h = absurd (false≢true h)

strict-wait : (t i : ℕ) (a : Action) (r : Reply) → is_wait a ≡ true → AreStrict (accesses_of t i a r)
strict-wait t i (act.Wait m) Done h = (refl, tt)
strict-wait t i (act.Wait m) (Value v) h = (refl, tt)
strict-wait t i (act.Wait m) (Flag b) h = (refl, tt)
strict-wait t i (act.Wait m) (Refused c) h = tt
strict-wait t i a r h = absurd (false≢true h)

strict-let_go : (l t i : ℕ) (a : Action) (r : Reply) → lets_go l a r ≡ true → AreStrict (accesses_of t i a r)
strict-let_go l t i (act.Unlock k) Done h = (refl, tt)
strict-let_go l t i a r h = absurd (false≢true h)

strict-taken : (l t i : ℕ) (a : Action) (r : Reply) → takes l a r ≡ true → AreStrict (accesses_of t i a r)
strict-taken l t i (act.Lock k) Done h = (refl, tt)
strict-taken l t i (act.Attempt k) (Flag true) h = (refl, tt)
strict-taken l t i a r h = absurd (false≢true h)

strict-write : (l : Loc) (v : Scalar) (t i : ℕ) (r : Reply) → AreStrict (accesses_of t i (act.Write true l v) r)
strict-write l v t i Done = (refl, tt)
strict-write l v t i (Value u) = (refl, tt)
strict-write l v t i (Flag b) = (refl, tt)
strict-write l v t i (Refused c) = tt

strict-read : (l : Loc) (t i : ℕ) (r : Reply) → AreStrict (accesses_of t i (act.Read l true) r)
strict-read l t i Done = tt
strict-read l t i (Value u) = (refl, tt)
strict-read l t i (Flag b) = tt
strict-read l t i (Refused c) = tt

module _ (j : Journal) (f : FollowsBuffers j) (follow : WaitsFollow j.threads j.history) where
  below : (e : Entry) → Has j.history e → e.thread < j.threads
  below e m = each-has (λ x. x.thread < j.threads) j.history f.below e m

  -- a notify of a phase stands before each wait of it
  barrier-precedes : (p : ℕ) (e g : Entry) → slice_get (notifies_of e.thread j.history) p ≡ Some e → slice_get (waits_of g.thread j.history) p ≡ Some g → Precedes j.history e g
  barrier-precedes p e g he hg =
      let n : Entry → Bool = λ x. (x.thread == e.thread) && is_notify x.action in
      let w : Entry → Bool = λ x. (x.thread == g.thread) && is_wait x.action in
      let me = filter-has n j.history e (slice-has (notifies_of e.thread j.history) p e he) in
      let mg = filter-has w j.history g (slice-has (waits_of g.thread j.history) p g hg) in
      let cut = before w j.history p g hg in
      let more : waits g.thread cut.front < notifies e.thread cut.front =
      follow cut.front cut.rest g cut.is (and_parts (g.thread == g.thread) (is_wait g.action) mg.1).1 e.thread (below e me.0) in
      let m : waits g.thread cut.front ≡ p = sym (counted-is w cut.front) ∙ cut.many in
      let lt : p < counted n cut.front = subst (λ k. p < k) (sym (counted-is n cut.front)) (subst (λ k. k < notifies e.thread cut.front) m more) in
      let here = early n cut.front (g ∷ cut.rest) p e (subst (λ h. slice_get (filter n h) p ≡ Some e) cut.is he) lt in
      subst (λ h. Precedes h e g) (sym cut.is) (front-precedes cut.front g cut.rest e here)

  releases-precede : (e g : Entry) → Releases j.history e g → Precedes j.history e g
  releases-precede _ _ (At_barrier p e g he hg) = barrier-precedes p e g he hg
  releases-precede _ _ (By_lock l e g p x y) = p
  releases-precede _ _ (By_value l v e g p x y) = p

  first-strict : (e g : Entry) → Releases j.history e g → AreStrict (accesses e)
  first-strict _ _ (At_barrier p e g he hg) =
      let n : Entry → Bool = λ x. (x.thread == e.thread) && is_notify x.action in
      let m = filter-has n j.history e (slice-has (notifies_of e.thread j.history) p e he) in
      strict-notify e.thread e.index e.action e.reply (and_parts (e.thread == e.thread) (is_notify e.action) m.1).1
  first-strict _ _ (By_lock l e g p x y) = strict-let_go l e.thread e.index e.action e.reply x
  first-strict _ _ (By_value l v e g p x y) =
      subst (λ a. AreStrict (accesses_of e.thread e.index a e.reply)) (sym x) (strict-write l v e.thread e.index e.reply)

  second-strict : (e g : Entry) → Releases j.history e g → AreStrict (accesses g)
  second-strict _ _ (At_barrier p e g he hg) =
      let w : Entry → Bool = λ x. (x.thread == g.thread) && is_wait x.action in
      let m = filter-has w j.history g (slice-has (waits_of g.thread j.history) p g hg) in
      strict-wait g.thread g.index g.action g.reply (and_parts (g.thread == g.thread) (is_wait g.action) m.1).1
  second-strict _ _ (By_lock l e g p x y) = strict-taken l g.thread g.index g.action g.reply y
  second-strict _ _ (By_value l v e g p x y) =
      subst (λ a. AreStrict (accesses_of g.thread g.index a g.reply)) (sym y) (strict-read l g.thread g.index g.reply)

  pub crosses : Crosses j
  crosses e g a b l h k =
      let p = releases-precede e g l in
      let m = precedes-has j.history e g p in
      let x = placed-own j f e (below e m.0) m.0 a h in
      let y = placed-own j f g (below g m.1) m.1 b k in
      let q : Precedes (global_order j) a b = flat-precedes (placed j) j.history e g a b p x y in
      let o = precedes-has (global_order j) a b q in
      let s : a.strict ≡ true = each-has (λ z. z.strict ≡ true) (accesses e) (first-strict e g l) a h in
      let t : b.strict ≡ true = each-has (λ z. z.strict ≡ true) (accesses g) (second-strict e g l) b k in
      ((global-only j f a o.0, s), (global-only j f b o.1, t), precedes-filter (λ z. z.strict) (global_order j) a b s t q)
