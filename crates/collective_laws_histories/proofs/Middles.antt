-- What all threads do between the last of the entry notifies of a call and the last of its exit notifies.
use Rattle.std.proofs.Common.{◌≡◌, ℕ, ◌+◌, ◌<◌, Bool, true, false, List, [], ◌∷◌, ◌++◌, length, Some, None, refl, sym}
use Rattle.std.proofs.Common.{ap, ◌∙◌, subst, inl, inr, append_assoc, arith}
use Rattle.std.proofs.lemmas.Bool.{false≢true, cases_lt}
use Rattle.std.proofs.lemmas.List.{length-append}
use Rattle.block_layout.specs.declared.place.Loc.{Loc}
use Rattle.block_layout.specs.declared.kind.Shape.{Shape}
use Rattle.upc_values.specs.declared.scalar.Scalar.{Scalar}
use Rattle.upc_values.specs.declared.scalar.Mark.TheVariants.{Absent}
use Rattle.upc_values.specs.declared.action.Action.{Action}
use Rattle.upc_values.specs.declared.action.Action.TheVariants as act
use Rattle.upc_values.specs.declared.journal.Entry.{Entry}
use Rattle.upc_values.specs.Lists.{Each, Has}
use Rattle.upc_values.specs.Drain.{entries_of, written}
use Rattle.upc_values.specs.Waits.{WaitsFollow}
use Rattle.upc_values.specs.History.{is_notify, is_wait, all_notified}
use Rattle.upc_values.specs.Together.{EndsNotified}
use Rattle.upc_values.proofs.Membership.{each-has, has-cases}
use Rattle.upc_values.proofs.Unmade.{is_maker}
use Rattle.collective_laws_words.specs.layer.Steps.{Step}
use Rattle.collective_laws_words.specs.layer.Interface.{Wrote}
use Rattle.collective_laws_histories.proofs.Lists.{tail_of, longer, count-append, count-yes, count-no, count-none}
use Rattle.collective_laws_histories.proofs.Walking.{is_relaxed}
use Rattle.collective_laws_histories.proofs.Syncing.{many}
use Rattle.collective_laws_histories.proofs.Going.{relaxed-no_wait}
use Rattle.collective_laws_histories.proofs.Courses.{OfBody, Course}
use Rattle.collective_laws_histories.proofs.Fronts.{own-append, notified-more, notified-less, ends-at}

-- ---- counts in a course

one-no : (g : Action → Bool) (xs : List Entry) (e : Entry) → g e.action ≡ false → many g (xs ++ e ∷ []) ≡ many g xs
one-no g xs e h =
    let a = count-append (λ x. g x.action) xs (e ∷ []) in
    let b : many g (e ∷ []) ≡ 0 = count-no (λ x. g x.action) e [] h in
    omega arith

one-yes : (g : Action → Bool) (xs : List Entry) (e : Entry) → g e.action ≡ true
    → many g (xs ++ e ∷ []) ≡ many g xs + 1
one-yes g xs e h =
    let a = count-append (λ x. g x.action) xs (e ∷ []) in
    let b : many g (e ∷ []) ≡ 1 = count-yes (λ x. g x.action) e [] h in
    omega arith

relaxed-no_notify : (a : Action) → is_relaxed a ≡ true → is_notify a ≡ false
relaxed-no_notify (act.Write s l v) h = refl
relaxed-no_notify (act.Read l s) h = refl
relaxed-no_notify a h = absurd (false≢true h)

relaxed-no_maker : (a : Action) → is_relaxed a ≡ true → is_maker a ≡ false
relaxed-no_maker (act.Write s l v) h = refl
relaxed-no_maker (act.Read l s) h = refl
relaxed-no_maker a h = absurd (false≢true h)

body-none : (g : Action → Bool) → ((a : Action) → is_relaxed a ≡ true → g a ≡ false) → (dids : List Step)
    (body : List Entry) → Each (OfBody dids) body → Each (λ e. g e.action ≡ false) body
body-none g f dids [] h = tt
body-none g f dids (e ∷ body) h = (f e.action h.0.0, body-none g f dids body h.1)

many-body : (g : Action → Bool) → ((a : Action) → is_relaxed a ≡ true → g a ≡ false) → (dids : List Step)
    (xs body : List Entry) → Each (OfBody dids) body → many g (xs ++ body) ≡ many g xs
many-body g f dids xs body h =
    let a = count-append (λ x. g x.action) xs body in
    let b : many g body ≡ 0 = count-none (λ x. g x.action) body (body-none g f dids body h) in
    omega arith

module _ (threads : ℕ) (shapes : List Shape) (history : List Entry) (t n c : ℕ) (args : List Scalar)
    (k : Course threads shapes history t n c args) where
  -- The thread's entries up to its notify at the entry.
  abbrev pub to_entry : List Entry
  to_entry = (k.front ++ k.meet ∷ []) ++ k.first ∷ []

  -- The thread's entries up to the last of its work.
  abbrev pub to_exit : List Entry
  to_exit = (to_entry ++ k.second ∷ []) ++ k.body

  notified-before : many is_notify (k.front ++ k.meet ∷ []) ≡ n
  notified-before = one-no is_notify k.front k.meet (ap is_notify k.meets) ∙ k.notified

  waited-before : many is_wait to_entry ≡ n
  waited-before =
      one-no is_wait (k.front ++ k.meet ∷ []) k.first (ap is_wait k.notifies)
      ∙ one-no is_wait k.front k.meet (ap is_wait k.meets) ∙ k.waited

  notified-after : many is_notify to_exit ≡ n + 1
  notified-after =
      many-body is_notify relaxed-no_notify k.dids (to_entry ++ k.second ∷ []) k.body k.each
      ∙ one-no is_notify to_entry k.second (ap is_notify k.waits)
      ∙ one-yes is_notify (k.front ++ k.meet ∷ []) k.first (ap is_notify k.notifies)
      ∙ ap (λ z. z + 1) notified-before

  waited-after : many is_wait (to_exit ++ k.third ∷ []) ≡ n + 1
  waited-after =
      one-no is_wait to_exit k.third (ap is_wait k.notifies_again)
      ∙ many-body is_wait relaxed-no_wait k.dids (to_entry ++ k.second ∷ []) k.body k.each
      ∙ one-yes is_wait to_entry k.second (ap is_wait k.waits) ∙ ap (λ z. z + 1) waited-before

  regroup_entry : (f y : List Entry) (a b d : Entry)
      → f ++ a ∷ b ∷ d ∷ y ≡ (f ++ a ∷ []) ++ b ∷ d ∷ y
  regroup_entry f y a b d = sym (append_assoc f (a ∷ []) (b ∷ d ∷ y))

  regroup_exit : (f m y : List Entry) (a b d e g : Entry)
      → f ++ a ∷ b ∷ d ∷ (m ++ e ∷ g ∷ y) ≡ ((((f ++ a ∷ []) ++ b ∷ []) ++ d ∷ []) ++ m) ++ e ∷ g ∷ y
  regroup_exit f m y a b d e g = simp append_assoc

  pub own-entered : (entered : List Entry) → EndsNotified threads n entered history → WaitsFollow threads history
      → t < threads → entries_of t entered ≡ to_entry
  own-entered entered ends follow below =
      ends-at threads n entered history ends follow t below (k.front ++ k.meet ∷ [])
      (k.body ++ k.third ∷ k.fourth ∷ k.rest) k.first k.second
      (k.is ∙ regroup_entry k.front (k.body ++ k.third ∷ k.fourth ∷ k.rest) k.meet k.first k.second)
      (ap is_notify k.notifies) (ap is_wait k.waits) notified-before waited-before

  own-left : (left : List Entry) → EndsNotified threads (n + 1) left history → WaitsFollow threads history
      → t < threads → entries_of t left ≡ to_exit ++ k.third ∷ []
  own-left left ends follow below =
      ends-at threads (n + 1) left history ends follow t below to_exit k.rest k.third k.fourth
      (k.is ∙ regroup_exit k.front k.body k.rest k.meet k.first k.second k.third k.fourth)
      (ap is_notify k.notifies_again) (ap is_wait k.waits_again) notified-after waited-after

  cancel : (xs ys zs : List Entry) → xs ++ ys ≡ xs ++ zs → ys ≡ zs
  cancel [] ys zs e = e
  cancel (x ∷ xs) ys zs e = cancel xs ys zs (ap tail_of e)

  regroup_middle : (f m : List Entry) (d e : Entry) → ((f ++ d ∷ []) ++ m) ++ e ∷ [] ≡ f ++ d ∷ (m ++ e ∷ [])
  regroup_middle f m d e = simp append_assoc

  -- Between the two the thread has its wait, its work and its notify at the exit.
  pub own-middle : (entered left middle : List Entry) → EndsNotified threads n entered history
      → EndsNotified threads (n + 1) left history → WaitsFollow threads history → t < threads
      → left ≡ entered ++ middle → entries_of t middle ≡ k.second ∷ (k.body ++ k.third ∷ [])
  own-middle entered left middle ein eout follow below is =
      let a = own-entered entered ein follow below in
      let b = own-left left eout follow below in
      let e : to_entry ++ entries_of t middle ≡ to_entry ++ k.second ∷ (k.body ++ k.third ∷ []) =
      ap (λ z. z ++ entries_of t middle) (sym a) ∙ sym (own-append t entered middle) ∙ ap (entries_of t) (sym is) ∙ b
      ∙ regroup_middle to_entry k.body k.second k.third in
      cancel to_entry (entries_of t middle) (k.second ∷ (k.body ++ k.third ∷ [])) e

  -- An entry makes nothing, and what it writes is written by these steps.
  abbrev pub OfMiddle : Entry → Type 0
  OfMiddle e =
      (is_maker e.action ≡ false) × ((l : Loc) (v : Scalar) → written l e.action ≡ Some v → Wrote l v k.dids)

  no-value : (v : Scalar) → None ≡ Some v → ⊥
  no-value v h = cc

  of-notify : (e : Entry) → e.action ≡ act.Notify Absent → OfMiddle e
  of-notify e h = (ap is_maker h, λ l v w. absurd (no-value v (sym (ap (written l) h) ∙ w)))

  of-wait : (e : Entry) → e.action ≡ act.Wait Absent → OfMiddle e
  of-wait e h = (ap is_maker h, λ l v w. absurd (no-value v (sym (ap (written l) h) ∙ w)))

  pub of-middle : (e : Entry) → Has (k.second ∷ (k.body ++ k.third ∷ [])) e → OfMiddle e
  of-middle e (inl q) = subst OfMiddle q (of-wait k.second k.waits)
  of-middle e (inr m) =
      elim (has-cases k.body (k.third ∷ []) e m) [
        | inl b ↦
            let p = each-has (OfBody k.dids) k.body k.each e b in
            (relaxed-no_maker e.action p.0, p.1)
        | inr z ↦ elim z [ inl q ↦ subst OfMiddle q (of-notify k.third k.notifies_again) | inr x ↦ absurd x ]
      ]

-- What lies between two fronts of a history.
pub record Middle (entered left history : List Entry) : Type 0 where
  pub middle : List Entry
  pub rest : List Entry
  pub is : left ≡ entered ++ middle
  pub history_is : history ≡ (entered ++ middle) ++ rest

-- The last of the next notifies comes after the last of these.
pub middle-of : (threads n : ℕ) (entered left history : List Entry) → EndsNotified threads n entered history
    → EndsNotified threads (n + 1) left history → Middle entered left history
middle-of threads n entered left history ein eout =
    elim (cases_lt (length left) (length entered)) [
      | inl lt ↦
          let a = ap length ein.front_is ∙ length-append ein.before (ein.last ∷ []) in
          let e : left ++ eout.rest ≡ ein.before ++ (ein.last ∷ ein.rest) =
          sym eout.history_is ∙ ein.history_is ∙ ap (λ z. z ++ ein.rest) ein.front_is
          ∙ append_assoc ein.before (ein.last ∷ []) ein.rest in
          let r = longer left eout.rest ein.before (ein.last ∷ ein.rest) e (omega arith) in
          let less = notified-less threads (n + 1) n left (omega arith) eout.all in
          let more = subst (λ z. all_notified threads n z ≡ true) (sym r.1) (notified-more threads n left r.0 less) in
          absurd (false≢true (sym ein.not_before ∙ more))
      | inr ge ↦
          let r = longer entered ein.rest left eout.rest (sym ein.history_is ∙ eout.history_is) ge in
          record {
            middle = r.0;
            rest = eout.rest;
            is = r.1;
            history_is = eout.history_is ∙ ap (λ z. z ++ eout.rest) r.1;
          }
    ]
