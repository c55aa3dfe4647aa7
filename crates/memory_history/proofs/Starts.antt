-- The pointers that allocations gave are the starts of the objects made.
use Rattle.std.proofs.Common.{◌≡◌, ◌==◌, ℕ, Bool, true, false, not, ◌&&◌, ◌||◌, cond, List, [], ◌∷◌, ◌++◌, length, filter, map, Option, Some, None, is_none, refl, sym, ap, subst, ◌∙◌, ◌⊎◌, inl, inr, eqb-true}
use Rattle.std.specs.List.{list_any, cons_option}
use Rattle.std.proofs.lemmas.Bool.{and_parts, cond_both, false≢true, cases_Bool}
use Rattle.block_layout.specs.declared.place.ObjectRef.{ObjectRef}
use Rattle.block_layout.specs.declared.place.SharedPtr.{SharedPtr}
use Rattle.block_layout.specs.declared.run_error.TheConstants.{COLLECTIVE_MISMATCH}
use Rattle.upc_values.specs.declared.scalar.Scalar.{Scalar}
use Rattle.upc_values.specs.declared.action.Action.{Action}
use Rattle.upc_values.specs.declared.action.Action.TheVariants as act
use Rattle.upc_values.specs.declared.action.Reply.{Reply}
use Rattle.upc_values.specs.declared.action.Reply.TheVariants.{Refused}
use Rattle.upc_values.specs.declared.journal.Entry.{Entry}
use Rattle.upc_values.specs.Lists.{Has}
use Rattle.upc_values.specs.Scalars.{same_scalar}
use Rattle.upc_values.specs.Calls.{Other, call_of}
use Rattle.upc_values.specs.Drain.{entry_of}
use Rattle.upc_values.specs.Openings.{Opening}
use Rattle.upc_values.specs.History.{picked, asked, meets, Lead, leader, led, pointer_of, makes, object_of, made, is_released, allocated, same_list, same_call, notifies, meet_reply, reply, IsLegal}
use Rattle.block_layout.specs.Pointers.{same_target}
use Rattle.upc_values.specs.Formed.{AreWellFormed}
use Rattle.upc_values.proofs.Sameness.{same_scalar-true}
use Rattle.upc_values.proofs.Membership.{has-left, has-right, has-cases, has-filter}
use Rattle.shared_heap.specs.layer.Heap.{start_of, is_live_start}
use Rattle.memory_history.proofs.Growing.{allocated-push}
use Rattle.memory_history.proofs.Entries.{Keeps, by_entries, picked-has, has-filter_map, filter_map-has, list_any-has, has-list_any, both-true, leader-has}
use Rattle.memory_history.proofs.Objects.{made_in, made_by, given_by, made-push, Makes, makes-given, given-made, made-cases}

-- ---- equal calls

same_list-true : (vs ws : List Scalar) → same_list vs ws ≡ true → vs ≡ ws
same_list-true [] [] h = refl
same_list-true [] (w ∷ ws) h = absurd (false≢true h)
same_list-true (v ∷ vs) [] h = absurd (false≢true h)
same_list-true (v ∷ vs) (w ∷ ws) h =
    let p = and_parts (same_scalar v w) (same_list vs ws) h in
    let first = same_scalar-true v w p.0 in
    let rest = same_list-true vs ws p.1 in
    cc

-- an action that is the same call with equal arguments
pub same_call-true : (c : ℕ) (args : List Scalar) (a : Action) → same_call c args a ≡ true → a ≡ act.Meet c args
same_call-true c args (act.Meet d brgs) h =
    let p = and_parts (c == d) (same_list args brgs) h in
    let number : c ≡ d = eqb-true c d p.0 in
    let rest = same_list-true args brgs p.1 in
    cc
same_call-true c args a h = absurd (false≢true h)

-- ---- what one more allocation gives

single : (p : Option SharedPtr) (q : SharedPtr) → Has (cons_option p []) q → p ≡ Some q
single (Some p) q (inl x) = ap Some x
single (Some p) q (inr k) = absurd k
single None q k = absurd k

given-has : (e : Entry) (q : SharedPtr) → Has (given_by e) q
    → (makes e.action (asked e.action) ≡ true) × (pointer_of e.reply ≡ Some q)
given-has e q h =
    cond_both (makes e.action (asked e.action)) (cons_option (pointer_of e.reply) []) []
    (λ z. Has z q → (makes e.action (asked e.action) ≡ true) × (pointer_of e.reply ≡ Some q))
    (λ t k. (t, single (pointer_of e.reply) q k)) (λ t k. absurd k) h

-- a collective allocation that does not lead gives what the first of its call gave
repeats-meet : (o : Opening) (es : List Entry) (t i c : ℕ) (args : List Scalar) (r : Reply) (q : SharedPtr)
    → makes (act.Meet c args) (led es (entry_of t i (act.Meet c args) r)) ≡ false
    → makes (act.Meet c args) (call_of c args) ≡ true
    → pointer_of r ≡ Some q → (w : Option Lead) → leader (length (meets t es)) es ≡ w → meet_reply o es t c args w ≡ r
    → Has (allocated es) q
repeats-meet o es t i c args r q other asks p None k m =
    absurd (false≢true
    (sym other ∙ ap (λ z. makes (act.Meet c args) (cond (is_none z) (call_of c args) Other)) k ∙ asks))
repeats-meet o es t i c args r q other asks p (Some w) k m =
    let test : Entry → Bool = λ x. makes x.action (asked x.action) in
    cond_both (same_call c args w.entry.action && (notifies t es == notifies w.entry.thread w.before)) w.entry.reply
    (Refused COLLECTIVE_MISMATCH)
    (λ z. z ≡ r → Has (allocated es) q)
    (λ s x.
    let same = and_parts (same_call c args w.entry.action) (notifies t es == notifies w.entry.thread w.before) s in
    has-filter_map (λ x. pointer_of x.reply) (filter test es) w.entry q
    (has-filter test es w.entry (ap (λ z. makes z (asked z)) (same_call-true c args w.entry.action same.0) ∙ asks)
    (leader-has (length (meets t es)) es w k))
    (ap pointer_of x ∙ p))
    (λ s x. let none : None ≡ Some q = ap pointer_of x ∙ p in absurd cc) m

some-same : (q r : Reply) → Some q ≡ Some r → q ≡ r
some-same q r h = cc

repeats : (o : Opening) (es : List Entry) (t i : ℕ) (a : Action) (r : Reply) (q : SharedPtr) → reply o es t a ≡ Some r
    → makes a (led es (entry_of t i a r)) ≡ false → makes a (asked a) ≡ true → pointer_of r ≡ Some q
    → Has (allocated es) q
repeats o es t i (act.Alloc n b h s) r q e other asks p = absurd (false≢true (sym other))
repeats o es t i (act.Meet c args) r q e other asks p =
    repeats-meet o es t i c args r q other asks p (leader (length (meets t es)) es) refl
    (some-same (meet_reply o es t c args (leader (length (meets t es)) es)) r e)
repeats o es t i a r q e other asks p = absurd (false≢true asks)

-- ---- starts

-- the pointer is the start of an object that the history made
pub record IsStart (es : List Entry) (q : SharedPtr) : Type 0 where
  pub made : Has (made_in es) q.object
  pub start : q ≡ start_of q.object

start-stays : (es : List Entry) (e : Entry) (q : SharedPtr) → IsStart es q → IsStart (es ++ e ∷ []) q
start-stays es e q s = record {
  made = subst (λ z. Has z q.object) (sym (made-push es e)) (has-left (made_in es) (made_by es e) q.object s.made);
  start = s.start;
}

new-start : (o : Opening) (es : List Entry) (e : Entry) (q : SharedPtr) → pointer_of e.reply ≡ Some q
    → made_by es e ≡ q.object ∷ []
    → (made_by es e ≡ []) ⊎ Makes o es e → IsStart (es ++ e ∷ []) q
new-start o es e q g m (inl none) = let clash : [] ≡ q.object ∷ [] = sym none ∙ m in absurd cc
new-start o es e q g m (inr k) =
    let p = made o es k.nblocks k.nbytes k.home k.shape in
    let given = makes-given o es e k in
    let same : p ≡ q = cc in
    record {
      made =
          subst (λ z. Has z q.object) (sym (made-push es e))
          (has-right (made_in es) (made_by es e) q.object (subst (λ z. Has z q.object) (sym m) (inl refl)));
      start = subst (λ (z : SharedPtr). z ≡ start_of z.object) same refl;
    }

starts-keep : (o : Opening) → Keeps o (λ es. (q : SharedPtr) → Has (allocated es) q → IsStart es q)
starts-keep o es e l f w r all q h =
    elim (has-cases (allocated es) (given_by e) q (subst (λ z. Has z q) (allocated-push es e) h)) [
      | inl old ↦ start-stays es e q (all q old)
      | inr new ↦
          let g = given-has e q new in
          elim (cases_Bool (makes e.action (led es e))) [
            | inl leads ↦
                new-start o es e q g.1 (given-made es e q leads g.1)
                (made-cases o es e.thread e.index e.action e.reply w r)
            | inr other ↦ start-stays es e q (all q (repeats o es e.thread e.index e.action e.reply q r other g.0 g.1))
          ]
    ]

-- each pointer that an allocation gave is the start of an object made
pub allocated-start : (o : Opening) (es : List Entry) → IsLegal o es → AreWellFormed o es → (q : SharedPtr)
    → Has (allocated es) q → IsStart es q
allocated-start o es l f =
    by_entries o (λ z. (q : SharedPtr) → Has (allocated z) q → IsStart z q) (λ q h. absurd h) (starts-keep o) es l f

pub makes-asked : (a : Action) (b : Bool) → makes a (cond b (asked a) Other) ≡ true → makes a (asked a) ≡ true
makes-asked (act.Alloc n m h s) b e = refl
makes-asked a true e = e
makes-asked a false e = absurd (false≢true e)

object-pointer : (p : Option SharedPtr) (x : ObjectRef)
    → elim p as (λ z. Option ObjectRef) [ Some y ↦ Some y.object | None ↦ None ] ≡ Some x
    → (q : SharedPtr) × (p ≡ Some q) × (q.object ≡ x)
object-pointer (Some q) x h = let same : q.object ≡ x = cc in (q, refl, same)
object-pointer None x h = absurd cc

-- an object made is that of a pointer that an allocation gave
made-allocated : (es : List Entry) (x : ObjectRef) → Has (made_in es) x
    → (q : SharedPtr) × Has (allocated es) q × (q.object ≡ x)
made-allocated es x h =
    let test : List Entry → Entry → Bool = λ b y. makes y.action (led b y) in
    let own : Entry → Bool = λ y. makes y.action (asked y.action) in
    let f = filter_map-has object_of (picked test es) x h in
    let e : Entry = f.0 in
    let p = picked-has test [] es e f.1 in
    let q = object-pointer (pointer_of e.reply) x f.2 in (
      q.0,
      has-filter_map (λ y. pointer_of y.reply) (filter own es) e q.0
          (has-filter own es e (makes-asked e.action (is_none (leader (length (meets e.thread p.1)) p.1)) p.2) p.0) q.1,
      q.2,
    )

-- the start of each object made is one of them
pub start-allocated : (o : Opening) (es : List Entry) → IsLegal o es → AreWellFormed o es → (x : ObjectRef)
    → Has (made_in es) x → Has (allocated es) (start_of x)
start-allocated o es l f x h =
    let m = made-allocated es x h in
    let s = allocated-start o es l f m.0 m.1 in
    subst (Has (allocated es)) (s.start ∙ ap start_of m.2) m.1

-- ---- what may be freed

live-list : (p : SharedPtr) (es : List Entry) (xs : List ObjectRef)
    → is_live_start p xs (map (λ x. is_released x.number es) xs)
    ≡ list_any (λ x. same_target p (start_of x) && not (is_released x.number es)) xs
live-list p es [] = refl
live-list p es (x ∷ xs) =
    ap (λ z. (same_target p (start_of x) && not (is_released x.number es)) || z) (live-list p es xs)

-- a pointer that an allocation gave and nothing has released is the start of an object made that is not released
pub allocated-live : (o : Opening) (es : List Entry) (p : SharedPtr) → IsLegal o es → AreWellFormed o es
    → list_any (λ q. same_target p q && not (is_released q.object.number es)) (allocated es)
    ≡ is_live_start p (made_in es) (map (λ x. is_released x.number es) (made_in es))
allocated-live o es p l f =
    let given : SharedPtr → Bool = λ q. same_target p q && not (is_released q.object.number es) in
    let live : ObjectRef → Bool = λ x. same_target p (start_of x) && not (is_released x.number es) in
    both-true (list_any given (allocated es)) (list_any live (made_in es))
    (λ h.
    let a = list_any-has given (allocated es) h in
    let q : SharedPtr = a.0 in
    let s = allocated-start o es l f q a.1 in
    has-list_any live (made_in es) q.object s.made
    (subst (λ z. (same_target p z && not (is_released q.object.number es)) ≡ true) s.start a.2))
    (λ h.
    let a = list_any-has live (made_in es) h in
    has-list_any given (allocated es) (start_of a.0) (start-allocated o es l f a.0 a.1) a.2)
    ∙ sym (live-list p es (made_in es))
