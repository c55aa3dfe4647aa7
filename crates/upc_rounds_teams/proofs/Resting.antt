-- What holds after parts, where a part is added.
use Rattle.std.proofs.Common.{◌≡◌, ℕ, false, List, [], ◌∷◌, ◌++◌, Option, Some, refl, sym, ap, subst, ◌∙◌, append-nil, append_assoc, inl, inr}
use Rattle.upc_values.specs.declared.action.Action.{Action}
use Rattle.upc_values.specs.declared.record.Item.{Item}
use Rattle.upc_values.specs.declared.record.Item.TheVariants.{Stall}
use Rattle.upc_values.specs.declared.record.End.{End}
use Rattle.upc_values.specs.declared.journal.Entry.{Entry}
use Rattle.upc_values.specs.Openings.{Opening}
use Rattle.upc_values.specs.Drain.{entries_of}
use Rattle.upc_values.specs.Strands.{next_action}
use Rattle.upc_values.proofs.Walks.{entries_of-append}
use Rattle.upc_task.specs.Ends.{is_given}
use Rattle.upc_rounds_teams.specs.Rounds.{joined, BeatsLast, StandsAtStall, StandsReady, Rests, RestsAfterEach, AfterEach, AfterLast, but_last}

pub joined-push : (ps : List (List Entry)) (q : List Entry) → joined (ps ++ q ∷ []) ≡ joined ps ++ q
joined-push [] q = append-nil q
joined-push (p ∷ ps) q = ap (λ l. p ++ l) (joined-push ps q) ∙ sym (append_assoc p (joined ps) q)

pub but-last-push : (ps : List (List Entry)) (p : List Entry) → but_last (ps ++ p ∷ []) ≡ ps
but-last-push [] p = refl
but-last-push (q ∷ []) p = refl
but-last-push (q ∷ r ∷ ps) p = ap (λ l. q ∷ l) (but-last-push (r ∷ ps) p)

pub after-map : (P Q : List Entry → List Entry → Type 0) (b : List Entry) (ps : List (List Entry)) → ((b p : List Entry) → P b p → Q b p) → AfterEach P b ps → AfterEach Q b ps
after-map P Q b [] f h = tt
after-map P Q b (p ∷ ps) f h = (f b p h.0, after-map P Q (b ++ p) ps f h.1)

pub last-map : (P Q : List Entry → List Entry → Type 0) (b : List Entry) (ps : List (List Entry)) → ((b p : List Entry) → P b p → Q b p) → AfterLast P b ps → AfterLast Q b ps
last-map P Q b [] f h = h
last-map P Q b (p ∷ []) f h = f b p h
last-map P Q b (p ∷ q ∷ ps) f h = last-map P Q (b ++ p) (q ∷ ps) f h

pub last-push : (P : List Entry → List Entry → Type 0) (b : List Entry) (ps : List (List Entry)) (p : List Entry) → P (b ++ joined ps) p → AfterLast P b (ps ++ p ∷ [])
last-push P b [] p h = subst (λ l. P l p) (append-nil b) h
last-push P b (q ∷ []) p h = subst (λ l. P (b ++ l) p) (append-nil q) h
last-push P b (q ∷ r ∷ ps) p h = last-push P (b ++ q) (r ∷ ps) p (subst (λ l. P l p) (sym (append_assoc b q (r ++ joined ps))) h)

-- With the whole of the entries so far.
pub last-whole : (P : List Entry → List Entry → Type 0) (b : List Entry) (ps : List (List Entry)) → AfterLast P b ps → AfterLast (λ c p. P c p × (c ++ p ≡ b ++ joined ps)) b ps
last-whole P b [] h = h
last-whole P b (p ∷ []) h = (h, ap (λ l. b ++ l) (sym (append-nil p)))
last-whole P b (p ∷ q ∷ ps) h =
    last-map (λ c r. P c r × (c ++ r ≡ (b ++ p) ++ (q ++ joined ps))) (λ c r. P c r × (c ++ r ≡ b ++ (p ++ (q ++ joined ps)))) (b ++ p) (q ∷ ps)
    (λ c r z. (z.0, z.1 ∙ append_assoc b p (q ++ joined ps))) (last-whole P (b ++ p) (q ∷ ps) h)

pub each-last : (P : List Entry → List Entry → Type 0) (b : List Entry) (ps : List (List Entry)) → AfterEach P b (but_last ps) → AfterLast P b ps → AfterEach P b ps
each-last P b [] h k = tt
each-last P b (p ∷ []) h k = (k, tt)
each-last P b (p ∷ q ∷ ps) h k = (h.0, each-last P (b ++ p) (q ∷ ps) h.1 k)

-- From what holds where a thread rests.
pub rests-each : (o : Opening) (t : ℕ) (items : List Item) (want : Option Action) (e : End) (Q : List Entry → List Entry → Type 0) (b : List Entry) (ps : List (List Entry))
    → ((b p later : List Entry) → Rests o t items want e b p later → Q b p) → RestsAfterEach o t items want e b ps → AfterEach Q b ps
rests-each o t items want e Q b [] f h = tt
rests-each o t items want e Q b (p ∷ ps) f h = (f b p (joined ps) h.1, rests-each o t items want e Q (b ++ p) ps f h.2)

-- Stalls that stay.
abbrev pub StaysAt : List Item → List Item → Option Action → Option Action → Type 0
StaysAt items items' want want' =
    (ahead behind : List Item) (a : Action) → items ≡ ahead ++ Stall ∷ behind → next_action want behind ≡ Some a
    → (rest : List Item) × (items' ≡ ahead ++ Stall ∷ rest) × (next_action want' rest ≡ Some a)

pub stands-stays : (o : Opening) (t : ℕ) (items items' : List Item) (want want' : Option Action) (b p : List Entry) → StaysAt items items' want want'
    → StandsAtStall o t items want b p → StandsAtStall o t items' want' b p
stands-stays o t items items' want want' b p h s =
    let n = h s.ahead s.behind s.action s.is s.wants in
    record { ahead = s.ahead; behind = n.0; is = n.1; drained = s.drained; front = s.front; rest = s.rest; cut = s.cut; whole = s.whole; action = s.action; wants = n.2; none = s.none }

pub ready-stays : (o : Opening) (t : ℕ) (items items' : List Item) (want want' : Option Action) (b p : List Entry) → StaysAt items items' want want'
    → StandsReady o t items want b p → StandsReady o t items' want' b p
ready-stays o t items items' want want' b p h s =
    let n = h s.ahead s.behind s.action s.is s.wants in
    record { ahead = s.ahead; behind = n.0; is = n.1; drained = s.drained; action = s.action; wants = n.2; some = s.some }

pub stands-longer : (o : Opening) (t : ℕ) (items : List Item) (want : Option Action) (before part more : List Entry) → entries_of t more ≡ [] → StandsAtStall o t items want before part → StandsAtStall o t items want before (part ++ more)
stands-longer o t items want before part more e s = record {
  ahead = s.ahead;
  behind = s.behind;
  is = s.is;
  drained = ap (entries_of t) (sym (append_assoc before part more)) ∙ entries_of-append t (before ++ part) more ∙ ap (λ l. entries_of t (before ++ part) ++ l) e ∙ append-nil (entries_of t (before ++ part)) ∙ s.drained;
  front = s.front;
  rest = s.rest ++ more;
  cut = ap (λ l. l ++ more) s.cut ∙ append_assoc s.front s.rest more;
  whole = s.whole;
  action = s.action;
  wants = s.wants;
  none = s.none;
}

-- The thread rests where it rested, with Stalls that stay and an end that counts as given as much as the other.
pub rests-moved : (o : Opening) (t : ℕ) (items items' : List Item) (want want' : Option Action) (g g' : End) (before : List Entry) (ps : List (List Entry))
    → StaysAt items items' want want' → (is_given g ≡ false → is_given g' ≡ false)
    → RestsAfterEach o t items want g before ps → RestsAfterEach o t items' want' g' before ps
rests-moved o t items items' want want' g g' before [] stays e h = tt
rests-moved o t items items' want want' g g' before (p ∷ ps) stays e h = (
  h.0,
  elim h.1 [
    | inl b ↦ inl b
    | inr z ↦ elim z [
      | inl y ↦ inr (inl (y.0, e y.1))
      | inr s ↦ inr (inr (stands-stays o t items items' want want' before p stays s))
    ]
  ],
  rests-moved o t items items' want want' g g' (before ++ p) ps stays e h.2,
)

-- A part more.
pub rests-push : (o : Opening) (t : ℕ) (items items' : List Item) (want want' : Option Action) (g g' : End) (before : List Entry) (ps : List (List Entry)) (q : List Entry)
    → StaysAt items items' want want' → (is_given g ≡ false → (entries_of t q ≡ []) × (is_given g' ≡ false))
    → RestsAfterEach o t items want g before ps → BeatsLast (entries_of t q) → Rests o t items' want' g' (before ++ joined ps) q [] → RestsAfterEach o t items' want' g' before (ps ++ q ∷ [])
rests-push o t items items' want want' g g' before [] q stays over h beats r = (beats, subst (λ l. Rests o t items' want' g' l q []) (append-nil before) r, tt)
rests-push o t items items' want want' g g' before (p ∷ ps) q stays over h beats r = (
  h.0,
  elim h.1 [
    | inl b ↦ inl b
    | inr z ↦ elim z [
      | inl y ↦ let v = over y.1 in inr (inl (ap (entries_of t) (joined-push ps q) ∙ entries_of-append t (joined ps) q ∙ ap (λ l. l ++ entries_of t q) y.0 ∙ v.0, v.1))
      | inr s ↦ inr (inr (stands-stays o t items items' want want' before p stays s))
    ]
  ],
  rests-push o t items items' want want' g g' (before ++ p) ps q stays over h.2 beats (subst (λ l. Rests o t items' want' g' l q []) (sym (append_assoc before p (joined ps))) r),
)
