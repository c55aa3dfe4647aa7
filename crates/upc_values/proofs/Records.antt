-- Records over one item more, or over a longer history.
use Rattle.std.proofs.Common.{◌≡◌, ℕ, ◌+◌, ◌-◌, true, false, List, [], ◌∷◌, ◌++◌, length, Option, Some, None, refl, sym, ap, subst, ◌∙◌, append-nil, append_assoc, arith}
use Rattle.std.proofs.lemmas.Bool.{false≢true}
use Rattle.std.specs.List.{slice_get}
use Rattle.upc_values.specs.declared.action.Action.{Action}
use Rattle.upc_values.specs.declared.action.Action.TheVariants.{Beat}
use Rattle.upc_values.specs.declared.action.Reply.{Reply}
use Rattle.upc_values.specs.declared.record.Item.{Item}
use Rattle.upc_values.specs.declared.record.Item.TheVariants.{Did, Stall}
use Rattle.upc_values.specs.declared.journal.Entry.{Entry}
use Rattle.upc_values.specs.Openings.{Opening}
use Rattle.upc_values.specs.Records.{actions_of, replies_of, last_from, last_item, is_stall, is_beat_item, beats}
use Rattle.upc_values.specs.Strands.{first_is_stall, may_wait, MayWait, next_action, StallsStand, IsJustified, AreJustified}

last-from_push : (o : Option Item) (xs : List Item) (x : Item) → last_from o (xs ++ x ∷ []) ≡ Some x
last-from_push o [] x = refl
last-from_push o (y ∷ xs) x = last-from_push (Some y) xs x

pub last-push : (xs : List Item) (x : Item) → last_item (xs ++ x ∷ []) ≡ Some x
last-push xs x = last-from_push None xs x

pub actions-did : (xs : List Item) (a : Action) (r : Reply) → actions_of (xs ++ Did a r ∷ []) ≡ actions_of xs ++ a ∷ []
actions-did [] a r = refl
actions-did (Did b s ∷ xs) a r = ap (λ l. b ∷ l) (actions-did xs a r)
actions-did (Stall ∷ xs) a r = actions-did xs a r

pub replies-did : (xs : List Item) (a : Action) (r : Reply) → replies_of (xs ++ Did a r ∷ []) ≡ replies_of xs ++ r ∷ []
replies-did [] a r = refl
replies-did (Did b s ∷ xs) a r = ap (λ l. s ∷ l) (replies-did xs a r)
replies-did (Stall ∷ xs) a r = replies-did xs a r

pub actions-stall : (xs : List Item) → actions_of (xs ++ Stall ∷ []) ≡ actions_of xs
actions-stall [] = refl
actions-stall (Did b s ∷ xs) = ap (λ l. b ∷ l) (actions-stall xs)
actions-stall (Stall ∷ xs) = actions-stall xs

pub replies-stall : (xs : List Item) → replies_of (xs ++ Stall ∷ []) ≡ replies_of xs
replies-stall [] = refl
replies-stall (Did b s ∷ xs) = ap (λ l. s ∷ l) (replies-stall xs)
replies-stall (Stall ∷ xs) = replies-stall xs

pub next-did : (want : Option Action) (xs : List Item) (a : Action) (r : Reply) → next_action want (xs ++ Did a r ∷ []) ≡ next_action (Some a) xs
next-did want [] a r = refl
next-did want (Did b s ∷ xs) a r = refl
next-did want (Stall ∷ xs) a r = next-did want xs a r

pub next-stall : (want : Option Action) (xs : List Item) → next_action want (xs ++ Stall ∷ []) ≡ next_action want xs
next-stall want [] = refl
next-stall want (Did b s ∷ xs) = refl
next-stall want (Stall ∷ xs) = next-stall want xs

first-did : (xs : List Item) (a : Action) (r : Reply) → first_is_stall xs ≡ false → first_is_stall (xs ++ Did a r ∷ []) ≡ false
first-did [] a r h = refl
first-did (Did b s ∷ xs) a r h = refl
first-did (Stall ∷ xs) a r h = h

pub stand-did : (want : Option Action) (xs : List Item) (a : Action) (r : Reply) → StallsStand (Some a) xs → StallsStand want (xs ++ Did a r ∷ [])
stand-did want [] a r h = tt
stand-did want (Did b s ∷ xs) a r h = stand-did want xs a r h
stand-did want (Stall ∷ xs) a r h =
    (first-did xs a r h.0, subst MayWait (sym (next-did want xs a r)) h.1, stand-did want xs a r h.2)

first-stall : (xs : List Item) → first_is_stall xs ≡ false → is_stall (last_from (Some Stall) xs) ≡ false → first_is_stall (xs ++ Stall ∷ []) ≡ false
first-stall [] h k = absurd (false≢true (sym k))
first-stall (Did b s ∷ xs) h k = refl
first-stall (Stall ∷ xs) h k = h

stand-from_stall : (o : Option Item) (xs : List Item) (a : Action) → StallsStand (Some a) xs → is_stall (last_from o xs) ≡ false → may_wait a ≡ true → StallsStand (Some a) (xs ++ Stall ∷ [])
stand-from_stall o [] a h k m = (refl, m, tt)
stand-from_stall o (Did b s ∷ xs) a h k m = stand-from_stall (Some (Did b s)) xs a h k m
stand-from_stall o (Stall ∷ xs) a h k m =
    (first-stall xs h.0 k, subst MayWait (sym (next-stall (Some a) xs)) h.1, stand-from_stall (Some Stall) xs a h.2 k m)

pub stand-stall : (xs : List Item) (a : Action) → StallsStand (Some a) xs → is_stall (last_item xs) ≡ false → may_wait a ≡ true → StallsStand (Some a) (xs ++ Stall ∷ [])
stand-stall xs a h k m = stand-from_stall None xs a h k m

pub justified-did : (o : Opening) (t : ℕ) (es : List Entry) (want : Option Action) (before xs : List Item) (a : Action) (r : Reply) → AreJustified o t es (Some a) before xs → AreJustified o t es want before (xs ++ Did a r ∷ [])
justified-did o t es want before [] a r h = tt
justified-did o t es want before (Did b s ∷ xs) a r h = justified-did o t es want (before ++ Did b s ∷ []) xs a r h
justified-did o t es want before (Stall ∷ xs) a r h =
    (subst (IsJustified o t es before) (sym (next-did want xs a r)) h.0, justified-did o t es want (before ++ Stall ∷ []) xs a r h.1)

pub justified-stall : (o : Opening) (t : ℕ) (es : List Entry) (want : Option Action) (before xs : List Item) → AreJustified o t es want before xs → IsJustified o t es (before ++ xs) want → AreJustified o t es want before (xs ++ Stall ∷ [])
justified-stall o t es want before [] h k = (subst (λ l. IsJustified o t es l want) (append-nil before) k, tt)
justified-stall o t es want before (Did b s ∷ xs) h k =
    justified-stall o t es want (before ++ Did b s ∷ []) xs h (subst (λ l. IsJustified o t es l want) (sym (append_assoc before (Did b s ∷ []) xs)) k)
justified-stall o t es want before (Stall ∷ xs) h k = (
  subst (IsJustified o t es before) (sym (next-stall want xs)) h.0,
  justified-stall o t es want (before ++ Stall ∷ []) xs h.1 (subst (λ l. IsJustified o t es l want) (sym (append_assoc before (Stall ∷ []) xs)) k),
)

is_justified-grow : (o : Opening) (t : ℕ) (es more : List Entry) (before : List Item) (next : Option Action) → IsJustified o t es before next → IsJustified o t (es ++ more) before next
is_justified-grow o t es more before next h = record {
  front = h.front;
  rest = h.rest ++ more;
  is = ap (λ l. l ++ more) h.is ∙ append_assoc h.front h.rest more;
  many = h.many;
  action = h.action;
  wants = h.wants;
  none = h.none;
}

-- a justified stall stays so as the history grows
pub justified-grow : (o : Opening) (t : ℕ) (es more : List Entry) (want : Option Action) (before xs : List Item) → AreJustified o t es want before xs → AreJustified o t (es ++ more) want before xs
justified-grow o t es more want before [] h = tt
justified-grow o t es more want before (Did b s ∷ xs) h = justified-grow o t es more want (before ++ Did b s ∷ []) xs h
justified-grow o t es more want before (Stall ∷ xs) h =
    (is_justified-grow o t es more before (next_action want xs) h.0, justified-grow o t es more want (before ++ Stall ∷ []) xs h.1)

pub beats-push : (actions : List Action) → beats (actions ++ Beat ∷ []) ≡ beats actions + 1
beats-push [] = refl
beats-push (Beat ∷ actions) = ap (λ n. n + 1) (beats-push actions)
beats-push (a ∷ actions) = beats-push actions

pub beat-of : (a : Action) (r : Reply) → is_beat_item (Some (Did a r)) ≡ true → a ≡ Beat
beat-of Beat r h = refl
beat-of a r h = absurd (false≢true h)

-- a Stall is no Beat
pub stall-no_beat : (o : Option Item) → is_stall o ≡ true → is_beat_item o ≡ false
stall-no_beat (Some Stall) h = refl
stall-no_beat (Some (Did a r)) h = absurd (false≢true h)
stall-no_beat None h = absurd (false≢true h)

get-last : (x : Item) (xs : List Item) → slice_get (x ∷ xs) (length xs) ≡ last_from (Some x) xs
get-last x [] = refl
get-last x (y ∷ xs) = get-last y xs

-- the last item is the one at the length less one
pub last-get : (xs : List Item) → slice_get xs (length xs - 1) ≡ last_item xs
last-get [] = refl
last-get (x ∷ xs) =
    let e : length (x ∷ xs) - 1 ≡ length xs = omega arith in
    ap (slice_get (x ∷ xs)) e ∙ get-last x xs
