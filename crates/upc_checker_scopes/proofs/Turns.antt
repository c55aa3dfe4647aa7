-- Loops over lists: what is left to walk decides.
use Rattle.std.proofs.Common.{◌≡◌, ◌+◌, map, List, [], ◌∷◌, ◌++◌, Option, Some, None, Result, Ok, Err, refl, sym, ap, ◌∙◌, subst}
use Rattle.std.proofs.lemmas.List.{map-append}
use Rattle.upc_text.specs.declared.faults.Stop.{Stop}
use Rattle.typed_tree.specs.Scopes.{State}
use Rattle.typing_rules.specs.Faults.{Seen, Fault, first_fault, or_later}
use Rattle.upc_checker_scopes.specs.Walk.{Walked, Walk, give, andthen}
use Rattle.upc_checker_scopes.specs.layer.Ends.{Stops, Comes, Meets}
use Rattle.upc_checker_scopes.proofs.Walks.{stops, goes, gives, first_of_two, Same, same_trans, same_meets, next_fault}

-- ---- lists

-- ---- walks whose results are collected

next_of_list : {A L M : Type 0} (w : Walk A) (rest : A → Walk L) (join : A → L → L) (f : L → M) (s between : State) (a : A) → Comes (w s) between a →
    Same (andthen (andthen w (λ y. andthen (rest y) (λ ys. give (join y ys)))) (λ ys. give (f ys)) s) (andthen (rest a) (λ ys. give (f (join a ys))) between)
unfolding andthen
next_of_list w rest join f s between a h =
    let x = w s in
    let e : rest x.value x.state ≡ rest a between = rw (h.value, h.state) refl in
    record {
      fault = next_fault x.seen (rest x.value x.state).seen (rest a between).seen h.fine (ap (λ y. first_fault y.seen) e);
      state = ap (λ y. y.state) e;
      value = rw (h.value, h.state) refl;
    }

-- Parts in front of a list.
abbrev pub behind : {A L : Type 0} → (A → L → L) → List A → L → L
behind join [] ys = ys
behind join (x ∷ xs) ys = join x (behind join xs ys)

pub behind-append : {A L : Type 0} (join : A → L → L) (xs : List A) (x : A) (ys : L) → behind join (xs ++ (x ∷ [])) ys ≡ behind join xs (join x ys)
behind-append join [] x ys = refl
behind-append join (y ∷ xs) x ys = ap (join y) (behind-append join xs x ys)

-- One more part in a vector.
pub pushed_behind : {X A L : Type 0} (view : X → A) (join : A → L → L) (xs zs : List X) (x : X) (ys : L) → zs ≡ xs ++ (x ∷ []) →
    behind join (map view xs) (join (view x) ys) ≡ behind join (map view zs) ys
pushed_behind view join xs zs x ys e =
    sym (ap (λ l. behind join (map view l) ys) e ∙ ap (λ l. behind join l ys) (map-append view xs (x ∷ [])) ∙ behind-append join (map view xs) (view x) ys)

-- The whole walk has the same outcome as that over what is left, and this makes of what is left the whole.
pub record IsLeft {L M : Type 0} (whole : Walked M) (f : L → M) (rest : Walk L) (s : State) : Type 0 where
  pub same : Same whole (andthen rest (λ ys. give (f ys)) s)

pub or_none : (o : Option Fault) → or_later o None ≡ o
or_none None = refl
or_none (Some f) = refl

pub fault_at_end : (xs : List Seen) → first_fault (xs ++ []) ≡ first_fault xs
fault_at_end xs = first_of_two xs [] ∙ or_none (first_fault xs)

pub list_begins : {L : Type 0} (w : Walk L) (s : State) → IsLeft (w s) (λ ys. ys) w s
unfolding andthen
list_begins w s = record { same = record { fault = sym (fault_at_end (w s).seen); state = refl; value = refl } }

other_end : {L M : Type 0} (whole : Walked M) (rest : Walk L) (f g : L → M) (s : State) → ((ys : L) → f ys ≡ g ys) →
    Same whole (andthen rest (λ ys. give (f ys)) s) → Same whole (andthen rest (λ ys. give (g ys)) s)
unfolding andthen
other_end whole rest f g s e h = record { fault = h.fault; state = h.state; value = h.value ∙ e (rest s).value }

-- One part of the list is walked.
pub list_goes : {A L M : Type 0} (whole : Walked M) (f g : L → M) (join : A → L → L) (w : Walk A) (rest : A → Walk L) (s between : State) (a : A) →
    IsLeft whole f (andthen w (λ y. andthen (rest y) (λ ys. give (join y ys)))) s → Comes (w s) between a → ((ys : L) → f (join a ys) ≡ g ys) →
    IsLeft whole g (rest a) between
list_goes whole f g join w rest s between a h k e =
    let p = next_of_list w rest join f s between a k in
    let next = same_trans whole _ (andthen (rest a) (λ ys. give (f (join a ys))) between) h.same p in
    record { same = other_end whole (rest a) (λ ys. f (join a ys)) g between e next }

-- It stops in a part.
pub list_stops : {A L M C : Type 0} (view : C → M) (whole : Walked M) (f : L → M) (w : Walk A) (go : A → Walk L) (s after : State) (e : Stop) →
    IsLeft whole f (andthen w go) s → Stops (first_fault (w s).seen) e → Meets view whole after (Err e)
list_stops {L = L} view whole f w go s after e h k =
    let id = λ (l : L). l in
    same_meets view whole (andthen (andthen w go) (λ ys. give (f ys)) s) after (Err e) h.same
    (stops view (andthen w go) (λ ys. give (f ys)) s after e (stops id w go s after e k))

-- Nothing is left.
pub list_done : {L M C : Type 0} (view : C → M) (whole : Walked M) (f : L → M) (end : L) (s : State) (r : C) →
    IsLeft whole f (give end) s → f end ≡ view r → Meets view whole s (Ok r)
unfolding andthen
list_done view whole f end s r h e =
    same_meets view whole (andthen (give end) (λ ys. give (f ys)) s) s (Ok r) h.same (record { fine = refl; state = refl; value = e })

-- ---- walks that hand on what came so far

-- The whole walk has the same outcome as that from here.
pub fold_goes : {A B : Type 0} (whole : Walked B) (w : Walk A) (go : A → Walk B) (s between : State) (a : A) →
    Same whole (andthen w go s) → Comes (w s) between a → Same whole (go a between)
unfolding andthen
fold_goes {B = B} whole w go s between a h k =
    let y = go (w s).value (w s).state in
    let e : y ≡ go a between = rw (k.value, k.state) refl in
    record {
      fault = h.fault ∙ first_of_two (w s).seen y.seen ∙ ap (λ o. or_later o (first_fault y.seen)) k.fine ∙ ap (λ (z : Walked B). first_fault z.seen) e;
      state = h.state ∙ ap (λ (z : Walked B). z.state) e;
      value = h.value ∙ ap (λ (z : Walked B). z.value) e;
    }

pub fold_stops : {A B C : Type 0} (view : C → B) (whole : Walked B) (w : Walk A) (go : A → Walk B) (s after : State) (e : Stop) →
    Same whole (andthen w go s) → Stops (first_fault (w s).seen) e → Meets view whole after (Err e)
fold_stops view whole w go s after e h k = same_meets view whole (andthen w go s) after (Err e) h (stops view w go s after e k)

pub fold_done : {B C : Type 0} (view : C → B) (whole : Walked B) (s : State) (r : C) → Same whole (give (view r) s) → Meets view whole s (Ok r)
fold_done view whole s r h = same_meets view whole (give (view r) s) s (Ok r) h (gives s (view r))

-- ---- a walk of whose result only a part goes on

pub goes_by : {A B C D : Type 0} (view : C → B) (w : Walk A) (f : A → D) (go : D → Walk B) (s between after : State) (d : D) (r : Result C Stop) →
    Comes (andthen w (λ x. give (f x)) s) between d → Meets view (go d between) after r → Meets view (andthen w (λ x. go (f x)) s) after r
unfolding andthen
goes_by view w f go s between after d r h k =
    let x = w s in
    goes view w (λ x. go (f x)) s x.state after x.value r (record { fine = sym (fault_at_end x.seen) ∙ h.fine; state = refl; value = refl }) (rw (h.value, h.state) k)

pub stops_by : {A D : Type 0} (w : Walk A) (f : A → D) (s : State) (e : Stop) → Stops (first_fault (andthen w (λ x. give (f x)) s).seen) e → Stops (first_fault (w s).seen) e
unfolding andthen
stops_by w f s e h = subst (λ o. Stops o e) (fault_at_end (w s).seen) h
