-- Each step keeps the rule of the box.
use Rattle.std.proofs.Common.{◌≡◌, ℕ, zero, suc, eqb, List, [], ◌∷◌, get_or, set, ◌++◌, Some, None, refl, ap, sym, subst, ⊎_elim, ◌⊎◌, inl, inr}
use mathlib.Core.Option.{some, none, some-injective, some-ne-none}
use lib.ListN.{get_elem?}
use prog.Atomic.{either}
use Rattle.std.specs.Prelude.{Option}
use Rattle.atomic_table.specs.Table.{State, Me, Act, Valid, step, keeps, takes, gives, stepped, carried_after, opening, Allows, Splits}
use Rattle.post_box.specs.declared.view.View.{View}
use Rattle.post_box.specs.declared.view.Role.{Role}
use Rattle.post_box.specs.declared.view.Role.TheVariants.{First, Ready, Owner, Doer}
use Rattle.post_box.specs.layer.Boxes.{view}
use Rattle.post_box.specs.code.Rule.{Phase, fresh, ready, idle, posted, doing, done, over, both, state, Fair, Stands, begun, posted_as, taken, given, had_back, retracted, as_owner, as_doer}

alone : {A : Type 0} (a v : A) (id : ℕ) → get_elem? (a ∷ []) id ≡ some v → (id ≡ 0) × (a ≡ v)
alone a v zero e = (refl, some-injective a v e)
alone a v (suc id) e = absurd (some-ne-none v (sym e))

one_of : {A : Type 0} (a b v : A) (id : ℕ) → get_elem? (a ∷ b ∷ []) id ≡ some v → ((id ≡ 0) × (a ≡ v)) ⊎ ((id ≡ 1) × (b ≡ v))
one_of a b v zero e = inl (refl, some-injective a v e)
one_of a b v (suc zero) e = inr (refl, some-injective b v e)
one_of a b v (suc (suc id)) e = absurd (some-ne-none v (sym e))

module _ {I W : Type 0} (may : W → I → Type 0) (did : W → I → I → Type 0) (work : W) where
  abbrev V : Type 0
  V = View I W

  abbrev S : Type 0
  S = Option (I × ℕ)

  abbrev St : Type 0
  St = State S V

  abbrev Rule : St → Type 0
  Rule = Stands may did work

  stands : (p : Phase I) → Fair may did work p → Rule (state work p)
  stands p fair = record { phase = p; fair = fair; is = refl }

  -- what a step owes where the table is s
  abbrev Owes : (ℕ → ℕ) → (ℕ → Me S V → Type 0) → Me S V → St → ℕ → Type 0
  Owes f then me s id = (w : V) × (a : Act S) × Valid s.homes me.1 a × Rule (stepped s 0 (f (get_or s.words 0 0)) id me.1 w a)
      × then (get_or s.words 0 0) (w, carried_after me.1 a)

  -- a step that owes it in each phase is allowed
  allowed : (slots id : ℕ) (me : Me S V) (f : ℕ → ℕ) (then : ℕ → Me S V → Type 0)
      → ((p : Phase I) → Fair may did work p → get_elem? (state work p).views id ≡ some me.0 → Owes f then me (state work p) id)
      → Allows Rule slots id me 0 f then
  allowed slots id me f then each s r len at lt =
      subst (λ (t : St). get_elem? t.views id ≡ some me.0 → Owes f then me t id) (sym r.is) (each r.phase r.fair) at

  -- a lone view that is neither the owner's nor the doer's
  lone : (r q : Role) (z : Option I) (id : ℕ) → get_elem? (view work r None ∷ []) id ≡ some (view work q z) → r ≡ q
  lone r q z id e = ap (λ (v : V). v.role) (alone _ _ id e).1

  owner_at : (x y z : Option I) (id : ℕ) → get_elem? (both work x y) id ≡ some (view work Owner z) → (id ≡ 0) × (x ≡ z)
  owner_at x y z id e = ⊎_elim (λ (t : (id ≡ 0) × (view work Owner x ≡ view work Owner z)). (t.0, ap (λ (v : V). v.item) t.1))
      (λ (t : (id ≡ 1) × (view work Doer y ≡ view work Owner z)). absurd (let r : Doer ≡ Owner = ap (λ (v : V). v.role) t.1 in cc)) (one_of _ _ _ id e)

  doer_at : (x y z : Option I) (id : ℕ) → get_elem? (both work x y) id ≡ some (view work Doer z) → (id ≡ 1) × (y ≡ z)
  doer_at x y z id e = ⊎_elim (λ (t : (id ≡ 0) × (view work Owner x ≡ view work Doer z)). absurd (let r : Owner ≡ Doer = ap (λ (v : V). v.role) t.1 in cc))
      (λ (t : (id ≡ 1) × (view work Doer y ≡ view work Doer z)). (t.0, ap (λ (v : V). v.item) t.1)) (one_of _ _ _ id e)

  -- one of two views is the owner's or the doer's
  neither : (q : Role) (x y z : Option I) (id : ℕ) → (Owner ≡ q → ⊥) → (Doer ≡ q → ⊥) → get_elem? (both work x y) id ≡ some (view work q z) → ⊥
  neither q x y z id one two e = ⊎_elim (λ (t : (id ≡ 0) × (view work Owner x ≡ view work q z)). one (ap (λ (v : V). v.role) t.1))
      (λ (t : (id ≡ 1) × (view work Doer y ≡ view work q z)). two (ap (λ (v : V). v.role) t.1)) (one_of _ _ _ id e)

  some_is : (x y : I) → Some x ≡ Some y → x ≡ y
  some_is x y e = cc e

  abbrev first : Me S V
  first = (view work First None, [])

  abbrev owner : Option I → List (ℕ × S) → Me S V
  owner x cs = (view work Owner x, cs)

  abbrev doer : Option I → List (ℕ × S) → Me S V
  doer x cs = (view work Doer x, cs)

  -- the table with which a box begins
  pub opens : (slots : List S) → slots ≡ None ∷ [] → Rule (opening (0 ∷ []) slots (view work First None))
  opens slots is = subst (λ (xs : List S). Rule (opening (0 ∷ []) xs (view work First None))) (sym is) (stands fresh tt)

  module _ (slots id : ℕ) where
    -- the slot is in hand for the first time
    begin_at : (p : Phase I) → Fair may did work p → get_elem? (state work p).views id ≡ some (first).0
        → Owes (λ n. n) (begun (step slots 0 0 0 none) (first)) (first) (state work p) id
    begin_at fresh fair at = subst (λ (k : ℕ). Owes (λ n. n) (begun (step slots 0 0 0 none) first) first (state work fresh) k) (sym (alone _ _ id at).0)
        (view work Ready None, takes 0 None, refl, stands ready tt, refl)
    begin_at ready fair at = absurd (let r : Ready ≡ First = lone _ _ _ id at in cc)
    begin_at idle fair at = absurd (neither First _ _ _ id (λ e. cc e) (λ e. cc e) at)
    begin_at (posted y m) fair at = absurd (neither First _ _ _ id (λ e. cc e) (λ e. cc e) at)
    begin_at (doing y) fair at = absurd (neither First _ _ _ id (λ e. cc e) (λ e. cc e) at)
    begin_at (done y z m) fair at = absurd (neither First _ _ _ id (λ e. cc e) (λ e. cc e) at)
    begin_at over fair at = absurd (neither First _ _ _ id (λ e. cc e) (λ e. cc e) at)

    pub begins : (me : Me S V) → me ≡ first → Allows Rule slots id me 0 (λ n. n) (begun (step slots 0 0 0 none) me)
    begins me is = subst (λ (m : Me S V). Allows Rule slots id m 0 (λ n. n) (begun (step slots 0 0 0 none) m)) (sym is)
        (allowed slots id (first) (λ n. n) (begun (step slots 0 0 0 none) (first)) (begin_at))

    -- the item is posted
    post_at : (x : I) (n : ℕ) (ok : may work x) → (p : Phase I) → Fair may did work p → get_elem? (state work p).views id ≡ some (owner None ((0, Some (x, n)) ∷ [])).0
        → Owes (λ _. 1) (λ _. posted_as (step slots 0 1 0 none) (owner None ((0, Some (x, n)) ∷ [])) 1) (owner None ((0, Some (x, n)) ∷ [])) (state work p) id
    post_at x n ok fresh fair at = absurd (let r : First ≡ Owner = lone _ _ _ id at in cc)
    post_at x n ok ready fair at = absurd (let r : Ready ≡ Owner = lone _ _ _ id at in cc)
    post_at x n ok idle fair at = subst (λ (k : ℕ). Owes (λ _. 1) (λ _. posted_as (step slots 0 1 0 none) (owner None ((0, Some (x, n)) ∷ [])) 1) (owner None ((0, Some (x, n)) ∷ [])) (state work idle) k) (sym (owner_at _ _ _ id at).0)
        (view work Owner (Some x), gives, tt, stands (posted x n) ok, refl)
    post_at x n ok (posted y m) fair at = absurd (let r : Some y ≡ None = (owner_at _ _ _ id at).1 in cc)
    post_at x n ok (doing y) fair at = absurd (let r : Some y ≡ None = (owner_at _ _ _ id at).1 in cc)
    post_at x n ok (done y z m) fair at = absurd (let r : Some y ≡ None = (owner_at _ _ _ id at).1 in cc)
    post_at x n ok over fair at = subst (λ (k : ℕ). Owes (λ _. 1) (λ _. posted_as (step slots 0 1 0 none) (owner None ((0, Some (x, n)) ∷ [])) 1) (owner None ((0, Some (x, n)) ∷ [])) (state work over) k) (sym (owner_at _ _ _ id at).0)
        (view work Owner (Some x), gives, tt, stands (posted x n) ok, refl)

    pub posts : (me : Me S V) (x : I) (n : ℕ) (ok : may work x) → me ≡ owner None ((0, Some (x, n)) ∷ []) → Allows Rule slots id me 0 (λ _. 1) (λ _. posted_as (step slots 0 1 0 none) me 1)
    posts me x n ok is = subst (λ (m : Me S V). Allows Rule slots id m 0 (λ _. 1) (λ _. posted_as (step slots 0 1 0 none) m 1)) (sym is)
        (allowed slots id (owner None ((0, Some (x, n)) ∷ [])) (λ _. 1) (λ _. posted_as (step slots 0 1 0 none) (owner None ((0, Some (x, n)) ∷ [])) 1) (post_at x n ok))

    -- the doer takes the item, or finds none
    take_at : (p : Phase I) → Fair may did work p → get_elem? (state work p).views id ≡ some (doer None []).0
        → Owes (λ k. either (eqb k 1) 2 k) (taken may (step slots 0 1 2 none) (doer None [])) (doer None []) (state work p) id
    take_at fresh fair at = absurd (let r : First ≡ Doer = lone _ _ _ id at in cc)
    take_at ready fair at = absurd (let r : Ready ≡ Doer = lone _ _ _ id at in cc)
    take_at idle fair at = subst (λ (k : ℕ). Owes (λ k. either (eqb k 1) 2 k) (taken may (step slots 0 1 2 none) (doer None [])) (doer None []) (state work idle) k) (sym (doer_at _ _ _ id at).0)
        (view work Doer None, keeps, tt, stands idle fair, ((λ e. absurd (cc e)), λ ne. refl))
    take_at (posted y m) fair at = subst (λ (k : ℕ). Owes (λ k. either (eqb k 1) 2 k) (taken may (step slots 0 1 2 none) (doer None [])) (doer None []) (state work (posted y m)) k) (sym (doer_at _ _ _ id at).0)
        (view work Doer (Some y), takes 0 (Some (y, m)), refl, stands (doing y) tt, ((λ e. (y, m, fair, refl)), λ ne. absurd (ne refl)))
    take_at (doing y) fair at = absurd (let r : Some y ≡ None = (doer_at _ _ _ id at).1 in cc)
    take_at (done y z m) fair at = subst (λ (k : ℕ). Owes (λ k. either (eqb k 1) 2 k) (taken may (step slots 0 1 2 none) (doer None [])) (doer None []) (state work (done y z m)) k) (sym (doer_at _ _ _ id at).0)
        (view work Doer None, keeps, tt, stands (done y z m) fair, ((λ e. absurd (cc e)), λ ne. refl))
    take_at over fair at = subst (λ (k : ℕ). Owes (λ k. either (eqb k 1) 2 k) (taken may (step slots 0 1 2 none) (doer None [])) (doer None []) (state work over) k) (sym (doer_at _ _ _ id at).0)
        (view work Doer None, keeps, tt, stands over fair, ((λ e. absurd (cc e)), λ ne. refl))

    pub takes_it : (me : Me S V) → me ≡ doer None [] → Allows Rule slots id me 0 (λ k. either (eqb k 1) 2 k) (taken may (step slots 0 1 2 none) me)
    takes_it me is = subst (λ (m : Me S V). Allows Rule slots id m 0 (λ k. either (eqb k 1) 2 k) (taken may (step slots 0 1 2 none) m)) (sym is)
        (allowed slots id (doer None []) (λ k. either (eqb k 1) 2 k) (taken may (step slots 0 1 2 none) (doer None [])) (take_at))

    -- the doer gives the item back
    give_at : (x : I) (w : I) (n : ℕ) (ok : did work x w) → (p : Phase I) → Fair may did work p → get_elem? (state work p).views id ≡ some (doer (Some x) ((0, Some (w, n)) ∷ [])).0
        → Owes (λ _. 3) (λ _. given (step slots 0 3 0 none) (doer (Some x) ((0, Some (w, n)) ∷ [])) 3) (doer (Some x) ((0, Some (w, n)) ∷ [])) (state work p) id
    give_at x w n ok fresh fair at = absurd (let r : First ≡ Doer = lone _ _ _ id at in cc)
    give_at x w n ok ready fair at = absurd (let r : Ready ≡ Doer = lone _ _ _ id at in cc)
    give_at x w n ok idle fair at = absurd (let r : None ≡ Some x = (doer_at _ _ _ id at).1 in cc)
    give_at x w n ok (posted y m) fair at = absurd (let r : None ≡ Some x = (doer_at _ _ _ id at).1 in cc)
    give_at x w n ok (doing y) fair at = let e = doer_at _ _ _ id at in subst (λ (v : I). Owes (λ _. 3) (λ _. given (step slots 0 3 0 none) (doer (Some v) ((0, Some (w, n)) ∷ [])) 3) (doer (Some v) ((0, Some (w, n)) ∷ [])) (state work (doing y)) id) (some_is y x e.1)
        (subst (λ (k : ℕ). Owes (λ _. 3) (λ _. given (step slots 0 3 0 none) (doer (Some y) ((0, Some (w, n)) ∷ [])) 3) (doer (Some y) ((0, Some (w, n)) ∷ [])) (state work (doing y)) k) (sym e.0) (view work Doer None, gives, tt, stands (done y w n) (subst (λ (v : I). did work v w) (sym (some_is y x e.1)) ok), refl))
    give_at x w n ok (done y z m) fair at = absurd (let r : None ≡ Some x = (doer_at _ _ _ id at).1 in cc)
    give_at x w n ok over fair at = absurd (let r : None ≡ Some x = (doer_at _ _ _ id at).1 in cc)

    pub gives_it : (me : Me S V) (x : I) (w : I) (n : ℕ) (ok : did work x w) → me ≡ doer (Some x) ((0, Some (w, n)) ∷ []) → Allows Rule slots id me 0 (λ _. 3) (λ _. given (step slots 0 3 0 none) me 3)
    gives_it me x w n ok is = subst (λ (m : Me S V). Allows Rule slots id m 0 (λ _. 3) (λ _. given (step slots 0 3 0 none) m 3)) (sym is)
        (allowed slots id (doer (Some x) ((0, Some (w, n)) ∷ [])) (λ _. 3) (λ _. given (step slots 0 3 0 none) (doer (Some x) ((0, Some (w, n)) ∷ [])) 3) (give_at x w n ok))

    -- the owner has the item back, or finds it not done
    back_at : (x : I) → (p : Phase I) → Fair may did work p → get_elem? (state work p).views id ≡ some (owner (Some x) []).0
        → Owes (λ k. either (eqb k 3) 0 k) (had_back did (step slots 0 3 0 none) (owner (Some x) [])) (owner (Some x) []) (state work p) id
    back_at x fresh fair at = absurd (let r : First ≡ Owner = lone _ _ _ id at in cc)
    back_at x ready fair at = absurd (let r : Ready ≡ Owner = lone _ _ _ id at in cc)
    back_at x idle fair at = absurd (let r : None ≡ Some x = (owner_at _ _ _ id at).1 in cc)
    back_at x (posted y m) fair at = let e = owner_at _ _ _ id at in subst (λ (v : I). Owes (λ k. either (eqb k 3) 0 k) (had_back did (step slots 0 3 0 none) (owner (Some v) [])) (owner (Some v) []) (state work (posted y m)) id) (some_is y x e.1)
        (subst (λ (k : ℕ). Owes (λ k. either (eqb k 3) 0 k) (had_back did (step slots 0 3 0 none) (owner (Some y) [])) (owner (Some y) []) (state work (posted y m)) k) (sym e.0) (view work Owner (Some y), keeps, tt, stands (posted y m) fair, ((λ e. absurd (cc e)), λ ne. refl)))
    back_at x (doing y) fair at = let e = owner_at _ _ _ id at in subst (λ (v : I). Owes (λ k. either (eqb k 3) 0 k) (had_back did (step slots 0 3 0 none) (owner (Some v) [])) (owner (Some v) []) (state work (doing y)) id) (some_is y x e.1)
        (subst (λ (k : ℕ). Owes (λ k. either (eqb k 3) 0 k) (had_back did (step slots 0 3 0 none) (owner (Some y) [])) (owner (Some y) []) (state work (doing y)) k) (sym e.0) (view work Owner (Some y), keeps, tt, stands (doing y) fair, ((λ e. absurd (cc e)), λ ne. refl)))
    back_at x (done y z m) fair at = let e = owner_at _ _ _ id at in subst (λ (v : I). Owes (λ k. either (eqb k 3) 0 k) (had_back did (step slots 0 3 0 none) (owner (Some v) [])) (owner (Some v) []) (state work (done y z m)) id) (some_is y x e.1)
        (subst (λ (k : ℕ). Owes (λ k. either (eqb k 3) 0 k) (had_back did (step slots 0 3 0 none) (owner (Some y) [])) (owner (Some y) []) (state work (done y z m)) k) (sym e.0) (view work Owner None, takes 0 (Some (z, m)), refl, stands idle tt, ((λ e. (z, m, (λ v is. subst (λ (v : I). did work v z) (some_is y v is) fair), refl)), λ ne. absurd (ne refl))))
    back_at x over fair at = absurd (let r : None ≡ Some x = (owner_at _ _ _ id at).1 in cc)

    pub has_back : (me : Me S V) (x : I) → me ≡ owner (Some x) [] → Allows Rule slots id me 0 (λ k. either (eqb k 3) 0 k) (had_back did (step slots 0 3 0 none) me)
    has_back me x is = subst (λ (m : Me S V). Allows Rule slots id m 0 (λ k. either (eqb k 3) 0 k) (had_back did (step slots 0 3 0 none) m)) (sym is)
        (allowed slots id (owner (Some x) []) (λ k. either (eqb k 3) 0 k) (had_back did (step slots 0 3 0 none) (owner (Some x) [])) (back_at x))

    -- the owner has the item back that nobody has taken
    retract_at : (x : I) → (p : Phase I) → Fair may did work p → get_elem? (state work p).views id ≡ some (owner (Some x) []).0
        → Owes (λ k. either (eqb k 1) 0 k) (retracted (step slots 0 1 0 none) (owner (Some x) [])) (owner (Some x) []) (state work p) id
    retract_at x fresh fair at = absurd (let r : First ≡ Owner = lone _ _ _ id at in cc)
    retract_at x ready fair at = absurd (let r : Ready ≡ Owner = lone _ _ _ id at in cc)
    retract_at x idle fair at = absurd (let r : None ≡ Some x = (owner_at _ _ _ id at).1 in cc)
    retract_at x (posted y m) fair at = let e = owner_at _ _ _ id at in subst (λ (v : I). Owes (λ k. either (eqb k 1) 0 k) (retracted (step slots 0 1 0 none) (owner (Some v) [])) (owner (Some v) []) (state work (posted y m)) id) (some_is y x e.1)
        (subst (λ (k : ℕ). Owes (λ k. either (eqb k 1) 0 k) (retracted (step slots 0 1 0 none) (owner (Some y) [])) (owner (Some y) []) (state work (posted y m)) k) (sym e.0) (view work Owner None, takes 0 (Some (y, m)), refl, stands idle tt, ((λ e. (y, m, refl, refl)), λ ne. absurd (ne refl))))
    retract_at x (doing y) fair at = let e = owner_at _ _ _ id at in subst (λ (v : I). Owes (λ k. either (eqb k 1) 0 k) (retracted (step slots 0 1 0 none) (owner (Some v) [])) (owner (Some v) []) (state work (doing y)) id) (some_is y x e.1)
        (subst (λ (k : ℕ). Owes (λ k. either (eqb k 1) 0 k) (retracted (step slots 0 1 0 none) (owner (Some y) [])) (owner (Some y) []) (state work (doing y)) k) (sym e.0) (view work Owner (Some y), keeps, tt, stands (doing y) fair, ((λ e. absurd (cc e)), λ ne. refl)))
    retract_at x (done y z m) fair at = let e = owner_at _ _ _ id at in subst (λ (v : I). Owes (λ k. either (eqb k 1) 0 k) (retracted (step slots 0 1 0 none) (owner (Some v) [])) (owner (Some v) []) (state work (done y z m)) id) (some_is y x e.1)
        (subst (λ (k : ℕ). Owes (λ k. either (eqb k 1) 0 k) (retracted (step slots 0 1 0 none) (owner (Some y) [])) (owner (Some y) []) (state work (done y z m)) k) (sym e.0) (view work Owner (Some y), keeps, tt, stands (done y z m) fair, ((λ e. absurd (cc e)), λ ne. refl)))
    retract_at x over fair at = absurd (let r : None ≡ Some x = (owner_at _ _ _ id at).1 in cc)

    pub retracts : (me : Me S V) (x : I) → me ≡ owner (Some x) [] → Allows Rule slots id me 0 (λ k. either (eqb k 1) 0 k) (retracted (step slots 0 1 0 none) me)
    retracts me x is = subst (λ (m : Me S V). Allows Rule slots id m 0 (λ k. either (eqb k 1) 0 k) (retracted (step slots 0 1 0 none) m)) (sym is)
        (allowed slots id (owner (Some x) []) (λ k. either (eqb k 1) 0 k) (retracted (step slots 0 1 0 none) (owner (Some x) [])) (retract_at x))

    -- the doer is dismissed
    dismiss_at : (p : Phase I) → Fair may did work p → get_elem? (state work p).views id ≡ some (owner None ((0, None) ∷ [])).0
        → Owes (λ _. 4) (λ _. λ _. Unit {0}) (owner None ((0, None) ∷ [])) (state work p) id
    dismiss_at fresh fair at = absurd (let r : First ≡ Owner = lone _ _ _ id at in cc)
    dismiss_at ready fair at = absurd (let r : Ready ≡ Owner = lone _ _ _ id at in cc)
    dismiss_at idle fair at = subst (λ (k : ℕ). Owes (λ _. 4) (λ _. λ _. Unit {0}) (owner None ((0, None) ∷ [])) (state work idle) k) (sym (owner_at _ _ _ id at).0)
        (view work Owner None, keeps, tt, stands over tt, tt)
    dismiss_at (posted y m) fair at = absurd (let r : Some y ≡ None = (owner_at _ _ _ id at).1 in cc)
    dismiss_at (doing y) fair at = absurd (let r : Some y ≡ None = (owner_at _ _ _ id at).1 in cc)
    dismiss_at (done y z m) fair at = absurd (let r : Some y ≡ None = (owner_at _ _ _ id at).1 in cc)
    dismiss_at over fair at = subst (λ (k : ℕ). Owes (λ _. 4) (λ _. λ _. Unit {0}) (owner None ((0, None) ∷ [])) (state work over) k) (sym (owner_at _ _ _ id at).0)
        (view work Owner None, keeps, tt, stands over tt, tt)

    pub dismisses : (me : Me S V) → me ≡ owner None ((0, None) ∷ []) → Allows Rule slots id me 0 (λ _. 4) (λ _. λ _. Unit {0})
    dismisses me is = subst (λ (m : Me S V). Allows Rule slots id m 0 (λ _. 4) (λ _. λ _. Unit {0})) (sym is)
        (allowed slots id (owner None ((0, None) ∷ [])) (λ _. 4) (λ _. λ _. Unit {0}) (dismiss_at))

  -- the view is cut
  pub deals : (id : ℕ) (v : V) → v ≡ view work Ready None → Splits Rule id v (as_owner v) (as_doer v)
  deals id v is = subst (λ (u : V). Splits Rule id u (as_owner u) (as_doer u)) (sym is) (λ s r at. subst (λ (t : St). get_elem? t.views id ≡ some (view work Ready None)
      → Rule record { words = t.words; homes = t.homes; views = set t.views id (view work Owner None) ++ view work Doer None ∷ [] }) (sym r.is) (cut r.phase r.fair) at)
    where
      cut : (p : Phase I) → Fair may did work p → get_elem? (state work p).views id ≡ some (view work Ready None)
          → Rule record { words = (state work p).words; homes = (state work p).homes; views = set (state work p).views id (view work Owner None) ++ view work Doer None ∷ [] }
      cut fresh fair at = absurd (let r : First ≡ Ready = lone _ _ _ id at in cc)
      cut ready fair at = subst (λ (k : ℕ). Rule record { words = 0 ∷ []; homes = none ∷ []; views = set (view work Ready None ∷ []) k (view work Owner None) ++ view work Doer None ∷ [] })
          (sym (alone _ _ id at).0) (stands idle tt)
      cut idle fair at = absurd (neither Ready _ _ _ id (λ e. cc e) (λ e. cc e) at)
      cut (posted y m) fair at = absurd (neither Ready _ _ _ id (λ e. cc e) (λ e. cc e) at)
      cut (doing y) fair at = absurd (neither Ready _ _ _ id (λ e. cc e) (λ e. cc e) at)
      cut (done y z m) fair at = absurd (neither Ready _ _ _ id (λ e. cc e) (λ e. cc e) at)
      cut over fair at = absurd (neither Ready _ _ _ id (λ e. cc e) (λ e. cc e) at)
