-- The rule of the box, and what each step on its table tells.
-- The word is 0 while no item is out, 1 while one is posted, 2 while the doer has it, 3 when it is done, and 4 once the
-- doer is dismissed.
use Rattle.std.specs.Prelude.{◌≡◌, ◌≢◌, ℕ, List, [], ◌∷◌, Option, Some, None}
use mathlib.Core.Option as maybe
use Rattle.atomic_table.specs.Table.{State, Me, Step, rest}
use Rattle.post_box.specs.declared.view.View.{View}
use Rattle.post_box.specs.declared.view.Role.TheVariants.{First, Ready, Owner, Doer}
use Rattle.post_box.specs.layer.Boxes.{view}

-- Where the item is: nowhere, before the slot is in hand, before the view is cut, and between two items; in the slot;
-- at the doer; in the slot again, with what it was before; and nowhere any more.
pub data Phase (I : Type 0) : Type 0 where
  fresh : Phase I
  ready : Phase I
  idle : Phase I
  posted : I → ℕ → Phase I
  doing : I → Phase I
  done : I → I → ℕ → Phase I
  over : Phase I

module _ {W I : Type 0} where
  -- A table of one word, one slot, and these views.
  abbrev pub table : ℕ → maybe.Option (Option (I × ℕ)) → List (View I W) → State (Option (I × ℕ)) (View I W)
  table n home views = record { words = n ∷ []; homes = home ∷ []; views = views }

  -- The views of the owner and of the doer.
  abbrev pub both : W → Option I → Option I → List (View I W)
  both work waits has = view work Owner waits ∷ view work Doer has ∷ []

  -- The table in each phase.
  abbrev pub state : W → Phase I → State (Option (I × ℕ)) (View I W)
  state work fresh = table 0 (maybe.some None) (view work First None ∷ [])
  state work ready = table 0 maybe.none (view work Ready None ∷ [])
  state work idle = table 0 maybe.none (both work None None)
  state work (posted x n) = table 1 (maybe.some (Some (x, n))) (both work (Some x) None)
  state work (doing x) = table 2 maybe.none (both work (Some x) (Some x))
  state work (done x y n) = table 3 (maybe.some (Some (y, n))) (both work (Some x) None)
  state work over = table 4 maybe.none (both work None None)

module _ {W I : Type 0} (takes : W → I → Type 0) (did : W → I → I → Type 0) where
  -- What is known of the item in the slot.
  abbrev pub Fair : W → Phase I → Type 0
  Fair work (posted x n) = takes work x
  Fair work (done x y n) = did work x y
  Fair work _ = Unit {0}

  -- The rule: the table is that of some phase, and what is in the slot is fair.
  pub record Stands (work : W) (s : State (Option (I × ℕ)) (View I W)) : Type 0 where
    pub phase : Phase I
    pub fair : Fair work phase
    pub is : s ≡ state work phase

-- The item that is in hand.
abbrev pub in_hand : {I : Type 0} → List (ℕ × Option (I × ℕ)) → Option I
in_hand ((k, Some e) ∷ cs) = Some e.0
in_hand _ = None

-- What a thread at a box knows, with what it has taken out of the slot.
abbrev pub At : Type 0 → Type 0 → Type 0
At W I = Me (Option (I × ℕ)) (View I W)

module _ {W I : Type 0} where
  -- The slot is in hand.
  abbrev pub begun : Step (Option (I × ℕ)) → At W I → ℕ → At W I → Type 0
  begun st m r m' = m' ≡ (record m.0 { role = Ready }, (0, None) ∷ m.1)

  -- The item that was in hand is out.
  abbrev pub posted_as : Step (Option (I × ℕ)) → At W I → ℕ → At W I → Type 0
  posted_as st m r m' = m' ≡ (record m.0 { item = in_hand m.1 }, rest m.1)

  -- The doer has no item.
  abbrev pub given : Step (Option (I × ℕ)) → At W I → ℕ → At W I → Type 0
  given st m r m' = m' ≡ (record m.0 { item = None }, rest m.1)

  -- The item that nobody has taken is in hand, or nothing has changed.
  abbrev pub retracted : Step (Option (I × ℕ)) → At W I → ℕ → At W I → Type 0
  retracted st m found m' = (found ≡ st.first → (x : I) × (n : ℕ) × (m.0.item ≡ Some x)
      × (m' ≡ (record m.0 { item = None }, (0, Some (x, n)) ∷ m.1)))
      × (found ≢ st.first → m' ≡ m)

  -- The doer has the item that was posted, or nothing has changed.
  abbrev pub taken : (W → I → Type 0) → Step (Option (I × ℕ)) → At W I → ℕ → At W I → Type 0
  taken takes st m found m' = (found ≡ st.first → (x : I) × (n : ℕ) × takes m.0.work x
      × (m' ≡ (record m.0 { item = Some x }, (0, Some (x, n)) ∷ m.1)))
      × (found ≢ st.first → m' ≡ m)

  -- What became of the item is in hand, or nothing has changed.
  abbrev pub had_back : (W → I → I → Type 0) → Step (Option (I × ℕ)) → At W I → ℕ → At W I → Type 0
  had_back did st m found m' = (found ≡ st.first → (y : I) × (n : ℕ)
      × ((x : I) → m.0.item ≡ Some x → did m.0.work x y)
      × (m' ≡ (record m.0 { item = None }, (0, Some (y, n)) ∷ m.1)))
      × (found ≢ st.first → m' ≡ m)

  -- The view as the owner's.
  abbrev pub as_owner : View I W → View I W
  as_owner v = record v { role = Owner }

  -- The view as the doer's.
  abbrev pub as_doer : View I W → View I W
  as_doer v = record v { role = Doer }
