-- The boxes of a run: what may be posted, and what comes back.
use Rattle.std.proofs.Common.{◌≡◌, ℕ, zero, suc, ◌<◌, List, [], ◌∷◌, ◌++◌, length, take, get_or, refl, sym, subst, ap, ◌∙◌, arith}
use Rattle.stack_code.specs.layer.Codes.{Codes}
use Rattle.turn_cell.specs.layer.Seats.{id_of, started}
use Rattle.post_box.specs.layer.Boxes.{work_of}
use Rattle.upc_task.specs.layer.Sources.{Outcomes}
use Rattle.upc_task.specs.layer.Seated.{IsTask}
use Rattle.upc_rounds_teams.specs.declared.place.Place.{Place}
use Rattle.upc_rounds_teams.specs.layer.Places.{Did}
use Rattle.upc_rounds.specs.declared.posts.Part.{Part}
use Rattle.upc_rounds.specs.code.Posts.{Cell, TaskBox, MayPlay, IsFor}

-- What a box takes.
abbrev pub Takes : Part → Place → Type 0
Takes p k = (f : Outcomes) × IsTask (id_of p.cell.value) (started p.cell.value).0 p.code.value f k.task

-- What a box promises.
abbrev pub Gives : Part → Place → Place → Type 0
Gives p k m = Did (id_of p.cell.value) (started p.cell.value).0 p.code.value k m

pub takes-for : (cell : Cell) (code : Codes) (b : TaskBox) (k : Place) → IsFor cell code b → MayPlay cell code k → Takes (work_of b) k
takes-for cell code b k is h =
    subst (λ (z : Cell). (f : Outcomes) × IsTask (id_of z) (started z).0 (work_of b).code.value f k.task) (sym is.0)
    (subst (λ (y : Codes). (f : Outcomes) × IsTask (id_of cell) (started cell).0 y f k.task) (sym is.1) h)

pub taken-for : (cell : Cell) (code : Codes) (b : TaskBox) (k : Place) → IsFor cell code b → Takes (work_of b) k → MayPlay cell code k
taken-for cell code b k is h =
    subst (λ (y : Codes). (f : Outcomes) × IsTask (id_of cell) (started cell).0 y f k.task) is.1
    (subst (λ (z : Cell). (f : Outcomes) × IsTask (id_of z) (started z).0 (work_of b).code.value f k.task) is.0 h)

pub gives-for : (cell : Cell) (code : Codes) (b : TaskBox) (k m : Place) → IsFor cell code b → Did (id_of cell) (started cell).0 code k m → Gives (work_of b) k m
gives-for cell code b k m is h =
    subst (λ (z : Cell). Did (id_of z) (started z).0 (work_of b).code.value k m) (sym is.0)
    (subst (λ (y : Codes). Did (id_of cell) (started cell).0 y k m) (sym is.1) h)

pub given-for : (cell : Cell) (code : Codes) (b : TaskBox) (k m : Place) → IsFor cell code b → Gives (work_of b) k m → Did (id_of cell) (started cell).0 code k m
given-for cell code b k m is h =
    subst (λ (y : Codes). Did (id_of cell) (started cell).0 y k m) is.1
    (subst (λ (z : Cell). Did (id_of z) (started z).0 (work_of b).code.value k m) is.0 h)

-- What holds at a place of a list that is one longer
pub snoc-at : {A : Type 0} (Q : ℕ → A → Type 0) (xs : List A) (y : A) (n i : ℕ) (d : A) → length xs ≡ n → i < suc n → (i < n → Q i (get_or xs i d)) → Q n y → Q i (get_or (xs ++ y ∷ []) i d)
snoc-at Q [] y n zero d e lt h q = let z : n ≡ 0 = omega (arith, e) in subst (λ k. Q k y) z q
snoc-at Q [] y n (suc i) d e lt h q = absurd (omega (arith, e, lt))
snoc-at Q (x ∷ xs) y n zero d e lt h q = h (omega (arith, e))
snoc-at Q (x ∷ xs) y zero (suc i) d e lt h q = absurd (omega (arith, e))
snoc-at Q (x ∷ xs) y (suc n) (suc i) d e lt h q = snoc-at (λ j. Q (suc j)) xs y n i d (omega (arith, e)) (omega (arith, lt)) (λ l. h (omega (arith, l))) q

-- The first of some, and the others
pub each-of : (D : Place → Place → Type 0) (ks ms : List Place) (n : ℕ) → length ks ≡ suc n → ((d : Place) → D (get_or ks 0 d) (get_or ms 0 d))
    → ((i : ℕ) (d : Place) → i < n → D (get_or ks (suc i) d) (get_or ms (suc i) d)) → (i : ℕ) (d : Place) → i < length ks → D (get_or ks i d) (get_or ms i d)
each-of D ks ms n e one more zero d lt = one d
each-of D ks ms n e one more (suc i) d lt = more i d (omega (arith, e, lt))

-- The first place alone
pub one-left : (ks : List Place) (n : ℕ) (d : Place) → length ks ≡ suc n → take 1 ks ≡ get_or ks 0 d ∷ []
one-left [] n d e = absurd (omega (arith, e))
one-left (k ∷ ks) n d e = refl

-- What is read of the first place alone
pub first-of : (ks items : List Place) (n : ℕ) (x : Place) → length ks ≡ suc n → items ≡ take 1 ks → x ≡ get_or items 0 x → x ≡ get_or ks 0 x
first-of ks items n x e left is = is ∙ ap (λ l. get_or l 0 x) (left ∙ one-left ks n x e)
