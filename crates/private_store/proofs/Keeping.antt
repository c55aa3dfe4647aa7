-- What a store keeps through entering, leaving and writing.
use Rattle.std.proofs.Common.{◌≡◌, ◌⊎◌, inl, inr, ℕ, ◌+◌, ◌-◌, ◌<◌, ◌≤◌, ◌^◌, List, [], ◌∷◌, ◌++◌, length, get_or, set, take, All, refl, sym, subst, ap, ◌∙◌, arith, length-append}
use Rattle.std.proofs.lemmas.Bool.{cases_eq, cases_lt}
use Rattle.std.proofs.lemmas.List.{get_or-take, length-take, length-set, get_or_append_left, get_or-append_right, get_or-set_same, get_or-set_other, get_or_default}
use Rattle.std.proofs.lemmas.Grind.{common_steps}
use Rattle.std.proofs.lemmas.List.Elements.{All-take, All-append}
use Rattle.std.proofs.lemmas.List.Sums.{sum_by-append, sum_by-cons, sum_by-set}
use Rattle.block_layout.specs.declared.kind.Shape.{Shape}
use Rattle.upc_values.specs.declared.scalar.Value.{Value}
use Rattle.private_store.specs.declared.frame.Block.{Block}
use Rattle.private_store.specs.Live.{Thing, thing_bytes, bytes_in, blank_thing, blank_things}
use Rattle.private_store.specs.code.Kept.{AreNumbered, IsKept}
use Rattle.private_store.proofs.CellKinds.{few_shapes}

-- ---- new objects

pub blank_length : (n : ℕ) (shapes : List Shape) → length (blank_things n shapes) ≡ length shapes
blank_length n [] = refl
blank_length n (s ∷ shapes) = ap (λ k. ℕ.suc k) (blank_length (n + 1) shapes)

pub blank_number : (shapes : List Shape) (n k : ℕ) (d : Thing) → k < length shapes → (get_or (blank_things n shapes) k d).number ≡ n + k
blank_number [] n k d lt = absurd (omega arith)
blank_number (s ∷ shapes) n ℕ.zero d lt = omega arith
blank_number (s ∷ shapes) n (ℕ.suc k) d lt = let e = blank_number shapes (n + 1) k d (omega arith) in omega arith

pub blank_bytes : (n : ℕ) (shapes : List Shape) → thing_bytes (blank_things n shapes) ≡ bytes_in shapes
blank_bytes n [] = refl
blank_bytes n (s ∷ shapes) =
    sum_by-cons (λ (x : Thing). x.shape.size) (blank_thing n s) (blank_things (n + 1) shapes)
    ∙ ap (λ m. s.size + m) (blank_bytes (n + 1) shapes)
    ∙ sym (sum_by-cons (λ (t : Shape). t.size) s shapes)

pub blank_append : (n : ℕ) (shapes more : List Shape) → blank_things n (shapes ++ more) ≡ blank_things n shapes ++ blank_things (n + length shapes) more
blank_append n [] more = ap (λ m. blank_things m more) (let e : n ≡ n + 0 = omega arith in e)
blank_append n (s ∷ shapes) more =
    ap (λ l. blank_thing n s ∷ l) (blank_append (n + 1) shapes more ∙ ap (λ m. blank_things (n + 1) shapes ++ blank_things m more) (let e : n + 1 + length shapes ≡ n + ℕ.suc (length shapes) = omega arith in e))

-- one more
pub blank_more : (n : ℕ) (shapes : List Shape) (s : Shape) (m : ℕ) → m ≡ n + length shapes
    → blank_things n (shapes ++ s ∷ []) ≡ blank_things n shapes ++ blank_thing m s ∷ []
blank_more n shapes s m e =
    blank_append n shapes (s ∷ []) ∙ ap (λ j. blank_things n shapes ++ blank_thing j s ∷ []) (sym e)

pub bytes_more : (shapes : List Shape) (s : Shape) → bytes_in (shapes ++ s ∷ []) ≡ bytes_in shapes + s.size
bytes_more shapes s =
    let a = sum_by-append (λ (t : Shape). t.size) shapes (s ∷ []) in
    let b = sum_by-cons (λ (t : Shape). t.size) s [] in
    omega arith

-- ---- entering

module _ (objects : List Thing) (next : ℕ) (below : All (λ x. x.number < next) objects) (shapes : List Shape) where
  abbrev Where : ℕ → Thing → Type 0
  Where k d =
      ((k < length objects) × ((get_or (objects ++ blank_things next shapes) k d).number ≡ (get_or objects k d).number))
      ⊎ ((length objects ≤ k) × ((get_or (objects ++ blank_things next shapes) k d).number ≡ next + (k - length objects)))

  placed : (k : ℕ) (d : Thing) → k < length (objects ++ blank_things next shapes) → Where k d
  placed k d lt =
      let l = length-append objects (blank_things next shapes) in
      let m = blank_length next shapes in
      elim (cases_lt k (length objects)) [
        | inl b ↦ inl (b, ap (λ x. x.number) (get_or_append_left objects (blank_things next shapes) d k b))
        | inr a ↦ inr (a, ap (λ x. x.number) (get_or-append_right objects (blank_things next shapes) (length objects) k d refl a) ∙ blank_number shapes next (k - length objects) d (omega arith))
      ]

  pub numbered_entered : AreNumbered objects → AreNumbered (objects ++ blank_things next shapes)
  numbered_entered up i j d lt l =
      elim (placed i d (omega arith)) [
        | inl a ↦ elim (placed j d l) [
          | inl b ↦ (let h = up i j d lt b.0 in omega (arith, a.1, b.1))
          | inr b ↦ (let h = below i d a.0 in omega (arith, a.1, b.1))
        ]
        | inr a ↦ elim (placed j d l) [
          | inl b ↦ absurd (omega (arith, a.0, b.0))
          | inr b ↦ omega (arith, a.0, a.1, b.1)
        ]
      ]

  pub below_entered : All (λ x. x.number < next + length shapes) (objects ++ blank_things next shapes)
  below_entered k d lt =
      let l = length-append objects (blank_things next shapes) in
      let m = blank_length next shapes in
      elim (placed k d lt) [
        | inl a ↦ (let h = below k d a.0 in omega (arith, a.1))
        | inr a ↦ omega (arith, a.0, a.1)
      ]

pub kept_entered : (objects : List Thing) (blocks : List Block) (next space : ℕ) (shapes : List Shape) (b : Block) → IsKept objects blocks next space
    → next + length shapes ≤ 2 ^ 63 → space + bytes_in shapes ≤ 1048576 → b.first ≡ next
    → IsKept (objects ++ blank_things next shapes) (blocks ++ b ∷ []) (next + length shapes) (space + bytes_in shapes)
kept_entered objects blocks next space shapes b k few room first =
    record {
      numbered = numbered_entered objects next k.below shapes k.numbered;
      below = below_entered objects next k.below shapes;
      few = few;
      firsts = All-append (λ (x : Block). x.first ≤ 2 ^ 63) blocks (b ∷ []) k.firsts (one b (rw first k.few));
      counted = (let s = sum_by-append (λ (x : Thing). x.shape.size) objects (blank_things next shapes) in let m = blank_bytes next shapes in omega (arith, k.counted));
      room = room;
    }
  where
    one : (b : Block) → b.first ≤ 2 ^ 63 → All (λ (x : Block). x.first ≤ 2 ^ 63) (b ∷ [])
    one b h ℕ.zero d lt = h
    one b h (ℕ.suc i) d lt = absurd (omega arith)

-- ---- leaving

numbered_taken : (objects : List Thing) (n : ℕ) → AreNumbered objects → AreNumbered (take n objects)
numbered_taken objects n up i j d lt l =
    let e = length-take n objects in
    let a = ap (λ (x : Thing). x.number) (get_or-take n objects i d (omega arith)) in
    let b = ap (λ (x : Thing). x.number) (get_or-take n objects j d (omega arith)) in
    let h = up i j d lt (omega arith) in omega arith

pub kept_taken : (objects : List Thing) (blocks : List Block) (next space n m ended : ℕ) → IsKept objects blocks next space
    → thing_bytes (take n objects) + ended ≡ thing_bytes objects → IsKept (take n objects) (take m blocks) next (space - ended)
kept_taken objects blocks next space n m ended k e =
    record {
      numbered = numbered_taken objects n k.numbered;
      below = All-take (λ (x : Thing). x.number < next) n objects k.below;
      few = k.few;
      firsts = All-take (λ (b : Block). b.first ≤ 2 ^ 63) m blocks k.firsts;
      counted = omega (arith, k.counted);
      room = omega (arith, k.room);
    }

-- ---- writing

pub renumbered : (objects : List Thing) (i : ℕ) (z : Thing) (k : ℕ) (d : Thing) → i < length objects → z.number ≡ (get_or objects i d).number
    → (get_or (set objects i z) k d).number ≡ (get_or objects k d).number
renumbered objects i z k d lt same =
    elim (cases_eq k i) [
      | inl e ↦ ap (λ j. (get_or (set objects i z) j d).number) e ∙ ap (λ x. x.number) (get_or-set_same objects i z d lt) ∙ same ∙ ap (λ j. (get_or objects j d).number) (sym e)
      | inr ne ↦ ap (λ x. x.number) (get_or-set_other objects i k z d ne)
    ]

pub kept_put : (objects : List Thing) (blocks : List Block) (next space i : ℕ) (x : Thing) (vs : List Value) → IsKept objects blocks next space → i < length objects
    → x ≡ get_or objects i x → IsKept (set objects i (record x { values = vs })) blocks next space
kept_put objects blocks next space i x vs k lt is =
    let z : Thing = record x { values = vs } in
    let length_same = length-set objects i z in
    let number_at : (j : ℕ) (d : Thing) → (get_or (set objects i z) j d).number ≡ (get_or objects j d).number = λ j d. renumbered objects i z j d lt (ap (λ t. t.number) (is ∙ same_default d)) in
    record {
      numbered = λ a b d l m. (let h = k.numbered a b d l (omega arith) in let p = number_at a d in let q = number_at b d in omega arith);
      below = λ a d l. (let h = k.below a d (omega arith) in let p = number_at a d in omega arith);
      few = k.few;
      firsts = k.firsts;
      counted = (let s = sum_by-set (λ (t : Thing). t.shape.size) objects i z x lt in let g = ap (λ t. t.shape.size) is in omega (arith, k.counted));
      room = k.room;
    }
  where
    same_default : (d : Thing) → get_or objects i x ≡ get_or objects i d
    same_default d = get_or_default objects i x d lt

pub kept_set : (objects os : List Thing) (blocks : List Block) (next space at place : ℕ) (v : Value) → IsKept objects blocks next space → at < length objects
    → ((d : Thing) → let x = get_or objects at d in os ≡ set objects at (record x { values = set x.values place v })) → IsKept os blocks next space
kept_set [] os blocks next space at place v k lt is = absurd (omega arith)
kept_set (d ∷ ds) os blocks next space at place v k lt is =
    let x = get_or (d ∷ ds) at d in
    subst (λ l. IsKept l blocks next space) (sym (is d))
    (kept_put (d ∷ ds) blocks next space at x (set x.values place v) k lt (get_or_default (d ∷ ds) at d x lt))

-- ---- how many live

at_least : (things : List Thing) → AreNumbered things → (k : ℕ) (d : Thing) → k < length things → k ≤ (get_or things k d).number
at_least things up ℕ.zero d lt = omega arith
at_least things up (ℕ.suc k) d lt =
    let h = at_least things up k d (omega arith) in
    let u = up k (ℕ.suc k) d (omega arith) lt in omega arith

pub few_objects : (things : List Thing) (next : ℕ) → AreNumbered things → All (λ x. x.number < next) things → length things ≤ next
few_objects [] next up below = omega arith
few_objects (x ∷ xs) next up below =
    let h = at_least (x ∷ xs) up (length xs) x (omega arith) in
    let b = below (length xs) x (omega arith) in omega arith

-- ---- beginning

pub kept_begun : (shapes : List Shape) (n : ℕ) → n ≡ length shapes → n ≤ 2 ^ 63 → bytes_in shapes ≤ 1048576 → IsKept (blank_things 0 shapes) [] n (bytes_in shapes)
kept_begun shapes n e few room =
    let none : All (λ (x : Thing). x.number < 0) [] = λ k d lt. absurd (omega arith) in
    record {
      numbered = numbered_entered [] 0 none shapes (λ i j d lt l. absurd (omega arith));
      below = λ k d lt. (let h = below_entered [] 0 none shapes k d lt in omega arith);
      few = few;
      firsts = λ k d lt. absurd (omega arith);
      counted = sym (blank_bytes 0 shapes);
      room = room;
    }

pub ruleset beginning = (kept_begun, few_shapes)

pub ruleset making = (blank_more, bytes_more, blank_length, common_steps)
