-- What the steps of a part of a call are.
use Rattle.std.proofs.Common.{◌≡◌, ℕ, Bool, true, false, cond, List, [], ◌∷◌, ◌++◌, ◌⊎◌, inl, inr, refl, sym, ap, subst}
use Rattle.block_layout.specs.declared.place.Loc.{Loc}
use Rattle.upc_values.specs.declared.scalar.Scalar.{Scalar}
use Rattle.upc_values.specs.layer.Parts.{unless_refused}
use Rattle.upc_values.specs.declared.action.Action.{Action}
use Rattle.upc_values.specs.declared.action.Reply.{Reply}
use Rattle.upc_values.specs.declared.action.Reply.TheVariants as reply
use Rattle.upc_values.specs.Lists.{Each, Has}
use Rattle.upc_values.specs.Expansion.{Expansion, Gives, Fails, Reads, Asks, Loads, Stores, bind, does}
use Rattle.upc_values.specs.Expansion.{each_in_turn, refused_by}
use Rattle.upc_values.proofs.Membership.{each-append}
use Rattle.collective_laws_words.specs.layer.Steps.{Step, Performs}
use Rattle.collective_laws_words.specs.layer.Interface.{Wrote, ReadSo}

-- ---- one part of a call, and what its value leads to

-- The steps of both, put end to end.
pub record Split {A B : Type 0} (e : Expansion A) (go : A → Expansion B) (did : List Step) (w : B) : Type 0 where
  pub value : A
  pub first : List Step
  pub rest : List Step
  pub is : did ≡ first ++ rest
  pub begins : Performs e first value
  pub goes : Performs (go value) rest w

module _ {A B : Type 0} (go : A → Expansion B) where
  pub split : (e : Expansion A) (did : List Step) (w : B) → Performs (bind e go) did w → Split e go did w
  split (Gives v) did w h = record { value = v; first = []; rest = did; is = refl; begins = (refl, refl); goes = h }
  split (Fails c) did w h = absurd h
  split (Reads l k after) [] w h = absurd h
  split (Reads l k after) (s ∷ did) w h =
      let q = split (after h.1) did w h.3 in
      record {
        value = q.value;
        first = s ∷ q.first;
        rest = q.rest;
        is = ap (λ d. s ∷ d) q.is;
        begins = (h.0, h.1, h.2, q.begins);
        goes = q.goes;
      }
  split (Asks a after) [] w h = absurd h
  split (Asks a after) (s ∷ did) w h =
      let q = split (after s.reply) did w h.1 in
      record {
        value = q.value;
        first = s ∷ q.first;
        rest = q.rest;
        is = ap (λ d. s ∷ d) q.is;
        begins = (h.0, q.begins);
        goes = q.goes;
      }
  split (Loads p k after) did w h =
      let q = split (after h.0) did w h.1 in
      record { value = q.value; first = q.first; rest = q.rest; is = q.is; begins = (h.0, q.begins); goes = q.goes }
  split (Stores p k v after) did w h =
      let q = split after did w h in
      record { value = q.value; first = q.first; rest = q.rest; is = q.is; begins = q.begins; goes = q.goes }

-- ---- tests

module _ {A : Type 0} where
  pub passes : (b : Bool) (c : ℕ) (e : Expansion A) (did : List Step) (w : A) → Performs (cond b (Fails c) e) did w
      → (b ≡ false) × Performs e did w
  passes true c e did w h = absurd h
  passes false c e did w h = (refl, h)

-- Three tests and what follows them.
pub record Passed {A : Type 0} (a b c : Bool) (e : Expansion A) (did : List Step) (w : A) : Type 0 where
  pub first : a ≡ false
  pub second : b ≡ false
  pub third : c ≡ false
  pub goes : Performs e did w

pub passes_three : {A : Type 0} (a b c : Bool) (k l m : ℕ) (e : Expansion A) (did : List Step) (w : A)
    → Performs (refused_by ((a, k) ∷ (b, l) ∷ (c, m) ∷ []) e) did w → Passed a b c e did w
passes_three a b c k l m e did w h =
    let x = passes a k (refused_by ((b, l) ∷ (c, m) ∷ []) e) did w h in
    let y = passes b l (refused_by ((c, m) ∷ []) e) did w x.1 in
    let z = passes c m e did w y.1 in
    record { first = x.0; second = y.0; third = z.0; goes = z.1 }

-- ---- single steps

-- One step, which does this action.
pub record DoesOne (a : Action) (did : List Step) : Type 0 where
  pub step : Step
  pub is : did ≡ step ∷ []
  pub action : step.action ≡ a

no_more : (r : Reply) (did : List Step) (w : Unit {0}) → Performs (unless_refused r) did w → did ≡ []
no_more reply.Done did w h = h.0
no_more (reply.Value v) did w h = h.0
no_more (reply.Flag b) did w h = h.0
no_more (reply.Refused c) did w h = absurd h

pub does_one : (a : Action) (did : List Step) (w : Unit {0}) → Performs (does a) did w → DoesOne a did
does_one a [] w h = absurd h
does_one a (s ∷ did) w h =
    record { step = s; is = ap (λ d. s ∷ d) (no_more s.reply did w h.1); action = h.0 }

-- ---- steps put end to end

pub wrote_cases : (l : Loc) (v : Scalar) (xs ys : List Step) → Wrote l v (xs ++ ys) → Wrote l v xs ⊎ Wrote l v ys
wrote_cases l v [] ys h = inr h
wrote_cases l v (x ∷ xs) ys (inl e) = inl (inl e)
wrote_cases l v (x ∷ xs) ys (inr h) = elim (wrote_cases l v xs ys h) [ inl k ↦ inl (inr k) | inr k ↦ inr k ]

wrote_left : (l : Loc) (v : Scalar) (xs ys : List Step) → Wrote l v xs → Wrote l v (xs ++ ys)
wrote_left l v [] ys h = absurd h
wrote_left l v (x ∷ xs) ys (inl e) = inl e
wrote_left l v (x ∷ xs) ys (inr h) = inr (wrote_left l v xs ys h)

wrote_right : (l : Loc) (v : Scalar) (xs ys : List Step) → Wrote l v ys → Wrote l v (xs ++ ys)
wrote_right l v [] ys h = h
wrote_right l v (x ∷ xs) ys h = inr (wrote_right l v xs ys h)

read_left : (l : Loc) (v : Scalar) (xs ys : List Step) → ReadSo l v xs → ReadSo l v (xs ++ ys)
read_left l v [] ys h = absurd h
read_left l v (x ∷ xs) ys (inl e) = inl e
read_left l v (x ∷ xs) ys (inr h) = inr (read_left l v xs ys h)

read_right : (l : Loc) (v : Scalar) (xs ys : List Step) → ReadSo l v ys → ReadSo l v (xs ++ ys)
read_right l v [] ys h = h
read_right l v (x ∷ xs) ys h = inr (read_right l v xs ys h)

-- What some steps wrote and read others did too.
pub record IsOf (part did : List Step) : Type 0 where
  pub wrote : (l : Loc) (v : Scalar) → Wrote l v part → Wrote l v did
  pub read : (l : Loc) (v : Scalar) → ReadSo l v part → ReadSo l v did

pub is_front : (did xs ys : List Step) → did ≡ xs ++ ys → IsOf xs did
is_front did xs ys e = record {
  wrote = λ l v h. subst (Wrote l v) (sym e) (wrote_left l v xs ys h);
  read = λ l v h. subst (ReadSo l v) (sym e) (read_left l v xs ys h);
}

pub is_back : (did xs ys : List Step) → did ≡ xs ++ ys → IsOf ys did
is_back did xs ys e = record {
  wrote = λ l v h. subst (Wrote l v) (sym e) (wrote_right l v xs ys h);
  read = λ l v h. subst (ReadSo l v) (sym e) (read_right l v xs ys h);
}

pub is_of_same : (xs : List Step) → IsOf xs xs
is_of_same xs = record { wrote = λ l v h. h; read = λ l v h. h }

pub is_of_twice : (xs ys zs : List Step) → IsOf xs ys → IsOf ys zs → IsOf xs zs
is_of_twice xs ys zs h k = record {
  wrote = λ l v w. k.wrote l v (h.wrote l v w);
  read = λ l v w. k.read l v (h.read l v w);
}

-- ---- what is done for each member of a list

module _ {X : Type 0} (f : X → Expansion (Unit {0})) where
  -- The steps for one member.
  pub record Turn (x : X) (did : List Step) : Type 0 where
    pub part : List Step
    pub performs : Performs (f x) part tt
    pub within : IsOf part did

  later : (x : X) (rest did : List Step) → IsOf rest did → Turn x rest → Turn x did
  later x rest did h t =
      record { part = t.part; performs = t.performs; within = is_of_twice t.part rest did t.within h }

  pub turn_of : (xs : List X) (x : X) (did : List Step) → Performs (each_in_turn f xs) did tt → Has xs x → Turn x did
  turn_of [] x did h m = absurd m
  turn_of (y ∷ ys) x did h m =
      let q = split (λ u. each_in_turn f ys) (f y) did tt h in
      elim m [
        | inl e ↦
            record {
              part = q.first;
              performs = subst (λ z. Performs (f z) q.first tt) e q.begins;
              within = is_front did q.first q.rest q.is;
            }
        | inr k ↦ later x q.rest did (is_back did q.first q.rest q.is) (turn_of ys x q.rest q.goes k)
      ]

  -- The steps of a member that wrote this.
  pub record Writer (l : Loc) (v : Scalar) (xs : List X) (did : List Step) : Type 0 where
    pub member : X
    pub has : Has xs member
    pub turn : Turn member did
    pub wrote : Wrote l v turn.part

  pub writer : (l : Loc) (v : Scalar) (xs : List X) (did : List Step) → Performs (each_in_turn f xs) did tt
      → Wrote l v did → Writer l v xs did
  unfolding later
  writer l v [] did h w = absurd (subst (Wrote l v) h.0 w)
  writer l v (y ∷ ys) did h w =
      let q = split (λ u. each_in_turn f ys) (f y) did tt h in
      elim (wrote_cases l v q.first q.rest (subst (Wrote l v) q.is w)) [
        | inl k ↦
            record {
              member = y;
              has = inl refl;
              turn = record { part = q.first; performs = q.begins; within = is_front did q.first q.rest q.is };
              wrote = k;
            }
        | inr k ↦
            let r = writer l v ys q.rest q.goes k in
            record {
              member = r.member;
              has = inr r.has;
              turn = later r.member q.rest did (is_back did q.first q.rest q.is) r.turn;
              wrote = r.wrote;
            }
      ]

  -- What holds of each step of each member.
  pub each_turn : (P : Step → Type 0) (xs : List X)
      → ((x : X) (part : List Step) → Has xs x → Performs (f x) part tt → Each P part)
      → (did : List Step) → Performs (each_in_turn f xs) did tt → Each P did
  each_turn P [] g did h = subst (Each P) (sym h.0) tt
  each_turn P (y ∷ ys) g did h =
      let q = split (λ u. each_in_turn f ys) (f y) did tt h in
      subst (Each P) (sym q.is)
      (each-append P q.first q.rest (g y q.first (inl refl) q.begins)
      (each_turn P ys (λ x part m. g x part (inr m)) q.rest q.goes))
