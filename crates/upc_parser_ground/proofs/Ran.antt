-- A run of items, as the parser on lists reads them.
use Rattle.std.proofs.Common.{◌≡◌, ℕ, zero, suc, ◌+◌, ◌-◌, ◌<◌, ◌≤◌, Bool, true, false, List, [], ◌∷◌, ◌++◌, map, length, Result, Ok, Err, refl, sym, ap, ◌∙◌, subst, ◌⊎◌, inl, inr, arith, append_assoc, Vec, Global}
use denote.Ref.{MutBor}
use Rattle.upc_lexer.specs.declared.token.Token.{Token}
use Rattle.upc_parser_ground.specs.declared.cursor.Tokens.{Tokens}
use Rattle.upc_parser_ground.specs.declared.cursor.Fault.{Fault}
use Rattle.upc_parser_ground.specs.declared.cursor.Fail.{Fail}
use Rattle.upc_parser_ground.specs.declared.cursor.Fail.TheVariants as fail
use Rattle.upc_parser_ground.specs.layer.Outcome.{Outcome, Parser, ◌>>=◌, many, all, listed}
use Rattle.upc_parser_ground.specs.layer.Run.{Reads, same, Steps, none, more, Ran}

abbrev with_front : {A : Type 0} → List A → Outcome (List A) → Outcome (List A)
with_front front o = o >>= λ r. Ok (front ++ r.0, r.1)

regroup : {A : Type 0} (front : List A) (x : A) (o : Outcome (List A)) → with_front front (o >>= λ r. Ok (x ∷ r.0, r.1)) ≡ with_front (front ++ x ∷ []) o
regroup front x (Ok r) = ap (λ (m : List _). Ok (m, r.1)) (sym (append_assoc front (x ∷ []) r.0))
regroup front x (Err f) = refl

no_front : {A : Type 0} (o : Outcome (List A)) → with_front [] o ≡ o
no_front (Ok r) = refl
no_front (Err f) = refl

map_push : {X A : Type 0} (view : X → A) (xs : List X) (x : X) → map view (xs ++ x ∷ []) ≡ map view xs ++ view x ∷ []
map_push view [] x = refl
map_push view (y ∷ xs) x = ap (λ l. view y ∷ l) (map_push view xs x)

long_push : {X : Type 0} (xs : List X) (x : X) → length (xs ++ x ∷ []) ≡ suc (length xs)
long_push [] x = refl
long_push (y ∷ xs) x = ap suc (long_push xs x)

empty_end : {A : Type 0} (xs : List A) → xs ++ [] ≡ xs
empty_end [] = refl
empty_end (x ∷ xs) = ap (λ l. x ∷ l) (empty_end xs)

module _ {X A : Type 0} (view : X → A) (goes : List Token → Bool) (item : Parser A) (post : MutBor Tokens → Result X Fail → MutBor Tokens → Type 0)
    (reads : (old new : MutBor Tokens) (r : Result X Fail) → post old r new → Reads view (item old.now.rest.now) r new.now.rest.now) where
  takes : (count : ℕ) (ts : List Token) → goes ts ≡ true → many goes item (suc count) ts ≡ (item ts >>= λ x. many goes item count x.1 >>= λ r. Ok (x.0 ∷ r.0, r.1))
  unfolding many
  takes count ts h = rw h refl

  stays : (count : ℕ) (ts : List Token) → goes ts ≡ false → many goes item count ts ≡ Ok ([], ts)
  unfolding many
  stays zero ts h = refl
  stays (suc count) ts h = rw h refl

  ends : (ts : List Token) → many goes item 0 ts ≡ Ok ([], ts)
  unfolding many
  ends ts = refl

  -- what is left to read after some steps
  left : (start : List Token) (count k : ℕ) (xs : List X) (mid : List Token) → Steps goes post start xs mid → count ≡ length xs + k → many goes item count start ≡ with_front (map view xs) (many goes item k mid)
  left start count k _ _ none e = let same : count ≡ k = omega arith in ap (λ c. many goes item c start) same ∙ sym (no_front (many goes item k start))
  left start count k _ _ (more {xs} {mid} before g x old new at p) e =
      let h = left start count (suc k) xs mid before (omega (arith, long_push xs x)) in
      let one = reads old new (Ok x) p in
      let r : item mid ≡ Ok (view x, new.now.rest.now) = subst (λ (l : List Token). item l ≡ Ok (view x, new.now.rest.now)) at one in
      let step : many goes item (suc k) mid ≡ (many goes item k new.now.rest.now >>= λ r. Ok (view x ∷ r.0, r.1)) = takes k mid g ∙ rw r refl in
      h ∙ ap (with_front (map view xs)) step ∙ regroup (map view xs) (view x) (many goes item k new.now.rest.now) ∙ ap (λ l. with_front l (many goes item k new.now.rest.now)) (sym (map_push view xs x))

  ended : (start : List Token) (xs : List X) (rest : List Token) → Steps goes post start xs rest → (k : ℕ) → length start ≡ length xs + k → many goes item k rest ≡ Ok ([], rest) → many goes item (length start) start ≡ Ok (map view xs, rest)
  ended start xs rest steps k e h = left start (length start) k xs rest steps e ∙ ap (with_front (map view xs)) h ∙ ap (λ (l : List A). Ok (l, rest)) (empty_end (map view xs))

pub one_more : {X : Type 0} {goes : List Token → Bool} {post : MutBor Tokens → Result X Fail → MutBor Tokens → Type 0} (start : List Token) (xs all : List X) (mid : List Token) (x : X) (old new : MutBor Tokens) (n : ℕ) → Steps goes post start xs mid × (length xs ≡ n) → goes mid ≡ true → old.now.rest.now ≡ mid → post old (Ok x) new → all ≡ xs ++ x ∷ [] → Steps goes post start all new.now.rest.now × (length all ≡ n + 1)
one_more {X} {goes} {post} start xs all mid x old new n s g at p e = (subst (λ (l : List X). Steps goes post start l new.now.rest.now) (sym e) (more s.0 g x old new at p), omega (arith, ap (length {A = X}) e, long_push xs x, s.1))

pub nothing : {X : Type 0} {goes : List Token → Bool} {post : MutBor Tokens → Result X Fail → MutBor Tokens → Type 0} (start : List Token) (xs : List X) → xs ≡ [] → Steps goes post start xs start × (length xs ≡ 0)
nothing {X} {goes} {post} start xs e = (subst (λ (l : List X). Steps goes post start l start) (sym e) none, ap (length {A = X}) e)

module _ {X A : Type 0} (view : X → A) (goes : List Token → Bool) (item : Parser A) (post : MutBor Tokens → Result X Fail → MutBor Tokens → Type 0)
    (reads : (old new : MutBor Tokens) (r : Result X Fail) → post old r new → Reads view (item old.now.rest.now) r new.now.rest.now) where
  finished : (start : List Token) (v : Vec X Global) (rest : List Token) → Steps goes post start v.items rest → length v.items ≤ length start → (goes rest ≡ false) ⊎ (length v.items ≡ length start) → many goes item (length start) start ≡ Ok (map view v.items, rest)
  finished start v rest steps le (inl off) = let k = length start - length v.items in ended view goes item post reads start v.items rest steps k (omega arith) (stays view goes item post reads k rest off)
  finished start v rest steps le (inr full) = ended view goes item post reads start v.items rest steps 0 (omega arith) (ends view goes item post reads rest)

  failed : (start : List Token) (f : Fault) (xs : List X) (mid : List Token) (old new : MutBor Tokens) → Steps goes post start xs mid → length xs < length start → goes mid ≡ true → old.now.rest.now ≡ mid → post old (Err (fail.Fault f)) new → many goes item (length start) start ≡ Err f
  failed start f xs mid old new steps lt g at p =
      let k = length start - suc (length xs) in
      let h = left view goes item post reads start (length start) (suc k) xs mid steps (omega arith) in
      let r : item mid ≡ Err f = subst (λ (l : List Token). item l ≡ Err f) at (reads old new (Err (fail.Fault f)) p) in
      let step : many goes item (suc k) mid ≡ Err f = takes view goes item post reads k mid g ∙ rw r refl in
      h ∙ ap (with_front (map view xs)) step

  pub ran_reads : (start : List Token) (r : Result (Vec X Global) Fail) (rest : List Token) → Ran goes post start r rest → Reads (λ v. map view v.items) (many goes item (length start) start) r rest
  ran_reads start (Ok v) rest h = finished start v rest h.0 h.1 h.2
  ran_reads start (Err fail.Memory) rest h = tt
  ran_reads start (Err (fail.Fault f)) rest h = failed start f h.0 h.1 h.2 h.3 h.4 h.5 h.6 h.7 h.8

  pub ran_listed : {As : Type 0} (of : List A → As) (start : List Token) (r : Result (Vec X Global) Fail) (rest : List Token) → Ran goes post start r rest → Reads (λ v. of (map view v.items)) (listed of goes item start) r rest
  ran_listed of start (Ok v) rest h = ap (λ (o : Outcome (List A)). o >>= λ r. Ok (of r.0, r.1)) (finished start v rest h.0 h.1 h.2)
  ran_listed of start (Err fail.Memory) rest h = tt
  ran_listed of start (Err (fail.Fault f)) rest h = ap (λ (o : Outcome (List A)). o >>= λ r. Ok (of r.0, r.1)) (failed start f h.0 h.1 h.2 h.3 h.4 h.5 h.6 h.7 h.8)

map_same : {X : Type 0} (xs : List X) → map (same {X = X}) xs ≡ xs
map_same [] = refl
map_same (x ∷ xs) = ap (λ l. x ∷ l) (map_same xs)

-- items that are their own trees
pub ran_same : {X : Type 0} (goes : List Token → Bool) (item : Parser X) (post : MutBor Tokens → Result X Fail → MutBor Tokens → Type 0)
    → ((old new : MutBor Tokens) (r : Result X Fail) → post old r new → Reads same (item old.now.rest.now) r new.now.rest.now)
    → (start : List Token) (r : Result (Vec X Global) Fail) (rest : List Token) → Ran goes post start r rest → Reads (λ v. v.items) (all goes item start) r rest
ran_same goes item post reads start (Ok v) rest h = ran_reads same goes item post reads start (Ok v) rest h ∙ ap (λ (l : List _). Ok (l, rest)) (map_same v.items)
ran_same goes item post reads start (Err e) rest h = ran_reads same goes item post reads start (Err e) rest h

pub fell : {X : Type 0} {goes : List Token → Bool} {post : MutBor Tokens → Result X Fail → MutBor Tokens → Type 0} (start : List Token) (xs : List X) (mid : List Token) (old new : MutBor Tokens) (e : Fail) → Steps goes post start xs mid → length xs < length start → goes mid ≡ true → old.now.rest.now ≡ mid → post old (Err e) new → Ran goes post start (Err e) new.now.rest.now
fell start xs mid old new fail.Memory s l g at p = tt
fell start xs mid old new (fail.Fault f) s l g at p = (xs, mid, old, new, s, l, g, at, p)
