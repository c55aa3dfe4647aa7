-- Lists of names.
use Rattle.std.proofs.Common.{◌≡◌, ℕ, ◌+◌, ◌<◌, zero, suc, Bool, true, false, not, cond, ◌||◌, List, [], ◌∷◌, ◌++◌, append-nil, length, map, filter, Some, None, refl, sym, ap, ◌∙◌, subst, arith, ltb}
use Rattle.std.proofs.lemmas.Bool.Decides.{nat_tests}
use Rattle.std.specs.List.{list_any, prefix_len, position, slice_get}
use Rattle.std.specs.Cmp.Lexicographic.{bytes_decides}
use Rattle.std.proofs.lemmas.List.{map-append}
use Rattle.std.proofs.lemmas.List.Elements.{filter-append}
use Rattle.upc_lexer.specs.Names.{is_same, insert_name, firsts}

pub same_is : (a b : List ℕ) → is_same a b ≡ true → a ≡ b
same_is a b h = (bytes_decides a b).0 h

pub is_same-refl : (a b : List ℕ) → a ≡ b → is_same a b ≡ true
is_same-refl a b e = (bytes_decides a b).1 e

-- a key that is found, and one that is not, by its bytes
pub any-map : {V : Type 0} (f : V → List ℕ) (name : List ℕ) (ks : List V) → list_any (is_same name) (map f ks) ≡ list_any (λ k. is_same name (f k)) ks
any-map f name [] = refl
any-map f name (k ∷ ks) = rw (any-map f name ks) refl

at_front_by : {V : Type 0} (f : V → List ℕ) (name : List ℕ) (k : V) (ks : List V) (n : ℕ) (b : Bool) → is_same name (f k) ≡ b → (n < length ks → slice_get (map f ks) n ≡ Some name) → cond (not b) (1 + n) 0 < suc (length ks) → slice_get (map f (k ∷ ks)) (cond (not b) (1 + n) 0) ≡ Some name
at_front_by f name k ks n true e h lt = ap Some (sym (same_is name (f k) e))
at_front_by f name k ks n false e h lt = let m : 1 + n ≡ suc n = omega arith in rw m (h (omega arith))

at_front : {V : Type 0} (f : V → List ℕ) (name : List ℕ) (ks : List V) → prefix_len (λ k. not (is_same name (f k))) ks < length ks → slice_get (map f ks) (prefix_len (λ k. not (is_same name (f k))) ks) ≡ Some name
at_front f name [] lt = absurd (omega arith)
at_front f name (k ∷ ks) lt = at_front_by f name k ks (prefix_len (λ k. not (is_same name (f k))) ks) (is_same name (f k)) refl (at_front f name ks) lt

at_position : (n m i : ℕ) (b : Bool) → ltb n m ≡ b → cond b (Some n) None ≡ Some i → (n < m) × (n ≡ i)
at_position n m i true e h = (grind (arith, nat_tests), cc)
at_position n m i false e h = absurd cc

-- the key at a position is the name
pub found_at : {V : Type 0} (f : V → List ℕ) (name : List ℕ) (ks : List V) (i : ℕ) → Some i ≡ position (λ k. is_same name (f k)) ks → slice_get (map f ks) i ≡ Some name
found_at f name ks i e =
    let p = at_position (prefix_len (λ k. not (is_same name (f k))) ks) (length ks) i _ refl (sym e) in
    subst (λ j. slice_get (map f ks) j ≡ Some name) p.1 (at_front f name ks p.0)

pub last_at : (names : List (List ℕ)) (x : List ℕ) (n : ℕ) → n ≡ length names → slice_get (names ++ x ∷ []) n ≡ Some x
last_at [] x n e = rw e refl
last_at (y ∷ names) x zero e = absurd (omega arith)
last_at (y ∷ names) x (suc n) e = last_at names x n (omega arith)

-- what stands in a list stands in one that goes on
pub slice_get-append : {A : Type 0} (xs ys : List A) (n : ℕ) (x : A) → slice_get xs n ≡ Some x → slice_get (xs ++ ys) n ≡ Some x
slice_get-append [] ys n x e = absurd cc
slice_get-append (z ∷ xs) ys zero x e = e
slice_get-append (z ∷ xs) ys (suc n) x e = slice_get-append xs ys n x e

pub is_same-swap : (a b : List ℕ) → is_same a b ≡ is_same b a
is_same-swap a b = by_tests (is_same a b) (is_same b a) refl refl
  where
    by_tests : (v w : Bool) → is_same a b ≡ v → is_same b a ≡ w → v ≡ w
    by_tests true true e f = refl
    by_tests false false e f = refl
    by_tests true false e f = sym (is_same-refl b a (sym (same_is a b e))) ∙ f
    by_tests false true e f = sym e ∙ is_same-refl a b (sym (same_is b a f))

no_same : (x y z : List ℕ) (v : Bool) → is_same y x ≡ false → is_same y z ≡ true → is_same x z ≡ v → v ≡ false
no_same x y z false e f g = refl
no_same x y z true e f g = sym (is_same-refl y x (same_is y z f ∙ sym (same_is x z g))) ∙ e

any_filter_by : (x y z : List ℕ) (zs : List (List ℕ)) (b : Bool) → is_same y x ≡ false → is_same y z ≡ b → list_any (is_same x) (filter (λ z. not (is_same y z)) zs) ≡ list_any (is_same x) zs → list_any (is_same x) (cond (not b) (z ∷ filter (λ z. not (is_same y z)) zs) (filter (λ z. not (is_same y z)) zs)) ≡ (is_same x z || list_any (is_same x) zs)
any_filter_by x y z zs false e f h = ap (λ b. is_same x z || b) h
any_filter_by x y z zs true e f h = let off : is_same x z ≡ false = no_same x y z (is_same x z) e f refl in rw off h

-- a filter of what is other than y does not drop x
pub any_filter : (x y : List ℕ) (zs : List (List ℕ)) → is_same y x ≡ false → list_any (is_same x) (filter (λ z. not (is_same y z)) zs) ≡ list_any (is_same x) zs
any_filter x y [] e = refl
any_filter x y (z ∷ zs) e = any_filter_by x y z zs (is_same y z) e refl (any_filter x y zs e)

push_same : (x y : List ℕ) (zs : List (List ℕ)) (a : Bool) → is_same y x ≡ true → list_any (is_same x) zs ≡ a → filter (λ z. not (is_same y z)) (cond a zs (zs ++ x ∷ [])) ≡ filter (λ z. not (is_same y z)) zs
push_same x y zs true e f = refl
push_same x y zs false e f = filter-append (λ z. not (is_same y z)) zs (x ∷ []) ∙ rw e (append-nil (filter (λ z. not (is_same y z)) zs))

push_other : (x y : List ℕ) (zs : List (List ℕ)) (a : Bool) → is_same y x ≡ false → filter (λ z. not (is_same y z)) (cond a zs (zs ++ x ∷ [])) ≡ cond a (filter (λ z. not (is_same y z)) zs) (filter (λ z. not (is_same y z)) zs ++ x ∷ [])
push_other x y zs true e = refl
push_other x y zs false e = filter-append (λ z. not (is_same y z)) zs (x ∷ []) ∙ rw e refl

cons_cond : (a : Bool) (y : List ℕ) (xs ys : List (List ℕ)) → y ∷ cond a xs ys ≡ cond a (y ∷ xs) (y ∷ ys)
cons_cond true y xs ys = refl
cons_cond false y xs ys = refl

push_by : (x y : List ℕ) (zs : List (List ℕ)) (b : Bool) → is_same y x ≡ b → y ∷ filter (λ z. not (is_same y z)) (insert_name zs x) ≡ insert_name (y ∷ filter (λ z. not (is_same y z)) zs) x
push_by x y zs true e =
    let back : is_same x y ≡ true = is_same-swap x y ∙ e in
    ap (λ l. y ∷ l) (push_same x y zs (list_any (is_same x) zs) e refl) ∙ rw back refl
push_by x y zs false e =
    let back : is_same x y ≡ false = is_same-swap x y ∙ e in
    ap (λ l. y ∷ l) (push_other x y zs (list_any (is_same x) zs) e) ∙ cons_cond (list_any (is_same x) zs) y _ _ ∙ rw (back, any_filter x y zs e) refl

-- one more name at the end
pub firsts-push : (xs : List (List ℕ)) (x : List ℕ) → firsts (xs ++ x ∷ []) ≡ insert_name (firsts xs) x
firsts-push [] x = refl
firsts-push (y ∷ ys) x = ap (λ l. y ∷ filter (λ z. not (is_same y z)) l) (firsts-push ys x) ∙ push_by x y (firsts ys) _ refl

-- what the set of names becomes
pub insert_present : (names : List (List ℕ)) (x : List ℕ) → list_any (is_same x) names ≡ true → names ≡ insert_name names x
insert_present names x e = rw e refl

pub new_key : {V : Type 0} (f : V → List ℕ) (x : List ℕ) (ks ks' : List V) (v : V) → f v ≡ x → list_any (λ k. is_same x (f k)) ks ≡ false → ks' ≡ cond (list_any (λ k. is_same (f v) (f k)) ks) ks (ks ++ v ∷ []) → map f ks' ≡ map f ks ++ x ∷ []
new_key f x ks ks' v e none h =
    let off : list_any (λ k. is_same (f v) (f k)) ks ≡ false = rw e none in
    let added : ks' ≡ ks ++ v ∷ [] = h ∙ rw off refl in
    ap (map f) added ∙ map-append f ks (v ∷ []) ∙ rw e refl

pub insert_absent : (names : List (List ℕ)) (x : List ℕ) → list_any (is_same x) names ≡ false → names ++ x ∷ [] ≡ insert_name names x
insert_absent names x e = rw e refl
