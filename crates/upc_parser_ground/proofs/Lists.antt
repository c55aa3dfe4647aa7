-- Lists of items, in both directions.
use Rattle.std.proofs.Common.{◌≡◌, ℕ, zero, suc, ◌<◌, ◌≤◌, Bool, true, false, List, [], ◌∷◌, length, Ok, refl, sym, ap, ◌∙◌, subst, inl, inr, arith}
use Rattle.upc_lexer.specs.declared.token.Token.{Token}
use Rattle.upc_tree.specs.layer.Lists.{spell_all, highest}
use Rattle.upc_parser_ground.specs.layer.Outcome.{Parser, ◌>>=◌, many, all, listed}
use Rattle.upc_parser_ground.proofs.Sequence.{Gets, gets, step, bind_ok, done, ok_is, either, no_both}

abbrev pub AllOf : {X : Type 0} → (X → Type 0) → List X → Type 0
AllOf Good [] = Unit {0}
AllOf Good (x ∷ xs) = Good x × AllOf Good xs

-- each item may be followed by what follows it
abbrev pub Follows : {X : Type 0} → (X → List Token → List Token) → (X → List Token → Type 0) → List X → List Token → Type 0
Follows spell Follow [] rest = Unit {0}
Follows spell Follow (x ∷ xs) rest = Follow x (spell_all spell xs rest) × Follows spell Follow xs rest

-- the list of a tree beside the plain list
pub record Kind {X Xs : Type 0} (of : List X → Xs) (spell : X → List Token → List Token) (spells : Xs → List Token → List Token) (height : X → ℕ) (heights : Xs → ℕ) (Good : X → Type 0) (Goods : Xs → Type 0) : Type 0 where
  pub back : Xs → List X
  pub back_is : (u : Xs) → of (back u) ≡ u
  pub spelled : (l : List X) (rest : List Token) → spells (of l) rest ≡ spell_all spell l rest
  pub highs : (l : List X) → heights (of l) ≡ highest height l
  pub good : (l : List X) → AllOf Good l → Goods (of l)
  pub goods : (l : List X) → Goods (of l) → AllOf Good l

-- what a parser of an item finds
pub record Finding {X : Type 0} (spell : X → List Token → List Token) (height : X → ℕ) (Good : X → Type 0) (Follow : X → List Token → Type 0) (n : ℕ) (ts : List Token) (x : X × List Token) : Type 0 where
  pub parts : ts ≡ spell x.0 x.1
  pub good : Good x.0
  pub low : height x.0 ≤ n
  pub follow : Follow x.0 x.1

pub found : {X : Type 0} {spell : X → List Token → List Token} {height : X → ℕ} {Good : X → Type 0} {Follow : X → List Token → Type 0} {n : ℕ} {ts : List Token} {x y : X × List Token}
    → done x ≡ done y → Finding spell height Good Follow n ts x → Finding spell height Good Follow n ts y
found {spell = spell} {height = height} {Good = Good} {Follow = Follow} {n = n} {ts = ts} e f = subst (Finding spell height Good Follow n ts) (ok_is _ _ e) f

pub record FindingAll {X : Type 0} (spell : X → List Token → List Token) (height : X → ℕ) (Good : X → Type 0) (Follow : X → List Token → Type 0) (n : ℕ) (ts : List Token) (x : List X × List Token) : Type 0 where
  pub parts : ts ≡ spell_all spell x.0 x.1
  pub good : AllOf Good x.0
  pub low : highest height x.0 ≤ n
  pub follows : Follows spell Follow x.0 x.1

module _ {X : Type 0} (goes : List Token → Bool) (item : Parser X) (spell : X → List Token → List Token) (height : X → ℕ) (Good : X → Type 0) (Follow : X → List Token → Type 0) (n : ℕ) where
  pub many_reads : ((x : X) (rest : List Token) → Good x → Follow x rest → Gets n (height x) (item (spell x rest)) (x, rest))
      → ((x : X) (rest : List Token) → Good x → goes (spell x rest) ≡ true)
      → ((x : X) (rest : List Token) → length rest < length (spell x rest))
      → (count : ℕ) (xs : List X) (rest : List Token) → AllOf Good xs → Follows spell Follow xs rest → goes rest ≡ false → length (spell_all spell xs rest) ≤ count
      → Gets n (highest height xs) (many goes item count (spell_all spell xs rest)) (xs, rest)
  unfolding many
  many_reads reads begins long zero [] rest good follow off le = gets refl
  many_reads reads begins long (suc count) [] rest good follow off le = gets (rw off refl)
  many_reads reads begins long zero (x ∷ xs) rest good follow off le = absurd (omega (arith, long x (spell_all spell xs rest)))
  many_reads reads begins long (suc count) (x ∷ xs) rest good follow off le =
      let on = begins x (spell_all spell xs rest) good.0 in
      rw on (step _ (reads x (spell_all spell xs rest) good.0 follow.0) (λ l. omega arith)
      (step _ (many_reads reads begins long count xs rest good.1 follow.1 off (omega (arith, long x (spell_all spell xs rest)))) (λ l. omega arith) (gets refl)))

  pub many_finds : ((ts : List Token) (x : X × List Token) → goes ts ≡ true → item ts ≡ Ok x → Finding spell height Good Follow n ts x)
      → (count : ℕ) (ts : List Token) (r : List X × List Token) → many goes item count ts ≡ Ok r → FindingAll spell height Good Follow n ts r
  unfolding many
  many_finds finds zero ts r e = subst (FindingAll spell height Good Follow n ts) (ok_is ([], ts) r e) (record { parts = refl; good = tt; low = omega arith; follows = tt })
  many_finds finds (suc count) ts r e = elim (either (goes ts) _ _ (done r) e) [
    | inl on ↦
        let a = bind_ok (item ts) _ r on.1 in
        let b = bind_ok (many goes item count a.0.1) _ r a.2 in
        let f = finds ts a.0 on.0 a.1 in
        let g = many_finds finds count a.0.1 b.0 b.1 in
        subst (FindingAll spell height Good Follow n ts) (ok_is _ r b.2) (record {
          parts = f.parts ∙ ap (spell a.0.0) g.parts;
          good = (f.good, g.good);
          low = omega (arith, f.low, g.low);
          follows = (subst (Follow a.0.0) g.parts f.follow, g.follows);
        })
    | inr off ↦ subst (FindingAll spell height Good Follow n ts) (ok_is _ r off.1) (record { parts = refl; good = tt; low = omega arith; follows = tt })
  ]

  -- a list with turns enough ends where the tokens do not go on
  pub many_ends : ((ts : List Token) (x : X × List Token) → item ts ≡ Ok x → length x.1 < length ts) → goes [] ≡ false
      → (count : ℕ) (ts : List Token) (r : List X × List Token) → length ts ≤ count → many goes item count ts ≡ Ok r → goes r.1 ≡ false
  unfolding many
  many_ends shorter none zero [] r le e = subst (λ (q : List X × List Token). goes q.1 ≡ false) (ok_is _ r e) none
  many_ends shorter none zero (x ∷ ts) r le e = absurd (omega arith)
  many_ends shorter none (suc count) ts r le e = elim (either (goes ts) _ _ (done r) e) [
    | inl on ↦
        let a = bind_ok (item ts) _ r on.1 in
        let b = bind_ok (many goes item count a.0.1) _ r a.2 in
        let g = many_ends shorter none count a.0.1 b.0 (omega (arith, shorter ts a.0 a.1)) b.1 in
        subst (λ (q : List X × List Token). goes q.1 ≡ false) (ok_is _ r b.2) g
    | inr off ↦ subst (λ (q : List X × List Token). goes q.1 ≡ false) (ok_is _ r off.1) off.0
  ]

  -- a list where the tokens go on has a first item
  pub all_first : (ts : List Token) (r : List X × List Token) → goes ts ≡ true → goes [] ≡ false → all goes item ts ≡ Ok r → (x : X) × (xs : List X) × (r.0 ≡ x ∷ xs)
  unfolding many
  all_first [] r on none e = absurd (no_both (goes []) on none)
  all_first (y ∷ ts) r on none e =
      let g : (item (y ∷ ts) >>= λ x. many goes item (length ts) x.1 >>= λ r. Ok (x.0 ∷ r.0, r.1)) ≡ done r = sym (rw on refl) ∙ e in
      let a = bind_ok (item (y ∷ ts)) _ r g in
      let b = bind_ok (many goes item (length ts) a.0.1) _ r a.2 in
      (a.0.0, b.0.0, sym (ap (λ (q : List X × List Token). q.0) (ok_is _ r b.2)))

module _ {X Xs : Type 0} (of : List X → Xs) (goes : List Token → Bool) (item : Parser X) (spell : X → List Token → List Token) (spells : Xs → List Token → List Token) (height : X → ℕ) (heights : Xs → ℕ)
    (Good : X → Type 0) (Goods : Xs → Type 0) (Follow : X → List Token → Type 0) (n : ℕ) (kind : Kind of spell spells height heights Good Goods) where
  pub listed_reads : ((x : X) (rest : List Token) → Good x → Follow x rest → Gets n (height x) (item (spell x rest)) (x, rest))
      → ((x : X) (rest : List Token) → Good x → goes (spell x rest) ≡ true)
      → ((x : X) (rest : List Token) → length rest < length (spell x rest))
      → (u : Xs) (rest : List Token) → Goods u → Follows spell Follow (kind.back u) rest → goes rest ≡ false
      → Gets n (heights u) (listed of goes item (spells u rest)) (u, rest)
  listed_reads reads begins long u rest good follow off =
      let l = kind.back u in
      let all_good = kind.goods l (subst Goods (sym (kind.back_is u)) good) in
      let g = many_reads goes item spell height Good Follow n reads begins long (length (spell_all spell l rest)) l rest all_good follow off (omega arith) in
      let h : Gets n (heights (of l)) (listed of goes item (spells (of l) rest)) (of l, rest) = rw (kind.highs l, kind.spelled l rest) (step _ g (λ x. x) (gets refl)) in
      subst (λ v. Gets n (heights v) (listed of goes item (spells v rest)) (v, rest)) (kind.back_is u) h

  pub record FoundList (ts : List Token) (y : Xs × List Token) : Type 0 where
    pub parts : ts ≡ spells y.0 y.1
    pub good : Goods y.0
    pub low : heights y.0 ≤ n
    pub list : List X
    pub is : of list ≡ y.0
    pub follows : Follows spell Follow list y.1
    pub some : goes ts ≡ true → goes [] ≡ false → (x : X) × (xs : List X) × (list ≡ x ∷ xs)

  pub listed_finds : ((ts : List Token) (x : X × List Token) → goes ts ≡ true → item ts ≡ Ok x → Finding spell height Good Follow n ts x)
      → (ts : List Token) (y : Xs × List Token) → listed of goes item ts ≡ Ok y → FoundList ts y
  listed_finds finds ts y e =
      let a = bind_ok (all goes item ts) _ y e in
      let f = many_finds goes item spell height Good Follow n finds (length ts) ts a.0 a.1 in
      subst (FoundList ts) (ok_is _ y a.2) (record {
        parts = f.parts ∙ sym (kind.spelled a.0.0 a.0.1);
        good = kind.good a.0.0 f.good;
        low = omega (arith, f.low, kind.highs a.0.0);
        list = a.0.0;
        is = refl;
        follows = f.follows;
        some = λ on none. all_first goes item spell height Good Follow n ts a.0 on none a.1;
      })
