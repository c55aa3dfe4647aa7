-- Calls by their arguments, read one by one.
use Rattle.std.proofs.Common.{◌≡◌, ◌≢◌, ◌==◌, unsigned_abs, length, ◌&&◌, ℕ, ℤ, Bool, true, false, cond, List, [], ◌∷◌, Option, Some, None, refl, sym, ap, ◌∙◌}
use Rattle.std.specs.Prelude.{nat_lt}
use Rattle.block_layout.specs.declared.place.SharedPtr.{SharedPtr}
use Rattle.upc_values.specs.declared.scalar.Scalar.{Scalar}
use Rattle.upc_values.specs.layer.Parts as parts
use Rattle.upc_values.specs.declared.scalar.Scalar.TheVariants.{Int, Shared, Lock}
use Rattle.upc_values.specs.Calls as said
use Rattle.upc_values.specs.Calls.{call_of, way_of, is_size, is_int}
use Rattle.collectives.specs.code.Calls.{kept, shared_in, size_in, int_in, kind_in}

-- the call that copies so
abbrev pub copied : Option SharedPtr → Option SharedPtr → Option ℕ → Option ℤ → Option said.Way → said.Call
copied (Some d) (Some s) (Some n) (Some f) (Some w) = said.Copies w d s n f
copied d s n f w = said.Other

-- numbers out of their ranges make no call
copied-numbers : (w : Option said.Way) (d s : SharedPtr) (n : ℕ) (f : ℤ) (p q : Bool) → kept (cond (p && q) (parts.copies d s n f w) said.Other) ≡ copied (Some d) (Some s) (cond p (Some n) None) (cond q (Some f) None) w
copied-numbers (Some w) d s n f true true = refl
copied-numbers None d s n f true true = refl
copied-numbers w d s n f true false = refl
copied-numbers w d s n f false q = refl

none-flags : (d s : Option SharedPtr) (n : Option ℕ) (w : Option said.Way) → said.Other ≡ copied d s n None w
none-flags (Some d) (Some s) (Some n) w = refl
none-flags (Some d) (Some s) None w = refl
none-flags (Some d) None n w = refl
none-flags None s n w = refl

pub copies_read : (c : ℕ) (a b n f : Scalar) → kept (call_of c (a ∷ b ∷ n ∷ f ∷ [])) ≡ copied (shared_in a) (shared_in b) (size_in n) (int_in f) (way_of c)
copies_read c (Shared d) (Shared s) (Int n) (Int f) = copied-numbers (way_of c) d s (unsigned_abs n) f (is_size n) (is_int f)
copies_read c (Shared d) (Shared s) (Int n) f = none-flags (Some d) (Some s) (cond (is_size n) (Some (unsigned_abs n)) None) (way_of c)
copies_read c (Shared d) (Shared s) (Shared n) (Int f) = refl
copies_read c (Shared d) (Shared s) (Shared n) f = refl
copies_read c (Shared d) b n f = refl
copies_read c (Int a) (Int b) (Int n) f = refl
copies_read c (Int a) (Int b) n f = refl
copies_read c (Int a) b n f = refl
copies_read c (Lock a) b n f = refl

-- the call that permutes so
abbrev permuted : Option SharedPtr → Option SharedPtr → Option SharedPtr → Option ℕ → Option ℤ → Bool → said.Call
permuted (Some d) (Some s) (Some q) (Some n) (Some f) true = said.Permutes d s q n f
permuted d s q n f b = said.Other

permuted-numbers : (b : Bool) (d s q : SharedPtr) (n : ℕ) (f : ℤ) (x y : Bool) → kept (cond (b && (x && y)) (said.Permutes d s q n f) said.Other) ≡ permuted (Some d) (Some s) (Some q) (cond x (Some n) None) (cond y (Some f) None) b
permuted-numbers true d s q n f true true = refl
permuted-numbers true d s q n f true false = refl
permuted-numbers true d s q n f false y = refl
permuted-numbers false d s q n f true true = refl
permuted-numbers false d s q n f true false = refl
permuted-numbers false d s q n f false y = refl

permuted-none : (d s q : SharedPtr) (n : Option ℕ) (b : Bool) → said.Other ≡ permuted (Some d) (Some s) (Some q) n None b
permuted-none d s q (Some n) b = refl
permuted-none d s q None b = refl

pub permutes_read : (c : ℕ) (a b q n f : Scalar) → kept (call_of c (a ∷ b ∷ q ∷ n ∷ f ∷ [])) ≡ permuted (shared_in a) (shared_in b) (shared_in q) (size_in n) (int_in f) (c == 10)
permutes_read c (Shared d) (Shared s) (Shared q) (Int n) (Int f) = permuted-numbers (c == 10) d s q (unsigned_abs n) f (is_size n) (is_int f)
permutes_read c (Shared d) (Shared s) (Shared q) (Int n) f = permuted-none d s q (cond (is_size n) (Some (unsigned_abs n)) None) (c == 10)
permutes_read c (Shared d) (Shared s) (Shared q) n f = refl
permutes_read c (Shared d) (Shared s) (Int q) (Int n) (Int f) = refl
permutes_read c (Shared d) (Shared s) (Int q) (Int n) f = refl
permutes_read c (Shared d) (Shared s) (Int q) n f = refl
permutes_read c (Shared d) (Shared s) q n f = refl
permutes_read c (Shared d) b q n f = refl
permutes_read c (Int a) (Int b) (Int q) n f = refl
permutes_read c (Int a) (Int b) q n f = refl
permutes_read c (Int a) b q n f = refl
permutes_read c (Lock a) b q n f = refl

-- the call that reduces so
abbrev numbered : ℕ → SharedPtr → SharedPtr → ℤ → ℕ → ℕ → ℕ → ℤ → said.Call
numbered c d s o n b k f = cond (c == 11) (said.Reduces d s o n b k f) (cond (c == 12) (said.Reduces_prefixes d s o n b k f) said.Other)

abbrev reduced : ℕ → Option SharedPtr → Option SharedPtr → Option ℤ → Option ℕ → Option ℕ → Option ℕ → Option ℤ → said.Call
reduced c (Some d) (Some s) (Some o) (Some n) (Some b) (Some k) (Some f) = numbered c d s o n b k f
reduced c d s o n b k f = said.Other

kept-either : (x y : Bool) (d s : SharedPtr) (o : ℤ) (n b k : ℕ) (f : ℤ) → let z = cond x (said.Reduces d s o n b k f) (cond y (said.Reduces_prefixes d s o n b k f) said.Other) in kept z ≡ z
kept-either true y d s o n b k f = refl
kept-either false true d s o n b k f = refl
kept-either false false d s o n b k f = refl

reduced-numbers : (c : ℕ) (d s : SharedPtr) (o : ℤ) (n b k : ℕ) (f : ℤ) (p q r t u v : Bool) → kept (cond (p && (q && (r && (t && (u && v))))) (numbered c d s o n b k f) said.Other) ≡ reduced c (Some d) (Some s) (cond p (Some o) None) (cond q (Some n) None) (cond r (Some b) None) (cond (t && u) (Some k) None) (cond v (Some f) None)
reduced-numbers c d s o n b k f true true true true true true = kept-either (c == 11) (c == 12) d s o n b k f
reduced-numbers c d s o n b k f true true true true true false = refl
reduced-numbers c d s o n b k f true true true true false v = refl
reduced-numbers c d s o n b k f true true true false u v = refl
reduced-numbers c d s o n b k f true true false t u v = refl
reduced-numbers c d s o n b k f true false r t u v = refl
reduced-numbers c d s o n b k f false q r t u v = refl

-- an argument that is no number
no-count : (c : ℕ) (d s : SharedPtr) (o : Option ℤ) (b k : Option ℕ) (f : Option ℤ) → said.Other ≡ reduced c (Some d) (Some s) o None b k f
no-count c d s (Some o) b k f = refl
no-count c d s None b k f = refl

no-block : (c : ℕ) (d s : SharedPtr) (o : Option ℤ) (n k : Option ℕ) (f : Option ℤ) → said.Other ≡ reduced c (Some d) (Some s) o n None k f
no-block c d s (Some o) (Some n) k f = refl
no-block c d s o None k f = no-count c d s o None k f
no-block c d s None n k f = refl

no-kind : (c : ℕ) (d s : SharedPtr) (o : Option ℤ) (n b : Option ℕ) (f : Option ℤ) → said.Other ≡ reduced c (Some d) (Some s) o n b None f
no-kind c d s (Some o) (Some n) (Some b) f = refl
no-kind c d s o n None f = no-block c d s o n None f
no-kind c d s o None b f = no-count c d s o b None f
no-kind c d s None n b f = refl

no-flags : (c : ℕ) (d s : SharedPtr) (o : Option ℤ) (n b k : Option ℕ) → said.Other ≡ reduced c (Some d) (Some s) o n b k None
no-flags c d s (Some o) (Some n) (Some b) (Some k) = refl
no-flags c d s o n b None = no-kind c d s o n b None
no-flags c d s o n None k = no-block c d s o n k None
no-flags c d s o None b k = no-count c d s o b k None
no-flags c d s None n b k = refl

pub reduces_read : (c : ℕ) (a b o n x k f : Scalar) → kept (call_of c (a ∷ b ∷ o ∷ n ∷ x ∷ k ∷ f ∷ [])) ≡ reduced c (shared_in a) (shared_in b) (int_in o) (size_in n) (size_in x) (kind_in k) (int_in f)
reduces_read c (Shared d) (Shared s) (Int o) (Int n) (Int x) (Int k) (Int f) =
    reduced-numbers c d s o (unsigned_abs n) (unsigned_abs x) (unsigned_abs k) f (is_int o) (is_size n) (is_size x) (is_size k) (nat_lt (unsigned_abs k) 8) (is_int f)
reduces_read c (Shared d) (Shared s) (Int o) (Int n) (Int x) (Int k) f = no-flags c d s (int_in (Int o)) (size_in (Int n)) (size_in (Int x)) (kind_in (Int k))
reduces_read c (Shared d) (Shared s) (Int o) (Int n) (Int x) k f = no-kind c d s (int_in (Int o)) (size_in (Int n)) (size_in (Int x)) (int_in f)
reduces_read c (Shared d) (Shared s) (Int o) (Int n) x k f = no-block c d s (int_in (Int o)) (size_in (Int n)) (kind_in k) (int_in f)
reduces_read c (Shared d) (Shared s) (Int o) n x k f = no-count c d s (int_in (Int o)) (size_in x) (kind_in k) (int_in f)
reduces_read c (Shared d) (Shared s) (Shared o) (Int n) (Int x) k f = refl
reduces_read c (Shared d) (Shared s) (Shared o) (Int n) x k f = refl
reduces_read c (Shared d) (Shared s) (Shared o) n x k f = refl
reduces_read c (Shared d) (Shared s) (Lock o) n x k f = refl
reduces_read c (Shared d) b o n x k f = refl
reduces_read c (Int a) (Int b) (Int o) n x k f = refl
reduces_read c (Int a) (Int b) o n x k f = refl
reduces_read c (Int a) b o n x k f = refl
reduces_read c (Lock a) b o n x k f = refl

-- the same for arguments that were read
reduces-some : (c : ℕ) (a b o n x k f : Scalar) (d s : SharedPtr) (op : ℤ) (cnt blk knd : ℕ) (fl : ℤ) → Some d ≡ shared_in a → Some s ≡ shared_in b → Some op ≡ int_in o → Some cnt ≡ size_in n → Some blk ≡ size_in x → Some knd ≡ kind_in k → Some fl ≡ int_in f → numbered c d s op cnt blk knd fl ≡ kept (call_of c (a ∷ b ∷ o ∷ n ∷ x ∷ k ∷ f ∷ []))
reduces-some c a b o n x k f d s op cnt blk knd fl e1 e2 e3 e4 e5 e6 e7 =
    sym (reduces_read c a b o n x k f ∙ rw (← e1, ← e2, ← e3, ← e4, ← e5, ← e6, ← e7) refl)

pub reduces-first : (c : ℕ) (a b o n x k f : Scalar) (d s : SharedPtr) (op : ℤ) (cnt blk knd : ℕ) (fl : ℤ) → c ≡ 11 → Some d ≡ shared_in a → Some s ≡ shared_in b → Some op ≡ int_in o → Some cnt ≡ size_in n → Some blk ≡ size_in x → Some knd ≡ kind_in k → Some fl ≡ int_in f → said.Reduces d s op cnt blk knd fl ≡ kept (call_of c (a ∷ b ∷ o ∷ n ∷ x ∷ k ∷ f ∷ []))
reduces-first c a b o n x k f d s op cnt blk knd fl is e1 e2 e3 e4 e5 e6 e7 =
    sym (ap (λ m. numbered m d s op cnt blk knd fl) is) ∙ reduces-some c a b o n x k f d s op cnt blk knd fl e1 e2 e3 e4 e5 e6 e7

pub reduces-second : (c : ℕ) (a b o n x k f : Scalar) (d s : SharedPtr) (op : ℤ) (cnt blk knd : ℕ) (fl : ℤ) → c ≡ 12 → Some d ≡ shared_in a → Some s ≡ shared_in b → Some op ≡ int_in o → Some cnt ≡ size_in n → Some blk ≡ size_in x → Some knd ≡ kind_in k → Some fl ≡ int_in f → said.Reduces_prefixes d s op cnt blk knd fl ≡ kept (call_of c (a ∷ b ∷ o ∷ n ∷ x ∷ k ∷ f ∷ []))
reduces-second c a b o n x k f d s op cnt blk knd fl is e1 e2 e3 e4 e5 e6 e7 =
    sym (ap (λ m. numbered m d s op cnt blk knd fl) is) ∙ reduces-some c a b o n x k f d s op cnt blk knd fl e1 e2 e3 e4 e5 e6 e7

-- a call of 1 to 4 is not distinguished
kept-none : (b : Bool) (x : said.Call) → kept x ≡ said.Other → said.Other ≡ kept (cond b x said.Other)
kept-none true x e = sym e
kept-none false x e = refl

-- other numbers of arguments
pub others_read : (c : ℕ) (args : List Scalar) → length args ≢ 4 → length args ≢ 5 → length args ≢ 7 → said.Other ≡ kept (call_of c args)
others_read c [] h i j = kept-none (c == 2) said.Makes_lock refl
others_read c (Shared p ∷ []) h i j = kept-none (c == 3) (said.Frees p) refl
others_read c (Lock l ∷ []) h i j = kept-none (c == 4) (said.Frees_lock l) refl
others_read c (Int a ∷ []) h i j = refl
others_read c (Int n ∷ Int b ∷ Int s ∷ []) h i j = kept-none _ (said.Allocates (unsigned_abs n) (unsigned_abs b) (unsigned_abs s)) refl
others_read c (a ∷ b ∷ x ∷ y ∷ []) h i j = absurd (h refl)
others_read c (a ∷ b ∷ x ∷ y ∷ z ∷ []) h i j = absurd (i refl)
others_read c (a ∷ b ∷ x ∷ y ∷ z ∷ u ∷ v ∷ []) h i j = absurd (j refl)
others_read c (Int n ∷ Int b ∷ Int s ∷ r ∷ rs) h i j = refl
others_read c (Int n ∷ Int b ∷ rs) h i j = refl
others_read c (Int n ∷ rs) h i j = refl
others_read c (Shared d ∷ Shared s ∷ []) h i j = refl
others_read c (Shared d ∷ b ∷ []) h i j = refl
others_read c (Shared d ∷ Shared s ∷ Int n ∷ []) h i j = refl
others_read c (Shared d ∷ Shared s ∷ Shared n ∷ []) h i j = refl
others_read c (Shared d ∷ Shared s ∷ x ∷ []) h i j = refl
others_read c (Shared d ∷ b ∷ x ∷ []) h i j = refl
others_read c (Shared d ∷ Shared s ∷ Int n ∷ Int f ∷ Int k ∷ Int m ∷ []) h i j = refl
others_read c (Shared d ∷ Shared s ∷ Int n ∷ Int f ∷ Int k ∷ q ∷ []) h i j = refl
others_read c (Shared d ∷ Shared s ∷ Int n ∷ Int f ∷ p ∷ q ∷ []) h i j = refl
others_read c (Shared d ∷ Shared s ∷ Int n ∷ w ∷ p ∷ q ∷ []) h i j = refl
others_read c (Shared d ∷ Shared s ∷ Shared n ∷ Int f ∷ Int k ∷ q ∷ []) h i j = refl
others_read c (Shared d ∷ Shared s ∷ Shared n ∷ Int f ∷ p ∷ q ∷ []) h i j = refl
others_read c (Shared d ∷ Shared s ∷ Shared n ∷ w ∷ p ∷ q ∷ []) h i j = refl
others_read c (Shared d ∷ Shared s ∷ z ∷ w ∷ p ∷ q ∷ []) h i j = refl
others_read c (Shared d ∷ y ∷ z ∷ w ∷ p ∷ q ∷ []) h i j = refl
others_read c (Shared d ∷ Shared s ∷ Int n ∷ Int f ∷ Int k ∷ Int m ∷ Int u ∷ v ∷ rs) h i j = refl
others_read c (Shared d ∷ Shared s ∷ Int n ∷ Int f ∷ Int k ∷ Int m ∷ u ∷ v ∷ rs) h i j = refl
others_read c (Shared d ∷ Shared s ∷ Int n ∷ Int f ∷ Int k ∷ q ∷ u ∷ v ∷ rs) h i j = refl
others_read c (Shared d ∷ Shared s ∷ Int n ∷ Int f ∷ p ∷ q ∷ u ∷ v ∷ rs) h i j = refl
others_read c (Shared d ∷ Shared s ∷ Int n ∷ w ∷ p ∷ q ∷ u ∷ v ∷ rs) h i j = refl
others_read c (Shared d ∷ Shared s ∷ Shared n ∷ Int f ∷ Int k ∷ q ∷ u ∷ v ∷ rs) h i j = refl
others_read c (Shared d ∷ Shared s ∷ Shared n ∷ Int f ∷ p ∷ q ∷ u ∷ v ∷ rs) h i j = refl
others_read c (Shared d ∷ Shared s ∷ Shared n ∷ w ∷ p ∷ q ∷ u ∷ v ∷ rs) h i j = refl
others_read c (Shared d ∷ Shared s ∷ z ∷ w ∷ p ∷ q ∷ u ∷ v ∷ rs) h i j = refl
others_read c (Shared d ∷ y ∷ z ∷ w ∷ p ∷ q ∷ u ∷ v ∷ rs) h i j = refl
others_read c (Lock l ∷ rs) h i j = refl
