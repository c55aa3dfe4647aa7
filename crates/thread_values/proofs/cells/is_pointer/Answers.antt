use Rattle.std.proofs.Common.{rules, ◌≡◌, Bool, true, false, refl, ap, arith, ℕ, ◌<◌, List, [], ◌∷◌, length}
use Rattle.std.proofs.lemmas.Option.{slice_get-get_or}
use Rattle.std.specs.Prelude.{◌==◌, ◌&&◌, ◌||◌, not, nat_lt, nat_le, is_some, slice_get}
use Rattle.block_layout.specs.Places.{in_range}
use Rattle.block_layout.specs.Pointers.{is_null}
use Rattle.thread_values.proofs.cells.is_pointer.Goals as goal

placed : (n z s t h i r : Bool) → n ≡ false → z ≡ false → s ≡ true → t ≡ true → h ≡ true → i ≡ true
    → r ≡ (n || (not z && (s && (t && (h && (i && r))))))
placed true z s t h i r a b c d e f = absurd (cc)
placed false true s t h i r a b c d e f = absurd (cc)
placed false false false t h i r a b c d e f = absurd (cc)
placed false false true false h i r a b c d e f = absurd (cc)
placed false false true true false i r a b c d e f = absurd (cc)
placed false false true true true false r a b c d e f = absurd (cc)
placed false false true true true true r a b c d e f = refl

some_within : {A : Type 0} (xs : List A) (i : ℕ) → i < length xs → is_some (slice_get xs i) ≡ true
some_within [] i h = absurd (omega arith)
some_within (x ∷ xs) i h = ap is_some (slice_get-get_or (x ∷ xs) i x h)

pub returns-then-is_in_range-clause-value : goal.returns-then-is_in_range-clause-value
returns-then-is_in_range-clause-value c =
    let p = c.args.p.now in
    rw c.is_small.ensures.value
    (placed (is_null p) (p.object.number == 0) (is_some (slice_get c.args.shapes.now p.object.shape))
    (nat_lt p.thread c.args.threads) (nat_lt p.object.home c.args.threads) (in_range p.offset)
    (nat_le p.object.total 16777216 && nat_le p.object.block 16777216) (search rules) (search rules)
    (some_within c.args.shapes.now p.object.shape (omega arith)) (search rules) (search rules) (search rules))
