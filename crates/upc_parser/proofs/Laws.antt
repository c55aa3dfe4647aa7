-- The answer on a whole source, from the side of its trees.
use Rattle.std.proofs.Common.{◌≡◌, ℕ, ◌≤◌, max, Bool, true, false, cond, List, [], ◌∷◌, length, Result, Ok, Err, refl, sym, ap, ◌∙◌, subst, arith}
use Rattle.std.specs.Prelude.{nat_lt}
use Rattle.std.proofs.lemmas.Bool.{ltb-false, ltb-true}
use Rattle.upc_lexer.specs.declared.token.Token.{Token}
use Rattle.upc_tree.specs.Unit.{External, height_unit, tokens_of, ProperUnit, IsTree}
use Rattle.upc_parser_ground.specs.declared.cursor.Fault.{Fault}
use Rattle.upc_parser_ground.specs.declared.cursor.Fault.TheVariants.{NoTree, TooHigh}
use Rattle.upc_parser_ground.specs.layer.Outcome.{Outcome}
use Rattle.upc_parser_ground.proofs.Sequence.{Gets, gets, high}
use Rattle.upc_parser_sources.specs.layer.Parse.{unit_at}
use Rattle.upc_parser.specs.Answer.{settle, answer}
use Rattle.upc_parser_laws.proofs.StatementLow.{low_unit}
use Rattle.upc_parser_laws.proofs.CompleteUnit.{unit_reads}
use Rattle.upc_parser_laws.proofs.SoundUnit.{unit_finds}

abbrev U : Type 0
U = List External

abbrev read : U × List Token → Outcome U
read x = Ok x

pair_is : (x y : U × List Token) → read x ≡ read y → x.0 ≡ y.0
pair_is x y e = let same : x ≡ y = cc in ap (λ (q : U × List Token). q.0) same

read_by : (n h : ℕ) (o : Outcome U) (x : U × List Token) → h ≤ n → Gets n h o x → o ≡ Ok x
read_by n h o x le (gets e) = e
read_by n h o x le (high l e) = absurd (omega arith)

fits_all : (n : ℕ) (u : U) → ProperUnit u → height_unit u ≤ n → unit_at n (tokens_of u) ≡ Ok (u, [])
fits_all n u pr le = read_by n (height_unit u) (unit_at n (tokens_of u)) (u, []) le (unit_reads n u pr)

-- Proper trees with equal tokens are equal.
pub one_tree : (u v : U) → ProperUnit u → ProperUnit v → tokens_of u ≡ tokens_of v → u ≡ v
one_tree u v pu pv e =
    let n = max (height_unit u) (height_unit v) in
    let a : unit_at n (tokens_of u) ≡ Ok (u, []) = fits_all n u pu (omega arith) in
    let b : unit_at n (tokens_of v) ≡ Ok (v, []) = fits_all n v pv (omega arith) in
    pair_is (u, []) (v, []) (sym a ∙ ap (unit_at n) e ∙ b)

abbrev settled : U → Result U Fault
settled u = Ok u

abbrev refused : Fault → Result U Fault
refused f = Err f

abbrev cut : Bool → Fault
cut b = cond b NoTree TooHigh

ok_is : (x y : U) → settled x ≡ settled y → x ≡ y
ok_is x y e = cc

err_is : (f g : Fault) → refused f ≡ refused g → f ≡ g
err_is f g e = cc

cut_short : (b : Bool) → cut b ≡ NoTree → b ≡ true
cut_short true e = refl
cut_short false e = absurd cc

cut_long : (b : Bool) → cut b ≡ TooHigh → b ≡ false
cut_long true e = absurd cc
cut_long false e = refl

settled_by : (len : ℕ) (o : Outcome U) (u : U) → settle len o ≡ Ok u → o ≡ Ok (u, [])
settled_by len (Ok (v, [])) u e = ap (λ (q : U). Ok (q, [])) (ok_is v u e)
settled_by len (Ok (v, x ∷ rest)) u e = absurd cc
settled_by len (Err NoTree) u e = absurd cc
settled_by len (Err TooHigh) u e = absurd cc

long_of : (len : ℕ) (o : Outcome U) → settle len o ≡ refused TooHigh → 256 ≤ len
long_of len (Ok (v, [])) e = absurd cc
long_of len (Ok (v, x ∷ rest)) e = absurd cc
long_of len (Err NoTree) e = absurd cc
long_of len (Err TooHigh) e = ltb-false len 256 (cut_long (nat_lt len 256) (err_is (cut (nat_lt len 256)) TooHigh e))

pub found : (ts : List Token) (u : U) → answer ts ≡ Ok u → IsTree ts u
unfolding answer
found ts u e =
    let f = unit_finds 256 ts (u, []) (settled_by (length ts) (unit_at 256 ts) u e) in
    record { proper = f.proper; low = f.low; spelled = sym f.parts }

pub answered : (ts : List Token) (u : U) → IsTree ts u → answer ts ≡ Ok u
unfolding answer
answered ts u t = ap (settle (length ts)) (ap (unit_at 256) (sym t.spelled) ∙ fits_all 256 u t.proper t.low)

no_tree_by : (ts : List Token) (u : U) (o : Outcome U) → Gets 256 (height_unit u) o (u, []) → height_unit u ≤ length ts → settle (length ts) o ≡ refused NoTree → ⊥
no_tree_by ts u o (gets x) le e = let a : settle (length ts) o ≡ settled u = ap (settle (length ts)) x in let b : settled u ≡ refused NoTree = sym a ∙ e in cc
no_tree_by ts u o (high l x) le e =
    let a : refused (cut (nat_lt (length ts) 256)) ≡ refused NoTree = sym (ap (settle (length ts)) x) ∙ e in
    let b = ltb-true (length ts) 256 (cut_short (nat_lt (length ts) 256) (err_is (cut (nat_lt (length ts) 256)) NoTree a)) in
    omega arith

low_of : (u : U) → ProperUnit u → height_unit u ≤ length (tokens_of u)
low_of u pr = omega (arith, low_unit u [] pr.0 pr.1)

pub syntax : (ts : List Token) → answer ts ≡ Err NoTree → (u : U) → ProperUnit u → tokens_of u ≡ ts → ⊥
unfolding answer
syntax ts e u pr t =
    let g = subst (λ ts. Gets 256 (height_unit u) (unit_at 256 ts) (u, [])) t (unit_reads 256 u pr) in
    let le : height_unit u ≤ length ts = subst (λ (ts : List Token). height_unit u ≤ length ts) t (low_of u pr) in
    no_tree_by ts u (unit_at 256 ts) g le e

no_both : (u : U) (ts : List Token) → answer ts ≡ settled u → answer ts ≡ refused TooHigh → ⊥
no_both u ts a b = let c : settled u ≡ refused TooHigh = sym a ∙ b in cc

pub limit : (ts : List Token) → answer ts ≡ Err TooHigh → (256 ≤ length ts) × ((u : U) → IsTree ts u → ⊥)
unfolding answer
limit ts e = (long_of (length ts) (unit_at 256 ts) e, λ u t. no_both u ts (answered ts u t) e)
