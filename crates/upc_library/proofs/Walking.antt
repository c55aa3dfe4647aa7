-- Memory calls, step by step.
use Rattle.std.proofs.Common.{◌≡◌, ℕ, ◌<◌, Bool, true, false, List, [], ◌∷◌, Option, Some, None, refl, sym, ap, ◌∙◌}
use Rattle.std.proofs.Common.{pos, not, cond, ◌==◌, ◌||◌, length, arith, subst, ◌*◌, ◌≤◌, ◌^◌, ℤ}
use Rattle.std.specs.Prelude.{◌+ℤ◌}
use Rattle.std.specs.List.{All, list_any}
use Rattle.std.specs.Option.{is_some}
use Rattle.std.proofs.lemmas.List.Elements.{All-head, All-tail}
use Rattle.std.proofs.lemmas.Bool.{false≢true, ne_eqb}
use Rattle.block_layout.specs.Cells.{same_cells}
use Rattle.block_layout.specs.declared.run_error.TheConstants.{NULL_ACCESS, OUT_OF_OBJECT, PRIVATE_RANGE, CELL_TYPE}
use Rattle.block_layout.specs.declared.place.LocalPtr.TheVariants.{Private}
use Rattle.block_layout.specs.declared.kind.Kind.{Kind}
use Rattle.block_layout.specs.declared.kind.Shape.{Shape}
use Rattle.upc_values.specs.declared.scalar.Scalar.{Scalar}
use Rattle.upc_values.specs.layer.Parts.{unless_refused}
use Rattle.upc_values.specs.declared.action.Reply.{Reply}
use Rattle.upc_values.specs.declared.action.Reply.TheVariants as reply
use Rattle.upc_values.specs.Views.{location_behind}
use Rattle.upc_values.specs.Copying as said
use Rattle.upc_values.specs.Copying.{Nowhere, In_shared, In_private}
use Rattle.upc_values.specs.Expansion.{Expansion, Reads, Loads, nothing, bind, each_in_turn, refused_by}
use Rattle.upc_values.specs.Expansion.{after_reply, value_in}
use Rattle.upc_library.specs.layer.Walks.{Source, From, Filled, rest_of, replies_of, written, one, all}
use Rattle.upc_library.specs.layer.Spots.{IsRoomFor}
use Rattle.upc_library.specs.code.Areas.{area_in, AreCommon, HasSharedRoom, HasPrivateRoom}
use Rattle.upc_library.specs.code.Cursors.{coming}
use Rattle.upc_library.specs.code.Kept.{IsSource, IsWalk}
use Rattle.upc_library.specs.declared.copying.Source as held
use Rattle.upc_library.specs.declared.copying.Source.TheVariants as source
use Rattle.upc_values.specs.Shapes.{is_integer}
use Rattle.upc_library.proofs.Compared.{all_integers}
use Rattle.upc_library.proofs.NextCell.{cells_below}
use Rattle.upc_library.specs.declared.areas.Area.{Area}
use Rattle.upc_library.specs.declared.areas.Area.TheVariants as area
use Rattle.std.proofs.lemmas.Int.{ints}
use Rattle.upc_library.specs.layer.Wishes.{is_refusal, area_of, expansion}
use Rattle.upc_library.specs.declared.copying.CopySpec.{CopySpec}

-- ---- what is done for a cell does not go by the program

written_alike : (t : ℕ) (s : List Shape) (p : Option Shape) (dst : said.Area) (c : ℕ × Kind) (v : Scalar)
    → said.written t s p dst c v ≡ written dst c v
written_alike t s p Nowhere c v = refl
written_alike t s p (In_shared q) c v = refl
written_alike t s p (In_private object offset) c v = refl

copied_alike : (t : ℕ) (s : List Shape) (p : Option Shape) (dst src : said.Area) (c : ℕ × Kind)
    → said.copied t s p dst src c ≡ said.copied 0 [] None dst src c
copied_alike t s p dst Nowhere c = refl
copied_alike t s p dst (In_shared q) c =
    λ i. Reads (location_behind q c.0) c.1 (λ v. written_alike t s p dst c v i)
copied_alike t s p dst (In_private object offset) c =
    λ i. Loads (Private object (offset +ℤ pos c.0)) c.1 (λ v. written_alike t s p dst c v i)

each_alike : (f g : ℕ × Kind → Expansion (Unit {0})) → ((c : ℕ × Kind) → f c ≡ g c) → (cs : List (ℕ × Kind))
    → each_in_turn f cs ≡ each_in_turn g cs
each_alike f g e cs = ap (λ h. each_in_turn h cs) (λ i c. e c i)

pub copies_alike : (t : ℕ) (s : List Shape) (p : Option Shape) (dst src : said.Area) (cs : List (ℕ × Kind))
    → all dst (From src) cs ≡ each_in_turn (said.copied t s p dst src) cs
copies_alike t s p dst src cs =
    sym (each_alike (said.copied t s p dst src) (one dst (From src)) (λ c. copied_alike t s p dst src c) cs)

pub fills_alike : (t : ℕ) (s : List Shape) (p : Option Shape) (dst : said.Area) (byte : ℕ) (cs : List (ℕ × Kind))
    → all dst (Filled byte) cs ≡ each_in_turn (λ c. said.written t s p dst c (said.filled byte c.1)) cs
fills_alike t s p dst byte cs =
    sym (each_alike (λ c. said.written t s p dst c (said.filled byte c.1)) (one dst (Filled byte))
    (λ c. written_alike t s p dst c (said.filled byte c.1)) cs)

-- ---- replies

-- The value of the first cell has come.
pub value_came : (dst a : said.Area) (c : ℕ × Kind) (cs : List (ℕ × Kind)) (r : Reply) → said.is_nowhere a ≡ false
    → rest_of (Some (value_in r)) dst (From a) (c ∷ cs) ≡ after_reply (rest_of None dst (From a) (c ∷ cs)) r
value_came dst Nowhere c cs r h = absurd (false≢true (sym h))
value_came dst (In_shared q) c cs r h = refl
value_came dst (In_private object offset) c cs r h = refl

unrefused : (r : Reply) (x : Expansion (Unit {0})) → is_refusal r ≡ false → x ≡ bind (unless_refused r) (λ u. x)
unrefused reply.Done x h = refl
unrefused (reply.Value v) x h = refl
unrefused (reply.Flag b) x h = refl
unrefused (reply.Refused code) x h = absurd (false≢true (sym h))

written_behind : (dst : said.Area) (c : ℕ × Kind) (v : Scalar) (x : Expansion (Unit {0})) (r : Reply)
    → said.is_nowhere dst ≡ false → is_refusal r ≡ false → x ≡ after_reply (bind (written dst c v) (λ u. x)) r
written_behind Nowhere c v x r h g = absurd (false≢true (sym h))
written_behind (In_shared q) c v x r h g = unrefused r x g
written_behind (In_private object offset) c v x r h g = refl

-- The first cell has been written.
pub cell_done : (dst : said.Area) (src : Source) (c : ℕ × Kind) (cs : List (ℕ × Kind)) (v : Scalar) (r : Reply)
    → said.is_nowhere dst ≡ false → is_refusal r ≡ false
    → rest_of None dst src cs ≡ after_reply (rest_of (Some v) dst src (c ∷ cs)) r
cell_done dst src c cs v r h g = written_behind dst c v (all dst src cs) r h g

-- So where one byte fills all.
pub fill_done : (dst : said.Area) (byte : ℕ) (c : ℕ × Kind) (cs : List (ℕ × Kind)) (r : Reply)
    → said.is_nowhere dst ≡ false → is_refusal r ≡ false
    → rest_of None dst (Filled byte) cs ≡ after_reply (rest_of None dst (Filled byte) (c ∷ cs)) r
fill_done dst byte c cs r h g =
    written_behind dst c (said.filled byte c.1) (all dst (Filled byte) cs) r h g

-- ---- the next cell, and those after it

pub behind_value : (cell : Option (ℕ × Kind)) (others next : List (ℕ × Kind)) (dst : said.Area) (src : Source)
    (value : Option Scalar) (v : Scalar) (r : Reply) → is_some cell ≡ true → next ≡ others → value ≡ Some v
    → said.is_nowhere dst ≡ false → is_refusal r ≡ false
    → rest_of None dst src next ≡ after_reply (rest_of value dst src (coming cell others)) r
behind_value None others next dst src value v r some e w h g = absurd (false≢true some)
behind_value (Some c) others next dst src value v r some e w h g =
    ap (rest_of None dst src) e ∙ cell_done dst src c others v r h g
    ∙ ap (λ o. after_reply (rest_of o dst src (c ∷ others)) r) (sym w)

pub behind_byte : (cell : Option (ℕ × Kind)) (others next : List (ℕ × Kind)) (dst : said.Area) (src : Source)
    (value : Option Scalar) (byte : ℕ) (r : Reply) → is_some cell ≡ true → next ≡ others → value ≡ None
    → src ≡ Filled byte → said.is_nowhere dst ≡ false → is_refusal r ≡ false
    → rest_of value dst src next ≡ after_reply (rest_of value dst src (coming cell others)) r
behind_byte None others next dst src value byte r some e w s h g = absurd (false≢true some)
behind_byte (Some c) others next dst src value byte r some e w s h g =
    ap (λ (o : Option Scalar). rest_of o dst src next) w ∙ ap (λ (z : Source). rest_of None dst z next) s
    ∙ ap (rest_of None dst (Filled byte)) e ∙ fill_done dst byte c others r h g
    ∙ ap (λ (z : Source). after_reply (rest_of None dst z (c ∷ others)) r) (sym s)
    ∙ ap (λ (o : Option Scalar). after_reply (rest_of o dst src (c ∷ others)) r) (sym w)

pub falls_value : (cell : Option (ℕ × Kind)) (others next : List (ℕ × Kind)) (value : Option Scalar) (v : Scalar)
    → is_some cell ≡ true → next ≡ others → value ≡ Some v
    → 2 * length next < replies_of value (coming cell others)
falls_value None others next value v some e w = absurd (false≢true some)
falls_value (Some c) others next value v some e w = rw (w, e) (omega arith)

pub falls_byte : (cell : Option (ℕ × Kind)) (others next : List (ℕ × Kind)) (value : Option Scalar)
    → is_some cell ≡ true → next ≡ others → value ≡ None
    → replies_of value next < replies_of value (coming cell others)
falls_byte None others next value some e w = absurd (false≢true some)
falls_byte (Some c) others next value some e w = rw (w, e) (omega arith)

-- What holds of each cell holds of each that is left after the next.
pub all_behind : (P : ℕ × Kind → Type 0) (cell : Option (ℕ × Kind)) (others next : List (ℕ × Kind))
    → is_some cell ≡ true → next ≡ others → All P (coming cell others) → All P next
all_behind P None others next some e h = absurd (false≢true some)
all_behind P (Some c) others next some e h = subst (All P) (sym e) (All-tail P c others h)

-- So what is kept of a memory call is.
pub walk_behind : (n : ℕ) (dst : Area) (src : held.Source) (cell : Option (ℕ × Kind)) (others next : List (ℕ × Kind))
    → is_some cell ≡ true → next ≡ others → IsWalk n dst src (coming cell others) → IsWalk n dst src next
walk_behind n dst src cell others next some e h = record {
  into = h.into;
  from = source_behind src h.from;
  within = all_behind (λ c. c.0 < n) cell others next some e h.within;
}
  where
    source_behind : (s : held.Source) → IsSource n s (coming cell others) → IsSource n s next
    source_behind (source.Area a) k = k
    source_behind (source.Byte b) k = all_behind (λ c. is_integer c.1 ≡ true) cell others next some e k

-- What is kept of a memory call as it begins.
pub copy_begun : (t : ℕ) (s : List Shape) (p : Option Shape) (n : ℕ) (dst src : Area) (cells : List (ℕ × Kind))
    → AreCommon t s p n (area_in dst) (area_in src) (Some cells)
    → said.is_nowhere (area_in dst) ≡ false → said.is_nowhere (area_in src) ≡ false
    → HasSharedRoom n dst → HasSharedRoom n src → HasPrivateRoom n dst → HasPrivateRoom n src
    → IsWalk n dst (source.Area src) cells
copy_begun t s p n dst src cells h d e a b x y = record {
  into = record { somewhere = d; room = record { shared = a; private = x } };
  from = record { somewhere = e; room = record { shared = b; private = y } };
  within = subst (All (λ c. c.0 < n)) (sym h.1)
      (cells_below (said.shape_in t s p (area_in dst)) (said.first_byte t s p (area_in dst)) n);
}

pub fill_begun : (t : ℕ) (s : List Shape) (p : Option Shape) (n : ℕ) (dst : Area) (byte : ℕ) (cells : List (ℕ × Kind))
    → cells ≡ said.cells t s p n (area_in dst) → said.is_nowhere (area_in dst) ≡ false
    → HasSharedRoom n dst → HasPrivateRoom n dst
    → list_any (λ c. not (is_integer c.1)) (said.cells t s p n (area_in dst)) ≡ false → IsWalk n dst (source.Byte byte) cells
fill_begun t s p n dst byte cells h d a x i = record {
  into = record { somewhere = d; room = record { shared = a; private = x } };
  from = subst (All (λ c. is_integer c.1 ≡ true)) (sym h) (all_integers (said.cells t s p n (area_in dst)) i);
  within = subst (All (λ c. c.0 < n)) (sym h)
      (cells_below (said.shape_in t s p (area_in dst)) (said.first_byte t s p (area_in dst)) n);
}

-- The next cell of a memory call begins among its bytes, and is an integer where one byte fills all.
pub next_inside : (n : ℕ) (dst : Area) (src : held.Source) (cell : Option (ℕ × Kind)) (others : List (ℕ × Kind)) (c : ℕ × Kind)
    → IsWalk n dst src (coming cell others) → cell ≡ Some c → c.0 < n
next_inside n dst src cell others c h e =
    All-head (λ d. d.0 < n) c others (subst (λ (o : Option (ℕ × Kind)). All (λ d. d.0 < n) (coming o others)) e h.within)

pub next_integer : (n : ℕ) (dst : Area) (src : held.Source) (byte : ℕ) (cell : Option (ℕ × Kind)) (others : List (ℕ × Kind))
    (c : ℕ × Kind) → IsWalk n dst src (coming cell others) → src ≡ source.Byte byte → cell ≡ Some c → is_integer c.1 ≡ true
next_integer n dst src byte cell others c h f e =
    All-head (λ d. is_integer d.1 ≡ true) c others
    (subst (λ (o : Option (ℕ × Kind)). All (λ d. is_integer d.1 ≡ true) (coming o others)) e
    (subst (λ s. IsSource n s (coming cell others)) f h.from))

-- A memory call that nothing refuses does what is done for each cell.
passed : (z a b c d : Bool) (j k l m : ℕ) (x : Expansion (Unit {0})) → z ≡ false → a ≡ false → b ≡ false → c ≡ false → d ≡ false
    → x ≡ cond z nothing (refused_by ((a, j) ∷ (b, k) ∷ (c, l) ∷ (d, m) ∷ []) x)
passed z a b c d j k l m x e f g h i = rw (e, f, g, h, i) refl

pub copy_made : (t : ℕ) (s : List Shape) (p : Option Shape) (n : ℕ) (dst src : said.Area) (cells : List (ℕ × Kind)) → 0 < n
    → (said.is_nowhere dst || said.is_nowhere src) ≡ false
    → (said.leaves_shared t s p n dst || said.leaves_shared t s p n src) ≡ false
    → (said.leaves_private t s p n dst || said.leaves_private t s p n src) ≡ false
    → AreCommon t s p n dst src (Some cells) → all dst (From src) cells ≡ said.copy t s p dst src n
copy_made t s p n dst src cells some a b c h =
    copies_alike t s p dst src cells ∙ ap (each_in_turn (said.copied t s p dst src)) h.1
    ∙ passed (n == 0) (said.is_nowhere dst || said.is_nowhere src) (said.leaves_shared t s p n dst || said.leaves_shared t s p n src)
    (said.leaves_private t s p n dst || said.leaves_private t s p n src)
    (said.is_cut t s p n dst || (said.is_cut t s p n src || not (same_cells (said.cells t s p n dst) (said.cells t s p n src))))
    NULL_ACCESS OUT_OF_OBJECT PRIVATE_RANGE CELL_TYPE (each_in_turn (said.copied t s p dst src) (said.cells t s p n dst))
    (ne_eqb n 0 (λ e. omega arith)) a b c h.0

pub fill_made : (t : ℕ) (s : List Shape) (p : Option Shape) (n : ℕ) (dst : said.Area) (byte : ℕ) (cells : List (ℕ × Kind))
    → 0 < n → said.is_nowhere dst ≡ false → said.leaves_shared t s p n dst ≡ false → said.leaves_private t s p n dst ≡ false
    → said.is_cut t s p n dst ≡ false → list_any (λ x. not (is_integer x.1)) (said.cells t s p n dst) ≡ false
    → cells ≡ said.cells t s p n dst → all dst (Filled byte) cells ≡ said.set t s p dst byte n
fill_made t s p n dst byte cells some a b c d i h =
    let each = λ (x : ℕ × Kind). said.written t s p dst x (said.filled byte x.1) in
    fills_alike t s p dst byte cells ∙ ap (each_in_turn each) h
    ∙ passed (n == 0) (said.is_nowhere dst) (said.leaves_shared t s p n dst) (said.leaves_private t s p n dst)
    (said.is_cut t s p n dst || list_any (λ x. not (is_integer x.1)) (said.cells t s p n dst))
    NULL_ACCESS OUT_OF_OBJECT PRIVATE_RANGE CELL_TYPE (each_in_turn each (said.cells t s p n dst))
    (ne_eqb n 0 (λ e. omega arith)) a b c
    (ap (λ b. b || list_any (λ x. not (is_integer x.1)) (said.cells t s p n dst)) d ∙ i)

-- ---- room

few : (n : ℕ) (z : ℤ) → IsRoomFor n z → n ≤ 2 ^ 32
few n z h = let low = h.low in let high = h.high in first_of (omega (arith, ints), grind (arith, ints))

pub few_bytes : (n : ℕ) (a : Area) → said.is_nowhere (area_in a) ≡ false → HasSharedRoom n a → HasPrivateRoom n a → n ≤ 2 ^ 32
few_bytes n area.Nowhere h s p = absurd (false≢true (sym h))
few_bytes n (area.Shared q) h s p = few n q.offset s
few_bytes n (area.Private object offset) h s p = few n offset p

-- ---- specs

pub copies_spec : (t : ℕ) (s : List Shape) (p : Option Shape) (x : CopySpec) (dst src : said.Area) → x.set ≡ false
    → dst ≡ area_of x.dst → src ≡ area_of x.src → said.copy t s p dst src x.bytes ≡ expansion t s p x
copies_spec t s p x dst src e f g =
    ap (λ a. said.copy t s p a src x.bytes) f ∙ ap (λ a. said.copy t s p (area_of x.dst) a x.bytes) g
    ∙ ap (λ (b : Bool). elim b [
      | true ↦ said.set t s p (area_of x.dst) x.byte x.bytes
      | false ↦ said.copy t s p (area_of x.dst) (area_of x.src) x.bytes
    ]) (sym e)
