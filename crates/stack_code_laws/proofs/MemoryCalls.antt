-- The calls that copy and set bytes ask well where the areas that they are given are known.
use Rattle.std.proofs.Common.{◌≡◌, ℕ, zero, suc, ◌+◌, ◌-◌, ◌*◌, ◌/◌, ◌^◌, ◌<◌, ◌≤◌, ◌==◌, pos, Bool, true, false}
use Rattle.std.proofs.Common.{not, ◌&&◌}
use Rattle.std.proofs.Common.{◌||◌, cond, List, [], ◌∷◌, Option, Some, None, refl, sym, subst, arith}
use Rattle.std.specs.Prelude.{unsigned_abs}
use Rattle.std.specs.List.{list_any, filter_map, cons_option, range_with_len}
use Rattle.std.proofs.lemmas.Bool.{and_parts, and_from, false≢true, eqb-true}
use Rattle.block_layout.specs.declared.kind.Kind.{Kind}
use Rattle.block_layout.specs.declared.place.Loc.{Loc}
use Rattle.block_layout.specs.declared.kind.Kind.TheVariants as kind
use Rattle.block_layout.specs.declared.kind.Shape.{Shape}
use Rattle.block_layout.specs.declared.place.LocalPtr.TheVariants as local
use Rattle.block_layout.specs.declared.run_error.TheConstants.{NULL_ACCESS, OUT_OF_OBJECT, PRIVATE_RANGE, CELL_TYPE}
use Rattle.block_layout.specs.Pointers.{is_null}
use Rattle.block_layout.specs.Shapes.{kind_size, same_kind}
use Rattle.integers.specs.Integers.{in_kind, converted}
use Rattle.upc_values.specs.declared.scalar.Scalar.{Scalar}
use Rattle.upc_values.specs.layer.Parts.{unless_refused, placed_kind}
use Rattle.upc_values.specs.declared.scalar.Scalar.TheVariants as scalar
use Rattle.upc_values.specs.declared.scalar.Value.{Value}
use Rattle.upc_values.specs.declared.scalar.Value.TheVariants as value
use Rattle.upc_values.specs.declared.action.Reply.{Reply}
use Rattle.upc_values.specs.declared.action.Reply.TheVariants as reply
use Rattle.upc_values.specs.Lists.{Each}
use Rattle.upc_values.specs.Shapes.{kind_at, is_integer, fits_kind, value_fits}
use Rattle.block_layout.specs.Cells.{is_private}
use Rattle.upc_values.specs.Openings.{Opening}
use Rattle.upc_values.specs.Expansion.{Expansion, Gives, Fails, Reads, Asks as Acts, Loads, Stores, bind, nothing}
use Rattle.upc_values.specs.Expansion.{each_in_turn, refused_by}
use Rattle.block_layout.specs.Cells.{same_cells}
use Rattle.upc_values.specs.Views.{cells_within, location_behind}
use Rattle.upc_values.specs.Copying as m
use Rattle.upc_values.specs.Copying.{Area, Nowhere, In_shared, In_private, filled}
use Rattle.upc_values.specs.LibraryCalls.{area_of}
use Rattle.upc_values.proofs.Membership.{each-weaker}
use Rattle.thread_steps.specs.Values.{scalar_of}
use Rattle.stack_code_laws.proofs.Given.{IsGround, names, is_known, IsCellThere}
use Rattle.stack_code_laws.proofs.KnownValues.{Known, pointer_names, scalar_known}
use Rattle.stack_code_laws.proofs.Numbers.{converted_number}
use Rattle.block_layout.proofs.Found.{kind_is}
use Rattle.thread_steps.proofs.Conversions.{converted_in}
use Rattle.stack_code_laws.proofs.SharedCells.{not_false, cell_behind, shared_kind}
use Rattle.stack_code_laws.proofs.Doings.{Nothing}
use Rattle.stack_code_laws.proofs.Primitives as p

-- ---- cells in a range of bytes

pub neither : (a b : Bool) → (a || b) ≡ false → (a ≡ false) × (b ≡ false)
neither true b h = absurd (false≢true (sym h))
neither false b h = (refl, h)

range_below : (a m n : ℕ) → a + m ≤ n → Each (λ i. i < n) (range_with_len a m)
range_below a zero n le = tt
range_below a (suc m) n le = (omega arith, range_below (a + 1) m n (omega arith))

-- A cell of a shape among n bytes from a byte on.
abbrev IsCellIn : Option Shape → (x n : ℕ) → ℕ × Kind → Type 0
IsCellIn s x n c = (c.0 < n) × (kind_at s (x + c.0) ≡ Some c.1)

cells_from : (s : Option Shape) (x n : ℕ) (is : List ℕ) → Each (λ i. i < n) is
    → Each (IsCellIn s x n) (filter_map (λ i. placed_kind i (kind_at s (x + i))) is)
cells_from s x n [] h = tt
cells_from s x n (i ∷ is) h = by_kind (kind_at s (x + i)) refl (cells_from s x n is h.1)
  where
    by_kind : (k : Option Kind) → kind_at s (x + i) ≡ k
        → Each (IsCellIn s x n) (filter_map (λ i. placed_kind i (kind_at s (x + i))) is)
        → Each (IsCellIn s x n)
        (cons_option (placed_kind i k) (filter_map (λ i. placed_kind i (kind_at s (x + i))) is))
    by_kind (Some k) e rest = ((h.0, e), rest)
    by_kind None e rest = rest

cells_are : (s : Option Shape) (x n : ℕ) → Each (IsCellIn s x n) (cells_within s x n)
cells_are s x n = cells_from s x n (range_with_len 0 n) (range_below 0 n n (omega arith))

same_cell : (c d : ℕ × Kind) → c.0 ≡ d.0 → c.1 ≡ d.1 → c ≡ d
same_cell c d e f = λ i. (e i, f i)

pub cells_same : (cs ds : List (ℕ × Kind)) → same_cells cs ds ≡ true → cs ≡ ds
cells_same [] [] h = refl
cells_same [] (d ∷ ds) h = absurd (false≢true h)
cells_same (c ∷ cs) [] h = absurd (false≢true h)
cells_same (c ∷ cs) (d ∷ ds) h =
    let p = and_parts (c.0 == d.0) (same_kind c.1 d.1 && same_cells cs ds) h in
    let q = and_parts (same_kind c.1 d.1) (same_cells cs ds) p.1 in
    let first = same_cell c d (eqb-true c.0 d.0 p.0) (kind_is c.1 d.1 q.0) in
    let rest = cells_same cs ds q.1 in
    λ i. first i ∷ rest i

integers_all : (cs : List (ℕ × Kind)) → list_any (λ c. not (is_integer c.1)) cs ≡ false
    → Each (λ c. is_integer c.1 ≡ true) cs
integers_all [] h = tt
integers_all (c ∷ cs) h =
    let p = neither (not (is_integer c.1)) (list_any (λ c. not (is_integer c.1)) cs) h in
    (not_false (is_integer c.1) p.0, integers_all cs p.1)

pub each_both : {X : Type 0} (P Q R : X → Type 0) → ((x : X) → P x → Q x → R x) → (xs : List X) → Each P xs → Each Q xs
    → Each R xs
each_both P Q R f [] h g = tt
each_both P Q R f (x ∷ xs) h g = (f x h.0 g.0, each_both P Q R f xs h.1 g.1)

-- What a private cell of a kind holds fits a cell of that kind that is no pointer to a private object.
loaded_fits : (w : Value) (k : Kind) → value_fits w k ≡ true → is_private k ≡ false → fits_kind (scalar_of w) k ≡ true
loaded_fits (value.Scalar x) k h e = h
loaded_fits (value.Local q) (kind.Private n) h e = absurd (false≢true (sym e))
loaded_fits (value.Local q) k h e = absurd (false≢true h)

module _ (o : Opening) (past : List Reply) (v : IsGround o) (R : Kind → Loc → Type 0) (me budget : ℕ) where
  abbrev Goes : {A : Type 0} → (A → Type 0) → Expansion A → Type 0
  Goes V e = p.GoesWell o past v R me budget V e

  -- ---- steps put together

  pub bind_goes : {A B : Type 0} (V : A → Type 0) (W : B → Type 0) (e : Expansion A) (f : A → Expansion B) → Goes V e
      → ((y : A) → V y → Goes W (f y)) → Goes W (bind e f)
  bind_goes V W (Gives y) f h g = g y h
  bind_goes V W (Fails code) f h g = tt
  bind_goes V W (Reads at k after) f h g = (h.0, λ w c. bind_goes V W (after w) f (h.1 w c) g)
  bind_goes V W (Acts action after) f h g = (h.0, λ r c. bind_goes V W (after r) f (h.1 r c) g)
  bind_goes V W (Loads ptr k after) f h g = λ w c. bind_goes V W (after (scalar_of w)) f (h w c) g
  bind_goes V W (Stores ptr k w after) f h g = (h.0, bind_goes V W after f h.1 g)

  pub each_goes : {X : Type 0} (f : X → Expansion (Unit {0})) (xs : List X) → Each (λ x. Goes Nothing (f x)) xs
      → Goes Nothing (each_in_turn f xs)
  each_goes f [] h = tt
  each_goes f (x ∷ xs) h = bind_goes Nothing Nothing (f x) (λ u. each_in_turn f xs) h.0 (λ u k. each_goes f xs h.1)

  pub cond_goes : {A : Type 0} (V : A → Type 0) (b : Bool) (x y : Expansion A) → Goes V x → (b ≡ false → Goes V y)
      → Goes V (cond b x y)
  cond_goes V true x y h g = h
  cond_goes V false x y h g = g refl

  pub unless_goes : {A : Type 0} (V : A → Type 0) (b : Bool) (code : ℕ) (y : Expansion A) → (b ≡ false → Goes V y)
      → Goes V (cond b (Fails code) y)
  unless_goes V b code y g = cond_goes V b (Fails code) y tt g

  -- What comes where nothing is refused.
  pub refused_goes : {A : Type 0} (V : A → Type 0) (tests : List (Bool × ℕ)) (e : Expansion A)
      → (Each (λ t. t.0 ≡ false) tests → Goes V e) → Goes V (refused_by tests e)
  refused_goes V [] e g = g tt
  refused_goes V (t ∷ tests) e g =
      unless_goes V t.0 t.1 (refused_by tests e) (λ h. refused_goes V tests e (λ hs. g (h, hs)))

  pub unrefused : (r : Reply) → Goes Nothing (unless_refused r)
  unrefused reply.Done = tt
  unrefused (reply.Value w) = tt
  unrefused (reply.Flag b) = tt
  unrefused (reply.Refused code) = tt

  -- ---- areas

  -- An area in a shared object begins in an object that is known.
  abbrev pub IsKnownArea : Area → Type 0
  IsKnownArea (In_shared q) = names o past q.object q.thread q.offset ≡ true
  IsKnownArea a = Unit {0}

  pub area_known : (w : Value) → Known o past w → IsKnownArea (area_of w)
  area_known (value.Scalar (scalar.Shared q)) h = by_null (is_null q) refl
    where
      by_null : (b : Bool) → is_null q ≡ b → IsKnownArea (cond b Nowhere (In_shared q))
      by_null true e = tt
      by_null false e = pointer_names o past q h e
  area_known (value.Scalar (scalar.Int n)) h = tt
  area_known (value.Scalar (scalar.Lock n)) h = tt
  area_known (value.Local local.Null) h = tt
  area_known (value.Local (local.Private object offset)) h = tt
  area_known (value.Local (local.Shared object thread offset)) h = h

  -- A cell of an area is a cell of its shared object among those given.
  abbrev IsThere : Area → ℕ × Kind → Type 0
  IsThere (In_shared q) c = IsCellThere o past (location_behind q c.0) c.1
  IsThere a c = Unit {0}

  module _ (private : Option Shape) where
    abbrev cells : ℕ → Area → List (ℕ × Kind)
    cells n a = m.cells o.threads o.shapes private n a

    cells_there : (n : ℕ) (a : Area) → IsKnownArea a → m.leaves_shared o.threads o.shapes private n a ≡ false
        → Each (IsThere a) (cells n a)
    cells_there n (In_shared q) h room =
        let s = m.shape_in o.threads o.shapes private (In_shared q) in
        each-weaker (IsCellIn s (unsigned_abs q.offset) n) (IsThere (In_shared q))
        (λ c t. cell_behind o past v q n c.0 c.1 h room t.0 t.1) (cells n (In_shared q))
        (cells_are s (unsigned_abs q.offset) n)
    cells_there n Nowhere h room =
        each-weaker (IsCellIn None 0 n) (IsThere Nowhere) (λ c t. tt) (cells n Nowhere) (cells_are None 0 n)
    cells_there n (In_private object offset) h room =
        each-weaker (IsCellIn private (unsigned_abs offset) n) (IsThere (In_private object offset)) (λ c t. tt)
        (cells n (In_private object offset)) (cells_are private (unsigned_abs offset) n)

    written_goes : (a : Area) (c : ℕ × Kind) (w : Scalar) → IsThere a c → is_known o past w ≡ true
        → (is_private c.1 ≡ false → fits_kind w c.1 ≡ true)
        → Goes Nothing (m.written o.threads o.shapes private a c w)
    written_goes Nowhere c w t k f = tt
    written_goes (In_shared q) c w t k f =
        ((c.1, t, f (shared_kind o past v (location_behind q c.0) c.1 t), k), λ r e. unrefused r)
    written_goes (In_private object offset) c w t k f = (k, tt)

    copied_goes : (dst src : Area) (c : ℕ × Kind) → IsThere dst c → IsThere src c
        → Goes Nothing (m.copied o.threads o.shapes private dst src c)
    copied_goes dst Nowhere c t u = tt
    copied_goes dst (In_shared q) c t u = (u, λ w h. written_goes dst c w t h.known (λ e. h.fits))
    copied_goes dst (In_private object offset) c t u =
        λ w h. written_goes dst c (scalar_of w) t (scalar_known o past w h.known) (λ e. loaded_fits w c.1 h.fits e)

    -- So does the copy of the cells of two known areas that are the same.
    pub copy_cells_goes : (n : ℕ) (dst src : Area) → IsKnownArea dst → IsKnownArea src
        → m.leaves_shared o.threads o.shapes private n dst ≡ false
        → m.leaves_shared o.threads o.shapes private n src ≡ false → cells n dst ≡ cells n src
        → Goes Nothing (each_in_turn (m.copied o.threads o.shapes private dst src) (cells n dst))
    copy_cells_goes n dst src hd hs into from equal =
        let f = m.copied o.threads o.shapes private dst src in
        each_goes f (cells n dst)
        (each_both (IsThere dst) (IsThere src) (λ c. Goes Nothing (f c)) (λ c t u. copied_goes dst src c t u)
        (cells n dst)
        (cells_there n dst hd into) (subst (Each (IsThere src)) (sym equal) (cells_there n src hs from)))

    -- A copy from a known area to a known one goes well.
    pub copy_goes : (dst src : Area) (n : ℕ) → IsKnownArea dst → IsKnownArea src
        → Goes Nothing (m.copy o.threads o.shapes private dst src n)
    copy_goes dst src n hd hs =
        let leaves = m.leaves_shared o.threads o.shapes private n in
        let gone = m.leaves_private o.threads o.shapes private n in
        let cut = m.is_cut o.threads o.shapes private n in
        let same = same_cells (cells n dst) (cells n src) in
        let tests : List (Bool × ℕ) =
        (m.is_nowhere dst || m.is_nowhere src, NULL_ACCESS)
        ∷ (leaves dst || leaves src, OUT_OF_OBJECT)
        ∷ (gone dst || gone src, PRIVATE_RANGE)
        ∷ (cut dst || (cut src || not same), CELL_TYPE)
        ∷ [] in
        let go = each_in_turn (m.copied o.threads o.shapes private dst src) (cells n dst) in
        cond_goes Nothing (n == 0) nothing (refused_by tests go) tt (λ some.
        refused_goes Nothing tests go (λ h.
        let room = neither (leaves dst) (leaves src) h.1.0 in
        let after = (neither (cut dst) (cut src || not same) h.1.1.1.0).1 in
        let differ = (neither (cut src) (not same) after).1 in
        copy_cells_goes n dst src hd hs room.0 room.1 (cells_same (cells n dst) (cells n src) (not_false same differ))))

    filled_fits : (b : ℕ) (k : Kind) → is_integer k ≡ true → fits_kind (filled b k) k ≡ true
    filled_fits b k h =
        let w = pos (b * ((256 ^ kind_size k - 1) / 255)) in
        and_from (is_integer k) (in_kind k (converted k w)) h (converted_in k w)

    -- A known area is set well.
    pub set_goes : (dst : Area) (b n : ℕ) → IsKnownArea dst
        → Goes Nothing (m.set o.threads o.shapes private dst b n)
    set_goes dst b n hd =
        let f : ℕ × Kind → Expansion (Unit {0}) = λ c. m.written o.threads o.shapes private dst c (filled b c.1) in
        let leaves = m.leaves_shared o.threads o.shapes private n dst in
        let cut = m.is_cut o.threads o.shapes private n dst in
        let others = list_any (λ c. not (is_integer c.1)) (cells n dst) in
        let tests : List (Bool × ℕ) =
        (m.is_nowhere dst, NULL_ACCESS)
        ∷ (leaves, OUT_OF_OBJECT)
        ∷ (m.leaves_private o.threads o.shapes private n dst, PRIVATE_RANGE)
        ∷ (cut || others, CELL_TYPE)
        ∷ [] in
        let go = each_in_turn f (cells n dst) in
        cond_goes Nothing (n == 0) nothing (refused_by tests go) tt (λ some.
        refused_goes Nothing tests go (λ h.
        let all = integers_all (cells n dst) (neither cut others h.1.1.1.0).1 in
        each_goes f (cells n dst)
        (each_both (IsThere dst) (λ c. is_integer c.1 ≡ true) (λ c. Goes Nothing (f c))
        (λ c t i.
        written_goes dst c (filled b c.1) t (converted_number c.1 (pos (b * ((256 ^ kind_size c.1 - 1) / 255))))
        (λ q. filled_fits b c.1 i)) (cells n dst)
        (cells_there n dst hd h.1.0) all)))
