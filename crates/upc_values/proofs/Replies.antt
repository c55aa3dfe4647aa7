-- What may be asked for stays so as a history goes on, and so does what fits it.
use Rattle.std.proofs.Common.{◌≡◌, ℕ, ◌+◌, ◌≤◌, nat_lt, nat_le, Bool, false, true, ◌&&◌, ◌||◌, List, [], ◌++◌, length, Option, Some, None, is_some, refl, sym, ap, subst, ◌∙◌, arith, le-leb, leb-true}
use Rattle.std.specs.List.{list_any}
use Rattle.std.proofs.lemmas.Bool.{false≢true, and_parts, and_from, or_left}
use Rattle.std.proofs.lemmas.List.{length-append}
use Rattle.std.proofs.lemmas.List.Folds.{list_any-append}
use Rattle.block_layout.specs.declared.place.Loc.{Loc}
use Rattle.block_layout.specs.declared.place.ObjectRef.{ObjectRef}
use Rattle.block_layout.specs.declared.place.SharedPtr.{SharedPtr}
use Rattle.block_layout.specs.declared.kind.Kind.{Kind}
use Rattle.block_layout.specs.Places.{in_range}
use Rattle.block_layout.specs.Pointers.{is_null, same_object}
use Rattle.upc_values.specs.declared.scalar.Scalar.{Scalar}
use Rattle.upc_values.specs.declared.scalar.Scalar.TheVariants.{Int, Shared, Lock}
use Rattle.upc_values.specs.declared.action.Action.{Action}
use Rattle.upc_values.specs.declared.action.Action.TheVariants as act
use Rattle.upc_values.specs.declared.action.Reply.{Reply}
use Rattle.upc_values.specs.declared.journal.Entry.{Entry}
use Rattle.upc_values.specs.Shapes.{fits_cell}
use Rattle.upc_values.specs.Calls.{Call, Allocates, Makes_lock, Frees, Frees_lock, Copies, Permutes, Reduces, Reduces_prefixes, Other, call_of}
use Rattle.upc_values.specs.Openings.{Opening, cell_of, is_named}
use Rattle.upc_values.specs.History.{picked_from, picked, makes_lock, led, objects, locks}
use Rattle.upc_values.specs.Formed.{knows, is_known, is_lock, may_call, IsWellFormed, fits, fits_after}
use Rattle.upc_values.proofs.Beginnings.{picked-append, objects-append, cell-stays}

both-stay : (a b c d : Bool) → (a ≡ true → c ≡ true) → (b ≡ true → d ≡ true) → (a && b) ≡ true → (c && d) ≡ true
both-stay a b c d f g h = let p = and_parts a b h in and_from c d (f p.0) (g p.1)

or-stays : (a b c d : Bool) → (a ≡ true → c ≡ true) → (b ≡ true → d ≡ true) → (a || b) ≡ true → (c || d) ≡ true
or-stays true b c d f g h = ap (λ z. z || d) (f refl)
or-stays false b true d f g h = refl
or-stays false b false d f g h = g h

-- cells, objects and locks stay
some-stays : (o : Opening) (xs ys : List ObjectRef) (l : Loc) → is_some (cell_of o xs l) ≡ true → is_some (cell_of o (xs ++ ys) l) ≡ true
some-stays o xs ys l h =
    let P : Option Kind → Type 0 = λ k. cell_of o xs l ≡ k → is_some k ≡ true → is_some (cell_of o (xs ++ ys) l) ≡ true in
    let go : (k : Option Kind) → P k =
    λ k. elim k as P [ Some k ↦ λ e s. ap is_some (cell-stays o xs ys l k e) | None ↦ λ e s. absurd cc ] in
    go (cell_of o xs l) refl h

fits-stays : (o : Opening) (xs ys : List ObjectRef) (l : Loc) (v : Scalar) → fits_cell v (cell_of o xs l) ≡ true → fits_cell v (cell_of o (xs ++ ys) l) ≡ true
fits-stays o xs ys l v h =
    let P : Option Kind → Type 0 = λ k. cell_of o xs l ≡ k → fits_cell v k ≡ true → fits_cell v (cell_of o (xs ++ ys) l) ≡ true in
    let go : (k : Option Kind) → P k =
    λ k. elim k as P [ Some k ↦ λ e s. ap (fits_cell v) (cell-stays o xs ys l k e) ∙ s | None ↦ λ e s. absurd (false≢true s) ] in
    go (cell_of o xs l) refl h

named-stays : (threads : ℕ) (xs ys : List ObjectRef) (p : SharedPtr) → is_named threads xs p ≡ true → is_named threads (xs ++ ys) p ≡ true
named-stays threads xs ys p h =
    let inside = nat_lt p.thread threads && in_range p.offset in
    or-stays (is_null p) (list_any (same_object p.object) xs && inside) (is_null p) (list_any (same_object p.object) (xs ++ ys) && inside)
    (λ e. e)
    (λ e. both-stay (list_any (same_object p.object) xs) inside (list_any (same_object p.object) (xs ++ ys)) inside
    (λ f. list_any-append (same_object p.object) xs ys ∙ or_left (list_any (same_object p.object) xs) (list_any (same_object p.object) ys) f)
    (λ f. f) e) h

pub locks-more : (before more : List Entry) → locks before ≤ locks (before ++ more)
locks-more before more =
    let test : List Entry → Entry → Bool = λ b e. makes_lock e.action (led b e) in
    let e : locks (before ++ more) ≡ locks before + length (picked_from test before more) =
    ap length (picked-append test [] before more) ∙ length-append (picked test before) (picked_from test before more) in
    omega arith

below-stays : (l m n : ℕ) → m ≤ n → nat_le l m ≡ true → nat_le l n ≡ true
below-stays l m n h k = let x = leb-true l m k in le-leb l n (omega arith)

lock-stays : (before more : List Entry) (l : ℕ) → nat_le l (locks before) ≡ true → nat_le l (locks (before ++ more)) ≡ true
lock-stays before more l h = below-stays l (locks before) (locks (before ++ more)) (locks-more before more) h

is_lock-stays : (before more : List Entry) (l : ℕ) → is_lock before l ≡ true → is_lock (before ++ more) l ≡ true
is_lock-stays before more l h =
    both-stay (nat_lt 0 l) (nat_le l (locks before)) (nat_lt 0 l) (nat_le l (locks (before ++ more))) (λ e. e) (lock-stays before more l) h

module _ (o : Opening) (before more : List Entry) where
  knows-stays : (p : SharedPtr) → knows o before p ≡ true → knows o (before ++ more) p ≡ true
  knows-stays p h =
      let g = objects-append o before more in
      subst (λ z. is_named o.threads z p ≡ true) (sym g.1) (named-stays o.threads (objects o before) g.0 p h)

  -- a value that is known stays known
  pub known-stays : (v : Scalar) → is_known o before v ≡ true → is_known o (before ++ more) v ≡ true
  known-stays (Int v) h = refl
  known-stays (Shared p) h = knows-stays p h
  known-stays (Lock l) h = lock-stays before more l h

  call-stays : (c : Call) → may_call o before c ≡ true → may_call o (before ++ more) c ≡ true
  call-stays (Allocates n b s) h = h
  call-stays Makes_lock h = refl
  call-stays (Frees p) h = knows-stays p h
  call-stays (Frees_lock l) h = lock-stays before more l h
  call-stays (Copies w dst src n f) h =
      both-stay (knows o before dst) (knows o before src) (knows o (before ++ more) dst) (knows o (before ++ more) src)
      (knows-stays dst) (knows-stays src) h
  call-stays (Permutes dst src perm n f) h =
      both-stay (knows o before dst) (knows o before src && knows o before perm)
      (knows o (before ++ more) dst) (knows o (before ++ more) src && knows o (before ++ more) perm) (knows-stays dst)
      (both-stay (knows o before src) (knows o before perm) (knows o (before ++ more) src) (knows o (before ++ more) perm)
      (knows-stays src) (knows-stays perm)) h
  call-stays (Reduces dst src op n b k f) h =
      both-stay (knows o before dst) (knows o before src) (knows o (before ++ more) dst) (knows o (before ++ more) src)
      (knows-stays dst) (knows-stays src) h
  call-stays (Reduces_prefixes dst src op n b k f) h =
      both-stay (knows o before dst) (knows o before src) (knows o (before ++ more) dst) (knows o (before ++ more) src)
      (knows-stays dst) (knows-stays src) h
  call-stays Other h = h

  cell-grows : (l : Loc) (k : Kind) → cell_of o (objects o before) l ≡ Some k → cell_of o (objects o (before ++ more)) l ≡ Some k
  cell-grows l k h =
      let g = objects-append o before more in
      subst (λ z. cell_of o z l ≡ Some k) (sym g.1) (cell-stays o (objects o before) g.0 l k h)

  -- what may be asked for may be asked for later
  pub formed-grow : (a : Action) → IsWellFormed o before a → IsWellFormed o (before ++ more) a
  formed-grow (act.Read l s) h =
      let g = objects-append o before more in
      subst (λ z. is_some (cell_of o z l) ≡ true) (sym g.1) (some-stays o (objects o before) g.0 l h)
  formed-grow (act.Write s l v) h =
      let g = objects-append o before more in
      both-stay (fits_cell v (cell_of o (objects o before) l)) (is_known o before v)
      (fits_cell v (cell_of o (objects o (before ++ more)) l)) (is_known o (before ++ more) v)
      (λ f. subst (λ z. fits_cell v (cell_of o z l) ≡ true) (sym g.1) (fits-stays o (objects o before) g.0 l v f))
      (known-stays v) h
  formed-grow act.Fence h = refl
  formed-grow act.Beat h = refl
  formed-grow (act.Notify m) h = refl
  formed-grow (act.Wait m) h = refl
  formed-grow (act.Lock l) h = is_lock-stays before more l h
  formed-grow (act.Attempt l) h = is_lock-stays before more l h
  formed-grow (act.Unlock l) h = is_lock-stays before more l h
  formed-grow act.LockMake h = refl
  formed-grow (act.LockFree l) h = is_lock-stays before more l h
  formed-grow (act.Alloc n b m s) h = h
  formed-grow (act.Free p) h = knows-stays p h
  formed-grow (act.Meet c args) h = call-stays (call_of c args) h
  formed-grow (act.Print x) h = refl
  formed-grow (act.Exit v) h = refl

  -- what fits it fits it later
  pub fits-grow : (a : Action) (r : Reply) → IsWellFormed o before a → fits_after o before a r ≡ true → fits_after o (before ++ more) a r ≡ true
  fits-grow (act.Read l s) r h f =
      let P : Option Kind → Type 0 =
      λ k. cell_of o (objects o before) l ≡ k → is_some k ≡ true → fits_after o (before ++ more) (act.Read l s) r ≡ true in
      let go : (k : Option Kind) → P k = λ k. elim k as P [
        | Some k ↦ λ e s0.
            subst (λ z. fits o.threads o.shapes z (act.Read l s) r ≡ true) (sym (cell-grows l k e))
            (subst (λ z. fits o.threads o.shapes z (act.Read l s) r ≡ true) e f)
        | None ↦ λ e s0. absurd cc
      ] in
      go (cell_of o (objects o before) l) refl h
  fits-grow (act.Write s l v) r h f = f
  fits-grow act.Fence r h f = f
  fits-grow act.Beat r h f = f
  fits-grow (act.Notify m) r h f = f
  fits-grow (act.Wait m) r h f = f
  fits-grow (act.Lock l) r h f = f
  fits-grow (act.Attempt l) r h f = f
  fits-grow (act.Unlock l) r h f = f
  fits-grow act.LockMake r h f = f
  fits-grow (act.LockFree l) r h f = f
  fits-grow (act.Alloc n b m s) r h f = f
  fits-grow (act.Free p) r h f = f
  fits-grow (act.Meet c args) r h f = f
  fits-grow (act.Print x) r h f = f
  fits-grow (act.Exit v) r h f = f
