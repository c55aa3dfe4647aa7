-- What clauses say of boxes in a row, and of the places at them.
use Rattle.std.specs.Prelude.{◌≡◌, ℕ, suc, ◌<◌, List, length, slice_index_or}
use Rattle.post_box.specs.declared.post.PostBox.{PostBox}
use Rattle.post_box.specs.declared.post.Owner.{Owner}
use Rattle.post_box.specs.declared.post.Doer.{Doer}
use Rattle.post_box.specs.layer.Boxes.{work_of, IsIdle, WaitsFor, IsFree}

module _ {W I : Type 0} where
  -- Each box was made for this work.
  abbrev pub AreFor : W → List (PostBox W I) → Type 0
  AreFor work bs = (i : ℕ) (b : PostBox W I) → i < length bs → work_of (slice_index_or bs i b) ≡ work

  -- Each owner's place is at its box, and no item is out.
  abbrev pub AreIdle : List (PostBox W I) → List (Owner W I) → Type 0
  AreIdle bs os = (i : ℕ) (b : PostBox W I) (o : Owner W I) → i < length bs
      → IsIdle (slice_index_or bs i b) (slice_index_or os i o)

  -- Each owner's place is at its box, and all items but the first are out.
  abbrev pub AreOut : List (PostBox W I) → List (Owner W I) → List I → Type 0
  AreOut bs os xs = (i : ℕ) (b : PostBox W I) (o : Owner W I) (x : I) → i < length bs
      → WaitsFor (slice_index_or bs i b) (slice_index_or os i o) (slice_index_or xs (suc i) x)

  -- Each doer's place is at its box, and it has no item.
  abbrev pub AreFree : List (PostBox W I) → List (Doer W I) → Type 0
  AreFree bs ds = (i : ℕ) (b : PostBox W I) (d : Doer W I) → i < length bs
      → IsFree (slice_index_or bs i b) (slice_index_or ds i d)
