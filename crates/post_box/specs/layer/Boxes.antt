-- What clauses say of a box and of the two places at it.
use Rattle.std.specs.Prelude.{◌≡◌, [], ◌∷◌, Option, Some, None}
use Rattle.post_box.specs.declared.post.PostBox.{PostBox}
use Rattle.post_box.specs.declared.post.Owner as owners
use Rattle.post_box.specs.declared.post.Doer as doers
use Rattle.post_box.specs.declared.view.View.{View}
use Rattle.post_box.specs.declared.view.Role.{Role}
use Rattle.post_box.specs.declared.view.Role.TheVariants.{Owner, Doer}

module _ {W I : Type 0} where
  -- What a thread at a box knows.
  abbrev pub view : W → Role → Option I → View I W
  view work role item = record { work = work; role = role; item = item }

  -- The work for which the box was made.
  abbrev pub work_of : PostBox W I → W
  work_of b = b.table.shared.key

  -- It is the owner's place at the box, and no item is out.
  abbrev pub IsIdle : PostBox W I → owners.Owner W I → Type 0
  IsIdle b o = (o.place.table_id ≡ b.table.shared.table_id)
      × (o.place.me ≡ (view (work_of b) Owner None, (0, None) ∷ []))

  -- It is the owner's place at the box, and the item x is out.
  abbrev pub WaitsFor : PostBox W I → owners.Owner W I → I → Type 0
  WaitsFor b o x = (o.place.table_id ≡ b.table.shared.table_id)
      × (o.place.me ≡ (view (work_of b) Owner (Some x), []))

  -- It is the doer's place at the box, and it has no item.
  abbrev pub IsFree : PostBox W I → doers.Doer W I → Type 0
  IsFree b d = (d.place.table_id ≡ b.table.shared.table_id)
      × (d.place.me ≡ (view (work_of b) Doer None, []))

  -- It is the doer's place at the box, and it has the item x.
  abbrev pub HasItem : PostBox W I → doers.Doer W I → I → Type 0
  HasItem b d x = (d.place.table_id ≡ b.table.shared.table_id)
      × (d.place.me ≡ (view (work_of b) Doer (Some x), (0, None) ∷ []))
