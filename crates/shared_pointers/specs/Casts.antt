-- Members and casts of pointers-to-shared (UPC 6.4.2, 6.4.3, 6.4.4).
use Rattle.std.specs.Prelude.{ℕ, ◌==◌, if◌then◌else◌, pos, ◌+ℤ◌, Result, Ok, Err}
use Rattle.block_layout.specs.declared.place.SharedPtr.{SharedPtr}
use Rattle.block_layout.specs.declared.place.LocalPtr.{LocalPtr}
use Rattle.block_layout.specs.declared.place.LocalPtr.TheVariants.{Null, Shared}
use Rattle.block_layout.specs.declared.run_error.TheConstants.{NULL_ACCESS, NOT_LOCAL, POINTER_RANGE}
use Rattle.block_layout.specs.Places.{in_range}
use Rattle.block_layout.specs.Pointers.{is_null}

-- What `&p->m` gives: the pointer to the member, where its offset is in range (C99 6.5.2.3, UPC 6.4.4).
abbrev pub member_of : SharedPtr → ℕ → Result SharedPtr ℕ
member_of p offset =
    if is_null p
    then Err NULL_ACCESS
    else
    if in_range (p.offset +ℤ pos offset)
    then Ok (record p { phase = 0; offset = p.offset +ℤ pos offset })
    else Err POINTER_RANGE

-- What a cast from one block to another gives: the same target, with phase 0 where the blocks differ (UPC 6.4.3).
abbrev pub cast_block : SharedPtr → (from into : ℕ) → SharedPtr
cast_block p from into =
    record {
      object = p.object;
      thread = p.thread;
      phase = if from == into then p.phase else 0;
      offset = p.offset;
    }

-- What a cast to pointer-to-local gives on thread `me`, which may cast what lies on it alone (UPC 6.4.3).
abbrev pub local_of : SharedPtr → ℕ → Result LocalPtr ℕ
local_of p me =
    if is_null p then Ok Null else if p.thread == me then Ok (Shared p.object p.thread p.offset) else Err NOT_LOCAL
