-- When a heap stands as a history has left it.
use Rattle.std.specs.Prelude.{◌≡◌, List, map}
use Rattle.block_layout.specs.declared.place.Loc.{Loc}
use Rattle.upc_values.specs.declared.journal.Entry.{Entry}
use Rattle.upc_values.specs.Drain.{last_written}
use Rattle.upc_values.specs.Openings.{Opening}
use Rattle.upc_values.specs.History as history
use Rattle.shared_heap.specs.layer.Heap as heap
use Rattle.shared_heap.specs.layer.Heap.{HeapState, all_objects}

-- A heap after a history: it began with the history's opening, it has the history's objects, each object made is marked
-- as released where the history has released it, and each location has what the history last wrote there.
pub record HeapAfter (o : Opening) (es : List Entry) (h : HeapState) : Type 0 where
  pub begun : h.opening ≡ o
  pub objects : history.objects o es ≡ all_objects h
  pub released : h.released ≡ map (λ x. history.is_released x.number es) h.made
  pub written : (l : Loc) → heap.written h l ≡ last_written l es
