-- What the threads did in a collective call leaves the call's value.
use Rattle.upc_values.specs.Calls.{Copies, Permutes, Reduces, Reduces_prefixes}
use Rattle.collective_laws_words.specs.layer.Interface.{ValuesHold}
use Rattle.collective_laws_steps.proofs.Copied.{copies_hold}
use Rattle.collective_laws_steps.proofs.Permuted.{permutes_hold}
use Rattle.collective_laws_steps.proofs.Reduced.{reduce_holds, prefixes_hold}

pub values_hold : ValuesHold
values_hold threads shapes (Copies w dst src n f) before after a =
    copies_hold threads shapes w dst src n f before after a
values_hold threads shapes (Permutes dst src perm n f) before after a =
    permutes_hold threads shapes dst src perm n before f after a
values_hold threads shapes (Reduces dst src op n blk k f) before after a =
    reduce_holds threads shapes dst src op n blk k f before after a
values_hold threads shapes (Reduces_prefixes dst src op n blk k f) before after a =
    prefixes_hold threads shapes dst src op n blk k f before after a
values_hold threads shapes call before after a = tt
