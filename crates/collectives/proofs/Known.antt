-- Whether a call copies or reduces.
use Rattle.std.proofs.Common.{◌≡◌, refl}
use Rattle.upc_values.specs.Calls as said
use Rattle.collectives.specs.code.Calls.{kept}
use Rattle.collectives.specs.layer.Arguments.{copies_or_reduces}

pub known_kept : (c : said.Call) → copies_or_reduces (kept c) ≡ copies_or_reduces c
known_kept (said.Copies w dst src n f) = refl
known_kept (said.Permutes dst src perm n f) = refl
known_kept (said.Reduces dst src op n b k f) = refl
known_kept (said.Reduces_prefixes dst src op n b k f) = refl
known_kept (said.Allocates n b s) = refl
known_kept said.Makes_lock = refl
known_kept (said.Frees p) = refl
known_kept (said.Frees_lock l) = refl
known_kept said.Other = refl
