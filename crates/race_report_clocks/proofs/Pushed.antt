-- The clocks after one more entry.
use Rattle.std.proofs.Common.{◌≡◌, List, [], ◌∷◌, ◌++◌, sym, ap, ◌∙◌, append_assoc, append-nil}
use Rattle.upc_values.specs.declared.journal.Entry.{Entry}
use Rattle.race_report_clocks.specs.layer.Clocks.{Clocks, silent, advanced, clocks_from, clocks}

pub push-from : (before : List Entry) (c : Clocks) (es : List Entry) (e : Entry) → clocks_from before c (es ++ e ∷ []) ≡ advanced (before ++ es) (clocks_from before c es) e
push-from before c [] e = ap (λ z. advanced z c e) (sym (append-nil before))
push-from before c (x ∷ es) e =
    push-from (before ++ x ∷ []) (advanced before c x) es e
    ∙ ap (λ z. advanced z (clocks_from (before ++ x ∷ []) (advanced before c x) es) e) (append_assoc before (x ∷ []) es)

pub clocks-push : (es : List Entry) (e : Entry) → clocks (es ++ e ∷ []) ≡ advanced es (clocks es) e
clocks-push es e = push-from [] silent es e
