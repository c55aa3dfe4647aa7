use Rattle.std.proofs.Common.{◌≡◌, [], ◌∷◌, ◌++◌, nat_eq, map, reverse, length, ap, ◌∙◌, arith}
use Rattle.std.proofs.lemmas.Grind.{common_steps}
use Rattle.std.proofs.lemmas.List.{reverse-append, map-append, length-reverse, length-map}
use Rattle.typed_tree.specs.Scopes.{Entry}
use Rattle.typed_tree.specs.declared.scope.Entry as e
use Rattle.typed_tree.specs.code.ViewEntries.{view_entry, view_entries, view_declared, latest, place_in}
use Rattle.typed_tree.proofs.scope.Scope.enter.Goals as goal

pub invariant_of-self-2 : goal.invariant_of-self-2
invariant_of-self-2 c =
    let xs = c.args.self.now.entries.items in
    let es = view_entries xs in
    let x : Entry = record { name = c.args.name; means = view_declared c.args.means } in
    let y : e.Entry = record { name = c.args.name; means = c.args.means } in
    let n : c.len-place.result ≡ length es = grind
    (arith, common_steps, c.len-place.ensures, length-reverse (map view_entry xs), length-map xs view_entry) in
    let reserved = c.in_ok-reserve.ensures in
    let s : c.push.new.self.items ≡ xs ++ (y ∷ []) =
    grind (
      arith,
      common_steps,
      c.push.ensures.items,
      c.push.ensures.succeeds,
      reserved.capacity,
      reserved.len,
      reserved.items,
    ) in
    let v : view_entries c.push.new.self.items ≡ x ∷ es =
    ap (λ ys. reverse (map view_entry ys)) s ∙ ap reverse (map-append view_entry xs (y ∷ []))
    ∙ reverse-append (map view_entry xs) (x ∷ []) in
    record {
      indexed = λ q. rw v (c.in_ok-note.ensures.ok q
          ∙ ap (latest (nat_eq c.args.name q) c.len-place.result) (c.args.self.now.indexed q)
          ∙ ap (λ m. latest (nat_eq c.args.name q) m (place_in q es)) n);
    }
