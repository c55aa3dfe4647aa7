use Rattle.std.proofs.Common.{map, sym, ◌∙◌}
use Rattle.std.proofs.lemmas.List.{length-map}
use Rattle.upc_lexer.proofs.NameLemmas.{found_at, last_at, insert_present, insert_absent, any-map, new_key}
use Rattle.upc_lexer.proofs.names.Names.insert.Goals as goal

pub returns-in-Some-clause-number : goal.returns-in-Some-clause-number
returns-in-Some-clause-number c =
    rw (← c.self.view_is) (found_at (λ name. name.items) c.args.name.now c.self.inside.set.keys c.in-Some.number c.in-Some.ensures.index)

pub returns-in-Some-clause-names : goal.returns-in-Some-clause-names
returns-in-Some-clause-names c =
    rw (← c.self.view_is) (insert_present _ c.args.name.now (any-map (λ name. name.items) c.args.name.now c.self.inside.set.keys ∙ sym c.in-Some.ensures.found))

pub returns-clause-number : goal.returns-clause-number
returns-clause-number c =
    let added = new_key (λ name. name.items) c.args.name.now c.self.inside.set.keys c.insert.new.self.keys c.in_ok-from_slice.field-0 c.in_ok-from_slice.ensures.items (sym c.in_default.ensures.found) c.in_ok-insert.ensures.keys in
    rw added (last_at (map (λ name. name.items) c.self.inside.set.keys) c.args.name.now c.len-number.result (c.len-number.ensures.len ∙ sym (length-map c.self.inside.set.keys (λ name. name.items))))

pub returns-clause-names : goal.returns-clause-names
returns-clause-names c =
    let added = new_key (λ name. name.items) c.args.name.now c.self.inside.set.keys c.insert.new.self.keys c.in_ok-from_slice.field-0 c.in_ok-from_slice.ensures.items (sym c.in_default.ensures.found) c.in_ok-insert.ensures.keys in
    rw (added, ← c.self.view_is) (insert_absent _ c.args.name.now (any-map (λ name. name.items) c.args.name.now c.self.inside.set.keys ∙ sym c.in_default.ensures.found))
