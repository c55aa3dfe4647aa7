use Rattle.std.proofs.Common.{rules, is_some, true, ◌≡◌, ◌+◌, ◌++◌, List, [], ◌∷◌, length, map, sym, subst, ap, ◌∙◌, arith, append_assoc}
use Rattle.std.specs.Vec.Iter.{into_iter_items}
use Rattle.std.proofs.lemmas.Grind.{common_steps}
use Rattle.std.proofs.lemmas.List.{length-append, map-append}
use Rattle.upc_values.specs.Lists.{Numbered}
use Rattle.upc_task.specs.layer.Kept.{IsKept, strand_of}
use Rattle.upc_task.proofs.Lists.{numbered-at}
use Rattle.upc_rounds_teams.specs.declared.place.Place.{Place}
use Rattle.upc_rounds_teams.specs.layer.Teams.{worker_of, workers_of, seat_at, seen_at}
use Rattle.upc_rounds.proofs.closing.part_all.Goals as goal

pub into_parts-strand-requires : goal.into_parts-strand-requires
into_parts-strand-requires c =
    let h = c.loop-place.invariant in let k = c.in-Some.place in let xs = c.loop-place.yielded in
    let left : List Place = into_iter_items c.next.new.self in
    let all : xs ++ k ∷ left ≡ c.args.places.items = ap (λ l. xs ++ l) (sym c.in-Some.ensures.steps.0) ∙ h.all in
    numbered-at (λ i (q : Place). is_some q.task.worker.«end» ≡ true) xs left k
    (subst (Numbered (λ i (q : Place). is_some q.task.worker.«end» ≡ true)) (sym all) c.requires.ended)

pub loop-place-preserved : goal.loop-place-preserved
loop-place-preserved c =
    let h = c.loop-place.invariant in let k = c.in-Some.place in let xs = c.loop-place.yielded in let s = c.into_parts-strand.result.0 in
    let left : List Place = into_iter_items c.next.new.self in
    let all : (xs ++ k ∷ []) ++ left ≡ c.args.places.items =
    append_assoc xs (k ∷ []) left ∙ ap (λ l. xs ++ l) (sym c.in-Some.ensures.steps.0) ∙ h.all in
    let is : c.push_reserved-in-loop-place.new.self.items ≡ c.loop-place.strands.items ++ s ∷ [] = c.push_reserved-in-loop-place.ensures.items in
    record {
      all = all;
      seats = c.push_reserved.ensures.items ∙ ap (λ l. l ++ c.into_parts-strand.result.1 ∷ []) h.seats
          ∙ ap (λ y. map seat_at xs ++ y ∷ []) c.into_parts-strand.ensures.seat ∙ sym (map-append seat_at xs (k ∷ []));
      many = ap length is ∙ length-append c.loop-place.strands.items (s ∷ []) ∙ ap (λ n. n + 1) h.many ∙ sym (length-append xs (k ∷ []));
      room = (search rules);
      made = λ o p f a.
          let at : IsKept o p f (seen_at k) k.task.worker =
          numbered-at (λ i (q : Place). IsKept o p f (seen_at q) q.task.worker) xs left k
          (subst (Numbered (λ i (q : Place). IsKept o p f (seen_at q) q.task.worker)) (sym all ∙ append_assoc xs (k ∷ []) left) a) in
          is ∙ ap (λ l. l ++ s ∷ []) (h.made o p f a) ∙ ap (λ z. map (strand_of f) (workers_of xs) ++ z ∷ []) (c.into_parts-strand.ensures.strand o p f at)
          ∙ sym (map-append (strand_of f) (workers_of xs) (k.task.worker ∷ [])) ∙ ap (map (strand_of f)) (sym (map-append worker_of xs (k ∷ [])));
    }

pub returns-clause-strands : goal.returns-clause-strands
returns-clause-strands c = λ o p f a.
    let h = c.loop-place.invariant in let st = c.in-None.ensures.steps in
    let all : c.loop-place.yielded ≡ c.args.places.items = grind (arith, common_steps, h.all, st.0) in
    h.made o p f a ∙ ap (λ l. map (strand_of f) (workers_of l)) all
