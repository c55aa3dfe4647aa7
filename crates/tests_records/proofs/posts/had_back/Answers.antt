use Rattle.tests_records.proofs.posts.had_back.Goals as goal

pub back-value-requires : goal.back-value-requires
back-value-requires g c = let h = c.requires in (h.0, c.in-None.ensures.none h.0 h.1)
