use Rattle.upc_top_judging.proofs.judging.judge_record.Goals as goal

pub returns-in-Err-Bad : goal.returns-in-Err-Bad
returns-in-Err-Bad c = c.in-Err-Bad.ensures.bad (λ memory. absurd cc)
