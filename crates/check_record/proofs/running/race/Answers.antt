use Rattle.std.proofs.Common.{ap}
use Rattle.qgoal.specs.Goal.{goal_tree}
use Rattle.race_word.specs.Runner.{Runner}
use Rattle.check_record.proofs.Named.{race_ended}
use Rattle.race_word.specs.declared.view.Terms.{Terms}
use Rattle.check_record.proofs.Totals.{total_most, total_ended, run_total}
use Rattle.check_record.proofs.running.race.Goals as goal

pub returns-in-Ok-clause-ended : goal.returns-in-Ok-clause-ended
returns-in-Ok-clause-ended g c =
    race_ended _ c.args.strategy.now c.requires.runs c.run_strategy-ran.new.store (goal_tree c.args.store.now c.args.goal.now) c.args.workers c.args.pool c.new.result c.in-Ok.racer.chain c.run_strategy-ran.new.racer.view c.close-totals.result.lemmas c.run_strategy-ran.result
    c.new.ensures.defaults (ap (λ (r : Runner). r.chain) c.in-Ok.ensures.racer) c.close-totals.ensures.top c.run_strategy-ran.ensures.run

pub returns-in-Ok-clause-total : goal.returns-in-Ok-clause-total
returns-in-Ok-clause-total g c =
    run_total c.args.pool c.close-totals.result.lemmas c.in-Ok.racer.view c.run_strategy-ran.new.racer.view
    (ap (λ (r : Runner). r.view.draws) c.in-Ok.ensures.racer) c.close-totals.ensures.lemmas (total_most c.args.pool c.args.workers _ _ c.close-totals.result.lemmas (ap (λ (t : Terms). t.pool) c.in-Ok.ensures.terms) (ap (λ (t : Terms). t.workers) c.in-Ok.ensures.terms) c.requires.workers c.close-totals.ensures.most)
    (total_ended _ c.args.pool c.close-totals.result.lemmas c.run_strategy-ran.new.racer.view.end (ap (λ (t : Terms). t.pool) c.in-Ok.ensures.terms) c.close-totals.ensures.ended)
    c.run_strategy-ran.result c.run_strategy-ran.ensures.draws
