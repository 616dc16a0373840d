use Rattle.std.proofs.Common.{arith, ◌≡◌, ap, sym, subst}
use Rattle.race_word.specs.declared.view.View.{View}
use Rattle.race_word.specs.Has.{HasUnwon}
use Rattle.race_word.specs.Runner.{Runner}
use Rattle.race_word.proofs.Having.{unwon_has}
use Rattle.race_word.proofs.Racers.{keeps_grows, grows_unwon}
use Rattle.solver_tables.proofs.race_word_table.a_poll_sees_the_win_of_another_branch.Goals as goal

pub enter-requires-clause-has : goal.enter-requires-clause-has
enter-requires-clause-has g c = (2, unwon_has c.split-second.new.self.view c.in-Some.race 2 0 (c.split-second.ensures.low 2 0 (omega arith) (c.in-Some.ensures.opened.each 0 (omega arith))))

pub enter-requires-2-clause-has : goal.enter-requires-2-clause-has
enter-requires-2-clause-has g c = (2, unwon_has c.split-second.result.view c.in-Some.race 2 1 (c.split-second.ensures.high 2 1 (omega arith) (c.in-Some.ensures.opened.each 1 (omega arith))))

pub win-requires-clause-unwon : goal.win-requires-clause-unwon
win-requires-clause-unwon g c =
    let same : c.enter-2.new.self.view ≡ c.split-second.result.view = ap (λ (r : Runner). r.view) c.enter-2.ensures in
    let high : HasUnwon c.split-second.result.view c.in-Some.race 2 1 = c.split-second.ensures.high 2 1 (omega arith) (c.in-Some.ensures.opened.each 1 (omega arith)) in
    (2, grows_unwon c.in-Some.race 2 1 (keeps_grows c.poll-2.ensures.keeps) (subst (λ (v : View). HasUnwon v c.in-Some.race 2 1) (sym same) high))
