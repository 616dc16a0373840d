use Rattle.std.proofs.Common.{arith, ℕ, zero, suc, ◌<◌}
use Rattle.race_word.specs.declared.view.View.{View}
use Rattle.race_word.specs.Has.{HasBranch, HasUnwon}
use Rattle.race_word.proofs.Having.{unwon_has}
use Rattle.solver_tables.proofs.race_word_table.the_winner_is_seen_and_collected.Goals as goal

pub win-requires-clause-unwon : goal.win-requires-clause-unwon
win-requires-clause-unwon g c = (2, c.split-second.ensures.high 2 1 (omega arith) (c.in-Some.ensures.opened.each 1 (omega arith)))

pub win-requires-2-clause-unwon : goal.win-requires-2-clause-unwon
win-requires-2-clause-unwon g c = (2, c.split-second.ensures.low 2 0 (omega arith) (c.in-Some.ensures.opened.each 0 (omega arith)))

-- a race of two branches
each_of_two : (v : View) (r : ℕ) → HasBranch v r 2 0 → HasBranch v r 2 1 → (b : ℕ) → b < 2 → HasBranch v r 2 b
each_of_two v r p q zero lt = p
each_of_two v r p q (suc zero) lt = q
each_of_two v r p q (suc (suc b)) lt = absurd (omega arith)

pub collect-collected-requires-clause-all : goal.collect-collected-requires-clause-all
collect-collected-requires-clause-all g c =
    let r : ℕ = c.in-Some.race in
    let low : HasUnwon c.split-second.new.self.view r 2 0 = c.split-second.ensures.low 2 0 (omega arith) (c.in-Some.ensures.opened.each 0 (omega arith)) in
    let high : HasUnwon c.split-second.result.view r 2 1 = c.split-second.ensures.high 2 1 (omega arith) (c.in-Some.ensures.opened.each 1 (omega arith)) in (
      2,
      record {
        some = omega arith;
        each = each_of_two c.join.new.self.view r
            (c.join.ensures.own r 2 0 (c.win-2.ensures.branches r 2 0 (unwon_has c.split-second.new.self.view r 2 0 low)))
            (c.join.ensures.taken_in r 2 1 (c.win.ensures.branches r 2 1 (unwon_has c.split-second.result.view r 2 1 high)));
      },
    )
