use Rattle.std.proofs.Common.{rules, ◌≡◌, sym, subst}
use Rattle.race_word.specs.declared.view.View.{View}
use Rattle.race_word.specs.Views.{stays_with, goes_with}
use Rattle.race_word.specs.Has.{HasUnwon}
use Rattle.race_word.proofs.Having.{stays_unwon, goes_unwon}
use Rattle.race_word.proofs.racer.Racer.split.Goals as goal

pub returns-clause-low : goal.returns-clause-low
returns-clause-low c =
    let e : c.split_as-seat.new.seat.me.0 ≡ stays_with c.args.race c.args.mid c.args.workers c.args.self.now.view = search rules in
    λ n b lt h. subst (λ (v : View). HasUnwon v c.args.race n b) (sym e) (stays_unwon c.args.race c.args.mid c.args.workers n b c.args.self.now.view lt h)

pub returns-clause-high : goal.returns-clause-high
returns-clause-high c =
    let e : c.split_as-seat.result.me.0 ≡ goes_with c.args.race c.args.mid c.args.workers c.args.self.now.view = search rules in
    λ n b le h. subst (λ (v : View). HasUnwon v c.args.race n b) (sym e) (goes_unwon c.args.race c.args.mid c.args.workers n b c.args.self.now.view le h)
