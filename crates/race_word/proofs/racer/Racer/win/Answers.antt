use Rattle.std.proofs.Common.{rules, ◌≡◌, sym, subst}
use Rattle.race_word.specs.declared.view.View.{View}
use Rattle.race_word.specs.Views.{after_win}
use Rattle.race_word.specs.Has.{HasBranch}
use Rattle.race_word.proofs.Having.{tried_has}
use Rattle.race_word.proofs.Racers.{win_won}
use Rattle.race_word.proofs.racer.Racer.win.Goals as goal

pub returns-clause-won : goal.returns-clause-won
returns-clause-won c =
    let e : c.win-found.new.seat.me.0 ≡ after_win c.args.race c.args.branch c.win-found.result c.args.self.now.view = search rules in
    win_won c.args.race c.args.branch c.win-found.result c.win_or_winner.result c.args.self.now.view c.win-found.new.seat.me.0 e c.win_or_winner.ensures c.requires.unwon

pub returns-clause-branches : goal.returns-clause-branches
returns-clause-branches c =
    let e : c.win-found.new.seat.me.0 ≡ after_win c.args.race c.args.branch c.win-found.result c.args.self.now.view = search rules in
    λ r n b h. subst (λ (v : View). HasBranch v r n b) (sym e) (tried_has c.args.race c.args.branch c.win-found.result r n b c.args.self.now.view h)
