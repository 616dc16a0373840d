use Rattle.std.proofs.Common.{rules, ◌≡◌, sym, subst}
use Rattle.race_word.specs.declared.view.View.{View}
use Rattle.race_word.specs.Views.{together}
use Rattle.race_word.specs.Has.{HasBranch}
use Rattle.race_word.proofs.Having.{together_own, together_taken}
use Rattle.race_word.proofs.racer.Racer.join.Goals as goal

pub returns-clause-own : goal.returns-clause-own
returns-clause-own c =
    let e : c.count.new.seat.me.0 ≡ together c.args.self.now.view c.args.other.view = search rules in
    λ r n b h. subst (λ (v : View). HasBranch v r n b) (sym e) (together_own r n b c.args.self.now.view c.args.other.view h)

pub returns-clause-taken_in : goal.returns-clause-taken_in
returns-clause-taken_in c =
    let e : c.count.new.seat.me.0 ≡ together c.args.self.now.view c.args.other.view = search rules in
    λ r n b h. subst (λ (v : View). HasBranch v r n b) (sym e) (together_taken r n b c.args.self.now.view c.args.other.view h)
