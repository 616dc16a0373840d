use Rattle.std.proofs.Common.{rules, ◌≡◌, ◌+◌, sym, subst}
use Rattle.race_word.specs.declared.view.View.{View}
use Rattle.race_word.specs.Views.{after_open}
use Rattle.race_word.specs.Has.{HasFresh}
use Rattle.race_word.specs.Keeps.{Grows}
use Rattle.race_word.specs.Runner.{Runner, with_view}
use Rattle.race_word.proofs.Having.{opened_all}
use Rattle.race_word.proofs.Racers.{open_grows}
use Rattle.race_word.proofs.racer.Racer.open_race.Goals as goal

pub returns-then-found-lt4095-clause-opened : goal.returns-then-found-lt4095-clause-opened
returns-then-found-lt4095-clause-opened c =
    let e : c.open_as-found.new.seat.me.0 ≡ after_open c.args.branches c.open_as-found.result c.args.self.now.view = search rules in
    let number : c.of.result ≡ c.open_as-found.result + 1 = c.of.ensures in
    subst (λ (v : View). HasFresh v c.of.result c.args.branches) (sym e) (subst (λ r. HasFresh (after_open c.args.branches c.open_as-found.result c.args.self.now.view) r c.args.branches) (sym number)
    (opened_all c.args.branches c.open_as-found.result c.args.self.now.view c.requires.some.0 c.if-found-lt4095.true))

pub returns-then-found-lt4095-clause-grows : goal.returns-then-found-lt4095-clause-grows
returns-then-found-lt4095-clause-grows c =
    let s = c.self.inside in
    let new : Runner = record { table = c.open_as-found.new.seat.table_id; view = c.open_as-found.new.seat.me.0; chain = c.args.self.now.chain } in
    let e : new ≡ with_view c.args.self.now (after_open c.args.branches c.open_as-found.result c.args.self.now.view) = search rules in
    let g = open_grows c.args.branches c.open_as-found.result c.args.self.now new e in
    subst (λ (z : Runner). Grows c.args.self.now z) (search rules) g
