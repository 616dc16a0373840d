use Rattle.std.proofs.Common.{◌≡◌, ℕ, Option, ap, sym, subst}
use Rattle.race_word.specs.declared.view.View.{View}
use Rattle.race_word.specs.Has.{Tells}
use Rattle.race_word.specs.Plays.{Learns}
use Rattle.race_word.specs.Runner.{Runner}
use Rattle.race_word.proofs.Racers.{tells_winner, win_is_answer}
use Rattle.race_word.proofs.racer.Racer.collect.Goals as goal

pub returns-clause-tells : goal.returns-clause-tells
returns-clause-tells c =
    let found : ℕ = c.collect-found.result in
    let number : c.number.result ≡ c.args.race = c.number.ensures.same in
    let v : c.self.inside.seat.me.0 ≡ c.args.self.now.view = ap (λ (r : Runner). r.view) c.self.view_is in
    let l : Learns c.args.self.now.view c.args.race found = subst (λ (z : View). Learns z c.args.race found) v (subst (λ (z : ℕ). Learns c.self.inside.seat.me.0 z found) number c.collect-found.ensures.learns) in
    subst (λ (a : Option ℕ). Tells c.args.self.now.view c.args.race a) (sym c.winner_in.ensures) (tells_winner c.args.self.now.view c.args.race found l)

pub returns-clause-winner : goal.returns-clause-winner
returns-clause-winner c =
    let found : ℕ = c.collect-found.result in
    let number : c.number.result ≡ c.args.race = c.number.ensures.same in
    let v : c.self.inside.seat.me.0 ≡ c.args.self.now.view = ap (λ (r : Runner). r.view) c.self.view_is in
    let l : Learns c.args.self.now.view c.args.race found = subst (λ (z : View). Learns z c.args.race found) v (subst (λ (z : ℕ). Learns c.self.inside.seat.me.0 z found) number c.collect-found.ensures.learns) in
    let t : Tells c.args.self.now.view c.args.race c.winner_in.result = subst (λ (a : Option ℕ). Tells c.args.self.now.view c.args.race a) (sym c.winner_in.ensures) (tells_winner c.args.self.now.view c.args.race found l) in
    win_is_answer c.args.self.now.view c.args.race c.requires.all.0 c.winner_in.result t c.requires.all.1
