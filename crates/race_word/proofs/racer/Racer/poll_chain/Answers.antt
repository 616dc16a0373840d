use Rattle.std.proofs.Common.{rules, arith, ◌≡◌, ◌+◌, ◌-◌, ℕ, Some, take, drop, get_or, false, sym, ap, ◌∙◌, subst}
use Rattle.race_word.specs.declared.place.Place.{Place}
use Rattle.race_word.specs.declared.view.View.{View}
use Rattle.race_word.specs.Runner.{Runner, Polls, names_other, sighting}
use Rattle.race_word.specs.Views.{after_poll}
use Rattle.race_word.proofs.Polling.{stops, goes_on, not_other_zero, not_other_own}
use Rattle.race_word.proofs.racer.Racer.poll_chain.Goals as goal
use Rattle.race_word.proofs.racer.Racer.poll_chain.Goals.{else-found-ne0-via-then-found-ne0+else-found-place, else-found-ne0-via-else-found-ne0}

pub returns-then-found-place-clause-polls : goal.returns-then-found-place-clause-polls
returns-then-found-place-clause-polls c =
    let d : Place = record { race = 0; branch = 0 } in let i = c.loop-i.invariant in let s = c.loop-i.self-inside in let found : ℕ = c.poll-found.result in
    let p : Place = get_or s.places c.loop-i.i d in
    let here : Polls (drop c.loop-i.i (take s.depth s.places)) s.seat.me.0 (Some (sighting p.race (found - 1))) (after_poll p.race found s.seat.me.0) =
    stops s.places s.depth c.loop-i.i d s.seat.me.0 found c.loop-i-test.true (let a = i.racer.depth in let b = i.racer.room in omega arith) c.if-found-ne0.true c.if-found-place.true in
    let all : Polls (take s.depth s.places) c.self.inside.seat.me.0 (Some (sighting p.race (found - 1))) (after_poll p.race found s.seat.me.0) = i.polls _ _ here in
    let from : Polls (take c.self.inside.depth c.self.inside.places) c.self.inside.seat.me.0 (Some (sighting p.race (found - 1))) (after_poll p.race found s.seat.me.0) = subst (λ (z : ℕ). Polls (take z c.self.inside.places) c.self.inside.seat.me.0 (Some (sighting p.race (found - 1))) (after_poll p.race found s.seat.me.0)) i.depth
    (subst (λ z. Polls (take s.depth z) c.self.inside.seat.me.0 (Some (sighting p.race (found - 1))) (after_poll p.race found s.seat.me.0)) i.places all) in
    let whole : Polls c.args.self.now.chain c.args.self.now.view (Some (sighting p.race (found - 1))) (after_poll p.race found s.seat.me.0) = subst (λ (r : Runner). Polls r.chain r.view (Some (sighting p.race (found - 1))) (after_poll p.race found s.seat.me.0)) c.self.view_is from in
    subst (λ (z : View). Polls c.args.self.now.chain c.args.self.now.view (Some (sighting c.of.result (found - 1))) z) (ap (λ m. m.0) (sym c.poll-found.ensures.view))
    (subst (λ (z : ℕ). Polls c.args.self.now.chain c.args.self.now.view (Some (sighting z (found - 1))) (after_poll p.race found s.seat.me.0)) (sym c.of.ensures) whole)

pub loop-i-preserved : goal.loop-i-preserved
loop-i-preserved c =
    let d : Place = record { race = 0; branch = 0 } in let i = c.loop-i.invariant in let s = c.loop-i.self-inside in let found : ℕ = c.poll-found.result in
    let p : Place = get_or s.places c.loop-i.i d in
    let own : names_other found p.branch ≡ false = elim c.else-found-ne0.branch [ else-found-ne0-via-then-found-ne0+else-found-place w ↦ not_other_own found p.branch w.if-found-place.false | else-found-ne0-via-else-found-ne0 w ↦ not_other_zero found p.branch w.if-found-ne0.false ] in
    record {
      racer = search rules;
      table = c.poll-found.ensures.same.0 ∙ i.table;
      places = i.places;
      depth = i.depth;
      within = (let t = c.loop-i-test.true in omega arith);
      polls = λ answer w q. i.polls answer w (goes_on s.places s.depth c.loop-i.i d s.seat.me.0 found c.loop-i-test.true (let a = i.racer.depth in let b = i.racer.room in omega arith) own answer w
          (subst (λ (z : View). Polls (drop (c.loop-i.i + 1) (take s.depth s.places)) z answer w) (ap (λ m. m.0) c.poll-found.ensures.view) q));
    }
