-- One poll and then one draw.
use Rattle.std.proofs.Common.{◌≡◌, ℕ, ◌+◌, ◌<◌, ◌≤◌, Bool, true, false, cond, ltb, length, Option, Some, None, Result, Ok, Err, refl, sym, ap, subst, ◌∙◌, arith}
use Rattle.std.specs.Prelude.{IfSome}
use Rattle.race_word.specs.declared.place.Seen.{Seen}
use Rattle.race_word.specs.declared.place.PoolEnd.{PoolEnd}
use Rattle.race_word.specs.Runner.{Runner, with_view, Draws}
use Rattle.race_word.specs.Keeps.{Keeps, SeenOn}
use Rattle.race_word.proofs.Racers.{keeps_then}
use Rattle.reducer_iface.specs.Allowed.{DrawsEach}
use Rattle.sat_watch.specs.declared.halt.Halt.TheVariants.{Cancelled, Pool}
use Rattle.sat_watch.specs.Ticks.{HasPassed, HasHalted}

abbrev past : ℕ → Result ℕ PoolEnd
past t = Err (record { ticket = t })

-- a noted end of the pool is answered again
abbrev Answered : Runner → Result ℕ PoolEnd → Runner → Type 0
Answered old a new = IfSome old.view.end (λ t. (new ≡ old) × (a ≡ past t))

-- what a poll leaves as it was
record Polled (old new : Runner) : Type 0 where
  ends : new.view.end ≡ old.view.end
  draws : new.view.draws ≡ old.view.draws
  chain : new.chain ≡ old.chain

polled : (old new : Runner) → new ≡ with_view old (record (old.view) { seen = new.view.seen; polls = new.view.polls }) → Polled old new
polled old new e = record { ends = ap (λ r. r.view.end) e; draws = ap (λ r. r.view.draws) e; chain = ap (λ r. r.chain) e }

-- a ticket below the pool
none_noted : (t : ℕ) (old new : Runner) → Answered old (Ok t) new → old.view.end ≡ None
none_noted t old new h = by old.view.end refl h
  where
    by : (e : Option ℕ) → old.view.end ≡ e → IfSome e (λ u. (new ≡ old) × (Ok t ≡ past u)) → old.view.end ≡ None
    by None is h = is
    by (Some u) is h = absurd (let z = h.1 in cc)

ticket_end : (t : ℕ) (old new : Runner) → Draws old (Ok t) new → new.view.end ≡ old.view.end
ticket_end t old new d = ap (λ r. r.view.end) d.1 ∙ by (ltb d.0 old.view.pool) d.2
  where
    by : (b : Bool) → Ok t ≡ cond b (Ok d.0) (past d.0) → cond b old.view.end (Some d.0) ≡ old.view.end
    by true e = refl
    by false e = absurd (cc)

pub passes : (t : ℕ) (old mid new : Runner) → mid ≡ with_view old (record (old.view) { seen = mid.view.seen; polls = mid.view.polls }) → mid.view.polls ≡ old.view.polls + length old.chain → Keeps old mid → Keeps mid new
    → Answered mid (Ok t) new → (mid.view.end ≡ None → Draws mid (Ok t) new) → HasPassed 1 old new
passes t old mid new rest polls k l answered drawn =
    let p = polled old mid rest in
    let none = none_noted t mid new answered in
    let d = drawn none in
    let draws : new.view.draws ≡ mid.view.draws + 1 = ap (λ r. r.view.draws) d.1 in
    let same : new.view.polls ≡ mid.view.polls = ap (λ r. r.view.polls) d.1 in
    let before = p.draws in
    record {
      keeps = keeps_then k l;
      before = λ _. sym p.ends ∙ none;
      after = ticket_end t mid new d ∙ p.ends;
      draws = omega arith;
      polls = omega arith;
    }

-- whatever the draw answers
drawn_polls : (a : Result ℕ PoolEnd) (old new : Runner) → Answered old a new → (old.view.end ≡ None → Draws old a new) → new.view.polls ≡ old.view.polls
drawn_polls a old new h d = by old.view.end refl h
  where
    by : (e : Option ℕ) → old.view.end ≡ e → IfSome e (λ u. (new ≡ old) × (a ≡ past u)) → new.view.polls ≡ old.view.polls
    by None is h = ap (λ r. r.view.polls) (d is).1
    by (Some u) is h = ap (λ r. r.view.polls) h.0

drawn_each : (a : Result ℕ PoolEnd) (old mid new : Runner) → Polled old mid → Answered mid a new → (mid.view.end ≡ None → Draws mid a new) → DrawsEach old.view.end 1 old.view new.view
drawn_each a old mid new p h d = subst (λ e. DrawsEach e 1 old.view new.view) p.ends (by mid.view.end refl h)
  where
    by : (e : Option ℕ) → mid.view.end ≡ e → IfSome e (λ u. (new ≡ mid) × (a ≡ past u)) → DrawsEach e 1 old.view new.view
    by None is h = let x : new.view.draws ≡ mid.view.draws + 1 = ap (λ r. r.view.draws) (d is).1 in let y = p.draws in omega arith
    by (Some u) is h = (omega arith, ap (λ r. r.view.draws) h.0 ∙ p.draws)

-- the end that a draw answers is noted
abbrev ticket_of : Result ℕ PoolEnd → ℕ
ticket_of (Ok t) = t
ticket_of (Err e) = e.ticket

end_noted : (e : PoolEnd) (old new : Runner) → Answered old (Err e) new → (old.view.end ≡ None → Draws old (Err e) new) → new.view.end ≡ Some e.ticket
end_noted e old new h d = by old.view.end refl h
  where
    past_pool : (b : Bool) (t : ℕ) → ◌≡◌ {A = Result ℕ PoolEnd} (Err e) (cond b (Ok t) (past t)) → cond b old.view.end (Some t) ≡ Some e.ticket
    past_pool true t is = absurd (cc)
    past_pool false t is = ap Some (sym (ap ticket_of is))

    by : (x : Option ℕ) → old.view.end ≡ x → IfSome x (λ u. (new ≡ old) × (Err e ≡ past u)) → new.view.end ≡ Some e.ticket
    by None is h = ap (λ r. r.view.end) (d is).1 ∙ past_pool (ltb (d is).0 old.view.pool) (d is).0 (d is).2
    by (Some u) is h = ap (λ r. r.view.end) h.0 ∙ is ∙ ap Some (sym (ap ticket_of h.1))

pub cancels : (a : Result ℕ PoolEnd) (old mid new : Runner) (s : Seen) → mid ≡ with_view old (record (old.view) { seen = mid.view.seen; polls = mid.view.polls }) → old.view.polls < mid.view.polls → SeenOn old.chain mid.view s → Keeps old mid → Keeps mid new
    → Answered mid a new → (mid.view.end ≡ None → Draws mid a new) → HasHalted 1 old new (Cancelled s)
cancels a old mid new s rest polls sees k l answered drawn =
    let p = polled old mid rest in
    let same = drawn_polls a mid new answered drawn in
    let kept = keeps_then k l in
    record {
      keeps = kept;
      draws = drawn_each a old mid new p answered drawn;
      why = (subst (λ ps. SeenOn ps new.view s) (sym kept.chain) (record { place = sees.place; seen = l.seen s.race s.winner sees.seen }), omega arith);
    }

pub ends : (e : PoolEnd) (old mid new : Runner) → mid ≡ with_view old (record (old.view) { seen = mid.view.seen; polls = mid.view.polls }) → mid.view.polls ≡ old.view.polls + length old.chain → Keeps old mid → Keeps mid new
    → Answered mid (Err e) new → (mid.view.end ≡ None → Draws mid (Err e) new) → (new.view.pool ≤ e.ticket) × (e.ticket < new.view.top) → HasHalted 1 old new (Pool e)
ends e old mid new rest polls k l answered drawn beyond =
    let p = polled old mid rest in
    let same = drawn_polls (Err e) mid new answered drawn in
    record {
      keeps = keeps_then k l;
      draws = drawn_each (Err e) old mid new p answered drawn;
      why = (beyond.0, beyond.1, omega arith, end_noted e mid new answered drawn);
    }
