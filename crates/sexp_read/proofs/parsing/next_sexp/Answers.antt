use Rattle.std.proofs.Common.{◌<◌, ◌≤◌, length, ◌≡◌, ◌∙◌, sym, ap, arith, drop, reverse, []}
use Rattle.std.proofs.lemmas.List.{drop_all}
use Rattle.sexp_read.specs.Token.{tokens}
use Rattle.sexp_read.specs.Sexp.{read}
use Rattle.sexp_read.proofs.Opened.{ends_within}
use Rattle.sexp_read.proofs.AtomsThere.{next_atoms}
use Rattle.sexp_read.proofs.Complete.{next_spelled}
use Rattle.sexp_read.proofs.Finish.{next_ends}
use Rattle.sexp_read.proofs.Reasons.{next_reason}
use Rattle.sexp_read.proofs.Spells.{next_spells}
use Rattle.sexp_read.proofs.Tokens.{tokens_begin, tokens_none}
use Rattle.sexp_read.proofs.parsing.next_sexp.Goals as goal

pub returns-in-Some-clause-next : goal.returns-in-Some-clause-next
returns-in-Some-clause-next c =
    let t = c.token-kind in
    let first = tokens_begin c.args.bytes.now c.loop-at.at t.result.1 t.result.0 c.loop-at-test.true t.ensures.kind t.ensures.end in
    let turned = rw c.in-Some.is at c.in_ok-next.ensures.turns in
    sym (turned (tokens (drop t.result.1 c.args.bytes.now) t.result.1)) ∙ ap (λ ts. read ts (reverse c.loop-at.frames.items)) (sym first) ∙ c.loop-at.invariant.told

pub loop-at-preserved : goal.loop-at-preserved
loop-at-preserved c =
    let t = c.token-kind in
    let first = tokens_begin c.args.bytes.now c.loop-at.at t.result.1 t.result.0 c.loop-at-test.true t.ensures.kind t.ensures.end in
    let turned = rw c.in_default.is at c.in_ok-next.ensures.turns in
    record {
      from = grind arith;
      within = grind arith;
      told = sym (turned (tokens (drop t.result.1 c.args.bytes.now) t.result.1)) ∙ ap (λ ts. read ts (reverse c.loop-at.frames.items)) (sym first) ∙ c.loop-at.invariant.told;
    }

pub returns-clause-next : goal.returns-clause-next
returns-clause-next c =
    let none : drop c.loop-at.at c.args.bytes.now ≡ [] = drop_all c.loop-at.at c.args.bytes.now c.loop-at-test.false in
    rw (c.at_end.ensures.value, c.deref.ensures.value) (sym (ap (λ ts. read ts (reverse c.loop-at.frames.items)) (rw none (tokens_none c.loop-at.at))) ∙ c.loop-at.invariant.told)

pub returns-in-Some-clause-within : goal.returns-in-Some-clause-within
returns-in-Some-clause-within c =
    let low : c.args.place < c.token-kind.result.1 = grind arith in
    let high : c.token-kind.result.1 ≤ length c.args.bytes.now = grind arith in
    ends_within c.token-kind.result.1 c.args.place (length c.args.bytes.now) c.in-Some.next (rw c.in-Some.is at c.in_ok-next.ensures.end) low high

pub returns-clause-within : goal.returns-clause-within
returns-clause-within c = c.at_end.ensures.end _ _

pub returns-in-Some-clause-spelled : goal.returns-in-Some-clause-spelled
returns-in-Some-clause-spelled c = next_spells c.args.bytes.now c.args.place c.in-Some.next (returns-in-Some-clause-next c)

pub returns-clause-spelled : goal.returns-clause-spelled
returns-clause-spelled c = next_spells c.args.bytes.now c.args.place c.at_end.result (returns-clause-next c)

pub returns-in-Some-clause-reason : goal.returns-in-Some-clause-reason
returns-in-Some-clause-reason c = next_reason c.args.bytes.now c.args.place c.in-Some.next (returns-in-Some-clause-next c)

pub returns-clause-reason : goal.returns-clause-reason
returns-clause-reason c = next_reason c.args.bytes.now c.args.place c.at_end.result (returns-clause-next c)

pub returns-in-Some-clause-written : goal.returns-in-Some-clause-written
returns-in-Some-clause-written c = next_atoms c.args.bytes.now c.args.place c.in-Some.next (returns-in-Some-clause-next c)

pub returns-clause-written : goal.returns-clause-written
returns-clause-written c = next_atoms c.args.bytes.now c.args.place c.at_end.result (returns-clause-next c)

pub returns-in-Some-clause-ends : goal.returns-in-Some-clause-ends
returns-in-Some-clause-ends c = next_ends c.args.bytes.now c.args.place c.in-Some.next (returns-in-Some-clause-next c)

pub returns-clause-ends : goal.returns-clause-ends
returns-clause-ends c = next_ends c.args.bytes.now c.args.place c.at_end.result (returns-clause-next c)

pub returns-in-Some-clause-complete : goal.returns-in-Some-clause-complete
returns-in-Some-clause-complete c = next_spelled c.args.bytes.now c.args.place c.in-Some.next (returns-in-Some-clause-next c)

pub returns-clause-complete : goal.returns-clause-complete
returns-clause-complete c = next_spelled c.args.bytes.now c.args.place c.at_end.result (returns-clause-next c)
