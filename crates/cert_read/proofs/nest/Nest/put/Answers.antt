use Rattle.std.proofs.Common.{◌≡◌, suc, ◌++◌, ◌∷◌, [], length, All, sym, subst, arith}
use Rattle.std.proofs.lemmas.List.Elements.{All-push}
use Rattle.tac_cert.specs.Accepts.{most_splits}
use Rattle.cert_read.specs.Nesting.{Nests, AreOpen}
use Rattle.cert_read.proofs.Nesting.{open_push, open_pop, none_open}
use Rattle.cert_read.proofs.nest.Nest.put.Goals as goal

pub returns-then-split-gt0-clause-open : goal.returns-then-split-gt0-clause-open
returns-then-split-gt0-clause-open c =
    let room = c.loop-split.invariant.0 in
    let is : c.loop-split.self.splits.items ≡ c.pop.new.self.items ++ c.in-Some.split ∷ [] = c.in-Some.ensures.items in
    let popped = open_pop most_splits c.pop.new.self.items c.in-Some.split room (subst (λ ss. AreOpen most_splits ss room) is c.loop-split.invariant.1) in
    let cases = subst (All (Nests room)) (sym c.in_ok-push.ensures.ok) (All-push (Nests room) c.in-Some.split.cases c.loop-split.proof popped.1 c.loop-split.invariant.2) in
    (room, subst (λ ss. AreOpen most_splits ss room) (sym c.in_ok-push-2.ensures.items) (open_push most_splits c.pop.new.self.items _ room popped.0 cases))

pub loop-split-preserved : goal.loop-split-preserved
loop-split-preserved c =
    let room = c.loop-split.invariant.0 in
    let is : c.loop-split.self.splits.items ≡ c.pop.new.self.items ++ c.in-Some.split ∷ [] = c.in-Some.ensures.items in
    let popped = open_pop most_splits c.pop.new.self.items c.in-Some.split room (subst (λ ss. AreOpen most_splits ss room) is c.loop-split.invariant.1) in
    let cases = subst (All (Nests room)) (sym c.in_ok-push.ensures.ok) (All-push (Nests room) c.in-Some.split.cases c.loop-split.proof popped.1 c.loop-split.invariant.2) in
    (suc room, popped.0, c.closed-proof.ensures.nests room cases)

pub returns-clause-whole : goal.returns-clause-whole
returns-clause-whole c =
    let none_left : length c.loop-split.self.splits.items ≡ 0 = grind arith in
    none_open most_splits c.loop-split.self.splits.items c.loop-split.invariant.0 c.loop-split.proof none_left c.loop-split.invariant.1 c.loop-split.invariant.2
