use Rattle.std.proofs.Common.{suc, All, sym, subst, arith}
use Rattle.std.proofs.lemmas.List.Elements.{All-nil}
use Rattle.tac_cert.specs.Accepts.{most_splits}
use Rattle.cert_read.specs.Nesting.{AreOpen, Nests}
use Rattle.cert_read.proofs.Nesting.{split_nests, open_push, open_count, some_room}
use Rattle.cert_read.proofs.nest.Nest.split.Goals as goal

pub put-requires : goal.put-requires
unfolding most_splits
put-requires c =
    let room = c.requires.open.0 in
    let count = open_count most_splits c.args.self.now.splits.items room c.requires.open.1 in
    let some = some_room room (grind arith) in
    let cases = subst (All (Nests some.0)) (sym c.new-cases.ensures) (All-nil (Nests some.0)) in
    let nests = split_nests some.0 c.args.item c.new-cases.result c.take_steps-steps.result cases in
    record {
      «open» = (suc some.0, subst (λ v. AreOpen most_splits v.items (suc some.0)) (sym c.take_steps-steps.ensures.splits) (subst (AreOpen most_splits c.args.self.now.splits.items) some.1 c.requires.open.1), nests);
    }

pub returns-in_ok-push-in-Some-clause-open : goal.returns-in_ok-push-in-Some-clause-open
unfolding most_splits
returns-in_ok-push-in-Some-clause-open c =
    let room = c.requires.open.0 in
    let count = open_count most_splits c.args.self.now.splits.items room c.requires.open.1 in
    let some = some_room room (grind arith) in
    let cases = subst (All (Nests some.0)) (sym c.new-cases.ensures) (All-nil (Nests some.0)) in
    let here = subst (λ v. AreOpen most_splits v.items (suc some.0)) (sym c.take_steps-steps.ensures.splits) (subst (AreOpen most_splits c.args.self.now.splits.items) some.1 c.requires.open.1) in
    (some.0, subst (λ ss. AreOpen most_splits ss some.0) (sym c.in_ok-push-in-Some.ensures.items) (open_push most_splits c.take_steps-steps.new.self.splits.items _ some.0 here cases))
