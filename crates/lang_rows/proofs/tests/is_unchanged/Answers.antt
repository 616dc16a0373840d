use Rattle.lang_rows.proofs.Testing.{alone_is, is_alone}
use Rattle.lang_rows.proofs.tests.is_unchanged.Goals as goal

pub returns-then-goals-eq1 : goal.returns-then-goals-eq1
returns-then-goals-eq1 c = record {
  unchanged = λ has all. (
    (λ yes. is_alone _ _ c.index-goals-0.result c.args.goals.now c.if-goals-eq1.true c.index-goals-0.is (c.is_same.ensures.0 yes)),
    (λ e. c.is_same.ensures.1 (alone_is _ _ c.index-goals-0.result c.args.goals.now c.is_distinct.ensures has all c.if-goals-eq1.true c.index-goals-0.is e)),
  );
}
