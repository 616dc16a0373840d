-- Each worked derivation, by the constructors of the definition.
use Rattle.std.proofs.Common.{◌≤◌, ℕ, [], ◌∷◌, Option, Some, None, refl, arith}
use Rattle.std.specs.Prelude.{codes}
use Rattle.qgoal.specs.Goal.{GoalTree}
use Rattle.strat_text.specs.declared.strategy.Strategy.TheVariants as strategy
use Rattle.deriv.specs.declared.kind.Kind.TheVariants as kind
use Rattle.deriv.specs.Params.{defaults}
use Rattle.deriv.specs.Outcome.{Done, Failed, Told, TooDeep}
use Rattle.deriv.specs.Trees as kept
use Rattle.deriv.specs.Trees.{Der, none, more, no_pairs, pair}
use Rattle.deriv.specs.Derives.{World, Derives, stopped, prim, seq_all, seq_sat, seq_failed, repeat_rests, tried, tried_all, race, par_all, try_for, by_then, by_or_else, each_none, each_more, fail_none, fail_more, beside_none, beside_more, DEEPEST}
use Rattle.tac_basic.proofs.Alone.{one_outcome}
use Rattle.check_tables.specs.Worked.{skip, fail, check_by, one, empty, skipped, failed, Has, gives, fails}

module _ (workers : ℕ) where
  abbrev K : World
  K = check_by workers

  skips : (g : GoalTree) (l : Option ℕ) (n : ℕ) → n ≤ DEEPEST → Derives K (skipped g l) skip g l defaults n
  skips g l n deep = prim (codes "skip") kind.Skip (Done (g ∷ [])) ([] ∷ []) 0 deep refl refl (one_outcome g) (record { goals = refl; steps = refl; lemmas = refl })

  fails_at : (g : GoalTree) (l : Option ℕ) (n : ℕ) → n ≤ DEEPEST → Derives K (failed g l) fail g l defaults n
  fails_at g l n deep = prim (codes "fail") kind.Fail (Failed Told) [] 0 deep refl refl tt (record { cause = refl; steps = refl; lemmas = refl })

  pub or_else : Has K (strategy.OrElse (fail ∷ skip ∷ [])) one (gives one (kept.Tried (more (failed one None) none) (skipped one None)))
  or_else = tried (fail ∷ []) [] skip (more (failed one None) none) (skipped one None) None (one ∷ []) (omega arith) (by_or_else (fail ∷ skip ∷ []) refl) (fail_more Told (fails_at one None 2 (omega arith)) refl fail_none) (skips one None 2 (omega arith)) refl

  pub or_else_fails : Has K (strategy.OrElse (fail ∷ fail ∷ [])) one (fails one (kept.TriedAll (more (failed one None) (more (failed one None) none))))
  or_else_fails = tried_all (fail ∷ fail ∷ []) (failed one None) (more (failed one None) none) None Told (omega arith) (by_or_else (fail ∷ fail ∷ []) refl) (fail_more Told (fails_at one None 2 (omega arith)) refl (fail_more Told (fails_at one None 2 (omega arith)) refl fail_none)) refl

  pub then_fails : Has K (strategy.Then (skip ∷ fail ∷ [])) one (fails one (kept.Seq (skipped one None) (more (failed one None) none)))
  then_fails = seq_failed skip fail _ (skipped one None) [] [] one none (failed one None) None Told (omega arith) (by_then skip fail [] refl) (skips one None 2 (omega arith)) refl tt each_none (fails_at one None 2 (omega arith)) refl

  pub then_gives : Has K (strategy.Then (skip ∷ skip ∷ [])) one (gives one (kept.Seq (skipped one None) (more (skipped one None) none)))
  then_gives = seq_all skip skip _ (skipped one None) (one ∷ []) (more (skipped one None) none) None (omega arith) (by_then skip skip [] refl) (skips one None 2 (omega arith)) refl tt (each_more (one ∷ []) (skips one None 2 (omega arith)) refl refl each_none)

  pub then_sat : Has K (strategy.Then (skip ∷ skip ∷ [])) empty (gives empty (kept.Seq (skipped empty None) (more (skipped empty None) none)))
  then_sat = seq_sat skip skip _ (skipped empty None) [] [] empty none (skipped empty None) None (empty ∷ []) (omega arith) (by_then skip skip [] refl) (skips empty None 2 (omega arith)) refl tt each_none (skips empty None 2 (omega arith)) refl refl

  pub repeat_ends : Has K (strategy.Repeat skip 3) one (gives one (kept.Seq (skipped one None) none))
  repeat_ends = repeat_rests skip 3 (skipped one None) (omega arith) refl (omega arith) (skips one None 2 (omega arith)) refl

  pub tries : Has K (strategy.TryFor skip 5) one (gives one (kept.Wrap (skipped one (Some 5))))
  tries = try_for skip 5 (skipped one (Some 5)) (omega arith) refl (skips one (Some 5) 2 (omega arith))

  pub par_then : Has K (strategy.ParThen skip skip) one (gives one (kept.ParSeq (skipped one None) (pair 0 (skipped one None) no_pairs)))
  par_then = par_all skip skip (skipped one None) (one ∷ []) (pair 0 (skipped one None) no_pairs) (omega arith) refl (skips one None 2 (omega arith)) refl (beside_more (skips one None 2 (omega arith)) refl beside_none)

  pub too_deep : Derives K (kept.der one None 0 (Failed TooDeep) kept.Stopped) skip one None defaults 2049
  too_deep = stopped refl

-- one of two workers may come to the end of the second part first
pub raced : Has (check_by 2) (strategy.ParOr (fail ∷ skip ∷ [])) one (gives one (kept.Race 1 (skipped one None)))
raced = race (fail ∷ skip ∷ []) skip 1 (skipped one None) (one ∷ []) (omega arith) (omega arith) refl refl (skips 2 one None 2 (omega arith)) refl
