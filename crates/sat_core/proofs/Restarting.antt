-- The state of a search that goes back to where no level was started.
use Rattle.std.proofs.Common.{◌≡◌, ℕ, ◌<◌, ◌≤◌, true, Some, List, [], take, length, slice_get, sym, subst, arith}
use Rattle.rup.specs.declared.literal.Lit.{Lit}
use Rattle.sat_core.specs.declared.watches.Pair.{Pair}
use Rattle.sat_core.specs.Watching.{held, clause_at, pair_at, TrailValue}
use Rattle.sat_core.specs.Levels.{Levels, Ready}
use Rattle.sat_core.proofs.Levels.{filed_cut, take_take}

no_levels : (known : List (List Lit)) (pairs : List Pair) (trail : List Lit) → Levels known [] pairs trail
no_levels known pairs trail = record {
  each = λ j a e. absurd (cc (e));
  rising = λ i j a b h p q. absurd (cc (p));
  fronts = λ j a e c h. absurd (cc (e));
}

pub first_room : (known : List (List Lit)) (watches : List Pair × List (List ℕ)) (trail : TrailValue) (at start : ℕ) → Ready known watches trail at → slice_get trail.1.1.1 0 ≡ Some start → start ≤ length trail.1.0
first_room known watches trail at start r e = let room : start < length trail.1.0 = r.levels.each 0 start e in omega (arith, room)

pub restarted : (known : List (List Lit)) (watches : List Pair × List (List ℕ)) (trail : TrailValue) (at start : ℕ) → Ready known watches trail at → slice_get trail.1.1.1 0 ≡ Some start → Ready known watches (trail.0, (take start trail.1.0, (take start trail.1.1.0, []))) start
restarted known watches trail at start r e = record {
  kept = record {
    filed = filed_cut trail.0 known trail.1.1.1 watches.0 watches.1 trail.1.0 trail.1.1.0 0 start r.levels.rising e (first_room known watches trail at start r e) r.kept.filed;
    holds = λ c h. subst (λ (ts : List Lit). held (take start trail.1.0) ts (clause_at known c) (pair_at watches.0 c) ≡ true) (sym (take_take trail.1.0 start start (omega arith))) (r.levels.fronts 0 start e c h);
  };
  levels = no_levels known watches.0 (take start trail.1.0);
}
