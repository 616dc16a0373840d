use Rattle.std.proofs.Common.{◌≡◌, drop, nat_lt}
use Rattle.std.specs.List.{list_any}
use Rattle.deriv.specs.Derives.{SPLITS}
use Rattle.lang_rows.proofs.limits.is_past.Given as goal

abbrev pub invariant-loop-splits : goal.invariant-loop-splits
invariant-loop-splits l = list_any (λ n. nat_lt SPLITS n) (drop l.splits-index l.above) ≡ list_any (λ n. nat_lt SPLITS n) l.above
