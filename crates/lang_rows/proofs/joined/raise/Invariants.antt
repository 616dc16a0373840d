use Rattle.std.proofs.Common.{◌≡◌, ◌++◌, drop}
use Rattle.proof_conv.specs.Leads.{raised}
use Rattle.lang_rows.proofs.joined.raise.Given as goal

abbrev pub invariant-loop-splits : goal.invariant-loop-splits
invariant-loop-splits l = l.all ++ raised l.up (drop l.splits-index l.more) ≡ l.fn.before ++ raised l.up l.more
