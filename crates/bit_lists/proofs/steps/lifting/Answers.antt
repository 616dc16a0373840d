use Rattle.std.proofs.Common.{◌≡◌, sym, subst, rules}
use Rattle.model_conv.specs.Step.{AreLawful}
use Rattle.bit_lists.specs.Lifting.{lifting}
use Rattle.bit_lists.proofs.Carrying.{lifting_lawful}
use Rattle.bit_lists.proofs.steps.lifting.Goals as goal

pub returns-clause-lawful : goal.returns-clause-lawful
returns-clause-lawful c = let e : c.append.new.self ≡ lifting c.args.splits.now = search rules in subst AreLawful (sym e) (lifting_lawful c.args.splits.now c.requires.ints)
