use Rattle.bit_lists.proofs.Looping.{small_at}
use Rattle.bit_lists.proofs.steps.assigns.Goals as goal

pub assign-requires : goal.assign-requires
assign-requires c = record { small = small_at c.args.splits.now c.loop-split.split-index c.split-item.result c.requires.small c.loop-split-test.true c.split-item.is }
