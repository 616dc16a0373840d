use Rattle.bit_lists.proofs.Looping.{int_at}
use Rattle.bit_lists.proofs.row.push_bit_bounds.Goals as goal

pub push_bit_bound-requires-clause-int : goal.push_bit_bound-requires-clause-int
push_bit_bound-requires-clause-int c = int_at c.args.bits.now c.loop-bit.bit-index c.bit-item.result c.requires.ints c.loop-bit-test.true c.bit-item.is
