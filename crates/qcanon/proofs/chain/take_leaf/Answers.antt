use Rattle.qcanon.proofs.Nesting.{taken_parts, taken_leaf}
use Rattle.qcanon.proofs.chain.take_leaf.Goals as goal

pub returns-in_ok-extend_from_slice-in-Some : goal.returns-in_ok-extend_from_slice-in-Some
returns-in_ok-extend_from_slice-in-Some c = record {
  taken = taken_parts c.args.store.now c.args.is_and c.args.id c.in-Some.ids.now c.args.todo.now.items c.extend_from_slice.new.self.items c.args.found.now.items c.in-Some.ensures c.in_ok-extend_from_slice-in-Some.ensures.items;
}

pub returns-in_ok-push-in-None : goal.returns-in_ok-push-in-None
returns-in_ok-push-in-None c = record {
  taken = taken_leaf c.args.store.now c.args.is_and c.args.id c.args.todo.now.items c.args.found.now.items c.push.new.self.items c.in-None.ensures c.requires.formula c.in_ok-push-in-None.ensures.items;
}
