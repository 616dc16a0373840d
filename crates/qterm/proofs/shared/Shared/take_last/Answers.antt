use Rattle.std.proofs.Common.{vec_len, arith, length, length-append, ap, sym, subst, ◌∙◌, ◌++◌}
use Rattle.qterm.specs.Place.{joined, AreDistinct}
use Rattle.qterm.proofs.Places.{joined_pop, took_last}
use Rattle.qterm.proofs.shared.Shared.take_last.Goals as goal

pub overflow_sub-self : goal.overflow_sub-self
overflow_sub-self c =
    let j = joined_pop c.self.inside.parts.items c.as_slice.result.now c.pop.new.self.items c.in-Some.last.now (vec_len c.self.inside.parts) c.as_slice.ensures.value c.in-Some.ensures.value c.pop.ensures.rest c.as_slice.ensures.len in
    omega (arith, c.self.invariant, ap length j, length-append (joined c.pop.new.self.items) c.in-Some.last.now, ap length c.nodes-count.ensures)

pub invariant_of-self : goal.invariant_of-self
invariant_of-self c =
    let j = joined_pop c.self.inside.parts.items c.as_slice.result.now c.pop.new.self.items c.in-Some.last.now (vec_len c.self.inside.parts) c.as_slice.ensures.value c.in-Some.ensures.value c.pop.ensures.rest c.as_slice.ensures.len in
    omega (arith, c.self.invariant, ap length j, length-append (joined c.pop.new.self.items) c.in-Some.last.now, ap length c.nodes-count.ensures)

pub returns-in_ok-append : goal.returns-in_ok-append
returns-in_ok-append c =
    let j = joined_pop c.self.inside.parts.items c.as_slice.result.now c.pop.new.self.items c.in-Some.last.now (vec_len c.self.inside.parts) c.as_slice.ensures.value c.in-Some.ensures.value c.pop.ensures.rest c.as_slice.ensures.len in
    record {
      same = took_last c.self.inside.parts.items c.pop.new.self.items c.in-Some.last.now c.in_ok-nodes.nodes.keys c.args.own.now.keys c.append.new.self.keys j
          (subst (λ x. AreDistinct (x ++ c.args.own.now.keys)) (sym c.self.view_is) c.requires.distinct) c.in_ok-nodes.ensures c.in_ok-append.ensures.keys
          ∙ ap (λ x. x ++ c.args.own.now.keys) c.self.view_is;
    }
