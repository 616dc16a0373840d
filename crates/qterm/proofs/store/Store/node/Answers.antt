use Rattle.std.proofs.Common.{[], length, ap, ◌∙◌, arith, ◌≡◌, ◌-◌, ◌++◌, get_or, length-append}
use Rattle.qterm.proofs.Grown.{length_grown, stands_in}
use Rattle.qterm.proofs.Places.{node_before, node_behind}
use Rattle.qterm.proofs.store.Store.node.Goals as goal

pub bounds-as_slice-at : goal.bounds-as_slice-at
bounds-as_slice-at c =
    omega (
      arith,
      ap length c.self.view_is,
      length_grown [] (c.self.inside.shared ++ c.self.inside.own.keys),
      length-append c.self.inside.shared c.self.inside.own.keys,
      c.len-before.ensures,
      ap length c.as_slice.ensures.keys,
      c.index-at.ensures,
      c.requires.has,
    )

pub returns-then-at-before : goal.returns-then-at-before
returns-then-at-before c =
    let ks = c.self.inside.shared ++ c.self.inside.own.keys in
    let k = c.node.result.now in
    let at = node_before c.self.inside.shared c.self.inside.own.keys k c.index-at.result c.node.ensures (omega (arith, c.if-at-before.true, c.len-before.ensures)) in
    stands_in c.args.self.now ks c.args.id k c.self.view_is c.self.invariant.sound (at ∙ ap (λ i. get_or ks i k) c.index-at.ensures) c.requires.has

pub returns-else-at-before : goal.returns-else-at-before
returns-else-at-before c =
    let ks = c.self.inside.shared ++ c.self.inside.own.keys in
    let k = c.index-as_slice-at.result in
    let own : k ≡ get_or c.self.inside.own.keys (c.index-at.result - length c.self.inside.shared) k =
    c.index-as_slice-at.is ∙ ap (λ us. get_or us (c.index-at.result - c.len-before.result) k) c.as_slice.ensures.keys
    ∙ ap (λ n. get_or c.self.inside.own.keys (c.index-at.result - n) k) c.len-before.ensures in
    let at = node_behind c.self.inside.shared c.self.inside.own.keys k c.index-at.result own (omega (arith, c.if-at-before.false, c.len-before.ensures)) in
    stands_in c.args.self.now ks c.args.id k c.self.view_is c.self.invariant.sound (at ∙ ap (λ i. get_or ks i k) c.index-at.ensures) c.requires.has
