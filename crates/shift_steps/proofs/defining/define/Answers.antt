use Rattle.std.proofs.Common.{◌≡◌, ◌++◌, [], ◌∷◌, ◌∙◌, ap, subst, rules}
use Rattle.qterm.specs.Tree.{Var, Num, Sum, none, more}
use Rattle.qterm.specs.Store.{Shows}
use Rattle.qterm.proofs.Extending.{Extends_trans, Shows_extends}
use Rattle.tac_cert.specs.declared.cert.Step.TheVariants as step
use Rattle.shift_steps.proofs.Numbers.{stays_number, turned_number}
use Rattle.shift_steps.proofs.defining.define.Goals as goal

pub returns-clause-defines : goal.returns-clause-defines
returns-clause-defines c =
    let s = c.args.shift.now in
    let A = c.intern.new.self in
    let B = c.plus.new.store in
    let C = c.plus-2.new.store in
    let name : c.in_ok-clone.field-0 ≡ s.name = search rules in
    let fresh : c.in_ok-name.name ≡ s.fresh = search rules in
    let p = c.in_ok-equation.ensures in
    record {
      distinct = c.is_distinct.ensures;
      key = c.in_ok-key.key;
      at = subst (λ n. Shows C c.in_ok-key.key (Var n)) name (Shows_extends A C c.in_ok-key.key (Var c.in_ok-clone.field-0) (Extends_trans A B C c.plus.ensures.extends c.plus-2.ensures.extends) c.in_ok-key.ensures.shows);
      term = c.in_ok-term.term;
      shows = subst (λ z. Shows C c.in_ok-term.term (Sum (more (Var s.name) (more (Num z) none)))) (turned_number s.by c.requires.narrow) (Shows_extends B C c.in_ok-term.term _ c.plus-2.ensures.extends c.in_ok-term.ensures.shows);
      steps = p.steps ∙ ap (λ n. c.args.trace.now.steps ++ step.Def n c.in_ok-term.term ∷ []) fresh;
      count = p.count;
      turn = record { equation = c.in_ok-equation.equation; term = c.in_ok-shifted.shifted };
      equation = p.is;
      puts = subst (λ z. Shows C c.in_ok-shifted.shifted (Sum (more (Var s.fresh) (more (Num z) none)))) (stays_number s.by c.requires.narrow) c.in_ok-shifted.ensures.shows;
      table = c.in_ok-put.ensures;
    }
