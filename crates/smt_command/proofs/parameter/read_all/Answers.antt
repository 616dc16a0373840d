use Rattle.std.proofs.Common.{◌≡◌, ap, sym, subst}
use Rattle.std.proofs.lemmas.List.Elements.{All-nil}
use Rattle.qterm.proofs.Extending.{Extends_refl, Extends_trans}
use Rattle.strat_text.specs.Form.{forms_of}
use Rattle.smt_names.specs.Table.{Entry, symbols_in, IsThere, AreThere}
use Rattle.smt_command.specs.GivenParameters.{parameters_in}
use Rattle.smt_command.specs.Parameters.{no_parameter, read_all}
use Rattle.smt_command.proofs.Parameters.{all_step, all_fault, all_done}
use Rattle.smt_command.proofs.parameter.read_all.Goals as goal

pub loop-at-init : goal.loop-at-init
loop-at-init c =
    let us = c.args.store.now in
    let none = c.none-parameters.ensures in
    let empty : parameters_in us c.none-parameters.result ≡ no_parameter = λ i. record { scope = symbols_in us (none.scope i); texts = symbols_in us (none.texts i); names = none.names i } in
    record {
      told = λ ts. ap (read_all (symbols_in ts c.args.symbols.now) c.args.place (forms_of c.args.bytes.now c.args.items.now)) empty;
      there = record { scope = subst (AreThere us) (sym none.scope) (All-nil (λ (e : Entry). IsThere us e.1)); texts = subst (AreThere us) (sym none.texts) (All-nil (λ (e : Entry). IsThere us e.1)) };
      extends = Extends_refl us;
    }

pub returns-in_err-read_one-clause-read : goal.returns-in_err-read_one-clause-read
returns-in_err-read_one-clause-read c = λ ts.
    let now = c.loop-at in
    let us = c.read_one.new.store in
    all_fault (symbols_in ts c.args.symbols.now) c.args.bytes.now c.args.items.now now.at c.args.place c.index-items-at.result c.loop-at-test.true c.index-items-at.is (parameters_in now.store now.parameters) _ (now.invariant.told ts)
    (parameters_in us) c.in_err-read_one.field-0.0 c.from_residual.result c.from_residual.ensures.1 (c.in_err-read_one.ensures.read ts)

pub loop-at-preserved : goal.loop-at-preserved
loop-at-preserved c =
    let now = c.loop-at in
    let us = c.read_one.new.store in
    record {
      told = λ ts.
          all_step (symbols_in ts c.args.symbols.now) c.args.bytes.now c.args.items.now now.at c.args.place c.index-items-at.result c.loop-at-test.true c.index-items-at.is (parameters_in now.store now.parameters) _ (now.invariant.told ts)
          (parameters_in us c.read_one.new.parameters) (c.in_ok-read_one.ensures.read ts);
      there = c.in_ok-read_one.ensures.there;
      extends = Extends_trans c.args.store.now now.store us now.invariant.extends c.in_ok-read_one.ensures.extends;
    }

pub returns-clause-read : goal.returns-clause-read
returns-clause-read c = λ ts.
    let now = c.loop-at in
    all_done (symbols_in ts c.args.symbols.now) c.args.bytes.now c.args.items.now now.at c.args.place (parameters_in now.store now.parameters) _ c.loop-at-test.false (now.invariant.told ts)
