use Rattle.strat_text.specs.Form.{form_of}
use Rattle.smt_names.specs.Table.{symbols_in}
use Rattle.smt_term.proofs.Begun.{pair_reads, pair_refused, pair_shape, pair_weight}
use Rattle.smt_term.proofs.bindings.new_name.Goals as goal

pub returns-in-Ok-bound_name : goal.returns-in-Ok-bound_name
returns-in-Ok-bound_name c =
    let bytes = c.args.bytes.now in
    let p = c.in-Ok.field-0 in
    let inside = c.in-Ok.ensures.inside in
    record {
      reads = λ ts scopes s. pair_reads scopes bytes c.args.binding.now p.name.now p.value.now p.place inside.0 c.args.at (symbols_in ts c.args.scope.now) c.in-Ok-bound_name.name.now s inside.1 (c.in-Ok-bound_name.ensures.name ts);
      absent = c.in-Ok-bound_name.ensures.absent;
      below = pair_weight bytes c.args.binding.now p.name.now p.value.now p.place inside.0 inside.1;
    }

pub returns-in-Err-bound_name : goal.returns-in-Err-bound_name
returns-in-Err-bound_name c = λ ts scopes s.
    let p = c.in-Ok.field-0 in
    let inside = c.in-Ok.ensures.inside in
    pair_refused scopes c.args.bytes.now c.args.binding.now p.name.now p.value.now p.place inside.0 c.args.at (symbols_in ts c.args.scope.now) s c.in-Err-bound_name.fault inside.1 (c.in-Err-bound_name.ensures.name ts)

pub returns-in-Err : goal.returns-in-Err
returns-in-Err c = λ ts scopes s. pair_shape scopes (form_of c.args.bytes.now c.args.binding.now) c.args.at (symbols_in ts c.args.scope.now) s c.in-Err.fault (c.in-Err.ensures.parts c.args.bytes.now)
