use Rattle.std.proofs.Common.{refl, arith}
use Rattle.strat_text.specs.Form.{form_of, forms_of}
use Rattle.smt_names.specs.Given.{scopes_in, seen}
use Rattle.smt_names.specs.Table.{symbols_in}
use Rattle.smt_term.proofs.Begun.{bind_more, bind_refused}
use Rattle.smt_term.proofs.bindings.start_binding.Goals as goal

pub returns-in-Ok : goal.returns-in-Ok
returns-in-Ok c =
    let bytes = c.args.bytes.now in
    let new = c.in-Ok.ensures in
    record {
      turns = λ ts s there. record {
        reads = bind_more (scopes_in ts s.scopes) c.args.at c.args.list_at (forms_of bytes c.args.body.now) (form_of bytes c.args.binding.now) (forms_of bytes c.args.rest.now) (symbols_in ts c.args.scope) (seen ts s)
            (form_of bytes c.in-Ok.field-0.value.now) c.in-Ok.field-0.place c.in-Ok.field-0.name.now (new.reads ts (scopes_in ts s.scopes) (seen ts s));
        scopes = refl;
        has = (there, new.absent);
        below = omega (arith, new.below);
      };
    }

pub returns : goal.returns
returns c =
    let bytes = c.args.bytes.now in
    record {
      turns = λ ts s there. bind_refused (scopes_in ts s.scopes) c.args.at c.args.list_at (forms_of bytes c.args.body.now) (form_of bytes c.args.binding.now) (forms_of bytes c.args.rest.now) (symbols_in ts c.args.scope) (seen ts s) c.in-Err.fault
          (c.in-Err.ensures ts (scopes_in ts s.scopes) (seen ts s));
    }
