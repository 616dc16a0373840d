use Rattle.std.proofs.Common.{◌∙◌, ap, refl, arith}
use Rattle.strat_text.specs.Form.{form_of, forms_of}
use Rattle.smt_names.specs.Given.{scopes_in, seen}
use Rattle.smt_term.specs.Term.{read_annotated}
use Rattle.smt_term.proofs.Begun.{behind_item, forms_none, forms_more, weights_items, annotated_none, annotated_more}
use Rattle.smt_term.proofs.annotated.start_annotated.Goals as goal

pub returns-in-empty : goal.returns-in-empty
returns-in-empty c = λ bytes ts s.
    rw c.refused.ensures (ap (λ fs. read_annotated (scopes_in ts s.scopes) fs c.args.at (seen ts s)) (forms_none bytes c.args.args.now c.in-empty.len_below) ∙ annotated_none (scopes_in ts s.scopes) c.args.at (seen ts s))

pub returns-in-len1-up : goal.returns-in-len1-up
returns-in-len1-up c = λ bytes ts s.
    let x = c.sexp-item.result in
    let items = c.args.args.now in
    let all = weights_items bytes items x c.in-len1-up.len_at_least c.sexp-item.is in
    record {
      reads = ap (λ fs. read_annotated (scopes_in ts s.scopes) fs c.args.at (seen ts s)) (forms_more bytes items x c.in-len1-up.len_at_least c.sexp-item.is)
          ∙ annotated_more (scopes_in ts s.scopes) c.args.at (form_of bytes x) (forms_of bytes (behind_item items)) (seen ts s);
      scopes = refl;
      has = tt;
      below = omega (arith, all);
    }
