use Rattle.std.proofs.Common.{◌≡◌, Some, ap, sym, arith, true≢false, ◌∙◌}
use Rattle.strat_text.specs.declared.words.Operator.TheVariants as operator
use Rattle.strat_text.specs.Form.{behind, form_of, forms_of}
use Rattle.strat_text.specs.Words.{operator_before}
use Rattle.strat_text.specs.Number.{minus_of}
use Rattle.strat_text.specs.Reading.{read_probe, read_probes, probe_combined}
use Rattle.strat_text.proofs.Levels.{form_of_atom, form_of_list}
use Rattle.strat_text.proofs.Gives.{gives_next, gives_handed}
use Rattle.strat_text.proofs.Each.{each_fault, each_more, each_done}
use Rattle.strat_text.proofs.Readings.{form_none, form_minus, form_combined, probes_each}
use Rattle.strat_text.proofs.read_probe.+probe.Goals as goal

pub read_probe-returns-in-Atom : goal.read_probe-returns-in-Atom
unfolding read_probe
read_probe-returns-in-Atom t c =
    record {
      probe = rw (c.in-Atom.is, form_of_atom c.args.bytes.now c.in-Atom.kind c.in-Atom.start c.in-Atom.end, sym c.text_at.ensures) c.atom.ensures.probe;
    }

pub read_probe-returns-in-List : goal.read_probe-returns-in-List
read_probe-returns-in-List t c = record {
  probe = rw (c.in-List.is, form_of_list c.args.bytes.now c.in-List.items c.in-List.start c.in-List.end, sym c.as_slice.ensures) c.read_form.ensures.probe;
}

pub read_args-returns-in_err-probe : goal.read_args-returns-in_err-probe
read_args-returns-in_err-probe t c =
    let bytes = c.args.bytes.now in
    record {
      probes =
          each_fault (λ x. read_probe (form_of bytes x)) (λ xs. read_probes (forms_of bytes xs)) (probes_each bytes) c.loop-at.probes c.args.items.now c.loop-at.at c.index-items-at.result (read_probes (behind (forms_of bytes c.args.items.now)))
          c.in_err-probe.field-0.0 c.from_residual.result c.loop-at-test.true c.index-items-at.is c.loop-at.invariant.read c.in_err-probe.ensures.probe c.from_residual.ensures.1;
    }

pub read_args-loop-at-preserved : goal.read_args-loop-at-preserved
read_args-loop-at-preserved t c =
    let bytes = c.args.bytes.now in
    record {
      read = rw c.in_ok-push.ensures.ok
          (each_more (λ x. read_probe (form_of bytes x)) (λ xs. read_probes (forms_of bytes xs)) (probes_each bytes) c.loop-at.probes c.args.items.now c.loop-at.at c.index-items-at.result c.in_ok-probe.probe
          (read_probes (behind (forms_of bytes c.args.items.now))) c.loop-at-test.true c.index-items-at.is c.loop-at.invariant.read c.in_ok-probe.ensures.probe);
      first = omega arith;
    }

pub read_args-returns : goal.read_args-returns
read_args-returns t c =
    let bytes = c.args.bytes.now in
    record {
      probes = each_done (λ x. read_probe (form_of bytes x)) (λ xs. read_probes (forms_of bytes xs)) (probes_each bytes) c.loop-at.probes c.args.items.now c.loop-at.at (read_probes (behind (forms_of bytes c.args.items.now)))
          c.loop-at-test.false c.loop-at.invariant.read;
    }

pub read_form-returns-in_default : goal.read_form-returns-in_default
read_form-returns-in_default t c = record { probe = form_none (forms_of c.args.bytes.now c.args.items.now) c.args.at (sym c.in_default.ensures) }

pub read_form-returns-then-is_minus : goal.read_form-returns-then-is_minus
read_form-returns-then-is_minus t c =
    let forms = forms_of c.args.bytes.now c.args.items.now in
    let minus : operator_before forms ≡ Some operator.Minus = sym c.in-Some.ensures ∙ ap (λ o. Some o) (c.is_minus.ensures.yes c.if-is_minus.true) in
    record { probe = rw (form_minus forms c.args.at minus) (c.number.ensures.probe (minus_of (behind forms)) c.negated.ensures) }

pub read_form-returns-in_err-parts : goal.read_form-returns-in_err-parts
read_form-returns-in_err-parts t c =
    let forms = forms_of c.args.bytes.now c.args.items.now in
    let no : c.in-Some.operator ≡ operator.Minus → ⊥ = λ is. true≢false (sym (c.is_minus.ensures.no is) ∙ c.if-is_minus.false) in
    record {
      probe = rw (form_combined forms c.args.at c.in-Some.operator (sym c.in-Some.ensures) no)
          (gives_handed c.in_err-parts.field-0.0 (read_probes (behind forms)) (probe_combined c.args.at c.in-Some.operator) c.from_residual.result c.from_residual.ensures.1 c.in_err-parts.ensures.probes);
    }

pub read_form-returns : goal.read_form-returns
read_form-returns t c =
    let forms = forms_of c.args.bytes.now c.args.items.now in
    let no : c.in-Some.operator ≡ operator.Minus → ⊥ = λ is. true≢false (sym (c.is_minus.ensures.no is) ∙ c.if-is_minus.false) in
    record {
      probe = rw (form_combined forms c.args.at c.in-Some.operator (sym c.in-Some.ensures) no)
          (gives_next c.in_ok-parts.parts (read_probes (behind forms)) (probe_combined c.args.at c.in-Some.operator) c.combined.result c.in_ok-parts.ensures.probes c.combined.ensures.probe);
    }
