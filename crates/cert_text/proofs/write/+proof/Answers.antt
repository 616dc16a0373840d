use Rattle.std.proofs.Common.{◌≡◌, ◌++◌, ◌-◌, inl, ap, sym, subst, ◌∙◌, append-nil, arith}
use Rattle.std.proofs.lemmas.Result.{on_ok_weaker}
use Rattle.qterm.specs.Store.{trees_of}
use Rattle.tac_cert.specs.declared.cert.Close.{out-Close}
use Rattle.tac_cert.specs.declared.cert.Close.TheVariants as close
use Rattle.tac_cert.specs.Accepts.{EachFits, ProofFits}
use Rattle.cert_text.specs.CertText.{each_case, steps_then, written}
use Rattle.cert_text.proofs.Written.{case_text_taken, case_known_taken, cases_done, fits_at, cases_fit, ending, split_text, split_known, other_text, other_known}
use Rattle.cert_text.proofs.write.+proof.Goals as goal

pub push_cases-push_proof-requires : goal.push_cases-push_proof-requires
push_cases-push_proof-requires t c = (
  omega (arith, c.decreases),
  (subst (ProofFits c.args.store.now c.args.left) (sym c.case-item.is) (fits_at (ProofFits c.args.store.now c.args.left) c.args.cases.now c.loop-case.case-index c.case-item.result c.requires.fits c.loop-case-test.true), c.loop-case.invariant.lines),
)

pub push_cases-loop-case-preserved : goal.push_cases-loop-case-preserved
push_cases-loop-case-preserved t c =
    let of = written c.args.store.now c.args.left in
    let known = trees_of c.args.store.now c.loop-case.lines in
    let now = trees_of c.args.store.now c.push_proof.new.lines in
    record {
      text = case_text_taken of known now c.args.cases.now c.loop-case.case-index c.case-item.result c.loop-case.text.items c.push_proof.new.text.items _ c.loop-case-test.true c.case-item.is
          c.in_ok-push_proof.ensures.text c.in_ok-push_proof.ensures.known c.loop-case.invariant.text;
      known = case_known_taken of known now _ c.args.cases.now c.loop-case.case-index c.case-item.result c.loop-case-test.true c.case-item.is c.in_ok-push_proof.ensures.known c.loop-case.invariant.known;
      lines = c.in_ok-push_proof.ensures.lines;
    }

pub push_cases-returns : goal.push_cases-returns
push_cases-returns t c =
    let of = written c.args.store.now c.args.left in
    let known = trees_of c.args.store.now c.loop-case.lines in
    let done = cases_done of known c.args.cases.now c.loop-case.case-index c.loop-case-test.false in
    record {
      text = sym (append-nil c.loop-case.text.items) ∙ ap (λ w. c.loop-case.text.items ++ w.text) (sym done) ∙ c.loop-case.invariant.text;
      known = ap (λ w. w.known) (sym done) ∙ c.loop-case.invariant.known;
      lines = c.loop-case.invariant.lines;
    }

-- the cases of a closing line
pub push_proof-push_cases-requires : goal.push_proof-push_cases-requires
push_proof-push_cases-requires t c =
    let is = ap out-Close c.in-Split.is ∙ close.outs-Split c.in-Split.item c.in-Split.cases in (
      omega (arith, c.decreases, c.if-left-gt0.true),
      (subst (EachFits (ProofFits c.args.store.now (c.args.left - 1))) (sym c.as_slice-in-Split.ensures) (cases_fit c.args.store.now c.args.left c.in-Split.item c.args.proof.now c.in-Split.cases c.if-left-gt0.true is c.requires.fits), c.in_ok-push_steps.ensures.lines),
    )

pub push_proof-returns-in-Split-clause-text : goal.push_proof-returns-in-Split-clause-text
push_proof-returns-in-Split-clause-text t c =
    let ts = c.args.store.now in
    let known = trees_of ts c.args.lines.now in
    let now = trees_of ts c.push_steps.new.lines in
    let of = written ts (c.args.left - 1) in
    let p = c.args.proof.now in
    let is = ap out-Close c.in-Split.is ∙ close.outs-Split c.in-Split.item c.in-Split.cases in
    on_ok_weaker c.push_cases.result
    (λ e. split_text ts known now c.args.left c.in-Split.item p c.in-Split.cases c.args.text.now.items c.push_steps.new.text.items c.push_close.new.text.items c.push_cases.new.text.items c.if-left-gt0.true is
    (c.in_ok-push_steps.ensures.text (ending of p) ∙ ap (λ ss. c.args.text.now.items ++ (steps_then ts known ss (ending of p)).text) c.as_slice.ensures) c.in_ok-push_close.ensures
    (e ∙ ap (λ ps. c.push_close.new.text.items ++ (each_case of now ps).text) c.as_slice-in-Split.ensures)) c.push_cases.ensures.text

pub push_proof-returns-in-Split-clause-known : goal.push_proof-returns-in-Split-clause-known
push_proof-returns-in-Split-clause-known t c =
    let ts = c.args.store.now in
    let known = trees_of ts c.args.lines.now in
    let now = trees_of ts c.push_steps.new.lines in
    let of = written ts (c.args.left - 1) in
    let p = c.args.proof.now in
    let is = ap out-Close c.in-Split.is ∙ close.outs-Split c.in-Split.item c.in-Split.cases in
    on_ok_weaker c.push_cases.result
    (λ e. split_known ts known now (trees_of ts c.push_cases.new.lines) c.args.left c.in-Split.item p c.in-Split.cases c.if-left-gt0.true is
    (c.in_ok-push_steps.ensures.known (ending of p) ∙ ap (λ ss. (steps_then ts known ss (ending of p)).known) c.as_slice.ensures)
    (e ∙ ap (λ ps. (each_case of now ps).known) c.as_slice-in-Split.ensures)) c.push_cases.ensures.known

-- no split may stand any more
pub push_proof-returns-in_default-clause-text : goal.push_proof-returns-in_default-clause-text
push_proof-returns-in_default-clause-text t c =
    let ts = c.args.store.now in
    let known = trees_of ts c.args.lines.now in
    let none_left : c.args.left ≡ 0 = omega (arith, c.if-left-gt0.false) in
    other_text ts known (trees_of ts c.push_steps.new.lines) c.args.left c.args.proof.now c.args.text.now.items c.push_steps.new.text.items c.push_close.new.text.items (inl none_left)
    (λ rest. c.in_ok-push_steps.ensures.text rest ∙ ap (λ ss. c.args.text.now.items ++ (steps_then ts known ss rest).text) c.as_slice.ensures) c.in_ok-push_close.ensures

pub push_proof-returns-in_default-clause-known : goal.push_proof-returns-in_default-clause-known
push_proof-returns-in_default-clause-known t c =
    let ts = c.args.store.now in
    let known = trees_of ts c.args.lines.now in
    let none_left : c.args.left ≡ 0 = omega (arith, c.if-left-gt0.false) in
    other_known ts known (trees_of ts c.push_steps.new.lines) c.args.left c.args.proof.now (inl none_left) (λ rest. c.in_ok-push_steps.ensures.known rest ∙ ap (λ ss. (steps_then ts known ss rest).known) c.as_slice.ensures)
