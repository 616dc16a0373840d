use Rattle.std.proofs.Common.{rules, SFits, ◌≡◌, ℕ, List, ◌++◌, map, refl, ap, sym, ◌∙◌, codes}
use Rattle.std.specs.Int.{w128}
use Rattle.std.proofs.lemmas.Int.{to_z-of_z}
use Rattle.std.proofs.lemmas.List.{take_all}
use Rattle.strat_text.specs.declared.probe.ProbeExpr.TheVariants as probe
use Rattle.strat_text.specs.Spelled as spec
use Rattle.strat_text.proofs.Layers.{fold-Size, fold-NumExprs, fold-Depth, fold-NumConsts, fold-IsPropositional, fold-IsCanonical, fold-IsBounded, fold-Is01, fold-MaxBits, fold-Num, fold-Lt, fold-Le, fold-Gt, fold-Ge, fold-Eq, fold-And, fold-Or, fold-Not}
use Rattle.strat_text.proofs.Writing.{told, closed, two_written, one_written, no_parts, row_grows}
use Rattle.strat_text.proofs.write.+probe.Goals as goal

pub put_probe-returns-in-Size : goal.put_probe-returns-in-Size
unfolding spec.spelled_probe
put_probe-returns-in-Size t c = told _ _ _ _ _ (ap spec.spelled_probe c.in-Size.is ∙ fold-Size (List ℕ) spec.probe_layer) c.put_word.ensures

pub put_probe-returns-in-NumExprs : goal.put_probe-returns-in-NumExprs
unfolding spec.spelled_probe
put_probe-returns-in-NumExprs t c = told _ _ _ _ _ (ap spec.spelled_probe c.in-NumExprs.is ∙ fold-NumExprs (List ℕ) spec.probe_layer) c.put_word-in-NumExprs.ensures

pub put_probe-returns-in-Depth : goal.put_probe-returns-in-Depth
unfolding spec.spelled_probe
put_probe-returns-in-Depth t c = told _ _ _ _ _ (ap spec.spelled_probe c.in-Depth.is ∙ fold-Depth (List ℕ) spec.probe_layer) c.put_word-in-Depth.ensures

pub put_probe-returns-in-NumConsts : goal.put_probe-returns-in-NumConsts
unfolding spec.spelled_probe
put_probe-returns-in-NumConsts t c = told _ _ _ _ _ (ap spec.spelled_probe c.in-NumConsts.is ∙ fold-NumConsts (List ℕ) spec.probe_layer) c.put_word-in-NumConsts.ensures

pub put_probe-returns-in-IsPropositional : goal.put_probe-returns-in-IsPropositional
unfolding spec.spelled_probe
put_probe-returns-in-IsPropositional t c = told _ _ _ _ _ (ap spec.spelled_probe c.in-IsPropositional.is ∙ fold-IsPropositional (List ℕ) spec.probe_layer) c.put_word-in-IsPropositional.ensures

pub put_probe-returns-in-IsCanonical : goal.put_probe-returns-in-IsCanonical
unfolding spec.spelled_probe
put_probe-returns-in-IsCanonical t c = told _ _ _ _ _ (ap spec.spelled_probe c.in-IsCanonical.is ∙ fold-IsCanonical (List ℕ) spec.probe_layer) c.put_word-in-IsCanonical.ensures

pub put_probe-returns-in-IsBounded : goal.put_probe-returns-in-IsBounded
unfolding spec.spelled_probe
put_probe-returns-in-IsBounded t c = told _ _ _ _ _ (ap spec.spelled_probe c.in-IsBounded.is ∙ fold-IsBounded (List ℕ) spec.probe_layer) c.put_word-in-IsBounded.ensures

pub put_probe-returns-in-Is01 : goal.put_probe-returns-in-Is01
unfolding spec.spelled_probe
put_probe-returns-in-Is01 t c = told _ _ _ _ _ (ap spec.spelled_probe c.in-Is01.is ∙ fold-Is01 (List ℕ) spec.probe_layer) c.put_word-in-Is01.ensures

pub put_probe-returns-in-MaxBits : goal.put_probe-returns-in-MaxBits
unfolding spec.spelled_probe
put_probe-returns-in-MaxBits t c = told _ _ _ _ _ (ap spec.spelled_probe c.in-MaxBits.is ∙ fold-MaxBits (List ℕ) spec.probe_layer) c.put_word-in-MaxBits.ensures

pub put_probe-returns-in-Num : goal.put_probe-returns-in-Num
unfolding spec.spelled_probe
put_probe-returns-in-Num t c =
    let fits : SFits w128 c.in-Num.number = search rules in
    told _ _ _ _ _ (ap spec.spelled_probe c.in-Num.is ∙ fold-Num (List ℕ) spec.probe_layer c.in-Num.number ∙ ap spec.number_text (sym (to_z-of_z w128 c.in-Num.number fits))) c.put_number.ensures

pub put_probe-returns-in_ok-put_left-in-Lt : goal.put_probe-returns-in_ok-put_left-in-Lt
unfolding spec.spelled_probe
put_probe-returns-in_ok-put_left-in-Lt t c =
    let is : c.args.probe.now ≡ probe.Lt c.get.result.now c.get-in-Lt.result.now = cc in
    two_written _ _ _ _ _ (codes "<") (spec.spelled_probe c.get.result.now) _ (ap spec.spelled_probe is ∙ fold-Lt (List ℕ) spec.probe_layer c.get.result.now c.get-in-Lt.result.now) c.in_ok-put_left-in-Lt.ensures c.put_right.ensures

pub put_probe-returns-in_ok-put_left-in-Le : goal.put_probe-returns-in_ok-put_left-in-Le
unfolding spec.spelled_probe
put_probe-returns-in_ok-put_left-in-Le t c =
    let is : c.args.probe.now ≡ probe.Le c.get-in-Le.result.now c.get-in-Le-2.result.now = cc in
    two_written _ _ _ _ _ (codes "<=") (spec.spelled_probe c.get-in-Le.result.now) _ (ap spec.spelled_probe is ∙ fold-Le (List ℕ) spec.probe_layer c.get-in-Le.result.now c.get-in-Le-2.result.now) c.in_ok-put_left-in-Le.ensures c.put_right-in-Le.ensures

pub put_probe-returns-in_ok-put_left-in-Gt : goal.put_probe-returns-in_ok-put_left-in-Gt
unfolding spec.spelled_probe
put_probe-returns-in_ok-put_left-in-Gt t c =
    let is : c.args.probe.now ≡ probe.Gt c.get-in-Gt.result.now c.get-in-Gt-2.result.now = cc in
    two_written _ _ _ _ _ (codes ">") (spec.spelled_probe c.get-in-Gt.result.now) _ (ap spec.spelled_probe is ∙ fold-Gt (List ℕ) spec.probe_layer c.get-in-Gt.result.now c.get-in-Gt-2.result.now) c.in_ok-put_left-in-Gt.ensures c.put_right-in-Gt.ensures

pub put_probe-returns-in_ok-put_left-in-Ge : goal.put_probe-returns-in_ok-put_left-in-Ge
unfolding spec.spelled_probe
put_probe-returns-in_ok-put_left-in-Ge t c =
    let is : c.args.probe.now ≡ probe.Ge c.get-in-Ge.result.now c.get-in-Ge-2.result.now = cc in
    two_written _ _ _ _ _ (codes ">=") (spec.spelled_probe c.get-in-Ge.result.now) _ (ap spec.spelled_probe is ∙ fold-Ge (List ℕ) spec.probe_layer c.get-in-Ge.result.now c.get-in-Ge-2.result.now) c.in_ok-put_left-in-Ge.ensures c.put_right-in-Ge.ensures

pub put_probe-returns-in_ok-put_left-in-Eq : goal.put_probe-returns-in_ok-put_left-in-Eq
unfolding spec.spelled_probe
put_probe-returns-in_ok-put_left-in-Eq t c =
    let is : c.args.probe.now ≡ probe.Eq c.get-in-Eq.result.now c.get-in-Eq-2.result.now = cc in
    two_written _ _ _ _ _ (codes "=") (spec.spelled_probe c.get-in-Eq.result.now) _ (ap spec.spelled_probe is ∙ fold-Eq (List ℕ) spec.probe_layer c.get-in-Eq.result.now c.get-in-Eq-2.result.now) c.in_ok-put_left-in-Eq.ensures c.put_right-in-Eq.ensures

pub put_probe-returns-in-And : goal.put_probe-returns-in-And
unfolding spec.spelled_probe
put_probe-returns-in-And t c =
    let is : c.args.probe.now ≡ probe.And c.as_slice.result.now = cc in
    told _ _ _ _ _ (ap spec.spelled_probe is ∙ fold-And (List ℕ) spec.probe_layer c.as_slice.result.now) c.put_probes.ensures

pub put_probe-returns-in-Or : goal.put_probe-returns-in-Or
unfolding spec.spelled_probe
put_probe-returns-in-Or t c =
    let is : c.args.probe.now ≡ probe.Or c.as_slice-in-Or.result.now = cc in
    told _ _ _ _ _ (ap spec.spelled_probe is ∙ fold-Or (List ℕ) spec.probe_layer c.as_slice-in-Or.result.now) c.put_probes-in-Or.ensures

pub put_probe-returns-in_ok-open_form-in-Not : goal.put_probe-returns-in_ok-open_form-in-Not
unfolding spec.spelled_probe
put_probe-returns-in_ok-open_form-in-Not t c =
    let is : c.args.probe.now ≡ probe.Not c.get-in-Not.result.now = cc in
    one_written _ _ _ _ _ _ _ (ap spec.spelled_probe is ∙ fold-Not (List ℕ) spec.probe_layer c.get-in-Not.result.now) c.in_ok-open_form-in-Not.ensures c.put_right-in-Not.ensures

pub put_probes-loop-part-init : goal.put_probes-loop-part-init
put_probes-loop-part-init t c = no_parts c.open_form.new.text.items

pub put_probes-loop-part-preserved : goal.put_probes-loop-part-preserved
put_probes-loop-part-preserved t c =
    row_grows spec.spelled_probe c.args.parts.now c.loop-part.part-index c.part-item.result c.open_form.new.text.items c.loop-part.text.items c.put_next_probe.new.text.items c.loop-part-test.true c.part-item.is c.loop-part.invariant c.in_ok-put_next_probe.ensures

pub put_probes-returns : goal.put_probes-returns
put_probes-returns t c =
    closed _ _ _ _ _ _ _ (map spec.spelled_probe c.args.parts.now) refl c.in_ok-open_form.ensures
    (c.loop-part.invariant ∙ ap (λ ps. c.open_form.new.text.items ++ spec.spaced (map spec.spelled_probe ps)) (take_all c.loop-part.part-index c.args.parts.now c.loop-part-test.false)) c.close_form.ensures
