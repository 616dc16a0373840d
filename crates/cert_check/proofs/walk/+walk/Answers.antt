use Rattle.std.proofs.Common.{◌≡◌, ◌∙◌, refl, sym, ap, subst, arith, ◌++◌, ◌∷◌, [], get_or, take, drop, length, ◌<◌, ◌≤◌, ◌-◌}
use Rattle.std.specs.Option.{option_map}
use Rattle.std.proofs.lemmas.Result.{IfOk-weaker, on_ok_weaker}
use Rattle.qterm.specs.Store.{tree_at, trees_of}
use Rattle.qterm.proofs.Extending.{Extends_trans}
use Rattle.tac_cert.specs.declared.cert.Close.{out-Close}
use Rattle.tac_cert.specs.declared.cert.Close.TheVariants as close
use Rattle.tac_cert.specs.Items.{Formula}
use Rattle.tac_cert.specs.Formulas as formulas
use Rattle.tac_cert.specs.Accepts.{ProofFits, StepsFit}
use Rattle.cert_items.specs.declared.held.Held.TheVariants as variant
use Rattle.cert_items.specs.Bounded.{bounds_in}
use Rattle.cert_items.specs.Held.{shown_all}
use Rattle.cert_items.specs.State.{items_of}
use Rattle.cert_items.proofs.States.{state_noted}
use Rattle.cert_items.proofs.Growing.{shown_append}
use Rattle.cert_check.specs.Tables.{passed, Grows}
use Rattle.cert_check.specs.Walking as walks
use Rattle.cert_check.specs.Walking.{Stopped}
use Rattle.cert_check.proofs.Giving.{kept_none, kept_some, state_later}
use Rattle.cert_check.proofs.Splitting.{end_fits_later, end_fit_stays, part_has, case_fits, case_next, case_stops, cases_end, split_taken, split_refused}
use Rattle.cert_check.proofs.Parting.{fits_later, rest_is, front_is, front_keeps, rest_begins, rest_fits, walk_parts, walk_stopped, kept_ran, kept_through, grows_after}
use Rattle.cert_check.proofs.walk.+walk.Goals as goal

pub close-returns-then-fits_cases-clause-walk : goal.close-returns-then-fits_cases-clause-walk
close-returns-then-fits_cases-clause-walk t c =
    let ts = c.args.store.now in
    let items = items_of ts c.args.state.now in
    IfOk-weaker c.walk_cases.result _ _
    (λ w h. split_taken ts c.args.left c.in-Split.item c.args.next items c.in-Split.cases (out-Close c.args.end.now) c.in_ok-parts-in-Split.parts c.fits_cases.result (ap out-Close c.in-Split.is ∙ close.outs-Split c.in-Split.item c.in-Split.cases) c.if-left-eq0.false c.in_ok-parts-in-Split.ensures.parts c.fits_cases.ensures w c.if-fits_cases.true
    (h ∙ ap (λ n. walks.cases_from (walks.walk ts (c.args.left - 1)) items n (trees_of ts c.in_ok-parts-in-Split.parts) c.in-Split.cases) c.saturating_add-then-fits_cases.ensures)) c.walk_cases.ensures.walk

pub close-returns-clause-walk : goal.close-returns-clause-walk
close-returns-clause-walk t c =
    split_refused c.args.store.now c.args.left c.in-Split.item c.args.next (items_of c.args.store.now c.args.state.now) c.in-Split.cases (out-Close c.args.end.now) c.in_ok-parts-in-Split.parts c.fits_cases.result (ap out-Close c.in-Split.is ∙ close.outs-Split c.in-Split.item c.in-Split.cases) c.if-left-eq0.false c.in_ok-parts-in-Split.ensures.parts c.fits_cases.ensures c.if-fits_cases.false

-- ---- finish
pub finish-close-requires : goal.finish-close-requires
finish-close-requires t c = (omega arith, (c.requires.state, (c.requires.fits, c.requires.tables)))

pub finish-from_kept-requires : goal.finish-from_kept-requires
finish-from_kept-requires t c = (omega arith, (c.requires.state, (fits_later c.args.store.now c.args.steps.now c.requires.steps, (c.requires.fits, c.requires.tables))))

pub finish-returns-clause-state : goal.finish-returns-clause-state
finish-returns-clause-state t c = state_later c.args.store.now c.from_kept.new.store c.args.state.now c.from_kept.result c.from_kept.ensures.extends c.requires.state

-- ---- from_kept
pub from_kept-returns-in_default-clause-walk : goal.from_kept-returns-in_default-clause-walk
from_kept-returns-in_default-clause-walk t c =
    let ts = c.args.store.now in
    let items = c.args.state.now.items in
    ap (λ o. walks.closes (walks.inner ts c.args.left) (walks.keep_then ts c.args.next o c.args.later.now) c.args.end.now) (kept_none ts items c.args.numbers.now (option_map (λ b. b.value) c.in_ok-own.field-0) [] c.in_ok-own.ensures.items (ap (option_map (λ b. b.value)) c.in_default.is))

pub from_kept-returns-in-Stopped-clause-walk : goal.from_kept-returns-in-Stopped-clause-walk
from_kept-returns-in-Stopped-clause-walk t c =
    let ts = c.args.store.now in
    kept_ran ts c.args.left (formulas.kept (items_of ts c.args.state.now) c.args.numbers.now) (items_of ts c.in-Some.own.value) c.args.next c.saturating_add.result c.args.later.now c.args.end.now (Stopped c.in-Stopped.line c.in-Stopped.word)
    (kept_some ts c.args.state.now.items c.args.numbers.now (option_map (λ b. b.value) c.in_ok-own.field-0) c.in-Some.own.value c.in_ok-own.ensures.items (ap (option_map (λ b. b.value)) c.in-Some.is)) c.saturating_add.ensures
    (sym (ap (passed c.run.new.store c.run.new.state) c.in-Stopped.is) ∙ c.in_ok-line.ensures.run ∙ ap (λ s. walks.run ts (items_of ts s) c.saturating_add.result c.args.later.now) c.deref_mut-apart.ensures.value)

pub from_kept-close-requires : goal.from_kept-close-requires
from_kept-close-requires t c =
    (omega arith, (c.in_ok-line.ensures.state, (end_fit_stays c.args.store.now c.run.new.store c.args.left (out-Close c.args.end.now) c.run.ensures.extends c.requires.fits, c.in_ok-line.ensures.tables)))

pub from_kept-returns-clause-walk : goal.from_kept-returns-clause-walk
from_kept-returns-clause-walk t c =
    let ts = c.args.store.now in
    let us = c.run.new.store in
    let kept = kept_some ts c.args.state.now.items c.args.numbers.now (option_map (λ b. b.value) c.in_ok-own.field-0) c.in-Some.own.value c.in_ok-own.ensures.items (ap (option_map (λ b. b.value)) c.in-Some.is) in
    IfOk-weaker c.close.result _ _
    (λ w h. kept_through ts us c.args.left (formulas.kept (items_of ts c.args.state.now) c.args.numbers.now) (items_of ts c.in-Some.own.value) (items_of us c.run.new.state) c.args.next c.saturating_add.result c.in-Through.line c.args.later.now c.args.end.now w
    c.run.ensures.extends c.requires.fits kept c.saturating_add.ensures (sym (ap (passed us c.run.new.state) c.in-Through.is) ∙ c.in_ok-line.ensures.run ∙ ap (λ s. walks.run ts (items_of ts s) c.saturating_add.result c.args.later.now) c.deref_mut-apart.ensures.value) h) c.close.ensures.walk

-- ---- walk
pub walk-finish-requires : goal.walk-finish-requires
walk-finish-requires t c =
    let ts = c.args.store.now in
    let us = c.run.new.store in
    let ss = c.args.proof.now.steps in
    let cut = rest_is c.as_slice-steps.result.now ss c.before_keep-count.result c.as_slice-steps.ensures c.before_keep-count.ensures.count in (
      omega arith,
      (
        ap walks.before_keep cut ∙ rest_begins ss,
        (
          c.in_ok-line.ensures.state,
          (
            subst (StepsFit us) (sym cut) (rest_fits ts us c.args.left c.args.proof.now c.run.ensures.extends c.requires.fits),
            (end_fits_later ts us c.args.left c.args.proof.now c.run.ensures.extends c.requires.fits, c.in_ok-line.ensures.tables),
          ),
        ),
      ),
    )

pub walk-returns-in-Stopped-clause-walk : goal.walk-returns-in-Stopped-clause-walk
walk-returns-in-Stopped-clause-walk t c =
    let ts = c.args.store.now in
    let us = c.run.new.store in
    let items = items_of ts c.args.state.now in
    walk_stopped ts c.args.left items c.args.next (walks.before_keep c.args.proof.now.steps) c.args.proof.now (Stopped c.in-Stopped.line c.in-Stopped.word) _
    (sym (ap (passed us c.run.new.state) c.in-Stopped.is) ∙ c.in_ok-line.ensures.run ∙ ap (walks.run ts items c.args.next) (front_is c.as_slice-steps.result.now c.args.proof.now.steps c.before_keep-count.result c.as_slice-steps.ensures c.before_keep-count.ensures.count)) refl

pub walk-returns-in-Stopped-clause-grows : goal.walk-returns-in-Stopped-clause-grows
walk-returns-in-Stopped-clause-grows t c = c.in_ok-line.ensures.grows (front_keeps c.as_slice-steps.result.now c.args.proof.now.steps c.before_keep-count.result c.as_slice-steps.ensures c.before_keep-count.ensures.count)

pub walk-returns-in-Through-clause-walk : goal.walk-returns-in-Through-clause-walk
walk-returns-in-Through-clause-walk t c =
    let ts = c.args.store.now in
    let us = c.run.new.store in
    let ss = c.args.proof.now.steps in
    let items = items_of ts c.args.state.now in
    let more = items_of us c.run.new.state in
    let cut = rest_is c.as_slice-steps.result.now ss c.before_keep-count.result c.as_slice-steps.ensures c.before_keep-count.ensures.count in
    let front = front_is c.as_slice-steps.result.now ss c.before_keep-count.result c.as_slice-steps.ensures c.before_keep-count.ensures.count in
    IfOk-weaker c.finish.result _ _
    (λ w h. walk_parts ts us c.args.left items more c.args.next c.in-Through.line (walks.before_keep ss) c.args.proof.now w c.run.ensures.extends c.requires.fits
    (sym (ap (passed us c.run.new.state) c.in-Through.is) ∙ c.in_ok-line.ensures.run ∙ ap (walks.run ts items c.args.next) front)
    (h ∙ ap (λ xs. walks.closes (walks.inner us c.args.left) (walks.run us more c.in-Through.line xs) c.args.proof.now.close) cut)) c.finish.ensures.walk

pub walk-returns-in-Through-clause-grows : goal.walk-returns-in-Through-clause-grows
walk-returns-in-Through-clause-grows t c =
    let grows = c.in_ok-line.ensures.grows (front_keeps c.as_slice-steps.result.now c.args.proof.now.steps c.before_keep-count.result c.as_slice-steps.ensures c.before_keep-count.ensures.count) in
    on_ok_weaker c.finish.result (λ e. subst (Grows c.args.state.now.items) (sym e) grows) c.finish.ensures.items

-- ---- walk_case
pub walk_case-walk-requires : goal.walk_case-walk-requires
walk_case-walk-requires t c = (omega arith, (c.in_ok-push.ensures.state, (c.requires.fits, c.requires.tables)))

pub walk_case-returns-clause-walk : goal.walk_case-returns-clause-walk
walk_case-returns-clause-walk t c =
    let ts = c.args.store.now in
    c.in_ok-walked.ensures.walk ∙ ap (λ xs. walks.walk ts c.args.left xs c.args.next c.args.case.now) (ap (shown_all ts) c.in_ok-push.ensures.items ∙ shown_append ts c.args.state.now.items (variant.Formula c.args.formula ∷ []))

pub walk_case-returns-clause-items : goal.walk_case-returns-clause-items
walk_case-returns-clause-items t c =
    let hs = c.args.state.now.items in
    c.in_ok-cut.ensures.items ∙ ap (λ n. take n c.walk.new.state.items) (ap length c.items-len.ensures) ∙ grows_after hs c.push.new.self.items c.walk.new.state.items (variant.Formula c.args.formula) c.in_ok-push.ensures.items c.in_ok-walked.ensures.grows

-- ---- walk_cases
pub walk_cases-walk_case-requires : goal.walk_cases-walk_case-requires
walk_cases-walk_case-requires t c =
    let ts = c.args.store.now in
    let us = c.loop-k.store in
    let p = c.case-item.result in
    let k = c.loop-k.k in
    let i = c.index-as_slice-k.result in
    let small : k < length c.args.cases.now = omega (arith, c.loop-k-test.true, ap length c.as_slice-case-items.ensures) in
    let proof : p ≡ get_or c.args.cases.now k p = c.case-item.is ∙ ap (λ xs. get_or xs k p) c.as_slice-case-items.ensures in
    let id : i ≡ get_or c.args.parts.now k i = c.index-as_slice-k.is ∙ ap (λ xs. get_or xs k i) c.as_slice.ensures in (
      omega arith,
      (
        c.loop-k.invariant.state,
        (
          part_has ts us c.args.parts.now k i c.loop-k.invariant.extends c.requires.sorts (omega (arith, small, c.requires.count)) id,
          (subst (ProofFits us c.args.left) (sym proof) (case_fits ts us c.args.left c.args.cases.now k p c.loop-k.invariant.extends c.requires.fits small), c.loop-k.invariant.tables),
        ),
      ),
    )

pub walk_cases-returns-in-Refused-clause-walk : goal.walk_cases-returns-in-Refused-clause-walk
walk_cases-returns-in-Refused-clause-walk t c =
    let ts = c.args.store.now in
    let us = c.loop-k.store in
    let s = c.args.state.now in
    let n = state_noted ts s.items s.seen (bounds_in s.bounds) s.marks.items c.requires.state in
    let i = c.index-as_slice-k.result in
    let p = c.case-item.result in
    let k = c.loop-k.k in
    let small : k < length c.args.cases.now = omega (arith, c.loop-k-test.true, ap length c.as_slice-case-items.ensures) in
    let id : i ≡ get_or c.args.parts.now k i = c.index-as_slice-k.is ∙ ap (λ xs. get_or xs k i) c.as_slice.ensures in
    let proof : p ≡ get_or c.args.cases.now k p = c.case-item.is ∙ ap (λ xs. get_or xs k p) c.as_slice-case-items.ensures in
    sym (c.loop-k.invariant.cases ∙ case_stops ts us c.args.left s.items c.args.parts.now c.args.cases.now k i p c.loop-k.line c.in_ok-after.field-0 c.loop-k.invariant.extends n.items c.requires.sorts c.requires.fits c.requires.count small
    (c.in_ok-after.ensures.walk ∙ (λ x. walks.walk us c.args.left (shown_all us (c.loop-k.invariant.items x) ++ Formula (tree_at us (id x)) ∷ []) c.loop-k.line (proof x))) c.in-Refused.at c.in-Refused.word c.in-Refused.is)

pub walk_cases-returns-in-Refused-clause-items : goal.walk_cases-returns-in-Refused-clause-items
walk_cases-returns-in-Refused-clause-items t c = c.in_ok-after.ensures.items ∙ c.loop-k.invariant.items

pub walk_cases-loop-k-preserved : goal.walk_cases-loop-k-preserved
walk_cases-loop-k-preserved t c =
    let ts = c.args.store.now in
    let us = c.loop-k.store in
    let s = c.args.state.now in
    let n = state_noted ts s.items s.seen (bounds_in s.bounds) s.marks.items c.requires.state in
    let i = c.index-as_slice-k.result in
    let p = c.case-item.result in
    let k = c.loop-k.k in
    let small : k < length c.args.cases.now = omega (arith, c.loop-k-test.true, ap length c.as_slice-case-items.ensures) in
    let id : i ≡ get_or c.args.parts.now k i = c.index-as_slice-k.is ∙ ap (λ xs. get_or xs k i) c.as_slice.ensures in
    let proof : p ≡ get_or c.args.cases.now k p = c.case-item.is ∙ ap (λ xs. get_or xs k p) c.as_slice-case-items.ensures in
    record {
      extends = Extends_trans ts us c.walk_case.new.store c.loop-k.invariant.extends c.walk_case.ensures.extends;
      tables = c.in_ok-after.ensures.tables;
      items = c.in_ok-after.ensures.items ∙ c.loop-k.invariant.items;
      state = c.in_ok-after.ensures.state;
      cases = c.loop-k.invariant.cases ∙ case_next ts us c.args.left s.items c.args.parts.now c.args.cases.now k i p c.loop-k.line c.in_ok-after.field-0 c.loop-k.invariant.extends n.items c.requires.sorts c.requires.fits c.requires.count small
          (c.in_ok-after.ensures.walk ∙ (λ x. walks.walk us c.args.left (shown_all us (c.loop-k.invariant.items x) ++ Formula (tree_at us (id x)) ∷ []) c.loop-k.line (proof x))) c.in-Closed.after c.in-Closed.is;
    }

pub walk_cases-returns-clause-walk : goal.walk_cases-returns-clause-walk
walk_cases-returns-clause-walk t c =
    let k = c.loop-k.k in
    let e : length c.args.cases.now ≤ k = omega (arith, c.loop-k-test.false, ap length c.as_slice-case-items.ensures) in
    sym (c.loop-k.invariant.cases ∙ cases_end (walks.walk c.args.store.now c.args.left) (items_of c.args.store.now c.args.state.now) c.loop-k.line (trees_of c.args.store.now (drop k c.args.parts.now)) c.args.cases.now k e)

pub walk_cases-returns-clause-items : goal.walk_cases-returns-clause-items
walk_cases-returns-clause-items t c = c.loop-k.invariant.items

pub walk_cases-returns-clause-state : goal.walk_cases-returns-clause-state
walk_cases-returns-clause-state t c = c.loop-k.invariant.state
