use Rattle.std.proofs.Common.{◌≡◌, ℕ, List, [], ◌∷◌, ◌++◌, map, refl, ap, sym, ◌∙◌, codes}
use Rattle.std.specs.Prelude.{decimal}
use Rattle.std.proofs.lemmas.List.{take_all}
use Rattle.strat_text.specs.declared.strategy.Strategy.TheVariants as strategy
use Rattle.strat_text.specs.Spelled as spec
use Rattle.strat_text.proofs.Layers.{fold-Prim, fold-Then, fold-OrElse, fold-ParOr, fold-ParThen, fold-If, fold-When, fold-FailIf, fold-Repeat, fold-Params, fold-TryFor}
use Rattle.strat_text.proofs.Writing.{told, closed, no_parts, one_more, last_one, row_grows}
use Rattle.strat_text.proofs.write.+strategy.Goals as goal

pub put_parts-loop-part-init : goal.put_parts-loop-part-init
put_parts-loop-part-init t c = no_parts c.open_form.new.text.items

pub put_parts-loop-part-preserved : goal.put_parts-loop-part-preserved
put_parts-loop-part-preserved t c =
    row_grows spec.spelled c.args.parts.now c.loop-part.part-index c.part-item.result c.open_form.new.text.items c.loop-part.text.items c.put_next.new.text.items c.loop-part-test.true c.part-item.is c.loop-part.invariant c.in_ok-put_next.ensures

pub put_parts-returns : goal.put_parts-returns
put_parts-returns t c =
    closed _ _ _ _ _ _ _ (map spec.spelled c.args.parts.now) refl c.in_ok-open_form.ensures
    (c.loop-part.invariant ∙ ap (λ ps. c.open_form.new.text.items ++ spec.spaced (map spec.spelled ps)) (take_all c.loop-part.part-index c.args.parts.now c.loop-part-test.false)) c.close_form.ensures

pub put_strategy-returns-in_ok-extend_from_slice-in-Prim : goal.put_strategy-returns-in_ok-extend_from_slice-in-Prim
unfolding spec.spelled
put_strategy-returns-in_ok-extend_from_slice-in-Prim t c =
    let is : c.args.strategy.now ≡ strategy.Prim c.text.result.now = cc in
    c.in_ok-extend_from_slice-in-Prim.ensures.items ∙ ap (λ (bs : List ℕ). c.args.text.now.items ++ bs) (sym (ap spec.spelled is ∙ fold-Prim (List ℕ) spec.strategy_layer c.text.result.now))

pub put_strategy-returns-in-Then : goal.put_strategy-returns-in-Then
unfolding spec.spelled
put_strategy-returns-in-Then t c =
    let is : c.args.strategy.now ≡ strategy.Then c.as_slice.result.now = cc in
    told _ _ _ _ _ (ap spec.spelled is ∙ fold-Then (List ℕ) spec.strategy_layer c.as_slice.result.now) c.put_parts.ensures

pub put_strategy-returns-in-OrElse : goal.put_strategy-returns-in-OrElse
unfolding spec.spelled
put_strategy-returns-in-OrElse t c =
    let is : c.args.strategy.now ≡ strategy.OrElse c.as_slice-in-OrElse.result.now = cc in
    told _ _ _ _ _ (ap spec.spelled is ∙ fold-OrElse (List ℕ) spec.strategy_layer c.as_slice-in-OrElse.result.now) c.put_parts-in-OrElse.ensures

pub put_strategy-returns-in-ParOr : goal.put_strategy-returns-in-ParOr
unfolding spec.spelled
put_strategy-returns-in-ParOr t c =
    let is : c.args.strategy.now ≡ strategy.ParOr c.as_slice-in-ParOr.result.now = cc in
    told _ _ _ _ _ (ap spec.spelled is ∙ fold-ParOr (List ℕ) spec.strategy_layer c.as_slice-in-ParOr.result.now) c.put_parts-in-ParOr.ensures

pub put_strategy-returns-in_ok-put_next-in-ParThen-2 : goal.put_strategy-returns-in_ok-put_next-in-ParThen-2
unfolding spec.spelled
put_strategy-returns-in_ok-put_next-in-ParThen-2 t c =
    let is : c.args.strategy.now ≡ strategy.ParThen c.get.result.now c.get-in-ParThen.result.now = cc in
    closed _ _ _ _ _ _ (codes "par-then") (spec.spelled c.get.result.now ∷ spec.spelled c.get-in-ParThen.result.now ∷ []) (ap spec.spelled is ∙ fold-ParThen (List ℕ) spec.strategy_layer c.get.result.now c.get-in-ParThen.result.now) c.in_ok-open_form-in-ParThen.ensures
    (one_more c.open_form.new.text.items c.put_next.new.text.items c.put_next-in-ParThen.new.text.items (spec.spelled c.get.result.now) (spec.spelled c.get-in-ParThen.result.now ∷ []) c.in_ok-put_next-in-ParThen.ensures (last_one c.put_next.new.text.items c.put_next-in-ParThen.new.text.items (spec.spelled c.get-in-ParThen.result.now) c.in_ok-put_next-in-ParThen-2.ensures)) c.close_form.ensures

pub put_strategy-returns-in_ok-put_next-in-If-2 : goal.put_strategy-returns-in_ok-put_next-in-If-2
unfolding spec.spelled
put_strategy-returns-in_ok-put_next-in-If-2 t c =
    let is : c.args.strategy.now ≡ strategy.If c.in-If.probe c.get-in-If.result.now c.get-in-If-2.result.now = cc in
    closed _ _ _ _ _ _ (codes "if") (spec.spelled_probe c.in-If.probe ∷ spec.spelled c.get-in-If.result.now ∷ spec.spelled c.get-in-If-2.result.now ∷ []) (ap spec.spelled is ∙ fold-If (List ℕ) spec.strategy_layer c.in-If.probe c.get-in-If.result.now c.get-in-If-2.result.now) c.in_ok-open_form-in-If.ensures
    (one_more c.open_form-in-If.new.text.items c.put_next_probe.new.text.items c.put_next-in-If-2.new.text.items (spec.spelled_probe c.in-If.probe) (spec.spelled c.get-in-If.result.now ∷ spec.spelled c.get-in-If-2.result.now ∷ []) c.in_ok-put_next_probe-in-If.ensures (one_more c.put_next_probe.new.text.items c.put_next-in-If.new.text.items c.put_next-in-If-2.new.text.items (spec.spelled c.get-in-If.result.now) (spec.spelled c.get-in-If-2.result.now ∷ []) c.in_ok-put_next-in-If.ensures (last_one c.put_next-in-If.new.text.items c.put_next-in-If-2.new.text.items (spec.spelled c.get-in-If-2.result.now) c.in_ok-put_next-in-If-2.ensures))) c.close_form-in-If.ensures

pub put_strategy-returns-in_ok-put_next-in-When : goal.put_strategy-returns-in_ok-put_next-in-When
unfolding spec.spelled
put_strategy-returns-in_ok-put_next-in-When t c =
    let is : c.args.strategy.now ≡ strategy.When c.in-When.probe c.get-in-When.result.now = cc in
    closed _ _ _ _ _ _ (codes "when") (spec.spelled_probe c.in-When.probe ∷ spec.spelled c.get-in-When.result.now ∷ []) (ap spec.spelled is ∙ fold-When (List ℕ) spec.strategy_layer c.in-When.probe c.get-in-When.result.now) c.in_ok-open_form-in-When.ensures
    (one_more c.open_form-in-When.new.text.items c.put_next_probe-in-When.new.text.items c.put_next-in-When.new.text.items (spec.spelled_probe c.in-When.probe) (spec.spelled c.get-in-When.result.now ∷ []) c.in_ok-put_next_probe-in-When.ensures (last_one c.put_next_probe-in-When.new.text.items c.put_next-in-When.new.text.items (spec.spelled c.get-in-When.result.now) c.in_ok-put_next-in-When.ensures)) c.close_form-in-When.ensures

pub put_strategy-returns-in_ok-put_next_probe-in-FailIf : goal.put_strategy-returns-in_ok-put_next_probe-in-FailIf
unfolding spec.spelled
put_strategy-returns-in_ok-put_next_probe-in-FailIf t c =
    let is : c.args.strategy.now ≡ strategy.FailIf c.in-FailIf.probe = cc in
    closed _ _ _ _ _ _ (codes "fail-if") (spec.spelled_probe c.in-FailIf.probe ∷ []) (ap spec.spelled is ∙ fold-FailIf (List ℕ) spec.strategy_layer c.in-FailIf.probe) c.in_ok-open_form-in-FailIf.ensures
    (last_one c.open_form-in-FailIf.new.text.items c.put_next_probe-in-FailIf.new.text.items (spec.spelled_probe c.in-FailIf.probe) c.in_ok-put_next_probe-in-FailIf.ensures) c.close_form-in-FailIf.ensures

pub put_strategy-returns-in_ok-put_next_count-in-Repeat : goal.put_strategy-returns-in_ok-put_next_count-in-Repeat
unfolding spec.spelled
put_strategy-returns-in_ok-put_next_count-in-Repeat t c =
    let is : c.args.strategy.now ≡ strategy.Repeat c.get-in-Repeat.result.now c.in-Repeat.turns = cc in
    closed _ _ _ _ _ _ (codes "repeat") (spec.spelled c.get-in-Repeat.result.now ∷ decimal c.in-Repeat.turns ∷ []) (ap spec.spelled is ∙ fold-Repeat (List ℕ) spec.strategy_layer c.get-in-Repeat.result.now c.in-Repeat.turns) c.in_ok-open_form-in-Repeat.ensures
    (one_more c.open_form-in-Repeat.new.text.items c.put_next-in-Repeat.new.text.items c.put_next_count.new.text.items (spec.spelled c.get-in-Repeat.result.now) (decimal c.in-Repeat.turns ∷ []) c.in_ok-put_next-in-Repeat.ensures (last_one c.put_next-in-Repeat.new.text.items c.put_next_count.new.text.items (decimal c.in-Repeat.turns) c.in_ok-put_next_count-in-Repeat.ensures)) c.close_form-in-Repeat.ensures

pub put_strategy-returns-in_ok-put_settings-in-Params : goal.put_strategy-returns-in_ok-put_settings-in-Params
unfolding spec.spelled
put_strategy-returns-in_ok-put_settings-in-Params t c =
    let is : c.args.strategy.now ≡ strategy.Params c.get-in-Params.result.now c.as_slice-in-Params.result.now = cc in
    closed _ _ _ _ _ _ (codes "using-params") (spec.spelled c.get-in-Params.result.now ∷ spec.setting_texts c.as_slice-in-Params.result.now) (ap spec.spelled is ∙ fold-Params (List ℕ) spec.strategy_layer c.get-in-Params.result.now c.as_slice-in-Params.result.now) c.in_ok-open_form-in-Params.ensures
    (one_more c.open_form-in-Params.new.text.items c.put_next-in-Params.new.text.items c.put_settings.new.text.items (spec.spelled c.get-in-Params.result.now) (spec.setting_texts c.as_slice-in-Params.result.now) c.in_ok-put_next-in-Params.ensures (c.in_ok-put_settings-in-Params.ensures)) c.close_form-in-Params.ensures

pub put_strategy-returns-in_ok-put_next_count-in-TryFor : goal.put_strategy-returns-in_ok-put_next_count-in-TryFor
unfolding spec.spelled
put_strategy-returns-in_ok-put_next_count-in-TryFor t c =
    let is : c.args.strategy.now ≡ strategy.TryFor c.get-in-TryFor.result.now c.in-TryFor.limit = cc in
    closed _ _ _ _ _ _ (codes "try-for") (spec.spelled c.get-in-TryFor.result.now ∷ decimal c.in-TryFor.limit ∷ []) (ap spec.spelled is ∙ fold-TryFor (List ℕ) spec.strategy_layer c.get-in-TryFor.result.now c.in-TryFor.limit) c.in_ok-open_form-in-TryFor.ensures
    (one_more c.open_form-in-TryFor.new.text.items c.put_next-in-TryFor.new.text.items c.put_next_count-in-TryFor.new.text.items (spec.spelled c.get-in-TryFor.result.now) (decimal c.in-TryFor.limit ∷ []) c.in_ok-put_next-in-TryFor.ensures (last_one c.put_next-in-TryFor.new.text.items c.put_next_count-in-TryFor.new.text.items (decimal c.in-TryFor.limit) c.in_ok-put_next_count-in-TryFor.ensures)) c.close_form-in-TryFor.ensures
