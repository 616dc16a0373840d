use Rattle.std.proofs.Common.{◌≡◌, ◌&&◌, ◌-◌, ◌^◌, length, refl, ap, sym, ◌∙◌, nat_le}
use Rattle.std.specs.Prelude.{nat_lt}
use Rattle.std.specs.List.{list_all}
use Rattle.std.proofs.lemmas.List.{take_all}
use Rattle.sexp_read.specs.Lexical.{is_simple_symbol}
use Rattle.strat_text.specs.declared.strategy.TheConstants.{BRANCHES}
use Rattle.strat_text.specs.Allowed as spec
use Rattle.strat_text.specs.Within.{fits}
use Rattle.strat_text.proofs.Fits.{fits-none, fits-Prim, fits-Then, fits-OrElse, fits-ParOr, fits-ParThen, fits-If, fits-When, fits-FailIf, fits-Repeat, fits-Params, fits-TryFor, all_grows}
use Rattle.strat_text.proofs.allowed.+strategy.Goals as goal

pub all_fit-loop-part-init : goal.all_fit-loop-part-init
all_fit-loop-part-init t c = refl

pub all_fit-loop-part-preserved : goal.all_fit-loop-part-preserved
all_fit-loop-part-preserved t c =
    all_grows (λ s. fits s c.args.left) c.args.parts.now c.loop-part.part-index c.part-item.result c.loop-part-test.true c.part-item.is c.loop-part.invariant (cc)

pub all_fit-returns : goal.all_fit-returns
all_fit-returns t c = sym (ap (λ ps. list_all (λ s. fits s c.args.left) ps) (sym (take_all c.loop-part.part-index c.args.parts.now c.loop-part-test.false)) ∙ c.loop-part.invariant)

pub fits_within-returns-then-limit-eq0 : goal.fits_within-returns-then-limit-eq0
fits_within-returns-then-limit-eq0 t c = sym (fits-none c.args.strategy.now c.args.limit c.if-limit-eq0.true)

pub fits_within-returns-in-Prim : goal.fits_within-returns-in-Prim
fits_within-returns-in-Prim t c =
    let parts : fits c.args.strategy.now c.args.limit ≡ is_simple_symbol c.text.result.now = fits-Prim c.args.strategy.now c.text.result.now c.args.limit (cc) c.if-limit-eq0.false in
    cc

pub fits_within-returns-in-Then : goal.fits_within-returns-in-Then
fits_within-returns-in-Then t c =
    let parts : fits c.args.strategy.now c.args.limit ≡ (nat_le 2 (length c.as_slice.result.now) && list_all (λ s. fits s (c.args.limit - 1)) c.as_slice.result.now) = fits-Then c.args.strategy.now c.as_slice.result.now c.args.limit (cc) c.if-limit-eq0.false in
    cc

pub fits_within-returns-in-OrElse : goal.fits_within-returns-in-OrElse
fits_within-returns-in-OrElse t c =
    let parts : fits c.args.strategy.now c.args.limit ≡ (nat_le 2 (length c.as_slice-in-OrElse.result.now) && list_all (λ s. fits s (c.args.limit - 1)) c.as_slice-in-OrElse.result.now) = fits-OrElse c.args.strategy.now c.as_slice-in-OrElse.result.now c.args.limit (cc) c.if-limit-eq0.false in
    cc

pub fits_within-returns-in-ParOr : goal.fits_within-returns-in-ParOr
fits_within-returns-in-ParOr t c =
    let parts : fits c.args.strategy.now c.args.limit ≡ ((nat_le 2 (length c.as_slice-in-ParOr.result.now) && nat_le (length c.as_slice-in-ParOr.result.now) BRANCHES) && list_all (λ s. fits s (c.args.limit - 1)) c.as_slice-in-ParOr.result.now) = fits-ParOr c.args.strategy.now c.as_slice-in-ParOr.result.now c.args.limit (cc) c.if-limit-eq0.false in
    cc

pub fits_within-returns-in-ParThen : goal.fits_within-returns-in-ParThen
fits_within-returns-in-ParThen t c =
    let parts : fits c.args.strategy.now c.args.limit ≡ (fits c.get.result.now (c.args.limit - 1) && fits c.get-in-ParThen.result.now (c.args.limit - 1)) = fits-ParThen c.args.strategy.now c.get.result.now c.get-in-ParThen.result.now c.args.limit (cc) c.if-limit-eq0.false in
    cc

pub fits_within-returns-in-If : goal.fits_within-returns-in-If
fits_within-returns-in-If t c =
    let parts : fits c.args.strategy.now c.args.limit ≡ (spec.is_allowed_probe c.in-If.probe && (fits c.get-in-If.result.now (c.args.limit - 1) && fits c.get-in-If-2.result.now (c.args.limit - 1))) = fits-If c.args.strategy.now c.in-If.probe c.get-in-If.result.now c.get-in-If-2.result.now c.args.limit (cc) c.if-limit-eq0.false in
    cc

pub fits_within-returns-in-When : goal.fits_within-returns-in-When
fits_within-returns-in-When t c =
    let parts : fits c.args.strategy.now c.args.limit ≡ (spec.is_allowed_probe c.in-When.probe && fits c.get-in-When.result.now (c.args.limit - 1)) = fits-When c.args.strategy.now c.in-When.probe c.get-in-When.result.now c.args.limit (cc) c.if-limit-eq0.false in
    cc

pub fits_within-returns-in-FailIf : goal.fits_within-returns-in-FailIf
fits_within-returns-in-FailIf t c =
    let parts : fits c.args.strategy.now c.args.limit ≡ spec.is_allowed_probe c.in-FailIf.probe = fits-FailIf c.args.strategy.now c.in-FailIf.probe c.args.limit (cc) c.if-limit-eq0.false in
    cc

pub fits_within-returns-in-Repeat : goal.fits_within-returns-in-Repeat
fits_within-returns-in-Repeat t c =
    let parts : fits c.args.strategy.now c.args.limit ≡ (fits c.get-in-Repeat.result.now (c.args.limit - 1) && nat_lt c.in-Repeat.turns (2 ^ 32)) = fits-Repeat c.args.strategy.now c.get-in-Repeat.result.now c.in-Repeat.turns c.args.limit (cc) c.if-limit-eq0.false in
    cc

pub fits_within-returns-in-Params : goal.fits_within-returns-in-Params
fits_within-returns-in-Params t c =
    let parts : fits c.args.strategy.now c.args.limit ≡ (fits c.get-in-Params.result.now (c.args.limit - 1) && (nat_le 1 (length c.as_slice-in-Params.result.now) && spec.are_settings c.as_slice-in-Params.result.now)) = fits-Params c.args.strategy.now c.get-in-Params.result.now c.as_slice-in-Params.result.now c.args.limit (cc) c.if-limit-eq0.false in
    cc

pub fits_within-returns-in-TryFor : goal.fits_within-returns-in-TryFor
fits_within-returns-in-TryFor t c =
    let parts : fits c.args.strategy.now c.args.limit ≡ (fits c.get-in-TryFor.result.now (c.args.limit - 1) && nat_le c.in-TryFor.most (2 ^ 62)) = fits-TryFor c.args.strategy.now c.get-in-TryFor.result.now c.in-TryFor.most c.args.limit (cc) c.if-limit-eq0.false in
    cc
