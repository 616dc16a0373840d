use Rattle.std.proofs.Common.{rules, SFits, ◌≡◌, ◌&&◌, length, ap, sym, ◌∙◌, nat_le}
use Rattle.std.specs.Int.{w128}
use Rattle.std.specs.List.{list_all}
use Rattle.std.proofs.lemmas.List.{take_all}
use Rattle.strat_text.specs.Allowed as spec
use Rattle.strat_text.proofs.Fits.{allowed-words, allowed-Num, allowed-Lt, allowed-Le, allowed-Gt, allowed-Ge, allowed-Eq, allowed-And, allowed-Or, allowed-Not, all_grows}
use Rattle.strat_text.proofs.allowed.+probe.Goals as goal

pub are_allowed-loop-part-preserved : goal.are_allowed-loop-part-preserved
are_allowed-loop-part-preserved t c =
    all_grows spec.is_allowed_probe c.args.parts.now c.loop-part.part-index c.part-item.result c.loop-part-test.true c.part-item.is c.loop-part.invariant (cc)

pub are_allowed-returns : goal.are_allowed-returns
are_allowed-returns t c = sym (ap (λ ps. list_all spec.is_allowed_probe ps) (sym (take_all c.loop-part.part-index c.args.parts.now c.loop-part-test.false)) ∙ c.loop-part.invariant)

pub is_allowed_probe-returns-in-Num : goal.is_allowed_probe-returns-in-Num
is_allowed_probe-returns-in-Num t c =
    let fits : SFits w128 c.in-Num.number = search rules in
    allowed-Num c.args.probe.now c.in-Num.number c.in-Num.is fits

pub is_allowed_probe-returns-in-Lt : goal.is_allowed_probe-returns-in-Lt
is_allowed_probe-returns-in-Lt t c =
    let parts : spec.is_allowed_probe c.args.probe.now ≡ (spec.is_allowed_probe c.get.result.now && spec.is_allowed_probe c.get-in-Lt.result.now) = allowed-Lt c.args.probe.now c.get.result.now c.get-in-Lt.result.now (cc) in
    cc

pub is_allowed_probe-returns-in-Le : goal.is_allowed_probe-returns-in-Le
is_allowed_probe-returns-in-Le t c =
    let parts : spec.is_allowed_probe c.args.probe.now ≡ (spec.is_allowed_probe c.get-in-Le.result.now && spec.is_allowed_probe c.get-in-Le-2.result.now) = allowed-Le c.args.probe.now c.get-in-Le.result.now c.get-in-Le-2.result.now (cc) in
    cc

pub is_allowed_probe-returns-in-Gt : goal.is_allowed_probe-returns-in-Gt
is_allowed_probe-returns-in-Gt t c =
    let parts : spec.is_allowed_probe c.args.probe.now ≡ (spec.is_allowed_probe c.get-in-Gt.result.now && spec.is_allowed_probe c.get-in-Gt-2.result.now) = allowed-Gt c.args.probe.now c.get-in-Gt.result.now c.get-in-Gt-2.result.now (cc) in
    cc

pub is_allowed_probe-returns-in-Ge : goal.is_allowed_probe-returns-in-Ge
is_allowed_probe-returns-in-Ge t c =
    let parts : spec.is_allowed_probe c.args.probe.now ≡ (spec.is_allowed_probe c.get-in-Ge.result.now && spec.is_allowed_probe c.get-in-Ge-2.result.now) = allowed-Ge c.args.probe.now c.get-in-Ge.result.now c.get-in-Ge-2.result.now (cc) in
    cc

pub is_allowed_probe-returns-in-Eq : goal.is_allowed_probe-returns-in-Eq
is_allowed_probe-returns-in-Eq t c =
    let parts : spec.is_allowed_probe c.args.probe.now ≡ (spec.is_allowed_probe c.get-in-Eq.result.now && spec.is_allowed_probe c.get-in-Eq-2.result.now) = allowed-Eq c.args.probe.now c.get-in-Eq.result.now c.get-in-Eq-2.result.now (cc) in
    cc

pub is_allowed_probe-returns-in-And : goal.is_allowed_probe-returns-in-And
is_allowed_probe-returns-in-And t c =
    let parts : spec.is_allowed_probe c.args.probe.now ≡ (nat_le 1 (length c.as_slice.result.now) && list_all spec.is_allowed_probe c.as_slice.result.now) = allowed-And c.args.probe.now c.as_slice.result.now (cc) in
    cc

pub is_allowed_probe-returns-in-Or : goal.is_allowed_probe-returns-in-Or
is_allowed_probe-returns-in-Or t c =
    let parts : spec.is_allowed_probe c.args.probe.now ≡ (nat_le 1 (length c.as_slice-in-Or.result.now) && list_all spec.is_allowed_probe c.as_slice-in-Or.result.now) = allowed-Or c.args.probe.now c.as_slice-in-Or.result.now (cc) in
    cc

pub is_allowed_probe-returns-in-Not : goal.is_allowed_probe-returns-in-Not
is_allowed_probe-returns-in-Not t c =
    let part : spec.is_allowed_probe c.args.probe.now ≡ spec.is_allowed_probe c.get-in-Not.result.now = allowed-Not c.args.probe.now c.get-in-Not.result.now (cc) in
    cc

pub is_allowed_probe-returns-in-Size : goal.is_allowed_probe-returns-in-Size
is_allowed_probe-returns-in-Size t c = allowed-words c.args.probe.now c.in-Size.is

pub is_allowed_probe-returns-in-Size-2 : goal.is_allowed_probe-returns-in-Size-2
is_allowed_probe-returns-in-Size-2 t c = allowed-words c.args.probe.now c.in-Size.is

pub is_allowed_probe-returns-in-Size-3 : goal.is_allowed_probe-returns-in-Size-3
is_allowed_probe-returns-in-Size-3 t c = allowed-words c.args.probe.now c.in-Size.is

pub is_allowed_probe-returns-in-Size-4 : goal.is_allowed_probe-returns-in-Size-4
is_allowed_probe-returns-in-Size-4 t c = allowed-words c.args.probe.now c.in-Size.is

pub is_allowed_probe-returns-in-Size-5 : goal.is_allowed_probe-returns-in-Size-5
is_allowed_probe-returns-in-Size-5 t c = allowed-words c.args.probe.now c.in-Size.is

pub is_allowed_probe-returns-in-Size-6 : goal.is_allowed_probe-returns-in-Size-6
is_allowed_probe-returns-in-Size-6 t c = allowed-words c.args.probe.now c.in-Size.is

pub is_allowed_probe-returns-in-Size-7 : goal.is_allowed_probe-returns-in-Size-7
is_allowed_probe-returns-in-Size-7 t c = allowed-words c.args.probe.now c.in-Size.is

pub is_allowed_probe-returns-in-Size-8 : goal.is_allowed_probe-returns-in-Size-8
is_allowed_probe-returns-in-Size-8 t c = allowed-words c.args.probe.now c.in-Size.is

pub is_allowed_probe-returns-in-Size-9 : goal.is_allowed_probe-returns-in-Size-9
is_allowed_probe-returns-in-Size-9 t c = allowed-words c.args.probe.now c.in-Size.is
