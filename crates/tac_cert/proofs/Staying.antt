-- What steps need and give stays the same as the store grows.
use Rattle.std.proofs.Common.{◌≡◌, List, [], ◌∷◌, Option, None, refl, ap, if◌then◌else◌}
use Rattle.std.specs.List.{list_all}
use Rattle.qterm.specs.Tree.{Tree}
use Rattle.qterm.specs.Store.{Extends}
use Rattle.qterm.proofs.Fitting.{Has_extends}
use Rattle.tac_cert.specs.Items.{Item}
use Rattle.tac_cert.specs.Depth.{is_shallow}
use Rattle.tac_cert.specs.Gives.{gives, adds, StepFits}
use Rattle.tac_cert.specs.Formulas as formulas
use Rattle.tac_cert.specs.Tables as tables
use Rattle.tac_cert.specs.declared.cert.Step.{Step}
use Rattle.tac_cert.specs.declared.cert.Step.TheVariants as step
use Rattle.tac_cert.specs.Accepts.{StepsFit}

-- one term and two, as the rules take them
abbrev one_term : List Item → (Tree → Option (List Item)) → Tree → Option (List Item)
one_term items f t = if list_all is_shallow (t ∷ []) then adds items (f t) else None

abbrev two_terms : List Item → (Tree → Tree → Option (List Item)) → Tree → Tree → Option (List Item)
two_terms items f s t = if list_all is_shallow (s ∷ t ∷ []) then adds items (f s t) else None

-- a step means the same
pub gives_stays : (ts us : List Tree) (items : List Item) (s : Step) → Extends ts us → StepFits ts s → gives us items s ≡ gives ts items s
gives_stays ts us items (step.Rw i f) e h = ap (one_term items (formulas.rewrite items i)) (e.same f h)
gives_stays ts us items (step.Keep ns) e h = refl
gives_stays ts us items (step.Part i k) e h = refl
gives_stays ts us items (step.Def y t) e h = ap (one_term items (formulas.define items y)) (e.same t h)
gives_stays ts us items (step.Subst i s t j) e h = λ k. two_terms items (λ a b. formulas.substitute items i a b j) (e.same s h.0 k) (e.same t h.1 k)
gives_stays ts us items (step.IteParts i) e h = refl
gives_stays ts us items (step.Range i) e h = refl
gives_stays ts us items (step.Bits x bs) e h = refl
gives_stays ts us items (step.Bit x p) e h = refl
gives_stays ts us items (step.Mul w a) e h = refl
gives_stays ts us items (step.Add v w ns) e h = refl
gives_stays ts us items (step.Cmp w c ns) e h = refl
gives_stays ts us items (step.Eqc w c ns) e h = refl
gives_stays ts us items (step.Table i c) e h = ap (one_term items (λ t. tables.table items i t)) (e.same c h)
gives_stays ts us items (step.Rup c hints) e h = ap (one_term items (λ t. formulas.rup items t hints)) (e.same c h)

-- its terms are still there
pub step_stays : (ts us : List Tree) (s : Step) → Extends ts us → StepFits ts s → StepFits us s
step_stays ts us (step.Rw i f) e h = Has_extends ts us f e h
step_stays ts us (step.Keep ns) e h = tt
step_stays ts us (step.Part i k) e h = tt
step_stays ts us (step.Def y t) e h = Has_extends ts us t e h
step_stays ts us (step.Subst i s t j) e h = (Has_extends ts us s e h.0, Has_extends ts us t e h.1)
step_stays ts us (step.IteParts i) e h = tt
step_stays ts us (step.Range i) e h = tt
step_stays ts us (step.Bits x bs) e h = tt
step_stays ts us (step.Bit x p) e h = tt
step_stays ts us (step.Mul w a) e h = tt
step_stays ts us (step.Add v w ns) e h = tt
step_stays ts us (step.Cmp w c ns) e h = tt
step_stays ts us (step.Eqc w c ns) e h = tt
step_stays ts us (step.Table i c) e h = Has_extends ts us c e h
step_stays ts us (step.Rup c hints) e h = Has_extends ts us c e h

-- the same of several steps
pub steps_stay : (ts us : List Tree) (ss : List Step) → Extends ts us → StepsFit ts ss → StepsFit us ss
steps_stay ts us [] e h = tt
steps_stay ts us (s ∷ ss) e h = (step_stays ts us s e h.0, steps_stay ts us ss e h.1)
