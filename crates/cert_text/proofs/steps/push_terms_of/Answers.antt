use Rattle.std.proofs.Common.{◌≡◌, ◌++◌, ◌∷◌, [], ℕ, List, ap, sym, ◌∙◌, append_assoc, append-nil, refl}
use Rattle.std.proofs.lemmas.Result.{on_ok_weaker}
use Rattle.qterm.specs.declared.name.Name.{Name}
use Rattle.qterm.specs.Tree.{Tree}
use Rattle.qterm.specs.Store.{tree_at, trees_of}
use Rattle.qwalk.specs.Subterms.{subterms, subterms_of}
use Rattle.tac_cert.specs.Gives.{terms_of}
use Rattle.tac_cert.specs.declared.cert.Step.{Step}
use Rattle.tac_cert.specs.declared.cert.Step.TheVariants as step
use Rattle.cert_text.specs.TermLines.{term_lines, with_lines}
use Rattle.cert_text.proofs.Known.{none_more, with_lines-append, term_lines-append, of_one, of_two, of_none}
use Rattle.cert_text.proofs.steps.push_terms_of.Goals as goal

pub returns-in-Rw-clause-text : goal.returns-in-Rw-clause-text
returns-in-Rw-clause-text c =
    let known = trees_of c.args.store.now c.args.lines.now in
    let t = tree_at c.args.store.now c.in-Rw.formula in
    let is : terms_of c.args.store.now c.args.step.now ≡ t ∷ [] = ap (terms_of c.args.store.now) c.in-Rw.is in
    on_ok_weaker c.push_terms.result (λ e. e ∙ ap (λ us. c.args.text.now.items ++ term_lines known us) (sym (of_one t (terms_of c.args.store.now c.args.step.now) is))) c.push_terms.ensures.text

pub returns-in-Rw-clause-known : goal.returns-in-Rw-clause-known
returns-in-Rw-clause-known c =
    let known = trees_of c.args.store.now c.args.lines.now in
    let t = tree_at c.args.store.now c.in-Rw.formula in
    let is : terms_of c.args.store.now c.args.step.now ≡ t ∷ [] = ap (terms_of c.args.store.now) c.in-Rw.is in
    on_ok_weaker c.push_terms.result (λ e. e ∙ ap (with_lines known) (sym (of_one t (terms_of c.args.store.now c.args.step.now) is))) c.push_terms.ensures.known

pub returns-in-Def-clause-text : goal.returns-in-Def-clause-text
returns-in-Def-clause-text c =
    let known = trees_of c.args.store.now c.args.lines.now in
    let t = tree_at c.args.store.now c.in-Def.term in
    let is : terms_of c.args.store.now c.args.step.now ≡ t ∷ [] = ap (terms_of c.args.store.now) c.in-Def.is in
    on_ok_weaker c.push_terms-in-Def.result (λ e. e ∙ ap (λ us. c.args.text.now.items ++ term_lines known us) (sym (of_one t (terms_of c.args.store.now c.args.step.now) is))) c.push_terms-in-Def.ensures.text

pub returns-in-Def-clause-known : goal.returns-in-Def-clause-known
returns-in-Def-clause-known c =
    let known = trees_of c.args.store.now c.args.lines.now in
    let t = tree_at c.args.store.now c.in-Def.term in
    let is : terms_of c.args.store.now c.args.step.now ≡ t ∷ [] = ap (terms_of c.args.store.now) c.in-Def.is in
    on_ok_weaker c.push_terms-in-Def.result (λ e. e ∙ ap (with_lines known) (sym (of_one t (terms_of c.args.store.now c.args.step.now) is))) c.push_terms-in-Def.ensures.known

pub returns-in-Table-clause-text : goal.returns-in-Table-clause-text
returns-in-Table-clause-text c =
    let known = trees_of c.args.store.now c.args.lines.now in
    let t = tree_at c.args.store.now c.in-Table.clause in
    let is : terms_of c.args.store.now c.args.step.now ≡ t ∷ [] = ap (terms_of c.args.store.now) c.in-Table.is in
    on_ok_weaker c.push_terms-in-Table.result (λ e. e ∙ ap (λ us. c.args.text.now.items ++ term_lines known us) (sym (of_one t (terms_of c.args.store.now c.args.step.now) is))) c.push_terms-in-Table.ensures.text

pub returns-in-Table-clause-known : goal.returns-in-Table-clause-known
returns-in-Table-clause-known c =
    let known = trees_of c.args.store.now c.args.lines.now in
    let t = tree_at c.args.store.now c.in-Table.clause in
    let is : terms_of c.args.store.now c.args.step.now ≡ t ∷ [] = ap (terms_of c.args.store.now) c.in-Table.is in
    on_ok_weaker c.push_terms-in-Table.result (λ e. e ∙ ap (with_lines known) (sym (of_one t (terms_of c.args.store.now c.args.step.now) is))) c.push_terms-in-Table.ensures.known

pub returns-in-Rup-clause-text : goal.returns-in-Rup-clause-text
returns-in-Rup-clause-text c =
    let known = trees_of c.args.store.now c.args.lines.now in
    let t = tree_at c.args.store.now c.in-Rup.clause in
    let is : terms_of c.args.store.now c.args.step.now ≡ t ∷ [] = ap (terms_of c.args.store.now) c.in-Rup.is in
    on_ok_weaker c.push_terms-in-Rup.result (λ e. e ∙ ap (λ us. c.args.text.now.items ++ term_lines known us) (sym (of_one t (terms_of c.args.store.now c.args.step.now) is))) c.push_terms-in-Rup.ensures.text

pub returns-in-Rup-clause-known : goal.returns-in-Rup-clause-known
returns-in-Rup-clause-known c =
    let known = trees_of c.args.store.now c.args.lines.now in
    let t = tree_at c.args.store.now c.in-Rup.clause in
    let is : terms_of c.args.store.now c.args.step.now ≡ t ∷ [] = ap (terms_of c.args.store.now) c.in-Rup.is in
    on_ok_weaker c.push_terms-in-Rup.result (λ e. e ∙ ap (with_lines known) (sym (of_one t (terms_of c.args.store.now c.args.step.now) is))) c.push_terms-in-Rup.ensures.known

pub returns-in_ok-push_terms-in-Subst-clause-text : goal.returns-in_ok-push_terms-in-Subst-clause-text
returns-in_ok-push_terms-in-Subst-clause-text c =
    let known = trees_of c.args.store.now c.args.lines.now in
    let s = tree_at c.args.store.now c.in-Subst.from in
    let t = tree_at c.args.store.now c.in-Subst.to in
    let is : terms_of c.args.store.now c.args.step.now ≡ s ∷ t ∷ [] = ap (terms_of c.args.store.now) c.in-Subst.is in
    let first = c.in_ok-push_terms-in-Subst.ensures.text in
    let then = c.in_ok-push_terms-in-Subst.ensures.known in
    on_ok_weaker c.push_terms-in-Subst-2.result
    (λ e. e ∙ ap (λ (bs : List ℕ). bs ++ term_lines (trees_of c.args.store.now c.push_terms-in-Subst.new.lines) (subterms t)) first
    ∙ ap (λ (ks : List Tree). (c.args.text.now.items ++ term_lines known (subterms s)) ++ term_lines ks (subterms t)) then
    ∙ append_assoc c.args.text.now.items (term_lines known (subterms s)) (term_lines (with_lines known (subterms s)) (subterms t))
    ∙ ap (λ (bs : List ℕ). c.args.text.now.items ++ bs) (sym (term_lines-append known (subterms s) (subterms t)))
    ∙ ap (λ us. c.args.text.now.items ++ term_lines known us) (sym (of_two s t (terms_of c.args.store.now c.args.step.now) is))) c.push_terms-in-Subst-2.ensures.text

pub returns-in_ok-push_terms-in-Subst-clause-known : goal.returns-in_ok-push_terms-in-Subst-clause-known
returns-in_ok-push_terms-in-Subst-clause-known c =
    let known = trees_of c.args.store.now c.args.lines.now in
    let s = tree_at c.args.store.now c.in-Subst.from in
    let t = tree_at c.args.store.now c.in-Subst.to in
    let is : terms_of c.args.store.now c.args.step.now ≡ s ∷ t ∷ [] = ap (terms_of c.args.store.now) c.in-Subst.is in
    let then = c.in_ok-push_terms-in-Subst.ensures.known in
    on_ok_weaker c.push_terms-in-Subst-2.result
    (λ e. e ∙ ap (λ (ks : List Tree). with_lines ks (subterms t)) then ∙ sym (with_lines-append known (subterms s) (subterms t))
    ∙ ap (with_lines known) (sym (of_two s t (terms_of c.args.store.now c.args.step.now) is))) c.push_terms-in-Subst-2.ensures.known

-- the other steps name no term
names_none : (ts : List Tree) (s : Step) → ((i f : ℕ) → s ≡ step.Rw i f → ⊥) → ((y : Name) (t : ℕ) → s ≡ step.Def y t → ⊥) → ((i s' t j : ℕ) → s ≡ step.Subst i s' t j → ⊥) → ((i c : ℕ) → s ≡ step.Table i c → ⊥) → ((c : ℕ) (is : List ℕ) → s ≡ step.Rup c is → ⊥)
    → terms_of ts s ≡ []
names_none ts (step.Rw i f) a b c d e = absurd (a i f refl)
names_none ts (step.Def y t) a b c d e = absurd (b y t refl)
names_none ts (step.Subst i s t j) a b c d e = absurd (c i s t j refl)
names_none ts (step.Table i k) a b c d e = absurd (d i k refl)
names_none ts (step.Rup k is) a b c d e = absurd (e k is refl)
names_none ts (step.Keep is) a b c d e = refl
names_none ts (step.Part i k) a b c d e = refl
names_none ts (step.IteParts i) a b c d e = refl
names_none ts (step.Range i) a b c d e = refl
names_none ts (step.Bits x bs) a b c d e = refl
names_none ts (step.Bit x p) a b c d e = refl
names_none ts (step.Mul w z) a b c d e = refl
names_none ts (step.Add v w ns) a b c d e = refl
names_none ts (step.Cmp w z ns) a b c d e = refl
names_none ts (step.Eqc w z ns) a b c d e = refl

pub returns-in_default : goal.returns-in_default
returns-in_default c =
    let known = trees_of c.args.store.now c.args.lines.now in
    let d = c.in_default in
    let none : subterms_of (terms_of c.args.store.now c.args.step.now) ≡ [] = of_none (terms_of c.args.store.now c.args.step.now) (names_none c.args.store.now c.args.step.now d.not-Rw d.not-Def d.not-Subst d.not-Table d.not-Rup) in
    record {
      text = sym (append-nil c.args.text.now.items) ∙ ap (λ (bs : List ℕ). c.args.text.now.items ++ bs) (sym (ap (term_lines known) none ∙ (none_more known).0));
      known = sym (ap (with_lines known) none ∙ (none_more known).1);
      lines = c.requires.lines;
    }
