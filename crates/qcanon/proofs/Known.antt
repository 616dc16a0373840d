-- What is known of terms, over a store that grows.
use Rattle.std.proofs.Common.{◌≡◌, ℕ, refl, sym, ap, subst, ◌∙◌, Bool as Truth, true, false, List, Some, Ok, cond, nat_eq, eqb-true}
use Rattle.std.specs.HashMap.{get}
use Rattle.qterm.specs.Tree.{Tree, sort_of}
use Rattle.qterm.specs.Store.{Has, Extends, tree_at}
use Rattle.qterm.proofs.Fitting.{Has_extends}
use Rattle.qwalk.specs.Walk.{same_id}
use Rattle.qlin.specs.Canon.{canon}
use Rattle.qcanon_laws.proofs.Sorts.{Good, Finds, canon_good}
use Rattle.qcanon_laws.proofs.Closed.{its_own}
use Rattle.qnegation.specs.Negation.{AreNegations}
use Rattle.qnegation.proofs.Negated.{AreNegations_extends}
use Rattle.qcanon.specs.declared.forms.Forms.{Forms}
use Rattle.qcanon.specs.declared.chain.Outcome.{Outcome}
use Rattle.qcanon.specs.declared.chain.Outcome.TheVariants.{Canonical}
use Rattle.qcanon.specs.declared.chain.Answer.{Answer}
use Rattle.qcanon.specs.declared.chain.Answer.TheVariants.{Found}
use Rattle.qcanon.specs.Chain.{IsAnswer, AreSettled, AreForms}
use Rattle.qcanon.proofs.Nesting.{IsAnswer_extends, AreSettled_extends}

-- the tables stay right
pub AreForms_extends : (ts us : List Tree) (f : Forms) → Extends ts us → AreForms ts f → AreForms us f
AreForms_extends ts us f e h = record {
  known = λ i a g.
      let r = h.known i a g in
      (Has_extends ts us i e r.0, subst (λ t. IsAnswer us t a) (sym (e.same i r.0)) (IsAnswer_extends ts us (tree_at ts i) a e r.1));
  negations = AreNegations_extends ts us f.negations e h.negations;
  settled = AreSettled_extends ts us f.settled e h.settled;
}

-- what is known stays, with other tables beside it
pub AreForms_with : (ts us : List Tree) (old new : Forms) → Extends ts us → AreForms ts old → new.known ≡ old.known → AreNegations us new.negations → AreSettled us new.settled → AreForms us new
AreForms_with ts us old new e h k n s = record { known = subst (λ m. (i : ℕ) (a : Answer) → get same_id m i ≡ Some a → Has us i × IsAnswer us (tree_at us i) a) (sym k) (AreForms_extends ts us old e h).known; negations = n; settled = s }

-- only the settled terms change
pub AreForms_settled : (ts us : List Tree) (old new : Forms) → Extends ts us → AreForms ts old → new.known ≡ old.known → new.negations ≡ old.negations → AreSettled us new.settled → AreForms us new
AreForms_settled ts us old new e h k n s = AreForms_with ts us old new e h k (subst (AreNegations us) (sym n) (AreNegations_extends ts us old.negations e h.negations)) s

-- one more answer
pub AreForms-put : (ts : List Tree) (old new : Forms) (i : ℕ) (a : Answer) → Has ts i → IsAnswer ts (tree_at ts i) a → AreForms ts old
    → ((j : ℕ) → get same_id new.known j ≡ cond (nat_eq i j) (Some a) (get same_id old.known j)) → new.negations ≡ old.negations → new.settled ≡ old.settled → AreForms ts new
AreForms-put ts old new i a h r f m n s = record {
  known = λ j b g. by j b (nat_eq i j) refl (sym (m j) ∙ g);
  negations = subst (AreNegations ts) (sym n) f.negations;
  settled = subst (AreSettled ts) (sym s) f.settled;
}
  where
    Right : ℕ → Answer → Type 0
    Right j b = Has ts j × IsAnswer ts (tree_at ts j) b

    opened : (p q : Answer) → Some p ≡ Some q → p ≡ q
    opened p q e = cc

    by : (j : ℕ) (b : Answer) (c : Truth) → nat_eq i j ≡ c → cond c (Some a) (get same_id old.known j) ≡ Some b → Right j b
    by j b true e g = subst (λ x. Right x b) (eqb-true i j e) (subst (Right i) (opened a b g) (h, r))
    by j b false e g = f.known j b g

-- the same answers
pub AreForms-same : (ts : List Tree) (old new : Forms) → AreForms ts old → ((j : ℕ) → get same_id new.known j ≡ get same_id old.known j) → new.negations ≡ old.negations → new.settled ≡ old.settled → AreForms ts new
AreForms-same ts old new f m n s = record {
  known = λ j b g. f.known j b (sym (m j) ∙ g);
  negations = subst (AreNegations ts) (sym n) f.negations;
  settled = subst (AreSettled ts) (sym s) f.settled;
}

-- a canonical term that a term has is its own canonical term
own_answer : (ts : List Tree) (t : Tree) (c : ℕ) → IsAnswer ts t (Found (Canonical c)) → IsAnswer ts (tree_at ts c) (Found (Canonical c))
own_answer ts t c h =
    let e : canon t ≡ Ok (tree_at ts c) = h.right.1 in
    let g : Good (sort_of t) (tree_at ts c) = subst (Finds (Good (sort_of t))) e (canon_good t h.lawful) in
    record { lawful = g.0; right = (h.right.0, its_own t (tree_at ts c) h.lawful e) }

pub form_answer : (ts : List Tree) (t : Tree) (a : Answer) (o : Outcome) (c : ℕ) → a ≡ Found o → o ≡ Canonical c → IsAnswer ts t a → Has ts c × IsAnswer ts (tree_at ts c) a
form_answer ts t a o c e f h =
    let q : a ≡ Found (Canonical c) = e ∙ ap Found f in
    let r = subst (IsAnswer ts t) q h in
    (r.right.0, subst (IsAnswer ts (tree_at ts c)) (sym q) (own_answer ts t c r))
