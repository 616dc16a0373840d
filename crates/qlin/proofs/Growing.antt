-- Forms over the terms of a store stay as it grows.
use Rattle.std.proofs.Common.{◌≡◌, ℕ, ℤ, List, [], ◌∷◌, refl, sym, subst}
use Rattle.qterm.specs.declared.name.Sort.TheVariants as sort
use Rattle.qterm.specs.Tree.{Tree}
use Rattle.qterm.specs.Store.{Extends}
use Rattle.qterm.proofs.Fitting.{HasSort_extends}
use Rattle.qlin.specs.declared.lin.Lin.{Lin}
use Rattle.qlin.specs.Lin.{parts_at, form_at, AreInts, IsRising, IsForm}

-- monomials keep their trees
pub parts_at_extends : (old new : List Tree) (ps : List (ℤ × ℕ)) → AreInts old ps → Extends old new → parts_at new ps ≡ parts_at old ps
parts_at_extends old new [] h e = refl
parts_at_extends old new (p ∷ ps) h e = λ i. (p.0, e.same p.1 h.0.0 i) ∷ parts_at_extends old new ps h.1 e i

-- and stay Int terms
pub AreInts_extends : (old new : List Tree) (ps : List (ℤ × ℕ)) → AreInts old ps → Extends old new → AreInts new ps
AreInts_extends old new [] h e = tt
AreInts_extends old new (p ∷ ps) h e = (HasSort_extends sort.Int old new p.1 e h.0, AreInts_extends old new ps h.1 e)

-- a form stays one
pub IsForm_extends : (old new : List Tree) (l : Lin) → IsForm old l → Extends old new → IsForm new l
IsForm_extends old new l h e = record {
  ints = AreInts_extends old new l.parts h.ints e;
  nonzero = h.nonzero;
  rising = subst IsRising (sym (parts_at_extends old new l.parts h.ints e)) h.rising;
}

-- and the same
pub form_at_extends : (old new : List Tree) (l : Lin) → IsForm old l → Extends old new → form_at new l ≡ form_at old l
form_at_extends old new l h e = λ i. record { parts = parts_at_extends old new l.parts h.ints e i; constant = l.constant }
