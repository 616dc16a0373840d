-- The lemmas of a clause solver, as formulas: clauses that follow one after the other, each of them new.
use Rattle.std.specs.Prelude.{◌≡◌, ◌≢◌, ℕ, ◌+◌, Bool as Truth, true, false, List, [], ◌∷◌, ◌++◌, Contains, Option, Some, None, is_some, if◌then◌else◌}
use Rattle.std.specs.List.{list_all}
use Rattle.qterm.specs.Tree.{Tree}
use Rattle.qgoal.specs.Meaning.{HasName}
use Rattle.tac_cert.specs.Clauses.{Lit, lits_of}
use Rattle.tac_cert.specs.Rup.{has, has_pair, is_rup}
use Rattle.tac_cert.specs.Accepts.{as_items}

-- the number, from n on, of the first formula that is no clause
abbrev pub first_other : ℕ → List Tree → Option ℕ
first_other n [] = None
first_other n (f ∷ fs) = if is_some (lits_of f) then first_other (n + 1) fs else Some n

-- each of the formulas is a clause
abbrev pub AreClauses : List Tree → Type 0
AreClauses fs = first_other 1 fs ≡ None

-- each literal of the second clause stands in the first
abbrev pub holds_all : List Lit → List Lit → Truth
holds_all c d = list_all (has c) d

-- the clause contains none of the clauses
abbrev pub IsApart : List Tree → List Lit → Type 0
IsApart fs c = (f : Tree) (d : List Lit) → Contains fs f → lits_of f ≡ Some d → holds_all c d ≡ false

-- a lemma over the clauses cs, with the lemmas before it: a clause over their names with a literal, and without one beside its negation, which follows by reverse unit propagation, and contains none of them
pub record IsLemma (cs before : List Tree) (f : Tree) : Type 0 where
  pub lits : List Lit
  pub clause : lits_of f ≡ Some lits
  pub some : lits ≢ []
  pub plain : has_pair lits ≡ false
  pub names : (l : Lit) → Contains lits l → HasName cs l.name
  pub hints : List ℕ
  pub follows : is_rup (as_items (cs ++ before)) f hints ≡ true
  pub apart : IsApart (cs ++ before) lits

-- each is a lemma over the clauses, with the ones before it
abbrev pub AreLemmas : List Tree → List Tree → List Tree → Type 0
AreLemmas cs before [] = Unit {0}
AreLemmas cs before (f ∷ fs) = IsLemma cs before f × AreLemmas cs (before ++ f ∷ []) fs
