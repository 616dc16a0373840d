-- Items of a certificate that are formulas, with the steps that lead to them, and places among them.
use Rattle.std.specs.Prelude.{◌≡◌, ◌∷◌, ℕ, suc, List, [], map, All, slice_get, Some}
use Rattle.qterm.specs.Tree.{Tree}
use Rattle.qterm.specs.Store.{trees_of, Has}
use Rattle.qlin.specs.CanonList.{tidied}
use Rattle.tac_cert.specs.Items.{Item}
use Rattle.tac_cert.specs.Accepts.{as_items}
use Rattle.proof_conv.specs.Leaves.{StepsLeave}
use Rattle.reduce_base.specs.declared.trace.Trace.{Trace}
use Rattle.reduce_base.specs.declared.places.Place.{Place}

-- the items, over the trees of a store
abbrev pub shown : List Tree → Trace → List Item
shown ts t = as_items (trees_of ts t.items.items)

-- from whatever items the steps of the first lead to its items, those of the second lead to the second's
abbrev pub LeadsOn : List Tree → Trace → Trace → Type 0
LeadsOn ts t u = (items : List Item) → StepsLeave ts items t.steps (shown ts t) → StepsLeave ts items u.steps (shown ts u)

-- the formula c is the item of that number, from 1
pub record IsAt (is : List ℕ) (number c : ℕ) : Type 0 where
  pub place : ℕ
  pub numbered : number ≡ suc place
  pub there : slice_get is place ≡ Some c

-- each place has the number of its formula
abbrev pub ArePlaced : List ℕ → List Place → Type 0
ArePlaced is [] = Unit {0}
ArePlaced is (p ∷ ps) = IsAt is p.number p.id × ArePlaced is ps

-- the places are those of the canonical list of formulas whose canonical forms these are
pub record AreChosen (ts : List Tree) (is forms : List ℕ) (ps : List Place) : Type 0 where
  pub placed : ArePlaced is ps
  pub tidy : trees_of ts (map (λ p. p.id) ps) ≡ tidied (trees_of ts forms)
  pub known : All (Has ts) (map (λ p. p.id) ps)
