-- The state of a walk over the trees of a store: the items, the terms below them, the bounds of names, and for each item what
-- there was before it.
use Rattle.std.specs.Prelude.{◌≡◌, ◌++◌, ◌∷◌, [], ℕ, List, take, Option, Some, None}
use Rattle.std.specs.List.{Contains}
use Rattle.qterm.specs.Tree.{Tree, Var}
use Rattle.qterm.specs.Store.{tree_at, Has}
use Rattle.qterm.specs.declared.name.Name.{Name}
use Rattle.cert_items.specs.declared.held.Held.{Held}
use Rattle.cert_items.specs.declared.held.Held.TheVariants as variant
use Rattle.cert_items.specs.declared.state.State.{State}
use Rattle.cert_items.specs.declared.state.Mark.{Mark}
use Rattle.cert_items.specs.declared.state.Change.{Change}
use Rattle.cert_items.specs.declared.bounds.Bounds.{Bounds}
use Rattle.cert_items.specs.Held.{shown_all, AllIn}
use Rattle.qwalk.specs.Seen.{AreSubterms}
use Rattle.cert_items.specs.Seen.{all_roots}
use Rattle.cert_items.specs.Bounded.{no_bounds, bounds_in, given_of, tightened}
use Rattle.tac_cert.specs.Items.{Item}
use Rattle.tac_cert.specs.Bounds.{low, up}

-- the items, as trees
abbrev pub items_of : List Tree → State → List Item
items_of ts s = shown_all ts s.items

-- the bounds of a name among items
abbrev pub bounds_of : List Item → Name → Bounds
bounds_of items x = record { low = low items x; up = up items x }

-- the bounds of the name that a term is
abbrev pub AreBounds : List Tree → List Item → ℕ → Bounds → Type 0
AreBounds ts items i b = (x : Name) → tree_at ts i ≡ Var x → b ≡ bounds_of items x

-- what is noted of the items is right: they are there, ks are the terms below them, and m has the bounds of names
pub record AreNoted (ts : List Tree) (hs : List Held) (ks : List ℕ) (m : ℕ → Bounds) : Type 0 where
  pub items : AllIn ts hs
  pub seen : AreSubterms ts (all_roots hs) ks
  pub clean : (i : ℕ) → (Contains ks i → ⊥) → m i ≡ no_bounds
  pub right : (i : ℕ) → Contains ks i → AreBounds ts (shown_all ts hs) i (m i)

-- l are the bounds before a change to m
abbrev pub IsBefore : (ℕ → Bounds) → (ℕ → Bounds) → Option Change → Type 0
IsBefore l m None = (i : ℕ) → l i ≡ m i
IsBefore l m (Some c) = (l c.name ≡ c.was) × ((i : ℕ) → (i ≡ c.name → ⊥) → l i ≡ m i)

-- a mark for each item leads back to what was noted before it
pub data IsMarked (ts : List Tree) : List Held → List ℕ → (ℕ → Bounds) → List Mark → Type 0 where
  first : (hs : List Held) (ks : List ℕ) (m : ℕ → Bounds) (marks : List Mark) → hs ≡ [] → marks ≡ [] → AreNoted ts hs ks m → IsMarked ts hs ks m marks
  later : (gs : List Held) (js : List ℕ) (l : ℕ → Bounds) (ns : List Mark) (h : Held) (n : Mark) (hs : List Held) (ks : List ℕ) (m : ℕ → Bounds) (marks : List Mark)
      → IsMarked ts gs js l ns → hs ≡ gs ++ h ∷ [] → marks ≡ ns ++ n ∷ [] → take n.seen ks ≡ js → IsBefore l m n.change → AreNoted ts hs ks m → IsMarked ts hs ks m marks

abbrev pub IsState : List Tree → State → Type 0
IsState ts s = IsMarked ts s.items s.seen (bounds_in s.bounds) s.marks.items

-- what an item makes of the bounds m: those that it gives tighten the bounds of one name
abbrev pub given_item : List Tree → Held → Option (Tree × Bounds)
given_item ts (variant.Formula i) = given_of (tree_at ts i)
given_item ts (variant.OfWord w) = None

pub record Tightens (ts : List Tree) (h : Held) (m n : ℕ → Bounds) (c : Change) (g : Bounds) : Type 0 where
  pub has : Has ts c.name
  pub given : given_item ts h ≡ Some (tree_at ts c.name, g)
  pub was : m c.name ≡ c.was
  pub is : n c.name ≡ tightened c.was g
  pub others : (i : ℕ) → (i ≡ c.name → ⊥) → m i ≡ n i

abbrev pub Changed : List Tree → Held → (ℕ → Bounds) → (ℕ → Bounds) → Option Change → Type 0
Changed ts h m n None = (given_item ts h ≡ None) × ((i : ℕ) → m i ≡ n i)
Changed ts h m n (Some c) = (g : Bounds) × Tightens ts h m n c g

-- what a change to the bounds was made to is there again
abbrev pub IsRestored : Option Change → (ℕ → Bounds) → (ℕ → Bounds) → Type 0
IsRestored None m n = (i : ℕ) → n i ≡ m i
IsRestored (Some c) m n = (n c.name ≡ c.was) × ((i : ℕ) → (i ≡ c.name → ⊥) → n i ≡ m i)
