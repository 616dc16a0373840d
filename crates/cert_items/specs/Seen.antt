-- The terms that items are made of, and the names that terms don't have.
use Rattle.std.specs.Prelude.{◌≡◌, ℕ, ℤ, false, List, [], ◌∷◌, ◌++◌, map, Contains}
use Rattle.qterm.specs.declared.name.Name.{Name}
use Rattle.qterm.specs.Tree.{Tree}
use Rattle.qterm.specs.Store.{tree_at}
use Rattle.tac_cert.specs.Names.{in_tree}
use Rattle.cert_items.specs.declared.held.Held.{Held}
use Rattle.cert_items.specs.declared.held.Held.TheVariants as variant

-- the monomials of a form
abbrev pub monomials : List (ℤ × ℕ) → List ℕ
monomials ps = map (λ p. p.1) ps

-- the terms that an item is made of: a formula; the monomials and bits of a word
abbrev pub roots : Held → List ℕ
roots (variant.Formula i) = i ∷ []
roots (variant.OfWord w) = monomials w.form.parts ++ w.bits

abbrev pub all_roots : List Held → List ℕ
all_roots [] = []
all_roots (h ∷ hs) = roots h ++ all_roots hs

-- none of these terms has a name with the text of one of the names
abbrev pub IsApart : List Tree → List Name → List ℕ → Type 0
IsApart ts ns ks = (k : ℕ) → Contains ks k → in_tree ns (tree_at ts k) ≡ false
