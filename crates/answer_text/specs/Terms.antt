-- Terms as SMT-LIB 2.6 writes them (section 3.6), with one text for each tree.
use Rattle.std.specs.Prelude.{ℕ, zero, suc, ℤ, pos, negsuc, List, [], ◌∷◌, codes}
use Rattle.strat_text.specs.Spelled.{form_text, number_text}
use Rattle.symbol_text.specs.Symbols.{symbol_text}
use Rattle.qterm.specs.Tree.{Tree, Trees, True, False, Var, Num, Sum, Scale, Le, Eq, Iff, Not, And, Or, Ite, none, more}
use Rattle.qterm.specs.Store.{tree_at}

-- a form over these texts, and another text where there are none
abbrev pub form_or : List ℕ → List ℕ → List (List ℕ) → List ℕ
form_or word empty [] = empty
form_or word empty (text ∷ texts) = form_text word (text ∷ texts)

-- a product: the one with -1 is a change of sign
abbrev pub scaled : ℤ → List ℕ → List ℕ
scaled (pos n) text = form_text (codes "*") (number_text (pos n) ∷ text ∷ [])
scaled (negsuc zero) text = form_text (codes "-") (text ∷ [])
scaled (negsuc (suc n)) text = form_text (codes "*") (number_text (negsuc (suc n)) ∷ text ∷ [])

unfoldable mutual
  -- the text of a term
  pub term_text : Tree → List ℕ
  term_text True = codes "true"
  term_text False = codes "false"
  term_text (Var n) = symbol_text n.text
  term_text (Num z) = number_text z
  term_text (Sum ts) = form_or (codes "+") (codes "0") (term_texts ts)
  term_text (Scale z a) = scaled z (term_text a)
  term_text (Le a b) = form_text (codes "<=") (term_text a ∷ term_text b ∷ [])
  term_text (Eq a b) = form_text (codes "=") (term_text a ∷ term_text b ∷ [])
  term_text (Iff a b) = form_text (codes "=") (term_text a ∷ term_text b ∷ [])
  term_text (Not a) = form_text (codes "not") (term_text a ∷ [])
  term_text (And ts) = form_or (codes "and") (codes "true") (term_texts ts)
  term_text (Or ts) = form_or (codes "or") (codes "false") (term_texts ts)
  term_text (Ite c a b) = form_text (codes "ite") (term_text c ∷ term_text a ∷ term_text b ∷ [])

  -- the texts of terms in a row
  pub term_texts : Trees → List (List ℕ)
  term_texts none = []
  term_texts (more t ts) = term_text t ∷ term_texts ts

-- the text of the term of a number
abbrev pub text_at : List Tree → ℕ → List ℕ
text_at ts id = term_text (tree_at ts id)
