-- The numbers of clauses, as more and more of them are read.
use Rattle.std.proofs.Common.{◌≡◌, ◌∙◌, ap, sym, ℤ, pos, List, [], ◌∷◌, ◌++◌, map}
use Rattle.std.proofs.lemmas.List.{append_assoc, append-nil, map-append}
use Rattle.rup.specs.declared.literal.Lit.{Lit}
use Rattle.clause_bench.specs.Written.{number, written}

-- one clause more
pub written-snoc : (cs : List (List Lit)) (c : List Lit) → written (cs ++ c ∷ []) ≡ written cs ++ (map number c ++ pos 0 ∷ [])
written-snoc [] c = append-nil (map number c ++ pos 0 ∷ [])
written-snoc (d ∷ cs) c = ap (λ ns. (map number d ++ pos 0 ∷ []) ++ ns) (written-snoc cs c) ∙ sym (append_assoc (map number d ++ pos 0 ∷ []) (written cs) (map number c ++ pos 0 ∷ []))

-- a 0 ends the clause that is open
pub after_end : (cs : List (List Lit)) (c : List Lit) (ns : List ℤ) → written cs ++ map number c ≡ ns → written (cs ++ c ∷ []) ++ [] ≡ ns ++ pos 0 ∷ []
after_end cs c ns h = append-nil (written (cs ++ c ∷ [])) ∙ written-snoc cs c ∙ sym (append_assoc (written cs) (map number c) (pos 0 ∷ [])) ∙ ap (λ ms. ms ++ pos 0 ∷ []) h

-- another number is a literal more of the clause that is open
pub after_lit : (cs : List (List Lit)) (c : List Lit) (l : Lit) (ns : List ℤ) → written cs ++ map number c ≡ ns → written cs ++ map number (c ++ l ∷ []) ≡ ns ++ number l ∷ []
after_lit cs c l ns h = ap (λ ms. written cs ++ ms) (map-append number c (l ∷ [])) ∙ sym (append_assoc (written cs) (map number c) (number l ∷ [])) ∙ ap (λ ms. ms ++ number l ∷ []) h
