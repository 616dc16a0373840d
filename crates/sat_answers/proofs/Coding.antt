-- Numbered names stand for the names of the list.
use Rattle.std.proofs.Common.{◌≡◌, ℕ, zero, suc, ◌<◌, List, [], ◌∷◌, length, map, get_or, All, sym, ap, subst, ◌∙◌, arith}
use Rattle.std.proofs.lemmas.List.{get_or_default}
use Rattle.qterm.specs.declared.name.Name.{Name}
use Rattle.qterm.specs.declared.name.Sort.TheVariants as sort
use Rattle.qterm.specs.Tree.{Tree, Var, sort_of}
use Rattle.qterm.specs.Store.{tree_at, trees_of, Has, HasSort}
use Rattle.qlin.specs.Order.{name_of}
use Rattle.qsubst.specs.Names.{names_of}
use Rattle.qwalk.specs.Count.{AreApart}
use Rattle.rup.specs.declared.literal.Lit.{Lit}
use Rattle.sat_clauses.specs.Coding.{name_at, AreRead, AllBelow, AreDifferent}
use Rattle.sat_lines.specs.Terms.{StandFor}
use Rattle.sat_rows.proofs.Naming.{many, names_are, numbers_occur}
use Rattle.sat_answers.specs.Coded.{IsCoded}
use Rattle.sat_answers.proofs.Naming.{names_once, bool_names}

-- the term of a number is a name
is_name : (ts : List Tree) (vars : List ℕ) (ns : List Name) (k : ℕ) → trees_of ts vars ≡ map Var ns → k < length vars → tree_at ts (get_or vars k 0) ≡ Var (name_at ts vars k)
is_name ts [] ns k e l = absurd (omega (arith, l))
is_name ts (v ∷ vars) [] k e l = cc
is_name ts (v ∷ vars) (n ∷ ns) zero e l = let h : tree_at ts v ≡ Var n = cc in h ∙ ap (λ t. Var (name_of t)) (sym h)
is_name ts (v ∷ vars) (n ∷ ns) (suc k) e l = let rest : trees_of ts vars ≡ map Var ns = cc in is_name ts vars ns k rest (omega (arith, l))

pub differ : (ts : List Tree) (vars : List ℕ) (cs : List Tree) → trees_of ts vars ≡ map Var (names_of cs) → AreDifferent (length vars) (name_at ts vars)
differ ts vars cs e i j p q h =
    let ns = names_of cs in
    let m = many ts vars ns e in
    let d = name_at ts vars i in
    let a : i < length ns = omega (arith, p, m) in
    let b : j < length ns = omega (arith, q, m) in
    names_once cs i j d a b (names_are ts vars ns e i d a ∙ h ∙ sym (names_are ts vars ns e j d b))

pub apart : (ts : List Tree) (vars : List ℕ) (cs : List Tree) → trees_of ts vars ≡ map Var (names_of cs) → AreApart vars
apart ts vars cs e = record { apart = λ i j p q h. differ ts vars cs e i j p q (ap (λ v. name_of (tree_at ts v)) h) }

pub stands : (ts : List Tree) (vars : List ℕ) (cs : List Tree) (known : List (List Lit)) → trees_of ts vars ≡ map Var (names_of cs) → All (Has ts) vars → AreRead (name_at ts vars) cs known → StandFor ts vars (name_at ts vars)
stands ts vars cs known e has read = record {
  has = λ k l. has k 0 l;
  is = λ k l. is_name ts vars (names_of cs) k e l;
  bool = λ k l. bool_names (name_at ts vars) cs known read (name_at ts vars k) (numbers_occur ts vars cs e k l);
}

-- formulas that are read as clauses are coded by them
pub coded : (ts : List Tree) (vars : List ℕ) (cs : List Tree) (known : List (List Lit)) → trees_of ts vars ≡ map Var (names_of cs) → All (Has ts) vars → AreRead (name_at ts vars) cs known → AllBelow (length vars) known → IsCoded ts vars cs known
coded ts vars cs known e has read below = record {
  names = e;
  stand = stands ts vars cs known e has read;
  different = differ ts vars cs e;
  occur = λ k l. numbers_occur ts vars cs e k l;
  read = read;
  below = below;
}

-- the terms of the numbers are formulas
pub are_formulas : (ts : List Tree) (vars : List ℕ) (f : ℕ → Name) → StandFor ts vars f → All (HasSort sort.Bool ts) vars
are_formulas ts vars f s k d l =
    let same = get_or_default vars k d 0 l in
    subst (HasSort sort.Bool ts) (sym same) (s.has k l, ap sort_of (s.is k l) ∙ s.bool k l)
