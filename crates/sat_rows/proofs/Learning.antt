-- Learnt lines are lemmas.
use Rattle.std.proofs.Common.{◌≡◌, ◌≢◌, ℕ, ◌+◌, suc, ◌<◌, true, false, not, ◌&&◌, List, [], ◌∷◌, ◌++◌, length, Contains, inl, inr, refl, sym, ap, subst, ◌∙◌, arith, append_assoc, append-nil, Some, None, is_some, if◌then◌else◌}
use Rattle.std.specs.List.{list_all}
use Rattle.qterm.specs.declared.name.Name.{Name}
use Rattle.qterm.specs.Tree.{Tree}
use Rattle.qterm.proofs.Members.{Contains_none, Contains_cases}
use Rattle.qgoal.specs.Meaning.{HasName}
use Rattle.rup.specs.declared.literal.Lit.{Lit as Numbered}
use Rattle.rup.specs.Literals as numbers
use Rattle.rup.proofs.Bools.{and_left, and_right, not_true_from}
use Rattle.tac_cert.specs.Clauses.{Lit, lits_of}
use Rattle.tac_cert.specs.Rup.{has, has_pair}
use Rattle.sat_core.specs.declared.solver.RupLine.{RupLine}
use Rattle.sat_core.specs.Clauses.{is_empty, contains_none}
use Rattle.sat_core.specs.Lines as lines
use Rattle.sat_core.specs.Lines.{learnt}
use Rattle.sat_clauses.specs.Coding.{lit_with, clause_with, AreBelow, AllBelow, AreRead, AreDifferent, IsFirstOther}
use Rattle.sat_clauses.proofs.Following.{rup_follows, pairs_same, contains_same}
use Rattle.sat_clauses.proofs.Reading.{read_push, all_below_push}
use Rattle.sat_lines.specs.Terms.{clause_tree, AreBool}
use Rattle.sat_lines.specs.Lines.{line_trees, LinesBelow}
use Rattle.sat_lines.proofs.Formed.{clause_read}
use Rattle.reducer_iface.specs.Lemmas.{first_other, AreClauses, holds_all, AreLemmas}

some_same : {X : Type 0} (x y : X) → Some x ≡ Some y → x ≡ y
some_same x y e = cc

-- ---- one lemma
not_none : (f : ℕ → Name) (c : List Numbered) → is_empty c ≡ false → clause_with f c ≢ []
not_none f [] e = cc
not_none f (l ∷ c) e = λ h. (let z = ap length h in omega (arith, z))

named : (f : ℕ → Name) (v : ℕ) (cs : List Tree) (c : List Numbered) (l : Lit) → ((k : ℕ) → k < v → HasName cs (f k)) → AreBelow v c → Contains (clause_with f c) l → HasName cs l.name
named f v cs [] l h b k = absurd (Contains_none l k)
named f v cs (m ∷ c) l h b k = elim (Contains_cases (lit_with f m) (clause_with f c) l k) [
  | inl e ↦ subst (λ (x : Lit). HasName cs x.name) (sym e) (h m.var b.0)
  | inr q ↦ named f v cs c l h b.1 q
]

none_within : (known : List (List Numbered)) (c : List Numbered) (f : ℕ → Name) (v : ℕ) (ts : List Tree) (t : Tree) (d : List Lit) → AreDifferent v f → AreRead f ts known → AllBelow v known → AreBelow v c → contains_none known c ≡ true → Contains ts t → lits_of t ≡ Some d → holds_all (clause_with f c) d ≡ false
none_within [] c f v [] t d a r b n h k e = absurd (Contains_none t k)
none_within (x ∷ known) c f v (u ∷ ts) t d a r b n h k e = elim (Contains_cases u ts t k) [
  | inl q ↦ (let is : clause_with f x ≡ d = some_same (clause_with f x) d (sym r.0 ∙ ap lits_of (sym q) ∙ e) in
      ap (list_all (has (clause_with f c))) (sym is) ∙ contains_same f v c x a n b.0 ∙ not_true_from (numbers.within x c) (and_left (not (numbers.within x c)) (contains_none known c) h))
  | inr q ↦ none_within known c f v ts t d a r.1 b.1 n (and_right (not (numbers.within x c)) (contains_none known c) h) q e
]
none_within [] c f v (u ∷ ts) t d a r b n h k e = absurd r
none_within (x ∷ known) c f v [] t d a r b n h k e = absurd r

lemmas : (f : ℕ → Name) (v : ℕ) (cs before : List Tree) (known : List (List Numbered)) (ls : List RupLine) → AreDifferent v f → AreBool v f → ((k : ℕ) → k < v → HasName cs (f k)) → AreRead f (cs ++ before) known → AllBelow v known → LinesBelow v ls → learnt known ls ≡ true →
    AreLemmas cs before (line_trees f ls)
lemmas f v cs before known [] d b h r n m e = tt
lemmas f v cs before known (line ∷ ls) d b h r n m e =
    let c = line.clause in
    let t = clause_tree f c in
    let here = lines.follows known line && lines.is_new known c in
    let rest = learnt (known ++ c ∷ []) ls in
    let one = and_left here rest e in
    let follows = and_left (lines.follows known line) (lines.is_new known c) one in
    let new = and_right (lines.follows known line) (lines.is_new known c) one in
    let more = and_right (not (is_empty c)) (not (numbers.has_pair c) && contains_none known c) new in
    let read = clause_read f v c b m.0 in (
      record {
        lits = clause_with f c;
        clause = read;
        some = not_none f c (not_true_from (is_empty c) (and_left (not (is_empty c)) (not (numbers.has_pair c) && contains_none known c) new));
        plain = pairs_same f v c d m.0 ∙ not_true_from (numbers.has_pair c) (and_left (not (numbers.has_pair c)) (contains_none known c) more);
        names = λ l k. named f v cs c l h m.0 k;
        hints = line.hints.items;
        follows = rup_follows f v (cs ++ before) known t c line.hints.items d r n m.0 read follows;
        apart = λ u x k q. none_within known c f v (cs ++ before) u x d r n m.0 (and_right (not (numbers.has_pair c)) (contains_none known c) more) k q;
      },
      lemmas f v cs (before ++ t ∷ []) (known ++ c ∷ []) ls d b h (subst (λ us. AreRead f us (known ++ c ∷ [])) (append_assoc cs before (t ∷ [])) (read_push f (cs ++ before) known t c r read)) (all_below_push v known c n m.0) m.1 (and_right here rest e),
    )

pub all_lemmas : (f : ℕ → Name) (v : ℕ) (cs : List Tree) (known : List (List Numbered)) (ls : List RupLine) → AreDifferent v f → AreBool v f → ((k : ℕ) → k < v → HasName cs (f k)) → AreRead f cs known → AllBelow v known → LinesBelow v ls → learnt known ls ≡ true → AreLemmas cs [] (line_trees f ls)
all_lemmas f v cs known ls d b h r n m e = lemmas f v cs [] known ls d b h (subst (λ us. AreRead f us known) (sym (append-nil cs)) r) n m e

-- ---- which formulas are clauses
all_read : (f : ℕ → Name) (cs : List Tree) (known : List (List Numbered)) (n : ℕ) → AreRead f cs known → first_other n cs ≡ None
all_read f [] [] n r = refl
all_read f (t ∷ ts) (c ∷ cs) n r = ap (λ o. if is_some o then first_other (n + 1) ts else Some n) r.0 ∙ all_read f ts cs (n + 1) r.1
all_read f [] (c ∷ cs) n r = absurd r
all_read f (t ∷ ts) [] n r = absurd r

pub are_clauses : (f : ℕ → Name) (cs : List Tree) (known : List (List Numbered)) → AreRead f cs known → AreClauses cs
are_clauses f cs known r = all_read f cs known 1 r

other_from : (f : ℕ → Name) (before after : List Tree) (t : Tree) (known : List (List Numbered)) (n : ℕ) → AreRead f before known → lits_of t ≡ None → first_other n (before ++ t ∷ after) ≡ Some (n + length before)
other_from f [] after t [] n r e = let z : n ≡ n + 0 = omega arith in ap (λ o. if is_some o then first_other (n + 1) after else Some n) e ∙ ap Some z
other_from f (u ∷ before) after t (c ∷ known) n r e =
    let z : (n + 1) + length before ≡ n + suc (length before) = omega arith in
    ap (λ o. if is_some o then first_other (n + 1) (before ++ t ∷ after) else Some n) r.0 ∙ other_from f before after t known (n + 1) r.1 e ∙ ap Some z
other_from f [] after t (c ∷ known) n r e = absurd r
other_from f (u ∷ before) after t [] n r e = absurd r

pub first_is : (f : ℕ → Name) (cs : List Tree) (i : ℕ) → IsFirstOther f cs i → first_other 1 cs ≡ Some i
first_is f cs i o =
    let k = o.number in
    let z : 1 + length o.before ≡ i = omega (arith, k) in
    ap (first_other 1) o.are ∙ other_from f o.before o.after o.other o.clauses 1 o.read o.no_clause ∙ ap Some z
