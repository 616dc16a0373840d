-- Names that are set to the values of a model make the formulas true.
use Rattle.std.proofs.Common.{◌≡◌, ℕ, zero, suc, ◌<◌, Bool as Truth, true, false, ◌&&◌, ◌||◌, List, [], ◌∷◌, length, get_or, Contains, inl, inr, refl, sym, ap, ◌∙◌, arith, if◌then◌else◌}
use Rattle.std.specs.List.{list_all}
use Rattle.qterm.specs.declared.name.Name.{Name}
use Rattle.qterm.specs.declared.name.Sort.TheVariants as sort
use Rattle.qterm.specs.Tree.{Tree}
use Rattle.qterm.proofs.Members.{Contains_none, Contains_cases}
use Rattle.qeval.specs.declared.model.Value.TheVariants.{Bool}
use Rattle.qeval.specs.Value.{Valuation, IsSorted, same_name, value_of, bool_of}
use Rattle.qeval.specs.Eval.{truth}
use Rattle.qeval.proofs.Valuations.{same_name_exact, IsSorted-with_value}
use Rattle.qgoal.specs.Meaning.{IsModel}
use Rattle.model_conv.specs.Lift.{lifted}
use Rattle.model_conv.proofs.Values.{value_of-with_value, same_name_itself}
use Rattle.rup.specs.declared.literal.Lit.{Lit as Numbered}
use Rattle.rup.specs.Literals as numbers
use Rattle.rup.proofs.Bools.{and_left, and_right}
use Rattle.sat_core.specs.Models.{value_at}
use Rattle.sat_core.specs.Models as solver
use Rattle.sat_clauses.specs.Coding.{AreBelow, AllBelow, AreRead, AreDifferent}
use Rattle.sat_clauses.specs.Models.{value_by}
use Rattle.sat_clauses.proofs.Valued.{read_models}
use Rattle.reducer_iface.specs.SatRow.{sets}
use Rattle.sat_lines.specs.Terms.{AreBool}
use Rattle.sat_rows.specs.Names.{AreNames}

-- no name of the list stands twice
abbrev Apart : List Name → Type 0
Apart ns = (i j : ℕ) (d : Name) → i < length ns → j < length ns → get_or ns i d ≡ get_or ns j d → i ≡ j

-- ---- values after setting
set_value : (ns : List Name) (bs : List Truth) (V : Valuation) (k : ℕ) (d : Name) → Apart ns → length bs ≡ length ns → k < length ns → value_of (lifted (sets ns bs) V) (get_or ns k d) ≡ Bool (value_at bs k)
set_value [] bs V k d a e l = absurd (omega (arith, l))
set_value (n ∷ ns) [] V k d a e l = absurd (omega (arith, e))
set_value (n ∷ ns) (b ∷ bs) V zero d a e l = value_of-with_value (lifted (sets ns bs) V) n (Bool b) n ∙ ap (λ s. if s then Bool b else value_of (lifted (sets ns bs) V) n) (same_name_itself n)
set_value (n ∷ ns) (b ∷ bs) V (suc k) d a e l =
    let m = get_or ns k d in
    let later = set_value ns bs V k d (λ i j x p q h. (let z = a (suc i) (suc j) x (omega (arith, p)) (omega (arith, q)) h in omega (arith, z))) (omega (arith, e)) (omega (arith, l)) in
    value_of-with_value (lifted (sets ns bs) V) n (Bool b) m ∙ ap (λ s. if s then Bool b else value_of (lifted (sets ns bs) V) m) (other (same_name n m) refl) ∙ later
  where
    other : (s : Truth) → same_name n (get_or ns k d) ≡ s → s ≡ false
    other false h = refl
    other true h = let z = a 0 (suc k) d (omega arith) l (same_name_exact n (get_or ns k d) h) in absurd (omega (arith, z))

sorted_after : (ns : List Name) (bs : List Truth) (V : Valuation) → ((k : ℕ) (d : Name) → k < length ns → (get_or ns k d).sort ≡ sort.Bool) → IsSorted V → IsSorted (lifted (sets ns bs) V)
sorted_after [] bs V b s = s
sorted_after (n ∷ ns) [] V b s = s
sorted_after (n ∷ ns) (x ∷ bs) V b s = IsSorted-with_value (lifted (sets ns bs) V) n (Bool x) (sorted_after ns bs V (λ k d l. b (suc k) d (omega (arith, l))) s) (b 0 n (omega arith))

-- ---- clauses under two valuations
clause_same : (v : ℕ) (A B : ℕ → Truth) (c : List Numbered) → ((k : ℕ) → k < v → A k ≡ B k) → AreBelow v c → numbers.clause_true A c ≡ numbers.clause_true B c
clause_same v A B [] h n = refl
clause_same v A B (l ∷ c) h n = λ i. numbers.same_sign l.positive (h l.var n.0 i) || clause_same v A B c h n.1 i

all_same : (v : ℕ) (A B : ℕ → Truth) (known : List (List Numbered)) → ((k : ℕ) → k < v → A k ≡ B k) → AllBelow v known → numbers.all_true A known ≡ numbers.all_true B known
all_same v A B [] h n = refl
all_same v A B (c ∷ known) h n = λ i. clause_same v A B c h n.0 i && all_same v A B known h n.1 i

one_holds : (V : Valuation) (ts : List Tree) (t : Tree) → list_all (truth V) ts ≡ true → Contains ts t → truth V t ≡ true
one_holds V [] t h k = absurd (Contains_none t k)
one_holds V (u ∷ ts) t h k = elim (Contains_cases u ts t k) [
  | inl e ↦ ap (truth V) e ∙ and_left (truth V u) (list_all (truth V) ts) h
  | inr q ↦ one_holds V ts t (and_right (truth V u) (list_all (truth V) ts) h) q
]

pub found_model : (f : ℕ → Name) (ns : List Name) (cs : List Tree) (known : List (List Numbered)) (values : List Truth) → AreNames ns f → AreDifferent (length ns) f → AreBool (length ns) f → AreRead f cs known → AllBelow (length ns) known → solver.IsModel (length ns) known values → (V : Valuation) → IsSorted V
    → IsModel (lifted (sets ns values) V) cs
found_model f ns cs known values are different bool read below model V s = record {
  sorted = sorted_after ns values V (λ k d l. ap (λ (n : Name). n.sort) (are k d l) ∙ bool k l) s;
  holds = λ t k. one_holds W cs t (read_models W f cs known read ∙ all_same (length ns) (value_by W f) (value_at values) known values_are below ∙ model.true_under) k;
}
  where
    W : Valuation
    W = lifted (sets ns values) V

    apart : Apart ns
    apart i j d p q h = different i j p q (sym (are i d p) ∙ h ∙ are j d q)

    values_are : (k : ℕ) → k < length ns → value_by W f k ≡ value_at values k
    values_are k l = ap (λ n. bool_of (value_of W n)) (sym (are k (f k) l)) ∙ ap bool_of (set_value ns values V k (f k) apart model.size l)
