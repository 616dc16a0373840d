-- Probes as trees of words: their texts are the written ones, and their forms are read as them.
use Rattle.std.proofs.Common.{◌≡◌, ℕ, suc, ◌+◌, ◌^◌, ◌<◌, max, Bool, true, false, not, nat_le, ℤ, pos, negsuc, List, [], ◌∷◌, ◌++◌, length, map, Some, Ok, refl, ap, sym, subst, ◌∙◌, arith}
use Rattle.std.specs.Prelude.{⊤, codes, decimal, nat_abs, neg_ℤ}
use Rattle.std.proofs.lemmas.Bool.Decides.{nat_tests}
use Rattle.sexp_read.specs.declared.sexp.AtomKind.TheVariants.{Symbol, Numeral}
use Rattle.strat_text.specs.declared.words.Operator.{Operator}
use Rattle.strat_text.specs.declared.words.Operator.TheVariants as operator
use Rattle.strat_text.specs.declared.probe.ProbeExpr.{ProbeExpr}
use Rattle.strat_text.specs.declared.probe.ProbeExpr.TheVariants as probe
use Rattle.strat_text.specs.declared.probe.ProbeExpr.TheOpen.{ProbeExpr-F}
use Rattle.strat_text.specs.declared.probe.ProbeExpr.TheFolds.{fold-ProbeExpr}
use Rattle.strat_text.specs.Allowed.{allowed_probe_layer, is_allowed_probe, all_true, greatest}
use Rattle.strat_text.specs.Nesting.{number_nesting, probe_nesting_layer, probe_nesting}
use Rattle.strat_text.specs.Number.{is_wide, number_of}
use Rattle.strat_text.specs.Reading.{and_then, least_of, read_probe, read_probes, probe_number, probe_form}
use Rattle.strat_text.specs.Spelled.{spaced, form_text, number_text, probe_layer, spelled_probe}
use Rattle.strat_text.specs.Words.{operator_of, probe_named}
use Rattle.strat_text.proofs.Layers.{fold-Size, fold-NumExprs, fold-Depth, fold-NumConsts, fold-IsPropositional, fold-IsCanonical, fold-IsBounded, fold-Is01, fold-MaxBits, fold-Num, fold-Lt, fold-Le, fold-Gt, fold-Ge, fold-Eq, fold-And, fold-Or, fold-Not, EachProbe, ProbeForms, by_ProbeForms}
use Rattle.strat_text.proofs.Numerals.{and_left, and_right, symbol_word, numeral_word, numeral-decimal, value-decimal, narrow_small}
use Rattle.strat_text.proofs.Trees.{Tree, leaf, branch, Trees, nil, cons, print, prints, Good, AreGood, nests, most, form_at, forms_at}

-- trees in a row
abbrev pub trees : List Tree → Trees
trees [] = nil
trees (t ∷ ts) = cons t (trees ts)

-- a number
abbrev pub number_tree : ℤ → Tree
number_tree (pos n) = leaf Numeral (decimal n)
number_tree (negsuc n) = branch (codes "-") (cons (leaf Numeral (decimal (suc n))) nil)

-- one level of a probe
abbrev probe_tree_layer : ProbeExpr-F Tree → Tree
probe_tree_layer ProbeExpr-F.Size = leaf Symbol (codes "size")
probe_tree_layer ProbeExpr-F.NumExprs = leaf Symbol (codes "num-exprs")
probe_tree_layer ProbeExpr-F.Depth = leaf Symbol (codes "depth")
probe_tree_layer ProbeExpr-F.NumConsts = leaf Symbol (codes "num-consts")
probe_tree_layer ProbeExpr-F.IsPropositional = leaf Symbol (codes "is-propositional")
probe_tree_layer ProbeExpr-F.IsCanonical = leaf Symbol (codes "is-canonical")
probe_tree_layer ProbeExpr-F.IsBounded = leaf Symbol (codes "is-bounded")
probe_tree_layer ProbeExpr-F.Is01 = leaf Symbol (codes "is-01")
probe_tree_layer ProbeExpr-F.MaxBits = leaf Symbol (codes "max-bits")
probe_tree_layer (ProbeExpr-F.Num z) = number_tree z
probe_tree_layer (ProbeExpr-F.Lt a b) = branch (codes "<") (cons a (cons b nil))
probe_tree_layer (ProbeExpr-F.Le a b) = branch (codes "<=") (cons a (cons b nil))
probe_tree_layer (ProbeExpr-F.Gt a b) = branch (codes ">") (cons a (cons b nil))
probe_tree_layer (ProbeExpr-F.Ge a b) = branch (codes ">=") (cons a (cons b nil))
probe_tree_layer (ProbeExpr-F.Eq a b) = branch (codes "=") (cons a (cons b nil))
probe_tree_layer (ProbeExpr-F.And parts) = branch (codes "and") (trees parts)
probe_tree_layer (ProbeExpr-F.Or parts) = branch (codes "or") (trees parts)
probe_tree_layer (ProbeExpr-F.Not a) = branch (codes "not") (cons a nil)

-- a probe as a tree
unfoldable pub probe_tree : ProbeExpr → Tree
probe_tree = fold-ProbeExpr Tree probe_tree_layer

true_false : true ≡ false → ⊥
true_false e = cc

-- texts

-- the trees have these texts
abbrev pub RowText : Trees → List (List ℕ) → Type 0
RowText nil [] = ⊤
RowText nil (x ∷ xs) = ⊥
RowText (cons t ts) [] = ⊥
RowText (cons t ts) (x ∷ xs) = (print t ≡ x) × RowText ts xs

row_text : (ts : Trees) (xs : List (List ℕ)) → RowText ts xs → prints ts ≡ spaced xs
row_text nil [] h = refl
row_text nil (x ∷ xs) h = absurd h
row_text (cons t ts) [] h = absurd h
row_text (cons t ts) (x ∷ xs) h = ap (λ (bs : List ℕ). 32 ∷ (bs ++ prints ts)) h.0 ∙ ap (λ (bs : List ℕ). 32 ∷ (x ++ bs)) (row_text ts xs h.1)

pub branch_text : (word : List ℕ) (ts : Trees) (xs : List (List ℕ)) → RowText ts xs → print (branch word ts) ≡ form_text word xs
branch_text word ts xs h = ap (λ (bs : List ℕ). 40 ∷ (word ++ (bs ++ 41 ∷ []))) (row_text ts xs h)

pub number_told : (z : ℤ) → print (number_tree z) ≡ number_text z
number_told (pos n) = refl
number_told (negsuc n) = refl

HasText : ProbeExpr → Type 0
HasText p = print (probe_tree p) ≡ spelled_probe p

each_text : (ps : List ProbeExpr) → EachProbe HasText ps → RowText (trees (map probe_tree ps)) (map spelled_probe ps)
unfolding HasText
each_text [] h = tt
each_text (p ∷ ps) h = (h.0, each_text ps h.1)

probe_texts : ProbeForms HasText
unfolding HasText probe_tree spelled_probe
probe_texts = record {
  in_Size = ap print (fold-Size Tree probe_tree_layer) ∙ sym (fold-Size (List ℕ) probe_layer);
  in_NumExprs = ap print (fold-NumExprs Tree probe_tree_layer) ∙ sym (fold-NumExprs (List ℕ) probe_layer);
  in_Depth = ap print (fold-Depth Tree probe_tree_layer) ∙ sym (fold-Depth (List ℕ) probe_layer);
  in_NumConsts = ap print (fold-NumConsts Tree probe_tree_layer) ∙ sym (fold-NumConsts (List ℕ) probe_layer);
  in_IsPropositional = ap print (fold-IsPropositional Tree probe_tree_layer) ∙ sym (fold-IsPropositional (List ℕ) probe_layer);
  in_IsCanonical = ap print (fold-IsCanonical Tree probe_tree_layer) ∙ sym (fold-IsCanonical (List ℕ) probe_layer);
  in_IsBounded = ap print (fold-IsBounded Tree probe_tree_layer) ∙ sym (fold-IsBounded (List ℕ) probe_layer);
  in_Is01 = ap print (fold-Is01 Tree probe_tree_layer) ∙ sym (fold-Is01 (List ℕ) probe_layer);
  in_MaxBits = ap print (fold-MaxBits Tree probe_tree_layer) ∙ sym (fold-MaxBits (List ℕ) probe_layer);
  in_Num = λ z. ap print (fold-Num Tree probe_tree_layer z) ∙ number_told z ∙ sym (fold-Num (List ℕ) probe_layer z);
  in_Lt = λ a ha b hb. ap print (fold-Lt Tree probe_tree_layer a b) ∙ branch_text (codes "<") (cons (probe_tree a) (cons (probe_tree b) nil)) (spelled_probe a ∷ spelled_probe b ∷ []) (ha, (hb, tt)) ∙ sym (fold-Lt (List ℕ) probe_layer a b);
  in_Le = λ a ha b hb. ap print (fold-Le Tree probe_tree_layer a b) ∙ branch_text (codes "<=") (cons (probe_tree a) (cons (probe_tree b) nil)) (spelled_probe a ∷ spelled_probe b ∷ []) (ha, (hb, tt)) ∙ sym (fold-Le (List ℕ) probe_layer a b);
  in_Gt = λ a ha b hb. ap print (fold-Gt Tree probe_tree_layer a b) ∙ branch_text (codes ">") (cons (probe_tree a) (cons (probe_tree b) nil)) (spelled_probe a ∷ spelled_probe b ∷ []) (ha, (hb, tt)) ∙ sym (fold-Gt (List ℕ) probe_layer a b);
  in_Ge = λ a ha b hb. ap print (fold-Ge Tree probe_tree_layer a b) ∙ branch_text (codes ">=") (cons (probe_tree a) (cons (probe_tree b) nil)) (spelled_probe a ∷ spelled_probe b ∷ []) (ha, (hb, tt)) ∙ sym (fold-Ge (List ℕ) probe_layer a b);
  in_Eq = λ a ha b hb. ap print (fold-Eq Tree probe_tree_layer a b) ∙ branch_text (codes "=") (cons (probe_tree a) (cons (probe_tree b) nil)) (spelled_probe a ∷ spelled_probe b ∷ []) (ha, (hb, tt)) ∙ sym (fold-Eq (List ℕ) probe_layer a b);
  in_And = λ ps h. ap print (fold-And Tree probe_tree_layer ps) ∙ branch_text (codes "and") (trees (map probe_tree ps)) (map spelled_probe ps) (each_text ps h) ∙ sym (fold-And (List ℕ) probe_layer ps);
  in_Or = λ ps h. ap print (fold-Or Tree probe_tree_layer ps) ∙ branch_text (codes "or") (trees (map probe_tree ps)) (map spelled_probe ps) (each_text ps h) ∙ sym (fold-Or (List ℕ) probe_layer ps);
  in_Not = λ a ha. ap print (fold-Not Tree probe_tree_layer a) ∙ branch_text (codes "not") (cons (probe_tree a) nil) (spelled_probe a ∷ []) (ha, tt) ∙ sym (fold-Not (List ℕ) probe_layer a);
}

pub probe_text : (p : ProbeExpr) → print (probe_tree p) ≡ spelled_probe p
unfolding HasText
probe_text = by_ProbeForms HasText probe_texts

-- words

not_true : (b : Bool) → not b ≡ true → b ≡ false
not_true true h = cc
not_true false h = refl

pub number_good : (z : ℤ) → nat_abs z < 10 ^ 64 → Good (number_tree z)
number_good (pos n) h = numeral_word (decimal n) (numeral-decimal n h)
number_good (negsuc n) h = (symbol_word (codes "-") refl, (numeral_word (decimal (suc n)) (numeral-decimal (suc n) h), tt))

HasWords : ProbeExpr → Type 0
HasWords p = is_allowed_probe p ≡ true → Good (probe_tree p)

each_good : (ps : List ProbeExpr) → EachProbe HasWords ps → all_true (map is_allowed_probe ps) ≡ true → AreGood (trees (map probe_tree ps))
unfolding HasWords
each_good [] h all = tt
each_good (p ∷ ps) h all = (h.0 (and_left (is_allowed_probe p) (all_true (map is_allowed_probe ps)) all), each_good ps h.1 (and_right (is_allowed_probe p) (all_true (map is_allowed_probe ps)) all))

probe_words : ProbeForms HasWords
unfolding HasWords probe_tree is_allowed_probe
probe_words = record {
  in_Size = λ h. subst Good (sym (fold-Size Tree probe_tree_layer)) (symbol_word (codes "size") refl);
  in_NumExprs = λ h. subst Good (sym (fold-NumExprs Tree probe_tree_layer)) (symbol_word (codes "num-exprs") refl);
  in_Depth = λ h. subst Good (sym (fold-Depth Tree probe_tree_layer)) (symbol_word (codes "depth") refl);
  in_NumConsts = λ h. subst Good (sym (fold-NumConsts Tree probe_tree_layer)) (symbol_word (codes "num-consts") refl);
  in_IsPropositional = λ h. subst Good (sym (fold-IsPropositional Tree probe_tree_layer)) (symbol_word (codes "is-propositional") refl);
  in_IsCanonical = λ h. subst Good (sym (fold-IsCanonical Tree probe_tree_layer)) (symbol_word (codes "is-canonical") refl);
  in_IsBounded = λ h. subst Good (sym (fold-IsBounded Tree probe_tree_layer)) (symbol_word (codes "is-bounded") refl);
  in_Is01 = λ h. subst Good (sym (fold-Is01 Tree probe_tree_layer)) (symbol_word (codes "is-01") refl);
  in_MaxBits = λ h. subst Good (sym (fold-MaxBits Tree probe_tree_layer)) (symbol_word (codes "max-bits") refl);
  in_Num = λ z h. subst Good (sym (fold-Num Tree probe_tree_layer z)) (number_good z (narrow_small z (not_true (is_wide z) (sym (fold-Num Bool allowed_probe_layer z) ∙ h))));
  in_Lt = λ a ha b hb h.
      let both = sym (fold-Lt Bool allowed_probe_layer a b) ∙ h in
      subst Good (sym (fold-Lt Tree probe_tree_layer a b)) (symbol_word (codes "<") refl, (ha (and_left (is_allowed_probe a) (is_allowed_probe b) both), (hb (and_right (is_allowed_probe a) (is_allowed_probe b) both), tt)));
  in_Le = λ a ha b hb h.
      let both = sym (fold-Le Bool allowed_probe_layer a b) ∙ h in
      subst Good (sym (fold-Le Tree probe_tree_layer a b)) (symbol_word (codes "<=") refl, (ha (and_left (is_allowed_probe a) (is_allowed_probe b) both), (hb (and_right (is_allowed_probe a) (is_allowed_probe b) both), tt)));
  in_Gt = λ a ha b hb h.
      let both = sym (fold-Gt Bool allowed_probe_layer a b) ∙ h in
      subst Good (sym (fold-Gt Tree probe_tree_layer a b)) (symbol_word (codes ">") refl, (ha (and_left (is_allowed_probe a) (is_allowed_probe b) both), (hb (and_right (is_allowed_probe a) (is_allowed_probe b) both), tt)));
  in_Ge = λ a ha b hb h.
      let both = sym (fold-Ge Bool allowed_probe_layer a b) ∙ h in
      subst Good (sym (fold-Ge Tree probe_tree_layer a b)) (symbol_word (codes ">=") refl, (ha (and_left (is_allowed_probe a) (is_allowed_probe b) both), (hb (and_right (is_allowed_probe a) (is_allowed_probe b) both), tt)));
  in_Eq = λ a ha b hb h.
      let both = sym (fold-Eq Bool allowed_probe_layer a b) ∙ h in
      subst Good (sym (fold-Eq Tree probe_tree_layer a b)) (symbol_word (codes "=") refl, (ha (and_left (is_allowed_probe a) (is_allowed_probe b) both), (hb (and_right (is_allowed_probe a) (is_allowed_probe b) both), tt)));
  in_And = λ ps each h.
      let all = and_right (nat_le 1 (length (map is_allowed_probe ps))) (all_true (map is_allowed_probe ps)) (sym (fold-And Bool allowed_probe_layer ps) ∙ h) in
      subst Good (sym (fold-And Tree probe_tree_layer ps)) (symbol_word (codes "and") refl, each_good ps each all);
  in_Or = λ ps each h.
      let all = and_right (nat_le 1 (length (map is_allowed_probe ps))) (all_true (map is_allowed_probe ps)) (sym (fold-Or Bool allowed_probe_layer ps) ∙ h) in
      subst Good (sym (fold-Or Tree probe_tree_layer ps)) (symbol_word (codes "or") refl, each_good ps each all);
  in_Not = λ a ha h. subst Good (sym (fold-Not Tree probe_tree_layer a)) (symbol_word (codes "not") refl, (ha (sym (fold-Not Bool allowed_probe_layer a) ∙ h), tt));
}

pub probe_good : (p : ProbeExpr) → is_allowed_probe p ≡ true → Good (probe_tree p)
unfolding HasWords
probe_good = by_ProbeForms HasWords probe_words

-- nesting

-- the trees nest so deep
abbrev pub RowNests : Trees → List ℕ → Type 0
RowNests nil [] = ⊤
RowNests nil (x ∷ xs) = ⊥
RowNests (cons t ts) [] = ⊥
RowNests (cons t ts) (x ∷ xs) = (nests t ≡ x) × RowNests ts xs

row_nests : (ts : Trees) (xs : List ℕ) → RowNests ts xs → most ts ≡ greatest xs
row_nests nil [] h = refl
row_nests nil (x ∷ xs) h = absurd h
row_nests (cons t ts) [] h = absurd h
row_nests (cons t ts) (x ∷ xs) h = ap (λ n. max n (most ts)) h.0 ∙ ap (λ n. max x n) (row_nests ts xs h.1)

pub branch_nests : (word : List ℕ) (ts : Trees) (xs : List ℕ) (n : ℕ) → RowNests ts xs → greatest xs ≡ n → nests (branch word ts) ≡ 1 + n
branch_nests word ts xs n h is = ap (λ k. 1 + k) (row_nests ts xs h ∙ is)

pub number_nests : (z : ℤ) → nests (number_tree z) ≡ number_nesting z
number_nests (pos n) = refl
number_nests (negsuc n) = refl

Nests : ProbeExpr → Type 0
Nests p = nests (probe_tree p) ≡ probe_nesting p

each_nests : (ps : List ProbeExpr) → EachProbe Nests ps → RowNests (trees (map probe_tree ps)) (map probe_nesting ps)
unfolding Nests
each_nests [] h = tt
each_nests (p ∷ ps) h = (h.0, each_nests ps h.1)

pub greatest_one : (a : ℕ) → greatest (a ∷ []) ≡ a
greatest_one a = omega arith

pub greatest_two : (a b : ℕ) → greatest (a ∷ b ∷ []) ≡ max a b
greatest_two a b = omega arith

probe_nested : ProbeForms Nests
unfolding Nests probe_tree probe_nesting
probe_nested = record {
  in_Size = ap nests (fold-Size Tree probe_tree_layer) ∙ sym (fold-Size ℕ probe_nesting_layer);
  in_NumExprs = ap nests (fold-NumExprs Tree probe_tree_layer) ∙ sym (fold-NumExprs ℕ probe_nesting_layer);
  in_Depth = ap nests (fold-Depth Tree probe_tree_layer) ∙ sym (fold-Depth ℕ probe_nesting_layer);
  in_NumConsts = ap nests (fold-NumConsts Tree probe_tree_layer) ∙ sym (fold-NumConsts ℕ probe_nesting_layer);
  in_IsPropositional = ap nests (fold-IsPropositional Tree probe_tree_layer) ∙ sym (fold-IsPropositional ℕ probe_nesting_layer);
  in_IsCanonical = ap nests (fold-IsCanonical Tree probe_tree_layer) ∙ sym (fold-IsCanonical ℕ probe_nesting_layer);
  in_IsBounded = ap nests (fold-IsBounded Tree probe_tree_layer) ∙ sym (fold-IsBounded ℕ probe_nesting_layer);
  in_Is01 = ap nests (fold-Is01 Tree probe_tree_layer) ∙ sym (fold-Is01 ℕ probe_nesting_layer);
  in_MaxBits = ap nests (fold-MaxBits Tree probe_tree_layer) ∙ sym (fold-MaxBits ℕ probe_nesting_layer);
  in_Num = λ z. ap nests (fold-Num Tree probe_tree_layer z) ∙ number_nests z ∙ sym (fold-Num ℕ probe_nesting_layer z);
  in_Lt = λ a ha b hb.
      ap nests (fold-Lt Tree probe_tree_layer a b)
      ∙ branch_nests (codes "<") (cons (probe_tree a) (cons (probe_tree b) nil)) (probe_nesting a ∷ probe_nesting b ∷ []) (max (probe_nesting a) (probe_nesting b)) (ha, (hb, tt)) (greatest_two (probe_nesting a) (probe_nesting b))
      ∙ sym (fold-Lt ℕ probe_nesting_layer a b);
  in_Le = λ a ha b hb.
      ap nests (fold-Le Tree probe_tree_layer a b)
      ∙ branch_nests (codes "<=") (cons (probe_tree a) (cons (probe_tree b) nil)) (probe_nesting a ∷ probe_nesting b ∷ []) (max (probe_nesting a) (probe_nesting b)) (ha, (hb, tt)) (greatest_two (probe_nesting a) (probe_nesting b))
      ∙ sym (fold-Le ℕ probe_nesting_layer a b);
  in_Gt = λ a ha b hb.
      ap nests (fold-Gt Tree probe_tree_layer a b)
      ∙ branch_nests (codes ">") (cons (probe_tree a) (cons (probe_tree b) nil)) (probe_nesting a ∷ probe_nesting b ∷ []) (max (probe_nesting a) (probe_nesting b)) (ha, (hb, tt)) (greatest_two (probe_nesting a) (probe_nesting b))
      ∙ sym (fold-Gt ℕ probe_nesting_layer a b);
  in_Ge = λ a ha b hb.
      ap nests (fold-Ge Tree probe_tree_layer a b)
      ∙ branch_nests (codes ">=") (cons (probe_tree a) (cons (probe_tree b) nil)) (probe_nesting a ∷ probe_nesting b ∷ []) (max (probe_nesting a) (probe_nesting b)) (ha, (hb, tt)) (greatest_two (probe_nesting a) (probe_nesting b))
      ∙ sym (fold-Ge ℕ probe_nesting_layer a b);
  in_Eq = λ a ha b hb.
      ap nests (fold-Eq Tree probe_tree_layer a b)
      ∙ branch_nests (codes "=") (cons (probe_tree a) (cons (probe_tree b) nil)) (probe_nesting a ∷ probe_nesting b ∷ []) (max (probe_nesting a) (probe_nesting b)) (ha, (hb, tt)) (greatest_two (probe_nesting a) (probe_nesting b))
      ∙ sym (fold-Eq ℕ probe_nesting_layer a b);
  in_And = λ ps h.
      ap nests (fold-And Tree probe_tree_layer ps)
      ∙ branch_nests (codes "and") (trees (map probe_tree ps)) (map probe_nesting ps) (greatest (map probe_nesting ps)) (each_nests ps h) refl
      ∙ sym (fold-And ℕ probe_nesting_layer ps);
  in_Or = λ ps h.
      ap nests (fold-Or Tree probe_tree_layer ps)
      ∙ branch_nests (codes "or") (trees (map probe_tree ps)) (map probe_nesting ps) (greatest (map probe_nesting ps)) (each_nests ps h) refl
      ∙ sym (fold-Or ℕ probe_nesting_layer ps);
  in_Not = λ a ha.
      ap nests (fold-Not Tree probe_tree_layer a)
      ∙ branch_nests (codes "not") (cons (probe_tree a) nil) (probe_nesting a ∷ []) (probe_nesting a) (ha, tt) (greatest_one (probe_nesting a))
      ∙ sym (fold-Not ℕ probe_nesting_layer a);
}

pub probe_nests : (p : ProbeExpr) → nests (probe_tree p) ≡ probe_nesting p
unfolding Nests
probe_nests = by_ProbeForms Nests probe_nested

-- reading

pub number_read : (z : ℤ) (at : ℕ) → nat_abs z < 10 ^ 64 → number_of (form_at (number_tree z) at) ≡ Some z
unfolding operator_of
number_read (pos n) at h = ap (λ k. Some (pos k)) (value-decimal n h)
number_read (negsuc n) at h = ap (λ k. Some (neg_ℤ (pos k))) (value-decimal (suc n) h)

number_probe : (z : ℤ) (at : ℕ) → read_probe (form_at (number_tree z) at) ≡ probe_number at (number_of (form_at (number_tree z) at))
unfolding read_probe operator_of
number_probe (pos n) at = refl
number_probe (negsuc n) at = refl

-- the trees are read as the probes, wherever they stand
abbrev RowProbes : Trees → List ProbeExpr → Type 0
RowProbes nil [] = ⊤
RowProbes nil (p ∷ ps) = ⊥
RowProbes (cons t ts) [] = ⊥
RowProbes (cons t ts) (p ∷ ps) = ((at : ℕ) → read_probe (form_at t at) ≡ Ok p) × RowProbes ts ps

row_probes : (ts : Trees) (ps : List ProbeExpr) (at : ℕ) → RowProbes ts ps → read_probes (forms_at ts at) ≡ Ok ps
unfolding read_probes
row_probes nil [] at h = refl
row_probes nil (p ∷ ps) at h = absurd h
row_probes (cons t ts) [] at h = absurd h
row_probes (cons t ts) (p ∷ ps) at h = rw (h.0 (at + 1), row_probes ts ps (at + 1 + length (print t)) h.1) refl

form_read : (word : List ℕ) (op : Operator) (ts : Trees) (ps : List ProbeExpr) (at : ℕ) → operator_of word ≡ Some op → RowProbes ts ps
    → read_probe (form_at (branch word ts) at) ≡ probe_form at (forms_at ts (at + 1 + length word)) (Ok ps) (Some op)
unfolding read_probe
form_read word op ts ps at is h =
    let args = forms_at ts (at + 1 + length word) in
    ap (λ o. probe_form at args (read_probes args) o) is ∙ ap (λ r. probe_form at args r (Some op)) (row_probes ts ps (at + 1 + length word) h)

IsReadBack : ProbeExpr → Type 0
IsReadBack p = is_allowed_probe p ≡ true → (at : ℕ) → read_probe (form_at (probe_tree p) at) ≡ Ok p

each_read : (ps : List ProbeExpr) → EachProbe IsReadBack ps → all_true (map is_allowed_probe ps) ≡ true → RowProbes (trees (map probe_tree ps)) ps
unfolding IsReadBack
each_read [] h all = tt
each_read (p ∷ ps) h all = (h.0 (and_left (is_allowed_probe p) (all_true (map is_allowed_probe ps)) all), each_read ps h.1 (and_right (is_allowed_probe p) (all_true (map is_allowed_probe ps)) all))

within_read : (z : ℤ) (at : ℕ) → is_wide z ≡ false → probe_number at (Some z) ≡ Ok (probe.Num z)
within_read z at h = rw h refl

one_there : (p : ProbeExpr) (ps : List ProbeExpr) → nat_le 1 (length (p ∷ ps)) ≡ true
one_there p ps = grind (arith, nat_tests)

some : (at : ℕ) (make : List ProbeExpr → ProbeExpr) (ps : List ProbeExpr) → nat_le 1 (length ps) ≡ true → and_then (least_of 1 at ps) (λ all. Ok (make all)) ≡ Ok (make ps)
some at make ps h = rw h refl

read_And : (ps : List ProbeExpr) → EachProbe IsReadBack ps → IsReadBack (probe.And ps)
unfolding IsReadBack probe_tree is_allowed_probe operator_of
read_And [] each = λ h at. let none_there = sym (fold-And Bool allowed_probe_layer []) ∙ h in absurd (true_false (sym none_there))
read_And (p ∷ ps) each = λ h at.
    let all = and_right (nat_le 1 (length (map is_allowed_probe (p ∷ ps)))) (all_true (map is_allowed_probe (p ∷ ps))) (sym (fold-And Bool allowed_probe_layer (p ∷ ps)) ∙ h) in
    ap (λ t. read_probe (form_at t at)) (fold-And Tree probe_tree_layer (p ∷ ps))
    ∙ form_read (codes "and") operator.And (trees (map probe_tree (p ∷ ps))) (p ∷ ps) at refl (each_read (p ∷ ps) each all)
    ∙ some at probe.And (p ∷ ps) (one_there p ps)

read_Or : (ps : List ProbeExpr) → EachProbe IsReadBack ps → IsReadBack (probe.Or ps)
unfolding IsReadBack probe_tree is_allowed_probe operator_of
read_Or [] each = λ h at. let none_there = sym (fold-Or Bool allowed_probe_layer []) ∙ h in absurd (true_false (sym none_there))
read_Or (p ∷ ps) each = λ h at.
    let all = and_right (nat_le 1 (length (map is_allowed_probe (p ∷ ps)))) (all_true (map is_allowed_probe (p ∷ ps))) (sym (fold-Or Bool allowed_probe_layer (p ∷ ps)) ∙ h) in
    ap (λ t. read_probe (form_at t at)) (fold-Or Tree probe_tree_layer (p ∷ ps))
    ∙ form_read (codes "or") operator.Or (trees (map probe_tree (p ∷ ps))) (p ∷ ps) at refl (each_read (p ∷ ps) each all)
    ∙ some at probe.Or (p ∷ ps) (one_there p ps)

probe_forms : ProbeForms IsReadBack
unfolding IsReadBack probe_tree is_allowed_probe read_probe operator_of probe_named
probe_forms = record {
  in_Size = λ h at. ap (λ t. read_probe (form_at t at)) (fold-Size Tree probe_tree_layer);
  in_NumExprs = λ h at. ap (λ t. read_probe (form_at t at)) (fold-NumExprs Tree probe_tree_layer);
  in_Depth = λ h at. ap (λ t. read_probe (form_at t at)) (fold-Depth Tree probe_tree_layer);
  in_NumConsts = λ h at. ap (λ t. read_probe (form_at t at)) (fold-NumConsts Tree probe_tree_layer);
  in_IsPropositional = λ h at. ap (λ t. read_probe (form_at t at)) (fold-IsPropositional Tree probe_tree_layer);
  in_IsCanonical = λ h at. ap (λ t. read_probe (form_at t at)) (fold-IsCanonical Tree probe_tree_layer);
  in_IsBounded = λ h at. ap (λ t. read_probe (form_at t at)) (fold-IsBounded Tree probe_tree_layer);
  in_Is01 = λ h at. ap (λ t. read_probe (form_at t at)) (fold-Is01 Tree probe_tree_layer);
  in_MaxBits = λ h at. ap (λ t. read_probe (form_at t at)) (fold-MaxBits Tree probe_tree_layer);
  in_Num = λ z h at.
      let narrow = not_true (is_wide z) (sym (fold-Num Bool allowed_probe_layer z) ∙ h) in
      ap (λ t. read_probe (form_at t at)) (fold-Num Tree probe_tree_layer z) ∙ number_probe z at ∙ ap (probe_number at) (number_read z at (narrow_small z narrow)) ∙ within_read z at narrow;
  in_Lt = λ a ha b hb h at.
      let both = sym (fold-Lt Bool allowed_probe_layer a b) ∙ h in
      ap (λ t. read_probe (form_at t at)) (fold-Lt Tree probe_tree_layer a b)
      ∙ form_read (codes "<") operator.Lt (cons (probe_tree a) (cons (probe_tree b) nil)) (a ∷ b ∷ []) at refl (ha (and_left (is_allowed_probe a) (is_allowed_probe b) both), (hb (and_right (is_allowed_probe a) (is_allowed_probe b) both), tt));
  in_Le = λ a ha b hb h at.
      let both = sym (fold-Le Bool allowed_probe_layer a b) ∙ h in
      ap (λ t. read_probe (form_at t at)) (fold-Le Tree probe_tree_layer a b)
      ∙ form_read (codes "<=") operator.Le (cons (probe_tree a) (cons (probe_tree b) nil)) (a ∷ b ∷ []) at refl (ha (and_left (is_allowed_probe a) (is_allowed_probe b) both), (hb (and_right (is_allowed_probe a) (is_allowed_probe b) both), tt));
  in_Gt = λ a ha b hb h at.
      let both = sym (fold-Gt Bool allowed_probe_layer a b) ∙ h in
      ap (λ t. read_probe (form_at t at)) (fold-Gt Tree probe_tree_layer a b)
      ∙ form_read (codes ">") operator.Gt (cons (probe_tree a) (cons (probe_tree b) nil)) (a ∷ b ∷ []) at refl (ha (and_left (is_allowed_probe a) (is_allowed_probe b) both), (hb (and_right (is_allowed_probe a) (is_allowed_probe b) both), tt));
  in_Ge = λ a ha b hb h at.
      let both = sym (fold-Ge Bool allowed_probe_layer a b) ∙ h in
      ap (λ t. read_probe (form_at t at)) (fold-Ge Tree probe_tree_layer a b)
      ∙ form_read (codes ">=") operator.Ge (cons (probe_tree a) (cons (probe_tree b) nil)) (a ∷ b ∷ []) at refl (ha (and_left (is_allowed_probe a) (is_allowed_probe b) both), (hb (and_right (is_allowed_probe a) (is_allowed_probe b) both), tt));
  in_Eq = λ a ha b hb h at.
      let both = sym (fold-Eq Bool allowed_probe_layer a b) ∙ h in
      ap (λ t. read_probe (form_at t at)) (fold-Eq Tree probe_tree_layer a b)
      ∙ form_read (codes "=") operator.Eq (cons (probe_tree a) (cons (probe_tree b) nil)) (a ∷ b ∷ []) at refl (ha (and_left (is_allowed_probe a) (is_allowed_probe b) both), (hb (and_right (is_allowed_probe a) (is_allowed_probe b) both), tt));
  in_And = read_And;
  in_Or = read_Or;
  in_Not = λ a ha h at.
      ap (λ t. read_probe (form_at t at)) (fold-Not Tree probe_tree_layer a)
      ∙ form_read (codes "not") operator.Not (cons (probe_tree a) nil) (a ∷ []) at refl (ha (sym (fold-Not Bool allowed_probe_layer a) ∙ h), tt);
}

pub probe_read : (p : ProbeExpr) → is_allowed_probe p ≡ true → (at : ℕ) → read_probe (form_at (probe_tree p) at) ≡ Ok p
unfolding IsReadBack
probe_read = by_ProbeForms IsReadBack probe_forms
