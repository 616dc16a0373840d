-- The forms of written strategies are read as the strategies.
use Rattle.std.proofs.Common.{◌≡◌, ℕ, zero, suc, ◌+◌, ◌-◌, ◌^◌, ◌<◌, ◌≤◌, max, Bool, true, false, nat_le, ℤ, List, [], ◌∷◌, length, map, Some, Result, Ok, refl, ap, sym, subst, ◌∙◌, arith}
use Rattle.std.specs.Prelude.{⊤, codes, decimal, nat_lt}
use Rattle.std.proofs.lemmas.Bool.Decides.{nat_tests}
use Rattle.std.proofs.lemmas.List.{length-map}
use Rattle.sexp_read.specs.Lexical.{is_simple_symbol}
use Rattle.sexp_read.specs.declared.sexp.AtomKind.TheVariants.{Symbol, Numeral, Keyword}
use Rattle.strat_text.specs.declared.error.StratError.{StratError}
use Rattle.strat_text.specs.declared.words.Head.{Head}
use Rattle.strat_text.specs.declared.words.Head.TheVariants as head
use Rattle.strat_text.specs.declared.probe.ProbeExpr.{ProbeExpr}
use Rattle.strat_text.specs.declared.strategy.ParamKey.{ParamKey}
use Rattle.strat_text.specs.declared.strategy.ParamKey.TheVariants as key
use Rattle.strat_text.specs.declared.strategy.Strategy.{Strategy}
use Rattle.strat_text.specs.declared.strategy.Strategy.TheVariants as strategy
use Rattle.strat_text.specs.declared.strategy.TheConstants.{BRANCHES}
use Rattle.strat_text.specs.Allowed.{allowed_layer, is_formed, is_allowed_probe, all_true, are_settings, greatest, depth_layer, depth_of}
use Rattle.strat_text.specs.Form.{atom, place_of, numeral_of}
use Rattle.strat_text.specs.Grammar.{Names, is_known}
use Rattle.strat_text.specs.Known.{known_layer, are_known}
use Rattle.strat_text.specs.Number.{is_within}
use Rattle.strat_text.specs.Reading.{and_then, in_front, read_key, read_value, value_read, key_read, read_settings, with_settings, read_strategy, read_each, strategy_form, strategy_atom, least_of, then_of, or_else_of, par_or_of, par_then_of, if_of, when_of, fail_if_of, limited, repeat_of, try_for_of, params_of, only}
use Rattle.strat_text.specs.Spelled.{key_text}
use Rattle.strat_text.specs.Words.{head_of, key_of}
use Rattle.strat_text.proofs.Layers.{fold-Prim, fold-Then, fold-OrElse, fold-ParOr, fold-ParThen, fold-If, fold-When, fold-FailIf, fold-Repeat, fold-Params, fold-TryFor, EachStrategy, StrategyForms, by_StrategyForms}
use Rattle.strat_text.proofs.Numerals.{and_left, and_right, value-decimal, within_small}
use Rattle.strat_text.proofs.ProbesBack.{trees, number_tree, probe_tree, number_read, probe_read}
use Rattle.strat_text.proofs.StrategiesBack.{settings_trees, tree_layer, tree_of, first_of_three, second_of_three, third_of_three, parts_all, branches_all, turns_small, limit_small}
use Rattle.strat_text.proofs.Trees.{Tree, leaf, branch, Trees, nil, cons, print, form_at, forms_at}

true_false : true ≡ false → ⊥
true_false e = cc

-- settings

key_back : (k : ParamKey) → key_of (key_text k) ≡ Some k
unfolding key_of
key_back key.Lia2pbMaxBits = refl
key_back key.AddBoundLower = refl
key_back key.AddBoundUpper = refl
key_back key.DropWideMax = refl

value_back : (k : ParamKey) (z : ℤ) (place : ℕ) → is_within k z ≡ true → value_read place k (Some z) ≡ Ok (Some (k, z))
value_back k z place h = rw h refl

setting_back : (k : ParamKey) (z : ℤ) (place at : ℕ) → is_within k z ≡ true → and_then (read_key (atom Keyword (key_text k) place)) (read_value (form_at (number_tree z) at)) ≡ Ok (Some (k, z))
setting_back k z place at h =
    ap (λ o. and_then (key_read place o) (read_value (form_at (number_tree z) at))) (key_back k)
    ∙ ap (λ o. value_read (place_of (form_at (number_tree z) at)) k o) (number_read z at (within_small k z h))
    ∙ value_back k z (place_of (form_at (number_tree z) at)) h

settings_back : (settings : List (ParamKey × ℤ)) (at : ℕ) → are_settings settings ≡ true → read_settings (forms_at (settings_trees settings) at) ≡ Ok (Some settings)
unfolding read_settings
settings_back [] at h = refl
settings_back (setting ∷ settings) at h =
    let within = and_left (is_within setting.0 setting.1) (are_settings settings) h in
    let next = at + 1 + length (key_text setting.0) in
    let last = next + 1 + length (print (number_tree setting.1)) in
    rw (setting_back setting.0 setting.1 (at + 1) (next + 1) within, settings_back settings last (and_right (is_within setting.0 setting.1) (are_settings settings) h)) refl

some_settings : (at : ℕ) (s : Strategy) (settings : List (ParamKey × ℤ)) → nat_le 1 (length settings) ≡ true → with_settings at s (Some settings) ≡ Ok (strategy.Params s settings)
some_settings at s [] h = absurd (true_false (sym h))
some_settings at s (setting ∷ settings) h = refl

-- numbers

count_back : (at most n place : ℕ) → n < 10 ^ 64 → nat_le n most ≡ true → limited at most (atom Numeral (decimal n) place) (numeral_of (atom Numeral (decimal n) place)) ≡ Ok n
count_back at most n place small low = ap (λ k. limited at most (atom Numeral (decimal n) place) (Some k)) (value-decimal n small) ∙ rw low refl

turns_low : (n : ℕ) → nat_lt n (2 ^ 32) ≡ true → nat_le n (2 ^ 32 - 1) ≡ true
turns_low n h = grind (arith, nat_tests)

-- parts

front_back : (r : Result Strategy StratError) (rs : Result (List Strategy) StratError) (s : Strategy) (ss : List Strategy) → r ≡ Ok s → rs ≡ Ok ss → in_front r rs ≡ Ok (s ∷ ss)
front_back r rs s ss first rest = rw (first, rest) refl

many : (at : ℕ) (make : List Strategy → Strategy) (ss : List Strategy) → nat_le 2 (length ss) ≡ true → and_then (least_of 2 at ss) (λ all. Ok (make all)) ≡ Ok (make ss)
many at make ss h = rw h refl

few : (at : ℕ) (ss : List Strategy) → nat_le 2 (length ss) ≡ true → nat_le (length ss) BRANCHES ≡ true → par_or_of at ss ≡ Ok (strategy.ParOr ss)
few at ss h k = rw (h, k) refl

name_back : (names : Names) (name : List ℕ) (at : ℕ) → is_simple_symbol name ≡ true → is_known names name ≡ true → strategy_atom names Symbol name at ≡ Ok (strategy.Prim name)
name_back names name at simple known = rw (simple, known) refl

by_depth : (d n : ℕ) (Q : ℕ → Type 0) → 1 + d ≤ n → ((left : ℕ) → d ≤ left → Q (suc left)) → Q n
by_depth d zero Q h below = absurd (omega arith)
by_depth d (suc left) Q h below = below left (omega arith)

module _ (names : Names) where
  -- the trees are read as the strategies, wherever they stand
  abbrev RowBack : ℕ → Trees → List Strategy → Type 0
  RowBack left nil [] = ⊤
  RowBack left nil (s ∷ ss) = ⊥
  RowBack left (cons t ts) [] = ⊥
  RowBack left (cons t ts) (s ∷ ss) = ((at : ℕ) → read_strategy names (form_at t at) left ≡ Ok s) × RowBack left ts ss

  row_back : (left : ℕ) (ts : Trees) (ss : List Strategy) (at : ℕ) → RowBack left ts ss → read_each names (forms_at ts at) left ≡ Ok ss
  unfolding read_each
  row_back left nil [] at h = refl
  row_back left nil (s ∷ ss) at h = absurd h
  row_back left (cons t ts) [] at h = absurd h
  row_back left (cons t ts) (s ∷ ss) at h =
      front_back (read_strategy names (form_at t (at + 1)) left) (read_each names (forms_at ts (at + 1 + length (print t))) left) s ss (h.0 (at + 1)) (row_back left ts ss (at + 1 + length (print t)) h.1)

  list_back : (word : List ℕ) (h : Head) (t : Tree) (ts : Trees) (at left : ℕ) → head_of word ≡ Some h
      → read_strategy names (form_at (branch word (cons t ts)) at) (suc left)
      ≡ strategy_form at (form_at t (at + 1 + length word + 1)) (forms_at ts (at + 1 + length word + 1 + length (print t)))
      (read_strategy names (form_at t (at + 1 + length word + 1)) left) (read_each names (forms_at ts (at + 1 + length word + 1 + length (print t))) left) (Some h)
  unfolding read_strategy
  list_back word h t ts at left is =
      let a = at + 1 + length word + 1 in
      let b = a + length (print t) in
      ap (λ o. strategy_form at (form_at t a) (forms_at ts b) (read_strategy names (form_at t a) left) (read_each names (forms_at ts b) left) o) is

  -- its form is read as it, where so many forms may stand in one another
  IsReadBack : Strategy → Type 0
  IsReadBack s = (n : ℕ) → is_formed s ≡ true → are_known names s ≡ true → depth_of s ≤ n → (at : ℕ) → read_strategy names (form_at (tree_of s) at) n ≡ Ok s

  each_back : (left : ℕ) (ss : List Strategy) → EachStrategy IsReadBack ss → all_true (map is_formed ss) ≡ true → all_true (map (are_known names) ss) ≡ true → greatest (map depth_of ss) ≤ left
      → RowBack left (trees (map tree_of ss)) ss
  unfolding IsReadBack
  each_back left [] each formed known deep = tt
  each_back left (s ∷ ss) each formed known deep = (
    each.0 left (and_left (is_formed s) (all_true (map is_formed ss)) formed) (and_left (are_known names s) (all_true (map (are_known names) ss)) known) (omega arith),
    each_back left ss each.1 (and_right (is_formed s) (all_true (map is_formed ss)) formed) (and_right (are_known names s) (all_true (map (are_known names) ss)) known) (omega arith),
  )

  two_there : (ss : List Strategy) → nat_le 2 (length (map is_formed ss)) ≡ true → nat_le 2 (length ss) ≡ true
  two_there ss h = ap (nat_le 2) (sym (length-map ss is_formed)) ∙ h

  back_Prim : (name : List ℕ) → IsReadBack (strategy.Prim name)
  unfolding IsReadBack tree_of is_formed are_known depth_of read_strategy
  back_Prim name = λ n formed known deep at.
      let simple = sym (fold-Prim Bool allowed_layer name) ∙ formed in
      let there = sym (fold-Prim Bool (known_layer names) name) ∙ known in
      let level : 1 + 0 ≤ n = subst (λ d. d ≤ n) (fold-Prim ℕ depth_layer name) deep in
      by_depth 0 n (λ k. read_strategy names (form_at (tree_of (strategy.Prim name)) at) k ≡ Ok (strategy.Prim name)) level
      (λ left low. ap (λ t. read_strategy names (form_at t at) (suc left)) (fold-Prim Tree tree_layer name) ∙ name_back names name at simple there)

  back_Then : (ss : List Strategy) → EachStrategy IsReadBack ss → IsReadBack (strategy.Then ss)
  unfolding IsReadBack tree_of is_formed are_known depth_of head_of
  back_Then [] each = λ n formed known deep at. let few_parts = sym (fold-Then Bool allowed_layer []) ∙ formed in absurd (true_false (sym few_parts))
  back_Then (s ∷ ss) each = λ n formed known deep at.
      let f = sym (fold-Then Bool allowed_layer (s ∷ ss)) ∙ formed in
      let k = sym (fold-Then Bool (known_layer names) (s ∷ ss)) ∙ known in
      let two = and_left (nat_le 2 (length (map is_formed (s ∷ ss)))) (all_true (map is_formed (s ∷ ss))) f in
      let level : 1 + greatest (map depth_of (s ∷ ss)) ≤ n = subst (λ d. d ≤ n) (fold-Then ℕ depth_layer (s ∷ ss)) deep in
      by_depth (greatest (map depth_of (s ∷ ss))) n (λ m. read_strategy names (form_at (tree_of (strategy.Then (s ∷ ss))) at) m ≡ Ok (strategy.Then (s ∷ ss))) level
      (λ left low.
      let row = each_back left (s ∷ ss) each (parts_all (s ∷ ss) f) k low in
      let a = at + 1 + length (codes "then") + 1 in
      let b = a + length (print (tree_of s)) in
      ap (λ t. read_strategy names (form_at t at) (suc left)) (fold-Then Tree tree_layer (s ∷ ss))
      ∙ list_back (codes "then") head.Then (tree_of s) (trees (map tree_of ss)) at left refl
      ∙ ap (λ r. and_then r (then_of at)) (front_back (read_strategy names (form_at (tree_of s) a) left) (read_each names (forms_at (trees (map tree_of ss)) b) left) s ss (row.0 a) (row_back left (trees (map tree_of ss)) ss b row.1))
      ∙ many at strategy.Then (s ∷ ss) (two_there (s ∷ ss) two))

  back_OrElse : (ss : List Strategy) → EachStrategy IsReadBack ss → IsReadBack (strategy.OrElse ss)
  unfolding IsReadBack tree_of is_formed are_known depth_of head_of
  back_OrElse [] each = λ n formed known deep at. let few_parts = sym (fold-OrElse Bool allowed_layer []) ∙ formed in absurd (true_false (sym few_parts))
  back_OrElse (s ∷ ss) each = λ n formed known deep at.
      let f = sym (fold-OrElse Bool allowed_layer (s ∷ ss)) ∙ formed in
      let k = sym (fold-OrElse Bool (known_layer names) (s ∷ ss)) ∙ known in
      let two = and_left (nat_le 2 (length (map is_formed (s ∷ ss)))) (all_true (map is_formed (s ∷ ss))) f in
      let level : 1 + greatest (map depth_of (s ∷ ss)) ≤ n = subst (λ d. d ≤ n) (fold-OrElse ℕ depth_layer (s ∷ ss)) deep in
      by_depth (greatest (map depth_of (s ∷ ss))) n (λ m. read_strategy names (form_at (tree_of (strategy.OrElse (s ∷ ss))) at) m ≡ Ok (strategy.OrElse (s ∷ ss))) level
      (λ left low.
      let row = each_back left (s ∷ ss) each (parts_all (s ∷ ss) f) k low in
      let a = at + 1 + length (codes "or-else") + 1 in
      let b = a + length (print (tree_of s)) in
      ap (λ t. read_strategy names (form_at t at) (suc left)) (fold-OrElse Tree tree_layer (s ∷ ss))
      ∙ list_back (codes "or-else") head.OrElse (tree_of s) (trees (map tree_of ss)) at left refl
      ∙ ap (λ r. and_then r (or_else_of at)) (front_back (read_strategy names (form_at (tree_of s) a) left) (read_each names (forms_at (trees (map tree_of ss)) b) left) s ss (row.0 a) (row_back left (trees (map tree_of ss)) ss b row.1))
      ∙ many at strategy.OrElse (s ∷ ss) (two_there (s ∷ ss) two))

  back_ParOr : (ss : List Strategy) → EachStrategy IsReadBack ss → IsReadBack (strategy.ParOr ss)
  unfolding IsReadBack tree_of is_formed are_known depth_of head_of
  back_ParOr [] each = λ n formed known deep at. let few_parts = sym (fold-ParOr Bool allowed_layer []) ∙ formed in absurd (true_false (sym few_parts))
  back_ParOr (s ∷ ss) each = λ n formed known deep at.
      let f = sym (fold-ParOr Bool allowed_layer (s ∷ ss)) ∙ formed in
      let k = sym (fold-ParOr Bool (known_layer names) (s ∷ ss)) ∙ known in
      let two = first_of_three (nat_le 2 (length (map is_formed (s ∷ ss)))) (nat_le (length (map is_formed (s ∷ ss))) BRANCHES) (all_true (map is_formed (s ∷ ss))) f in
      let level : 1 + greatest (map depth_of (s ∷ ss)) ≤ n = subst (λ d. d ≤ n) (fold-ParOr ℕ depth_layer (s ∷ ss)) deep in
      by_depth (greatest (map depth_of (s ∷ ss))) n (λ m. read_strategy names (form_at (tree_of (strategy.ParOr (s ∷ ss))) at) m ≡ Ok (strategy.ParOr (s ∷ ss))) level
      (λ left low.
      let row = each_back left (s ∷ ss) each (branches_all (s ∷ ss) f) k low in
      let a = at + 1 + length (codes "par-or") + 1 in
      let b = a + length (print (tree_of s)) in
      ap (λ t. read_strategy names (form_at t at) (suc left)) (fold-ParOr Tree tree_layer (s ∷ ss))
      ∙ list_back (codes "par-or") head.ParOr (tree_of s) (trees (map tree_of ss)) at left refl
      ∙ ap (λ r. and_then r (par_or_of at)) (front_back (read_strategy names (form_at (tree_of s) a) left) (read_each names (forms_at (trees (map tree_of ss)) b) left) s ss (row.0 a) (row_back left (trees (map tree_of ss)) ss b row.1))
      ∙ few at (s ∷ ss) (two_there (s ∷ ss) two) (ap (λ k. nat_le k BRANCHES) (sym (length-map (s ∷ ss) is_formed)) ∙ second_of_three (nat_le 2 (length (map is_formed (s ∷ ss)))) (nat_le (length (map is_formed (s ∷ ss))) BRANCHES) (all_true (map is_formed (s ∷ ss))) f))

  back_ParThen : (a : Strategy) → IsReadBack a → (b : Strategy) → IsReadBack b → IsReadBack (strategy.ParThen a b)
  unfolding IsReadBack tree_of is_formed are_known depth_of head_of
  back_ParThen a ha b hb = λ n formed known deep at.
      let f = sym (fold-ParThen Bool allowed_layer a b) ∙ formed in
      let k = sym (fold-ParThen Bool (known_layer names) a b) ∙ known in
      let level : 1 + max (depth_of a) (depth_of b) ≤ n = subst (λ d. d ≤ n) (fold-ParThen ℕ depth_layer a b) deep in
      by_depth (max (depth_of a) (depth_of b)) n (λ m. read_strategy names (form_at (tree_of (strategy.ParThen a b)) at) m ≡ Ok (strategy.ParThen a b)) level
      (λ left low.
      let x = at + 1 + length (codes "par-then") + 1 in
      let y = x + length (print (tree_of a)) in
      ap (λ t. read_strategy names (form_at t at) (suc left)) (fold-ParThen Tree tree_layer a b)
      ∙ list_back (codes "par-then") head.ParThen (tree_of a) (cons (tree_of b) nil) at left refl
      ∙ ap (λ r. and_then r (par_then_of at)) (front_back (read_strategy names (form_at (tree_of a) x) left) (read_each names (forms_at (cons (tree_of b) nil) y) left) a (b ∷ [])
      (ha left (and_left (is_formed a) (is_formed b) f) (and_left (are_known names a) (are_known names b) k) (omega arith) x) (row_back left (cons (tree_of b) nil) (b ∷ []) y (hb left (and_right (is_formed a) (is_formed b) f) (and_right (are_known names a) (are_known names b) k) (omega arith), tt))))

  back_If : (p : ProbeExpr) (a : Strategy) → IsReadBack a → (b : Strategy) → IsReadBack b → IsReadBack (strategy.If p a b)
  unfolding IsReadBack tree_of is_formed are_known depth_of head_of
  back_If p a ha b hb = λ n formed known deep at.
      let f = sym (fold-If Bool allowed_layer p a b) ∙ formed in
      let k = sym (fold-If Bool (known_layer names) p a b) ∙ known in
      let level : 1 + max (depth_of a) (depth_of b) ≤ n = subst (λ d. d ≤ n) (fold-If ℕ depth_layer p a b) deep in
      by_depth (max (depth_of a) (depth_of b)) n (λ m. read_strategy names (form_at (tree_of (strategy.If p a b)) at) m ≡ Ok (strategy.If p a b)) level
      (λ left low.
      let x = at + 1 + length (codes "if") + 1 in
      let y = x + length (print (probe_tree p)) in
      ap (λ t. read_strategy names (form_at t at) (suc left)) (fold-If Tree tree_layer p a b)
      ∙ list_back (codes "if") head.If (probe_tree p) (cons (tree_of a) (cons (tree_of b) nil)) at left refl
      ∙ ap (λ r. and_then r (λ q. and_then (read_each names (forms_at (cons (tree_of a) (cons (tree_of b) nil)) y) left) (if_of at q))) (probe_read p (first_of_three (is_allowed_probe p) (is_formed a) (is_formed b) f) x)
      ∙ ap (λ r. and_then r (if_of at p)) (row_back left (cons (tree_of a) (cons (tree_of b) nil)) (a ∷ b ∷ []) y
      (ha left (second_of_three (is_allowed_probe p) (is_formed a) (is_formed b) f) (and_left (are_known names a) (are_known names b) k) (omega arith), (hb left (third_of_three (is_allowed_probe p) (is_formed a) (is_formed b) f) (and_right (are_known names a) (are_known names b) k) (omega arith), tt))))

  back_When : (p : ProbeExpr) (a : Strategy) → IsReadBack a → IsReadBack (strategy.When p a)
  unfolding IsReadBack tree_of is_formed are_known depth_of head_of
  back_When p a ha = λ n formed known deep at.
      let f = sym (fold-When Bool allowed_layer p a) ∙ formed in
      let k = sym (fold-When Bool (known_layer names) p a) ∙ known in
      let level : 1 + depth_of a ≤ n = subst (λ d. d ≤ n) (fold-When ℕ depth_layer p a) deep in
      by_depth (depth_of a) n (λ m. read_strategy names (form_at (tree_of (strategy.When p a)) at) m ≡ Ok (strategy.When p a)) level
      (λ left low.
      let x = at + 1 + length (codes "when") + 1 in
      let y = x + length (print (probe_tree p)) in
      ap (λ t. read_strategy names (form_at t at) (suc left)) (fold-When Tree tree_layer p a)
      ∙ list_back (codes "when") head.When (probe_tree p) (cons (tree_of a) nil) at left refl
      ∙ ap (λ r. and_then r (λ q. and_then (read_each names (forms_at (cons (tree_of a) nil) y) left) (when_of at q))) (probe_read p (and_left (is_allowed_probe p) (is_formed a) f) x)
      ∙ ap (λ r. and_then r (when_of at p)) (row_back left (cons (tree_of a) nil) (a ∷ []) y (ha left (and_right (is_allowed_probe p) (is_formed a) f) k low, tt)))

  back_FailIf : (p : ProbeExpr) → IsReadBack (strategy.FailIf p)
  unfolding IsReadBack tree_of is_formed are_known depth_of head_of
  back_FailIf p = λ n formed known deep at.
      let f = sym (fold-FailIf Bool allowed_layer p) ∙ formed in
      let k = sym (fold-FailIf Bool (known_layer names) p) ∙ known in
      let level : 1 + 0 ≤ n = subst (λ d. d ≤ n) (fold-FailIf ℕ depth_layer p) deep in
      by_depth (0) n (λ m. read_strategy names (form_at (tree_of (strategy.FailIf p)) at) m ≡ Ok (strategy.FailIf p)) level
      (λ left low.
      let x = at + 1 + length (codes "fail-if") + 1 in
      let y = x + length (print (probe_tree p)) in
      ap (λ t. read_strategy names (form_at t at) (suc left)) (fold-FailIf Tree tree_layer p)
      ∙ list_back (codes "fail-if") head.FailIf (probe_tree p) (nil) at left refl
      ∙ ap (λ r. and_then r (fail_if_of at (forms_at nil y))) (probe_read p f x))

  back_Repeat : (a : Strategy) → IsReadBack a → (turns : ℕ) → IsReadBack (strategy.Repeat a turns)
  unfolding IsReadBack tree_of is_formed are_known depth_of head_of
  back_Repeat a ha turns = λ n formed known deep at.
      let f = sym (fold-Repeat Bool allowed_layer a turns) ∙ formed in
      let k = sym (fold-Repeat Bool (known_layer names) a turns) ∙ known in
      let level : 1 + depth_of a ≤ n = subst (λ d. d ≤ n) (fold-Repeat ℕ depth_layer a turns) deep in
      by_depth (depth_of a) n (λ m. read_strategy names (form_at (tree_of (strategy.Repeat a turns)) at) m ≡ Ok (strategy.Repeat a turns)) level
      (λ left low.
      let x = at + 1 + length (codes "repeat") + 1 in
      let y = x + length (print (tree_of a)) in
      ap (λ t. read_strategy names (form_at t at) (suc left)) (fold-Repeat Tree tree_layer a turns)
      ∙ list_back (codes "repeat") head.Repeat (tree_of a) (cons (leaf Numeral (decimal turns)) nil) at left refl
      ∙ ap (λ r. and_then r (repeat_of at (forms_at (cons (leaf Numeral (decimal turns)) nil) y))) (ha left (and_left (is_formed a) (nat_lt turns (2 ^ 32)) f) k low x)
      ∙ ap (λ r. and_then r (λ m. only at (forms_at nil (y + 1 + length (decimal turns))) (strategy.Repeat a m))) (count_back at 4294967295 turns (y + 1) (turns_small turns (and_right (is_formed a) (nat_lt turns (2 ^ 32)) f)) (turns_low turns (and_right (is_formed a) (nat_lt turns (2 ^ 32)) f))))

  back_TryFor : (a : Strategy) → IsReadBack a → (limit : ℕ) → IsReadBack (strategy.TryFor a limit)
  unfolding IsReadBack tree_of is_formed are_known depth_of head_of
  back_TryFor a ha limit = λ n formed known deep at.
      let f = sym (fold-TryFor Bool allowed_layer a limit) ∙ formed in
      let k = sym (fold-TryFor Bool (known_layer names) a limit) ∙ known in
      let level : 1 + depth_of a ≤ n = subst (λ d. d ≤ n) (fold-TryFor ℕ depth_layer a limit) deep in
      by_depth (depth_of a) n (λ m. read_strategy names (form_at (tree_of (strategy.TryFor a limit)) at) m ≡ Ok (strategy.TryFor a limit)) level
      (λ left low.
      let x = at + 1 + length (codes "try-for") + 1 in
      let y = x + length (print (tree_of a)) in
      ap (λ t. read_strategy names (form_at t at) (suc left)) (fold-TryFor Tree tree_layer a limit)
      ∙ list_back (codes "try-for") head.TryFor (tree_of a) (cons (leaf Numeral (decimal limit)) nil) at left refl
      ∙ ap (λ r. and_then r (try_for_of at (forms_at (cons (leaf Numeral (decimal limit)) nil) y))) (ha left (and_left (is_formed a) (nat_le limit (2 ^ 62)) f) k low x)
      ∙ ap (λ r. and_then r (λ m. only at (forms_at nil (y + 1 + length (decimal limit))) (strategy.TryFor a m))) (count_back at 4611686018427387904 limit (y + 1) (limit_small limit (and_right (is_formed a) (nat_le limit (2 ^ 62)) f)) (and_right (is_formed a) (nat_le limit (2 ^ 62)) f)))

  back_Params : (a : Strategy) → IsReadBack a → (settings : List (ParamKey × ℤ)) → IsReadBack (strategy.Params a settings)
  unfolding IsReadBack tree_of is_formed are_known depth_of head_of
  back_Params a ha settings = λ n formed known deep at.
      let f = sym (fold-Params Bool allowed_layer a settings) ∙ formed in
      let k = sym (fold-Params Bool (known_layer names) a settings) ∙ known in
      let level : 1 + depth_of a ≤ n = subst (λ d. d ≤ n) (fold-Params ℕ depth_layer a settings) deep in
      by_depth (depth_of a) n (λ m. read_strategy names (form_at (tree_of (strategy.Params a settings)) at) m ≡ Ok (strategy.Params a settings)) level
      (λ left low.
      let x = at + 1 + length (codes "using-params") + 1 in
      let y = x + length (print (tree_of a)) in
      ap (λ t. read_strategy names (form_at t at) (suc left)) (fold-Params Tree tree_layer a settings)
      ∙ list_back (codes "using-params") head.UsingParams (tree_of a) (settings_trees settings) at left refl
      ∙ ap (λ r. and_then r (params_of at (forms_at (settings_trees settings) y))) (ha left (first_of_three (is_formed a) (nat_le 1 (length settings)) (are_settings settings) f) k low x)
      ∙ ap (λ r. and_then r (with_settings at a)) (settings_back settings y (third_of_three (is_formed a) (nat_le 1 (length settings)) (are_settings settings) f))
      ∙ some_settings at a settings (second_of_three (is_formed a) (nat_le 1 (length settings)) (are_settings settings) f))

  forms_back : StrategyForms IsReadBack
  forms_back = record {
    in_Prim = back_Prim;
    in_Then = back_Then;
    in_OrElse = back_OrElse;
    in_ParOr = back_ParOr;
    in_ParThen = back_ParThen;
    in_If = back_If;
    in_When = back_When;
    in_FailIf = back_FailIf;
    in_Repeat = back_Repeat;
    in_Params = back_Params;
    in_TryFor = back_TryFor;
  }

  pub strategy_back : (s : Strategy) (n : ℕ) → is_formed s ≡ true → are_known names s ≡ true → depth_of s ≤ n → (at : ℕ) → read_strategy names (form_at (tree_of s) at) n ≡ Ok s
  unfolding IsReadBack
  strategy_back = by_StrategyForms IsReadBack forms_back
