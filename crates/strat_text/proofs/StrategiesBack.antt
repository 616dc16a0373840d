-- Strategies as trees of words: their texts are the written ones, and their forms are read as them.
use Rattle.std.proofs.Common.{◌≡◌, ℕ, ◌+◌, ◌^◌, ◌<◌, max, Bool, true, false, ◌&&◌, nat_le, ℤ, List, [], ◌∷◌, length, map, refl, ap, sym, subst, ◌∙◌, arith}
use Rattle.std.specs.Prelude.{codes, decimal, nat_lt}
use Rattle.std.proofs.lemmas.Bool.Decides.{nat_tests}
use Rattle.sexp_read.specs.declared.sexp.AtomKind.TheVariants.{Symbol, Numeral, Keyword}
use Rattle.strat_text.specs.declared.strategy.ParamKey.{ParamKey}
use Rattle.strat_text.specs.declared.strategy.ParamKey.TheVariants as key
use Rattle.strat_text.specs.declared.strategy.Strategy.{Strategy}
use Rattle.strat_text.specs.declared.strategy.Strategy.TheOpen.{Strategy-F}
use Rattle.strat_text.specs.declared.strategy.Strategy.TheFolds.{fold-Strategy}
use Rattle.strat_text.specs.declared.strategy.TheConstants.{BRANCHES}
use Rattle.strat_text.specs.Allowed.{allowed_layer, is_formed, is_allowed_probe, all_true, are_settings, greatest}
use Rattle.strat_text.specs.Nesting.{settings_nesting, probe_nesting, nesting_layer, nesting}
use Rattle.strat_text.specs.Number.{is_within}
use Rattle.strat_text.specs.Spelled.{key_text, setting_texts, spelled_probe, strategy_layer, spelled}
use Rattle.strat_text.proofs.Layers.{fold-Prim, fold-Then, fold-OrElse, fold-ParOr, fold-ParThen, fold-If, fold-When, fold-FailIf, fold-Repeat, fold-Params, fold-TryFor, EachStrategy, StrategyForms, by_StrategyForms}
use Rattle.strat_text.proofs.Numerals.{and_left, and_right, symbol_word, numeral_word, keyword_word, numeral-decimal, within_small}
use Rattle.strat_text.proofs.ProbesBack.{trees, number_tree, probe_tree, RowText, branch_text, number_told, probe_text, number_good, probe_good, RowNests, branch_nests, number_nests, probe_nests, greatest_one, greatest_two}
use Rattle.strat_text.proofs.Trees.{Tree, leaf, branch, Trees, nil, cons, print, IsWord, Good, AreGood, nests, most}

true_false : true ≡ false → ⊥
true_false e = cc

-- keys and values in turn
abbrev pub settings_trees : List (ParamKey × ℤ) → Trees
settings_trees [] = nil
settings_trees (setting ∷ settings) = cons (leaf Keyword (key_text setting.0)) (cons (number_tree setting.1) (settings_trees settings))

-- one level of a strategy
abbrev pub tree_layer : Strategy-F Tree → Tree
tree_layer (Strategy-F.Prim name) = leaf Symbol name
tree_layer (Strategy-F.Then parts) = branch (codes "then") (trees parts)
tree_layer (Strategy-F.OrElse parts) = branch (codes "or-else") (trees parts)
tree_layer (Strategy-F.ParOr parts) = branch (codes "par-or") (trees parts)
tree_layer (Strategy-F.ParThen a b) = branch (codes "par-then") (cons a (cons b nil))
tree_layer (Strategy-F.If p a b) = branch (codes "if") (cons (probe_tree p) (cons a (cons b nil)))
tree_layer (Strategy-F.When p a) = branch (codes "when") (cons (probe_tree p) (cons a nil))
tree_layer (Strategy-F.FailIf p) = branch (codes "fail-if") (cons (probe_tree p) nil)
tree_layer (Strategy-F.Repeat a turns) = branch (codes "repeat") (cons a (cons (leaf Numeral (decimal turns)) nil))
tree_layer (Strategy-F.Params a settings) = branch (codes "using-params") (cons a (settings_trees settings))
tree_layer (Strategy-F.TryFor a limit) = branch (codes "try-for") (cons a (cons (leaf Numeral (decimal limit)) nil))

-- a strategy as a tree
unfoldable pub tree_of : Strategy → Tree
tree_of = fold-Strategy Tree tree_layer

-- texts

settings_text : (settings : List (ParamKey × ℤ)) → RowText (settings_trees settings) (setting_texts settings)
settings_text [] = tt
settings_text (setting ∷ settings) = (refl, (number_told setting.1, settings_text settings))

HasText : Strategy → Type 0
HasText s = print (tree_of s) ≡ spelled s

each_text : (ss : List Strategy) → EachStrategy HasText ss → RowText (trees (map tree_of ss)) (map spelled ss)
unfolding HasText
each_text [] h = tt
each_text (s ∷ ss) h = (h.0, each_text ss h.1)

texts : StrategyForms HasText
unfolding HasText tree_of spelled
texts = record {
  in_Prim = λ name. ap print (fold-Prim Tree tree_layer name) ∙ sym (fold-Prim (List ℕ) strategy_layer name);
  in_Then = λ ss h. ap print (fold-Then Tree tree_layer ss) ∙ branch_text (codes "then") (trees (map tree_of ss)) (map spelled ss) (each_text ss h) ∙ sym (fold-Then (List ℕ) strategy_layer ss);
  in_OrElse = λ ss h. ap print (fold-OrElse Tree tree_layer ss) ∙ branch_text (codes "or-else") (trees (map tree_of ss)) (map spelled ss) (each_text ss h) ∙ sym (fold-OrElse (List ℕ) strategy_layer ss);
  in_ParOr = λ ss h. ap print (fold-ParOr Tree tree_layer ss) ∙ branch_text (codes "par-or") (trees (map tree_of ss)) (map spelled ss) (each_text ss h) ∙ sym (fold-ParOr (List ℕ) strategy_layer ss);
  in_ParThen = λ a ha b hb.
      ap print (fold-ParThen Tree tree_layer a b)
      ∙ branch_text (codes "par-then") (cons (tree_of a) (cons (tree_of b) nil)) (spelled a ∷ spelled b ∷ []) (ha, (hb, tt))
      ∙ sym (fold-ParThen (List ℕ) strategy_layer a b);
  in_If = λ p a ha b hb.
      ap print (fold-If Tree tree_layer p a b)
      ∙ branch_text (codes "if") (cons (probe_tree p) (cons (tree_of a) (cons (tree_of b) nil))) (spelled_probe p ∷ spelled a ∷ spelled b ∷ []) (probe_text p, (ha, (hb, tt)))
      ∙ sym (fold-If (List ℕ) strategy_layer p a b);
  in_When = λ p a ha.
      ap print (fold-When Tree tree_layer p a)
      ∙ branch_text (codes "when") (cons (probe_tree p) (cons (tree_of a) nil)) (spelled_probe p ∷ spelled a ∷ []) (probe_text p, (ha, tt))
      ∙ sym (fold-When (List ℕ) strategy_layer p a);
  in_FailIf = λ p.
      ap print (fold-FailIf Tree tree_layer p)
      ∙ branch_text (codes "fail-if") (cons (probe_tree p) nil) (spelled_probe p ∷ []) (probe_text p, tt)
      ∙ sym (fold-FailIf (List ℕ) strategy_layer p);
  in_Repeat = λ a ha turns.
      ap print (fold-Repeat Tree tree_layer a turns)
      ∙ branch_text (codes "repeat") (cons (tree_of a) (cons (leaf Numeral (decimal turns)) nil)) (spelled a ∷ decimal turns ∷ []) (ha, (refl, tt))
      ∙ sym (fold-Repeat (List ℕ) strategy_layer a turns);
  in_Params = λ a ha settings.
      ap print (fold-Params Tree tree_layer a settings)
      ∙ branch_text (codes "using-params") (cons (tree_of a) (settings_trees settings)) (spelled a ∷ setting_texts settings) (ha, settings_text settings)
      ∙ sym (fold-Params (List ℕ) strategy_layer a settings);
  in_TryFor = λ a ha limit.
      ap print (fold-TryFor Tree tree_layer a limit)
      ∙ branch_text (codes "try-for") (cons (tree_of a) (cons (leaf Numeral (decimal limit)) nil)) (spelled a ∷ decimal limit ∷ []) (ha, (refl, tt))
      ∙ sym (fold-TryFor (List ℕ) strategy_layer a limit);
}

pub tree_text : (s : Strategy) → print (tree_of s) ≡ spelled s
unfolding HasText
tree_text = by_StrategyForms HasText texts

-- words

key_good : (k : ParamKey) → IsWord Keyword (key_text k)
key_good key.Lia2pbMaxBits = keyword_word (codes "lia2pb_max_bits") refl
key_good key.AddBoundLower = keyword_word (codes "add_bound_lower") refl
key_good key.AddBoundUpper = keyword_word (codes "add_bound_upper") refl
key_good key.DropWideMax = keyword_word (codes "drop_wide_max") refl

settings_good : (settings : List (ParamKey × ℤ)) → are_settings settings ≡ true → AreGood (settings_trees settings)
settings_good [] h = tt
settings_good (setting ∷ settings) h =
    let within = and_left (is_within setting.0 setting.1) (are_settings settings) h in
    (key_good setting.0, (number_good setting.1 (within_small setting.0 setting.1 within), settings_good settings (and_right (is_within setting.0 setting.1) (are_settings settings) h)))

HasWords : Strategy → Type 0
HasWords s = is_formed s ≡ true → Good (tree_of s)

each_good : (ss : List Strategy) → EachStrategy HasWords ss → all_true (map is_formed ss) ≡ true → AreGood (trees (map tree_of ss))
unfolding HasWords
each_good [] h all = tt
each_good (s ∷ ss) h all = (h.0 (and_left (is_formed s) (all_true (map is_formed ss)) all), each_good ss h.1 (and_right (is_formed s) (all_true (map is_formed ss)) all))

pub turns_small : (n : ℕ) → nat_lt n (2 ^ 32) ≡ true → n < 10 ^ 64
turns_small n h = grind (arith, nat_tests)

pub limit_small : (n : ℕ) → nat_le n (2 ^ 62) ≡ true → n < 10 ^ 64
limit_small n h = grind (arith, nat_tests)

pub parts_all : (ss : List Strategy) → (nat_le 2 (length (map is_formed ss)) && all_true (map is_formed ss)) ≡ true → all_true (map is_formed ss) ≡ true
parts_all ss h = and_right (nat_le 2 (length (map is_formed ss))) (all_true (map is_formed ss)) h

pub first_of_three : (a b c : Bool) → (a && b && c) ≡ true → a ≡ true
first_of_three true b c h = refl
first_of_three false b c h = absurd (true_false (sym h))

pub second_of_three : (a b c : Bool) → (a && b && c) ≡ true → b ≡ true
second_of_three true true c h = refl
second_of_three true false c h = absurd (true_false (sym h))
second_of_three false b c h = absurd (true_false (sym h))

pub third_of_three : (a b c : Bool) → (a && b && c) ≡ true → c ≡ true
third_of_three true true c h = h
third_of_three true false c h = absurd (true_false (sym h))
third_of_three false b c h = absurd (true_false (sym h))

pub branches_all : (ss : List Strategy) → (nat_le 2 (length (map is_formed ss)) && nat_le (length (map is_formed ss)) BRANCHES && all_true (map is_formed ss)) ≡ true → all_true (map is_formed ss) ≡ true
branches_all ss h = third_of_three (nat_le 2 (length (map is_formed ss))) (nat_le (length (map is_formed ss)) BRANCHES) (all_true (map is_formed ss)) h

words : StrategyForms HasWords
unfolding HasWords tree_of is_formed
words = record {
  in_Prim = λ name h. subst Good (sym (fold-Prim Tree tree_layer name)) (symbol_word name (sym (fold-Prim Bool allowed_layer name) ∙ h));
  in_Then = λ ss each h.
      subst Good (sym (fold-Then Tree tree_layer ss)) (symbol_word (codes "then") refl, each_good ss each (parts_all ss (sym (fold-Then Bool allowed_layer ss) ∙ h)));
  in_OrElse = λ ss each h.
      subst Good (sym (fold-OrElse Tree tree_layer ss)) (symbol_word (codes "or-else") refl, each_good ss each (parts_all ss (sym (fold-OrElse Bool allowed_layer ss) ∙ h)));
  in_ParOr = λ ss each h.
      subst Good (sym (fold-ParOr Tree tree_layer ss)) (symbol_word (codes "par-or") refl, each_good ss each (branches_all ss (sym (fold-ParOr Bool allowed_layer ss) ∙ h)));
  in_ParThen = λ a ha b hb h.
      let formed = sym (fold-ParThen Bool allowed_layer a b) ∙ h in
      subst Good (sym (fold-ParThen Tree tree_layer a b)) (symbol_word (codes "par-then") refl, (ha (and_left (is_formed a) (is_formed b) formed), (hb (and_right (is_formed a) (is_formed b) formed), tt)));
  in_If = λ p a ha b hb h.
      let formed = sym (fold-If Bool allowed_layer p a b) ∙ h in
      subst Good (sym (fold-If Tree tree_layer p a b)) (symbol_word (codes "if") refl, (probe_good p (first_of_three (is_allowed_probe p) (is_formed a) (is_formed b) formed), (ha (second_of_three (is_allowed_probe p) (is_formed a) (is_formed b) formed), (hb (third_of_three (is_allowed_probe p) (is_formed a) (is_formed b) formed), tt))));
  in_When = λ p a ha h.
      let formed = sym (fold-When Bool allowed_layer p a) ∙ h in
      subst Good (sym (fold-When Tree tree_layer p a)) (symbol_word (codes "when") refl, (probe_good p (and_left (is_allowed_probe p) (is_formed a) formed), (ha (and_right (is_allowed_probe p) (is_formed a) formed), tt)));
  in_FailIf = λ p h.
      let formed = sym (fold-FailIf Bool allowed_layer p) ∙ h in
      subst Good (sym (fold-FailIf Tree tree_layer p)) (symbol_word (codes "fail-if") refl, (probe_good p formed, tt));
  in_Repeat = λ a ha turns h.
      let formed = sym (fold-Repeat Bool allowed_layer a turns) ∙ h in
      subst Good (sym (fold-Repeat Tree tree_layer a turns)) (symbol_word (codes "repeat") refl, (ha (and_left (is_formed a) (nat_lt turns (2 ^ 32)) formed), (numeral_word (decimal turns) (numeral-decimal turns (turns_small turns (and_right (is_formed a) (nat_lt turns (2 ^ 32)) formed))), tt)));
  in_Params = λ a ha settings h.
      let formed = sym (fold-Params Bool allowed_layer a settings) ∙ h in
      subst Good (sym (fold-Params Tree tree_layer a settings)) (symbol_word (codes "using-params") refl, (ha (first_of_three (is_formed a) (nat_le 1 (length settings)) (are_settings settings) formed), settings_good settings (third_of_three (is_formed a) (nat_le 1 (length settings)) (are_settings settings) formed)));
  in_TryFor = λ a ha limit h.
      let formed = sym (fold-TryFor Bool allowed_layer a limit) ∙ h in
      subst Good (sym (fold-TryFor Tree tree_layer a limit)) (symbol_word (codes "try-for") refl, (ha (and_left (is_formed a) (nat_le limit (2 ^ 62)) formed), (numeral_word (decimal limit) (numeral-decimal limit (limit_small limit (and_right (is_formed a) (nat_le limit (2 ^ 62)) formed))), tt)));
}

pub tree_good : (s : Strategy) → is_formed s ≡ true → Good (tree_of s)
unfolding HasWords
tree_good = by_StrategyForms HasWords words

-- nesting

settings_nests : (settings : List (ParamKey × ℤ)) → most (settings_trees settings) ≡ settings_nesting settings
settings_nests [] = refl
settings_nests (setting ∷ settings) =
    let first = number_nests setting.1 in
    let rest = settings_nests settings in
    omega arith

Nests : Strategy → Type 0
Nests s = nests (tree_of s) ≡ nesting s

each_nests : (ss : List Strategy) → EachStrategy Nests ss → RowNests (trees (map tree_of ss)) (map nesting ss)
unfolding Nests
each_nests [] h = tt
each_nests (s ∷ ss) h = (h.0, each_nests ss h.1)

greatest_three : (a b c : ℕ) → greatest (a ∷ b ∷ c ∷ []) ≡ max a (max b c)
greatest_three a b c = omega arith

with_zero : (a : ℕ) → greatest (a ∷ 0 ∷ []) ≡ a
with_zero a = omega arith

params_nests : (word : List ℕ) (t : Tree) (settings : List (ParamKey × ℤ)) (n : ℕ) → nests t ≡ n → nests (branch word (cons t (settings_trees settings))) ≡ 1 + max n (settings_nesting settings)
params_nests word t settings n h = ap (λ k. 1 + max k (most (settings_trees settings))) h ∙ ap (λ k. 1 + max n k) (settings_nests settings)

nested : StrategyForms Nests
unfolding Nests tree_of nesting
nested = record {
  in_Prim = λ name. ap nests (fold-Prim Tree tree_layer name) ∙ sym (fold-Prim ℕ nesting_layer name);
  in_Then = λ ss h.
      ap nests (fold-Then Tree tree_layer ss)
      ∙ branch_nests (codes "then") (trees (map tree_of ss)) (map nesting ss) (greatest (map nesting ss)) (each_nests ss h) refl
      ∙ sym (fold-Then ℕ nesting_layer ss);
  in_OrElse = λ ss h.
      ap nests (fold-OrElse Tree tree_layer ss)
      ∙ branch_nests (codes "or-else") (trees (map tree_of ss)) (map nesting ss) (greatest (map nesting ss)) (each_nests ss h) refl
      ∙ sym (fold-OrElse ℕ nesting_layer ss);
  in_ParOr = λ ss h.
      ap nests (fold-ParOr Tree tree_layer ss)
      ∙ branch_nests (codes "par-or") (trees (map tree_of ss)) (map nesting ss) (greatest (map nesting ss)) (each_nests ss h) refl
      ∙ sym (fold-ParOr ℕ nesting_layer ss);
  in_ParThen = λ a ha b hb.
      ap nests (fold-ParThen Tree tree_layer a b)
      ∙ branch_nests (codes "par-then") (cons (tree_of a) (cons (tree_of b) nil)) (nesting a ∷ nesting b ∷ []) (max (nesting a) (nesting b)) (ha, (hb, tt)) (greatest_two (nesting a) (nesting b))
      ∙ sym (fold-ParThen ℕ nesting_layer a b);
  in_If = λ p a ha b hb.
      ap nests (fold-If Tree tree_layer p a b)
      ∙ branch_nests (codes "if") (cons (probe_tree p) (cons (tree_of a) (cons (tree_of b) nil))) (probe_nesting p ∷ nesting a ∷ nesting b ∷ []) (max (probe_nesting p) (max (nesting a) (nesting b))) (probe_nests p, (ha, (hb, tt))) (greatest_three (probe_nesting p) (nesting a) (nesting b))
      ∙ sym (fold-If ℕ nesting_layer p a b);
  in_When = λ p a ha.
      ap nests (fold-When Tree tree_layer p a)
      ∙ branch_nests (codes "when") (cons (probe_tree p) (cons (tree_of a) nil)) (probe_nesting p ∷ nesting a ∷ []) (max (probe_nesting p) (nesting a)) (probe_nests p, (ha, tt)) (greatest_two (probe_nesting p) (nesting a))
      ∙ sym (fold-When ℕ nesting_layer p a);
  in_FailIf = λ p.
      ap nests (fold-FailIf Tree tree_layer p)
      ∙ branch_nests (codes "fail-if") (cons (probe_tree p) nil) (probe_nesting p ∷ []) (probe_nesting p) (probe_nests p, tt) (greatest_one (probe_nesting p))
      ∙ sym (fold-FailIf ℕ nesting_layer p);
  in_Repeat = λ a ha turns.
      ap nests (fold-Repeat Tree tree_layer a turns)
      ∙ branch_nests (codes "repeat") (cons (tree_of a) (cons (leaf Numeral (decimal turns)) nil)) (nesting a ∷ 0 ∷ []) (nesting a) (ha, (refl, tt)) (with_zero (nesting a))
      ∙ sym (fold-Repeat ℕ nesting_layer a turns);
  in_Params = λ a ha settings.
      ap nests (fold-Params Tree tree_layer a settings)
      ∙ params_nests (codes "using-params") (tree_of a) settings (nesting a) ha
      ∙ sym (fold-Params ℕ nesting_layer a settings);
  in_TryFor = λ a ha limit.
      ap nests (fold-TryFor Tree tree_layer a limit)
      ∙ branch_nests (codes "try-for") (cons (tree_of a) (cons (leaf Numeral (decimal limit)) nil)) (nesting a ∷ 0 ∷ []) (nesting a) (ha, (refl, tt)) (with_zero (nesting a))
      ∙ sym (fold-TryFor ℕ nesting_layer a limit);
}

pub tree_nesting : (s : Strategy) → nests (tree_of s) ≡ nesting s
unfolding Nests
tree_nesting = by_StrategyForms Nests nested
