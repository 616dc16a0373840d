-- What `fits` is at each form, by its parts.
use Rattle.std.proofs.Common.{◌≡◌, ◌≢◌, ℕ, zero, suc, ◌+◌, ◌-◌, ◌^◌, ◌≤◌, ◌<◌, max, SFits, ◌⊎◌, inl, inr, take, get_or, pos, negsuc, not, Bool, true, false, ◌&&◌, nat_le, ℤ, List, [], ◌∷◌, length, map, refl, ap, sym, subst, ◌∙◌, arith}
use Rattle.std.specs.Prelude.{nat_lt}
use Rattle.std.specs.Int.{w128}
use Rattle.std.specs.List.{list_all}
use Rattle.std.proofs.lemmas.List.Folds.{list_all_more}
use Rattle.std.proofs.lemmas.Bool.Decides.{nat_tests}
use Rattle.std.proofs.lemmas.List.{length-map}
use Rattle.sexp_read.specs.Lexical.{is_simple_symbol}
use Rattle.strat_text.specs.declared.probe.ProbeExpr.{ProbeExpr}
use Rattle.strat_text.specs.declared.probe.ProbeExpr.TheVariants as probe
use Rattle.strat_text.specs.declared.strategy.ParamKey.{ParamKey}
use Rattle.strat_text.specs.declared.strategy.Strategy.{Strategy}
use Rattle.strat_text.specs.declared.strategy.Strategy.TheVariants as strategy
use Rattle.strat_text.specs.declared.strategy.TheConstants.{BRANCHES}
use Rattle.strat_text.specs.Allowed.{allowed_probe_layer, is_allowed_probe, allowed_layer, is_formed, all_true, are_settings, greatest, depth_layer, depth_of}
use Rattle.strat_text.specs.Number.{is_wide}
use Rattle.strat_text.specs.Within.{fits}
use Rattle.strat_text.proofs.Layers.{fold-Size, fold-NumExprs, fold-Depth, fold-NumConsts, fold-IsPropositional, fold-IsCanonical, fold-IsBounded, fold-Is01, fold-MaxBits, fold-Num, fold-Lt, fold-Le, fold-Gt, fold-Ge, fold-Eq, fold-And, fold-Or, fold-Not, fold-Prim, fold-Then, fold-OrElse, fold-ParOr, fold-ParThen, fold-If, fold-When, fold-FailIf, fold-Repeat, fold-Params, fold-TryFor, by_StrategyForms}

same_bool : (a b : Bool) → (a ≡ true → b ≡ true) → (b ≡ true → a ≡ true) → a ≡ b
same_bool true b there back = sym (there refl)
same_bool false true there back = back refl
same_bool false false there back = refl

and_false : (a : Bool) → (a && false) ≡ false
and_false true = refl
and_false false = refl

and_true : (a : Bool) → (a && true) ≡ a
and_true true = refl
and_true false = refl

-- one level

le_level : (d l : ℕ) → nat_le (1 + d) (suc l) ≡ nat_le d l
le_level d l = same_bool (nat_le (1 + d) (suc l)) (nat_le d l) (λ h. grind (arith, nat_tests)) (λ h. grind (arith, nat_tests))

both_of : (a b : Bool) → a ≡ true → b ≡ true → (a && b) ≡ true
both_of a b h k = rw (h, k) refl

left_of : (a b : Bool) → (a && b) ≡ true → a ≡ true
left_of true b h = refl
left_of false b h = h

right_of : (a b : Bool) → (a && b) ≡ true → b ≡ true
right_of true b h = h
right_of false b h = cc

le_max : (a b l : ℕ) → nat_le (max a b) l ≡ (nat_le a l && nat_le b l)
le_max a b l = same_bool (nat_le (max a b) l) (nat_le a l && nat_le b l)
    (λ h. both_of (nat_le a l) (nat_le b l) (grind (arith, nat_tests)) (grind (arith, nat_tests)))
    (λ h. let x = left_of (nat_le a l) (nat_le b l) h in let y = right_of (nat_le a l) (nat_le b l) h in grind (arith, nat_tests))

pair : (f g : Bool) (a b l : ℕ) → ((f && g) && nat_le (max a b) l) ≡ ((f && nat_le a l) && (g && nat_le b l))
pair true true a b l = le_max a b l
pair true false a b l = sym (and_false (nat_le a l))
pair false g a b l = refl

all_fit : (ss : List Strategy) (l : ℕ) → (all_true (map is_formed ss) && nat_le (greatest (map depth_of ss)) l) ≡ list_all (λ s. fits s l) ss
unfolding fits
all_fit [] l = let low : nat_le 0 l ≡ true = grind (arith, nat_tests) in low
all_fit (s ∷ ss) l = pair (is_formed s) (all_true (map is_formed ss)) (depth_of s) (greatest (map depth_of ss)) l ∙ ap (λ b. (is_formed s && nat_le (depth_of s) l) && b) (all_fit ss l)

-- one more level

two_level : (f g : Bool) (a b l : ℕ) → ((f && g) && nat_le (1 + max a b) (suc l)) ≡ ((f && nat_le a l) && (g && nat_le b l))
two_level f g a b l = ap (λ t. (f && g) && t) (le_level (max a b) l) ∙ pair f g a b l

if_level : (p f g : Bool) (a b l : ℕ) → ((p && f && g) && nat_le (1 + max a b) (suc l)) ≡ (p && ((f && nat_le a l) && (g && nat_le b l)))
if_level true f g a b l = two_level f g a b l
if_level false f g a b l = refl

when_level : (p f : Bool) (a l : ℕ) → ((p && f) && nat_le (1 + a) (suc l)) ≡ (p && (f && nat_le a l))
when_level true f a l = ap (λ t. f && t) (le_level a l)
when_level false f a l = refl

then_level : (f t : Bool) (a l : ℕ) → ((f && t) && nat_le (1 + a) (suc l)) ≡ ((f && nat_le a l) && t)
then_level true true a l = le_level a l ∙ sym (and_true (nat_le a l))
then_level true false a l = sym (and_false (nat_le a l))
then_level false t a l = refl

settings_level : (f n t : Bool) (a l : ℕ) → ((f && n && t) && nat_le (1 + a) (suc l)) ≡ ((f && nat_le a l) && (n && t))
settings_level true true t a l = then_level true t a l ∙ last (nat_le a l) t
  where
    last : (b c : Bool) → (b && c) ≡ (b && (true && c))
    last true c = refl
    last false c = refl
settings_level true false t a l = none (nat_le a l) t
  where
    none : (b c : Bool) → false ≡ (b && (false && c))
    none true c = refl
    none false c = refl
settings_level false n t a l = refl

branch_level : (m n t : Bool) (a l : ℕ) → ((m && n && t) && nat_le (1 + a) (suc l)) ≡ (m && n && (t && nat_le a l))
branch_level true true t a l = ap (λ b. t && b) (le_level a l)
branch_level true false t a l = refl
branch_level false n t a l = refl

-- a name is one level

deep : (s : Strategy) → 1 ≤ depth_of s
unfolding depth_of
deep = by_StrategyForms (λ s. 1 ≤ depth_of s) (record {
  in_Prim = λ name. let low : 1 ≤ 1 = omega arith in subst (λ d. 1 ≤ d) (sym (fold-Prim ℕ depth_layer name)) low;
  in_Then = λ ss h. let low : 1 ≤ 1 + greatest (map depth_of ss) = omega arith in subst (λ d. 1 ≤ d) (sym (fold-Then ℕ depth_layer ss)) low;
  in_OrElse = λ ss h. let low : 1 ≤ 1 + greatest (map depth_of ss) = omega arith in subst (λ d. 1 ≤ d) (sym (fold-OrElse ℕ depth_layer ss)) low;
  in_ParOr = λ ss h. let low : 1 ≤ 1 + greatest (map depth_of ss) = omega arith in subst (λ d. 1 ≤ d) (sym (fold-ParOr ℕ depth_layer ss)) low;
  in_ParThen = λ a ha b hb. let low : 1 ≤ 1 + max (depth_of a) (depth_of b) = omega arith in subst (λ d. 1 ≤ d) (sym (fold-ParThen ℕ depth_layer a b)) low;
  in_If = λ p a ha b hb. let low : 1 ≤ 1 + max (depth_of a) (depth_of b) = omega arith in subst (λ d. 1 ≤ d) (sym (fold-If ℕ depth_layer p a b)) low;
  in_When = λ p a ha. let low : 1 ≤ 1 + depth_of a = omega arith in subst (λ d. 1 ≤ d) (sym (fold-When ℕ depth_layer p a)) low;
  in_FailIf = λ p. let low : 1 ≤ 1 = omega arith in subst (λ d. 1 ≤ d) (sym (fold-FailIf ℕ depth_layer p)) low;
  in_Repeat = λ a ha turns. let low : 1 ≤ 1 + depth_of a = omega arith in subst (λ d. 1 ≤ d) (sym (fold-Repeat ℕ depth_layer a turns)) low;
  in_Params = λ a ha settings. let low : 1 ≤ 1 + depth_of a = omega arith in subst (λ d. 1 ≤ d) (sym (fold-Params ℕ depth_layer a settings)) low;
  in_TryFor = λ a ha limit. let low : 1 ≤ 1 + depth_of a = omega arith in subst (λ d. 1 ≤ d) (sym (fold-TryFor ℕ depth_layer a limit)) low;
})

pub fits-none : (s : Strategy) (left : ℕ) → left ≡ 0 → fits s left ≡ false
unfolding fits
fits-none s left none =
    let low = deep s in
    let test : nat_le (depth_of s) left ≡ false = grind (arith, nat_tests) in
    ap (λ t. is_formed s && t) test ∙ and_false (is_formed s)

at_level : (left : ℕ) (Q : ℕ → Type 0) → left ≢ 0 → ((l : ℕ) → Q (suc l)) → Q left
at_level zero Q some q = absurd (some refl)
at_level (suc l) Q some q = q l

less_one : (l : ℕ) → suc l - 1 ≡ l
less_one l = omega arith

two_parts : (ss : List Strategy) → nat_le 2 (length (map is_formed ss)) ≡ nat_le 2 (length ss)
two_parts ss = ap (nat_le 2) (length-map ss is_formed)

most_parts : (ss : List Strategy) → nat_le (length (map is_formed ss)) BRANCHES ≡ nat_le (length ss) BRANCHES
most_parts ss = ap (λ n. nat_le n BRANCHES) (length-map ss is_formed)

pub fits-Prim : (s : Strategy) (name : List ℕ) (left : ℕ) → s ≡ strategy.Prim name → left ≢ 0 → fits s left ≡ is_simple_symbol name
unfolding fits is_formed depth_of
fits-Prim s name left is some = at_level left (λ n. fits s n ≡ is_simple_symbol name) some (λ l.
    ap (λ x. fits x (suc l)) is ∙ ap (λ f. f && nat_le (depth_of (strategy.Prim name)) (suc l)) (fold-Prim Bool allowed_layer name) ∙ ap (λ d. is_simple_symbol name && nat_le d (suc l)) (fold-Prim ℕ depth_layer name)
    ∙ (let low : nat_le 1 (suc l) ≡ true = grind (arith, nat_tests) in ap (λ t. is_simple_symbol name && t) low ∙ and_true (is_simple_symbol name)) ∙ ap (λ m. is_simple_symbol name) (sym (less_one l)))

pub fits-Then : (s : Strategy) (ss : List Strategy) (left : ℕ) → s ≡ strategy.Then ss → left ≢ 0 → fits s left ≡ (nat_le 2 (length ss) && list_all (λ s. fits s (left - 1)) ss)
unfolding fits is_formed depth_of
fits-Then s ss left is some = at_level left (λ n. fits s n ≡ (nat_le 2 (length ss) && list_all (λ s. fits s (n - 1)) ss)) some (λ l.
    ap (λ x. fits x (suc l)) is ∙ ap (λ f. f && nat_le (depth_of (strategy.Then ss)) (suc l)) (fold-Then Bool allowed_layer ss) ∙ ap (λ d. (nat_le 2 (length (map is_formed ss)) && all_true (map is_formed ss)) && nat_le d (suc l)) (fold-Then ℕ depth_layer ss)
    ∙ when_level (nat_le 2 (length (map is_formed ss))) (all_true (map is_formed ss)) (greatest (map depth_of ss)) l ∙ ap (λ t. t && (all_true (map is_formed ss) && nat_le (greatest (map depth_of ss)) l)) (two_parts ss) ∙ ap (λ t. nat_le 2 (length ss) && t) (all_fit ss l) ∙ ap (λ m. (nat_le 2 (length ss) && list_all (λ s. fits s m) ss)) (sym (less_one l)))

pub fits-OrElse : (s : Strategy) (ss : List Strategy) (left : ℕ) → s ≡ strategy.OrElse ss → left ≢ 0 → fits s left ≡ (nat_le 2 (length ss) && list_all (λ s. fits s (left - 1)) ss)
unfolding fits is_formed depth_of
fits-OrElse s ss left is some = at_level left (λ n. fits s n ≡ (nat_le 2 (length ss) && list_all (λ s. fits s (n - 1)) ss)) some (λ l.
    ap (λ x. fits x (suc l)) is ∙ ap (λ f. f && nat_le (depth_of (strategy.OrElse ss)) (suc l)) (fold-OrElse Bool allowed_layer ss) ∙ ap (λ d. (nat_le 2 (length (map is_formed ss)) && all_true (map is_formed ss)) && nat_le d (suc l)) (fold-OrElse ℕ depth_layer ss)
    ∙ when_level (nat_le 2 (length (map is_formed ss))) (all_true (map is_formed ss)) (greatest (map depth_of ss)) l ∙ ap (λ t. t && (all_true (map is_formed ss) && nat_le (greatest (map depth_of ss)) l)) (two_parts ss) ∙ ap (λ t. nat_le 2 (length ss) && t) (all_fit ss l) ∙ ap (λ m. (nat_le 2 (length ss) && list_all (λ s. fits s m) ss)) (sym (less_one l)))

pub fits-ParOr : (s : Strategy) (ss : List Strategy) (left : ℕ) → s ≡ strategy.ParOr ss → left ≢ 0 → fits s left ≡ ((nat_le 2 (length ss) && nat_le (length ss) BRANCHES) && list_all (λ s. fits s (left - 1)) ss)
unfolding fits is_formed depth_of
fits-ParOr s ss left is some = at_level left (λ n. fits s n ≡ ((nat_le 2 (length ss) && nat_le (length ss) BRANCHES) && list_all (λ s. fits s (n - 1)) ss)) some (λ l.
    ap (λ x. fits x (suc l)) is ∙ ap (λ f. f && nat_le (depth_of (strategy.ParOr ss)) (suc l)) (fold-ParOr Bool allowed_layer ss) ∙ ap (λ d. (nat_le 2 (length (map is_formed ss)) && nat_le (length (map is_formed ss)) BRANCHES && all_true (map is_formed ss)) && nat_le d (suc l)) (fold-ParOr ℕ depth_layer ss)
    ∙ branch_level (nat_le 2 (length (map is_formed ss))) (nat_le (length (map is_formed ss)) BRANCHES) (all_true (map is_formed ss)) (greatest (map depth_of ss)) l ∙ ap (λ t. t && nat_le (length (map is_formed ss)) BRANCHES && (all_true (map is_formed ss) && nat_le (greatest (map depth_of ss)) l)) (two_parts ss) ∙ ap (λ t. nat_le 2 (length ss) && t && (all_true (map is_formed ss) && nat_le (greatest (map depth_of ss)) l)) (most_parts ss) ∙ ap (λ t. nat_le 2 (length ss) && nat_le (length ss) BRANCHES && t) (all_fit ss l) ∙ ap (λ m. ((nat_le 2 (length ss) && nat_le (length ss) BRANCHES) && list_all (λ s. fits s m) ss)) (sym (less_one l)))

pub fits-ParThen : (s : Strategy) (a b : Strategy) (left : ℕ) → s ≡ strategy.ParThen a b → left ≢ 0 → fits s left ≡ (fits a (left - 1) && fits b (left - 1))
unfolding fits is_formed depth_of
fits-ParThen s a b left is some = at_level left (λ n. fits s n ≡ (fits a (n - 1) && fits b (n - 1))) some (λ l.
    ap (λ x. fits x (suc l)) is ∙ ap (λ f. f && nat_le (depth_of (strategy.ParThen a b)) (suc l)) (fold-ParThen Bool allowed_layer a b) ∙ ap (λ d. (is_formed a && is_formed b) && nat_le d (suc l)) (fold-ParThen ℕ depth_layer a b)
    ∙ two_level (is_formed a) (is_formed b) (depth_of a) (depth_of b) l ∙ ap (λ m. (fits a m && fits b m)) (sym (less_one l)))

pub fits-If : (s : Strategy) (p : ProbeExpr) (a b : Strategy) (left : ℕ) → s ≡ strategy.If p a b → left ≢ 0 → fits s left ≡ (is_allowed_probe p && (fits a (left - 1) && fits b (left - 1)))
unfolding fits is_formed depth_of
fits-If s p a b left is some = at_level left (λ n. fits s n ≡ (is_allowed_probe p && (fits a (n - 1) && fits b (n - 1)))) some (λ l.
    ap (λ x. fits x (suc l)) is ∙ ap (λ f. f && nat_le (depth_of (strategy.If p a b)) (suc l)) (fold-If Bool allowed_layer p a b) ∙ ap (λ d. (is_allowed_probe p && is_formed a && is_formed b) && nat_le d (suc l)) (fold-If ℕ depth_layer p a b)
    ∙ if_level (is_allowed_probe p) (is_formed a) (is_formed b) (depth_of a) (depth_of b) l ∙ ap (λ m. (is_allowed_probe p && (fits a m && fits b m))) (sym (less_one l)))

pub fits-When : (s : Strategy) (p : ProbeExpr) (a : Strategy) (left : ℕ) → s ≡ strategy.When p a → left ≢ 0 → fits s left ≡ (is_allowed_probe p && fits a (left - 1))
unfolding fits is_formed depth_of
fits-When s p a left is some = at_level left (λ n. fits s n ≡ (is_allowed_probe p && fits a (n - 1))) some (λ l.
    ap (λ x. fits x (suc l)) is ∙ ap (λ f. f && nat_le (depth_of (strategy.When p a)) (suc l)) (fold-When Bool allowed_layer p a) ∙ ap (λ d. (is_allowed_probe p && is_formed a) && nat_le d (suc l)) (fold-When ℕ depth_layer p a)
    ∙ when_level (is_allowed_probe p) (is_formed a) (depth_of a) l ∙ ap (λ m. (is_allowed_probe p && fits a m)) (sym (less_one l)))

pub fits-FailIf : (s : Strategy) (p : ProbeExpr) (left : ℕ) → s ≡ strategy.FailIf p → left ≢ 0 → fits s left ≡ is_allowed_probe p
unfolding fits is_formed depth_of
fits-FailIf s p left is some = at_level left (λ n. fits s n ≡ is_allowed_probe p) some (λ l.
    ap (λ x. fits x (suc l)) is ∙ ap (λ f. f && nat_le (depth_of (strategy.FailIf p)) (suc l)) (fold-FailIf Bool allowed_layer p) ∙ ap (λ d. is_allowed_probe p && nat_le d (suc l)) (fold-FailIf ℕ depth_layer p)
    ∙ (let low : nat_le 1 (suc l) ≡ true = grind (arith, nat_tests) in ap (λ t. is_allowed_probe p && t) low ∙ and_true (is_allowed_probe p)) ∙ ap (λ m. is_allowed_probe p) (sym (less_one l)))

pub fits-Repeat : (s : Strategy) (a : Strategy) (turns : ℕ) (left : ℕ) → s ≡ strategy.Repeat a turns → left ≢ 0 → fits s left ≡ (fits a (left - 1) && nat_lt turns (2 ^ 32))
unfolding fits is_formed depth_of
fits-Repeat s a turns left is some = at_level left (λ n. fits s n ≡ (fits a (n - 1) && nat_lt turns (2 ^ 32))) some (λ l.
    ap (λ x. fits x (suc l)) is ∙ ap (λ f. f && nat_le (depth_of (strategy.Repeat a turns)) (suc l)) (fold-Repeat Bool allowed_layer a turns) ∙ ap (λ d. (is_formed a && nat_lt turns (2 ^ 32)) && nat_le d (suc l)) (fold-Repeat ℕ depth_layer a turns)
    ∙ then_level (is_formed a) (nat_lt turns (2 ^ 32)) (depth_of a) l ∙ ap (λ m. (fits a m && nat_lt turns (2 ^ 32))) (sym (less_one l)))

pub fits-Params : (s : Strategy) (a : Strategy) (settings : List (ParamKey × ℤ)) (left : ℕ) → s ≡ strategy.Params a settings → left ≢ 0 → fits s left ≡ (fits a (left - 1) && (nat_le 1 (length settings) && are_settings settings))
unfolding fits is_formed depth_of
fits-Params s a settings left is some = at_level left (λ n. fits s n ≡ (fits a (n - 1) && (nat_le 1 (length settings) && are_settings settings))) some (λ l.
    ap (λ x. fits x (suc l)) is ∙ ap (λ f. f && nat_le (depth_of (strategy.Params a settings)) (suc l)) (fold-Params Bool allowed_layer a settings) ∙ ap (λ d. (is_formed a && nat_le 1 (length settings) && are_settings settings) && nat_le d (suc l)) (fold-Params ℕ depth_layer a settings)
    ∙ settings_level (is_formed a) (nat_le 1 (length settings)) (are_settings settings) (depth_of a) l ∙ ap (λ m. (fits a m && (nat_le 1 (length settings) && are_settings settings))) (sym (less_one l)))

pub fits-TryFor : (s : Strategy) (a : Strategy) (limit : ℕ) (left : ℕ) → s ≡ strategy.TryFor a limit → left ≢ 0 → fits s left ≡ (fits a (left - 1) && nat_le limit (2 ^ 62))
unfolding fits is_formed depth_of
fits-TryFor s a limit left is some = at_level left (λ n. fits s n ≡ (fits a (n - 1) && nat_le limit (2 ^ 62))) some (λ l.
    ap (λ x. fits x (suc l)) is ∙ ap (λ f. f && nat_le (depth_of (strategy.TryFor a limit)) (suc l)) (fold-TryFor Bool allowed_layer a limit) ∙ ap (λ d. (is_formed a && nat_le limit (2 ^ 62)) && nat_le d (suc l)) (fold-TryFor ℕ depth_layer a limit)
    ∙ then_level (is_formed a) (nat_le limit (2 ^ 62)) (depth_of a) l ∙ ap (λ m. (fits a m && nat_le limit (2 ^ 62))) (sym (less_one l)))

all_probes : (ps : List ProbeExpr) → all_true (map is_allowed_probe ps) ≡ list_all is_allowed_probe ps
all_probes [] = refl
all_probes (p ∷ ps) = ap (λ b. is_allowed_probe p && b) (all_probes ps)

pub allowed-And : (p : ProbeExpr) (ps : List ProbeExpr) → p ≡ probe.And ps → is_allowed_probe p ≡ (nat_le 1 (length ps) && list_all is_allowed_probe ps)
unfolding is_allowed_probe
allowed-And p ps is =
    ap is_allowed_probe is ∙ fold-And Bool allowed_probe_layer ps ∙ ap (λ n. nat_le 1 n && all_true (map is_allowed_probe ps)) (length-map ps is_allowed_probe) ∙ ap (λ b. nat_le 1 (length ps) && b) (all_probes ps)

pub allowed-Or : (p : ProbeExpr) (ps : List ProbeExpr) → p ≡ probe.Or ps → is_allowed_probe p ≡ (nat_le 1 (length ps) && list_all is_allowed_probe ps)
unfolding is_allowed_probe
allowed-Or p ps is =
    ap is_allowed_probe is ∙ fold-Or Bool allowed_probe_layer ps ∙ ap (λ n. nat_le 1 n && all_true (map is_allowed_probe ps)) (length-map ps is_allowed_probe) ∙ ap (λ b. nat_le 1 (length ps) && b) (all_probes ps)

pub allowed-Size : (p : ProbeExpr) → p ≡ probe.Size → true ≡ is_allowed_probe p
unfolding is_allowed_probe
allowed-Size p is = sym (ap is_allowed_probe is ∙ fold-Size Bool allowed_probe_layer)

pub allowed-NumExprs : (p : ProbeExpr) → p ≡ probe.NumExprs → true ≡ is_allowed_probe p
unfolding is_allowed_probe
allowed-NumExprs p is = sym (ap is_allowed_probe is ∙ fold-NumExprs Bool allowed_probe_layer)

pub allowed-Depth : (p : ProbeExpr) → p ≡ probe.Depth → true ≡ is_allowed_probe p
unfolding is_allowed_probe
allowed-Depth p is = sym (ap is_allowed_probe is ∙ fold-Depth Bool allowed_probe_layer)

pub allowed-NumConsts : (p : ProbeExpr) → p ≡ probe.NumConsts → true ≡ is_allowed_probe p
unfolding is_allowed_probe
allowed-NumConsts p is = sym (ap is_allowed_probe is ∙ fold-NumConsts Bool allowed_probe_layer)

pub allowed-IsPropositional : (p : ProbeExpr) → p ≡ probe.IsPropositional → true ≡ is_allowed_probe p
unfolding is_allowed_probe
allowed-IsPropositional p is = sym (ap is_allowed_probe is ∙ fold-IsPropositional Bool allowed_probe_layer)

pub allowed-IsCanonical : (p : ProbeExpr) → p ≡ probe.IsCanonical → true ≡ is_allowed_probe p
unfolding is_allowed_probe
allowed-IsCanonical p is = sym (ap is_allowed_probe is ∙ fold-IsCanonical Bool allowed_probe_layer)

pub allowed-IsBounded : (p : ProbeExpr) → p ≡ probe.IsBounded → true ≡ is_allowed_probe p
unfolding is_allowed_probe
allowed-IsBounded p is = sym (ap is_allowed_probe is ∙ fold-IsBounded Bool allowed_probe_layer)

pub allowed-Is01 : (p : ProbeExpr) → p ≡ probe.Is01 → true ≡ is_allowed_probe p
unfolding is_allowed_probe
allowed-Is01 p is = sym (ap is_allowed_probe is ∙ fold-Is01 Bool allowed_probe_layer)

pub allowed-MaxBits : (p : ProbeExpr) → p ≡ probe.MaxBits → true ≡ is_allowed_probe p
unfolding is_allowed_probe
allowed-MaxBits p is = sym (ap is_allowed_probe is ∙ fold-MaxBits Bool allowed_probe_layer)

pub allowed-Lt : (p : ProbeExpr) (a b : ProbeExpr) → p ≡ probe.Lt a b → is_allowed_probe p ≡ (is_allowed_probe a && is_allowed_probe b)
unfolding is_allowed_probe
allowed-Lt p a b is = ap is_allowed_probe is ∙ fold-Lt Bool allowed_probe_layer a b

pub allowed-Le : (p : ProbeExpr) (a b : ProbeExpr) → p ≡ probe.Le a b → is_allowed_probe p ≡ (is_allowed_probe a && is_allowed_probe b)
unfolding is_allowed_probe
allowed-Le p a b is = ap is_allowed_probe is ∙ fold-Le Bool allowed_probe_layer a b

pub allowed-Gt : (p : ProbeExpr) (a b : ProbeExpr) → p ≡ probe.Gt a b → is_allowed_probe p ≡ (is_allowed_probe a && is_allowed_probe b)
unfolding is_allowed_probe
allowed-Gt p a b is = ap is_allowed_probe is ∙ fold-Gt Bool allowed_probe_layer a b

pub allowed-Ge : (p : ProbeExpr) (a b : ProbeExpr) → p ≡ probe.Ge a b → is_allowed_probe p ≡ (is_allowed_probe a && is_allowed_probe b)
unfolding is_allowed_probe
allowed-Ge p a b is = ap is_allowed_probe is ∙ fold-Ge Bool allowed_probe_layer a b

pub allowed-Eq : (p : ProbeExpr) (a b : ProbeExpr) → p ≡ probe.Eq a b → is_allowed_probe p ≡ (is_allowed_probe a && is_allowed_probe b)
unfolding is_allowed_probe
allowed-Eq p a b is = ap is_allowed_probe is ∙ fold-Eq Bool allowed_probe_layer a b

pub allowed-Not : (p a : ProbeExpr) → p ≡ probe.Not a → is_allowed_probe p ≡ is_allowed_probe a
unfolding is_allowed_probe
allowed-Not p a is = ap is_allowed_probe is ∙ fold-Not Bool allowed_probe_layer a

narrow : (z : ℤ) → SFits w128 z → is_wide z ≡ false
narrow (pos n) h = grind (arith, nat_tests)
narrow (negsuc n) h = grind (arith, nat_tests)

pub allowed-Num : (p : ProbeExpr) (z : ℤ) → p ≡ probe.Num z → SFits w128 z → true ≡ is_allowed_probe p
unfolding is_allowed_probe
allowed-Num p z is h = sym (ap is_allowed_probe is ∙ fold-Num Bool allowed_probe_layer z ∙ ap not (narrow z h))

-- each of a list

pub all_grows : {X : Type 0} (test : X → Bool) (xs : List X) (i : ℕ) (x : X) → i < length xs → x ≡ get_or xs i x → list_all test (take i xs) ≡ true → test x ≡ true → list_all test (take (i + 1) xs) ≡ true
all_grows test xs i x within here so_far passes = list_all_more test xs i x within ∙ both_of (list_all test (take i xs)) (test (get_or xs i x)) so_far (ap test (sym here) ∙ passes)

pub allowed-words : (p : ProbeExpr) → ((p ≡ probe.Size) ⊎ ((p ≡ probe.NumExprs) ⊎ ((p ≡ probe.Depth) ⊎ ((p ≡ probe.NumConsts) ⊎ ((p ≡ probe.IsPropositional) ⊎ ((p ≡ probe.IsCanonical) ⊎ ((p ≡ probe.IsBounded) ⊎ ((p ≡ probe.Is01) ⊎ (p ≡ probe.MaxBits))))))))) → true ≡ is_allowed_probe p
allowed-words p (inl is) = allowed-Size p is
allowed-words p (inr (inl is)) = allowed-NumExprs p is
allowed-words p (inr (inr (inl is))) = allowed-Depth p is
allowed-words p (inr (inr (inr (inl is)))) = allowed-NumConsts p is
allowed-words p (inr (inr (inr (inr (inl is))))) = allowed-IsPropositional p is
allowed-words p (inr (inr (inr (inr (inr (inl is)))))) = allowed-IsCanonical p is
allowed-words p (inr (inr (inr (inr (inr (inr (inl is))))))) = allowed-IsBounded p is
allowed-words p (inr (inr (inr (inr (inr (inr (inr (inl is)))))))) = allowed-Is01 p is
allowed-words p (inr (inr (inr (inr (inr (inr (inr (inr is)))))))) = allowed-MaxBits p is
