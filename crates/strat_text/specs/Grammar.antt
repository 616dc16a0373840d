-- The grammar of strategies: which strategy a form spells, one production a rule.
use Rattle.std.specs.Prelude.{◌≡◌, ◌≤◌, ◌<◌, ◌^◌, ℕ, suc, Bool, true, false, ℤ, List, [], ◌∷◌, length, Option, None, Some}
use Rattle.std.specs.List.{list_any}
use Rattle.std.specs.Str.{bytes_eq}
use Rattle.sexp_read.specs.Lexical.{is_simple_symbol}
use Rattle.strat_text.specs.declared.words.Head.{Head}
use Rattle.strat_text.specs.declared.words.Head.TheVariants as head
use Rattle.strat_text.specs.declared.words.Operator.{Operator}
use Rattle.strat_text.specs.declared.words.Operator.TheVariants as operator
use Rattle.strat_text.specs.declared.probe.ProbeExpr.{ProbeExpr}
use Rattle.strat_text.specs.declared.probe.ProbeExpr.TheVariants as probe
use Rattle.strat_text.specs.declared.strategy.ParamKey.{ParamKey}
use Rattle.strat_text.specs.declared.strategy.Strategy.{Strategy}
use Rattle.strat_text.specs.declared.strategy.Strategy.TheVariants as strategy
use Rattle.strat_text.specs.declared.strategy.TheConstants.{BRANCHES, TURNS}
use Rattle.sexp_read.specs.declared.sexp.AtomKind.TheVariants as kind
use Rattle.strat_text.specs.Form.{Form, atom, list, Forms, none, more, symbol_of, numeral_of}
use Rattle.strat_text.specs.Words.{head_in, operator_in, probe_named, key_of}
use Rattle.strat_text.specs.Number.{number_of, is_wide, is_within}

-- the names of reducers that may stand in a strategy; without a list every name may
abbrev pub Names : Type 0
Names = Option (List (List ℕ))

abbrev pub is_known : Names → List ℕ → Bool
is_known None name = true
is_known (Some names) name = list_any (bytes_eq name) names

-- a list that this word of probes begins, with these arguments
pub record IsProbeForm (word : Operator) (form : Form) (args : Forms) : Type 0 where
  pub first : Form
  pub place : ℕ
  pub is : form ≡ list (more first args) place
  pub begins : operator_in first ≡ Some word

-- a list that this word of strategies begins, with these arguments
pub record IsStrategyForm (word : Head) (form : Form) (args : Forms) : Type 0 where
  pub first : Form
  pub place : ℕ
  pub is : form ≡ list (more first args) place
  pub begins : head_in first ≡ Some word

mutual
  -- the form spells the probe
  pub data SpellsProbe : Form → ProbeExpr → Type 0 where
    by_word : {form : Form} {p : ProbeExpr} (word : List ℕ) → symbol_of form ≡ Some word → probe_named word ≡ Some p → SpellsProbe form p
    by_number : {form : Form} {p : ProbeExpr} (z : ℤ) → number_of form ≡ Some z → is_wide z ≡ false → p ≡ probe.Num z → SpellsProbe form p
    by_lt : {form : Form} {p : ProbeExpr} (a b : Form) (left right : ProbeExpr) →
        IsProbeForm operator.Lt form (more a (more b none)) → SpellsProbe a left → SpellsProbe b right → p ≡ probe.Lt left right → SpellsProbe form p
    by_le : {form : Form} {p : ProbeExpr} (a b : Form) (left right : ProbeExpr) →
        IsProbeForm operator.Le form (more a (more b none)) → SpellsProbe a left → SpellsProbe b right → p ≡ probe.Le left right → SpellsProbe form p
    by_gt : {form : Form} {p : ProbeExpr} (a b : Form) (left right : ProbeExpr) →
        IsProbeForm operator.Gt form (more a (more b none)) → SpellsProbe a left → SpellsProbe b right → p ≡ probe.Gt left right → SpellsProbe form p
    by_ge : {form : Form} {p : ProbeExpr} (a b : Form) (left right : ProbeExpr) →
        IsProbeForm operator.Ge form (more a (more b none)) → SpellsProbe a left → SpellsProbe b right → p ≡ probe.Ge left right → SpellsProbe form p
    by_eq : {form : Form} {p : ProbeExpr} (a b : Form) (left right : ProbeExpr) →
        IsProbeForm operator.Eq form (more a (more b none)) → SpellsProbe a left → SpellsProbe b right → p ≡ probe.Eq left right → SpellsProbe form p
    by_and : {form : Form} {p : ProbeExpr} (args : Forms) (parts : List ProbeExpr) →
        IsProbeForm operator.And form args → SpellProbes args parts → 1 ≤ length parts → p ≡ probe.And parts → SpellsProbe form p
    by_or : {form : Form} {p : ProbeExpr} (args : Forms) (parts : List ProbeExpr) →
        IsProbeForm operator.Or form args → SpellProbes args parts → 1 ≤ length parts → p ≡ probe.Or parts → SpellsProbe form p
    by_not : {form : Form} {p : ProbeExpr} (a : Form) (part : ProbeExpr) →
        IsProbeForm operator.Not form (more a none) → SpellsProbe a part → p ≡ probe.Not part → SpellsProbe form p

  -- the forms spell the probes, one each
  pub data SpellProbes : Forms → List ProbeExpr → Type 0 where
    no_probes : SpellProbes none []
    more_probes : {form : Form} {forms : Forms} {p : ProbeExpr} {ps : List ProbeExpr} → SpellsProbe form p → SpellProbes forms ps → SpellProbes (more form forms) (p ∷ ps)

-- the forms spell the settings: a keyword and a number in its range each
pub data SpellSettings : Forms → List (ParamKey × ℤ) → Type 0 where
  no_settings : SpellSettings none []
  more_settings : {forms : Forms} {settings : List (ParamKey × ℤ)} (word : List ℕ) (place : ℕ) (value : Form) (key : ParamKey) (z : ℤ) →
      key_of word ≡ Some key → number_of value ≡ Some z → is_within key z ≡ true →
      SpellSettings forms settings → SpellSettings (more (atom kind.Keyword word place) (more value forms)) ((key, z) ∷ settings)

mutual
  -- The form spells the strategy, where so many forms may stand in one another.
  pub data Spells (names : Names) : ℕ → Form → Strategy → Type 0 where
    by_name : {n : ℕ} {form : Form} {s : Strategy} (left : ℕ) (name : List ℕ) →
        n ≡ suc left → symbol_of form ≡ Some name → is_simple_symbol name ≡ true → is_known names name ≡ true → s ≡ strategy.Prim name → Spells names n form s
    by_then : {n : ℕ} {form : Form} {s : Strategy} (left : ℕ) (args : Forms) (parts : List Strategy) →
        n ≡ suc left → IsStrategyForm head.Then form args → SpellEach names left args parts → 2 ≤ length parts → s ≡ strategy.Then parts → Spells names n form s
    by_or_else : {n : ℕ} {form : Form} {s : Strategy} (left : ℕ) (args : Forms) (parts : List Strategy) →
        n ≡ suc left → IsStrategyForm head.OrElse form args → SpellEach names left args parts → 2 ≤ length parts → s ≡ strategy.OrElse parts → Spells names n form s
    by_par_or : {n : ℕ} {form : Form} {s : Strategy} (left : ℕ) (args : Forms) (parts : List Strategy) →
        n ≡ suc left → IsStrategyForm head.ParOr form args → SpellEach names left args parts → 2 ≤ length parts → length parts ≤ BRANCHES → s ≡ strategy.ParOr parts →
        Spells names n form s
    by_par_then : {n : ℕ} {form : Form} {s : Strategy} (left : ℕ) (a b : Form) (first second : Strategy) →
        n ≡ suc left → IsStrategyForm head.ParThen form (more a (more b none)) → Spells names left a first → Spells names left b second → s ≡ strategy.ParThen first second →
        Spells names n form s
    by_if : {n : ℕ} {form : Form} {s : Strategy} (left : ℕ) (a b c : Form) (p : ProbeExpr) (chosen other : Strategy) →
        n ≡ suc left → IsStrategyForm head.If form (more a (more b (more c none))) → SpellsProbe a p → Spells names left b chosen → Spells names left c other → s ≡ strategy.If p chosen other →
        Spells names n form s
    by_when : {n : ℕ} {form : Form} {s : Strategy} (left : ℕ) (a b : Form) (p : ProbeExpr) (part : Strategy) →
        n ≡ suc left → IsStrategyForm head.When form (more a (more b none)) → SpellsProbe a p → Spells names left b part → s ≡ strategy.When p part → Spells names n form s
    by_fail_if : {n : ℕ} {form : Form} {s : Strategy} (left : ℕ) (a : Form) (p : ProbeExpr) →
        n ≡ suc left → IsStrategyForm head.FailIf form (more a none) → SpellsProbe a p → s ≡ strategy.FailIf p → Spells names n form s
    by_repeat : {n : ℕ} {form : Form} {s : Strategy} (left : ℕ) (a : Form) (part : Strategy) →
        n ≡ suc left → IsStrategyForm head.Repeat form (more a none) → Spells names left a part → s ≡ strategy.Repeat part TURNS → Spells names n form s
    by_repeat_times : {n : ℕ} {form : Form} {s : Strategy} (left : ℕ) (a b : Form) (part : Strategy) (turns : ℕ) →
        n ≡ suc left → IsStrategyForm head.Repeat form (more a (more b none)) → Spells names left a part → numeral_of b ≡ Some turns → turns < 2 ^ 32 → s ≡ strategy.Repeat part turns →
        Spells names n form s
    by_params : {n : ℕ} {form : Form} {s : Strategy} (left : ℕ) (a : Form) (args : Forms) (part : Strategy) (settings : List (ParamKey × ℤ)) →
        n ≡ suc left → IsStrategyForm head.UsingParams form (more a args) → Spells names left a part → SpellSettings args settings → 1 ≤ length settings →
        s ≡ strategy.Params part settings → Spells names n form s
    by_try_for : {n : ℕ} {form : Form} {s : Strategy} (left : ℕ) (a b : Form) (part : Strategy) (limit : ℕ) →
        n ≡ suc left → IsStrategyForm head.TryFor form (more a (more b none)) → Spells names left a part → numeral_of b ≡ Some limit → limit ≤ 2 ^ 62 → s ≡ strategy.TryFor part limit →
        Spells names n form s

  -- the forms spell the strategies, one each
  pub data SpellEach (names : Names) : ℕ → Forms → List Strategy → Type 0 where
    no_parts : {left : ℕ} → SpellEach names left none []
    more_parts : {left : ℕ} {form : Form} {forms : Forms} {s : Strategy} {ss : List Strategy} →
        Spells names left form s → SpellEach names left forms ss → SpellEach names left (more form forms) (s ∷ ss)
