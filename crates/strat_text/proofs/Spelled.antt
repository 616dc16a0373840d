-- What is read as a strategy spells it.
use Rattle.std.proofs.Common.{◌≡◌, ℕ, zero, suc, ◌≤◌, ◌<◌, ◌^◌, Bool, true, false, ℤ, pos, List, [], ◌∷◌, length, Option, None, Some, Result, Ok, Err, refl, ap, sym, subst, ◌∙◌, arith}
use Rattle.std.proofs.lemmas.Bool.Decides.{nat_tests}
use Rattle.std.specs.Prelude.{nat_le}
use Rattle.sexp_read.specs.Lexical.{is_simple_symbol}
use Rattle.sexp_read.specs.declared.sexp.AtomKind.{AtomKind}
use Rattle.sexp_read.specs.declared.sexp.AtomKind.TheVariants as kind
use Rattle.strat_text.specs.declared.error.StratError.{StratError}
use Rattle.strat_text.specs.declared.error.StratError.TheVariants.{UnknownReducer, UnknownProbe, UnknownParam, BadStrategy}
use Rattle.strat_text.specs.declared.words.Head.{Head}
use Rattle.strat_text.specs.declared.words.Head.TheVariants as head
use Rattle.strat_text.specs.declared.words.Operator.{Operator}
use Rattle.strat_text.specs.declared.words.Operator.TheVariants as operator
use Rattle.strat_text.specs.declared.probe.ProbeExpr.{ProbeExpr}
use Rattle.strat_text.specs.declared.probe.ProbeExpr.TheVariants as probe
use Rattle.strat_text.specs.declared.strategy.ParamKey.{ParamKey}
use Rattle.strat_text.specs.declared.strategy.Strategy.{Strategy}
use Rattle.strat_text.specs.declared.strategy.Strategy.TheVariants as strategy
use Rattle.strat_text.specs.declared.strategy.TheConstants.{BRANCHES, TURNS}
use Rattle.strat_text.specs.Form.{Form, atom, list, Forms, none, more, numeral_of, place_of, value_from}
use Rattle.strat_text.specs.Words.{head_in, operator_in, probe_named, key_of}
use Rattle.strat_text.specs.Number.{number_of, signed, minus_of, is_wide, is_within}
use Rattle.strat_text.specs.Grammar.{Names, is_known, IsProbeForm, IsStrategyForm, SpellsProbe, by_word, by_number, by_lt, by_le, by_gt, by_ge, by_eq, by_and, by_or, by_not, SpellProbes, no_probes, more_probes, SpellSettings, no_settings, more_settings, Spells, by_name, by_then, by_or_else, by_par_or, by_par_then, by_if, by_when, by_fail_if, by_repeat, by_repeat_times, by_params, by_try_for, SpellEach, no_parts, more_parts}
use Rattle.strat_text.proofs.Readings.{read_strategy_deep}
use Rattle.strat_text.specs.Reading.{and_then, in_front, one_of, two_of, least_of, probe_number, probe_word, probe_form, read_probe, read_probes, read_key, key_read, read_value, value_read, read_setting, read_settings, with_setting, with_settings, name_read, strategy_form, read_strategy, read_each, then_of, or_else_of, par_or_of, par_then_of, if_of, when_of, fail_if_of, branches, only, limited, repeat_of, try_for_of, params_of}

-- a fault is no answer, and two answers are the same
pub no_answer : {A B : Type 0} (e : StratError) (a : A) → ◌≡◌ {A = Result A StratError} (Err e) (Ok a) → B
no_answer e a h = absurd cc

pub same_answer : {A : Type 0} (a b : A) → ◌≡◌ {A = Result A StratError} (Ok a) (Ok b) → a ≡ b
same_answer a b h = cc

-- two readings both answer
pub record Both {A B : Type 0} (r : Result A StratError) (next : A → Result B StratError) (b : B) : Type 0 where
  pub first : A
  pub reads : r ≡ Ok first
  pub goes : next first ≡ Ok b

pub both : {A B : Type 0} (r : Result A StratError) (next : A → Result B StratError) (b : B) → and_then r next ≡ Ok b → Both r next b
both (Ok a) next b h = record { first = a; reads = refl; goes = h }
both (Err e) next b h = no_answer e b h

-- an item and the others are read
record Parts {A : Type 0} (r : Result A StratError) (rest : Result (List A) StratError) (items : List A) : Type 0 where
  first : A
  others : List A
  reads : r ≡ Ok first
  goes : rest ≡ Ok others
  is : first ∷ others ≡ items

parts_of : {A : Type 0} (r : Result A StratError) (rest : Result (List A) StratError) (items : List A) → in_front r rest ≡ Ok items → Parts r rest items
parts_of (Ok a) (Ok others) items h = record { first = a; others = others; reads = refl; goes = refl; is = same_answer (a ∷ others) items h }
parts_of (Ok a) (Err e) items h = no_answer e items h
parts_of (Err e) rest items h = no_answer e items h

two_are : {A : Type 0} (at : ℕ) (items : List A) (pair : A × A) → two_of at items ≡ Ok pair → items ≡ pair.0 ∷ pair.1 ∷ []
two_are at [] pair h = no_answer (BadStrategy at) pair h
two_are at (a ∷ []) pair h = no_answer (BadStrategy at) pair h
two_are at (a ∷ b ∷ []) pair h = let same : (a, b) ≡ pair = same_answer (a, b) pair h in ap (λ (p : _ × _). p.0 ∷ p.1 ∷ []) same
two_are at (a ∷ b ∷ c ∷ rest) pair h = no_answer (BadStrategy at) pair h

one_is : {A : Type 0} (at : ℕ) (items : List A) (a : A) → one_of at items ≡ Ok a → items ≡ a ∷ []
one_is at [] a h = no_answer (BadStrategy at) a h
one_is at (b ∷ []) a h = ap (λ x. x ∷ []) (same_answer b a h)
one_is at (b ∷ c ∷ rest) a h = no_answer (BadStrategy at) a h

-- at least so many
record Least {A : Type 0} (least : ℕ) (items all : List A) : Type 0 where
  same : items ≡ all
  some : least ≤ length all

least_are : {A : Type 0} (least at : ℕ) (items all : List A) → least_of least at items ≡ Ok all → Least least items all
least_are least at items all h = by (nat_le least (length items)) refl
  where
    by : (b : Bool) → nat_le least (length items) ≡ b → Least least items all
    by true e =
        let same : items ≡ all = same_answer items all (sym (rw e refl) ∙ h) in
        let some : least ≤ length items = grind (arith, nat_tests) in
        record { same = same; some = subst (λ xs. least ≤ length xs) same some }
    by false e = no_answer (BadStrategy at) all (sym (rw e refl) ∙ h)

-- a number in its range
record InRange (z : Option ℤ) (p : ProbeExpr) : Type 0 where
  number : ℤ
  is : z ≡ Some number
  fits : is_wide number ≡ false
  same : p ≡ probe.Num number

in_range : (at : ℕ) (z : Option ℤ) (p : ProbeExpr) → probe_number at z ≡ Ok p → InRange z p
in_range at None p h = no_answer (BadStrategy at) p h
in_range at (Some z) p h = by (is_wide z) refl
  where
    by : (b : Bool) → is_wide z ≡ b → InRange (Some z) p
    by true e = no_answer (BadStrategy at) p (sym (rw e refl) ∙ h)
    by false e = record { number = z; is = refl; fits = e; same = sym (same_answer (probe.Num z) p (sym (rw e refl) ∙ h)) }

number_spelled : (form : Form) (at : ℕ) (z : Option ℤ) (p : ProbeExpr) → number_of form ≡ z → probe_number at z ≡ Ok p → SpellsProbe form p
number_spelled form at z p is h = let r = in_range at z p h in by_number r.number (is ∙ r.is) r.fits r.same

word_spelled : (text : List ℕ) (at : ℕ) (p : ProbeExpr) → probe_word at (probe_named text) ≡ Ok p → SpellsProbe (atom kind.Symbol text at) p
word_spelled text at p h = by (probe_named text) refl
  where
    by : (o : Option ProbeExpr) → probe_named text ≡ o → SpellsProbe (atom kind.Symbol text at) p
    by None e = no_answer (UnknownProbe at) p (sym (ap (probe_word at) e) ∙ h)
    by (Some q) e = by_word text refl (e ∙ ap (λ x. Some x) (same_answer q p (sym (ap (probe_word at) e) ∙ h)))

atom_spelled : (is : AtomKind) (text : List ℕ) (at : ℕ) (p : ProbeExpr) → read_probe (atom is text at) ≡ Ok p → SpellsProbe (atom is text at) p
unfolding read_probe
atom_spelled kind.Symbol text at p h = word_spelled text at p h
atom_spelled kind.Quoted text at p h = no_answer (BadStrategy at) p h
atom_spelled kind.Numeral text at p h = number_spelled (atom kind.Numeral text at) at (Some (pos (value_from 0 text))) p refl h
atom_spelled kind.Decimal text at p h = no_answer (BadStrategy at) p h
atom_spelled kind.Bits text at p h = no_answer (BadStrategy at) p h
atom_spelled kind.Text text at p h = no_answer (BadStrategy at) p h
atom_spelled kind.Keyword text at p h = no_answer (BadStrategy at) p h

-- two forms that spell two probes, one that spells one
record TwoProbes (args : Forms) (a b : ProbeExpr) : Type 0 where
  first : Form
  second : Form
  are : args ≡ more first (more second none)
  left : SpellsProbe first a
  right : SpellsProbe second b

two_probes : (args : Forms) (a b : ProbeExpr) → SpellProbes args (a ∷ b ∷ []) → TwoProbes args a b
two_probes _ a b (more_probes {form = f} {forms = _} h (more_probes {form = g} {forms = _} k no_probes)) = record { first = f; second = g; are = refl; left = h; right = k }

record OneProbe (args : Forms) (a : ProbeExpr) : Type 0 where
  first : Form
  are : args ≡ more first none
  spells : SpellsProbe first a

one_probe : (args : Forms) (a : ProbeExpr) → SpellProbes args (a ∷ []) → OneProbe args a
one_probe _ a (more_probes {form = f} {forms = _} h no_probes) = record { first = f; are = refl; spells = h }

module _ (first : Form) (args : Forms) (at : ℕ) (inner : (ps : List ProbeExpr) → read_probes args ≡ Ok ps → SpellProbes args ps) where
  begins : (word : Operator) (forms : Forms) → args ≡ forms → operator_in first ≡ Some word → IsProbeForm word (list (more first args) at) forms
  begins word forms are is = record { first = first; place = at; is = ap (λ xs. list (more first xs) at) are; begins = is }

  -- a form of two probes
  pair_spelled : (word : Operator) (make : ProbeExpr → ProbeExpr → ProbeExpr) (p : ProbeExpr)
      (rule : (a b : Form) (left right : ProbeExpr) → IsProbeForm word (list (more first args) at) (more a (more b none)) → SpellsProbe a left → SpellsProbe b right → p ≡ make left right → SpellsProbe (list (more first args) at) p) →
      operator_in first ≡ Some word → and_then (read_probes args) (λ parts. and_then (two_of at parts) (λ pair. Ok (make pair.0 pair.1))) ≡ Ok p → SpellsProbe (list (more first args) at) p
  pair_spelled word make p rule is h =
      let outer = both (read_probes args) (λ parts. and_then (two_of at parts) (λ pair. Ok (make pair.0 pair.1))) p h in
      let made = both (two_of at outer.first) (λ pair. Ok (make pair.0 pair.1)) p outer.goes in
      let two = two_probes args made.first.0 made.first.1 (inner (made.first.0 ∷ made.first.1 ∷ []) (outer.reads ∙ ap (λ xs. Ok xs) (two_are at outer.first made.first made.reads))) in
      rule two.first two.second made.first.0 made.first.1 (begins word (more two.first (more two.second none)) two.are is) two.left two.right (sym (same_answer (make made.first.0 made.first.1) p made.goes))

  -- a form of one probe or more
  row_spelled : (word : Operator) (make : List ProbeExpr → ProbeExpr) (p : ProbeExpr)
      (rule : (forms : Forms) (parts : List ProbeExpr) → IsProbeForm word (list (more first args) at) forms → SpellProbes forms parts → 1 ≤ length parts → p ≡ make parts → SpellsProbe (list (more first args) at) p) →
      operator_in first ≡ Some word → and_then (read_probes args) (λ parts. and_then (least_of 1 at parts) (λ all. Ok (make all))) ≡ Ok p → SpellsProbe (list (more first args) at) p
  row_spelled word make p rule is h =
      let outer = both (read_probes args) (λ parts. and_then (least_of 1 at parts) (λ all. Ok (make all))) p h in
      let made = both (least_of 1 at outer.first) (λ all. Ok (make all)) p outer.goes in
      let least = least_are 1 at outer.first made.first made.reads in
      rule args made.first (begins word args refl is) (inner made.first (outer.reads ∙ ap (λ xs. Ok xs) least.same)) least.some (sym (same_answer (make made.first) p made.goes))

  not_spelled : (p : ProbeExpr) → operator_in first ≡ Some operator.Not → and_then (read_probes args) (λ parts. and_then (one_of at parts) (λ part. Ok (probe.Not part))) ≡ Ok p → SpellsProbe (list (more first args) at) p
  not_spelled p is h =
      let outer = both (read_probes args) (λ parts. and_then (one_of at parts) (λ part. Ok (probe.Not part))) p h in
      let made = both (one_of at outer.first) (λ part. Ok (probe.Not part)) p outer.goes in
      let one = one_probe args made.first (inner (made.first ∷ []) (outer.reads ∙ ap (λ xs. Ok xs) (one_is at outer.first made.first made.reads))) in
      by_not one.first made.first (begins operator.Not (more one.first none) one.are is) one.spells (sym (same_answer (probe.Not made.first) p made.goes))

  form_spelled : (p : ProbeExpr) (o : Option Operator) → operator_in first ≡ o → probe_form at args (read_probes args) o ≡ Ok p → SpellsProbe (list (more first args) at) p
  form_spelled p None is h = no_answer (BadStrategy at) p h
  form_spelled p (Some operator.Minus) is h = number_spelled (list (more first args) at) at (minus_of args) p (ap (λ o. signed o args) is) h
  form_spelled p (Some operator.Lt) is h = pair_spelled operator.Lt (λ a b. probe.Lt a b) p (λ a b left right f x y same. by_lt a b left right f x y same) is h
  form_spelled p (Some operator.Le) is h = pair_spelled operator.Le (λ a b. probe.Le a b) p (λ a b left right f x y same. by_le a b left right f x y same) is h
  form_spelled p (Some operator.Gt) is h = pair_spelled operator.Gt (λ a b. probe.Gt a b) p (λ a b left right f x y same. by_gt a b left right f x y same) is h
  form_spelled p (Some operator.Ge) is h = pair_spelled operator.Ge (λ a b. probe.Ge a b) p (λ a b left right f x y same. by_ge a b left right f x y same) is h
  form_spelled p (Some operator.Eq) is h = pair_spelled operator.Eq (λ a b. probe.Eq a b) p (λ a b left right f x y same. by_eq a b left right f x y same) is h
  form_spelled p (Some operator.And) is h = row_spelled operator.And (λ all. probe.And all) p (λ forms parts f x some same. by_and forms parts f x some same) is h
  form_spelled p (Some operator.Or) is h = row_spelled operator.Or (λ all. probe.Or all) p (λ forms parts f x some same. by_or forms parts f x some same) is h
  form_spelled p (Some operator.Not) is h = not_spelled p is h

nothing_probe : (at : ℕ) (p : ProbeExpr) → read_probe (list none at) ≡ Ok p → SpellsProbe (list none at) p
unfolding read_probe
nothing_probe at p h = no_answer (BadStrategy at) p h

list_probe : (first : Form) (args : Forms) (at : ℕ) (p : ProbeExpr) → ((ps : List ProbeExpr) → read_probes args ≡ Ok ps → SpellProbes args ps) →
    read_probe (list (more first args) at) ≡ Ok p → SpellsProbe (list (more first args) at) p
unfolding read_probe
list_probe first args at p inner h = form_spelled first args at inner p (operator_in first) refl h

probes_none : (ps : List ProbeExpr) → read_probes none ≡ Ok ps → SpellProbes none ps
unfolding read_probes
probes_none ps h = subst (SpellProbes none) (same_answer [] ps h) no_probes

probes_more : (form : Form) (forms : Forms) (ps : List ProbeExpr) → ((p : ProbeExpr) → read_probe form ≡ Ok p → SpellsProbe form p) → ((qs : List ProbeExpr) → read_probes forms ≡ Ok qs → SpellProbes forms qs) →
    read_probes (more form forms) ≡ Ok ps → SpellProbes (more form forms) ps
unfolding read_probes
probes_more form forms ps one rest h =
    let r = parts_of (read_probe form) (read_probes forms) ps h in subst (SpellProbes (more form forms)) r.is (more_probes (one r.first r.reads) (rest r.others r.goes))

mutual
  pub read_probe_spelled : (form : Form) (p : ProbeExpr) → read_probe form ≡ Ok p → SpellsProbe form p
  read_probe_spelled (atom is text at) p h = atom_spelled is text at p h
  read_probe_spelled (list none at) p h = nothing_probe at p h
  read_probe_spelled (list (more first args) at) p h = list_probe first args at p (λ ps e. read_probes_spelled args ps e) h

  pub read_probes_spelled : (forms : Forms) (ps : List ProbeExpr) → read_probes forms ≡ Ok ps → SpellProbes forms ps
  read_probes_spelled none ps h = probes_none ps h
  read_probes_spelled (more form forms) ps h = probes_more form forms ps (λ p e. read_probe_spelled form p e) (λ qs e. read_probes_spelled forms qs e) h

-- a numeral up to a number
record IsLimited (form : Form) (most n : ℕ) : Type 0 where
  is : numeral_of form ≡ Some n
  low : n ≤ most

limited_is : (at most : ℕ) (form : Form) (z : Option ℕ) (n : ℕ) → numeral_of form ≡ z → limited at most form z ≡ Ok n → IsLimited form most n
limited_is at most form None n is h = no_answer (BadStrategy at) n h
limited_is at most form (Some m) n is h = by (nat_le m most) refl
  where
    by : (b : Bool) → nat_le m most ≡ b → IsLimited form most n
    by true e =
        let same : m ≡ n = same_answer m n (sym (rw e refl) ∙ h) in
        let low : m ≤ most = grind (arith, nat_tests) in
        record { is = is ∙ ap (λ x. Some x) same; low = subst (λ x. x ≤ most) same low }
    by false e = no_answer (BadStrategy (place_of form)) n (sym (rw e refl) ∙ h)

-- nothing stands behind
record IsOnly {A : Type 0} (forms : Forms) (a b : A) : Type 0 where
  ends : forms ≡ none
  same : a ≡ b

only_is : {A : Type 0} (at : ℕ) (forms : Forms) (a b : A) → only at forms a ≡ Ok b → IsOnly forms a b
only_is at none a b h = record { ends = refl; same = same_answer a b h }
only_is at (more form forms) a b h = no_answer (BadStrategy at) b h

-- a keyword and a number in its range
record IsSetting (key value : Form) (of : ParamKey) (z : ℤ) : Type 0 where
  word : List ℕ
  place : ℕ
  is : key ≡ atom kind.Keyword word place
  named : key_of word ≡ Some of
  number : number_of value ≡ Some z
  fits : is_within of z ≡ true

no_setting : {A B : Type 0} (a : A) → ◌≡◌ {A = Result (Option A) StratError} (Ok None) (Ok (Some a)) → B
no_setting a h = absurd cc

same_setting : {A : Type 0} (a b : A) → ◌≡◌ {A = Result (Option A) StratError} (Ok (Some a)) (Ok (Some b)) → a ≡ b
same_setting a b h = cc

value_is : (text : List ℕ) (at : ℕ) (value : Form) (found of : ParamKey) (z : ℤ) (number : Option ℤ) → key_of text ≡ Some found → number_of value ≡ number →
    value_read (place_of value) found number ≡ Ok (Some (of, z)) → IsSetting (atom kind.Keyword text at) value of z
value_is text at value found of z None named is h = no_setting (of, z) h
value_is text at value found of z (Some y) named is h = by (is_within found y) refl
  where
    by : (b : Bool) → is_within found y ≡ b → IsSetting (atom kind.Keyword text at) value of z
    by true e =
        let same : (found, y) ≡ (of, z) = same_setting (found, y) (of, z) (sym (rw e refl) ∙ h) in
        let key : found ≡ of = ap (λ (s : ParamKey × ℤ). s.0) same in
        let num : y ≡ z = ap (λ (s : ParamKey × ℤ). s.1) same in
        record {
          word = text;
          place = at;
          is = refl;
          named = named ∙ ap (λ x. Some x) key;
          number = is ∙ ap (λ x. Some x) num;
          fits = sym (ap (λ (s : ParamKey × ℤ). is_within s.0 s.1) same) ∙ e;
        }
    by false e = no_answer (BadStrategy (place_of value)) (Some (of, z)) (sym (rw e refl) ∙ h)

keyword_is : (text : List ℕ) (at : ℕ) (value : Form) (of : ParamKey) (z : ℤ) (found : Option ParamKey) → key_of text ≡ found → and_then (key_read at found) (read_value value) ≡ Ok (Some (of, z)) →
    IsSetting (atom kind.Keyword text at) value of z
keyword_is text at value of z None named h = no_answer (UnknownParam at) (Some (of, z)) h
keyword_is text at value of z (Some found) named h = value_is text at value found of z (number_of value) named refl h

setting_is : (key value : Form) (of : ParamKey) (z : ℤ) → read_setting key value ≡ Ok (Some (of, z)) → IsSetting key value of z
setting_is (atom kind.Symbol text at) value of z h = no_setting (of, z) h
setting_is (atom kind.Quoted text at) value of z h = no_setting (of, z) h
setting_is (atom kind.Numeral text at) value of z h = no_setting (of, z) h
setting_is (atom kind.Decimal text at) value of z h = no_setting (of, z) h
setting_is (atom kind.Bits text at) value of z h = no_setting (of, z) h
setting_is (atom kind.Text text at) value of z h = no_setting (of, z) h
setting_is (atom kind.Keyword text at) value of z h = keyword_is text at value of z (key_of text) refl h
setting_is (list items at) value of z h = no_setting (of, z) h

-- both a setting and the others are there
record WithSetting (setting : Option (ParamKey × ℤ)) (rest : Option (List (ParamKey × ℤ))) (all : List (ParamKey × ℤ)) : Type 0 where
  of : ParamKey
  z : ℤ
  others : List (ParamKey × ℤ)
  first : setting ≡ Some (of, z)
  behind : rest ≡ Some others
  are : (of, z) ∷ others ≡ all

with_is : (setting : Option (ParamKey × ℤ)) (rest : Option (List (ParamKey × ℤ))) (all : List (ParamKey × ℤ)) → ◌≡◌ {A = Result (Option (List (ParamKey × ℤ))) StratError} (Ok (with_setting setting rest)) (Ok (Some all)) → WithSetting setting rest all
with_is None rest all h = no_setting all h
with_is (Some setting) None all h = no_setting all h
with_is (Some setting) (Some rest) all h = record { of = setting.0; z = setting.1; others = rest; first = refl; behind = refl; are = same_setting (setting ∷ rest) all h }

-- a setting before others
settings_spelled_more : (key value : Form) (rest : Forms) (settings : List (ParamKey × ℤ)) → ((others : List (ParamKey × ℤ)) → read_settings rest ≡ Ok (Some others) → SpellSettings rest others) →
    and_then (read_setting key value) (λ setting. and_then (read_settings rest) (λ all. Ok (with_setting setting all))) ≡ Ok (Some settings) → SpellSettings (more key (more value rest)) settings
settings_spelled_more key value rest settings inner h =
    let outer = both (read_setting key value) (λ setting. and_then (read_settings rest) (λ all. Ok (with_setting setting all))) (Some settings) h in
    let behind = both (read_settings rest) (λ all. Ok (with_setting outer.first all)) (Some settings) outer.goes in
    let all = with_is outer.first behind.first settings behind.goes in
    let first = setting_is key value all.of all.z (outer.reads ∙ ap (λ x. Ok x) all.first) in
    let others = inner all.others (behind.reads ∙ ap (λ x. Ok x) all.behind) in
    subst (SpellSettings (more key (more value rest))) all.are
    (subst (λ k. SpellSettings (more k (more value rest)) ((all.of, all.z) ∷ all.others)) (sym first.is) (more_settings first.word first.place value all.of all.z first.named first.number first.fits others))

key_alone : (key : Form) (settings : List (ParamKey × ℤ)) → and_then (read_key key) (λ _. Ok None) ≡ Ok (Some settings) → SpellSettings (more key none) settings
key_alone key settings h = let outer = both (read_key key) (λ _. Ok None) (Some settings) h in no_setting settings outer.goes

read_settings_spelled : (forms : Forms) (settings : List (ParamKey × ℤ)) → read_settings forms ≡ Ok (Some settings) → SpellSettings forms settings
unfolding read_settings
read_settings_spelled none settings h = subst (SpellSettings none) (same_setting [] settings h) no_settings
read_settings_spelled (more key none) settings h = key_alone key settings h
read_settings_spelled (more key (more value rest)) settings h = settings_spelled_more key value rest settings (λ others e. read_settings_spelled rest others e) h

-- a name that is read
name_spelled : (names : Names) (text : List ℕ) (at left : ℕ) (s : Strategy) → name_read names text at ≡ Ok s → Spells names (suc left) (atom kind.Symbol text at) s
name_spelled names text at left s h = by (is_simple_symbol text) (is_known names text) refl refl
  where
    by : (a b : Bool) → is_simple_symbol text ≡ a → is_known names text ≡ b → Spells names (suc left) (atom kind.Symbol text at) s
    by false b e f = no_answer (BadStrategy at) s (sym (rw e refl) ∙ h)
    by true true e f = by_name left text refl refl e f (sym (same_answer (strategy.Prim text) s (sym (rw (e, f) refl) ∙ h)))
    by true false e f = no_answer (UnknownReducer at) s (sym (rw (e, f) refl) ∙ h)

atom_strategy : (names : Names) (is : AtomKind) (text : List ℕ) (at left : ℕ) (s : Strategy) → read_strategy names (atom is text at) (suc left) ≡ Ok s → Spells names (suc left) (atom is text at) s
unfolding read_strategy
atom_strategy names kind.Symbol text at left s h = name_spelled names text at left s h
atom_strategy names kind.Quoted text at left s h = no_answer (BadStrategy at) s h
atom_strategy names kind.Numeral text at left s h = no_answer (BadStrategy at) s h
atom_strategy names kind.Decimal text at left s h = no_answer (BadStrategy at) s h
atom_strategy names kind.Bits text at left s h = no_answer (BadStrategy at) s h
atom_strategy names kind.Text text at left s h = no_answer (BadStrategy at) s h
atom_strategy names kind.Keyword text at left s h = no_answer (BadStrategy at) s h

-- two forms that spell two strategies, one that spells one
record TwoParts (names : Names) (left : ℕ) (args : Forms) (a b : Strategy) : Type 0 where
  first : Form
  second : Form
  are : args ≡ more first (more second none)
  one : Spells names left first a
  two : Spells names left second b

two_parts : (names : Names) (left : ℕ) (args : Forms) (a b : Strategy) → SpellEach names left args (a ∷ b ∷ []) → TwoParts names left args a b
two_parts names left _ a b (more_parts {form = f} {forms = _} h (more_parts {form = g} {forms = _} k no_parts)) = record { first = f; second = g; are = refl; one = h; two = k }

record OnePart (names : Names) (left : ℕ) (args : Forms) (a : Strategy) : Type 0 where
  first : Form
  are : args ≡ more first none
  one : Spells names left first a

one_part : (names : Names) (left : ℕ) (args : Forms) (a : Strategy) → SpellEach names left args (a ∷ []) → OnePart names left args a
one_part names left _ a (more_parts {form = f} {forms = _} h no_parts) = record { first = f; are = refl; one = h }

-- branches that are not too many
record Few (parts : List Strategy) (s : Strategy) : Type 0 where
  few : length parts ≤ BRANCHES
  same : s ≡ strategy.ParOr parts

branches_are : (at : ℕ) (parts : List Strategy) (s : Strategy) → branches at parts ≡ Ok s → Few parts s
branches_are at parts s h = by (nat_le (length parts) BRANCHES) refl
  where
    by : (b : Bool) → nat_le (length parts) BRANCHES ≡ b → Few parts s
    by true e = let few : length parts ≤ BRANCHES = grind (arith, nat_tests) in record { few = few; same = sym (same_answer (strategy.ParOr parts) s (sym (rw e refl) ∙ h)) }
    by false e = no_answer (BadStrategy at) s (sym (rw e refl) ∙ h)

-- a setting or more
record SomeSettings (given : Option (List (ParamKey × ℤ))) (part s : Strategy) : Type 0 where
  settings : List (ParamKey × ℤ)
  are : given ≡ Some settings
  some : 1 ≤ length settings
  same : s ≡ strategy.Params part settings

settings_are : (at : ℕ) (part : Strategy) (given : Option (List (ParamKey × ℤ))) (s : Strategy) → with_settings at part given ≡ Ok s → SomeSettings given part s
settings_are at part None s h = no_answer (BadStrategy at) s h
settings_are at part (Some []) s h = no_answer (BadStrategy at) s h
settings_are at part (Some (setting ∷ settings)) s h =
    let some : 1 ≤ length (setting ∷ settings) = omega arith in record { settings = setting ∷ settings; are = refl; some = some; same = sym (same_answer (strategy.Params part (setting ∷ settings)) s h) }

-- nothing, or a number of turns
data RepeatArgs (args : Forms) (part s : Strategy) : Type 0 where
  alone : args ≡ none → s ≡ strategy.Repeat part TURNS → RepeatArgs args part s
  times : (form : Form) (turns : ℕ) → args ≡ more form none → numeral_of form ≡ Some turns → turns < 2 ^ 32 → s ≡ strategy.Repeat part turns → RepeatArgs args part s

repeat_args : (at : ℕ) (args : Forms) (part s : Strategy) → repeat_of at args part ≡ Ok s → RepeatArgs args part s
repeat_args at none part s h = alone refl (sym (same_answer (strategy.Repeat part TURNS) s h))
repeat_args at (more form forms) part s h =
    let number = both (limited at 4294967295 form (numeral_of form)) (λ turns. only at forms (strategy.Repeat part turns)) s h in
    let fits = limited_is at 4294967295 form (numeral_of form) number.first refl number.reads in
    let end = only_is at forms (strategy.Repeat part number.first) s number.goes in
    let high = fits.low in
    let low : number.first < 2 ^ 32 = omega arith in
    times form number.first (ap (more form) end.ends) fits.is low (sym end.same)

-- a limit
record TryArgs (args : Forms) (part s : Strategy) : Type 0 where
  form : Form
  limit : ℕ
  are : args ≡ more form none
  is : numeral_of form ≡ Some limit
  low : limit ≤ 2 ^ 62
  same : s ≡ strategy.TryFor part limit

try_args : (at : ℕ) (args : Forms) (part s : Strategy) → try_for_of at args part ≡ Ok s → TryArgs args part s
try_args at none part s h = no_answer (BadStrategy at) s h
try_args at (more form forms) part s h =
    let number = both (limited at 4611686018427387904 form (numeral_of form)) (λ limit. only at forms (strategy.TryFor part limit)) s h in
    let fits = limited_is at 4611686018427387904 form (numeral_of form) number.first refl number.reads in
    let end = only_is at forms (strategy.TryFor part number.first) s number.goes in
    let high = fits.low in
    let low : number.first ≤ 2 ^ 62 = omega arith in
    record { form = form; limit = number.first; are = ap (more form) end.ends; is = fits.is; low = low; same = sym end.same }

module _ (names : Names) (first arg : Form) (args : Forms) (at left : ℕ) (part : (s : Strategy) → read_strategy names arg left ≡ Ok s → Spells names left arg s)
    (each : (ss : List Strategy) → read_each names args left ≡ Ok ss → SpellEach names left args ss) where
  whole : Form
  whole = list (more first (more arg args)) at

  starts : (word : Head) (forms : Forms) → more arg args ≡ forms → head_in first ≡ Some word → IsStrategyForm word (list (more first (more arg args)) at) forms
  starts word forms are is = record { first = first; place = at; is = ap (λ xs. list (more first xs) at) are; begins = is }

  all_spelled : (ss : List Strategy) → in_front (read_strategy names arg left) (read_each names args left) ≡ Ok ss → SpellEach names left (more arg args) ss
  all_spelled ss h = let r = parts_of (read_strategy names arg left) (read_each names args left) ss h in subst (SpellEach names left (more arg args)) r.is (more_parts (part r.first r.reads) (each r.others r.goes))

  then_spelled : (s : Strategy) → head_in first ≡ Some head.Then → and_then (in_front (read_strategy names arg left) (read_each names args left)) (then_of at) ≡ Ok s → Spells names (suc left) (list (more first (more arg args)) at) s
  then_spelled s is h =
      let outer = both (in_front (read_strategy names arg left) (read_each names args left)) (then_of at) s h in
      let made = both (least_of 2 at outer.first) (λ all. Ok (strategy.Then all)) s outer.goes in
      let least = least_are 2 at outer.first made.first made.reads in
      by_then left (more arg args) made.first refl (starts head.Then (more arg args) refl is) (all_spelled made.first (outer.reads ∙ ap (λ x. Ok x) least.same)) least.some (sym (same_answer (strategy.Then made.first) s made.goes))

  or_else_spelled : (s : Strategy) → head_in first ≡ Some head.OrElse → and_then (in_front (read_strategy names arg left) (read_each names args left)) (or_else_of at) ≡ Ok s →
      Spells names (suc left) (list (more first (more arg args)) at) s
  or_else_spelled s is h =
      let outer = both (in_front (read_strategy names arg left) (read_each names args left)) (or_else_of at) s h in
      let made = both (least_of 2 at outer.first) (λ all. Ok (strategy.OrElse all)) s outer.goes in
      let least = least_are 2 at outer.first made.first made.reads in
      by_or_else left (more arg args) made.first refl (starts head.OrElse (more arg args) refl is) (all_spelled made.first (outer.reads ∙ ap (λ x. Ok x) least.same)) least.some (sym (same_answer (strategy.OrElse made.first) s made.goes))

  par_or_spelled : (s : Strategy) → head_in first ≡ Some head.ParOr → and_then (in_front (read_strategy names arg left) (read_each names args left)) (par_or_of at) ≡ Ok s →
      Spells names (suc left) (list (more first (more arg args)) at) s
  par_or_spelled s is h =
      let outer = both (in_front (read_strategy names arg left) (read_each names args left)) (par_or_of at) s h in
      let made = both (least_of 2 at outer.first) (branches at) s outer.goes in
      let least = least_are 2 at outer.first made.first made.reads in
      let few = branches_are at made.first s made.goes in
      by_par_or left (more arg args) made.first refl (starts head.ParOr (more arg args) refl is) (all_spelled made.first (outer.reads ∙ ap (λ x. Ok x) least.same)) least.some few.few few.same

  par_then_spelled : (s : Strategy) → head_in first ≡ Some head.ParThen → and_then (in_front (read_strategy names arg left) (read_each names args left)) (par_then_of at) ≡ Ok s →
      Spells names (suc left) (list (more first (more arg args)) at) s
  par_then_spelled s is h =
      let outer = both (in_front (read_strategy names arg left) (read_each names args left)) (par_then_of at) s h in
      let made = both (two_of at outer.first) (λ pair. Ok (strategy.ParThen pair.0 pair.1)) s outer.goes in
      let two = two_parts names left (more arg args) made.first.0 made.first.1
      (all_spelled (made.first.0 ∷ made.first.1 ∷ []) (outer.reads ∙ ap (λ x. Ok x) (two_are at outer.first made.first made.reads))) in
      by_par_then left two.first two.second made.first.0 made.first.1 refl (starts head.ParThen (more two.first (more two.second none)) two.are is) two.one two.two
      (sym (same_answer (strategy.ParThen made.first.0 made.first.1) s made.goes))

  if_spelled : (s : Strategy) → head_in first ≡ Some head.If → and_then (read_probe arg) (λ p. and_then (read_each names args left) (if_of at p)) ≡ Ok s → Spells names (suc left) (list (more first (more arg args)) at) s
  if_spelled s is h =
      let test = both (read_probe arg) (λ p. and_then (read_each names args left) (if_of at p)) s h in
      let outer = both (read_each names args left) (if_of at test.first) s test.goes in
      let made = both (two_of at outer.first) (λ pair. Ok (strategy.If test.first pair.0 pair.1)) s outer.goes in
      let two = two_parts names left args made.first.0 made.first.1 (each (made.first.0 ∷ made.first.1 ∷ []) (outer.reads ∙ ap (λ x. Ok x) (two_are at outer.first made.first made.reads))) in
      by_if left arg two.first two.second test.first made.first.0 made.first.1 refl (starts head.If (more arg (more two.first (more two.second none))) (ap (more arg) two.are) is)
      (read_probe_spelled arg test.first test.reads) two.one two.two (sym (same_answer (strategy.If test.first made.first.0 made.first.1) s made.goes))

  when_spelled : (s : Strategy) → head_in first ≡ Some head.When → and_then (read_probe arg) (λ p. and_then (read_each names args left) (when_of at p)) ≡ Ok s → Spells names (suc left) (list (more first (more arg args)) at) s
  when_spelled s is h =
      let test = both (read_probe arg) (λ p. and_then (read_each names args left) (when_of at p)) s h in
      let outer = both (read_each names args left) (when_of at test.first) s test.goes in
      let made = both (one_of at outer.first) (λ one. Ok (strategy.When test.first one)) s outer.goes in
      let one = one_part names left args made.first (each (made.first ∷ []) (outer.reads ∙ ap (λ x. Ok x) (one_is at outer.first made.first made.reads))) in
      by_when left arg one.first test.first made.first refl (starts head.When (more arg (more one.first none)) (ap (more arg) one.are) is) (read_probe_spelled arg test.first test.reads) one.one
      (sym (same_answer (strategy.When test.first made.first) s made.goes))

  fail_if_spelled : (s : Strategy) → head_in first ≡ Some head.FailIf → and_then (read_probe arg) (fail_if_of at args) ≡ Ok s → Spells names (suc left) (list (more first (more arg args)) at) s
  fail_if_spelled s is h =
      let test = both (read_probe arg) (fail_if_of at args) s h in
      let end = only_is at args (strategy.FailIf test.first) s test.goes in
      by_fail_if left arg test.first refl (starts head.FailIf (more arg none) (ap (more arg) end.ends) is) (read_probe_spelled arg test.first test.reads) (sym end.same)

  params_spelled : (s : Strategy) → head_in first ≡ Some head.UsingParams → and_then (read_strategy names arg left) (params_of at args) ≡ Ok s → Spells names (suc left) (list (more first (more arg args)) at) s
  params_spelled s is h =
      let outer = both (read_strategy names arg left) (params_of at args) s h in
      let made = both (read_settings args) (with_settings at outer.first) s outer.goes in
      let some = settings_are at outer.first made.first s made.goes in
      by_params left arg args outer.first some.settings refl (starts head.UsingParams (more arg args) refl is) (part outer.first outer.reads)
      (read_settings_spelled args some.settings (made.reads ∙ ap (λ x. Ok x) some.are)) some.some some.same

  repeat_spelled : (s : Strategy) → head_in first ≡ Some head.Repeat → and_then (read_strategy names arg left) (repeat_of at args) ≡ Ok s → Spells names (suc left) (list (more first (more arg args)) at) s
  repeat_spelled s is h = let outer = both (read_strategy names arg left) (repeat_of at args) s h in by outer.first outer.reads (repeat_args at args outer.first s outer.goes)
    where
      by : (one : Strategy) → read_strategy names arg left ≡ Ok one → RepeatArgs args one s → Spells names (suc left) (list (more first (more arg args)) at) s
      by one reads (alone are same) = by_repeat left arg one refl (starts head.Repeat (more arg none) (ap (more arg) are) is) (part one reads) same
      by one reads (times form turns are number low same) = by_repeat_times left arg form one turns refl (starts head.Repeat (more arg (more form none)) (ap (more arg) are) is) (part one reads) number low same

  try_spelled : (s : Strategy) → head_in first ≡ Some head.TryFor → and_then (read_strategy names arg left) (try_for_of at args) ≡ Ok s → Spells names (suc left) (list (more first (more arg args)) at) s
  try_spelled s is h =
      let outer = both (read_strategy names arg left) (try_for_of at args) s h in
      let limit = try_args at args outer.first s outer.goes in
      by_try_for left arg limit.form outer.first limit.limit refl (starts head.TryFor (more arg (more limit.form none)) (ap (more arg) limit.are) is) (part outer.first outer.reads) limit.is limit.low limit.same

  form_strategy : (s : Strategy) (word : Option Head) → head_in first ≡ word → strategy_form at arg args (read_strategy names arg left) (read_each names args left) word ≡ Ok s →
      Spells names (suc left) (list (more first (more arg args)) at) s
  form_strategy s None is h = no_answer (BadStrategy at) s h
  form_strategy s (Some head.Then) is h = then_spelled s is h
  form_strategy s (Some head.OrElse) is h = or_else_spelled s is h
  form_strategy s (Some head.ParOr) is h = par_or_spelled s is h
  form_strategy s (Some head.ParThen) is h = par_then_spelled s is h
  form_strategy s (Some head.If) is h = if_spelled s is h
  form_strategy s (Some head.When) is h = when_spelled s is h
  form_strategy s (Some head.FailIf) is h = fail_if_spelled s is h
  form_strategy s (Some head.Repeat) is h = repeat_spelled s is h
  form_strategy s (Some head.UsingParams) is h = params_spelled s is h
  form_strategy s (Some head.TryFor) is h = try_spelled s is h

deep : {A : Type 0} (names : Names) (form : Form) (s : Strategy) → read_strategy names form 0 ≡ Ok s → A
deep names form s h = no_answer (BadStrategy (place_of form)) s (sym (read_strategy_deep names form) ∙ h)

short_none : {A : Type 0} (names : Names) (at left : ℕ) (s : Strategy) → read_strategy names (list none at) (suc left) ≡ Ok s → A
unfolding read_strategy
short_none names at left s h = no_answer (BadStrategy at) s h

short_one : {A : Type 0} (names : Names) (first : Form) (at left : ℕ) (s : Strategy) → read_strategy names (list (more first none) at) (suc left) ≡ Ok s → A
unfolding read_strategy
short_one names first at left s h = no_answer (BadStrategy at) s h

list_strategy : (names : Names) (first arg : Form) (args : Forms) (at left : ℕ) (s : Strategy) → ((t : Strategy) → read_strategy names arg left ≡ Ok t → Spells names left arg t) →
    ((ss : List Strategy) → read_each names args left ≡ Ok ss → SpellEach names left args ss) → read_strategy names (list (more first (more arg args)) at) (suc left) ≡ Ok s →
    Spells names (suc left) (list (more first (more arg args)) at) s
unfolding read_strategy
list_strategy names first arg args at left s part each h = form_strategy names first arg args at left part each s (head_in first) refl h

each_none : (names : Names) (left : ℕ) (ss : List Strategy) → read_each names none left ≡ Ok ss → SpellEach names left none ss
unfolding read_each
each_none names left ss h = subst (SpellEach names left none) (same_answer [] ss h) no_parts

each_more : (names : Names) (left : ℕ) (form : Form) (forms : Forms) (ss : List Strategy) → ((s : Strategy) → read_strategy names form left ≡ Ok s → Spells names left form s) →
    ((ts : List Strategy) → read_each names forms left ≡ Ok ts → SpellEach names left forms ts) → read_each names (more form forms) left ≡ Ok ss → SpellEach names left (more form forms) ss
unfolding read_each
each_more names left form forms ss one rest h =
    let r = parts_of (read_strategy names form left) (read_each names forms left) ss h in subst (SpellEach names left (more form forms)) r.is (more_parts (one r.first r.reads) (rest r.others r.goes))

mutual
  pub read_spelled : (names : Names) (form : Form) (n : ℕ) (s : Strategy) → read_strategy names form n ≡ Ok s → Spells names n form s
  read_spelled names (atom is text at) zero s h = deep names (atom is text at) s h
  read_spelled names (atom is text at) (suc left) s h = atom_strategy names is text at left s h
  read_spelled names (list items at) zero s h = deep names (list items at) s h
  read_spelled names (list none at) (suc left) s h = short_none names at left s h
  read_spelled names (list (more first none) at) (suc left) s h = short_one names first at left s h
  read_spelled names (list (more first (more arg args)) at) (suc left) s h =
      list_strategy names first arg args at left s (λ t e. read_spelled names arg left t e) (λ ss e. read_each_spelled names args left ss e) h

  pub read_each_spelled : (names : Names) (forms : Forms) (left : ℕ) (ss : List Strategy) → read_each names forms left ≡ Ok ss → SpellEach names left forms ss
  read_each_spelled names none left ss h = each_none names left ss h
  read_each_spelled names (more form forms) left ss h = each_more names left form forms ss (λ s e. read_spelled names form left s e) (λ ts e. read_each_spelled names forms left ts e) h
