-- Rows: the definitions computed on forms and strategies.
use Rattle.std.proofs.Common.{◌≡◌, ℕ, true, false, pos, negsuc, List, [], ◌∷◌, None, Some, Ok, Err, refl}
use Rattle.std.specs.Prelude.{codes, replicate}
use Rattle.sexp_read.specs.declared.sexp.AtomKind.TheVariants as kind
use Rattle.strat_text.specs.declared.error.StratError.TheVariants.{UnknownReducer, UnknownProbe, UnknownParam, BadStrategy}
use Rattle.strat_text.specs.declared.probe.ProbeExpr.TheVariants as probe
use Rattle.strat_text.specs.declared.strategy.ParamKey.TheVariants as key
use Rattle.strat_text.specs.declared.strategy.Strategy.TheVariants as strategy
use Rattle.strat_text.specs.Form.{Form, Forms, atom, list, none, more}
use Rattle.strat_text.specs.Words.{head_of, operator_of, probe_named, key_of}
use Rattle.strat_text.specs.Number.{is_within}
use Rattle.strat_text.specs.Reading.{read_probe, read_probes, read_settings, read_strategy, read_each}
use Rattle.strat_text.specs.Faults.{probe_faults, probes_faults, settings_faults, faults, each_faults}
use Rattle.strat_text.specs.declared.strategy.Strategy.TheOpen.{Strategy-F}
use Rattle.strat_text.specs.Spelled.{number_text, strategy_layer}
use Rattle.strat_text.specs.Allowed.{allowed_layer, depth_layer}
use Rattle.std.specs.Fmt.{digits}

word : List ℕ → ℕ → Form
word text at = atom kind.Symbol text at

numeral : List ℕ → ℕ → Form
numeral text at = atom kind.Numeral text at

keyword : List ℕ → ℕ → Form
keyword text at = atom kind.Keyword text at

three : Form → Form → Form → ℕ → Form
three a b c at = list (more a (more b (more c none))) at

two : Form → Form → ℕ → Form
two a b at = list (more a (more b none)) at

-- (then skip sat), with and without a list of names
then_form : Form
then_form = three (word (codes "then") 1) (word (codes "skip") 6) (word (codes "sat") 11) 0

reads_then : read_strategy None then_form 64 ≡ Ok (strategy.Then (strategy.Prim (codes "skip") ∷ strategy.Prim (codes "sat") ∷ []))
unfolding then_form word three read_strategy read_each head_of
reads_then = refl

reads_known : read_strategy (Some (codes "sat" ∷ [])) then_form 64 ≡ Err (UnknownReducer 6)
unfolding then_form word three read_strategy read_each head_of
reads_known = refl

faults_known : faults (Some (codes "fail" ∷ [])) then_form 64 ≡ UnknownReducer 6 ∷ UnknownReducer 11 ∷ []
unfolding then_form word three faults each_faults head_of
faults_known = refl

-- one level, and two levels where one is allowed
too_deep : faults None then_form 1 ≡ BadStrategy 6 ∷ BadStrategy 11 ∷ []
unfolding then_form word three faults each_faults head_of
too_deep = refl

-- (then skip): one part is too few
then_alone : faults None (two (word (codes "then") 1) (word (codes "skip") 6) 0) 64 ≡ BadStrategy 0 ∷ []
unfolding word two faults each_faults head_of
then_alone = refl

-- (repeat s 4294967296): the number is told, not the list
repeat_wide : faults None (three (word (codes "repeat") 1) (word (codes "s") 8) (numeral (codes "4294967296") 10) 0) 64 ≡ BadStrategy 10 ∷ []
unfolding word numeral three faults each_faults head_of
repeat_wide = refl

repeat_most : read_strategy None (three (word (codes "repeat") 1) (word (codes "s") 8) (numeral (codes "4294967295") 10) 0) 64 ≡ Ok (strategy.Repeat (strategy.Prim (codes "s")) 4294967295)
unfolding word numeral three read_strategy read_each head_of
repeat_most = refl

repeat_default : read_strategy None (two (word (codes "repeat") 1) (word (codes "s") 8) 0) 64 ≡ Ok (strategy.Repeat (strategy.Prim (codes "s")) 1000)
unfolding word two read_strategy read_each head_of
repeat_default = refl

-- (- 5) and (- 0) as probes; -2^127 is the least number
minus_five : read_probe (two (word (codes "-") 1) (numeral (codes "5") 3) 0) ≡ Ok (probe.Num (negsuc 4))
unfolding word numeral two read_probe read_probes operator_of
minus_five = refl

minus_zero : read_probe (two (word (codes "-") 1) (numeral (codes "0") 3) 0) ≡ Ok (probe.Num (pos 0))
unfolding word numeral two read_probe read_probes operator_of
minus_zero = refl

least : read_probe (two (word (codes "-") 1) (numeral (codes "170141183460469231731687303715884105728") 3) 0) ≡ Ok (probe.Num (negsuc 170141183460469231731687303715884105727))
unfolding word numeral two read_probe read_probes operator_of
least = refl

past : probe_faults (numeral (codes "170141183460469231731687303715884105728") 3) ≡ BadStrategy 3 ∷ []
unfolding numeral probe_faults
past = refl

-- (< size nothing): an unknown probe; a keyword is no probe
unknown_probe : probe_faults (three (word (codes "<") 1) (word (codes "size") 3) (word (codes "nothing") 8) 0) ≡ UnknownProbe 8 ∷ []
unfolding word three probe_faults probes_faults operator_of probe_named
unknown_probe = refl

keyword_no_probe : probe_faults (keyword (codes ":size") 7) ≡ BadStrategy 7 ∷ []
unfolding keyword probe_faults
keyword_no_probe = refl

-- (using-params s :lia2pb_max_bits 65) and an unknown parameter before it
settings : Forms
settings = more (keyword (codes ":nothing") 16) (more (numeral (codes "1") 25) (more (keyword (codes ":lia2pb_max_bits") 27) (more (numeral (codes "65") 44) none)))

setting_faults : settings_faults settings ≡ UnknownParam 16 ∷ BadStrategy 44 ∷ []
unfolding settings keyword numeral settings_faults key_of
setting_faults = refl

setting_read : read_settings (more (keyword (codes ":lia2pb_max_bits") 27) (more (numeral (codes "64") 44) none)) ≡ Ok (Some ((key.Lia2pbMaxBits, pos 64) ∷ []))
unfolding keyword numeral read_settings key_of
setting_read = refl

-- the ends of the ranges
least_bound : is_within key.AddBoundLower (negsuc 170141183460469231731687303715884105726) ≡ true
least_bound = refl

below_bound : is_within key.AddBoundLower (negsuc 170141183460469231731687303715884105727) ≡ false
below_bound = refl

-- the written spelling, a level at a time
minus_text : number_text (negsuc 4) ≡ codes "(- 5)"
unfolding digits
minus_text = refl

repeat_text : strategy_layer (Strategy-F.Repeat (codes "(then a b)") 1000) ≡ codes "(repeat (then a b) 1000)"
unfolding digits
repeat_text = refl

params_text : strategy_layer (Strategy-F.Params (codes "s") ((key.AddBoundLower, negsuc 6) ∷ (key.DropWideMax, pos 0) ∷ [])) ≡ codes "(using-params s :add_bound_lower (- 7) :drop_wide_max 0)"
unfolding digits
params_text = refl

-- `par-or` has 64 branches at most, `par-then` counts as a level
sixty_four : allowed_layer (Strategy-F.ParOr (replicate 64 true)) ≡ true
sixty_four = refl

sixty_five : allowed_layer (Strategy-F.ParOr (replicate 65 true)) ≡ false
sixty_five = refl

par_then_depth : depth_layer (Strategy-F.ParThen 3 5) ≡ 6
par_then_depth = refl
