-- What is written is read again.
use Rattle.std.proofs.Common.{◌≡◌, ◌+◌, ◌≤◌, true, nat_le, [], ◌++◌, length, Ok, refl, ap, sym, subst, ◌∙◌, arith, append-nil}
use Rattle.std.proofs.lemmas.Bool.Decides.{nat_tests}
use Rattle.sexp_read.specs.declared.parsing.TheConstants.{NESTING}
use Rattle.sexp_read.specs.declared.sexp.Next.TheVariants.{Item}
use Rattle.sexp_read.specs.Sexp.{next_at}
use Rattle.sexp_read.specs.Spelling.{nesting_of}
use Rattle.sexp_read.specs.Token.{tokens}
use Rattle.sexp_read.proofs.Complete.{read_spelled}
use Rattle.sexp_read.proofs.Tokens.{tokens_none}
use Rattle.strat_text.specs.declared.strategy.Strategy.{Strategy}
use Rattle.strat_text.specs.declared.strategy.TheConstants.{DEPTH}
use Rattle.strat_text.specs.Allowed.{is_allowed, is_formed, depth_of}
use Rattle.strat_text.specs.Back.{ReadsBack}
use Rattle.strat_text.specs.Grammar.{Names}
use Rattle.strat_text.specs.Known.{are_known}
use Rattle.strat_text.specs.Nesting.{nesting}
use Rattle.strat_text.specs.Reading.{read_strategy}
use Rattle.strat_text.specs.Spelled.{spelled}
use Rattle.strat_text.proofs.Numerals.{and_left, and_right}
use Rattle.strat_text.proofs.ReadBack.{strategy_back}
use Rattle.strat_text.proofs.StrategiesBack.{tree_of, tree_text, tree_good, tree_nesting}
use Rattle.strat_text.proofs.Trees.{Tree, print, Good, nests, sexp_at, form_at, pieces, tree_tokens, tree_marks, tree_nests, tree_ends, tree_form}

-- the bytes of a tree are one s-expression
tree_item : (t : Tree) → Good t → nests t ≤ NESTING → next_at (print t) 0 ≡ Item (sexp_at t 0) (length (print t))
unfolding next_at
tree_item t good shallow =
    let whole : tokens (print t) 0 ≡ pieces t 0 ++ [] =
    ap (λ bs. tokens bs 0) (sym (append-nil (print t))) ∙ tree_tokens t [] 0 good refl ∙ ap (λ ps. pieces t 0 ++ ps) (tokens_none (0 + length (print t))) in
    let fits : nesting_of (sexp_at t 0) ≤ NESTING = subst (λ n. n ≤ NESTING) (sym (tree_nests t 0)) shallow in
    read_spelled (tokens (print t) 0) (pieces t 0) [] (sexp_at t 0) whole (tree_marks t 0) fits ∙ ap (Item (sexp_at t 0)) (tree_ends t 0 ∙ omega arith)

tree_back : (names : Names) (t : Tree) (s : Strategy) → Good t → nests t ≤ NESTING → read_strategy names (form_at t 0) DEPTH ≡ Ok s → ReadsBack names (print t) s
tree_back names t s good shallow reads = record {
  sexp = sexp_at t 0;
  whole = tree_item t good shallow;
  reads = ap (λ f. read_strategy names f DEPTH) (tree_form t (print t) [] 0 good (sym (append-nil (print t)))) ∙ reads;
}

pub spelled_back : (names : Names) (s : Strategy) → is_allowed s ≡ true → are_known names s ≡ true → nesting s ≤ NESTING → ReadsBack names (spelled s) s
unfolding is_allowed
spelled_back names s allowed known shallow =
    let formed = and_left (is_formed s) (nat_le (depth_of s) DEPTH) allowed in
    let low = and_right (is_formed s) (nat_le (depth_of s) DEPTH) allowed in
    let deep : depth_of s ≤ DEPTH = grind (arith, nat_tests) in
    subst (λ text. ReadsBack names text s) (tree_text s)
    (tree_back names (tree_of s) s (tree_good s formed) (subst (λ n. n ≤ NESTING) (sym (tree_nesting s)) shallow) (strategy_back names s DEPTH formed known deep 0))
