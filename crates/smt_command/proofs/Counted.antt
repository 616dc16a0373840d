-- A definition, whose term counts.
use Rattle.std.proofs.Common.{◌≡◌, ℕ, true, List, [], ◌∷◌, ◌++◌, Ok, ap, sym, ◌∙◌}
use Rattle.qterm.specs.declared.name.Name.{Name}
use Rattle.qterm.specs.declared.name.Sort.{Sort}
use Rattle.qterm.specs.Tree.{Tree, sort_of}
use Rattle.qterm.specs.Store.{tree_at}
use Rattle.qterm.proofs.KidsLaws.{trees_of-append}
use Rattle.strat_text.specs.Form.{Form, Forms}
use Rattle.smt_theory.specs.Sorts.{same_sort}
use Rattle.smt_words.specs.Command.{Define}
use Rattle.smt_names.specs.declared.state.State.{State as StateId}
use Rattle.smt_names.specs.Table.{symbols_in}
use Rattle.smt_names.specs.Reading.{State, after, and_then, tested}
use Rattle.smt_names.specs.Annotated.{newly}
use Rattle.smt_names.specs.Given.{seen}
use Rattle.smt_command.specs.Parameters.{meaning_over}
use Rattle.smt_command.specs.Reading.{nothing_more}
use Rattle.smt_command.specs.Terms.{counted, defined}

-- the term counts, over the trees of a store
pub counted_seen : (ts : List Tree) (s u : StateId) (id : ℕ) → u ≡ record s { bound = s.bound ++ id ∷ [] } → counted (tree_at ts id) Define (seen ts s) ≡ Ok (Define, seen ts u)
counted_seen ts s u id e =
    ap (λ (l : List Tree). Ok (Define, (let v : State = record { symbols = symbols_in ts s.symbols; bound = l; in_body = s.in_body } in v))) (sym (trees_of-append ts s.bound (id ∷ [])))
    ∙ ap (λ (v : StateId). Ok (Define, seen ts v)) (sym e)

-- a term of the sort with nothing behind it is named, and counts
pub defined_read : (at : ℕ) (name : Form) (params : List Name) (sort : Sort) (place : ℕ) (rest : Forms) (t : Tree) (s u v : State) → same_sort (sort_of t) sort ≡ true → nothing_more at rest ≡ Ok tt → newly at (meaning_over params t) name s ≡ Ok (tt, u) → counted t Define u ≡ Ok (Define, v)
    → defined at name params sort place rest t s ≡ Ok (Define, v)
defined_read at name params sort place rest t s u v same nothing names counts =
    rw same (ap (λ r. tested r (λ _. after (newly at (meaning_over params t) name) (λ _. counted t Define)) s) nothing ∙ ap (λ r. and_then r (λ _. counted t Define)) names ∙ counts)
