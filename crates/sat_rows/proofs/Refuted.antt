-- Formulas whose clauses have no model have none.
use Rattle.std.proofs.Common.{◌≡◌, ℕ, true, false, ◌&&◌, List, [], ◌∷◌, Contains, refl, sym, ◌∙◌, true≢false}
use Rattle.std.specs.List.{list_all}
use Rattle.qterm.specs.declared.name.Name.{Name}
use Rattle.qterm.specs.Tree.{Tree}
use Rattle.qterm.proofs.Members.{Contains_first, Contains_later}
use Rattle.qeval.specs.Value.{Valuation}
use Rattle.qeval.specs.Eval.{truth}
use Rattle.qgoal.specs.Meaning.{IsModel}
use Rattle.rup.specs.declared.literal.Lit.{Lit as Numbered}
use Rattle.sat_core.specs.Models.{HaveNoModel}
use Rattle.sat_clauses.specs.Coding.{AreRead}
use Rattle.sat_clauses.specs.Models.{value_by}
use Rattle.sat_clauses.proofs.Valued.{read_models}

all_hold : (V : Valuation) (ts : List Tree) → ((t : Tree) → Contains ts t → truth V t ≡ true) → list_all (truth V) ts ≡ true
all_hold V [] h = refl
all_hold V (t ∷ ts) h = λ i. h t (Contains_first t ts) i && all_hold V ts (λ u k. h u (Contains_later t ts u k)) i

pub none_models : (f : ℕ → Name) (cs : List Tree) (known : List (List Numbered)) → AreRead f cs known → HaveNoModel known → (V : Valuation) → IsModel V cs → ⊥
none_models f cs known r h V m = true≢false (sym (all_hold V cs m.holds) ∙ read_models V f cs known r ∙ h (value_by V f))
