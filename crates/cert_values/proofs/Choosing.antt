-- The two cases of a name that is equal to an `Ite`, over a store that grows.
use Rattle.std.proofs.Common.{◌≡◌, ℕ, List, [], ◌∷◌, ◌++◌, Some, sym, ap, subst, ◌∙◌, All}
use Rattle.qterm.specs.declared.name.Sort.TheVariants as sort
use Rattle.qterm.specs.Tree.{Tree, Eq, Not, Or, none, more}
use Rattle.qterm.specs.Store.{HasSort, Extends, Shows, tree_at}
use Rattle.qterm.proofs.Alls.{All-nil, All-cons}
use Rattle.qterm.proofs.Fitting.{HasSort_extends}
use Rattle.tac_cert.specs.Items.{Formula}
use Rattle.tac_cert.specs.Choices.{two_cases, cases_of}
use Rattle.cert_items.specs.declared.held.Held.{Held}
use Rattle.cert_items.specs.declared.held.Held.TheVariants as variant
use Rattle.cert_items.specs.Held.{AllIn, shown_all, shown_some}
use Rattle.cert_values.specs.declared.choices.Choice.{Choice}
use Rattle.cert_values.specs.Choices.{IsChoice}

pub two_bools : (ts : List Tree) (a b : ℕ) (is : List ℕ) → HasSort sort.Bool ts a → HasSort sort.Bool ts b → is ≡ ([] ++ a ∷ []) ++ b ∷ [] → All (HasSort sort.Bool ts) is
two_bools ts a b is h k e = subst (All (HasSort sort.Bool ts)) (sym e) (All-cons (HasSort sort.Bool ts) a (b ∷ []) h (All-cons (HasSort sort.Bool ts) b [] k (All-nil (HasSort sort.Bool ts))))

pub cases_given : (ts us : List Tree) (id : ℕ) (c : Choice) (hs : List Held) → IsChoice ts (tree_at ts id) c → shown_all us hs ≡ two_cases (tree_at ts c.name) (tree_at ts c.condition) (tree_at ts c.yes) (tree_at ts c.no)
    → shown_some us (Some hs) ≡ cases_of (Some (tree_at ts id))
cases_given ts us id c hs h e = ap Some e ∙ sym h.gives

-- ts is the store before, us has the negation, vs the first case and ws the second
pub both_shown : (ts us vs ws : List Tree) (k c a b n first second : ℕ) (hs : List Held) → Extends ts us → Extends us vs → Extends vs ws → HasSort sort.Int ts k → HasSort sort.Bool ts c → HasSort sort.Int ts a → HasSort sort.Int ts b
    → tree_at us n ≡ Not (tree_at ts c) → Shows vs first (Or (more (tree_at us n) (more (Eq (tree_at us k) (tree_at us a)) none))) → Shows ws second (Or (more (tree_at vs c) (more (Eq (tree_at vs k) (tree_at vs b)) none)))
    → hs ≡ ([] ++ variant.Formula first ∷ []) ++ variant.Formula second ∷ []
    → shown_all ws hs ≡ two_cases (tree_at ts k) (tree_at ts c) (tree_at ts a) (tree_at ts b)
both_shown ts us vs ws k c a b n first second hs e f g hk hc ha hb q s t o =
    let ek = e.same k hk.0 in
    let ea = e.same a ha.0 in
    let fk = f.same k (HasSort_extends sort.Int ts us k e hk).0 ∙ ek in
    let fc = f.same c (HasSort_extends sort.Bool ts us c e hc).0 ∙ e.same c hc.0 in
    let fb = f.same b (HasSort_extends sort.Int ts us b e hb).0 ∙ e.same b hb.0 in
    let one : tree_at ws first ≡ Or (more (Not (tree_at ts c)) (more (Eq (tree_at ts k) (tree_at ts a)) none)) = g.same first s.has ∙ s.is ∙ (λ i. Or (more (q i) (more (Eq (ek i) (ea i)) none))) in
    let two : tree_at ws second ≡ Or (more (tree_at ts c) (more (Eq (tree_at ts k) (tree_at ts b)) none)) = t.is ∙ (λ i. Or (more (fc i) (more (Eq (fk i) (fb i)) none))) in
    ap (shown_all ws) o ∙ (λ i. Formula (one i) ∷ Formula (two i) ∷ [])

pub both_in : (vs ws : List Tree) (first second : ℕ) (hs : List Held) → Extends vs ws → HasSort sort.Bool vs first → HasSort sort.Bool ws second → hs ≡ ([] ++ variant.Formula first ∷ []) ++ variant.Formula second ∷ [] → AllIn ws hs
both_in vs ws first second hs g h k o = subst (AllIn ws) (sym o) (HasSort_extends sort.Bool vs ws first g h, (k, tt))
