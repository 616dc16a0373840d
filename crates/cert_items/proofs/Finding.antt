-- What a number finds in a state, in a store that grows too, and what a rule then gives.
use Rattle.std.proofs.Common.{◌≡◌, ℕ, Bool as Truth, true, false, List, Some, None, refl, sym, ap, ◌∙◌}
use Rattle.qterm.specs.declared.name.Sort.TheVariants as sort
use Rattle.qterm.specs.Tree.{Tree}
use Rattle.qterm.specs.Store.{Extends, HasSort, tree_at}
use Rattle.tac_cert.specs.Items.{Item, gives_if, word_at, formula_at}
use Rattle.cert_items.specs.declared.held.Held.{Held}
use Rattle.cert_items.specs.declared.held.Word.{Word as HeldWord}
use Rattle.cert_items.specs.declared.state.State.{State}
use Rattle.cert_items.specs.Held.{shown_all, shown_some, shown_word, AllIn, IsWord, item as held_item, word_of as held_word, formula_of as held_formula}
use Rattle.cert_items.specs.State.{IsState, items_of}
use Rattle.cert_items.specs.Bounded.{bounds_in}
use Rattle.cert_items.proofs.Growing.{all_stay, word_in, word_some, word_none, formula_in, formula_some, formula_none}
use Rattle.cert_items.proofs.States.{state_noted, state_stays}

-- ---- what a rule gives
pub given_yes : (us : List Tree) (hs : List Held) (f : Truth) (new : List Item) → f ≡ true → shown_all us hs ≡ new → shown_some us (Some hs) ≡ gives_if f new
given_yes us hs f new h e = ap Some e ∙ ap (λ b. gives_if b new) (sym h)

pub given_no : (us : List Tree) (f : Truth) (new : List Item) → f ≡ false → shown_some us None ≡ gives_if f new
given_no us f new h = ap (λ b. gives_if b new) (sym h)

-- ---- a state
pub state_items : (ts : List Tree) (s : State) → IsState ts s → AllIn ts s.items
state_items ts s h = (state_noted ts s.items s.seen (bounds_in s.bounds) s.marks.items h).items

-- the word, and the formula, of a number is there
pub word_here : (ts : List Tree) (s : State) (hs : List Held) (n : ℕ) (w : HeldWord) → IsState ts s → hs ≡ s.items → Some w ≡ held_word (held_item hs n) → IsWord ts w
word_here ts s hs n w h e f = word_in ts s.items n w (Some w) (state_items ts s h) (f ∙ ap (λ xs. held_word (held_item xs n)) e) refl

pub formula_here : (ts : List Tree) (s : State) (hs : List Held) (n i : ℕ) → IsState ts s → hs ≡ s.items → Some i ≡ held_formula (held_item hs n) → HasSort sort.Bool ts i
formula_here ts s hs n i h e f = formula_in ts s.items n i (Some i) (state_items ts s h) (f ∙ ap (λ xs. held_formula (held_item xs n)) e) refl

pub formula_is : (ts : List Tree) (s : State) (hs : List Held) (n i : ℕ) → hs ≡ s.items → Some i ≡ held_formula (held_item hs n) → formula_at (items_of ts s) n ≡ Some (tree_at ts i)
formula_is ts s hs n i e f = formula_some ts s.items n i (Some i) (f ∙ ap (λ xs. held_formula (held_item xs n)) e) refl

pub formula_gone : (ts : List Tree) (s : State) (hs : List Held) (n : ℕ) → hs ≡ s.items → None ≡ held_formula (held_item hs n) → formula_at (items_of ts s) n ≡ None
formula_gone ts s hs n e f = formula_none ts s.items n None (f ∙ ap (λ xs. held_formula (held_item xs n)) e) refl

pub word_is : (ts : List Tree) (s : State) (hs : List Held) (n : ℕ) (w : HeldWord) → hs ≡ s.items → Some w ≡ held_word (held_item hs n) → word_at (items_of ts s) n ≡ Some (shown_word ts w)
word_is ts s hs n w e f = word_some ts s.items n w (Some w) (f ∙ ap (λ xs. held_word (held_item xs n)) e) refl

pub word_gone : (ts : List Tree) (s : State) (hs : List Held) (n : ℕ) → hs ≡ s.items → None ≡ held_word (held_item hs n) → word_at (items_of ts s) n ≡ None
word_gone ts s hs n e f = word_none ts s.items n None (f ∙ ap (λ xs. held_word (held_item xs n)) e) refl

-- the state in a store that has grown
pub items_stay : (ts us : List Tree) (s : State) → Extends ts us → IsState ts s → items_of us s ≡ items_of ts s
items_stay ts us s e h = all_stay ts us s.items e (state_items ts s h)

pub stays : (ts us : List Tree) (s : State) → Extends ts us → IsState ts s → IsState us s
stays ts us s e h = state_stays ts us s.items s.seen (bounds_in s.bounds) s.marks.items e h
