-- What a step leaves.
use Rattle.std.proofs.Common.{◌≡◌, ℕ, suc, zero, ◌+◌, ◌<◌, ◌≤◌, true, false, List, [], ◌∷◌, ◌++◌, length, take, get_or, Option, Some, None, Result, Ok, Err, All, refl, sym, ap, subst, ◌∙◌, arith, if◌then◌else◌}
use Rattle.std.specs.Prelude.{OnOk}
use Rattle.std.specs.Option.{option_map}
use Rattle.std.specs.declared.alloc.AllocError.{AllocError}
use Rattle.std.proofs.lemmas.List.{take_more}
use Rattle.qterm.specs.Tree.{Tree, IsLawful}
use Rattle.qterm.specs.Store.{Extends}
use Rattle.tac_cert.specs.Items.{Item}
use Rattle.tac_cert.specs.Formulas as formulas
use Rattle.tac_cert.specs.Gives.{adds}
use Rattle.cert_items.specs.declared.held.Held.{Held}
use Rattle.cert_items.specs.declared.state.State.{State}
use Rattle.cert_items.specs.Held.{AllIn, IfIn, shown_all, shown_some, kept}
use Rattle.cert_items.proofs.Growing.{all_stay, shown_append}
use Rattle.cert_items.specs.Bounded.{bounds_in}
use Rattle.cert_items.specs.State.{IsState}
use Rattle.cert_items.proofs.States.{state_stays}
use Rattle.cert_items.proofs.Keeping.{kept_shown}
use Rattle.qcanon.proofs.Known.{AreForms_extends}
use Rattle.cert_rules.proofs.Deep.{depths_stay}
use Rattle.cert_rules.proofs.Lawful.{all_held_sorted}
use Rattle.cert_check.specs.declared.steps.Tables.{Tables}
use Rattle.cert_check.specs.Tables.{AreReady, given}

pub tables_stay : (ts us : List Tree) (t : Tables) → Extends ts us → AreReady ts t → AreReady us t
tables_stay ts us t e r = record { forms = AreForms_extends ts us t.forms e r.forms; depths = depths_stay ts us t.depths e r.depths }

pub tables_stay_on : {X : Type 0} (ts us : List Tree) (t : Tables) (r : Result X AllocError) → Extends ts us → AreReady ts t → OnOk r (AreReady us t)
tables_stay_on ts us t (Ok x) e a = tables_stay ts us t e a
tables_stay_on ts us t (Err x) e a = tt

-- items pushed one by one
append_nothing : (xs : List Held) → xs ++ [] ≡ xs
append_nothing [] = refl
append_nothing (x ∷ xs) = ap (λ r. x ∷ r) (append_nothing xs)

append_more : (xs ys zs : List Held) → (xs ++ ys) ++ zs ≡ xs ++ (ys ++ zs)
append_more [] ys zs = refl
append_more (x ∷ xs) ys zs = ap (λ r. x ∷ r) (append_more xs ys zs)

take_nothing : (xs : List Held) → take 0 xs ≡ []
take_nothing [] = refl
take_nothing (x ∷ xs) = refl

take_everything : (k : ℕ) (xs : List Held) → length xs ≤ k → take k xs ≡ xs
take_everything zero [] l = refl
take_everything (suc k) [] l = refl
take_everything zero (x ∷ xs) l = absurd (omega (arith, l))
take_everything (suc k) (x ∷ xs) l = ap (λ r. x ∷ r) (take_everything k xs (omega (arith, l)))

pub pushed_none : (xs ys : List Held) → xs ≡ xs ++ take 0 ys
pushed_none xs ys = sym (ap (λ zs. xs ++ zs) (take_nothing ys) ∙ append_nothing xs)

pub pushed_one : (old now new ys : List Held) (k : ℕ) (h d : Held) → k < length ys → d ≡ get_or ys k d → h ≡ d → now ≡ old ++ take k ys → new ≡ now ++ h ∷ [] → new ≡ old ++ take (k + 1) ys
pushed_one old now new ys k h d l e f a b =
    b ∙ (λ i. a i ++ f i ∷ []) ∙ append_more old (take k ys) (d ∷ []) ∙ ap (λ zs. old ++ zs) (sym (take_more ys k d l ∙ ap (λ x. take k ys ++ x ∷ []) (sym e)))

pub pushed_all : (old now ys new : List Held) (k : ℕ) → now ≡ old ++ take k ys → length ys ≤ k → ys ≡ new → now ≡ old ++ new
pushed_all old now ys new k a l e = a ∙ ap (λ zs. old ++ zs) (take_everything k ys l ∙ e)

-- nothing, and something, is given
abbrev some_items : List Item → Option (List Item)
some_items xs = Some xs

pub given_none : (us : List Tree) (items : List Item) (f : Option (List Held)) (o : Option (List Item)) (x : List Item) → shown_some us f ≡ o → f ≡ None → given false x ≡ adds items o
given_none us items f o x e g = sym (ap (adds items) (sym e ∙ ap (shown_some us) g))

pub given_some : (ts us : List Tree) (hs new all : List Held) (f : Option (List Held)) (o : Option (List Item)) → Extends ts us → AllIn ts hs → AllIn us new → All IsLawful us → shown_some us f ≡ o → f ≡ Some new → all ≡ hs ++ new
    → given true (shown_all us all) ≡ adds (shown_all ts hs) o
given_some ts us hs new all f o e a b l q g m =
    let s = all_held_sorted us new l b in
    let opened : adds (shown_all ts hs) (Some (shown_all us new)) ≡ some_items (shown_all ts hs ++ shown_all us new) = ap (λ t. if t then some_items (shown_all ts hs ++ shown_all us new) else None) s in
    ap (λ xs. some_items (shown_all us xs)) m ∙ ap some_items (shown_append us hs new ∙ ap (λ xs. xs ++ shown_all us new) (all_stay ts us hs e a)) ∙ sym opened ∙ sym (ap (adds (shown_all ts hs)) (sym q ∙ ap (shown_some us) g))

pub new_in : (us : List Tree) (f : Option (List Held)) (new : List Held) → IfIn us f → f ≡ Some new → AllIn us new
new_in us f new h e = subst (IfIn us) e h

-- keep
pub kept_none : (ts : List Tree) (hs : List Held) (ns : List ℕ) (f : Option State) (x : List Item) → option_map (λ s. s.items) f ≡ kept hs ns → f ≡ None → given false x ≡ formulas.kept (shown_all ts hs) ns
kept_none ts hs ns f x e g = ap (shown_some ts) (sym (ap (option_map (λ s. s.items)) g) ∙ e) ∙ kept_shown ts hs ns

pub kept_some : (ts : List Tree) (hs : List Held) (ns : List ℕ) (f : Option State) (s : State) → option_map (λ s. s.items) f ≡ kept hs ns → f ≡ Some s → given true (shown_all ts s.items) ≡ formulas.kept (shown_all ts hs) ns
kept_some ts hs ns f s e g = ap (shown_some ts) (sym (ap (option_map (λ s. s.items)) g) ∙ e) ∙ kept_shown ts hs ns

-- the state after a call that leaves it as it is
pub state_later : {X : Type 0} (ts us : List Tree) (s : State) (r : Result X AllocError) → Extends ts us → IsState ts s → OnOk r (IsState us s)
state_later ts us s (Ok x) e h = state_stays ts us s.items s.seen (bounds_in s.bounds) s.marks.items e h
state_later ts us s (Err x) e h = tt
