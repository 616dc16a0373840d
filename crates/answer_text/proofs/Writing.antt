-- How a text grows, and what waits on the stack.
use Rattle.std.proofs.Common.{◌≡◌, ℕ, zero, suc, ◌+◌, ◌<◌, ◌≤◌, arith, ℤ, pos, negsuc, List, [], ◌∷◌, ◌++◌, map, drop, length, get_or, All, Result, OnOk, refl, ap, sym, subst, ◌∙◌, append_assoc, append-nil, length-append, codes}
use Rattle.std.proofs.Math.Seq.{get_or-append_seam}
use Rattle.std.proofs.lemmas.Result.{on_ok_weaker}
use Rattle.std.proofs.lemmas.List.{drop_all, drop_more, get_or_append_left}
use Rattle.std.proofs.lemmas.List.Elements.{All-push}
use Rattle.strat_text.specs.Spelled.{spaced, form_text, number_text}
use Rattle.qterm.specs.Tree.{Tree}
use Rattle.qterm.specs.Store.{trees_at}
use Rattle.answer_text.specs.declared.term.Part.{Part}
use Rattle.answer_text.specs.declared.term.Part.TheVariants.{Next, Close}
use Rattle.answer_text.specs.Terms.{term_text, term_texts, text_at, form_or, scaled}
use Rattle.answer_text.specs.Waiting.{waiting, part_text, IsPart, Writes}

-- a part that goes on the stack is the next one
pub waiting-append : (ts : List Tree) (ps : List Part) (p : Part) (after : List ℕ) → waiting ts (ps ++ p ∷ []) after ≡ part_text ts p ++ waiting ts ps after
unfolding waiting
waiting-append ts [] p after = refl
waiting-append ts (q ∷ ps) p after = waiting-append ts ps p (part_text ts q ++ after)

-- nothing waits
pub waiting-none : (ts : List Tree) (after : List ℕ) → waiting ts [] after ≡ after
unfolding waiting
waiting-none ts after = refl

-- a text that is written at once
pub writes : {A E : Type 0} (r : Result A E) (ts : List Tree) (old new text : List ℕ) (parts : List Part) → OnOk r (new ≡ old ++ text) → OnOk r (Writes ts old parts new parts text)
writes r ts old new text parts = on_ok_weaker r (λ is after. ap (λ (bs : List ℕ). bs ++ waiting ts parts after) is ∙ append_assoc old text (waiting ts parts after))

-- the same text, told otherwise
pub writes_same : {A E : Type 0} (r : Result A E) (ts : List Tree) (old new text other : List ℕ) (parts before : List Part) → other ≡ text → OnOk r (Writes ts old before new parts text) → OnOk r (Writes ts old before new parts other)
writes_same r ts old new text other parts before is = on_ok_weaker r (λ w after. w after ∙ ap (λ (bs : List ℕ). old ++ (bs ++ waiting ts before after)) (sym is))

-- the texts of children
pub texts_at : (ts : List Tree) (is : List ℕ) → term_texts (trees_at ts is) ≡ map (text_at ts) is
unfolding term_text term_texts
texts_at ts [] = refl
texts_at ts (i ∷ is) = ap (λ texts. text_at ts i ∷ texts) (texts_at ts is)

-- a form's closing parenthesis goes on the stack
pub close_waits : (ts : List Tree) (before now : List Part) (children : List ℕ) → now ≡ before ++ Close ∷ []
    → (after : List ℕ) → waiting ts now after ≡ spaced (map (text_at ts) (drop (length children) children)) ++ 41 ∷ waiting ts before after
close_waits ts before now children is after =
    ap (λ (ps : List Part). waiting ts ps after) is ∙ waiting-append ts before Close after
    ∙ ap (λ (is : List ℕ). spaced (map (text_at ts) is) ++ 41 ∷ waiting ts before after) (sym (drop_all (length children) children (omega arith)))

-- a child goes on the stack, before those that follow it
pub child_waits : (ts : List Tree) (before parts new : List Part) (children : List ℕ) (at k child : ℕ)
    → ((after : List ℕ) → waiting ts parts after ≡ spaced (map (text_at ts) (drop at children)) ++ 41 ∷ waiting ts before after)
    → new ≡ parts ++ Next child ∷ [] → at ≡ k + 1 → k < length children → child ≡ get_or children k child
    → (after : List ℕ) → waiting ts new after ≡ spaced (map (text_at ts) (drop k children)) ++ 41 ∷ waiting ts before after
child_waits ts before parts new children at k child waits is next within here after =
    let left : drop k children ≡ child ∷ drop at children =
    drop_more children k child within ∙ ap (λ x. x ∷ drop (k + 1) children) (sym here) ∙ ap (λ n. child ∷ drop n children) (sym next) in
    let rest = spaced (map (text_at ts) (drop at children)) in
    ap (λ (ps : List Part). waiting ts ps after) is ∙ waiting-append ts parts (Next child) after
    ∙ ap (λ (bs : List ℕ). 32 ∷ (text_at ts child ++ bs)) (waits after)
    ∙ ap (λ (bs : List ℕ). 32 ∷ bs) (sym (append_assoc (text_at ts child) rest (41 ∷ waiting ts before after)))
    ∙ ap (λ (is : List ℕ). spaced (map (text_at ts) is) ++ 41 ∷ waiting ts before after) (sym left)

-- a form's word is written, and its children wait
pub form_begins : (ts : List Tree) (old begun new word : List ℕ) (before parts : List Part) (children : List ℕ)
    → begun ≡ old ++ 40 ∷ [] → new ≡ begun ++ word
    → ((after : List ℕ) → waiting ts parts after ≡ spaced (map (text_at ts) children) ++ 41 ∷ waiting ts before after)
    → Writes ts old before new parts (form_text word (map (text_at ts) children))
form_begins ts old begun new word before parts children begins is waits after =
    ap (λ (bs : List ℕ). new ++ bs) (waits after) ∙ ap (λ (bs : List ℕ). bs ++ (spaced (map (text_at ts) children) ++ 41 ∷ waiting ts before after)) (is ∙ ap (λ (bs : List ℕ). bs ++ word) begins)
    ∙ simp append_assoc

-- a product's number is written, and its term waits
pub product_begins : (ts : List Tree) (old begun new : List ℕ) (before now parts : List Part) (by : ℤ) (child : ℕ)
    → begun ≡ old ++ codes "(* " → new ≡ begun ++ number_text by → now ≡ before ++ Close ∷ [] → parts ≡ now ++ Next child ∷ []
    → Writes ts old before new parts (form_text (codes "*") (number_text by ∷ text_at ts child ∷ []))
product_begins ts old begun new before now parts by child begins is closes nexts after =
    ap (λ (ps : List Part). new ++ waiting ts ps after) nexts ∙ ap (λ (bs : List ℕ). new ++ bs) (waiting-append ts now (Next child) after)
    ∙ ap (λ (ps : List Part). new ++ (32 ∷ (text_at ts child ++ waiting ts ps after))) closes
    ∙ ap (λ (bs : List ℕ). new ++ (32 ∷ (text_at ts child ++ bs))) (waiting-append ts before Close after)
    ∙ ap (λ (bs : List ℕ). bs ++ (32 ∷ (text_at ts child ++ 41 ∷ waiting ts before after))) (is ∙ ap (λ (bs : List ℕ). bs ++ number_text by) begins)
    ∙ simp (append_assoc, append-nil)

-- the text of a product with a number other than -1
pub scaled_other : (by : ℤ) (text : List ℕ) → (by ≡ negsuc 0 → ⊥) → scaled by text ≡ form_text (codes "*") (number_text by ∷ text ∷ [])
scaled_other (pos n) text other = refl
scaled_other (negsuc zero) text other = absurd (other refl)
scaled_other (negsuc (suc n)) text other = refl

-- the text of a form with children, and of one without
pub form_some : (word empty : List ℕ) (f : ℕ → List ℕ) (is : List ℕ) → (length is ≡ 0 → ⊥) → form_or word empty (map f is) ≡ form_text word (map f is)
form_some word empty f [] some = absurd (some refl)
form_some word empty f (i ∷ is) some = refl

pub form_none : (word empty : List ℕ) (f : ℕ → List ℕ) (is : List ℕ) → length is ≡ 0 → form_or word empty (map f is) ≡ empty
form_none word empty f [] e = refl
form_none word empty f (i ∷ is) e = absurd (omega (arith, e))

-- one more part of the store goes on the stack
pub parts_push : (ts : List Tree) (parts new : List Part) (p : Part) → new ≡ parts ++ p ∷ [] → All (IsPart ts) parts → IsPart ts p → All (IsPart ts) new
parts_push ts parts new p is all one = subst (λ (ps : List Part). All (IsPart ts) ps) (sym is) (All-push (IsPart ts) parts p all one)

-- all children wait
pub all_wait : (ts : List Tree) (before parts : List Part) (children : List ℕ) (at : ℕ) → at ≤ 0
    → ((after : List ℕ) → waiting ts parts after ≡ spaced (map (text_at ts) (drop at children)) ++ 41 ∷ waiting ts before after)
    → (after : List ℕ) → waiting ts parts after ≡ spaced (map (text_at ts) children) ++ 41 ∷ waiting ts before after
all_wait ts before parts children zero done waits = waits
all_wait ts before parts children (suc at) done waits = absurd (omega (arith, done))

-- a text that was written is another one
pub told_so : (ts : List Tree) (old new text other : List ℕ) (before parts : List Part) → other ≡ text → Writes ts old before new parts text → Writes ts old before new parts other
told_so ts old new text other before parts is w after = w after ∙ ap (λ (bs : List ℕ). old ++ (bs ++ waiting ts before after)) (sym is)

-- the next part is written
pub turn_writes : (ts : List Tree) (old new start text : List ℕ) (before rest parts : List Part) (p : Part) → before ≡ rest ++ p ∷ [] → old ++ waiting ts before [] ≡ start ++ text
    → Writes ts old rest new parts (part_text ts p) → new ++ waiting ts parts [] ≡ start ++ text
turn_writes ts old new start text before rest parts p is so_far w =
    w [] ∙ ap (λ (bs : List ℕ). old ++ bs) (sym (ap (λ (ps : List Part). waiting ts ps []) is ∙ waiting-append ts rest p [])) ∙ so_far

-- less waits once more is written
pub turn_less : (ts : List Tree) (old new : List ℕ) (before rest parts : List Part) (p : Part) → before ≡ rest ++ p ∷ [] → length old < length new
    → Writes ts old rest new parts (part_text ts p) → length (waiting ts parts []) < length (waiting ts before [])
turn_less ts old new before rest parts p is longer w =
    let all : new ++ waiting ts parts [] ≡ old ++ waiting ts before [] = w [] ∙ ap (λ (bs : List ℕ). old ++ bs) (sym (ap (λ (ps : List Part). waiting ts ps []) is ∙ waiting-append ts rest p [])) in
    let same : length new + length (waiting ts parts []) ≡ length old + length (waiting ts before []) = sym (length-append new (waiting ts parts [])) ∙ ap length all ∙ length-append old (waiting ts before []) in
    omega (arith, longer, same)

-- all is written where nothing waits
pub all_written : (ts : List Tree) (now start text : List ℕ) (parts : List Part) → length parts ≡ 0 → now ++ waiting ts parts [] ≡ start ++ text → now ≡ start ++ text
all_written ts now start text [] done so_far = sym (append-nil now) ∙ sym (ap (λ (bs : List ℕ). now ++ bs) (waiting-none ts [])) ∙ so_far
all_written ts now start text (p ∷ ps) done so_far = absurd (omega (arith, done))

-- at first nothing waits
pub start_writes : (ts : List Tree) (old new text : List ℕ) (before parts : List Part) → before ≡ [] → Writes ts old before new parts text → new ++ waiting ts parts [] ≡ old ++ text
start_writes ts old new text before parts none_yet w =
    w [] ∙ ap (λ (bs : List ℕ). old ++ bs) (ap (λ (ps : List Part). text ++ waiting ts ps []) none_yet ∙ ap (λ (bs : List ℕ). text ++ bs) (waiting-none ts []) ∙ append-nil text)

-- the parts behind the next one are of the store, and so is the next one
pub parts_rest : (ts : List Tree) (before rest : List Part) (p : Part) → before ≡ rest ++ p ∷ [] → All (IsPart ts) before → All (IsPart ts) rest
parts_rest ts before rest p is all k d within =
    subst (IsPart ts) (get_or_append_left rest (p ∷ []) d k within) (subst (λ (ps : List Part). All (IsPart ts) ps) is all k d (omega (arith, within, length-append rest (p ∷ []))))

pub part_next : (ts : List Tree) (before rest : List Part) (p : Part) → before ≡ rest ++ p ∷ [] → All (IsPart ts) before → IsPart ts p
part_next ts before rest p is all =
    subst (IsPart ts) (get_or-append_seam rest p [] p) (subst (λ (ps : List Part). All (IsPart ts) ps) is all (length rest) p (omega (arith, length-append rest (p ∷ []))))
