-- What a rule gives, where what it needs holds and where it doesn't.
use Rattle.std.proofs.Common.{◌≡◌, ℕ, ◌*◌, ◌^◌, suc, Bool as Truth, true, false, not, ◌&&◌, List, [], ◌∷◌, length, max, Option, Some, None, refl, sym, ap, ◌∙◌, All, nat_le, nat_eq, nat_lt}
use Rattle.std.specs.Prelude.{ℤ, pos, negsuc}
use Rattle.qterm.specs.declared.name.Name.{Name}
use Rattle.qterm.specs.declared.name.Sort.TheVariants as sort
use Rattle.qterm.specs.Tree.{Tree, Var, sort_of}
use Rattle.qterm.specs.Store.{Extends, HasSort, Shows, trees_of}
use Rattle.qlin.specs.Number.{fits}
use Rattle.qlin.specs.Form.{plus}
use Rattle.qlin.specs.Lin.{form_at, parts_at, IsForm, form_fits, parts_fit}
use Rattle.qlin.specs.declared.lin.Lin.{Lin}
use Rattle.tac_cert.specs.Names.{all_bool, is_int}
use Rattle.qeval.specs.Bounds.{at_least, at_most}
use Rattle.tac_cert.specs.Bounds.{within}
use Rattle.tac_cert.specs.Items.{Item, Word, fresh, gives_if, word_at}
use Rattle.tac_cert.specs.Words.{vars}
use Rattle.tac_cert.specs.Adders.{counts_fit, add_fits, add_items, add_new, add_words}
use Rattle.tac_cert.specs.Comparisons.{shape_fits, compare_new, compare}
use Rattle.cert_items.specs.declared.held.Held.{Held}
use Rattle.cert_items.specs.declared.held.Word.{Word as HeldWord}
use Rattle.cert_items.specs.Held.{shown_some, shown_word}
use Rattle.cert_items.specs.declared.state.State.{State}
use Rattle.cert_items.specs.State.{IsState, items_of, AreBounds, bounds_of}
use Rattle.cert_items.specs.declared.bounds.Bounds.{Bounds}
use Rattle.cert_items.specs.Held.{item as held_item, word_of as held_word}
use Rattle.cert_items.proofs.Growing.{form_stays, bits_stay}
use Rattle.cert_items.proofs.Bools.{and_left, and_right}
use Rattle.cert_items.proofs.Given.{same_number}
use Rattle.cert_items.proofs.Finding.{given_no, items_stay, word_is, word_gone}
use Rattle.cert_items.proofs.Naming.{int_sort, bool_sort}

-- ---- numbers of forms
parts_same : (ts : List Tree) (ps : List (ℤ × ℕ)) → parts_fit (parts_at ts ps) ≡ parts_fit ps
parts_same ts [] = refl
parts_same ts (p ∷ ps) = ap (λ b. fits p.0 && b) (parts_same ts ps)

pub fits_at : (ts : List Tree) (l : Lin) → form_fits (form_at ts l) ≡ (parts_fit l.parts && fits l.constant)
fits_at ts l = ap (λ b. b && fits l.constant) (parts_same ts l.parts)

-- ---- add
trees_count : (ts : List Tree) (is : List ℕ) → length (trees_of ts is) ≡ length is
trees_count ts [] = refl
trees_count ts (i ∷ is) = ap suc (trees_count ts is)

pub add_counted : (m n : ℕ) (ns : List Name) → (counts_fit m n (length ns) && all_bool ns) ≡ true → length ns ≡ 2 * max m n
add_counted m n ns h = same_number (length ns) (2 * max m n) (and_right (nat_le (max m n) 125) _ (and_left (counts_fit m n (length ns)) _ h))

pub add_bools : (m n : ℕ) (ns : List Name) → (counts_fit m n (length ns) && all_bool ns) ≡ true → all_bool ns ≡ true
add_bools m n ns h = and_right (counts_fit m n (length ns)) _ h

module _ (ts : List Tree) (items : List Item) (v w : HeldWord) (ns : List Name) where
  -- the test of the shape is the same on ids and on trees
  shape_same : (counts_fit (length v.bits) (length w.bits) (length ns) && all_bool ns) ≡ (counts_fit (length (trees_of ts v.bits)) (length (trees_of ts w.bits)) (length ns) && all_bool ns)
  shape_same = λ i. counts_fit (sym (trees_count ts v.bits) i) (sym (trees_count ts w.bits) i) (length ns) && all_bool ns

  pub add_no : (us : List Tree) (b : Truth) → b ≡ (counts_fit (length v.bits) (length w.bits) (length ns) && all_bool ns) → b ≡ false
      → shown_some us None ≡ add_words items (Some (shown_word ts v)) (Some (shown_word ts w)) ns
  add_no us b e h = ap (λ t. gives_if (t && (form_fits (plus (form_at ts v.form) (form_at ts w.form)) && fresh ns items)) (add_new (shown_word ts v) (shown_word ts w) ns)) (sym h ∙ e ∙ shape_same)

  no_right : (a b : Truth) → b ≡ false → (a && b) ≡ false
  no_right true b h = h
  no_right false b h = refl

  pub add_wide : (us : List Tree) → form_fits (plus (form_at ts v.form) (form_at ts w.form)) ≡ false → shown_some us None ≡ add_words items (Some (shown_word ts v)) (Some (shown_word ts w)) ns
  add_wide us h =
      let size = counts_fit (length (trees_of ts v.bits)) (length (trees_of ts w.bits)) (length ns) && all_bool ns in
      given_no us (add_fits items (shown_word ts v) (shown_word ts w) ns) (add_new (shown_word ts v) (shown_word ts w) ns)
      (no_right size _ (ap (λ b. b && fresh ns items) h))

  pub add_narrow : (us : List Tree) (form : Lin) (o : Option (List Held)) → (counts_fit (length v.bits) (length w.bits) (length ns) && all_bool ns) ≡ true → form_at ts form ≡ plus (form_at ts v.form) (form_at ts w.form)
      → (parts_fit form.parts && fits form.constant) ≡ true → shown_some us o ≡ gives_if (fresh ns items) (add_items (form_at ts form) (trees_of ts v.bits) (trees_of ts w.bits) ns)
      → shown_some us o ≡ add_words items (Some (shown_word ts v)) (Some (shown_word ts w)) ns
  add_narrow us form o s f n g =
      let a : (counts_fit (length (trees_of ts v.bits)) (length (trees_of ts w.bits)) (length ns) && all_bool ns) ≡ true = sym shape_same ∙ s in
      let b : form_fits (plus (form_at ts v.form) (form_at ts w.form)) ≡ true = ap form_fits (sym f) ∙ fits_at ts form ∙ n in
      g ∙ (λ i. gives_if (sym a i && (sym b i && fresh ns items)) (add_items (f i) (trees_of ts v.bits) (trees_of ts w.bits) ns))

-- what was made over a store that has grown
pub add_after : (ts us : List Tree) (form : Lin) (ls rs : List ℕ) (ns : List Name) (out : List Item) → Extends ts us → IsForm ts form → All (HasSort sort.Bool ts) ls → All (HasSort sort.Bool ts) rs
    → out ≡ add_items (form_at us form) (trees_of us ls) (trees_of us rs) ns → out ≡ add_items (form_at ts form) (trees_of ts ls) (trees_of ts rs) ns
add_after ts us form ls rs ns out e f a b o =
    let g = form_stays ts us form e f in
    let p = bits_stay ts us ls e a in
    let q = bits_stay ts us rs e b in
    o ∙ (λ i. add_items (g i) (p i) (q i) ns)

-- ---- cmp and eqc
eq_same : (n m : ℕ) → n ≡ m → (c : ℕ) (ns : List Name) → shape_fits n c ns ≡ shape_fits m c ns
eq_same n m e c ns = ap (λ k. shape_fits k c ns) e

module _ (ts : List Tree) (exact : Truth) (items : List Item) (w : HeldWord) (c : ℕ) (ns : List Name) where
  pub compare_no : (us : List Tree) (b : Truth) → b ≡ shape_fits (length w.bits) c ns → b ≡ false → shown_some us None ≡ compare exact items (Some (shown_word ts w)) (pos c) ns
  compare_no us b e h =
      ap (λ t. gives_if (t && fresh ns items) (compare_new exact (form_at ts w.form) (trees_of ts w.bits) c (vars ns))) (sym h ∙ e ∙ ap (λ k. shape_fits k c ns) (sym (trees_count ts w.bits)))

  pub compare_yes : (us : List Tree) (o : Option (List Held)) → shape_fits (length w.bits) c ns ≡ true → shown_some us o ≡ gives_if (fresh ns items) (compare_new exact (form_at ts w.form) (trees_of ts w.bits) c (vars ns))
      → shown_some us o ≡ compare exact items (Some (shown_word ts w)) (pos c) ns
  compare_yes us o h g =
      g ∙ ap (λ t. gives_if (t && fresh ns items) (compare_new exact (form_at ts w.form) (trees_of ts w.bits) c (vars ns))) (sym h ∙ ap (λ k. shape_fits k c ns) (sym (trees_count ts w.bits)))

pub compare_counted : (n c : ℕ) (ns : List Name) → shape_fits n c ns ≡ true → length ns ≡ n
compare_counted n c ns h = same_number (length ns) n (and_left (nat_eq (length ns) n) _ (and_left (nat_eq (length ns) n && nat_lt c (2 ^ n)) _ h))

pub compare_bools : (n c : ℕ) (ns : List Name) → shape_fits n c ns ≡ true → all_bool ns ≡ true
compare_bools n c ns h = and_right (nat_eq (length ns) n && nat_lt c (2 ^ n)) _ h

-- what was made over a store that has grown
pub compare_after : (ts us : List Tree) (exact : Truth) (form : Lin) (ls : List ℕ) (c : ℕ) (qs : List Tree) (out : List Item) → Extends ts us → IsForm ts form → All (HasSort sort.Bool ts) ls
    → out ≡ compare_new exact (form_at us form) (trees_of us ls) c qs → out ≡ compare_new exact (form_at ts form) (trees_of ts ls) c qs
compare_after ts us exact form ls c qs out e f a o =
    let g = form_stays ts us form e f in
    let p = bits_stay ts us ls e a in
    o ∙ (λ i. compare_new exact (g i) (p i) c qs)

pub compare_negative : (us : List Tree) (exact : Truth) (items : List Item) (o : Option Word) (z : ℤ) (ns : List Name) → (m : ℕ) × (z ≡ negsuc m) → shown_some us None ≡ compare exact items o z ns
compare_negative us exact items o z ns h = by o ∙ ap (λ x. compare exact items o x ns) (sym h.1)
  where
    by : (p : Option Word) → shown_some us None ≡ compare exact items p (negsuc h.0) ns
    by None = refl
    by (Some w) = refl

pub compare_here : (ts us : List Tree) (exact : Truth) (s : State) (hs : List Held) (n : ℕ) (w : HeldWord) (z : ℤ) (c : ℕ) (ns : List Name) (o : Option (List Held)) → hs ≡ s.items → Some w ≡ held_word (held_item hs n) → z ≡ pos c
    → shown_some us o ≡ compare exact (items_of ts s) (Some (shown_word ts w)) (pos c) ns → shown_some us o ≡ compare exact (items_of ts s) (word_at (items_of ts s) n) z ns
compare_here ts us exact s hs n w z c ns o e f h g = g ∙ (λ i. compare exact (items_of ts s) (sym (word_is ts s hs n w e f) i) (sym h i) ns)

pub compare_gone : (ts us : List Tree) (exact : Truth) (s : State) (hs : List Held) (n : ℕ) (z : ℤ) (ns : List Name) → hs ≡ s.items → None ≡ held_word (held_item hs n) → shown_some us None ≡ compare exact (items_of ts s) (word_at (items_of ts s) n) z ns
compare_gone ts us exact s hs n z ns e f = ap (λ o. compare exact (items_of ts s) o z ns) (sym (word_gone ts s hs n e f))

-- ---- names with bounds
pub var_int : (us : List Tree) (i : ℕ) (x : Name) → Shows us i (Var x) → is_int x.sort ≡ true → HasSort sort.Int us i
var_int us i x s h = (s.has, ap sort_of s.is ∙ int_sort x.sort h)

pub var_bool : (us : List Tree) (i : ℕ) (x : Name) → Shows us i (Var x) → not (is_int x.sort) ≡ true → HasSort sort.Bool us i
var_bool us i x s h = (s.has, ap sort_of s.is ∙ bool_sort x.sort h)

-- what bounds that were looked up say of the items before the store grew
pub bounds_before : (ts us : List Tree) (s : State) (i : ℕ) (x : Name) (b : Bounds) (l u : ℤ) (t : Truth) → Extends ts us → IsState ts s → Shows us i (Var x) → AreBounds us (items_of us s) i b
    → t ≡ (at_least l b.low && at_most u b.up) → t ≡ within (items_of ts s) x l u
bounds_before ts us s i x b l u t e h v a w =
    let same : b ≡ bounds_of (items_of us s) x = a x v.is in
    w ∙ ap (λ (c : Bounds). at_least l c.low && at_most u c.up) same ∙ ap (λ items. within items x l u) (items_stay ts us s e h)
