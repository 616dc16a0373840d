-- Fresh texts, one more at a time, and what they are apart from.
use Rattle.std.proofs.Common.{◌≡◌, ℕ, zero, suc, ◌≤◌, length, take, arith, ◌⊎◌, inl, inr, Bool as Truth, true, false, true≢false, ◌||◌, List, [], ◌∷◌, ◌++◌, refl, sym, ap, subst, ◌∙◌, append_assoc, append-nil}
use Rattle.std.specs.List.{Contains}
use Rattle.std.specs.Str.{bytes_eq}
use Rattle.std.specs.declared.cmp.Ordering.{Ordering}
use Rattle.std.specs.declared.cmp.Ordering.TheVariants.{Less, Equal, Greater}
use Rattle.std.specs.Cmp.Lexicographic.{nat_list_eq_equiv}
use Rattle.std.proofs.lemmas.List.Folds.{list_any-append}
use Rattle.qterm.specs.declared.name.Name.{Name}
use Rattle.qterm.specs.Tree.{Tree, Var}
use Rattle.qlin.specs.Order.{name_cmp, by_order}
use Rattle.qlin.proofs.Orders.{equal}
use Rattle.qsubst.specs.Names.{names_in, names_of, insert_name, in_order}
use Rattle.qsubst.specs.Fresh.{is_taken, texts_of, numbered, IsFresh, AreFresh}
use Rattle.qsubst.proofs.Members.{Member, Member-from_Contains}
use Rattle.qsubst.proofs.Occurring.{cmp_vars}

or_false : (b : Truth) → (b || false) ≡ b
or_false true = refl
or_false false = refl

-- lists with the same texts
abbrev pub Alike : List (List ℕ) → List (List ℕ) → Type 0
Alike T U = (t : List ℕ) → is_taken T t ≡ is_taken U t

IsFresh-alike : (T U : List (List ℕ)) (b t : List ℕ) → Alike T U → IsFresh T b t → IsFresh U b t
IsFresh-alike T U b t e f = record { number = f.number; is = f.is; new = sym (e t) ∙ f.new; least = λ j l. sym (e (numbered b j)) ∙ f.least j l }

taken-append : (T U : List (List ℕ)) (t : List ℕ) → is_taken (T ++ U) t ≡ (is_taken T t || is_taken U t)
taken-append T U t = list_any-append (bytes_eq t) T U

alike-append : (T U V : List (List ℕ)) → Alike T U → Alike (T ++ V) (U ++ V)
alike-append T U V e t = taken-append T V t ∙ ap (λ b. b || is_taken V t) (e t) ∙ sym (taken-append U V t)

pub AreFresh-alike : (T U bs ts : List (List ℕ)) → Alike T U → AreFresh T bs ts → AreFresh U bs ts
AreFresh-alike T U [] [] e f = tt
AreFresh-alike T U [] (t ∷ ts) e f = absurd f
AreFresh-alike T U (b ∷ bs) [] e f = absurd f
AreFresh-alike T U (b ∷ bs) (t ∷ ts) e f = (IsFresh-alike T U b t e f.0, AreFresh-alike (T ++ t ∷ []) (U ++ t ∷ []) bs ts (alike-append T U (t ∷ []) e) f.1)

-- one more fresh text
pub AreFresh-more : (T bs ts : List (List ℕ)) (b t : List ℕ) → AreFresh T bs ts → IsFresh (T ++ ts) b t → AreFresh T (bs ++ b ∷ []) (ts ++ t ∷ [])
AreFresh-more T [] [] b t f h = (subst (λ U. IsFresh U b t) (append-nil T) h, tt)
AreFresh-more T [] (u ∷ ts) b t f h = absurd f
AreFresh-more T (c ∷ bs) [] b t f h = absurd f
AreFresh-more T (c ∷ bs) (u ∷ ts) b t f h = (f.0, AreFresh-more (T ++ u ∷ []) bs ts b t f.1 (subst (λ U. IsFresh U b t) (sym (append_assoc T (u ∷ []) ts)) h))

pub IsFresh-after : (T U V : List (List ℕ)) (b t : List ℕ) → ((u : List ℕ) → is_taken U u ≡ is_taken (T ++ V) u) → IsFresh U b t → IsFresh (T ++ V) b t
IsFresh-after T U V b t e f = IsFresh-alike U (T ++ V) b t e f

-- and it is taken then
pub taken_then : (T U V W : List (List ℕ)) (t : List ℕ) → ((u : List ℕ) → is_taken U u ≡ is_taken (T ++ V) u) → ((u : List ℕ) → is_taken W u ≡ (is_taken U u || bytes_eq u t)) → (u : List ℕ) → is_taken W u ≡ is_taken (T ++ (V ++ t ∷ [])) u
taken_then T U V W t e f u =
    f u ∙ ap (λ b. b || bytes_eq u t) (e u) ∙ ap (λ b. is_taken (T ++ V) u || b) (sym (or_false (bytes_eq u t))) ∙ sym (taken-append (T ++ V) (t ∷ []) u) ∙ ap (λ L. is_taken L u) (append_assoc T V (t ∷ []))

-- ---- apart from what was taken
text_itself : (t : List ℕ) → bytes_eq t t ≡ true
text_itself t = nat_list_eq_equiv.refl t

or_left : (a b : Truth) → (a || b) ≡ false → a ≡ false
or_left true b h = h
or_left false b h = refl

or_right : (a b : Truth) → (a || b) ≡ false → b ≡ false
or_right true b h = absurd (true≢false h)
or_right false b h = h

-- a text that is one of the list is taken
pub is_one : (T : List (List ℕ)) (t : List ℕ) → Member t T → is_taken T t ≡ true
is_one [] t h = absurd h
is_one (u ∷ T) t (inl e) = ap (λ b. b || is_taken T t) (ap (bytes_eq t) (sym e) ∙ text_itself t)
is_one (u ∷ T) t (inr h) = by (bytes_eq t u) (is_one T t h)
  where
    by : (b : Truth) → is_taken T t ≡ true → (b || is_taken T t) ≡ true
    by true e = refl
    by false e = e

-- fresh texts aren't taken
pub fresh_not_taken : (T bs ts : List (List ℕ)) (t : List ℕ) → AreFresh T bs ts → Member t ts → is_taken T t ≡ false
fresh_not_taken T [] [] t f h = absurd h
fresh_not_taken T [] (u ∷ ts) t f h = absurd f
fresh_not_taken T (b ∷ bs) [] t f h = absurd f
fresh_not_taken T (b ∷ bs) (u ∷ ts) t f (inl e) = ap (is_taken T) e ∙ f.0.new
fresh_not_taken T (b ∷ bs) (u ∷ ts) t f (inr h) = or_left (is_taken T t) (is_taken (u ∷ []) t) (sym (taken-append T (u ∷ []) t) ∙ fresh_not_taken (T ++ u ∷ []) bs ts t f.1 h)

-- a later fresh text isn't the first
pub fresh_apart : (T bs ts : List (List ℕ)) (b u t : List ℕ) → AreFresh T (b ∷ bs) (u ∷ ts) → Member t ts → t ≡ u → ⊥
fresh_apart T bs ts b u t f h e =
    let n = or_right (is_taken T t) (is_taken (u ∷ []) t) (sym (taken-append T (u ∷ []) t) ∙ fresh_not_taken (T ++ u ∷ []) bs ts t f.1 h) in
    true≢false (sym (is_one (u ∷ []) t (inl e)) ∙ n)

-- ---- names of formulas
insert_has : (n m : Name) (ms : List Name) → (n ≡ m) ⊎ Member n ms → Member n (insert_name m ms)
insert_has n m [] h = h
insert_has n m (k ∷ ks) h = by (name_cmp m k) refl (λ g. insert_has n m ks g)
  where
    by : (o : Ordering) → name_cmp m k ≡ o → ((n ≡ m) ⊎ Member n ks → Member n (insert_name m ks)) → Member n (by_order o (m ∷ k ∷ ks) (k ∷ ks) (k ∷ insert_name m ks))
    by Less e ih = h
    by Equal e ih = let v : Var m ≡ Var k = equal (Var m) (Var k) (cmp_vars m k ∙ e) in let w : m ≡ k = cc in elim h [ inl p ↦ inl (p ∙ w) | inr q ↦ q ]
    by Greater e ih = elim h [ inl p ↦ inr (ih (inl p)) | inr q ↦ elim q [ inl r ↦ inl r | inr s ↦ inr (ih (inr s)) ] ]

order_has : (n : Name) (ns : List Name) → Member n ns → Member n (in_order ns)
order_has n [] h = absurd h
order_has n (m ∷ ms) (inl e) = insert_has n m (in_order ms) (inl e)
order_has n (m ∷ ms) (inr h) = insert_has n m (in_order ms) (inr (order_has n ms h))

pub text_has : (n : Name) (ns : List Name) → Member n ns → Member n.text (texts_of ns)
text_has n [] h = absurd h
text_has n (m ∷ ms) (inl e) = inl (ap (λ (k : Name). k.text) e)
text_has n (m ∷ ms) (inr h) = inr (text_has n ms h)

-- a name that occurs is taken
pub occurs_taken : (fs : List Tree) (n : Name) → Contains (names_in fs) n → is_taken (texts_of (names_of fs)) n.text ≡ true
unfolding names_of
occurs_taken fs n h = is_one (texts_of (in_order (names_in fs))) n.text (text_has n (in_order (names_in fs)) (order_has n (names_in fs) (Member-from_Contains n (names_in fs) h)))

-- the names of one more place
pub names_taken_more : (U W : List (List ℕ)) (ns ms : List Name) (x : Name) → ms ≡ ns ++ x ∷ [] → ((t : List ℕ) → is_taken U t ≡ is_taken (texts_of ns) t) → ((t : List ℕ) → is_taken W t ≡ (is_taken U t || bytes_eq t x.text)) → (t : List ℕ) → is_taken W t ≡ is_taken (texts_of ms) t
names_taken_more U W ns ms x e f h t =
    h t ∙ ap (λ b. b || bytes_eq t x.text) (f t) ∙ ap (λ b. is_taken (texts_of ns) t || b) (sym (or_false (bytes_eq t x.text))) ∙ sym (taken-append (texts_of ns) (x.text ∷ []) t) ∙ ap (λ L. is_taken L t) (sym (push ns) ∙ ap texts_of (sym e))
  where
    push : (ns : List Name) → texts_of (ns ++ x ∷ []) ≡ texts_of ns ++ x.text ∷ []
    push [] = refl
    push (n ∷ ns) = ap (λ L. n.text ∷ L) (push ns)

-- all names are done
pub take_names : (ns : List Name) (k : ℕ) → length ns ≤ k → take k ns ≡ ns
take_names [] zero h = refl
take_names [] (suc k) h = refl
take_names (n ∷ ns) zero h = absurd (omega (arith, h))
take_names (n ∷ ns) (suc k) h = ap (λ ms. n ∷ ms) (take_names ns k (omega (arith, h)))
