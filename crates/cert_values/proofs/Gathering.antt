-- The names of a tree from those of its children.
use Rattle.std.proofs.Common.{◌≡◌, ℕ, ◌+◌, ◌<◌, ◌≤◌, suc, Bool as Truth, true, false, not, ◌&&◌, ◌||◌, List, [], ◌∷◌, ◌++◌, length, get_or, drop, Option, Some, None, inl, inr, refl, sym, ap, subst, ◌∙◌, arith, nat_le, nat_eq, if◌then◌else◌}
use Rattle.std.specs.List.{AllZip}
use Rattle.std.specs.Option.{option_map}
use Rattle.std.proofs.lemmas.Bool.Decides.{nat_tests}
use Rattle.qeval.specs.Value.{same_name}
use Rattle.qterm.specs.declared.name.Name.{Name}
use Rattle.qterm.specs.Tree.{Tree, Trees, True, False, Var, Num, Sum, Scale, Le, Eq, Iff, Not, And, Or, Ite, none, more}
use Rattle.qterm.specs.Kids.{kids, listed}
use Rattle.qterm.specs.Store.{tree_at, Has, IsDistinct}
use Rattle.tac_cert.specs.Names.{is_int}
use Rattle.tac_cert.specs.Tables.{is_propositional, are_propositional, has, put, names_onto, all_names_onto, names_of}
use Rattle.cert_items.proofs.Bools.{true_or_false}
use Rattle.cert_items.proofs.Fresh.{name_exact, name_itself}
use Rattle.cert_values.specs.declared.few.Few.{Few}
use Rattle.cert_values.specs.FewNames.{ids_of, is_among, put_id, then_put, put_ids, join, join_all, AreNames, Collects, IsFew}
use Rattle.qlin.proofs.Readings.{drop_is, drop_end}

-- ---- names at the end of names
abbrev puts : List Name → List Name → List Name
puts ns [] = ns
puts ns (m ∷ ms) = puts (put ns m) ms

or_true : (a b : Truth) → b ≡ true → (a || b) ≡ true
or_true true b e = refl
or_true false b e = e

or_first : (a b : Truth) → a ≡ true → (a || b) ≡ true
or_first a b e = ap (λ x. x || b) e

or_second : (a b : Truth) → a ≡ false → (a || b) ≡ true → b ≡ true
or_second true b e h = cc
or_second false b e h = h

or_turn : (a : Truth) → (a || false) ≡ a
or_turn true = refl
or_turn false = refl

or_assoc : (a b c : Truth) → (a || (b || c)) ≡ ((a || b) || c)
or_assoc true b c = refl
or_assoc false b c = refl

has_last : (ns : List Name) (x m : Name) → has (ns ++ m ∷ []) x ≡ (has ns x || same_name x m)
has_last [] x m = or_turn (same_name x m)
has_last (n ∷ ns) x m = ap (λ b. same_name x n || b) (has_last ns x m) ∙ or_assoc (same_name x n) (has ns x) (same_name x m)

put_has : (ns : List Name) (x m : Name) → has (put ns m) x ≡ (has ns x || same_name x m)
put_has ns x m = by (has ns m) refl
  where
    whole : has ns m ≡ true → (b : Truth) → same_name x m ≡ b → has ns x ≡ (has ns x || b)
    whole e true f = let g : has ns x ≡ true = ap (λ (y : Name). has ns y) (name_exact x m f) ∙ e in rw g refl
    whole e false f = sym (or_turn (has ns x))

    by : (b : Truth) → has ns m ≡ b → has (if b then ns else (ns ++ m ∷ [])) x ≡ (has ns x || same_name x m)
    by true e = whole e (same_name x m) refl
    by false e = has_last ns x m

put_there : (ns : List Name) (x : Name) → has ns x ≡ true → put ns x ≡ ns
put_there ns x e = ap (λ b. if b then ns else (ns ++ x ∷ [])) e

put_new : (ns : List Name) (x : Name) → has ns x ≡ false → put ns x ≡ ns ++ x ∷ []
put_new ns x e = ap (λ b. if b then ns else (ns ++ x ∷ [])) e

kept : (ns ms : List Name) (x : Name) → has ns x ≡ true → has (puts ns ms) x ≡ true
kept ns [] x h = h
kept ns (m ∷ ms) x h = kept (put ns m) ms x (put_has ns x m ∙ or_first (has ns x) (same_name x m) h)

has_puts : (ns ms : List Name) (x : Name) → has ms x ≡ true → has (puts ns ms) x ≡ true
has_puts ns [] x h = cc
has_puts ns (m ∷ ms) x h =
    elim (true_or_false (same_name x m)) [
      | inl e ↦ kept (put ns m) ms x (put_has ns x m ∙ or_true (has ns x) (same_name x m) e)
      | inr e ↦ has_puts (put ns m) ms x (or_second (same_name x m) (has ms x) e h)
    ]

puts_last : (ns ms : List Name) (x : Name) → puts ns (ms ++ x ∷ []) ≡ put (puts ns ms) x
puts_last ns [] x = refl
puts_last ns (m ∷ ms) x = puts_last (put ns m) ms x

puts_put : (ns ms : List Name) (x : Name) → put (puts ns ms) x ≡ puts ns (put ms x)
puts_put ns ms x =
    elim (true_or_false (has ms x)) [
      | inl e ↦ put_there (puts ns ms) x (has_puts ns ms x e) ∙ ap (puts ns) (sym (put_there ms x e))
      | inr e ↦ sym (puts_last ns ms x) ∙ ap (puts ns) (sym (put_new ms x e))
    ]

mutual
  onto_puts : (ns ms : List Name) (t : Tree) → names_onto (puts ns ms) t ≡ puts ns (names_onto ms t)
  onto_puts ns ms True = refl
  onto_puts ns ms False = refl
  onto_puts ns ms (Var x) = puts_put ns ms x
  onto_puts ns ms (Num z) = refl
  onto_puts ns ms (Sum ts) = all_onto_puts ns ms ts
  onto_puts ns ms (Scale z t) = onto_puts ns ms t
  onto_puts ns ms (Le t u) = ap (λ xs. names_onto xs u) (onto_puts ns ms t) ∙ onto_puts ns (names_onto ms t) u
  onto_puts ns ms (Eq t u) = ap (λ xs. names_onto xs u) (onto_puts ns ms t) ∙ onto_puts ns (names_onto ms t) u
  onto_puts ns ms (Iff t u) = ap (λ xs. names_onto xs u) (onto_puts ns ms t) ∙ onto_puts ns (names_onto ms t) u
  onto_puts ns ms (Not t) = onto_puts ns ms t
  onto_puts ns ms (And ts) = all_onto_puts ns ms ts
  onto_puts ns ms (Or ts) = all_onto_puts ns ms ts
  onto_puts ns ms (Ite c t u) =
      ap (λ xs. names_onto (names_onto xs t) u) (onto_puts ns ms c) ∙ ap (λ xs. names_onto xs u) (onto_puts ns (names_onto ms c) t)
      ∙ onto_puts ns (names_onto (names_onto ms c) t) u

  all_onto_puts : (ns ms : List Name) (ts : Trees) → all_names_onto (puts ns ms) ts ≡ puts ns (all_names_onto ms ts)
  all_onto_puts ns ms none = refl
  all_onto_puts ns ms (more t ts) = ap (λ xs. all_names_onto xs ts) (onto_puts ns ms t) ∙ all_onto_puts ns (names_onto ms t) ts

split : (ns : List Name) (t : Tree) → names_onto ns t ≡ puts ns (names_of t)
split ns t = onto_puts ns [] t

-- ---- how many there are
-- how many of the names `cs` aren't among `bs`
abbrev outside : List Name → List Name → ℕ
outside [] bs = 0
outside (a ∷ cs) bs = (if has bs a then 0 else 1) + outside cs bs

fewer : (p q : Truth) → (if p || q then 0 else 1) ≤ (if p then 0 else 1)
fewer true q = omega arith
fewer false true = omega arith
fewer false false = omega arith

outside_less : (cs bs : List Name) (x : Name) → outside cs (bs ++ x ∷ []) ≤ outside cs bs
outside_less [] bs x = omega arith
outside_less (a ∷ cs) bs x =
    let e = has_last bs a x in
    let h = outside_less cs bs x in
    let f = fewer (has bs a) (same_name a x) in rw e omega (arith, h, f)

outside_one : (cs bs : List Name) (x : Name) → has cs x ≡ true → has bs x ≡ false → suc (outside cs (bs ++ x ∷ [])) ≤ outside cs bs
outside_one [] bs x h k = cc
outside_one (a ∷ cs) bs x h k =
    elim (true_or_false (same_name x a)) [
      | inl e ↦ here (name_exact x a e)
      | inr e ↦ there (outside_one cs bs x (or_second (same_name x a) (has cs x) e h) k)
    ]
  where
    here : x ≡ a → suc (outside (a ∷ cs) (bs ++ x ∷ [])) ≤ outside (a ∷ cs) bs
    here e =
        let p : has bs a ≡ false = ap (λ (y : Name). has bs y) (sym e) ∙ k in
        let q : has (bs ++ x ∷ []) a ≡ true = has_last bs a x ∙ or_true (has bs a) (same_name a x) (ap (same_name a) e ∙ name_itself a) in
        let h = outside_less cs bs x in rw (p, q) omega (arith, h)

    there : suc (outside cs (bs ++ x ∷ [])) ≤ outside cs bs → suc (outside (a ∷ cs) (bs ++ x ∷ [])) ≤ outside (a ∷ cs) bs
    there h =
        let e = has_last bs a x in
        let f = fewer (has bs a) (same_name a x) in rw e omega (arith, h, f)

outside_last : (cs bs : List Name) (x : Name) → has bs x ≡ true → outside (cs ++ x ∷ []) bs ≡ outside cs bs
outside_last [] bs x h = rw h refl
outside_last (a ∷ cs) bs x h = ap (λ n. (if has bs a then 0 else 1) + n) (outside_last cs bs x h)

outside_none : (cs : List Name) → outside cs [] ≡ length cs
outside_none [] = refl
outside_none (a ∷ cs) = let h = outside_none cs in omega (arith, h)

length_last : (ns : List Name) (x : Name) → length (ns ++ x ∷ []) ≡ suc (length ns)
length_last [] x = refl
length_last (n ∷ ns) x = ap suc (length_last ns x)

abbrev Within : List Name → List Name → Type 0
Within cs bs = (y : Name) → has bs y ≡ true → has cs y ≡ true

within_put : (cs bs : List Name) (x : Name) → Within cs bs → Within (put cs x) (put bs x)
within_put cs bs x w y h =
    elim (true_or_false (has bs y)) [
      | inl e ↦ put_has cs y x ∙ or_first (has cs y) (same_name y x) (w y e)
      | inr e ↦ put_has cs y x ∙ or_true (has cs y) (same_name y x) (or_second (has bs y) (same_name y x) e (sym (put_has bs y x) ∙ h))
    ]

count_put : (cs bs : List Name) (x : Name) → Within cs bs → length bs + outside cs bs ≤ length cs → length (put bs x) + outside (put cs x) (put bs x) ≤ length (put cs x)
count_put cs bs x w l =
    elim (true_or_false (has bs x)) [
      | inl e ↦ let f = put_there bs x e in let g = put_there cs x (w x e) in rw (f, g) l
      | inr e ↦ elim (true_or_false (has cs x)) [
        | inl h ↦
            let f = put_new bs x e in
            let g = put_there cs x h in
            let n = length_last bs x in
            let o = outside_one cs bs x h e in rw (f, g) omega (arith, n, o, l)
        | inr h ↦
            let f = put_new bs x e in
            let g = put_new cs x h in
            let n = length_last bs x in
            let m = length_last cs x in
            let p : has (bs ++ x ∷ []) x ≡ true = has_last bs x x ∙ or_true (has bs x) (same_name x x) (name_itself x) in
            let q = outside_last cs (bs ++ x ∷ []) x p in
            let o = outside_less cs bs x in rw (f, g) omega (arith, n, m, q, o, l)
      ]
    ]

longer : (cs bs xs : List Name) → Within cs bs → length bs + outside cs bs ≤ length cs → length (puts bs xs) ≤ length (puts cs xs)
longer cs bs [] w l = omega (arith, l)
longer cs bs (x ∷ xs) w l = longer (put cs x) (put bs x) xs (within_put cs bs x w) (count_put cs bs x w l)

-- the names of a tree behind others are no fewer than its names
more_right : (ns : List Name) (t : Tree) → length (names_of t) ≤ length (puts ns (names_of t))
more_right ns t =
    let o = outside_none ns in
    let l = longer ns [] (names_of t) (λ y h. cc) (omega (arith, o)) in
    let e = ap length (split [] t) in omega (arith, l, e)

more_put : (ns : List Name) (x : Name) → length ns ≤ length (put ns x)
more_put ns x = by (has ns x)
  where
    by : (b : Truth) → length ns ≤ length (if b then ns else (ns ++ x ∷ []))
    by true = omega arith
    by false = let e = length_last ns x in omega (arith, e)

-- ---- the ids of names
pub name_id : (ts : List Tree) (i j : ℕ) (x n : Name) → IsDistinct ts → Has ts i → Has ts j → tree_at ts i ≡ Var x → tree_at ts j ≡ Var n → nat_eq i j ≡ same_name x n
name_id ts i j x n d h k e f =
    elim (true_or_false (nat_eq i j)) [
      | inl a ↦
          let same : i ≡ j = grind (arith, nat_tests) in
          a ∙ sym (ap (same_name x) (sym (var_name x n (sym e ∙ ap (tree_at ts) same ∙ f))) ∙ name_itself x)
      | inr a ↦ elim (true_or_false (same_name x n)) [
        | inl b ↦
            let same : i ≡ j = d i j h k (e ∙ ap Var (name_exact x n b) ∙ sym f) in
            absurd (apart i j a same)
        | inr b ↦ a ∙ sym b
      ]
    ]
  where
    var_name : (y m : Name) → Var y ≡ Var m → y ≡ m
    var_name y m q = cc

    apart : (a b : ℕ) → nat_eq a b ≡ false → a ≡ b → ⊥
    apart a b p q = grind (arith, nat_tests)

pub among_has : (ts : List Tree) (is : List ℕ) (ns : List Name) (i : ℕ) (x : Name) → IsDistinct ts → AreNames ts is ns → Has ts i → tree_at ts i ≡ Var x → is_among is i ≡ has ns x
among_has ts [] [] i x d a h e = refl
among_has ts [] (n ∷ ns) i x d a h e = absurd a
among_has ts (j ∷ is) [] i x d a h e = absurd a
among_has ts (j ∷ is) (n ∷ ns) i x d a h e = λ k. name_id ts i j x n d h a.0 e a.1 k || among_has ts is ns i x d a.2 h e k

pub names_count : (ts : List Tree) (is : List ℕ) (ns : List Name) → AreNames ts is ns → length is ≡ length ns
names_count ts [] [] a = refl
names_count ts [] (n ∷ ns) a = absurd a
names_count ts (j ∷ is) [] a = absurd a
names_count ts (j ∷ is) (n ∷ ns) a = ap suc (names_count ts is ns a.2)

names_last : (ts : List Tree) (is : List ℕ) (ns : List Name) (i : ℕ) (x : Name) → AreNames ts is ns → Has ts i → tree_at ts i ≡ Var x → AreNames ts (is ++ i ∷ []) (ns ++ x ∷ [])
names_last ts [] [] i x a h e = (h, e, tt)
names_last ts [] (n ∷ ns) i x a h e = absurd a
names_last ts (j ∷ is) [] i x a h e = absurd a
names_last ts (j ∷ is) (n ∷ ns) i x a h e = (a.0, a.1, names_last ts is ns i x a.2 h e)

-- ---- names put together
put_collects : (ts : List Tree) (is : List ℕ) (ns : List Name) (i : ℕ) (x : Name) → IsDistinct ts → nat_le (length ns) 5 ≡ true → AreNames ts is ns → Has ts i → tree_at ts i ≡ Var x → Collects ts true (put ns x) (put_id is i)
put_collects ts is ns i x d l a h e = by (has ns x) refl (among_has ts is ns i x d a h e)
  where
    last : (b : Truth) → nat_le (length is) 4 ≡ b → Collects ts true (ns ++ x ∷ []) (if b then Some (is ++ i ∷ []) else None)
    last true f =
        let m = length_last ns x in
        let c = names_count ts is ns a in
        let g : nat_le (length (ns ++ x ∷ [])) 5 ≡ true = grind (arith, nat_tests) in (g, names_last ts is ns i x a h e)
    last false f =
        let m = length_last ns x in
        let c = names_count ts is ns a in grind (arith, nat_tests)

    by : (b : Truth) → has ns x ≡ b → is_among is i ≡ has ns x → Collects ts true (put ns x) (put_id is i)
    by true p q = subst (λ c. Collects ts true (put ns x) (if c then Some is else (if nat_le (length is) 4 then Some (is ++ i ∷ []) else None))) (sym (q ∙ p))
        (subst (λ xs. Collects ts true xs (Some is)) (sym (put_there ns x p)) (l, a))
    by false p q = subst (λ c. Collects ts true (put ns x) (if c then Some is else (if nat_le (length is) 4 then Some (is ++ i ∷ []) else None))) (sym (q ∙ p))
        (subst (λ xs. Collects ts true xs (if nat_le (length is) 4 then Some (is ++ i ∷ []) else None)) (sym (put_new ns x p)) (last (nat_le (length is) 4) refl))

too_many : (m n : ℕ) → m ≤ n → nat_le m 5 ≡ false → nat_le n 5 ≡ false
too_many m n l h = grind (arith, nat_tests)

then_collects : (ts : List Tree) (o : Option (List ℕ)) (ns : List Name) (i : ℕ) (x : Name) → IsDistinct ts → Collects ts true ns o → Has ts i → tree_at ts i ≡ Var x → Collects ts true (put ns x) (then_put o i)
then_collects ts None ns i x d c h e = too_many (length ns) (length (put ns x)) (more_put ns x) c
then_collects ts (Some is) ns i x d c h e = put_collects ts is ns i x d c.0 c.1 h e

puts_collect : (ts : List Tree) (o : Option (List ℕ)) (ns : List Name) (js : List ℕ) (ms : List Name) → IsDistinct ts → Collects ts true ns o → AreNames ts js ms → Collects ts true (puts ns ms) (put_ids o js)
puts_collect ts o ns [] [] d c a = c
puts_collect ts o ns [] (m ∷ ms) d c a = absurd a
puts_collect ts o ns (j ∷ js) [] d c a = absurd a
puts_collect ts o ns (j ∷ js) (m ∷ ms) d c a = puts_collect ts (then_put o j) (put ns m) js ms d (then_collects ts o ns j m d c a.0 a.1) a.2

put_none : (js : List ℕ) → put_ids None js ≡ None
put_none [] = refl
put_none (j ∷ js) = put_none js

join_collects : (ts : List Tree) (o q : Option (List ℕ)) (p r : Truth) (ns : List Name) (t : Tree) → IsDistinct ts → Collects ts p ns o → Collects ts r (names_of t) q → Collects ts (p && r) (puts ns (names_of t)) (join o q)
join_collects ts o None false r ns t d c b = refl
join_collects ts o None true false ns t d c b = refl
join_collects ts o None true true ns t d c b = too_many (length (names_of t)) (length (puts ns (names_of t))) (more_right ns t) b
join_collects ts o (Some js) p false ns t d c b = absurd (false_true b.0)
  where
    false_true : false ≡ true → ⊥
    false_true e = cc
join_collects ts None (Some js) false true ns t d c b = subst (λ y. Collects ts false (puts ns (names_of t)) y) (sym (put_none js)) refl
join_collects ts (Some is) (Some js) false true ns t d c b = absurd (false_true c.0)
  where
    false_true : false ≡ true → ⊥
    false_true e = cc
join_collects ts o (Some js) true true ns t d c b = puts_collect ts o ns js (names_of t) d c b.1

pub and_turn : (a : Truth) → (a && true) ≡ a
and_turn true = refl
and_turn false = refl

pub and_assoc : (a b c : Truth) → ((a && b) && c) ≡ (a && (b && c))
and_assoc true b c = refl
and_assoc false b c = refl

all_collect : (ts : List Tree) (o : Option (List ℕ)) (p : Truth) (ns : List Name) (us : Trees) (os : List (Option Few)) → IsDistinct ts → Collects ts p ns o → AllZip (IsFew ts) (listed us) os → Collects ts (p && are_propositional us) (all_names_onto ns us) (join_all o os)
all_collect ts o p ns none [] d c h = subst (λ b. Collects ts b ns o) (sym (and_turn p)) c
all_collect ts o p ns none (q ∷ os) d c h = absurd h
all_collect ts o p ns (more t us) [] d c h = absurd h
all_collect ts o p ns (more t us) (q ∷ os) d c h =
    let one = join_collects ts o (option_map ids_of q) p (is_propositional t) ns t d c h.0 in
    let two = subst (λ xs. Collects ts (p && is_propositional t) xs (join o (option_map ids_of q))) (sym (split ns t)) one in
    subst (λ b. Collects ts b (all_names_onto ns (more t us)) (join_all o (q ∷ os))) (and_assoc p (is_propositional t) (are_propositional us))
    (all_collect ts (join o (option_map ids_of q)) (p && is_propositional t) (names_onto ns t) us os d two h.1)

-- ---- a term from its children
-- no Int term by its kind
abbrev pub is_junction : Tree → Truth
is_junction True = true
is_junction False = true
is_junction (Iff t u) = true
is_junction (Not t) = true
is_junction (And ts) = true
is_junction (Or ts) = true
is_junction (Ite c t u) = true
is_junction _ = false

pub kids_propositional : (t : Tree) → is_junction t ≡ true → are_propositional (kids t) ≡ is_propositional t
kids_propositional True h = refl
kids_propositional False h = refl
kids_propositional (Iff t u) h = ap (λ b. is_propositional t && b) (and_turn (is_propositional u))
kids_propositional (Not t) h = and_turn (is_propositional t)
kids_propositional (And ts) h = refl
kids_propositional (Or ts) h = refl
kids_propositional (Ite c t u) h = ap (λ b. is_propositional c && (is_propositional t && b)) (and_turn (is_propositional u))
kids_propositional _ h = cc

kids_names : (t : Tree) → is_junction t ≡ true → all_names_onto [] (kids t) ≡ names_of t
kids_names True h = refl
kids_names False h = refl
kids_names (Iff t u) h = refl
kids_names (Not t) h = refl
kids_names (And ts) h = refl
kids_names (Or ts) h = refl
kids_names (Ite c t u) h = refl
kids_names _ h = cc

pub of_kids : (ts : List Tree) (t : Tree) (os : List (Option Few)) (r : Option Few) → IsDistinct ts → is_junction t ≡ true → AllZip (IsFew ts) (listed (kids t)) os → option_map ids_of r ≡ join_all (Some []) os → IsFew ts t r
of_kids ts t os r d j h e =
    let all = all_collect ts (Some []) true [] (kids t) os d (refl, tt) h in
    let one = subst (λ b. Collects ts b (all_names_onto [] (kids t)) (join_all (Some []) os)) (kids_propositional t j) all in
    let two = subst (λ xs. Collects ts (is_propositional t) xs (join_all (Some []) os)) (kids_names t j) one in
    subst (Collects ts (is_propositional t) (names_of t)) (sym e) two

pub of_iff : (ts : List Tree) (t : Tree) (a b : Tree) (os : List (Option Few)) (r : Option Few) → IsDistinct ts → t ≡ Iff a b → AllZip (IsFew ts) (listed (kids t)) os → option_map ids_of r ≡ join_all (Some []) os → IsFew ts t r
of_iff ts t a b os r d e h q = of_kids ts t os r d (ap is_junction e) h q

pub of_not : (ts : List Tree) (t : Tree) (a : Tree) (os : List (Option Few)) (r : Option Few) → IsDistinct ts → t ≡ Not a → AllZip (IsFew ts) (listed (kids t)) os → option_map ids_of r ≡ join_all (Some []) os → IsFew ts t r
of_not ts t a os r d e h q = of_kids ts t os r d (ap is_junction e) h q

pub of_and : (ts : List Tree) (t : Tree) (us : Trees) (os : List (Option Few)) (r : Option Few) → IsDistinct ts → t ≡ And us → AllZip (IsFew ts) (listed (kids t)) os → option_map ids_of r ≡ join_all (Some []) os → IsFew ts t r
of_and ts t us os r d e h q = of_kids ts t os r d (ap is_junction e) h q

pub of_or : (ts : List Tree) (t : Tree) (us : Trees) (os : List (Option Few)) (r : Option Few) → IsDistinct ts → t ≡ Or us → AllZip (IsFew ts) (listed (kids t)) os → option_map ids_of r ≡ join_all (Some []) os → IsFew ts t r
of_or ts t us os r d e h q = of_kids ts t os r d (ap is_junction e) h q

pub of_ite : (ts : List Tree) (t : Tree) (c a b : Tree) (os : List (Option Few)) (r : Option Few) → IsDistinct ts → t ≡ Ite c a b → AllZip (IsFew ts) (listed (kids t)) os → option_map ids_of r ≡ join_all (Some []) os → IsFew ts t r
of_ite ts t c a b os r d e h q = of_kids ts t os r d (ap is_junction e) h q

pub of_name : (ts : List Tree) (i : ℕ) (x : Name) (r : Few) → Has ts i → tree_at ts i ≡ Var x → is_int x.sort ≡ false → ids_of r ≡ i ∷ [] → IsFew ts (tree_at ts i) (Some r)
of_name ts i x r h e s q =
    let one : Collects ts (is_propositional (Var x)) (names_of (Var x)) (Some (i ∷ [])) = (ap (λ b. not b && true) s, (h, e, tt)) in
    subst (λ t. Collects ts (is_propositional t) (names_of t) (Some (ids_of r))) (sym e) (subst (λ is. Collects ts (is_propositional (Var x)) (names_of (Var x)) (Some is)) (sym q) one)

pub of_int : (ts : List Tree) (t : Tree) → is_propositional t ≡ false → IsFew ts t None
of_int ts t h = ap (λ b. b && nat_le (length (names_of t)) 5) h

-- ---- the loop over children
few_at : (os : List (Option Few)) (k : ℕ) (o p : Option (List ℕ)) (q : Option Few) → k < length os → q ≡ get_or os k q → p ≡ join o (option_map ids_of q) → join_all o (drop k os) ≡ join_all p (drop (k + 1) os)
few_at os k o p q l e f = ap (join_all o) (drop_is os k q l e) ∙ ap (λ y. join_all y (drop (k + 1) os)) (sym f)

pub join_next : (os : List (Option Few)) (k : ℕ) (o p all : Option (List ℕ)) (q : Option Few) → k < length os → q ≡ get_or os k q → p ≡ join o (option_map ids_of q) → join_all o (drop k os) ≡ all → join_all p (drop (k + 1) os) ≡ all
join_next os k o p all q l e f h = sym (few_at os k o p q l e f) ∙ h

pub join_done : (os : List (Option Few)) (k : ℕ) (o all : Option (List ℕ)) → length os ≤ k → join_all o (drop k os) ≡ all → o ≡ all
join_done os k o all l h = sym (ap (join_all o) (drop_end os k l)) ∙ h
