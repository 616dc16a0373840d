-- A name that is replaced occurs in the formulas.
use Rattle.std.proofs.Common.{◌≡◌, ℤ, pos, negsuc, zero, suc, inl, inr, ◌⊎◌, Bool as Truth, true, false, List, [], ◌∷◌, ◌++◌, Option, Some, None, ap, subst, if◌then◌else◌}
use Rattle.std.specs.List.{Contains}
use Rattle.std.specs.declared.cmp.Ordering.{Ordering}
use Rattle.std.specs.declared.cmp.Ordering.TheVariants.{Less, Equal, Greater}
use Rattle.qterm.specs.declared.name.Name.{Name}
use Rattle.qterm.specs.Tree.{Tree}
use Rattle.qeval.specs.Bounds.{low_of}
use Rattle.qlin.specs.Order.{name_cmp, by_order}
use Rattle.qsubst.specs.Names.{names_in, names_of, insert_name, in_order}
use Rattle.qsubst.proofs.Members.{Member, Contains-from_Member, Member-map}
use Rattle.name_bounds.specs.Missing.{is_int}
use Rattle.shift_lists.specs.declared.shifting.Shift.{Shift}
use Rattle.shift_lists.specs.Shifts.{shift_by, shift_of, shifts_of, bases}

insert_from : (n m : Name) (ms : List Name) → Member n (insert_name m ms) → (n ≡ m) ⊎ Member n ms
insert_from n m [] h = h
insert_from n m (k ∷ ks) h = by (name_cmp m k) h (λ g. insert_from n m ks g)
  where
    by : (o : Ordering) → Member n (by_order o (m ∷ k ∷ ks) (k ∷ ks) (k ∷ insert_name m ks)) → (Member n (insert_name m ks) → (n ≡ m) ⊎ Member n ks) → (n ≡ m) ⊎ Member n (k ∷ ks)
    by Less g ih = g
    by Equal g ih = inr g
    by Greater g ih = elim g [ inl p ↦ inr (inl p) | inr q ↦ elim (ih q) [ inl r ↦ inl r | inr t ↦ inr (inr t) ] ]

order_from : (n : Name) (ns : List Name) → Member n (in_order ns) → Member n ns
order_from n [] h = absurd h
order_from n (m ∷ ms) h = elim (insert_from n m (in_order ms) h) [ inl p ↦ inl p | inr q ↦ inr (order_from n ms q) ]

shift_by_from : (x : Name) (low : Option ℤ) (p : Name × ℤ) → Member p (shift_by x low) → p.0 ≡ x
shift_by_from x None p h = absurd h
shift_by_from x (Some (pos zero)) p h = absurd h
shift_by_from x (Some (pos (suc k))) p h = elim h [ inl e ↦ ap (λ (q : Name × ℤ). q.0) e | inr g ↦ absurd g ]
shift_by_from x (Some (negsuc k)) p h = elim h [ inl e ↦ ap (λ (q : Name × ℤ). q.0) e | inr g ↦ absurd g ]

shift_from : (fs : List Tree) (x : Name) (p : Name × ℤ) → Member p (shift_of fs x) → p.0 ≡ x
shift_from fs x p h = by (is_int x.sort) h
  where
    by : (b : Truth) → Member p (if b then shift_by x (low_of x fs) else []) → p.0 ≡ x
    by true g = shift_by_from x (low_of x fs) p g
    by false g = absurd g

append_from : (p : Name × ℤ) (xs ys : List (Name × ℤ)) → Member p (xs ++ ys) → Member p xs ⊎ Member p ys
append_from p [] ys h = inr h
append_from p (x ∷ xs) ys (inl e) = inl (inl e)
append_from p (x ∷ xs) ys (inr h) = elim (append_from p xs ys h) [ inl a ↦ inl (inr a) | inr b ↦ inr b ]

shifts_from : (fs : List Tree) (xs : List Name) (p : Name × ℤ) → Member p (shifts_of fs xs) → Member p.0 xs
shifts_from fs [] p h = absurd h
shifts_from fs (x ∷ xs) p h = elim (append_from p (shift_of fs x) (shifts_of fs xs) h) [ inl a ↦ inl (shift_from fs x p a) | inr b ↦ inr (shifts_from fs xs p b) ]

-- a name that is replaced is one of the formulas
pub replaced_occurs : (fs : List Tree) (ss : List Shift) (r : Shift) → bases ss ≡ shifts_of fs (names_of fs) → Member r ss → Contains (names_in fs) r.name
unfolding names_of
replaced_occurs fs ss r e m =
    let there : Member (r.name, r.by) (bases ss) = Member-map {Y = Name × ℤ} (λ (s : Shift). (s.name, s.by)) r ss m in
    Contains-from_Member r.name (names_in fs) (order_from r.name (names_in fs) (shifts_from fs (names_of fs) (r.name, r.by) (subst (Member (r.name, r.by)) e there)))
