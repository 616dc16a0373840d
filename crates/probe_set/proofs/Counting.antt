-- Measures over the subterms that were found are those over all subterms.
use Rattle.std.proofs.Common.{◌≡◌, ℕ, List, length, map, Contains, All, get_or, sym, subst, ◌∙◌}
use Rattle.std.specs.List.{list_all, filter}
use Rattle.std.proofs.lemmas.List.Elements.{Contains-get_or}
use Rattle.qterm.specs.Tree.{Tree, sort_of}
use Rattle.qterm.specs.Store.{trees_of, Has, IsDistinct}
use Rattle.qterm.proofs.KidsLaws.{length-trees_of}
use Rattle.qwalk.specs.Subterms.{subterms_of}
use Rattle.qwalk.proofs.Finding.{trees_of-Contains, IsDistinct-trees_of}
use Rattle.qwalk.specs.Seen.{AreSubterms}
use Rattle.probe_set.specs.Measures.{num_exprs, num_consts, is_name, is_bool, is_propositional, each_int, are_there, are_01, is_bounded, is_01, bits_at, greatest, max_bits}
use Rattle.probe_set.proofs.Alike.{Within, list_all-alike, greatest-alike, length-alike, filter-within, filter-apart}

found_within : (ts : List Tree) (roots ks : List ℕ) → AreSubterms ts roots ks → Within (trees_of ts ks) (subterms_of (trees_of ts roots))
found_within ts roots ks f s h = let q = trees_of-Contains ts ks s h in subst (Contains (subterms_of (trees_of ts roots))) q.2 (f.within q.0 q.1)

found_apart : (ts : List Tree) (roots ks : List ℕ) → IsDistinct ts → AreSubterms ts roots ks → IsDistinct (trees_of ts ks)
found_apart ts roots ks d f = IsDistinct-trees_of ts ks d f.has f.apart

pub found_has : (ts : List Tree) (roots ks us : List ℕ) → us ≡ ks → AreSubterms ts roots ks → All (Has ts) us
found_has ts roots ks us e f = subst (All (Has ts)) (sym e) (λ k d l. f.has (get_or ks k d) (Contains-get_or ks k d l))

pub exprs_found : (ts : List Tree) (roots ks : List ℕ) → IsDistinct ts → AreSubterms ts roots ks → length ks ≡ num_exprs (trees_of ts roots)
unfolding num_exprs
exprs_found ts roots ks d f = sym (length-trees_of ts ks) ∙ length-alike (trees_of ts ks) (subterms_of (trees_of ts roots)) (found_apart ts roots ks d f) (found_within ts roots ks f) f.complete

pub consts_found : (ts : List Tree) (roots ks : List ℕ) → IsDistinct ts → AreSubterms ts roots ks → length (filter is_name (trees_of ts ks)) ≡ num_consts (trees_of ts roots)
unfolding num_consts
consts_found ts roots ks d f =
    let all = subterms_of (trees_of ts roots) in
    length-alike (filter is_name (trees_of ts ks)) (filter is_name all) (filter-apart is_name (trees_of ts ks) (found_apart ts roots ks d f)) (filter-within is_name (trees_of ts ks) all (found_within ts roots ks f))
    (filter-within is_name all (trees_of ts ks) f.complete)

pub propositional_found : (ts : List Tree) (roots ks : List ℕ) → AreSubterms ts roots ks → list_all (λ t. is_bool (sort_of t)) (trees_of ts ks) ≡ is_propositional (trees_of ts roots)
unfolding is_propositional
propositional_found ts roots ks f = list_all-alike (λ t. is_bool (sort_of t)) (trees_of ts ks) (subterms_of (trees_of ts roots)) (found_within ts roots ks f) f.complete

pub bounded_found : (ts : List Tree) (roots ks : List ℕ) → AreSubterms ts roots ks → list_all (each_int are_there (trees_of ts roots)) (trees_of ts ks) ≡ is_bounded (trees_of ts roots)
unfolding is_bounded
bounded_found ts roots ks f = list_all-alike (each_int are_there (trees_of ts roots)) (trees_of ts ks) (subterms_of (trees_of ts roots)) (found_within ts roots ks f) f.complete

pub from_0_to_1_found : (ts : List Tree) (roots ks : List ℕ) → AreSubterms ts roots ks → list_all (each_int are_01 (trees_of ts roots)) (trees_of ts ks) ≡ is_01 (trees_of ts roots)
unfolding is_01
from_0_to_1_found ts roots ks f = list_all-alike (each_int are_01 (trees_of ts roots)) (trees_of ts ks) (subterms_of (trees_of ts roots)) (found_within ts roots ks f) f.complete

pub bits_found : (ts : List Tree) (roots ks : List ℕ) → AreSubterms ts roots ks → greatest (map (bits_at (trees_of ts roots)) (trees_of ts ks)) ≡ max_bits (trees_of ts roots)
unfolding max_bits
bits_found ts roots ks f = greatest-alike (bits_at (trees_of ts roots)) (trees_of ts ks) (subterms_of (trees_of ts roots)) (found_within ts roots ks f) f.complete
