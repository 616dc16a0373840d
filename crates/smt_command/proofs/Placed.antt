-- Commands over a store as it grows.
use Rattle.std.proofs.Common.{◌≡◌, List, [], ◌∷◌, ◌++◌, map, All, refl, ap, ◌∙◌}
use Rattle.qterm.specs.declared.name.Sort.TheVariants as sort
use Rattle.qterm.specs.Tree.{Tree}
use Rattle.qterm.specs.Store.{Has, Extends}
use Rattle.qterm.proofs.Alls.{All-head, All-tail, All-weaker, All-push}
use Rattle.qterm.proofs.Fitting.{Has_extends, HasSort_extends}
use Rattle.smt_words.specs.declared.command.Command.{Command}
use Rattle.smt_words.specs.declared.command.Command.TheVariants as command
use Rattle.smt_words.specs.declared.command.Asked.{Asked}
use Rattle.smt_words.specs.declared.script.Placed.{Placed}
use Rattle.smt_words.specs.Command.{Assert, GetValue, AskedTree, PlacedTree, asked_tree, command_tree, placed_tree}
use Rattle.smt_command.specs.Given.{AreAsked, HasTerms}

-- a command that is in the store
abbrev pub IsPlacedIn : List Tree → Placed → Type 0
IsPlacedIn ts placed = HasTerms ts placed.command

-- asked terms stay in a store that grows
pub AreAsked_extends : (ts us : List Tree) (asked : List Asked) → Extends ts us → AreAsked ts asked → AreAsked us asked
AreAsked_extends ts us asked e h = All-weaker (λ (a : Asked). Has ts a.term) (λ (a : Asked). Has us a.term) asked (λ a p. Has_extends ts us a.term e p) h

-- and keep their trees
pub asked_extends : (ts us : List Tree) (asked : List Asked) → Extends ts us → AreAsked ts asked → map (asked_tree us) asked ≡ map (asked_tree ts) asked
asked_extends ts us [] e h = refl
asked_extends ts us (a ∷ asked) e h =
    let same = e.same a.term (All-head (λ (x : Asked). Has ts x.term) a asked h) in
    let first : asked_tree us a ≡ asked_tree ts a = ap (λ t. let x : AskedTree = record { term = t; start = a.start; end = a.end } in x) same in
    λ x. first x ∷ asked_extends ts us asked e (All-tail (λ (x : Asked). Has ts x.term) a asked h) x

-- one more asked term at the end
pub asked_push : (ts : List Tree) (asked : List Asked) (a : Asked) → map (asked_tree ts) (asked ++ a ∷ []) ≡ map (asked_tree ts) asked ++ asked_tree ts a ∷ []
asked_push ts [] a = refl
asked_push ts (b ∷ asked) a = ap (λ l. asked_tree ts b ∷ l) (asked_push ts asked a)

-- a command stays in a store that grows
pub HasTerms_extends : (ts us : List Tree) (c : Command) → Extends ts us → HasTerms ts c → HasTerms us c
HasTerms_extends ts us (command.Assert id) e h = HasSort_extends sort.Bool ts us id e h
HasTerms_extends ts us (command.GetValue asked) e h = AreAsked_extends ts us asked e h
HasTerms_extends ts us other e h = tt

-- and keeps its trees
pub command_tree_extends : (ts us : List Tree) (c : Command) → Extends ts us → HasTerms ts c → command_tree us c ≡ command_tree ts c
command_tree_extends ts us (command.Assert id) e h = ap Assert (e.same id h.0)
command_tree_extends ts us (command.GetValue asked) e h = ap GetValue (asked_extends ts us asked e h)
command_tree_extends ts us other e h = refl

-- with its place
placed_tree_extends : (ts us : List Tree) (p : Placed) → Extends ts us → IsPlacedIn ts p → placed_tree us p ≡ placed_tree ts p
placed_tree_extends ts us p e h = ap (λ c. let t : PlacedTree = record { command = c; place = p.place } in t) (command_tree_extends ts us p.command e h)

-- all commands keep their trees
pub placed_extends : (ts us : List Tree) (ps : List Placed) → Extends ts us → All (IsPlacedIn ts) ps → map (placed_tree us) ps ≡ map (placed_tree ts) ps
placed_extends ts us [] e h = refl
placed_extends ts us (p ∷ ps) e h =
    λ x. placed_tree_extends ts us p e (All-head (IsPlacedIn ts) p ps h) x ∷ placed_extends ts us ps e (All-tail (IsPlacedIn ts) p ps h) x

-- one more command at the end
map-push : (ts : List Tree) (ps : List Placed) (p : Placed) → map (placed_tree ts) (ps ++ p ∷ []) ≡ map (placed_tree ts) ps ++ placed_tree ts p ∷ []
map-push ts [] p = refl
map-push ts (q ∷ ps) p = ap (λ l. placed_tree ts q ∷ l) (map-push ts ps p)

-- the commands with one more, over a store that grew
pub placed_more : (ts us : List Tree) (ps : List Placed) (p : Placed) → Extends ts us → All (IsPlacedIn ts) ps → map (placed_tree us) (ps ++ p ∷ []) ≡ map (placed_tree ts) ps ++ placed_tree us p ∷ []
placed_more ts us ps p e h = map-push us ps p ∙ ap (λ l. l ++ placed_tree us p ∷ []) (placed_extends ts us ps e h)

-- and all of them are in the store
pub in_more : (ts us : List Tree) (ps : List Placed) (p : Placed) → Extends ts us → All (IsPlacedIn ts) ps → IsPlacedIn us p → All (IsPlacedIn us) (ps ++ p ∷ [])
in_more ts us ps p e h g = All-push (IsPlacedIn us) ps p (All-weaker (IsPlacedIn ts) (IsPlacedIn us) ps (λ q. HasTerms_extends ts us q.command e) h) g
