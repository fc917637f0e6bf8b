-- Nodes that name more are told as before, and the new one behind them.
use Rattle.std.proofs.Common.{◌≡◌, ℕ, ◌+◌, ◌-◌, ◌<◌, ◌≤◌, List, [], ◌∷◌, ◌++◌, length, take, drop, get_or, Option, Some, Result, Ok, Err, OnErr, slice_get, refl, ap, sym, ◌∙◌, arith}
use Rattle.std.specs.List.{All}
use Rattle.std.specs.Option.{option_map}
use Rattle.std.proofs.lemmas.List.{take-append-le, drop-append-le, drop_at, take_all, map_push, length-map}
use Rattle.std.proofs.lemmas.List.{length-append, length-drop}
use Rattle.std.proofs.lemmas.List.Elements.{All-head, All-tail, All-weaker, All-push, All-same}
use Rattle.std.proofs.lemmas.Option.{slice_get_read, slice_get-map}
use Rattle.rf_tree.specs.declared.nodes.At.{At}
use Rattle.rf_tree.specs.declared.stored.Part.{Part}
use Rattle.rf_tree.specs.declared.stored.Stored.{Stored}
use Rattle.rf_tree.specs.declared.stored.Stored.TheVariants.{Leaf, Prefixed, List as StoredList, Comment, DatumComment}
use Rattle.rf_tree.specs.Told.{Node, part_of, stored_node, stored_nodes, StandsIn, IsStoredAs, IsNamed, StandsBehind}

part_longer : (named more : List At) (p : Part) → p.from + p.count ≤ length named → part_of (named ++ more) p ≡ part_of named p
part_longer named more p within =
    ap (λ (l : List At). take (p.from + p.count - p.from) l) (drop-append-le p.from named more (omega arith))
    ∙ take-append-le (p.from + p.count - p.from) (drop p.from named) more (omega (arith, length-drop p.from named))

node_longer : (named more : List At) (s : Stored) → StandsIn (length named) s → stored_node (named ++ more) s ≡ stored_node named s
node_longer named more (Leaf item) at = refl
node_longer named more (Prefixed item lead inner) at = rw (part_longer named more lead at) refl
node_longer named more (StoredList opener entries closer) at = rw (part_longer named more entries at) refl
node_longer named more (Comment item) at = refl
node_longer named more (DatumComment item lead inner) at = rw (part_longer named more lead at) refl

stands_longer : (n m : ℕ) → n ≤ m → (s : Stored) → StandsIn n s → StandsIn m s
stands_longer n m le (Leaf item) at = tt
stands_longer n m le (Prefixed item lead inner) at = omega arith
stands_longer n m le (StoredList opener entries closer) at = omega arith
stands_longer n m le (Comment item) at = tt
stands_longer n m le (DatumComment item lead inner) at = omega arith

nodes_longer : (named more : List At) (ss : List Stored) → All (StandsIn (length named)) ss → stored_nodes (named ++ more) ss ≡ stored_nodes named ss
nodes_longer named more [] each = refl
nodes_longer named more (s ∷ ss) each =
    ap (λ (node : Node). node ∷ stored_nodes (named ++ more) ss) (node_longer named more s (All-head (StandsIn (length named)) s ss each))
    ∙ ap (λ (l : List Node). stored_node named s ∷ l) (nodes_longer named more ss (All-tail (StandsIn (length named)) s ss each))

-- where more are named, what is named before stands among them
pub each_longer : (old new : List At) (ss : List Stored) → StandsBehind old new → All (StandsIn (length old)) ss → All (StandsIn (length new)) ss
each_longer old new ss behind each =
    let more : length old ≤ length new = omega (arith, ap (λ (l : List At). length l) behind.1, length-append old behind.0) in
    All-weaker (StandsIn (length old)) (StandsIn (length new)) (stands_longer (length old) (length new) more) ss each

pub each_pushed : (old new : List At) (ss tt : List Stored) (s : Stored) (node : Node) → StandsBehind old new → tt ≡ ss ++ s ∷ [] → IsStoredAs node new s → All (StandsIn (length old)) ss → All (StandsIn (length new)) tt
each_pushed old new ss tt s node behind e is each =
    All-same (StandsIn (length new)) tt (ss ++ s ∷ []) e (All-push (StandsIn (length new)) ss s (each_longer old new ss behind each) is.within)

-- the nodes after one more is stored behind them
pub pushed : (old new : List At) (ss tt : List Stored) (s : Stored) (node : Node) (before : List Node) → StandsBehind old new → tt ≡ ss ++ s ∷ [] → IsStoredAs node new s → All (StandsIn (length old)) ss → stored_nodes old ss ≡ before → stored_nodes new tt ≡ before ++ node ∷ []
pushed old new ss tt s node before behind e is each view =
    let longer : stored_nodes new ss ≡ stored_nodes old ss = rw behind.1 (nodes_longer old behind.0 ss each) in
    ap (λ (l : List Stored). stored_nodes new l) e
    ∙ map_push (stored_node new) ss s
    ∙ ap (λ (l : List Node). l ++ stored_node new s ∷ []) (longer ∙ view)
    ∙ ap (λ (n : Node). before ++ n ∷ []) is.told

-- where more are named and none is stored, the nodes are as before
pub same_nodes : {T E : Type 0} (r : Result T E) (old new : List At) (ss tt : List Stored) (before : List Node) → StandsBehind old new → tt ≡ ss → All (StandsIn (length old)) ss →
    stored_nodes old ss ≡ before → OnErr r (stored_nodes new tt ≡ before)
same_nodes (Ok x) old new ss now before behind e each view = tt
same_nodes (Err x) old new ss now before behind e each view =
    let longer : stored_nodes new ss ≡ stored_nodes old ss = rw behind.1 (nodes_longer old behind.0 ss each) in
    ap (λ (l : List Stored). stored_nodes new l) e ∙ (longer ∙ view)

-- what was put behind the others is the part of all behind them
pub named_last : (old nodes new : List At) (p : Part) → new ≡ old ++ nodes → p.from ≡ length old → p.count ≡ length nodes → IsNamed nodes new p
named_last old nodes new p e from count =
    record {
      are =
          rw (e, from, count)
          (ap (λ (l : List At). take (length old + length nodes - length old) l) (drop_at old nodes (length old) refl)
          ∙ take_all (length old + length nodes - length old) nodes (omega arith));
      within = omega (arith, from, count, ap (λ (l : List At). length l) e, length-append old nodes);
    }

-- a stored node is told as it is seen
pub tells : (named : List At) (ss : List Stored) (nodes : List Node) (n : ℕ) (s : Stored) → stored_nodes named ss ≡ nodes → n < length nodes → s ≡ get_or ss n s → slice_get nodes n ≡ Some (stored_node named s)
tells named ss nodes n s view within found =
    let inside : n < length ss = omega (arith, ap (λ (l : List Node). length l) view, length-map ss (stored_node named)) in
    let there : slice_get ss n ≡ Some s = slice_get_read ss (length ss) n s refl inside found in
    ap (λ (l : List Node). slice_get l n) (sym view) ∙ slice_get-map (stored_node named) ss n
    ∙ ap (λ (o : Option Stored). option_map (stored_node named) o) there
