-- Texts that are accepted by themselves, one behind the other.
use Rattle.std.proofs.Common.{◌≡◌, ◌≢◌, ℕ, inl, inr, Bool, true, false, List, [], ◌∷◌, ◌++◌, append_assoc, length, refl, sym, ◌∙◌, ap, subst}
use Rattle.std.proofs.lemmas.Bool.{false≢true}
use Rattle.std.specs.Str.{chars}
use Rattle.rf_base_grammar.specs.Characters.{byte_len, BeginsWith}
use Rattle.rf_base_grammar.specs.Itemised.{Leads}
use Rattle.rf_base_grammar.specs.Token.{Token}
use Rattle.rf_base_grammar.specs.Unreadable.{BeginsMark}
use Rattle.rf_base_grammar.proofs.OneReading.{item_begins}
use Rattle.rf_base_style.specs.Table.{StyleView}
use Rattle.rf_base_tree.specs.Trees.{Forest}
use Rattle.rf_base_tree.specs.Formed.{Treed}
use Rattle.rf_tree.specs.Next.{followed_by}
use Rattle.rf_tree.specs.declared.trees.Tree.{Tree as KeptTree}
use Rattle.rf_joins.specs.Moved.{all_moved, joined, HaveNoLanguage}
use Rattle.rf_joins.proofs.ItemsJoin.{items_joined}
use Rattle.rf_joins.proofs.TreesJoin.{trees_joined}
use Rattle.rf_whole.specs.Late.{EndsInItem, IsAcceptedAlone, IsAcceptedFront}
use Rattle.rf_whole.specs.Passages.{EndsOrFeeds, IsAcceptedBefore, IsTreeAlone, StandsSo}
use Rattle.rf_whole.specs.Whole.{IsSettled}
use Rattle.rf_whole.proofs.TreesAlone.{nothing_left}

-- with some tokens before them, others are some
some_behind : (n : ℕ) (us vs : List Token) → us ≢ [] → joined n us vs ≢ []
some_behind n [] vs some = absurd (some refl)
some_behind n (u ∷ us) vs some = λ e. cc

-- a text with an item isn't empty; where it begins another text, that begins with a line end only where it does
pub feeds_front : (a left rest : List ℕ) (ts : List Token) → ts ≢ [] → Leads [] 0 a ts rest →
    BeginsWith (10 ∷ []) (a ++ left) → BeginsWith (10 ∷ []) a
feeds_front a left rest [] some h l = absurd (some refl)
feeds_front [] left rest (t ∷ ts) some h l = absurd (nothing h.1.gap h.1.place h.1.text_is (item_begins [] h.1.place t.kind t.spelling h.0 h.1.item))
  where
    nothing : (gap place : List ℕ) → [] ≡ gap ++ place → BeginsMark place → ⊥
    nothing [] [] e m = m
    nothing [] (c ∷ place) e m = cc
    nothing (c ∷ gap) place e m = cc
feeds_front (c ∷ a) left rest (t ∷ ts) some h l = let same : c ≡ 10 = cc in (a, rw same refl)

-- what isn't at its end begins with a line end
pub fed : (text : List ℕ) → EndsOrFeeds text → text ≢ [] → BeginsWith (10 ∷ []) text
fed text (inl e) some = absurd (some e)
fed text (inr feeds) some = feeds

-- the items and the trees of two texts, one behind the other, are those of both
pub both_accepted : (a b rest : List ℕ) (us vs : List Token) (f g : Forest) → us ≢ [] → Leads [] 0 a us [] →
    Treed us f → BeginsWith (10 ∷ []) b → Leads [] 0 b vs rest → HaveNoLanguage vs → Treed vs g →
    (joined (byte_len a) us vs ≢ []) × Leads [] 0 (a ++ b) (joined (byte_len a) us vs) rest
    × Treed (joined (byte_len a) us vs) (followed_by f (all_moved (length us) g))
both_accepted a b rest us vs f g some one treed feeds two free others = (
  some_behind (byte_len a) us vs some,
  items_joined a b rest us vs some one feeds two free,
  trees_joined (byte_len a) us vs f g treed others,
)

-- the stretches so far, and the next one
pub next_accepted : (text rest left : List ℕ) → IsAcceptedFront true text rest → rest ≢ [] →
    IsAcceptedFront false rest left → IsAcceptedFront true text left
next_accepted text rest left h some k =
    let one = h.accepted in
    let two = k.accepted in
    let feeds = feeds_front k.front left [] two.tokens two.some two.leads
    (subst (λ (x : List ℕ). BeginsWith (10 ∷ []) x) k.text_is (fed rest h.feeds some)) in
    let both = both_accepted h.front k.front [] one.tokens two.tokens one.trees two.trees one.some one.leads one.treed
    feeds two.leads (two.begins refl) two.treed in
    record {
      front = h.front ++ k.front;
      text_is = h.text_is ∙ ap (λ (x : List ℕ). h.front ++ x) k.text_is ∙ sym (append_assoc h.front k.front left);
      feeds = k.feeds;
      accepted = record {
        tokens = joined (byte_len h.front) one.tokens two.tokens;
        trees = followed_by one.trees (all_moved (length one.tokens) two.trees);
        some = both.0;
        leads = both.1;
        treed = both.2;
        begins = λ e. absurd (false≢true (sym e));
      };
    }

-- what stands before a rest is accepted before it
pub accepted_before : (first : Bool) (text rest : List ℕ) → IsAcceptedFront first text rest → rest ≢ [] →
    IsAcceptedBefore text rest
accepted_before first text rest h some = (
  h.front,
  h.accepted.tokens,
  h.accepted.trees,
  h.text_is,
  fed rest h.feeds some,
  h.accepted.some,
  h.accepted.leads,
  h.accepted.treed,
)

-- the tree of a text that ends in an item, where others may stand before it
pub accepted_alone : (style : StyleView) (text : List ℕ) (tree : KeptTree) (first : Bool) →
    IsTreeAlone style text tree → StandsSo tree first true → EndsInItem tree → IsAcceptedAlone first (chars text)
accepted_alone style text tree first alone stands ends =
    let ts = alone.1.0 in
    let trees = alone.1.1 in
    let settled = alone.1.2 in
    let leads = settled.itemised.1 in
    let here = subst (λ (t : List ℕ). IsSettled style tree (chars t) ts trees) (sym alone.0) settled in
    let lead = subst (λ (t : List ℕ). Leads [] 0 (chars t) ts settled.itemised.0) (sym alone.0) leads in
    let found = stands style ts trees settled.itemised.0 here lead settled.itemised.2 in
    let none = nothing_left style tree ends.0 ts trees settled.itemised.0 ends.1 ends.2 here lead in
    record {
      tokens = ts;
      trees = trees;
      some = found.some;
      leads = subst (λ (r : List ℕ). Leads [] 0 (chars text) ts r) none leads;
      treed = settled.treed;
      begins = found.begins;
    }
