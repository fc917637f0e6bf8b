-- Items as they were settled have just the trees and the refusals that they have as they were read.
use Rattle.std.proofs.Common.{◌≡◌, ℕ, zero, suc, inl, inr, Bool, true, List, [], ◌∷◌, refl, sym, ◌∙◌}
use Rattle.rf_base_grammar.specs.Token.{Token, opens, settled, normal}
use Rattle.rf_base_tree.specs.Trees.{Forest, start_at}
use Rattle.rf_base_tree.specs.Dots.{Mark, marks_of}
use Rattle.rf_base_tree.specs.Formed.{Treed}
use Rattle.rf_base_tree.specs.Places.{Frame, InList, InPrefix, InSkip, before_of, becomes, MayHold, HasItsKind, IsLawful, IsPlace}
use Rattle.rf_base_tree.specs.Refusals.{NoDotHere, CannotGoOn, TreeRefused}
use Rattle.rf_base_tree.specs.declared.refusals.TreeKind.{TreeKind}
use Rattle.rf_base_tree.specs.declared.refusals.TreeKind.TheVariants.{CloseWithout, CloseMismatch, OpenList, NothingAfter, BadDot, TooDeep}
use Rattle.rf_base_tree.proofs.Alike.{Alike, alike-back, read_alike, passes_alike, begins_alike, forest_alike, Treed-alike}

-- settling leaves the offsets
start_at-settled : (bare : Bool) (most : ℕ) (ts : List Token) (n : ℕ) →
    start_at (settled bare most ts) n ≡ start_at ts n
start_at-settled bare most [] n = refl
start_at-settled bare most (t ∷ ts) zero = refl
start_at-settled bare most (t ∷ ts) (suc n) = start_at-settled (opens t.kind) most ts n

-- items as they were read have the trees that they have as they were settled
pub treed_read : (ts : List Token) (most : ℕ) (trees : Forest) → Treed (normal most ts) trees → Treed ts trees
treed_read ts most trees h = Treed-alike (normal most ts) ts trees (read_alike ts most) h

-- what was begun has its kind and may hold what it holds wherever the items are alike
kind_alike : (ts us : List Token) (f : Frame) → Alike ts us → HasItsKind ts f → HasItsKind us f
kind_alike ts us (InList before opener) a h = (h.0, a.kinds opener ∙ h.1)
kind_alike ts us (InPrefix before item) a h = a.kinds item ∙ h
kind_alike ts us (InSkip before item) a h = a.kinds item ∙ h

hold_alike : (ts us : List Token) (f : Frame) (here : Forest) (next : List Mark) → Alike ts us →
    MayHold ts f here next → MayHold us f here next
hold_alike ts us (InList before opener) here next a h = (h.0, λ b. h.1 (begins_alike ts us opener a b))
hold_alike ts us _ here next a h = h

-- a place is lawful wherever the items are alike
lawful_alike : (ts us : List Token) (frames : List Frame) (here : Forest) (next : List Mark) → Alike ts us →
    IsLawful ts frames here next → IsLawful us frames here next
lawful_alike ts us [] here next a h = (forest_alike ts us here a h.0, h.1, h.2)
lawful_alike ts us (f ∷ frames) here next a h = (
  lawful_alike ts us frames (before_of f) (becomes f) a h.0,
  kind_alike ts us f a h.1,
  forest_alike ts us here a h.2,
  hold_alike ts us f here next a h.3,
  h.4,
)

place_alike : (ts us : List Token) (n : ℕ) (frames : List Frame) (here : Forest) → Alike ts us →
    IsPlace ts n frames here → IsPlace us n frames here
place_alike ts us n frames here a h =
    record { items_are = h.items_are; lawful = lawful_alike ts us frames here [] a h.lawful }

-- no dot can stand where none can wherever the items are alike
dotless_alike : (ts us : List Token) (frames : List Frame) (marks : List Mark) → Alike ts us →
    NoDotHere ts frames marks → NoDotHere us frames marks
dotless_alike ts us (InList before opener ∷ frames) marks a (inl h) = inl (begins_alike us ts opener (alike-back ts us a) h)
dotless_alike ts us (InList before opener ∷ frames) marks a (inr h) = inr h
dotless_alike ts us _ marks a h = tt

-- an item can't go on where it can't wherever the items are alike
halts_alike : (ts us : List Token) (n : ℕ) (frames : List Frame) (here : Forest) (kind : TreeKind) (item : ℕ) →
    Alike ts us → CannotGoOn ts n frames here kind item → CannotGoOn us n frames here kind item
halts_alike ts us n frames here CloseWithout item a h = (h.0, passes_alike _ ts us n a h.1, h.2)
halts_alike ts us n frames here CloseMismatch item a (e, (opener, b, c, top, opened, closed, differ)) =
    (e, (opener, b, c, top, a.kinds opener ∙ opened, a.kinds n ∙ closed, differ))
halts_alike ts us n frames here OpenList item a h = (h.0 ∙ sym a.lengths, h.1)
halts_alike ts us n frames here NothingAfter item a (top, inl h) = (top, inl (passes_alike _ ts us n a h))
halts_alike ts us n frames here NothingAfter item a (top, inr h) = (top, inr (h ∙ sym a.lengths))
halts_alike ts us n frames here BadDot item a (e, inl (opener, top, dot, (b, opened, closed))) =
    (e, inl (opener, top, dot, (b, a.kinds opener ∙ opened, a.kinds n ∙ closed)))
halts_alike ts us n frames here BadDot item a (e, inr (inl h)) =
    (e, inr (inl (a.kinds n ∙ h.0, dotless_alike ts us frames (marks_of here) a h.1)))
halts_alike ts us n frames here BadDot item a (e, inr (inr h)) = (e, inr (inr (passes_alike _ ts us n a h.0, h.1)))
halts_alike ts us n frames here TooDeep item a h =
    (h.0, passes_alike _ ts us n a h.1, h.2, λ begun. h.3 (passes_alike _ us ts n (alike-back ts us a) begun))

-- items as they were read are refused where they are as they were settled
pub refused_read : (ts : List Token) (most : ℕ) (k : TreeKind) (offset : ℕ) →
    TreeRefused (normal most ts) k offset → TreeRefused ts k offset
refused_read ts most k offset h =
    let a : Alike (normal most ts) ts = read_alike ts most
    in record {
      n = h.n;
      frames = h.frames;
      here = h.here;
      place = place_alike (normal most ts) ts h.n h.frames h.here a h.place;
      item = h.item;
      halts = halts_alike (normal most ts) ts h.n h.frames h.here k h.item a h.halts;
      offset_is = h.offset_is ∙ start_at-settled true most ts h.item;
    }
