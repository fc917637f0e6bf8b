-- Worked examples of what is told of documents: a definition that changes its meaning fails here.
use Rattle.std.proofs.Common.{List, ◌≡◌, ℕ, ◌+◌, true, false, [], ◌∷◌, Some, None, inr, refl, codes}
use Rattle.std.specs.Borrow.{Bor}
use Rattle.std.specs.Str.{chars}
use Rattle.rf_base_document.specs.Document as doc
use Rattle.rf_base_document.specs.Document.{Doc, plain_text}
use Rattle.rf_base_document.specs.Simple.{simple}
use Rattle.rf_base_document.specs.Graph.{NewlineNode, AlignNode, unfolded, unfolded_to}
use Rattle.rf_base_cut.specs.Documents.{flat_length_in}
use Rattle.rf_base_cut.specs.DocumentLines.{OneLineIn}
use Rattle.rf_doc.specs.declared.nodes.NodeId.{NodeId}
use Rattle.rf_frontier.specs.declared.hows.HowId.{HowId}
use Rattle.rf_outline.specs.declared.documents.Part.TheVariants as part
use Rattle.rf_outline.specs.declared.documents.Leaf.TheVariants as leaf
use Rattle.rf_outline.specs.declared.documents.Span.TheVariants as span
use Rattle.rf_outline.specs.declared.facts.Line.TheVariants as line
use Rattle.rf_outline.specs.declared.facts.Known.{Known}
use Rattle.rf_outline.specs.Sequences.{Joined, One, Both, in_order, joined}
use Rattle.rf_outline.specs.Documents.{IsOpened, IsSplitOf, SpanHolds, LeafHolds}
use Rattle.rf_outline.specs.Outlined.{span_of, told_of, seen}

abbrev document : ℕ → Doc
document n = plain_text (codes "a")

-- the kinds of documents, and their parts in order
texts_open : (s : Bor (List ℕ)) → IsOpened document (doc.Text (chars s.now) 3) (part.Text s 3)
texts_open s = refl

parts_open : IsOpened document (doc.Nest 2 (plain_text (codes "a"))) (part.Nest 2 0)
    × IsOpened document (doc.Charge 7 (plain_text (codes "a"))) (part.Charge 7 0) × IsOpened document doc.Hard part.Hard
parts_open = (refl, refl, refl)

-- three documents one after another, concatenated in both ways
abbrev numbered : ℕ → Doc
numbered n = doc.Nest n doc.Hard

abbrev on_left : Joined
on_left = Both (Both (One (numbered 1)) (One (numbered 2))) (One (numbered 3))

abbrev on_right : Joined
on_right = Both (One (numbered 1)) (Both (One (numbered 2)) (One (numbered 3)))

orders_are : (in_order on_left ≡ numbered 1 ∷ numbered 2 ∷ numbered 3 ∷ []) × (in_order on_right ≡ in_order on_left)
unfolding in_order
orders_are = (refl, refl)

joined_are : (joined on_left ≡ doc.Concat (doc.Concat (numbered 1) (numbered 2)) (numbered 3))
    × (joined on_right ≡ doc.Concat (numbered 1) (doc.Concat (numbered 2) (numbered 3)))
unfolding joined
joined_are = (refl, refl)

-- the first of three parted from the others, and one that isn't parted
abbrev documents : ℕ → List Doc
documents n = numbered n ∷ numbered (n + 1) ∷ []

splits_are : IsSplitOf numbered documents (numbered 1 ∷ numbered 2 ∷ numbered 3 ∷ []) (joined on_left) (Some (1, 2)) × IsSplitOf numbered documents (numbered 1 ∷ []) (numbered 1) None
splits_are = (refl, refl)

-- a text is one line by no choice, and one text; a newline is one where flat
a_text : SpanHolds (plain_text (codes "ab")) false (span.Text 2) []
unfolding OneLineIn flat_length_in
a_text = ((refl, refl), refl)

not_longer : SpanHolds (plain_text (codes "ab")) false (span.Long 3) [] → ⊥
unfolding OneLineIn
not_longer h = cc

-- what is told by what is known: of a node that is flat, what is known where it is; where there is none, nothing
abbrev way : ℕ → HowId
way n = record { 0 = n }

abbrev known : Known
known =
    record {
      loose = record { line = line.Never; begins = true };
      flat = record { line = line.Long 4 (way 1); begins = false };
    }

told_are : (told_of (Some known) true ≡ record { span = span.Long 4; begins = false })
    × (told_of (Some known) false ≡ record { span = span.Never; begins = true })
    × (told_of None true ≡ record { span = span.Unsure; begins = false })
told_are = (refl, refl, refl)

spans_are : (span_of (line.Text 3 (way 0)) ≡ span.Text 3) × (span_of line.Unsure ≡ span.Unsure) × (span_of line.Nothing ≡ span.Nothing)
spans_are = (refl, refl, refl)

-- a hard newline that is flat has no layout, and one that isn't has one
no_layout : SpanHolds doc.Hard true span.Nothing [] × (SpanHolds doc.Hard false span.Nothing [] → ⊥)
unfolding simple
no_layout = (refl, λ h. cc)

-- a leaf is a text without a choice or a line break that isn't flat
leaves_hold : LeafHolds (doc.Text [] 3) false (Some (leaf.Text 3)) × LeafHolds doc.Newline true (Some (leaf.Text 1))
    × LeafHolds doc.Hard false (Some leaf.Break) × (LeafHolds doc.Hard true (Some leaf.Break) → ⊥)
    × (LeafHolds (doc.Text [] 3) false (Some (leaf.Text 2)) → ⊥)
unfolding OneLineIn flat_length_in
leaves_hold = (((refl, refl), refl), ((refl, refl, refl), refl), (inr refl, refl), λ h. cc, λ h. cc)

-- a graph tells of each node what it unfolds to and what is known of it, and of an alignment its own number
abbrev node : ℕ → NodeId
node n = record { 0 = n }

seen_are : ((seen (NewlineNode ∷ AlignNode 0 ∷ []) []).number (node 1) ≡ Some 1)
    × ((seen (NewlineNode ∷ AlignNode 0 ∷ []) []).number (node 0) ≡ None)
    × ((seen (NewlineNode ∷ AlignNode 0 ∷ []) []).number (node 2) ≡ None)
    × ((seen (NewlineNode ∷ []) (known ∷ [])).told (node 0) true ≡ record { span = span.Long 4; begins = false })
    × ((seen (NewlineNode ∷ []) (known ∷ [])).document (node 0) ≡ doc.Newline)
unfolding unfolded unfolded_to
seen_are = (refl, refl, refl, refl, refl)
