-- The first of documents one after another, and the others, however they are concatenated.
use Rattle.std.proofs.Common.{◌≡◌, ◌+◌, ◌<◌, Bool, List, [], ◌∷◌, ◌++◌, length, length-append, refl, sym, ◌∙◌, ap, ap₂, subst, arith}
use Rattle.rf_base_document.specs.Document.{Doc, Concat, IsDocument}
use Rattle.rf_base_optimum.specs.MostPieces.{most_pieces}
use Rattle.rf_base_cut.specs.Documents.{begins_in, first_begins_in}
use Rattle.rf_outline.specs.Sequences.{Joined, One, Both, in_order, joined, IsSequence}

-- the first document, and how the others are joined, of two joined parts
unfoldable pub leading : Joined → Doc
leading (One d) = d
leading (Both a b) = leading a

unfoldable pub left_over : Joined → Joined → Joined
left_over (One d) b = b
left_over (Both x y) b = Both (left_over x y) b

-- what both parts are
abbrev pub whole : Joined → Joined → Doc
whole a b = Concat (joined a) (joined b)

same_head : {A : Type 0} {x y : A} {xs ys : List A} → x ∷ xs ≡ y ∷ ys → x ≡ y
same_head e = cc

same_tail : {A : Type 0} {x y : A} {xs ys : List A} → x ∷ xs ≡ y ∷ ys → xs ≡ ys
same_tail e = cc

-- there is one at least
pub some_in_order : (t : Joined) → 0 < length (in_order t)
unfolding in_order
some_in_order (One d) = omega arith
some_in_order (Both a b) = omega (arith, length-append (in_order a) (in_order b), some_in_order a)

-- the documents in order are the first and then the others
pub leads : (a b : Joined) → in_order a ++ in_order b ≡ leading a ∷ in_order (left_over a b)
unfolding in_order leading left_over
leads (One d) b = refl
leads (Both x y) b = ap (λ (ds : List Doc). ds ++ in_order b) (leads x y)

pub leads_first : (a b : Joined) (d : Doc) (ds : List Doc) → in_order a ++ in_order b ≡ d ∷ ds → leading a ≡ d
leads_first a b d ds is = same_head (sym (leads a b) ∙ is)

pub leads_others : (a b : Joined) (d : Doc) (ds : List Doc) → in_order a ++ in_order b ≡ d ∷ ds → in_order (left_over a b) ≡ ds
leads_others a b d ds is = same_tail (sym (leads a b) ∙ is)

-- documents that are two at least are joined of two parts
pub are_both : (t : Joined) (d : Doc) (ds : List Doc) → in_order t ≡ d ∷ ds → 0 < length ds →
    (a : Joined) × (b : Joined) × (in_order a ++ in_order b ≡ d ∷ ds) × (joined t ≡ whole a b)
unfolding in_order joined
are_both (One e) d ds is some =
    let none : [] ≡ ds = same_tail is in
    absurd (omega (arith, some, ap (λ (l : List Doc). length l) none))
are_both (Both a b) d ds is some = (a, b, is, refl)

-- one document is itself
is_one : (t : Joined) (d : Doc) → in_order t ≡ d ∷ [] → joined t ≡ d
unfolding in_order joined
is_one (One e) d is = same_head is
is_one (Both a b) d is = absurd (omega (arith, ap (λ (l : List Doc). length l) is, length-append (in_order a) (in_order b), some_in_order a, some_in_order b))

-- two documents are joined in one way
pub are_two : (a b : Joined) (d e : Doc) → in_order a ++ in_order b ≡ d ∷ e ∷ [] → whole a b ≡ Concat d e
unfolding in_order joined
are_two (One c) b d e is = ap₂ Concat (same_head is) (is_one b e (same_tail is))
are_two (Both x y) b d e is =
    absurd (omega (arith, ap (λ (l : List Doc). length l) is, length-append (in_order x ++ in_order y) (in_order b), length-append (in_order x) (in_order y), some_in_order x, some_in_order y, some_in_order b))

-- they begin with a break where the first does
begins_before : (xs ys : List Doc) (flat : Bool) → 0 < length xs → first_begins_in (xs ++ ys) flat ≡ first_begins_in xs flat
begins_before [] ys flat some = absurd (omega (arith, some))
begins_before (x ∷ xs) ys flat some = refl

begins_first : (t : Joined) (flat : Bool) → begins_in (joined t) flat ≡ first_begins_in (in_order t) flat
unfolding in_order joined begins_in
begins_first (One d) flat = refl
begins_first (Both a b) flat = begins_first a flat ∙ sym (begins_before (in_order a) (in_order b) flat (some_in_order a))

pub begins_alike : (t : Joined) (ds : List Doc) (d : Doc) (flat : Bool) → in_order t ≡ ds → IsSequence ds d → begins_in (joined t) flat ≡ begins_in d flat
begins_alike t ds d flat is other =
    begins_first t flat ∙ ap (λ (l : List Doc). first_begins_in l flat) (is ∙ sym other.1) ∙ sym (begins_first other.0 flat)
    ∙ ap (λ (e : Doc). begins_in e flat) other.2

pub others_some : (ds : List Doc) (d : Doc) → IsSequence ds d → 0 < length ds
others_some ds d h = subst (λ (l : List Doc). 0 < length l) h.1 (some_in_order h.0)

-- pieces and limits
pub leads_pieces : (a b : Joined) → most_pieces (whole a b) ≡ most_pieces (leading a) + most_pieces (joined (left_over a b))
unfolding joined leading left_over most_pieces
leads_pieces (One d) b = refl
leads_pieces (Both x y) b =
    let inner : most_pieces (joined x) + most_pieces (joined y) ≡ most_pieces (leading x) + most_pieces (joined (left_over x y)) = leads_pieces x y in
    omega (arith, inner)

pub leads_documents : (a b : Joined) → IsDocument (whole a b) → IsDocument (leading a) × IsDocument (joined (left_over a b))
unfolding joined leading left_over IsDocument
leads_documents (One d) b h = h
leads_documents (Both x y) b h =
    let inner = leads_documents x y h.0 in
    (inner.0, (inner.1, h.1))
