-- What short lists of items come to.
use Rattle.std.proofs.Common.{◌≡◌, ℕ, true, false, cond, List, [], ◌∷◌, length, refl, ap}
use Rattle.std.specs.Prelude.{codes, map, nat_lt, None, Some}
use Rattle.rf_base_grammar.specs.Token.{Token}
use Rattle.rf_base_grammar.specs.declared.kinds.Bracket.TheVariants.{Round, Square}
use Rattle.rf_base_grammar.specs.declared.kinds.Kind.{Kind}
use Rattle.rf_base_grammar.specs.declared.kinds.Kind.TheVariants.{Opener, Closer, Prefix, Skip, Dot, Atom, Str, Here, Block, Line, Lang}
use Rattle.rf_base_tree.specs.Trees.{Leaf, Point, Comment, Prefixed, DatumComment, Listed, Empty, Then, tree_items, tree_depth, forest_depth, kind_at, spelling_at, start_at}
use Rattle.rf_base_tree.specs.Dots.{marks_of}
use Rattle.rf_base_tree.specs.Moves.{Goes, Halts, begin}
use Rattle.rf_base_tree.specs.Places.{Frame, InList}
use Rattle.rf_base_tree.specs.Slots.{Sort, Remark, Keyword, Dotted, Datum, Entry, sort_of, entries_of}
use Rattle.rf_base_tree.specs.Cut.{slot, slots_of}
use Rattle.rf_base_tree.specs.Size.{size_of}
use Rattle.rf_base_tree.specs.declared.refusals.TreeKind.TheVariants.{CloseWithout, CloseMismatch, OpenList, NothingAfter, BadDot, TooDeep}
use Rattle.rf_base_tree.proofs.TreeReading.{Good, Bad, verdict, reads}

abbrev token : Kind → List ℕ → Token
token kind spelling = record { kind = kind; start = 0; spelling = spelling; blanks = 0; own_line = false }

abbrev opener : Token
opener = token (Opener Round) (codes "(")

abbrev vector : Token
vector = token (Opener Round) (codes "#(")

abbrev close : Token
close = token (Closer Round) (codes ")")

abbrev square : Token
square = token (Closer Square) (codes "]")

abbrev atom : Token
atom = token Atom (codes "a")

abbrev dot : Token
dot = token Dot (codes ".")

abbrev tick : Token
tick = token Prefix (codes "'")

abbrev skip : Token
skip = token Skip (codes "#;")

abbrev comment : Token
comment = token Line (codes ";c")

-- a pair, dots around an operator, skips in one another, and a comment behind a prefix
trees : (verdict (opener ∷ atom ∷ dot ∷ atom ∷ close ∷ [])
    ≡ Good (Then (Listed 0 (Then (Leaf 1) (Then (Point 2) (Then (Leaf 3) Empty))) 4) Empty))
    × (verdict (opener ∷ atom ∷ dot ∷ atom ∷ dot ∷ atom ∷ atom ∷ close ∷ [])
    ≡ Good (Then (Listed 0
    (Then (Leaf 1) (Then (Point 2) (Then (Leaf 3) (Then (Point 4) (Then (Leaf 5) (Then (Leaf 6) Empty)))))) 7) Empty))
    × (verdict (skip ∷ skip ∷ atom ∷ atom ∷ atom ∷ [])
    ≡ Good (Then (DatumComment 0 (Then (DatumComment 1 Empty (Leaf 2)) Empty) (Leaf 3)) (Then (Leaf 4) Empty)))
    × (verdict (tick ∷ comment ∷ tick ∷ atom ∷ [])
    ≡ Good (Then (Prefixed 0 (Then (Comment 1) Empty) (Prefixed 2 Empty (Leaf 3))) Empty))
unfolding verdict reads marks_of
trees = (refl, refl, refl, refl)

-- a dot that is first, in a vector, or last; a third dot; two data behind one; one in the file, and behind a prefix
wrong_dots : (verdict (opener ∷ dot ∷ atom ∷ close ∷ []) ≡ Bad BadDot 1)
    × (verdict (vector ∷ atom ∷ dot ∷ atom ∷ close ∷ []) ≡ Bad BadDot 2)
    × (verdict (opener ∷ atom ∷ dot ∷ close ∷ []) ≡ Bad BadDot 3)
    × (verdict (opener ∷ atom ∷ dot ∷ atom ∷ dot ∷ atom ∷ dot ∷ atom ∷ close ∷ []) ≡ Bad BadDot 6)
    × (verdict (opener ∷ atom ∷ dot ∷ atom ∷ skip ∷ atom ∷ tick ∷ atom ∷ close ∷ []) ≡ Bad BadDot 6)
    × (verdict (dot ∷ []) ≡ Bad BadDot 0) × (verdict (opener ∷ atom ∷ tick ∷ dot ∷ close ∷ []) ≡ Bad BadDot 3)
unfolding verdict reads marks_of
wrong_dots = (refl, refl, refl, refl, refl, refl, refl)

-- nothing behind a prefix or a skip, before a closer and at the end
nothing_after : (verdict (opener ∷ tick ∷ close ∷ []) ≡ Bad NothingAfter 1)
    × (verdict (opener ∷ atom ∷ skip ∷ close ∷ []) ≡ Bad NothingAfter 2)
    × (verdict (opener ∷ tick ∷ skip ∷ []) ≡ Bad NothingAfter 2)
unfolding verdict reads marks_of
nothing_after = (refl, refl, refl)

-- a closer that isn't the opener's, one without an opener, and a list that is left open
wrong_brackets : (verdict (opener ∷ atom ∷ dot ∷ square ∷ []) ≡ Bad CloseMismatch 3)
    × (verdict (atom ∷ close ∷ []) ≡ Bad CloseWithout 1) × (verdict (opener ∷ opener ∷ atom ∷ []) ≡ Bad OpenList 1)
unfolding verdict reads marks_of
wrong_brackets = (refl, refl, refl)

-- an entry that holds a number
abbrev entry : Sort → ℕ → Entry ℕ
entry sort n = record { sort = sort; what = n }

abbrev keyword : ℕ → Entry ℕ
keyword n = entry Keyword n

abbrev dotted : ℕ → Entry ℕ
dotted n = entry Dotted n

abbrev datum : ℕ → Entry ℕ
datum n = entry Datum n

-- a comment behind an item on its line, and one that isn't
abbrev behind : ℕ → Entry ℕ
behind n = entry (Remark true) n

abbrev own : ℕ → Entry ℕ
own n = entry (Remark false) n

-- a key has the datum behind it; before another key, and at the end, it is a datum
keys : (slots_of true (datum 0 ∷ keyword 1 ∷ datum 2 ∷ datum 3 ∷ [])
    ≡ slot [] None (Some (datum 0)) None ∷ slot [] (Some (keyword 1)) (Some (datum 2)) None
    ∷ slot [] None (Some (datum 3)) None ∷ [])
    × (slots_of true (keyword 0 ∷ keyword 1 ∷ datum 2 ∷ [])
    ≡ slot [] None (Some (keyword 0)) None ∷ slot [] (Some (keyword 1)) (Some (datum 2)) None ∷ [])
    × (slots_of true (datum 0 ∷ keyword 1 ∷ [])
    ≡ slot [] None (Some (datum 0)) None ∷ slot [] None (Some (keyword 1)) None ∷ [])
unfolding slots_of
keys = (refl, refl, refl)

-- so has a dot
dots_as_keys : (slots_of true (datum 0 ∷ dotted 1 ∷ datum 2 ∷ [])
    ≡ slot [] None (Some (datum 0)) None ∷ slot [] (Some (dotted 1)) (Some (datum 2)) None ∷ [])
    × (slots_of true (datum 0 ∷ dotted 1 ∷ keyword 2 ∷ datum 3 ∷ [])
    ≡ slot [] None (Some (datum 0)) None ∷ slot [] None (Some (dotted 1)) None
    ∷ slot [] (Some (keyword 2)) (Some (datum 3)) None ∷ [])
unfolding slots_of
dots_as_keys = (refl, refl)

-- a comment behind a datum with a key, and behind a key; before a datum, and behind all of them; one alone trails
comments_in_slots : (slots_of true (keyword 0 ∷ datum 1 ∷ behind 2 ∷ datum 3 ∷ [])
    ≡ slot [] (Some (keyword 0)) (Some (datum 1)) (Some (behind 2)) ∷ slot [] None (Some (datum 3)) None ∷ [])
    × (slots_of true (keyword 0 ∷ behind 1 ∷ datum 2 ∷ [])
    ≡ slot [] None (Some (keyword 0)) (Some (behind 1)) ∷ slot [] None (Some (datum 2)) None ∷ [])
    × (slots_of true (behind 0 ∷ own 1 ∷ datum 2 ∷ own 3 ∷ behind 4 ∷ [])
    ≡ slot (behind 0 ∷ own 1 ∷ []) None (Some (datum 2)) None ∷ slot (own 3 ∷ behind 4 ∷ []) None None None ∷ [])
    × (slots_of true (datum 0 ∷ behind 1 ∷ behind 2 ∷ datum 3 ∷ [])
    ≡ slot [] None (Some (datum 0)) (Some (behind 1)) ∷ slot (behind 2 ∷ []) None (Some (datum 3)) None ∷ [])
unfolding slots_of
comments_in_slots = (refl, refl, refl, refl)

no_keys_in_the_file : (slots_of false (keyword 0 ∷ datum 1 ∷ [])
    ≡ slot [] None (Some (keyword 0)) None ∷ slot [] None (Some (datum 1)) None ∷ [])
unfolding slots_of
no_keys_in_the_file = refl

-- three items and a line end in one of them
size_of_a_list : size_of (opener ∷ token Str (34 ∷ 10 ∷ 34 ∷ []) ∷ close ∷ [])
    (tree_items (Listed 0 (Then (Leaf 1) Empty) 2)) ≡ 4
unfolding tree_items
size_of_a_list = refl

-- each kind of item that is a datum or a comment by itself
each_by_itself : verdict (atom ∷ token Str [] ∷ token Here [] ∷ token Lang [] ∷ token Block [] ∷ comment ∷ [])
    ≡ Good (Then (Leaf 0) (Then (Leaf 1) (Then (Leaf 2) (Then (Leaf 3) (Then (Comment 4) (Then (Comment 5) Empty))))))
unfolding verdict reads marks_of
each_by_itself = refl

-- 500 lists, prefixes and skips may be begun and not complete, and no more
one_of_500 : (frames : List Frame) → length frames ≡ 499 →
    begin (InList Empty 7) 7 frames ≡ Goes (InList Empty 7 ∷ frames) Empty
one_of_500 frames is = ap (λ (n : ℕ). cond (nat_lt n 500) (Goes (InList Empty 7 ∷ frames) Empty) (Halts TooDeep 7)) is

one_more : (frames : List Frame) → length frames ≡ 500 → begin (InList Empty 7) 7 frames ≡ Halts TooDeep 7
one_more frames is = ap (λ (n : ℕ). cond (nat_lt n 500) (Goes (InList Empty 7 ∷ frames) Empty) (Halts TooDeep 7)) is

-- a list, a prefix and a skip stand in one another, and what stands before a datum is as deep as the datum
three_deep : forest_depth (Then (Leaf 0)
    (Then (Listed 1 (Then (Prefixed 2 Empty (DatumComment 3 Empty (Leaf 4))) (Then (Leaf 5) Empty)) 6) Empty)) ≡ 3
unfolding forest_depth tree_depth
three_deep = refl

deep_before_datum : tree_depth (Prefixed 0 (Then (DatumComment 1 Empty (Leaf 2)) Empty) (Leaf 3)) ≡ 2
unfolding tree_depth forest_depth
deep_before_datum = refl

-- items by their numbers
abbrev two_items : List Token
two_items = record { kind = Atom; start = 3; spelling = codes "a"; blanks = 0; own_line = false } ∷ record {
  kind = Dot;
  start = 9;
  spelling = codes ".";
  blanks = 0;
  own_line = false;
} ∷ []

second_item : (kind_at two_items 1 ≡ Some Dot) × (spelling_at two_items 1 ≡ codes ".") × (start_at two_items 1 ≡ 9)
second_item = (refl, refl, refl)

no_third_item : (kind_at two_items 2 ≡ None) × (spelling_at two_items 2 ≡ []) × (start_at two_items 2 ≡ 0)
no_third_item = (refl, refl, refl)

-- the sorts of entries: a keyword is an atom that begins so; a comment trails or has a line of its own, and one of a
-- datum never trails; and what is quoted is a datum
abbrev sorted : List Token
sorted =
    atom ∷ token Atom (codes "#:k") ∷ token Str (codes "#:k") ∷ dot ∷ comment
    ∷ record { kind = Line; start = 0; spelling = codes ";c"; blanks = 0; own_line = true } ∷ token Block []
    ∷ token Atom (codes "#t") ∷ []

sorts_of_items : map (sort_of sorted) (Leaf 0 ∷ Leaf 1 ∷ Leaf 2 ∷ Point 3 ∷ Comment 4 ∷ Comment 5 ∷ Comment 6 ∷ Leaf 7
    ∷ [])
    ≡ Datum ∷ Keyword ∷ Datum ∷ Dotted ∷ Remark true ∷ Remark false ∷ Remark false ∷ Datum ∷ []
sorts_of_items = refl

sorts_of_more : map (sort_of sorted) (Prefixed 0 Empty (Leaf 1) ∷ DatumComment 4 Empty (Leaf 1) ∷ Listed 1 Empty 2 ∷ [])
    ≡ Datum ∷ Remark false ∷ Datum ∷ []
sorts_of_more = refl

entries_in_order : entries_of sorted (Then (Leaf 1) (Then (Point 3) Empty))
    ≡ record { sort = Keyword; what = Leaf 1 } ∷ record { sort = Dotted; what = Point 3 } ∷ []
entries_in_order = refl
