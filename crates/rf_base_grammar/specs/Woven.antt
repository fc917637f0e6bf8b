-- What it means that a text is woven of items: it is their spellings in order, with lawful gaps between neighbours.
use Rattle.std.specs.Prelude.{ℕ, ◌≡◌, ◌+◌, ◌&&◌, ◌⊎◌, not, Bool, true, false, List, [], ◌∷◌, ◌++◌, replicate, codes, ⊤}
use Rattle.rf_base_grammar.specs.Characters.{is_delimiter, IsOneOf, BeginsWith}
use Rattle.rf_base_grammar.specs.Token.{Token, is_line_comment}
use Rattle.rf_base_grammar.specs.Spelled.{unquotes}
use Rattle.rf_base_grammar.specs.declared.kinds.Kind.{Kind}
use Rattle.rf_base_grammar.specs.declared.kinds.Kind.TheVariants.{Prefix, Dot, Atom, Here, Line, Lang}

-- the text begins with a character that is no delimiter
abbrev pub BeginsUndelimited : List ℕ → Type 0
BeginsUndelimited [] = ⊥
BeginsUndelimited (c ∷ after) = is_delimiter c ≡ false

-- next can't stand directly behind an item of the kind that is spelled so: behind an atom or a dot, what begins with no
-- delimiter; behind an unquote, what begins with @; and behind what needs a line end, anything
abbrev pub NeedsGap : Kind → List ℕ → List ℕ → Type 0
NeedsGap Atom spelling next = BeginsUndelimited next
NeedsGap Dot spelling next = BeginsUndelimited next
NeedsGap Prefix spelling next = IsOneOf unquotes spelling × BeginsWith (codes "@") next
NeedsGap Line spelling next = ⊤
NeedsGap Here spelling next = ⊤
NeedsGap Lang spelling next = ⊤
NeedsGap _ spelling next = ⊥

-- the gap between the neighbours a and b can't be empty
abbrev pub Needs : Token → Token → Type 0
Needs a b = NeedsGap a.kind a.spelling b.spelling

-- whether nothing may stand behind an item of the kind on its line
abbrev pub ends_line : Kind → Bool
ends_line Line = true
ends_line Here = true
ends_line Lang = true
ends_line _ = false

-- whether the item is a line comment that stands behind another item on its line
abbrev pub trails : Token → Bool
trails t = is_line_comment t.kind && not t.own_line

-- the gap is one space
abbrev pub IsOneSpace : List ℕ → Type 0
IsOneSpace gap = gap ≡ 32 ∷ []

-- the gap is this many line ends and then any number of spaces
abbrev pub EndsLines : ℕ → List ℕ → Type 0
EndsLines n gap = (spaces : ℕ) × (gap ≡ replicate n 10 ++ replicate spaces 32)

-- the gap is nothing, which the neighbours a and b must not need otherwise, or one space
abbrev pub KeepsLine : Token → Token → List ℕ → Type 0
KeepsLine a b gap = ((gap ≡ []) × (Needs a b → ⊥)) ⊎ IsOneSpace gap

-- b may stand on the line of a: b is no line comment and has no blank lines before it, and a doesn't end its line
abbrev pub MayShareLine : Token → Token → Type 0
MayShareLine a b = (is_line_comment b.kind ≡ false) × (b.blanks ≡ 0) × (ends_line a.kind ≡ false)

-- the gap may stand between the neighbours a and b: one space before a comment that trails; otherwise a line end more
-- than b has blank lines, and then spaces, or where they may share a line, nothing or one space
abbrev pub MayPart : Token → Token → List ℕ → Type 0
MayPart a b gap =
    ((trails b ≡ true) × IsOneSpace gap)
    ⊎ ((trails b ≡ false) × (EndsLines (b.blanks + 1) gap ⊎ (MayShareLine a b × KeepsLine a b gap)))

-- behind a the text goes on with a gap and an item, for each of these items, and ends in one line end
unfoldable pub WovenBehind : Token → List Token → List ℕ → Type 0
WovenBehind a [] text = text ≡ 10 ∷ []
WovenBehind a (b ∷ ts) text =
    (gap : List ℕ) × (rest : List ℕ) × (text ≡ gap ++ (b.spelling ++ rest)) × MayPart a b gap × WovenBehind b ts rest

-- the whole text is woven of these items; without items it is empty
abbrev pub Woven : List Token → List ℕ → Type 0
Woven [] text = text ≡ []
Woven (t ∷ ts) text = (rest : List ℕ) × (text ≡ t.spelling ++ rest) × WovenBehind t ts rest
