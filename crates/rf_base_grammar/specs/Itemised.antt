-- What it means that a text is these items with gaps around them.
use Rattle.std.specs.Prelude.{ℕ, ◌≡◌, ◌+◌, ◌-◌, ◌==◌, ◌&&◌, Bool, true, List, [], ◌∷◌, ◌++◌, count_by}
use Rattle.std.specs.List.{list_any}
use Rattle.rf_base_grammar.specs.Characters.{Each, is_white, byte_len}
use Rattle.rf_base_grammar.specs.Token.{Token, is_line_comment}
use Rattle.rf_base_grammar.specs.Spelled.{BeginsItem}
use Rattle.rf_base_grammar.specs.declared.kinds.Kind.{Kind}

-- a gap: white space alone
abbrev pub IsGap : List ℕ → Type 0
IsGap text = Each is_white text

-- how many line ends the gap holds
abbrev pub line_ends : List ℕ → ℕ
line_ends gap = count_by (λ c. c == 10) gap

-- whether an item begins its line: it is the first one, or the gap before it holds a line end
abbrev pub begins_line : List Kind → List ℕ → Bool
begins_line [] gap = true
begins_line (k ∷ before) gap = list_any (λ c. c == 10) gap

-- the text, whose first byte stands at the offset and which items of the kinds before lead to, begins with a gap and
-- this item, and goes on with what is behind it
pub record Begins (before : List Kind) (offset : ℕ) (text : List ℕ) (t : Token) (behind : List ℕ) : Type 0 where
  pub gap : List ℕ
  pub place : List ℕ
  pub text_is : text ≡ gap ++ place
  pub white : IsGap gap
  pub item : BeginsItem before place t.kind t.spelling behind
  pub start_is : t.start ≡ offset + byte_len gap
  -- the blank lines are the line ends of the gap less 1
  pub blanks_is : t.blanks ≡ line_ends gap - 1
  -- only a line comment is told whether it begins its line
  pub own_line_is : t.own_line ≡ (is_line_comment t.kind && begins_line before gap)

-- the text, whose first byte stands at the offset and which items of the kinds before lead to, the nearest first,
-- begins with these items and the gaps before them, and goes on with the rest
abbrev pub Leads : List Kind → ℕ → List ℕ → List Token → List ℕ → Type 0
Leads before offset text [] rest = text ≡ rest
Leads before offset text (t ∷ ts) rest =
    (behind : List ℕ) × Begins before offset text t behind
    × Leads (t.kind ∷ before) (t.start + byte_len t.spelling) behind ts rest

-- the whole text is these items with gaps around them
abbrev pub Itemised : List ℕ → List Token → Type 0
Itemised text ts = (rest : List ℕ) × Leads [] 0 text ts rest × IsGap rest

-- the offset just past the last of these items, or where they begin
abbrev pub end_of : ℕ → List Token → ℕ
end_of offset [] = offset
end_of offset (t ∷ ts) = end_of (t.start + byte_len t.spelling) ts

-- the kinds of these items and of those before, the nearest first
abbrev pub kinds_of : List Kind → List Token → List Kind
kinds_of before [] = before
kinds_of before (t ∷ ts) = kinds_of (t.kind ∷ before) ts
