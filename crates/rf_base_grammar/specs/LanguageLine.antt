-- The language line: #lang, a language's name, and one module path (the Racket Reference, "Reading via an Extension").
use Rattle.std.specs.Prelude.{ℕ, ◌≡◌, ◌≢◌, ◌==◌, ◌||◌, ◌⊎◌, not, Bool, List, [], ◌∷◌, ◌++◌, codes}
use Rattle.std.specs.List.{list_any}
use Rattle.std.specs.Char.{is_ascii_alphanumeric}
use Rattle.rf_base_grammar.specs.Characters.{Each, BeginsWith, EndsWith, IsOneOf}
use Rattle.rf_base_grammar.specs.Comments.{breaks_line, EndsLine}

-- a character of a name: an ASCII letter, an ASCII digit, + - _ or /
abbrev pub is_name_mark : ℕ → Bool
is_name_mark c = is_ascii_alphanumeric c || list_any (λ mark. c == mark) (43 ∷ 45 ∷ 95 ∷ 47 ∷ [])

-- a language's name: such characters, at least one, of which neither the first nor the last is a slash
abbrev pub IsName : List ℕ → Type 0
IsName name =
    (name ≢ []) × Each is_name_mark name × (BeginsWith (codes "/") name → ⊥) × (EndsWith (codes "/") name → ⊥)

-- a space or a tab
abbrev pub is_blank : ℕ → Bool
is_blank c = c == 32 || c == 9

-- a character of a module path: one of a name, or the dot
abbrev pub is_path_mark : ℕ → Bool
is_path_mark c = is_name_mark c || c == 46

-- a character of a module path between quotes: no quote, no backslash, and nothing that breaks a line
abbrev pub is_quoted_path_mark : ℕ → Bool
is_quoted_path_mark c = not (c == 34 || c == 92 || breaks_line c)

-- a module path
abbrev pub IsModulePath : List ℕ → Type 0
IsModulePath path =
    ((path ≢ []) × Each is_path_mark path)
    ⊎ ((inner : List ℕ) × (path ≡ codes "\"" ++ (inner ++ codes "\"")) × Each is_quoted_path_mark inner)

-- what may stand behind the name: nothing, or spaces and tabs and a module path
abbrev pub IsPathPart : List ℕ → Type 0
IsPathPart part =
    (part ≡ [])
    ⊎ ((blanks : List ℕ) × (path : List ℕ) × (part ≡ blanks ++ path) × (blanks ≢ []) × Each is_blank blanks
    × IsModulePath path)

-- a language line: #lang, one space, a name, and perhaps a module path
pub record IsLanguageLine (text name part : List ℕ) : Type 0 where
  pub text_is : text ≡ codes "#lang " ++ (name ++ part)
  pub name_is : IsName name
  pub part_is : IsPathPart part

-- the languages whose readers aren't Racket's plain one
abbrev pub IsOtherReader : List ℕ → Type 0
IsOtherReader name =
    IsOneOf (codes "at-exp" ∷ codes "datalog" ∷ codes "rhombus" ∷ []) name
    ⊎ BeginsWith (codes "rhombus/") name ⊎ BeginsWith (codes "scribble/") name

-- behind a language line whose module path is this part stand spaces and tabs, and then the end, a line end, or a line
-- comment, which has a space or a tab before it where there is no module path
abbrev pub EndsLanguageLine : List ℕ → List ℕ → Type 0
EndsLanguageLine part text =
    (blanks : List ℕ) × (rest : List ℕ) × (text ≡ blanks ++ rest) × Each is_blank blanks
    × (EndsLine rest ⊎ (BeginsWith (codes ";") rest × (part ≡ [] → blanks ≢ [])))
